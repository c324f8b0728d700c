-- A type has one full name.
use Rattle.std.proofs.Common.{◌≡◌, ◌⊎◌, ℕ, ◌<◌, Option, Some, None, List, [], ◌∷◌, ◌++◌, length, refl, sym, ◌∙◌, ap, subst, inl, inr, arith}
use Rattle.std.specs.Prelude.{option_map}
use Rattle.std.specs.List.{slice_get}
use Rattle.dc_base.specs.declared.names.TypeId.{TypeId}
use Rattle.class_keys.proofs.Items.{one_item}
use Rattle.class_rows.specs.declared.row.TypeRow.{TypeRow}
use Rattle.class_rows.specs.Names.{IsFullName, at_top, nested, dotted}

-- how a type has its full name
record IsNamedSo (types : List TypeRow) (t : ℕ) (name : List ℕ) : Type 0 where
  row : TypeRow
  stands : slice_get types t ≡ Some row
  how : ((row.outer ≡ None) × (name ≡ dotted row.space row.name))
      ⊎ ((o : ℕ) × (up : List ℕ) × (row.outer ≡ Some (record { 0 = o })) × IsFullName types o up × (name ≡ up ++ (46 ∷ row.name)))

named_so : (types : List TypeRow) (t : ℕ) (name : List ℕ) → IsFullName types t name → IsNamedSo types t name
named_so types t name (at_top u row stands none) = record { row = row; stands = stands; how = inl (none, refl) }
named_so types t name (nested u o row up stands outer rest) = record { row = row; stands = stands; how = inr (o, up, outer, rest, refl) }

same_number : (b d : ℕ) → (let one : Option TypeId = Some (record { 0 = b }) in let other : Option TypeId = Some (record { 0 = d }) in one ≡ other) → b ≡ d
same_number b d h = let e : Some b ≡ Some d = ap (λ (o : Option TypeId). option_map (λ (t : TypeId). t.0) o) h in cc

top_name : (types : List TypeRow) (t : ℕ) (row : TypeRow) (b : List ℕ) → slice_get types t ≡ Some row → row.outer ≡ None → IsNamedSo types t b → dotted row.space row.name ≡ b
top_name types t row b stands none so =
    let e = one_item types t row so.row stands so.stands in
    elim so.how [
      | inl top ↦ ap (λ (r : TypeRow). dotted r.space r.name) e ∙ sym top.1
      | inr in_ ↦ let k = sym none ∙ ap (λ (r : TypeRow). r.outer) e ∙ in_.2 in absurd cc
    ]

nested_name : (types : List TypeRow) (t o : ℕ) (row : TypeRow) (up b : List ℕ) → slice_get types t ≡ Some row → row.outer ≡ Some (record { 0 = o }) → IsNamedSo types t b → ((c : List ℕ) → IsFullName types o c → up ≡ c) → up ++ (46 ∷ row.name) ≡ b
nested_name types t o row up b stands outer so one =
    let e = one_item types t row so.row stands so.stands in
    elim so.how [
      | inl top ↦ let k = sym top.0 ∙ sym (ap (λ (r : TypeRow). r.outer) e) ∙ outer in absurd cc
      | inr in_ ↦
          let n : in_.0 ≡ o = same_number in_.0 o (sym in_.2 ∙ sym (ap (λ (r : TypeRow). r.outer) e) ∙ outer) in
          let u = one in_.1 (subst (λ (k : ℕ). IsFullName types k in_.1) n in_.3) in
          ap (λ (x : List ℕ). x ++ (46 ∷ row.name)) u ∙ ap (λ (r : TypeRow). in_.1 ++ (46 ∷ r.name)) e ∙ sym in_.4
    ]

pub one_name : (types : List TypeRow) (t : ℕ) (a b : List ℕ) → IsFullName types t a → IsFullName types t b → a ≡ b
one_name types t a b (at_top u row stands none) q = top_name types u row b stands none (named_so types u b q)
one_name types t a b (nested u o row up stands outer rest) q =
    nested_name types u o row up b stands outer (named_so types u b q) (λ c r. one_name types o up c rest r)
