-- A walk out of a type, which collects the names on its way.
use Rattle.std.proofs.Common.{◌≡◌, ℕ, ◌+◌, ◌<◌, Option, Some, List, [], ◌∷◌, ◌++◌, length, map, fold, take, get_or, refl, None, sym, ◌∙◌, ap, subst, arith, append_assoc, append-nil}
use Rattle.std.specs.Borrow.{Bor}
use Rattle.std.specs.List.{slice_get}
use Rattle.dc_base.specs.declared.names.TypeId.{TypeId}
use Rattle.class_rows.specs.declared.row.TypeRow.{TypeRow}
use Rattle.class_rows.specs.Types.{IsOuter}
use Rattle.class_rows.specs.Names.{IsFullName, nested, at_top, dotted}
use Rattle.class_names.specs.Inner.{behind}
use Rattle.class_keys.proofs.Items.{one_item}
use Rattle.std.proofs.lemmas.Grind.{common_steps}

-- the name of the type that the walk began at is that of the type where it stands, and behind it the names on the way
pub record IsNameWalk (types : List TypeRow) (t at : ℕ) (inner : List (Bor (List ℕ))) : Type 0 where
  pub within : at < length types
  pub named : (name : List ℕ) → IsFullName types at name → IsFullName types t (name ++ behind (map (λ part. part.now) inner))

behind_push : (inner : List (Bor (List ℕ))) (part : Bor (List ℕ)) → behind (map (λ (p : Bor (List ℕ)). p.now) (inner ++ (part ∷ []))) ≡ (46 ∷ part.now) ++ behind (map (λ (p : Bor (List ℕ)). p.now) inner)
behind_push inner part = grind (arith, common_steps)

pub walk_begins : (types : List TypeRow) (t : ℕ) → t < length types → (inner : List (Bor (List ℕ))) → inner ≡ [] → IsNameWalk types t t inner
walk_begins types t within inner empty = record {
  within = within;
  named = λ name full. subst (λ (n : List ℕ). IsFullName types t n) (sym (ap (λ (xs : List (Bor (List ℕ))). name ++ behind (map (λ (p : Bor (List ℕ)). p.now) xs)) empty ∙ append-nil name)) full;
}

pub walk_goes_out : (types : List TypeRow) (t at o : ℕ) (row : TypeRow) (inner new : List (Bor (List ℕ))) (part : Bor (List ℕ)) → IsNameWalk types t at inner → slice_get types at ≡ Some row → IsOuter types at o → o < length types → part.now ≡ row.name → new ≡ inner ++ (part ∷ []) → IsNameWalk types t o new
walk_goes_out types t at o row inner new part walk stands outer there text pushed = record {
  within = there;
  named = λ name full.
      let same = one_item types at outer.row row outer.stands stands in
      let up : row.outer ≡ Some (record { 0 = o }) = sym (ap (λ (r : TypeRow). r.outer) same) ∙ outer.is in
      let whole = walk.named (name ++ (46 ∷ row.name)) (nested at o row name stands up full) in
      let parts : behind (map (λ (p : Bor (List ℕ)). p.now) new) ≡ (46 ∷ row.name) ++ behind (map (λ (p : Bor (List ℕ)). p.now) inner) =
      ap (λ (xs : List (Bor (List ℕ))). behind (map (λ (p : Bor (List ℕ)). p.now) xs)) pushed
      ∙ behind_push inner part
      ∙ ap (λ (n : List ℕ). (46 ∷ n) ++ behind (map (λ (p : Bor (List ℕ)). p.now) inner)) text in
      subst (λ (n : List ℕ). IsFullName types t n)
      (append_assoc name (46 ∷ row.name) (behind (map (λ (p : Bor (List ℕ)). p.now) inner)) ∙ sym (ap (λ (x : List ℕ). name ++ x) parts))
      whole;
}

pub walk_ends : (types : List TypeRow) (t at : ℕ) (row : TypeRow) (inner : List (Bor (List ℕ))) (name : List ℕ) → IsNameWalk types t at inner → slice_get types at ≡ Some row → row.outer ≡ None → name ≡ dotted row.space row.name ++ behind (map (λ (p : Bor (List ℕ)). p.now) inner) → IsFullName types t name
walk_ends types t at row inner name walk stands none is =
    subst (λ (n : List ℕ). IsFullName types t n) (sym is) (walk.named (dotted row.space row.name) (at_top at row stands none))

named_outer : (types : List TypeRow) (t : ℕ) (row : TypeRow) (o : Option TypeId) → slice_get types t ≡ Some row → row.outer ≡ o → ((n : ℕ) → IsOuter types t n → ⊥) → o ≡ None
named_outer types t row None stands is none = refl
named_outer types t row (Some o) stands is none = absurd (none o.0 (record { row = row; stands = stands; is = is }))

-- where no type stands round a type, its row names none
pub no_outer : (types : List TypeRow) (t : ℕ) (row : TypeRow) → slice_get types t ≡ Some row → ((n : ℕ) → IsOuter types t n → ⊥) → row.outer ≡ None
no_outer types t row stands none = named_outer types t row row.outer stands refl none
