-- The interfaces that a type names, as a table tells them: its own, and then those of the type that it goes on with.
use Rattle.std.proofs.Common.{◌≡◌, ◌⊎◌, ℕ, ◌<◌, Bool, true, false, Option, Some, None, List, ◌++◌, length, nat_eq, inl, inr, sym, refl, ap, subst, ◌∙◌}
use Rattle.std.specs.Prelude.{◌||◌}
use Rattle.std.specs.List.{slice_get}
use Rattle.std.proofs.lemmas.Bool.{eqb-true, eq-eqb}
use Rattle.std.proofs.lemmas.List.Folds.{list_any-append}
use Rattle.class_rows.specs.declared.row.TypeRow.{TypeRow}
use Rattle.class_rows.specs.Types.{IsNamed, NamesInterface, in_turn}
use Rattle.class_spread.specs.declared.spread.Spread.{Spread}
use Rattle.class_spread.specs.Spreads.{IsTold, ended, further, AreSpreads}
use Rattle.class_spread.specs.Filled.{Tells}
use Rattle.class_spread.proofs.Firsts.{has}
use Rattle.class_spread.proofs.Out.{out_to, out_back}
use Rattle.class_spread.proofs.Table.{told_by, told_here}
use Rattle.class_keys.proofs.Found.{found_in, any_at}

top_is : (table : List (Option Spread)) (s : Spread) (ys : List ℕ) → s.onward ≡ None → Tells table s ys → s.own ≡ ys
top_is table s ys top (inl here) = here.1
top_is table s ys top (inr on) = let e : None ≡ Some on.0 = sym top ∙ on.2 in absurd cc

link_is : (table : List (Option Spread)) (s : Spread) (b : ℕ) (rest ys : List ℕ) → s.onward ≡ Some b → ((zs : List ℕ) → IsTold table b zs → rest ≡ zs) → Tells table s ys → s.own ++ rest ≡ ys
link_is table s b rest ys link one (inl here) = let e : Some b ≡ None = sym link ∙ here.0 in absurd cc
link_is table s b rest ys link one (inr on) =
    let e : Some on.0 ≡ Some b = sym on.2 ∙ link in
    let same : on.0 ≡ b = cc in
    ap (λ (zs : List ℕ). s.own ++ zs) (one on.1 (subst (λ (n : ℕ). IsTold table n on.1) same on.3)) ∙ sym on.4

-- what is told of a type is one list
one_told : (table : List (Option Spread)) (t : ℕ) (xs ys : List ℕ) → IsTold table t xs → IsTold table t ys → xs ≡ ys
one_told table t xs ys (ended u s stands top) told = top_is table s ys top (told_here table t s ys stands told)
one_told table t xs ys (further u b s rest stands link first) told =
    link_is table s b rest ys link (λ zs more. one_told table b rest zs first more) (told_here table t s ys stands told)

or_cases : (a b : Bool) → (a || b) ≡ true → (a ≡ true) ⊎ (b ≡ true)
or_cases true b h = inl refl
or_cases false b h = inr h

pub has_index : (xs : List ℕ) (x : ℕ) → has x xs ≡ true → (k : ℕ) × (slice_get xs k ≡ Some x)
has_index xs x h =
    let f = found_in (nat_eq x) xs h in
    (f.index, f.stands ∙ ap Some (sym (eqb-true x f.item f.passes)))

pub index_has : (xs : List ℕ) (x k : ℕ) → slice_get xs k ≡ Some x → has x xs ≡ true
index_has xs x k at = any_at (nat_eq x) xs k x at (eq-eqb x x refl)

-- what stands among a type's own is named by it
pub own_named : (types : List TypeRow) (table : List (Option Spread)) (t i : ℕ) (s : Spread) → AreSpreads types table → t < length types → slice_get table t ≡ Some (Some s) → has i s.own ≡ true → NamesInterface types t i
own_named types table t i s spreads lt stands h =
    let r = spreads.right t lt in
    out_to types t r.named r.list r.are_named r.out i (among (told_here table t s r.list stands r.told))
  where
    among : Tells table s (spreads.right t lt).list → has i (spreads.right t lt).list ≡ true
    among (inl here) = subst (λ (xs : List ℕ). has i xs ≡ true) here.1 h
    among (inr on) = subst (λ (xs : List ℕ). has i xs ≡ true) (sym on.4) (list_any-append (nat_eq i) s.own on.1 ∙ rw h refl)

-- what a type names stands among its own, or is named by the type that it goes on with
pub named_next : (types : List TypeRow) (table : List (Option Spread)) (t i : ℕ) (s : Spread) → AreSpreads types table → ((u j : ℕ) → IsNamed types u j → j < length types) → t < length types → slice_get table t ≡ Some (Some s) → NamesInterface types t i → (has i s.own ≡ true) ⊎ ((b : ℕ) × (s.onward ≡ Some b) × NamesInterface types b i)
named_next types table t i s spreads there lt stands named =
    let r = spreads.right t lt in
    split (told_here table t s r.list stands r.told) (out_back types t r.named r.list r.are_named r.out i named)
  where
    split : Tells table s (spreads.right t lt).list → has i (spreads.right t lt).list ≡ true → (has i s.own ≡ true) ⊎ ((b : ℕ) × (s.onward ≡ Some b) × NamesInterface types b i)
    split (inl here) h = inl (subst (λ (xs : List ℕ). has i xs ≡ true) (sym here.1) h)
    split (inr on) h = elim (or_cases (has i s.own) (has i on.1) (sym (list_any-append (nat_eq i) s.own on.1) ∙ subst (λ (xs : List ℕ). has i xs ≡ true) on.4 h)) [
      | inl own ↦ inl own
      | inr rest ↦
          let r = spreads.right on.0 (there t on.0 (spreads.links t on.0 s stands on.2)) in
          let same = one_told table on.0 on.1 r.list on.3 r.told in
          inr (on.0, on.2, out_to types on.0 r.named r.list r.are_named r.out i (subst (λ (xs : List ℕ). has i xs ≡ true) same rest))
    ]

pub link_named : (types : List TypeRow) (table : List (Option Spread)) (t b i : ℕ) (s : Spread) → AreSpreads types table → slice_get table t ≡ Some (Some s) → s.onward ≡ Some b → NamesInterface types b i → NamesInterface types t i
link_named types table t b i s spreads stands link named = in_turn t b i (spreads.links t b s stands link) named

pub is_told : (types : List TypeRow) (table : List (Option Spread)) (t : ℕ) → AreSpreads types table → t < length types → (s : Spread) × (slice_get table t ≡ Some (Some s))
is_told types table t spreads lt =
    let r = spreads.right t lt in
    let by = told_by table t r.list r.told in
    (by.0, by.1)
