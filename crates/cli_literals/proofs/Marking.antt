-- One more row of Constant is looked at.
use Rattle.std.proofs.Common.{◌≡◌, ◌≢◌, ◌⊎◌, ◌∙◌, ℕ, zero, suc, ◌+◌, ◌*◌, ◌^◌, ◌<◌, ◌≤◌, Bool, true, false, Option, Some, None, List, [], ◌∷◌, length, cond, eqb, inl, inr, refl, sym, ap, subst, arith}
use Rattle.std.proofs.Math.ListN.{set, length-set}
use Rattle.std.proofs.Math.Dec.{ltb}
use Rattle.std.specs.Prelude.{◌==◌, ◌||◌}
use Rattle.std.specs.List.{slice_get}
use Rattle.std.proofs.lemmas.Bool.{cases_lt, lt-ltb, le-ltb, cond-true, cond-false, eqb-true}
use Rattle.std.proofs.lemmas.Bool.Decides.{nat_tests}
use Rattle.std.proofs.lemmas.Option.{slice_get_within}
use Rattle.dc_base.specs.declared.names.Token.{Token}
use Rattle.cli_metadata.specs.declared.tables.Table.TheVariants as tables
use Rattle.cli_metadata.specs.Metadata.{Contents, rows_of, coded_of}
use Rattle.cli_constants.specs.Noted.{place_in, place_of}
use Rattle.cli_constants.specs.Owned.{constant_at, field_token, IsConstantOf}
use Rattle.cli_literals.specs.Fails.{IsFloat, HasFloat}
use Rattle.cli_literals.specs.Marks.{float_place, marked_at, marked, IsMarkedTo, AreMarkedTo}

-- ---- places and tokens

place_there : (t j : ℕ) → place_in t ≡ Some j → t ≡ 0x04 * 2 ^ 24 + (j + 1)
place_there t j e = grind (arith, nat_tests)

place_back : (j : ℕ) → j + 1 < 2 ^ 24 → place_in (0x04 * 2 ^ 24 + (j + 1)) ≡ Some j
place_back j lt = grind (arith, nat_tests)

named : (p : Option Token) (j : ℕ) → place_of p ≡ Some j → p ≡ Some (field_token (j + 1))
named None j e = let none : None ≡ Some j = e in absurd cc
named (Some t) j e = ap (λ (n : ℕ). Some (record { 0 = n })) (place_there t.0 j e)

cond_some : (b : Bool) (o : Option ℕ) (j : ℕ) → cond b o None ≡ Some j → (b ≡ true) × (o ≡ Some j)
cond_some true o j h = (refl, h)
cond_some false o j h = let none : None ≡ Some j = h in absurd cc

one_or_other : (e : ℕ) → ((e == 0x0C) || (e == 0x0D)) ≡ true → IsFloat e
one_or_other e h = elim (eqb e 0x0C) as (λ b. eqb e 0x0C ≡ b → (b || (e == 0x0D)) ≡ true → IsFloat e) [
  | true ↦ λ is _. inl (eqb-true e 0x0C is)
  | false ↦ λ _ other. inr (eqb-true e 0x0D other)
] refl h

float_there : (e : ℕ) (p : Option Token) (j : ℕ) → float_place e p ≡ Some j → IsFloat e × (place_of p ≡ Some j)
float_there e p j at =
    let both = cond_some ((e == 0x0C) || (e == 0x0D)) (place_of p) j at in
    (one_or_other e both.0, both.1)

float_back : (e : ℕ) (p : Option Token) → IsFloat e → float_place e p ≡ place_of p
float_back e p (inl is) = subst (λ (x : ℕ). float_place x p ≡ place_of p) (sym is) refl
float_back e p (inr is) = subst (λ (x : ℕ). float_place x p ≡ place_of p) (sym is) refl

-- ---- items of lists

at_set : {X : Type 0} (xs : List X) (i : ℕ) (v : X) (j : ℕ) (y : X) → slice_get (set xs i v) j ≡ Some y → ((j ≡ i) × (y ≡ v)) ⊎ ((j ≢ i) × (slice_get xs j ≡ Some y))
at_set [] i v j y h = let k : None ≡ Some y = h in absurd cc
at_set (x ∷ xs) zero v zero y h = inl (refl, cc)
at_set (x ∷ xs) zero v (suc j) y h = inr ((λ e. omega arith), h)
at_set (x ∷ xs) (suc i) v zero y h = inr ((λ e. omega arith), h)
at_set (x ∷ xs) (suc i) v (suc j) y h =
    elim (at_set xs i v j y h) [
      | inl p ↦ inl (ap suc p.0, p.1)
      | inr p ↦ inr ((λ e. p.0 (omega arith)), p.1)
    ]

set_over : {X : Type 0} (xs : List X) (i : ℕ) (v : X) → length xs ≤ i → set xs i v ≡ xs
set_over [] i v le = refl
set_over (x ∷ xs) zero v le = absurd (omega arith)
set_over {X} (x ∷ xs) (suc i) v le = ap (λ (ys : List X). x ∷ ys) (set_over xs i v (omega arith))

marked_is_set : (q : ℕ) (xs : List Bool) → marked_at q xs ≡ set xs q true
marked_is_set q xs = elim (cases_lt q (length xs)) [
  | inl lt ↦ cond-true (ltb q (length xs)) (set xs q true) xs (lt-ltb q (length xs) lt)
  | inr le ↦ cond-false (ltb q (length xs)) (set xs q true) xs (le-ltb q (length xs) le) ∙ sym (set_over xs q true le)
]

-- ---- rows

module _ (m : Contents) (k : ℕ) (element : ℕ) (p : Option Token) (few : rows_of m tables.Field < 2 ^ 24) (high : k + 1 ≤ rows_of m tables.Constant) (its : element ≡ (constant_at m (k + 1)).element) (is : p ≡ coded_of (constant_at m (k + 1)).parent.kind (constant_at m (k + 1)).parent.cell) where
  -- it is the field's own where that is the one that it names
  mine : (j : ℕ) → float_place element p ≡ Some j → HasFloat m (j + 1)
  mine j at =
      let both = float_there element p j at in
      (k + 1, record { low = omega arith; high = high; parent = sym is ∙ named p j both.1 }, subst IsFloat its both.0)

  other : (j : ℕ) → j + 1 < 2 ^ 24 → float_place element p ≢ Some j → IsConstantOf m (j + 1) (k + 1) → IsFloat (constant_at m (k + 1)).element → ⊥
  other j small off own float =
      let e : p ≡ Some (field_token (j + 1)) = is ∙ own.parent in
      off (float_back element p (subst IsFloat (sym its) float) ∙ ap place_of e ∙ place_back j small)

  stays : (j : ℕ) (mark : Bool) → j + 1 < 2 ^ 24 → float_place element p ≢ Some j → IsMarkedTo m k (j + 1) mark → IsMarkedTo m (k + 1) (j + 1) mark
  stays j mark small off so = record {
    yes_ = so.yes_;
    all_ = λ r up own float. elim (cases_lt k r) [
      | inr le ↦ so.all_ r le own float
      | inl behind ↦
          let same : r ≡ k + 1 = omega (arith, up, behind) in
          absurd (other j small off (subst (λ (x : ℕ). IsConstantOf m (j + 1) x) same own) (subst (λ (x : ℕ). IsFloat (constant_at m x).element) same float))
    ];
  }

  pub one_more : (before after : List Bool) → after ≡ marked (float_place element p) before → AreMarkedTo m k before → AreMarkedTo m (k + 1) after
  one_more before after now so = elim (float_place element p) as (λ o. float_place element p ≡ o → after ≡ marked o before → AreMarkedTo m (k + 1) after) [
    | None ↦ λ none same. record {
      long = ap length same ∙ so.long;
      each = λ j mark at.
          let old : slice_get before j ≡ Some mark = subst (λ (xs : List Bool). slice_get xs j ≡ Some mark) same at in
          let lt = slice_get_within before j mark old in
          let long = so.long in
          stays j mark (omega (arith, lt, long, few)) (λ e. let no_place : None ≡ Some j = sym none ∙ e in cc) (so.each j mark old);
    }
    | Some q ↦ λ there same.
        let set_now : after ≡ set before q true = same ∙ marked_is_set q before in
        let len : length after ≡ length before = ap length set_now ∙ length-set before q true in
        record {
          long = len ∙ so.long;
          each = λ j mark at. elim (at_set before q true j mark (subst (λ (xs : List Bool). slice_get xs j ≡ Some mark) set_now at)) [
            | inl here ↦ record {
              yes_ = λ on. subst (λ (x : ℕ). HasFloat m (x + 1)) (sym here.0) (mine q there);
              all_ = λ r up own float. here.1;
            }
            | inr apart ↦
                let lt = slice_get_within before j mark apart.1 in
                let long = so.long in
                stays j mark (omega (arith, lt, long, few)) (λ e. let both : Some q ≡ Some j = sym there ∙ e in apart.0 cc) (so.each j mark apart.1)
          ];
        }
  ] refl now
