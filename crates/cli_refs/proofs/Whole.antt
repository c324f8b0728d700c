-- After a whole walk each reference is told.
use Rattle.std.proofs.Common.{◌≡◌, ◌<◌, ◌≤◌, ◌+◌, ℕ, Option, Some, None, List, length, true, false, eqb, inl, inr, refl, sym, ap, subst, ◌∙◌, arith}
use Rattle.std.proofs.lemmas.Bool.{cases_lt, eqb-true, eqb-false}
use Rattle.std.proofs.lemmas.Option.{slice_get_within}
use Rattle.std.specs.List.{slice_get}
use Rattle.dc_base.specs.declared.names.MemberId.{MemberId}
use Rattle.class_keys.proofs.Items.{one_item}
use Rattle.class_rows.specs.declared.row.TypeRow.{TypeRow}
use Rattle.class_rows.specs.declared.row.MemberRow.{MemberRow}
use Rattle.class_walk.specs.declared.walk.Step.{Step}
use Rattle.class_walk.specs.declared.walk.Step.TheVariants.{Enter, Leave}
use Rattle.class_walk.specs.Walk.{IsWholeWalk}
use Rattle.cli_refs.specs.declared.key.Sought.{Sought}
use Rattle.cli_refs.specs.declared.walked.Known.{Known}
use Rattle.cli_refs.specs.declared.walked.Progress.{Progress}
use Rattle.cli_refs.specs.Sought.{IsNearest, in_it, above, IsMemberMeant, AreMembersMeant}
use Rattle.cli_refs.specs.Asked.{Asks}
use Rattle.cli_refs.specs.At.{IsTold, AreAnswered, IsAt, IsStepTold, AreTold}

some_step : (a b : Step) → Some a ≡ Some b → a ≡ b
some_step a b h = cc

abbrev number : Step → ℕ
number (Enter i) = i.0
number (Leave i) = i.0

entered_same : (t u : ℕ) (a b : Step) → a ≡ Enter (record { 0 = t }) → b ≡ Enter (record { 0 = u }) → a ≡ b → t ≡ u
entered_same t u a b p q e = let o : Enter (record { 0 = t }) ≡ Enter (record { 0 = u }) = sym p ∙ e ∙ q in ap number o

one_type : (known : Known) (t u q : ℕ) → Asks known.sought.now t q → Asks known.sought.now u q → t ≡ u
one_type known t u q a b = sym a.2 ∙ ap (λ (s : Sought). s.parent.0) (one_item known.sought.now q a.0 b.0 a.1 b.1) ∙ b.2

-- what is told of a type stays when another one is
told_with : (known : Known) (before after : List (Option MemberId)) (t u q : ℕ) → AreAnswered known t before after → u < length known.types.now → Asks known.sought.now u q → IsTold known before q → IsTold known after q
told_with known before after t u q with_ lt asks told =
    elim (eqb t u) as (λ b. eqb t u ≡ b → IsTold known after q) [
      | true ↦ λ e. let same = eqb-true t u e in with_.told (subst (λ (n : ℕ). n < length known.types.now) (sym same) lt) q (subst (λ (n : ℕ). Asks known.sought.now n q) (sym same) asks)
      | false ↦ λ e. λ s m stands at. told s m stands (sym (with_.kept q (λ both. eqb-false t u e (one_type known t u q both.1 asks))) ∙ at)
    ] refl

pub told_more : (known : Known) (steps : List Step) (before after : List (Option MemberId)) (k : ℕ) (step : Step) → slice_get steps k ≡ Some step → AreTold known steps before k → IsStepTold known step before after → AreTold known steps after (k + 1)
told_more known steps before after k (Enter t) at told with_ j u lt there within q asks = elim (cases_lt j k) [
  | inl less ↦ told_with known before after t.0 u q with_ within asks (told j u less there within q asks)
  | inr ge ↦
      let same : j ≡ k = omega (arith, ge, lt) in
      let e : Enter t ≡ Enter (record { 0 = u }) = some_step _ _ (sym at ∙ ap (λ (i : ℕ). slice_get steps i) (sym same) ∙ there) in
      let o : t.0 ≡ u = entered_same t.0 u (Enter t) (Enter (record { 0 = u })) refl refl e in
      with_.told (subst (λ (n : ℕ). n < length known.types.now) (sym o) within) q (subst (λ (n : ℕ). Asks known.sought.now n q) (sym o) asks)
]
told_more known steps before after k (Leave t) at told same_ j u lt there within q asks = elim (cases_lt j k) [
  | inl less ↦ subst (λ (l : List (Option MemberId)). IsTold known l q) (sym same_) (told j u less there within q asks)
  | inr ge ↦
      let same : j ≡ k = omega (arith, ge, lt) in
      let e : Leave t ≡ Enter (record { 0 = u }) = some_step _ _ (sym at ∙ ap (λ (i : ℕ). slice_get steps i) (sym same) ∙ there) in
      absurd cc
]

-- a reference to a type that isn't there means none
none_past : (types : List TypeRow) (members : List MemberRow) (s : Sought) (t m : ℕ) → length types ≤ t → IsNearest types members s t m → ⊥
none_past types members s t m past (in_it u k lt least) = absurd (omega (arith, lt, past))
none_past types members s t m past (above u b k off base rest) = let lt = slice_get_within types u base.row base.stands in absurd (omega (arith, lt, past))

pub all_told : (known : Known) (steps : List Step) (p : Progress) (path : List ℕ) → IsWholeWalk known.types.now steps → IsAt known path p → (k : ℕ) → length steps ≤ k → AreTold known steps p.found.items k → AreMembersMeant known.types.now known.members.now known.sought.now p.found.items
all_told known steps p path whole at k le told = record {
  long = at.long;
  each = λ q s m stands there. elim (cases_lt s.parent.0 (length known.types.now)) [
    | inl lt ↦
        let place = whole.whole s.parent.0 lt in
        told place.0 s.parent.0 (let within = slice_get_within steps place.0 _ place.1 in omega (arith, within, le)) place.1 lt q (s, stands, refl) s m stands there
    | inr past ↦
        let is : None ≡ m = one_item p.found.items q None m (at.past s.parent.0 q past (s, stands, refl)) there in
        subst (λ (o : Option MemberId). IsMemberMeant known.types.now known.members.now s o) is (λ n near. none_past known.types.now known.members.now s s.parent.0 n past near)
  ];
}
