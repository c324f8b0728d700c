-- A table of slots that is under way, the types from the bases down.
use Rattle.std.proofs.Common.{◌≡◌, ℕ, ◌+◌, ◌<◌, ◌≤◌, true, false, Some, List, length, set, eqb, get_or, inl, inr, sym, refl, ap, subst, ◌∙◌, arith}
use Rattle.std.proofs.Math.ListN.{length-set}
use Rattle.std.proofs.lemmas.Bool.{cases_lt, eqb-true, eqb-false}
use Rattle.std.proofs.lemmas.Option.{slice_get_within, get_or_from_slice_get}
use Rattle.std.specs.List.{slice_get}
use Rattle.dc_base.specs.declared.names.MemberId.{MemberId}
use Rattle.class_chains.proofs.Marks.{set_at}
use Rattle.class_chains.specs.Ends.{here, further, IsAboveFirst}
use Rattle.class_keys.proofs.Items.{item_at}
use Rattle.class_walk.specs.declared.walk.Step.{Step}
use Rattle.class_walk.specs.declared.walk.Step.TheVariants.{Enter, Leave}
use Rattle.class_walk.specs.Walk.{IsBelow, IsWholeWalk}
use Rattle.class_open.specs.Trail.{Has, IsPath}
use Rattle.class_open.proofs.Put.{set_other}
use Rattle.class_open.proofs.Path.{one_owner, chain_apart, above_path}
use Rattle.class_rows.specs.declared.row.TypeRow.{TypeRow}
use Rattle.class_rows.specs.declared.row.MemberRow.{MemberRow}
use Rattle.class_rows.specs.Types.{IsBase, IsAbove, InBaseChain}
use Rattle.class_rows.specs.Members.{IsOf}
use Rattle.class_rows.specs.Lookups.{IsNearest, in_it, above, IsOverridden, IsSlot, taken}
use Rattle.class_slots.proofs.Near.{owner_there}
use Rattle.class_slots.specs.declared.known.Known.{Known}
use Rattle.class_slots.specs.Slots.{AreSlots, OwnersAreThere}
use Rattle.class_slots.specs.Told.{IsTold, AreSlotsOf, AreSlotsAbove, AreSlotsWith, IsSlotWritten}
use Rattle.class_slots.specs.At.{AreTold, IsStepTold}

module _ (types : List TypeRow) (members : List MemberRow) (explicit : List (MemberId × MemberId)) where
  -- the owner of what is nearest is in the base chain
  nearest_owner : (row : MemberRow) (t n : ℕ) → IsNearest types members explicit row t n → (u : ℕ) × InBaseChain types t u × IsOf members u n
  nearest_owner row t n (in_it u k like) = (u, here u, record { row = like.0.row; stands = like.0.stands; is = like.0.is.0 })
  nearest_owner row t n (above u b k off base rest) = let at = nearest_owner row b k rest in (at.0, further u b at.0 base at.1, at.2)

  -- the slot of what a member overrides stands already
  pub above_told : (slots : List ℕ) (t m n : ℕ) → AreSlotsAbove types members explicit slots t → IsOf members t m → IsOverridden types members explicit m n → IsTold types members explicit slots n
  above_told slots t m n above_ owned over =
      let owner : over.row.owner.0 ≡ t = one_owner members over.row.owner.0 t m (record { row = over.row; stands = over.stands; is = refl }) owned in
      let base = subst (λ (o : ℕ). IsBase types o over.b) owner over.base in
      let at = nearest_owner over.row over.b n over.nearest in
      above_.above over.b at.0 base at.1 n at.2

  pub slot_taken : (slots : List ℕ) (m n d : ℕ) → IsOverridden types members explicit m n → IsTold types members explicit slots n → IsSlot types members explicit m (get_or slots n d)
  slot_taken slots m n d over told =
      subst (λ (s : ℕ). IsSlot types members explicit m s) (sym (get_or_from_slice_get slots n told.0 d told.1)) (taken m n told.0 over told.2)

  pub written : (slots : List ℕ) (m s : ℕ) → m < length slots → IsSlot types members explicit m s → IsSlotWritten types members explicit slots (set slots m s) m
  written slots m s lt is = record {
    long = length-set slots m s;
    told = (s, set_at slots m s lt, is);
    kept = λ n apart. set_other slots m n s apart;
  }

  told_kept : (before after : List ℕ) (m n : ℕ) → IsSlotWritten types members explicit before after m → (m ≡ n → ⊥) → IsTold types members explicit before n → IsTold types members explicit after n
  told_kept before after m n w apart told = (told.0, w.kept n apart ∙ told.1, told.2)

  pub above_kept : (order : List ℕ) → IsAboveFirst (IsAbove types) (length types) order → (before after : List ℕ) (t m : ℕ) → AreSlotsAbove types members explicit before t → IsOf members t m → IsSlotWritten types members explicit before after m → AreSlotsAbove types members explicit after t
  above_kept order first before after t m above_ owned w = record {
    long = w.long ∙ above_.long;
    above = λ b u base chain n of_.
        told_kept before after m n w (λ e. chain_apart types order first t b u base chain (one_owner members t u n (subst (λ (k : ℕ). IsOf members t k) e owned) of_)) (above_.above b u base chain n of_);
  }

  -- the members of the type, one by one
  pub record IsUnderWay (before slots : List ℕ) (t : ℕ) (own : List ℕ) (k : ℕ) : Type 0 where
    pub above_ : AreSlotsAbove types members explicit slots t
    pub done : (j m : ℕ) → j < k → slice_get own j ≡ Some m → IsTold types members explicit slots m
    pub kept : (m : ℕ) → (IsOf members t m → ⊥) → slice_get slots m ≡ slice_get before m

  pub begins : (before : List ℕ) (t : ℕ) (own : List ℕ) → AreSlotsAbove types members explicit before t → IsUnderWay before before t own 0
  begins before t own above_ = record { above_ = above_; done = λ j m lt at. absurd (omega arith); kept = λ m off. refl }

  pub goes_on : (order : List ℕ) → IsAboveFirst (IsAbove types) (length types) order → (before slots after : List ℕ) (t : ℕ) (own : List ℕ) (k m : ℕ) → slice_get own k ≡ Some m → IsOf members t m → IsUnderWay before slots t own k → IsSlotWritten types members explicit slots after m → IsUnderWay before after t own (k + 1)
  goes_on order first before slots after t own k m at owned way w = record {
    above_ = above_kept order first slots after t m way.above_ owned w;
    done = λ j n lt there. elim (eqb m n) as (λ b. eqb m n ≡ b → IsTold types members explicit after n) [
      | true ↦ λ e. subst (λ (i : ℕ). IsTold types members explicit after i) (eqb-true m n e) w.told
      | false ↦ λ e. elim (cases_lt j k) [
        | inl less ↦ told_kept slots after m n w (eqb-false m n e) (way.done j n less there)
        | inr ge ↦
            let same : j ≡ k = omega arith in
            let o : Some m ≡ Some n = sym at ∙ ap (λ (i : ℕ). slice_get own i) (sym same) ∙ there in
            absurd (eqb-false m n e (some_number m n o))
      ]
    ] refl;
    kept = λ n off. w.kept n (λ e. off (subst (λ (i : ℕ). IsOf members t i) e owned)) ∙ way.kept n off;
  }
    where
      some_number : (a b : ℕ) → Some a ≡ Some b → a ≡ b
      some_number a b h = cc

  pub is_done : (before slots : List ℕ) (t : ℕ) (own : List ℕ) (k : ℕ) → length own ≤ k → ((m : ℕ) → IsOf members t m → (j : ℕ) × (slice_get own j ≡ Some m)) → IsUnderWay before slots t own k → AreSlotsWith types members explicit before slots t
  is_done before slots t own k le has way = record {
    long = way.above_.long;
    own = λ m of_. let at = has m of_ in way.done at.0 m (omega (arith, slice_get_within own at.0 m at.1, le)) at.1;
    kept = way.kept;
  }

-- the slots of the members of the types above one are told, where its base is entered
pub told_above : (types : List TypeRow) (members : List MemberRow) (explicit : List (MemberId × MemberId)) (slots path : List ℕ) (t : ℕ) → OwnersAreThere types members → IsPath types path → IsBelow types path t → length slots ≡ length members → ((u : ℕ) → Has path u → AreSlotsOf types members explicit slots u) → AreSlotsAbove types members explicit slots t
told_above types members explicit slots path t owners chain below long told = record {
  long = long;
  above = λ b u base up m of_. elim (above_path types t b u path chain below base up) [
    | inl on ↦ told u on m of_
    | inr past ↦ let lt = owner_there types members owners u m of_ in absurd (omega (arith, lt, past))
  ];
}

-- what is told of a type stays when another one is
pub told_with : (types : List TypeRow) (members : List MemberRow) (explicit : List (MemberId × MemberId)) (before after : List ℕ) (t u : ℕ) → AreSlotsWith types members explicit before after t → AreSlotsOf types members explicit before u → AreSlotsOf types members explicit after u
told_with types members explicit before after t u with_ told m of_ =
    elim (eqb t u) as (λ b. eqb t u ≡ b → IsTold types members explicit after m) [
      | true ↦ λ e. with_.own m (subst (λ (n : ℕ). IsOf members n m) (sym (eqb-true t u e)) of_)
      | false ↦ λ e. let was = told m of_ in (was.0, with_.kept m (λ mine. eqb-false t u e (one_owner members t u m mine of_)) ∙ was.1, was.2)
    ] refl

some_step : (a b : Step) → Some a ≡ Some b → a ≡ b
some_step a b h = cc

entered_same : (t u : ℕ) (a b : Step) → a ≡ Enter (record { 0 = t }) → b ≡ Enter (record { 0 = u }) → a ≡ b → t ≡ u
entered_same t u a b p q e = let o : Enter (record { 0 = t }) ≡ Enter (record { 0 = u }) = sym p ∙ e ∙ q in ap number o
  where
    number : Step → ℕ
    number (Enter i) = i.0
    number (Leave i) = i.0

pub told_more : (known : Known) (steps : List Step) (before after : List ℕ) (k : ℕ) (step : Step) → slice_get steps k ≡ Some step → AreTold known.types.now known.members.now known.explicit.now steps before k → IsStepTold known step before after → AreTold known.types.now known.members.now known.explicit.now steps after (k + 1)
told_more known steps before after k (Enter t) at told with_ j u lt there = elim (cases_lt j k) [
  | inl less ↦ told_with known.types.now known.members.now known.explicit.now before after t.0 u with_ (told j u less there)
  | inr ge ↦
      let same : j ≡ k = omega (arith, ge, lt) in
      let e : Enter t ≡ Enter (record { 0 = u }) = some_step _ _ (sym at ∙ ap (λ (i : ℕ). slice_get steps i) (sym same) ∙ there) in
      let o : t.0 ≡ u = entered_same t.0 u (Enter t) (Enter (record { 0 = u })) refl refl e in
      subst (λ (n : ℕ). AreSlotsOf known.types.now known.members.now known.explicit.now after n) o with_.own
]
told_more known steps before after k (Leave t) at told same_ j u lt there = elim (cases_lt j k) [
  | inl less ↦ subst (λ (l : List ℕ). AreSlotsOf known.types.now known.members.now known.explicit.now l u) (sym same_) (told j u less there)
  | inr ge ↦
      let same : j ≡ k = omega (arith, ge, lt) in
      let e : Leave t ≡ Enter (record { 0 = u }) = some_step _ _ (sym at ∙ ap (λ (i : ℕ). slice_get steps i) (sym same) ∙ there) in
      absurd cc
]

told_is : (types : List TypeRow) (members : List MemberRow) (explicit : List (MemberId × MemberId)) (slots : List ℕ) (m s : ℕ) → IsTold types members explicit slots m → slice_get slots m ≡ Some s → IsSlot types members explicit m s
told_is types members explicit slots m s told at = subst (λ (n : ℕ). IsSlot types members explicit m n) (some_number told.0 s (sym told.1 ∙ at)) told.2
  where
    some_number : (a b : ℕ) → Some a ≡ Some b → a ≡ b
    some_number a b h = cc

pub all_told : (types : List TypeRow) (members : List MemberRow) (explicit : List (MemberId × MemberId)) (steps : List Step) (slots : List ℕ) → IsWholeWalk types steps → OwnersAreThere types members → length slots ≡ length members → (k : ℕ) → length steps ≤ k → AreTold types members explicit steps slots k → AreSlots types members explicit slots
all_told types members explicit steps slots whole owners long k le told = record {
  long = long;
  right = λ m s at.
      let row = item_at members m (omega (arith, slice_get_within slots m s at, long)) in
      let of_ : IsOf members row.0.owner.0 m = record { row = row.0; stands = row.1; is = refl } in
      let place = whole.whole row.0.owner.0 (owners m row.0 row.1) in
      let mine = told place.0 row.0.owner.0 (omega (arith, slice_get_within steps place.0 _ place.1, le)) place.1 m of_ in
      told_is types members explicit slots m s mine at;
}
