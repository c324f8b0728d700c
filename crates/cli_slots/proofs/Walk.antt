-- What is told on a walk, step by step, and of all members at its end.
use Rattle.std.proofs.Common.{◌≡◌, ◌⊎◌, ◌≤◌, ◌+◌, ℕ, Bool, Some, List, [], ◌∷◌, length, inl, inr, refl, sym, ap, subst, ◌∙◌, arith}
use Rattle.std.proofs.lemmas.Bool.{cases_lt}
use Rattle.std.proofs.lemmas.Option.{slice_get_within}
use Rattle.std.specs.List.{slice_get}
use Rattle.dc_base.specs.declared.names.TypeId.{TypeId}
use Rattle.class_keys.proofs.Items.{one_item}
use Rattle.class_parts.proofs.Climb.{one_base}
use Rattle.class_rows.specs.declared.row.MemberRow.{MemberRow}
use Rattle.class_rows.specs.Types.{IsBase}
use Rattle.class_rows.specs.Members.{IsOf}
use Rattle.class_walk.specs.declared.walk.Step.{Step}
use Rattle.class_walk.specs.declared.walk.Step.TheVariants.{Enter, Leave}
use Rattle.class_walk.specs.Walk.{IsBelow, EntersAt, IsWalk, IsWholeWalk}
use Rattle.class_open.specs.Trail.{Has}
use Rattle.class_open.proofs.Path.{one_owner}
use Rattle.class_slots.proofs.Near.{owner_there}
use Rattle.cli_slots.specs.declared.known.Known.{Known}
use Rattle.cli_slots.specs.declared.told.Told.{Told}
use Rattle.cli_slots.specs.declared.walked.Progress.{Progress}
use Rattle.cli_slots.specs.Known.{IsKnown}
use Rattle.cli_slots.specs.Told.{ByOpen, ByRows, IsTold, AreWritten}
use Rattle.cli_slots.specs.At.{IsAt, IsEntered, AreTold, IsStepTold, onward}
use Rattle.cli_slots.proofs.Near.{virt_by, by_kept, by_rows}

some_is : {X : Type 0} (a b : X) → Some a ≡ Some b → a ≡ b
some_is a b h = cc

entered_same : (t u : ℕ) → Enter (record { 0 = t }) ≡ Enter (record { 0 = u }) → t ≡ u
entered_same t u e = ap number e
  where
    number : Step → ℕ
    number (Enter i) = i.0
    number (Leave i) = i.0

later : (steps : List Step) (k u : ℕ) → IsEntered steps k u → IsEntered steps (k + 1) u
later steps k u in_ = (in_.0, (let lt = in_.1 in omega (arith, lt)), in_.2)

-- what was entered by one more step is what it enters, or was entered before
entered_cases : (steps : List Step) (k t u : ℕ) → EntersAt steps k t → IsEntered steps (k + 1) u → IsEntered steps k u ⊎ (t ≡ u)
entered_cases steps k t u at in_ = elim (cases_lt in_.0 k) [
  | inl less ↦ inl (in_.0, less, in_.2)
  | inr ge ↦
      let lt = in_.1 in
      let same : in_.0 ≡ k = omega (arith, ge, lt) in
      inr (entered_same t u (some_is _ _ (sym at ∙ ap (λ (i : ℕ). slice_get steps i) (sym same) ∙ in_.2)))
]

left_cases : (steps : List Step) (k u : ℕ) (t : TypeId) → slice_get steps k ≡ Some (Leave t) → IsEntered steps (k + 1) u → IsEntered steps k u
left_cases steps k u t at in_ = elim (cases_lt in_.0 k) [
  | inl less ↦ (in_.0, less, in_.2)
  | inr ge ↦
      let lt = in_.1 in
      let same : in_.0 ≡ k = omega (arith, ge, lt) in
      let e : Leave t ≡ Enter (record { 0 = u }) = some_is _ _ (sym at ∙ ap (λ (i : ℕ). slice_get steps i) (sym same) ∙ in_.2) in
      absurd cc
]

module _ (known : Known) (are : IsKnown known) (steps : List Step) (whole : IsWholeWalk known.types.now steps) (k : ℕ) where
  abbrev members : List MemberRow
  members = known.members.now

  -- entered so far, or not there
  abbrev Behind : ℕ → Type 0
  Behind u = IsEntered steps k u ⊎ (length known.types.now ≤ u)

  closed_behind : (told : Told) → AreTold known steps k told → (u b : ℕ) → Behind u → IsBase known.types.now u b → Behind b
  closed_behind told so u b (inl in_) base = so.closed u b in_ base
  closed_behind told so u b (inr past) base = let lt = slice_get_within known.types.now u base.row base.stands in absurd (omega (arith, lt, past))

  module _ (p q : Progress) (path : List ℕ) (t : ℕ) (so : AreTold known steps k p.told) (at : IsAt known path p) (within : (u : ℕ) → Has path u → IsEntered steps k u) (below : IsBelow known.types.now path t) (enters : EntersAt steps k t) (written : AreWritten known p.stacks.trail p.told q.told t) where
    new : IsEntered steps k t → ⊥
    new in_ = let same = whole.once in_.0 k t in_.2 enters in let lt = in_.1 in omega (arith, same, lt)

    same_behind : (u n : ℕ) → Behind u → IsOf members u n → slice_get q.told.virts.items n ≡ slice_get p.told.virts.items n
    same_behind u n (inl in_) of_ = (written.kept n (λ mine. new (subst (λ (v : ℕ). IsEntered steps k v) (one_owner members u t n of_ mine) in_))).0
    same_behind u n (inr past) of_ = let lt = owner_there known.types.now members are.owners u n of_ in absurd (omega (arith, lt, past))

    base_behind : (path_ : List ℕ) → ((u : ℕ) → Has path_ u → IsEntered steps k u) → IsBelow known.types.now path_ t → (b : ℕ) → IsBase known.types.now t b → Behind b
    base_behind [] inside under b base = inr (under b base)
    base_behind (c ∷ path_) inside under b base = inl (subst (λ (v : ℕ). IsEntered steps k v) (one_base known.types.now t c b under base) (inside c (inl refl)))

    kept_by : (row : MemberRow) → ((b : ℕ) → IsBase known.types.now row.owner.0 b → Behind b) → (overrides : Bool) → ByRows known p.told.virts.items row overrides → ByRows known q.told.virts.items row overrides
    kept_by row bases overrides by_ =
        by_kept known Behind (closed_behind p.told so) p.told.virts.items q.told.virts.items at.long.virts written.long.virts same_behind row bases overrides by_

    owner_is : (u m : ℕ) (row : MemberRow) → slice_get members m ≡ Some row → IsOf members u m → row.owner.0 ≡ u
    owner_is u m row stands of_ = ap (λ (o : TypeId). o.0) (ap (λ (r : MemberRow). r.owner) (one_item members m row of_.row stands of_.stands) ∙ of_.is)

    before_told : (u m : ℕ) → IsEntered steps k u → IsOf members u m → IsTold known (ByRows known q.told.virts.items) q.told.virts.items q.told.picks.items m
    before_told u m in_ of_ =
        let was = so.each u m in_ of_ in
        let kept = written.kept m (λ mine. new (subst (λ (v : ℕ). IsEntered steps k v) (one_owner members u t m of_ mine) in_)) in
        let owner = owner_is u m was.is.row was.is.stands of_ in
        record {
          word = was.word;
          put = kept.0 ∙ was.put;
          flagged = kept.1 ∙ was.flagged;
          is = record {
            row = was.is.row;
            stands = was.is.stands;
            by_ = virt_by known (ByRows known p.told.virts.items) (ByRows known q.told.virts.items) m was.is.row was.word.virt
                (kept_by was.is.row (λ b base. so.closed u b in_ (subst (λ (v : ℕ). IsBase known.types.now v b) owner base))) was.is.by_;
            tells = was.is.tells;
          };
        }

    own_told : (m : ℕ) → IsOf members t m → IsTold known (ByRows known q.told.virts.items) q.told.virts.items q.told.picks.items m
    own_told m of_ =
        let now = written.own m of_ in
        let row = now.is.row in
        let owner = owner_is t m row now.is.stands of_ in
        record {
          word = now.word;
          put = now.put;
          flagged = now.flagged;
          is = record {
            row = row;
            stands = now.is.stands;
            by_ = virt_by known (ByOpen known p.stacks.trail) (ByRows known q.told.virts.items) m row now.word.virt
                (λ overrides open_. kept_by row (λ b base. base_behind path within below b (subst (λ (v : ℕ). IsBase known.types.now v b) owner base)) overrides
                (by_rows known are p at.long.virts row path at (subst (λ (v : ℕ). IsBelow known.types.now path v) (sym owner) below) (λ u n on of_. so.each u n (within u on) of_) overrides open_)) now.is.by_;
            tells = now.is.tells;
          };
        }

    pub told_entered : AreTold known steps (k + 1) q.told
    told_entered = record {
      each = λ u m in_ of_. elim (entered_cases steps k t u enters in_) [
        | inl earlier ↦ before_told u m earlier of_
        | inr here ↦ own_told m (subst (λ (v : ℕ). IsOf members v m) (sym here) of_)
      ];
      closed = λ u b in_ base.
          elim (elim (entered_cases steps k t u enters in_) as (λ _. Behind b) [
            | inl earlier ↦ so.closed u b earlier base
            | inr here ↦ base_behind path within below b (subst (λ (v : ℕ). IsBase known.types.now v b) (sym here) base)
          ]) [
            | inl there ↦ inl (later steps k b there)
            | inr past ↦ inr past
          ];
    }

  told_left : (p q : Progress) (t : TypeId) → slice_get steps k ≡ Some (Leave t) → q.told ≡ p.told → AreTold known steps k p.told → AreTold known steps (k + 1) q.told
  told_left p q t at same so = subst (λ (w : Told). AreTold known steps (k + 1) w) (sym same) (record {
    each = λ u m in_ of_. so.each u m (left_cases steps k u t at in_) of_;
    closed = λ u b in_ base. elim (so.closed u b (left_cases steps k u t at in_) base) [
      | inl there ↦ inl (later steps k b there)
      | inr past ↦ inr past
    ];
  })

  pub told_stepped : (p q : Progress) (path : List ℕ) (step : Step) (rest : List Step) → slice_get steps k ≡ Some step → AreTold known steps k p.told → IsAt known path p → ((u : ℕ) → Has path u → IsEntered steps k u) → IsWalk known.types.now path (step ∷ rest) → IsStepTold known step p q → AreTold known steps (k + 1) q.told
  told_stepped p q path (Enter t) rest stands so at within walk written = told_entered p q path t.0 so at within walk.0 stands written
  told_stepped p q path (Leave t) rest stands so at within walk same = told_left p q t stands same so

-- the types of the path behind a step were entered
pub within_stepped : (steps : List Step) (k : ℕ) (path : List ℕ) (step : Step) → slice_get steps k ≡ Some step → ((u : ℕ) → Has path u → IsEntered steps k u) → (u : ℕ) → Has (onward step path) u → IsEntered steps (k + 1) u
within_stepped steps k path (Enter t) stands within u (inl e) = subst (λ (v : ℕ). IsEntered steps (k + 1) v) e (k, omega arith, stands)
within_stepped steps k path (Enter t) stands within u (inr on) = later steps k u (within u on)
within_stepped steps k [] (Leave t) stands within u on = absurd on
within_stepped steps k (v ∷ path) (Leave t) stands within u on = later steps k u (within u (inr on))

pub none_told : (known : Known) (steps : List Step) (told : Told) → AreTold known steps 0 told
none_told known steps told = record {
  each = λ u m in_ of_. (let lt = in_.1 in absurd (omega (arith, lt)));
  closed = λ u b in_ base. (let lt = in_.1 in absurd (omega (arith, lt)));
}
