-- The methods that a type implements explicitly are marked one by one.
use Rattle.std.proofs.Common.{◌≡◌, ◌⊎◌, ◌<◌, ◌≤◌, ℕ, suc, Bool, true, false, eqb, Option, Some, None, List, length, set, inl, inr, refl, sym, ap, subst, ◌∙◌, arith}
use Rattle.std.proofs.Math.ListN.{length-set}
use Rattle.std.proofs.lemmas.Bool.{cases_lt, eqb-true, eqb-false}
use Rattle.std.proofs.lemmas.Option.{slice_get_within, slice_get-get_or, get_or_from_slice_get}
use Rattle.std.specs.List.{slice_get}
use Rattle.dc_base.specs.declared.names.MemberId.{MemberId}
use Rattle.class_chains.proofs.Marks.{set_at}
use Rattle.class_keys.proofs.Items.{one_item}
use Rattle.class_open.proofs.Put.{set_other}
use Rattle.class_rows.specs.Members.{IsOf}
use Rattle.class_implemented.specs.declared.known.Known.{Known}
use Rattle.class_implemented.specs.Known.{IsKnown}
use Rattle.class_implemented.specs.Explicit.{IsPairOf, OwnsPair, IsLastOf, no_more, one_more}
use Rattle.class_implemented.specs.Marked.{IsMarked, IsMarkedOne, AreMarkedMore}

some_mark : (a b : ℕ) → Some a ≡ Some b → a ≡ b
some_mark a b h = cc

pub mark_set : (flags : List Bool) (t m : ℕ) (marks : List (Option ℕ)) → slice_get flags t ≡ Some true → m < length marks → (IsMarked flags marks m → ⊥) → IsMarkedOne flags t m marks (set marks m (Some t))
mark_set flags t m marks up lt off = record {
  long = length-set marks m (Some t);
  kept = λ n u at flag. set_other marks m n (Some t) (λ e. off (u, ap (λ (k : ℕ). slice_get marks k) e ∙ at, flag)) ∙ at;
  from_ = λ n u at. elim (eqb m n) as (λ b. eqb m n ≡ b → (slice_get marks n ≡ Some (Some u)) ⊎ ((n ≡ m) × (u ≡ t))) [
    | true ↦ λ e.
        let same = eqb-true m n e in
        let here : slice_get (set marks m (Some t)) m ≡ Some (Some u) = ap (λ (k : ℕ). slice_get (set marks m (Some t)) k) same ∙ at in
        let is : Some t ≡ Some u = one_item (set marks m (Some t)) m (Some t) (Some u) (set_at marks m (Some t) lt) here in
        inr (sym same, sym (some_mark t u is))
    | false ↦ λ e. inl (sym (set_other marks m n (Some t) (eqb-false m n e)) ∙ at)
  ] refl;
  has = λ _. (t, set_at marks m (Some t) lt, up);
}

pub mark_kept : (flags : List Bool) (t m : ℕ) (marks : List (Option ℕ)) → (m < length marks → IsMarked flags marks m) → IsMarkedOne flags t m marks marks
mark_kept flags t m marks is = record { long = refl; kept = λ n u at flag. at; from_ = λ n u at. inl at; has = is }

-- a type that isn't in the list marks nothing
pub none_marked : (known : Known) (flags : List Bool) (t : ℕ) (marks : List (Option ℕ)) → length known.types.now ≤ t → AreMarkedMore known flags t marks marks
none_marked known flags t marks past = record { long = refl; kept = λ n u at flag. at; from_ = λ n u at. inl at; has = λ lt. absurd (omega (arith, lt, past)) }

pair_with : (pair : MemberId × MemberId) (n : ℕ) → n ≡ pair.1.0 → pair ≡ (pair.0, record { 0 = n })
pair_with pair n e = ap (λ (i : ℕ). let q : MemberId × MemberId = (pair.0, record { 0 = i }) in q) (sym e)

-- how far the way back may still go
abbrev pub left_over : Option ℕ → ℕ
left_over None = 0
left_over (Some p) = suc p

module _ (known : Known) (flags : List Bool) (t : ℕ) where
  pub record AreMarking (start marks : List (Option ℕ)) (at : Option ℕ) : Type 0 where
    pub k : ℕ
    pub last : IsLastOf known.members.now known.explicit.now known.by_type.now.before.items t k at
    pub long : length marks ≡ length start
    pub kept : (n u : ℕ) → slice_get start n ≡ Some (Some u) → slice_get flags u ≡ Some true → slice_get marks n ≡ Some (Some u)
    pub from_ : (n u : ℕ) → slice_get marks n ≡ Some (Some u) → (slice_get start n ≡ Some (Some u)) ⊎ ((u ≡ t) × IsPairOf known.members.now known.explicit.now t n)
    pub has : (p : ℕ) → k ≤ p → (own : OwnsPair known.members.now known.explicit.now t p) → own.0.1.0 < length start → IsMarked flags marks own.0.1.0

  pub marking_begins : (marks : List (Option ℕ)) (at : Option ℕ) → IsKnown known → slice_get known.by_type.now.last.items t ≡ Some at → AreMarking marks marks at
  marking_begins marks at is stands = record {
    k = length known.explicit.now;
    last = is.by_type.lasts t at stands;
    long = refl;
    kept = λ n u there flag. there;
    from_ = λ n u there. inl there;
    has = λ p past own. absurd (let lt = slice_get_within known.explicit.now p own.0 own.1 in omega (arith, lt, past));
  }

  -- the pair there is one of the type
  last_owns : (k p : ℕ) → IsLastOf known.members.now known.explicit.now known.by_type.now.before.items t k (Some p) → (o : Option ℕ) × (p < k) × (slice_get known.by_type.now.before.items p ≡ Some o) × OwnsPair known.members.now known.explicit.now t p × ((q : ℕ) → p < q → q < k → OwnsPair known.members.now known.explicit.now t q → ⊥) × IsLastOf known.members.now known.explicit.now known.by_type.now.before.items t p o
  last_owns k p (one_more n q o lt owned none at rest) = (o, lt, at, owned, none, rest)

  pub pair_there : (start marks : List (Option ℕ)) (p : ℕ) → AreMarking start marks (Some p) → p < length known.explicit.now
  pair_there start marks p are = let own = (last_owns are.k p are.last).3 in slice_get_within known.explicit.now p own.0 own.1

  pub before_there : (start marks : List (Option ℕ)) (p : ℕ) → AreMarking start marks (Some p) → p < length known.by_type.now.before.items
  before_there start marks p are = let own = last_owns are.k p are.last in slice_get_within known.by_type.now.before.items p own.0 own.2

  last_left : (p : ℕ) (o : Option ℕ) → IsLastOf known.members.now known.explicit.now known.by_type.now.before.items t p o → left_over o < suc p
  last_left p o (no_more n none) = omega arith
  last_left p o (one_more n q r lt owned none at rest) = omega (arith, lt)

  some_option : (a b : Option ℕ) → Some a ≡ Some b → a ≡ b
  some_option a b h = cc

  next_last : (start marks : List (Option ℕ)) (p : ℕ) (o : Option ℕ) → AreMarking start marks (Some p) → slice_get known.by_type.now.before.items p ≡ Some o → IsLastOf known.members.now known.explicit.now known.by_type.now.before.items t p o
  next_last start marks p o are at =
      let own = last_owns are.k p are.last in
      subst (λ (x : Option ℕ). IsLastOf known.members.now known.explicit.now known.by_type.now.before.items t p x) (some_option own.0 o (sym own.2 ∙ at)) own.5

  pub marking_lower : (start marks : List (Option ℕ)) (p : ℕ) (o : Option ℕ) → AreMarking start marks (Some p) → slice_get known.by_type.now.before.items p ≡ Some o → left_over o < left_over (Some p)
  marking_lower start marks p o are at = last_left p o (next_last start marks p o are at)

  marked_on : (m n : ℕ) (before after : List (Option ℕ)) → IsMarkedOne flags t m before after → IsMarked flags before n → IsMarked flags after n
  marked_on m n before after one is = (is.0, one.kept n is.0 is.1 is.2, is.2)

  pub marking_on : (start marks after : List (Option ℕ)) (p : ℕ) (o : Option ℕ) (pair : MemberId × MemberId) → slice_get known.explicit.now p ≡ Some pair → AreMarking start marks (Some p) → slice_get known.by_type.now.before.items p ≡ Some o → IsMarkedOne flags t pair.1.0 marks after → AreMarking start after o
  marking_on start marks after p o pair stands are at one =
      let own = last_owns are.k p are.last in
      let same = one_item known.explicit.now p own.3.0 pair own.3.1 stands in
      let mine : IsOf known.members.now t pair.0.0 = subst (λ (q : MemberId × MemberId). IsOf known.members.now t q.0.0) same own.3.2 in
      record {
        k = p;
        last = next_last start marks p o are at;
        long = one.long ∙ are.long;
        kept = λ n u there flag. one.kept n u (are.kept n u there flag) flag;
        from_ = λ n u there. elim (one.from_ n u there) [
          | inl was ↦ are.from_ n u was
          | inr new ↦ inr (
            new.1,
            (
              pair.0.0,
              mine,
              (
                p,
                slice_get_within known.explicit.now p pair stands,
                get_or_from_slice_get known.explicit.now p pair _ stands ∙ pair_with pair n new.0,
              ),
            ),
          )
        ];
        has = λ q le owned lt. elim (cases_lt p q) [
          | inl more ↦ elim (cases_lt q are.k) [
            | inl less ↦ absurd (own.4 q more less owned)
            | inr past ↦ marked_on pair.1.0 owned.0.1.0 marks after one (are.has q past owned lt)
          ]
          | inr ge ↦
              let here : q ≡ p = omega (arith, le, ge) in
              let e : owned.0 ≡ pair = one_item known.explicit.now p owned.0 pair (ap (λ (i : ℕ). slice_get known.explicit.now i) (sym here) ∙ owned.1) stands in
              subst (λ (r : MemberId × MemberId). r.1.0 < length start → IsMarked flags after r.1.0) (sym e) (λ short. one.has (let long = are.long in omega (arith, short, long))) lt
        ];
      }

  none_owned : (k : ℕ) → IsLastOf known.members.now known.explicit.now known.by_type.now.before.items t k None → (p : ℕ) → p < k → OwnsPair known.members.now known.explicit.now t p → ⊥
  none_owned k (no_more n none) p lt owned = none p lt owned

  pub marking_ends : (start marks : List (Option ℕ)) → t < length known.types.now → AreMarking start marks None → AreMarkedMore known flags t start marks
  marking_ends start marks within are = record {
    long = are.long;
    kept = are.kept;
    from_ = λ n u there. elim (are.from_ n u there) [
      | inl was ↦ inl was
      | inr new ↦ inr (new.0, within, new.1)
    ];
    has = λ _ n lt pair.
        let p = pair.2.0 in
        let there : slice_get known.explicit.now p ≡ Some (record { 0 = pair.0 }, record { 0 = n }) = slice_get-get_or known.explicit.now p _ pair.2.1 ∙ ap Some pair.2.2 in
        let owned : OwnsPair known.members.now known.explicit.now t p = ((record { 0 = pair.0 }, record { 0 = n }), there, pair.1) in
        elim (cases_lt p are.k) [
          | inl less ↦ absurd (none_owned are.k are.last p less owned)
          | inr past ↦ are.has p past owned lt
        ];
  }
