-- The references that name a type are told one by one.
use Rattle.std.proofs.Common.{◌≡◌, ◌<◌, ◌≤◌, ℕ, suc, Option, Some, None, List, length, set, inl, inr, refl, sym, subst, ◌∙◌, arith}
use Rattle.std.proofs.Math.ListN.{length-set}
use Rattle.std.proofs.lemmas.Bool.{cases_lt}
use Rattle.std.proofs.lemmas.Option.{slice_get_within}
use Rattle.std.specs.List.{slice_get}
use Rattle.dc_base.specs.declared.names.MemberId.{MemberId}
use Rattle.class_chains.proofs.Marks.{set_at}
use Rattle.class_keys.proofs.Items.{one_item}
use Rattle.class_open.proofs.Put.{set_other}
use Rattle.cli_refs.specs.declared.key.Sought.{Sought}
use Rattle.cli_refs.specs.declared.walked.Known.{Known}
use Rattle.cli_refs.specs.Sought.{IsMemberMeant}
use Rattle.cli_refs.specs.Asked.{Asks, IsLastOf, no_more, one_more}
use Rattle.cli_refs.specs.Known.{IsKnown}
use Rattle.cli_refs.specs.At.{IsTold, IsOneTold, AreAnswered}

-- a reference is told by what is written for it
pub one_told : (known : Known) (q : ℕ) (found : List (Option MemberId)) (m : Option MemberId) → q < length found → ((s : Sought) → slice_get known.sought.now q ≡ Some s → IsMemberMeant known.types.now known.members.now s m) → IsOneTold known q found (set found q m)
one_told known q found m lt is = record {
  long = length-set found q m;
  told = λ s n stands at.
      subst (λ (o : Option MemberId). IsMemberMeant known.types.now known.members.now s o) (one_item (set found q m) q m n (set_at found q m lt) at) (is s stands);
  kept = λ n apart. set_other found q n m apart;
}

-- how far the way back may still go
abbrev pub left_over : Option ℕ → ℕ
left_over None = 0
left_over (Some p) = suc p

some_option : (a b : Option ℕ) → Some a ≡ Some b → a ≡ b
some_option a b h = cc

module _ (known : Known) (t : ℕ) where
  pub record AreAnswering (start found : List (Option MemberId)) (at : Option ℕ) : Type 0 where
    pub k : ℕ
    pub last : (t < length known.types.now → IsLastOf known.sought.now known.asked.now.before.items t k at) × (length known.types.now ≤ t → at ≡ None)
    pub long : length found ≡ length known.sought.now
    pub told : (q : ℕ) → k ≤ q → Asks known.sought.now t q → IsTold known found q
    pub kept : (q : ℕ) → ((t < length known.types.now) × Asks known.sought.now t q → ⊥) → slice_get found q ≡ slice_get start q

  pub answering_begins : (found : List (Option MemberId)) (at : Option ℕ) → IsKnown known → length found ≡ length known.sought.now → (t < length known.asked.now.last.items → slice_get known.asked.now.last.items t ≡ Some at) → (length known.asked.now.last.items ≤ t → at ≡ None) → AreAnswering found found at
  answering_begins found at is long there past = record {
    k = length known.sought.now;
    last = (
      (λ lt. is.asked.lasts t at (there (let wide = is.asked.wide in omega (arith, lt, wide)))),
      (λ le. past (let wide = is.asked.wide in omega (arith, le, wide))),
    );
    long = long;
    told = λ q le asks. absurd (let lt = slice_get_within known.sought.now q asks.0 asks.1 in omega (arith, lt, le));
    kept = λ q off. refl;
  }

  -- the type is there, and the reference names it
  last_asks : (k p : ℕ) → IsLastOf known.sought.now known.asked.now.before.items t k (Some p) → (o : Option ℕ) × (p < k) × (slice_get known.asked.now.before.items p ≡ Some o) × Asks known.sought.now t p × ((q : ℕ) → p < q → q < k → Asks known.sought.now t q → ⊥) × IsLastOf known.sought.now known.asked.now.before.items t p o
  last_asks k p (one_more n q o lt asks none at rest) = (o, lt, at, asks, none, rest)

  within : (start found : List (Option MemberId)) (p : ℕ) → AreAnswering start found (Some p) → t < length known.types.now
  within start found p are = elim (cases_lt t (length known.types.now)) [
    | inl lt ↦ lt
    | inr le ↦ let e : Some p ≡ None = are.last.1 le in absurd cc
  ]

  pub asks_there : (start found : List (Option MemberId)) (p : ℕ) → AreAnswering start found (Some p) → Asks known.sought.now t p
  asks_there start found p are = (last_asks are.k p (are.last.0 (within start found p are))).3

  pub before_there : (start found : List (Option MemberId)) (p : ℕ) → AreAnswering start found (Some p) → p < length known.asked.now.before.items
  before_there start found p are = let at = last_asks are.k p (are.last.0 (within start found p are)) in slice_get_within known.asked.now.before.items p at.0 at.2

  next_last : (start found : List (Option MemberId)) (p : ℕ) (o : Option ℕ) → AreAnswering start found (Some p) → slice_get known.asked.now.before.items p ≡ Some o → IsLastOf known.sought.now known.asked.now.before.items t p o
  next_last start found p o are at =
      let own = last_asks are.k p (are.last.0 (within start found p are)) in
      subst (λ (x : Option ℕ). IsLastOf known.sought.now known.asked.now.before.items t p x) (some_option own.0 o (sym own.2 ∙ at)) own.5

  last_left : (p : ℕ) (o : Option ℕ) → IsLastOf known.sought.now known.asked.now.before.items t p o → left_over o < suc p
  last_left p o (no_more n none) = omega arith
  last_left p o (one_more n q r lt asks none at rest) = omega (arith, lt)

  pub answering_lower : (start found : List (Option MemberId)) (p : ℕ) (o : Option ℕ) → AreAnswering start found (Some p) → slice_get known.asked.now.before.items p ≡ Some o → left_over o < left_over (Some p)
  answering_lower start found p o are at = last_left p o (next_last start found p o are at)

  told_kept : (before after : List (Option MemberId)) (p q : ℕ) → IsOneTold known p before after → (p ≡ q → ⊥) → IsTold known before q → IsTold known after q
  told_kept before after p q one apart told s m stands at = told s m stands (sym (one.kept q apart) ∙ at)

  pub answering_on : (start found after : List (Option MemberId)) (p : ℕ) (o : Option ℕ) → AreAnswering start found (Some p) → slice_get known.asked.now.before.items p ≡ Some o → IsOneTold known p found after → AreAnswering start after o
  answering_on start found after p o are at one =
      let in_ = within start found p are in
      let own = last_asks are.k p (are.last.0 in_) in
      record {
        k = p;
        last = ((λ lt. next_last start found p o are at), (λ le. absurd (omega (arith, le, in_))));
        long = one.long ∙ are.long;
        told = λ q le asks. elim (cases_lt p q) [
          | inl more ↦ elim (cases_lt q are.k) [
            | inl less ↦ absurd (own.4 q more less asks)
            | inr past ↦ told_kept found after p q one (λ e. absurd (omega (arith, e, more))) (are.told q past asks)
          ]
          | inr ge ↦ subst (λ (n : ℕ). IsTold known after n) (let same : p ≡ q = omega (arith, le, ge) in same) one.told
        ];
        kept = λ q off. one.kept q (λ e. off (in_, subst (λ (n : ℕ). Asks known.sought.now t n) e own.3)) ∙ are.kept q off;
      }

  none_asked : (k : ℕ) → IsLastOf known.sought.now known.asked.now.before.items t k None → (p : ℕ) → p < k → Asks known.sought.now t p → ⊥
  none_asked k (no_more n none) p lt asks = none p lt asks

  pub answering_ends : (start found : List (Option MemberId)) → AreAnswering start found None → AreAnswered known t start found
  answering_ends start found are = record {
    long = are.long;
    told = λ lt q asks. elim (cases_lt q are.k) [
      | inl less ↦ absurd (none_asked are.k (are.last.0 lt) q less asks)
      | inr past ↦ are.told q past asks
    ];
    kept = are.kept;
  }
