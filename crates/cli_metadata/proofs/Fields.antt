-- Fields, of which the first that isn't right gives the fault.
use Rattle.std.proofs.Common.{◌≡◌, ◌⊎◌, inl, inr, ℕ, ◌+◌, ◌<◌, ◌≤◌, List, [], ◌∷◌, ◌++◌, length, drop, Bool, true, false, cond, ltb, Result, Ok, Err, refl, sym, ap, subst, ◌∙◌, arith}
use Rattle.std.specs.Prelude.{All, nat_lt, ◌==◌}
use Rattle.byteorder.specs.Endian.{little_number}
use Rattle.std.proofs.lemmas.Bool.Decides.{eqb_tells}
use Rattle.cli_metadata.specs.declared.fault.MetaFault.{MetaFault}
use Rattle.cli_metadata.specs.declared.fault.MetaCause.{MetaCause}
use Rattle.cli_metadata.specs.Reading.{◌>>=◌, behind, number_at, holds}
use Rattle.cli_metadata.specs.Wrong.{Field, field, field_of, field_below, IsRight, IsFirstWrong}
use Rattle.cli_metadata.proofs.Named.{all-none, all-more, all-behind, all-first}
use Rattle.cli_metadata.proofs.Steps.{number-is, number-there, behind-is}

abbrev pub fault : MetaCause → ℕ → MetaFault
fault c place = record { cause = c; place = place }

-- what an error is
pub err_is : {A : Type 0} (f g : MetaFault) → (let e : Result A MetaFault = Err f in e) ≡ Err g → f ≡ g
err_is f g e = cc

pub bind_err : {A B : Type 0} (r : Result A MetaFault) (f : A → Result B MetaFault) (g : MetaFault) → (r >>= f) ≡ Err g → (r ≡ Err g) ⊎ ((x : A) × (r ≡ Ok x) × (f x ≡ Err g))
bind_err (Ok x) f g e = inr (x, refl, e)
bind_err (Err d) f g e = inl (let same : d ≡ g = cc in ap (λ (x : MetaFault). Err x) same)

pub le_or : (a b : ℕ) → (a ≤ b) ⊎ (b < a)
le_or a b = elim (ltb b a) as (λ (t : Bool). ltb b a ≡ t → (a ≤ b) ⊎ (b < a)) [
  | true ↦ λ t. inr (grind arith)
  | false ↦ λ t. inl (grind arith)
] refl

pub lt-ltb : (a b : ℕ) → a < b → ltb a b ≡ true
lt-ltb a b lt = grind arith

pub lt_tells : (a b : ℕ) → ((ltb a b ≡ true) × (a < b)) ⊎ ((ltb a b ≡ false) × (b ≤ a))
lt_tells a b = elim (ltb a b) as (λ (t : Bool). ltb a b ≡ t → ((ltb a b ≡ true) × (a < b)) ⊎ ((ltb a b ≡ false) × (b ≤ a))) [
  | true ↦ λ t. inl (t, grind arith)
  | false ↦ λ t. inr (t, grind arith)
] refl

-- ---- the first that isn't right, from the front on

abbrev pub FirstOf : List ℕ → List Field → ℕ → Type 0
FirstOf bytes [] place = ⊥
FirstOf bytes (x ∷ xs) place = ((¬ (IsRight bytes x)) × (x.place ≡ place)) ⊎ (IsRight bytes x × FirstOf bytes xs place)

first-at : (bytes : List ℕ) (before : List Field) (wrong : Field) (behind : List Field) (place : ℕ) → All (IsRight bytes) before → (¬ (IsRight bytes wrong)) → wrong.place ≡ place → FirstOf bytes (before ++ wrong ∷ behind) place
first-at bytes [] wrong behind place all bad its = inl (bad, its)
first-at bytes (x ∷ before) wrong behind place all bad its =
    inr (all-first (IsRight bytes) x before all, first-at bytes before wrong behind place (all-behind (IsRight bytes) x before all) bad its)

pub first-of : (bytes : List ℕ) (fields : List Field) (place : ℕ) → IsFirstWrong bytes fields place → FirstOf bytes fields place
first-of bytes fields place w = subst (λ (xs : List Field). FirstOf bytes xs place) (sym w.among) (first-at bytes w.before w.wrong w.behind place w.right w.not_right w.its)

pub first-wrong : (bytes : List ℕ) (fields : List Field) (place : ℕ) → FirstOf bytes fields place → IsFirstWrong bytes fields place
first-wrong bytes [] place w = absurd w
first-wrong bytes (x ∷ fields) place w = elim w [
  | inl bad ↦ record { before = []; wrong = x; behind = fields; among = refl; right = all-none (IsRight bytes); not_right = bad.0; its = bad.1 }
  | inr good ↦ (let r = first-wrong bytes fields place good.1 in
      record {
        before = x ∷ r.before;
        wrong = r.wrong;
        behind = r.behind;
        among = ap (λ (xs : List Field). x ∷ xs) r.among;
        right = all-more (IsRight bytes) x r.before good.0 r.right;
        not_right = r.not_right;
        its = r.its;
      })
]

pub first-longer : (bytes : List ℕ) (xs ys : List Field) (place : ℕ) → FirstOf bytes xs place → FirstOf bytes (xs ++ ys) place
first-longer bytes [] ys place w = absurd w
first-longer bytes (x ∷ xs) ys place w = elim w [
  | inl bad ↦ inl bad
  | inr good ↦ inr (good.0, first-longer bytes xs ys place good.1)
]

-- ---- a fault that was met

abbrev pub Goes : List ℕ → MetaCause → List Field → MetaFault → Type 0 → Type 0
Goes bytes c [] f Q = Q
Goes bytes c (x ∷ xs) f Q = ((¬ (IsRight bytes x)) × (fault c x.place ≡ f)) ⊎ (IsRight bytes x × Goes bytes c xs f Q)

pub goes : (bytes : List ℕ) (c : MetaCause) (fields : List Field) (f : MetaFault) (Q : Type 0) → Goes bytes c fields f Q → ((f.cause ≡ c) × FirstOf bytes fields f.place) ⊎ (All (IsRight bytes) fields × Q)
goes bytes c [] f Q w = inr (all-none (IsRight bytes), w)
goes bytes c (x ∷ fields) f Q w = elim w [
  | inl bad ↦ inl (ap (λ (g : MetaFault). g.cause) (sym bad.1), inl (bad.0, ap (λ (g : MetaFault). g.place) bad.1))
  | inr good ↦ elim (goes bytes c fields f Q good.1) [
    | inl a ↦ inl (a.0, inr (good.0, a.1))
    | inr b ↦ inr (all-more (IsRight bytes) x fields good.0 b.0, b.1)
  ]
]

pub guard_fails : {A B : Type 0} (len end : ℕ) (d : MetaFault) (x : A) (k : A → Result B MetaFault) (f : MetaFault) → (cond (ltb len end) (Err d) (Ok x) >>= k) ≡ Err f → ((len < end) × (d ≡ f)) ⊎ ((end ≤ len) × (k x ≡ Err f))
guard_fails len end d x k f e = elim (ltb len end) as (λ (b : Bool). ltb len end ≡ b → (cond b (Err d) (Ok x) >>= k) ≡ Err f → ((len < end) × (d ≡ f)) ⊎ ((end ≤ len) × (k x ≡ Err f))) [
  | true ↦ λ t g. inl (grind arith, cc)
  | false ↦ λ t g. inr (grind arith, g)
] refl e

pub number-fails : {B : Type 0} (c : MetaCause) (n : ℕ) (bytes : List ℕ) (at : ℕ) (k : ℕ → Result B MetaFault) (f : MetaFault) (fields : List Field) (Q : Type 0) → (number_at c n bytes at >>= k) ≡ Err f
    → (at + n ≤ length bytes → k (little_number n (drop at bytes)) ≡ Err f → Goes bytes c fields f Q) → Goes bytes c (field at n ∷ fields) f Q
number-fails c n bytes at k f fields Q e more = elim (guard_fails (length bytes) (at + n) (fault c at) (little_number n (drop at bytes)) k f e) [
  | inl a ↦ inl (λ whole. omega arith, a.1)
  | inr b ↦ inr (b.0, more b.0 b.1)
]

pub behind-fails : {B : Type 0} (c : MetaCause) (n : ℕ) (bytes : List ℕ) (at : ℕ) (k : ℕ → Result B MetaFault) (f : MetaFault) (fields : List Field) (Q : Type 0) → (behind c n bytes at >>= k) ≡ Err f
    → (at + n ≤ length bytes → k (at + n) ≡ Err f → Goes bytes c fields f Q) → Goes bytes c (field at n ∷ fields) f Q
behind-fails c n bytes at k f fields Q e more = elim (guard_fails (length bytes) (at + n) (fault c at) (at + n) k f e) [
  | inl a ↦ inl (λ whole. omega arith, a.1)
  | inr b ↦ inr (b.0, more b.0 b.1)
]

pub holds-fails : {B : Type 0} (c : MetaCause) (b : Bool) (at : ℕ) (k : ℕ → Result B MetaFault) (f : MetaFault) → (holds b c at >>= k) ≡ Err f → ((b ≡ false) × (fault c at ≡ f)) ⊎ ((b ≡ true) × (k at ≡ Err f))
holds-fails c true at k f e = inr (refl, e)
holds-fails c false at k f e = inl (refl, cc)

pub value-fails : {B : Type 0} (c : MetaCause) (n v : ℕ) (bytes : List ℕ) (at : ℕ) (k : ℕ → ℕ → Result B MetaFault) (f : MetaFault) (fields : List Field) (Q : Type 0)
    → (number_at c n bytes at >>= λ x. (holds (x == v) c at >>= k x)) ≡ Err f → (at + n ≤ length bytes → k (little_number n (drop at bytes)) at ≡ Err f → Goes bytes c fields f Q) → Goes bytes c (field_of at n v ∷ fields) f Q
value-fails c n v bytes at k f fields Q e more =
    let x = little_number n (drop at bytes) in
    elim (guard_fails (length bytes) (at + n) (fault c at) (little_number n (drop at bytes)) (λ x. (holds (x == v) c at >>= k x)) f e) [
      | inl a ↦ inl (λ w. let whole = w.whole in omega arith, a.1)
      | inr b ↦ elim (eqb_tells (little_number n (drop at bytes)) v) [
        | inl same ↦ (let t : (little_number n (drop at bytes) == v) ≡ true = same.0 in
            let g : k (little_number n (drop at bytes)) at ≡ Err f = elim (holds-fails c (little_number n (drop at bytes) == v) at (k (little_number n (drop at bytes))) f b.1) [ inl z ↦ absurd cc | inr z ↦ z.1 ] in
            inr (record { whole = b.0; same = sym same.1 }, more b.0 g))
        | inr other ↦ (let g : fault c at ≡ f = elim (holds-fails c (little_number n (drop at bytes) == v) at (k (little_number n (drop at bytes))) f b.1) [ inl z ↦ z.1 | inr z ↦ absurd cc ] in
            inl (λ w. other.1 (sym w.same), g))
      ]
    ]

pub below-fails : {B : Type 0} (c : MetaCause) (n v : ℕ) (bytes : List ℕ) (at : ℕ) (k : ℕ → ℕ → Result B MetaFault) (f : MetaFault) (fields : List Field) (Q : Type 0)
    → (number_at c n bytes at >>= λ x. (holds (nat_lt x v) c at >>= k x)) ≡ Err f → (at + n ≤ length bytes → k (little_number n (drop at bytes)) at ≡ Err f → Goes bytes c fields f Q) → Goes bytes c (field_below at n v ∷ fields) f Q
below-fails c n v bytes at k f fields Q e more = elim (guard_fails (length bytes) (at + n) (fault c at) (little_number n (drop at bytes)) (λ x. (holds (nat_lt x v) c at >>= k x)) f e) [
  | inl a ↦ inl (λ w. let whole = w.1.whole in omega arith, a.1)
  | inr b ↦ elim (lt_tells (little_number n (drop at bytes)) v) [
    | inl low ↦ (let t : nat_lt (little_number n (drop at bytes)) v ≡ true = low.0 in
        let g : k (little_number n (drop at bytes)) at ≡ Err f = elim (holds-fails c (nat_lt (little_number n (drop at bytes)) v) at (k (little_number n (drop at bytes))) f b.1) [ inl z ↦ absurd cc | inr z ↦ z.1 ] in
        inr ((little_number n (drop at bytes), number-there n bytes at b.0, low.1), more b.0 g))
    | inr high ↦ (let g : fault c at ≡ f = elim (holds-fails c (nat_lt (little_number n (drop at bytes)) v) at (k (little_number n (drop at bytes))) f b.1) [ inl z ↦ z.1 | inr z ↦ absurd cc ] in
        let least = high.1 in
        inl (λ w. let same = w.1.same in let low = w.2 in omega arith, g))
  ]
]

-- ---- a fault that is to be met

pub number-cut : (c : MetaCause) (n : ℕ) (bytes : List ℕ) (at : ℕ) → length bytes < at + n → number_at c n bytes at ≡ Err (fault c at)
number-cut c n bytes at lt =
    let past : ltb (length bytes) (at + n) ≡ true = lt-ltb (length bytes) (at + n) lt in
    rw past refl

pub behind-cut : (c : MetaCause) (n : ℕ) (bytes : List ℕ) (at : ℕ) → length bytes < at + n → behind c n bytes at ≡ Err (fault c at)
behind-cut c n bytes at lt =
    let past : ltb (length bytes) (at + n) ≡ true = lt-ltb (length bytes) (at + n) lt in
    rw past refl

pub bound-err : {A B : Type 0} (r : Result A MetaFault) (k : A → Result B MetaFault) (f : MetaFault) → r ≡ Err f → (r >>= k) ≡ Err f
bound-err r k f e = rw e refl

pub bound-ok : {A B : Type 0} (r : Result A MetaFault) (k : A → Result B MetaFault) (x : A) (f : MetaFault) → r ≡ Ok x → k x ≡ Err f → (r >>= k) ≡ Err f
bound-ok r k x f e g = rw e g

pub number-meets : {B : Type 0} (c : MetaCause) (n : ℕ) (bytes : List ℕ) (at : ℕ) (k : ℕ → Result B MetaFault) (fields : List Field) (place : ℕ) → FirstOf bytes (field at n ∷ fields) place
    → (at + n ≤ length bytes → FirstOf bytes fields place → k (little_number n (drop at bytes)) ≡ Err (fault c place)) → (number_at c n bytes at >>= k) ≡ Err (fault c place)
number-meets c n bytes at k fields place w more = elim w [
  | inl bad ↦ (let cut : length bytes < at + n = elim (le_or (at + n) (length bytes)) [ inl le ↦ absurd (bad.0 le) | inr lt ↦ lt ] in
      bound-err (number_at c n bytes at) k (fault c place) (number-cut c n bytes at cut ∙ ap (λ (p : ℕ). Err (fault c p)) bad.1))
  | inr good ↦ bound-ok (number_at c n bytes at) k (little_number n (drop at bytes)) (fault c place) (number-is c n bytes at (little_number n (drop at bytes)) (number-there n bytes at good.0)) (more good.0 good.1)
]

pub behind-meets : {B : Type 0} (c : MetaCause) (n : ℕ) (bytes : List ℕ) (at : ℕ) (k : ℕ → Result B MetaFault) (fields : List Field) (place : ℕ) → FirstOf bytes (field at n ∷ fields) place
    → (at + n ≤ length bytes → FirstOf bytes fields place → k (at + n) ≡ Err (fault c place)) → (behind c n bytes at >>= k) ≡ Err (fault c place)
behind-meets c n bytes at k fields place w more = elim w [
  | inl bad ↦ (let cut : length bytes < at + n = elim (le_or (at + n) (length bytes)) [ inl le ↦ absurd (bad.0 le) | inr lt ↦ lt ] in
      bound-err (behind c n bytes at) k (fault c place) (behind-cut c n bytes at cut ∙ ap (λ (p : ℕ). Err (fault c p)) bad.1))
  | inr good ↦ bound-ok (behind c n bytes at) k (at + n) (fault c place) (behind-is c n bytes at good.0) (more good.0 good.1)
]

holds-no : {B : Type 0} (c : MetaCause) (b : Bool) (at : ℕ) (k : ℕ → Result B MetaFault) → b ≡ false → (holds b c at >>= k) ≡ Err (fault c at)
holds-no c b at k e = rw e refl

holds-yes : {B : Type 0} (c : MetaCause) (b : Bool) (at : ℕ) (k : ℕ → Result B MetaFault) → b ≡ true → (holds b c at >>= k) ≡ k at
holds-yes c b at k e = rw e refl

pub value-meets : {B : Type 0} (c : MetaCause) (n v : ℕ) (bytes : List ℕ) (at : ℕ) (k : ℕ → ℕ → Result B MetaFault) (fields : List Field) (place : ℕ) → FirstOf bytes (field_of at n v ∷ fields) place
    → (at + n ≤ length bytes → FirstOf bytes fields place → k (little_number n (drop at bytes)) at ≡ Err (fault c place)) → (number_at c n bytes at >>= λ x. (holds (x == v) c at >>= k x)) ≡ Err (fault c place)
value-meets {B} c n v bytes at k fields place w more =
    let on : ℕ → Result B MetaFault = λ x. (holds (x == v) c at >>= k x) in
    elim w [
      | inl bad ↦ elim (le_or (at + n) (length bytes)) [
        | inl le ↦ (let other : (little_number n (drop at bytes) == v) ≡ false = elim (eqb_tells (little_number n (drop at bytes)) v) [ inl same ↦ absurd (bad.0 (record { whole = le; same = sym same.1 })) | inr z ↦ z.0 ] in
            bound-ok (number_at c n bytes at) on (little_number n (drop at bytes)) (fault c place) (number-is c n bytes at (little_number n (drop at bytes)) (number-there n bytes at le))
            (holds-no c (little_number n (drop at bytes) == v) at (k (little_number n (drop at bytes))) other ∙ ap (λ (p : ℕ). Err (fault c p)) bad.1))
        | inr lt ↦ bound-err (number_at c n bytes at) on (fault c place) (number-cut c n bytes at lt ∙ ap (λ (p : ℕ). Err (fault c p)) bad.1)
      ]
      | inr good ↦ (let same : (little_number n (drop at bytes) == v) ≡ true = elim (eqb_tells (little_number n (drop at bytes)) v) [ inl z ↦ z.0 | inr z ↦ absurd (z.1 (sym good.0.same)) ] in
          bound-ok (number_at c n bytes at) on (little_number n (drop at bytes)) (fault c place) (number-is c n bytes at (little_number n (drop at bytes)) (number-there n bytes at good.0.whole))
          (holds-yes c (little_number n (drop at bytes) == v) at (k (little_number n (drop at bytes))) same ∙ more good.0.whole good.1))
    ]

pub below-meets : {B : Type 0} (c : MetaCause) (n v : ℕ) (bytes : List ℕ) (at : ℕ) (k : ℕ → ℕ → Result B MetaFault) (fields : List Field) (place : ℕ) → FirstOf bytes (field_below at n v ∷ fields) place
    → (at + n ≤ length bytes → FirstOf bytes fields place → k (little_number n (drop at bytes)) at ≡ Err (fault c place)) → (number_at c n bytes at >>= λ x. (holds (nat_lt x v) c at >>= k x)) ≡ Err (fault c place)
below-meets {B} c n v bytes at k fields place w more =
    let on : ℕ → Result B MetaFault = λ x. (holds (nat_lt x v) c at >>= k x) in
    elim w [
      | inl bad ↦ elim (le_or (at + n) (length bytes)) [
        | inl le ↦ (let high : nat_lt (little_number n (drop at bytes)) v ≡ false = elim (lt_tells (little_number n (drop at bytes)) v) [ inl low ↦ absurd (bad.0 (little_number n (drop at bytes), number-there n bytes at le, low.1)) | inr z ↦ z.0 ] in
            bound-ok (number_at c n bytes at) on (little_number n (drop at bytes)) (fault c place) (number-is c n bytes at (little_number n (drop at bytes)) (number-there n bytes at le))
            (holds-no c (nat_lt (little_number n (drop at bytes)) v) at (k (little_number n (drop at bytes))) high ∙ ap (λ (p : ℕ). Err (fault c p)) bad.1))
        | inr lt ↦ bound-err (number_at c n bytes at) on (fault c place) (number-cut c n bytes at lt ∙ ap (λ (p : ℕ). Err (fault c p)) bad.1)
      ]
      | inr good ↦ (let number = good.0.1 in
          let same = number.same in
          let its = good.0.2 in
          let low : nat_lt (little_number n (drop at bytes)) v ≡ true = elim (lt_tells (little_number n (drop at bytes)) v) [ inl z ↦ z.0 | inr z ↦ (let most = z.1 in absurd (omega arith)) ] in
          bound-ok (number_at c n bytes at) on (little_number n (drop at bytes)) (fault c place) (number-is c n bytes at (little_number n (drop at bytes)) (number-there n bytes at number.whole))
          (holds-yes c (nat_lt (little_number n (drop at bytes)) v) at (k (little_number n (drop at bytes))) low ∙ more number.whole good.1))
    ]
