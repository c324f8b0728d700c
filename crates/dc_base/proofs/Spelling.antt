-- The three forms in which a number is spelled.
use Rattle.std.proofs.Common.{◌≡◌, ℕ, ◌+◌, ◌*◌, ◌-◌, ◌/◌, ◌%◌, ◌<◌, ◌≤◌, ◌⊎◌, List, [], ◌∷◌, ◌++◌, length, drop, sym, ◌∙◌, ap, inl, inr, arith}
use Rattle.std.proofs.lemmas.Bool.{cases_lt}
use Rattle.std.proofs.lemmas.Bool.Decides.{nat_tests}
use Rattle.std.proofs.lemmas.List.{take-append-drop}
use Rattle.dc_base.specs.Spelling.{spelling, BeginsWithNumber, BeginsWithNone, BeginsWithOne}

pub spelling-one : (n : ℕ) → n < 128 → spelling n ≡ n ∷ []
spelling-one n h = grind (arith, nat_tests)

pub spelling-two : (n : ℕ) → 128 ≤ n → n < 16384 → spelling n ≡ (128 + n / 256) ∷ (n % 256) ∷ []
spelling-two n l h = grind (arith, nat_tests)

pub spelling-four : (n : ℕ) → 16384 ≤ n → spelling n ≡ (192 + n / 16777216) ∷ (n / 65536 % 256) ∷ (n / 256 % 256) ∷ (n % 256) ∷ []
spelling-four n l = grind (arith, nat_tests)

-- the bytes are the spelling and a rest
pub begins_split : (bytes : List ℕ) (n len : ℕ) → BeginsWithNumber bytes n len → bytes ≡ spelling n ++ drop len bytes
begins_split bytes n len h = sym (take-append-drop len bytes) ∙ ap (λ (xs : List ℕ). xs ++ drop len bytes) h.spelled

pub record InOne (bytes : List ℕ) (n len : ℕ) : Type 0 where
  pub below : n < 128
  pub long : len ≡ 1
  pub rest : List ℕ
  pub is : bytes ≡ n ∷ rest

pub record InTwo (bytes : List ℕ) (n len : ℕ) : Type 0 where
  pub from : 128 ≤ n
  pub below : n < 16384
  pub long : len ≡ 2
  pub rest : List ℕ
  pub is : bytes ≡ (128 + n / 256) ∷ (n % 256) ∷ rest

pub record InFour (bytes : List ℕ) (n len : ℕ) : Type 0 where
  pub from : 16384 ≤ n
  pub below : n < 536870912
  pub long : len ≡ 4
  pub rest : List ℕ
  pub is : bytes ≡ (192 + n / 16777216) ∷ (n / 65536 % 256) ∷ (n / 256 % 256) ∷ (n % 256) ∷ rest

-- a number stands in one of the forms
pub forms : (bytes : List ℕ) (n len : ℕ) → BeginsWithNumber bytes n len → InOne bytes n len ⊎ InTwo bytes n len ⊎ InFour bytes n len
forms bytes n len h =
    let s = begins_split bytes n len h in
    elim (cases_lt n 128) [
      | inl small ↦
          let e = spelling-one n small in
          inl (record { below = small; long = h.long ∙ ap (length {A = ℕ}) e; rest = drop len bytes; is = s ∙ ap (λ (xs : List ℕ). xs ++ drop len bytes) e })
      | inr big ↦
          elim (cases_lt n 16384) [
            | inl small ↦
                let e = spelling-two n big small in
                inr (inl (record { from = big; below = small; long = h.long ∙ ap (length {A = ℕ}) e; rest = drop len bytes; is = s ∙ ap (λ (xs : List ℕ). xs ++ drop len bytes) e }))
            | inr large ↦
                let e = spelling-four n large in
                inr (inr (record { from = large; below = h.fits; long = h.long ∙ ap (length {A = ℕ}) e; rest = drop len bytes; is = s ∙ ap (λ (xs : List ℕ). xs ++ drop len bytes) e }))
          ]
    ]

pub begins_one : (a : ℕ) (rest : List ℕ) → a < 128 → BeginsWithNumber (a ∷ rest) a 1
begins_one a rest h =
    let e = spelling-one a h in
    record { fits = omega arith; long = sym (ap (length {A = ℕ}) e); spelled = sym e }

pub begins_two : (a b : ℕ) (rest : List ℕ) (n : ℕ) → 128 ≤ a → a < 192 → b < 256 → n ≡ (a - 128) * 256 + b → 128 ≤ n → BeginsWithNumber (a ∷ b ∷ rest) n 2
begins_two a b rest n la ha hb is from =
    let e = spelling-two n from (omega arith) in
    let p : a ≡ 128 + n / 256 = omega arith in
    let q : b ≡ n % 256 = omega arith in
    record { fits = omega arith; long = sym (ap (length {A = ℕ}) e); spelled = cc }

pub begins_four : (a b c d : ℕ) (rest : List ℕ) (n : ℕ) → 192 ≤ a → a < 224 → b < 256 → c < 256 → d < 256 → n ≡ ((a - 192) * 256 + b) * 65536 + (c * 256 + d) → 16384 ≤ n → BeginsWithNumber (a ∷ b ∷ c ∷ d ∷ rest) n 4
begins_four a b c d rest n la ha hb hc hd is from =
    let e = spelling-four n from in
    let p : a ≡ 192 + n / 16777216 = omega arith in
    let q : b ≡ n / 65536 % 256 = omega arith in
    let r : c ≡ n / 256 % 256 = omega arith in
    let s : d ≡ n % 256 = omega arith in
    record { fits = omega arith; long = sym (ap (length {A = ℕ}) e); spelled = cc }

pub none_nil : BeginsWithNone []
none_nil n len h =
    elim (forms [] n len h) [ inl f ↦ cc (f.is) | inr g ↦ elim g [ inl f ↦ cc (f.is) | inr f ↦ cc (f.is) ] ]

-- a list that begins with 128 to 191 begins with the spelling of no number but one in two bytes
pub only_two : (a : ℕ) (rest : List ℕ) (n len : ℕ) → 128 ≤ a → a < 192 → BeginsWithNumber (a ∷ rest) n len → InTwo (a ∷ rest) n len
only_two a rest n len la ha h =
    elim (forms (a ∷ rest) n len h) [
      | inl f ↦ let e : a ≡ n = cc (f.is) in absurd (omega (arith, e, f.below))
      | inr g ↦ elim g [
        | inl f ↦ f
        | inr f ↦ let e : a ≡ 192 + n / 16777216 = cc (f.is) in absurd (omega arith)
      ]
    ]

-- a list that begins with 192 or more begins with the spelling of no number but one in four bytes
pub only_four : (a : ℕ) (rest : List ℕ) (n len : ℕ) → 192 ≤ a → BeginsWithNumber (a ∷ rest) n len → InFour (a ∷ rest) n len
only_four a rest n len la h =
    elim (forms (a ∷ rest) n len h) [
      | inl f ↦ let e : a ≡ n = cc (f.is) in absurd (omega (arith, e, f.below))
      | inr g ↦ elim g [
        | inl f ↦ let e : a ≡ 128 + n / 256 = cc (f.is) in absurd (omega (arith, e, f.below))
        | inr f ↦ f
      ]
    ]

pub none_lone : (a : ℕ) → 128 ≤ a → a < 192 → BeginsWithNone (a ∷ [])
none_lone a la ha n len h = let f = only_two a [] n len la ha h in cc (f.is)

pub none_two : (a b : ℕ) (rest : List ℕ) → 128 ≤ a → a < 192 → (a - 128) * 256 + b < 128 → BeginsWithNone (a ∷ b ∷ rest)
none_two a b rest la ha low n len h =
    let f = only_two a (b ∷ rest) n len la ha h in
    let p : a ≡ 128 + n / 256 = cc (f.is) in
    let q : b ≡ n % 256 = cc (f.is) in
    absurd (omega (arith, p, q, f.from))

pub none_high : (a : ℕ) (rest : List ℕ) → 224 ≤ a → BeginsWithNone (a ∷ rest)
none_high a rest la n len h =
    let f = only_four a rest n len (omega arith) h in
    let p : a ≡ 192 + n / 16777216 = cc (f.is) in
    absurd (omega (arith, p, f.below))

pub none_short : (a : ℕ) (rest : List ℕ) → 192 ≤ a → length rest < 3 → BeginsWithNone (a ∷ rest)
none_short a rest la few n len h =
    let f = only_four a rest n len la h in
    let p : length (a ∷ rest) ≡ 4 + length f.rest = ap (length {A = ℕ}) f.is ∙ (omega arith) in
    absurd (omega (arith, p))

pub none_four : (a b c d : ℕ) (rest : List ℕ) → 192 ≤ a → ((a - 192) * 256 + b) * 65536 + (c * 256 + d) < 16384 → BeginsWithNone (a ∷ b ∷ c ∷ d ∷ rest)
none_four a b c d rest la low n len h =
    let f = only_four a (b ∷ c ∷ d ∷ rest) n len la h in
    let p : a ≡ 192 + n / 16777216 = cc (f.is) in
    let q : b ≡ n / 65536 % 256 = cc (f.is) in
    let r : c ≡ n / 256 % 256 = cc (f.is) in
    let s : d ≡ n % 256 = cc (f.is) in
    absurd (omega (arith, p, q, r, s, f.from))

-- beside one number in one byte the bytes begin with no other
unique_one : (bytes : List ℕ) (m n k l : ℕ) → InOne bytes m k → BeginsWithNumber bytes n l → (m ≡ n) × (k ≡ l)
unique_one bytes m n k l f g =
    let low = f.below in
    elim (forms bytes n l g) [
      | inl e ↦ let p : m ≡ n = cc (f.is, e.is) in (p, f.long ∙ sym e.long)
      | inr o ↦ elim o [
        | inl e ↦ let p : m ≡ 128 + n / 256 = cc (f.is, e.is) in absurd (omega arith)
        | inr e ↦ let p : m ≡ 192 + n / 16777216 = cc (f.is, e.is) in absurd (omega arith)
      ]
    ]

unique_two : (bytes : List ℕ) (m n k l : ℕ) → InTwo bytes m k → BeginsWithNumber bytes n l → (m ≡ n) × (k ≡ l)
unique_two bytes m n k l f g =
    let low = f.from in
    let high = f.below in
    elim (forms bytes n l g) [
      | inl e ↦ let p : n ≡ 128 + m / 256 = cc (f.is, e.is) in let b = e.below in absurd (omega arith)
      | inr o ↦ elim o [
        | inl e ↦
            let p : 128 + m / 256 ≡ 128 + n / 256 = cc (f.is, e.is) in
            let q : m % 256 ≡ n % 256 = cc (f.is, e.is) in
            (omega arith, f.long ∙ sym e.long)
        | inr e ↦ let p : 128 + m / 256 ≡ 192 + n / 16777216 = cc (f.is, e.is) in absurd (omega arith)
      ]
    ]

unique_four : (bytes : List ℕ) (m n k l : ℕ) → InFour bytes m k → BeginsWithNumber bytes n l → (m ≡ n) × (k ≡ l)
unique_four bytes m n k l f g =
    elim (forms bytes n l g) [
      | inl e ↦ let p : n ≡ 192 + m / 16777216 = cc (f.is, e.is) in let b = e.below in absurd (omega arith)
      | inr o ↦ elim o [
        | inl e ↦ let p : 128 + n / 256 ≡ 192 + m / 16777216 = cc (f.is, e.is) in let b = e.below in absurd (omega arith)
        | inr e ↦
            let p : 192 + m / 16777216 ≡ 192 + n / 16777216 = cc (f.is, e.is) in
            let q : m / 65536 % 256 ≡ n / 65536 % 256 = cc (f.is, e.is) in
            let r : m / 256 % 256 ≡ n / 256 % 256 = cc (f.is, e.is) in
            let s : m % 256 ≡ n % 256 = cc (f.is, e.is) in
            (omega arith, f.long ∙ sym e.long)
      ]
    ]

pub begins_unique : BeginsWithOne
begins_unique bytes m n k l h g =
    elim (forms bytes m k h) [
      | inl f ↦ unique_one bytes m n k l f g
      | inr o ↦ elim o [ inl f ↦ unique_two bytes m n k l f g | inr f ↦ unique_four bytes m n k l f g ]
    ]
