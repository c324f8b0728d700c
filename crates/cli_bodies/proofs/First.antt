-- The first failure, one condition after another.
use Rattle.std.proofs.Common.{◌≡◌, ℕ, ◌+◌, ◌<◌, ◌≤◌, ◌⊎◌, Option, Some, None, IfSome, IfNone, Ok, Err, subst, sym, ◌∙◌, inl, inr, arith}
use Rattle.std.proofs.lemmas.Bool.{cases_lt}
use Rattle.std.proofs.lemmas.Bool.Decides.{leb_tells}
use Rattle.dc_causes.specs.First.{IsLeast}
use Rattle.cli_conditions.specs.declared.condition.Condition.{Condition}
use Rattle.cli_conditions.specs.declared.condition.Condition.TheVariants as conditions
use Rattle.cli_conditions.specs.Conditions.{number_of as place_of}
use Rattle.cli_conditions.specs.Laws.{NumbersTell}
use Rattle.cli_bodies.specs.declared.method.Method.{Method}
use Rattle.cli_bodies.specs.declared.method.Failure.{Failure}
use Rattle.cli_bodies.specs.Profile.{Fails, IsFailure, ComesBefore, BodyInProfile}
use Rattle.cli_bodies.specs.Earlier.{earlier, one_of}

-- of the conditions before this place in the order, this is the first failure
pub record IsFirstOf (s : Method) (limit : ℕ) (f : Failure) : Type 0 where
  pub fails : IsFailure s f
  pub low : place_of f.condition < limit
  pub first : (g : Failure) → place_of g.condition < limit → IsFailure s g → ComesBefore g f → ⊥

abbrev pub AreAsked : Method → ℕ → Option Failure → Type 0
AreAsked s limit None = (g : Failure) → place_of g.condition < limit → IsFailure s g → ⊥
AreAsked s limit (Some f) = IsFirstOf s limit f

-- the least offset at which the condition fails
abbrev pub IsOffset : Method → Condition → Option ℕ → Type 0
IsOffset s c None = (offset : ℕ) → Fails s c offset → ⊥
IsOffset s c (Some offset) = IsLeast (Fails s c) offset

last : (j k : ℕ) → j < k + 1 → (j < k) ⊎ (j ≡ k)
last j k lt = elim (cases_lt j k) as (λ _. (j < k) ⊎ (j ≡ k)) [ inl below ↦ inl below | inr above ↦ inr (omega arith) ]

-- a failure of a condition with this one's place is one of this condition
of : (s : Method) (c : Condition) (g : Failure) → NumbersTell → place_of g.condition ≡ place_of c → IsFailure s g → Fails s c g.offset
of s c g tell same fails = let P : Condition → Type 0 = λ d. Fails s d g.offset in subst P (tell g.condition c same) fails

abbrev made : Condition → ℕ → Failure
made c offset = record { condition = c; offset = offset }

new_first : (s : Method) (c : Condition) (offset : ℕ) → NumbersTell → IsLeast (Fails s c) offset
    → ((g : Failure) → place_of g.condition < place_of c → IsFailure s g → g.offset ≤ offset → ⊥)
    → IsFirstOf s (place_of c + 1) (made c offset)
new_first s c offset tell least before = record {
  fails = least.holds;
  low = omega arith;
  first = λ g low fails sooner.
      elim (last (place_of g.condition) (place_of c) low) as (λ _. ⊥) [
        | inl below ↦
            elim sooner as (λ _. ⊥) [
              | inl lt ↦ before g below fails (omega arith)
              | inr (same, _) ↦ before g below fails (omega arith)
            ]
        | inr is ↦
            elim sooner as (λ _. ⊥) [
              | inl lt ↦ least.least g.offset lt (of s c g tell is fails)
              | inr (_, lower) ↦ absurd (omega arith)
            ]
      ];
}

old_first : (s : Method) (c : Condition) (f : Failure) → NumbersTell → IsFirstOf s (place_of c) f
    → ((offset : ℕ) → Fails s c offset → f.offset ≤ offset)
    → IsFirstOf s (place_of c + 1) f
old_first s c f tell first above = record {
  fails = first.fails;
  low = omega (arith, first.low);
  first = λ g low fails sooner.
      elim (last (place_of g.condition) (place_of c) low) as (λ _. ⊥) [
        | inl below ↦ first.first g below fails sooner
        | inr is ↦
            let late : f.offset ≤ g.offset = above g.offset (of s c g tell is fails) in
            elim sooner as (λ _. ⊥) [
              | inl lt ↦ absurd (omega arith)
              | inr (_, lower) ↦ absurd (omega (arith, first.low))
            ]
      ];
}

-- one more condition
pub step : (s : Method) (c : Condition) (first : Option Failure) (offset : Option ℕ) → NumbersTell → AreAsked s (place_of c) first → IsOffset s c offset
    → AreAsked s (place_of c + 1) (earlier first c offset)
step s c None None tell asked none = λ g low fails.
    elim (last (place_of g.condition) (place_of c) low) as (λ _. ⊥) [
      | inl below ↦ asked g below fails
      | inr is ↦ none g.offset (of s c g tell is fails)
    ]
step s c (Some f) None tell asked none = old_first s c f tell asked (λ offset fails. absurd (none offset fails))
step s c None (Some offset) tell asked least = new_first s c offset tell least (λ g low fails _. asked g low fails)
step s c (Some f) (Some offset) tell asked least =
    elim (leb_tells f.offset offset) as (λ _. IsFirstOf s (place_of c + 1) (one_of f (made c offset))) [
      | inl (is, le) ↦
          rw is (
          old_first s c f tell asked
          (λ n fails. elim (cases_lt n offset) as (λ _. f.offset ≤ n) [ inl below ↦ absurd (least.least n below fails) | inr above ↦ omega arith ])
          )
      | inr (is, lt) ↦
          rw is (new_first s c offset tell least (λ g low fails le. asked.first g low fails (inl (omega arith))))
    ]

-- the same, where the answer is told
pub next : (s : Method) (c : Condition) (first answer : Option Failure) (offset : Option ℕ) → NumbersTell → answer ≡ earlier first c offset
    → AreAsked s (place_of c) first → IsOffset s c offset → AreAsked s (place_of c + 1) answer
next s c first answer offset tell is asked at =
    let P : Option Failure → Type 0 = λ o. AreAsked s (place_of c + 1) o in
    subst P (sym is) (step s c first offset tell asked at)

pub offset_of : (s : Method) (c : Condition) (offset : Option ℕ) → IfSome offset (IsLeast (Fails s c)) → IfNone offset ((n : ℕ) → Fails s c n → ⊥) → IsOffset s c offset
offset_of s c None some none = none
offset_of s c (Some n) some none = some

pub head_of : (s : Method) (offset : Option ℕ) → s.head ≡ offset → IsOffset s conditions.Head offset
head_of s None is = λ n other. absurd (let no : None ≡ Some n = sym is ∙ other in cc)
head_of s (Some n) is = record {
  holds = is;
  least = λ m lt other. let same : Some m ≡ Some n = sym other ∙ is in let number : m ≡ n = cc in absurd (omega arith);
}

-- no condition before the first of these is asked of a body
pub begin : (s : Method) → AreAsked s 29 None
begin s g low fails = none_low g.condition g.offset low fails
  where
    none_low : (c : Condition) (offset : ℕ) → place_of c < 29 → Fails s c offset → ⊥
    none_low conditions.CatchClass offset low fails = absurd (omega arith)
    none_low conditions.CatchOrder offset low fails = absurd (omega arith)
    none_low conditions.Head offset low fails = absurd (omega arith)
    none_low conditions.Unbox offset low fails = absurd (omega arith)
    none_low _ offset low fails = fails

-- and none behind the last
all_low : (s : Method) (c : Condition) (offset : ℕ) → Fails s c offset → place_of c < 33
all_low s conditions.CatchClass offset fails = omega arith
all_low s conditions.CatchOrder offset fails = omega arith
all_low s conditions.Head offset fails = omega arith
all_low s conditions.Unbox offset fails = omega arith
all_low s _ offset fails = absurd fails

pub met : (s : Method) → AreAsked s 33 None → BodyInProfile s (Ok tt)
met s asked f fails = asked f (all_low s f.condition f.offset fails) fails

pub unmet : (s : Method) (f : Failure) → AreAsked s 33 (Some f) → BodyInProfile s (Err f)
unmet s f first = record {
  fails = first.fails;
  first = λ g fails. first.first g (all_low s g.condition g.offset fails) fails;
}
