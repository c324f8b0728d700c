-- Pairs, written down from the first row on.
use Rattle.std.proofs.Common.{◌≡◌, ◌∙◌, ℕ, ◌+◌, ◌-◌, ◌/◌, ◌^◌, Option, None, List, [], ◌∷◌, ◌++◌, length, length-append, Some, inl, inr, sym, ap, subst, arith}
use Rattle.std.specs.List.{slice_get}
use Rattle.class_keys.proofs.Items.{pushed_item}
use Rattle.dc_base.specs.declared.names.MemberId.{MemberId}
use Rattle.cli_metadata.specs.Metadata.{Contents}
use Rattle.cli_explicit.specs.declared.meant.Meant.{Meant}
use Rattle.dc_base.specs.declared.names.Token.{Token}
use Rattle.cli_explicit.specs.Explicit.{IsReferred, Means, IsMeantBy, IsPair}

-- a pair for each of the first rows
pub record AreFirst (m : Contents) (s : Meant) (count : ℕ) (pairs : List (MemberId × MemberId)) : Type 0 where
  pub long : length pairs ≡ count
  pub each : (k : ℕ) (pair : MemberId × MemberId) → slice_get pairs k ≡ Some pair → IsPair m s k pair

pub one_more : (m : Contents) (s : Meant) (count : ℕ) (pairs after : List (MemberId × MemberId)) (pair : MemberId × MemberId) → IsPair m s count pair → after ≡ pairs ++ (pair ∷ []) → AreFirst m s count pairs → AreFirst m s (count + 1) after
one_more m s count pairs after pair is more so =
    let long = length-append pairs (pair ∷ []) in
    record {
      long = ap (λ (xs : List (MemberId × MemberId)). length xs) more ∙ omega (arith, long, so.long);
      each = λ j other at. elim (pushed_item pairs pair j other (subst (λ (xs : List (MemberId × MemberId)). slice_get xs j ≡ Some other) more at)) [
        | inl old ↦ so.each j other old
        | inr new ↦
            let same : count ≡ j = omega (arith, new.0, so.long) in
            subst (λ (p : MemberId × MemberId). IsPair m s j p) (sym new.1) (subst (λ (n : ℕ). IsPair m s n pair) same is)
      ];
    }

pub none_referred : (s : Meant) (token : Token) → token.0 / 2 ^ 24 ≡ 0x0A → ((m : ℕ) → IsReferred s token m → ⊥) → (m : ℕ) → Means s token m → ⊥
none_referred s token is none m (Means.own other named) = other is
none_referred s token is none m (Means.referred same at) = none m at

pub means_member : (s : Meant) (token : Option Token) (t : Token) (found : MemberId) → token ≡ Some t → Means s t found.0 → IsMeantBy s token found
means_member s token t found is means = IsMeantBy.member t is means

pub means_nothing : (s : Meant) (token : Option Token) (t : Token) (found : MemberId) → token ≡ Some t → ((m : ℕ) → Means s t m → ⊥) → found.0 ≡ 2 ^ 32 - 1 → IsMeantBy s token found
means_nothing s token t found is none so = IsMeantBy.nothing (λ other m at means. let same : t ≡ other = cc in none m (subst (λ (x : Token). Means s x m) (sym same) means)) so

pub no_token : (s : Meant) (token : Option Token) (found : MemberId) → token ≡ None → found.0 ≡ 2 ^ 32 - 1 → IsMeantBy s token found
no_token s token found is so = IsMeantBy.nothing (λ other m at means. let none : None ≡ Some other = sym is ∙ at in absurd cc) so
