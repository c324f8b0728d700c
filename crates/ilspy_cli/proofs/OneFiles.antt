-- The files of a request are read in one way.
use Rattle.std.proofs.Common.{◌≡◌, ◌≤◌, ℕ, List, [], ◌∷◌, ◌++◌, length, Option, Some, refl, sym, ap, ap₂, subst, ◌∙◌, arith}
use Rattle.ilspy_cli.specs.Files.{Files, Wanted, AreRead, AreWithin, IsNext, IsTooLong}

-- what was read is within the limits
pub within : (files : Files) (all : List Wanted) (contents : List (List ℕ)) → AreRead files all contents → AreWithin all contents
within files [] [] r = tt
within files [] (bytes ∷ contents) r = absurd r
within files (file ∷ all) [] r = absurd r
within files (file ∷ all) (bytes ∷ contents) r = (tt, r.1, within files all contents r.2)

module _ (files : List ℕ → Option (List ℕ)) where
  -- one list of contents is read
  pub one_contents : (all : List Wanted) (xs ys : List (List ℕ)) → AreRead (Some files) all xs → AreRead (Some files) all ys → xs ≡ ys
  one_contents [] [] [] p q = refl
  one_contents [] [] (y ∷ ys) p q = absurd q
  one_contents [] (x ∷ xs) ys p q = absurd p
  one_contents (file ∷ all) [] ys p q = absurd p
  one_contents (file ∷ all) (x ∷ xs) [] p q = absurd q
  one_contents (file ∷ all) (x ∷ xs) (y ∷ ys) p q =
      let e : Some x ≡ Some y = sym p.0 ∙ q.0 in
      let head : x ≡ y = cc in
      ap₂ (λ a more. a ∷ more) head (one_contents all xs ys p.2 q.2)

  -- a file that was read isn't too long
  not_too_long : (file : Wanted) (bytes : List ℕ) → files file.name ≡ Some bytes → length bytes ≤ file.limit → IsTooLong (Some files) file → ⊥
  not_too_long file bytes is short long =
      let e : Some bytes ≡ Some long.has.0 = sym is ∙ long.has.1 in
      let same : bytes ≡ long.has.0 = cc in
      omega (arith, short, ap length same, long.has.2, long.long)

  -- where a file is too long, not all were read
  not_all : (before behind : List Wanted) (file : Wanted) (xs : List (List ℕ)) → IsTooLong (Some files) file → AreRead (Some files) (before ++ file ∷ behind) xs → ⊥
  not_all [] behind file [] long p = p
  not_all [] behind file (x ∷ xs) long p = not_too_long file x p.0 p.1 long
  not_all (b ∷ before) behind file [] long p = p
  not_all (b ∷ before) behind file (x ∷ xs) long p = not_all before behind file xs long p.2

  pub not_both : (all : List Wanted) (file : Wanted) (xs : List (List ℕ)) → IsNext (Some files) all file → IsTooLong (Some files) file → AreRead (Some files) all xs → ⊥
  not_both all file xs next long p = not_all next.before next.behind file xs long (subst (λ a. AreRead (Some files) a xs) next.among p)

  -- one file is the first that is too long
  first_too_long : (before others behind rest : List Wanted) (file other : Wanted) (xs ys : List (List ℕ)) → before ++ file ∷ behind ≡ others ++ other ∷ rest
      → AreRead (Some files) before xs → AreRead (Some files) others ys → IsTooLong (Some files) file → IsTooLong (Some files) other → file ≡ other
  first_too_long [] [] behind rest file other xs ys e p q long too = cc
  first_too_long [] (o ∷ others) behind rest file other xs [] e p q long too = absurd q
  first_too_long [] (o ∷ others) behind rest file other xs (y ∷ ys) e p q long too =
      let same : o ≡ file = cc in
      absurd (not_too_long o y q.0 q.1 (subst (IsTooLong (Some files)) (sym same) long))
  first_too_long (b ∷ before) [] behind rest file other [] ys e p q long too = absurd p
  first_too_long (b ∷ before) [] behind rest file other (x ∷ xs) ys e p q long too =
      let same : b ≡ other = cc in
      absurd (not_too_long b x p.0 p.1 (subst (IsTooLong (Some files)) (sym same) too))
  first_too_long (b ∷ before) (o ∷ others) behind rest file other [] ys e p q long too = absurd p
  first_too_long (b ∷ before) (o ∷ others) behind rest file other (x ∷ xs) [] e p q long too = absurd q
  first_too_long (b ∷ before) (o ∷ others) behind rest file other (x ∷ xs) (y ∷ ys) e p q long too =
      let tail : before ++ file ∷ behind ≡ others ++ other ∷ rest = cc in
      first_too_long before others behind rest file other xs ys tail p.2 q.2 long too

  pub one_too_long : (all : List Wanted) (file other : Wanted) → IsNext (Some files) all file → IsNext (Some files) all other
      → IsTooLong (Some files) file → IsTooLong (Some files) other → file ≡ other
  one_too_long all file other p q long too =
      first_too_long p.before q.before p.behind q.behind file other p.contents q.contents (sym p.among ∙ q.among) p.read q.read long too
