-- Steps of reading, and what stands where they go on.
use Rattle.std.proofs.Common.{◌≡◌, ℕ, ◌+◌, ◌≤◌, ◌<◌, List, None, Some, length, drop, Bool, true, false, cond, ltb, Result, Ok, Err, refl, sym, ap, arith}
use Rattle.byteorder.specs.Endian.{little_number}
use Rattle.std.proofs.lemmas.Bool.{le-ltb}
use Rattle.cli_metadata.specs.declared.fault.MetaFault.{MetaFault}
use Rattle.cli_metadata.specs.declared.fault.MetaCause.{MetaCause}
use Rattle.cli_metadata.specs.Reading.{◌>>=◌, behind, number_at, holds}
use Rattle.cli_metadata.specs.Standing.{IsNumber}
use Rattle.cli_metadata.proofs.Places.{ok_is}

-- a guarded step went on
guard_goes : {A B : Type 0} (len end : ℕ) (f : MetaFault) (x : A) (k : A → Result B MetaFault) (y : B) → (cond (ltb len end) (Err f) (Ok x) >>= k) ≡ Ok y → (end ≤ len) × (k x ≡ Ok y)
guard_goes len end f x k y e = elim (ltb len end) as (λ (b : Bool). ltb len end ≡ b → (cond b (Err f) (Ok x) >>= k) ≡ Ok y → (end ≤ len) × (k x ≡ Ok y)) [
  | true ↦ λ t g. absurd cc
  | false ↦ λ t g. (grind arith, g)
] refl e

pub guard_is : {A : Type 0} (len end : ℕ) (f : MetaFault) (x y : A) → cond (ltb len end) (Err f) (Ok x) ≡ Ok y → (end ≤ len) × (x ≡ y)
guard_is len end f x y e = elim (ltb len end) as (λ (b : Bool). ltb len end ≡ b → cond b (Err f) (Ok x) ≡ Ok y → (end ≤ len) × (x ≡ y)) [
  | true ↦ λ t g. absurd cc
  | false ↦ λ t g. (grind arith, ok_is x y g)
] refl e

-- a place that is one of a list
pub some_found : (m len n : ℕ) → cond (ltb m len) (Some m) None ≡ Some n → (m ≡ n) × (m < len)
some_found m len n e = grind arith

pub found_some : (m len n : ℕ) → m ≡ n → n < len → cond (ltb m len) (Some m) None ≡ Some n
found_some m len n e lt = grind arith

pub number-goes : {B : Type 0} (c : MetaCause) (n : ℕ) (bytes : List ℕ) (at : ℕ) (k : ℕ → Result B MetaFault) (y : B) → (number_at c n bytes at >>= k) ≡ Ok y
    → IsNumber n bytes at (little_number n (drop at bytes)) × (k (little_number n (drop at bytes)) ≡ Ok y)
number-goes c n bytes at k y e =
    let g = guard_goes (length bytes) (at + n) (record { cause = c; place = at }) (little_number n (drop at bytes)) k y e in
    (record { whole = g.0; same = refl }, g.1)

pub behind-goes : {B : Type 0} (c : MetaCause) (n : ℕ) (bytes : List ℕ) (at : ℕ) (k : ℕ → Result B MetaFault) (y : B) → (behind c n bytes at >>= k) ≡ Ok y → (at + n ≤ length bytes) × (k (at + n) ≡ Ok y)
behind-goes c n bytes at k y e = guard_goes (length bytes) (at + n) (record { cause = c; place = at }) (at + n) k y e

pub holds-goes : {B : Type 0} (c : MetaCause) (b : Bool) (at : ℕ) (k : ℕ → Result B MetaFault) (y : B) → (holds b c at >>= k) ≡ Ok y → (b ≡ true) × (k at ≡ Ok y)
holds-goes c true at k y e = (refl, e)
holds-goes c false at k y e = absurd cc

-- what stands is read
pub number-is : (c : MetaCause) (n : ℕ) (bytes : List ℕ) (at x : ℕ) → IsNumber n bytes at x → number_at c n bytes at ≡ Ok x
number-is c n bytes at x w =
    let past : ltb (length bytes) (at + n) ≡ false = le-ltb (length bytes) (at + n) w.whole in
    let same = w.same in
    rw past (ap (λ (m : ℕ). Ok m) (sym same))

pub behind-is : (c : MetaCause) (n : ℕ) (bytes : List ℕ) (at : ℕ) → at + n ≤ length bytes → behind c n bytes at ≡ Ok (at + n)
behind-is c n bytes at w =
    let past : ltb (length bytes) (at + n) ≡ false = le-ltb (length bytes) (at + n) w in
    rw past refl

-- a number that stands whole
pub number-there : (n : ℕ) (bytes : List ℕ) (at : ℕ) → at + n ≤ length bytes → IsNumber n bytes at (little_number n (drop at bytes))
number-there n bytes at w = record { whole = w; same = refl }

pub holds-true : (c : MetaCause) (b : Bool) (at x : ℕ) → holds b c at ≡ Ok x → b ≡ true
holds-true c true at x e = refl
holds-true c false at x e = absurd cc
