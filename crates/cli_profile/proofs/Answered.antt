-- What a test's answer says.
use Rattle.std.proofs.Common.{◌≡◌, Bool, true, false, not, refl}
use Rattle.std.specs.Bool.{OnTrue, OnFalse}

pub on_true : (P : Type 0) (b : Bool) → (b ≡ true → P) → OnTrue b P
on_true P true p = p refl
on_true P false p = tt

-- a test that fails excludes this
pub on_false : (P : Type 0) (b : Bool) → (b ≡ false → P → ⊥) → OnFalse b (P → ⊥)
on_false P true p = tt
on_false P false p = p refl

pub on_not : (P Q : Type 0) (b : Bool) → OnTrue b P → (P → Q → ⊥) → OnFalse (not b) (Q → ⊥)
on_not P Q true holds p = p holds
on_not P Q false holds p = tt

pub told_false : (P : Type 0) (b : Bool) → OnFalse b P → b ≡ false → P
told_false P true p e = absurd cc
told_false P false p e = p
