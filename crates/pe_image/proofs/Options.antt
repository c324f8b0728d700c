-- Options that are there, and what they came from.
use Rattle.std.proofs.Common.{◌≡◌, Bool, true, false, cond, Option, Some, None, refl, inl, inr, ◌⊎◌}
use Rattle.std.specs.Prelude.{option_map}

pub some_is : {A : Type 0} (x y : A) → Some x ≡ Some y → x ≡ y
some_is x y e = cc

-- what was mapped to a value that is there
pub mapped : {A B : Type 0} (f : A → B) (o : Option A) (y : B) → option_map f o ≡ Some y → (x : A) × (o ≡ Some x) × (f x ≡ y)
mapped f None y e = absurd cc
mapped f (Some x) y e = (x, refl, some_is (f x) y e)

-- which of two values was chosen
pub chosen : {A : Type 0} (b : Bool) (x s : A) (rest : Option A) → cond b (Some x) rest ≡ Some s → ((b ≡ true) × (x ≡ s)) ⊎ ((b ≡ false) × (rest ≡ Some s))
chosen true x s rest e = inl (refl, some_is x s e)
chosen false x s rest e = inr (refl, e)
