-- What is decided.
use Rattle.std.proofs.Common.{Bool, true, false}
use Rattle.std.specs.Bool.{OnTrue, OnFalse, MatchBool}

pub on_true : {A B : Type 0} (b : Bool) → (A → B) → OnTrue b A → OnTrue b B
on_true true f a = f a
on_true false f a = tt

pub on_false : {A B : Type 0} (b : Bool) → (B → A) → OnFalse b (A → ⊥) → OnFalse b (B → ⊥)
on_false true f none = tt
on_false false f none = λ b. none (f b)

pub told : (A : Type 0) (b : Bool) → OnTrue b A → OnFalse b (A → ⊥) → MatchBool b A (A → ⊥)
told A true is none = is
told A false is none = none
