-- An answer that is handed on.
use Rattle.std.proofs.Common.{Result, Ok, Err, IfOk}

pub handed : {A E : Type 0} (P Q : A → Type 0) (r : Result A E) → ((v : A) → P v → Q v) → IfOk r P → IfOk r Q
handed P Q (Ok v) f h = f v h
handed P Q (Err e) f h = tt
