-- What is said of what two unite to.
use Rattle.std.specs.Prelude.{Option, Some, None}

-- it holds of what they unite to, where they do
abbrev pub OfUnited : {A : Type 0} → (A → Type 0) → Option A → Type 0
OfUnited Fact None = Unit {0}
OfUnited Fact (Some a) = Fact a
