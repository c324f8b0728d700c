-- A list of tokens has one answer: a reference text that it is, or its first token with which no reference text within the depths
-- goes on. It is one of depth where texts go on with it that have a pair of brackets more and a type more open.
use Rattle.std.specs.Prelude.{ℕ, ◌+◌}
use Rattle.cs_productions.specs.Laws.{OneAnswer}
use Rattle.cs_references.specs.Declarations.{text_at}

abbrev pub HasOneReferenceText : Type 0
HasOneReferenceText = (limit nesting : ℕ) → OneAnswer (text_at limit nesting) (text_at (limit + 1) (nesting + 1))
