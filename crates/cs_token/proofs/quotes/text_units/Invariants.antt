-- The units so far stand before what is left.
use Rattle.std.proofs.Common.{length}
use denote.Text.{Utf8}
use denote.Shadow.{shadow}
use Rattle.cs_token.proofs.Texts.{Joins}
use Rattle.cs_token.proofs.quotes.text_units.Given as goal

abbrev pub invariant-loop-units : goal.invariant-loop-units
invariant-loop-units l = shadow (Utf8 l.left) × Joins l.found.items l.text l.left

abbrev pub decreases-loop-units : goal.decreases-loop-units
decreases-loop-units l = length l.left
