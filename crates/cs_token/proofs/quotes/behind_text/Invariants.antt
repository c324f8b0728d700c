-- Some units stand before what is left.
use Rattle.std.proofs.Common.{ℕ, List, length}
use denote.Text.{Utf8}
use denote.Shadow.{shadow}
use Rattle.cs_token.specs.Pieces.{Follows}
use Rattle.cs_token.proofs.Texts.{Joins}
use Rattle.cs_token.proofs.quotes.behind_text.Given as goal

abbrev pub invariant-loop-units : goal.invariant-loop-units
invariant-loop-units l = shadow (Utf8 l.left) × ((units : List ℕ) × Joins units l.text l.left) × Follows l.left l.text

abbrev pub decreases-loop-units : goal.decreases-loop-units
decreases-loop-units l = length l.left
