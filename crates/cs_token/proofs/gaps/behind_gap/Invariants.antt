-- The gap goes on where one is.
use Rattle.std.proofs.Common.{◌≡◌, false, length}
use denote.Text.{Utf8}
use denote.Shadow.{shadow}
use Rattle.std.specs.Str.{chars}
use Rattle.cs_token.specs.Words.{behind_gap}
use Rattle.cs_token.specs.Pieces.{Follows}
use Rattle.cs_token.proofs.gaps.behind_gap.Given as goal

abbrev pub invariant-loop-first : goal.invariant-loop-first
invariant-loop-first l = shadow (Utf8 l.left) × (behind_gap false (chars l.text) ≡ behind_gap l.inside (chars l.left)) × Follows l.left l.text

abbrev pub decreases-loop-first : goal.decreases-loop-first
decreases-loop-first l = length l.left
