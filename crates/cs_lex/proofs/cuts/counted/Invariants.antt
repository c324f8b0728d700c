-- So many tokens lead from the start to what is left.
use Rattle.std.proofs.Common.{◌+◌, ◌≤◌, length}
use denote.Text.{Utf8}
use denote.Shadow.{shadow}
use Rattle.std.specs.Str.{chars}
use Rattle.cs_token.specs.Pieces.{Follows}
use Rattle.cs_lex.proofs.Cursors.{Led}
use Rattle.cs_lex.proofs.cuts.counted.Given as goal

abbrev pub invariant-loop-token : goal.invariant-loop-token
invariant-loop-token l = shadow (Utf8 l.left) × Led (chars l.text) l.count (chars l.left) × Follows l.left l.text × (l.count + length l.left ≤ length l.text)

abbrev pub decreases-loop-token : goal.decreases-loop-token
decreases-loop-token l = length l.left
