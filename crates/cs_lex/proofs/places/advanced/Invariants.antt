-- What is left is counted from the place so far on.
use Rattle.std.proofs.Common.{◌≡◌, ◌^◌, length}
use denote.Text.{Utf8}
use denote.Shadow.{shadow}
use Rattle.std.specs.Str.{chars}
use Rattle.cs_token.specs.Cuts.{place_after}
use Rattle.cs_lex.specs.Places.{HasRoom}
use Rattle.cs_lex.proofs.places.advanced.Given as goal

abbrev pub invariant-loop-c : goal.invariant-loop-c
invariant-loop-c l = shadow (Utf8 l.left) × (place_after (l.line, l.column) (chars l.skipped) ≡ place_after l.place (chars l.left)) × HasRoom (2 ^ 64) l.place.0 l.place.1 (length l.left)

abbrev pub decreases-loop-c : goal.decreases-loop-c
decreases-loop-c l = length l.left
