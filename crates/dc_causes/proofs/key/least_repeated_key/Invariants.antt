use Rattle.std.proofs.Common.{◌≡◌, ℕ, ◌<◌, take}
use Rattle.dc_causes.specs.Rows.{IsRepeated}
use Rattle.dc_causes.proofs.key.least_repeated_key.Given as goal

abbrev pub invariant-loop-index : goal.invariant-loop-index
invariant-loop-index g l =
    (l.seen.keys ≡ take l.index l.keys) × ((n : ℕ) → n < l.index → IsRepeated g.K.PartialEq.eq l.keys n → ⊥)
