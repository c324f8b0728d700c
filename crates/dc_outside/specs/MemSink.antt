-- A sink in memory.
use Rattle.std.specs.Prelude.{◌≡◌, ◌<◌, ◌≤◌, ◌⊎◌, ℕ, ◌-◌, min, List, ◌++◌, length, take, Result, Ok, Err}
use Rattle.dc_outside.specs.Outside.{one_more}
use Rattle.dc_outside.specs.Script.{IsNextListed}
use Rattle.dc_outside.specs.declared.sink.Failed.{Failed}

-- the bytes written, the most that a call takes, the numbers of the calls that are to fail, the room
-- in all, how many calls there were and how many failed
pub record SinkState : Type 0 where
  pub written : List ℕ
  pub chunk : ℕ
  pub fails : List ℕ
  pub room : ℕ
  pub calls : ℕ
  pub faults : ℕ

-- a call fails where it is to fail or no room is left, else it takes what chunk, piece and room let it
abbrev pub PutsInMemory : SinkState → List ℕ → Result ℕ Failed → Type 0
PutsInMemory sink piece (Ok n) =
    (¬ IsNextListed sink.fails sink.calls)
    × (length sink.written < sink.room)
    × (n ≡ min sink.chunk (min (length piece) (sink.room - length sink.written)))
PutsInMemory sink piece (Err _) = IsNextListed sink.fails sink.calls ⊎ (sink.room ≤ length sink.written)

-- the sink after a call: one call more, and the bytes that were taken or one fault more
abbrev pub after_put : SinkState → List ℕ → Result ℕ Failed → SinkState
after_put sink piece (Ok n) =
    record sink { calls = one_more sink.calls; written = sink.written ++ take n piece }
after_put sink piece (Err _) =
    record sink { calls = one_more sink.calls; faults = one_more sink.faults }
