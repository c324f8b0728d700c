-- What the files of a disk give.
use Rattle.std.specs.Prelude.{◌≡◌, ◌<◌, ◌≤◌, ⊤, ℕ, ◌+◌, Bool, true, false, List, [], ◌++◌, length, take, Option, None, Some, Result, Ok, Err, Vec}
use Rattle.std.specs.declared.alloc.Global.{Global}
use Rattle.std.specs.declared.io.Error.{Error}
use Rattle.std.specs.Io.KnownBytes.{Consumes, IsAtEnd}
use Rattle.dc_base.specs.declared.failure.Or.{Or}
use Rattle.dc_base.specs.declared.failure.Or.TheVariants.{NoMemory, Fault}
use Rattle.dc_outside.specs.declared.shelf.TakeFault.{TakeFault}
use Rattle.dc_outside.specs.declared.shelf.TakeFault.TheVariants.{Longer, Failed}

-- what a disk tells: an open file can be read of just the bytes of the file at the path, or nothing is told
abbrev pub IsOpened : Option (List ℕ → Option (List ℕ)) → List ℕ → Option (List ℕ) → Type 0
IsOpened None path remaining = ⊤
IsOpened (Some files) path remaining = (bytes : List ℕ) × (files path ≡ Some bytes) × (remaining ≡ Some bytes)

-- Inner facts.

-- what a disk tells: the file at the path begins with these bytes, which are all or one more than the limit
abbrev pub IsFront : Option (List ℕ → Option (List ℕ)) → List ℕ → ℕ → List ℕ → Type 0
IsFront None path limit front = ⊤
IsFront (Some files) path limit front = (bytes : List ℕ) × (files path ≡ Some bytes) × (front ≡ take (limit + 1) bytes)

-- the bytes, where there aren't more than the limit, and else how many there are
abbrev pub IsWithin : Vec ℕ Global → ℕ → Result (Vec ℕ Global) (Or TakeFault) → Type 0
IsWithin front limit (Ok given) = (given ≡ front) × (length given.items ≤ limit)
IsWithin front limit (Err (Fault (Longer n))) = (n ≡ length front.items) × (limit < n)
IsWithin front limit (Err (Fault Failed)) = ⊥
IsWithin front limit (Err NoMemory) = ⊥

-- of the bytes that a reader has left, where it tells them, at most so many are lost
abbrev pub LosesAtMost : Option (List ℕ) → Option (List ℕ) → ℕ → Type 0
LosesAtMost old new most = (bytes : List ℕ) × (length bytes ≤ most) × Consumes old new bytes

-- a read into so much room: what it gave stands behind the front; it gave nothing at the end alone; an error gives nothing
abbrev pub ReadsMore : Option (List ℕ) → Option (List ℕ) → ℕ → List ℕ → List ℕ → Result Bool Error → Type 0
ReadsMore old new room before now (Ok true) =
    (bytes : List ℕ) × (1 ≤ length bytes) × (length bytes ≤ room) × (now ≡ before ++ bytes) × Consumes old new bytes
ReadsMore old new room before now (Ok false) = (now ≡ before) × Consumes old new [] × IsAtEnd new
ReadsMore old new room before now (Err e) = LosesAtMost old new room
