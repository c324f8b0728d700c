-- Reading at places of some bytes, with the first fault that is met.
use Rattle.std.specs.Prelude.{◌≡◌, ℕ, ◌+◌, List, length, drop, Bool, Result, Ok, Err, nat_lt, if◌then◌else◌}
use Rattle.byteorder.specs.Endian.{little_number}
use Rattle.cli_metadata.specs.declared.fault.MetaCause.{MetaCause}
use Rattle.cli_metadata.specs.declared.fault.MetaFault.{MetaFault}

-- what is read first, and then what is read of that, or the first fault
infixl 10 ◌>>=◌
abbrev pub ◌>>=◌ : {A B : Type 0} → Result A MetaFault → (A → Result B MetaFault) → Result B MetaFault
(Ok x) >>= f = f x
(Err e) >>= f = Err e

-- a fault at a place
abbrev pub fault_at : {A : Type 0} → MetaCause → ℕ → Result A MetaFault
fault_at cause place = Err (record { cause = cause; place = place })

-- the place behind `n` bytes at a place, where all of them stand in these bytes
abbrev pub behind : MetaCause → ℕ → List ℕ → ℕ → Result ℕ MetaFault
behind cause n bytes at = if nat_lt (length bytes) (at + n) then fault_at cause at else Ok (at + n)

-- the number in the `n` bytes at a place, the least byte first, where all of them stand in these bytes
abbrev pub number_at : MetaCause → ℕ → List ℕ → ℕ → Result ℕ MetaFault
number_at cause n bytes at =
    if nat_lt (length bytes) (at + n) then fault_at cause at else Ok (little_number n (drop at bytes))

-- a fault at a place, unless what is said there holds
abbrev pub holds : Bool → MetaCause → ℕ → Result ℕ MetaFault
holds true_there cause at = if true_there then Ok at else fault_at cause at

-- what was read, seen by a view
abbrev pub Gives : {X Y : Type 0} → (X → Y) → Result X MetaFault → Result Y MetaFault → Type 0
Gives view (Ok x) read = read ≡ Ok (view x)
Gives view (Err e) read = read ≡ Err e
