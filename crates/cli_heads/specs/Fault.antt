-- Where a constructor's code begins with no head.
use Rattle.std.specs.Prelude.{◌≡◌, ◌⊎◌, ℕ, ◌+◌, ◌<◌, Bool, true, false, List, ◌∷◌, Option, Some, None, Ok, Err, slice_get}
use Rattle.dc_base.specs.declared.names.MemberId.{MemberId}
use Rattle.dc_causes.specs.Step.{Step}
use Rattle.class_rows.specs.declared.row.MemberRow.{MemberRow}
use Rattle.cil_rows.specs.Code.{Placed}
use Rattle.cli_heads.specs.declared.head.Store.{Store}
use Rattle.cli_heads.specs.declared.head.Head.{Head}
use Rattle.cli_heads.specs.declared.begun.Begun.{Begun}
use Rattle.cli_heads.specs.declared.read.BadHead.{BadHead}
use Rattle.cli_heads.specs.declared.maker.Maker.{Maker}
use Rattle.cli_heads.specs.Head.{begun, called_at, IsEnd, is_of_same, closed, IsHead}

-- Instruction n is the first with which no head goes on: the ones before it are the beginning of one. Behind this beginning
-- the code goes on with an instruction that it may not have, or ends with a call that is out of place.
pub record IsStop (s : Maker) (end : ℕ) (callee : MemberId) (n : ℕ) (b : Begun) : Type 0 where
  pub begins : begun s n ≡ Some b
  pub stops : ((n < end) × (begun s (n + 1) ≡ None)) ⊎ ((n ≡ end) × (closed s end callee ≡ None))

abbrev pub is_same_of : Maker → Option MemberRow → Bool
is_same_of s None = false
is_same_of s (Some m) = is_of_same s m

-- the constructor is one of the class itself, whose head has no stores
abbrev pub is_same : Maker → MemberId → Bool
is_same s callee = is_same_of s (slice_get s.table.now.members callee.0)

-- the first of the stores, where there may be none; else the instruction with which no head goes on
abbrev pub first_bad : Bool → List Store → ℕ → ℕ
first_bad true (store ∷ stores) n = store.at
first_bad _ stores n = n

-- the offset of an instruction
abbrev pub offset_of : Option Placed → ℕ
offset_of None = 0
offset_of (Some (place, instr)) = place

abbrev pub offset_at : Maker → ℕ → ℕ
offset_at s n = offset_of (slice_get s.body.now.code n)

-- no constructor is called, and the offset is 0; or it is that of the first instruction that may not stand in a head
pub data IsBadHead (s : Maker) (f : BadHead) : Type 0 where
  missing : ((n : ℕ) → called_at s n ≡ None) → f.offset ≡ 0 → IsBadHead s f
  stop : (end n : ℕ) (callee : MemberId) (b : Begun) → IsEnd s end callee → IsStop s end callee n b
      → f.offset ≡ offset_at s (first_bad (is_same s callee) b.stores n) → IsBadHead s f

-- the code begins with this head, or it is out of place here
abbrev pub ReadsHead : Maker → Step Head BadHead
ReadsHead s (Ok h) = IsHead s h
ReadsHead s (Err f) = IsBadHead s f
