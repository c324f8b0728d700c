-- What makes some code the head of a constructor.
use Rattle.std.specs.Prelude.{◌≡◌, ℕ, ◌+◌, ◌<◌, Bool, true, false, ◌&&◌, ◌||◌, not, List, [], ◌∷◌, Option, Some, None, zero, suc, length, slice_get, nat_le, nat_lt, ◌==◌, if◌then◌else◌}
use Rattle.std.specs.List.{list_any}
use Rattle.dc_base.specs.declared.names.Token.{Token}
use Rattle.dc_base.specs.declared.names.TypeId.{TypeId}
use Rattle.dc_base.specs.declared.names.MemberId.{MemberId}
use Rattle.cil_body.specs.declared.body.Clause.{Clause}
use Rattle.class_rows.specs.declared.row.TypeRow.{TypeRow}
use Rattle.class_rows.specs.declared.row.MemberRow.{MemberRow}
use Rattle.cil_rows.specs.declared.row.Row.{Row}
use Rattle.cil_rows.specs.declared.row.Row.TheVariants.{Call}
use Rattle.cil_rows.specs.Code.{Placed}
use Rattle.cil_aims.specs.Aims.{is_aim}
use Rattle.cli_heads.specs.declared.head.Store.{Store}
use Rattle.cli_heads.specs.declared.head.Head.{Head}
use Rattle.cli_heads.specs.declared.begun.Item.{Item}
use Rattle.cli_heads.specs.declared.begun.Item.TheVariants.{This}
use Rattle.cli_heads.specs.declared.begun.Begun.{Begun}
use Rattle.cli_heads.specs.declared.maker.Maker.{Maker}
use Rattle.cli_heads.specs.Row.{named_member, named_row, is_constructor}
use Rattle.cli_heads.specs.Begun.{are_made, values, goes_on}

-- ---- where a head may stand

abbrev pub is_within : ℕ → ℕ → ℕ → Bool
is_within place at len = nat_le at place && nat_lt place (at + len)

-- a clause's try or its handler holds the place
unfoldable pub holds : ℕ → Clause → Bool
holds place c = is_within place c.try_at c.try_len || is_within place c.handler_at c.handler_len

abbrev pub are_held : List Clause → ℕ → Bool
are_held clauses place = list_any (holds place) clauses

abbrev pub is_apart : List Clause → Option Placed → Bool
is_apart clauses None = true
is_apart clauses (Some e) = not (are_held clauses e.0)

-- no jump leads to the instruction, and no try and no handler holds it
abbrev pub is_plain : Maker → ℕ → Bool
is_plain s n = not (is_aim s.rows.now n) && is_apart s.body.now.clauses (slice_get s.body.now.code n)

-- ---- its beginning

abbrev pub goes_on_with : Maker → ℕ → Option Row → Option Begun → Option Begun
goes_on_with s k (Some row) (Some b) = if is_plain s k then goes_on s k row b else None
goes_on_with s k _ _ = None

-- the beginning of a head that the first n instructions are, where they are one
abbrev pub begun : Maker → ℕ → Option Begun
begun s zero = Some (record { stores = []; stack = [] })
begun s (suc n) = goes_on_with s n (slice_get s.rows.now n) (begun s n)

-- ---- its end

abbrev pub constructor : Maker → Token → Option MemberId
constructor s token = if is_constructor (named_row s token) then named_member s token else None

-- the constructor that the row calls, other than by making an object
abbrev pub called_by : Maker → Option Row → Option MemberId
called_by s (Some (Call token false)) = constructor s token
called_by s _ = None

abbrev pub called_at : Maker → ℕ → Option MemberId
called_at s n = called_by s (slice_get s.rows.now n)

-- instruction n is the first that calls a constructor so: there the head ends
pub record IsEnd (s : Maker) (n : ℕ) (callee : MemberId) : Type 0 where
  pub calls : called_at s n ≡ Some callee
  pub first : (k : ℕ) → k < n → called_at s k ≡ None

abbrev pub base_of : Option TypeRow → Option TypeId
base_of None = None
base_of (Some row) = row.base

abbrev pub is_type : Option TypeId → TypeId → Bool
is_type None t = false
is_type (Some b) t = b.0 == t.0

-- the constructor is one of the class's base, or of the class itself
abbrev pub is_of_base : Maker → MemberRow → Bool
is_of_base s m = is_type (base_of (slice_get s.table.now.types s.class.0)) m.owner

abbrev pub is_of_same : Maker → MemberRow → Bool
is_of_same s m = m.owner.0 == s.class.0

abbrev pub are_none : List Store → Bool
are_none [] = true
are_none (store ∷ stores) = false

-- behind these stores it may be called: behind none where it is one of the class itself
abbrev pub may_call : Maker → MemberRow → List Store → Bool
may_call s m stores = is_of_base s m || (is_of_same s m && are_none stores)

-- the `this` at the bottom of a stack, and what is above it
abbrev pub split : List Item → Option (ℕ × List Item)
split (This at ∷ items) = Some (at, items)
split _ = None

abbrev pub ends_with : Maker → ℕ → MemberId → MemberRow → List Store → Option (ℕ × List Item) → Option Head
ends_with s n callee m stores None = None
ends_with s n callee m stores (Some (receiver, items)) =
    if are_made items && (length items == length m.params) && may_call s m stores
    then Some (record { stores = stores; receiver = receiver; arguments = values items; call = n; callee = callee })
    else None

abbrev pub ends_by : Maker → ℕ → MemberId → Option MemberRow → Begun → Option Head
ends_by s n callee None b = None
ends_by s n callee (Some m) b = ends_with s n callee m b.stores (split b.stack)

-- the head that this beginning is with the call at instruction n, where it is one: the stack is `this` and the arguments
abbrev pub ended : Maker → ℕ → MemberId → Begun → Option Head
ended s n callee b = ends_by s n callee (slice_get s.table.now.members callee.0) b

abbrev pub closed_with : Maker → ℕ → MemberId → Option Begun → Option Head
closed_with s n callee None = None
closed_with s n callee (Some b) = if is_plain s n then ended s n callee b else None

-- the head that the code up to instruction n is
abbrev pub closed : Maker → ℕ → MemberId → Option Head
closed s n callee = closed_with s n callee (begun s n)

-- the code up to its first call of a constructor is this head
pub record IsHead (s : Maker) (h : Head) : Type 0 where
  pub end : ℕ
  pub callee : MemberId
  pub ends : IsEnd s end callee
  pub is : closed s end callee ≡ Some h
