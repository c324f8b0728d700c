-- The beginning of a head: the stores of the first instructions, and what these leave on the evaluation stack (ECMA-335
-- I.12.3.2.1).
use Rattle.std.specs.Prelude.{ℕ, zero, suc, ◌-◌, Bool, true, false, ◌&&◌, not, List, [], ◌∷◌, ◌++◌, Option, Some, None, length, take, drop, slice_get, nat_lt, nat_le, if◌then◌else◌, ◌==◌}
use Rattle.std.specs.List.{filter_map, list_all}
use Rattle.dc_base.specs.declared.names.Token.{Token}
use Rattle.dc_base.specs.declared.names.MemberId.{MemberId}
use Rattle.class_rows.specs.declared.row.MemberRow.{MemberRow}
use Rattle.class_rows.specs.declared.row.MemberKind.{MemberKind}
use Rattle.class_rows.specs.declared.row.MemberKind.TheVariants.{Field}
use Rattle.cil_rows.specs.declared.row.Row.{Row}
use Rattle.cil_rows.specs.declared.row.Row.TheVariants as row
use Rattle.cli_heads.specs.declared.head.Value.{Value}
use Rattle.cli_heads.specs.declared.head.Value.TheViews.{roll-Value}
use Rattle.cli_heads.specs.declared.head.Store.{Store}
use Rattle.cli_heads.specs.declared.known.Known.{Known}
use Rattle.cli_heads.specs.declared.begun.Made.{Made}
use Rattle.cli_heads.specs.declared.begun.Item.{Item}
use Rattle.cli_heads.specs.declared.begun.Item.TheVariants.{This, Made as Makes}
use Rattle.cli_heads.specs.declared.begun.Begun.{Begun}
use Rattle.cli_heads.specs.declared.begun.Part.{Part}
use Rattle.cli_heads.specs.declared.begun.Part.TheVariants as part
use Rattle.cli_heads.specs.declared.maker.Maker.{Maker}
use Rattle.cli_heads.specs.Row.{named_member, named_row, taken, makes_value}
use Rattle.cli_heads.specs.Known.{known_of}

-- ---- the stack

abbrev pub is_made : Item → Bool
is_made (This at) = false
is_made (Makes m) = true

abbrev pub are_made : List Item → Bool
are_made items = list_all is_made items

abbrev pub value_in : Item → Option Value
value_in (This at) = None
value_in (Makes m) = Some m.value

abbrev pub values : List Item → List Value
values items = filter_map value_in items

abbrev pub known_in : Item → Option Known
known_in (This at) = None
known_in (Makes m) = Some m.known

abbrev pub knowns : List Item → List Known
knowns items = filter_map known_in items

-- ---- what an instruction does in a head

abbrev pub part_of : Row → Part
part_of row.Nop = part.Nothing
part_of (row.LoadArgument zero) = part.This
part_of (row.LoadArgument (suc k)) = part.Value
part_of (row.StoreField token) = part.Store token
part_of _ = part.Value

-- `this` is pushed
abbrev pub received : ℕ → Begun → Option Begun
received k b = Some (record { stores = b.stores; stack = b.stack ++ This k ∷ [] })

-- an instance field of the class
abbrev pub is_field_kind : MemberKind → Bool
is_field_kind (Field init_only literal) = true
is_field_kind _ = false

abbrev pub is_own_field : Maker → MemberRow → Bool
is_own_field s m = is_field_kind m.kind && not m.is_static && m.owner.0 == s.class.0

abbrev pub own_field_of : Maker → Option MemberRow → Option MemberId → Option MemberId
own_field_of s None field = None
own_field_of s (Some m) field = if is_own_field s m then field else None

abbrev pub own_field : Maker → Token → Option MemberId
own_field s token = own_field_of s (named_row s token) (named_member s token)

-- `this` and one value, and nothing else
abbrev pub this_and_one : List Item → Option (ℕ × Made)
this_and_one (This at ∷ Makes m ∷ []) = Some (at, m)
this_and_one _ = None

-- the field stands behind the one that was stored to last
abbrev pub is_behind : Option Store → MemberId → Bool
is_behind None field = true
is_behind (Some store) field = nat_lt store.field.0 field.0

abbrev pub rises : List Store → MemberId → Bool
rises stores field = is_behind (slice_get stores (length stores - 1)) field

-- a store to a field of `this`, of a value that reads no argument
abbrev pub with_store : ℕ → MemberId → List Store → Option (ℕ × Made) → Option Begun
with_store k field stores None = None
with_store k field stores (Some (receiver, m)) =
    if rises stores field && not m.known.reads
    then Some (record { stores = stores ++ record { receiver = receiver; value = m.value; at = k; field = field } ∷ []; stack = [] })
    else None

abbrev pub stored : ℕ → Option MemberId → Begun → Option Begun
stored k None b = None
stored k (Some field) b = with_store k field b.stores (this_and_one b.stack)

-- a value is made of these, none of which is `this`
abbrev pub tree_of : ℕ → List Value → Value
tree_of k of = roll-Value (record { at = k; of = of })

abbrev pub built_as : ℕ → List Item → Option Known → Option Made
built_as k over None = None
built_as k over (Some known) = Some (record { value = tree_of k (values over); known = known })

abbrev pub built : Maker → ℕ → Row → List Item → Option Made
built s k row over = if are_made over then built_as k over (known_of s row (knowns over)) else None

abbrev pub with_made : List Store → List Item → Option Made → Option Begun
with_made stores below None = None
with_made stores below (Some m) = Some (record { stores = stores; stack = below ++ Makes m ∷ [] })

-- a value is made of the topmost ones
abbrev pub made : Maker → ℕ → Row → Begun → Option Begun
made s k row b =
    if makes_value s row && nat_le (taken s row) (length b.stack)
    then with_made b.stores (take (length b.stack - taken s row) b.stack) (built s k row (drop (length b.stack - taken s row) b.stack))
    else None

abbrev pub goes_on_by : Part → Maker → ℕ → Row → Begun → Option Begun
goes_on_by part.Nothing s k row b = Some b
goes_on_by part.This s k row b = received k b
goes_on_by (part.Store token) s k row b = stored k (own_field s token) b
goes_on_by part.Value s k row b = made s k row b

-- the beginning that this one is with instruction k, where it is one
abbrev pub goes_on : Maker → ℕ → Row → Begun → Option Begun
goes_on s k row b = goes_on_by (part_of row) s k row b
