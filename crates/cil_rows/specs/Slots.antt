-- How many slots a row takes and gives (ECMA-335 III.3 and III.4, the stack transitions; VI.C.2).
use Rattle.std.specs.Prelude.{ℕ, true, false, Option, None, Some}
use Rattle.cil_rows.specs.declared.row.Row.{Row}
use Rattle.cil_rows.specs.declared.row.Row.TheVariants.{Nop, Dup, Pop, Return, LoadArgument, StoreArgument, ArgumentAddress, LoadLocal, StoreLocal, LocalAddress, Null, Truth, Int, Long, Text, Arithmetic, Bitwise, Shift, Unary, Compare, Convert, Branch, BranchIf, BranchCompare, Switch, Leave, Throw, Rethrow, EndFinally, Call, New, Function, LoadField, FieldAddress, StoreField, LoadStatic, StaticAddress, StoreStatic, NewArray, Length, LoadElement, ElementAddress, StoreElement, LoadIndirect, StoreIndirect, Cast, IsInstance, Box, Unbox, UnboxAny}

-- how many slots it takes, where that doesn't hang on a signature
abbrev pub takes : Row → Option ℕ
takes Nop = Some 0
takes Dup = Some 1
takes Pop = Some 1
takes Return = None
takes (LoadArgument k) = Some 0
takes (StoreArgument k) = Some 1
takes (ArgumentAddress k) = Some 0
takes (LoadLocal k) = Some 0
takes (StoreLocal k) = Some 1
takes (LocalAddress k) = Some 0
takes Null = Some 0
takes (Truth b) = Some 0
takes (Int n) = Some 0
takes (Long n) = Some 0
takes (Text token) = Some 0
takes (Arithmetic op unsigned checked) = Some 2
takes (Bitwise op) = Some 2
takes (Shift op) = Some 2
takes (Unary op) = Some 1
takes (Compare test unsigned) = Some 2
takes (Convert to unsigned checked) = Some 1
takes (Branch to) = Some 0
takes (BranchIf truth to) = Some 1
takes (BranchCompare test unsigned to) = Some 2
takes (Switch targets) = Some 1
takes (Leave to) = Some 0
takes Throw = Some 1
takes Rethrow = Some 0
takes EndFinally = Some 0
takes (Call callee by_slot) = None
takes (New token) = None
takes (Function target false) = Some 0
takes (Function target true) = Some 1
takes (LoadField token) = Some 1
takes (FieldAddress token) = Some 1
takes (StoreField token) = Some 2
takes (LoadStatic token) = Some 0
takes (StaticAddress token) = Some 0
takes (StoreStatic token) = Some 1
takes (NewArray token) = Some 1
takes Length = Some 1
takes (LoadElement access) = Some 2
takes (ElementAddress token) = Some 2
takes (StoreElement access) = Some 3
takes (LoadIndirect access) = Some 1
takes (StoreIndirect access) = Some 2
takes (Cast token) = Some 1
takes (IsInstance token) = Some 1
takes (Box token) = Some 1
takes (Unbox token) = Some 1
takes (UnboxAny token) = Some 1

-- how many slots it gives, where that doesn't hang on a signature
abbrev pub gives : Row → Option ℕ
gives Nop = Some 0
gives Dup = Some 2
gives Pop = Some 0
gives Return = Some 0
gives (StoreArgument k) = Some 0
gives (StoreLocal k) = Some 0
gives (Branch to) = Some 0
gives (BranchIf truth to) = Some 0
gives (BranchCompare test unsigned to) = Some 0
gives (Switch targets) = Some 0
gives (Leave to) = Some 0
gives Throw = Some 0
gives Rethrow = Some 0
gives EndFinally = Some 0
gives (Call callee by_slot) = None
gives (StoreField token) = Some 0
gives (StoreStatic token) = Some 0
gives (StoreElement access) = Some 0
gives (StoreIndirect access) = Some 0
gives _ = Some 1
