-- What follows an `unbox` (ECMA-335 III.4.32): the value in the box is read at once, as one of its type.
use Rattle.std.specs.Prelude.{◌≡◌, ℕ, ◌+◌, false, Some, slice_get}
use Rattle.dc_base.specs.declared.names.Token.{Token}
use Rattle.dc_base.specs.declared.ty.Ty.{Ty}
use Rattle.cil_instruction.specs.declared.instruction.Instr.{Instr}
use Rattle.cil_rows.specs.declared.row.Row.{Row}
use Rattle.cil_rows.specs.declared.row.Row.TheVariants.{Unbox, LoadIndirect}
use Rattle.cil_rows.specs.declared.row.Access.{Access}
use Rattle.cil_rows.specs.declared.row.Access.TheVariants.{Number, Reference, Typed}
use Rattle.cil_aims.specs.Aims.{is_aim}
use Rattle.cli_bodies.specs.declared.method.Method.{Method}
use Rattle.cli_bodies.specs.Named.{named_ty, IsSo, prim_of, size_of}

-- an access reads a value of this type: by the type itself, or by a mnemonic for numbers of that size
abbrev pub Reads : Method → Access → Ty → Type 0
Reads s (Typed token) ty = named_ty s.tokens.now token ≡ Some ty
Reads s (Number prim) ty = IsSo (λ p. size_of prim ≡ size_of p) (prim_of s.table.now.types ty)
Reads s Reference ty = ⊥

-- the row reads an address, by such an access
abbrev pub ReadsPlace : Method → Ty → Row → Type 0
ReadsPlace s ty (LoadIndirect access) = Reads s access ty
ReadsPlace s ty _ = ⊥

-- instruction n reads a value of the type that the token names, and no jump leads to it
pub record IsRead (s : Method) (token : Token) (n : ℕ) : Type 0 where
  pub reads : IsSo (λ row. IsSo (λ ty. ReadsPlace s ty row) (named_ty s.tokens.now token)) (slice_get s.rows.now n)
  pub apart : is_aim s.rows.now n ≡ false

-- instruction k is an `unbox` at this offset, and the next one doesn't read the value
pub record IsUnread (s : Method) (k offset : ℕ) : Type 0 where
  pub token : Token
  pub is : slice_get s.rows.now k ≡ Some (Unbox token)
  pub instr : Instr
  pub stands : slice_get s.body.now.code k ≡ Some (offset, instr)
  pub other : IsRead s token (k + 1) → ⊥
