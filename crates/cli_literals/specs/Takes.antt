-- Which constants a type takes, by the element type of the constant (ECMA-335 II.22.9, II.23.1.16).
use Rattle.std.specs.Prelude.{◌≡◌, ◌⊎◌, ℕ, ◌<◌, List, false}
use Rattle.dc_base.specs.declared.names.TypeId.{TypeId}
use Rattle.dc_base.specs.declared.ty.Ty.{Ty}
use Rattle.dc_base.specs.declared.ty.Prim_.{Prim_}
use Rattle.dc_base.specs.declared.ty.Prim_.TheVariants as prim
use Rattle.dc_base.specs.declared.ty.Core.{Core}
use Rattle.dc_base.specs.declared.ty.Core.TheVariants as core
use Rattle.class_rows.specs.declared.row.TypeRow.{TypeRow}
use Rattle.class_rows.specs.declared.row.Kind.TheVariants as kind
use Rattle.class_rows.specs.Types.{HasType}

-- BOOLEAN, CHAR, I1, U1, I2, U2, I4, U4, I8 and U8
abbrev pub element_of : Prim_ → ℕ
element_of prim.Bool = 0x02
element_of prim.Char = 0x03
element_of prim.I1 = 0x04
element_of prim.U1 = 0x05
element_of prim.I2 = 0x06
element_of prim.U2 = 0x07
element_of prim.I4 = 0x08
element_of prim.U4 = 0x09
element_of prim.I8 = 0x0A
element_of prim.U8 = 0x0B

-- the type of this number is an enum, whose values are of this element
abbrev pub EnumTakes : List TypeRow → TypeId → ℕ → Type 0
EnumTakes types t element = HasType types t.0 (λ row. (p : Prim_) × (row.kind ≡ kind.Enum p) × (element ≡ element_of p))

-- A type without brackets takes numbers of its own element, an enum those of its values; a reference takes CLASS, which is
-- null, and a string STRING as well.
abbrev pub CoreTakes : List TypeRow → TypeId → Core → ℕ → Type 0
CoreTakes types string core.Void element = ⊥
CoreTakes types string (core.Prim p) element = element ≡ element_of p
CoreTakes types string (core.Class t) element = (element ≡ 0x12) ⊎ ((element ≡ 0x0E) × (t ≡ string))
CoreTakes types string (core.Value t) element = ⊥
CoreTakes types string (core.Enum t) element = EnumTakes types t element

-- an array takes null
abbrev pub Takes : List TypeRow → TypeId → Ty → ℕ → Type 0
Takes types string ty element =
    (ty.lent ≡ false) × (((0 < ty.arrays) × (element ≡ 0x12)) ⊎ ((ty.arrays ≡ 0) × CoreTakes types string ty.core element))
