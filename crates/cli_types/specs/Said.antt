-- The types that signatures say (ECMA-335 II.23.1.16, II.23.2.12).
use Rattle.std.specs.Prelude.{ℕ, List, [], ◌∷◌, ◌==◌, cond, Option, Some, None}
use Rattle.std.specs.Option.{option_map}
use Rattle.dc_base.specs.declared.ty.Ty.{Ty}
use Rattle.dc_base.specs.declared.ty.Core.{Core}
use Rattle.dc_base.specs.declared.ty.Core.TheVariants.{Void, Prim, Class, Value, Enum}
use Rattle.dc_base.specs.declared.ty.Prim_.{Prim_}
use Rattle.dc_base.specs.declared.ty.Prim_.TheVariants.{Bool, Char, I1, U1, I2, U2, I4, U4, I8, U8}
use Rattle.cli_signature.specs.declared.raw.RawTy.{RawTy}
use Rattle.cli_types.specs.declared.types.Types.{Types}
use Rattle.cli_types.specs.Named.{core_named}

-- BOOLEAN to U8
abbrev pub primitive : ℕ → Option Prim_
primitive element =
    cond (element == 0x02) (Some Bool)
    (cond (element == 0x03) (Some Char)
    (cond (element == 0x04) (Some I1)
    (cond (element == 0x05) (Some U1)
    (cond (element == 0x06) (Some I2)
    (cond (element == 0x07) (Some U2)
    (cond (element == 0x08) (Some I4)
    (cond (element == 0x09) (Some U4)
    (cond (element == 0x0A) (Some I8)
    (cond (element == 0x0B) (Some U8) None)))))))))

-- VALUETYPE stands before a value type, which may be a primitive one, and CLASS before a reference type
abbrev pub value_type : Option Core → Option Core
value_type None = None
value_type (Some Void) = None
value_type (Some (Class t)) = None
value_type (Some (Prim p)) = Some (Prim p)
value_type (Some (Value t)) = Some (Value t)
value_type (Some (Enum t)) = Some (Enum t)

abbrev pub reference_type : Option Core → Option Core
reference_type (Some (Class t)) = Some (Class t)
reference_type _ = None

-- VOID, STRING, VALUETYPE, CLASS and OBJECT, and the primitive types
abbrev pub core_said : Types → RawTy → Option Core
core_said types raw =
    cond (raw.element == 0x01) (Some Void)
    (cond (raw.element == 0x0E) (Some (Class types.string))
    (cond (raw.element == 0x11) (value_type (core_named types raw.token))
    (cond (raw.element == 0x12) (reference_type (core_named types raw.token))
    (cond (raw.element == 0x1C) (Some (Class types.object))
    (option_map (λ p. Prim p) (primitive raw.element))))))

abbrev pub type_of : RawTy → Core → Ty
type_of raw core = record { core = core; arrays = raw.arrays; lent = raw.lent }

-- the type that stands in a signature so
abbrev pub type_said : Types → RawTy → Option Ty
type_said types raw = option_map (type_of raw) (core_said types raw)

abbrev pub and_others : Option Ty → Option (List Ty) → Option (List Ty)
and_others None tys = None
and_others (Some ty) None = None
and_others (Some ty) (Some tys) = Some (ty ∷ tys)

-- all types, where each says one
abbrev pub all_types : Types → List RawTy → Option (List Ty)
all_types types [] = Some []
all_types types (raw ∷ raws) = and_others (type_said types raw) (all_types types raws)
