-- The element types (ECMA-335 II.23.1.16).
use Rattle.std.specs.Prelude.{ℕ, List, [], ◌∷◌, Option, Some, None, ◌==◌, find}
use Rattle.cli_signature.specs.declared.element.Part.{Part}
use Rattle.cli_signature.specs.declared.element.Part.TheVariants.{Void, Plain, ByRef, Named, SzArray, LeftOut, Unknown}
use Rattle.cli_signature.specs.declared.element.Element.{Element}

abbrev element : ℕ → Part → Element
element number part = record { byte = number; part = part }

-- Each element type that stands in signatures with its number, and what it is in a type here: VOID, BYREF and SZARRAY by
-- themselves, CLASS and VALUETYPE, behind which the number of a type stands, those that are a type alone, and those that
-- are left out.
abbrev pub element_types : List Element
element_types =
    -- VOID
    element 0x01 Void ∷
    -- BOOLEAN
    element 0x02 Plain ∷
    -- CHAR
    element 0x03 Plain ∷
    -- I1
    element 0x04 Plain ∷
    -- U1
    element 0x05 Plain ∷
    -- I2
    element 0x06 Plain ∷
    -- U2
    element 0x07 Plain ∷
    -- I4
    element 0x08 Plain ∷
    -- U4
    element 0x09 Plain ∷
    -- I8
    element 0x0A Plain ∷
    -- U8
    element 0x0B Plain ∷
    -- R4
    element 0x0C LeftOut ∷
    -- R8
    element 0x0D LeftOut ∷
    -- STRING
    element 0x0E Plain ∷
    -- PTR
    element 0x0F LeftOut ∷
    -- BYREF
    element 0x10 ByRef ∷
    -- VALUETYPE
    element 0x11 Named ∷
    -- CLASS
    element 0x12 Named ∷
    -- VAR
    element 0x13 LeftOut ∷
    -- ARRAY
    element 0x14 LeftOut ∷
    -- GENERICINST
    element 0x15 LeftOut ∷
    -- TYPEDBYREF
    element 0x16 LeftOut ∷
    -- I
    element 0x18 LeftOut ∷
    -- U
    element 0x19 LeftOut ∷
    -- FNPTR
    element 0x1B LeftOut ∷
    -- OBJECT
    element 0x1C Plain ∷
    -- SZARRAY
    element 0x1D SzArray ∷
    -- MVAR
    element 0x1E LeftOut ∷
    -- CMOD_REQD
    element 0x1F LeftOut ∷
    -- CMOD_OPT
    element 0x20 LeftOut ∷
    -- SENTINEL
    element 0x41 LeftOut ∷
    -- PINNED
    element 0x45 LeftOut ∷
    []

abbrev pub part_in : Option Element → Part
part_in None = Unknown
part_in (Some e) = e.part

-- the element type of a byte
unfoldable pub entry_of : ℕ → Option Element
entry_of byte = find (λ e. e.byte == byte) element_types

-- what a byte is in a type
abbrev pub part_of : ℕ → Part
part_of byte = part_in (entry_of byte)
