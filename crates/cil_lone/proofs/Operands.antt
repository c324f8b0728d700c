-- The operands of the instructions that a lone body has.
use Rattle.std.proofs.Common.{◌≡◌, ℕ, eqb, cond, Bool, true, false, List, [], ◌∷◌, Some, refl}
use Rattle.std.specs.Prelude.{find, ◌&&◌, ◌==◌}
use Rattle.std.specs.List.{list_all}
use Rattle.cil_instruction.specs.declared.opcode.Operand.{Operand}
use Rattle.cil_instruction.specs.declared.opcode.Operand.TheVariants.{Absent, Int32, Int8}
use Rattle.cil_instruction.specs.declared.opcode.TheConstants.{TABLE}
use Rattle.cil_instruction.specs.Opcode.{Line, entry_of}
use Rattle.cil_lone.specs.declared.row.Row.{Row}
use Rattle.cil_lone.specs.declared.row.Row.TheVariants.{Beyond}
use Rattle.cil_lone.specs.Row.{size_of, row_of}

-- whether an instruction of so many bytes may have the operand in a lone body
abbrev pub operand_fits : Operand → ℕ → Bool
operand_fits Absent size = eqb size 1
operand_fits Int8 size = eqb size 2
operand_fits Int32 size = eqb size 5
operand_fits _ size = false

abbrev pub row_fits : Row → Line → Bool
row_fits Beyond e = true
row_fits _ e = operand_fits e.2 (size_of e.1)

abbrev pub line_fits : Line → Bool
line_fits e = row_fits (row_of e.1) e

each_fits : list_all line_fits TABLE ≡ true
each_fits = refl

found_here : (p q : Line → Bool) (x e : Line) (xs : List Line) (b : Bool) → cond b (Some x) (find p xs) ≡ Some e → q x ≡ true → (find p xs ≡ Some e → q e ≡ true) → q e ≡ true
found_here p q x e xs true f h later = cc
found_here p q x e xs false f h later = later f

both_left : (a b : Bool) → (a && b) ≡ true → a ≡ true
both_left true b h = refl
both_left false b h = cc

both_right : (a b : Bool) → (a && b) ≡ true → b ≡ true
both_right true b h = h
both_right false b h = cc

found_passes : (p q : Line → Bool) (xs : List Line) (e : Line) → find p xs ≡ Some e → list_all q xs ≡ true → q e ≡ true
found_passes p q [] e f h = cc
found_passes p q (x ∷ xs) e f h =
    found_here p q x e xs (p x) f (both_left (q x) (list_all q xs) h)
    (λ g. found_passes p q xs e g (both_right (q x) (list_all q xs) h))

-- the operand of a line of the table fits the instruction
pub entry_fits : (code : ℕ) (e : Line) → entry_of code ≡ Some e → line_fits e ≡ true
entry_fits code e h = found_passes (λ x. x.0 == code) line_fits TABLE e h each_fits
