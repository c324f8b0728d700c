-- The aims of an instruction's row are among its targets, or 0.
use Rattle.std.proofs.Common.{◌≡◌, ℕ, zero, suc, ◌<◌, List, [], ◌∷◌, ℤ, length, map, get_or, subst, arith}
use Rattle.std.proofs.lemmas.List.{length-map}
use Rattle.std.proofs.lemmas.List.Elements.{All-map, All-weaker}
use Rattle.std.specs.List.{All, Contains}
use Rattle.cil_instruction.specs.declared.opcode.Op.{Op}
use Rattle.cil_instruction.specs.declared.opcode.Op.TheVariants as op
use Rattle.cil_instruction.specs.declared.instruction.Instr.{Instr}
use Rattle.cil_rows.specs.Instruction.{row_by, row_of}
use Rattle.cil_rows.specs.Operand.{aim_of}
use Rattle.cil_rows.specs.Flow.{aims_of}
use Rattle.cil_rows.specs.Code.{Placed, AreAimed, starts_of, number_at, numbered, rows_of}
use Rattle.cil_rows.proofs.Numbers.{number_below}

abbrev AreBelow : ℕ → List ℕ → Type 0
AreBelow n aims = All (λ to. to < n) aims

none : (n : ℕ) → AreBelow n []
none n k d lt = absurd (omega (arith, lt))

pub aims_below : (o : Op) (arg : ℤ) (targets : List ℕ) (n : ℕ) → AreBelow n (aim_of targets ∷ []) → AreBelow n targets → AreBelow n (aims_of (row_by o arg targets))
aims_below op.Br arg targets n one all = one
aims_below op.BrS arg targets n one all = one
aims_below op.Brtrue arg targets n one all = one
aims_below op.BrtrueS arg targets n one all = one
aims_below op.Brfalse arg targets n one all = one
aims_below op.BrfalseS arg targets n one all = one
aims_below op.Beq arg targets n one all = one
aims_below op.BeqS arg targets n one all = one
aims_below op.Bge arg targets n one all = one
aims_below op.BgeS arg targets n one all = one
aims_below op.Bgt arg targets n one all = one
aims_below op.BgtS arg targets n one all = one
aims_below op.Ble arg targets n one all = one
aims_below op.BleS arg targets n one all = one
aims_below op.Blt arg targets n one all = one
aims_below op.BltS arg targets n one all = one
aims_below op.BneUn arg targets n one all = one
aims_below op.BneUnS arg targets n one all = one
aims_below op.BgeUn arg targets n one all = one
aims_below op.BgeUnS arg targets n one all = one
aims_below op.BgtUn arg targets n one all = one
aims_below op.BgtUnS arg targets n one all = one
aims_below op.BleUn arg targets n one all = one
aims_below op.BleUnS arg targets n one all = one
aims_below op.BltUn arg targets n one all = one
aims_below op.BltUnS arg targets n one all = one
aims_below op.Leave arg targets n one all = one
aims_below op.LeaveS arg targets n one all = one
aims_below op.Switch arg targets n one all = all
aims_below _ arg targets n one all = none n

-- the first of some numbers below n is so too, as is 0
first_below : (n : ℕ) (targets : List ℕ) → 0 < n → AreBelow n targets → AreBelow n (aim_of targets ∷ [])
first_below n [] pos all zero d lt = pos
first_below n [] pos all (suc k) d lt = absurd (omega (arith, lt))
first_below n (t ∷ targets) pos all zero d lt = all 0 d (omega arith)
first_below n (t ∷ targets) pos all (suc k) d lt = absurd (omega (arith, lt))

numbers_below : (starts targets : List ℕ) → All (Contains starts) targets → AreBelow (length starts) (map (number_at starts) targets)
numbers_below starts targets all =
    All-map (λ to. to < length starts) (number_at starts) targets
    (All-weaker (Contains starts) (λ place. number_at starts place < length starts) (number_below starts) targets all)

row_below : (starts : List ℕ) (i : Instr) (n : ℕ) → 0 < n → length starts ≡ n → All (Contains starts) i.targets → AreBelow n (aims_of (row_of (numbered starts i)))
row_below starts i n pos e all =
    let below : AreBelow n (map (number_at starts) i.targets) =
    subst (λ (m : ℕ). AreBelow m (map (number_at starts) i.targets)) e (numbers_below starts i.targets all) in
    aims_below i.op i.arg (map (number_at starts) i.targets) n (first_below n (map (number_at starts) i.targets) pos below) below

pub aims : (code : List Placed) → AreAimed code → All (λ row. All (λ to. to < length code) (aims_of row)) (rows_of code)
aims code aimed =
    All-map (λ row. AreBelow (length code) (aims_of row)) (λ e. row_of (numbered (starts_of code) e.1)) code
    (λ k d lt. row_below (starts_of code) (get_or code k d).1 (length code) (omega (arith, lt)) (length-map code (λ e. e.0)) (aimed k d lt))
