-- Each ending of the walk is what `first_break` says of the whole code.
use Rattle.std.proofs.Common.{◌≢◌, ◌⊎◌, ◌+◌, [], drop, get_or, pos, inl, inr, arith}
use Rattle.cil_instruction.specs.declared.opcode.Op.TheVariants.{Nop}
use Rattle.cil_lone.specs.declared.standalone.LoneFault.TheVariants.{Underflow, BadReturn}
use Rattle.cil_lone.specs.Cut.{Placed}
use Rattle.cil_lone.proofs.Break.{IsBreak-from_walk, IsBalanced-from_walk, walk_underflow, walk_bad_return, walk_return, walk_end, more_behind}
use Rattle.cil_lone.proofs.standalone.balance.Goals as goal
use Rattle.cil_lone.proofs.standalone.balance.Goals.{else-depth-eq1-via-then-depth-eq1+else-i-code, else-depth-eq1-via-else-depth-eq1}

any : Placed
any = (0, record { op = Nop; arg = pos 0 })

pub returns-then-depth-lt2-clause-fault : goal.returns-then-depth-lt2-clause-fault
unfolding any
returns-then-depth-lt2-clause-fault c =
    let code = c.args.code.now in
    IsBreak-from_walk code c.args.end (Underflow (get_or code c.loop-i.i any).0) c.requires
    (walk_underflow code c.args.end c.loop-i.depth c.loop-i.i any (omega arith) c.loop-i.invariant.walked c.in-Binary.field-0 c.in-Binary.ensures (omega arith))

pub returns-then-i-code-clause-balanced : goal.returns-then-i-code-clause-balanced
unfolding any
returns-then-i-code-clause-balanced c =
    let code = c.args.code.now in
    IsBalanced-from_walk code c.args.end
    (walk_return code c.args.end c.loop-i.depth c.loop-i.i any (omega arith) c.loop-i.invariant.walked c.in-Return.ensures (omega arith) (omega arith))

pub returns-in-Return-clause-fault : goal.returns-in-Return-clause-fault
unfolding any
returns-in-Return-clause-fault c =
    let code = c.args.code.now in
    let wrong : (c.loop-i.depth ≢ 1) ⊎ (drop (c.loop-i.i + 1) code ≢ []) =
    elim c.else-depth-eq1.branch [
      | else-depth-eq1-via-then-depth-eq1+else-i-code w ↦ inr (more_behind code c.args.end c.loop-i.depth c.loop-i.i any (omega arith) c.loop-i.invariant.walked w.if-i-code.false)
      | else-depth-eq1-via-else-depth-eq1 w ↦ inl w.if-depth-eq1.false
    ] in
    IsBreak-from_walk code c.args.end (BadReturn (get_or code c.loop-i.i any).0) c.requires
    (walk_bad_return code c.args.end c.loop-i.depth c.loop-i.i any (omega arith) c.loop-i.invariant.walked c.in-Return.ensures wrong)

pub returns-clause-fault : goal.returns-clause-fault
returns-clause-fault c =
    IsBreak-from_walk c.args.code.now c.args.end (BadReturn c.args.end) c.requires
    (walk_end c.args.code.now c.args.end c.loop-i.depth c.loop-i.i (omega arith) c.loop-i.invariant.walked)
