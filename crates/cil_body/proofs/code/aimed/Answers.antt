use Rattle.std.proofs.Common.{[], length, sym, subst}
use Rattle.std.specs.Prelude.{All}
use Rattle.std.proofs.lemmas.List.{take_all}
use Rattle.std.proofs.lemmas.List.Elements.{All-more}
use Rattle.std.proofs.lemmas.Option.{MatchOption-at_none, MatchOption-at_some}
use Rattle.cil_body.specs.Code.{IsAimed, AreInOrder}
use Rattle.cil_body.proofs.CodeFacts.{Reads-before, Reads-at, place_fits, starts-ordered}
use Rattle.cil_body.proofs.JumpFacts.{instrs-more, aim_fault}
use Rattle.cil_body.proofs.code.aimed.Goals as goal

pub instr-requires-clause-within : goal.instr-requires-clause-within
instr-requires-clause-within c =
    Reads-before 0 c.args.code.now c.args.placed.now (length c.args.code.now) [] c.requires.read c.loop-at.at-index _ c.loop-at-test.true

pub instr-requires-clause-read : goal.instr-requires-clause-read
instr-requires-clause-read c =
    Reads-at c.args.code.now 0 c.args.placed.now (length c.args.code.now) [] c.requires.read c.loop-at.at-index _ c.loop-at-test.true

pub instr-requires-clause-order : goal.instr-requires-clause-order
instr-requires-clause-order c =
    subst AreInOrder (sym c.requires.starts) (starts-ordered 0 c.args.code.now c.args.placed.now (length c.args.code.now) [] c.requires.read)

pub overflow_add-result : goal.overflow_add-result
overflow_add-result c =
    place_fits c.args.start _ (length c.args.code.now) c.requires.near c.requires.short
    (Reads-before 0 c.args.code.now c.args.placed.now (length c.args.code.now) [] c.requires.read c.loop-at.at-index _ c.loop-at-test.true)

pub returns-in_default-clause-fault : goal.returns-in_default-clause-fault
returns-in_default-clause-fault c =
    let off = MatchOption-at_none _ _ c.in_default.is c.in_ok-instr.ensures in
    aim_fault c.args.code.now c.args.placed.now c.args.starts.now c.args.start c.loop-at.at-index _ c.requires.starts c.loop-at-test.true c.loop-at.invariant.aimed off

pub loop-at-preserved : goal.loop-at-preserved
loop-at-preserved c =
    let is = MatchOption-at_some _ _ c.in-Some.instr c.in-Some.is c.in_ok-instr.ensures in
    record {
      aimed = All-more (IsAimed c.args.code.now c.args.starts.now) c.args.placed.now c.loop-at.at-index _ c.loop-at-test.true c.loop-at.invariant.aimed is.0;
      instrs = rw c.in_ok-push.ensures.items
          (instrs-more c.args.code.now c.args.starts.now c.args.placed.now c.loop-at.at-index _ c.loop-at.instrs.items c.in-Some.instr c.loop-at-test.true is c.loop-at.invariant.instrs);
    }

pub returns-clause-aimed : goal.returns-clause-aimed
returns-clause-aimed c =
    subst (All (IsAimed c.args.code.now c.args.starts.now)) (take_all c.loop-at.at-index c.args.placed.now c.loop-at-test.false) c.loop-at.invariant.aimed
