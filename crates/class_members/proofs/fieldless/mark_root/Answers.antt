use Rattle.std.proofs.Common.{sym}
use Rattle.class_members.proofs.Roots.{marks_of_system, marks_of_none}
use Rattle.class_members.proofs.fieldless.mark_root.Goals as goal

pub returns-in-Some : goal.returns-in-Some
returns-in-Some c = marks_of_system c.args.types.now c.args.systems.now.entries c.args.name.now c.in-Some.t.now c.args.flags.items c.mark_chain.result.items c.requires.unique c.requires.systems (sym c.in-Some.ensures.value) c.mark_chain.ensures

pub returns-in-None : goal.returns-in-None
returns-in-None c = marks_of_none c.args.types.now c.args.systems.now.entries c.args.name.now c.args.flags.items c.requires.systems (sym c.in-None.ensures.value)
