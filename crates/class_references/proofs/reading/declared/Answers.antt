use Rattle.std.proofs.Common.{arith}
use Rattle.class_references.proofs.Buildable.{texts_are_buildable}
use Rattle.class_references.proofs.reading.declared.Goals as goal

pub returns-clause-buildable : goal.returns-clause-buildable
returns-clause-buildable c =
    let rows = c.in_ok-rows.rows in
    let types = c.len.ensures in
    let members = c.len-2.ensures in
    let explicit = c.len-3.ensures in
    let few = c.if-not-are_few.ensures in
    texts_are_buildable c.in_ok-unit.unit rows.types.items rows.members.items rows.explicit.items c.in_ok-rows.ensures
    (omega (arith, types, few.types)) (omega (arith, members, few.members)) (omega (arith, explicit, few.explicit))
