use Rattle.std.proofs.Common.{refl, arith}
use Rattle.class_members.proofs.Duplicates.{duplicate_within}
use Rattle.class_members.proofs.unique.members_are_unique.Goals as goal

pub overflow_cast-result : goal.overflow_cast-result
overflow_cast-result c =
    let first = rw c.in-Some.is at c.in_ok-least_duplicate.ensures in
    let lt = duplicate_within c.args.types.now c.args.members.now c.args.explicit.now c.in-Some.m first.holds in
    omega (arith, lt, c.requires.members)

pub returns-in-Some-clause-duplicate : goal.returns-in-Some-clause-duplicate
returns-in-Some-clause-duplicate c = (c.in-Some.m, rw c.in-Some.is at c.in_ok-least_duplicate.ensures, refl)

pub returns-in-None-clause-unique : goal.returns-in-None-clause-unique
returns-in-None-clause-unique c = rw c.in-None.is at c.in_ok-least_duplicate.ensures
