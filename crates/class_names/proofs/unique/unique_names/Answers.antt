use Rattle.std.proofs.Common.{refl, arith}
use Rattle.class_names.proofs.Alike.{twice_within}
use Rattle.class_names.proofs.unique.unique_names.Goals as goal

pub overflow_cast-result : goal.overflow_cast-result
overflow_cast-result c =
    let first = rw c.in-Some.is at c.in_ok-least_twice.ensures in
    let lt = twice_within c.args.types.now c.in-Some.t first.holds in
    omega (arith, lt, c.requires.long)

pub returns-in-Some-clause-twice : goal.returns-in-Some-clause-twice
returns-in-Some-clause-twice c = (c.in-Some.t, rw c.in-Some.is at c.in_ok-least_twice.ensures, refl)

pub returns-in-None-clause-unique : goal.returns-in-None-clause-unique
returns-in-None-clause-unique c = rw c.in-None.is at c.in_ok-least_twice.ensures
