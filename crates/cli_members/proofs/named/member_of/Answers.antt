use Rattle.cli_members.specs.Members.{a_field, a_method}
use Rattle.cli_members.proofs.Places.{no_field, no_method}
use Rattle.cli_members.proofs.named.member_of.Goals as goal

pub returns-in-Some-clause-some : goal.returns-in-Some-clause-some
returns-in-Some-clause-some c = a_field c.in-Some.place c.in-4.is c.in-Some.ensures.some

pub returns-in-None-clause-none : goal.returns-in-None-clause-none
returns-in-None-clause-none c = λ m named. no_field c.args.fields.now c.args.methods.now c.args.own_from c.args.token m c.in-4.is c.in-None.ensures.none named

pub returns-in-Some-place_of-clause-some : goal.returns-in-Some-place_of-clause-some
returns-in-Some-place_of-clause-some c = a_method c.in-Some-place_of.place c.in-6.is c.in-Some-place_of.ensures.some

pub returns-in-None-place_of-clause-none : goal.returns-in-None-place_of-clause-none
returns-in-None-place_of-clause-none c = λ m named. no_method c.args.fields.now c.args.methods.now c.args.own_from c.args.token m c.in-6.is c.in-None-place_of.ensures.none named
