use Rattle.cli_named.proofs.One.{names_are_one, names_have_numbers, numbers_are_ones, numbers_are_below}
use Rattle.cli_named.proofs.laws.names_are_one.Goals as goal

pub returns-clause-one : goal.returns-clause-one
returns-clause-one c = names_are_one c.one_list.ensures.tokens c.one_list.ensures.specs

pub returns-clause-numbered : goal.returns-clause-numbered
returns-clause-numbered c = names_have_numbers

pub returns-clause-told : goal.returns-clause-told
returns-clause-told c = numbers_are_ones

pub returns-clause-below : goal.returns-clause-below
returns-clause-below c = numbers_are_below
