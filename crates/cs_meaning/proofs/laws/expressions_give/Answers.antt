use Rattle.cs_meaning.proofs.Consequences.{literals_give, variables_give, sums_give, differences_give, products_give}
use Rattle.cs_meaning.proofs.laws.expressions_give.Goals as goal

pub returns-clause-literals : goal.returns-clause-literals
returns-clause-literals c = literals_give

pub returns-clause-variables : goal.returns-clause-variables
returns-clause-variables c = variables_give

pub returns-clause-sums : goal.returns-clause-sums
returns-clause-sums c = sums_give

pub returns-clause-differences : goal.returns-clause-differences
returns-clause-differences c = differences_give

pub returns-clause-products : goal.returns-clause-products
returns-clause-products c = products_give
