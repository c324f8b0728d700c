use Rattle.dc_causes.proofs.Single.{single-test, single-reads, single-then, single-told, single-traverse, single-times, single-in_order, single-each, single-least, single-below, single-rounds}
use Rattle.dc_causes.proofs.laws.parts_keep_one_answer.Goals as goal

pub returns-clause-test : goal.returns-clause-test
returns-clause-test g c = λ x f. single-test _ f

pub returns-clause-reads : goal.returns-clause-reads
returns-clause-reads g c = λ f one. single-reads _ f one

pub returns-clause-chain : goal.returns-clause-chain
returns-clause-chain g c = λ first next. single-then _ _ first next

pub returns-clause-told : goal.returns-clause-told
returns-clause-told g c = λ one. single-told _ _ one

pub returns-clause-traverse : goal.returns-clause-traverse
returns-clause-traverse g c = λ one k xs. single-traverse _ one k xs

pub returns-clause-in_order : goal.returns-clause-in_order
returns-clause-in_order g c = λ one xs. single-in_order _ one xs

pub returns-clause-each : goal.returns-clause-each
returns-clause-each g c = single-each g.P.Parts.Fact g.P.Parts.fault

pub returns-clause-least : goal.returns-clause-least
returns-clause-least g c = λ x. single-least _ _

pub returns-clause-below : goal.returns-clause-below
returns-clause-below g c = λ one bound. single-below bound _ one

pub returns-clause-rounds : goal.returns-clause-rounds
returns-clause-rounds g c = λ one. single-rounds _ one

pub returns-clause-times : goal.returns-clause-times
returns-clause-times g c = λ one count. single-times count _ one
