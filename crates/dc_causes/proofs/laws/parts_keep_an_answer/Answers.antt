use Rattle.dc_causes.proofs.Exact.{exact-test, exact-reads, exact-then, exact-told, exact-traverse, exact-times, exact-in_order, exact-each, exact-least, exact-below, exact-rounds}
use Rattle.dc_causes.proofs.laws.parts_keep_an_answer.Goals as goal

pub returns-clause-test : goal.returns-clause-test
returns-clause-test g c = λ x f d. exact-test _ f d

pub returns-clause-reads : goal.returns-clause-reads
returns-clause-reads g c = λ f d one. exact-reads _ f d one

pub returns-clause-chain : goal.returns-clause-chain
returns-clause-chain g c = λ first next. exact-then _ _ first next

pub returns-clause-told : goal.returns-clause-told
returns-clause-told g c = λ one. exact-told _ _ one

pub returns-clause-traverse : goal.returns-clause-traverse
returns-clause-traverse g c = λ one k xs. exact-traverse _ one k xs

pub returns-clause-in_order : goal.returns-clause-in_order
returns-clause-in_order g c = λ one xs. exact-in_order _ one xs

pub returns-clause-each : goal.returns-clause-each
returns-clause-each g c = λ d xs. exact-each _ _ d xs

pub returns-clause-least : goal.returns-clause-least
returns-clause-least g c = λ d bound below x. exact-least _ _ d bound below

pub returns-clause-below : goal.returns-clause-below
returns-clause-below g c = λ one bound. exact-below bound _ one

pub returns-clause-rounds : goal.returns-clause-rounds
returns-clause-rounds g c = λ one bound beyond. exact-rounds _ one bound beyond

pub returns-clause-times : goal.returns-clause-times
returns-clause-times g c = λ one count. exact-times count _ one
