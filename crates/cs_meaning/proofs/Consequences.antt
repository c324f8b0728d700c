-- The laws of this crate, for the proofs of the crates above.
use Rattle.cs_meaning.specs.Laws.{LiteralsGive, VariablesGive, SumsGive, DifferencesGive, ProductsGive, DeclarationsRun, ReturnsEnd, BodiesReturn, ReturnsOneInt}
use Rattle.cs_meaning.proofs.Runs.{Gives-literal, Gives-var, Gives-add, Gives-sub, Gives-mul, RunsTo-decl, RunsTo-return, CsReturns-from, CsReturns-functional}

pub literals_give : LiteralsGive
literals_give = Gives-literal

pub variables_give : VariablesGive
variables_give = Gives-var

pub sums_give : SumsGive
sums_give = Gives-add

pub differences_give : DifferencesGive
differences_give = Gives-sub

pub products_give : ProductsGive
products_give = Gives-mul

pub declarations_run : DeclarationsRun
declarations_run = RunsTo-decl

pub returns_end : ReturnsEnd
returns_end = RunsTo-return

pub bodies_return : BodiesReturn
bodies_return = CsReturns-from

pub returns_one_int : ReturnsOneInt
returns_one_int = CsReturns-functional
