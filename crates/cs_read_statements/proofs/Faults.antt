-- What a function answers, by what it is.
use Rattle.std.proofs.Common.{◌≡◌, List, sym, subst, Result, Err}
use Rattle.dc_base.specs.declared.failure.Or.{Or}
use Rattle.cs_grammar.specs.declared.fault.Fault.{Fault}
use Rattle.cs_grammar.specs.Grammar.{Read}
use Rattle.cs_grammar.specs.Reads.{Reads}

pub fault_of : {T A : Type 0} (r : Read T A) (e : Or Fault) (answer : Result A (Or Fault)) (left : List T) → answer ≡ Err e → Reads r (Err e) left → Reads r answer left
fault_of {A = A} r e answer left is h = subst (λ (s : Result A (Or Fault)). Reads r s left) (sym is) h
