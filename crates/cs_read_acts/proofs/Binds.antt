-- What is read of two productions behind one another, where the first is read or fails.
use Rattle.std.proofs.Common.{List, sym, subst, Result, Ok, Err}
use Rattle.std.proofs.Common.{◌≡◌}
use Rattle.dc_base.specs.declared.failure.Or.{Or}
use Rattle.dc_base.specs.declared.failure.Or.TheVariants.{NoMemory, Fault as WithFault}
use Rattle.cs_grammar.specs.declared.fault.Fault.{Fault}
use Rattle.cs_grammar.specs.Grammar.{Read, Grammar, and_then, bind}
use Rattle.cs_grammar.specs.Reads.{is_deep, Reads}
use Rattle.cs_grammar.proofs.Bind.{and_then-err}

pub goes_on : {T A B : Type 0} (g : Grammar T A) (f : A → Grammar T B) (ts : List T) (a : A) (rest : List T) (r : Result B (Or Fault)) (left : List T) → g.reads ts ≡ Ok (a, rest) → Reads ((f a).reads rest) r left → Reads ((bind g f).reads ts) r left
goes_on {T = T} {A = A} g f ts a rest r left e h = subst (λ (read : Read T A). Reads (and_then read (λ b mid. (f b).reads mid)) r left) (sym e) h

pub fails_first : {T A B : Type 0} (g : Grammar T A) (f : A → Grammar T B) (ts : List T) (e : Or Fault) (r : Result B (Or Fault)) (left : List T) → r ≡ Err e → Reads (g.reads ts) (Err e) left → Reads ((bind g f).reads ts) r left
fails_first {T = T} {B = B} g f ts e r left is h = subst (λ (s : Result B (Or Fault)). Reads ((bind g f).reads ts) s left) (sym is) (by_fault e h)
  where
    by_fault : (e : Or Fault) → Reads (g.reads ts) (Err e) left → Reads ((bind g f).reads ts) (Err e) left
    by_fault (WithFault fault) h = and_then-err (g.reads ts) (is_deep fault) left (λ b mid. (f b).reads mid) h
    by_fault NoMemory h = tt
