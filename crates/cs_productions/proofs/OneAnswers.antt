-- An exact grammar has one answer for each list of tokens.
use Rattle.std.proofs.Common.{ℕ, Bool, List}
use Rattle.cs_token.specs.Placed.{Placed as Token}
use Rattle.cs_grammar.specs.Grammar.{Grammar}
use Rattle.cs_grammar.specs.Exact.{Exact}
use Rattle.cs_grammar.specs.Whole.{whole, Deeper}
use Rattle.cs_grammar.proofs.Whole.{whole_answers, one_answer}
use Rattle.cs_productions.specs.Tokens.{kind}
use Rattle.cs_productions.specs.Laws.{OneAnswer}

pub answers_once : {A : Type 0} {g wide : Grammar Token A} {xs ys v w : List ℕ} {m n : Bool} → Exact kind g xs v m → Exact kind wide ys w n → Deeper g wide → OneAnswer g wide
answers_once {g = g} {wide = wide} x y d ts =
    (whole (g.reads ts), whole_answers x y d ts, λ s h. one_answer wide x ts (whole (g.reads ts)) s (whole_answers x y d ts) h)
