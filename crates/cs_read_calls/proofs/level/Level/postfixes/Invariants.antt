-- So far the expression is what is read in the rounds that are left.
use Rattle.std.proofs.Common.{◌≡◌, ◌-◌, [], ◌∷◌, nat_lt}
use Rattle.cs_productions.specs.declared.values.Measured.{Measured}
use Rattle.cs_grammar.specs.Grammar.{read_rounds}
use Rattle.cs_productions.specs.Kinds.{dot, bracket}
use Rattle.cs_productions.specs.Tokens.{kind}
use Rattle.cs_productions.specs.Calls.{one_postfix, postfixes}
use Rattle.cs_read_calls.specs.Asked.{inner_of}
use Rattle.cs_read_calls.proofs.level.Level.postfixes.Given as goal

abbrev pub invariant-turns : goal.invariant-turns
invariant-turns g l =
    (postfixes l.self.at.left (inner_of l.self.at) l.fn.first).reads l.fn.tokens ≡ read_rounds kind (dot ∷ bracket ∷ []) (λ (b : Measured). nat_lt b.height l.self.at.left) (one_postfix l.self.at.left (inner_of l.self.at)) (l.end - l.counter) l.a l.tokens
