-- So far the arguments are what is read in the rounds that are left, and no higher than the levels that are left.
use Rattle.std.proofs.Common.{◌≡◌, ◌-◌, ◌≤◌, true, [], ◌∷◌}
use Rattle.cs_grammar.specs.Grammar.{turns, read_rounds}
use Rattle.cs_productions.specs.Kinds.{comma}
use Rattle.cs_productions.specs.Tokens.{kind}
use Rattle.cs_productions.specs.Calls.{one_more_arg}
use Rattle.cs_read_calls.specs.Asked.{inner_of}
use Rattle.cs_read_calls.proofs.level.Level.more_args.Given as goal

abbrev pub invariant-turns : goal.invariant-turns
invariant-turns g l =
    ((turns kind (comma ∷ []) (λ _. true) (one_more_arg (inner_of l.self.at)) l.fn.first).reads l.fn.tokens ≡ read_rounds kind (comma ∷ []) (λ _. true) (one_more_arg (inner_of l.self.at)) (l.end - l.counter) l.args l.tokens)
    × (l.args.height ≤ l.self.at.left)
