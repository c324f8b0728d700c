-- So far the parameters are what is read in the rounds that are left.
use Rattle.std.proofs.Common.{◌≡◌, ◌-◌, true, [], ◌∷◌}
use Rattle.cs_grammar.specs.Grammar.{read_rounds}
use Rattle.cs_productions.specs.Kinds.{comma}
use Rattle.cs_productions.specs.Tokens.{kind}
use Rattle.cs_productions.specs.Types.{one_more_param, more_params}
use Rattle.cs_read_types.proofs.types.more_params.Given as goal

abbrev pub invariant-turns : goal.invariant-turns
invariant-turns l =
    (more_params l.limit l.fn.first).reads l.fn.tokens ≡ read_rounds kind (comma ∷ []) (λ _. true) (one_more_param l.limit) (l.end - l.counter) l.params l.tokens
