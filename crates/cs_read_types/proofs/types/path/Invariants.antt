-- So far the path is what is read in the rounds that are left.
use Rattle.std.proofs.Common.{◌≡◌, ◌-◌, true, [], ◌∷◌}
use Rattle.cs_grammar.specs.Grammar.{read_rounds}
use Rattle.cs_productions.specs.Kinds.{dot}
use Rattle.cs_productions.specs.Tokens.{kind}
use Rattle.cs_productions.specs.Types.{one_more_name, path}
use Rattle.cs_read_types.proofs.types.path.Given as goal

abbrev pub invariant-turns : goal.invariant-turns
invariant-turns l = path.reads l.fn.tokens ≡ read_rounds kind (dot ∷ []) (λ _. true) one_more_name (l.end - l.counter) l.names l.tokens
