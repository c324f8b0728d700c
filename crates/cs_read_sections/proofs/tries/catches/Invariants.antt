-- So far the catches are what is read in the rounds that are left.
use Rattle.std.proofs.Common.{◌≡◌, ◌-◌, true, [], ◌∷◌}
use Rattle.cs_grammar.specs.Grammar.{turns, read_rounds}
use Rattle.cs_productions.specs.Kinds.{kw_catch}
use Rattle.cs_productions.specs.Tokens.{kind}
use Rattle.cs_statements.specs.Structured.{one_more_catching}
use Rattle.cs_read_calls.specs.Asked.{inner_of}
use Rattle.cs_read_sections.proofs.tries.catches.Given as goal

abbrev pub invariant-turns : goal.invariant-turns
invariant-turns g l =
    (turns kind (kw_catch ∷ []) (λ _. true) (one_more_catching (inner_of l.level.at)) []).reads l.fn.tokens ≡ read_rounds kind (kw_catch ∷ []) (λ _. true) (one_more_catching (inner_of l.level.at)) (l.end - l.counter) l.catches l.tokens
