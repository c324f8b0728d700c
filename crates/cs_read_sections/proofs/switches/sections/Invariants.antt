-- So far the sections are what is read in the rounds that are left.
use Rattle.std.proofs.Common.{◌≡◌, ◌-◌, nat_lt, [], ◌∷◌}
use Rattle.cs_grammar.specs.Grammar.{turns, read_rounds}
use Rattle.cs_productions.specs.Kinds.{kw_case, kw_default}
use Rattle.cs_productions.specs.Tokens.{kind}
use Rattle.cs_statements.specs.Structured.{one_more_section}
use Rattle.cs_read_calls.specs.Asked.{inner_of}
use Rattle.cs_read_sections.proofs.switches.sections.Given as goal

abbrev pub invariant-turns : goal.invariant-turns
invariant-turns g l =
    (turns kind (kw_case ∷ kw_default ∷ []) (λ _. nat_lt 0 (inner_of l.level.at).blocks) (one_more_section (inner_of l.level.at)) []).reads l.fn.tokens ≡ read_rounds kind (kw_case ∷ kw_default ∷ []) (λ _. nat_lt 0 (inner_of l.level.at).blocks) (one_more_section (inner_of l.level.at)) (l.end - l.counter) l.sections l.tokens
