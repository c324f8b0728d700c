-- So far the labels are what is read in the rounds that are left.
use Rattle.std.proofs.Common.{◌≡◌, ◌-◌, true, [], ◌∷◌}
use Rattle.cs_grammar.specs.Grammar.{turns, read_rounds}
use Rattle.cs_productions.specs.Kinds.{kw_case, kw_default}
use Rattle.cs_productions.specs.Tokens.{kind}
use Rattle.cs_statements.specs.Structured.{one_more_label}
use Rattle.cs_read_sections.proofs.switches.more_labels.Given as goal

abbrev pub invariant-turns : goal.invariant-turns
invariant-turns l =
    (turns kind (kw_case ∷ kw_default ∷ []) (λ _. true) one_more_label l.fn.first).reads l.fn.tokens ≡ read_rounds kind (kw_case ∷ kw_default ∷ []) (λ _. true) one_more_label (l.end - l.counter) l.labels l.tokens
