-- So far it is what is read in the rounds that are left.
use Rattle.std.proofs.Common.{◌≡◌, ◌-◌, true, [], ◌∷◌}
use Rattle.cs_grammar.specs.Grammar.{turns, read_rounds}
use Rattle.cs_productions.specs.Tokens.{kind}
use Rattle.cs_productions.specs.Kinds.{dot}
use Rattle.cs_units.specs.Members.{one_more_part}
use Rattle.cs_read_members.proofs.methods.more_parts.Given as goal

abbrev pub invariant-turns : goal.invariant-turns
invariant-turns l =
    (turns kind (dot ∷ []) (λ _. true) one_more_part l.fn.first).reads l.fn.tokens ≡ read_rounds kind (dot ∷ []) (λ _. true) one_more_part (l.end - l.counter) l.named l.tokens
