-- So far it is what is read in the rounds that are left.
use Rattle.std.proofs.Common.{◌≡◌, ◌-◌, true, [], ◌∷◌}
use Rattle.cs_grammar.specs.Grammar.{turns, read_rounds}
use Rattle.cs_productions.specs.Tokens.{kind}
use Rattle.cs_productions.specs.Kinds.{comma}
use Rattle.cs_units.specs.Declarations.{one_more_base}
use Rattle.cs_read_units.proofs.supertypes.more_bases.Given as goal

abbrev pub invariant-turns : goal.invariant-turns
invariant-turns l =
    (turns kind (comma ∷ []) (λ _. true) (one_more_base l.limit) l.fn.first).reads l.fn.tokens ≡ read_rounds kind (comma ∷ []) (λ _. true) (one_more_base l.limit) (l.end - l.counter) l.bases l.tokens
