-- So far it is what is read in the rounds that are left.
use Rattle.std.proofs.Common.{◌≡◌, ◌-◌, true, []}
use Rattle.cs_grammar.specs.Grammar.{turns, read_rounds}
use Rattle.cs_productions.specs.Tokens.{kind}
use Rattle.cs_productions.specs.Kinds.{names}
use Rattle.cs_units.specs.Declarations.{one_more_enumerator}
use Rattle.cs_read_units.proofs.enums.enumerators.Given as goal

abbrev pub invariant-turns : goal.invariant-turns
invariant-turns l =
    (turns kind (names) (λ _. true) one_more_enumerator []).reads l.fn.tokens ≡ read_rounds kind (names) (λ _. true) one_more_enumerator (l.end - l.counter) l.so_far l.tokens
