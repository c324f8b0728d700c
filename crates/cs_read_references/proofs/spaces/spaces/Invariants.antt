-- So far it is what is read in the rounds that are left.
use Rattle.std.proofs.Common.{◌≡◌, ◌-◌, true, [], ◌∷◌}
use Rattle.cs_grammar.specs.Grammar.{turns, read_rounds}
use Rattle.cs_productions.specs.Tokens.{kind}
use Rattle.cs_productions.specs.Kinds.{kw_namespace}
use Rattle.cs_units.specs.Kinds.{decl_kinds}
use Rattle.cs_units.specs.Declarations.{one_more_space}
use Rattle.cs_references.specs.Declarations.{type_at}
use Rattle.cs_read_references.proofs.spaces.spaces.Given as goal

abbrev pub invariant-turns : goal.invariant-turns
invariant-turns l =
    (turns kind (kw_namespace ∷ decl_kinds) (λ _. true) (one_more_space (type_at l.limit l.nesting)) []).reads l.fn.tokens ≡ read_rounds kind (kw_namespace ∷ decl_kinds) (λ _. true) (one_more_space (type_at l.limit l.nesting)) (l.end - l.counter) l.so_far l.tokens
