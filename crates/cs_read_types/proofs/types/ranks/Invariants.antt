-- So far the type is what is read in the rounds that are left.
use Rattle.std.proofs.Common.{◌≡◌, ◌-◌, [], ◌∷◌, nat_lt}
use Rattle.cs_tree.specs.declared.types.TypeForm.{TypeForm}
use Rattle.cs_grammar.specs.Grammar.{read_rounds}
use Rattle.cs_productions.specs.Kinds.{bracket}
use Rattle.cs_productions.specs.Tokens.{kind}
use Rattle.cs_productions.specs.Types.{one_more_rank, ranks}
use Rattle.cs_read_types.proofs.types.ranks.Given as goal

abbrev pub invariant-turns : goal.invariant-turns
invariant-turns l =
    (ranks l.limit l.fn.first).reads l.fn.tokens ≡ read_rounds kind (bracket ∷ []) (λ (u : TypeForm). nat_lt u.ranks l.limit) one_more_rank (l.end - l.counter) l.ty l.tokens
