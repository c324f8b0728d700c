use Rattle.std.proofs.Common.{true, [], ◌∷◌, refl, sym, ◌∙◌, arith}
use Rattle.cs_grammar.proofs.Turns.{round_on}
use Rattle.cs_productions.specs.Kinds.{dot}
use Rattle.cs_productions.specs.Tokens.{kind}
use Rattle.cs_productions.specs.Types.{one_more_name}
use Rattle.cs_read_types.proofs.types.path.Goals as goal

pub turns-preserved : goal.turns-preserved
turns-preserved c =
    c.turns.invariant
    ∙ round_on kind (dot ∷ []) (λ _. true) one_more_name c.left-end.result c.turns.counter c.turns.names c.in_ok-names.names c.turns.tokens c.one_more_name.new.tokens (omega arith) (sym c.begins.ensures ∙ c.if-not-begins.false) refl c.in_ok-names.ensures
