use Rattle.std.proofs.Common.{sym, subst, ◌∙◌}
use Rattle.cs_grammar.specs.Grammar.{Read}
use Rattle.cs_grammar.specs.Reads.{Reads}
use Rattle.cs_token.specs.Placed.{Placed as Token}
use Rattle.cs_productions.specs.declared.values.Measured.{Measured}
use Rattle.cs_productions.specs.Kinds.{simple_kinds}
use Rattle.cs_productions.specs.Tokens.{kind, simple_of}
use Rattle.cs_read_actions.proofs.Names.{among}
use Rattle.cs_read_actions.proofs.primaries.simple_among.Goals as goal

pub returns : goal.returns
returns c =
    subst (λ (r : Read Token Measured). Reads r c.simple.result c.simple.new.tokens)
    (among kind c.args.kinds.now simple_kinds simple_of c.args.tokens.now c.requires (sym c.begins.ensures ∙ c.if-not-begins.false)) c.simple.ensures
