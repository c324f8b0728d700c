use Rattle.std.proofs.Common.{◌≡◌, ℕ, ◌+◌, List, sym, ◌∙◌, subst, Result, arith}
use Rattle.std.specs.Str.{chars}
use Rattle.dc_base.specs.declared.failure.Or.{Or}
use Rattle.cs_token.specs.Placed.{Placed as Token}
use Rattle.cs_tree.specs.declared.declarations.Unit.{Unit as WholeText}
use Rattle.cs_grammar.specs.Reads.{Reads}
use Rattle.cs_productions.specs.Levels.{below}
use Rattle.cs_statements.specs.Blocks.{block_at}
use Rattle.cs_units.specs.Declarations.{unit_at}
use Rattle.cs_units.proofs.ExactDeclarations.{exact_unit_at, exact_inside}
use Rattle.cs_units.proofs.DeeperDeclarations.{grows_unit_at, spreads_inside}
use Rattle.cs_read_calls.specs.Asked.{inner_of}
use Rattle.cs_read_texts.specs.declared.fault.ReadFault.{ReadFault}
use Rattle.cs_read_texts.specs.Texts.{within, beyond, IsRead}
use Rattle.cs_read_texts.proofs.Reading.{tells}
use Rattle.cs_read_texts.proofs.read.unit_of_text.Goals as goal

pub returns : goal.returns
returns g c =
    let d = c.args.level.now.at in
    let nesting = c.args.nesting in
    let cut = c.cut-tokens.result in
    let ts = cut.tokens in
    let left = c.unit-read.new.tokens in
    let whole = subst (λ (n : ℕ). Reads ((unit_at (below (block_at d.levels d.ranks d.blocks) d.blocks d.ranks n) nesting).reads ts) c.unit-read.result left) c.requires.whole c.unit-read.ensures in
    subst (λ (out : Result WholeText (Or ReadFault)). IsRead (within d nesting) (beyond d nesting) (chars c.args.source.now) out) (sym c.told.ensures)
    (tells (exact_unit_at nesting (exact_inside d.levels d.ranks d.blocks)) (exact_unit_at (nesting + 1) (exact_inside (d.levels + 2) (d.ranks + 1) (d.blocks + 1)))
    (grows_unit_at nesting (nesting + 1) (omega arith) (spreads_inside d.levels d.ranks d.blocks c.requires.ranks c.requires.blocks)).deeper (chars c.args.source.now) cut left c.unit-read.result c.cut-tokens.ensures whole)
