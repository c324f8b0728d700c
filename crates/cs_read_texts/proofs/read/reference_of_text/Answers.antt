use Rattle.std.proofs.Common.{◌≡◌, ◌+◌, List, sym, ◌∙◌, subst, Result}
use Rattle.std.specs.Str.{chars}
use Rattle.dc_base.specs.declared.failure.Or.{Or}
use Rattle.cs_token.specs.Placed.{Placed as Token}
use Rattle.cs_tree.specs.declared.declarations.Unit.{Unit as WholeText}
use Rattle.cs_grammar.specs.Reads.{Reads}
use Rattle.cs_references.specs.Declarations.{text_at}
use Rattle.cs_references.proofs.DeeperDeclarations.{exact_text_at, deeper_text_at}
use Rattle.cs_read_texts.specs.declared.fault.ReadFault.{ReadFault}
use Rattle.cs_read_texts.specs.Texts.{IsRead}
use Rattle.cs_read_texts.proofs.Reading.{tells}
use Rattle.cs_read_texts.proofs.read.reference_of_text.Goals as goal

pub returns : goal.returns
returns c =
    let limit = c.args.limit in
    let nesting = c.args.nesting in
    let cut = c.cut-tokens.result in
    let left = c.reference_text-read.new.tokens in
    subst (λ (out : Result WholeText (Or ReadFault)). IsRead (text_at limit nesting) (text_at (limit + 1) (nesting + 1)) (chars c.args.source.now) out) (sym c.told.ensures)
    (tells (exact_text_at limit nesting) (exact_text_at (limit + 1) (nesting + 1)) (deeper_text_at limit nesting) (chars c.args.source.now) cut left c.reference_text-read.result c.cut-tokens.ensures c.reference_text-read.ensures)
