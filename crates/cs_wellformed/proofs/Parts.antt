-- Arguments, blocks, catches and sections: what they are printed as, and what they are without their places.
use Rattle.std.proofs.Common.{◌≡◌, List, map, Option}
use Rattle.std.specs.Option.{option_map}
use Rattle.cs_tree.specs.declared.types.Spot.{Spot}
use Rattle.cs_tree.specs.declared.types.Name.{Name}
use Rattle.cs_tree.specs.declared.types.TypeForm.{TypeForm}
use Rattle.cs_tree.specs.declared.types.Way.{Way}
use Rattle.cs_tree.specs.declared.forms.SwitchLabel.{SwitchLabel}
use Rattle.cs_tree.specs.declared.forms.Action.{Action}
use Rattle.cs_tree.specs.declared.forms.Form.{Form}
use Rattle.cs_tree.specs.declared.forms.Syntax.{Syntax}
use Rattle.cs_tree.specs.declared.forms.Arg.{Arg}
use Rattle.cs_tree.specs.declared.forms.Block.{Block}
use Rattle.cs_tree.specs.declared.forms.Catching.{Catching}
use Rattle.cs_tree.specs.declared.forms.Section.{Section}
use Rattle.cs_tree.specs.declared.forms.Action.TheFolds.{fold-roll-Arg, fold-roll-Block, fold-roll-Catching, fold-roll-Section}
use Rattle.cs_tree.specs.Bare as bare
use Rattle.cs_tree.specs.Bare.{nowhere, bare_name, bare_type, bare_label, bare_form, bare_syntax, bare_arg, bare_block}
use Rattle.cs_layout.specs.Layout as laid
use Rattle.cs_layout.specs.Layout.{Laid, Shown, form_shown, syntax_laid, arg_laid, block_laid, catching_laid, section_laid}
use Rattle.cs_wellformed.specs.Same.{bare_catching, bare_section}
use Rattle.cs_wellformed.specs.WellFormed.{arg_of, block_of, section_of, catching_of}

pub shown_arg : (w : Way) (f : Form) → arg_laid (arg_of w f) ≡ laid.arg_layer (record { way = w; form = form_shown f })
shown_arg w f =
    fold-roll-Arg Laid Shown Laid Laid Laid Laid Laid laid.action_layer laid.form_layer laid.syntax_layer laid.arg_layer laid.block_layer laid.catching_layer laid.section_layer (record { way = w; form = f })

pub shown_block : (stmts : List Syntax) (end : Spot) → block_laid (block_of stmts end) ≡ laid.block_layer (record { stmts = map syntax_laid stmts; end = end })
shown_block stmts end =
    fold-roll-Block Laid Shown Laid Laid Laid Laid Laid laid.action_layer laid.form_layer laid.syntax_layer laid.arg_layer laid.block_layer laid.catching_layer laid.section_layer (record { stmts = stmts; end = end })

pub shown_catching : (s : Spot) (t : TypeForm) (x : Option Name) (b : Block) → catching_laid (catching_of s t x b) ≡ laid.catching_layer (record { spot = s; ty = t; name = x; block = block_laid b })
shown_catching s t x b =
    fold-roll-Catching Laid Shown Laid Laid Laid Laid Laid laid.action_layer laid.form_layer laid.syntax_layer laid.arg_layer laid.block_layer laid.catching_layer laid.section_layer
    (record { spot = s; ty = t; name = x; block = b })

pub shown_section : (labels : List SwitchLabel) (b : Block) → section_laid (section_of labels b) ≡ laid.section_layer (record { labels = labels; block = block_laid b })
shown_section labels b =
    fold-roll-Section Laid Shown Laid Laid Laid Laid Laid laid.action_layer laid.form_layer laid.syntax_layer laid.arg_layer laid.block_layer laid.catching_layer laid.section_layer
    (record { labels = labels; block = b })

pub bare_arg_is : (w : Way) (f : Form) → bare_arg (arg_of w f) ≡ arg_of w (bare_form f)
bare_arg_is w f =
    fold-roll-Arg Action Form Syntax Arg Block Catching Section bare.action_layer bare.form_layer bare.syntax_layer bare.arg_layer bare.block_layer bare.catching_layer bare.section_layer (record { way = w; form = f })

pub bare_block_is : (stmts : List Syntax) (end : Spot) → bare_block (block_of stmts end) ≡ block_of (map bare_syntax stmts) nowhere
bare_block_is stmts end =
    fold-roll-Block Action Form Syntax Arg Block Catching Section bare.action_layer bare.form_layer bare.syntax_layer bare.arg_layer bare.block_layer bare.catching_layer bare.section_layer
    (record { stmts = stmts; end = end })

pub bare_catching_is : (s : Spot) (t : TypeForm) (x : Option Name) (b : Block) → bare_catching (catching_of s t x b) ≡ catching_of nowhere (bare_type t) (option_map bare_name x) (bare_block b)
bare_catching_is s t x b =
    fold-roll-Catching Action Form Syntax Arg Block Catching Section bare.action_layer bare.form_layer bare.syntax_layer bare.arg_layer bare.block_layer bare.catching_layer bare.section_layer
    (record { spot = s; ty = t; name = x; block = b })

pub bare_section_is : (labels : List SwitchLabel) (b : Block) → bare_section (section_of labels b) ≡ section_of (map bare_label labels) (bare_block b)
bare_section_is labels b =
    fold-roll-Section Action Form Syntax Arg Block Catching Section bare.action_layer bare.form_layer bare.syntax_layer bare.arg_layer bare.block_layer bare.catching_layer bare.section_layer
    (record { labels = labels; block = b })
