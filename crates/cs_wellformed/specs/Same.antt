-- Sections and catches without their places.
use Rattle.cs_tree.specs.declared.forms.Action.{Action}
use Rattle.cs_tree.specs.declared.forms.Form.{Form}
use Rattle.cs_tree.specs.declared.forms.Syntax.{Syntax}
use Rattle.cs_tree.specs.declared.forms.Arg.{Arg}
use Rattle.cs_tree.specs.declared.forms.Block.{Block}
use Rattle.cs_tree.specs.declared.forms.Catching.{Catching}
use Rattle.cs_tree.specs.declared.forms.Section.{Section}
use Rattle.cs_tree.specs.declared.forms.Action.TheFolds.{fold-Catching, fold-Section}
use Rattle.cs_tree.specs.Bare.{action_layer, form_layer, syntax_layer, arg_layer, block_layer, catching_layer, section_layer}

abbrev pub bare_catching : Catching → Catching
bare_catching = fold-Catching Action Form Syntax Arg Block Catching Section action_layer form_layer syntax_layer arg_layer block_layer catching_layer section_layer

abbrev pub bare_section : Section → Section
bare_section = fold-Section Action Form Syntax Arg Block Catching Section action_layer form_layer syntax_layer arg_layer block_layer catching_layer section_layer
