-- Trees without their places and notes. Two trees are the same text where they are equal once both are forgotten. Each function
-- forgets those of one layer; the parts in it have forgotten theirs.
use Rattle.std.specs.Prelude.{◌≡◌, List, map, Option}
use Rattle.std.specs.Option.{option_map}
use Rattle.cs_tree.specs.declared.types.Spot.{Spot}
use Rattle.cs_tree.specs.declared.types.Name.{Name}
use Rattle.cs_tree.specs.declared.types.TypeForm.{TypeForm}
use Rattle.cs_tree.specs.declared.types.Param.{Param}
use Rattle.cs_tree.specs.declared.types.Path.{Path}
use Rattle.cs_tree.specs.declared.forms.SwitchLabel.{SwitchLabel}
use Rattle.cs_tree.specs.declared.forms.SwitchLabel.TheVariants as label
use Rattle.cs_tree.specs.declared.forms.Action.{Action}
use Rattle.cs_tree.specs.declared.forms.Action.TheVariants as action
use Rattle.cs_tree.specs.declared.forms.Form.{Form}
use Rattle.cs_tree.specs.declared.forms.Form.TheVariants as form
use Rattle.cs_tree.specs.declared.forms.Syntax.{Syntax}
use Rattle.cs_tree.specs.declared.forms.Syntax.TheVariants as syntax
use Rattle.cs_tree.specs.declared.forms.Arg.{Arg}
use Rattle.cs_tree.specs.declared.forms.Block.{Block}
use Rattle.cs_tree.specs.declared.forms.Catching.{Catching}
use Rattle.cs_tree.specs.declared.forms.Section.{Section}
use Rattle.cs_tree.specs.declared.forms.Action.TheOpen.{Action-F, Form-F, Syntax-F, Arg-F, Block-F, Catching-F, Section-F}
use Rattle.cs_tree.specs.declared.forms.Action.TheFolds.{fold-Action, fold-Form, fold-Syntax, fold-Arg, fold-Block}

-- the place of what wasn't read
abbrev pub nowhere : Spot
nowhere = record { line = 0; column = 0 }

abbrev pub bare_name : Name → Name
bare_name n = record { spot = nowhere; text = n.text }

abbrev pub bare_path : Path → Path
bare_path p = record { spot = nowhere; names = p.names }

abbrev pub bare_type : TypeForm → TypeForm
bare_type t = record { spot = nowhere; name = t.name; ranks = t.ranks }

abbrev pub bare_param : Param → Param
bare_param p = record { way = p.way; ty = bare_type p.ty; name = bare_name p.name }

abbrev pub bare_label : SwitchLabel → SwitchLabel
bare_label (label.Case spot literal) = label.Case nowhere literal
bare_label (label.Default spot) = label.Default nowhere

-- one layer of each

abbrev pub action_layer : Action-F Action Form Syntax Arg Block Catching Section → Action
action_layer (Action-F.Assign place value) = action.Assign place value
action_layer (Action-F.Compound op place value) = action.Compound op place value
action_layer (Action-F.Invoke call) = action.Invoke call

abbrev pub form_layer : Form-F Action Form Syntax Arg Block Catching Section → Form
form_layer (Form-F.Literal spot literal) = form.Literal nowhere literal
form_layer (Form-F.Name spot text) = form.Name nowhere text
form_layer (Form-F.This spot) = form.This nowhere
form_layer (Form-F.Member spot object name) = form.Member nowhere object (bare_name name)
form_layer (Form-F.Call spot object name args) = form.Call nowhere object (bare_name name) args
form_layer (Form-F.BaseMember spot name) = form.BaseMember nowhere (bare_name name)
form_layer (Form-F.BaseCall spot name args) = form.BaseCall nowhere (bare_name name) args
form_layer (Form-F.Global spot path) = form.Global nowhere path
form_layer (Form-F.GlobalCall spot path args) = form.GlobalCall nowhere path args
form_layer (Form-F.Index spot array index) = form.Index nowhere array index
form_layer (Form-F.New spot class args) = form.New nowhere class args
form_layer (Form-F.NewArray spot element length) = form.NewArray nowhere (bare_type element) length
form_layer (Form-F.Checked spot inner) = form.Checked nowhere inner
form_layer (Form-F.Unchecked spot inner) = form.Unchecked nowhere inner
form_layer (Form-F.Default spot ty) = form.Default nowhere (bare_type ty)
form_layer (Form-F.Lambda spot params block) = form.Lambda nowhere (map bare_param params) block
form_layer (Form-F.Unary spot op operand) = form.Unary nowhere op operand
form_layer (Form-F.Cast spot ty operand) = form.Cast nowhere (bare_type ty) operand
form_layer (Form-F.Binary spot op left right) = form.Binary nowhere op left right
form_layer (Form-F.Is spot operand ty) = form.Is nowhere operand (bare_type ty)
form_layer (Form-F.As spot operand ty) = form.As nowhere operand (bare_type ty)
form_layer (Form-F.Conditional spot test on_true on_false) = form.Conditional nowhere test on_true on_false

abbrev pub syntax_layer : Syntax-F Action Form Syntax Arg Block Catching Section → Syntax
syntax_layer (Syntax-F.Declare spot ty name value) = syntax.Declare nowhere (bare_type ty) (bare_name name) value
syntax_layer (Syntax-F.Act spot act) = syntax.Act nowhere act
syntax_layer (Syntax-F.Label spot text) = syntax.Label nowhere text
syntax_layer (Syntax-F.Goto spot text) = syntax.Goto nowhere text
syntax_layer (Syntax-F.Break spot) = syntax.Break nowhere
syntax_layer (Syntax-F.Continue spot) = syntax.Continue nowhere
syntax_layer (Syntax-F.Return spot value) = syntax.Return nowhere value
syntax_layer (Syntax-F.Throw spot value) = syntax.Throw nowhere value
syntax_layer (Syntax-F.If spot test block otherwise) = syntax.If nowhere test block otherwise
syntax_layer (Syntax-F.While spot test block) = syntax.While nowhere test block
syntax_layer (Syntax-F.DoWhile spot block test) = syntax.DoWhile nowhere block test
syntax_layer (Syntax-F.For spot test step block) = syntax.For nowhere test step block
syntax_layer (Syntax-F.Foreach spot ty name array block) = syntax.Foreach nowhere (bare_type ty) (bare_name name) array block
syntax_layer (Syntax-F.Using spot ty name value block) = syntax.Using nowhere (bare_type ty) (bare_name name) value block
syntax_layer (Syntax-F.Lock spot object block) = syntax.Lock nowhere object block
syntax_layer (Syntax-F.Switch spot value sections) = syntax.Switch nowhere value sections
syntax_layer (Syntax-F.Try spot block catches last) = syntax.Try nowhere block catches last

abbrev pub arg_layer : Arg-F Action Form Syntax Arg Block Catching Section → Arg
arg_layer a = record { way = a.way; form = a.form }

abbrev pub block_layer : Block-F Action Form Syntax Arg Block Catching Section → Block
block_layer b = record { stmts = b.stmts; end = nowhere }

abbrev pub catching_layer : Catching-F Action Form Syntax Arg Block Catching Section → Catching
catching_layer c = record { spot = nowhere; ty = bare_type c.ty; name = option_map bare_name c.name; block = c.block }

abbrev pub section_layer : Section-F Action Form Syntax Arg Block Catching Section → Section
section_layer s = record { labels = map bare_label s.labels; block = s.block }

-- whole trees without places

abbrev pub bare_action : Action → Action
bare_action = fold-Action Action Form Syntax Arg Block Catching Section action_layer form_layer syntax_layer arg_layer block_layer catching_layer section_layer

abbrev pub bare_form : Form → Form
bare_form = fold-Form Action Form Syntax Arg Block Catching Section action_layer form_layer syntax_layer arg_layer block_layer catching_layer section_layer

abbrev pub bare_syntax : Syntax → Syntax
bare_syntax = fold-Syntax Action Form Syntax Arg Block Catching Section action_layer form_layer syntax_layer arg_layer block_layer catching_layer section_layer

abbrev pub bare_arg : Arg → Arg
bare_arg = fold-Arg Action Form Syntax Arg Block Catching Section action_layer form_layer syntax_layer arg_layer block_layer catching_layer section_layer

abbrev pub bare_block : Block → Block
bare_block = fold-Block Action Form Syntax Arg Block Catching Section action_layer form_layer syntax_layer arg_layer block_layer catching_layer section_layer
