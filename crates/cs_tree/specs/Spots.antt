-- Where an expression and a statement stand: at their first token.
use Rattle.cs_tree.specs.declared.types.Spot.{Spot}
use Rattle.cs_tree.specs.declared.forms.Form.{Form}
use Rattle.cs_tree.specs.declared.forms.Syntax.{Syntax}
use Rattle.cs_tree.specs.declared.forms.Action.TheOpen.{Action-F, Form-F, Syntax-F, Arg-F, Block-F, Catching-F, Section-F}
use Rattle.cs_tree.specs.declared.forms.Action.TheFolds.{fold-Form, fold-Syntax}

abbrev pub form_spot_layer : Form-F Spot Spot Spot Spot Spot Spot Spot → Spot
form_spot_layer (Form-F.Literal spot _) = spot
form_spot_layer (Form-F.Name spot _) = spot
form_spot_layer (Form-F.This spot) = spot
form_spot_layer (Form-F.Member spot _ _) = spot
form_spot_layer (Form-F.Call spot _ _ _) = spot
form_spot_layer (Form-F.BaseMember spot _) = spot
form_spot_layer (Form-F.BaseCall spot _ _) = spot
form_spot_layer (Form-F.Global spot _) = spot
form_spot_layer (Form-F.GlobalCall spot _ _) = spot
form_spot_layer (Form-F.Index spot _ _) = spot
form_spot_layer (Form-F.New spot _ _) = spot
form_spot_layer (Form-F.NewArray spot _ _) = spot
form_spot_layer (Form-F.Checked spot _) = spot
form_spot_layer (Form-F.Unchecked spot _) = spot
form_spot_layer (Form-F.Default spot _) = spot
form_spot_layer (Form-F.Lambda spot _ _) = spot
form_spot_layer (Form-F.Unary spot _ _) = spot
form_spot_layer (Form-F.Cast spot _ _) = spot
form_spot_layer (Form-F.Binary spot _ _ _) = spot
form_spot_layer (Form-F.Is spot _ _) = spot
form_spot_layer (Form-F.As spot _ _) = spot
form_spot_layer (Form-F.Conditional spot _ _ _) = spot

abbrev pub syntax_spot_layer : Syntax-F Spot Spot Spot Spot Spot Spot Spot → Spot
syntax_spot_layer (Syntax-F.Declare spot _ _ _) = spot
syntax_spot_layer (Syntax-F.Act spot _) = spot
syntax_spot_layer (Syntax-F.Label spot _) = spot
syntax_spot_layer (Syntax-F.Goto spot _) = spot
syntax_spot_layer (Syntax-F.Break spot) = spot
syntax_spot_layer (Syntax-F.Continue spot) = spot
syntax_spot_layer (Syntax-F.Return spot _) = spot
syntax_spot_layer (Syntax-F.Throw spot _) = spot
syntax_spot_layer (Syntax-F.If spot _ _ _) = spot
syntax_spot_layer (Syntax-F.While spot _ _) = spot
syntax_spot_layer (Syntax-F.DoWhile spot _ _) = spot
syntax_spot_layer (Syntax-F.For spot _ _ _) = spot
syntax_spot_layer (Syntax-F.Foreach spot _ _ _ _) = spot
syntax_spot_layer (Syntax-F.Using spot _ _ _ _) = spot
syntax_spot_layer (Syntax-F.Lock spot _ _) = spot
syntax_spot_layer (Syntax-F.Switch spot _ _) = spot
syntax_spot_layer (Syntax-F.Try spot _ _ _) = spot

-- the other parts, which hold expressions and statements
abbrev pub action_spot_layer : Action-F Spot Spot Spot Spot Spot Spot Spot → Spot
action_spot_layer (Action-F.Assign place _) = place
action_spot_layer (Action-F.Compound _ place _) = place
action_spot_layer (Action-F.Invoke call) = call

abbrev pub arg_spot_layer : Arg-F Spot Spot Spot Spot Spot Spot Spot → Spot
arg_spot_layer a = a.form

abbrev pub block_spot_layer : Block-F Spot Spot Spot Spot Spot Spot Spot → Spot
block_spot_layer b = b.end

abbrev pub catching_spot_layer : Catching-F Spot Spot Spot Spot Spot Spot Spot → Spot
catching_spot_layer c = c.spot

abbrev pub section_spot_layer : Section-F Spot Spot Spot Spot Spot Spot Spot → Spot
section_spot_layer s = s.block

abbrev pub form_spot : Form → Spot
form_spot = fold-Form Spot Spot Spot Spot Spot Spot Spot action_spot_layer form_spot_layer syntax_spot_layer arg_spot_layer block_spot_layer catching_spot_layer section_spot_layer

abbrev pub syntax_spot : Syntax → Spot
syntax_spot = fold-Syntax Spot Spot Spot Spot Spot Spot Spot action_spot_layer form_spot_layer syntax_spot_layer arg_spot_layer block_spot_layer catching_spot_layer section_spot_layer
