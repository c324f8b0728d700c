-- What each form of tree is without its places.
use Rattle.std.proofs.Common.{◌≡◌, ℕ, List, map, Option, Some, None, sym, ◌∙◌, ap}
use Rattle.std.specs.Option.{option_map}
use Rattle.cs_tree.specs.declared.types.Spot.{Spot}
use Rattle.cs_tree.specs.declared.types.Name.{Name}
use Rattle.cs_tree.specs.declared.types.TypeName.{TypeName}
use Rattle.cs_tree.specs.declared.types.TypeForm.{TypeForm}
use Rattle.cs_tree.specs.declared.types.Param.{Param}
use Rattle.cs_tree.specs.declared.forms.Literal.{Literal}
use Rattle.cs_tree.specs.declared.forms.UnaryOp.{UnaryOp}
use Rattle.cs_tree.specs.declared.forms.BinaryOp.{BinaryOp}
use Rattle.cs_tree.specs.declared.forms.AssignOp.{AssignOp}
use Rattle.cs_tree.specs.declared.forms.Arg.{Arg}
use Rattle.cs_tree.specs.declared.forms.Form.{Form}
use Rattle.cs_tree.specs.declared.forms.Form.TheVariants as form
use Rattle.cs_tree.specs.declared.forms.Block.{Block}
use Rattle.cs_tree.specs.declared.forms.Action.{Action}
use Rattle.cs_tree.specs.declared.forms.Action.TheVariants as action
use Rattle.cs_tree.specs.declared.forms.Section.{Section}
use Rattle.cs_tree.specs.declared.forms.Catching.{Catching}
use Rattle.cs_tree.specs.declared.forms.Syntax.{Syntax}
use Rattle.cs_tree.specs.declared.forms.Syntax.TheVariants as syntax
use Rattle.cs_tree.specs.declared.forms.Action.TheOpen.{Action-F, Form-F, Syntax-F}
use Rattle.cs_tree.specs.declared.forms.Action.TheFolds.{fold-roll-Action, fold-roll-Form, fold-roll-Syntax}
use Rattle.cs_tree.specs.Bare as bare
use Rattle.cs_tree.specs.Bare.{bare_action, bare_form, bare_syntax, bare_arg, bare_block}
use Rattle.cs_wellformed.specs.Same.{bare_catching, bare_section}

pub bare_Literal : (s : Spot) (l : Literal) → bare_form (form.Literal s l) ≡ bare.form_layer (Form-F.Literal s l)
bare_Literal s l = ap bare_form (sym (form.rolls-Literal s l)) ∙ fold-roll-Form Action Form Syntax Arg Block Catching Section bare.action_layer bare.form_layer bare.syntax_layer bare.arg_layer bare.block_layer bare.catching_layer bare.section_layer (Form-F.Literal s l)

pub bare_Name : (s : Spot) (text : List ℕ) → bare_form (form.Name s text) ≡ bare.form_layer (Form-F.Name s text)
bare_Name s text = ap bare_form (sym (form.rolls-Name s text)) ∙ fold-roll-Form Action Form Syntax Arg Block Catching Section bare.action_layer bare.form_layer bare.syntax_layer bare.arg_layer bare.block_layer bare.catching_layer bare.section_layer (Form-F.Name s text)

pub bare_This : (s : Spot) → bare_form (form.This s) ≡ bare.form_layer (Form-F.This s)
bare_This s = ap bare_form (sym (form.rolls-This s)) ∙ fold-roll-Form Action Form Syntax Arg Block Catching Section bare.action_layer bare.form_layer bare.syntax_layer bare.arg_layer bare.block_layer bare.catching_layer bare.section_layer (Form-F.This s)

pub bare_Member : (s : Spot) (a : Form) (x : Name) → bare_form (form.Member s a x) ≡ bare.form_layer (Form-F.Member s (bare_form a) x)
bare_Member s a x = ap bare_form (sym (form.rolls-Member s a x)) ∙ fold-roll-Form Action Form Syntax Arg Block Catching Section bare.action_layer bare.form_layer bare.syntax_layer bare.arg_layer bare.block_layer bare.catching_layer bare.section_layer (Form-F.Member s a x)

pub bare_Call : (s : Spot) (a : Form) (x : Name) (args : List Arg) → bare_form (form.Call s a x args) ≡ bare.form_layer (Form-F.Call s (bare_form a) x (map bare_arg args))
bare_Call s a x args = ap bare_form (sym (form.rolls-Call s a x args)) ∙ fold-roll-Form Action Form Syntax Arg Block Catching Section bare.action_layer bare.form_layer bare.syntax_layer bare.arg_layer bare.block_layer bare.catching_layer bare.section_layer (Form-F.Call s a x args)

pub bare_BaseMember : (s : Spot) (x : Name) → bare_form (form.BaseMember s x) ≡ bare.form_layer (Form-F.BaseMember s x)
bare_BaseMember s x = ap bare_form (sym (form.rolls-BaseMember s x)) ∙ fold-roll-Form Action Form Syntax Arg Block Catching Section bare.action_layer bare.form_layer bare.syntax_layer bare.arg_layer bare.block_layer bare.catching_layer bare.section_layer (Form-F.BaseMember s x)

pub bare_BaseCall : (s : Spot) (x : Name) (args : List Arg) → bare_form (form.BaseCall s x args) ≡ bare.form_layer (Form-F.BaseCall s x (map bare_arg args))
bare_BaseCall s x args = ap bare_form (sym (form.rolls-BaseCall s x args)) ∙ fold-roll-Form Action Form Syntax Arg Block Catching Section bare.action_layer bare.form_layer bare.syntax_layer bare.arg_layer bare.block_layer bare.catching_layer bare.section_layer (Form-F.BaseCall s x args)

pub bare_Global : (s : Spot) (names : List (List ℕ)) → bare_form (form.Global s names) ≡ bare.form_layer (Form-F.Global s names)
bare_Global s names = ap bare_form (sym (form.rolls-Global s names)) ∙ fold-roll-Form Action Form Syntax Arg Block Catching Section bare.action_layer bare.form_layer bare.syntax_layer bare.arg_layer bare.block_layer bare.catching_layer bare.section_layer (Form-F.Global s names)

pub bare_GlobalCall : (s : Spot) (names : List (List ℕ)) (args : List Arg) → bare_form (form.GlobalCall s names args) ≡ bare.form_layer (Form-F.GlobalCall s names (map bare_arg args))
bare_GlobalCall s names args = ap bare_form (sym (form.rolls-GlobalCall s names args)) ∙ fold-roll-Form Action Form Syntax Arg Block Catching Section bare.action_layer bare.form_layer bare.syntax_layer bare.arg_layer bare.block_layer bare.catching_layer bare.section_layer (Form-F.GlobalCall s names args)

pub bare_Index : (s : Spot) (a : Form) (i : Form) → bare_form (form.Index s a i) ≡ bare.form_layer (Form-F.Index s (bare_form a) (bare_form i))
bare_Index s a i = ap bare_form (sym (form.rolls-Index s a i)) ∙ fold-roll-Form Action Form Syntax Arg Block Catching Section bare.action_layer bare.form_layer bare.syntax_layer bare.arg_layer bare.block_layer bare.catching_layer bare.section_layer (Form-F.Index s a i)

pub bare_New : (s : Spot) (class : TypeName) (args : List Arg) → bare_form (form.New s class args) ≡ bare.form_layer (Form-F.New s class (map bare_arg args))
bare_New s class args = ap bare_form (sym (form.rolls-New s class args)) ∙ fold-roll-Form Action Form Syntax Arg Block Catching Section bare.action_layer bare.form_layer bare.syntax_layer bare.arg_layer bare.block_layer bare.catching_layer bare.section_layer (Form-F.New s class args)

pub bare_NewArray : (s : Spot) (t : TypeForm) (a : Form) → bare_form (form.NewArray s t a) ≡ bare.form_layer (Form-F.NewArray s t (bare_form a))
bare_NewArray s t a = ap bare_form (sym (form.rolls-NewArray s t a)) ∙ fold-roll-Form Action Form Syntax Arg Block Catching Section bare.action_layer bare.form_layer bare.syntax_layer bare.arg_layer bare.block_layer bare.catching_layer bare.section_layer (Form-F.NewArray s t a)

pub bare_Checked : (s : Spot) (a : Form) → bare_form (form.Checked s a) ≡ bare.form_layer (Form-F.Checked s (bare_form a))
bare_Checked s a = ap bare_form (sym (form.rolls-Checked s a)) ∙ fold-roll-Form Action Form Syntax Arg Block Catching Section bare.action_layer bare.form_layer bare.syntax_layer bare.arg_layer bare.block_layer bare.catching_layer bare.section_layer (Form-F.Checked s a)

pub bare_Unchecked : (s : Spot) (a : Form) → bare_form (form.Unchecked s a) ≡ bare.form_layer (Form-F.Unchecked s (bare_form a))
bare_Unchecked s a = ap bare_form (sym (form.rolls-Unchecked s a)) ∙ fold-roll-Form Action Form Syntax Arg Block Catching Section bare.action_layer bare.form_layer bare.syntax_layer bare.arg_layer bare.block_layer bare.catching_layer bare.section_layer (Form-F.Unchecked s a)

pub bare_Default : (s : Spot) (t : TypeForm) → bare_form (form.Default s t) ≡ bare.form_layer (Form-F.Default s t)
bare_Default s t = ap bare_form (sym (form.rolls-Default s t)) ∙ fold-roll-Form Action Form Syntax Arg Block Catching Section bare.action_layer bare.form_layer bare.syntax_layer bare.arg_layer bare.block_layer bare.catching_layer bare.section_layer (Form-F.Default s t)

pub bare_Lambda : (s : Spot) (params : List Param) (b : Block) → bare_form (form.Lambda s params b) ≡ bare.form_layer (Form-F.Lambda s params (bare_block b))
bare_Lambda s params b = ap bare_form (sym (form.rolls-Lambda s params b)) ∙ fold-roll-Form Action Form Syntax Arg Block Catching Section bare.action_layer bare.form_layer bare.syntax_layer bare.arg_layer bare.block_layer bare.catching_layer bare.section_layer (Form-F.Lambda s params b)

pub bare_Unary : (s : Spot) (o : UnaryOp) (a : Form) → bare_form (form.Unary s o a) ≡ bare.form_layer (Form-F.Unary s o (bare_form a))
bare_Unary s o a = ap bare_form (sym (form.rolls-Unary s o a)) ∙ fold-roll-Form Action Form Syntax Arg Block Catching Section bare.action_layer bare.form_layer bare.syntax_layer bare.arg_layer bare.block_layer bare.catching_layer bare.section_layer (Form-F.Unary s o a)

pub bare_Cast : (s : Spot) (t : TypeForm) (a : Form) → bare_form (form.Cast s t a) ≡ bare.form_layer (Form-F.Cast s t (bare_form a))
bare_Cast s t a = ap bare_form (sym (form.rolls-Cast s t a)) ∙ fold-roll-Form Action Form Syntax Arg Block Catching Section bare.action_layer bare.form_layer bare.syntax_layer bare.arg_layer bare.block_layer bare.catching_layer bare.section_layer (Form-F.Cast s t a)

pub bare_Binary : (s : Spot) (o : BinaryOp) (l : Form) (r : Form) → bare_form (form.Binary s o l r) ≡ bare.form_layer (Form-F.Binary s o (bare_form l) (bare_form r))
bare_Binary s o l r = ap bare_form (sym (form.rolls-Binary s o l r)) ∙ fold-roll-Form Action Form Syntax Arg Block Catching Section bare.action_layer bare.form_layer bare.syntax_layer bare.arg_layer bare.block_layer bare.catching_layer bare.section_layer (Form-F.Binary s o l r)

pub bare_Is : (s : Spot) (a : Form) (t : TypeForm) → bare_form (form.Is s a t) ≡ bare.form_layer (Form-F.Is s (bare_form a) t)
bare_Is s a t = ap bare_form (sym (form.rolls-Is s a t)) ∙ fold-roll-Form Action Form Syntax Arg Block Catching Section bare.action_layer bare.form_layer bare.syntax_layer bare.arg_layer bare.block_layer bare.catching_layer bare.section_layer (Form-F.Is s a t)

pub bare_As : (s : Spot) (a : Form) (t : TypeForm) → bare_form (form.As s a t) ≡ bare.form_layer (Form-F.As s (bare_form a) t)
bare_As s a t = ap bare_form (sym (form.rolls-As s a t)) ∙ fold-roll-Form Action Form Syntax Arg Block Catching Section bare.action_layer bare.form_layer bare.syntax_layer bare.arg_layer bare.block_layer bare.catching_layer bare.section_layer (Form-F.As s a t)

pub bare_Conditional : (s : Spot) (a : Form) (l : Form) (r : Form) → bare_form (form.Conditional s a l r) ≡ bare.form_layer (Form-F.Conditional s (bare_form a) (bare_form l) (bare_form r))
bare_Conditional s a l r = ap bare_form (sym (form.rolls-Conditional s a l r)) ∙ fold-roll-Form Action Form Syntax Arg Block Catching Section bare.action_layer bare.form_layer bare.syntax_layer bare.arg_layer bare.block_layer bare.catching_layer bare.section_layer (Form-F.Conditional s a l r)

pub bare_Assign : (p : Form) (a : Form) → bare_action (action.Assign p a) ≡ bare.action_layer (Action-F.Assign (bare_form p) (bare_form a))
bare_Assign p a = ap bare_action (sym (action.rolls-Assign p a)) ∙ fold-roll-Action Action Form Syntax Arg Block Catching Section bare.action_layer bare.form_layer bare.syntax_layer bare.arg_layer bare.block_layer bare.catching_layer bare.section_layer (Action-F.Assign p a)

pub bare_Compound : (o : AssignOp) (p : Form) (a : Form) → bare_action (action.Compound o p a) ≡ bare.action_layer (Action-F.Compound o (bare_form p) (bare_form a))
bare_Compound o p a = ap bare_action (sym (action.rolls-Compound o p a)) ∙ fold-roll-Action Action Form Syntax Arg Block Catching Section bare.action_layer bare.form_layer bare.syntax_layer bare.arg_layer bare.block_layer bare.catching_layer bare.section_layer (Action-F.Compound o p a)

pub bare_Invoke : (a : Form) → bare_action (action.Invoke a) ≡ bare.action_layer (Action-F.Invoke (bare_form a))
bare_Invoke a = ap bare_action (sym (action.rolls-Invoke a)) ∙ fold-roll-Action Action Form Syntax Arg Block Catching Section bare.action_layer bare.form_layer bare.syntax_layer bare.arg_layer bare.block_layer bare.catching_layer bare.section_layer (Action-F.Invoke a)

pub bare_Declare : (s : Spot) (t : TypeForm) (x : Name) (a : Form) → bare_syntax (syntax.Declare s t x a) ≡ bare.syntax_layer (Syntax-F.Declare s t x (bare_form a))
bare_Declare s t x a = ap bare_syntax (sym (syntax.rolls-Declare s t x a)) ∙ fold-roll-Syntax Action Form Syntax Arg Block Catching Section bare.action_layer bare.form_layer bare.syntax_layer bare.arg_layer bare.block_layer bare.catching_layer bare.section_layer (Syntax-F.Declare s t x a)

pub bare_Act : (s : Spot) (d : Action) → bare_syntax (syntax.Act s d) ≡ bare.syntax_layer (Syntax-F.Act s (bare_action d))
bare_Act s d = ap bare_syntax (sym (syntax.rolls-Act s d)) ∙ fold-roll-Syntax Action Form Syntax Arg Block Catching Section bare.action_layer bare.form_layer bare.syntax_layer bare.arg_layer bare.block_layer bare.catching_layer bare.section_layer (Syntax-F.Act s d)

pub bare_Label : (s : Spot) (text : List ℕ) → bare_syntax (syntax.Label s text) ≡ bare.syntax_layer (Syntax-F.Label s text)
bare_Label s text = ap bare_syntax (sym (syntax.rolls-Label s text)) ∙ fold-roll-Syntax Action Form Syntax Arg Block Catching Section bare.action_layer bare.form_layer bare.syntax_layer bare.arg_layer bare.block_layer bare.catching_layer bare.section_layer (Syntax-F.Label s text)

pub bare_Goto : (s : Spot) (text : List ℕ) → bare_syntax (syntax.Goto s text) ≡ bare.syntax_layer (Syntax-F.Goto s text)
bare_Goto s text = ap bare_syntax (sym (syntax.rolls-Goto s text)) ∙ fold-roll-Syntax Action Form Syntax Arg Block Catching Section bare.action_layer bare.form_layer bare.syntax_layer bare.arg_layer bare.block_layer bare.catching_layer bare.section_layer (Syntax-F.Goto s text)

pub bare_Break : (s : Spot) → bare_syntax (syntax.Break s) ≡ bare.syntax_layer (Syntax-F.Break s)
bare_Break s = ap bare_syntax (sym (syntax.rolls-Break s)) ∙ fold-roll-Syntax Action Form Syntax Arg Block Catching Section bare.action_layer bare.form_layer bare.syntax_layer bare.arg_layer bare.block_layer bare.catching_layer bare.section_layer (Syntax-F.Break s)

pub bare_Continue : (s : Spot) → bare_syntax (syntax.Continue s) ≡ bare.syntax_layer (Syntax-F.Continue s)
bare_Continue s = ap bare_syntax (sym (syntax.rolls-Continue s)) ∙ fold-roll-Syntax Action Form Syntax Arg Block Catching Section bare.action_layer bare.form_layer bare.syntax_layer bare.arg_layer bare.block_layer bare.catching_layer bare.section_layer (Syntax-F.Continue s)

pub bare_Return : (s : Spot) (v : Option Form) → bare_syntax (syntax.Return s v) ≡ bare.syntax_layer (Syntax-F.Return s (option_map bare_form v))
bare_Return s None = ap bare_syntax (sym (syntax.rolls-Return s None)) ∙ fold-roll-Syntax Action Form Syntax Arg Block Catching Section bare.action_layer bare.form_layer bare.syntax_layer bare.arg_layer bare.block_layer bare.catching_layer bare.section_layer (Syntax-F.Return s None)
bare_Return s (Some v) = ap bare_syntax (sym (syntax.rolls-Return s (Some v))) ∙ fold-roll-Syntax Action Form Syntax Arg Block Catching Section bare.action_layer bare.form_layer bare.syntax_layer bare.arg_layer bare.block_layer bare.catching_layer bare.section_layer (Syntax-F.Return s (Some v))

pub bare_Throw : (s : Spot) (v : Option Form) → bare_syntax (syntax.Throw s v) ≡ bare.syntax_layer (Syntax-F.Throw s (option_map bare_form v))
bare_Throw s None = ap bare_syntax (sym (syntax.rolls-Throw s None)) ∙ fold-roll-Syntax Action Form Syntax Arg Block Catching Section bare.action_layer bare.form_layer bare.syntax_layer bare.arg_layer bare.block_layer bare.catching_layer bare.section_layer (Syntax-F.Throw s None)
bare_Throw s (Some v) = ap bare_syntax (sym (syntax.rolls-Throw s (Some v))) ∙ fold-roll-Syntax Action Form Syntax Arg Block Catching Section bare.action_layer bare.form_layer bare.syntax_layer bare.arg_layer bare.block_layer bare.catching_layer bare.section_layer (Syntax-F.Throw s (Some v))

pub bare_If : (s : Spot) (a : Form) (b : Block) (e : Option Block) → bare_syntax (syntax.If s a b e) ≡ bare.syntax_layer (Syntax-F.If s (bare_form a) (bare_block b) (option_map bare_block e))
bare_If s a b None = ap bare_syntax (sym (syntax.rolls-If s a b None)) ∙ fold-roll-Syntax Action Form Syntax Arg Block Catching Section bare.action_layer bare.form_layer bare.syntax_layer bare.arg_layer bare.block_layer bare.catching_layer bare.section_layer (Syntax-F.If s a b None)
bare_If s a b (Some e) = ap bare_syntax (sym (syntax.rolls-If s a b (Some e))) ∙ fold-roll-Syntax Action Form Syntax Arg Block Catching Section bare.action_layer bare.form_layer bare.syntax_layer bare.arg_layer bare.block_layer bare.catching_layer bare.section_layer (Syntax-F.If s a b (Some e))

pub bare_While : (s : Spot) (a : Form) (b : Block) → bare_syntax (syntax.While s a b) ≡ bare.syntax_layer (Syntax-F.While s (bare_form a) (bare_block b))
bare_While s a b = ap bare_syntax (sym (syntax.rolls-While s a b)) ∙ fold-roll-Syntax Action Form Syntax Arg Block Catching Section bare.action_layer bare.form_layer bare.syntax_layer bare.arg_layer bare.block_layer bare.catching_layer bare.section_layer (Syntax-F.While s a b)

pub bare_DoWhile : (s : Spot) (b : Block) (a : Form) → bare_syntax (syntax.DoWhile s b a) ≡ bare.syntax_layer (Syntax-F.DoWhile s (bare_block b) (bare_form a))
bare_DoWhile s b a = ap bare_syntax (sym (syntax.rolls-DoWhile s b a)) ∙ fold-roll-Syntax Action Form Syntax Arg Block Catching Section bare.action_layer bare.form_layer bare.syntax_layer bare.arg_layer bare.block_layer bare.catching_layer bare.section_layer (Syntax-F.DoWhile s b a)

pub bare_For : (s : Spot) (a : Form) (d : Action) (b : Block) → bare_syntax (syntax.For s a d b) ≡ bare.syntax_layer (Syntax-F.For s (bare_form a) (bare_action d) (bare_block b))
bare_For s a d b = ap bare_syntax (sym (syntax.rolls-For s a d b)) ∙ fold-roll-Syntax Action Form Syntax Arg Block Catching Section bare.action_layer bare.form_layer bare.syntax_layer bare.arg_layer bare.block_layer bare.catching_layer bare.section_layer (Syntax-F.For s a d b)

pub bare_Foreach : (s : Spot) (t : TypeForm) (x : Name) (a : Form) (b : Block) → bare_syntax (syntax.Foreach s t x a b) ≡ bare.syntax_layer (Syntax-F.Foreach s t x (bare_form a) (bare_block b))
bare_Foreach s t x a b = ap bare_syntax (sym (syntax.rolls-Foreach s t x a b)) ∙ fold-roll-Syntax Action Form Syntax Arg Block Catching Section bare.action_layer bare.form_layer bare.syntax_layer bare.arg_layer bare.block_layer bare.catching_layer bare.section_layer (Syntax-F.Foreach s t x a b)

pub bare_Using : (s : Spot) (t : TypeForm) (x : Name) (a : Form) (b : Block) → bare_syntax (syntax.Using s t x a b) ≡ bare.syntax_layer (Syntax-F.Using s t x (bare_form a) (bare_block b))
bare_Using s t x a b = ap bare_syntax (sym (syntax.rolls-Using s t x a b)) ∙ fold-roll-Syntax Action Form Syntax Arg Block Catching Section bare.action_layer bare.form_layer bare.syntax_layer bare.arg_layer bare.block_layer bare.catching_layer bare.section_layer (Syntax-F.Using s t x a b)

pub bare_Lock : (s : Spot) (a : Form) (b : Block) → bare_syntax (syntax.Lock s a b) ≡ bare.syntax_layer (Syntax-F.Lock s (bare_form a) (bare_block b))
bare_Lock s a b = ap bare_syntax (sym (syntax.rolls-Lock s a b)) ∙ fold-roll-Syntax Action Form Syntax Arg Block Catching Section bare.action_layer bare.form_layer bare.syntax_layer bare.arg_layer bare.block_layer bare.catching_layer bare.section_layer (Syntax-F.Lock s a b)

pub bare_Switch : (s : Spot) (a : Form) (secs : List Section) → bare_syntax (syntax.Switch s a secs) ≡ bare.syntax_layer (Syntax-F.Switch s (bare_form a) (map bare_section secs))
bare_Switch s a secs = ap bare_syntax (sym (syntax.rolls-Switch s a secs)) ∙ fold-roll-Syntax Action Form Syntax Arg Block Catching Section bare.action_layer bare.form_layer bare.syntax_layer bare.arg_layer bare.block_layer bare.catching_layer bare.section_layer (Syntax-F.Switch s a secs)

pub bare_Try : (s : Spot) (b : Block) (catches : List Catching) (e : Option Block) → bare_syntax (syntax.Try s b catches e) ≡ bare.syntax_layer (Syntax-F.Try s (bare_block b) (map bare_catching catches) (option_map bare_block e))
bare_Try s b catches None = ap bare_syntax (sym (syntax.rolls-Try s b catches None)) ∙ fold-roll-Syntax Action Form Syntax Arg Block Catching Section bare.action_layer bare.form_layer bare.syntax_layer bare.arg_layer bare.block_layer bare.catching_layer bare.section_layer (Syntax-F.Try s b catches None)
bare_Try s b catches (Some e) = ap bare_syntax (sym (syntax.rolls-Try s b catches (Some e))) ∙ fold-roll-Syntax Action Form Syntax Arg Block Catching Section bare.action_layer bare.form_layer bare.syntax_layer bare.arg_layer bare.block_layer bare.catching_layer bare.section_layer (Syntax-F.Try s b catches (Some e))
