-- What each form of tree is printed as.
use Rattle.std.proofs.Common.{◌≡◌, ℕ, List, map, Option, Some, None, sym, ◌∙◌, ap}
use Rattle.std.specs.Option.{option_map}
use Rattle.cs_tree.specs.declared.types.Spot.{Spot}
use Rattle.cs_tree.specs.declared.types.Name.{Name}
use Rattle.cs_tree.specs.declared.types.TypeName.{TypeName}
use Rattle.cs_tree.specs.declared.types.TypeForm.{TypeForm}
use Rattle.cs_tree.specs.declared.types.Param.{Param}
use Rattle.cs_tree.specs.declared.forms.Literal.{Literal}
use Rattle.cs_tree.specs.declared.forms.UnaryOp.{UnaryOp}
use Rattle.cs_tree.specs.declared.forms.BinaryOp.{BinaryOp}
use Rattle.cs_tree.specs.declared.forms.AssignOp.{AssignOp}
use Rattle.cs_tree.specs.declared.forms.Arg.{Arg}
use Rattle.cs_tree.specs.declared.forms.Form.{Form}
use Rattle.cs_tree.specs.declared.forms.Form.TheVariants as form
use Rattle.cs_tree.specs.declared.forms.Block.{Block}
use Rattle.cs_tree.specs.declared.forms.Action.{Action}
use Rattle.cs_tree.specs.declared.forms.Action.TheVariants as action
use Rattle.cs_tree.specs.declared.forms.Section.{Section}
use Rattle.cs_tree.specs.declared.forms.Catching.{Catching}
use Rattle.cs_tree.specs.declared.forms.Syntax.TheVariants as syntax
use Rattle.cs_tree.specs.declared.forms.Action.TheOpen.{Action-F, Form-F, Syntax-F}
use Rattle.cs_tree.specs.declared.forms.Action.TheFolds.{fold-roll-Action, fold-roll-Form, fold-roll-Syntax}
use Rattle.cs_layout.specs.Layout.{Laid, Shown, action_layer, form_layer, syntax_layer, arg_layer, block_layer, catching_layer, section_layer, action_laid, form_shown, syntax_laid, arg_laid, block_laid, catching_laid, section_laid}

pub shown_Literal : (s : Spot) (l : Literal) → form_shown (form.Literal s l) ≡ form_layer (Form-F.Literal s l)
shown_Literal s l = ap form_shown (sym (form.rolls-Literal s l)) ∙ fold-roll-Form Laid Shown Laid Laid Laid Laid Laid action_layer form_layer syntax_layer arg_layer block_layer catching_layer section_layer (Form-F.Literal s l)

pub shown_Name : (s : Spot) (text : List ℕ) → form_shown (form.Name s text) ≡ form_layer (Form-F.Name s text)
shown_Name s text = ap form_shown (sym (form.rolls-Name s text)) ∙ fold-roll-Form Laid Shown Laid Laid Laid Laid Laid action_layer form_layer syntax_layer arg_layer block_layer catching_layer section_layer (Form-F.Name s text)

pub shown_This : (s : Spot) → form_shown (form.This s) ≡ form_layer (Form-F.This s)
shown_This s = ap form_shown (sym (form.rolls-This s)) ∙ fold-roll-Form Laid Shown Laid Laid Laid Laid Laid action_layer form_layer syntax_layer arg_layer block_layer catching_layer section_layer (Form-F.This s)

pub shown_Member : (s : Spot) (a : Form) (x : Name) → form_shown (form.Member s a x) ≡ form_layer (Form-F.Member s (form_shown a) x)
shown_Member s a x = ap form_shown (sym (form.rolls-Member s a x)) ∙ fold-roll-Form Laid Shown Laid Laid Laid Laid Laid action_layer form_layer syntax_layer arg_layer block_layer catching_layer section_layer (Form-F.Member s a x)

pub shown_Call : (s : Spot) (a : Form) (x : Name) (args : List Arg) → form_shown (form.Call s a x args) ≡ form_layer (Form-F.Call s (form_shown a) x (map arg_laid args))
shown_Call s a x args = ap form_shown (sym (form.rolls-Call s a x args)) ∙ fold-roll-Form Laid Shown Laid Laid Laid Laid Laid action_layer form_layer syntax_layer arg_layer block_layer catching_layer section_layer (Form-F.Call s a x args)

pub shown_BaseMember : (s : Spot) (x : Name) → form_shown (form.BaseMember s x) ≡ form_layer (Form-F.BaseMember s x)
shown_BaseMember s x = ap form_shown (sym (form.rolls-BaseMember s x)) ∙ fold-roll-Form Laid Shown Laid Laid Laid Laid Laid action_layer form_layer syntax_layer arg_layer block_layer catching_layer section_layer (Form-F.BaseMember s x)

pub shown_BaseCall : (s : Spot) (x : Name) (args : List Arg) → form_shown (form.BaseCall s x args) ≡ form_layer (Form-F.BaseCall s x (map arg_laid args))
shown_BaseCall s x args = ap form_shown (sym (form.rolls-BaseCall s x args)) ∙ fold-roll-Form Laid Shown Laid Laid Laid Laid Laid action_layer form_layer syntax_layer arg_layer block_layer catching_layer section_layer (Form-F.BaseCall s x args)

pub shown_Global : (s : Spot) (names : List (List ℕ)) → form_shown (form.Global s names) ≡ form_layer (Form-F.Global s names)
shown_Global s names = ap form_shown (sym (form.rolls-Global s names)) ∙ fold-roll-Form Laid Shown Laid Laid Laid Laid Laid action_layer form_layer syntax_layer arg_layer block_layer catching_layer section_layer (Form-F.Global s names)

pub shown_GlobalCall : (s : Spot) (names : List (List ℕ)) (args : List Arg) → form_shown (form.GlobalCall s names args) ≡ form_layer (Form-F.GlobalCall s names (map arg_laid args))
shown_GlobalCall s names args = ap form_shown (sym (form.rolls-GlobalCall s names args)) ∙ fold-roll-Form Laid Shown Laid Laid Laid Laid Laid action_layer form_layer syntax_layer arg_layer block_layer catching_layer section_layer (Form-F.GlobalCall s names args)

pub shown_Index : (s : Spot) (a : Form) (i : Form) → form_shown (form.Index s a i) ≡ form_layer (Form-F.Index s (form_shown a) (form_shown i))
shown_Index s a i = ap form_shown (sym (form.rolls-Index s a i)) ∙ fold-roll-Form Laid Shown Laid Laid Laid Laid Laid action_layer form_layer syntax_layer arg_layer block_layer catching_layer section_layer (Form-F.Index s a i)

pub shown_New : (s : Spot) (class : TypeName) (args : List Arg) → form_shown (form.New s class args) ≡ form_layer (Form-F.New s class (map arg_laid args))
shown_New s class args = ap form_shown (sym (form.rolls-New s class args)) ∙ fold-roll-Form Laid Shown Laid Laid Laid Laid Laid action_layer form_layer syntax_layer arg_layer block_layer catching_layer section_layer (Form-F.New s class args)

pub shown_NewArray : (s : Spot) (t : TypeForm) (a : Form) → form_shown (form.NewArray s t a) ≡ form_layer (Form-F.NewArray s t (form_shown a))
shown_NewArray s t a = ap form_shown (sym (form.rolls-NewArray s t a)) ∙ fold-roll-Form Laid Shown Laid Laid Laid Laid Laid action_layer form_layer syntax_layer arg_layer block_layer catching_layer section_layer (Form-F.NewArray s t a)

pub shown_Checked : (s : Spot) (a : Form) → form_shown (form.Checked s a) ≡ form_layer (Form-F.Checked s (form_shown a))
shown_Checked s a = ap form_shown (sym (form.rolls-Checked s a)) ∙ fold-roll-Form Laid Shown Laid Laid Laid Laid Laid action_layer form_layer syntax_layer arg_layer block_layer catching_layer section_layer (Form-F.Checked s a)

pub shown_Unchecked : (s : Spot) (a : Form) → form_shown (form.Unchecked s a) ≡ form_layer (Form-F.Unchecked s (form_shown a))
shown_Unchecked s a = ap form_shown (sym (form.rolls-Unchecked s a)) ∙ fold-roll-Form Laid Shown Laid Laid Laid Laid Laid action_layer form_layer syntax_layer arg_layer block_layer catching_layer section_layer (Form-F.Unchecked s a)

pub shown_Default : (s : Spot) (t : TypeForm) → form_shown (form.Default s t) ≡ form_layer (Form-F.Default s t)
shown_Default s t = ap form_shown (sym (form.rolls-Default s t)) ∙ fold-roll-Form Laid Shown Laid Laid Laid Laid Laid action_layer form_layer syntax_layer arg_layer block_layer catching_layer section_layer (Form-F.Default s t)

pub shown_Lambda : (s : Spot) (params : List Param) (b : Block) → form_shown (form.Lambda s params b) ≡ form_layer (Form-F.Lambda s params (block_laid b))
shown_Lambda s params b = ap form_shown (sym (form.rolls-Lambda s params b)) ∙ fold-roll-Form Laid Shown Laid Laid Laid Laid Laid action_layer form_layer syntax_layer arg_layer block_layer catching_layer section_layer (Form-F.Lambda s params b)

pub shown_Unary : (s : Spot) (o : UnaryOp) (a : Form) → form_shown (form.Unary s o a) ≡ form_layer (Form-F.Unary s o (form_shown a))
shown_Unary s o a = ap form_shown (sym (form.rolls-Unary s o a)) ∙ fold-roll-Form Laid Shown Laid Laid Laid Laid Laid action_layer form_layer syntax_layer arg_layer block_layer catching_layer section_layer (Form-F.Unary s o a)

pub shown_Cast : (s : Spot) (t : TypeForm) (a : Form) → form_shown (form.Cast s t a) ≡ form_layer (Form-F.Cast s t (form_shown a))
shown_Cast s t a = ap form_shown (sym (form.rolls-Cast s t a)) ∙ fold-roll-Form Laid Shown Laid Laid Laid Laid Laid action_layer form_layer syntax_layer arg_layer block_layer catching_layer section_layer (Form-F.Cast s t a)

pub shown_Binary : (s : Spot) (o : BinaryOp) (l : Form) (r : Form) → form_shown (form.Binary s o l r) ≡ form_layer (Form-F.Binary s o (form_shown l) (form_shown r))
shown_Binary s o l r = ap form_shown (sym (form.rolls-Binary s o l r)) ∙ fold-roll-Form Laid Shown Laid Laid Laid Laid Laid action_layer form_layer syntax_layer arg_layer block_layer catching_layer section_layer (Form-F.Binary s o l r)

pub shown_Is : (s : Spot) (a : Form) (t : TypeForm) → form_shown (form.Is s a t) ≡ form_layer (Form-F.Is s (form_shown a) t)
shown_Is s a t = ap form_shown (sym (form.rolls-Is s a t)) ∙ fold-roll-Form Laid Shown Laid Laid Laid Laid Laid action_layer form_layer syntax_layer arg_layer block_layer catching_layer section_layer (Form-F.Is s a t)

pub shown_As : (s : Spot) (a : Form) (t : TypeForm) → form_shown (form.As s a t) ≡ form_layer (Form-F.As s (form_shown a) t)
shown_As s a t = ap form_shown (sym (form.rolls-As s a t)) ∙ fold-roll-Form Laid Shown Laid Laid Laid Laid Laid action_layer form_layer syntax_layer arg_layer block_layer catching_layer section_layer (Form-F.As s a t)

pub shown_Conditional : (s : Spot) (a : Form) (l : Form) (r : Form) → form_shown (form.Conditional s a l r) ≡ form_layer (Form-F.Conditional s (form_shown a) (form_shown l) (form_shown r))
shown_Conditional s a l r = ap form_shown (sym (form.rolls-Conditional s a l r)) ∙ fold-roll-Form Laid Shown Laid Laid Laid Laid Laid action_layer form_layer syntax_layer arg_layer block_layer catching_layer section_layer (Form-F.Conditional s a l r)

pub shown_Assign : (p : Form) (a : Form) → action_laid (action.Assign p a) ≡ action_layer (Action-F.Assign (form_shown p) (form_shown a))
shown_Assign p a = ap action_laid (sym (action.rolls-Assign p a)) ∙ fold-roll-Action Laid Shown Laid Laid Laid Laid Laid action_layer form_layer syntax_layer arg_layer block_layer catching_layer section_layer (Action-F.Assign p a)

pub shown_Compound : (o : AssignOp) (p : Form) (a : Form) → action_laid (action.Compound o p a) ≡ action_layer (Action-F.Compound o (form_shown p) (form_shown a))
shown_Compound o p a = ap action_laid (sym (action.rolls-Compound o p a)) ∙ fold-roll-Action Laid Shown Laid Laid Laid Laid Laid action_layer form_layer syntax_layer arg_layer block_layer catching_layer section_layer (Action-F.Compound o p a)

pub shown_Invoke : (a : Form) → action_laid (action.Invoke a) ≡ action_layer (Action-F.Invoke (form_shown a))
shown_Invoke a = ap action_laid (sym (action.rolls-Invoke a)) ∙ fold-roll-Action Laid Shown Laid Laid Laid Laid Laid action_layer form_layer syntax_layer arg_layer block_layer catching_layer section_layer (Action-F.Invoke a)

pub shown_Declare : (s : Spot) (t : TypeForm) (x : Name) (a : Form) → syntax_laid (syntax.Declare s t x a) ≡ syntax_layer (Syntax-F.Declare s t x (form_shown a))
shown_Declare s t x a = ap syntax_laid (sym (syntax.rolls-Declare s t x a)) ∙ fold-roll-Syntax Laid Shown Laid Laid Laid Laid Laid action_layer form_layer syntax_layer arg_layer block_layer catching_layer section_layer (Syntax-F.Declare s t x a)

pub shown_Act : (s : Spot) (d : Action) → syntax_laid (syntax.Act s d) ≡ syntax_layer (Syntax-F.Act s (action_laid d))
shown_Act s d = ap syntax_laid (sym (syntax.rolls-Act s d)) ∙ fold-roll-Syntax Laid Shown Laid Laid Laid Laid Laid action_layer form_layer syntax_layer arg_layer block_layer catching_layer section_layer (Syntax-F.Act s d)

pub shown_Label : (s : Spot) (text : List ℕ) → syntax_laid (syntax.Label s text) ≡ syntax_layer (Syntax-F.Label s text)
shown_Label s text = ap syntax_laid (sym (syntax.rolls-Label s text)) ∙ fold-roll-Syntax Laid Shown Laid Laid Laid Laid Laid action_layer form_layer syntax_layer arg_layer block_layer catching_layer section_layer (Syntax-F.Label s text)

pub shown_Goto : (s : Spot) (text : List ℕ) → syntax_laid (syntax.Goto s text) ≡ syntax_layer (Syntax-F.Goto s text)
shown_Goto s text = ap syntax_laid (sym (syntax.rolls-Goto s text)) ∙ fold-roll-Syntax Laid Shown Laid Laid Laid Laid Laid action_layer form_layer syntax_layer arg_layer block_layer catching_layer section_layer (Syntax-F.Goto s text)

pub shown_Break : (s : Spot) → syntax_laid (syntax.Break s) ≡ syntax_layer (Syntax-F.Break s)
shown_Break s = ap syntax_laid (sym (syntax.rolls-Break s)) ∙ fold-roll-Syntax Laid Shown Laid Laid Laid Laid Laid action_layer form_layer syntax_layer arg_layer block_layer catching_layer section_layer (Syntax-F.Break s)

pub shown_Continue : (s : Spot) → syntax_laid (syntax.Continue s) ≡ syntax_layer (Syntax-F.Continue s)
shown_Continue s = ap syntax_laid (sym (syntax.rolls-Continue s)) ∙ fold-roll-Syntax Laid Shown Laid Laid Laid Laid Laid action_layer form_layer syntax_layer arg_layer block_layer catching_layer section_layer (Syntax-F.Continue s)

pub shown_Return : (s : Spot) (v : Option Form) → syntax_laid (syntax.Return s v) ≡ syntax_layer (Syntax-F.Return s (option_map form_shown v))
shown_Return s None = ap syntax_laid (sym (syntax.rolls-Return s None)) ∙ fold-roll-Syntax Laid Shown Laid Laid Laid Laid Laid action_layer form_layer syntax_layer arg_layer block_layer catching_layer section_layer (Syntax-F.Return s None)
shown_Return s (Some v) = ap syntax_laid (sym (syntax.rolls-Return s (Some v))) ∙ fold-roll-Syntax Laid Shown Laid Laid Laid Laid Laid action_layer form_layer syntax_layer arg_layer block_layer catching_layer section_layer (Syntax-F.Return s (Some v))

pub shown_Throw : (s : Spot) (v : Option Form) → syntax_laid (syntax.Throw s v) ≡ syntax_layer (Syntax-F.Throw s (option_map form_shown v))
shown_Throw s None = ap syntax_laid (sym (syntax.rolls-Throw s None)) ∙ fold-roll-Syntax Laid Shown Laid Laid Laid Laid Laid action_layer form_layer syntax_layer arg_layer block_layer catching_layer section_layer (Syntax-F.Throw s None)
shown_Throw s (Some v) = ap syntax_laid (sym (syntax.rolls-Throw s (Some v))) ∙ fold-roll-Syntax Laid Shown Laid Laid Laid Laid Laid action_layer form_layer syntax_layer arg_layer block_layer catching_layer section_layer (Syntax-F.Throw s (Some v))

pub shown_If : (s : Spot) (a : Form) (b : Block) (e : Option Block) → syntax_laid (syntax.If s a b e) ≡ syntax_layer (Syntax-F.If s (form_shown a) (block_laid b) (option_map block_laid e))
shown_If s a b None = ap syntax_laid (sym (syntax.rolls-If s a b None)) ∙ fold-roll-Syntax Laid Shown Laid Laid Laid Laid Laid action_layer form_layer syntax_layer arg_layer block_layer catching_layer section_layer (Syntax-F.If s a b None)
shown_If s a b (Some e) = ap syntax_laid (sym (syntax.rolls-If s a b (Some e))) ∙ fold-roll-Syntax Laid Shown Laid Laid Laid Laid Laid action_layer form_layer syntax_layer arg_layer block_layer catching_layer section_layer (Syntax-F.If s a b (Some e))

pub shown_While : (s : Spot) (a : Form) (b : Block) → syntax_laid (syntax.While s a b) ≡ syntax_layer (Syntax-F.While s (form_shown a) (block_laid b))
shown_While s a b = ap syntax_laid (sym (syntax.rolls-While s a b)) ∙ fold-roll-Syntax Laid Shown Laid Laid Laid Laid Laid action_layer form_layer syntax_layer arg_layer block_layer catching_layer section_layer (Syntax-F.While s a b)

pub shown_DoWhile : (s : Spot) (b : Block) (a : Form) → syntax_laid (syntax.DoWhile s b a) ≡ syntax_layer (Syntax-F.DoWhile s (block_laid b) (form_shown a))
shown_DoWhile s b a = ap syntax_laid (sym (syntax.rolls-DoWhile s b a)) ∙ fold-roll-Syntax Laid Shown Laid Laid Laid Laid Laid action_layer form_layer syntax_layer arg_layer block_layer catching_layer section_layer (Syntax-F.DoWhile s b a)

pub shown_For : (s : Spot) (a : Form) (d : Action) (b : Block) → syntax_laid (syntax.For s a d b) ≡ syntax_layer (Syntax-F.For s (form_shown a) (action_laid d) (block_laid b))
shown_For s a d b = ap syntax_laid (sym (syntax.rolls-For s a d b)) ∙ fold-roll-Syntax Laid Shown Laid Laid Laid Laid Laid action_layer form_layer syntax_layer arg_layer block_layer catching_layer section_layer (Syntax-F.For s a d b)

pub shown_Foreach : (s : Spot) (t : TypeForm) (x : Name) (a : Form) (b : Block) → syntax_laid (syntax.Foreach s t x a b) ≡ syntax_layer (Syntax-F.Foreach s t x (form_shown a) (block_laid b))
shown_Foreach s t x a b = ap syntax_laid (sym (syntax.rolls-Foreach s t x a b)) ∙ fold-roll-Syntax Laid Shown Laid Laid Laid Laid Laid action_layer form_layer syntax_layer arg_layer block_layer catching_layer section_layer (Syntax-F.Foreach s t x a b)

pub shown_Using : (s : Spot) (t : TypeForm) (x : Name) (a : Form) (b : Block) → syntax_laid (syntax.Using s t x a b) ≡ syntax_layer (Syntax-F.Using s t x (form_shown a) (block_laid b))
shown_Using s t x a b = ap syntax_laid (sym (syntax.rolls-Using s t x a b)) ∙ fold-roll-Syntax Laid Shown Laid Laid Laid Laid Laid action_layer form_layer syntax_layer arg_layer block_layer catching_layer section_layer (Syntax-F.Using s t x a b)

pub shown_Lock : (s : Spot) (a : Form) (b : Block) → syntax_laid (syntax.Lock s a b) ≡ syntax_layer (Syntax-F.Lock s (form_shown a) (block_laid b))
shown_Lock s a b = ap syntax_laid (sym (syntax.rolls-Lock s a b)) ∙ fold-roll-Syntax Laid Shown Laid Laid Laid Laid Laid action_layer form_layer syntax_layer arg_layer block_layer catching_layer section_layer (Syntax-F.Lock s a b)

pub shown_Switch : (s : Spot) (a : Form) (secs : List Section) → syntax_laid (syntax.Switch s a secs) ≡ syntax_layer (Syntax-F.Switch s (form_shown a) (map section_laid secs))
shown_Switch s a secs = ap syntax_laid (sym (syntax.rolls-Switch s a secs)) ∙ fold-roll-Syntax Laid Shown Laid Laid Laid Laid Laid action_layer form_layer syntax_layer arg_layer block_layer catching_layer section_layer (Syntax-F.Switch s a secs)

pub shown_Try : (s : Spot) (b : Block) (catches : List Catching) (e : Option Block) → syntax_laid (syntax.Try s b catches e) ≡ syntax_layer (Syntax-F.Try s (block_laid b) (map catching_laid catches) (option_map block_laid e))
shown_Try s b catches None = ap syntax_laid (sym (syntax.rolls-Try s b catches None)) ∙ fold-roll-Syntax Laid Shown Laid Laid Laid Laid Laid action_layer form_layer syntax_layer arg_layer block_layer catching_layer section_layer (Syntax-F.Try s b catches None)
shown_Try s b catches (Some e) = ap syntax_laid (sym (syntax.rolls-Try s b catches (Some e))) ∙ fold-roll-Syntax Laid Shown Laid Laid Laid Laid Laid action_layer form_layer syntax_layer arg_layer block_layer catching_layer section_layer (Syntax-F.Try s b catches (Some e))
