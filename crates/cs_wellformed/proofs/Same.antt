-- Trees of the same parts are the same but for places.
use Rattle.std.proofs.Common.{◌≡◌, ℕ, List, map, Option, sym, ◌∙◌, ap}
use Rattle.std.specs.Option.{option_map}
use Rattle.cs_tree.specs.declared.types.Spot.{Spot}
use Rattle.cs_tree.specs.declared.types.Name.{Name}
use Rattle.cs_tree.specs.declared.types.TypeName.{TypeName}
use Rattle.cs_tree.specs.declared.types.TypeForm.{TypeForm}
use Rattle.cs_tree.specs.declared.types.Param.{Param}
use Rattle.cs_tree.specs.declared.forms.Literal.{Literal}
use Rattle.cs_tree.specs.declared.forms.UnaryOp.{UnaryOp}
use Rattle.cs_tree.specs.declared.forms.BinaryOp.{BinaryOp}
use Rattle.cs_tree.specs.declared.forms.AssignOp.{AssignOp}
use Rattle.cs_tree.specs.declared.forms.Arg.{Arg}
use Rattle.cs_tree.specs.declared.forms.Form.{Form}
use Rattle.cs_tree.specs.declared.forms.Form.TheVariants as form
use Rattle.cs_tree.specs.declared.forms.Block.{Block}
use Rattle.cs_tree.specs.declared.forms.Action.{Action}
use Rattle.cs_tree.specs.declared.forms.Action.TheVariants as action
use Rattle.cs_tree.specs.declared.forms.Section.{Section}
use Rattle.cs_tree.specs.declared.forms.Catching.{Catching}
use Rattle.cs_tree.specs.declared.forms.Syntax.TheVariants as syntax
use Rattle.cs_tree.specs.Bare.{nowhere, bare_name, bare_type, bare_param, bare_action, bare_form, bare_syntax, bare_arg, bare_block}
use Rattle.cs_wellformed.specs.Same.{bare_catching, bare_section}
use Rattle.cs_wellformed.proofs.Bared.{bare_Literal, bare_Name, bare_This, bare_Member, bare_Call, bare_BaseMember, bare_BaseCall, bare_Global, bare_GlobalCall, bare_Index, bare_New, bare_NewArray, bare_Checked, bare_Unchecked, bare_Default, bare_Lambda, bare_Unary, bare_Cast, bare_Binary, bare_Is, bare_As, bare_Conditional, bare_Assign, bare_Compound, bare_Invoke, bare_Declare, bare_Act, bare_Label, bare_Goto, bare_Break, bare_Continue, bare_Return, bare_Throw, bare_If, bare_While, bare_DoWhile, bare_For, bare_Foreach, bare_Using, bare_Lock, bare_Switch, bare_Try}

pub same_Literal : (s s′ : Spot) (l : Literal) → bare_form (form.Literal s l) ≡ bare_form (form.Literal s′ l)
same_Literal s s′ l = bare_Literal s l ∙ sym (bare_Literal s′ l)

pub same_Name : (s s′ : Spot) (text : List ℕ) → bare_form (form.Name s text) ≡ bare_form (form.Name s′ text)
same_Name s s′ text = bare_Name s text ∙ sym (bare_Name s′ text)

pub same_This : (s s′ : Spot) → bare_form (form.This s) ≡ bare_form (form.This s′)
same_This s s′ = bare_This s ∙ sym (bare_This s′)

pub same_Member : (s s′ : Spot) (a a′ : Form) (x x′ : Name) → bare_form a ≡ bare_form a′ → bare_name x ≡ bare_name x′ → bare_form (form.Member s a x) ≡ bare_form (form.Member s′ a′ x′)
same_Member s s′ a a′ x x′ ea ex = bare_Member s a x ∙ (ap (λ z. form.Member nowhere z (bare_name x)) ea ∙ (ap (λ z. form.Member nowhere (bare_form a′) z) ex ∙ sym (bare_Member s′ a′ x′)))

pub same_Call : (s s′ : Spot) (a a′ : Form) (x x′ : Name) (args args′ : List Arg) → bare_form a ≡ bare_form a′ → bare_name x ≡ bare_name x′ → map bare_arg args ≡ map bare_arg args′ → bare_form (form.Call s a x args) ≡ bare_form (form.Call s′ a′ x′ args′)
same_Call s s′ a a′ x x′ args args′ ea ex eargs = bare_Call s a x args ∙ (ap (λ z. form.Call nowhere z (bare_name x) (map bare_arg args)) ea ∙ (ap (λ z. form.Call nowhere (bare_form a′) z (map bare_arg args)) ex ∙ (ap (λ z. form.Call nowhere (bare_form a′) (bare_name x′) z) eargs ∙ sym (bare_Call s′ a′ x′ args′))))

pub same_BaseMember : (s s′ : Spot) (x x′ : Name) → bare_name x ≡ bare_name x′ → bare_form (form.BaseMember s x) ≡ bare_form (form.BaseMember s′ x′)
same_BaseMember s s′ x x′ ex = bare_BaseMember s x ∙ (ap (λ z. form.BaseMember nowhere z) ex ∙ sym (bare_BaseMember s′ x′))

pub same_BaseCall : (s s′ : Spot) (x x′ : Name) (args args′ : List Arg) → bare_name x ≡ bare_name x′ → map bare_arg args ≡ map bare_arg args′ → bare_form (form.BaseCall s x args) ≡ bare_form (form.BaseCall s′ x′ args′)
same_BaseCall s s′ x x′ args args′ ex eargs = bare_BaseCall s x args ∙ (ap (λ z. form.BaseCall nowhere z (map bare_arg args)) ex ∙ (ap (λ z. form.BaseCall nowhere (bare_name x′) z) eargs ∙ sym (bare_BaseCall s′ x′ args′)))

pub same_Global : (s s′ : Spot) (names : List (List ℕ)) → bare_form (form.Global s names) ≡ bare_form (form.Global s′ names)
same_Global s s′ names = bare_Global s names ∙ sym (bare_Global s′ names)

pub same_GlobalCall : (s s′ : Spot) (names : List (List ℕ)) (args args′ : List Arg) → map bare_arg args ≡ map bare_arg args′ → bare_form (form.GlobalCall s names args) ≡ bare_form (form.GlobalCall s′ names args′)
same_GlobalCall s s′ names args args′ eargs = bare_GlobalCall s names args ∙ (ap (λ z. form.GlobalCall nowhere names z) eargs ∙ sym (bare_GlobalCall s′ names args′))

pub same_Index : (s s′ : Spot) (a a′ : Form) (i i′ : Form) → bare_form a ≡ bare_form a′ → bare_form i ≡ bare_form i′ → bare_form (form.Index s a i) ≡ bare_form (form.Index s′ a′ i′)
same_Index s s′ a a′ i i′ ea ei = bare_Index s a i ∙ (ap (λ z. form.Index nowhere z (bare_form i)) ea ∙ (ap (λ z. form.Index nowhere (bare_form a′) z) ei ∙ sym (bare_Index s′ a′ i′)))

pub same_New : (s s′ : Spot) (class : TypeName) (args args′ : List Arg) → map bare_arg args ≡ map bare_arg args′ → bare_form (form.New s class args) ≡ bare_form (form.New s′ class args′)
same_New s s′ class args args′ eargs = bare_New s class args ∙ (ap (λ z. form.New nowhere class z) eargs ∙ sym (bare_New s′ class args′))

pub same_NewArray : (s s′ : Spot) (t t′ : TypeForm) (a a′ : Form) → bare_type t ≡ bare_type t′ → bare_form a ≡ bare_form a′ → bare_form (form.NewArray s t a) ≡ bare_form (form.NewArray s′ t′ a′)
same_NewArray s s′ t t′ a a′ et ea = bare_NewArray s t a ∙ (ap (λ z. form.NewArray nowhere z (bare_form a)) et ∙ (ap (λ z. form.NewArray nowhere (bare_type t′) z) ea ∙ sym (bare_NewArray s′ t′ a′)))

pub same_Checked : (s s′ : Spot) (a a′ : Form) → bare_form a ≡ bare_form a′ → bare_form (form.Checked s a) ≡ bare_form (form.Checked s′ a′)
same_Checked s s′ a a′ ea = bare_Checked s a ∙ (ap (λ z. form.Checked nowhere z) ea ∙ sym (bare_Checked s′ a′))

pub same_Unchecked : (s s′ : Spot) (a a′ : Form) → bare_form a ≡ bare_form a′ → bare_form (form.Unchecked s a) ≡ bare_form (form.Unchecked s′ a′)
same_Unchecked s s′ a a′ ea = bare_Unchecked s a ∙ (ap (λ z. form.Unchecked nowhere z) ea ∙ sym (bare_Unchecked s′ a′))

pub same_Default : (s s′ : Spot) (t t′ : TypeForm) → bare_type t ≡ bare_type t′ → bare_form (form.Default s t) ≡ bare_form (form.Default s′ t′)
same_Default s s′ t t′ et = bare_Default s t ∙ (ap (λ z. form.Default nowhere z) et ∙ sym (bare_Default s′ t′))

pub same_Lambda : (s s′ : Spot) (params params′ : List Param) (b b′ : Block) → map bare_param params ≡ map bare_param params′ → bare_block b ≡ bare_block b′ → bare_form (form.Lambda s params b) ≡ bare_form (form.Lambda s′ params′ b′)
same_Lambda s s′ params params′ b b′ eparams eb = bare_Lambda s params b ∙ (ap (λ z. form.Lambda nowhere z (bare_block b)) eparams ∙ (ap (λ z. form.Lambda nowhere (map bare_param params′) z) eb ∙ sym (bare_Lambda s′ params′ b′)))

pub same_Unary : (s s′ : Spot) (o : UnaryOp) (a a′ : Form) → bare_form a ≡ bare_form a′ → bare_form (form.Unary s o a) ≡ bare_form (form.Unary s′ o a′)
same_Unary s s′ o a a′ ea = bare_Unary s o a ∙ (ap (λ z. form.Unary nowhere o z) ea ∙ sym (bare_Unary s′ o a′))

pub same_Cast : (s s′ : Spot) (t t′ : TypeForm) (a a′ : Form) → bare_type t ≡ bare_type t′ → bare_form a ≡ bare_form a′ → bare_form (form.Cast s t a) ≡ bare_form (form.Cast s′ t′ a′)
same_Cast s s′ t t′ a a′ et ea = bare_Cast s t a ∙ (ap (λ z. form.Cast nowhere z (bare_form a)) et ∙ (ap (λ z. form.Cast nowhere (bare_type t′) z) ea ∙ sym (bare_Cast s′ t′ a′)))

pub same_Binary : (s s′ : Spot) (o : BinaryOp) (l l′ : Form) (r r′ : Form) → bare_form l ≡ bare_form l′ → bare_form r ≡ bare_form r′ → bare_form (form.Binary s o l r) ≡ bare_form (form.Binary s′ o l′ r′)
same_Binary s s′ o l l′ r r′ el er = bare_Binary s o l r ∙ (ap (λ z. form.Binary nowhere o z (bare_form r)) el ∙ (ap (λ z. form.Binary nowhere o (bare_form l′) z) er ∙ sym (bare_Binary s′ o l′ r′)))

pub same_Is : (s s′ : Spot) (a a′ : Form) (t t′ : TypeForm) → bare_form a ≡ bare_form a′ → bare_type t ≡ bare_type t′ → bare_form (form.Is s a t) ≡ bare_form (form.Is s′ a′ t′)
same_Is s s′ a a′ t t′ ea et = bare_Is s a t ∙ (ap (λ z. form.Is nowhere z (bare_type t)) ea ∙ (ap (λ z. form.Is nowhere (bare_form a′) z) et ∙ sym (bare_Is s′ a′ t′)))

pub same_As : (s s′ : Spot) (a a′ : Form) (t t′ : TypeForm) → bare_form a ≡ bare_form a′ → bare_type t ≡ bare_type t′ → bare_form (form.As s a t) ≡ bare_form (form.As s′ a′ t′)
same_As s s′ a a′ t t′ ea et = bare_As s a t ∙ (ap (λ z. form.As nowhere z (bare_type t)) ea ∙ (ap (λ z. form.As nowhere (bare_form a′) z) et ∙ sym (bare_As s′ a′ t′)))

pub same_Conditional : (s s′ : Spot) (a a′ : Form) (l l′ : Form) (r r′ : Form) → bare_form a ≡ bare_form a′ → bare_form l ≡ bare_form l′ → bare_form r ≡ bare_form r′ → bare_form (form.Conditional s a l r) ≡ bare_form (form.Conditional s′ a′ l′ r′)
same_Conditional s s′ a a′ l l′ r r′ ea el er = bare_Conditional s a l r ∙ (ap (λ z. form.Conditional nowhere z (bare_form l) (bare_form r)) ea ∙ (ap (λ z. form.Conditional nowhere (bare_form a′) z (bare_form r)) el ∙ (ap (λ z. form.Conditional nowhere (bare_form a′) (bare_form l′) z) er ∙ sym (bare_Conditional s′ a′ l′ r′))))

pub same_Assign : (p p′ : Form) (a a′ : Form) → bare_form p ≡ bare_form p′ → bare_form a ≡ bare_form a′ → bare_action (action.Assign p a) ≡ bare_action (action.Assign p′ a′)
same_Assign p p′ a a′ ep ea = bare_Assign p a ∙ (ap (λ z. action.Assign z (bare_form a)) ep ∙ (ap (λ z. action.Assign (bare_form p′) z) ea ∙ sym (bare_Assign p′ a′)))

pub same_Compound : (o : AssignOp) (p p′ : Form) (a a′ : Form) → bare_form p ≡ bare_form p′ → bare_form a ≡ bare_form a′ → bare_action (action.Compound o p a) ≡ bare_action (action.Compound o p′ a′)
same_Compound o p p′ a a′ ep ea = bare_Compound o p a ∙ (ap (λ z. action.Compound o z (bare_form a)) ep ∙ (ap (λ z. action.Compound o (bare_form p′) z) ea ∙ sym (bare_Compound o p′ a′)))

pub same_Invoke : (a a′ : Form) → bare_form a ≡ bare_form a′ → bare_action (action.Invoke a) ≡ bare_action (action.Invoke a′)
same_Invoke a a′ ea = bare_Invoke a ∙ (ap (λ z. action.Invoke z) ea ∙ sym (bare_Invoke a′))

pub same_Declare : (s s′ : Spot) (t t′ : TypeForm) (x x′ : Name) (a a′ : Form) → bare_type t ≡ bare_type t′ → bare_name x ≡ bare_name x′ → bare_form a ≡ bare_form a′ → bare_syntax (syntax.Declare s t x a) ≡ bare_syntax (syntax.Declare s′ t′ x′ a′)
same_Declare s s′ t t′ x x′ a a′ et ex ea = bare_Declare s t x a ∙ (ap (λ z. syntax.Declare nowhere z (bare_name x) (bare_form a)) et ∙ (ap (λ z. syntax.Declare nowhere (bare_type t′) z (bare_form a)) ex ∙ (ap (λ z. syntax.Declare nowhere (bare_type t′) (bare_name x′) z) ea ∙ sym (bare_Declare s′ t′ x′ a′))))

pub same_Act : (s s′ : Spot) (d d′ : Action) → bare_action d ≡ bare_action d′ → bare_syntax (syntax.Act s d) ≡ bare_syntax (syntax.Act s′ d′)
same_Act s s′ d d′ ed = bare_Act s d ∙ (ap (λ z. syntax.Act nowhere z) ed ∙ sym (bare_Act s′ d′))

pub same_Label : (s s′ : Spot) (text : List ℕ) → bare_syntax (syntax.Label s text) ≡ bare_syntax (syntax.Label s′ text)
same_Label s s′ text = bare_Label s text ∙ sym (bare_Label s′ text)

pub same_Goto : (s s′ : Spot) (text : List ℕ) → bare_syntax (syntax.Goto s text) ≡ bare_syntax (syntax.Goto s′ text)
same_Goto s s′ text = bare_Goto s text ∙ sym (bare_Goto s′ text)

pub same_Break : (s s′ : Spot) → bare_syntax (syntax.Break s) ≡ bare_syntax (syntax.Break s′)
same_Break s s′ = bare_Break s ∙ sym (bare_Break s′)

pub same_Continue : (s s′ : Spot) → bare_syntax (syntax.Continue s) ≡ bare_syntax (syntax.Continue s′)
same_Continue s s′ = bare_Continue s ∙ sym (bare_Continue s′)

pub same_Return : (s s′ : Spot) (v v′ : Option Form) → option_map bare_form v ≡ option_map bare_form v′ → bare_syntax (syntax.Return s v) ≡ bare_syntax (syntax.Return s′ v′)
same_Return s s′ v v′ ev = bare_Return s v ∙ (ap (λ z. syntax.Return nowhere z) ev ∙ sym (bare_Return s′ v′))

pub same_Throw : (s s′ : Spot) (v v′ : Option Form) → option_map bare_form v ≡ option_map bare_form v′ → bare_syntax (syntax.Throw s v) ≡ bare_syntax (syntax.Throw s′ v′)
same_Throw s s′ v v′ ev = bare_Throw s v ∙ (ap (λ z. syntax.Throw nowhere z) ev ∙ sym (bare_Throw s′ v′))

pub same_If : (s s′ : Spot) (a a′ : Form) (b b′ : Block) (e e′ : Option Block) → bare_form a ≡ bare_form a′ → bare_block b ≡ bare_block b′ → option_map bare_block e ≡ option_map bare_block e′ → bare_syntax (syntax.If s a b e) ≡ bare_syntax (syntax.If s′ a′ b′ e′)
same_If s s′ a a′ b b′ e e′ ea eb ee = bare_If s a b e ∙ (ap (λ z. syntax.If nowhere z (bare_block b) (option_map bare_block e)) ea ∙ (ap (λ z. syntax.If nowhere (bare_form a′) z (option_map bare_block e)) eb ∙ (ap (λ z. syntax.If nowhere (bare_form a′) (bare_block b′) z) ee ∙ sym (bare_If s′ a′ b′ e′))))

pub same_While : (s s′ : Spot) (a a′ : Form) (b b′ : Block) → bare_form a ≡ bare_form a′ → bare_block b ≡ bare_block b′ → bare_syntax (syntax.While s a b) ≡ bare_syntax (syntax.While s′ a′ b′)
same_While s s′ a a′ b b′ ea eb = bare_While s a b ∙ (ap (λ z. syntax.While nowhere z (bare_block b)) ea ∙ (ap (λ z. syntax.While nowhere (bare_form a′) z) eb ∙ sym (bare_While s′ a′ b′)))

pub same_DoWhile : (s s′ : Spot) (b b′ : Block) (a a′ : Form) → bare_block b ≡ bare_block b′ → bare_form a ≡ bare_form a′ → bare_syntax (syntax.DoWhile s b a) ≡ bare_syntax (syntax.DoWhile s′ b′ a′)
same_DoWhile s s′ b b′ a a′ eb ea = bare_DoWhile s b a ∙ (ap (λ z. syntax.DoWhile nowhere z (bare_form a)) eb ∙ (ap (λ z. syntax.DoWhile nowhere (bare_block b′) z) ea ∙ sym (bare_DoWhile s′ b′ a′)))

pub same_For : (s s′ : Spot) (a a′ : Form) (d d′ : Action) (b b′ : Block) → bare_form a ≡ bare_form a′ → bare_action d ≡ bare_action d′ → bare_block b ≡ bare_block b′ → bare_syntax (syntax.For s a d b) ≡ bare_syntax (syntax.For s′ a′ d′ b′)
same_For s s′ a a′ d d′ b b′ ea ed eb = bare_For s a d b ∙ (ap (λ z. syntax.For nowhere z (bare_action d) (bare_block b)) ea ∙ (ap (λ z. syntax.For nowhere (bare_form a′) z (bare_block b)) ed ∙ (ap (λ z. syntax.For nowhere (bare_form a′) (bare_action d′) z) eb ∙ sym (bare_For s′ a′ d′ b′))))

pub same_Foreach : (s s′ : Spot) (t t′ : TypeForm) (x x′ : Name) (a a′ : Form) (b b′ : Block) → bare_type t ≡ bare_type t′ → bare_name x ≡ bare_name x′ → bare_form a ≡ bare_form a′ → bare_block b ≡ bare_block b′ → bare_syntax (syntax.Foreach s t x a b) ≡ bare_syntax (syntax.Foreach s′ t′ x′ a′ b′)
same_Foreach s s′ t t′ x x′ a a′ b b′ et ex ea eb = bare_Foreach s t x a b ∙ (ap (λ z. syntax.Foreach nowhere z (bare_name x) (bare_form a) (bare_block b)) et ∙ (ap (λ z. syntax.Foreach nowhere (bare_type t′) z (bare_form a) (bare_block b)) ex ∙ (ap (λ z. syntax.Foreach nowhere (bare_type t′) (bare_name x′) z (bare_block b)) ea ∙ (ap (λ z. syntax.Foreach nowhere (bare_type t′) (bare_name x′) (bare_form a′) z) eb ∙ sym (bare_Foreach s′ t′ x′ a′ b′)))))

pub same_Using : (s s′ : Spot) (t t′ : TypeForm) (x x′ : Name) (a a′ : Form) (b b′ : Block) → bare_type t ≡ bare_type t′ → bare_name x ≡ bare_name x′ → bare_form a ≡ bare_form a′ → bare_block b ≡ bare_block b′ → bare_syntax (syntax.Using s t x a b) ≡ bare_syntax (syntax.Using s′ t′ x′ a′ b′)
same_Using s s′ t t′ x x′ a a′ b b′ et ex ea eb = bare_Using s t x a b ∙ (ap (λ z. syntax.Using nowhere z (bare_name x) (bare_form a) (bare_block b)) et ∙ (ap (λ z. syntax.Using nowhere (bare_type t′) z (bare_form a) (bare_block b)) ex ∙ (ap (λ z. syntax.Using nowhere (bare_type t′) (bare_name x′) z (bare_block b)) ea ∙ (ap (λ z. syntax.Using nowhere (bare_type t′) (bare_name x′) (bare_form a′) z) eb ∙ sym (bare_Using s′ t′ x′ a′ b′)))))

pub same_Lock : (s s′ : Spot) (a a′ : Form) (b b′ : Block) → bare_form a ≡ bare_form a′ → bare_block b ≡ bare_block b′ → bare_syntax (syntax.Lock s a b) ≡ bare_syntax (syntax.Lock s′ a′ b′)
same_Lock s s′ a a′ b b′ ea eb = bare_Lock s a b ∙ (ap (λ z. syntax.Lock nowhere z (bare_block b)) ea ∙ (ap (λ z. syntax.Lock nowhere (bare_form a′) z) eb ∙ sym (bare_Lock s′ a′ b′)))

pub same_Switch : (s s′ : Spot) (a a′ : Form) (secs secs′ : List Section) → bare_form a ≡ bare_form a′ → map bare_section secs ≡ map bare_section secs′ → bare_syntax (syntax.Switch s a secs) ≡ bare_syntax (syntax.Switch s′ a′ secs′)
same_Switch s s′ a a′ secs secs′ ea esecs = bare_Switch s a secs ∙ (ap (λ z. syntax.Switch nowhere z (map bare_section secs)) ea ∙ (ap (λ z. syntax.Switch nowhere (bare_form a′) z) esecs ∙ sym (bare_Switch s′ a′ secs′)))

pub same_Try : (s s′ : Spot) (b b′ : Block) (catches catches′ : List Catching) (e e′ : Option Block) → bare_block b ≡ bare_block b′ → map bare_catching catches ≡ map bare_catching catches′ → option_map bare_block e ≡ option_map bare_block e′ → bare_syntax (syntax.Try s b catches e) ≡ bare_syntax (syntax.Try s′ b′ catches′ e′)
same_Try s s′ b b′ catches catches′ e e′ eb ecatches ee = bare_Try s b catches e ∙ (ap (λ z. syntax.Try nowhere z (map bare_catching catches) (option_map bare_block e)) eb ∙ (ap (λ z. syntax.Try nowhere (bare_block b′) z (option_map bare_block e)) ecatches ∙ (ap (λ z. syntax.Try nowhere (bare_block b′) (map bare_catching catches′) z) ee ∙ sym (bare_Try s′ b′ catches′ e′))))
