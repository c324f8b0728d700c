-- Well formed trees: names are legal, numbers are in their ranges, and the printed text is within the depths. A path has all names that
-- stand behind it, so no member is taken of a path alone.
--
-- `IsForm levels limit f h b`: the expression is well formed; on the longest path of its printed text stand `h` operators, calls, casts,
-- lambdas and pairs of parentheses, and `b` blocks are open in one another in its lambdas. `levels` is how many levels an expression in
-- such a block may have, and `limit` how many pairs of brackets a type.
use Rattle.std.specs.Prelude.{◌≡◌, ℕ, ◌+◌, ◌≤◌, max, false, List, [], ◌∷◌, All, Option, Some, None}
use Rattle.cs_tree.specs.declared.types.Spot.{Spot}
use Rattle.cs_tree.specs.declared.types.Name.{Name}
use Rattle.cs_tree.specs.declared.types.TypeName.{TypeName}
use Rattle.cs_tree.specs.declared.types.TypeForm.{TypeForm}
use Rattle.cs_tree.specs.declared.types.Param.{Param}
use Rattle.cs_tree.specs.declared.types.Way.{Way}
use Rattle.cs_tree.specs.declared.forms.Literal.{Literal}
use Rattle.cs_tree.specs.declared.forms.UnaryOp.{UnaryOp}
use Rattle.cs_tree.specs.declared.forms.BinaryOp.{BinaryOp}
use Rattle.cs_tree.specs.declared.forms.AssignOp.{AssignOp}
use Rattle.cs_tree.specs.declared.forms.SwitchLabel.{SwitchLabel}
use Rattle.cs_tree.specs.declared.forms.Arg.{Arg}
use Rattle.cs_tree.specs.declared.forms.Form.{Form}
use Rattle.cs_tree.specs.declared.forms.Form.TheVariants as form
use Rattle.cs_tree.specs.declared.forms.Block.{Block}
use Rattle.cs_tree.specs.declared.forms.Action.{Action}
use Rattle.cs_tree.specs.declared.forms.Action.TheVariants as action
use Rattle.cs_tree.specs.declared.forms.Section.{Section}
use Rattle.cs_tree.specs.declared.forms.Catching.{Catching}
use Rattle.cs_tree.specs.declared.forms.Syntax.{Syntax}
use Rattle.cs_tree.specs.declared.forms.Syntax.TheVariants as syntax
use Rattle.cs_layout.specs.Words.{conditional_level, binary_level, relational_level, new_array_level, primary_level}
use Rattle.cs_wellformed.specs.Words.{IsName, IsLiteral, IsPath, IsTypeName, IsType, IsParam, AreLabels}
use Rattle.cs_wellformed.specs.Standing.{is_path, begins_lambda, levels_at_least, levels_signed, levels_cast}

-- a name that may be left out
abbrev pub IsMaybeName : Option Name → Type 0
IsMaybeName None = Unit {0}
IsMaybeName (Some x) = IsName x.text

abbrev pub arg_of : Way → Form → Arg
arg_of w a = record { way = w; form = a }

abbrev pub block_of : List Syntax → Spot → Block
block_of stmts end = record { stmts = stmts; end = end }

abbrev pub section_of : List SwitchLabel → Block → Section
section_of labels block = record { labels = labels; block = block }

abbrev pub catching_of : Spot → TypeForm → Option Name → Block → Catching
catching_of s t x block = record { spot = s; ty = t; name = x; block = block }

mutual
  pub data IsForm (levels limit : ℕ) : Form → ℕ → ℕ → Type 0 where
    literal : (s : Spot) (l : Literal) → IsLiteral l → IsForm levels limit (form.Literal s l) 0 0
    named : (s : Spot) (text : List ℕ) → IsName text → IsForm levels limit (form.Name s text) 0 0
    this : (s : Spot) → IsForm levels limit (form.This s) 0 0
    member : (s : Spot) (a : Form) (x : Name) (h b : ℕ) → IsForm levels limit a h b → is_path a ≡ false → IsName x.text →
        IsForm levels limit (form.Member s a x) (levels_at_least new_array_level a h + 1) b
    call : (s : Spot) (a : Form) (x : Name) (args : List Arg) (h k b c : ℕ) → IsForm levels limit a h b → is_path a ≡ false → IsName x.text →
        AreArgs levels limit args k c → IsForm levels limit (form.Call s a x args) (max (levels_at_least new_array_level a h + 1) k + 1) (max b c)
    base_member : (s : Spot) (x : Name) → IsName x.text → IsForm levels limit (form.BaseMember s x) 0 0
    base_call : (s : Spot) (x : Name) (args : List Arg) (k c : ℕ) → IsName x.text → AreArgs levels limit args k c →
        IsForm levels limit (form.BaseCall s x args) (k + 1) c
    path : (s : Spot) (names : List (List ℕ)) → IsPath names → IsForm levels limit (form.Global s names) 0 0
    path_call : (s : Spot) (names : List (List ℕ)) (args : List Arg) (k c : ℕ) → IsPath names → AreArgs levels limit args k c →
        IsForm levels limit (form.GlobalCall s names args) (k + 1) c
    index : (s : Spot) (a i : Form) (h k b c : ℕ) → IsForm levels limit a h b → IsForm levels limit i k c →
        IsForm levels limit (form.Index s a i) (max (levels_at_least primary_level a h) k + 1) (max b c)
    new : (s : Spot) (class : TypeName) (args : List Arg) (k c : ℕ) → IsTypeName class → AreArgs levels limit args k c →
        IsForm levels limit (form.New s class args) (k + 1) c
    -- the brackets with the length are one pair
    new_array : (s : Spot) (element : TypeForm) (length : Form) (h b : ℕ) → IsTypeName element.name → element.ranks + 1 ≤ limit → IsForm levels limit length h b →
        IsForm levels limit (form.NewArray s element length) (h + 1) b
    checked : (s : Spot) (a : Form) (h b : ℕ) → IsForm levels limit a h b → IsForm levels limit (form.Checked s a) (h + 1) b
    unchecked : (s : Spot) (a : Form) (h b : ℕ) → IsForm levels limit a h b → IsForm levels limit (form.Unchecked s a) (h + 1) b
    default : (s : Spot) (t : TypeForm) → IsType limit t → IsForm levels limit (form.Default s t) 1 0
    lambda : (s : Spot) (params : List Param) (block : Block) (b : ℕ) → All (IsParam limit) params → IsBlock levels limit block b →
        IsForm levels limit (form.Lambda s params block) 1 b
    unary : (s : Spot) (o : UnaryOp) (a : Form) (h b : ℕ) → IsForm levels limit a h b → IsForm levels limit (form.Unary s o a) (levels_signed o a h + 1) b
    cast : (s : Spot) (t : TypeForm) (a : Form) (h b : ℕ) → IsType limit t → IsForm levels limit a h b →
        IsForm levels limit (form.Cast s t a) (levels_cast a h + 1) b
    binary : (s : Spot) (o : BinaryOp) (l r : Form) (h k b c : ℕ) → IsForm levels limit l h b → IsForm levels limit r k c →
        IsForm levels limit (form.Binary s o l r) (max (levels_at_least (binary_level o) l h) (levels_at_least (binary_level o + 1) r k) + 1) (max b c)
    test_is : (s : Spot) (a : Form) (t : TypeForm) (h b : ℕ) → IsForm levels limit a h b → IsType limit t →
        IsForm levels limit (form.Is s a t) (levels_at_least relational_level a h + 1) b
    test_as : (s : Spot) (a : Form) (t : TypeForm) (h b : ℕ) → IsForm levels limit a h b → IsType limit t →
        IsForm levels limit (form.As s a t) (levels_at_least relational_level a h + 1) b
    conditional : (s : Spot) (a l r : Form) (h j k b c d : ℕ) → IsForm levels limit a h b → IsForm levels limit l j c → IsForm levels limit r k d →
        IsForm levels limit (form.Conditional s a l r) (max (levels_at_least (conditional_level + 1) a h) (max j k) + 1) (max b (max c d))

  -- arguments: the levels of the highest, and the blocks of the deepest
  pub data AreArgs (levels limit : ℕ) : List Arg → ℕ → ℕ → Type 0 where
    no_args : AreArgs levels limit [] 0 0
    more_args : (w : Way) (a : Form) (args : List Arg) (h k b c : ℕ) → IsForm levels limit a h b → AreArgs levels limit args k c →
        AreArgs levels limit (arg_of w a ∷ args) (max h k) (max b c)

  -- a block is one, beside those in it
  pub data IsBlock (levels limit : ℕ) : Block → ℕ → Type 0 where
    in_braces : (stmts : List Syntax) (end : Spot) (b : ℕ) → AreStatements levels limit stmts b → IsBlock levels limit (block_of stmts end) (b + 1)

  pub data AreStatements (levels limit : ℕ) : List Syntax → ℕ → Type 0 where
    no_statements : AreStatements levels limit [] 0
    more_statements : (s : Syntax) (stmts : List Syntax) (b c : ℕ) → IsStatement levels limit s b → AreStatements levels limit stmts c →
        AreStatements levels limit (s ∷ stmts) (max b c)

  -- an expression in a statement has its own levels
  pub data IsValue (levels limit : ℕ) : Form → ℕ → Type 0 where
    value : (a : Form) (h b : ℕ) → IsForm levels limit a h b → h ≤ levels → IsValue levels limit a b

  pub data IsMaybeValue (levels limit : ℕ) : Option Form → ℕ → Type 0 where
    no_value : IsMaybeValue levels limit None 0
    some_value : (a : Form) (b : ℕ) → IsValue levels limit a b → IsMaybeValue levels limit (Some a) b

  pub data IsMaybeBlock (levels limit : ℕ) : Option Block → ℕ → Type 0 where
    no_block : IsMaybeBlock levels limit None 0
    some_block : (block : Block) (b : ℕ) → IsBlock levels limit block b → IsMaybeBlock levels limit (Some block) b

  -- what is assigned to, in parentheses where it binds less than a primary expression
  pub data IsPlace (levels limit : ℕ) : Form → ℕ → Type 0 where
    place : (a : Form) (h b : ℕ) → IsForm levels limit a h b → begins_lambda a ≡ false → levels_at_least new_array_level a h ≤ levels →
        IsPlace levels limit a b

  -- what ends with arguments in parentheses
  pub data IsCall (levels limit : ℕ) : Form → ℕ → Type 0 where
    member_call : (s : Spot) (a : Form) (x : Name) (args : List Arg) (h k b c : ℕ) → IsForm levels limit a h b → is_path a ≡ false → begins_lambda a ≡ false →
        IsName x.text → AreArgs levels limit args k c → max (levels_at_least new_array_level a h + 1) k + 1 ≤ levels →
        IsCall levels limit (form.Call s a x args) (max b c)
    base_member_call : (s : Spot) (x : Name) (args : List Arg) (k c : ℕ) → IsName x.text → AreArgs levels limit args k c → k + 1 ≤ levels →
        IsCall levels limit (form.BaseCall s x args) c
    global_call : (s : Spot) (names : List (List ℕ)) (args : List Arg) (k c : ℕ) → IsPath names → AreArgs levels limit args k c → k + 1 ≤ levels →
        IsCall levels limit (form.GlobalCall s names args) c
    new_call : (s : Spot) (class : TypeName) (args : List Arg) (k c : ℕ) → IsTypeName class → AreArgs levels limit args k c → k + 1 ≤ levels →
        IsCall levels limit (form.New s class args) c

  pub data IsAction (levels limit : ℕ) : Action → ℕ → Type 0 where
    assign : (p a : Form) (b c : ℕ) → IsPlace levels limit p b → IsValue levels limit a c → IsAction levels limit (action.Assign p a) (max b c)
    compound : (o : AssignOp) (p a : Form) (b c : ℕ) → IsPlace levels limit p b → IsValue levels limit a c →
        IsAction levels limit (action.Compound o p a) (max b c)
    invoke : (a : Form) (b : ℕ) → IsCall levels limit a b → IsAction levels limit (action.Invoke a) b

  pub data AreSections (levels limit : ℕ) : List Section → ℕ → Type 0 where
    no_sections : AreSections levels limit [] 0
    more_sections : (labels : List SwitchLabel) (block : Block) (sections : List Section) (b c : ℕ) → AreLabels labels → IsBlock levels limit block b →
        AreSections levels limit sections c → AreSections levels limit (section_of labels block ∷ sections) (max b c)

  pub data AreCatches (levels limit : ℕ) : List Catching → ℕ → Type 0 where
    no_catches : AreCatches levels limit [] 0
    more_catches : (s : Spot) (t : TypeForm) (x : Option Name) (block : Block) (catches : List Catching) (b c : ℕ) → IsType limit t → IsMaybeName x →
        IsBlock levels limit block b → AreCatches levels limit catches c → AreCatches levels limit (catching_of s t x block ∷ catches) (max b c)

  pub data IsStatement (levels limit : ℕ) : Syntax → ℕ → Type 0 where
    declare : (s : Spot) (t : TypeForm) (x : Name) (a : Form) (b : ℕ) → IsType limit t → IsName x.text → IsValue levels limit a b →
        IsStatement levels limit (syntax.Declare s t x a) b
    act : (s : Spot) (a : Action) (b : ℕ) → IsAction levels limit a b → IsStatement levels limit (syntax.Act s a) b
    label : (s : Spot) (text : List ℕ) → IsName text → IsStatement levels limit (syntax.Label s text) 0
    goto : (s : Spot) (text : List ℕ) → IsName text → IsStatement levels limit (syntax.Goto s text) 0
    «break» : (s : Spot) → IsStatement levels limit (syntax.Break s) 0
    «continue» : (s : Spot) → IsStatement levels limit (syntax.Continue s) 0
    «return» : (s : Spot) (a : Option Form) (b : ℕ) → IsMaybeValue levels limit a b → IsStatement levels limit (syntax.Return s a) b
    throw : (s : Spot) (a : Option Form) (b : ℕ) → IsMaybeValue levels limit a b → IsStatement levels limit (syntax.Throw s a) b
    if_ : (s : Spot) (a : Form) (then_ : Block) (else_ : Option Block) (b c d : ℕ) → IsValue levels limit a b → IsBlock levels limit then_ c →
        IsMaybeBlock levels limit else_ d → IsStatement levels limit (syntax.If s a then_ else_) (max b (max c d))
    while_ : (s : Spot) (a : Form) (body : Block) (b c : ℕ) → IsValue levels limit a b → IsBlock levels limit body c →
        IsStatement levels limit (syntax.While s a body) (max b c)
    do_while : (s : Spot) (body : Block) (a : Form) (b c : ℕ) → IsBlock levels limit body b → IsValue levels limit a c →
        IsStatement levels limit (syntax.DoWhile s body a) (max b c)
    for_ : (s : Spot) (a : Form) (step : Action) (body : Block) (b c d : ℕ) → IsValue levels limit a b → IsAction levels limit step c →
        IsBlock levels limit body d → IsStatement levels limit (syntax.For s a step body) (max b (max c d))
    foreach : (s : Spot) (t : TypeForm) (x : Name) (a : Form) (body : Block) (b c : ℕ) → IsType limit t → IsName x.text → IsValue levels limit a b →
        IsBlock levels limit body c → IsStatement levels limit (syntax.Foreach s t x a body) (max b c)
    using : (s : Spot) (t : TypeForm) (x : Name) (a : Form) (body : Block) (b c : ℕ) → IsType limit t → IsName x.text → IsValue levels limit a b →
        IsBlock levels limit body c → IsStatement levels limit (syntax.Using s t x a body) (max b c)
    lock : (s : Spot) (a : Form) (body : Block) (b c : ℕ) → IsValue levels limit a b → IsBlock levels limit body c →
        IsStatement levels limit (syntax.Lock s a body) (max b c)
    switch : (s : Spot) (a : Form) (sections : List Section) (b c : ℕ) → IsValue levels limit a b → AreSections levels limit sections c →
        IsStatement levels limit (syntax.Switch s a sections) (max b c)
    try : (s : Spot) (body : Block) (catches : List Catching) (last : Option Block) (b c d : ℕ) → IsBlock levels limit body b →
        AreCatches levels limit catches c → IsMaybeBlock levels limit last d → IsStatement levels limit (syntax.Try s body catches last) (max b (max c d))

-- an expression is well formed within these depths
abbrev pub IsWellFormedForm : ℕ → ℕ → ℕ → Form → Type 0
IsWellFormedForm levels limit blocks f = (h : ℕ) × (b : ℕ) × IsForm levels limit f h b × (h ≤ levels) × (b ≤ blocks)

-- a block, itself among the blocks that are open
abbrev pub IsWellFormedBlock : ℕ → ℕ → ℕ → Block → Type 0
IsWellFormedBlock levels limit blocks block = (b : ℕ) × IsBlock levels limit block b × (b ≤ blocks)
