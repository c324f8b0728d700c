-- The layout of expressions and statements (ECMA-334, clauses 12 and 13): one statement or brace a line, four blanks a level, and the
-- fewest parentheses. Each function prints one layer; the parts in it are printed. What a part is printed as depends on the margin, the
-- blanks before the line on which its statement begins.
use Rattle.std.specs.Prelude.{ℕ, ◌+◌, Bool, true, false, ◌&&◌, ◌||◌, nat_lt, List, [], ◌∷◌, ◌++◌, map, Option, Some, None, codes}
use Rattle.std.specs.List.{flat_map}
use Rattle.cs_tree.specs.declared.types.Name.{Name}
use Rattle.cs_tree.specs.declared.types.TypeForm.{TypeForm}
use Rattle.cs_tree.specs.declared.forms.UnaryOp.{UnaryOp}
use Rattle.cs_tree.specs.declared.forms.UnaryOp.TheVariants as op
use Rattle.cs_tree.specs.declared.forms.SwitchLabel.{SwitchLabel}
use Rattle.cs_tree.specs.declared.forms.SwitchLabel.TheVariants as label
use Rattle.cs_tree.specs.declared.forms.Action.{Action}
use Rattle.cs_tree.specs.declared.forms.Form.{Form}
use Rattle.cs_tree.specs.declared.forms.Syntax.{Syntax}
use Rattle.cs_tree.specs.declared.forms.Arg.{Arg}
use Rattle.cs_tree.specs.declared.forms.Block.{Block}
use Rattle.cs_tree.specs.declared.forms.Catching.{Catching}
use Rattle.cs_tree.specs.declared.forms.Section.{Section}
use Rattle.cs_tree.specs.declared.forms.Action.TheOpen.{Action-F, Form-F, Syntax-F, Arg-F, Block-F, Catching-F, Section-F}
use Rattle.cs_tree.specs.declared.forms.Action.TheFolds.{fold-Action, fold-Form, fold-Syntax, fold-Arg, fold-Block, fold-Catching, fold-Section}
use Rattle.cs_layout.specs.declared.fixed.Fixed.TheVariants as part
use Rattle.cs_layout.specs.Pieces.{Piece, gap}
use Rattle.cs_layout.specs.Words.{fixed, unary_pieces, binary_pieces, assign_pieces, conditional_level, binary_level, relational_level, unary_level, cast_level, new_array_level, primary_level, name, path, type_without_ranks, ranks, type_pieces, literal_pieces, way_pieces, listed, param_pieces}

-- what is printed behind a margin
abbrev pub Laid : Type 0
Laid = List ℕ → List Piece

-- An expression: how tightly it binds, whether it begins with a minus sign of its own, whether it is a lambda, and what it is printed as.
pub record Shown : Type 0 where
  pub level : ℕ
  pub is_minus : Bool
  pub is_lambda : Bool
  pub pieces : List ℕ → List Piece

abbrev pub shown : ℕ → Laid → Shown
shown level pieces = record { level = level; is_minus = false; is_lambda = false; pieces = pieces }

-- in parentheses, or not
abbrev pub enclosed : Bool → List Piece → List Piece
enclosed true ps = fixed part.Open ++ (ps ++ fixed part.Close)
enclosed false ps = ps

-- where an expression of at least this level is wanted
abbrev pub at_least : ℕ → Shown → Laid
at_least level a margin = enclosed (nat_lt a.level level) (a.pieces margin)

-- "(" args ")"
abbrev pub arguments : List Laid → Laid
arguments args margin = fixed part.Open ++ (listed (map (λ a. a margin) args) ++ fixed part.Close)

-- a deeper margin, and lines
abbrev pub deeper : List ℕ → List ℕ
deeper margin = margin ++ codes "    "

unfoldable pub indent : List ℕ → List Piece
indent margin = gap margin ∷ []

abbrev pub line : List ℕ → List Piece → List Piece
line margin ps = indent margin ++ (ps ++ fixed part.Newline)

-- a block on lines of its own, from brace to brace
abbrev pub braced : Laid → Laid
braced block margin = line margin (fixed part.OpenBrace) ++ (block (deeper margin) ++ line margin (fixed part.CloseBrace))

-- expressions

abbrev pub is_minus_op : UnaryOp → Bool
is_minus_op op.Minus = true
is_minus_op _ = false

abbrev pub signed_operand : UnaryOp → Shown → Laid
signed_operand o a margin = enclosed (nat_lt a.level unary_level || is_minus_op o && a.is_minus) (a.pieces margin)

abbrev pub cast_operand : Shown → Laid
cast_operand a margin = enclosed (nat_lt a.level cast_level || a.is_lambda) (a.pieces margin)

abbrev pub arg_layer : Arg-F Laid Shown Laid Laid Laid Laid Laid → Laid
arg_layer a margin = way_pieces a.way ++ a.form.pieces margin

abbrev pub form_layer : Form-F Laid Shown Laid Laid Laid Laid Laid → Shown
form_layer (Form-F.Literal _ literal) = shown primary_level (λ margin. literal_pieces literal)
form_layer (Form-F.Name _ text) = shown primary_level (λ margin. name text)
form_layer (Form-F.This _) = shown primary_level (λ margin. fixed part.This)
form_layer (Form-F.Member _ object n) = shown primary_level (λ margin. at_least new_array_level object margin ++ (fixed part.Dot ++ name n.text))
form_layer (Form-F.Call _ object n args) =
    shown primary_level (λ margin. at_least new_array_level object margin ++ (fixed part.Dot ++ (name n.text ++ arguments args margin)))
form_layer (Form-F.BaseMember _ n) = shown primary_level (λ margin. fixed part.Base ++ name n.text)
form_layer (Form-F.BaseCall _ n args) = shown primary_level (λ margin. fixed part.Base ++ (name n.text ++ arguments args margin))
form_layer (Form-F.Global _ names) = shown primary_level (λ margin. fixed part.Global ++ path names)
form_layer (Form-F.GlobalCall _ names args) = shown primary_level (λ margin. fixed part.Global ++ (path names ++ arguments args margin))
form_layer (Form-F.Index _ array index) =
    shown primary_level (λ margin. at_least primary_level array margin ++ (fixed part.OpenIndex ++ (index.pieces margin ++ fixed part.CloseIndex)))
form_layer (Form-F.New _ class args) = shown primary_level (λ margin. fixed part.New ++ (type_without_ranks class ++ arguments args margin))
form_layer (Form-F.NewArray _ element length) =
    shown new_array_level
    (λ margin.
    fixed part.New ++ (type_without_ranks element.name ++ (fixed part.OpenIndex ++ (length.pieces margin ++ (fixed part.CloseIndex ++ ranks element.ranks)))))
form_layer (Form-F.Checked _ inner) = shown primary_level (λ margin. fixed part.Checked ++ (inner.pieces margin ++ fixed part.Close))
form_layer (Form-F.Unchecked _ inner) = shown primary_level (λ margin. fixed part.Unchecked ++ (inner.pieces margin ++ fixed part.Close))
form_layer (Form-F.Default _ ty) = shown primary_level (λ margin. fixed part.DefaultOf ++ (type_pieces ty ++ fixed part.Close))
form_layer (Form-F.Lambda _ params block) =
    record {
      level = primary_level;
      is_minus = false;
      is_lambda = true;
      pieces = λ margin.
          fixed part.Open ++ (listed (map param_pieces params) ++ (fixed part.Arrow ++ (block (deeper margin) ++ (indent margin ++ fixed part.CloseBrace))));
    }
form_layer (Form-F.Unary _ o operand) =
    record { level = unary_level; is_minus = is_minus_op o; is_lambda = false; pieces = λ margin. unary_pieces o ++ signed_operand o operand margin }
form_layer (Form-F.Cast _ ty operand) = shown cast_level (λ margin. fixed part.Open ++ (type_pieces ty ++ (fixed part.Close ++ cast_operand operand margin)))
form_layer (Form-F.Binary _ o left right) =
    shown (binary_level o) (λ margin. at_least (binary_level o) left margin ++ (binary_pieces o ++ at_least (binary_level o + 1) right margin))
form_layer (Form-F.Is _ operand ty) = shown relational_level (λ margin. at_least relational_level operand margin ++ (fixed part.Is ++ type_pieces ty))
form_layer (Form-F.As _ operand ty) = shown relational_level (λ margin. at_least relational_level operand margin ++ (fixed part.As ++ type_pieces ty))
form_layer (Form-F.Conditional _ test on_true on_false) =
    shown conditional_level
    (λ margin. at_least (conditional_level + 1) test margin ++ (fixed part.Question ++ (on_true.pieces margin ++ (fixed part.Otherwise ++ on_false.pieces margin))))

-- statements, each with its margin and its newline

abbrev pub action_layer : Action-F Laid Shown Laid Laid Laid Laid Laid → Laid
action_layer (Action-F.Assign place value) margin = at_least new_array_level place margin ++ (fixed part.Equals ++ value.pieces margin)
action_layer (Action-F.Compound o place value) margin = at_least new_array_level place margin ++ (assign_pieces o ++ value.pieces margin)
action_layer (Action-F.Invoke call) margin = call.pieces margin

abbrev pub block_layer : Block-F Laid Shown Laid Laid Laid Laid Laid → Laid
block_layer b margin = flat_map (λ s. s margin) b.stmts

abbrev pub maybe_block : List Piece → Option Laid → Laid
maybe_block head None margin = []
maybe_block head (Some block) margin = line margin head ++ braced block margin

abbrev pub valued : List Piece → Shown → Laid
valued head a margin = line margin (head ++ (a.pieces margin ++ fixed part.Semicolon))

abbrev pub maybe_value : List Piece → List Piece → Option Shown → Laid
maybe_value alone head None margin = line margin alone
maybe_value alone head (Some a) margin = valued head a margin

-- "(" expr ")" behind a keyword
abbrev pub tested : List Piece → Shown → Laid
tested head a margin = line margin (head ++ (a.pieces margin ++ fixed part.Close))

abbrev pub typed : TypeForm → Name → List Piece
typed ty n = type_pieces ty ++ (fixed part.Blank ++ name n.text)

abbrev pub maybe_name : Option Name → List Piece
maybe_name None = []
maybe_name (Some n) = fixed part.Blank ++ name n.text

abbrev pub label_pieces : List ℕ → SwitchLabel → List Piece
label_pieces margin (label.Case _ literal) = line margin (fixed part.Case ++ (literal_pieces literal ++ fixed part.CaseEnd))
label_pieces margin (label.Default _) = line margin (fixed part.Default)

abbrev pub section_layer : Section-F Laid Shown Laid Laid Laid Laid Laid → Laid
section_layer s margin = flat_map (label_pieces margin) s.labels ++ braced s.block margin

abbrev pub catching_layer : Catching-F Laid Shown Laid Laid Laid Laid Laid → Laid
catching_layer c margin =
    line margin (fixed part.Catch ++ (type_pieces c.ty ++ (maybe_name c.name ++ fixed part.Close))) ++ braced c.block margin

abbrev pub syntax_layer : Syntax-F Laid Shown Laid Laid Laid Laid Laid → Laid
syntax_layer (Syntax-F.Declare _ ty n value) margin =
    line margin (typed ty n ++ (fixed part.Equals ++ (value.pieces margin ++ fixed part.Semicolon)))
syntax_layer (Syntax-F.Act _ action) margin = line margin (action margin ++ fixed part.Semicolon)
syntax_layer (Syntax-F.Label _ text) margin = line margin (name text ++ fixed part.LabelEnd)
syntax_layer (Syntax-F.Goto _ text) margin = line margin (fixed part.Goto ++ (name text ++ fixed part.Semicolon))
syntax_layer (Syntax-F.Break _) margin = line margin (fixed part.Break)
syntax_layer (Syntax-F.Continue _) margin = line margin (fixed part.Continue)
syntax_layer (Syntax-F.Return _ value) margin = maybe_value (fixed part.ReturnNothing) (fixed part.Return) value margin
syntax_layer (Syntax-F.Throw _ value) margin = maybe_value (fixed part.Rethrow) (fixed part.Throw) value margin
syntax_layer (Syntax-F.If _ test block otherwise) margin =
    tested (fixed part.If) test margin ++ (braced block margin ++ maybe_block (fixed part.Else) otherwise margin)
syntax_layer (Syntax-F.While _ test block) margin = tested (fixed part.While) test margin ++ braced block margin
syntax_layer (Syntax-F.DoWhile _ block test) margin =
    line margin (fixed part.Do) ++ (braced block margin ++ line margin (fixed part.While ++ (test.pieces margin ++ fixed part.DoEnd)))
syntax_layer (Syntax-F.For _ test step block) margin =
    line margin (fixed part.For ++ (test.pieces margin ++ (fixed part.Then ++ (step margin ++ fixed part.Close)))) ++ braced block margin
syntax_layer (Syntax-F.Foreach _ ty n array block) margin =
    line margin (fixed part.Foreach ++ (typed ty n ++ (fixed part.In ++ (array.pieces margin ++ fixed part.Close)))) ++ braced block margin
syntax_layer (Syntax-F.Using _ ty n value block) margin =
    line margin (fixed part.Using ++ (typed ty n ++ (fixed part.Equals ++ (value.pieces margin ++ fixed part.Close)))) ++ braced block margin
syntax_layer (Syntax-F.Lock _ object block) margin = tested (fixed part.Lock) object margin ++ braced block margin
syntax_layer (Syntax-F.Switch _ value sections) margin =
    tested (fixed part.Switch) value margin
    ++ (line margin (fixed part.OpenBrace) ++ (flat_map (λ s. s (deeper margin)) sections ++ line margin (fixed part.CloseBrace)))
syntax_layer (Syntax-F.Try _ block catches last) margin =
    line margin (fixed part.Try) ++ (braced block margin ++ (flat_map (λ c. c margin) catches ++ maybe_block (fixed part.Finally) last margin))

-- whole trees

abbrev pub action_laid : Action → Laid
action_laid = fold-Action Laid Shown Laid Laid Laid Laid Laid action_layer form_layer syntax_layer arg_layer block_layer catching_layer section_layer

abbrev pub form_shown : Form → Shown
form_shown = fold-Form Laid Shown Laid Laid Laid Laid Laid action_layer form_layer syntax_layer arg_layer block_layer catching_layer section_layer

abbrev pub syntax_laid : Syntax → Laid
syntax_laid = fold-Syntax Laid Shown Laid Laid Laid Laid Laid action_layer form_layer syntax_layer arg_layer block_layer catching_layer section_layer

abbrev pub arg_laid : Arg → Laid
arg_laid = fold-Arg Laid Shown Laid Laid Laid Laid Laid action_layer form_layer syntax_layer arg_layer block_layer catching_layer section_layer

abbrev pub block_laid : Block → Laid
block_laid = fold-Block Laid Shown Laid Laid Laid Laid Laid action_layer form_layer syntax_layer arg_layer block_layer catching_layer section_layer

abbrev pub catching_laid : Catching → Laid
catching_laid = fold-Catching Laid Shown Laid Laid Laid Laid Laid action_layer form_layer syntax_layer arg_layer block_layer catching_layer section_layer

abbrev pub section_laid : Section → Laid
section_laid = fold-Section Laid Shown Laid Laid Laid Laid Laid action_layer form_layer syntax_layer arg_layer block_layer catching_layer section_layer
