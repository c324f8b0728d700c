-- Statements that hold blocks are read, and blocks.
use Rattle.std.proofs.Common.{◌≡◌, ℕ, true, false, List, [], ◌∷◌, ◌++◌, map, Option, Some, None, refl, sym, ◌∙◌, ap, subst, nat_lt}
use Rattle.std.specs.Option.{option_map}
use Rattle.std.specs.List.{flat_map}
use Rattle.std.proofs.lemmas.List.{append_assoc}
use Rattle.cs_token.specs.Placed.{Placed as Token}
use Rattle.cs_token.specs.Tokens.{kind_of, kind_of_number}
use Rattle.cs_token.specs.declared.lexeme.Lexeme.{Lexeme}
use Rattle.cs_token.specs.declared.lexeme.Lexeme.TheVariants as lexeme
use Rattle.cs_token.specs.declared.lexeme.Suffix.{Suffix}
use Rattle.cs_token.specs.declared.lexeme.Suffix.TheVariants as suffix
use Rattle.cs_tree.specs.declared.types.Spot.{Spot}
use Rattle.cs_tree.specs.declared.types.Name.{Name}
use Rattle.cs_tree.specs.declared.types.TypeForm.{TypeForm}
use Rattle.cs_tree.specs.declared.forms.Literal.{Literal}
use Rattle.cs_tree.specs.declared.forms.Literal.TheVariants as literal
use Rattle.cs_tree.specs.declared.forms.SwitchLabel.{SwitchLabel}
use Rattle.cs_tree.specs.declared.forms.SwitchLabel.TheVariants as switch_label
use Rattle.cs_tree.specs.declared.forms.Form.{Form}
use Rattle.cs_tree.specs.declared.forms.Block.{Block}
use Rattle.cs_tree.specs.declared.forms.Action.{Action}
use Rattle.cs_tree.specs.declared.forms.Section.{Section}
use Rattle.cs_tree.specs.declared.forms.Catching.{Catching}
use Rattle.cs_tree.specs.declared.forms.Syntax.{Syntax}
use Rattle.cs_tree.specs.declared.forms.Syntax.TheVariants as syntax
use Rattle.cs_tree.specs.Bare.{nowhere, bare_name, bare_type, bare_label, bare_syntax, bare_block}
use Rattle.cs_productions.specs.declared.values.Measured.{Measured}
use Rattle.cs_grammar.specs.Kinds.{has}
use Rattle.cs_grammar.specs.Grammar.{Grammar, gives, one, either, turns}
use Rattle.cs_productions.specs.Kinds.{names, brace, unbrace, paren, unparen, equals, colon, semicolon, keyword_types, global, kw_if, kw_else, kw_while, kw_do, kw_for, kw_foreach, kw_in, kw_using, kw_lock, kw_switch, kw_case, kw_default, kw_try, kw_catch, kw_finally}
use Rattle.cs_productions.specs.Tokens.{kind, spot_of, literal_of}
use Rattle.cs_productions.specs.Inner.{Inner}
use Rattle.cs_statements.specs.Kinds.{name_kinds, literal_kinds, jump_kinds, block_kinds, statement_kinds}
use Rattle.cs_statements.specs.Jumps.{expression, jump}
use Rattle.cs_statements.specs.Actions.{keyword_declared, global_statement, named_statement, primary_act}
use Rattle.cs_statements.specs.Structured.{tested, some_block, no_block, keyword_block, maybe_block, of_if, of_while, of_do, of_for, over, foreach_of, using_of, of_foreach, of_using, of_lock, case_label, default_label, label, one_more_label, section_of, section, one_more_section, some_name, no_name, name_given, maybe_name, catching_of, catching, one_more_catching, of_try, structured}
use Rattle.cs_statements.specs.Blocks.{simple_statement, statement, one_more_statement, braced, block_of}
use Rattle.cs_layout.specs.Pieces.{Piece, gap, token}
use Rattle.cs_layout.specs.declared.fixed.Fixed.TheVariants as part
use Rattle.cs_layout.specs.Words as layout
use Rattle.cs_layout.specs.Words.{fixed, name}
use Rattle.cs_layout.specs.Layout.{Laid, form_shown, action_laid, syntax_laid, block_laid, section_laid, catching_laid, line, deeper, label_pieces, typed}
use Rattle.cs_layout.specs.Layout as laid
use Rattle.cs_wellformed.specs.Words.{IsType, AreLabels}
use Rattle.cs_wellformed.specs.WellFormed as well
use Rattle.cs_wellformed.specs.WellFormed.{IsMaybeName}
use Rattle.cs_wellformed.specs.Same.{bare_catching, bare_section}
use Rattle.cs_wellformed.proofs.Parts.{shown_block, shown_catching, shown_section, bare_block_is, bare_catching_is, bare_section_is}
use Rattle.cs_wellformed.proofs.Shown.{shown_If, shown_While, shown_DoWhile, shown_For, shown_Foreach, shown_Using, shown_Lock, shown_Switch, shown_Try}
use Rattle.cs_wellformed.proofs.Same.{same_If, same_While, same_DoWhile, same_For, same_Foreach, same_Using, same_Lock, same_Switch, same_Try}
use Rattle.cs_roundtrip_types.specs.Spells.{lexemes, Spells}
use Rattle.cs_roundtrip_types.proofs.Spelling.{says_nothing, skips, takes, takes_last, says_then, says_made, says_like, says_first, says_second, says_where, says_else}
use Rattle.cs_roundtrip_types.proofs.Types.{HasText, says_name, same_type, says_type}
use Rattle.cs_roundtrip_forms.specs.Reading.{BlockIsRead}
use Rattle.cs_roundtrip_statements.specs.Reading.{SameForm, ValueIsRead, ActionIsRead, StatementIsRead}
use Rattle.cs_roundtrip_statements.proofs.Lines.{says_line, says_line_front, says_braced, says_no_more, says_one_more}

-- the statements that hold blocks, from some on
abbrev from_lock : ℕ → Inner → Grammar Token Syntax
from_lock n inner = either kind (kw_lock ∷ []) (of_lock n inner) (of_try inner)

abbrev from_using : ℕ → Inner → Grammar Token Syntax
from_using n inner = either kind (kw_using ∷ []) (of_using n inner) (from_lock n inner)

abbrev from_foreach : ℕ → Inner → Grammar Token Syntax
from_foreach n inner = either kind (kw_foreach ∷ []) (of_foreach n inner) (from_using n inner)

abbrev from_for : ℕ → Inner → Grammar Token Syntax
from_for n inner = either kind (kw_for ∷ []) (of_for n inner) (from_foreach n inner)

abbrev from_do : ℕ → Inner → Grammar Token Syntax
from_do n inner = either kind (kw_do ∷ []) (of_do n inner) (from_for n inner)

abbrev from_while : ℕ → Inner → Grammar Token Syntax
from_while n inner = either kind (kw_while ∷ []) (of_while n inner) (from_do n inner)

-- a statement that holds blocks
structured_is : (n : ℕ) (inner : Inner) (s : Syntax) (margin : List ℕ) (ps : List Piece) → nat_lt 0 inner.blocks ≡ true → syntax_laid s margin ≡ ps
    → Spells (structured n inner) ps (λ u. bare_syntax u ≡ bare_syntax s) → Spells (statement n inner) (syntax_laid s margin) (λ u. bare_syntax u ≡ bare_syntax s)
structured_is n inner s margin ps may e x =
    subst (λ qs. Spells (statement n inner) qs (λ u. bare_syntax u ≡ bare_syntax s)) (sym e) (says_where (nat_lt 0 inner.blocks) block_kinds (simple_statement n inner) may x)

-- "(" expr ")"
says_tested : (n : ℕ) (inner : Inner) (a : Form) (ps : List Piece) → Spells (expression n inner) ps (SameForm a) → Spells (tested n inner) (token (lexeme.Sign 2) ∷ (ps ++ token (lexeme.Sign 3) ∷ [])) (SameForm a)
says_tested n inner a ps x =
    takes (paren ∷ []) (λ _. tt) (lexeme.Sign 2) refl (λ _ _. says_then x (λ m e. takes (unparen ∷ []) (λ _. tt) (lexeme.Sign 3) refl (λ _ _. says_nothing m e)))

-- a block that may be left out, behind its keyword
abbrev SameBlocks : Option Block → Option Block → Type 0
SameBlocks o c = option_map bare_block c ≡ option_map bare_block o

abbrev pub MaybeBlockIsRead : Inner → ℕ → List Piece → Option Block → Type 0
MaybeBlockIsRead inner k head o = (margin : List ℕ) → Spells (maybe_block inner k) (laid.maybe_block head (option_map block_laid o) margin) (SameBlocks o)

pub reads_no_block : (inner : Inner) (k : ℕ) (head : List Piece) → MaybeBlockIsRead inner k head None
reads_no_block inner k head margin = says_second (k ∷ []) (keyword_block inner k) (says_nothing no_block refl)

says_block_behind : (inner : Inner) (k word : ℕ) (b : Block) (margin : List ℕ) → has (k ∷ []) (kind_of (lexeme.Keyword word)) ≡ true → BlockIsRead inner.block b
    → Spells (maybe_block inner k) (laid.maybe_block (token (lexeme.Keyword word) ∷ []) (Some (block_laid b)) margin) (SameBlocks (Some b))
says_block_behind inner k word b margin is x =
    says_first (k ∷ []) (gives no_block)
    (says_line_front margin (token (lexeme.Keyword word) ∷ []) (laid.braced (block_laid b) margin) (takes (k ∷ []) (λ _. tt) (lexeme.Keyword word) is (λ _ _. says_made some_block (says_braced b margin x) (λ c e. ap Some e))))

pub reads_else : (inner : Inner) (b : Block) → BlockIsRead inner.block b → MaybeBlockIsRead inner kw_else (fixed part.Else) (Some b)
unfolding fixed
reads_else inner b x margin = says_block_behind inner kw_else 18 b margin refl x

pub reads_finally : (inner : Inner) (b : Block) → BlockIsRead inner.block b → MaybeBlockIsRead inner kw_finally (fixed part.Finally) (Some b)
unfolding fixed
reads_finally inner b x margin = says_block_behind inner kw_finally 24 b margin refl x

pub reads_if : (n : ℕ) (inner : Inner) (s : Spot) (a : Form) (b : Block) (o : Option Block) → nat_lt 0 inner.blocks ≡ true → ValueIsRead n inner a → BlockIsRead inner.block b
    → MaybeBlockIsRead inner kw_else (fixed part.Else) o → StatementIsRead n inner (syntax.If s a b o)
unfolding fixed
reads_if n inner s a b o may x y z margin =
    structured_is n inner (syntax.If s a b o) margin _ may (ap (λ g. g margin) (shown_If s a b o))
    (says_first (kw_if ∷ []) (from_while n inner)
    (says_line_front margin (fixed part.If ++ ((form_shown a).pieces margin ++ fixed part.Close)) (laid.braced (block_laid b) margin ++ laid.maybe_block (fixed part.Else) (option_map block_laid o) margin)
    (takes (kw_if ∷ []) spot_of (lexeme.Keyword 30) refl
    (λ t _. skips (32 ∷ [])
    (says_then (says_tested n inner a ((form_shown a).pieces margin) (x margin))
    (λ m e. says_then (says_braced b margin y)
    (λ c f. says_made (λ d. syntax.If (spot_of t) m.form c d) (z margin) (λ d g. same_If (spot_of t) s m.form a c b d o e f g))))))))

pub reads_while : (n : ℕ) (inner : Inner) (s : Spot) (a : Form) (b : Block) → nat_lt 0 inner.blocks ≡ true → ValueIsRead n inner a → BlockIsRead inner.block b
    → StatementIsRead n inner (syntax.While s a b)
unfolding fixed
reads_while n inner s a b may x y margin =
    structured_is n inner (syntax.While s a b) margin _ may (ap (λ g. g margin) (shown_While s a b))
    (says_second (kw_if ∷ []) (of_if n inner)
    (says_first (kw_while ∷ []) (from_do n inner)
    (says_line_front margin (fixed part.While ++ ((form_shown a).pieces margin ++ fixed part.Close)) (laid.braced (block_laid b) margin)
    (takes (kw_while ∷ []) spot_of (lexeme.Keyword 76) refl
    (λ t _. skips (32 ∷ [])
    (says_then (says_tested n inner a ((form_shown a).pieces margin) (x margin))
    (λ m e. says_made (λ c. syntax.While (spot_of t) m.form c) (says_braced b margin y) (λ c f. same_While (spot_of t) s m.form a c b e f))))))))

pub reads_do : (n : ℕ) (inner : Inner) (s : Spot) (a : Form) (b : Block) → nat_lt 0 inner.blocks ≡ true → ValueIsRead n inner a → BlockIsRead inner.block b
    → StatementIsRead n inner (syntax.DoWhile s b a)
unfolding fixed
reads_do n inner s a b may x y margin =
    structured_is n inner (syntax.DoWhile s b a) margin _ may (ap (λ g. g margin) (shown_DoWhile s b a))
    (says_second (kw_if ∷ []) (of_if n inner)
    (says_second (kw_while ∷ []) (of_while n inner)
    (says_first (kw_do ∷ []) (from_for n inner)
    (says_line_front margin (fixed part.Do) (laid.braced (block_laid b) margin ++ line margin (fixed part.While ++ ((form_shown a).pieces margin ++ fixed part.DoEnd)))
    (takes (kw_do ∷ []) spot_of (lexeme.Keyword 16) refl
    (λ t _. says_then (says_braced b margin y)
    (λ c f. says_line margin
    (takes (kw_while ∷ []) (λ _. tt) (lexeme.Keyword 76) refl
    (λ _ _. skips (32 ∷ [])
    (says_like {qs = token (lexeme.Sign 2) ∷ ((form_shown a).pieces margin ++ (token (lexeme.Sign 3) ∷ token (lexeme.Sign 7) ∷ []))}
    (says_then (says_tested n inner a ((form_shown a).pieces margin) (x margin))
    (λ m e. takes (semicolon ∷ []) (λ _. tt) (lexeme.Sign 7) refl (λ _ _. says_nothing (syntax.DoWhile (spot_of t) c m.form) (same_DoWhile (spot_of t) s c b m.form a f e))))
    (ap (λ z. lexeme.Sign 2 ∷ lexemes z) (sym (append_assoc ((form_shown a).pieces margin) (token (lexeme.Sign 3) ∷ []) (token (lexeme.Sign 7) ∷ []))))))))))))))

pub reads_for : (n : ℕ) (inner : Inner) (s : Spot) (a : Form) (d : Action) (b : Block) → nat_lt 0 inner.blocks ≡ true → ValueIsRead n inner a → ((margin : List ℕ) → ActionIsRead n inner d margin)
    → BlockIsRead inner.block b → StatementIsRead n inner (syntax.For s a d b)
unfolding fixed
reads_for n inner s a d b may x z y margin =
    structured_is n inner (syntax.For s a d b) margin _ may (ap (λ g. g margin) (shown_For s a d b))
    (says_second (kw_if ∷ []) (of_if n inner)
    (says_second (kw_while ∷ []) (of_while n inner)
    (says_second (kw_do ∷ []) (of_do n inner)
    (says_first (kw_for ∷ []) (from_foreach n inner)
    (says_line_front margin (fixed part.For ++ ((form_shown a).pieces margin ++ (fixed part.Then ++ (action_laid d margin ++ fixed part.Close)))) (laid.braced (block_laid b) margin)
    (takes (kw_for ∷ []) spot_of (lexeme.Keyword 27) refl
    (λ t _. skips (32 ∷ [])
    (takes (paren ∷ []) (λ _. tt) (lexeme.Sign 2) refl
    (λ _ _. takes (semicolon ∷ []) (λ _. tt) (lexeme.Sign 7) refl
    (λ _ _. skips (32 ∷ [])
    (says_like
    (says_then (x margin)
    (λ m e. takes (semicolon ∷ []) (λ _. tt) (lexeme.Sign 7) refl
    (λ _ _. skips (32 ∷ [])
    (says_then (z margin).steps
    (λ c f. says_made (λ body. syntax.For (spot_of t) m.form c body) (says_braced b margin y) (λ body g. same_For (spot_of t) s m.form a c d body b e f g))))))
    (ap lexemes
    (append_assoc ((form_shown a).pieces margin) (token (lexeme.Sign 7) ∷ gap (32 ∷ []) ∷ (action_laid d margin ++ token (lexeme.Sign 3) ∷ [])) (laid.braced (block_laid b) margin))))))))))))))

name_same : (x y : Name) → HasText y.text x → bare_name x ≡ bare_name y
name_same x y e = ap (λ z. record { spot = nowhere; text = z }) e

-- a type, a name and an expression in parentheses, and a block
says_over : (n : ℕ) (inner : Inner) (s : Syntax) (first between word : ℕ) (l : Lexeme) (made : Spot → TypeForm → Name → Measured → Block → Syntax) (t : TypeForm) (x : Name) (a : Form) (b : Block) (margin : List ℕ)
    → has (first ∷ []) (kind_of (lexeme.Keyword word)) ≡ true → has (between ∷ []) (kind_of l) ≡ true → IsType inner.ranks t → ValueIsRead n inner a → BlockIsRead inner.block b
    → ((at : Spot) (u : TypeForm) (y : Name) (m : Measured) (c : Block) → bare_type u ≡ bare_type t → bare_name y ≡ bare_name x → SameForm a m → bare_block c ≡ bare_block b → bare_syntax (made at u y m c) ≡ bare_syntax s)
    → Spells (over n inner first between made)
    ((token (lexeme.Keyword word) ∷ gap (32 ∷ []) ∷ token (lexeme.Sign 2) ∷ (typed t x ++ (gap (32 ∷ []) ∷ token l ∷ gap (32 ∷ []) ∷ ((form_shown a).pieces margin ++ token (lexeme.Sign 3) ∷ [])))) ++ laid.braced (block_laid b) margin)
    (λ u. bare_syntax u ≡ bare_syntax s)
unfolding fixed
says_over n inner s first between word l made t x a b margin is at known v y same =
    takes (first ∷ []) spot_of (lexeme.Keyword word) is
    (λ f _. skips (32 ∷ [])
    (takes (paren ∷ []) (λ _. tt) (lexeme.Sign 2) refl
    (λ _ _. says_like
    (says_then (says_type inner.ranks t known)
    (λ u k. skips (32 ∷ [])
    (says_then (says_name x.text)
    (λ z e. skips (32 ∷ [])
    (takes (between ∷ []) (λ _. tt) l at
    (λ _ _. skips (32 ∷ [])
    (says_then (v margin)
    (λ m g. takes (unparen ∷ []) (λ _. tt) (lexeme.Sign 3) refl
    (λ _ _. says_made (made (spot_of f) u z m) (says_braced b margin y) (λ c h. same (spot_of f) u z m c (same_type t u k) (name_same z x e) g h))))))))))
    (ap lexemes
    (append_assoc (typed t x) (gap (32 ∷ []) ∷ token l ∷ gap (32 ∷ []) ∷ ((form_shown a).pieces margin ++ token (lexeme.Sign 3) ∷ [])) (laid.braced (block_laid b) margin)
    ∙ (append_assoc (layout.type_pieces t) (gap (32 ∷ []) ∷ name x.text) (gap (32 ∷ []) ∷ token l ∷ gap (32 ∷ []) ∷ (((form_shown a).pieces margin ++ token (lexeme.Sign 3) ∷ []) ++ laid.braced (block_laid b) margin))
    ∙ ap (λ z. layout.type_pieces t ++ (gap (32 ∷ []) ∷ (name x.text ++ (gap (32 ∷ []) ∷ token l ∷ gap (32 ∷ []) ∷ z))))
    (append_assoc ((form_shown a).pieces margin) (token (lexeme.Sign 3) ∷ []) (laid.braced (block_laid b) margin))))))))

pub reads_foreach : (n : ℕ) (inner : Inner) (s : Spot) (t : TypeForm) (x : Name) (a : Form) (b : Block) → nat_lt 0 inner.blocks ≡ true → IsType inner.ranks t → ValueIsRead n inner a
    → BlockIsRead inner.block b → StatementIsRead n inner (syntax.Foreach s t x a b)
unfolding fixed
reads_foreach n inner s t x a b may known v y margin =
    structured_is n inner (syntax.Foreach s t x a b) margin _ may (ap (λ g. g margin) (shown_Foreach s t x a b))
    (says_second (kw_if ∷ []) (of_if n inner)
    (says_second (kw_while ∷ []) (of_while n inner)
    (says_second (kw_do ∷ []) (of_do n inner)
    (says_second (kw_for ∷ []) (of_for n inner)
    (says_first (kw_foreach ∷ []) (from_using n inner)
    (says_line_front margin (fixed part.Foreach ++ (typed t x ++ (fixed part.In ++ ((form_shown a).pieces margin ++ fixed part.Close)))) (laid.braced (block_laid b) margin)
    (says_over n inner (syntax.Foreach s t x a b) kw_foreach kw_in 28 (lexeme.Keyword 32) foreach_of t x a b margin refl refl known v y
    (λ at u z m c e f g h. same_Foreach at s u t z x m.form a c b e f g h))))))))

pub reads_using : (n : ℕ) (inner : Inner) (s : Spot) (t : TypeForm) (x : Name) (a : Form) (b : Block) → nat_lt 0 inner.blocks ≡ true → IsType inner.ranks t → ValueIsRead n inner a
    → BlockIsRead inner.block b → StatementIsRead n inner (syntax.Using s t x a b)
unfolding fixed
reads_using n inner s t x a b may known v y margin =
    structured_is n inner (syntax.Using s t x a b) margin _ may (ap (λ g. g margin) (shown_Using s t x a b))
    (says_second (kw_if ∷ []) (of_if n inner)
    (says_second (kw_while ∷ []) (of_while n inner)
    (says_second (kw_do ∷ []) (of_do n inner)
    (says_second (kw_for ∷ []) (of_for n inner)
    (says_second (kw_foreach ∷ []) (of_foreach n inner)
    (says_first (kw_using ∷ []) (from_lock n inner)
    (says_line_front margin (fixed part.Using ++ (typed t x ++ (fixed part.Equals ++ ((form_shown a).pieces margin ++ fixed part.Close)))) (laid.braced (block_laid b) margin)
    (says_over n inner (syntax.Using s t x a b) kw_using equals 72 (lexeme.Sign 11) using_of t x a b margin refl refl known v y
    (λ at u z m c e f g h. same_Using at s u t z x m.form a c b e f g h)))))))))

pub reads_lock : (n : ℕ) (inner : Inner) (s : Spot) (a : Form) (b : Block) → nat_lt 0 inner.blocks ≡ true → ValueIsRead n inner a → BlockIsRead inner.block b
    → StatementIsRead n inner (syntax.Lock s a b)
unfolding fixed
reads_lock n inner s a b may x y margin =
    structured_is n inner (syntax.Lock s a b) margin _ may (ap (λ g. g margin) (shown_Lock s a b))
    (says_second (kw_if ∷ []) (of_if n inner)
    (says_second (kw_while ∷ []) (of_while n inner)
    (says_second (kw_do ∷ []) (of_do n inner)
    (says_second (kw_for ∷ []) (of_for n inner)
    (says_second (kw_foreach ∷ []) (of_foreach n inner)
    (says_second (kw_using ∷ []) (of_using n inner)
    (says_first (kw_lock ∷ []) (of_try inner)
    (says_line_front margin (fixed part.Lock ++ ((form_shown a).pieces margin ++ fixed part.Close)) (laid.braced (block_laid b) margin)
    (takes (kw_lock ∷ []) spot_of (lexeme.Keyword 37) refl
    (λ t _. skips (32 ∷ [])
    (says_then (says_tested n inner a ((form_shown a).pieces margin) (x margin))
    (λ m e. says_made (λ c. syntax.Lock (spot_of t) m.form c) (says_braced b margin y) (λ c f. same_Lock (spot_of t) s m.form a c b e f)))))))))))))

-- switch sections

number_kind : (s : Suffix) → has literal_kinds (kind_of_number s) ≡ true
number_kind suffix.Plain = refl
number_kind suffix.Unsigned = refl
number_kind suffix.Long = refl
number_kind suffix.UnsignedLong = refl

says_literal : (l : Literal) → Spells (one kind literal_kinds (λ t. literal_of t.lexeme)) (layout.literal_pieces l) (λ v. v ≡ l)
unfolding fixed layout.number layout.character layout.text
says_literal (literal.Number n s) = takes_last literal_kinds (λ t. literal_of t.lexeme) (lexeme.Number n s) (number_kind s) (λ t e. ap literal_of e)
says_literal (literal.Char unit) = takes_last literal_kinds (λ t. literal_of t.lexeme) (lexeme.Char unit) refl (λ t e. ap literal_of e)
says_literal (literal.Text units) = takes_last literal_kinds (λ t. literal_of t.lexeme) (lexeme.Literal units) refl (λ t e. ap literal_of e)
says_literal (literal.Bool true) = takes_last literal_kinds (λ t. literal_of t.lexeme) (lexeme.Keyword 64) refl (λ t e. ap literal_of e)
says_literal (literal.Bool false) = takes_last literal_kinds (λ t. literal_of t.lexeme) (lexeme.Keyword 23) refl (λ t e. ap literal_of e)
says_literal literal.Null = takes_last literal_kinds (λ t. literal_of t.lexeme) (lexeme.Keyword 41) refl (λ t e. ap literal_of e)

says_label : (margin : List ℕ) (l : SwitchLabel) → Spells label (label_pieces margin l) (λ k. bare_label k ≡ bare_label l)
unfolding fixed
says_label margin (switch_label.Case s l) =
    says_line margin
    (says_first (kw_case ∷ []) default_label
    (takes (kw_case ∷ []) spot_of (lexeme.Keyword 6) refl
    (λ t _. skips (32 ∷ [])
    (says_then (says_literal l)
    (λ v e. takes (colon ∷ []) (λ _. tt) (lexeme.Sign 8) refl (λ _ _. says_nothing (switch_label.Case (spot_of t) v) (ap (λ z. switch_label.Case nowhere z) e)))))))
says_label margin (switch_label.Default s) =
    says_line margin
    (says_second (kw_case ∷ []) case_label
    (takes (kw_default ∷ []) spot_of (lexeme.Keyword 14) refl
    (λ t _. takes (colon ∷ []) (λ _. tt) (lexeme.Sign 8) refl (λ _ _. says_nothing (switch_label.Default (spot_of t)) refl))))

says_labels : (margin : List ℕ) (ls before : List SwitchLabel)
    → Spells (turns kind (kw_case ∷ kw_default ∷ []) (λ _. true) one_more_label before) (flat_map (label_pieces margin) ls) (λ r. map bare_label r ≡ map bare_label (before ++ ls))
says_labels margin [] before = says_no_more bare_label (kw_case ∷ kw_default ∷ []) (λ _. true) label before
says_labels margin (l ∷ ls) before =
    says_one_more bare_label (kw_case ∷ kw_default ∷ []) (λ _. true) label l ls (label_pieces margin l) (flat_map (label_pieces margin) ls) (λ _. refl) (says_label margin l) (says_labels margin ls) before

section_same : (ks ls : List SwitchLabel) (c b : Block) → map bare_label ks ≡ map bare_label ls → bare_block c ≡ bare_block b → bare_section (section_of ks c) ≡ bare_section (well.section_of ls b)
section_same ks ls c b e d = bare_section_is ks c ∙ (ap (λ z. well.section_of z (bare_block c)) e ∙ (ap (λ z. well.section_of (map bare_label ls) z) d ∙ sym (bare_section_is ls b)))

pub says_section : (inner : Inner) (ls : List SwitchLabel) (b : Block) (margin : List ℕ) → AreLabels ls → BlockIsRead inner.block b
    → Spells (section inner) (section_laid (well.section_of ls b) margin) (λ c. bare_section c ≡ bare_section (well.section_of ls b))
says_section inner [] b margin h y = absurd h
says_section inner (l ∷ ls) b margin h y =
    subst (λ ps. Spells (section inner) ps (λ c. bare_section c ≡ bare_section (well.section_of (l ∷ ls) b))) (sym (ap (λ g. g margin) (shown_section (l ∷ ls) b)))
    (says_like
    (says_then (says_label margin l)
    (λ k e. says_then (says_labels margin ls (k ∷ []))
    (λ ks d. says_made (section_of ks) (says_braced b margin y) (λ c f. section_same ks (l ∷ ls) c b (d ∙ ap (λ z. z ∷ map bare_label ls) e) f))))
    (ap lexemes (append_assoc (label_pieces margin l) (flat_map (label_pieces margin) ls) (laid.braced (block_laid b) margin))))

-- the sections of a switch, and the catches of a try
abbrev pub SectionsAreRead : Inner → List Section → Type 0
SectionsAreRead inner cs =
    (margin : List ℕ) (before : List Section) → Spells (turns kind (kw_case ∷ kw_default ∷ []) (λ _. nat_lt 0 inner.blocks) (one_more_section inner) before) (flat_map (λ (s : Laid). s margin) (map section_laid cs))
    (λ r. map bare_section r ≡ map bare_section (before ++ cs))

pub reads_no_section : (inner : Inner) → SectionsAreRead inner []
reads_no_section inner margin before = says_no_more bare_section (kw_case ∷ kw_default ∷ []) (λ _. nat_lt 0 inner.blocks) (section inner) before

pub reads_more_sections : (inner : Inner) (ls : List SwitchLabel) (b : Block) (cs : List Section) → nat_lt 0 inner.blocks ≡ true → AreLabels ls → BlockIsRead inner.block b → SectionsAreRead inner cs
    → SectionsAreRead inner (well.section_of ls b ∷ cs)
reads_more_sections inner ls b cs may h y z margin before =
    says_one_more bare_section (kw_case ∷ kw_default ∷ []) (λ _. nat_lt 0 inner.blocks) (section inner) (well.section_of ls b) cs (section_laid (well.section_of ls b) margin)
    (flat_map (λ (s : Laid). s margin) (map section_laid cs)) (λ _. may) (says_section inner ls b margin h y) (z margin) before

pub reads_switch : (n : ℕ) (inner : Inner) (s : Spot) (a : Form) (cs : List Section) → ValueIsRead n inner a → SectionsAreRead inner cs → StatementIsRead n inner (syntax.Switch s a cs)
unfolding fixed
reads_switch n inner s a cs x y margin =
    subst (λ qs. Spells (statement n inner) qs (λ u. bare_syntax u ≡ bare_syntax (syntax.Switch s a cs))) (sym (ap (λ g. g margin) (shown_Switch s a cs)))
    (says_else (nat_lt 0 inner.blocks) block_kinds (structured n inner)
    (says_second keyword_types (keyword_declared n inner)
    (says_second (global ∷ []) (global_statement n inner)
    (says_second name_kinds (named_statement n inner)
    (says_second jump_kinds (jump n inner)
    (says_first (kw_switch ∷ []) (primary_act n inner)
    (says_line_front margin (fixed part.Switch ++ ((form_shown a).pieces margin ++ fixed part.Close)) (line margin (fixed part.OpenBrace) ++ (flat_map (λ (s : Laid). s (deeper margin)) (map section_laid cs) ++ line margin (fixed part.CloseBrace)))
    (takes (kw_switch ∷ []) spot_of (lexeme.Keyword 61) refl
    (λ t _. skips (32 ∷ [])
    (says_then (says_tested n inner a ((form_shown a).pieces margin) (x margin))
    (λ m e. says_line_front margin (fixed part.OpenBrace) (flat_map (λ (s : Laid). s (deeper margin)) (map section_laid cs) ++ line margin (fixed part.CloseBrace))
    (takes (brace ∷ []) (λ _. tt) (lexeme.Sign 0) refl
    (λ _ _. says_then (y (deeper margin) [])
    (λ ds d. says_line margin
    (takes (unbrace ∷ []) (λ _. tt) (lexeme.Sign 1) refl (λ _ _. says_nothing (syntax.Switch (spot_of t) m.form ds) (same_Switch (spot_of t) s m.form a ds cs e d)))))))))))))))))

-- catches

says_maybe_name : (x : Option Name) → Spells maybe_name (laid.maybe_name x) (λ y. option_map bare_name y ≡ option_map bare_name x)
unfolding fixed
says_maybe_name None = says_second names name_given (says_nothing no_name refl)
says_maybe_name (Some x) = says_first names (gives no_name) (skips (32 ∷ []) (says_made some_name (says_name x.text) (λ y e. ap Some (name_same y x e))))

catching_same : (at s : Spot) (u t : TypeForm) (y x : Option Name) (c b : Block) → bare_type u ≡ bare_type t → option_map bare_name y ≡ option_map bare_name x → bare_block c ≡ bare_block b
    → bare_catching (catching_of at u y c) ≡ bare_catching (well.catching_of s t x b)
catching_same at s u t y x c b e d f =
    bare_catching_is at u y c
    ∙ (ap (λ z. well.catching_of nowhere z (option_map bare_name y) (bare_block c)) e
    ∙ (ap (λ z. well.catching_of nowhere (bare_type t) z (bare_block c)) d
    ∙ (ap (λ z. well.catching_of nowhere (bare_type t) (option_map bare_name x) z) f ∙ sym (bare_catching_is s t x b))))

pub says_catching : (inner : Inner) (s : Spot) (t : TypeForm) (x : Option Name) (b : Block) (margin : List ℕ) → IsType inner.ranks t → BlockIsRead inner.block b
    → Spells (catching inner) (catching_laid (well.catching_of s t x b) margin) (λ c. bare_catching c ≡ bare_catching (well.catching_of s t x b))
unfolding fixed
says_catching inner s t x b margin known y =
    subst (λ ps. Spells (catching inner) ps (λ c. bare_catching c ≡ bare_catching (well.catching_of s t x b))) (sym (ap (λ g. g margin) (shown_catching s t x b)))
    (says_line_front margin (fixed part.Catch ++ (layout.type_pieces t ++ (laid.maybe_name x ++ fixed part.Close))) (laid.braced (block_laid b) margin)
    (takes (kw_catch ∷ []) spot_of (lexeme.Keyword 7) refl
    (λ f _. skips (32 ∷ [])
    (takes (paren ∷ []) (λ _. tt) (lexeme.Sign 2) refl
    (λ _ _. says_like
    (says_then (says_type inner.ranks t known)
    (λ u k. says_then (says_maybe_name x)
    (λ z e. takes (unparen ∷ []) (λ _. tt) (lexeme.Sign 3) refl
    (λ _ _. says_made (catching_of (spot_of f) u z) (says_braced b margin y) (λ c g. catching_same (spot_of f) s u t z x c b (same_type t u k) e g)))))
    (ap lexemes
    (append_assoc (layout.type_pieces t) (laid.maybe_name x ++ token (lexeme.Sign 3) ∷ []) (laid.braced (block_laid b) margin)
    ∙ ap (λ z. layout.type_pieces t ++ z) (append_assoc (laid.maybe_name x) (token (lexeme.Sign 3) ∷ []) (laid.braced (block_laid b) margin)))))))))

abbrev pub CatchesAreRead : Inner → List Catching → Type 0
CatchesAreRead inner cs =
    (margin : List ℕ) (before : List Catching) → Spells (turns kind (kw_catch ∷ []) (λ _. true) (one_more_catching inner) before) (flat_map (λ (c : Laid). c margin) (map catching_laid cs))
    (λ r. map bare_catching r ≡ map bare_catching (before ++ cs))

pub reads_no_catch : (inner : Inner) → CatchesAreRead inner []
reads_no_catch inner margin before = says_no_more bare_catching (kw_catch ∷ []) (λ _. true) (catching inner) before

pub reads_more_catches : (inner : Inner) (s : Spot) (t : TypeForm) (x : Option Name) (b : Block) (cs : List Catching) → IsType inner.ranks t → BlockIsRead inner.block b → CatchesAreRead inner cs
    → CatchesAreRead inner (well.catching_of s t x b ∷ cs)
reads_more_catches inner s t x b cs h y z margin before =
    says_one_more bare_catching (kw_catch ∷ []) (λ _. true) (catching inner) (well.catching_of s t x b) cs (catching_laid (well.catching_of s t x b) margin)
    (flat_map (λ (c : Laid). c margin) (map catching_laid cs)) (λ _. refl) (says_catching inner s t x b margin h y) (z margin) before

pub reads_try : (n : ℕ) (inner : Inner) (s : Spot) (b : Block) (cs : List Catching) (o : Option Block) → nat_lt 0 inner.blocks ≡ true → BlockIsRead inner.block b → CatchesAreRead inner cs
    → MaybeBlockIsRead inner kw_finally (fixed part.Finally) o → StatementIsRead n inner (syntax.Try s b cs o)
unfolding fixed
reads_try n inner s b cs o may x y z margin =
    structured_is n inner (syntax.Try s b cs o) margin _ may (ap (λ g. g margin) (shown_Try s b cs o))
    (says_second (kw_if ∷ []) (of_if n inner)
    (says_second (kw_while ∷ []) (of_while n inner)
    (says_second (kw_do ∷ []) (of_do n inner)
    (says_second (kw_for ∷ []) (of_for n inner)
    (says_second (kw_foreach ∷ []) (of_foreach n inner)
    (says_second (kw_using ∷ []) (of_using n inner)
    (says_second (kw_lock ∷ []) (of_lock n inner)
    (says_line_front margin (fixed part.Try) (laid.braced (block_laid b) margin ++ (flat_map (λ (c : Laid). c margin) (map catching_laid cs) ++ laid.maybe_block (fixed part.Finally) (option_map block_laid o) margin))
    (takes (kw_try ∷ []) spot_of (lexeme.Keyword 65) refl
    (λ t _. says_then (says_braced b margin x)
    (λ c e. says_then (y margin [])
    (λ ds d. says_made (λ l. syntax.Try (spot_of t) c ds l) (z margin) (λ l f. same_Try (spot_of t) s c b ds cs l o e d f)))))))))))))

-- blocks

block_same : (us ss : List Syntax) (at end : Spot) → map bare_syntax us ≡ map bare_syntax ss → bare_block (block_of us at) ≡ bare_block (well.block_of ss end)
block_same us ss at end e = bare_block_is us at ∙ (ap (λ z. well.block_of z nowhere) e ∙ sym (bare_block_is ss end))

abbrev pub StatementsAreRead : ℕ → Inner → List Syntax → Type 0
StatementsAreRead n inner ss =
    (margin : List ℕ) (before : List Syntax) → Spells (turns kind statement_kinds (λ _. true) (one_more_statement (statement n inner)) before) (flat_map (λ (s : Laid). s margin) (map syntax_laid ss))
    (λ r. map bare_syntax r ≡ map bare_syntax (before ++ ss))

pub reads_no_statement : (n : ℕ) (inner : Inner) → StatementsAreRead n inner []
reads_no_statement n inner margin before = says_no_more bare_syntax statement_kinds (λ _. true) (statement n inner) before

pub reads_more_statements : (n : ℕ) (inner : Inner) (s : Syntax) (ss : List Syntax) → StatementIsRead n inner s → StatementsAreRead n inner ss → StatementsAreRead n inner (s ∷ ss)
reads_more_statements n inner s ss x y margin before =
    says_one_more bare_syntax statement_kinds (λ _. true) (statement n inner) s ss (syntax_laid s margin) (flat_map (λ (s : Laid). s margin) (map syntax_laid ss)) (λ _. refl) (x margin) (y margin) before

pub reads_block : (n : ℕ) (inner : Inner) (ss : List Syntax) (end : Spot) → StatementsAreRead n inner ss → BlockIsRead (braced (statement n inner)) (well.block_of ss end)
unfolding fixed
reads_block n inner ss end x margin =
    subst (λ g. Spells (braced (statement n inner)) (fixed part.OpenBrace ++ (g margin ++ fixed part.CloseBrace)) (λ c. bare_block c ≡ bare_block (well.block_of ss end))) (sym (shown_block ss end))
    (takes (brace ∷ []) (λ _. tt) (lexeme.Sign 0) refl
    (λ _ _. says_then (x margin [])
    (λ us e. says_made (block_of us) (takes_last {P = λ _. Unit {0}} (unbrace ∷ []) spot_of (lexeme.Sign 1) refl (λ t _. tt)) (λ at _. block_same us ss at end e))))
