-- Declarations, labels and jumps are read.
use Rattle.std.proofs.Common.{◌≡◌, ◌⊎◌, inl, inr, ℕ, zero, suc, ◌≤◌, Bool, true, false, cond, List, [], ◌∷◌, ◌++◌, Option, Some, None, refl, sym, ◌∙◌, ap, subst, nat_lt, codes, arith}
use Rattle.std.specs.Option.{option_map}
use Rattle.std.specs.Str.{bytes_eq}
use Rattle.std.proofs.lemmas.List.{append_assoc}
use Rattle.cs_token.specs.Tokens.{kind_of_name}
use Rattle.cs_token.specs.declared.lexeme.Lexeme.TheVariants as lexeme
use Rattle.cs_tree.specs.declared.types.Spot.{Spot}
use Rattle.cs_tree.specs.declared.types.Name.{Name}
use Rattle.cs_tree.specs.declared.types.TypeName.{TypeName}
use Rattle.cs_tree.specs.declared.types.TypeName.TheVariants as type_name
use Rattle.cs_tree.specs.declared.types.TypeForm.{TypeForm}
use Rattle.cs_tree.specs.declared.forms.Form.{Form}
use Rattle.cs_tree.specs.declared.forms.Action.{Action}
use Rattle.cs_tree.specs.declared.forms.Syntax.{Syntax}
use Rattle.cs_tree.specs.declared.forms.Syntax.TheVariants as syntax
use Rattle.cs_tree.specs.Bare.{nowhere, bare_name, bare_type, bare_form, bare_syntax}
use Rattle.cs_grammar.specs.Kinds.{has}
use Rattle.cs_grammar.specs.Grammar.{either}
use Rattle.cs_productions.specs.Kinds.{names, global, bracket, unbracket, equals, colon, colons, semicolon, expression_kinds, keyword_types, kw_goto, kw_break, kw_continue, kw_return, kw_throw, kw_switch}
use Rattle.cs_productions.specs.Tokens.{kind, spot_of, text_of, text_of_lexeme, simple_of}
use Rattle.cs_productions.specs.Types.{global_type, array_of}
use Rattle.cs_productions.specs.Inner.{Inner}
use Rattle.cs_productions.specs.Primaries.{path_alone, global_leaf}
use Rattle.cs_statements.specs.Kinds.{name_kinds, jump_kinds, block_kinds}
use Rattle.cs_statements.specs.Jumps.{expression, labelled, some_form, no_form, value_given, no_value, value, of_goto, of_break, of_continue, of_return, of_throw, jump}
use Rattle.cs_statements.specs.Actions.{declare_of, declared, keyword_declared, index_act, bracket_statement, path_act, path_statement, postfix_act, named_statement, global_statement, primary_act}
use Rattle.cs_statements.specs.Structured.{structured, of_switch}
use Rattle.cs_statements.specs.Blocks.{simple_statement, statement}
use Rattle.cs_layout.specs.Pieces.{Piece, token}
use Rattle.cs_layout.specs.declared.fixed.Fixed.TheVariants as part
use Rattle.cs_layout.specs.Words as layout
use Rattle.cs_layout.specs.Words.{fixed, name}
use Rattle.cs_layout.specs.Layout.{form_shown, syntax_laid}
use Rattle.cs_wellformed.specs.Words.{IsTypeName, IsType}
use Rattle.cs_wellformed.proofs.Shown.{shown_Declare, shown_Act, shown_Label, shown_Goto, shown_Break, shown_Continue, shown_Return, shown_Throw}
use Rattle.cs_wellformed.proofs.Same.{same_Declare, same_Label, same_Goto, same_Break, same_Continue, same_Return, same_Throw}
use Rattle.cs_roundtrip_types.specs.Spells.{lexemes, Spells}
use Rattle.cs_roundtrip_types.proofs.Spelling.{says_nothing, skips, takes, says_then, says_made, says_so, says_like, says_in, says_first, says_second, says_else}
use Rattle.cs_roundtrip_types.proofs.Types.{IsNamed, HasText, same_type, says_name_text, says_name, says_path, says_keyword_type, says_ranks}
use Rattle.cs_roundtrip_statements.specs.Reading.{SameForm, ValueIsRead, ActionIsRead, StatementIsRead}
use Rattle.cs_roundtrip_statements.proofs.Lines.{says_line}
use Rattle.cs_roundtrip_statements.proofs.Actions.{statement_acts}

-- a statement without a block, on its line
simple_line : (n : ℕ) (inner : Inner) (s : Syntax) (margin : List ℕ) (ps : List Piece) → syntax_laid s margin ≡ ps → Spells (simple_statement n inner) ps (λ u. bare_syntax u ≡ bare_syntax s)
    → Spells (statement n inner) (syntax_laid s margin) (λ u. bare_syntax u ≡ bare_syntax s)
simple_line n inner s margin ps e x =
    subst (λ qs. Spells (statement n inner) qs (λ u. bare_syntax u ≡ bare_syntax s)) (sym e) (says_else (nat_lt 0 inner.blocks) block_kinds (structured n inner) x)

-- declarations

name_same : (x y : Name) → HasText y.text x → bare_name x ≡ bare_name y
name_same x y e = ap (λ z. record { spot = nowhere; text = z }) e

says_declared : (n : ℕ) (inner : Inner) (s : Spot) (t u : TypeForm) (x : Name) (a : Form) (ps : List Piece) → bare_type u ≡ bare_type t → Spells (expression n inner) ps (SameForm a)
    → Spells (declared n inner u) ((fixed part.Blank ++ name x.text) ++ (fixed part.Equals ++ (ps ++ fixed part.Semicolon))) (λ d. bare_syntax d ≡ bare_syntax (syntax.Declare s t x a))
unfolding fixed
says_declared n inner s t u x a ps e v =
    skips (32 ∷ [])
    (says_then (says_name x.text)
    (λ y f. skips (32 ∷ [])
    (takes (equals ∷ []) (λ _. tt) (lexeme.Sign 11) refl
    (λ _ _. skips (32 ∷ [])
    (says_then v
    (λ b g. takes (semicolon ∷ []) (λ _. tt) (lexeme.Sign 7) refl
    (λ _ _. says_nothing (declare_of u y b) (same_Declare u.spot s u t y x b.form a e (name_same y x f) g))))))))

declared_ranks : (n : ℕ) (inner : Inner) (s : Spot) (texts : List (List ℕ)) (r : ℕ) (ps : List Piece) (Q : Syntax → Type 0) → r ≤ inner.ranks
    → ((u : TypeForm) → IsNamed (type_name.Global texts) r u → Spells (declared n inner u) ps Q)
    → Spells (either kind names (declared n inner (global_type s texts)) (either kind (bracket ∷ []) (bracket_statement n inner s texts) (path_act n inner s texts))) (layout.ranks r ++ ps) Q
unfolding fixed
declared_ranks n inner s texts zero ps Q l x =
    says_first names (either kind (bracket ∷ []) (bracket_statement n inner s texts) (path_act n inner s texts)) (x (global_type s texts) (refl, refl))
declared_ranks n inner s texts (suc r) ps Q l x =
    says_second names (declared n inner (global_type s texts))
    (says_first (bracket ∷ []) (path_act n inner s texts)
    (takes (bracket ∷ []) (λ _. tt) (lexeme.Sign 4) refl
    (λ _ _. says_else (nat_lt 0 n) expression_kinds (index_act n inner (path_alone s texts))
    (takes (unbracket ∷ []) (λ _. tt) (lexeme.Sign 5) refl
    (λ _ _. says_then (says_ranks inner.ranks (type_name.Global texts) 1 r (array_of (global_type s texts)) (refl, refl) (omega (arith, l)))
    (λ u h. x u (h.0, h.1 ∙ omega arith)))))))

declared_type : (n : ℕ) (inner : Inner) (x : TypeName) (r : ℕ) (ps : List Piece) (Q : Syntax → Type 0) → IsTypeName x → r ≤ inner.ranks
    → ((u : TypeForm) → IsNamed x r u → Spells (declared n inner u) ps Q) → Spells (simple_statement n inner) (layout.type_without_ranks x ++ (layout.ranks r ++ ps)) Q
unfolding fixed
declared_type n inner (type_name.Keyword k) r ps Q h l y =
    says_first keyword_types
    (either kind (global ∷ []) (global_statement n inner)
    (either kind name_kinds (named_statement n inner) (either kind jump_kinds (jump n inner) (either kind (kw_switch ∷ []) (of_switch n inner) (primary_act n inner)))))
    (says_like
    (says_then (says_then (says_keyword_type k) (λ t p. says_so (says_ranks inner.ranks (type_name.Keyword k) 0 r t p (omega (arith, l))) (λ u q. (q.0, q.1 ∙ omega arith)))) (λ u p. y u p))
    (ap lexemes (sym (append_assoc (layout.keyword_type k) (layout.ranks r) ps))))
declared_type n inner (type_name.Global texts) r ps Q h l y =
    says_second keyword_types (keyword_declared n inner)
    (says_first (global ∷ []) (either kind name_kinds (named_statement n inner) (either kind jump_kinds (jump n inner) (either kind (kw_switch ∷ []) (of_switch n inner) (primary_act n inner))))
    (takes (global ∷ []) (λ t. t) (lexeme.Name (codes "global")) refl
    (λ t _. says_second (colon ∷ []) (labelled (spot_of t) (text_of t))
    (says_first (colons ∷ []) (postfix_act n inner (global_leaf t))
    (takes (colons ∷ []) (λ _. tt) (lexeme.Sign 33) refl
    (λ _ _. says_then (says_path texts h)
    (λ path_names e. subst
    (λ z. Spells (either kind names (declared n inner (global_type (spot_of t) z)) (either kind (bracket ∷ []) (bracket_statement n inner (spot_of t) z) (path_act n inner (spot_of t) z))) (layout.ranks r ++ ps) Q)
    (sym e) (declared_ranks n inner (spot_of t) texts r ps Q l y))))))))

pub reads_declare : (n : ℕ) (inner : Inner) (s : Spot) (t : TypeForm) (x : Name) (a : Form) → IsType inner.ranks t → ValueIsRead n inner a → StatementIsRead n inner (syntax.Declare s t x a)
reads_declare n inner s t x a h v margin =
    simple_line n inner (syntax.Declare s t x a) margin _ (ap (λ z. z margin) (shown_Declare s t x a))
    (says_line margin
    (says_like
    (declared_type n inner t.name t.ranks _ (λ d. bare_syntax d ≡ bare_syntax (syntax.Declare s t x a)) h.0 h.1
    (λ u k. says_declared n inner s t u x a ((form_shown a).pieces margin) (same_type t u k) (v margin)))
    (ap lexemes
    (append_assoc (layout.type_pieces t) (fixed part.Blank ++ name x.text) (fixed part.Equals ++ ((form_shown a).pieces margin ++ fixed part.Semicolon))
    ∙ append_assoc (layout.type_without_ranks t.name) (layout.ranks t.ranks) ((fixed part.Blank ++ name x.text) ++ (fixed part.Equals ++ ((form_shown a).pieces margin ++ fixed part.Semicolon)))))))

-- assignments and calls

pub reads_act : (n : ℕ) (inner : Inner) (s : Spot) (a : Action) → ((margin : List ℕ) → ActionIsRead n inner a margin) → StatementIsRead n inner (syntax.Act s a)
reads_act n inner s a x margin =
    simple_line n inner (syntax.Act s a) margin _ (ap (λ z. z margin) (shown_Act s a))
    (says_line margin (says_in (λ ts u rest p d. statement_acts n inner ts u rest d) ((x margin).acts s)))

-- labels

name_or_global : (text : List ℕ) → (has name_kinds (kind_of_name text) ≡ true) ⊎ (has (global ∷ []) (kind_of_name text) ≡ true)
name_or_global text = go (bytes_eq text (codes "global")) (bytes_eq text (codes "get")) (bytes_eq text (codes "set")) (bytes_eq text (codes "indexer"))
  where
    go : (a b c d : Bool) → (has name_kinds (cond a 4 (cond b 5 (cond c 6 (cond d 7 0)))) ≡ true) ⊎ (has (global ∷ []) (cond a 4 (cond b 5 (cond c 6 (cond d 7 0)))) ≡ true)
    go true b c d = inr refl
    go false true c d = inl refl
    go false false true d = inl refl
    go false false false true = inl refl
    go false false false false = inl refl

says_label_end : (s at : Spot) (text found : List ℕ) → found ≡ text → Spells (labelled at found) (fixed part.LabelEnd) (λ u. bare_syntax u ≡ bare_syntax (syntax.Label s text))
unfolding fixed
says_label_end s at text found e =
    takes (colon ∷ []) (λ _. tt) (lexeme.Sign 8) refl
    (λ _ _. skips (32 ∷ [])
    (takes (semicolon ∷ []) (λ _. tt) (lexeme.Sign 7) refl
    (λ _ _. says_nothing (syntax.Label at found) (ap (λ z. bare_syntax (syntax.Label at z)) e ∙ same_Label at s text))))

says_label : (n : ℕ) (inner : Inner) (s : Spot) (text : List ℕ) → Spells (simple_statement n inner) (name text ++ fixed part.LabelEnd) (λ u. bare_syntax u ≡ bare_syntax (syntax.Label s text))
unfolding name
says_label n inner s text =
    says_second keyword_types (keyword_declared n inner) (elim (name_or_global text) [
      | inl is ↦ says_second (global ∷ []) (global_statement n inner)
          (says_first name_kinds (either kind jump_kinds (jump n inner) (either kind (kw_switch ∷ []) (of_switch n inner) (primary_act n inner)))
          (takes name_kinds (λ t. t) (lexeme.Name text) is
          (λ t e. says_first (colon ∷ []) (postfix_act n inner (simple_of t)) (says_label_end s (spot_of t) text (text_of t) (ap text_of_lexeme e)))))
      | inr is ↦ says_first (global ∷ []) (either kind name_kinds (named_statement n inner) (either kind jump_kinds (jump n inner) (either kind (kw_switch ∷ []) (of_switch n inner) (primary_act n inner))))
          (takes (global ∷ []) (λ t. t) (lexeme.Name text) is
          (λ t e. says_first (colon ∷ []) (either kind (colons ∷ []) (path_statement n inner (spot_of t)) (postfix_act n inner (global_leaf t)))
          (says_label_end s (spot_of t) text (text_of t) (ap text_of_lexeme e))))
    ])

pub reads_label : (n : ℕ) (inner : Inner) (s : Spot) (text : List ℕ) → StatementIsRead n inner (syntax.Label s text)
reads_label n inner s text margin =
    simple_line n inner (syntax.Label s text) margin _ (ap (λ z. z margin) (shown_Label s text)) (says_line margin (says_label n inner s text))

-- jumps

jumps : (n : ℕ) (inner : Inner) {ps : List Piece} {P : Syntax → Type 0} → Spells (jump n inner) ps P → Spells (simple_statement n inner) ps P
jumps n inner x =
    says_second keyword_types (keyword_declared n inner)
    (says_second (global ∷ []) (global_statement n inner)
    (says_second name_kinds (named_statement n inner) (says_first jump_kinds (either kind (kw_switch ∷ []) (of_switch n inner) (primary_act n inner)) x)))

pub reads_goto : (n : ℕ) (inner : Inner) (s : Spot) (text : List ℕ) → StatementIsRead n inner (syntax.Goto s text)
unfolding fixed
reads_goto n inner s text margin =
    simple_line n inner (syntax.Goto s text) margin _ (ap (λ z. z margin) (shown_Goto s text))
    (says_line margin
    (jumps n inner
    (says_first (kw_goto ∷ []) (either kind (kw_break ∷ []) of_break (either kind (kw_continue ∷ []) of_continue (either kind (kw_return ∷ []) (of_return n inner) (of_throw n inner))))
    (takes (kw_goto ∷ []) spot_of (lexeme.Keyword 29) refl
    (λ t _. skips (32 ∷ [])
    (says_then (says_name_text text)
    (λ found e. takes (semicolon ∷ []) (λ _. tt) (lexeme.Sign 7) refl
    (λ _ _. says_nothing (syntax.Goto (spot_of t) found) (ap (λ z. bare_syntax (syntax.Goto (spot_of t) z)) e ∙ same_Goto (spot_of t) s text)))))))))

pub reads_break : (n : ℕ) (inner : Inner) (s : Spot) → StatementIsRead n inner (syntax.Break s)
unfolding fixed
reads_break n inner s margin =
    simple_line n inner (syntax.Break s) margin _ (ap (λ z. z margin) (shown_Break s))
    (says_line margin
    (jumps n inner
    (says_second (kw_goto ∷ []) of_goto
    (says_first (kw_break ∷ []) (either kind (kw_continue ∷ []) of_continue (either kind (kw_return ∷ []) (of_return n inner) (of_throw n inner)))
    (takes (kw_break ∷ []) spot_of (lexeme.Keyword 4) refl
    (λ t _. takes (semicolon ∷ []) (λ _. tt) (lexeme.Sign 7) refl (λ _ _. says_nothing (syntax.Break (spot_of t)) (same_Break (spot_of t) s))))))))

pub reads_continue : (n : ℕ) (inner : Inner) (s : Spot) → StatementIsRead n inner (syntax.Continue s)
unfolding fixed
reads_continue n inner s margin =
    simple_line n inner (syntax.Continue s) margin _ (ap (λ z. z margin) (shown_Continue s))
    (says_line margin
    (jumps n inner
    (says_second (kw_goto ∷ []) of_goto
    (says_second (kw_break ∷ []) of_break
    (says_first (kw_continue ∷ []) (either kind (kw_return ∷ []) (of_return n inner) (of_throw n inner))
    (takes (kw_continue ∷ []) spot_of (lexeme.Keyword 12) refl
    (λ t _. takes (semicolon ∷ []) (λ _. tt) (lexeme.Sign 7) refl (λ _ _. says_nothing (syntax.Continue (spot_of t)) (same_Continue (spot_of t) s)))))))))

-- what is returned or thrown
abbrev SameMaybe : Option Form → Option Form → Type 0
SameMaybe v o = option_map bare_form o ≡ option_map bare_form v

says_no_value : (n : ℕ) (inner : Inner) → Spells (value n inner) (token (lexeme.Sign 7) ∷ []) (SameMaybe None)
says_no_value n inner =
    says_second expression_kinds (value_given n inner) (takes (semicolon ∷ []) (λ _. tt) (lexeme.Sign 7) refl (λ _ _. says_nothing no_form refl))

says_value : (n : ℕ) (inner : Inner) (a : Form) (ps : List Piece) → Spells (expression n inner) ps (SameForm a) → Spells (value n inner) (ps ++ token (lexeme.Sign 7) ∷ []) (SameMaybe (Some a))
says_value n inner a ps x =
    says_first expression_kinds no_value
    (says_then x (λ m e. takes (semicolon ∷ []) (λ _. tt) (lexeme.Sign 7) refl (λ _ _. says_nothing (some_form m) (ap Some e))))

pub reads_return_nothing : (n : ℕ) (inner : Inner) (s : Spot) → StatementIsRead n inner (syntax.Return s None)
unfolding fixed
reads_return_nothing n inner s margin =
    simple_line n inner (syntax.Return s None) margin _ (ap (λ z. z margin) (shown_Return s None))
    (says_line margin
    (jumps n inner
    (says_second (kw_goto ∷ []) of_goto
    (says_second (kw_break ∷ []) of_break
    (says_second (kw_continue ∷ []) of_continue
    (says_first (kw_return ∷ []) (of_throw n inner)
    (takes (kw_return ∷ []) spot_of (lexeme.Keyword 52) refl
    (λ t _. says_made (λ v. syntax.Return (spot_of t) v) (says_no_value n inner) (λ v e. same_Return (spot_of t) s v None e)))))))))

pub reads_return : (n : ℕ) (inner : Inner) (s : Spot) (a : Form) → ValueIsRead n inner a → StatementIsRead n inner (syntax.Return s (Some a))
unfolding fixed
reads_return n inner s a x margin =
    simple_line n inner (syntax.Return s (Some a)) margin _ (ap (λ z. z margin) (shown_Return s (Some a)))
    (says_line margin
    (jumps n inner
    (says_second (kw_goto ∷ []) of_goto
    (says_second (kw_break ∷ []) of_break
    (says_second (kw_continue ∷ []) of_continue
    (says_first (kw_return ∷ []) (of_throw n inner)
    (takes (kw_return ∷ []) spot_of (lexeme.Keyword 52) refl
    (λ t _. skips (32 ∷ [])
    (says_made (λ v. syntax.Return (spot_of t) v) (says_value n inner a ((form_shown a).pieces margin) (x margin)) (λ v e. same_Return (spot_of t) s v (Some a) e))))))))))

pub reads_rethrow : (n : ℕ) (inner : Inner) (s : Spot) → StatementIsRead n inner (syntax.Throw s None)
unfolding fixed
reads_rethrow n inner s margin =
    simple_line n inner (syntax.Throw s None) margin _ (ap (λ z. z margin) (shown_Throw s None))
    (says_line margin
    (jumps n inner
    (says_second (kw_goto ∷ []) of_goto
    (says_second (kw_break ∷ []) of_break
    (says_second (kw_continue ∷ []) of_continue
    (says_second (kw_return ∷ []) (of_return n inner)
    (takes (kw_throw ∷ []) spot_of (lexeme.Keyword 63) refl
    (λ t _. says_made (λ v. syntax.Throw (spot_of t) v) (says_no_value n inner) (λ v e. same_Throw (spot_of t) s v None e)))))))))

pub reads_throw : (n : ℕ) (inner : Inner) (s : Spot) (a : Form) → ValueIsRead n inner a → StatementIsRead n inner (syntax.Throw s (Some a))
unfolding fixed
reads_throw n inner s a x margin =
    simple_line n inner (syntax.Throw s (Some a)) margin _ (ap (λ z. z margin) (shown_Throw s (Some a)))
    (says_line margin
    (jumps n inner
    (says_second (kw_goto ∷ []) of_goto
    (says_second (kw_break ∷ []) of_break
    (says_second (kw_continue ∷ []) of_continue
    (says_second (kw_return ∷ []) (of_return n inner)
    (takes (kw_throw ∷ []) spot_of (lexeme.Keyword 63) refl
    (λ t _. skips (32 ∷ [])
    (says_made (λ v. syntax.Throw (spot_of t) v) (says_value n inner a ((form_shown a).pieces margin) (x margin)) (λ v e. same_Throw (spot_of t) s v (Some a) e))))))))))
