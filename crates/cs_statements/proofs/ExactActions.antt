-- Jumps, declarations, assignments and calls are exact.
use Rattle.std.proofs.Common.{ℕ, Bool, true, false, List, [], ◌∷◌, ◌++◌, refl, nat_lt}
use Rattle.cs_token.specs.declared.lexeme.Lexeme.TheVariants as lexeme
use Rattle.cs_tree.specs.declared.types.Spot.{Spot}
use Rattle.cs_tree.specs.declared.types.TypeForm.{TypeForm}
use Rattle.cs_productions.specs.declared.values.Measured.{Measured}
use Rattle.cs_productions.specs.declared.values.Part.TheVariants.{Whole}
use Rattle.cs_grammar.specs.Exact.{Exact}
use Rattle.cs_grammar.proofs.Basics.{exact_gives, exact_one, wider}
use Rattle.cs_grammar.proofs.Bind.{then}
use Rattle.cs_grammar.proofs.Either.{or}
use Rattle.cs_grammar.proofs.Limited.{guard}
use Rattle.cs_productions.specs.Kinds.{names, global, paren, unparen, bracket, unbracket, equals, colon, colons, semicolon, keyword_types, expression_kinds, counted_kinds, plus_equals, kw_base, kw_new, kw_default, kw_goto, kw_break, kw_continue, kw_return, kw_throw}
use Rattle.cs_productions.specs.Tokens.{kind, simple_of}
use Rattle.cs_productions.specs.Inner.{Inner}
use Rattle.cs_productions.specs.Types.{global_type}
use Rattle.cs_productions.specs.Primaries.{path_alone, global_leaf}
use Rattle.cs_productions.specs.Operators.{in_parentheses}
use Rattle.cs_productions.proofs.Follow.{whole_follow, postfix_follow, AreExact}
use Rattle.cs_productions.proofs.ExactTokens.{sample, sample_of, global_sample, exact_sign, exact_place, exact_name_text, exact_any_name}
use Rattle.cs_productions.proofs.ExactTypes.{exact_path, exact_ranks, exact_type_of_keyword}
use Rattle.cs_productions.proofs.ExactCalls.{exact_postfixes}
use Rattle.cs_productions.proofs.ExactPrimaries.{exact_of_base, exact_called_path, exact_of_global, exact_of_new, exact_of_default, exact_of_checked}
use Rattle.cs_productions.proofs.ExactLevels.{exact_forms_at}
use Rattle.cs_statements.specs.Kinds.{name_kinds, unnamed_kinds, compound_operators, jump_kinds, unnamed_primary_kinds}
use Rattle.cs_statements.specs.Jumps.{expression, labelled, value_given, no_value, value, of_goto, of_break, of_continue, of_return, of_throw, jump}
use Rattle.cs_statements.specs.Actions.{declared, keyword_declared, invoke_of, assigned, compounded, set_to, action_to, act, parenthesized, counted_primary, of_unnamed, unnamed_primary, of_named, primary, primary_act, postfix_act, named_statement, index_act, array_declared, bracket_statement, called_or_alone, path_act, path_statement, global_statement}

pub exact_expression : {inner : Inner} (n : ℕ) → AreExact inner → Exact kind (expression n inner) expression_kinds whole_follow false
exact_expression n x = exact_forms_at n Whole x

-- jumps

pub exact_labelled : (s : Spot) (label : List ℕ) → Exact kind (labelled s label) (colon ∷ []) [] false
exact_labelled s label = wider refl refl (then (exact_sign colon refl) refl (λ _. then (exact_sign semicolon refl) refl (λ _. exact_gives _)))

pub exact_value_given : {inner : Inner} (n : ℕ) → AreExact inner → Exact kind (value_given n inner) expression_kinds [] false
exact_value_given n x = wider refl refl (then (exact_expression n x) refl (λ a. then (exact_sign semicolon refl) refl (λ _. exact_gives _)))

pub exact_no_value : Exact kind no_value (semicolon ∷ []) [] false
exact_no_value = wider refl refl (then (exact_sign semicolon refl) refl (λ _. exact_gives _))

pub exact_value : {inner : Inner} (n : ℕ) → AreExact inner → Exact kind (value n inner) (semicolon ∷ expression_kinds) [] false
exact_value n x = wider refl refl (or expression_kinds refl refl (exact_value_given n x) exact_no_value)

pub exact_of_goto : Exact kind of_goto (kw_goto ∷ []) [] false
exact_of_goto =
    wider refl refl
    (then (exact_place kw_goto refl) refl (λ s. then exact_name_text refl (λ label. then (exact_sign semicolon refl) refl (λ _. exact_gives _))))

pub exact_of_break : Exact kind of_break (kw_break ∷ []) [] false
exact_of_break = wider refl refl (then (exact_place kw_break refl) refl (λ s. then (exact_sign semicolon refl) refl (λ _. exact_gives _)))

pub exact_of_continue : Exact kind of_continue (kw_continue ∷ []) [] false
exact_of_continue = wider refl refl (then (exact_place kw_continue refl) refl (λ s. then (exact_sign semicolon refl) refl (λ _. exact_gives _)))

pub exact_of_return : {inner : Inner} (n : ℕ) → AreExact inner → Exact kind (of_return n inner) (kw_return ∷ []) [] false
exact_of_return n x = wider refl refl (then (exact_place kw_return refl) refl (λ s. then (exact_value n x) refl (λ v. exact_gives _)))

pub exact_of_throw : {inner : Inner} (n : ℕ) → AreExact inner → Exact kind (of_throw n inner) (kw_throw ∷ []) [] false
exact_of_throw n x = wider refl refl (then (exact_place kw_throw refl) refl (λ s. then (exact_value n x) refl (λ v. exact_gives _)))

pub exact_jump : {inner : Inner} (n : ℕ) → AreExact inner → Exact kind (jump n inner) jump_kinds [] false
exact_jump n x =
    wider refl refl
    (or (kw_goto ∷ []) refl refl exact_of_goto
    (or (kw_break ∷ []) refl refl exact_of_break
    (or (kw_continue ∷ []) refl refl exact_of_continue (or (kw_return ∷ []) refl refl (exact_of_return n x) (exact_of_throw n x)))))

-- declarations

pub exact_declared : {inner : Inner} (n : ℕ) (t : TypeForm) → AreExact inner → Exact kind (declared n inner t) names [] false
exact_declared n t x =
    wider refl refl
    (then exact_any_name refl
    (λ name. then (exact_sign equals refl) refl (λ _. then (exact_expression n x) refl (λ a. then (exact_sign semicolon refl) refl (λ _. exact_gives _)))))

pub exact_keyword_declared : {inner : Inner} (n : ℕ) → AreExact inner → Exact kind (keyword_declared n inner) keyword_types [] false
exact_keyword_declared {inner = inner} n x = wider refl refl (then (exact_type_of_keyword inner.ranks) refl (λ t. exact_declared n t x))

-- assignments and calls

pub exact_assigned : {inner : Inner} (n : ℕ) (p : Measured) → AreExact inner → Exact kind (assigned n inner p) (equals ∷ []) whole_follow false
exact_assigned n p x = wider refl refl (then (exact_sign equals refl) refl (λ _. then (exact_expression n x) refl (λ a. exact_gives _)))

pub exact_compounded : {inner : Inner} (n : ℕ) (p : Measured) → AreExact inner → Exact kind (compounded n inner p) compound_operators whole_follow false
exact_compounded n p x =
    wider refl refl (then (exact_one compound_operators kind (sample_of plus_equals) refl) refl (λ k. then (exact_expression n x) refl (λ a. exact_gives _)))

pub exact_set_to : {inner : Inner} (n : ℕ) (p : Measured) → AreExact inner → Exact kind (set_to n inner p) (equals ∷ compound_operators) whole_follow false
exact_set_to n p x = wider refl refl (or (equals ∷ []) refl refl (exact_assigned n p x) (exact_compounded n p x))

-- what stands behind a place or a call, up to the end of the action
abbrev pub action_kinds : List ℕ
action_kinds = equals ∷ semicolon ∷ unparen ∷ compound_operators

pub exact_action : {inner : Inner} (n : ℕ) (is_call : Bool) (p : Measured) → AreExact inner → Exact kind (action_to n inner semicolon is_call p) action_kinds [] false
exact_action n true p x =
    wider refl refl
    (then (or (equals ∷ compound_operators) refl refl (exact_set_to n p x) (exact_gives (invoke_of p))) refl (λ a. then (exact_sign semicolon refl) refl (λ _. exact_gives a)))
exact_action n false p x = wider refl refl (then (exact_set_to n p x) refl (λ a. then (exact_sign semicolon refl) refl (λ _. exact_gives a)))

-- the same in the head of a `for`
pub exact_step : {inner : Inner} (n : ℕ) (is_call : Bool) (p : Measured) → AreExact inner → Exact kind (action_to n inner unparen is_call p) action_kinds [] false
exact_step n true p x =
    wider refl refl
    (then (or (equals ∷ compound_operators) refl refl (exact_set_to n p x) (exact_gives (invoke_of p))) refl (λ a. then (exact_sign unparen refl) refl (λ _. exact_gives a)))
exact_step n false p x = wider refl refl (then (exact_set_to n p x) refl (λ a. then (exact_sign unparen refl) refl (λ _. exact_gives a)))

pub exact_act : {inner : Inner} (n : ℕ) (p : Measured) → AreExact inner → Exact kind (act n inner p) action_kinds [] false
exact_act n p x = wider refl refl (then (exact_action n p.is_call p x) refl (λ a. exact_gives _))

-- primary expressions that a statement begins with

pub exact_parenthesized : {inner : Inner} (n : ℕ) → AreExact inner → Exact kind (parenthesized n inner) (paren ∷ []) postfix_follow false
exact_parenthesized n x =
    wider refl refl
    (then (exact_place paren refl) refl
    (λ s. then (x.forms Whole) refl (λ a. then (exact_sign unparen refl) refl (λ _. exact_postfixes n (in_parentheses s a) x))))

pub exact_counted_primary : {inner : Inner} (n : ℕ) → AreExact inner → Exact kind (counted_primary n inner) counted_kinds postfix_follow false
exact_counted_primary n x =
    wider refl refl
    (or (paren ∷ []) refl refl (exact_parenthesized n x)
    (or (kw_new ∷ []) refl refl (exact_of_new n x) (or (kw_default ∷ []) refl refl (exact_of_default n x) (exact_of_checked n x))))

pub exact_of_unnamed : {inner : Inner} (n : ℕ) → AreExact inner → Exact kind (of_unnamed n inner) unnamed_kinds postfix_follow false
exact_of_unnamed n x =
    wider refl refl (then (exact_one unnamed_kinds simple_of (sample (lexeme.Char 0)) refl) refl (λ a. exact_postfixes n a x))

pub exact_unnamed_primary : {inner : Inner} (n : ℕ) → AreExact inner → Exact kind (unnamed_primary n inner) unnamed_primary_kinds postfix_follow false
exact_unnamed_primary n x =
    wider refl refl
    (guard counted_kinds (nat_lt 0 n) refl refl (exact_counted_primary n x) (or (kw_base ∷ []) refl refl (exact_of_base n x) (exact_of_unnamed n x)))

pub exact_of_named : {inner : Inner} (n : ℕ) → AreExact inner → Exact kind (of_named n inner) name_kinds postfix_follow false
exact_of_named n x =
    wider refl refl (then (exact_one name_kinds simple_of (sample (lexeme.Name [])) refl) refl (λ a. exact_postfixes n a x))

pub exact_primary : {inner : Inner} (n : ℕ) → AreExact inner → Exact kind (primary n inner) (global ∷ name_kinds ++ unnamed_primary_kinds) (colons ∷ postfix_follow) false
exact_primary n x =
    wider refl refl
    (or (global ∷ []) refl refl (exact_of_global n x) (or name_kinds refl refl (exact_of_named n x) (exact_unnamed_primary n x)))

pub exact_primary_act : {inner : Inner} (n : ℕ) → AreExact inner → Exact kind (primary_act n inner) unnamed_primary_kinds [] false
exact_primary_act n x = wider refl refl (then (exact_unnamed_primary n x) refl (λ p. exact_act n p x))

pub exact_postfix_act : {inner : Inner} (n : ℕ) (a : Measured) → AreExact inner → Exact kind (postfix_act n inner a) (postfix_follow ++ action_kinds) [] false
exact_postfix_act n a x = wider refl refl (then (exact_postfixes n a x) refl (λ p. exact_act n p x))

pub exact_named_statement : {inner : Inner} (n : ℕ) → AreExact inner → Exact kind (named_statement n inner) name_kinds [] false
exact_named_statement n x =
    wider refl refl
    (then (exact_one name_kinds (λ t. t) (sample (lexeme.Name [])) refl) refl
    (λ t. or (colon ∷ []) refl refl (exact_labelled _ _) (exact_postfix_act n (simple_of t) x)))

pub exact_index_act : {inner : Inner} (n : ℕ) (a : Measured) → AreExact inner → Exact kind (index_act n inner a) expression_kinds [] false
exact_index_act n a x =
    wider refl refl (then (x.forms Whole) refl (λ i. then (exact_sign unbracket refl) refl (λ _. exact_postfix_act n _ x)))

pub exact_array_declared : {inner : Inner} (n : ℕ) (t : TypeForm) → AreExact inner → Exact kind (array_declared n inner t) (unbracket ∷ []) [] false
exact_array_declared {inner = inner} n t x =
    wider refl refl (then (exact_sign unbracket refl) refl (λ _. then (exact_ranks inner.ranks _) refl (λ u. exact_declared n u x)))

pub exact_bracket_statement : {inner : Inner} (n : ℕ) (s : Spot) (path_names : List (List ℕ)) → AreExact inner → Exact kind (bracket_statement n inner s path_names) (bracket ∷ []) [] false
exact_bracket_statement n s path_names x =
    wider refl refl
    (then (exact_sign bracket refl) refl
    (λ _. guard expression_kinds (nat_lt 0 n) refl refl (exact_index_act n (path_alone s path_names) x) (exact_array_declared n (global_type s path_names) x)))

pub exact_called_or_alone : {inner : Inner} (n : ℕ) (s : Spot) (path_names : List (List ℕ)) → AreExact inner → Exact kind (called_or_alone n inner s path_names) (paren ∷ []) postfix_follow true
exact_called_or_alone n s path_names x = wider refl refl (guard (paren ∷ []) (nat_lt 0 n) refl refl (exact_called_path n s path_names x) (exact_gives _))

pub exact_path_act : {inner : Inner} (n : ℕ) (s : Spot) (path_names : List (List ℕ)) → AreExact inner → Exact kind (path_act n inner s path_names) (paren ∷ action_kinds) [] false
exact_path_act n s path_names x = wider refl refl (then (exact_called_or_alone n s path_names x) refl (λ p. exact_act n p x))

pub exact_path_statement : {inner : Inner} (n : ℕ) (s : Spot) → AreExact inner → Exact kind (path_statement n inner s) (colons ∷ []) [] false
exact_path_statement n s x =
    wider refl refl
    (then (exact_sign colons refl) refl
    (λ _. then exact_path refl
    (λ path_names. or names refl refl (exact_declared n (global_type s path_names) x)
    (or (bracket ∷ []) refl refl (exact_bracket_statement n s path_names x) (exact_path_act n s path_names x)))))

pub exact_global_statement : {inner : Inner} (n : ℕ) → AreExact inner → Exact kind (global_statement n inner) (global ∷ []) [] false
exact_global_statement n x =
    wider refl refl
    (then (exact_one (global ∷ []) (λ t. t) global_sample refl) refl
    (λ t. or (colon ∷ []) refl refl (exact_labelled _ _) (or (colons ∷ []) refl refl (exact_path_statement n _ x) (exact_postfix_act n (global_leaf t) x))))
