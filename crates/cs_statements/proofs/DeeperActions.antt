-- Jumps, declarations, assignments and calls, with more levels.
use Rattle.std.proofs.Common.{◌≡◌, ℕ, ◌+◌, ◌<◌, ◌≤◌, Bool, true, false, List, [], ◌∷◌, ◌++◌, refl, nat_lt, arith}
use Rattle.std.proofs.lemmas.Bool.{ltb-true}
use Rattle.cs_token.specs.declared.lexeme.Lexeme.TheVariants as lexeme
use Rattle.cs_tree.specs.declared.types.Spot.{Spot}
use Rattle.cs_tree.specs.declared.types.TypeForm.{TypeForm}
use Rattle.cs_tree.specs.declared.forms.Syntax.TheVariants as syntax
use Rattle.cs_productions.specs.declared.values.Measured.{Measured}
use Rattle.cs_productions.specs.declared.values.Part.TheVariants.{Whole}
use Rattle.cs_grammar.specs.Grammar.{◌>>=◌}
use Rattle.cs_grammar.specs.Levels.{Enters}
use Rattle.cs_grammar.proofs.Basics.{exact_gives}
use Rattle.cs_grammar.proofs.Bind.{then}
use Rattle.cs_grammar.proofs.Either.{or}
use Rattle.cs_grammar.proofs.Deeper.{enters_one, enters_then}
use Rattle.cs_productions.specs.Kinds.{names, global, paren, unparen, bracket, unbracket, equals, colon, colons, semicolon, keyword_types, expression_kinds, counted_kinds, plus_equals, kw_base, kw_new, kw_default, kw_checked, kw_unchecked, kw_goto, kw_break, kw_continue, kw_return, kw_throw}
use Rattle.cs_productions.specs.Tokens.{kind, sign, spot_of, text_of, simple_of}
use Rattle.cs_productions.specs.Inner.{Inner}
use Rattle.cs_productions.specs.Types.{global_type, array_of, keyword_type_at}
use Rattle.cs_productions.specs.Calls.{postfixes, index_of}
use Rattle.cs_productions.specs.Primaries.{path_alone, global_leaf}
use Rattle.cs_productions.specs.Operators.{in_parentheses}
use Rattle.cs_productions.proofs.Follow.{whole_follow, postfix_follow, AreExact}
use Rattle.cs_productions.proofs.ExactTokens.{sample, sample_of, global_sample, exact_sign, exact_name_text}
use Rattle.cs_productions.proofs.ExactTypes.{exact_ranks, exact_type_of_keyword}
use Rattle.cs_productions.proofs.ExactCalls.{exact_postfixes}
use Rattle.cs_productions.proofs.ExactPrimaries.{exact_called_path}
use Rattle.cs_productions.proofs.Heights.{AtMost, yields_one}
use Rattle.cs_productions.proofs.Deepening.{enters_or, enters_where}
use Rattle.cs_productions.proofs.DeeperTypes.{deeper_name_text, deeper_ranks, deeper_type_of_keyword}
use Rattle.cs_productions.proofs.Growing.{Grows, grows, to, grows_gives, grows_one, grows_sign, grows_place, grows_any_name, grows_then, grows_with, grows_or, grows_where}
use Rattle.cs_productions.proofs.DeeperCalls.{Widens, grows_forms, wider_room, deeper_postfixes, grows_postfixes}
use Rattle.cs_productions.proofs.DeeperPrimaries.{grows_path, grows_of_base, grows_called_path, enters_called_path, grows_of_global, grows_of_new, grows_of_default, grows_of_checked, enters_of_base, enters_of_new, enters_of_default, enters_of_checked}
use Rattle.cs_productions.proofs.DeeperLevels.{deeper_forms_at}
use Rattle.cs_statements.specs.Kinds.{name_kinds, unnamed_kinds, compound_operators, jump_kinds, unnamed_primary_kinds}
use Rattle.cs_statements.specs.Jumps.{expression, labelled, some_form, no_form, value, of_goto, of_break, of_continue, of_return, of_throw, jump}
use Rattle.cs_statements.specs.Actions.{declare_of, declared, keyword_declared, assign_of, compound_assign_of, invoke_of, set_to, action_to, act, parenthesized, counted_primary, of_unnamed, unnamed_primary, of_named, primary, primary_act, postfix_act, named_statement, index_act, array_declared, bracket_statement, called_or_alone, path_statement, global_statement}
use Rattle.cs_statements.proofs.ExactActions.{exact_expression, exact_labelled, exact_value, exact_declared, action_kinds, exact_act, exact_counted_primary, exact_postfix_act, exact_index_act, exact_path_statement}

pub grows_expression : {n m : ℕ} {inner wide : Inner} → Widens n m inner wide → Grows (expression n inner) (expression m wide) expression_kinds whole_follow false
grows_expression {m = m} z = grows (deeper_forms_at Whole z) (exact_expression m z.exact)

-- jumps

pub grows_labelled : (s : Spot) (label : List ℕ) → Grows (labelled s label) (labelled s label) (colon ∷ []) [] false
grows_labelled s label =
    to refl refl (grows_then (grows_sign colon refl) refl (λ _. grows_then (grows_sign semicolon refl) refl (λ _. grows_gives (syntax.Label s label))))

grows_value : {n m : ℕ} {inner wide : Inner} → Widens n m inner wide → Grows (value n inner) (value m wide) (semicolon ∷ expression_kinds) [] false
grows_value z =
    to refl refl
    (grows_or expression_kinds refl refl (grows_then (grows_expression z) refl (λ a. grows_then (grows_sign semicolon refl) refl (λ _. grows_gives (some_form a))))
    (grows_then (grows_sign semicolon refl) refl (λ _. grows_gives no_form)))

grows_of_goto : Grows of_goto of_goto (kw_goto ∷ []) [] false
grows_of_goto =
    to refl refl
    (grows_then (grows_place kw_goto refl) refl
    (λ s. grows_then (grows deeper_name_text exact_name_text) refl (λ label. grows_then (grows_sign semicolon refl) refl (λ _. grows_gives (syntax.Goto s label)))))

grows_of_break : Grows of_break of_break (kw_break ∷ []) [] false
grows_of_break = to refl refl (grows_then (grows_place kw_break refl) refl (λ s. grows_then (grows_sign semicolon refl) refl (λ _. grows_gives (syntax.Break s))))

grows_of_continue : Grows of_continue of_continue (kw_continue ∷ []) [] false
grows_of_continue =
    to refl refl (grows_then (grows_place kw_continue refl) refl (λ s. grows_then (grows_sign semicolon refl) refl (λ _. grows_gives (syntax.Continue s))))

grows_of_return : {n m : ℕ} {inner wide : Inner} → Widens n m inner wide → Grows (of_return n inner) (of_return m wide) (kw_return ∷ []) [] false
grows_of_return z = to refl refl (grows_then (grows_place kw_return refl) refl (λ s. grows_then (grows_value z) refl (λ v. grows_gives (syntax.Return s v))))

grows_of_throw : {n m : ℕ} {inner wide : Inner} → Widens n m inner wide → Grows (of_throw n inner) (of_throw m wide) (kw_throw ∷ []) [] false
grows_of_throw z = to refl refl (grows_then (grows_place kw_throw refl) refl (λ s. grows_then (grows_value z) refl (λ v. grows_gives (syntax.Throw s v))))

pub grows_jump : {n m : ℕ} {inner wide : Inner} → Widens n m inner wide → Grows (jump n inner) (jump m wide) jump_kinds [] false
grows_jump z =
    to refl refl
    (grows_or (kw_goto ∷ []) refl refl grows_of_goto
    (grows_or (kw_break ∷ []) refl refl grows_of_break
    (grows_or (kw_continue ∷ []) refl refl grows_of_continue (grows_or (kw_return ∷ []) refl refl (grows_of_return z) (grows_of_throw z)))))

pub enters_jump : {inner : Inner} (n : ℕ) → AreExact inner → Enters kind jump_kinds (jump n inner)
enters_jump n x =
    enters_or (kw_goto ∷ []) (kw_break ∷ kw_continue ∷ kw_return ∷ kw_throw ∷ [])
    (enters_then (enters_one (kw_goto ∷ []) spot_of) (λ s. then exact_name_text refl (λ label. then (exact_sign semicolon refl) refl (λ _. exact_gives (syntax.Goto s label)))))
    (enters_or (kw_break ∷ []) (kw_continue ∷ kw_return ∷ kw_throw ∷ [])
    (enters_then (enters_one (kw_break ∷ []) spot_of) (λ s. then (exact_sign semicolon refl) refl (λ _. exact_gives (syntax.Break s))))
    (enters_or (kw_continue ∷ []) (kw_return ∷ kw_throw ∷ [])
    (enters_then (enters_one (kw_continue ∷ []) spot_of) (λ s. then (exact_sign semicolon refl) refl (λ _. exact_gives (syntax.Continue s))))
    (enters_or (kw_return ∷ []) (kw_throw ∷ [])
    (enters_then (enters_one (kw_return ∷ []) spot_of) (λ s. then (exact_value n x) refl (λ v. exact_gives (syntax.Return s v))))
    (enters_then (enters_one (kw_throw ∷ []) spot_of) (λ s. then (exact_value n x) refl (λ v. exact_gives (syntax.Throw s v)))))))

-- declarations

pub grows_declared : {n m : ℕ} {inner wide : Inner} (t : TypeForm) → Widens n m inner wide → Grows (declared n inner t) (declared m wide t) names [] false
grows_declared t z =
    to refl refl
    (grows_then grows_any_name refl
    (λ name. grows_then (grows_sign equals refl) refl
    (λ _. grows_then (grows_expression z) refl (λ a. grows_then (grows_sign semicolon refl) refl (λ _. grows_gives (declare_of t name a))))))

pub grows_keyword_declared : {n m : ℕ} {inner wide : Inner} → Widens n m inner wide → Grows (keyword_declared n inner) (keyword_declared m wide) keyword_types [] false
grows_keyword_declared {inner = inner} {wide = wide} z =
    to refl refl
    (grows_then (grows (deeper_type_of_keyword inner.ranks wide.ranks z.ranks) (exact_type_of_keyword wide.ranks)) refl (λ t. grows_declared t z))

pub enters_keyword_declared : {inner : Inner} (n : ℕ) → AreExact inner → Enters kind keyword_types (keyword_declared n inner)
enters_keyword_declared {inner = inner} n x =
    enters_then (enters_then (enters_one keyword_types keyword_type_at) (λ t. exact_ranks inner.ranks t)) (λ t. exact_declared n t x)

-- assignments and calls

grows_set_to : {n m : ℕ} {inner wide : Inner} (p : Measured) → Widens n m inner wide → Grows (set_to n inner p) (set_to m wide p) (equals ∷ compound_operators) whole_follow false
grows_set_to p z =
    to refl refl
    (grows_or (equals ∷ []) refl refl (grows_then (grows_sign equals refl) refl (λ _. grows_then (grows_expression z) refl (λ a. grows_gives (assign_of p a))))
    (grows_then (grows_one compound_operators kind (sample_of plus_equals) refl) refl
    (λ k. grows_then (grows_expression z) refl (λ a. grows_gives (compound_assign_of p k a)))))

grows_action : {n m : ℕ} {inner wide : Inner} (is_call : Bool) (p : Measured) → Widens n m inner wide → Grows (action_to n inner semicolon is_call p) (action_to m wide semicolon is_call p) action_kinds [] false
grows_action true p z =
    to refl refl
    (grows_then (grows_or (equals ∷ compound_operators) refl refl (grows_set_to p z) (grows_gives (invoke_of p))) refl
    (λ a. grows_then (grows_sign semicolon refl) refl (λ _. grows_gives a)))
grows_action false p z =
    to refl refl (grows_then (grows_set_to p z) refl (λ a. grows_then (grows_sign semicolon refl) refl (λ _. grows_gives a)))

pub grows_step : {n m : ℕ} {inner wide : Inner} (is_call : Bool) (p : Measured) → Widens n m inner wide → Grows (action_to n inner unparen is_call p) (action_to m wide unparen is_call p) action_kinds [] false
grows_step true p z =
    to refl refl
    (grows_then (grows_or (equals ∷ compound_operators) refl refl (grows_set_to p z) (grows_gives (invoke_of p))) refl
    (λ a. grows_then (grows_sign unparen refl) refl (λ _. grows_gives a)))
grows_step false p z = to refl refl (grows_then (grows_set_to p z) refl (λ a. grows_then (grows_sign unparen refl) refl (λ _. grows_gives a)))

pub grows_act : {n m : ℕ} {inner wide : Inner} (p : Measured) → Widens n m inner wide → Grows (act n inner p) (act m wide p) action_kinds [] false
grows_act p z = to refl refl (grows_then (grows_action p.is_call p z) refl (λ a. grows_gives (syntax.Act p.spot a)))

-- primary expressions that a statement begins with

grows_parenthesized : {n m : ℕ} {inner wide : Inner} → Widens n m inner wide → 0 < n → Grows (parenthesized n inner) (parenthesized m wide) (paren ∷ []) postfix_follow false
grows_parenthesized {n = n} {m = m} {inner = inner} {wide = wide} z some =
    to refl refl
    (grows_then (grows_place paren refl) refl
    (λ s. grows_with (grows_forms z some Whole) (z.below.forms some Whole) refl (λ a p. (behind s a p).deeper)
    (λ a. then (exact_sign unparen refl) refl (λ _. exact_postfixes m (in_parentheses s a) z.exact))))
  where
    behind : (s : Spot) (a : Measured) → a.height < n → Grows (do _ ← sign unparen; postfixes n inner (in_parentheses s a)) (do _ ← sign unparen; postfixes m wide (in_parentheses s a)) (unparen ∷ []) postfix_follow false
    behind s a p = to refl refl (grows_then (grows_sign unparen refl) refl (λ _. grows_postfixes (in_parentheses s a) z (omega arith)))

grows_counted_primary : {n m : ℕ} {inner wide : Inner} → Widens n m inner wide → 0 < n → Grows (counted_primary n inner) (counted_primary m wide) counted_kinds postfix_follow false
grows_counted_primary z some =
    to refl refl
    (grows_or (paren ∷ []) refl refl (grows_parenthesized z some)
    (grows_or (kw_new ∷ []) refl refl (grows_of_new z some) (grows_or (kw_default ∷ []) refl refl (grows_of_default z some) (grows_of_checked z some))))

pub enters_counted_primary : {inner : Inner} (n : ℕ) → AreExact inner → Enters kind counted_kinds (counted_primary n inner)
enters_counted_primary n x =
    enters_or (paren ∷ []) (kw_new ∷ kw_default ∷ kw_checked ∷ kw_unchecked ∷ [])
    (enters_then (enters_one (paren ∷ []) spot_of)
    (λ s. then (x.forms Whole) refl (λ a. then (exact_sign unparen refl) refl (λ _. exact_postfixes n (in_parentheses s a) x))))
    (enters_or (kw_new ∷ []) (kw_default ∷ kw_checked ∷ kw_unchecked ∷ []) (enters_of_new n x)
    (enters_or (kw_default ∷ []) (kw_checked ∷ kw_unchecked ∷ []) (enters_of_default n x) (enters_of_checked n x)))

grows_of_unnamed : {n m : ℕ} {inner wide : Inner} → Widens n m inner wide → Grows (of_unnamed n inner) (of_unnamed m wide) unnamed_kinds postfix_follow false
grows_of_unnamed {n = n} {m = m} z =
    to refl refl
    (grows_with (grows_one unnamed_kinds simple_of (sample (lexeme.Char 0)) refl) (yields_one {P = AtMost n} unnamed_kinds simple_of (λ t. omega arith)) refl
    (λ a p. deeper_postfixes a z p) (λ a. exact_postfixes m a z.exact))

enters_of_unnamed : {inner : Inner} (n : ℕ) → AreExact inner → Enters kind unnamed_kinds (of_unnamed n inner)
enters_of_unnamed n x = enters_then (enters_one unnamed_kinds simple_of) (λ a. exact_postfixes n a x)

pub grows_unnamed_primary : {n m : ℕ} {inner wide : Inner} → Widens n m inner wide → Grows (unnamed_primary n inner) (unnamed_primary m wide) unnamed_primary_kinds postfix_follow false
grows_unnamed_primary {n = n} {m = m} z =
    to refl refl
    (grows_where counted_kinds (nat_lt 0 n) (nat_lt 0 m) refl refl (wider_room 0 z (omega arith)) (enters_counted_primary m z.exact)
    (λ r. (grows_counted_primary z (ltb-true 0 n r)).deeper) (exact_counted_primary m z.exact)
    (grows_or (kw_base ∷ []) refl refl (grows_of_base z) (grows_of_unnamed z)))

pub enters_unnamed_primary : {inner : Inner} (n : ℕ) → nat_lt 0 n ≡ true → AreExact inner → Enters kind unnamed_primary_kinds (unnamed_primary n inner)
enters_unnamed_primary n room x =
    enters_where counted_kinds (kw_base ∷ unnamed_kinds) (nat_lt 0 n) room (enters_counted_primary n x)
    (enters_or (kw_base ∷ []) unnamed_kinds (enters_of_base n x) (enters_of_unnamed n x))

grows_of_named : {n m : ℕ} {inner wide : Inner} → Widens n m inner wide → Grows (of_named n inner) (of_named m wide) name_kinds postfix_follow false
grows_of_named {n = n} {m = m} z =
    to refl refl
    (grows_with (grows_one name_kinds simple_of (sample (lexeme.Name [])) refl) (yields_one {P = AtMost n} name_kinds simple_of (λ t. omega arith)) refl
    (λ a p. deeper_postfixes a z p) (λ a. exact_postfixes m a z.exact))

pub grows_primary : {n m : ℕ} {inner wide : Inner} → Widens n m inner wide → Grows (primary n inner) (primary m wide) (global ∷ name_kinds ++ unnamed_primary_kinds) (colons ∷ postfix_follow) false
grows_primary z =
    to refl refl
    (grows_or (global ∷ []) refl refl (grows_of_global z) (grows_or name_kinds refl refl (grows_of_named z) (grows_unnamed_primary z)))

-- statements

pub grows_primary_act : {n m : ℕ} {inner wide : Inner} → Widens n m inner wide → Grows (primary_act n inner) (primary_act m wide) unnamed_primary_kinds [] false
grows_primary_act z = to refl refl (grows_then (grows_unnamed_primary z) refl (λ p. grows_act p z))

pub enters_primary_act : {inner : Inner} (n : ℕ) → nat_lt 0 n ≡ true → AreExact inner → Enters kind unnamed_primary_kinds (primary_act n inner)
enters_primary_act n room x = enters_then (enters_unnamed_primary n room x) (λ p. exact_act n p x)

grows_postfix_act : {n m : ℕ} {inner wide : Inner} (a : Measured) → Widens n m inner wide → AtMost n a → Grows (postfix_act n inner a) (postfix_act m wide a) (postfix_follow ++ action_kinds) [] false
grows_postfix_act a z q = to refl refl (grows_then (grows_postfixes a z q) refl (λ p. grows_act p z))

pub grows_named_statement : {n m : ℕ} {inner wide : Inner} → Widens n m inner wide → Grows (named_statement n inner) (named_statement m wide) name_kinds [] false
grows_named_statement z =
    to refl refl
    (grows_then (grows_one name_kinds (λ t. t) (sample (lexeme.Name [])) refl) refl
    (λ t. grows_or (colon ∷ []) refl refl (grows_labelled (spot_of t) (text_of t)) (grows_postfix_act (simple_of t) z (omega arith))))

pub enters_named_statement : {inner : Inner} (n : ℕ) → AreExact inner → Enters kind name_kinds (named_statement n inner)
enters_named_statement n x =
    enters_then (enters_one name_kinds (λ t. t)) (λ t. or (colon ∷ []) refl refl (exact_labelled (spot_of t) (text_of t)) (exact_postfix_act n (simple_of t) x))

grows_index_act : {n m : ℕ} {inner wide : Inner} (a : Measured) → Widens n m inner wide → a.height < n → Grows (index_act n inner a) (index_act m wide a) expression_kinds [] false
grows_index_act {n = n} {m = m} {inner = inner} {wide = wide} a z room =
    to refl refl
    (grows_with (grows_forms z (omega arith) Whole) (z.below.forms (omega arith) Whole) refl (λ i p. (behind i p).deeper)
    (λ i. then (exact_sign unbracket refl) refl (λ _. exact_postfix_act m (index_of a i) z.exact)))
  where
    behind : (i : Measured) → i.height < n → Grows (do _ ← sign unbracket; postfix_act n inner (index_of a i)) (do _ ← sign unbracket; postfix_act m wide (index_of a i)) (unbracket ∷ []) [] false
    behind i p = to refl refl (grows_then (grows_sign unbracket refl) refl (λ _. grows_postfix_act (index_of a i) z (omega arith)))

grows_array_declared : {n m : ℕ} {inner wide : Inner} (t : TypeForm) → Widens n m inner wide → t.ranks + 1 ≤ inner.ranks → Grows (array_declared n inner t) (array_declared m wide t) (unbracket ∷ []) [] false
grows_array_declared {inner = inner} {wide = wide} t z p =
    to refl refl
    (grows_then (grows_sign unbracket refl) refl
    (λ _. grows_then (grows (deeper_ranks inner.ranks wide.ranks (array_of t) z.ranks p) (exact_ranks wide.ranks (array_of t))) refl (λ u. grows_declared u z)))

grows_bracket_statement : {n m : ℕ} {inner wide : Inner} (s : Spot) (path_names : List (List ℕ)) → Widens n m inner wide → Grows (bracket_statement n inner s path_names) (bracket_statement m wide s path_names) (bracket ∷ []) [] false
grows_bracket_statement {n = n} {m = m} s path_names z =
    let a = path_alone s path_names in
    let some_ranks = z.some_ranks in
    to refl refl
    (grows_then (grows_sign bracket refl) refl
    (λ _. grows_where expression_kinds (nat_lt 0 n) (nat_lt 0 m) refl refl (wider_room 0 z (omega arith))
    (enters_then z.enters (λ i. then (exact_sign unbracket refl) refl (λ _. exact_postfix_act m (index_of a i) z.exact)))
    (λ r. (grows_index_act a z (ltb-true 0 n r)).deeper) (exact_index_act m a z.exact) (grows_array_declared (global_type s path_names) z (omega arith))))

grows_called_or_alone : {n m : ℕ} {inner wide : Inner} (s : Spot) (path_names : List (List ℕ)) → Widens n m inner wide → Grows (called_or_alone n inner s path_names) (called_or_alone m wide s path_names) (paren ∷ []) postfix_follow true
grows_called_or_alone {n = n} {m = m} s path_names z =
    to refl refl
    (grows_where (paren ∷ []) (nat_lt 0 n) (nat_lt 0 m) refl refl (wider_room 0 z (omega arith)) (enters_called_path m s path_names z.exact)
    (λ r. (grows_called_path s path_names z (ltb-true 0 n r)).deeper) (exact_called_path m s path_names z.exact) (grows_gives (path_alone s path_names)))

grows_path_statement : {n m : ℕ} {inner wide : Inner} (s : Spot) → Widens n m inner wide → Grows (path_statement n inner s) (path_statement m wide s) (colons ∷ []) [] false
grows_path_statement s z =
    to refl refl
    (grows_then (grows_sign colons refl) refl
    (λ _. grows_then grows_path refl
    (λ path_names. grows_or names refl refl (grows_declared (global_type s path_names) z)
    (grows_or (bracket ∷ []) refl refl (grows_bracket_statement s path_names z)
    (grows_then (grows_called_or_alone s path_names z) refl (λ p. grows_act p z))))))

pub grows_global_statement : {n m : ℕ} {inner wide : Inner} → Widens n m inner wide → Grows (global_statement n inner) (global_statement m wide) (global ∷ []) [] false
grows_global_statement z =
    to refl refl
    (grows_then (grows_one (global ∷ []) (λ t. t) global_sample refl) refl
    (λ t. grows_or (colon ∷ []) refl refl (grows_labelled (spot_of t) (text_of t))
    (grows_or (colons ∷ []) refl refl (grows_path_statement (spot_of t) z) (grows_postfix_act (global_leaf t) z (omega arith)))))

pub enters_global_statement : {inner : Inner} (n : ℕ) → AreExact inner → Enters kind (global ∷ []) (global_statement n inner)
enters_global_statement n x =
    enters_then (enters_one (global ∷ []) (λ t. t))
    (λ t. or (colon ∷ []) refl refl (exact_labelled (spot_of t) (text_of t))
    (or (colons ∷ []) refl refl (exact_path_statement n (spot_of t) x) (exact_postfix_act n (global_leaf t) x)))
