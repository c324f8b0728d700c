-- Parentheses, casts, lambdas and operators are exact.
use Rattle.std.proofs.Common.{ℕ, true, false, List, [], ◌∷◌, ◌++◌, Option, Some, None, refl, nat_lt}
use Rattle.cs_tree.specs.declared.types.Spot.{Spot}
use Rattle.cs_tree.specs.declared.types.TypeForm.{TypeForm}
use Rattle.cs_tree.specs.declared.types.Param.{Param}
use Rattle.cs_productions.specs.declared.values.Measured.{Measured}
use Rattle.cs_productions.specs.declared.values.Lead.{Lead}
use Rattle.cs_productions.specs.declared.values.Lead.TheVariants as led
use Rattle.cs_productions.specs.declared.values.Part.TheVariants as part
use Rattle.cs_grammar.specs.Exact.{Exact}
use Rattle.cs_grammar.proofs.Basics.{exact_gives, exact_one, wider}
use Rattle.cs_grammar.proofs.Bind.{then}
use Rattle.cs_grammar.proofs.Either.{or}
use Rattle.cs_grammar.proofs.Limited.{guard}
use Rattle.cs_grammar.proofs.Turns.{repeat}
use Rattle.cs_productions.specs.Kinds.{names, paren, unparen, bracket, unbracket, dot, colon, colons, question, arrow, comma, global, keyword_types, operand_kinds, expression_kinds, simple_kinds, counted_kinds, unary_operators, multiplicative_operators, additive_operators, shift_operators, comparisons, type_tests, relational_operators, equality_operators, times, plus, shift_left, less, equal, amp, caret, bar, both, either_one, bang, kw_is, kw_ref, kw_out, kw_new, kw_default, kw_base}
use Rattle.cs_productions.specs.Tokens.{kind}
use Rattle.cs_productions.specs.Types.{global_type}
use Rattle.cs_productions.specs.Inner.{Inner}
use Rattle.cs_productions.specs.Primaries.{path_alone, global_leaf}
use Rattle.cs_productions.specs.Operators.{lambda, lambda_behind, lambda_from_way, lambda_from_type, casting, cast_to, path_of, closed_form, closed, led_in, behind_type, keyword_in, plain_in, lambda_in, form_in, behind_paren, of_paren, of_counted, of_plain, plain_operand, operand, signed, unary, plain_unary, one_binary, one_test, one_relation, multiplicative, additive, shift, relational, equality, and, exclusive_or, inclusive_or, conditional_and, conditional_or, choosing, chosen, conditional, rest_of_form, named_led, array_led, index_led, bracket_led, called_led, unnamed_led, path_led, name_led, lead}
use Rattle.cs_productions.proofs.Follow.{type_kinds, plain_kinds, plain_operand_kinds, postfix_follow, operand_follow, multiplicative_follow, additive_follow, shift_follow, relational_follow, equality_follow, and_follow, exclusive_or_follow, inclusive_or_follow, conditional_and_follow, conditional_or_follow, whole_follow, multiplicative_kinds, additive_kinds, shift_kinds, relational_kinds, equality_kinds, and_kinds, exclusive_or_kinds, inclusive_or_kinds, conditional_and_kinds, conditional_or_kinds, operator_kinds, AreExact}
use Rattle.cs_productions.proofs.ExactTokens.{sample_of, global_sample, exact_sign, exact_place, exact_any_name}
use Rattle.cs_productions.proofs.ExactTypes.{exact_path, exact_ranks, exact_type_of_keyword, exact_ty, exact_passed_param, exact_more_params}
use Rattle.cs_productions.proofs.ExactCalls.{exact_postfixes}
use Rattle.cs_productions.proofs.ExactPrimaries.{exact_of_base, exact_called_path, exact_of_global, exact_of_new, exact_of_default, exact_of_checked, exact_of_simple}

-- lambdas

pub exact_lambda : {inner : Inner} (n : ℕ) (s : Spot) (params : List Param) → AreExact inner → Exact kind (lambda n inner s params) (unparen ∷ []) postfix_follow false
exact_lambda n s params x =
    wider refl refl
    (then (exact_sign unparen refl) refl (λ _. then (exact_sign arrow refl) refl (λ _. then x.block refl (λ block. exact_postfixes n _ x))))

pub exact_lambda_behind : {inner : Inner} (n : ℕ) (s : Spot) (first : Param) → AreExact inner → Exact kind (lambda_behind n inner s first) (comma ∷ unparen ∷ []) postfix_follow false
exact_lambda_behind {inner = inner} n s first x =
    wider refl refl (then (exact_more_params inner.ranks (first ∷ [])) refl (λ params. exact_lambda n s params x))

pub exact_lambda_from_way : {inner : Inner} (n : ℕ) (s : Spot) → AreExact inner → Exact kind (lambda_from_way n inner s) (kw_ref ∷ kw_out ∷ []) postfix_follow false
exact_lambda_from_way {inner = inner} n s x =
    wider refl refl (then (exact_passed_param inner.ranks) refl (λ first. exact_lambda_behind n s first x))

pub exact_lambda_from_type : {inner : Inner} (n : ℕ) (s : Spot) (t : TypeForm) → AreExact inner → Exact kind (lambda_from_type n inner s t) names postfix_follow false
exact_lambda_from_type n s t x = wider refl refl (then exact_any_name refl (λ name. exact_lambda_behind n s _ x))

-- casts and parentheses

pub exact_casting : {inner : Inner} (s : Spot) (t : TypeForm) → AreExact inner → Exact kind (casting inner s t) operand_kinds operand_follow false
exact_casting s t x = wider refl refl (then (x.forms part.Operand) refl (λ a. exact_gives _))

pub exact_cast_to : {inner : Inner} (s : Spot) (t : TypeForm) → AreExact inner → Exact kind (cast_to inner s t) (unparen ∷ []) operand_follow false
exact_cast_to s t x = wider refl refl (then (exact_sign unparen refl) refl (λ _. exact_casting s t x))

pub exact_closed_form : {inner : Inner} (n : ℕ) (s : Spot) (a : Measured) (p : Option TypeForm) → AreExact inner → Exact kind (closed_form n inner s a p) operand_follow operand_follow true
exact_closed_form n s a None x = wider refl refl (exact_postfixes n _ x)
exact_closed_form n s a (Some t) x = wider refl refl (or operand_kinds refl refl (exact_casting s t x) (exact_postfixes n _ x))

pub exact_closed : {inner : Inner} (n : ℕ) (s : Spot) (l : Lead) → AreExact inner → Exact kind (closed n inner s l) (comma ∷ unparen ∷ []) operand_follow false
exact_closed n s (led.Form a) x = wider refl refl (then (exact_sign unparen refl) refl (λ _. exact_closed_form n s a (path_of a.form) x))
exact_closed n s (led.Type t) x = wider refl refl (exact_cast_to s t x)
exact_closed n s (led.Named t name) x = wider refl refl (exact_lambda_behind n s _ x)

pub exact_led_in : {inner : Inner} (n : ℕ) (s : Spot) → AreExact inner → Exact kind (led_in n inner s) (global ∷ []) operand_follow false
exact_led_in n s x = wider refl refl (then x.lead refl (λ l. exact_closed n s l x))

pub exact_behind_type : {inner : Inner} (n : ℕ) (s : Spot) (t : TypeForm) → AreExact inner → Exact kind (behind_type n inner s t) (unparen ∷ names) operand_follow false
exact_behind_type {inner = inner} n s t x = wider refl refl (guard names (nat_lt 0 inner.blocks) refl refl (exact_lambda_from_type n s t x) (exact_cast_to s t x))

pub exact_keyword_in : {inner : Inner} (n : ℕ) (s : Spot) → AreExact inner → Exact kind (keyword_in n inner s) keyword_types operand_follow false
exact_keyword_in {inner = inner} n s x = wider refl refl (then (exact_type_of_keyword inner.ranks) refl (λ t. exact_behind_type n s t x))

pub exact_plain_in : {inner : Inner} (n : ℕ) (s : Spot) → AreExact inner → Exact kind (plain_in n inner s) plain_kinds operand_follow false
exact_plain_in n s x = wider refl refl (then (x.forms part.Plain) refl (λ a. then (exact_sign unparen refl) refl (λ _. exact_postfixes n _ x)))

pub exact_lambda_in : {inner : Inner} (n : ℕ) (s : Spot) → AreExact inner → Exact kind (lambda_in n inner s) (unparen ∷ kw_ref ∷ kw_out ∷ []) postfix_follow false
exact_lambda_in n s x = wider refl refl (or (unparen ∷ []) refl refl (exact_lambda n s [] x) (exact_lambda_from_way n s x))

pub exact_form_in : {inner : Inner} (n : ℕ) (s : Spot) → AreExact inner → Exact kind (form_in n inner s) (type_kinds ++ plain_kinds) operand_follow false
exact_form_in n s x =
    wider refl refl (or keyword_types refl refl (exact_keyword_in n s x) (or (global ∷ []) refl refl (exact_led_in n s x) (exact_plain_in n s x)))

-- what may stand behind "("
abbrev inside_kinds : List ℕ
inside_kinds = unparen ∷ kw_ref ∷ kw_out ∷ type_kinds ++ plain_kinds

pub exact_behind_paren : {inner : Inner} (n : ℕ) (s : Spot) → AreExact inner → Exact kind (behind_paren n inner s) inside_kinds operand_follow false
exact_behind_paren {inner = inner} n s x =
    wider refl refl (guard (unparen ∷ kw_ref ∷ kw_out ∷ []) (nat_lt 0 inner.blocks) refl refl (exact_lambda_in n s x) (exact_form_in n s x))

pub exact_of_paren : {inner : Inner} (n : ℕ) → AreExact inner → Exact kind (of_paren n inner) (paren ∷ []) operand_follow false
exact_of_paren n x = wider refl refl (then (exact_place paren refl) refl (λ s. exact_behind_paren n s x))

-- operands and unary operators

pub exact_of_counted : {inner : Inner} (n : ℕ) → AreExact inner → Exact kind (of_counted n inner) counted_kinds operand_follow false
exact_of_counted n x =
    wider refl refl
    (or (paren ∷ []) refl refl (exact_of_paren n x)
    (or (kw_new ∷ []) refl refl (exact_of_new n x) (or (kw_default ∷ []) refl refl (exact_of_default n x) (exact_of_checked n x))))

pub exact_of_plain : {inner : Inner} (n : ℕ) → AreExact inner → Exact kind (of_plain n inner) (kw_base ∷ simple_kinds) postfix_follow false
exact_of_plain n x = wider refl refl (or (kw_base ∷ []) refl refl (exact_of_base n x) (exact_of_simple n x))

pub exact_plain_operand : {inner : Inner} (n : ℕ) → AreExact inner → Exact kind (plain_operand n inner) plain_operand_kinds operand_follow false
exact_plain_operand n x = wider refl refl (guard counted_kinds (nat_lt 0 n) refl refl (exact_of_counted n x) (exact_of_plain n x))

pub exact_operand : {inner : Inner} (n : ℕ) → AreExact inner → Exact kind (operand n inner) operand_kinds operand_follow false
exact_operand n x = wider refl refl (or (global ∷ []) refl refl (exact_of_global n x) (exact_plain_operand n x))

pub exact_signed : {inner : Inner} → AreExact inner → Exact kind (signed inner) unary_operators operand_follow false
exact_signed x =
    wider refl refl (then (exact_one unary_operators (λ t. t) (sample_of bang) refl) refl (λ t. then (x.forms part.Unary) refl (λ a. exact_gives _)))

pub exact_unary : {inner : Inner} (n : ℕ) → AreExact inner → Exact kind (unary n inner) expression_kinds operand_follow false
exact_unary n x = wider refl refl (guard unary_operators (nat_lt 0 n) refl refl (exact_signed x) (exact_operand n x))

pub exact_plain_unary : {inner : Inner} (n : ℕ) → AreExact inner → Exact kind (plain_unary n inner) plain_kinds operand_follow false
exact_plain_unary n x = wider refl refl (guard unary_operators (nat_lt 0 n) refl refl (exact_signed x) (exact_plain_operand n x))

-- two-place operators, level by level

pub exact_one_multiplicative : {inner : Inner} (a : Measured) → AreExact inner → Exact kind (one_binary inner multiplicative_operators part.Unary a) multiplicative_operators operand_follow false
exact_one_multiplicative a x =
    wider refl refl
    (then (exact_one multiplicative_operators kind (sample_of times) refl) refl (λ k. then (x.forms part.Unary) refl (λ b. exact_gives _)))

pub exact_multiplicative : {inner : Inner} (n : ℕ) (a : Measured) → AreExact inner → Exact kind (multiplicative n inner a) multiplicative_kinds multiplicative_follow true
exact_multiplicative n a x = wider refl refl (repeat multiplicative_operators (λ (b : Measured). nat_lt b.height n) a refl refl (λ b. exact_one_multiplicative b x))

pub exact_one_additive : {inner : Inner} (a : Measured) → AreExact inner → Exact kind (one_binary inner additive_operators part.Multiplicative a) additive_operators multiplicative_follow false
exact_one_additive a x =
    wider refl refl
    (then (exact_one additive_operators kind (sample_of plus) refl) refl (λ k. then (x.forms part.Multiplicative) refl (λ b. exact_gives _)))

pub exact_additive : {inner : Inner} (n : ℕ) (a : Measured) → AreExact inner → Exact kind (additive n inner a) additive_kinds additive_follow true
exact_additive n a x = wider refl refl (then (exact_multiplicative n a x) refl (λ b. repeat additive_operators (λ (b : Measured). nat_lt b.height n) b refl refl (λ b. exact_one_additive b x)))

pub exact_one_shift : {inner : Inner} (a : Measured) → AreExact inner → Exact kind (one_binary inner shift_operators part.Additive a) shift_operators additive_follow false
exact_one_shift a x =
    wider refl refl
    (then (exact_one shift_operators kind (sample_of shift_left) refl) refl (λ k. then (x.forms part.Additive) refl (λ b. exact_gives _)))

pub exact_shift : {inner : Inner} (n : ℕ) (a : Measured) → AreExact inner → Exact kind (shift n inner a) shift_kinds shift_follow true
exact_shift n a x = wider refl refl (then (exact_additive n a x) refl (λ b. repeat shift_operators (λ (b : Measured). nat_lt b.height n) b refl refl (λ b. exact_one_shift b x)))

pub exact_one_test : {inner : Inner} (a : Measured) → AreExact inner → Exact kind (one_test inner a) type_tests postfix_follow false
exact_one_test {inner = inner} a x =
    wider refl refl (then (exact_one type_tests kind (sample_of kw_is) refl) refl (λ k. then (exact_ty inner.ranks) refl (λ t. exact_gives _)))

pub exact_one_comparison : {inner : Inner} (a : Measured) → AreExact inner → Exact kind (one_binary inner comparisons part.Shift a) comparisons shift_follow false
exact_one_comparison a x =
    wider refl refl (then (exact_one comparisons kind (sample_of less) refl) refl (λ k. then (x.forms part.Shift) refl (λ b. exact_gives _)))

pub exact_one_relational : {inner : Inner} (a : Measured) → AreExact inner → Exact kind (one_relation inner a) relational_operators shift_follow false
exact_one_relational a x = wider refl refl (or type_tests refl refl (exact_one_test a x) (exact_one_comparison a x))

pub exact_relational : {inner : Inner} (n : ℕ) (a : Measured) → AreExact inner → Exact kind (relational n inner a) relational_kinds relational_follow true
exact_relational n a x = wider refl refl (then (exact_shift n a x) refl (λ b. repeat relational_operators (λ (b : Measured). nat_lt b.height n) b refl refl (λ b. exact_one_relational b x)))

pub exact_one_equality : {inner : Inner} (a : Measured) → AreExact inner → Exact kind (one_binary inner equality_operators part.Relational a) equality_operators relational_follow false
exact_one_equality a x =
    wider refl refl
    (then (exact_one equality_operators kind (sample_of equal) refl) refl (λ k. then (x.forms part.Relational) refl (λ b. exact_gives _)))

pub exact_equality : {inner : Inner} (n : ℕ) (a : Measured) → AreExact inner → Exact kind (equality n inner a) equality_kinds equality_follow true
exact_equality n a x = wider refl refl (then (exact_relational n a x) refl (λ b. repeat equality_operators (λ (b : Measured). nat_lt b.height n) b refl refl (λ b. exact_one_equality b x)))

pub exact_one_and : {inner : Inner} (a : Measured) → AreExact inner → Exact kind (one_binary inner (amp ∷ []) part.Equality a) (amp ∷ []) equality_follow false
exact_one_and a x =
    wider refl refl
    (then (exact_one (amp ∷ []) kind (sample_of amp) refl) refl (λ k. then (x.forms part.Equality) refl (λ b. exact_gives _)))

pub exact_and : {inner : Inner} (n : ℕ) (a : Measured) → AreExact inner → Exact kind (and n inner a) and_kinds and_follow true
exact_and n a x = wider refl refl (then (exact_equality n a x) refl (λ b. repeat (amp ∷ []) (λ (b : Measured). nat_lt b.height n) b refl refl (λ b. exact_one_and b x)))

pub exact_one_exclusive_or : {inner : Inner} (a : Measured) → AreExact inner → Exact kind (one_binary inner (caret ∷ []) part.And a) (caret ∷ []) and_follow false
exact_one_exclusive_or a x =
    wider refl refl
    (then (exact_one (caret ∷ []) kind (sample_of caret) refl) refl (λ k. then (x.forms part.And) refl (λ b. exact_gives _)))

pub exact_exclusive_or : {inner : Inner} (n : ℕ) (a : Measured) → AreExact inner → Exact kind (exclusive_or n inner a) exclusive_or_kinds exclusive_or_follow true
exact_exclusive_or n a x = wider refl refl (then (exact_and n a x) refl (λ b. repeat (caret ∷ []) (λ (b : Measured). nat_lt b.height n) b refl refl (λ b. exact_one_exclusive_or b x)))

pub exact_one_inclusive_or : {inner : Inner} (a : Measured) → AreExact inner → Exact kind (one_binary inner (bar ∷ []) part.ExclusiveOr a) (bar ∷ []) exclusive_or_follow false
exact_one_inclusive_or a x =
    wider refl refl
    (then (exact_one (bar ∷ []) kind (sample_of bar) refl) refl (λ k. then (x.forms part.ExclusiveOr) refl (λ b. exact_gives _)))

pub exact_inclusive_or : {inner : Inner} (n : ℕ) (a : Measured) → AreExact inner → Exact kind (inclusive_or n inner a) inclusive_or_kinds inclusive_or_follow true
exact_inclusive_or n a x = wider refl refl (then (exact_exclusive_or n a x) refl (λ b. repeat (bar ∷ []) (λ (b : Measured). nat_lt b.height n) b refl refl (λ b. exact_one_inclusive_or b x)))

pub exact_one_conditional_and : {inner : Inner} (a : Measured) → AreExact inner → Exact kind (one_binary inner (both ∷ []) part.InclusiveOr a) (both ∷ []) inclusive_or_follow false
exact_one_conditional_and a x =
    wider refl refl
    (then (exact_one (both ∷ []) kind (sample_of both) refl) refl (λ k. then (x.forms part.InclusiveOr) refl (λ b. exact_gives _)))

pub exact_conditional_and : {inner : Inner} (n : ℕ) (a : Measured) → AreExact inner → Exact kind (conditional_and n inner a) conditional_and_kinds conditional_and_follow true
exact_conditional_and n a x = wider refl refl (then (exact_inclusive_or n a x) refl (λ b. repeat (both ∷ []) (λ (b : Measured). nat_lt b.height n) b refl refl (λ b. exact_one_conditional_and b x)))

pub exact_one_conditional_or : {inner : Inner} (a : Measured) → AreExact inner → Exact kind (one_binary inner (either_one ∷ []) part.ConditionalAnd a) (either_one ∷ []) conditional_and_follow false
exact_one_conditional_or a x =
    wider refl refl
    (then (exact_one (either_one ∷ []) kind (sample_of either_one) refl) refl (λ k. then (x.forms part.ConditionalAnd) refl (λ b. exact_gives _)))

pub exact_conditional_or : {inner : Inner} (n : ℕ) (a : Measured) → AreExact inner → Exact kind (conditional_or n inner a) conditional_or_kinds conditional_or_follow true
exact_conditional_or n a x = wider refl refl (then (exact_conditional_and n a x) refl (λ b. repeat (either_one ∷ []) (λ (b : Measured). nat_lt b.height n) b refl refl (λ b. exact_one_conditional_or b x)))

-- ?:

pub exact_choosing : {inner : Inner} (a : Measured) → AreExact inner → Exact kind (choosing inner a) (question ∷ []) whole_follow false
exact_choosing a x =
    wider refl refl
    (then (exact_sign question refl) refl
    (λ _. then (x.forms part.Whole) refl (λ b. then (exact_sign colon refl) refl (λ _. then (x.forms part.Whole) refl (λ c. exact_gives _)))))

pub exact_chosen : {inner : Inner} (n : ℕ) (a : Measured) → AreExact inner → Exact kind (chosen n inner a) (question ∷ []) whole_follow true
exact_chosen n a x = wider refl refl (guard (question ∷ []) (nat_lt a.height n) refl refl (exact_choosing a x) (exact_gives a))

pub exact_conditional : {inner : Inner} (n : ℕ) (a : Measured) → AreExact inner → Exact kind (conditional n inner a) operator_kinds whole_follow true
exact_conditional n a x = wider refl refl (then (exact_conditional_or n a x) refl (λ b. exact_chosen n b x))

-- what begins with `global` inside parentheses

pub exact_rest_of_form : {inner : Inner} (n : ℕ) (a : Measured) → AreExact inner → Exact kind (rest_of_form n inner a) operator_kinds whole_follow true
exact_rest_of_form n a x = wider refl refl (then (exact_conditional n a x) refl (λ b. exact_gives _))

pub exact_named_led : (t : TypeForm) → Exact kind (named_led t) names [] false
exact_named_led t = wider refl refl (then exact_any_name refl (λ name. exact_gives _))

pub exact_array_led : (blocks limit : ℕ) (t : TypeForm) → Exact kind (array_led blocks limit t) (unbracket ∷ []) (bracket ∷ names) false
exact_array_led blocks limit t =
    wider refl refl
    (then (exact_sign unbracket refl) refl (λ _. then (exact_ranks limit _) refl (λ u. guard names (nat_lt 0 blocks) refl refl (exact_named_led u) (exact_gives _))))

pub exact_index_led : {inner : Inner} (n : ℕ) (a : Measured) → AreExact inner → Exact kind (index_led n inner a) expression_kinds whole_follow false
exact_index_led n a x =
    wider refl refl
    (then (x.forms part.Whole) refl
    (λ i. then (exact_sign unbracket refl) refl (λ _. then (exact_postfixes n _ x) refl (λ b. exact_rest_of_form n b x))))

pub exact_bracket_led : {inner : Inner} (n : ℕ) (s : Spot) (path_names : List (List ℕ)) → AreExact inner → Exact kind (bracket_led n inner s path_names) (bracket ∷ []) whole_follow false
exact_bracket_led {inner = inner} n s path_names x =
    wider refl refl
    (then (exact_sign bracket refl) refl (λ _. guard expression_kinds (nat_lt 0 n) refl refl (exact_index_led n (path_alone s path_names) x) (exact_array_led inner.blocks inner.ranks (global_type s path_names))))

pub exact_called_led : {inner : Inner} (n : ℕ) (s : Spot) (path_names : List (List ℕ)) → AreExact inner → Exact kind (called_led n inner s path_names) (paren ∷ operator_kinds) whole_follow true
exact_called_led n s path_names x =
    wider refl refl
    (then (guard (paren ∷ []) (nat_lt 0 n) refl refl (exact_called_path n s path_names x) (exact_gives _)) refl (λ a. exact_rest_of_form n a x))

pub exact_unnamed_led : {inner : Inner} (n : ℕ) (s : Spot) (path_names : List (List ℕ)) → AreExact inner → Exact kind (unnamed_led n inner s path_names) (bracket ∷ paren ∷ operator_kinds) (bracket ∷ whole_follow) true
exact_unnamed_led n s path_names x = wider refl refl (or (bracket ∷ []) refl refl (exact_bracket_led n s path_names x) (exact_called_led n s path_names x))

pub exact_path_led : {inner : Inner} (n : ℕ) (s : Spot) → AreExact inner → Exact kind (path_led n inner s) (colons ∷ []) whole_follow false
exact_path_led {inner = inner} n s x =
    wider refl refl
    (then (exact_sign colons refl) refl
    (λ _. then exact_path refl
    (λ path_names. guard names (nat_lt 0 inner.blocks) refl refl (exact_named_led _) (exact_unnamed_led n s path_names x))))

pub exact_name_led : {inner : Inner} (n : ℕ) (g : Measured) → AreExact inner → Exact kind (name_led n inner g) (dot ∷ bracket ∷ operator_kinds) whole_follow true
exact_name_led n g x = wider refl refl (then (exact_postfixes n g x) refl (λ a. exact_rest_of_form n a x))

pub exact_lead : {inner : Inner} (n : ℕ) → AreExact inner → Exact kind (lead n inner) (global ∷ []) whole_follow false
exact_lead n x =
    wider refl refl
    (then (exact_one (global ∷ []) global_leaf global_sample refl) refl
    (λ (g : Measured). or (colons ∷ []) refl refl (exact_path_led n g.spot x) (exact_name_led n g x)))
