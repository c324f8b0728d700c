-- Parentheses, casts, lambdas and operators, with more levels.
use Rattle.std.proofs.Common.{◌≡◌, ℕ, suc, ◌+◌, ◌<◌, ◌≤◌, true, false, List, [], ◌∷◌, ◌++◌, Option, Some, None, refl, nat_lt, arith}
use Rattle.std.proofs.lemmas.Bool.{ltb-true, lt-ltb}
use Rattle.cs_tree.specs.declared.types.Spot.{Spot}
use Rattle.cs_tree.specs.declared.types.TypeForm.{TypeForm}
use Rattle.cs_tree.specs.declared.types.Param.{Param}
use Rattle.cs_tree.specs.declared.types.Way.TheVariants as passed
use Rattle.cs_productions.specs.declared.values.Measured.{Measured}
use Rattle.cs_productions.specs.declared.values.Lead.{Lead}
use Rattle.cs_productions.specs.declared.values.Lead.TheVariants as led
use Rattle.cs_productions.specs.declared.values.Part.{Part}
use Rattle.cs_productions.specs.declared.values.Part.TheVariants as part
use Rattle.cs_grammar.specs.Grammar.{one, ◌>>=◌}
use Rattle.cs_grammar.specs.Kinds.{disjoint}
use Rattle.cs_grammar.specs.Whole.{Deeper}
use Rattle.cs_grammar.specs.Levels.{Enters}
use Rattle.cs_grammar.proofs.Basics.{exact_gives}
use Rattle.cs_grammar.proofs.Bind.{then}
use Rattle.cs_grammar.proofs.Either.{or}
use Rattle.cs_grammar.proofs.Turns.{repeat}
use Rattle.cs_grammar.proofs.Deeper.{yields_any, yields_gives, enters_one, enters_then, deeper_gives, deeper_one, deeper_then, deeper_or}
use Rattle.cs_productions.specs.Kinds.{names, paren, unparen, bracket, unbracket, dot, colon, colons, question, arrow, comma, global, keyword_types, operand_kinds, expression_kinds, simple_kinds, counted_kinds, unary_operators, multiplicative_operators, additive_operators, shift_operators, comparisons, type_tests, relational_operators, equality_operators, amp, caret, bar, both, either_one, bang, kw_is, kw_ref, kw_out, kw_new, kw_default, kw_checked, kw_unchecked, kw_base}
use Rattle.cs_productions.specs.Tokens.{kind, sign, spot_of, name_of, way_of}
use Rattle.cs_productions.specs.Types.{global_type, array_of, param_of}
use Rattle.cs_productions.specs.Inner.{Inner}
use Rattle.cs_productions.specs.Calls.{postfixes, index_of}
use Rattle.cs_productions.specs.Primaries.{path_alone}
use Rattle.cs_productions.specs.Operators.{in_parentheses, lambda_of, lambda, lambda_behind, lambda_from_way, lambda_from_type, cast_of, casting, cast_to, path_of, closed_form, closed, led_in, behind_type, keyword_in, plain_in, lambda_in, form_in, behind_paren, of_paren, of_counted, plain_operand, operand, signed_of, signed, unary, plain_unary, binary_form, one_binary, binaries, test_form, one_test, one_relation, relations, multiplicative, additive, shift, relational, equality, and, exclusive_or, inclusive_or, conditional_and, conditional_or, conditional_of, choosing, chosen, conditional, form_led, type_led, rest_of_form, named_led, array_led, index_led, bracket_led, called_led, path_led, name_led, lead}
use Rattle.cs_productions.proofs.Follow.{follow_of, type_kinds, plain_kinds, plain_operand_kinds, postfix_follow, operand_follow, whole_follow, operator_kinds, AreExact}
use Rattle.cs_productions.proofs.ExactTokens.{sample_of, exact_sign, exact_any_name}
use Rattle.cs_productions.proofs.ExactTypes.{exact_ranks, exact_type_of_keyword, exact_ty, exact_passed_param, exact_more_params}
use Rattle.cs_productions.proofs.ExactCalls.{exact_postfixes}
use Rattle.cs_productions.proofs.ExactPrimaries.{exact_called_path}
use Rattle.cs_productions.proofs.ExactOperators.{exact_lambda_behind, exact_lambda_in, exact_lambda_from_type, exact_closed, exact_behind_paren, exact_of_counted, exact_signed, exact_one_relational, exact_one_multiplicative, exact_one_additive, exact_one_shift, exact_one_equality, exact_one_and, exact_one_exclusive_or, exact_one_inclusive_or, exact_one_conditional_and, exact_one_conditional_or, exact_choosing, exact_chosen, exact_conditional, exact_rest_of_form, exact_index_led, exact_name_led}
use Rattle.cs_productions.proofs.Heights.{yields_where, AtMost, Below, LeadWithin, within_postfixes, within_called_path, within_one_binary, within_one_relation, within_multiplicative, within_additive, within_shift, within_relational, within_equality, within_and, within_exclusive_or, within_inclusive_or, within_conditional_and, within_conditional_or}
use Rattle.cs_productions.proofs.Deepening.{enters_narrow, enters_or, enters_where, deeper_rounds}
use Rattle.cs_productions.proofs.DeeperTypes.{deeper_ranks, deeper_type_of_keyword, deeper_ty, deeper_passed_param, deeper_more_params}
use Rattle.cs_productions.proofs.Growing.{Grows, grows, to, grows_gives, grows_one, grows_sign, grows_place, grows_any_name, grows_then, grows_with, grows_or, grows_where}
use Rattle.cs_productions.proofs.DeeperCalls.{Widens, grows_forms, wider_room, block_room, grows_postfixes}
use Rattle.cs_productions.proofs.DeeperPrimaries.{grows_path, grows_of_base, grows_called_path, enters_called_path, grows_global_leaf, leaf_within, grows_of_global, grows_of_new, grows_of_default, grows_of_checked, grows_of_simple, enters_of_base, enters_of_global, enters_of_simple, enters_of_new, enters_of_default, enters_of_checked}

-- lambdas

grows_lambda : {n m : ℕ} {inner wide : Inner} (s : Spot) (params : List Param) → Widens n m inner wide → 0 < n → 0 < inner.blocks → Grows (lambda n inner s params) (lambda m wide s params) (unparen ∷ []) postfix_follow false
grows_lambda s params z some may =
    to refl refl
    (grows_then (grows_sign unparen refl) refl
    (λ _. grows_then (grows_sign arrow refl) refl (λ _. grows_then (grows (z.block may) z.exact.block) refl (λ block. grows_postfixes (lambda_of s params block) z (omega arith)))))

grows_lambda_behind : {n m : ℕ} {inner wide : Inner} (s : Spot) (first : Param) → Widens n m inner wide → 0 < n → 0 < inner.blocks → Grows (lambda_behind n inner s first) (lambda_behind m wide s first) (comma ∷ unparen ∷ []) postfix_follow false
grows_lambda_behind {inner = inner} {wide = wide} s first z some may =
    to refl refl
    (grows_then (grows (deeper_more_params inner.ranks wide.ranks (first ∷ []) z.ranks) (exact_more_params wide.ranks (first ∷ []))) refl
    (λ params. grows_lambda s params z some may))

grows_lambda_from_way : {n m : ℕ} {inner wide : Inner} (s : Spot) → Widens n m inner wide → 0 < n → 0 < inner.blocks → Grows (lambda_from_way n inner s) (lambda_from_way m wide s) (kw_ref ∷ kw_out ∷ []) postfix_follow false
grows_lambda_from_way {inner = inner} {wide = wide} s z some may =
    to refl refl
    (grows_then (grows (deeper_passed_param inner.ranks wide.ranks z.ranks) (exact_passed_param wide.ranks)) refl (λ first. grows_lambda_behind s first z some may))

grows_lambda_from_type : {n m : ℕ} {inner wide : Inner} (s : Spot) (t : TypeForm) → Widens n m inner wide → 0 < n → 0 < inner.blocks → Grows (lambda_from_type n inner s t) (lambda_from_type m wide s t) names postfix_follow false
grows_lambda_from_type s t z some may =
    to refl refl (grows_then grows_any_name refl (λ name. grows_lambda_behind s (param_of passed.Value t name) z some may))

enters_lambda_from_type : {inner : Inner} (m : ℕ) (s : Spot) (t : TypeForm) → AreExact inner → Enters kind names (lambda_from_type m inner s t)
enters_lambda_from_type m s t x = enters_then (enters_one names name_of) (λ name. exact_lambda_behind m s (param_of passed.Value t name) x)

grows_lambda_in : {n m : ℕ} {inner wide : Inner} (s : Spot) → Widens n m inner wide → 0 < n → 0 < inner.blocks → Grows (lambda_in n inner s) (lambda_in m wide s) (unparen ∷ kw_ref ∷ kw_out ∷ []) postfix_follow false
grows_lambda_in s z some may = to refl refl (grows_or (unparen ∷ []) refl refl (grows_lambda s [] z some may) (grows_lambda_from_way s z some may))

enters_lambda_in : {inner : Inner} (m : ℕ) (s : Spot) → AreExact inner → Enters kind (unparen ∷ kw_ref ∷ kw_out ∷ []) (lambda_in m inner s)
enters_lambda_in {inner = inner} m s x =
    enters_or (unparen ∷ []) (kw_ref ∷ kw_out ∷ [])
    (enters_then (enters_one (unparen ∷ []) (λ _. tt))
    (λ _. then (exact_sign arrow refl) refl (λ _. then x.block refl (λ block. exact_postfixes m (lambda_of s [] block) x))))
    (enters_then
    (enters_then (enters_one (kw_ref ∷ kw_out ∷ []) (λ t. way_of (kind t)))
    (λ w. then (exact_ty inner.ranks) refl (λ t. then exact_any_name refl (λ name. exact_gives (param_of w t name)))))
    (λ first. exact_lambda_behind m s first x))

-- casts and parentheses

grows_casting : {n m : ℕ} {inner wide : Inner} (s : Spot) (t : TypeForm) → Widens n m inner wide → 0 < n → Grows (casting inner s t) (casting wide s t) operand_kinds operand_follow false
grows_casting s t z some = to refl refl (grows_then (grows_forms z some part.Operand) refl (λ a. grows_gives (cast_of s t a)))

grows_cast_to : {n m : ℕ} {inner wide : Inner} (s : Spot) (t : TypeForm) → Widens n m inner wide → 0 < n → Grows (cast_to inner s t) (cast_to wide s t) (unparen ∷ []) operand_follow false
grows_cast_to s t z some = to refl refl (grows_then (grows_sign unparen refl) refl (λ _. grows_casting s t z some))

grows_closed_form : {n m : ℕ} {inner wide : Inner} (s : Spot) (a : Measured) (p : Option TypeForm) → Widens n m inner wide → a.height < n → Grows (closed_form n inner s a p) (closed_form m wide s a p) operand_follow operand_follow true
grows_closed_form s a None z room = to refl refl (grows_postfixes (in_parentheses s a) z (omega arith))
grows_closed_form s a (Some t) z room =
    to refl refl (grows_or operand_kinds refl refl (grows_casting s t z (omega arith)) (grows_postfixes (in_parentheses s a) z (omega arith)))

grows_closed : {n m : ℕ} {inner wide : Inner} (s : Spot) (l : Lead) → Widens n m inner wide → 0 < n → LeadWithin inner.blocks (Below n) l → Grows (closed n inner s l) (closed m wide s l) (comma ∷ unparen ∷ []) operand_follow false
grows_closed s (led.Form a) z some room = to refl refl (grows_then (grows_sign unparen refl) refl (λ _. grows_closed_form s a (path_of a.form) z room))
grows_closed s (led.Type t) z some room = to refl refl (grows_cast_to s t z some)
grows_closed s (led.Named t name) z some may = to refl refl (grows_lambda_behind s (param_of passed.Value t name) z some may)

grows_led_in : {n m : ℕ} {inner wide : Inner} (s : Spot) → Widens n m inner wide → 0 < n → Grows (led_in n inner s) (led_in m wide s) (global ∷ []) operand_follow false
grows_led_in {m = m} s z some =
    to refl refl
    (grows_with (grows (z.lead some) z.exact.lead) (z.below.lead some) refl (λ l p. (grows_closed s l z some p).deeper) (λ l. exact_closed m s l z.exact))

grows_behind_type : {n m : ℕ} {inner wide : Inner} (s : Spot) (t : TypeForm) → Widens n m inner wide → 0 < n → Grows (behind_type n inner s t) (behind_type m wide s t) (unparen ∷ names) operand_follow false
grows_behind_type {m = m} {inner = inner} {wide = wide} s t z some =
    to refl refl
    (grows_where names (nat_lt 0 inner.blocks) (nat_lt 0 wide.blocks) refl refl (block_room z) (enters_lambda_from_type m s t z.exact)
    (λ r. (grows_lambda_from_type s t z some (ltb-true 0 inner.blocks r)).deeper) (exact_lambda_from_type m s t z.exact) (grows_cast_to s t z some))

grows_keyword_in : {n m : ℕ} {inner wide : Inner} (s : Spot) → Widens n m inner wide → 0 < n → Grows (keyword_in n inner s) (keyword_in m wide s) keyword_types operand_follow false
grows_keyword_in {inner = inner} {wide = wide} s z some =
    to refl refl
    (grows_then (grows (deeper_type_of_keyword inner.ranks wide.ranks z.ranks) (exact_type_of_keyword wide.ranks)) refl (λ t. grows_behind_type s t z some))

grows_plain_in : {n m : ℕ} {inner wide : Inner} (s : Spot) → Widens n m inner wide → 0 < n → Grows (plain_in n inner s) (plain_in m wide s) plain_kinds operand_follow false
grows_plain_in {n = n} {m = m} {inner = inner} {wide = wide} s z some =
    to refl refl
    (grows_with (grows_forms z some part.Plain) (z.below.forms some part.Plain) refl (λ a p. (behind a p).deeper)
    (λ a. then (exact_sign unparen refl) refl (λ _. exact_postfixes m (in_parentheses s a) z.exact)))
  where
    behind : (a : Measured) → a.height < n → Grows (do _ ← sign unparen; postfixes n inner (in_parentheses s a)) (do _ ← sign unparen; postfixes m wide (in_parentheses s a)) (unparen ∷ []) postfix_follow false
    behind a p = to refl refl (grows_then (grows_sign unparen refl) refl (λ _. grows_postfixes (in_parentheses s a) z (omega arith)))

grows_of_paren : {n m : ℕ} {inner wide : Inner} → Widens n m inner wide → 0 < n → Grows (of_paren n inner) (of_paren m wide) (paren ∷ []) operand_follow false
grows_of_paren {n = n} {m = m} {inner = inner} {wide = wide} z some = to refl refl (grows_then (grows_place paren refl) refl (λ s. behind s))
  where
    grows_form_in : (s : Spot) → Grows (form_in n inner s) (form_in m wide s) (type_kinds ++ plain_kinds) operand_follow false
    grows_form_in s =
        to refl refl
        (grows_or keyword_types refl refl (grows_keyword_in s z some) (grows_or (global ∷ []) refl refl (grows_led_in s z some) (grows_plain_in s z some)))

    behind : (s : Spot) → Grows (behind_paren n inner s) (behind_paren m wide s) (unparen ∷ kw_ref ∷ kw_out ∷ type_kinds ++ plain_kinds) operand_follow false
    behind s =
        to refl refl
        (grows_where (unparen ∷ kw_ref ∷ kw_out ∷ []) (nat_lt 0 inner.blocks) (nat_lt 0 wide.blocks) refl refl (block_room z) (enters_lambda_in m s z.exact)
        (λ r. (grows_lambda_in s z some (ltb-true 0 inner.blocks r)).deeper) (exact_lambda_in m s z.exact) (grows_form_in s))

-- operands and unary operators

grows_of_counted : {n m : ℕ} {inner wide : Inner} → Widens n m inner wide → 0 < n → Grows (of_counted n inner) (of_counted m wide) counted_kinds operand_follow false
grows_of_counted z some =
    to refl refl
    (grows_or (paren ∷ []) refl refl (grows_of_paren z some)
    (grows_or (kw_new ∷ []) refl refl (grows_of_new z some) (grows_or (kw_default ∷ []) refl refl (grows_of_default z some) (grows_of_checked z some))))

enters_of_counted : {inner : Inner} (m : ℕ) → AreExact inner → Enters kind counted_kinds (of_counted m inner)
enters_of_counted m x =
    enters_or (paren ∷ []) (kw_new ∷ kw_default ∷ kw_checked ∷ kw_unchecked ∷ [])
    (enters_then (enters_one (paren ∷ []) spot_of) (λ s. exact_behind_paren m s x))
    (enters_or (kw_new ∷ []) (kw_default ∷ kw_checked ∷ kw_unchecked ∷ []) (enters_of_new m x)
    (enters_or (kw_default ∷ []) (kw_checked ∷ kw_unchecked ∷ []) (enters_of_default m x) (enters_of_checked m x)))

grows_plain_operand : {n m : ℕ} {inner wide : Inner} → Widens n m inner wide → Grows (plain_operand n inner) (plain_operand m wide) plain_operand_kinds operand_follow false
grows_plain_operand {n = n} {m = m} z =
    to refl refl
    (grows_where counted_kinds (nat_lt 0 n) (nat_lt 0 m) refl refl (wider_room 0 z (omega arith)) (enters_of_counted m z.exact)
    (λ r. (grows_of_counted z (ltb-true 0 n r)).deeper) (exact_of_counted m z.exact) (grows_or (kw_base ∷ []) refl refl (grows_of_base z) (grows_of_simple z)))

pub grows_operand : {n m : ℕ} {inner wide : Inner} → Widens n m inner wide → Grows (operand n inner) (operand m wide) operand_kinds operand_follow false
grows_operand z = to refl refl (grows_or (global ∷ []) refl refl (grows_of_global z) (grows_plain_operand z))

enters_operand : {inner : Inner} (n : ℕ) → AreExact inner → Enters kind operand_kinds (operand (suc n) inner)
enters_operand n x =
    enters_narrow refl
    (enters_or (global ∷ []) (counted_kinds ++ kw_base ∷ simple_kinds) (enters_of_global (suc n) x)
    (enters_where counted_kinds (kw_base ∷ simple_kinds) (nat_lt 0 (suc n)) (lt-ltb 0 (suc n) (omega arith)) (enters_of_counted (suc n) x) (enters_or (kw_base ∷ []) simple_kinds (enters_of_base (suc n) x) (enters_of_simple (suc n) x))))

grows_signed : {n m : ℕ} {inner wide : Inner} → Widens n m inner wide → 0 < n → Grows (signed inner) (signed wide) unary_operators operand_follow false
grows_signed z some =
    to refl refl (grows_then (grows_one unary_operators (λ t. t) (sample_of bang) refl) refl (λ t. grows_then (grows_forms z some part.Unary) refl (λ a. grows_gives (signed_of t a))))

enters_signed : {inner : Inner} → AreExact inner → Enters kind unary_operators (signed inner)
enters_signed x = enters_then (enters_one unary_operators (λ t. t)) (λ t. then (x.forms part.Unary) refl (λ a. exact_gives (signed_of t a)))

pub grows_unary : {n m : ℕ} {inner wide : Inner} → Widens n m inner wide → Grows (unary n inner) (unary m wide) expression_kinds operand_follow false
grows_unary {n = n} {m = m} z =
    to refl refl
    (grows_where unary_operators (nat_lt 0 n) (nat_lt 0 m) refl refl (wider_room 0 z (omega arith)) (enters_signed z.exact) (λ r. (grows_signed z (ltb-true 0 n r)).deeper)
    (exact_signed z.exact) (grows_operand z))

pub enters_unary : {inner : Inner} (n : ℕ) → AreExact inner → Enters kind expression_kinds (unary (suc n) inner)
enters_unary n x =
    enters_narrow refl
    (enters_where unary_operators operand_kinds (nat_lt 0 (suc n)) (lt-ltb 0 (suc n) (omega arith)) (enters_signed x) (enters_operand n x))

pub grows_plain_unary : {n m : ℕ} {inner wide : Inner} → Widens n m inner wide → Grows (plain_unary n inner) (plain_unary m wide) plain_kinds operand_follow false
grows_plain_unary {n = n} {m = m} z =
    to refl refl
    (grows_where unary_operators (nat_lt 0 n) (nat_lt 0 m) refl refl (wider_room 0 z (omega arith)) (enters_signed z.exact) (λ r. (grows_signed z (ltb-true 0 n r)).deeper)
    (exact_signed z.exact) (grows_plain_operand z))

-- two-place operators, level by level

disjoint_nothing : (xs : List ℕ) → disjoint xs [] ≡ true
disjoint_nothing [] = refl
disjoint_nothing (x ∷ xs) = disjoint_nothing xs

grows_one_binary : {n m : ℕ} {inner wide : Inner} (operators : List ℕ) (right : Part) (a : Measured) → Widens n m inner wide → 0 < n → Deeper (one_binary inner operators right a) (one_binary wide operators right a)
grows_one_binary {inner = inner} {wide = wide} operators right a z some =
    deeper_then (deeper_one kind operators kind) (yields_any (one kind operators kind))
    (λ k _. deeper_then (z.forms some right) (yields_any (inner.forms right)) (λ b _. deeper_gives (binary_form a k b)) (λ b. exact_gives {kind = kind} (binary_form a k b)))
    (λ k. then (z.exact.forms right) (disjoint_nothing (follow_of right)) (λ b. exact_gives (binary_form a k b)))

enters_one_multiplicative : {inner : Inner} (a : Measured) → AreExact inner → Enters kind multiplicative_operators (one_binary inner multiplicative_operators part.Unary a)
enters_one_multiplicative a x = enters_then (enters_one multiplicative_operators kind) (λ k. then (x.forms part.Unary) refl (λ b. exact_gives (binary_form a k b)))

deeper_rounds_of_multiplicative : {n m : ℕ} {inner wide : Inner} (a : Measured) → Widens n m inner wide → AtMost n a → Deeper (binaries n inner multiplicative_operators part.Unary a) (binaries m wide multiplicative_operators part.Unary a)
deeper_rounds_of_multiplicative {inner = inner} a z p =
    deeper_rounds {f = one_binary inner multiplicative_operators part.Unary} multiplicative_operators a z.more p (λ b room. within_one_binary multiplicative_operators part.Unary b z.below room)
    (λ some b q. grows_one_binary multiplicative_operators part.Unary b z some) (λ b. enters_one_multiplicative b z.exact) (λ b. exact_one_multiplicative b z.exact)

pub deeper_multiplicative : {n m : ℕ} {inner wide : Inner} (a : Measured) → Widens n m inner wide → AtMost n a → Deeper (multiplicative n inner a) (multiplicative m wide a)
deeper_multiplicative a z p = deeper_rounds_of_multiplicative a z p

enters_one_additive : {inner : Inner} (a : Measured) → AreExact inner → Enters kind additive_operators (one_binary inner additive_operators part.Multiplicative a)
enters_one_additive a x = enters_then (enters_one additive_operators kind) (λ k. then (x.forms part.Multiplicative) refl (λ b. exact_gives (binary_form a k b)))

deeper_rounds_of_additive : {n m : ℕ} {inner wide : Inner} (a : Measured) → Widens n m inner wide → AtMost n a → Deeper (binaries n inner additive_operators part.Multiplicative a) (binaries m wide additive_operators part.Multiplicative a)
deeper_rounds_of_additive {inner = inner} a z p =
    deeper_rounds {f = one_binary inner additive_operators part.Multiplicative} additive_operators a z.more p (λ b room. within_one_binary additive_operators part.Multiplicative b z.below room)
    (λ some b q. grows_one_binary additive_operators part.Multiplicative b z some) (λ b. enters_one_additive b z.exact) (λ b. exact_one_additive b z.exact)

pub deeper_additive : {n m : ℕ} {inner wide : Inner} (a : Measured) → Widens n m inner wide → AtMost n a → Deeper (additive n inner a) (additive m wide a)
deeper_additive {m = m} a z p =
    deeper_then (deeper_multiplicative a z p) (within_multiplicative a z.below p) (λ b q. deeper_rounds_of_additive b z q)
    (λ b. repeat additive_operators (λ (c : Measured). nat_lt c.height m) b refl refl (λ c. exact_one_additive c z.exact))

enters_one_shift : {inner : Inner} (a : Measured) → AreExact inner → Enters kind shift_operators (one_binary inner shift_operators part.Additive a)
enters_one_shift a x = enters_then (enters_one shift_operators kind) (λ k. then (x.forms part.Additive) refl (λ b. exact_gives (binary_form a k b)))

deeper_rounds_of_shift : {n m : ℕ} {inner wide : Inner} (a : Measured) → Widens n m inner wide → AtMost n a → Deeper (binaries n inner shift_operators part.Additive a) (binaries m wide shift_operators part.Additive a)
deeper_rounds_of_shift {inner = inner} a z p =
    deeper_rounds {f = one_binary inner shift_operators part.Additive} shift_operators a z.more p (λ b room. within_one_binary shift_operators part.Additive b z.below room)
    (λ some b q. grows_one_binary shift_operators part.Additive b z some) (λ b. enters_one_shift b z.exact) (λ b. exact_one_shift b z.exact)

pub deeper_shift : {n m : ℕ} {inner wide : Inner} (a : Measured) → Widens n m inner wide → AtMost n a → Deeper (shift n inner a) (shift m wide a)
deeper_shift {m = m} a z p =
    deeper_then (deeper_additive a z p) (within_additive a z.below p) (λ b q. deeper_rounds_of_shift b z q)
    (λ b. repeat shift_operators (λ (c : Measured). nat_lt c.height m) b refl refl (λ c. exact_one_shift c z.exact))

grows_one_test : {n m : ℕ} {inner wide : Inner} (a : Measured) → Widens n m inner wide → Grows (one_test inner a) (one_test wide a) type_tests postfix_follow false
grows_one_test {inner = inner} {wide = wide} a z =
    to refl refl
    (grows_then (grows_one type_tests kind (sample_of kw_is) refl) refl
    (λ k. grows_then (grows (deeper_ty inner.ranks wide.ranks z.ranks) (exact_ty wide.ranks)) refl (λ t. grows_gives (test_form a k t))))

enters_one_relational : {inner : Inner} (a : Measured) → AreExact inner → Enters kind relational_operators (one_relation inner a)
enters_one_relational {inner = inner} a x =
    enters_narrow refl
    (enters_or type_tests comparisons
    (enters_then (enters_one type_tests kind) (λ k. then (exact_ty inner.ranks) refl (λ t. exact_gives (test_form a k t))))
    (enters_then (enters_one comparisons kind) (λ k. then (x.forms part.Shift) refl (λ b. exact_gives (binary_form a k b)))))

deeper_rounds_of_relational : {n m : ℕ} {inner wide : Inner} (a : Measured) → Widens n m inner wide → AtMost n a → Deeper (relations n inner a) (relations m wide a)
deeper_rounds_of_relational {inner = inner} a z p =
    deeper_rounds {f = one_relation inner} relational_operators a z.more p (λ b room. within_one_relation b z.below room)
    (λ some b q. deeper_or kind type_tests (grows_one_test b z).deeper (grows_one_binary comparisons part.Shift b z some)) (λ b. enters_one_relational b z.exact)
    (λ b. exact_one_relational b z.exact)

pub deeper_relational : {n m : ℕ} {inner wide : Inner} (a : Measured) → Widens n m inner wide → AtMost n a → Deeper (relational n inner a) (relational m wide a)
deeper_relational {m = m} a z p =
    deeper_then (deeper_shift a z p) (within_shift a z.below p) (λ b q. deeper_rounds_of_relational b z q)
    (λ b. repeat relational_operators (λ (c : Measured). nat_lt c.height m) b refl refl (λ c. exact_one_relational c z.exact))

enters_one_equality : {inner : Inner} (a : Measured) → AreExact inner → Enters kind equality_operators (one_binary inner equality_operators part.Relational a)
enters_one_equality a x = enters_then (enters_one equality_operators kind) (λ k. then (x.forms part.Relational) refl (λ b. exact_gives (binary_form a k b)))

deeper_rounds_of_equality : {n m : ℕ} {inner wide : Inner} (a : Measured) → Widens n m inner wide → AtMost n a → Deeper (binaries n inner equality_operators part.Relational a) (binaries m wide equality_operators part.Relational a)
deeper_rounds_of_equality {inner = inner} a z p =
    deeper_rounds {f = one_binary inner equality_operators part.Relational} equality_operators a z.more p (λ b room. within_one_binary equality_operators part.Relational b z.below room)
    (λ some b q. grows_one_binary equality_operators part.Relational b z some) (λ b. enters_one_equality b z.exact) (λ b. exact_one_equality b z.exact)

pub deeper_equality : {n m : ℕ} {inner wide : Inner} (a : Measured) → Widens n m inner wide → AtMost n a → Deeper (equality n inner a) (equality m wide a)
deeper_equality {m = m} a z p =
    deeper_then (deeper_relational a z p) (within_relational a z.below p) (λ b q. deeper_rounds_of_equality b z q)
    (λ b. repeat equality_operators (λ (c : Measured). nat_lt c.height m) b refl refl (λ c. exact_one_equality c z.exact))

enters_one_and : {inner : Inner} (a : Measured) → AreExact inner → Enters kind (amp ∷ []) (one_binary inner (amp ∷ []) part.Equality a)
enters_one_and a x = enters_then (enters_one (amp ∷ []) kind) (λ k. then (x.forms part.Equality) refl (λ b. exact_gives (binary_form a k b)))

deeper_rounds_of_and : {n m : ℕ} {inner wide : Inner} (a : Measured) → Widens n m inner wide → AtMost n a → Deeper (binaries n inner (amp ∷ []) part.Equality a) (binaries m wide (amp ∷ []) part.Equality a)
deeper_rounds_of_and {inner = inner} a z p =
    deeper_rounds {f = one_binary inner (amp ∷ []) part.Equality} (amp ∷ []) a z.more p (λ b room. within_one_binary (amp ∷ []) part.Equality b z.below room)
    (λ some b q. grows_one_binary (amp ∷ []) part.Equality b z some) (λ b. enters_one_and b z.exact) (λ b. exact_one_and b z.exact)

pub deeper_and : {n m : ℕ} {inner wide : Inner} (a : Measured) → Widens n m inner wide → AtMost n a → Deeper (and n inner a) (and m wide a)
deeper_and {m = m} a z p =
    deeper_then (deeper_equality a z p) (within_equality a z.below p) (λ b q. deeper_rounds_of_and b z q)
    (λ b. repeat (amp ∷ []) (λ (c : Measured). nat_lt c.height m) b refl refl (λ c. exact_one_and c z.exact))

enters_one_exclusive_or : {inner : Inner} (a : Measured) → AreExact inner → Enters kind (caret ∷ []) (one_binary inner (caret ∷ []) part.And a)
enters_one_exclusive_or a x = enters_then (enters_one (caret ∷ []) kind) (λ k. then (x.forms part.And) refl (λ b. exact_gives (binary_form a k b)))

deeper_rounds_of_exclusive_or : {n m : ℕ} {inner wide : Inner} (a : Measured) → Widens n m inner wide → AtMost n a → Deeper (binaries n inner (caret ∷ []) part.And a) (binaries m wide (caret ∷ []) part.And a)
deeper_rounds_of_exclusive_or {inner = inner} a z p =
    deeper_rounds {f = one_binary inner (caret ∷ []) part.And} (caret ∷ []) a z.more p (λ b room. within_one_binary (caret ∷ []) part.And b z.below room)
    (λ some b q. grows_one_binary (caret ∷ []) part.And b z some) (λ b. enters_one_exclusive_or b z.exact) (λ b. exact_one_exclusive_or b z.exact)

pub deeper_exclusive_or : {n m : ℕ} {inner wide : Inner} (a : Measured) → Widens n m inner wide → AtMost n a → Deeper (exclusive_or n inner a) (exclusive_or m wide a)
deeper_exclusive_or {m = m} a z p =
    deeper_then (deeper_and a z p) (within_and a z.below p) (λ b q. deeper_rounds_of_exclusive_or b z q)
    (λ b. repeat (caret ∷ []) (λ (c : Measured). nat_lt c.height m) b refl refl (λ c. exact_one_exclusive_or c z.exact))

enters_one_inclusive_or : {inner : Inner} (a : Measured) → AreExact inner → Enters kind (bar ∷ []) (one_binary inner (bar ∷ []) part.ExclusiveOr a)
enters_one_inclusive_or a x = enters_then (enters_one (bar ∷ []) kind) (λ k. then (x.forms part.ExclusiveOr) refl (λ b. exact_gives (binary_form a k b)))

deeper_rounds_of_inclusive_or : {n m : ℕ} {inner wide : Inner} (a : Measured) → Widens n m inner wide → AtMost n a → Deeper (binaries n inner (bar ∷ []) part.ExclusiveOr a) (binaries m wide (bar ∷ []) part.ExclusiveOr a)
deeper_rounds_of_inclusive_or {inner = inner} a z p =
    deeper_rounds {f = one_binary inner (bar ∷ []) part.ExclusiveOr} (bar ∷ []) a z.more p (λ b room. within_one_binary (bar ∷ []) part.ExclusiveOr b z.below room)
    (λ some b q. grows_one_binary (bar ∷ []) part.ExclusiveOr b z some) (λ b. enters_one_inclusive_or b z.exact) (λ b. exact_one_inclusive_or b z.exact)

pub deeper_inclusive_or : {n m : ℕ} {inner wide : Inner} (a : Measured) → Widens n m inner wide → AtMost n a → Deeper (inclusive_or n inner a) (inclusive_or m wide a)
deeper_inclusive_or {m = m} a z p =
    deeper_then (deeper_exclusive_or a z p) (within_exclusive_or a z.below p) (λ b q. deeper_rounds_of_inclusive_or b z q)
    (λ b. repeat (bar ∷ []) (λ (c : Measured). nat_lt c.height m) b refl refl (λ c. exact_one_inclusive_or c z.exact))

enters_one_conditional_and : {inner : Inner} (a : Measured) → AreExact inner → Enters kind (both ∷ []) (one_binary inner (both ∷ []) part.InclusiveOr a)
enters_one_conditional_and a x = enters_then (enters_one (both ∷ []) kind) (λ k. then (x.forms part.InclusiveOr) refl (λ b. exact_gives (binary_form a k b)))

deeper_rounds_of_conditional_and : {n m : ℕ} {inner wide : Inner} (a : Measured) → Widens n m inner wide → AtMost n a → Deeper (binaries n inner (both ∷ []) part.InclusiveOr a) (binaries m wide (both ∷ []) part.InclusiveOr a)
deeper_rounds_of_conditional_and {inner = inner} a z p =
    deeper_rounds {f = one_binary inner (both ∷ []) part.InclusiveOr} (both ∷ []) a z.more p (λ b room. within_one_binary (both ∷ []) part.InclusiveOr b z.below room)
    (λ some b q. grows_one_binary (both ∷ []) part.InclusiveOr b z some) (λ b. enters_one_conditional_and b z.exact) (λ b. exact_one_conditional_and b z.exact)

pub deeper_conditional_and : {n m : ℕ} {inner wide : Inner} (a : Measured) → Widens n m inner wide → AtMost n a → Deeper (conditional_and n inner a) (conditional_and m wide a)
deeper_conditional_and {m = m} a z p =
    deeper_then (deeper_inclusive_or a z p) (within_inclusive_or a z.below p) (λ b q. deeper_rounds_of_conditional_and b z q)
    (λ b. repeat (both ∷ []) (λ (c : Measured). nat_lt c.height m) b refl refl (λ c. exact_one_conditional_and c z.exact))

enters_one_conditional_or : {inner : Inner} (a : Measured) → AreExact inner → Enters kind (either_one ∷ []) (one_binary inner (either_one ∷ []) part.ConditionalAnd a)
enters_one_conditional_or a x = enters_then (enters_one (either_one ∷ []) kind) (λ k. then (x.forms part.ConditionalAnd) refl (λ b. exact_gives (binary_form a k b)))

deeper_rounds_of_conditional_or : {n m : ℕ} {inner wide : Inner} (a : Measured) → Widens n m inner wide → AtMost n a → Deeper (binaries n inner (either_one ∷ []) part.ConditionalAnd a) (binaries m wide (either_one ∷ []) part.ConditionalAnd a)
deeper_rounds_of_conditional_or {inner = inner} a z p =
    deeper_rounds {f = one_binary inner (either_one ∷ []) part.ConditionalAnd} (either_one ∷ []) a z.more p (λ b room. within_one_binary (either_one ∷ []) part.ConditionalAnd b z.below room)
    (λ some b q. grows_one_binary (either_one ∷ []) part.ConditionalAnd b z some) (λ b. enters_one_conditional_or b z.exact) (λ b. exact_one_conditional_or b z.exact)

pub deeper_conditional_or : {n m : ℕ} {inner wide : Inner} (a : Measured) → Widens n m inner wide → AtMost n a → Deeper (conditional_or n inner a) (conditional_or m wide a)
deeper_conditional_or {m = m} a z p =
    deeper_then (deeper_conditional_and a z p) (within_conditional_and a z.below p) (λ b q. deeper_rounds_of_conditional_or b z q)
    (λ b. repeat (either_one ∷ []) (λ (c : Measured). nat_lt c.height m) b refl refl (λ c. exact_one_conditional_or c z.exact))

-- ?:

grows_choosing : {n m : ℕ} {inner wide : Inner} (a : Measured) → Widens n m inner wide → 0 < n → Grows (choosing inner a) (choosing wide a) (question ∷ []) whole_follow false
grows_choosing a z some =
    to refl refl
    (grows_then (grows_sign question refl) refl
    (λ _. grows_then (grows_forms z some part.Whole) refl
    (λ b. grows_then (grows_sign colon refl) refl (λ _. grows_then (grows_forms z some part.Whole) refl (λ c. grows_gives (conditional_of a b c))))))

enters_choosing : {inner : Inner} (a : Measured) → AreExact inner → Enters kind (question ∷ []) (choosing inner a)
enters_choosing a x =
    enters_then (enters_one (question ∷ []) (λ _. tt))
    (λ _. then (x.forms part.Whole) refl (λ b. then (exact_sign colon refl) refl (λ _. then (x.forms part.Whole) refl (λ c. exact_gives (conditional_of a b c)))))

grows_chosen : {n m : ℕ} {inner wide : Inner} (a : Measured) → Widens n m inner wide → AtMost n a → Grows (chosen n inner a) (chosen m wide a) (question ∷ []) whole_follow true
grows_chosen {n = n} {m = m} a z p =
    to refl refl
    (grows_where (question ∷ []) (nat_lt a.height n) (nat_lt a.height m) refl refl (wider_room a.height z (omega arith)) (enters_choosing a z.exact)
    (λ r. let room = ltb-true a.height n r in (grows_choosing a z (omega arith)).deeper) (exact_choosing a z.exact) (grows_gives a))

pub deeper_conditional : {n m : ℕ} {inner wide : Inner} (a : Measured) → Widens n m inner wide → AtMost n a → Deeper (conditional n inner a) (conditional m wide a)
deeper_conditional {m = m} a z p =
    deeper_then (deeper_conditional_or a z p) (within_conditional_or a z.below p) (λ b q. (grows_chosen b z q).deeper) (λ b. exact_chosen m b z.exact)

-- what begins with `global` inside parentheses

grows_rest_of_form : {n m : ℕ} {inner wide : Inner} (a : Measured) → Widens n m inner wide → AtMost n a → Grows (rest_of_form n inner a) (rest_of_form m wide a) operator_kinds whole_follow true
grows_rest_of_form {m = m} a z p =
    to refl refl (grows_then (grows (deeper_conditional a z p) (exact_conditional m a z.exact)) refl (λ b. grows_gives (form_led b)))

grows_named_led : (t : TypeForm) → Grows (named_led t) (named_led t) names [] false
grows_named_led t = to refl refl (grows_then grows_any_name refl (λ name. grows_gives (led.Named t name)))

enters_named_led : (t : TypeForm) → Enters kind names (named_led t)
enters_named_led t = enters_then (enters_one names name_of) (λ name. exact_gives (led.Named t name))

grows_array_led : {n m : ℕ} {inner wide : Inner} (t : TypeForm) → Widens n m inner wide → t.ranks + 1 ≤ inner.ranks → Grows (array_led inner.blocks inner.ranks t) (array_led wide.blocks wide.ranks t) (unbracket ∷ []) (bracket ∷ names) false
grows_array_led {inner = inner} {wide = wide} t z p =
    to refl refl
    (grows_then (grows_sign unbracket refl) refl
    (λ _. grows_then (grows (deeper_ranks inner.ranks wide.ranks (array_of t) z.ranks p) (exact_ranks wide.ranks (array_of t))) refl
    (λ u. grows_where names (nat_lt 0 inner.blocks) (nat_lt 0 wide.blocks) refl refl (block_room z) (enters_named_led u) (λ r. (grows_named_led u).deeper) (grows_named_led u).exact
    (grows_gives (type_led u)))))

grows_behind_index : {n m : ℕ} {inner wide : Inner} (a : Measured) → Widens n m inner wide → AtMost n a → Grows (do _ ← sign unbracket; b ← postfixes n inner a; rest_of_form n inner b) (do _ ← sign unbracket; b ← postfixes m wide a; rest_of_form m wide b) (unbracket ∷ []) whole_follow false
grows_behind_index {m = m} a z p =
    to refl refl
    (grows_then (grows_sign unbracket refl) refl
    (λ _. grows_with (grows_postfixes a z p) (within_postfixes a z.below p) refl (λ b q. (grows_rest_of_form b z q).deeper) (λ b. exact_rest_of_form m b z.exact)))

grows_index_led : {n m : ℕ} {inner wide : Inner} (a : Measured) → Widens n m inner wide → a.height < n → Grows (index_led n inner a) (index_led m wide a) expression_kinds whole_follow false
grows_index_led {m = m} a z room =
    to refl refl
    (grows_with (grows_forms z (omega arith) part.Whole) (z.below.forms (omega arith) part.Whole) refl (λ i p. (grows_behind_index (index_of a i) z (omega arith)).deeper)
    (λ i. then (exact_sign unbracket refl) refl (λ _. then (exact_postfixes m (index_of a i) z.exact) refl (λ b. exact_rest_of_form m b z.exact))))

enters_index_led : {n m : ℕ} {inner wide : Inner} (a : Measured) → Widens n m inner wide → Enters kind expression_kinds (index_led m wide a)
enters_index_led {m = m} a z =
    enters_then z.enters
    (λ i. then (exact_sign unbracket refl) refl (λ _. then (exact_postfixes m (index_of a i) z.exact) refl (λ b. exact_rest_of_form m b z.exact)))

grows_bracket_led : {n m : ℕ} {inner wide : Inner} (s : Spot) (path_names : List (List ℕ)) → Widens n m inner wide → Grows (bracket_led n inner s path_names) (bracket_led m wide s path_names) (bracket ∷ []) whole_follow false
grows_bracket_led {n = n} {m = m} {inner = inner} {wide = wide} s path_names z =
    let a = path_alone s path_names in
    let some_ranks = z.some_ranks in
    to refl refl
    (grows_then (grows_sign bracket refl) refl
    (λ _. grows_where expression_kinds (nat_lt 0 n) (nat_lt 0 m) refl refl (wider_room 0 z (omega arith)) (enters_index_led a z)
    (λ r. (grows_index_led a z (ltb-true 0 n r)).deeper) (exact_index_led m a z.exact)
    (grows_array_led (global_type s path_names) z (omega arith))))

grows_called_led : {n m : ℕ} {inner wide : Inner} (s : Spot) (path_names : List (List ℕ)) → Widens n m inner wide → Grows (called_led n inner s path_names) (called_led m wide s path_names) (paren ∷ operator_kinds) whole_follow true
grows_called_led {n = n} {m = m} s path_names z =
    let a = path_alone s path_names in
    to refl refl
    (grows_with
    (grows_where (paren ∷ []) (nat_lt 0 n) (nat_lt 0 m) refl refl (wider_room 0 z (omega arith)) (enters_called_path m s path_names z.exact)
    (λ r. (grows_called_path s path_names z (ltb-true 0 n r)).deeper) (exact_called_path m s path_names z.exact) (grows_gives a))
    (yields_where (paren ∷ []) (nat_lt 0 n) (λ r. within_called_path s path_names z.below (ltb-true 0 n r)) (yields_gives {P = AtMost n} a (omega arith)))
    refl (λ b p. (grows_rest_of_form b z p).deeper) (λ b. exact_rest_of_form m b z.exact))

grows_path_led : {n m : ℕ} {inner wide : Inner} (s : Spot) → Widens n m inner wide → Grows (path_led n inner s) (path_led m wide s) (colons ∷ []) whole_follow false
grows_path_led {inner = inner} {wide = wide} s z =
    to refl refl
    (grows_then (grows_sign colons refl) refl
    (λ _. grows_then grows_path refl
    (λ path_names. grows_where names (nat_lt 0 inner.blocks) (nat_lt 0 wide.blocks) refl refl (block_room z) (enters_named_led (global_type s path_names))
    (λ r. (grows_named_led (global_type s path_names)).deeper) (grows_named_led (global_type s path_names)).exact
    (grows_or (bracket ∷ []) refl refl (grows_bracket_led s path_names z) (grows_called_led s path_names z)))))

grows_name_led : {n m : ℕ} {inner wide : Inner} (g : Measured) → Widens n m inner wide → AtMost n g → Grows (name_led n inner g) (name_led m wide g) (dot ∷ bracket ∷ operator_kinds) whole_follow true
grows_name_led {m = m} g z p =
    to refl refl
    (grows_with (grows_postfixes g z p) (within_postfixes g z.below p) refl (λ a q. (grows_rest_of_form a z q).deeper) (λ a. exact_rest_of_form m a z.exact))

pub deeper_lead : {n m : ℕ} {inner wide : Inner} → Widens n m inner wide → Deeper (lead n inner) (lead m wide)
deeper_lead {n = n} {m = m} {inner = inner} {wide = wide} z =
    deeper_then grows_global_leaf.deeper (leaf_within n)
    (λ g p. deeper_or {g = path_led n inner g.spot} kind (colons ∷ []) (grows_path_led g.spot z).deeper (grows_name_led g z p).deeper)
    (λ (g : Measured). or (colons ∷ []) refl refl (grows_path_led g.spot z).exact (exact_name_led m g z.exact))
