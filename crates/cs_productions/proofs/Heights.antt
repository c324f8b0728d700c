-- What is read within a number of levels is no higher.
use Rattle.std.proofs.Common.{◌≡◌, ℕ, zero, suc, ◌+◌, ◌-◌, ◌<◌, ◌≤◌, Bool, true, false, List, [], ◌∷◌, Option, Some, None, refl, sym, subst, nat_lt, arith}
use Rattle.std.proofs.lemmas.Bool.{ltb-true}
use Rattle.cs_token.specs.Placed.{Placed as Token}
use Rattle.cs_tree.specs.declared.types.Spot.{Spot}
use Rattle.cs_tree.specs.declared.types.TypeForm.{TypeForm}
use Rattle.cs_tree.specs.declared.types.Param.{Param}
use Rattle.cs_tree.specs.declared.forms.Block.{Block}
use Rattle.cs_productions.specs.declared.values.Measured.{Measured}
use Rattle.cs_productions.specs.declared.values.Args.{Args}
use Rattle.cs_productions.specs.declared.values.Lead.{Lead}
use Rattle.cs_productions.specs.declared.values.Lead.TheVariants as led
use Rattle.cs_productions.specs.declared.values.Part.{Part}
use Rattle.cs_productions.specs.declared.values.Part.TheVariants as part
use Rattle.cs_grammar.specs.Grammar.{Grammar, one, TakesOne, guarded}
use Rattle.cs_grammar.specs.Levels.{Yields}
use Rattle.cs_grammar.proofs.Basics.{one_sound}
use Rattle.cs_grammar.proofs.Deeper.{yields_any, yields_gives, yields_then, yields_or, yields_limit, yields_guard, yields_turns}
use Rattle.cs_productions.specs.Kinds.{names, paren, unparen, bracket, unbracket, comma, dot, colon, colons, question, arrow, global, keyword_types, operand_kinds, expression_kinds, simple_kinds, counted_kinds, unary_operators, multiplicative_operators, additive_operators, shift_operators, comparisons, type_tests, relational_operators, equality_operators, amp, caret, bar, both, either_one, kw_base, kw_new, kw_default, kw_checked, kw_unchecked, kw_ref, kw_out}
use Rattle.cs_productions.specs.Tokens.{kind, sign, place, any_name, simple_of}
use Rattle.cs_productions.specs.Types.{path, named_type, ranks, ty, way, type_of_keyword, global_type, array_of, passed_param, more_params}
use Rattle.cs_productions.specs.Inner.{Inner}
use Rattle.cs_productions.specs.Calls.{with_arg, no_args, one_arg, one_more_arg, arguments, member_of, call_of, called, one_member, index_of, one_index, one_postfix, postfixes}
use Rattle.cs_productions.specs.Primaries.{base_call, of_base, global_call, path_alone, called_path, indexed, behind_path, global_path, global_leaf, of_global, new_object, of_new_object, new_array, behind_array, of_new_array, of_new, default_of, of_default, checked_of, of_checked, of_simple}
use Rattle.cs_productions.specs.Operators.{in_parentheses, lambda_of, lambda, lambda_behind, lambda_from_way, lambda_from_type, cast_of, casting, cast_to, path_of, closed_form, closed, led_in, behind_type, keyword_in, plain_in, behind_paren, of_counted, plain_operand, operand, signed_of, signed, unary, plain_unary, binary_form, one_binary, binaries, test_form, one_test, one_relation, relations, multiplicative, additive, shift, relational, equality, and, exclusive_or, inclusive_or, conditional_and, conditional_or, conditional_of, choosing, conditional, form_led, type_led, rest_of_form, named_led, array_led, index_led, bracket_led, called_led, path_led, name_led, lead}
use Rattle.cs_productions.specs.Levels.{forms_at, at, below}

-- more ways to tell what is read

pub yields_one : {A : Type 0} {P : A → Type 0} (kinds : List ℕ) (f : Token → A) → ((t : Token) → P (f t)) → Yields P (one kind kinds f)
yields_one {A = A} {P = P} kinds f p = record { yields = λ ts a rest e. of ts a rest (one_sound kind kinds f ts a rest e) }
  where
    of : (ts : List Token) (a : A) (rest : List Token) → TakesOne kind kinds f ts a rest → P a
    of [] a rest d = absurd d
    of (t ∷ ts) a rest d = subst P (sym d.1) (p t)

-- what is read where there is room, is asked for only there
pub yields_where : {A : Type 0} {P : A → Type 0} {g h : Grammar Token A} (first : List ℕ) (room : Bool) → (room ≡ true → Yields P g) → Yields P h → Yields P (guarded kind room first g h)
yields_where first true y z = yields_or kind first (y refl) z
yields_where first false y z = yields_limit kind first z

abbrev pub AtMost : ℕ → Measured → Type 0
AtMost n a = a.height ≤ n

abbrev pub Below : ℕ → Measured → Type 0
Below n a = a.height < n

abbrev pub ArgsBelow : ℕ → Args → Type 0
ArgsBelow n args = args.height < n

-- a name behind a type is a lambda's parameter, which asks for a block
abbrev pub LeadWithin : ℕ → (Measured → Type 0) → Lead → Type 0
LeadWithin blocks P (led.Form a) = P a
LeadWithin blocks P (led.Type t) = Unit {0}
LeadWithin blocks P (led.Named t n) = 0 < blocks

-- what stands one level lower is lower, where there is a level at all
pub record AreBelow (n : ℕ) (inner : Inner) : Type 0 where
  pub forms : 0 < n → (p : Part) → Yields (Below n) (inner.forms p)
  pub lead : 0 < n → Yields (LeadWithin inner.blocks (Below n)) inner.lead

-- arguments and postfixes

pub below_one_arg : {n : ℕ} {inner : Inner} (before : Args) → AreBelow n inner → 0 < n → ArgsBelow n before → Yields (ArgsBelow n) (one_arg inner before)
below_one_arg {n = n} before y some b =
    yields_then {Q = λ _. Unit {0}} (yields_any way)
    (λ w _. yields_then (y.forms some part.Whole) (λ a p. yields_gives {P = ArgsBelow n} (with_arg before w a) (omega arith)))

pub below_arguments : {n : ℕ} {inner : Inner} → AreBelow n inner → 0 < n → Yields (ArgsBelow n) (arguments inner)
below_arguments {n = n} {inner = inner} y some =
    yields_then {Q = λ _. Unit {0}} (yields_any (sign paren))
    (λ _ _. yields_or kind (unparen ∷ []) (yields_then {Q = λ _. Unit {0}} (yields_any (sign unparen)) (λ _ _. yields_gives {P = ArgsBelow n} no_args some))
    (yields_then (below_one_arg no_args y some some)
    (λ first p. yields_then
    (yields_turns {f = one_more_arg inner} kind (comma ∷ []) (λ _. true) first p
    (λ before q _. yields_then {Q = λ _. Unit {0}} (yields_any (sign comma)) (λ _ _. below_one_arg before y some q)))
    (λ all q. yields_then {Q = λ _. Unit {0}} (yields_any (sign unparen)) (λ _ _. yields_gives {P = ArgsBelow n} all q)))))

pub within_called : {n : ℕ} {inner : Inner} (h : ℕ) (call : Args → Measured) (else : Measured) → AreBelow n inner → (h < n → (args : Args) → ArgsBelow n args → AtMost n (call args)) → AtMost n else → Yields (AtMost n) (called n inner h call else)
within_called {n = n} h call else y c e =
    yields_where (paren ∷ []) (nat_lt h n)
    (λ r. let room = ltb-true h n r in yields_then (below_arguments y (omega arith)) (λ args p. yields_gives {P = AtMost n} (call args) (c room args p)))
    (yields_gives {P = AtMost n} else e)

pub within_one_member : {n : ℕ} {inner : Inner} (a : Measured) → AreBelow n inner → a.height < n → Yields (AtMost n) (one_member n inner a)
within_one_member a y room =
    yields_then {Q = λ _. Unit {0}} (yields_any (sign dot))
    (λ _ _. yields_then {Q = λ _. Unit {0}} (yields_any any_name) (λ name _. within_called (a.height + 1) (call_of a name) (member_of a name) y (λ more args p. omega arith) (omega arith)))

pub within_one_index : {n : ℕ} {inner : Inner} (a : Measured) → AreBelow n inner → a.height < n → Yields (AtMost n) (one_index inner a)
within_one_index {n = n} a y room =
    yields_then {Q = λ _. Unit {0}} (yields_any (sign bracket))
    (λ _ _. yields_then (y.forms (omega arith) part.Whole)
    (λ i p. yields_then {Q = λ _. Unit {0}} (yields_any (sign unbracket)) (λ _ _. yields_gives {P = AtMost n} (index_of a i) (omega arith))))

pub within_postfixes : {n : ℕ} {inner : Inner} (a : Measured) → AreBelow n inner → AtMost n a → Yields (AtMost n) (postfixes n inner a)
within_postfixes {n = n} {inner = inner} a y p =
    yields_turns {f = one_postfix n inner} kind (dot ∷ bracket ∷ []) (λ (b : Measured). nat_lt b.height n) a p
    (λ b q r. let room = ltb-true b.height n r in yields_or kind (dot ∷ []) (within_one_member b y room) (within_one_index b y room))

-- primaries

abbrev any_sign : (k : ℕ) → Yields (λ _. Unit {0}) (sign k)
any_sign k = yields_any (sign k)

pub within_of_base : {n : ℕ} {inner : Inner} → AreBelow n inner → Yields (AtMost n) (of_base n inner)
within_of_base y =
    yields_then {Q = λ _. Unit {0}} (yields_any (place kw_base))
    (λ s _. yields_then {Q = λ _. Unit {0}} (any_sign dot)
    (λ _ _. yields_then {Q = λ _. Unit {0}} (yields_any any_name)
    (λ name _. yields_then (within_called 0 (base_call s name) _ y (λ room args p. omega arith) (omega arith)) (λ a p. within_postfixes a y p))))

pub within_called_path : {n : ℕ} {inner : Inner} (s : Spot) (path_names : List (List ℕ)) → AreBelow n inner → 0 < n → Yields (AtMost n) (called_path n inner s path_names)
within_called_path s path_names y some =
    yields_then (below_arguments y some) (λ args p. within_postfixes (global_call s path_names args) y (omega arith))

pub within_indexed : {n : ℕ} {inner : Inner} (a : Measured) → AreBelow n inner → a.height < n → Yields (AtMost n) (indexed n inner a)
within_indexed a y room = yields_then (within_one_index a y room) (λ b p. within_postfixes b y p)

pub within_behind_path : {n : ℕ} {inner : Inner} (s : Spot) (path_names : List (List ℕ)) → AreBelow n inner → Yields (AtMost n) (behind_path n inner s path_names)
within_behind_path {n = n} s path_names y =
    yields_where (paren ∷ []) (nat_lt 0 n) (λ r. within_called_path s path_names y (ltb-true 0 n r))
    (yields_where (bracket ∷ []) (nat_lt 0 n) (λ r. within_indexed (path_alone s path_names) y (ltb-true 0 n r)) (yields_gives {P = AtMost n} _ (omega arith)))

pub within_of_global : {n : ℕ} {inner : Inner} → AreBelow n inner → Yields (AtMost n) (of_global n inner)
within_of_global {n = n} {inner = inner} y =
    yields_then (yields_one {P = AtMost n} (global ∷ []) global_leaf (λ t. omega arith))
    (λ g p. yields_or {g = global_path n inner g.spot} kind (colons ∷ [])
    (yields_then {Q = λ _. Unit {0}} (any_sign colons) (λ _ _. yields_then {Q = λ _. Unit {0}} (yields_any path) (λ path_names _. within_behind_path g.spot path_names y)))
    (within_postfixes g y p))

pub within_of_new_object : {n : ℕ} {inner : Inner} (s : Spot) (t : TypeForm) → AreBelow n inner → 0 < n → Yields (AtMost n) (of_new_object n inner s t)
within_of_new_object s t y some = yields_then (below_arguments y some) (λ args p. within_postfixes (new_object s t args) y (omega arith))

pub within_behind_array : {n : ℕ} {inner : Inner} (a : Measured) → AreBelow n inner → AtMost n a → Yields (AtMost n) (behind_array n inner a)
within_behind_array {n = n} a y p =
    yields_where (dot ∷ []) (nat_lt a.height n)
    (λ r. yields_then (within_one_member a y (ltb-true a.height n r)) (λ b q. within_postfixes b y q)) (yields_gives {P = AtMost n} a p)

pub within_of_new_array : {n : ℕ} {inner : Inner} (s : Spot) (t : TypeForm) → AreBelow n inner → 0 < n → Yields (AtMost n) (of_new_array n inner s t)
within_of_new_array {inner = inner} s t y some =
    yields_then {Q = λ _. Unit {0}} (any_sign bracket)
    (λ _ _. yields_then (y.forms some part.Whole)
    (λ length p. yields_then {Q = λ _. Unit {0}} (any_sign unbracket)
    (λ _ _. yields_then {Q = λ _. Unit {0}} (yields_any (ranks (inner.ranks - 1) t)) (λ element _. within_behind_array (new_array s element length) y (omega arith)))))

pub within_of_new : {n : ℕ} {inner : Inner} → AreBelow n inner → 0 < n → Yields (AtMost n) (of_new n inner)
within_of_new y some =
    yields_then {Q = λ _. Unit {0}} (yields_any (place kw_new))
    (λ s _. yields_then {Q = λ _. Unit {0}} (yields_any named_type)
    (λ t _. yields_or kind (paren ∷ []) (within_of_new_object s t y some) (within_of_new_array s t y some)))

pub within_of_default : {n : ℕ} {inner : Inner} → AreBelow n inner → 0 < n → Yields (AtMost n) (of_default n inner)
within_of_default {inner = inner} y some =
    yields_then {Q = λ _. Unit {0}} (yields_any (place kw_default))
    (λ s _. yields_then {Q = λ _. Unit {0}} (any_sign paren)
    (λ _ _. yields_then {Q = λ _. Unit {0}} (yields_any (ty inner.ranks))
    (λ t _. yields_then {Q = λ _. Unit {0}} (any_sign unparen) (λ _ _. within_postfixes (default_of s t) y (omega arith)))))

pub within_of_checked : {n : ℕ} {inner : Inner} → AreBelow n inner → 0 < n → Yields (AtMost n) (of_checked n inner)
within_of_checked y some =
    yields_then {Q = λ _. Unit {0}} (yields_any (one kind (kw_checked ∷ kw_unchecked ∷ []) (λ t. t)))
    (λ t _. yields_then {Q = λ _. Unit {0}} (any_sign paren)
    (λ _ _. yields_then (y.forms some part.Whole)
    (λ a p. yields_then {Q = λ _. Unit {0}} (any_sign unparen) (λ _ _. within_postfixes (checked_of t a) y (omega arith)))))

pub within_of_simple : {n : ℕ} {inner : Inner} → AreBelow n inner → Yields (AtMost n) (of_simple n inner)
within_of_simple {n = n} y =
    yields_then (yields_one {P = AtMost n} simple_kinds simple_of (λ t. omega arith)) (λ a p. within_postfixes a y p)

-- lambdas, casts and parentheses

pub within_lambda : {n : ℕ} {inner : Inner} (s : Spot) (params : List Param) → AreBelow n inner → 0 < n → Yields (AtMost n) (lambda n inner s params)
within_lambda {inner = inner} s params y some =
    yields_then {Q = λ _. Unit {0}} (any_sign unparen)
    (λ _ _. yields_then {Q = λ _. Unit {0}} (any_sign arrow)
    (λ _ _. yields_then {Q = λ _. Unit {0}} (yields_any inner.block) (λ block _. within_postfixes (lambda_of s params block) y (omega arith))))

pub within_lambda_behind : {n : ℕ} {inner : Inner} (s : Spot) (first : Param) → AreBelow n inner → 0 < n → Yields (AtMost n) (lambda_behind n inner s first)
within_lambda_behind {inner = inner} s first y some =
    yields_then {Q = λ _. Unit {0}} (yields_any (more_params inner.ranks (first ∷ []))) (λ params _. within_lambda s params y some)

pub within_lambda_from_way : {n : ℕ} {inner : Inner} (s : Spot) → AreBelow n inner → 0 < n → Yields (AtMost n) (lambda_from_way n inner s)
within_lambda_from_way {inner = inner} s y some =
    yields_then {Q = λ _. Unit {0}} (yields_any (passed_param inner.ranks)) (λ first _. within_lambda_behind s first y some)

pub within_lambda_from_type : {n : ℕ} {inner : Inner} (s : Spot) (t : TypeForm) → AreBelow n inner → 0 < n → Yields (AtMost n) (lambda_from_type n inner s t)
within_lambda_from_type s t y some =
    yields_then {Q = λ _. Unit {0}} (yields_any any_name) (λ name _. within_lambda_behind s _ y some)

pub within_casting : {n : ℕ} {inner : Inner} (s : Spot) (t : TypeForm) → AreBelow n inner → 0 < n → Yields (AtMost n) (casting inner s t)
within_casting {n = n} s t y some = yields_then (y.forms some part.Operand) (λ a p. yields_gives {P = AtMost n} (cast_of s t a) (omega arith))

pub within_cast_to : {n : ℕ} {inner : Inner} (s : Spot) (t : TypeForm) → AreBelow n inner → 0 < n → Yields (AtMost n) (cast_to inner s t)
within_cast_to s t y some = yields_then {Q = λ _. Unit {0}} (any_sign unparen) (λ _ _. within_casting s t y some)

pub within_closed_form : {n : ℕ} {inner : Inner} (s : Spot) (a : Measured) (p : Option TypeForm) → AreBelow n inner → a.height < n → Yields (AtMost n) (closed_form n inner s a p)
within_closed_form s a None y room = within_postfixes (in_parentheses s a) y (omega arith)
within_closed_form s a (Some t) y room = yields_or kind operand_kinds (within_casting s t y (omega arith)) (within_postfixes (in_parentheses s a) y (omega arith))

pub within_closed : {n : ℕ} {inner : Inner} (s : Spot) (l : Lead) → AreBelow n inner → 0 < n → LeadWithin inner.blocks (Below n) l → Yields (AtMost n) (closed n inner s l)
within_closed s (led.Form a) y some room = yields_then {Q = λ _. Unit {0}} (any_sign unparen) (λ _ _. within_closed_form s a (path_of a.form) y room)
within_closed s (led.Type t) y some room = within_cast_to s t y some
within_closed s (led.Named t name) y some room = within_lambda_behind s _ y some

pub within_led_in : {n : ℕ} {inner : Inner} (s : Spot) → AreBelow n inner → 0 < n → Yields (AtMost n) (led_in n inner s)
within_led_in s y some = yields_then (y.lead some) (λ l p. within_closed s l y some p)

pub within_behind_type : {n : ℕ} {inner : Inner} (s : Spot) (t : TypeForm) → AreBelow n inner → 0 < n → Yields (AtMost n) (behind_type n inner s t)
within_behind_type {inner = inner} s t y some = yields_guard kind names (nat_lt 0 inner.blocks) (within_lambda_from_type s t y some) (within_cast_to s t y some)

pub within_keyword_in : {n : ℕ} {inner : Inner} (s : Spot) → AreBelow n inner → 0 < n → Yields (AtMost n) (keyword_in n inner s)
within_keyword_in {inner = inner} s y some =
    yields_then {Q = λ _. Unit {0}} (yields_any (type_of_keyword inner.ranks)) (λ t _. within_behind_type s t y some)

pub within_plain_in : {n : ℕ} {inner : Inner} (s : Spot) → AreBelow n inner → 0 < n → Yields (AtMost n) (plain_in n inner s)
within_plain_in s y some =
    yields_then (y.forms some part.Plain)
    (λ a p. yields_then {Q = λ _. Unit {0}} (any_sign unparen) (λ _ _. within_postfixes (in_parentheses s a) y (omega arith)))

pub within_behind_paren : {n : ℕ} {inner : Inner} (s : Spot) → AreBelow n inner → 0 < n → Yields (AtMost n) (behind_paren n inner s)
within_behind_paren {inner = inner} s y some =
    yields_guard kind (unparen ∷ kw_ref ∷ kw_out ∷ []) (nat_lt 0 inner.blocks)
    (yields_or kind (unparen ∷ []) (within_lambda s [] y some) (within_lambda_from_way s y some))
    (yields_or kind keyword_types (within_keyword_in s y some) (yields_or kind (global ∷ []) (within_led_in s y some) (within_plain_in s y some)))

-- operands and unary operators

pub within_of_counted : {n : ℕ} {inner : Inner} → AreBelow n inner → 0 < n → Yields (AtMost n) (of_counted n inner)
within_of_counted y some =
    yields_or kind (paren ∷ []) (yields_then {Q = λ _. Unit {0}} (yields_any (place paren)) (λ s _. within_behind_paren s y some))
    (yields_or kind (kw_new ∷ []) (within_of_new y some) (yields_or kind (kw_default ∷ []) (within_of_default y some) (within_of_checked y some)))

pub within_plain_operand : {n : ℕ} {inner : Inner} → AreBelow n inner → Yields (AtMost n) (plain_operand n inner)
within_plain_operand {n = n} y =
    yields_where counted_kinds (nat_lt 0 n) (λ r. within_of_counted y (ltb-true 0 n r)) (yields_or kind (kw_base ∷ []) (within_of_base y) (within_of_simple y))

pub within_operand : {n : ℕ} {inner : Inner} → AreBelow n inner → Yields (AtMost n) (operand n inner)
within_operand y = yields_or kind (global ∷ []) (within_of_global y) (within_plain_operand y)

pub within_signed : {n : ℕ} {inner : Inner} → AreBelow n inner → 0 < n → Yields (AtMost n) (signed inner)
within_signed {n = n} y some =
    yields_then {Q = λ _. Unit {0}} (yields_any (one kind unary_operators (λ t. t)))
    (λ t _. yields_then (y.forms some part.Unary) (λ a p. yields_gives {P = AtMost n} (signed_of t a) (omega arith)))

pub within_unary : {n : ℕ} {inner : Inner} → AreBelow n inner → Yields (AtMost n) (unary n inner)
within_unary {n = n} y = yields_where unary_operators (nat_lt 0 n) (λ r. within_signed y (ltb-true 0 n r)) (within_operand y)

pub within_plain_unary : {n : ℕ} {inner : Inner} → AreBelow n inner → Yields (AtMost n) (plain_unary n inner)
within_plain_unary {n = n} y = yields_where unary_operators (nat_lt 0 n) (λ r. within_signed y (ltb-true 0 n r)) (within_plain_operand y)

-- two-place operators

pub within_one_binary : {n : ℕ} {inner : Inner} (operators : List ℕ) (right : Part) (a : Measured) → AreBelow n inner → a.height < n → Yields (AtMost n) (one_binary inner operators right a)
within_one_binary {n = n} operators right a y room =
    yields_then {Q = λ _. Unit {0}} (yields_any (one kind operators kind))
    (λ k _. yields_then (y.forms (omega arith) right) (λ b p. yields_gives {P = AtMost n} (binary_form a k b) (omega arith)))

pub within_binaries : {n : ℕ} {inner : Inner} (operators : List ℕ) (right : Part) (a : Measured) → AreBelow n inner → AtMost n a → Yields (AtMost n) (binaries n inner operators right a)
within_binaries {n = n} {inner = inner} operators right a y p =
    yields_turns {f = one_binary inner operators right} kind operators (λ (b : Measured). nat_lt b.height n) a p
    (λ b q r. within_one_binary operators right b y (ltb-true b.height n r))

pub within_one_relation : {n : ℕ} {inner : Inner} (a : Measured) → AreBelow n inner → a.height < n → Yields (AtMost n) (one_relation inner a)
within_one_relation {n = n} {inner = inner} a y room =
    yields_or {g = one_test inner a} kind type_tests
    (yields_then {Q = λ _. Unit {0}} (yields_any (one kind type_tests kind))
    (λ k _. yields_then {Q = λ _. Unit {0}} (yields_any (ty inner.ranks)) (λ t _. yields_gives {P = AtMost n} (test_form a k t) (omega arith))))
    (within_one_binary comparisons part.Shift a y room)

pub within_relations : {n : ℕ} {inner : Inner} (a : Measured) → AreBelow n inner → AtMost n a → Yields (AtMost n) (relations n inner a)
within_relations {n = n} {inner = inner} a y p =
    yields_turns {f = one_relation inner} kind relational_operators (λ (b : Measured). nat_lt b.height n) a p (λ b q r. within_one_relation b y (ltb-true b.height n r))

pub within_multiplicative : {n : ℕ} {inner : Inner} (a : Measured) → AreBelow n inner → AtMost n a → Yields (AtMost n) (multiplicative n inner a)
within_multiplicative a y p = within_binaries multiplicative_operators part.Unary a y p

pub within_additive : {n : ℕ} {inner : Inner} (a : Measured) → AreBelow n inner → AtMost n a → Yields (AtMost n) (additive n inner a)
within_additive a y p = yields_then (within_multiplicative a y p) (λ b q. within_binaries additive_operators part.Multiplicative b y q)

pub within_shift : {n : ℕ} {inner : Inner} (a : Measured) → AreBelow n inner → AtMost n a → Yields (AtMost n) (shift n inner a)
within_shift a y p = yields_then (within_additive a y p) (λ b q. within_binaries shift_operators part.Additive b y q)

pub within_relational : {n : ℕ} {inner : Inner} (a : Measured) → AreBelow n inner → AtMost n a → Yields (AtMost n) (relational n inner a)
within_relational a y p = yields_then (within_shift a y p) (λ b q. within_relations b y q)

pub within_equality : {n : ℕ} {inner : Inner} (a : Measured) → AreBelow n inner → AtMost n a → Yields (AtMost n) (equality n inner a)
within_equality a y p = yields_then (within_relational a y p) (λ b q. within_binaries equality_operators part.Relational b y q)

pub within_and : {n : ℕ} {inner : Inner} (a : Measured) → AreBelow n inner → AtMost n a → Yields (AtMost n) (and n inner a)
within_and a y p = yields_then (within_equality a y p) (λ b q. within_binaries (amp ∷ []) part.Equality b y q)

pub within_exclusive_or : {n : ℕ} {inner : Inner} (a : Measured) → AreBelow n inner → AtMost n a → Yields (AtMost n) (exclusive_or n inner a)
within_exclusive_or a y p = yields_then (within_and a y p) (λ b q. within_binaries (caret ∷ []) part.And b y q)

pub within_inclusive_or : {n : ℕ} {inner : Inner} (a : Measured) → AreBelow n inner → AtMost n a → Yields (AtMost n) (inclusive_or n inner a)
within_inclusive_or a y p = yields_then (within_exclusive_or a y p) (λ b q. within_binaries (bar ∷ []) part.ExclusiveOr b y q)

pub within_conditional_and : {n : ℕ} {inner : Inner} (a : Measured) → AreBelow n inner → AtMost n a → Yields (AtMost n) (conditional_and n inner a)
within_conditional_and a y p = yields_then (within_inclusive_or a y p) (λ b q. within_binaries (both ∷ []) part.InclusiveOr b y q)

pub within_conditional_or : {n : ℕ} {inner : Inner} (a : Measured) → AreBelow n inner → AtMost n a → Yields (AtMost n) (conditional_or n inner a)
within_conditional_or a y p = yields_then (within_conditional_and a y p) (λ b q. within_binaries (either_one ∷ []) part.ConditionalAnd b y q)

pub within_choosing : {n : ℕ} {inner : Inner} (a : Measured) → AreBelow n inner → a.height < n → Yields (AtMost n) (choosing inner a)
within_choosing {n = n} a y room =
    yields_then {Q = λ _. Unit {0}} (any_sign question)
    (λ _ _. yields_then (y.forms (omega arith) part.Whole)
    (λ b p. yields_then {Q = λ _. Unit {0}} (any_sign colon)
    (λ _ _. yields_then (y.forms (omega arith) part.Whole) (λ c q. yields_gives {P = AtMost n} (conditional_of a b c) (omega arith)))))

pub within_conditional : {n : ℕ} {inner : Inner} (a : Measured) → AreBelow n inner → AtMost n a → Yields (AtMost n) (conditional n inner a)
within_conditional {n = n} a y p =
    yields_then (within_conditional_or a y p)
    (λ b q. yields_where (question ∷ []) (nat_lt b.height n) (λ r. within_choosing b y (ltb-true b.height n r)) (yields_gives {P = AtMost n} b q))

-- what begins with `global` inside parentheses

pub within_rest_of_form : {n : ℕ} {inner : Inner} (a : Measured) → AreBelow n inner → AtMost n a → Yields (LeadWithin inner.blocks (AtMost n)) (rest_of_form n inner a)
within_rest_of_form {n = n} {inner = inner} a y p =
    yields_then (within_conditional a y p) (λ b q. yields_gives {P = LeadWithin inner.blocks (AtMost n)} (form_led b) q)

pub within_named_led : {n : ℕ} (blocks : ℕ) (t : TypeForm) → 0 < blocks → Yields (LeadWithin blocks (AtMost n)) (named_led t)
within_named_led {n = n} blocks t may =
    yields_then {Q = λ _. Unit {0}} (yields_any any_name) (λ name _. yields_gives {P = LeadWithin blocks (AtMost n)} (led.Named t name) may)

pub within_array_led : {n : ℕ} (blocks limit : ℕ) (t : TypeForm) → Yields (LeadWithin blocks (AtMost n)) (array_led blocks limit t)
within_array_led {n = n} blocks limit t =
    yields_then {Q = λ _. Unit {0}} (any_sign unbracket)
    (λ _ _. yields_then {Q = λ _. Unit {0}} (yields_any (ranks limit (array_of t)))
    (λ u _. yields_where names (nat_lt 0 blocks) (λ r. within_named_led blocks u (ltb-true 0 blocks r)) (yields_gives {P = LeadWithin blocks (AtMost n)} (type_led u) tt)))

pub within_index_led : {n : ℕ} {inner : Inner} (a : Measured) → AreBelow n inner → a.height < n → Yields (LeadWithin inner.blocks (AtMost n)) (index_led n inner a)
within_index_led a y room =
    yields_then (y.forms (omega arith) part.Whole)
    (λ i p. yields_then {Q = λ _. Unit {0}} (any_sign unbracket)
    (λ _ _. yields_then (within_postfixes (index_of a i) y (omega arith)) (λ b q. within_rest_of_form b y q)))

pub within_bracket_led : {n : ℕ} {inner : Inner} (s : Spot) (path_names : List (List ℕ)) → AreBelow n inner → Yields (LeadWithin inner.blocks (AtMost n)) (bracket_led n inner s path_names)
within_bracket_led {n = n} {inner = inner} s path_names y =
    yields_then {Q = λ _. Unit {0}} (any_sign bracket)
    (λ _ _. yields_where expression_kinds (nat_lt 0 n) (λ r. within_index_led (path_alone s path_names) y (ltb-true 0 n r)) (within_array_led inner.blocks inner.ranks (global_type s path_names)))

pub within_called_led : {n : ℕ} {inner : Inner} (s : Spot) (path_names : List (List ℕ)) → AreBelow n inner → Yields (LeadWithin inner.blocks (AtMost n)) (called_led n inner s path_names)
within_called_led {n = n} s path_names y =
    yields_then
    (yields_where (paren ∷ []) (nat_lt 0 n) (λ r. within_called_path s path_names y (ltb-true 0 n r)) (yields_gives {P = AtMost n} _ (omega arith)))
    (λ a p. within_rest_of_form a y p)

pub within_path_led : {n : ℕ} {inner : Inner} (s : Spot) → AreBelow n inner → Yields (LeadWithin inner.blocks (AtMost n)) (path_led n inner s)
within_path_led {inner = inner} s y =
    yields_then {Q = λ _. Unit {0}} (any_sign colons)
    (λ _ _. yields_then {Q = λ _. Unit {0}} (yields_any path)
    (λ path_names _. yields_where names (nat_lt 0 inner.blocks) (λ r. within_named_led inner.blocks (global_type s path_names) (ltb-true 0 inner.blocks r))
    (yields_or kind (bracket ∷ []) (within_bracket_led s path_names y) (within_called_led s path_names y))))

pub within_lead : {n : ℕ} {inner : Inner} → AreBelow n inner → Yields (LeadWithin inner.blocks (AtMost n)) (lead n inner)
within_lead {n = n} {inner = inner} y =
    yields_then (yields_one {P = AtMost n} (global ∷ []) global_leaf (λ t. omega arith))
    (λ g p. yields_or {h = name_led n inner g} kind (colons ∷ []) (within_path_led g.spot y) (yields_then (within_postfixes g y p) (λ a q. within_rest_of_form a y q)))

-- levels

pub within_forms_at : {n : ℕ} {inner : Inner} (p : Part) → AreBelow n inner → Yields (AtMost n) (forms_at n inner p)
within_forms_at part.Operand y = within_operand y
within_forms_at part.Unary y = within_unary y
within_forms_at part.Multiplicative y = yields_then (within_unary y) (λ a p. within_multiplicative a y p)
within_forms_at part.Additive y = yields_then (within_unary y) (λ a p. within_additive a y p)
within_forms_at part.Shift y = yields_then (within_unary y) (λ a p. within_shift a y p)
within_forms_at part.Relational y = yields_then (within_unary y) (λ a p. within_relational a y p)
within_forms_at part.Equality y = yields_then (within_unary y) (λ a p. within_equality a y p)
within_forms_at part.And y = yields_then (within_unary y) (λ a p. within_and a y p)
within_forms_at part.ExclusiveOr y = yields_then (within_unary y) (λ a p. within_exclusive_or a y p)
within_forms_at part.InclusiveOr y = yields_then (within_unary y) (λ a p. within_inclusive_or a y p)
within_forms_at part.ConditionalAnd y = yields_then (within_unary y) (λ a p. within_conditional_and a y p)
within_forms_at part.Whole y = yields_then (within_unary y) (λ a p. within_conditional a y p)
within_forms_at part.Plain y = yields_then (within_plain_unary y) (λ a p. within_conditional a y p)

lead_below : (blocks n : ℕ) (l : Lead) → LeadWithin blocks (AtMost n) l → LeadWithin blocks (Below (suc n)) l
lead_below blocks n (led.Form a) p = omega arith
lead_below blocks n (led.Type t) p = tt
lead_below blocks n (led.Named t name) p = p

pub below_at : {n : ℕ} {inner : Inner} → AreBelow n inner → AreBelow (suc n) (at n inner)
below_at {n = n} {inner = inner} y =
    record {
      forms = λ _ p. record { yields = λ ts a rest e. let h : AtMost n a = (within_forms_at p y).yields ts a rest e in omega arith };
      lead = λ _. record { yields = λ ts l rest e. lead_below inner.blocks n l ((within_lead y).yields ts l rest e) };
    }

pub are_below : (block : Grammar Token Block) (blocks limit n : ℕ) → AreBelow n (below block blocks limit n)
are_below block blocks limit zero = record { forms = λ some p. absurd (omega arith); lead = λ some. absurd (omega arith) }
are_below block blocks limit (suc n) = below_at (are_below block blocks limit n)
