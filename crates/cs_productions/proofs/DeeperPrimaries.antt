-- Primary expressions without parentheses, with more levels.
use Rattle.std.proofs.Common.{ℕ, ◌-◌, ◌<◌, ◌≤◌, true, false, List, [], ◌∷◌, ◌++◌, refl, nat_lt, arith}
use Rattle.std.proofs.lemmas.Bool.{ltb-true}
use Rattle.cs_token.specs.Placed.{Placed as Token}
use Rattle.cs_tree.specs.declared.types.Spot.{Spot}
use Rattle.cs_tree.specs.declared.types.TypeForm.{TypeForm}
use Rattle.cs_tree.specs.declared.forms.Form.TheVariants as form
use Rattle.cs_productions.specs.declared.values.Measured.{Measured}
use Rattle.cs_productions.specs.declared.values.Part.TheVariants.{Whole}
use Rattle.cs_grammar.specs.Grammar.{one, ◌>>=◌, either}
use Rattle.cs_grammar.specs.Exact.{Exact}
use Rattle.cs_grammar.specs.Levels.{Yields, Enters}
use Rattle.cs_grammar.proofs.Basics.{wider}
use Rattle.cs_grammar.proofs.Bind.{then}
use Rattle.cs_grammar.proofs.Either.{or}
use Rattle.cs_grammar.proofs.Deeper.{enters_one, enters_then}
use Rattle.cs_productions.specs.Kinds.{names, paren, unparen, bracket, unbracket, dot, colons, global, kw_base, kw_new, kw_default, kw_checked, kw_unchecked, simple_kinds}
use Rattle.cs_productions.specs.Tokens.{kind, sign, spot_of, leaf, simple_of}
use Rattle.cs_productions.specs.Types.{path, ranks}
use Rattle.cs_productions.specs.Inner.{Inner}
use Rattle.cs_productions.specs.Calls.{postfixes}
use Rattle.cs_productions.specs.Primaries.{base_call, of_base, global_call, path_alone, called_path, indexed, behind_path, global_path, global_leaf, of_global, new_object, of_new_object, new_array, with_member, behind_array, of_new_array, of_new, default_of, of_default, checked_of, of_checked, of_simple}
use Rattle.cs_productions.proofs.Follow.{postfix_follow, AreExact}
use Rattle.cs_productions.proofs.ExactTokens.{sample, sample_of, global_sample, exact_sign, exact_any_name}
use Rattle.cs_token.specs.declared.lexeme.Lexeme.TheVariants as lexeme
use Rattle.cs_productions.proofs.ExactTypes.{exact_path, exact_named_type, exact_ranks, exact_ty}
use Rattle.cs_productions.proofs.ExactCalls.{exact_called, exact_postfixes}
use Rattle.cs_productions.proofs.ExactPrimaries.{exact_global_path, exact_called_path, exact_indexed, exact_of_new_object, exact_with_member, exact_behind_array, exact_of_new_array}
use Rattle.cs_productions.proofs.Heights.{AtMost, yields_one, below_arguments, within_called, within_one_member, within_one_index}
use Rattle.cs_productions.proofs.DeeperTypes.{deeper_path, deeper_named_type, ranked_named_type, deeper_ranks, deeper_ty}
use Rattle.cs_productions.proofs.Growing.{Grows, grows, to, grows_gives, grows_one, grows_sign, grows_place, grows_any_name, grows_then, grows_with, grows_or, grows_where}
use Rattle.cs_productions.proofs.DeeperCalls.{Widens, grows_forms, wider_room, grows_arguments, enters_arguments, grows_called, grows_one_member, grows_one_index, enters_one_member, enters_one_index, deeper_postfixes, grows_postfixes}

pub grows_path : Grows path path names (dot ∷ []) false
grows_path = grows deeper_path exact_path

pub grows_of_base : {n m : ℕ} {inner wide : Inner} → Widens n m inner wide → Grows (of_base n inner) (of_base m wide) (kw_base ∷ []) postfix_follow false
grows_of_base {m = m} z =
    to refl refl
    (grows_then (grows_place kw_base refl) refl
    (λ s. grows_then (grows_sign dot refl) refl
    (λ _. grows_then grows_any_name refl
    (λ name. grows_with (grows_called 0 (base_call s name) (leaf (form.BaseMember s name) s) z (omega arith))
    (within_called 0 (base_call s name) (leaf (form.BaseMember s name) s) z.below (λ room args p. omega arith) (omega arith)) refl (λ a p. deeper_postfixes a z p)
    (λ a. exact_postfixes m a z.exact)))))

pub grows_called_path : {n m : ℕ} {inner wide : Inner} (s : Spot) (path_names : List (List ℕ)) → Widens n m inner wide → 0 < n → Grows (called_path n inner s path_names) (called_path m wide s path_names) (paren ∷ []) postfix_follow false
grows_called_path {m = m} s path_names z some =
    to refl refl
    (grows_with (grows_arguments z some) (below_arguments z.below some) refl (λ args p. deeper_postfixes (global_call s path_names args) z (omega arith))
    (λ args. exact_postfixes m (global_call s path_names args) z.exact))

pub enters_called_path : {inner : Inner} (m : ℕ) (s : Spot) (path_names : List (List ℕ)) → AreExact inner → Enters kind (paren ∷ []) (called_path m inner s path_names)
enters_called_path m s path_names x = enters_then (enters_arguments x) (λ args. exact_postfixes m (global_call s path_names args) x)

grows_indexed : {n m : ℕ} {inner wide : Inner} (a : Measured) → Widens n m inner wide → a.height < n → Grows (indexed n inner a) (indexed m wide a) (bracket ∷ []) postfix_follow false
grows_indexed {m = m} a z room =
    to refl refl
    (grows_with (grows_one_index a z (omega arith)) (within_one_index a z.below room) refl (λ b p. deeper_postfixes b z p) (λ b. exact_postfixes m b z.exact))

enters_indexed : {inner : Inner} (m : ℕ) (a : Measured) → AreExact inner → Enters kind (bracket ∷ []) (indexed m inner a)
enters_indexed m a x = enters_then (enters_one_index a x) (λ b. exact_postfixes m b x)

grows_behind_path : {n m : ℕ} {inner wide : Inner} (s : Spot) (path_names : List (List ℕ)) → Widens n m inner wide → Grows (behind_path n inner s path_names) (behind_path m wide s path_names) (paren ∷ bracket ∷ []) postfix_follow true
grows_behind_path {n = n} {m = m} s path_names z =
    let a = path_alone s path_names in
    to refl refl
    (grows_where (paren ∷ []) (nat_lt 0 n) (nat_lt 0 m) refl refl (wider_room 0 z (omega arith)) (enters_called_path m s path_names z.exact)
    (λ r. (grows_called_path s path_names z (ltb-true 0 n r)).deeper) (exact_called_path m s path_names z.exact)
    (grows_where (bracket ∷ []) (nat_lt 0 n) (nat_lt 0 m) refl refl (wider_room 0 z (omega arith)) (enters_indexed m a z.exact)
    (λ r. (grows_indexed a z (ltb-true 0 n r)).deeper) (exact_indexed m a z.exact) (grows_gives a)))

grows_global_path : {n m : ℕ} {inner wide : Inner} (s : Spot) → Widens n m inner wide → Grows (global_path n inner s) (global_path m wide s) (colons ∷ []) postfix_follow false
grows_global_path s z =
    to refl refl (grows_then (grows_sign colons refl) refl (λ _. grows_then grows_path refl (λ path_names. grows_behind_path s path_names z)))

pub grows_global_leaf : Grows (one kind (global ∷ []) global_leaf) (one kind (global ∷ []) global_leaf) (global ∷ []) [] false
grows_global_leaf = grows_one (global ∷ []) global_leaf global_sample refl

pub leaf_within : (n : ℕ) → Yields (AtMost n) (one kind (global ∷ []) global_leaf)
leaf_within n = yields_one {P = AtMost n} (global ∷ []) global_leaf (λ t. omega arith)

pub grows_of_global : {n m : ℕ} {inner wide : Inner} → Widens n m inner wide → Grows (of_global n inner) (of_global m wide) (global ∷ []) (colons ∷ postfix_follow) false
grows_of_global {n = n} {m = m} {inner = inner} {wide = wide} z =
    to refl refl
    (grows_with grows_global_leaf (leaf_within n) refl (λ g p. (behind g p).deeper)
    (λ (g : Measured). or (colons ∷ []) refl refl (grows_global_path g.spot z).exact (exact_postfixes m g z.exact)))
  where
    behind : (g : Measured) (p : AtMost n g) → Grows (either kind (colons ∷ []) (global_path n inner g.spot) (postfixes n inner g)) (either kind (colons ∷ []) (global_path m wide g.spot) (postfixes m wide g)) (colons ∷ dot ∷ bracket ∷ []) (colons ∷ postfix_follow) true
    behind g p = to refl refl (grows_or (colons ∷ []) refl refl (grows_global_path g.spot z) (grows_postfixes g z p))

-- new

grows_of_new_object : {n m : ℕ} {inner wide : Inner} (s : Spot) (t : TypeForm) → Widens n m inner wide → 0 < n → Grows (of_new_object n inner s t) (of_new_object m wide s t) (paren ∷ []) postfix_follow false
grows_of_new_object {m = m} s t z some =
    to refl refl
    (grows_with (grows_arguments z some) (below_arguments z.below some) refl (λ args p. deeper_postfixes (new_object s t args) z (omega arith))
    (λ args. exact_postfixes m (new_object s t args) z.exact))

grows_with_member : {n m : ℕ} {inner wide : Inner} (a : Measured) → Widens n m inner wide → a.height < n → Grows (with_member n inner a) (with_member m wide a) (dot ∷ []) postfix_follow false
grows_with_member {m = m} a z room =
    to refl refl
    (grows_with (grows_one_member a z (omega arith)) (within_one_member a z.below room) refl (λ b p. deeper_postfixes b z p) (λ b. exact_postfixes m b z.exact))

grows_behind_array : {n m : ℕ} {inner wide : Inner} (a : Measured) → Widens n m inner wide → AtMost n a → Grows (behind_array n inner a) (behind_array m wide a) (dot ∷ []) postfix_follow true
grows_behind_array {n = n} {m = m} a z p =
    to refl refl
    (grows_where (dot ∷ []) (nat_lt a.height n) (nat_lt a.height m) refl refl (wider_room a.height z (omega arith))
    (enters_then (enters_one_member m a z.exact) (λ b. exact_postfixes m b z.exact)) (λ r. (grows_with_member a z (ltb-true a.height n r)).deeper) (exact_with_member m a z.exact) (grows_gives a))

grows_of_new_array : {n m : ℕ} {inner wide : Inner} (s : Spot) (t : TypeForm) → Widens n m inner wide → 0 < n → t.ranks ≤ 0 → Grows (of_new_array n inner s t) (of_new_array m wide s t) (bracket ∷ []) postfix_follow false
grows_of_new_array {n = n} {m = m} {inner = inner} {wide = wide} s t z some flat =
    let some_ranks = z.some_ranks in
    let more_ranks = z.ranks in
    to refl refl
    (grows_then (grows_sign bracket refl) refl
    (λ _. grows_with (grows_forms z some Whole) (z.below.forms some Whole) refl
    (λ length p. (behind length p).deeper)
    (λ length. then (exact_sign unbracket refl) refl (λ _. then (exact_ranks (wide.ranks - 1) t) refl (λ element. exact_behind_array m (new_array s element length) z.exact)))))
  where
    behind : (length : Measured) → length.height < n → Grows (do _ ← sign unbracket; element ← ranks (inner.ranks - 1) t; behind_array n inner (new_array s element length)) (do _ ← sign unbracket; element ← ranks (wide.ranks - 1) t; behind_array m wide (new_array s element length)) (unbracket ∷ []) (bracket ∷ postfix_follow) false
    behind length p =
        let some_ranks = z.some_ranks in
        let more_ranks = z.ranks in
        to refl refl
        (grows_then (grows_sign unbracket refl) refl
        (λ _. grows_then (grows (deeper_ranks (inner.ranks - 1) (wide.ranks - 1) t (omega arith) (omega arith)) (exact_ranks (wide.ranks - 1) t)) refl
        (λ element. grows_behind_array (new_array s element length) z (omega arith))))

grows_behind_new : {n m : ℕ} {inner wide : Inner} (s : Spot) (t : TypeForm) → Widens n m inner wide → 0 < n → t.ranks ≤ 0 → Grows (either kind (paren ∷ []) (of_new_object n inner s t) (of_new_array n inner s t)) (either kind (paren ∷ []) (of_new_object m wide s t) (of_new_array m wide s t)) (paren ∷ bracket ∷ []) postfix_follow false
grows_behind_new s t z some flat = to refl refl (grows_or (paren ∷ []) refl refl (grows_of_new_object s t z some) (grows_of_new_array s t z some flat))

exact_behind_new : {inner : Inner} (m : ℕ) (s : Spot) (t : TypeForm) → AreExact inner → Exact kind (either kind (paren ∷ []) (of_new_object m inner s t) (of_new_array m inner s t)) (paren ∷ bracket ∷ []) (postfix_follow ++ postfix_follow) false
exact_behind_new m s t x = wider refl refl (or (paren ∷ []) refl refl (exact_of_new_object m s t x) (exact_of_new_array m s t x))

pub grows_of_new : {n m : ℕ} {inner wide : Inner} → Widens n m inner wide → 0 < n → Grows (of_new n inner) (of_new m wide) (kw_new ∷ []) postfix_follow false
grows_of_new {n = n} {m = m} z some =
    to refl refl
    (grows_then (grows_place kw_new refl) refl
    (λ s. grows_with (grows deeper_named_type exact_named_type) (ranked_named_type 0) refl (λ t flat. (grows_behind_new s t z some flat).deeper) (λ t. exact_behind_new m s t z.exact)))

-- default, checked, unchecked, and what is one token

pub grows_of_default : {n m : ℕ} {inner wide : Inner} → Widens n m inner wide → 0 < n → Grows (of_default n inner) (of_default m wide) (kw_default ∷ []) postfix_follow false
grows_of_default {inner = inner} {wide = wide} z some =
    to refl refl
    (grows_then (grows_place kw_default refl) refl
    (λ s. grows_then (grows_sign paren refl) refl
    (λ _. grows_then (grows (deeper_ty inner.ranks wide.ranks z.ranks) (exact_ty wide.ranks)) refl
    (λ t. grows_then (grows_sign unparen refl) refl (λ _. grows_postfixes (default_of s t) z (omega arith))))))

pub grows_of_checked : {n m : ℕ} {inner wide : Inner} → Widens n m inner wide → 0 < n → Grows (of_checked n inner) (of_checked m wide) (kw_checked ∷ kw_unchecked ∷ []) postfix_follow false
grows_of_checked {n = n} {m = m} {inner = inner} {wide = wide} z some =
    to refl refl
    (grows_then (grows_one (kw_checked ∷ kw_unchecked ∷ []) (λ t. t) (sample_of kw_checked) refl) refl
    (λ t. grows_then (grows_sign paren refl) refl
    (λ _. grows_with (grows_forms z some Whole) (z.below.forms some Whole) refl
    (λ a p. (behind t a p).deeper)
    (λ a. then (exact_sign unparen refl) refl (λ _. exact_postfixes m (checked_of t a) z.exact)))))
  where
    behind : (t : Token) (a : Measured) → a.height < n → Grows (do _ ← sign unparen; postfixes n inner (checked_of t a)) (do _ ← sign unparen; postfixes m wide (checked_of t a)) (unparen ∷ []) postfix_follow false
    behind t a p = to refl refl (grows_then (grows_sign unparen refl) refl (λ _. grows_postfixes (checked_of t a) z (omega arith)))

pub grows_of_simple : {n m : ℕ} {inner wide : Inner} → Widens n m inner wide → Grows (of_simple n inner) (of_simple m wide) simple_kinds postfix_follow false
grows_of_simple {n = n} {m = m} z =
    to refl refl
    (grows_with (grows_one simple_kinds simple_of (sample (lexeme.Name [])) refl) (yields_one {P = AtMost n} simple_kinds simple_of (λ t. omega arith)) refl
    (λ a p. deeper_postfixes a z p) (λ a. exact_postfixes m a z.exact))

-- what a next token enters

pub enters_of_new : {inner : Inner} (m : ℕ) → AreExact inner → Enters kind (kw_new ∷ []) (of_new m inner)
enters_of_new m x = enters_then (enters_one (kw_new ∷ []) spot_of) (λ s. then exact_named_type refl (λ t. exact_behind_new m s t x))

pub enters_of_default : {inner : Inner} (m : ℕ) → AreExact inner → Enters kind (kw_default ∷ []) (of_default m inner)
enters_of_default {inner = inner} m x =
    enters_then (enters_one (kw_default ∷ []) spot_of)
    (λ s. then (exact_sign paren refl) refl (λ _. then (exact_ty inner.ranks) refl (λ t. then (exact_sign unparen refl) refl (λ _. exact_postfixes m (default_of s t) x))))

pub enters_of_checked : {inner : Inner} (m : ℕ) → AreExact inner → Enters kind (kw_checked ∷ kw_unchecked ∷ []) (of_checked m inner)
enters_of_checked m x =
    enters_then (enters_one (kw_checked ∷ kw_unchecked ∷ []) (λ t. t))
    (λ t. then (exact_sign paren refl) refl (λ _. then (x.forms Whole) refl (λ a. then (exact_sign unparen refl) refl (λ _. exact_postfixes m (checked_of t a) x))))

pub enters_of_base : {inner : Inner} (m : ℕ) → AreExact inner → Enters kind (kw_base ∷ []) (of_base m inner)
enters_of_base m x =
    enters_then (enters_one (kw_base ∷ []) spot_of)
    (λ s. then (exact_sign dot refl) refl (λ _. then exact_any_name refl (λ name. then (exact_called m 0 _ _ x) refl (λ a. exact_postfixes m a x))))

pub enters_of_global : {inner : Inner} (m : ℕ) → AreExact inner → Enters kind (global ∷ []) (of_global m inner)
enters_of_global m x =
    enters_then (enters_one (global ∷ []) global_leaf) (λ (g : Measured). or (colons ∷ []) refl refl (exact_global_path m g.spot x) (exact_postfixes m g x))

pub enters_of_simple : {inner : Inner} (m : ℕ) → AreExact inner → Enters kind simple_kinds (of_simple m inner)
enters_of_simple m x = enters_then (enters_one simple_kinds simple_of) (λ a. exact_postfixes m a x)
