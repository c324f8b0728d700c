-- Primary expressions without parentheses are exact.
use Rattle.std.proofs.Common.{ℕ, ◌-◌, true, false, List, [], ◌∷◌, refl, nat_lt}
use Rattle.cs_tree.specs.declared.types.Spot.{Spot}
use Rattle.cs_tree.specs.declared.types.TypeForm.{TypeForm}
use Rattle.cs_productions.specs.declared.values.Measured.{Measured}
use Rattle.cs_productions.specs.declared.values.Part.TheVariants.{Whole}
use Rattle.cs_grammar.specs.Exact.{Exact}
use Rattle.cs_grammar.proofs.Basics.{exact_gives, exact_one, wider}
use Rattle.cs_grammar.proofs.Bind.{then}
use Rattle.cs_grammar.proofs.Either.{or}
use Rattle.cs_grammar.proofs.Limited.{guard}
use Rattle.cs_productions.specs.Kinds.{paren, unparen, bracket, unbracket, dot, colons, global, kw_base, kw_new, kw_default, kw_checked, kw_unchecked, simple_kinds}
use Rattle.cs_productions.specs.Tokens.{kind}
use Rattle.cs_productions.specs.Inner.{Inner}
use Rattle.cs_productions.specs.Primaries.{of_base, path_alone, called_path, indexed, behind_path, global_path, global_leaf, of_global, of_new_object, with_member, behind_array, of_new_array, of_new, of_default, of_checked, of_simple}
use Rattle.cs_productions.proofs.Follow.{postfix_follow, AreExact}
use Rattle.cs_productions.proofs.ExactTokens.{sample_of, global_sample, exact_sign, exact_place, exact_any_name, exact_simple}
use Rattle.cs_productions.proofs.ExactTypes.{exact_path, exact_named_type, exact_ranks, exact_ty}
use Rattle.cs_productions.proofs.ExactCalls.{exact_arguments, exact_called, exact_one_member, exact_one_index, exact_postfixes}

pub exact_of_base : {inner : Inner} (n : ℕ) → AreExact inner → Exact kind (of_base n inner) (kw_base ∷ []) postfix_follow false
exact_of_base n x =
    wider refl refl
    (then (exact_place kw_base refl) refl
    (λ s. then (exact_sign dot refl) refl (λ _. then exact_any_name refl (λ name. then (exact_called n 0 _ _ x) refl (λ a. exact_postfixes n a x)))))

pub exact_called_path : {inner : Inner} (n : ℕ) (s : Spot) (names : List (List ℕ)) → AreExact inner → Exact kind (called_path n inner s names) (paren ∷ []) postfix_follow false
exact_called_path n s names x = wider refl refl (then (exact_arguments x) refl (λ args. exact_postfixes n _ x))

pub exact_indexed : {inner : Inner} (n : ℕ) (a : Measured) → AreExact inner → Exact kind (indexed n inner a) (bracket ∷ []) postfix_follow false
exact_indexed n a x = wider refl refl (then (exact_one_index a x) refl (λ b. exact_postfixes n b x))

pub exact_behind_path : {inner : Inner} (n : ℕ) (s : Spot) (names : List (List ℕ)) → AreExact inner → Exact kind (behind_path n inner s names) (paren ∷ bracket ∷ []) postfix_follow true
exact_behind_path n s names x =
    wider refl refl
    (guard (paren ∷ []) (nat_lt 0 n) refl refl (exact_called_path n s names x) (guard (bracket ∷ []) (nat_lt 0 n) refl refl (exact_indexed n (path_alone s names) x) (exact_gives _)))

pub exact_global_path : {inner : Inner} (n : ℕ) (s : Spot) → AreExact inner → Exact kind (global_path n inner s) (colons ∷ []) postfix_follow false
exact_global_path n s x =
    wider refl refl (then (exact_sign colons refl) refl (λ _. then exact_path refl (λ names. exact_behind_path n s names x)))

pub exact_of_global : {inner : Inner} (n : ℕ) → AreExact inner → Exact kind (of_global n inner) (global ∷ []) (colons ∷ postfix_follow) false
exact_of_global n x =
    wider refl refl
    (then (exact_one (global ∷ []) global_leaf global_sample refl) refl
    (λ (g : Measured). or (colons ∷ []) refl refl (exact_global_path n g.spot x) (exact_postfixes n g x)))

pub exact_of_new_object : {inner : Inner} (n : ℕ) (s : Spot) (t : TypeForm) → AreExact inner → Exact kind (of_new_object n inner s t) (paren ∷ []) postfix_follow false
exact_of_new_object n s t x = wider refl refl (then (exact_arguments x) refl (λ args. exact_postfixes n _ x))

pub exact_with_member : {inner : Inner} (n : ℕ) (a : Measured) → AreExact inner → Exact kind (with_member n inner a) (dot ∷ []) postfix_follow false
exact_with_member n a x = wider refl refl (then (exact_one_member n a x) refl (λ b. exact_postfixes n b x))

pub exact_behind_array : {inner : Inner} (n : ℕ) (a : Measured) → AreExact inner → Exact kind (behind_array n inner a) (dot ∷ []) postfix_follow true
exact_behind_array n a x = wider refl refl (guard (dot ∷ []) (nat_lt a.height n) refl refl (exact_with_member n a x) (exact_gives a))

pub exact_of_new_array : {inner : Inner} (n : ℕ) (s : Spot) (t : TypeForm) → AreExact inner → Exact kind (of_new_array n inner s t) (bracket ∷ []) postfix_follow false
exact_of_new_array {inner = inner} n s t x =
    wider refl refl
    (then (exact_sign bracket refl) refl
    (λ _. then (x.forms Whole) refl
    (λ length. then (exact_sign unbracket refl) refl (λ _. then (exact_ranks (inner.ranks - 1) t) refl (λ element. exact_behind_array n _ x)))))

pub exact_of_new : {inner : Inner} (n : ℕ) → AreExact inner → Exact kind (of_new n inner) (kw_new ∷ []) postfix_follow false
exact_of_new n x =
    wider refl refl
    (then (exact_place kw_new refl) refl
    (λ s. then exact_named_type refl (λ t. or (paren ∷ []) refl refl (exact_of_new_object n s t x) (exact_of_new_array n s t x))))

pub exact_of_default : {inner : Inner} (n : ℕ) → AreExact inner → Exact kind (of_default n inner) (kw_default ∷ []) postfix_follow false
exact_of_default {inner = inner} n x =
    wider refl refl
    (then (exact_place kw_default refl) refl
    (λ s. then (exact_sign paren refl) refl (λ _. then (exact_ty inner.ranks) refl (λ t. then (exact_sign unparen refl) refl (λ _. exact_postfixes n _ x)))))

pub exact_of_checked : {inner : Inner} (n : ℕ) → AreExact inner → Exact kind (of_checked n inner) (kw_checked ∷ kw_unchecked ∷ []) postfix_follow false
exact_of_checked n x =
    wider refl refl
    (then (exact_one (kw_checked ∷ kw_unchecked ∷ []) (λ t. t) (sample_of kw_checked) refl) refl
    (λ t. then (exact_sign paren refl) refl (λ _. then (x.forms Whole) refl (λ a. then (exact_sign unparen refl) refl (λ _. exact_postfixes n _ x)))))

pub exact_of_simple : {inner : Inner} (n : ℕ) → AreExact inner → Exact kind (of_simple n inner) simple_kinds postfix_follow false
exact_of_simple n x = wider refl refl (then exact_simple refl (λ a. exact_postfixes n a x))
