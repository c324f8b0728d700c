-- Arguments and what stands behind a primary expression are exact.
use Rattle.std.proofs.Common.{ℕ, true, false, [], ◌∷◌, refl, nat_lt}
use Rattle.cs_productions.specs.declared.values.Measured.{Measured}
use Rattle.cs_productions.specs.declared.values.Args.{Args}
use Rattle.cs_productions.specs.declared.values.Part.TheVariants.{Whole}
use Rattle.cs_grammar.specs.Exact.{Exact}
use Rattle.cs_grammar.proofs.Basics.{exact_gives, wider}
use Rattle.cs_grammar.proofs.Bind.{then}
use Rattle.cs_grammar.proofs.Either.{or}
use Rattle.cs_grammar.proofs.Limited.{guard}
use Rattle.cs_grammar.proofs.Turns.{repeat}
use Rattle.cs_productions.specs.Kinds.{paren, unparen, bracket, unbracket, comma, dot}
use Rattle.cs_productions.specs.Tokens.{kind}
use Rattle.cs_productions.specs.Inner.{Inner}
use Rattle.cs_productions.specs.Calls.{no_args, one_arg, one_more_arg, no_more_args, some_args, arguments, called, one_member, one_index, one_postfix, postfixes}
use Rattle.cs_productions.proofs.Follow.{arg_kinds, whole_follow, postfix_follow, AreExact}
use Rattle.cs_productions.proofs.ExactTokens.{exact_sign, exact_any_name}
use Rattle.cs_productions.proofs.ExactTypes.{exact_way}

pub exact_one_arg : {inner : Inner} (before : Args) → AreExact inner → Exact kind (one_arg inner before) arg_kinds whole_follow false
exact_one_arg before x = wider refl refl (then exact_way refl (λ w. then (x.forms Whole) refl (λ a. exact_gives _)))

pub exact_one_more_arg : {inner : Inner} (before : Args) → AreExact inner → Exact kind (one_more_arg inner before) (comma ∷ []) whole_follow false
exact_one_more_arg before x = wider refl refl (then (exact_sign comma refl) refl (λ _. exact_one_arg before x))

pub exact_no_more_args : Exact kind no_more_args (unparen ∷ []) [] false
exact_no_more_args = wider refl refl (then (exact_sign unparen refl) refl (λ _. exact_gives _))

pub exact_some_args : {inner : Inner} → AreExact inner → Exact kind (some_args inner) arg_kinds [] false
exact_some_args x =
    wider refl refl
    (then (exact_one_arg no_args x) refl
    (λ first. then (repeat (comma ∷ []) (λ _. true) first refl refl (λ before. exact_one_more_arg before x)) refl (λ all. then (exact_sign unparen refl) refl (λ _. exact_gives all))))

pub exact_arguments : {inner : Inner} → AreExact inner → Exact kind (arguments inner) (paren ∷ []) [] false
exact_arguments x = wider refl refl (then (exact_sign paren refl) refl (λ _. or (unparen ∷ []) refl refl exact_no_more_args (exact_some_args x)))

pub exact_called : {inner : Inner} (n h : ℕ) (call : Args → Measured) (else : Measured) → AreExact inner → Exact kind (called n inner h call else) (paren ∷ []) (paren ∷ []) true
exact_called n h call else x =
    wider refl refl (guard (paren ∷ []) (nat_lt h n) refl refl (then (exact_arguments x) refl (λ args. exact_gives (call args))) (exact_gives else))

pub exact_one_member : {inner : Inner} (n : ℕ) (a : Measured) → AreExact inner → Exact kind (one_member n inner a) (dot ∷ []) (paren ∷ []) false
exact_one_member n a x = wider refl refl (then (exact_sign dot refl) refl (λ _. then exact_any_name refl (λ name. exact_called n _ _ _ x)))

pub exact_one_index : {inner : Inner} (a : Measured) → AreExact inner → Exact kind (one_index inner a) (bracket ∷ []) [] false
exact_one_index a x =
    wider refl refl
    (then (exact_sign bracket refl) refl (λ _. then (x.forms Whole) refl (λ i. then (exact_sign unbracket refl) refl (λ _. exact_gives _))))

pub exact_one_postfix : {inner : Inner} (n : ℕ) (a : Measured) → AreExact inner → Exact kind (one_postfix n inner a) (dot ∷ bracket ∷ []) (paren ∷ []) false
exact_one_postfix n a x = wider refl refl (or (dot ∷ []) refl refl (exact_one_member n a x) (exact_one_index a x))

pub exact_postfixes : {inner : Inner} (n : ℕ) (a : Measured) → AreExact inner → Exact kind (postfixes n inner a) (dot ∷ bracket ∷ []) postfix_follow true
exact_postfixes n a x = wider refl refl (repeat (dot ∷ bracket ∷ []) (λ (b : Measured). nat_lt b.height n) a refl refl (λ b. exact_one_postfix n b x))
