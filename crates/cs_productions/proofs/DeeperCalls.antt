-- Arguments and what stands behind a primary expression, with more levels.
use Rattle.std.proofs.Common.{◌≡◌, ℕ, ◌+◌, ◌<◌, ◌≤◌, true, false, [], ◌∷◌, refl, nat_lt, arith}
use Rattle.std.proofs.lemmas.Bool.{ltb-true, lt-ltb}
use Rattle.cs_productions.specs.declared.values.Measured.{Measured}
use Rattle.cs_productions.specs.declared.values.Args.{Args}
use Rattle.cs_productions.specs.declared.values.Part.{Part}
use Rattle.cs_productions.specs.declared.values.Part.TheVariants.{Whole}
use Rattle.cs_grammar.specs.Grammar.{gives, ◌>>=◌}
use Rattle.cs_grammar.specs.Whole.{Deeper}
use Rattle.cs_grammar.specs.Levels.{Enters}
use Rattle.cs_grammar.proofs.Basics.{exact_gives}
use Rattle.cs_grammar.proofs.Bind.{then}
use Rattle.cs_grammar.proofs.Either.{or}
use Rattle.cs_grammar.proofs.Deeper.{yields_or, enters_one, enters_then, deeper_or}
use Rattle.cs_productions.specs.Kinds.{paren, unparen, bracket, unbracket, comma, dot, expression_kinds}
use Rattle.cs_productions.specs.Tokens.{kind}
use Rattle.cs_productions.specs.Inner.{Inner}
use Rattle.cs_productions.specs.Calls.{with_arg, no_args, one_arg, one_more_arg, no_more_args, some_args, arguments, member_of, call_of, called, one_member, index_of, one_index, one_postfix, postfixes}
use Rattle.cs_productions.proofs.Follow.{kinds_of, follow_of, arg_kinds, whole_follow, postfix_follow, AreExact}
use Rattle.cs_productions.proofs.ExactTokens.{exact_sign, exact_any_name}
use Rattle.cs_productions.proofs.ExactTypes.{exact_way}
use Rattle.cs_productions.proofs.ExactCalls.{exact_no_more_args, exact_some_args, exact_arguments, exact_called, exact_one_postfix, exact_postfixes}
use Rattle.cs_productions.proofs.Heights.{AtMost, AreBelow, within_one_member, within_one_index}
use Rattle.cs_productions.proofs.Deepening.{enters_or, deeper_rounds}
use Rattle.cs_productions.proofs.DeeperTypes.{deeper_way}
use Rattle.cs_productions.proofs.Growing.{Grows, grows, to, grows_gives, grows_sign, grows_any_name, grows_then, grows_or, grows_where, grows_turns}

-- what stands below `n` levels, and below more
pub record Widens (n m : ℕ) (inner wide : Inner) : Type 0 where
  pub more : n + 2 ≤ m
  pub exact : AreExact wide
  pub below : AreBelow n inner
  pub forms : 0 < n → (p : Part) → Deeper (inner.forms p) (wide.forms p)
  pub lead : 0 < n → Deeper inner.lead wide.lead
  pub block : 0 < inner.blocks → Deeper inner.block wide.block
  pub blocks : 0 < wide.blocks
  pub some_ranks : 0 < inner.ranks
  pub ranks : inner.ranks < wide.ranks
  pub enters : Enters kind expression_kinds (wide.forms Whole)

pub grows_forms : {n m : ℕ} {inner wide : Inner} → Widens n m inner wide → 0 < n → (p : Part) → Grows (inner.forms p) (wide.forms p) (kinds_of p) (follow_of p) false
grows_forms z some p = grows (z.forms some p) (z.exact.forms p)

-- there is room at the height that there is room at with two levels less, and at the next
pub wider_room : {n m : ℕ} {inner wide : Inner} (h : ℕ) → Widens n m inner wide → h ≤ n + 1 → nat_lt h m ≡ true
wider_room {m = m} h z l = let more = z.more in lt-ltb h m (omega arith)

-- there is room for a block
pub block_room : {n m : ℕ} {inner wide : Inner} → Widens n m inner wide → nat_lt 0 wide.blocks ≡ true
block_room {wide = wide} z = lt-ltb 0 wide.blocks z.blocks

grows_one_arg : {n m : ℕ} {inner wide : Inner} (before : Args) → Widens n m inner wide → 0 < n → Grows (one_arg inner before) (one_arg wide before) arg_kinds whole_follow false
grows_one_arg before z some = to refl refl (grows_then (grows deeper_way exact_way) refl (λ w. grows_then (grows_forms z some Whole) refl (λ a. grows_gives (with_arg before w a))))

grows_one_more_arg : {n m : ℕ} {inner wide : Inner} (before : Args) → Widens n m inner wide → 0 < n → Grows (one_more_arg inner before) (one_more_arg wide before) (comma ∷ []) whole_follow false
grows_one_more_arg before z some = to refl refl (grows_then (grows_sign comma refl) refl (λ _. grows_one_arg before z some))

enters_one_more_arg : {n m : ℕ} {inner wide : Inner} (before : Args) → Widens n m inner wide → 0 < n → Enters kind (comma ∷ []) (one_more_arg wide before)
enters_one_more_arg before z some = enters_then (enters_one (comma ∷ []) (λ _. tt)) (λ _. (grows_one_arg before z some).exact)

grows_no_more_args : Grows no_more_args no_more_args (unparen ∷ []) [] false
grows_no_more_args = to refl refl (grows_then (grows_sign unparen refl) refl (λ _. grows_gives no_args))

grows_some_args : {n m : ℕ} {inner wide : Inner} → Widens n m inner wide → 0 < n → Grows (some_args inner) (some_args wide) arg_kinds [] false
grows_some_args z some =
    to refl refl
    (grows_then (grows_one_arg no_args z some) refl
    (λ first. grows_then
    (grows_turns (comma ∷ []) first refl refl (λ before. enters_one_more_arg before z some) (λ before. grows_one_more_arg before z some)) refl
    (λ all. grows_then (grows_sign unparen refl) refl (λ _. grows_gives all))))

pub grows_arguments : {n m : ℕ} {inner wide : Inner} → Widens n m inner wide → 0 < n → Grows (arguments inner) (arguments wide) (paren ∷ []) [] false
grows_arguments z some =
    to refl refl (grows_then (grows_sign paren refl) refl (λ _. grows_or (unparen ∷ []) refl refl grows_no_more_args (grows_some_args z some)))

pub enters_arguments : {inner : Inner} → AreExact inner → Enters kind (paren ∷ []) (arguments inner)
enters_arguments x = enters_then (enters_one (paren ∷ []) (λ _. tt)) (λ _. or (unparen ∷ []) refl refl exact_no_more_args (exact_some_args x))

pub grows_called : {n m : ℕ} {inner wide : Inner} (h : ℕ) (call : Args → Measured) (else : Measured) → Widens n m inner wide → h ≤ n + 1 → Grows (called n inner h call else) (called m wide h call else) (paren ∷ []) (paren ∷ []) true
grows_called {n = n} {m = m} h call else z l =
    to refl refl
    (grows_where (paren ∷ []) (nat_lt h n) (nat_lt h m) refl refl (wider_room h z l) (enters_then (enters_arguments z.exact) (λ args. exact_gives (call args)))
    (λ r. let room = ltb-true h n r in (grows_call call z (omega arith)).deeper) (then (exact_arguments z.exact) refl (λ args. exact_gives (call args))) (grows_gives else))
  where
    grows_call : {n m : ℕ} {inner wide : Inner} (call : Args → Measured) → Widens n m inner wide → 0 < n → Grows (do args ← arguments inner; gives (call args)) (do args ← arguments wide; gives (call args)) (paren ∷ []) [] false
    grows_call call z some = to refl refl (grows_then (grows_arguments z some) refl (λ args. grows_gives (call args)))

pub grows_one_member : {n m : ℕ} {inner wide : Inner} (a : Measured) → Widens n m inner wide → AtMost n a → Grows (one_member n inner a) (one_member m wide a) (dot ∷ []) (paren ∷ []) false
grows_one_member a z p =
    to refl refl
    (grows_then (grows_sign dot refl) refl
    (λ _. grows_then grows_any_name refl (λ name. grows_called (a.height + 1) (call_of a name) (member_of a name) z (omega arith))))

pub grows_one_index : {n m : ℕ} {inner wide : Inner} (a : Measured) → Widens n m inner wide → 0 < n → Grows (one_index inner a) (one_index wide a) (bracket ∷ []) [] false
grows_one_index a z some =
    to refl refl
    (grows_then (grows_sign bracket refl) refl
    (λ _. grows_then (grows_forms z some Whole) refl (λ i. grows_then (grows_sign unbracket refl) refl (λ _. grows_gives (index_of a i)))))

pub enters_one_member : {inner : Inner} (m : ℕ) (a : Measured) → AreExact inner → Enters kind (dot ∷ []) (one_member m inner a)
enters_one_member m a x = enters_then (enters_one (dot ∷ []) (λ _. tt)) (λ _. then exact_any_name refl (λ name. exact_called m _ _ _ x))

pub enters_one_index : {inner : Inner} (a : Measured) → AreExact inner → Enters kind (bracket ∷ []) (one_index inner a)
enters_one_index a x =
    enters_then (enters_one (bracket ∷ []) (λ _. tt)) (λ _. then (x.forms Whole) refl (λ i. then (exact_sign unbracket refl) refl (λ _. exact_gives (index_of a i))))

pub deeper_postfixes : {n m : ℕ} {inner wide : Inner} (a : Measured) → Widens n m inner wide → AtMost n a → Deeper (postfixes n inner a) (postfixes m wide a)
deeper_postfixes {n = n} {m = m} {inner = inner} {wide = wide} a z p =
    deeper_rounds {f = one_postfix n inner} (dot ∷ bracket ∷ []) a z.more p
    (λ b room. yields_or kind (dot ∷ []) (within_one_member b z.below room) (within_one_index b z.below room))
    (λ some b q. deeper_or kind (dot ∷ []) (grows_one_member b z q).deeper (grows_one_index b z some).deeper)
    (λ b. enters_or (dot ∷ []) (bracket ∷ []) (enters_one_member m b z.exact) (enters_one_index b z.exact))
    (λ b. exact_one_postfix m b z.exact)

pub grows_postfixes : {n m : ℕ} {inner wide : Inner} (a : Measured) → Widens n m inner wide → AtMost n a → Grows (postfixes n inner a) (postfixes m wide a) (dot ∷ bracket ∷ []) postfix_follow true
grows_postfixes {m = m} a z p = grows (deeper_postfixes a z p) (exact_postfixes m a z.exact)
