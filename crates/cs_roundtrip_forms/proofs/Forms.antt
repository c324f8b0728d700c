-- Well formed expressions are read, where the blocks of their lambdas are.
use Rattle.std.proofs.Common.{ℕ, zero, suc, ◌+◌, ◌≤◌, ◌<◌, List, arith}
use Rattle.cs_token.specs.Placed.{Placed as Token}
use Rattle.cs_tree.specs.declared.forms.Arg.{Arg}
use Rattle.cs_tree.specs.declared.forms.Form.{Form}
use Rattle.cs_tree.specs.declared.forms.Block.{Block}
use Rattle.cs_grammar.specs.Grammar.{Grammar}
use Rattle.cs_productions.specs.Levels.{at, below}
use Rattle.cs_layout.specs.Layout.{form_shown}
use Rattle.cs_wellformed.specs.WellFormed.{IsForm, literal, named, this, member, call, base_member, base_call, path, path_call, index, new, new_array, checked, unchecked, default, lambda, unary, cast, binary, test_is, test_as, conditional, AreArgs, no_args, more_args, IsBlock}
use Rattle.cs_roundtrip_forms.specs.Reading.{Reads, BlockIsRead}
use Rattle.cs_roundtrip_forms.proofs.Reading.{whole, Claim}
use Rattle.cs_roundtrip_forms.proofs.Primaries.{ArgsRead, args_none, args_more, reads_literal, reads_name, reads_this, reads_member, reads_call, reads_base_member, reads_base_call, reads_global, reads_global_call, reads_index, reads_new, reads_new_array, reads_checked, reads_unchecked, reads_default}
use Rattle.cs_roundtrip_forms.proofs.Operators.{reads_unary, reads_binary, reads_is, reads_as, reads_conditional}
use Rattle.cs_roundtrip_forms.proofs.Casts.{reads_cast}
use Rattle.cs_roundtrip_forms.proofs.Lambdas.{reads_lambda}

-- what takes a level is read with one less inside
pub with_level : (block : Grammar Token Block) (blocks limit : ℕ) (f : Form) (h : ℕ)
    → ((n : ℕ) → h + 1 ≤ suc n → (margin : List ℕ) → Reads (suc n) (below block blocks limit (suc n)) f (h + 1) ((form_shown f).pieces margin)) → Claim block blocks limit f (h + 1)
with_level block blocks limit f h x zero l margin = absurd (omega (arith, l))
with_level block blocks limit f h x (suc n) l margin = x n l margin

module _ (levels limit : ℕ) (block : Grammar Token Block) (blocks : ℕ) (inside : (b : Block) (c : ℕ) → IsBlock levels limit b c → c ≤ blocks → (0 < blocks) × BlockIsRead block b) where
  mutual
    pub form_read : {f : Form} {h b : ℕ} → IsForm levels limit f h b → b ≤ blocks → Claim block blocks limit f h
    form_read (literal s l k) d = λ n m margin. reads_literal n (below block blocks limit n) margin s l
    form_read (named s text k) d = λ n m margin. reads_name n (below block blocks limit n) margin s text
    form_read (this s) d = λ n m margin. reads_this n (below block blocks limit n) margin s
    form_read (member s a x h b y p k) d = λ n m margin. reads_member block blocks limit n margin s a x h (form_read y d) p m
    form_read (call s a x args h k b c y p q z) d =
        with_level block blocks limit _ _
        (λ n m margin. reads_call block blocks limit n margin s a x args h k (form_read y (omega (arith, d))) p m (args_read z (omega (arith, d)) n (omega (arith, m)) margin))
    form_read (base_member s x k) d = λ n m margin. reads_base_member block blocks limit n (below block blocks limit n) margin s x
    form_read (base_call s x args k c q z) d =
        with_level block blocks limit _ _ (λ n m margin. reads_base_call block blocks limit n margin s x args k (args_read z d n (omega (arith, m)) margin))
    form_read (path s names q) d = λ n m margin. reads_global block blocks limit n (below block blocks limit n) margin s names q
    form_read (path_call s names args k c q z) d =
        with_level block blocks limit _ _ (λ n m margin. reads_global_call block blocks limit n margin s names args k q (args_read z d n (omega (arith, m)) margin))
    form_read (index s a i h k b c x y) d =
        with_level block blocks limit _ _ (λ n m margin. reads_index block blocks limit n margin s a i h k (form_read x (omega (arith, d))) (form_read y (omega (arith, d))) m)
    form_read (new s class args k c q z) d =
        with_level block blocks limit _ _ (λ n m margin. reads_new block blocks limit n margin s class args k q (args_read z d n (omega (arith, m)) margin))
    form_read (new_array s t a h b q r x) d =
        with_level block blocks limit _ _ (λ n m margin. reads_new_array block blocks limit n margin s t a h q r (whole (form_read x d n (omega (arith, m)) margin)))
    form_read (checked s a h b x) d = with_level block blocks limit _ _ (λ n m margin. reads_checked block blocks limit n margin s a h (whole (form_read x d n (omega (arith, m)) margin)))
    form_read (unchecked s a h b x) d = with_level block blocks limit _ _ (λ n m margin. reads_unchecked block blocks limit n margin s a h (whole (form_read x d n (omega (arith, m)) margin)))
    form_read (default s t q) d = with_level block blocks limit _ 0 (λ n m margin. reads_default block blocks limit n margin s t q)
    form_read (lambda s params body b q x) d =
        with_level block blocks limit _ 0 (λ n m margin. reads_lambda block blocks limit n margin s params body q (inside body b x d).0 (inside body b x d).1)
    form_read (unary s o a h b x) d = with_level block blocks limit _ _ (λ n m margin. reads_unary block blocks limit n margin s o a h (form_read x d) m)
    form_read (cast s t a h b q x) d = with_level block blocks limit _ _ (λ n m margin. reads_cast block blocks limit n margin s t a h q (form_read x d) m)
    form_read (binary s o l r h k b c x y) d =
        with_level block blocks limit _ _ (λ n m margin. reads_binary block blocks limit n margin s o l r h k (form_read x (omega (arith, d))) (form_read y (omega (arith, d))) m)
    form_read (test_is s a t h b x q) d = with_level block blocks limit _ _ (λ n m margin. reads_is block blocks limit n margin s a t h (form_read x d) q m)
    form_read (test_as s a t h b x q) d = with_level block blocks limit _ _ (λ n m margin. reads_as block blocks limit n margin s a t h (form_read x d) q m)
    form_read (conditional s a l r h j k b c e x y z) d =
        with_level block blocks limit _ _
        (λ n m margin. reads_conditional block blocks limit n margin s a l r h j k (form_read x (omega (arith, d))) (form_read y (omega (arith, d))) (form_read z (omega (arith, d))) m)

    pub args_read : {args : List Arg} {k c : ℕ} → AreArgs levels limit args k c → c ≤ blocks → (n : ℕ) → k ≤ n → (margin : List ℕ) → ArgsRead (at n (below block blocks limit n)) args k margin
    args_read no_args d n m margin = args_none (at n (below block blocks limit n)) margin
    args_read (more_args w a args h k b c x y) d n m margin =
        args_more (at n (below block blocks limit n)) w a h args k margin (whole (form_read x (omega (arith, d)) n (omega (arith, m)) margin)) (args_read y (omega (arith, d)) n (omega (arith, m)) margin)
