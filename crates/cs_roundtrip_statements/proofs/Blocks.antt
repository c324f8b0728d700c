-- Well formed expressions, statements and blocks are read: one induction over all of them.
use Rattle.std.proofs.Common.{◌≡◌, ℕ, zero, suc, ◌+◌, ◌≤◌, Bool, true, false, List, Option, refl, sym, ◌∙◌, ap, subst, nat_lt, arith}
use Rattle.cs_token.specs.Placed.{Placed as Token}
use Rattle.cs_tree.specs.declared.types.Spot.{Spot}
use Rattle.cs_tree.specs.declared.types.Name.{Name}
use Rattle.cs_tree.specs.declared.types.TypeForm.{TypeForm}
use Rattle.cs_tree.specs.declared.forms.Action.TheOpen.{Form-F}
use Rattle.cs_tree.specs.declared.forms.Action.TheFolds.{fold-roll-Form}
use Rattle.cs_tree.specs.declared.forms.Arg.{Arg}
use Rattle.cs_tree.specs.declared.forms.Form.{Form}
use Rattle.cs_tree.specs.declared.forms.Form.TheVariants as form
use Rattle.cs_tree.specs.declared.forms.Block.{Block}
use Rattle.cs_tree.specs.declared.forms.Action.{Action}
use Rattle.cs_tree.specs.declared.forms.Section.{Section}
use Rattle.cs_tree.specs.declared.forms.Catching.{Catching}
use Rattle.cs_tree.specs.declared.forms.Syntax.{Syntax}
use Rattle.cs_tree.specs.declared.forms.Syntax.TheVariants as syntax
use Rattle.cs_productions.specs.declared.values.Measured.{Measured}
use Rattle.cs_grammar.specs.Grammar.{Grammar}
use Rattle.cs_productions.specs.Kinds.{kw_else, kw_finally}
use Rattle.cs_productions.specs.Inner.{Inner}
use Rattle.cs_productions.specs.Calls.{postfixes}
use Rattle.cs_productions.specs.Levels.{at, below}
use Rattle.cs_statements.specs.Actions.{primary}
use Rattle.cs_statements.specs.Blocks.{block_at}
use Rattle.cs_layout.specs.declared.fixed.Fixed.TheVariants as part
use Rattle.cs_layout.specs.Words.{fixed}
use Rattle.cs_layout.specs.Layout.{Shown, form_shown, enclosed, at_least}
use Rattle.cs_wellformed.specs.Words.{IsType}
use Rattle.cs_wellformed.specs.Standing.{is_none, lambda_layer, begins_lambda, enclosed_levels}
use Rattle.cs_wellformed.specs.WellFormed.{IsForm, literal, named, this, member, call, base_member, base_call, path, path_call, index, new, new_array, checked, unchecked, default, lambda, unary, cast, binary, test_is, test_as, conditional, AreArgs, no_args, more_args, IsBlock, in_braces, AreStatements, no_statements, more_statements, IsValue, value, IsMaybeValue, no_value, some_value, IsMaybeBlock, no_block, some_block, IsPlace, place, IsCall, member_call, base_member_call, global_call, new_call, IsAction, assign, compound, invoke, AreSections, no_sections, more_sections, AreCatches, no_catches, more_catches, IsStatement, declare, act, label, goto, «break», «continue», «return», throw, if_, while_, do_while, for_, foreach, using, lock, switch, try}
use Rattle.cs_wellformed.proofs.Shown.{shown_Call, shown_BaseCall, shown_GlobalCall, shown_New}
use Rattle.cs_roundtrip_types.specs.Spells.{Spells}
use Rattle.cs_roundtrip_types.proofs.Spelling.{says_so}
use Rattle.cs_roundtrip_forms.specs.Standing.{Opens, primaries}
use Rattle.cs_roundtrip_forms.specs.Reading.{IsRead, BlockIsRead}
use Rattle.cs_roundtrip_forms.proofs.Opening.{closes}
use Rattle.cs_roundtrip_forms.proofs.Reading.{whole, opens_paren, Claim, low_enough, ranks_are, blocks_are, block_is}
use Rattle.cs_roundtrip_forms.proofs.Primaries.{ArgsRead, args_none, args_more, opens_call, opens_base_call, opens_global_call, opens_new, reads_literal, reads_name, reads_this, reads_member, reads_call, reads_base_member, reads_base_call, reads_global, reads_global_call, reads_index, reads_new, reads_new_array, reads_checked, reads_unchecked, reads_default}
use Rattle.cs_roundtrip_forms.proofs.Operators.{reads_unary, reads_binary, reads_is, reads_as, reads_conditional}
use Rattle.cs_roundtrip_forms.proofs.Casts.{reads_cast}
use Rattle.cs_roundtrip_forms.proofs.Lambdas.{reads_lambda}
use Rattle.cs_roundtrip_forms.proofs.Forms.{with_level}
use Rattle.cs_roundtrip_statements.specs.Reading.{SameForm, ValueIsRead, ActionIsRead, StatementIsRead}
use Rattle.cs_roundtrip_statements.proofs.Actions.{reads_assign, reads_compound, reads_invoke}
use Rattle.cs_roundtrip_statements.proofs.Simple.{reads_declare, reads_act, reads_label, reads_goto, reads_break, reads_continue, reads_return_nothing, reads_return, reads_rethrow, reads_throw}
use Rattle.cs_roundtrip_statements.proofs.Structured.{MaybeBlockIsRead, reads_no_block, reads_else, reads_finally, reads_if, reads_while, reads_do, reads_for, reads_foreach, reads_using, reads_lock, SectionsAreRead, reads_no_section, reads_more_sections, reads_switch, CatchesAreRead, reads_no_catch, reads_more_catches, reads_try, StatementsAreRead, reads_no_statement, reads_more_statements, reads_block}

-- what stands in a block, with this many blocks inside
abbrev env : ℕ → ℕ → ℕ → Inner
env levels limit k = below (block_at levels limit k) k limit levels

no_postfix : (n : ℕ) (inner : Inner) (m : Measured) (ts : List Token) → (postfixes n inner m).derives ts m ts
no_postfix n inner m ts = (zero, (refl, refl))

-- a call begins as what it is called of
begins_not : (s : Spot) (a : Form) (x : Name) (args : List Arg) → begins_lambda a ≡ false → begins_lambda (form.Call s a x args) ≡ true → ⊥
begins_not s a x args free e =
    not_both
    (sym e
    ∙ (ap begins_lambda (sym (form.rolls-Call s a x args))
    ∙ (fold-roll-Form Bool Bool Bool Bool Bool Bool Bool is_none lambda_layer is_none is_none is_none is_none is_none (Form-F.Call s a x args) ∙ free)))
  where
    not_both : true ≡ false → ⊥
    not_both e = cc

-- a block counts itself
some_blocks : {levels limit : ℕ} {b : Block} {c : ℕ} → IsBlock levels limit b c → 1 ≤ c
some_blocks (in_braces stmts end c x) = omega arith

may_hold : (levels limit k : ℕ) (b : Block) (c : ℕ) → IsBlock levels limit b c → c ≤ k → nat_lt 0 (env levels limit k).blocks ≡ true
may_hold levels limit k b c x d = ap (λ z. nat_lt 0 z) (blocks_are (block_at levels limit k) k limit levels) ∙ may (some_blocks x)
  where
    may : 1 ≤ c → nat_lt 0 k ≡ true
    may l = grind (arith, l, d)

known_type : (levels limit k : ℕ) (t : TypeForm) → IsType limit t → IsType (env levels limit k).ranks t
known_type levels limit k t h = subst (λ r. IsType r t) (sym (ranks_are (block_at levels limit k) k limit levels)) h

inside_is : (levels limit k : ℕ) (b : Block) → BlockIsRead (block_at levels limit k) b → BlockIsRead (env levels limit k).block b
inside_is levels limit k b x = subst (λ g. BlockIsRead g b) (sym (block_is (block_at levels limit k) k limit levels)) x

-- a place, in parentheses or not
says_place : (block : Grammar Token Block) (blocks limit : ℕ) (inside : Bool) (n : ℕ) (f : Form) (h : ℕ) (margin : List ℕ) → Claim block blocks limit f h → begins_lambda f ≡ false → enclosed_levels inside h ≤ n
    → (inside ≡ false → 13 ≤ (form_shown f).level) → Spells (primary n (below block blocks limit n)) (enclosed inside ((form_shown f).pieces margin)) (SameForm f)
says_place block blocks limit true zero f h margin x free l low = absurd (omega (arith, l))
says_place block blocks limit true (suc n) f h margin x free l low =
    says_so (closes (no_postfix (suc n) (below block blocks limit (suc n))) (opens_paren primaries n (below block blocks limit n) (whole (x n (omega (arith, l)) margin)))) (λ m p. p.same)
says_place block blocks limit false n f h margin x free l low =
    says_so ((x n l margin).primary primaries (λ e. absurd (not_both (sym e ∙ free))) (low refl)) (λ m p. p.same)
  where
    not_both : true ≡ false → ⊥
    not_both e = cc

-- a call, within levels of which there is one at least
says_invoked : (block : Grammar Token Block) (blocks limit n h : ℕ) (f : Form) (margin : List ℕ) → h + 1 ≤ n
    → ((j : ℕ) → h + 1 ≤ suc j → Opens (postfixes (suc j) (below block blocks limit (suc j))) (primary (suc j) (below block blocks limit (suc j))) ((form_shown f).pieces margin) (λ c. IsRead f (h + 1) c × (c.is_call ≡ true)))
    → Spells (primary n (below block blocks limit n)) ((form_shown f).pieces margin) (λ m. SameForm f m × (m.is_call ≡ true))
says_invoked block blocks limit zero h f margin l x = absurd (omega (arith, l))
says_invoked block blocks limit (suc j) h f margin l x = says_so (closes (no_postfix (suc j) (below block blocks limit (suc j))) (x j l)) (λ m p. (p.0.same, p.1))

opens_shown : {tail : Measured → Grammar Token Measured} {g : Grammar Token Measured} {P : Measured → Type 0} (f : Form) (s : Shown) (margin : List ℕ) → form_shown f ≡ s → Opens tail g (s.pieces margin) P
    → Opens tail g ((form_shown f).pieces margin) P
opens_shown {tail} {g} {P} f s margin e x = subst (λ z. Opens tail g (z.pieces margin) P) (sym e) x

module _ (levels limit : ℕ) where
  mutual
    pub form_read : {f : Form} {h b : ℕ} → IsForm levels limit f h b → (k : ℕ) → b ≤ k → Claim (block_at levels limit k) k limit f h
    form_read (literal s l k) kk d = λ n m margin. reads_literal n (below (block_at levels limit kk) kk limit n) margin s l
    form_read (named s text k) kk d = λ n m margin. reads_name n (below (block_at levels limit kk) kk limit n) margin s text
    form_read (this s) kk d = λ n m margin. reads_this n (below (block_at levels limit kk) kk limit n) margin s
    form_read (member s a x h b y p k) kk d = λ n m margin. reads_member (block_at levels limit kk) kk limit n margin s a x h (form_read y kk d) p m
    form_read (call s a x args h k b c y p q z) kk d =
        with_level (block_at levels limit kk) kk limit _ _
        (λ n m margin. reads_call (block_at levels limit kk) kk limit n margin s a x args h k (form_read y kk (omega (arith, d))) p m (args_read z kk (omega (arith, d)) n (omega (arith, m)) margin))
    form_read (base_member s x k) kk d = λ n m margin. reads_base_member (block_at levels limit kk) kk limit n (below (block_at levels limit kk) kk limit n) margin s x
    form_read (base_call s x args k c q z) kk d =
        with_level (block_at levels limit kk) kk limit _ _ (λ n m margin. reads_base_call (block_at levels limit kk) kk limit n margin s x args k (args_read z kk d n (omega (arith, m)) margin))
    form_read (path s names q) kk d = λ n m margin. reads_global (block_at levels limit kk) kk limit n (below (block_at levels limit kk) kk limit n) margin s names q
    form_read (path_call s names args k c q z) kk d =
        with_level (block_at levels limit kk) kk limit _ _ (λ n m margin. reads_global_call (block_at levels limit kk) kk limit n margin s names args k q (args_read z kk d n (omega (arith, m)) margin))
    form_read (index s a i h k b c x y) kk d =
        with_level (block_at levels limit kk) kk limit _ _ (λ n m margin. reads_index (block_at levels limit kk) kk limit n margin s a i h k (form_read x kk (omega (arith, d))) (form_read y kk (omega (arith, d))) m)
    form_read (new s class args k c q z) kk d =
        with_level (block_at levels limit kk) kk limit _ _ (λ n m margin. reads_new (block_at levels limit kk) kk limit n margin s class args k q (args_read z kk d n (omega (arith, m)) margin))
    form_read (new_array s t a h b q r x) kk d =
        with_level (block_at levels limit kk) kk limit _ _ (λ n m margin. reads_new_array (block_at levels limit kk) kk limit n margin s t a h q r (whole (form_read x kk d n (omega (arith, m)) margin)))
    form_read (checked s a h b x) kk d = with_level (block_at levels limit kk) kk limit _ _ (λ n m margin. reads_checked (block_at levels limit kk) kk limit n margin s a h (whole (form_read x kk d n (omega (arith, m)) margin)))
    form_read (unchecked s a h b x) kk d = with_level (block_at levels limit kk) kk limit _ _ (λ n m margin. reads_unchecked (block_at levels limit kk) kk limit n margin s a h (whole (form_read x kk d n (omega (arith, m)) margin)))
    form_read (default s t q) kk d = with_level (block_at levels limit kk) kk limit _ 0 (λ n m margin. reads_default (block_at levels limit kk) kk limit n margin s t q)
    form_read (lambda s params body b q x) kk d =
        with_level (block_at levels limit kk) kk limit _ 0 (λ n m margin. reads_lambda (block_at levels limit kk) kk limit n margin s params body q (omega (arith, some_blocks x, d)) (block_read x kk d))
    form_read (unary s o a h b x) kk d = with_level (block_at levels limit kk) kk limit _ _ (λ n m margin. reads_unary (block_at levels limit kk) kk limit n margin s o a h (form_read x kk d) m)
    form_read (cast s t a h b q x) kk d = with_level (block_at levels limit kk) kk limit _ _ (λ n m margin. reads_cast (block_at levels limit kk) kk limit n margin s t a h q (form_read x kk d) m)
    form_read (binary s o l r h k b c x y) kk d =
        with_level (block_at levels limit kk) kk limit _ _ (λ n m margin. reads_binary (block_at levels limit kk) kk limit n margin s o l r h k (form_read x kk (omega (arith, d))) (form_read y kk (omega (arith, d))) m)
    form_read (test_is s a t h b x q) kk d = with_level (block_at levels limit kk) kk limit _ _ (λ n m margin. reads_is (block_at levels limit kk) kk limit n margin s a t h (form_read x kk d) q m)
    form_read (test_as s a t h b x q) kk d = with_level (block_at levels limit kk) kk limit _ _ (λ n m margin. reads_as (block_at levels limit kk) kk limit n margin s a t h (form_read x kk d) q m)
    form_read (conditional s a l r h j k b c e x y z) kk d =
        with_level (block_at levels limit kk) kk limit _ _
        (λ n m margin. reads_conditional (block_at levels limit kk) kk limit n margin s a l r h j k (form_read x kk (omega (arith, d))) (form_read y kk (omega (arith, d))) (form_read z kk (omega (arith, d))) m)

    pub args_read : {args : List Arg} {j c : ℕ} → AreArgs levels limit args j c → (k : ℕ) → c ≤ k → (n : ℕ) → j ≤ n → (margin : List ℕ)
        → ArgsRead (at n (below (block_at levels limit k) k limit n)) args j margin
    args_read no_args k d = λ n m margin. args_none (at n (below (block_at levels limit k) k limit n)) margin
    args_read (more_args w a args h j b c x y) k d = λ n m margin.
        args_more (at n (below (block_at levels limit k) k limit n)) w a h args j margin (whole (form_read x k (omega (arith, d)) n (omega (arith, m)) margin)) (args_read y k (omega (arith, d)) n (omega (arith, m)) margin)

    pub block_read : {b : Block} {c : ℕ} → IsBlock levels limit b c → (k : ℕ) → c ≤ k → BlockIsRead (block_at levels limit k) b
    block_read (in_braces stmts end c x) zero d = absurd (omega (arith, d))
    block_read (in_braces stmts end c x) (suc k) d = reads_block levels (env levels limit k) stmts end (statements_read x k (omega (arith, d)))

    statements_read : {ss : List Syntax} {c : ℕ} → AreStatements levels limit ss c → (k : ℕ) → c ≤ k → StatementsAreRead levels (env levels limit k) ss
    statements_read no_statements k d = reads_no_statement levels (env levels limit k)
    statements_read (more_statements s ss b c x y) k d =
        reads_more_statements levels (env levels limit k) s ss (statement_read x k (omega (arith, d))) (statements_read y k (omega (arith, d)))

    value_read : {a : Form} {c : ℕ} → IsValue levels limit a c → (k : ℕ) → c ≤ k → ValueIsRead levels (env levels limit k) a
    value_read (value a h b x l) k d = λ margin. says_so (whole (form_read x k d levels l margin)) (λ m p. p.same)

    else_read : {o : Option Block} {c : ℕ} → IsMaybeBlock levels limit o c → (k : ℕ) → c ≤ k → MaybeBlockIsRead (env levels limit k) kw_else (fixed part.Else) o
    else_read no_block k d = reads_no_block (env levels limit k) kw_else (fixed part.Else)
    else_read (some_block b c x) k d = reads_else (env levels limit k) b (inside_is levels limit k b (block_read x k d))

    finally_read : {o : Option Block} {c : ℕ} → IsMaybeBlock levels limit o c → (k : ℕ) → c ≤ k → MaybeBlockIsRead (env levels limit k) kw_finally (fixed part.Finally) o
    finally_read no_block k d = reads_no_block (env levels limit k) kw_finally (fixed part.Finally)
    finally_read (some_block b c x) k d = reads_finally (env levels limit k) b (inside_is levels limit k b (block_read x k d))

    place_read : {p : Form} {c : ℕ} → IsPlace levels limit p c → (k : ℕ) → c ≤ k → (margin : List ℕ) → Spells (primary levels (env levels limit k)) (at_least 13 (form_shown p) margin) (SameForm p)
    place_read (place a h b x free l) k d = λ margin.
        says_place (block_at levels limit k) k limit (nat_lt (form_shown a).level 13) levels a h margin (form_read x k d) free l
        (low_enough (block_at levels limit k) k limit (form_shown a).level 13)

    call_read : {f : Form} {c : ℕ} → IsCall levels limit f c → (k : ℕ) → c ≤ k → (margin : List ℕ)
        → Spells (primary levels (env levels limit k)) ((form_shown f).pieces margin) (λ m. SameForm f m × (m.is_call ≡ true))
    call_read (member_call s a x args h j b c y p free q z l) k d = λ margin.
        says_invoked (block_at levels limit k) k limit levels _ (form.Call s a x args) margin l
        (λ n m. opens_shown (form.Call s a x args) _ margin (shown_Call s a x args)
        (opens_call (block_at levels limit k) k limit n margin s a x args h j (form_read y k (omega (arith, d))) p m (args_read z k (omega (arith, d)) n (omega (arith, m)) margin) primaries (λ e. absurd (begins_not s a x args free e))))
    call_read (base_member_call s x args j c q z l) k d = λ margin.
        says_invoked (block_at levels limit k) k limit levels j (form.BaseCall s x args) margin l
        (λ n m. opens_shown (form.BaseCall s x args) _ margin (shown_BaseCall s x args)
        (opens_base_call (block_at levels limit k) k limit n margin s x args j (args_read z k d n (omega (arith, m)) margin) primaries))
    call_read (global_call s names args j c q z l) k d = λ margin.
        says_invoked (block_at levels limit k) k limit levels j (form.GlobalCall s names args) margin l
        (λ n m. opens_shown (form.GlobalCall s names args) _ margin (shown_GlobalCall s names args)
        (opens_global_call (block_at levels limit k) k limit n margin s names args j q (args_read z k d n (omega (arith, m)) margin) primaries))
    call_read (new_call s class args j c q z l) k d = λ margin.
        says_invoked (block_at levels limit k) k limit levels j (form.New s class args) margin l
        (λ n m. opens_shown (form.New s class args) _ margin (shown_New s class args)
        (opens_new (block_at levels limit k) k limit n margin s class args j q (args_read z k d n (omega (arith, m)) margin) primaries))

    action_read : {a : Action} {c : ℕ} → IsAction levels limit a c → (k : ℕ) → c ≤ k → (margin : List ℕ) → ActionIsRead levels (env levels limit k) a margin
    action_read (assign p a b c x y) k d = λ margin.
        reads_assign levels (env levels limit k) p a margin (place_read x k (omega (arith, d)) margin) (value_read y k (omega (arith, d)) margin)
    action_read (compound o p a b c x y) k d = λ margin.
        reads_compound levels (env levels limit k) o p a margin (place_read x k (omega (arith, d)) margin) (value_read y k (omega (arith, d)) margin)
    action_read (invoke a b x) k d = λ margin. reads_invoke levels (env levels limit k) a margin (call_read x k d margin)

    sections_read : {cs : List Section} {c : ℕ} → AreSections levels limit cs c → (k : ℕ) → c ≤ k → SectionsAreRead (env levels limit k) cs
    sections_read no_sections k d = reads_no_section (env levels limit k)
    sections_read (more_sections ls block cs b c h x y) k d =
        reads_more_sections (env levels limit k) ls block cs (may_hold levels limit k block b x (omega (arith, d))) h (inside_is levels limit k block (block_read x k (omega (arith, d)))) (sections_read y k (omega (arith, d)))

    catches_read : {cs : List Catching} {c : ℕ} → AreCatches levels limit cs c → (k : ℕ) → c ≤ k → CatchesAreRead (env levels limit k) cs
    catches_read no_catches k d = reads_no_catch (env levels limit k)
    catches_read (more_catches s t x block cs b c h q y z) k d =
        reads_more_catches (env levels limit k) s t x block cs (known_type levels limit k t h) (inside_is levels limit k block (block_read y k (omega (arith, d)))) (catches_read z k (omega (arith, d)))

    return_read : {v : Option Form} {c : ℕ} → IsMaybeValue levels limit v c → (k : ℕ) → c ≤ k → (s : Spot) → StatementIsRead levels (env levels limit k) (syntax.Return s v)
    return_read no_value k d = λ s. reads_return_nothing levels (env levels limit k) s
    return_read (some_value a b x) k d = λ s. reads_return levels (env levels limit k) s a (value_read x k d)

    throw_read : {v : Option Form} {c : ℕ} → IsMaybeValue levels limit v c → (k : ℕ) → c ≤ k → (s : Spot) → StatementIsRead levels (env levels limit k) (syntax.Throw s v)
    throw_read no_value k d = λ s. reads_rethrow levels (env levels limit k) s
    throw_read (some_value a b x) k d = λ s. reads_throw levels (env levels limit k) s a (value_read x k d)

    statement_read : {s : Syntax} {c : ℕ} → IsStatement levels limit s c → (k : ℕ) → c ≤ k → StatementIsRead levels (env levels limit k) s
    statement_read (declare s t x a b h q y) k d = reads_declare levels (env levels limit k) s t x a (known_type levels limit k t h) (value_read y k d)
    statement_read (act s a b x) k d = reads_act levels (env levels limit k) s a (action_read x k d)
    statement_read (label s text h) k d = reads_label levels (env levels limit k) s text
    statement_read (goto s text h) k d = reads_goto levels (env levels limit k) s text
    statement_read («break» s) k d = reads_break levels (env levels limit k) s
    statement_read («continue» s) k d = reads_continue levels (env levels limit k) s
    statement_read («return» s a b x) k d = return_read x k d s
    statement_read (throw s a b x) k d = throw_read x k d s
    statement_read (if_ s a t o b c e x y z) k d =
        reads_if levels (env levels limit k) s a t o (may_hold levels limit k t c y (omega (arith, d))) (value_read x k (omega (arith, d))) (inside_is levels limit k t (block_read y k (omega (arith, d)))) (else_read z k (omega (arith, d)))
    statement_read (while_ s a t b c x y) k d =
        reads_while levels (env levels limit k) s a t (may_hold levels limit k t c y (omega (arith, d))) (value_read x k (omega (arith, d))) (inside_is levels limit k t (block_read y k (omega (arith, d))))
    statement_read (do_while s t a b c x y) k d =
        reads_do levels (env levels limit k) s a t (may_hold levels limit k t b x (omega (arith, d))) (value_read y k (omega (arith, d))) (inside_is levels limit k t (block_read x k (omega (arith, d))))
    statement_read (for_ s a step t b c e x y z) k d =
        reads_for levels (env levels limit k) s a step t (may_hold levels limit k t e z (omega (arith, d))) (value_read x k (omega (arith, d))) (action_read y k (omega (arith, d))) (inside_is levels limit k t (block_read z k (omega (arith, d))))
    statement_read (foreach s u x a t b c h q y z) k d =
        reads_foreach levels (env levels limit k) s u x a t (may_hold levels limit k t c z (omega (arith, d))) (known_type levels limit k u h) (value_read y k (omega (arith, d))) (inside_is levels limit k t (block_read z k (omega (arith, d))))
    statement_read (using s u x a t b c h q y z) k d =
        reads_using levels (env levels limit k) s u x a t (may_hold levels limit k t c z (omega (arith, d))) (known_type levels limit k u h) (value_read y k (omega (arith, d))) (inside_is levels limit k t (block_read z k (omega (arith, d))))
    statement_read (lock s a t b c x y) k d =
        reads_lock levels (env levels limit k) s a t (may_hold levels limit k t c y (omega (arith, d))) (value_read x k (omega (arith, d))) (inside_is levels limit k t (block_read y k (omega (arith, d))))
    statement_read (switch s a cs b c x y) k d = reads_switch levels (env levels limit k) s a cs (value_read x k (omega (arith, d))) (sections_read y k (omega (arith, d)))
    statement_read (try s t cs o b c e x y z) k d =
        reads_try levels (env levels limit k) s t cs o (may_hold levels limit k t b x (omega (arith, d))) (inside_is levels limit k t (block_read x k (omega (arith, d)))) (catches_read y k (omega (arith, d))) (finally_read z k (omega (arith, d)))
