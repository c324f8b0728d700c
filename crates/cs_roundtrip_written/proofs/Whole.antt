-- Well formed expressions, statements and blocks are written well: one induction over all of them. The laws.
use Rattle.std.proofs.Common.{◌≡◌, ℕ, ◌+◌, true, false, List, [], ◌++◌, map, Option, Some, None, refl, ap, arith}
use Rattle.std.specs.Option.{option_map}
use Rattle.std.specs.List.{list_all, flat_map}
use Rattle.cs_token.specs.Words.{is_blank}
use Rattle.cs_token.specs.declared.lexeme.Lexeme.TheVariants as lexeme
use Rattle.cs_token.specs.Placed.{Placed}
use Rattle.cs_tree.specs.declared.types.Spot.{Spot}
use Rattle.cs_tree.specs.declared.forms.Arg.{Arg}
use Rattle.cs_tree.specs.declared.forms.Form.{Form}
use Rattle.cs_tree.specs.declared.forms.Block.{Block}
use Rattle.cs_tree.specs.declared.forms.Action.{Action}
use Rattle.cs_tree.specs.declared.forms.Section.{Section}
use Rattle.cs_tree.specs.declared.forms.Catching.{Catching}
use Rattle.cs_tree.specs.declared.forms.Syntax.{Syntax}
use Rattle.cs_tree.specs.declared.forms.Syntax.TheVariants as syntax
use Rattle.cs_grammar.specs.Grammar.{Grammar}
use Rattle.cs_statements.specs.Laws.{expression_at}
use Rattle.cs_statements.specs.Blocks.{block_at}
use Rattle.cs_tree.specs.Bare.{bare_form, bare_block}
use Rattle.cs_written.specs.Written.{written}
use Rattle.cs_written.proofs.Apart.{read_from}
use Rattle.cs_layout.specs.Pieces.{Piece, tokens, last}
use Rattle.cs_layout.specs.declared.fixed.Fixed.TheVariants as part
use Rattle.cs_layout.specs.Words.{fixed, ranks, binary_level}
use Rattle.cs_layout.specs.Layout.{Laid, form_shown, action_laid, syntax_laid, block_laid, section_laid, catching_laid, deeper, braced}
use Rattle.cs_layout.specs.Layout as laid
use Rattle.cs_layout.proofs.Written.{bytes_from}
use Rattle.cs_wellformed.specs.WellFormed.{IsForm, literal, named, this, member, call, base_member, base_call, path, path_call, index, new, new_array, checked, unchecked, default, lambda, unary, cast, binary, test_is, test_as, conditional, AreArgs, no_args, more_args, IsBlock, in_braces, AreStatements, no_statements, more_statements, IsValue, value, IsMaybeValue, no_value, some_value, IsMaybeBlock, no_block, some_block, IsPlace, place, IsCall, member_call, base_member_call, global_call, new_call, IsAction, assign, compound, invoke, AreSections, no_sections, more_sections, AreCatches, no_catches, more_catches, IsStatement, declare, act, label, goto, «break», «continue», «return», throw, if_, while_, do_while, for_, foreach, using, lock, switch, try}
use Rattle.cs_wellformed.proofs.Shown.{shown_Literal, shown_Name, shown_This, shown_Member, shown_Call, shown_BaseMember, shown_BaseCall, shown_Global, shown_GlobalCall, shown_Index, shown_New, shown_NewArray, shown_Checked, shown_Unchecked, shown_Default, shown_Lambda, shown_Cast, shown_Binary, shown_Is, shown_As, shown_Conditional}
use Rattle.cs_roundtrip_types.specs.Laws.{IsReadBack}
use Rattle.cs_roundtrip_statements.proofs.Whole.{expressions, blocks_back}
use Rattle.cs_roundtrip_written.specs.Sound.{Before, Sound, Is, Free, Closed, FormSound}
use Rattle.cs_roundtrip_written.specs.Laws.{IsWrittenWell, IsTextOf, ExpressionsAreWrittenWell, BlocksAreWrittenWell, PrintedExpressionsAreReadBack, PrintedBlocksAreReadBack}
use Rattle.cs_roundtrip_written.proofs.Sounds.{sound_then, sound_none, sound_where, puts_sign, closed_free, takes_free, free_is, free_none, free_index, free_unindex}
use Rattle.cs_roundtrip_written.proofs.Texts.{gaps_are_blank, written_from}
use Rattle.cs_roundtrip_written.proofs.Words.{sound_name, sound_path, sound_global, sound_ranks, sound_literal}
use Rattle.cs_roundtrip_written.proofs.Forms.{at_shown, sound_primary, sound_low, sound_object, ArgsSound, args_none, args_more, sound_arguments, sound_dot, sound_member, sound_index, sound_this, sound_base, sound_new, sound_checked, sound_unchecked, sound_default, sound_lambda, level_low, sound_unary, sound_cast, sound_binary, sound_is, sound_as, sound_conditional}
use Rattle.cs_roundtrip_written.proofs.Statements.{deeper_blank, sound_braced, sound_assign, sound_compound, sound_invoke, sound_declare, sound_act, sound_label, sound_goto, sound_break, sound_continue, sound_return_nothing, sound_return, sound_rethrow, sound_throw, sound_no_block, sound_else, sound_finally, sound_if, sound_while, sound_do, sound_for, sound_foreach, sound_using, sound_lock, sound_section, sound_switch, sound_catching, sound_try, sound_block}

abbrev Blank : List ℕ → Type 0
Blank margin = list_all is_blank margin ≡ true

-- a new array with its brackets
sound_array : (a : Form) (r : ℕ) (margin : List ℕ) → FormSound a ((form_shown a).pieces margin)
    → Sound Closed (fixed part.OpenIndex ++ ((form_shown a).pieces margin ++ (fixed part.CloseIndex ++ ranks r))) Closed
unfolding fixed
sound_array a r margin x =
    puts_sign 4 (omega arith) (λ s c. c 4)
    (sound_where (λ s e. free_is (Some (lexeme.Sign 4)) s free_index e)
    (sound_then x.any (puts_sign 5 (omega arith) (λ s c. c 5) (sound_where (λ s e. closed_free s (free_is (Some (lexeme.Sign 5)) s free_unindex e)) (sound_ranks r)))))

module _ (levels limit : ℕ) where
  mutual
    pub form_sound : {f : Form} {h b : ℕ} → IsForm levels limit f h b → (margin : List ℕ) → Blank margin → FormSound f ((form_shown f).pieces margin)
    form_sound (literal s l k) margin blank = at_shown margin _ (shown_Literal s l) (sound_primary (sound_literal false l k))
    form_sound (named s text k) margin blank = at_shown margin _ (shown_Name s text) (sound_primary (sound_name false text k))
    form_sound (this s) margin blank = at_shown margin _ (shown_This s) (sound_primary sound_this)
    form_sound (member s a x h b y p k) margin blank =
        at_shown margin _ (shown_Member s a x) (sound_primary (sound_then (sound_object 13 a margin (omega arith) (form_sound y margin blank)) (sound_member x.text k)))
    form_sound (call s a x args h k b c y p q z) margin blank =
        at_shown margin _ (shown_Call s a x args)
        (sound_primary (sound_then (sound_object 13 a margin (omega arith) (form_sound y margin blank)) (sound_dot x.text q (sound_arguments args margin (args_sound z margin blank)))))
    form_sound (base_member s x k) margin blank =
        at_shown margin _ (shown_BaseMember s x) (sound_primary (sound_base (sound_where (λ s f. takes_free false s f) (sound_name false x.text k))))
    form_sound (base_call s x args k c q z) margin blank =
        at_shown margin _ (shown_BaseCall s x args)
        (sound_primary (sound_base (sound_then (sound_where (λ s f. takes_free false s f) (sound_name false x.text q)) (sound_arguments args margin (args_sound z margin blank)))))
    form_sound (path s names q) margin blank =
        at_shown margin _ (shown_Global s names) (sound_primary (sound_global false (sound_where (λ s f. takes_free false s f) (sound_path false names q))))
    form_sound (path_call s names args k c q z) margin blank =
        at_shown margin _ (shown_GlobalCall s names args)
        (sound_primary (sound_global false (sound_then (sound_where (λ s f. takes_free false s f) (sound_path false names q)) (sound_arguments args margin (args_sound z margin blank)))))
    form_sound (index s a i h k b c x y) margin blank =
        at_shown margin _ (shown_Index s a i) (sound_primary (sound_then (sound_object 14 a margin (omega arith) (form_sound x margin blank)) (sound_index i margin (form_sound y margin blank))))
    form_sound (new s class args k c q z) margin blank =
        at_shown margin _ (shown_New s class args) (sound_primary (sound_new class q (sound_arguments args margin (args_sound z margin blank))))
    form_sound (new_array s t a h b q r x) margin blank =
        at_shown margin _ (shown_NewArray s t a) (sound_primary (sound_new t.name q (sound_array a t.ranks margin (form_sound x margin blank))))
    form_sound (checked s a h b x) margin blank = at_shown margin _ (shown_Checked s a) (sound_primary (sound_checked a margin (form_sound x margin blank)))
    form_sound (unchecked s a h b x) margin blank = at_shown margin _ (shown_Unchecked s a) (sound_primary (sound_unchecked a margin (form_sound x margin blank)))
    form_sound (default s t q) margin blank = at_shown margin _ (shown_Default s t) (sound_primary (sound_default limit t q))
    form_sound (lambda s params body b q x) margin blank =
        at_shown margin _ (shown_Lambda s params body) (sound_primary (sound_lambda limit params body margin blank q (block_sound x (deeper margin) (deeper_blank margin blank))))
    form_sound (unary s o a h b x) margin blank = sound_unary s o a margin (form_sound x margin blank)
    form_sound (cast s t a h b q x) margin blank = at_shown margin _ (shown_Cast s t a) (sound_primary (sound_cast limit t a margin q (form_sound x margin blank)))
    form_sound (binary s o l r h k b c x y) margin blank =
        at_shown margin _ (shown_Binary s o l r)
        (sound_low (binary_level o) (ap (λ z. z.level) (shown_Binary s o l r)) (level_low o) (sound_binary o l r margin (form_sound x margin blank) (form_sound y margin blank)))
    form_sound (test_is s a t h b x q) margin blank =
        at_shown margin _ (shown_Is s a t) (sound_low 7 (ap (λ z. z.level) (shown_Is s a t)) (omega arith) (sound_is limit a t margin q (form_sound x margin blank)))
    form_sound (test_as s a t h b x q) margin blank =
        at_shown margin _ (shown_As s a t) (sound_low 7 (ap (λ z. z.level) (shown_As s a t)) (omega arith) (sound_as limit a t margin q (form_sound x margin blank)))
    form_sound (conditional s a l r h j k b c e x y z) margin blank =
        at_shown margin _ (shown_Conditional s a l r)
        (sound_low 0 (ap (λ z. z.level) (shown_Conditional s a l r)) (omega arith) (sound_conditional a l r margin (form_sound x margin blank) (form_sound y margin blank) (form_sound z margin blank)))

    pub args_sound : {args : List Arg} {j c : ℕ} → AreArgs levels limit args j c → (margin : List ℕ) → Blank margin → ArgsSound args margin
    args_sound no_args margin blank = args_none margin
    args_sound (more_args w a args h j b c x y) margin blank = args_more w a args margin (form_sound x margin blank) (args_sound y margin blank)

    pub block_sound : {b : Block} {c : ℕ} → IsBlock levels limit b c → (margin : List ℕ) → Blank margin → Sound (Is None) (block_laid b margin) (Is None)
    block_sound (in_braces stmts end c x) margin blank = sound_block margin blank stmts end (statements_sound x margin blank)

    statements_sound : {ss : List Syntax} {c : ℕ} → AreStatements levels limit ss c → (margin : List ℕ) → Blank margin → Sound (Is None) (flat_map (λ (s : Laid). s margin) (map syntax_laid ss)) (Is None)
    statements_sound no_statements margin blank = sound_none (λ s e. e)
    statements_sound (more_statements s ss b c x y) margin blank = sound_then (statement_sound x margin blank) (statements_sound y margin blank)

    value_sound : {a : Form} {c : ℕ} → IsValue levels limit a c → (margin : List ℕ) → Blank margin → FormSound a ((form_shown a).pieces margin)
    value_sound (value a h b x l) margin blank = form_sound x margin blank

    else_sound : {o : Option Block} {c : ℕ} → IsMaybeBlock levels limit o c → (margin : List ℕ) → Blank margin → Sound (Is None) (laid.maybe_block (fixed part.Else) (option_map block_laid o) margin) (Is None)
    else_sound no_block margin blank = sound_no_block margin blank (fixed part.Else)
    else_sound (some_block b c x) margin blank = sound_else margin blank b (block_sound x (deeper margin) (deeper_blank margin blank))

    finally_sound : {o : Option Block} {c : ℕ} → IsMaybeBlock levels limit o c → (margin : List ℕ) → Blank margin → Sound (Is None) (laid.maybe_block (fixed part.Finally) (option_map block_laid o) margin) (Is None)
    finally_sound no_block margin blank = sound_no_block margin blank (fixed part.Finally)
    finally_sound (some_block b c x) margin blank = sound_finally margin blank b (block_sound x (deeper margin) (deeper_blank margin blank))

    place_sound : {p : Form} {c : ℕ} → IsPlace levels limit p c → (margin : List ℕ) → Blank margin → FormSound p ((form_shown p).pieces margin)
    place_sound (place a h b x free l) margin blank = form_sound x margin blank

    call_sound : {f : Form} {c : ℕ} → IsCall levels limit f c → (margin : List ℕ) → Blank margin → FormSound f ((form_shown f).pieces margin)
    call_sound (member_call s a x args h j b c y p free q z l) margin blank =
        at_shown margin _ (shown_Call s a x args)
        (sound_primary (sound_then (sound_object 13 a margin (omega arith) (form_sound y margin blank)) (sound_dot x.text q (sound_arguments args margin (args_sound z margin blank)))))
    call_sound (base_member_call s x args j c q z l) margin blank =
        at_shown margin _ (shown_BaseCall s x args)
        (sound_primary (sound_base (sound_then (sound_where (λ s f. takes_free false s f) (sound_name false x.text q)) (sound_arguments args margin (args_sound z margin blank)))))
    call_sound (global_call s names args j c q z l) margin blank =
        at_shown margin _ (shown_GlobalCall s names args)
        (sound_primary (sound_global false (sound_then (sound_where (λ s f. takes_free false s f) (sound_path false names q)) (sound_arguments args margin (args_sound z margin blank)))))
    call_sound (new_call s class args j c q z l) margin blank =
        at_shown margin _ (shown_New s class args) (sound_primary (sound_new class q (sound_arguments args margin (args_sound z margin blank))))

    action_sound : {a : Action} {c : ℕ} → IsAction levels limit a c → (margin : List ℕ) → Blank margin → Sound Free (action_laid a margin) Closed
    action_sound (assign p a b c x y) margin blank = sound_assign margin blank p a (place_sound x margin blank) (value_sound y margin blank)
    action_sound (compound o p a b c x y) margin blank = sound_compound margin blank o p a (place_sound x margin blank) (value_sound y margin blank)
    action_sound (invoke a b x) margin blank = sound_invoke margin blank a (call_sound x margin blank).any

    sections_sound : {cs : List Section} {c : ℕ} → AreSections levels limit cs c → (margin : List ℕ) → Blank margin → Sound (Is None) (flat_map (λ (c : Laid). c margin) (map section_laid cs)) (Is None)
    sections_sound no_sections margin blank = sound_none (λ s e. e)
    sections_sound (more_sections ls block cs b c h x y) margin blank =
        sound_then (sound_section margin blank ls block h (block_sound x (deeper margin) (deeper_blank margin blank))) (sections_sound y margin blank)

    catches_sound : {cs : List Catching} {c : ℕ} → AreCatches levels limit cs c → (margin : List ℕ) → Blank margin → Sound (Is None) (flat_map (λ (c : Laid). c margin) (map catching_laid cs)) (Is None)
    catches_sound no_catches margin blank = sound_none (λ s e. e)
    catches_sound (more_catches s t x block cs b c h q y z) margin blank =
        sound_then (sound_catching margin blank limit s t x block h q (block_sound y (deeper margin) (deeper_blank margin blank))) (catches_sound z margin blank)

    return_sound : {v : Option Form} {c : ℕ} → IsMaybeValue levels limit v c → (margin : List ℕ) → Blank margin → (s : Spot) → Sound (Is None) (syntax_laid (syntax.Return s v) margin) (Is None)
    return_sound no_value margin blank s = sound_return_nothing margin blank s
    return_sound (some_value a b x) margin blank s = sound_return margin blank s a (value_sound x margin blank)

    throw_sound : {v : Option Form} {c : ℕ} → IsMaybeValue levels limit v c → (margin : List ℕ) → Blank margin → (s : Spot) → Sound (Is None) (syntax_laid (syntax.Throw s v) margin) (Is None)
    throw_sound no_value margin blank s = sound_rethrow margin blank s
    throw_sound (some_value a b x) margin blank s = sound_throw margin blank s a (value_sound x margin blank)

    statement_sound : {s : Syntax} {c : ℕ} → IsStatement levels limit s c → (margin : List ℕ) → Blank margin → Sound (Is None) (syntax_laid s margin) (Is None)
    statement_sound (declare s t x a b h q y) margin blank = sound_declare margin blank limit s t x a h q (value_sound y margin blank)
    statement_sound (act s a b x) margin blank = sound_act margin blank s a (action_sound x margin blank)
    statement_sound (label s text h) margin blank = sound_label margin blank s text h
    statement_sound (goto s text h) margin blank = sound_goto margin blank s text h
    statement_sound («break» s) margin blank = sound_break margin blank s
    statement_sound («continue» s) margin blank = sound_continue margin blank s
    statement_sound («return» s a b x) margin blank = return_sound x margin blank s
    statement_sound (throw s a b x) margin blank = throw_sound x margin blank s
    statement_sound (if_ s a t o b c e x y z) margin blank =
        sound_if margin blank s a t o (value_sound x margin blank) (block_sound y (deeper margin) (deeper_blank margin blank)) (else_sound z margin blank)
    statement_sound (while_ s a t b c x y) margin blank = sound_while margin blank s a t (value_sound x margin blank) (block_sound y (deeper margin) (deeper_blank margin blank))
    statement_sound (do_while s t a b c x y) margin blank = sound_do margin blank s a t (value_sound y margin blank) (block_sound x (deeper margin) (deeper_blank margin blank))
    statement_sound (for_ s a step t b c e x y z) margin blank =
        sound_for margin blank s a step t (value_sound x margin blank) (action_sound y margin blank) (block_sound z (deeper margin) (deeper_blank margin blank))
    statement_sound (foreach s u x a t b c h q y z) margin blank =
        sound_foreach margin blank limit s u x a t h q (value_sound y margin blank) (block_sound z (deeper margin) (deeper_blank margin blank))
    statement_sound (using s u x a t b c h q y z) margin blank =
        sound_using margin blank limit s u x a t h q (value_sound y margin blank) (block_sound z (deeper margin) (deeper_blank margin blank))
    statement_sound (lock s a t b c x y) margin blank = sound_lock margin blank s a t (value_sound x margin blank) (block_sound y (deeper margin) (deeper_blank margin blank))
    statement_sound (switch s a cs b c x y) margin blank = sound_switch margin blank s a cs (value_sound x margin blank) (sections_sound y (deeper margin) (deeper_blank margin blank))
    statement_sound (try s t cs o b c e x y z) margin blank =
        sound_try margin blank s t cs o (block_sound x (deeper margin) (deeper_blank margin blank)) (catches_sound y margin blank) (finally_sound z margin blank)

-- the laws

written_well : (Pre Post : Before → Type 0) (ps : List Piece) → Sound Pre ps Post → Pre None → IsWrittenWell ps
written_well Pre Post ps x start = let w = (x.sound None start).0 in (gaps_are_blank None ps w, written_from None [] ps refl w)

pub expressions_well : ExpressionsAreWrittenWell
expressions_well levels limit h b f margin blank x = written_well Free Closed ((form_shown f).pieces margin) (form_sound levels limit x margin blank).any free_none

pub blocks_well : BlocksAreWrittenWell
blocks_well levels limit c b margin blank x =
    written_well (Is None) (Is None) (braced (block_laid b) margin) (sound_braced margin blank b (block_sound levels limit x (deeper margin) (deeper_blank margin blank))) refl

text_of : {A : Type 0} (g wide : Grammar Placed A) (Wanted : A → Type 0) (ps : List Piece) → IsWrittenWell ps → IsReadBack g wide Wanted ps → IsTextOf g wide Wanted ps
text_of g wide Wanted ps well back =
    let r = read_from (written (tokens ps) (last ps)) (tokens ps) (last ps) well.1 in
    (written (tokens ps) (last ps), bytes_from [] ps well.0, (r.0, r.1, back r.0 r.2))

pub printed_expressions : PrintedExpressionsAreReadBack
printed_expressions levels limit blocks f margin some blank w =
    text_of (expression_at levels limit blocks) (expression_at (levels + 2) (limit + 1) (blocks + 1)) (λ m. bare_form m.form ≡ bare_form f) ((form_shown f).pieces margin)
    (expressions_well levels limit w.0 w.1 f margin blank w.2) (expressions levels limit blocks f margin some w)

pub printed_blocks : PrintedBlocksAreReadBack
printed_blocks levels limit blocks b margin some blank w =
    text_of (block_at levels limit blocks) (block_at (levels + 2) (limit + 1) (blocks + 1)) (λ c. bare_block c ≡ bare_block b) (braced (block_laid b) margin)
    (blocks_well levels limit w.0 b margin blank w.1) (blocks_back levels limit blocks b margin some w)
