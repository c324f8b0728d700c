-- Statements that hold blocks, all statements, and blocks, with more levels and more blocks.
use Rattle.std.proofs.Common.{◌≡◌, ℕ, zero, suc, ◌+◌, ◌<◌, ◌≤◌, Bool, true, false, List, [], ◌∷◌, ◌++◌, refl, nat_lt, arith}
use Rattle.std.proofs.lemmas.Bool.{ltb-true, lt-ltb}
use Rattle.cs_token.specs.Placed.{Placed as Token}
use Rattle.cs_token.specs.declared.lexeme.Lexeme.TheVariants as lexeme
use Rattle.cs_tree.specs.declared.types.Spot.{Spot}
use Rattle.cs_tree.specs.declared.types.Name.{Name}
use Rattle.cs_tree.specs.declared.types.TypeForm.{TypeForm}
use Rattle.cs_tree.specs.declared.forms.SwitchLabel.{SwitchLabel}
use Rattle.cs_tree.specs.declared.forms.SwitchLabel.TheVariants as switch_label
use Rattle.cs_tree.specs.declared.forms.Block.{Block}
use Rattle.cs_tree.specs.declared.forms.Section.{Section}
use Rattle.cs_tree.specs.declared.forms.Catching.{Catching}
use Rattle.cs_tree.specs.declared.forms.Syntax.{Syntax}
use Rattle.cs_tree.specs.declared.forms.Syntax.TheVariants as syntax
use Rattle.cs_productions.specs.declared.values.Measured.{Measured}
use Rattle.cs_grammar.specs.Kinds.{has}
use Rattle.cs_grammar.specs.Grammar.{Grammar, gives, ◌>>=◌, turns}
use Rattle.cs_grammar.specs.Exact.{Exact}
use Rattle.cs_grammar.specs.Whole.{Deeper}
use Rattle.cs_grammar.specs.Levels.{Enters}
use Rattle.cs_grammar.proofs.Basics.{exact_gives, wider}
use Rattle.cs_grammar.proofs.Bind.{then}
use Rattle.cs_grammar.proofs.Turns.{repeat}
use Rattle.cs_grammar.proofs.Deeper.{yields_any, enters_one, enters_then, deeper_turns}
use Rattle.cs_productions.specs.Kinds.{names, global, brace, unbrace, paren, unparen, equals, colon, semicolon, keyword_types, kw_if, kw_else, kw_while, kw_do, kw_for, kw_foreach, kw_in, kw_using, kw_lock, kw_switch, kw_case, kw_default, kw_try, kw_catch, kw_finally}
use Rattle.cs_productions.specs.Tokens.{kind, spot_of, literal_of}
use Rattle.cs_productions.specs.Inner.{Inner}
use Rattle.cs_productions.specs.Levels.{below}
use Rattle.cs_productions.proofs.Follow.{AreExact}
use Rattle.cs_productions.proofs.ExactTokens.{sample, sample_of, exact_sign, exact_any_name}
use Rattle.cs_productions.proofs.ExactTypes.{exact_ty}
use Rattle.cs_productions.proofs.Deepening.{enters_or, enters_where, enters_narrow, deeper_stopped}
use Rattle.cs_productions.proofs.DeeperTypes.{deeper_ty}
use Rattle.cs_productions.proofs.Growing.{Grows, grows, to, grows_gives, grows_one, grows_sign, grows_place, grows_any_name, grows_then, grows_or, grows_where, grows_turns}
use Rattle.cs_productions.proofs.DeeperCalls.{Widens, block_room}
use Rattle.cs_productions.proofs.DeeperLevels.{widens}
use Rattle.cs_statements.specs.Kinds.{name_kinds, literal_kinds, jump_kinds, block_kinds, statement_kinds, unnamed_primary_kinds}
use Rattle.cs_statements.specs.Structured.{tested, some_block, no_block, maybe_block, of_if, of_while, of_do, of_for, over, foreach_of, using_of, of_foreach, of_using, of_lock, label, one_more_label, section_of, section, one_more_section, of_switch, some_name, no_name, maybe_name, catching_of, catching, one_more_catching, of_try, structured}
use Rattle.cs_statements.specs.Blocks.{simple_statement, statement, one_more_statement, block_of, braced, block_at}
use Rattle.cs_statements.proofs.ExactActions.{exact_expression, exact_primary, exact_step}
use Rattle.cs_statements.proofs.ExactStatements.{simple_kinds, exact_tested, exact_else, exact_finally, exact_one_more_label, exact_one_more_section, exact_maybe_name, exact_one_more_catching, exact_structured, statement_follow, exact_block_at}
use Rattle.cs_statements.proofs.DeeperActions.{grows_expression, grows_jump, enters_jump, grows_keyword_declared, enters_keyword_declared, grows_step, grows_primary, grows_primary_act, enters_primary_act, grows_named_statement, enters_named_statement, grows_global_statement, enters_global_statement}

-- a block where there is room for one
grows_block : {n m : ℕ} {inner wide : Inner} → Widens n m inner wide → 0 < inner.blocks → Grows inner.block wide.block (brace ∷ []) [] false
grows_block z may = grows (z.block may) z.exact.block

grows_tested : {n m : ℕ} {inner wide : Inner} → Widens n m inner wide → Grows (tested n inner) (tested m wide) (paren ∷ []) [] false
grows_tested z =
    to refl refl (grows_then (grows_sign paren refl) refl (λ _. grows_then (grows_expression z) refl (λ a. grows_then (grows_sign unparen refl) refl (λ _. grows_gives a))))

grows_else : {n m : ℕ} {inner wide : Inner} → Widens n m inner wide → 0 < inner.blocks → Grows (maybe_block inner kw_else) (maybe_block wide kw_else) (kw_else ∷ []) (kw_else ∷ []) true
grows_else z may =
    to refl refl
    (grows_or (kw_else ∷ []) refl refl (grows_then (grows_sign kw_else refl) refl (λ _. grows_then (grows_block z may) refl (λ b. grows_gives (some_block b)))) (grows_gives no_block))

grows_finally : {n m : ℕ} {inner wide : Inner} → Widens n m inner wide → 0 < inner.blocks → Grows (maybe_block inner kw_finally) (maybe_block wide kw_finally) (kw_finally ∷ []) (kw_finally ∷ []) true
grows_finally z may =
    to refl refl
    (grows_or (kw_finally ∷ []) refl refl (grows_then (grows_sign kw_finally refl) refl (λ _. grows_then (grows_block z may) refl (λ b. grows_gives (some_block b)))) (grows_gives no_block))

grows_of_if : {n m : ℕ} {inner wide : Inner} → Widens n m inner wide → 0 < inner.blocks → Grows (of_if n inner) (of_if m wide) (kw_if ∷ []) (kw_else ∷ []) false
grows_of_if z may =
    to refl refl
    (grows_then (grows_place kw_if refl) refl
    (λ s. grows_then (grows_tested z) refl
    (λ a. grows_then (grows_block z may) refl (λ b. grows_then (grows_else z may) refl (λ c. grows_gives (syntax.If s a.form b c))))))

grows_of_while : {n m : ℕ} {inner wide : Inner} → Widens n m inner wide → 0 < inner.blocks → Grows (of_while n inner) (of_while m wide) (kw_while ∷ []) [] false
grows_of_while z may =
    to refl refl
    (grows_then (grows_place kw_while refl) refl
    (λ s. grows_then (grows_tested z) refl (λ a. grows_then (grows_block z may) refl (λ b. grows_gives (syntax.While s a.form b)))))

grows_of_do : {n m : ℕ} {inner wide : Inner} → Widens n m inner wide → 0 < inner.blocks → Grows (of_do n inner) (of_do m wide) (kw_do ∷ []) [] false
grows_of_do z may =
    to refl refl
    (grows_then (grows_place kw_do refl) refl
    (λ s. grows_then (grows_block z may) refl
    (λ b. grows_then (grows_sign kw_while refl) refl
    (λ _. grows_then (grows_tested z) refl (λ a. grows_then (grows_sign semicolon refl) refl (λ _. grows_gives (syntax.DoWhile s b a.form)))))))

grows_of_for : {n m : ℕ} {inner wide : Inner} → Widens n m inner wide → 0 < inner.blocks → Grows (of_for n inner) (of_for m wide) (kw_for ∷ []) [] false
grows_of_for z may =
    to refl refl
    (grows_then (grows_place kw_for refl) refl
    (λ s. grows_then (grows_sign paren refl) refl
    (λ _. grows_then (grows_sign semicolon refl) refl
    (λ _. grows_then (grows_expression z) refl
    (λ a. grows_then (grows_sign semicolon refl) refl
    (λ _. grows_then (grows_then (grows_primary z) refl (λ (p : Measured). grows_step p.is_call p z)) refl
    (λ c. grows_then (grows_block z may) refl (λ b. grows_gives (syntax.For s a.form c b)))))))))

grows_of_foreach : {n m : ℕ} {inner wide : Inner} → Widens n m inner wide → 0 < inner.blocks → Grows (of_foreach n inner) (of_foreach m wide) (kw_foreach ∷ []) [] false
grows_of_foreach {inner = inner} {wide = wide} z may =
    to refl refl
    (grows_then (grows_place kw_foreach refl) refl
    (λ s. grows_then (grows_sign paren refl) refl
    (λ _. grows_then (grows (deeper_ty inner.ranks wide.ranks z.ranks) (exact_ty wide.ranks)) refl
    (λ t. grows_then grows_any_name refl
    (λ name. grows_then (grows_sign kw_in refl) refl
    (λ _. grows_then (grows_expression z) refl
    (λ a. grows_then (grows_sign unparen refl) refl (λ _. grows_then (grows_block z may) refl (λ b. grows_gives (foreach_of s t name a b))))))))))

grows_of_using : {n m : ℕ} {inner wide : Inner} → Widens n m inner wide → 0 < inner.blocks → Grows (of_using n inner) (of_using m wide) (kw_using ∷ []) [] false
grows_of_using {inner = inner} {wide = wide} z may =
    to refl refl
    (grows_then (grows_place kw_using refl) refl
    (λ s. grows_then (grows_sign paren refl) refl
    (λ _. grows_then (grows (deeper_ty inner.ranks wide.ranks z.ranks) (exact_ty wide.ranks)) refl
    (λ t. grows_then grows_any_name refl
    (λ name. grows_then (grows_sign equals refl) refl
    (λ _. grows_then (grows_expression z) refl
    (λ a. grows_then (grows_sign unparen refl) refl (λ _. grows_then (grows_block z may) refl (λ b. grows_gives (using_of s t name a b))))))))))

grows_of_lock : {n m : ℕ} {inner wide : Inner} → Widens n m inner wide → 0 < inner.blocks → Grows (of_lock n inner) (of_lock m wide) (kw_lock ∷ []) [] false
grows_of_lock z may =
    to refl refl
    (grows_then (grows_place kw_lock refl) refl
    (λ s. grows_then (grows_tested z) refl (λ a. grows_then (grows_block z may) refl (λ b. grows_gives (syntax.Lock s a.form b)))))

-- switch

grows_label : Grows label label (kw_case ∷ kw_default ∷ []) [] false
grows_label =
    to refl refl
    (grows_or (kw_case ∷ []) refl refl
    (grows_then (grows_place kw_case refl) refl
    (λ s. grows_then (grows_one literal_kinds (λ t. literal_of t.lexeme) (sample (lexeme.Char 0)) refl) refl
    (λ v. grows_then (grows_sign colon refl) refl (λ _. grows_gives (switch_label.Case s v)))))
    (grows_then (grows_place kw_default refl) refl (λ s. grows_then (grows_sign colon refl) refl (λ _. grows_gives (switch_label.Default s)))))

enters_label : Enters kind (kw_case ∷ kw_default ∷ []) label
enters_label =
    enters_or (kw_case ∷ []) (kw_default ∷ [])
    (enters_then (enters_one (kw_case ∷ []) spot_of)
    (λ s. (grows_then (grows_one literal_kinds (λ t. literal_of t.lexeme) (sample (lexeme.Char 0)) refl) refl
    (λ v. grows_then (grows_sign colon refl) refl (λ _. grows_gives (switch_label.Case s v)))).exact))
    (enters_then (enters_one (kw_default ∷ []) spot_of) (λ s. (grows_then (grows_sign colon refl) refl (λ _. grows_gives (switch_label.Default s))).exact))

grows_one_more_label : (labels : List SwitchLabel) → Grows (one_more_label labels) (one_more_label labels) (kw_case ∷ kw_default ∷ []) [] false
grows_one_more_label labels = to refl refl (grows_then grows_label refl (λ l. grows_gives (labels ++ l ∷ [])))

enters_one_more_label : (labels : List SwitchLabel) → Enters kind (kw_case ∷ kw_default ∷ []) (one_more_label labels)
enters_one_more_label labels = enters_then enters_label (λ l. exact_gives (labels ++ l ∷ []))

grows_section : {n m : ℕ} {inner wide : Inner} → Widens n m inner wide → 0 < inner.blocks → Grows (section inner) (section wide) (kw_case ∷ kw_default ∷ []) [] false
grows_section z may =
    to refl refl
    (grows_then grows_label refl
    (λ first. grows_then (grows_turns (kw_case ∷ kw_default ∷ []) (first ∷ []) refl refl enters_one_more_label grows_one_more_label) refl
    (λ labels. grows_then (grows_block z may) refl (λ b. grows_gives (section_of labels b)))))

exact_behind_label : {inner : Inner} (first : SwitchLabel) → AreExact inner → Exact kind (do labels ← turns kind (kw_case ∷ kw_default ∷ []) (λ _. true) one_more_label (first ∷ []); b ← inner.block; gives (section_of labels b)) (kw_case ∷ kw_default ∷ brace ∷ []) [] false
exact_behind_label first x =
    wider refl refl
    (then (repeat (kw_case ∷ kw_default ∷ []) (λ _. true) (first ∷ []) refl refl exact_one_more_label) refl (λ labels. then x.block refl (λ b. exact_gives (section_of labels b))))

grows_one_more_section : {n m : ℕ} {inner wide : Inner} (sections : List Section) → Widens n m inner wide → 0 < inner.blocks → Grows (one_more_section inner sections) (one_more_section wide sections) (kw_case ∷ kw_default ∷ []) [] false
grows_one_more_section sections z may = to refl refl (grows_then (grows_section z may) refl (λ c. grows_gives (sections ++ c ∷ [])))

enters_one_more_section : {inner : Inner} (sections : List Section) → AreExact inner → Enters kind (kw_case ∷ kw_default ∷ []) (one_more_section inner sections)
enters_one_more_section sections x = enters_then (enters_then enters_label (λ first. exact_behind_label first x)) (λ c. exact_gives (sections ++ c ∷ []))

-- rounds that there is always room for, or never
deeper_turns_where : {A : Type 0} {further : A → Grammar Token A} {ys w : List ℕ} {b : Bool} (f : A → Grammar Token A) (first : List ℕ) (room more : Bool) (a : A) → more ≡ true → (room ≡ true → (c : A) → Deeper (f c) (further c)) → ((c : A) → Enters kind first (further c)) → ((c : A) → Exact kind (further c) ys w b) → Deeper (turns kind first (λ _. room) f a) (turns kind first (λ _. more) further a)
deeper_turns_where f first true more a e d n x = deeper_turns {P = λ _. Unit {0}} first (λ _. true) (λ _. more) a tt (λ _ _. e) (λ c _ _. yields_any (f c)) (λ c _. d refl c) n x
deeper_turns_where f first false more a e d n x = deeper_stopped f first (λ _. false) (λ _. more) a refl e (n a) x

grows_sections : {n m : ℕ} {inner wide : Inner} → Widens n m inner wide → Grows (turns kind (kw_case ∷ kw_default ∷ []) (λ _. nat_lt 0 inner.blocks) (one_more_section inner) []) (turns kind (kw_case ∷ kw_default ∷ []) (λ _. nat_lt 0 wide.blocks) (one_more_section wide) []) (kw_case ∷ kw_default ∷ []) (kw_case ∷ kw_default ∷ []) true
grows_sections {inner = inner} {wide = wide} z =
    grows
    (deeper_turns_where (one_more_section inner) (kw_case ∷ kw_default ∷ []) (nat_lt 0 inner.blocks) (nat_lt 0 wide.blocks) [] (block_room z)
    (λ r sections. (grows_one_more_section sections z (ltb-true 0 inner.blocks r)).deeper) (λ sections. enters_one_more_section sections z.exact)
    (λ sections. exact_one_more_section sections z.exact))
    (wider refl refl (repeat (kw_case ∷ kw_default ∷ []) (λ _. nat_lt 0 wide.blocks) [] refl refl (λ sections. exact_one_more_section sections z.exact)))

grows_of_switch : {n m : ℕ} {inner wide : Inner} → Widens n m inner wide → Grows (of_switch n inner) (of_switch m wide) (kw_switch ∷ []) [] false
grows_of_switch z =
    to refl refl
    (grows_then (grows_place kw_switch refl) refl
    (λ s. grows_then (grows_tested z) refl
    (λ a. grows_then (grows_sign brace refl) refl
    (λ _. grows_then (grows_sections z) refl (λ sections. grows_then (grows_sign unbrace refl) refl (λ _. grows_gives (syntax.Switch s a.form sections)))))))

-- try

grows_maybe_name : Grows maybe_name maybe_name names names true
grows_maybe_name = to refl refl (grows_or names refl refl (grows_then grows_any_name refl (λ x. grows_gives (some_name x))) (grows_gives no_name))

grows_catching : {n m : ℕ} {inner wide : Inner} → Widens n m inner wide → 0 < inner.blocks → Grows (catching inner) (catching wide) (kw_catch ∷ []) [] false
grows_catching {inner = inner} {wide = wide} z may =
    to refl refl
    (grows_then (grows_place kw_catch refl) refl
    (λ s. grows_then (grows_sign paren refl) refl
    (λ _. grows_then (grows (deeper_ty inner.ranks wide.ranks z.ranks) (exact_ty wide.ranks)) refl
    (λ t. grows_then grows_maybe_name refl
    (λ x. grows_then (grows_sign unparen refl) refl (λ _. grows_then (grows_block z may) refl (λ b. grows_gives (catching_of s t x b))))))))

grows_one_more_catching : {n m : ℕ} {inner wide : Inner} (catches : List Catching) → Widens n m inner wide → 0 < inner.blocks → Grows (one_more_catching inner catches) (one_more_catching wide catches) (kw_catch ∷ []) [] false
grows_one_more_catching catches z may = to refl refl (grows_then (grows_catching z may) refl (λ c. grows_gives (catches ++ c ∷ [])))

enters_one_more_catching : {inner : Inner} (catches : List Catching) → AreExact inner → Enters kind (kw_catch ∷ []) (one_more_catching inner catches)
enters_one_more_catching {inner = inner} catches x =
    enters_then
    (enters_then (enters_one (kw_catch ∷ []) spot_of)
    (λ s. then (exact_sign paren refl) refl
    (λ _. then (exact_ty inner.ranks) refl
    (λ t. then exact_maybe_name refl (λ y. then (exact_sign unparen refl) refl (λ _. then x.block refl (λ b. exact_gives (catching_of s t y b))))))))
    (λ c. exact_gives (catches ++ c ∷ []))

grows_of_try : {n m : ℕ} {inner wide : Inner} → Widens n m inner wide → 0 < inner.blocks → Grows (of_try inner) (of_try wide) (kw_try ∷ []) (kw_catch ∷ kw_finally ∷ []) false
grows_of_try z may =
    to refl refl
    (grows_then (grows_place kw_try refl) refl
    (λ s. grows_then (grows_block z may) refl
    (λ b. grows_then (grows_turns (kw_catch ∷ []) [] refl refl (λ catches. enters_one_more_catching catches z.exact) (λ catches. grows_one_more_catching catches z may)) refl
    (λ catches. grows_then (grows_finally z may) refl (λ last. grows_gives (syntax.Try s b catches last))))))

grows_structured : {n m : ℕ} {inner wide : Inner} → Widens n m inner wide → 0 < inner.blocks → Grows (structured n inner) (structured m wide) block_kinds statement_follow false
grows_structured z may =
    to refl refl
    (grows_or (kw_if ∷ []) refl refl (grows_of_if z may)
    (grows_or (kw_while ∷ []) refl refl (grows_of_while z may)
    (grows_or (kw_do ∷ []) refl refl (grows_of_do z may)
    (grows_or (kw_for ∷ []) refl refl (grows_of_for z may)
    (grows_or (kw_foreach ∷ []) refl refl (grows_of_foreach z may)
    (grows_or (kw_using ∷ []) refl refl (grows_of_using z may) (grows_or (kw_lock ∷ []) refl refl (grows_of_lock z may) (grows_of_try z may))))))))

enters_over : {inner : Inner} (n first between : ℕ) (made : Spot → TypeForm → Name → Measured → Block → Syntax) → has (between ∷ []) (kind (sample_of between)) ≡ true → AreExact inner → Enters kind (first ∷ []) (over n inner first between made)
enters_over {inner = inner} n first between made is x =
    enters_then (enters_one (first ∷ []) spot_of)
    (λ s. then (exact_sign paren refl) refl
    (λ _. then (exact_ty inner.ranks) refl
    (λ t. then exact_any_name refl
    (λ name. then (exact_sign between is) refl
    (λ _. then (exact_expression n x) refl (λ a. then (exact_sign unparen refl) refl (λ _. then x.block refl (λ b. exact_gives (made s t name a b)))))))))

enters_structured : {inner : Inner} (n : ℕ) → AreExact inner → Enters kind block_kinds (structured n inner)
enters_structured n x =
    enters_or (kw_if ∷ []) (kw_while ∷ kw_do ∷ kw_for ∷ kw_foreach ∷ kw_using ∷ kw_lock ∷ kw_try ∷ [])
    (enters_then (enters_one (kw_if ∷ []) spot_of)
    (λ s. then (exact_tested n x) refl (λ a. then x.block refl (λ b. then (exact_else x) refl (λ c. exact_gives (syntax.If s a.form b c))))))
    (enters_or (kw_while ∷ []) (kw_do ∷ kw_for ∷ kw_foreach ∷ kw_using ∷ kw_lock ∷ kw_try ∷ [])
    (enters_then (enters_one (kw_while ∷ []) spot_of) (λ s. then (exact_tested n x) refl (λ a. then x.block refl (λ b. exact_gives (syntax.While s a.form b)))))
    (enters_or (kw_do ∷ []) (kw_for ∷ kw_foreach ∷ kw_using ∷ kw_lock ∷ kw_try ∷ [])
    (enters_then (enters_one (kw_do ∷ []) spot_of)
    (λ s. then x.block refl
    (λ b. then (exact_sign kw_while refl) refl (λ _. then (exact_tested n x) refl (λ a. then (exact_sign semicolon refl) refl (λ _. exact_gives (syntax.DoWhile s b a.form)))))))
    (enters_or (kw_for ∷ []) (kw_foreach ∷ kw_using ∷ kw_lock ∷ kw_try ∷ [])
    (enters_then (enters_one (kw_for ∷ []) spot_of)
    (λ s. then (exact_sign paren refl) refl
    (λ _. then (exact_sign semicolon refl) refl
    (λ _. then (exact_expression n x) refl
    (λ a. then (exact_sign semicolon refl) refl
    (λ _. then (then (exact_primary n x) refl (λ (p : Measured). exact_step n p.is_call p x)) refl (λ c. then x.block refl (λ b. exact_gives (syntax.For s a.form c b)))))))))
    (enters_or (kw_foreach ∷ []) (kw_using ∷ kw_lock ∷ kw_try ∷ []) (enters_over n kw_foreach kw_in foreach_of refl x)
    (enters_or (kw_using ∷ []) (kw_lock ∷ kw_try ∷ []) (enters_over n kw_using equals using_of refl x)
    (enters_or (kw_lock ∷ []) (kw_try ∷ [])
    (enters_then (enters_one (kw_lock ∷ []) spot_of) (λ s. then (exact_tested n x) refl (λ a. then x.block refl (λ b. exact_gives (syntax.Lock s a.form b)))))
    (enters_then (enters_one (kw_try ∷ []) spot_of)
    (λ s. then x.block refl
    (λ b. then (repeat (kw_catch ∷ []) (λ _. true) [] refl refl (λ catches. exact_one_more_catching catches x)) refl
    (λ catches. then (exact_finally x) refl (λ last. exact_gives (syntax.Try s b catches last))))))))))))

-- all statements

grows_simple_statement : {n m : ℕ} {inner wide : Inner} → Widens n m inner wide → Grows (simple_statement n inner) (simple_statement m wide) simple_kinds [] false
grows_simple_statement z =
    to refl refl
    (grows_or keyword_types refl refl (grows_keyword_declared z)
    (grows_or (global ∷ []) refl refl (grows_global_statement z)
    (grows_or name_kinds refl refl (grows_named_statement z)
    (grows_or jump_kinds refl refl (grows_jump z) (grows_or (kw_switch ∷ []) refl refl (grows_of_switch z) (grows_primary_act z))))))

enters_of_switch : {inner : Inner} (n : ℕ) → AreExact inner → Enters kind (kw_switch ∷ []) (of_switch n inner)
enters_of_switch {inner = inner} n x =
    enters_then (enters_one (kw_switch ∷ []) spot_of)
    (λ s. then (exact_tested n x) refl
    (λ a. then (exact_sign brace refl) refl
    (λ _. then (repeat (kw_case ∷ kw_default ∷ []) (λ _. nat_lt 0 inner.blocks) [] refl refl (λ sections. exact_one_more_section sections x)) refl
    (λ sections. then (exact_sign unbrace refl) refl (λ _. exact_gives (syntax.Switch s a.form sections))))))

enters_simple_statement : {inner : Inner} (n : ℕ) → nat_lt 0 n ≡ true → AreExact inner → Enters kind simple_kinds (simple_statement n inner)
enters_simple_statement n room x =
    enters_narrow refl
    (enters_or keyword_types (global ∷ name_kinds ++ (jump_kinds ++ kw_switch ∷ unnamed_primary_kinds)) (enters_keyword_declared n x)
    (enters_or (global ∷ []) (name_kinds ++ (jump_kinds ++ kw_switch ∷ unnamed_primary_kinds)) (enters_global_statement n x)
    (enters_or name_kinds (jump_kinds ++ kw_switch ∷ unnamed_primary_kinds) (enters_named_statement n x)
    (enters_or jump_kinds (kw_switch ∷ unnamed_primary_kinds) (enters_jump n x) (enters_or (kw_switch ∷ []) unnamed_primary_kinds (enters_of_switch n x) (enters_primary_act n room x))))))

pub grows_statement : {n m : ℕ} {inner wide : Inner} → Widens n m inner wide → Grows (statement n inner) (statement m wide) statement_kinds statement_follow false
grows_statement {m = m} {inner = inner} {wide = wide} z =
    to refl refl
    (grows_where block_kinds (nat_lt 0 inner.blocks) (nat_lt 0 wide.blocks) refl refl (block_room z) (enters_structured m z.exact)
    (λ r. (grows_structured z (ltb-true 0 inner.blocks r)).deeper) (exact_structured m z.exact) (grows_simple_statement z))

enters_statement : {n m : ℕ} {inner wide : Inner} → Widens n m inner wide → Enters kind statement_kinds (statement m wide)
enters_statement {m = m} {wide = wide} z =
    let more = z.more in
    enters_narrow refl
    (enters_where block_kinds simple_kinds (nat_lt 0 wide.blocks) (block_room z) (enters_structured m z.exact)
    (enters_simple_statement m (lt-ltb 0 m (omega arith)) z.exact))

-- blocks

grows_braced : {n m : ℕ} {inner wide : Inner} → Widens n m inner wide → Grows (braced (statement n inner)) (braced (statement m wide)) (brace ∷ []) [] false
grows_braced {n = n} {m = m} {inner = inner} {wide = wide} z =
    to refl refl
    (grows_then (grows_sign brace refl) refl
    (λ _. grows_then
    (grows_turns statement_kinds [] refl refl (λ stmts. enters_then (enters_statement z) (λ s. exact_gives (stmts ++ s ∷ []))) (λ stmts. more_statements stmts)) refl
    (λ stmts. grows_then (grows_place unbrace refl) refl (λ end. grows_gives (block_of stmts end)))))
  where
    more_statements : (stmts : List Syntax) → Grows (one_more_statement (statement n inner) stmts) (one_more_statement (statement m wide) stmts) statement_kinds statement_follow false
    more_statements stmts = to refl refl (grows_then (grows_statement z) refl (λ s. grows_gives (stmts ++ s ∷ [])))

-- a block with more levels, more pairs of brackets and more blocks
pub deeper_block_at : (levels more_levels ranks more_ranks blocks more_blocks : ℕ) → levels + 2 ≤ more_levels → 0 < ranks → ranks < more_ranks → 0 < blocks → blocks < more_blocks → Deeper (block_at levels ranks blocks) (block_at more_levels more_ranks more_blocks)
deeper_block_at levels more_levels ranks more_ranks zero more_blocks l some r b k = absurd (omega arith)
deeper_block_at levels more_levels ranks more_ranks (suc blocks) zero l some r b k = absurd (omega arith)
deeper_block_at levels more_levels ranks more_ranks (suc blocks) (suc more_blocks) l some r b k =
    (grows_braced
    (widens blocks more_blocks ranks more_ranks levels more_levels l some r (omega arith) (exact_block_at more_levels more_ranks more_blocks)
    (λ may. deeper_block_at levels more_levels ranks more_ranks blocks more_blocks l some r may (omega arith)))).deeper

-- what stands below the expressions of a statement in a block
pub widens_inside : (levels more_levels ranks more_ranks blocks more_blocks : ℕ) → levels + 2 ≤ more_levels → 0 < ranks → ranks < more_ranks → blocks < more_blocks → Widens levels more_levels (below (block_at levels ranks blocks) blocks ranks levels) (below (block_at more_levels more_ranks more_blocks) more_blocks more_ranks more_levels)
widens_inside levels more_levels ranks more_ranks blocks more_blocks l some r k =
    widens blocks more_blocks ranks more_ranks levels more_levels l some r (omega arith) (exact_block_at more_levels more_ranks more_blocks)
    (λ may. deeper_block_at levels more_levels ranks more_ranks blocks more_blocks l some r may k)
