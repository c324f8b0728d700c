-- Statements that hold blocks, all statements, and blocks are exact.
use Rattle.std.proofs.Common.{ℕ, zero, suc, true, false, List, [], ◌∷◌, ◌++◌, refl, nat_lt}
use Rattle.cs_token.specs.Placed.{Placed as Token}
use Rattle.cs_token.specs.declared.lexeme.Lexeme.TheVariants as lexeme
use Rattle.cs_tree.specs.declared.forms.SwitchLabel.{SwitchLabel}
use Rattle.cs_tree.specs.declared.forms.Section.{Section}
use Rattle.cs_tree.specs.declared.forms.Catching.{Catching}
use Rattle.cs_tree.specs.declared.forms.Syntax.{Syntax}
use Rattle.cs_productions.specs.declared.values.Measured.{Measured}
use Rattle.cs_grammar.specs.Grammar.{Grammar}
use Rattle.cs_grammar.specs.Exact.{Exact}
use Rattle.cs_grammar.proofs.Basics.{exact_gives, exact_one, wider}
use Rattle.cs_grammar.proofs.Bind.{then}
use Rattle.cs_grammar.proofs.Either.{or}
use Rattle.cs_grammar.proofs.Limited.{guard}
use Rattle.cs_grammar.proofs.Turns.{repeat}
use Rattle.cs_productions.specs.Kinds.{names, global, brace, unbrace, paren, unparen, equals, colon, semicolon, keyword_types, kw_if, kw_else, kw_while, kw_do, kw_for, kw_foreach, kw_in, kw_using, kw_lock, kw_switch, kw_case, kw_default, kw_try, kw_catch, kw_finally}
use Rattle.cs_productions.specs.Tokens.{kind, literal_of}
use Rattle.cs_productions.specs.Inner.{Inner}
use Rattle.cs_productions.specs.Levels.{below}
use Rattle.cs_productions.proofs.Follow.{AreExact}
use Rattle.cs_productions.proofs.ExactTokens.{sample, exact_sign, exact_place, exact_any_name}
use Rattle.cs_productions.proofs.ExactTypes.{exact_ty}
use Rattle.cs_productions.proofs.ExactLevels.{exact_below}
use Rattle.cs_statements.specs.Kinds.{name_kinds, literal_kinds, jump_kinds, block_kinds, statement_kinds, unnamed_primary_kinds}
use Rattle.cs_statements.specs.Structured.{tested, maybe_block, of_if, of_while, of_do, of_for, foreach_of, using_of, of_foreach, of_using, of_lock, case_label, default_label, label, one_more_label, section, one_more_section, of_switch, maybe_name, catching, one_more_catching, of_try, structured}
use Rattle.cs_statements.specs.Blocks.{simple_statement, statement, one_more_statement, braced, empty_block, block_at}
use Rattle.cs_statements.proofs.ExactActions.{exact_expression, exact_jump, exact_keyword_declared, exact_step, exact_primary, exact_primary_act, exact_named_statement, exact_global_statement}

pub exact_tested : {inner : Inner} (n : ℕ) → AreExact inner → Exact kind (tested n inner) (paren ∷ []) [] false
exact_tested n x =
    wider refl refl (then (exact_sign paren refl) refl (λ _. then (exact_expression n x) refl (λ a. then (exact_sign unparen refl) refl (λ _. exact_gives a))))

pub exact_else : {inner : Inner} → AreExact inner → Exact kind (maybe_block inner kw_else) (kw_else ∷ []) (kw_else ∷ []) true
exact_else x =
    wider refl refl (or (kw_else ∷ []) refl refl (then (exact_sign kw_else refl) refl (λ _. then x.block refl (λ b. exact_gives _))) (exact_gives _))

pub exact_finally : {inner : Inner} → AreExact inner → Exact kind (maybe_block inner kw_finally) (kw_finally ∷ []) (kw_finally ∷ []) true
exact_finally x =
    wider refl refl (or (kw_finally ∷ []) refl refl (then (exact_sign kw_finally refl) refl (λ _. then x.block refl (λ b. exact_gives _))) (exact_gives _))

pub exact_of_if : {inner : Inner} (n : ℕ) → AreExact inner → Exact kind (of_if n inner) (kw_if ∷ []) (kw_else ∷ []) false
exact_of_if n x =
    wider refl refl
    (then (exact_place kw_if refl) refl (λ s. then (exact_tested n x) refl (λ a. then x.block refl (λ b. then (exact_else x) refl (λ c. exact_gives _)))))

pub exact_of_while : {inner : Inner} (n : ℕ) → AreExact inner → Exact kind (of_while n inner) (kw_while ∷ []) [] false
exact_of_while n x =
    wider refl refl (then (exact_place kw_while refl) refl (λ s. then (exact_tested n x) refl (λ a. then x.block refl (λ b. exact_gives _))))

pub exact_of_do : {inner : Inner} (n : ℕ) → AreExact inner → Exact kind (of_do n inner) (kw_do ∷ []) [] false
exact_of_do n x =
    wider refl refl
    (then (exact_place kw_do refl) refl
    (λ s. then x.block refl
    (λ b. then (exact_sign kw_while refl) refl (λ _. then (exact_tested n x) refl (λ a. then (exact_sign semicolon refl) refl (λ _. exact_gives _))))))

pub exact_of_for : {inner : Inner} (n : ℕ) → AreExact inner → Exact kind (of_for n inner) (kw_for ∷ []) [] false
exact_of_for n x =
    wider refl refl
    (then (exact_place kw_for refl) refl
    (λ s. then (exact_sign paren refl) refl
    (λ _. then (exact_sign semicolon refl) refl
    (λ _. then (exact_expression n x) refl
    (λ a. then (exact_sign semicolon refl) refl
    (λ _. then (then (exact_primary n x) refl (λ (p : Measured). exact_step n p.is_call p x)) refl (λ c. then x.block refl (λ b. exact_gives _))))))))

pub exact_of_foreach : {inner : Inner} (n : ℕ) → AreExact inner → Exact kind (of_foreach n inner) (kw_foreach ∷ []) [] false
exact_of_foreach {inner = inner} n x =
    wider refl refl
    (then (exact_place kw_foreach refl) refl
    (λ s. then (exact_sign paren refl) refl
    (λ _. then (exact_ty inner.ranks) refl
    (λ t. then exact_any_name refl
    (λ name. then (exact_sign kw_in refl) refl
    (λ _. then (exact_expression n x) refl (λ a. then (exact_sign unparen refl) refl (λ _. then x.block refl (λ b. exact_gives (foreach_of s t name a b))))))))))

pub exact_of_using : {inner : Inner} (n : ℕ) → AreExact inner → Exact kind (of_using n inner) (kw_using ∷ []) [] false
exact_of_using {inner = inner} n x =
    wider refl refl
    (then (exact_place kw_using refl) refl
    (λ s. then (exact_sign paren refl) refl
    (λ _. then (exact_ty inner.ranks) refl
    (λ t. then exact_any_name refl
    (λ name. then (exact_sign equals refl) refl
    (λ _. then (exact_expression n x) refl (λ a. then (exact_sign unparen refl) refl (λ _. then x.block refl (λ b. exact_gives (using_of s t name a b))))))))))

pub exact_of_lock : {inner : Inner} (n : ℕ) → AreExact inner → Exact kind (of_lock n inner) (kw_lock ∷ []) [] false
exact_of_lock n x =
    wider refl refl (then (exact_place kw_lock refl) refl (λ s. then (exact_tested n x) refl (λ a. then x.block refl (λ b. exact_gives _))))

-- switch

pub exact_case_label : Exact kind case_label (kw_case ∷ []) [] false
exact_case_label =
    wider refl refl
    (then (exact_place kw_case refl) refl
    (λ s. then (exact_one literal_kinds (λ t. literal_of t.lexeme) (sample (lexeme.Char 0)) refl) refl (λ v. then (exact_sign colon refl) refl (λ _. exact_gives _))))

pub exact_default_label : Exact kind default_label (kw_default ∷ []) [] false
exact_default_label = wider refl refl (then (exact_place kw_default refl) refl (λ s. then (exact_sign colon refl) refl (λ _. exact_gives _)))

pub exact_label : Exact kind label (kw_case ∷ kw_default ∷ []) [] false
exact_label = wider refl refl (or (kw_case ∷ []) refl refl exact_case_label exact_default_label)

pub exact_one_more_label : (labels : List SwitchLabel) → Exact kind (one_more_label labels) (kw_case ∷ kw_default ∷ []) [] false
exact_one_more_label labels = wider refl refl (then exact_label refl (λ l. exact_gives _))

pub exact_section : {inner : Inner} → AreExact inner → Exact kind (section inner) (kw_case ∷ kw_default ∷ []) [] false
exact_section x =
    wider refl refl
    (then exact_label refl
    (λ first. then (repeat (kw_case ∷ kw_default ∷ []) (λ _. true) (first ∷ []) refl refl exact_one_more_label) refl (λ labels. then x.block refl (λ b. exact_gives _))))

pub exact_one_more_section : {inner : Inner} (sections : List Section) → AreExact inner → Exact kind (one_more_section inner sections) (kw_case ∷ kw_default ∷ []) [] false
exact_one_more_section sections x = wider refl refl (then (exact_section x) refl (λ c. exact_gives _))

pub exact_of_switch : {inner : Inner} (n : ℕ) → AreExact inner → Exact kind (of_switch n inner) (kw_switch ∷ []) [] false
exact_of_switch {inner = inner} n x =
    wider refl refl
    (then (exact_place kw_switch refl) refl
    (λ s. then (exact_tested n x) refl
    (λ a. then (exact_sign brace refl) refl
    (λ _. then (repeat (kw_case ∷ kw_default ∷ []) (λ _. nat_lt 0 inner.blocks) [] refl refl (λ sections. exact_one_more_section sections x)) refl
    (λ sections. then (exact_sign unbrace refl) refl (λ _. exact_gives _))))))

-- try

pub exact_maybe_name : Exact kind maybe_name names names true
exact_maybe_name = wider refl refl (or names refl refl (then exact_any_name refl (λ x. exact_gives _)) (exact_gives _))

pub exact_catching : {inner : Inner} → AreExact inner → Exact kind (catching inner) (kw_catch ∷ []) [] false
exact_catching {inner = inner} x =
    wider refl refl
    (then (exact_place kw_catch refl) refl
    (λ s. then (exact_sign paren refl) refl
    (λ _. then (exact_ty inner.ranks) refl
    (λ t. then exact_maybe_name refl (λ name. then (exact_sign unparen refl) refl (λ _. then x.block refl (λ b. exact_gives _)))))))

pub exact_one_more_catching : {inner : Inner} (catches : List Catching) → AreExact inner → Exact kind (one_more_catching inner catches) (kw_catch ∷ []) [] false
exact_one_more_catching catches x = wider refl refl (then (exact_catching x) refl (λ c. exact_gives _))

pub exact_of_try : {inner : Inner} → AreExact inner → Exact kind (of_try inner) (kw_try ∷ []) (kw_catch ∷ kw_finally ∷ []) false
exact_of_try x =
    wider refl refl
    (then (exact_place kw_try refl) refl
    (λ s. then x.block refl
    (λ b. then (repeat (kw_catch ∷ []) (λ _. true) [] refl refl (λ catches. exact_one_more_catching catches x)) refl
    (λ catches. then (exact_finally x) refl (λ last. exact_gives _)))))

-- what may go on behind a statement
abbrev pub statement_follow : List ℕ
statement_follow = kw_else ∷ kw_catch ∷ kw_finally ∷ []

pub exact_structured : {inner : Inner} (n : ℕ) → AreExact inner → Exact kind (structured n inner) block_kinds statement_follow false
exact_structured n x =
    wider refl refl
    (or (kw_if ∷ []) refl refl (exact_of_if n x)
    (or (kw_while ∷ []) refl refl (exact_of_while n x)
    (or (kw_do ∷ []) refl refl (exact_of_do n x)
    (or (kw_for ∷ []) refl refl (exact_of_for n x)
    (or (kw_foreach ∷ []) refl refl (exact_of_foreach n x)
    (or (kw_using ∷ []) refl refl (exact_of_using n x) (or (kw_lock ∷ []) refl refl (exact_of_lock n x) (exact_of_try x))))))))

-- what a statement without a block of its own begins with
abbrev pub simple_kinds : List ℕ
simple_kinds = keyword_types ++ (global ∷ name_kinds ++ (unnamed_primary_kinds ++ (jump_kinds ++ kw_switch ∷ [])))

pub exact_simple_statement : {inner : Inner} (n : ℕ) → AreExact inner → Exact kind (simple_statement n inner) simple_kinds [] false
exact_simple_statement n x =
    wider refl refl
    (or keyword_types refl refl (exact_keyword_declared n x)
    (or (global ∷ []) refl refl (exact_global_statement n x)
    (or name_kinds refl refl (exact_named_statement n x)
    (or jump_kinds refl refl (exact_jump n x) (or (kw_switch ∷ []) refl refl (exact_of_switch n x) (exact_primary_act n x))))))

pub exact_statement : {inner : Inner} (n : ℕ) → AreExact inner → Exact kind (statement n inner) statement_kinds statement_follow false
exact_statement {inner = inner} n x = wider refl refl (guard block_kinds (nat_lt 0 inner.blocks) refl refl (exact_structured n x) (exact_simple_statement n x))

-- blocks

pub exact_one_more_statement : {stmt : Grammar Token Syntax} (stmts : List Syntax) → Exact kind stmt statement_kinds statement_follow false → Exact kind (one_more_statement stmt stmts) statement_kinds statement_follow false
exact_one_more_statement stmts x = wider refl refl (then x refl (λ s. exact_gives _))

pub exact_braced : {stmt : Grammar Token Syntax} → Exact kind stmt statement_kinds statement_follow false → Exact kind (braced stmt) (brace ∷ []) [] false
exact_braced x =
    wider refl refl
    (then (exact_sign brace refl) refl
    (λ _. then (repeat statement_kinds (λ _. true) [] refl refl (λ stmts. exact_one_more_statement stmts x)) refl
    (λ stmts. then (exact_place unbrace refl) refl (λ end. exact_gives _))))

pub exact_empty_block : Exact kind empty_block (brace ∷ []) [] false
exact_empty_block = wider refl refl (then (exact_sign brace refl) refl (λ _. then (exact_place unbrace refl) refl (λ end. exact_gives _)))

pub exact_block_at : (levels ranks blocks : ℕ) → Exact kind (block_at levels ranks blocks) (brace ∷ []) [] false
exact_block_at levels ranks zero = exact_empty_block
exact_block_at levels ranks (suc blocks) = exact_braced (exact_statement levels (exact_below blocks ranks levels (exact_block_at levels ranks blocks)))

-- what stands below the expressions of a statement in a block
pub exact_inside : (levels ranks blocks : ℕ) → AreExact (below (block_at levels ranks blocks) blocks ranks levels)
exact_inside levels ranks blocks = exact_below blocks ranks levels (exact_block_at levels ranks blocks)
