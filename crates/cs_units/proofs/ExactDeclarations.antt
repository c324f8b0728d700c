-- Types and whole texts are exact.
use Rattle.std.proofs.Common.{ℕ, zero, suc, ◌+◌, Bool, true, false, List, [], ◌∷◌, ◌++◌, refl}
use Rattle.cs_token.specs.declared.lexeme.Lexeme.TheVariants as lexeme
use Rattle.cs_token.specs.declared.lexeme.Suffix.TheVariants as suffix
use Rattle.cs_token.specs.Placed.{Placed as Token}
use Rattle.cs_tree.specs.declared.types.Path.{Path}
use Rattle.cs_tree.specs.declared.types.TypeForm.{TypeForm}
use Rattle.cs_tree.specs.declared.declarations.Enumerator.{Enumerator}
use Rattle.cs_tree.specs.declared.declarations.Item.{Item}
use Rattle.cs_tree.specs.declared.declarations.Decl.{Decl}
use Rattle.cs_tree.specs.declared.declarations.Space.{Space}
use Rattle.cs_units.specs.declared.values.Marked.{Marked}
use Rattle.cs_grammar.specs.Grammar.{Grammar}
use Rattle.cs_grammar.specs.Exact.{Exact}
use Rattle.cs_grammar.proofs.Basics.{exact_gives, exact_one, wider}
use Rattle.cs_grammar.proofs.Bind.{then}
use Rattle.cs_grammar.proofs.Either.{or}
use Rattle.cs_grammar.proofs.Limited.{guard}
use Rattle.cs_grammar.proofs.Turns.{repeat}
use Rattle.cs_productions.specs.Kinds.{names, number, brace, unbrace, bracket, comma, semicolon, colon, dot, equals, minus, kw_class, kw_enum, kw_delegate, kw_void, kw_namespace}
use Rattle.cs_productions.specs.Tokens.{kind}
use Rattle.cs_productions.specs.Inner.{Inner}
use Rattle.cs_productions.proofs.Follow.{type_kinds, AreExact}
use Rattle.cs_productions.proofs.ExactTokens.{sample, sample_of, exact_sign, exact_place, exact_name_text, exact_any_name}
use Rattle.cs_productions.proofs.ExactTypes.{exact_ty}
use Rattle.cs_productions.proofs.DeeperTypes.{deeper_name_text}
use Rattle.cs_productions.proofs.ExactLevels.{exact_below}
use Rattle.cs_productions.proofs.Growing.{Grows, grows, to, grows_gives, grows_one, grows_sign, grows_any_name, grows_then}
use Rattle.cs_statements.proofs.ExactStatements.{exact_block_at}
use Rattle.cs_units.specs.Kinds.{body_kinds, type_words, member_kinds, decl_kinds, item_kinds}
use Rattle.cs_units.specs.Declarations.{first_base, one_more_base, bases, one_more_item, body_type, number_of_token, enumerator, one_more_enumerator, enum_type, result, delegate_type, type_behind, member_item, type_item, item_behind, item_in, lowest_item, item_at, type_at, path_first, one_more_step, placed_path, one_more_type, of_namespace, one_space, one_more_space, unit_from, unit_at, inside}
use Rattle.cs_units.proofs.Modifiers.{grows_flag, grows_modifiers}
use Rattle.cs_units.proofs.ExactMembers.{exact_params, exact_any_member}

pub exact_one_more_base : (limit : ℕ) (ts : List TypeForm) → Exact kind (one_more_base limit ts) (comma ∷ []) (dot ∷ bracket ∷ []) false
exact_one_more_base limit ts = wider refl refl (then (exact_sign comma refl) refl (λ _. (then (exact_ty limit) refl (λ t. (exact_gives _)))))

pub exact_bases : (limit : ℕ) → Exact kind (bases limit) (colon ∷ []) (colon ∷ comma ∷ dot ∷ bracket ∷ []) true
exact_bases limit = wider refl refl (or (colon ∷ []) refl refl (then (exact_sign colon refl) refl (λ _. (then (exact_ty limit) refl (λ t. (repeat (comma ∷ []) (λ _. true) (first_base t) refl refl (λ ts. (exact_one_more_base limit ts))))))) (exact_gives _))

pub grows_enumerator : Grows enumerator enumerator names [] false
grows_enumerator = to refl refl (grows_then grows_any_name refl (λ y. (grows_then (grows_sign equals refl) refl (λ _. (grows_then (grows_flag minus refl refl) refl (λ negative. (grows_then (grows_one (number ∷ []) number_of_token (sample (lexeme.Number 0 suffix.Plain)) refl) refl (λ n. (grows_then (grows_sign comma refl) refl (λ _. (grows_gives _)))))))))))

pub grows_one_more_enumerator : (es : List Enumerator) → Grows (one_more_enumerator es) (one_more_enumerator es) names [] false
grows_one_more_enumerator es = to refl refl (grows_then grows_enumerator refl (λ e. (grows_gives _)))

pub exact_enum_type : (limit : ℕ) (m : Marked) → Exact kind (enum_type limit m) (kw_enum ∷ []) [] false
exact_enum_type limit m = wider refl refl (then (exact_place kw_enum refl) refl (λ s. (then exact_any_name refl (λ y. (then (exact_sign colon refl) refl (λ _. (then (exact_ty limit) refl (λ t. (then (exact_sign brace refl) refl (λ _. (then (repeat names (λ _. true) [] refl refl (λ es. (grows_one_more_enumerator es).exact)) refl (λ es. (then (exact_sign unbrace refl) refl (λ _. (exact_gives _)))))))))))))))

pub exact_result : (limit : ℕ) → Exact kind (result limit) (kw_void ∷ type_kinds) (dot ∷ bracket ∷ []) false
exact_result limit = wider refl refl (or (kw_void ∷ []) refl refl (then (exact_sign kw_void refl) refl (λ _. (exact_gives _))) (then (exact_ty limit) refl (λ t. (exact_gives _))))

pub exact_delegate_type : (limit : ℕ) (m : Marked) → Exact kind (delegate_type limit m) (kw_delegate ∷ []) [] false
exact_delegate_type limit m = wider refl refl (then (exact_place kw_delegate refl) refl (λ s. (then (exact_result limit) refl (λ t. (then exact_any_name refl (λ y. (then (exact_params limit) refl (λ ps. (then (exact_sign semicolon refl) refl (λ _. (exact_gives _)))))))))))

-- with items that are exact

pub exact_one_more_item : {item : Grammar Token Item} (items : List Item) → Exact kind item item_kinds [] false → Exact kind (one_more_item item items) item_kinds [] false
exact_one_more_item items y = wider refl refl (then y refl (λ i. exact_gives _))

pub exact_body_type : {inner : Inner} {item : Grammar Token Item} (m : Marked) → AreExact inner → Exact kind item item_kinds [] false → Exact kind (body_type inner item m) body_kinds [] false
exact_body_type {inner = inner} m x y =
    wider refl refl
    (then (exact_one body_kinds (λ t. t) (sample_of kw_class) refl) refl
    (λ t. then exact_any_name refl
    (λ name. then (exact_bases inner.ranks) refl
    (λ ts. then (exact_sign brace refl) refl
    (λ _. then (repeat item_kinds (λ _. true) [] refl refl (λ items. exact_one_more_item items y)) refl (λ items. then (exact_sign unbrace refl) refl (λ _. exact_gives _)))))))

pub exact_type_behind : {inner : Inner} {item : Grammar Token Item} (m : Marked) → AreExact inner → Exact kind item item_kinds [] false → Exact kind (type_behind inner item m) type_words [] false
exact_type_behind {inner = inner} m x y =
    wider refl refl (or body_kinds refl refl (exact_body_type m x y) (or (kw_enum ∷ []) refl refl (exact_enum_type inner.ranks m) (exact_delegate_type inner.ranks m)))

pub exact_member_item : {inner : Inner} (m : Marked) → AreExact inner → Exact kind (member_item inner m) member_kinds [] false
exact_member_item m x = wider refl refl (then (exact_any_member m x) refl (λ y. exact_gives _))

pub exact_type_item : {inner : Inner} {item : Grammar Token Item} (m : Marked) → AreExact inner → Exact kind item item_kinds [] false → Exact kind (type_item inner item m) type_words [] false
exact_type_item m x y = wider refl refl (then (exact_type_behind m x y) refl (λ d. exact_gives _))

pub exact_item_behind : {inner : Inner} {item : Grammar Token Item} (room : Bool) (m : Marked) → AreExact inner → Exact kind item item_kinds [] false → Exact kind (item_behind room inner item m) (type_words ++ member_kinds) [] false
exact_item_behind room m x y = wider refl refl (guard type_words room refl refl (exact_type_item m x y) (exact_member_item m x))

pub exact_item_in : {inner : Inner} {item : Grammar Token Item} (room : Bool) → AreExact inner → Exact kind item item_kinds [] false → Exact kind (item_in room inner item) item_kinds [] false
exact_item_in room x y = wider refl refl (then grows_modifiers.exact refl (λ m. exact_item_behind room m x y))

pub exact_lowest_item : {inner : Inner} → AreExact inner → Exact kind (lowest_item inner) item_kinds [] false
exact_lowest_item x = wider refl refl (then grows_modifiers.exact refl (λ m. exact_member_item m x))

pub exact_item_at : {inner : Inner} (nesting : ℕ) → AreExact inner → Exact kind (item_at inner nesting) item_kinds [] false
exact_item_at zero x = exact_item_in false x (exact_lowest_item x)
exact_item_at (suc nesting) x = exact_item_in true x (exact_item_at nesting x)

pub exact_type_at : {inner : Inner} (nesting : ℕ) → AreExact inner → Exact kind (type_at inner nesting) decl_kinds [] false
exact_type_at nesting x = wider refl refl (then grows_modifiers.exact refl (λ m. exact_type_behind m x (exact_item_at nesting x)))

-- with types that are exact

pub grows_one_more_step : (p : Path) → Grows (one_more_step p) (one_more_step p) (dot ∷ []) [] false
grows_one_more_step p = to refl refl (grows_then (grows_sign dot refl) refl (λ _. grows_then (grows deeper_name_text exact_name_text) refl (λ n. grows_gives _)))

pub exact_placed_path : Exact kind placed_path names (dot ∷ []) false
exact_placed_path = wider refl refl (then exact_any_name refl (λ name. repeat (dot ∷ []) (λ _. true) (path_first name) refl refl (λ p. (grows_one_more_step p).exact)))

pub exact_one_more_type : {type : Grammar Token Decl} (ds : List Decl) → Exact kind type decl_kinds [] false → Exact kind (one_more_type type ds) decl_kinds [] false
exact_one_more_type ds y = wider refl refl (then y refl (λ d. exact_gives _))

pub exact_of_namespace : {type : Grammar Token Decl} → Exact kind type decl_kinds [] false → Exact kind (of_namespace type) (kw_namespace ∷ []) [] false
exact_of_namespace y =
    wider refl refl
    (then (exact_place kw_namespace refl) refl
    (λ s. then exact_placed_path refl
    (λ p. then (exact_sign brace refl) refl
    (λ _. then (repeat decl_kinds (λ _. true) [] refl refl (λ ds. exact_one_more_type ds y)) refl (λ ds. then (exact_sign unbrace refl) refl (λ _. exact_gives _))))))

pub exact_one_space : {type : Grammar Token Decl} → Exact kind type decl_kinds [] false → Exact kind (one_space type) (kw_namespace ∷ decl_kinds) [] false
exact_one_space y = wider refl refl (or (kw_namespace ∷ []) refl refl (exact_of_namespace y) (then y refl (λ d. exact_gives _)))

pub exact_one_more_space : {type : Grammar Token Decl} (spaces : List Space) → Exact kind type decl_kinds [] false → Exact kind (one_more_space type spaces) (kw_namespace ∷ decl_kinds) [] false
exact_one_more_space spaces y = wider refl refl (then (exact_one_space y) refl (λ c. exact_gives _))

pub exact_unit_from : {type : Grammar Token Decl} → Exact kind type decl_kinds [] false → Exact kind (unit_from type) (kw_namespace ∷ decl_kinds) (kw_namespace ∷ decl_kinds) true
exact_unit_from y =
    wider refl refl (then (repeat (kw_namespace ∷ decl_kinds) (λ _. true) [] refl refl (λ spaces. exact_one_more_space spaces y)) refl (λ spaces. exact_gives _))

pub exact_unit_at : {inner : Inner} (nesting : ℕ) → AreExact inner → Exact kind (unit_at inner nesting) (kw_namespace ∷ decl_kinds) (kw_namespace ∷ decl_kinds) true
exact_unit_at nesting x = exact_unit_from (exact_type_at nesting x)

pub exact_inside : (levels ranks blocks : ℕ) → AreExact (inside levels ranks blocks)
exact_inside levels ranks blocks = exact_below blocks ranks (levels + 1) (exact_block_at levels ranks blocks)
