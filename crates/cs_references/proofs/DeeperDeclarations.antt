-- Types and whole reference texts are exact, also with more pairs of brackets and more types open in one another.
use Rattle.std.proofs.Common.{◌≡◌, ℕ, zero, suc, ◌+◌, ◌<◌, Bool, true, false, List, [], ◌∷◌, ◌++◌, refl, arith}
use Rattle.cs_token.specs.Placed.{Placed as Token}
use Rattle.cs_tree.specs.declared.declarations.Item.{Item}
use Rattle.cs_tree.specs.declared.declarations.Decl.{Decl}
use Rattle.cs_tree.specs.declared.declarations.Space.{Space}
use Rattle.cs_units.specs.declared.values.Marked.{Marked}
use Rattle.cs_grammar.specs.Grammar.{Grammar}
use Rattle.cs_grammar.specs.Exact.{Exact}
use Rattle.cs_grammar.specs.Whole.{Deeper}
use Rattle.cs_grammar.specs.Levels.{Enters}
use Rattle.cs_grammar.proofs.Basics.{exact_gives, exact_one, wider}
use Rattle.cs_grammar.proofs.Bind.{then}
use Rattle.cs_grammar.proofs.Either.{or}
use Rattle.cs_grammar.proofs.Limited.{guard}
use Rattle.cs_grammar.proofs.Turns.{repeat}
use Rattle.cs_grammar.proofs.Deeper.{enters_one, enters_then}
use Rattle.cs_productions.specs.Kinds.{names, brace, unbrace, colon, dot, semicolon, kw_class, kw_enum, kw_delegate, kw_namespace}
use Rattle.cs_productions.specs.Tokens.{kind, spot_of}
use Rattle.cs_productions.proofs.ExactTokens.{sample_of, exact_sign, exact_any_name}
use Rattle.cs_productions.proofs.ExactTypes.{exact_ty}
use Rattle.cs_productions.proofs.Growing.{Grows, grows, to, grows_gives, grows_one, grows_sign, grows_place, grows_any_name, grows_then, grows_or, grows_where}
use Rattle.cs_productions.proofs.Deepening.{enters_or}
use Rattle.cs_productions.proofs.OneAnswers.{answers_once}
use Rattle.cs_units.specs.Kinds.{body_kinds, type_words, member_kinds, decl_kinds, item_kinds}
use Rattle.cs_units.specs.Declarations.{one_more_item, path_first, placed_path, one_more_type, of_namespace, one_more_space, unit_from}
use Rattle.cs_units.proofs.Modifiers.{grows_modifiers}
use Rattle.cs_units.proofs.Rounding.{grows_rounds}
use Rattle.cs_units.proofs.ExactMembers.{exact_params}
use Rattle.cs_units.proofs.ExactDeclarations.{exact_bases, exact_enum_type, exact_delegate_type, exact_result, grows_one_more_enumerator, exact_one_more_item, grows_one_more_step, exact_unit_from}
use Rattle.cs_units.proofs.DeeperDeclarations.{grows_bases, grows_enum_type, grows_delegate_type}
use Rattle.cs_references.specs.Declarations.{body_type, type_behind, member_item, type_item, item_in, lowest_item, item_at, type_at, text_at}
use Rattle.cs_references.specs.Laws.{HasOneReferenceText}
use Rattle.cs_references.proofs.ExactMembers.{exact_any_member}
use Rattle.cs_references.proofs.DeeperMembers.{grows_any_member}

-- ---- exact

exact_body_type : {item : Grammar Token Item} (limit : ℕ) (m : Marked) → Exact kind item item_kinds [] false → Exact kind (body_type limit item m) body_kinds [] false
exact_body_type limit m y =
    wider refl refl
    (then (exact_one body_kinds (λ t. t) (sample_of kw_class) refl) refl
    (λ t. then exact_any_name refl
    (λ name. then (exact_bases limit) refl
    (λ ts. then (exact_sign brace refl) refl
    (λ _. then (repeat item_kinds (λ _. true) [] refl refl (λ items. exact_one_more_item items y)) refl (λ items. then (exact_sign unbrace refl) refl (λ _. exact_gives _)))))))

exact_type_behind : {item : Grammar Token Item} (limit : ℕ) (m : Marked) → Exact kind item item_kinds [] false → Exact kind (type_behind limit item m) type_words [] false
exact_type_behind limit m y =
    wider refl refl (or body_kinds refl refl (exact_body_type limit m y) (or (kw_enum ∷ []) refl refl (exact_enum_type limit m) (exact_delegate_type limit m)))

exact_member_item : (limit : ℕ) (m : Marked) → Exact kind (member_item limit m) member_kinds [] false
exact_member_item limit m = wider refl refl (then (exact_any_member limit m) refl (λ y. exact_gives _))

exact_type_item : {item : Grammar Token Item} (limit : ℕ) (m : Marked) → Exact kind item item_kinds [] false → Exact kind (type_item limit item m) type_words [] false
exact_type_item limit m y = wider refl refl (then (exact_type_behind limit m y) refl (λ d. exact_gives _))

exact_item_in : {item : Grammar Token Item} (room : Bool) (limit : ℕ) → Exact kind item item_kinds [] false → Exact kind (item_in room limit item) item_kinds [] false
exact_item_in room limit y =
    wider refl refl (then grows_modifiers.exact refl (λ m. guard type_words room refl refl (exact_type_item limit m y) (exact_member_item limit m)))

exact_lowest_item : (limit : ℕ) → Exact kind (lowest_item limit) item_kinds [] false
exact_lowest_item limit = wider refl refl (then grows_modifiers.exact refl (λ m. exact_member_item limit m))

exact_item_at : (limit nesting : ℕ) → Exact kind (item_at limit nesting) item_kinds [] false
exact_item_at limit zero = exact_item_in false limit (exact_lowest_item limit)
exact_item_at limit (suc nesting) = exact_item_in true limit (exact_item_at limit nesting)

exact_type_at : (limit nesting : ℕ) → Exact kind (type_at limit nesting) decl_kinds [] false
exact_type_at limit nesting = wider refl refl (then grows_modifiers.exact refl (λ m. exact_type_behind limit m (exact_item_at limit nesting)))

-- ---- deeper

grows_body_type : {item wide : Grammar Token Item} (limit more : ℕ) (m : Marked) → limit < more → Grows item wide item_kinds [] false → Grows (body_type limit item m) (body_type more wide m) body_kinds [] false
grows_body_type {item = item} {wide = wide} limit more m l y =
    to refl refl
    (grows_then (grows_one body_kinds (λ t. t) (sample_of kw_class) refl) refl
    (λ t. grows_then grows_any_name refl
    (λ name. grows_then (grows_bases limit more l) refl
    (λ ts. grows_then (grows_sign brace refl) refl
    (λ _. grows_then (grows_rounds item_kinds [] refl refl (λ items. grows_more_items items)) refl (λ items. grows_then (grows_sign unbrace refl) refl (λ _. grows_gives _)))))))
  where
    grows_more_items : (items : List Item) → Grows (one_more_item item items) (one_more_item wide items) item_kinds [] false
    grows_more_items items = to refl refl (grows_then y refl (λ i. grows_gives _))

grows_type_behind : {item wide : Grammar Token Item} (limit more : ℕ) (m : Marked) → limit < more → Grows item wide item_kinds [] false → Grows (type_behind limit item m) (type_behind more wide m) type_words [] false
grows_type_behind limit more m l y =
    to refl refl
    (grows_or body_kinds refl refl (grows_body_type limit more m l y)
    (grows_or (kw_enum ∷ []) refl refl (grows_enum_type limit more m l) (grows_delegate_type limit more m l)))

grows_member_item : (limit more : ℕ) (m : Marked) → limit < more → Grows (member_item limit m) (member_item more m) member_kinds [] false
grows_member_item limit more m l = to refl refl (grows_then (grows_any_member limit more m l) refl (λ y. grows_gives _))

grows_type_item : {item wide : Grammar Token Item} (limit more : ℕ) (m : Marked) → limit < more → Grows item wide item_kinds [] false → Grows (type_item limit item m) (type_item more wide m) type_words [] false
grows_type_item limit more m l y = to refl refl (grows_then (grows_type_behind limit more m l y) refl (λ d. grows_gives _))

enters_type_item : {item : Grammar Token Item} (limit : ℕ) (m : Marked) → Exact kind item item_kinds [] false → Enters kind type_words (type_item limit item m)
enters_type_item limit m y =
    enters_then
    (enters_or body_kinds (kw_enum ∷ kw_delegate ∷ [])
    (enters_then (enters_one body_kinds (λ t. t))
    (λ t. then exact_any_name refl
    (λ name. then (exact_bases limit) refl
    (λ ts. then (exact_sign brace refl) refl
    (λ _. then (repeat item_kinds (λ _. true) [] refl refl (λ items. exact_one_more_item items y)) refl (λ items. then (exact_sign unbrace refl) refl (λ _. exact_gives _)))))))
    (enters_or (kw_enum ∷ []) (kw_delegate ∷ [])
    (enters_then (enters_one (kw_enum ∷ []) spot_of)
    (λ s. then exact_any_name refl
    (λ name. then (exact_sign colon refl) refl
    (λ _. then (exact_ty limit) refl
    (λ t. then (exact_sign brace refl) refl
    (λ _. then (repeat names (λ _. true) [] refl refl (λ es. (grows_one_more_enumerator es).exact)) refl (λ es. then (exact_sign unbrace refl) refl (λ _. exact_gives _))))))))
    (enters_then (enters_one (kw_delegate ∷ []) spot_of)
    (λ s. then (exact_result limit) refl
    (λ t. then exact_any_name refl (λ name. then (exact_params limit) refl (λ ps. then (exact_sign semicolon refl) refl (λ _. exact_gives _))))))))
    (λ d. exact_gives _)

-- items, of which more may stand in one another

grows_item : {item wide : Grammar Token Item} (room : Bool) (limit more : ℕ) → limit < more → Exact kind wide item_kinds [] false → (room ≡ true → Deeper item wide) → Grows (item_in room limit item) (item_in true more wide) item_kinds [] false
grows_item {item = item} {wide = wide} room limit more l x d =
    to refl refl
    (grows_then grows_modifiers refl
    (λ m. grows_where type_words room true refl refl refl (enters_type_item more m x)
    (λ r. (grows_type_item limit more m l (grows (d r) x)).deeper) (exact_type_item more m x) (grows_member_item limit more m l)))

no_room : {A : Type 0} → (let room : Bool = false in room) ≡ true → A
no_room e = absurd (cc)

grows_item_at : (limit more n m : ℕ) → n < m → limit < more → Grows (item_at limit n) (item_at more m) item_kinds [] false
grows_item_at limit more n zero k l = absurd (omega arith)
grows_item_at limit more zero (suc m) k l = grows_item {item = lowest_item limit} false limit more l (exact_item_at more m) (λ never. no_room never)
grows_item_at limit more (suc n) (suc m) k l = grows_item true limit more l (exact_item_at more m) (λ _. (grows_item_at limit more n m (omega arith) l).deeper)

grows_type_at : (limit more n m : ℕ) → n < m → limit < more → Grows (type_at limit n) (type_at more m) decl_kinds [] false
grows_type_at limit more n m k l = to refl refl (grows_then grows_modifiers refl (λ a. grows_type_behind limit more a l (grows_item_at limit more n m k l)))

-- ---- whole texts

grows_placed_path : Grows placed_path placed_path names (dot ∷ []) false
grows_placed_path = to refl refl (grows_then grows_any_name refl (λ name. grows_rounds (dot ∷ []) (path_first name) refl refl (λ p. grows_one_more_step p)))

grows_of_namespace : {type wide : Grammar Token Decl} → Grows type wide decl_kinds [] false → Grows (of_namespace type) (of_namespace wide) (kw_namespace ∷ []) [] false
grows_of_namespace {type = type} {wide = wide} y =
    to refl refl
    (grows_then (grows_place kw_namespace refl) refl
    (λ s. grows_then grows_placed_path refl
    (λ p. grows_then (grows_sign brace refl) refl
    (λ _. grows_then (grows_rounds decl_kinds [] refl refl (λ ds. grows_more_types ds)) refl (λ ds. grows_then (grows_sign unbrace refl) refl (λ _. grows_gives _))))))
  where
    grows_more_types : (ds : List Decl) → Grows (one_more_type type ds) (one_more_type wide ds) decl_kinds [] false
    grows_more_types ds = to refl refl (grows_then y refl (λ d. grows_gives _))

grows_one_more_space : {type wide : Grammar Token Decl} (spaces : List Space) → Grows type wide decl_kinds [] false → Grows (one_more_space type spaces) (one_more_space wide spaces) (kw_namespace ∷ decl_kinds) [] false
grows_one_more_space spaces y =
    to refl refl
    (grows_then (grows_or (kw_namespace ∷ []) refl refl (grows_of_namespace y) (grows_then y refl (λ d. grows_gives _))) refl (λ c. grows_gives _))

grows_unit_from : {type wide : Grammar Token Decl} → Grows type wide decl_kinds [] false → Grows (unit_from type) (unit_from wide) (kw_namespace ∷ decl_kinds) (kw_namespace ∷ decl_kinds) true
grows_unit_from y =
    to refl refl
    (grows_then (grows_rounds (kw_namespace ∷ decl_kinds) [] refl refl (λ spaces. grows_one_more_space spaces y)) refl (λ spaces. grows_gives _))

pub exact_text_at : (limit nesting : ℕ) → Exact kind (text_at limit nesting) (kw_namespace ∷ decl_kinds) (kw_namespace ∷ decl_kinds) true
exact_text_at limit nesting = exact_unit_from (exact_type_at limit nesting)

pub deeper_text_at : (limit nesting : ℕ) → Deeper (text_at limit nesting) (text_at (limit + 1) (nesting + 1))
deeper_text_at limit nesting =
    (grows_unit_from (grows_type_at limit (limit + 1) nesting (nesting + 1) (omega arith) (omega arith))).deeper

pub has_one_reference_text : HasOneReferenceText
has_one_reference_text limit nesting =
    answers_once (exact_text_at limit nesting) (exact_text_at (limit + 1) (nesting + 1)) (deeper_text_at limit nesting)
