-- Types and whole texts with more levels, and more types open in one another.
use Rattle.std.proofs.Common.{◌≡◌, ℕ, zero, suc, ◌+◌, ◌<◌, Bool, true, false, List, [], ◌∷◌, refl, arith}
use Rattle.cs_token.specs.Placed.{Placed as Token}
use Rattle.cs_tree.specs.declared.types.TypeForm.{TypeForm}
use Rattle.cs_tree.specs.declared.forms.Block.{Block}
use Rattle.cs_tree.specs.declared.declarations.Item.{Item}
use Rattle.cs_tree.specs.declared.declarations.Decl.{Decl}
use Rattle.cs_tree.specs.declared.declarations.Space.{Space}
use Rattle.cs_units.specs.declared.values.Marked.{Marked}
use Rattle.cs_grammar.specs.Grammar.{Grammar}
use Rattle.cs_grammar.specs.Exact.{Exact}
use Rattle.cs_grammar.specs.Whole.{Deeper}
use Rattle.cs_grammar.specs.Levels.{Enters}
use Rattle.cs_grammar.proofs.Bind.{then}
use Rattle.cs_grammar.proofs.Turns.{repeat}
use Rattle.cs_grammar.proofs.Deeper.{enters_one, enters_then}
use Rattle.cs_grammar.proofs.Basics.{exact_gives}
use Rattle.cs_productions.specs.Kinds.{names, brace, unbrace, bracket, comma, semicolon, colon, dot, kw_class, kw_enum, kw_delegate, kw_void, kw_namespace}
use Rattle.cs_productions.specs.Tokens.{kind, spot_of}
use Rattle.cs_productions.specs.Inner.{Inner}
use Rattle.cs_productions.specs.Levels.{below}
use Rattle.cs_statements.specs.Blocks.{block_at}
use Rattle.cs_productions.proofs.Follow.{type_kinds, AreExact}
use Rattle.cs_productions.proofs.ExactTokens.{sample_of, exact_sign, exact_any_name}
use Rattle.cs_productions.proofs.ExactTypes.{exact_ty}
use Rattle.cs_productions.proofs.Growing.{Grows, grows, to, grows_gives, grows_one, grows_sign, grows_place, grows_any_name, grows_then, grows_or, grows_where}
use Rattle.cs_productions.proofs.DeeperTypes.{deeper_ty}
use Rattle.cs_productions.proofs.Deepening.{enters_or}
use Rattle.cs_productions.proofs.DeeperLevels.{widens}
use Rattle.cs_productions.proofs.OneAnswers.{answers_once}
use Rattle.cs_statements.proofs.ExactStatements.{exact_block_at}
use Rattle.cs_statements.proofs.DeeperStatements.{deeper_block_at}
use Rattle.cs_units.specs.Kinds.{body_kinds, type_words, member_kinds, decl_kinds, item_kinds}
use Rattle.cs_units.specs.Declarations.{first_base, one_more_base, bases, one_more_item, body_type, enum_type, result, delegate_type, type_behind, member_item, type_item, item_in, lowest_item, item_at, type_at, path_first, placed_path, one_more_type, of_namespace, one_more_space, unit_at, inside}
use Rattle.cs_units.specs.Laws.{HasOneMember, HasOneUnit}
use Rattle.cs_units.proofs.Modifiers.{grows_modifiers}
use Rattle.cs_units.proofs.Rounding.{grows_rounds}
use Rattle.cs_units.proofs.ExactMembers.{exact_params}
use Rattle.cs_units.proofs.DeeperMembers.{Spreads, grows_params, grows_any_member}
use Rattle.cs_units.proofs.ExactDeclarations.{exact_bases, grows_one_more_enumerator, exact_result, exact_one_more_item, exact_type_item, exact_item_at, grows_one_more_step, exact_unit_at, exact_inside}

pub grows_one_more_base : (limit more : ℕ) (ts : List TypeForm) → limit < more → Grows (one_more_base limit ts) (one_more_base more ts) (comma ∷ []) (dot ∷ bracket ∷ []) false
grows_one_more_base limit more ts l = to refl refl (grows_then (grows_sign comma refl) refl (λ _. (grows_then (grows (deeper_ty limit more l) (exact_ty more)) refl (λ t. (grows_gives _)))))

pub grows_bases : (limit more : ℕ) → limit < more → Grows (bases limit) (bases more) (colon ∷ []) (colon ∷ comma ∷ dot ∷ bracket ∷ []) true
grows_bases limit more l = to refl refl (grows_or (colon ∷ []) refl refl (grows_then (grows_sign colon refl) refl (λ _. (grows_then (grows (deeper_ty limit more l) (exact_ty more)) refl (λ t. (grows_rounds (comma ∷ []) (first_base t) refl refl (λ ts. (grows_one_more_base limit more ts l))))))) (grows_gives _))

pub grows_enum_type : (limit more : ℕ) (m : Marked) → limit < more → Grows (enum_type limit m) (enum_type more m) (kw_enum ∷ []) [] false
grows_enum_type limit more m l = to refl refl (grows_then (grows_place kw_enum refl) refl (λ s. (grows_then grows_any_name refl (λ y. (grows_then (grows_sign colon refl) refl (λ _. (grows_then (grows (deeper_ty limit more l) (exact_ty more)) refl (λ t. (grows_then (grows_sign brace refl) refl (λ _. (grows_then (grows_rounds names [] refl refl (λ es. grows_one_more_enumerator es)) refl (λ es. (grows_then (grows_sign unbrace refl) refl (λ _. (grows_gives _)))))))))))))))

pub grows_result : (limit more : ℕ) → limit < more → Grows (result limit) (result more) (kw_void ∷ type_kinds) (dot ∷ bracket ∷ []) false
grows_result limit more l = to refl refl (grows_or (kw_void ∷ []) refl refl (grows_then (grows_sign kw_void refl) refl (λ _. (grows_gives _))) (grows_then (grows (deeper_ty limit more l) (exact_ty more)) refl (λ t. (grows_gives _))))

pub grows_delegate_type : (limit more : ℕ) (m : Marked) → limit < more → Grows (delegate_type limit m) (delegate_type more m) (kw_delegate ∷ []) [] false
grows_delegate_type limit more m l = to refl refl (grows_then (grows_place kw_delegate refl) refl (λ s. (grows_then (grows_result limit more l) refl (λ t. (grows_then grows_any_name refl (λ y. (grows_then (grows_params limit more l) refl (λ ps. (grows_then (grows_sign semicolon refl) refl (λ _. (grows_gives _)))))))))))

-- with items that read no less

grows_one_more_item : {item wide_item : Grammar Token Item} (items : List Item) → Grows item wide_item item_kinds [] false → Grows (one_more_item item items) (one_more_item wide_item items) item_kinds [] false
grows_one_more_item items y = to refl refl (grows_then y refl (λ i. grows_gives _))

grows_body_type : {inner wide : Inner} {item wide_item : Grammar Token Item} (m : Marked) → Spreads inner wide → Grows item wide_item item_kinds [] false → Grows (body_type inner item m) (body_type wide wide_item m) body_kinds [] false
grows_body_type {inner = inner} {wide = wide} m z y =
    to refl refl
    (grows_then (grows_one body_kinds (λ t. t) (sample_of kw_class) refl) refl
    (λ t. grows_then grows_any_name refl
    (λ name. grows_then (grows_bases inner.ranks wide.ranks z.widens.ranks) refl
    (λ ts. grows_then (grows_sign brace refl) refl
    (λ _. grows_then (grows_rounds item_kinds [] refl refl (λ items. grows_one_more_item items y)) refl (λ items. grows_then (grows_sign unbrace refl) refl (λ _. grows_gives _)))))))

grows_type_behind : {inner wide : Inner} {item wide_item : Grammar Token Item} (m : Marked) → Spreads inner wide → Grows item wide_item item_kinds [] false → Grows (type_behind inner item m) (type_behind wide wide_item m) type_words [] false
grows_type_behind {inner = inner} {wide = wide} m z y =
    to refl refl
    (grows_or body_kinds refl refl (grows_body_type m z y)
    (grows_or (kw_enum ∷ []) refl refl (grows_enum_type inner.ranks wide.ranks m z.widens.ranks) (grows_delegate_type inner.ranks wide.ranks m z.widens.ranks)))

grows_member_item : {inner wide : Inner} (m : Marked) → Spreads inner wide → Grows (member_item inner m) (member_item wide m) member_kinds [] false
grows_member_item m z = to refl refl (grows_then (grows_any_member m z) refl (λ y. grows_gives _))

grows_type_item : {inner wide : Inner} {item wide_item : Grammar Token Item} (m : Marked) → Spreads inner wide → Grows item wide_item item_kinds [] false → Grows (type_item inner item m) (type_item wide wide_item m) type_words [] false
grows_type_item m z y = to refl refl (grows_then (grows_type_behind m z y) refl (λ d. grows_gives _))

enters_type_item : {inner : Inner} {item : Grammar Token Item} (m : Marked) → AreExact inner → Exact kind item item_kinds [] false → Enters kind type_words (type_item inner item m)
enters_type_item {inner = inner} m x y =
    enters_then
    (enters_or body_kinds (kw_enum ∷ kw_delegate ∷ [])
    (enters_then (enters_one body_kinds (λ t. t))
    (λ t. then exact_any_name refl
    (λ name. then (exact_bases inner.ranks) refl
    (λ ts. then (exact_sign brace refl) refl
    (λ _. then (repeat item_kinds (λ _. true) [] refl refl (λ items. exact_one_more_item items y)) refl (λ items. then (exact_sign unbrace refl) refl (λ _. exact_gives _)))))))
    (enters_or (kw_enum ∷ []) (kw_delegate ∷ [])
    (enters_then (enters_one (kw_enum ∷ []) spot_of)
    (λ s. then exact_any_name refl
    (λ name. then (exact_sign colon refl) refl
    (λ _. then (exact_ty inner.ranks) refl
    (λ t. then (exact_sign brace refl) refl
    (λ _. then (repeat names (λ _. true) [] refl refl (λ es. (grows_one_more_enumerator es).exact)) refl (λ es. then (exact_sign unbrace refl) refl (λ _. exact_gives _))))))))
    (enters_then (enters_one (kw_delegate ∷ []) spot_of)
    (λ s. then (exact_result inner.ranks) refl
    (λ t. then exact_any_name refl (λ name. then (exact_params inner.ranks) refl (λ ps. then (exact_sign semicolon refl) refl (λ _. exact_gives _))))))))
    (λ d. exact_gives _)

-- items, of which more may stand in one another

grows_item : {inner wide : Inner} {item wide_item : Grammar Token Item} (room : Bool) → Spreads inner wide → Exact kind wide_item item_kinds [] false → (room ≡ true → Deeper item wide_item) → Grows (item_in room inner item) (item_in true wide wide_item) item_kinds [] false
grows_item {inner = inner} {wide = wide} {item = item} {wide_item = wide_item} room z x d =
    to refl refl
    (grows_then grows_modifiers refl
    (λ m. grows_where type_words room true refl refl refl (enters_type_item m z.widens.exact x)
    (λ r. (grows_type_item m z (grows (d r) x)).deeper) (exact_type_item m z.widens.exact x) (grows_member_item m z)))

no_room : {A : Type 0} → (let room : Bool = false in room) ≡ true → A
no_room e = absurd (cc)

pub grows_item_at : {inner wide : Inner} (n m : ℕ) → n < m → Spreads inner wide → Grows (item_at inner n) (item_at wide m) item_kinds [] false
grows_item_at n zero l z = absurd (omega arith)
grows_item_at {inner = inner} zero (suc m) l z = grows_item {item = lowest_item inner} false z (exact_item_at m z.widens.exact) (λ never. no_room never)
grows_item_at (suc n) (suc m) l z = grows_item true z (exact_item_at m z.widens.exact) (λ _. (grows_item_at n m (omega arith) z).deeper)

pub grows_type_at : {inner wide : Inner} (n m : ℕ) → n < m → Spreads inner wide → Grows (type_at inner n) (type_at wide m) decl_kinds [] false
grows_type_at n m l z = to refl refl (grows_then grows_modifiers refl (λ a. grows_type_behind a z (grows_item_at n m l z)))

-- whole texts

grows_placed_path : Grows placed_path placed_path names (dot ∷ []) false
grows_placed_path = to refl refl (grows_then grows_any_name refl (λ name. grows_rounds (dot ∷ []) (path_first name) refl refl (λ p. grows_one_more_step p)))

grows_of_namespace : {type wide : Grammar Token Decl} → Grows type wide decl_kinds [] false → Grows (of_namespace type) (of_namespace wide) (kw_namespace ∷ []) [] false
grows_of_namespace {type = type} {wide = wide} y =
    to refl refl
    (grows_then (grows_place kw_namespace refl) refl
    (λ s. grows_then grows_placed_path refl
    (λ p. grows_then (grows_sign brace refl) refl
    (λ _. grows_then (grows_rounds decl_kinds [] refl refl (λ ds. grows_more_types ds)) refl (λ ds. grows_then (grows_sign unbrace refl) refl (λ _. grows_gives _))))))
  where
    grows_more_types : (ds : List Decl) → Grows (one_more_type type ds) (one_more_type wide ds) decl_kinds [] false
    grows_more_types ds = to refl refl (grows_then y refl (λ d. grows_gives _))

grows_one_more_space : {type wide : Grammar Token Decl} (spaces : List Space) → Grows type wide decl_kinds [] false → Grows (one_more_space type spaces) (one_more_space wide spaces) (kw_namespace ∷ decl_kinds) [] false
grows_one_more_space spaces y =
    to refl refl
    (grows_then (grows_or (kw_namespace ∷ []) refl refl (grows_of_namespace y) (grows_then y refl (λ d. grows_gives _))) refl (λ c. grows_gives _))

pub grows_unit_at : {inner wide : Inner} (n m : ℕ) → n < m → Spreads inner wide → Grows (unit_at inner n) (unit_at wide m) (kw_namespace ∷ decl_kinds) (kw_namespace ∷ decl_kinds) true
grows_unit_at n m l z =
    to refl refl
    (grows_then (grows_rounds (kw_namespace ∷ decl_kinds) [] refl refl (λ spaces. grows_one_more_space spaces (grows_type_at n m l z))) refl (λ spaces. grows_gives _))

-- what stands in members, and the same with more levels

blocks_below : (block : Grammar Token Block) (blocks ranks n : ℕ) → 0 < blocks → 0 < (below block blocks ranks n).blocks
blocks_below block blocks ranks zero some = some
blocks_below block blocks ranks (suc n) some = blocks_below block blocks ranks n some

pub spreads_inside : (levels ranks blocks : ℕ) → 0 < ranks → 0 < blocks → Spreads (inside levels ranks blocks) (inside (levels + 2) (ranks + 1) (blocks + 1))
spreads_inside levels ranks blocks some more =
    record {
      levels = levels + 1;
      more = levels + 2 + 1;
      widens = widens blocks (blocks + 1) ranks (ranks + 1) (levels + 1) (levels + 2 + 1) (omega arith) some (omega arith) (omega arith) (exact_block_at (levels + 2) (ranks + 1) (blocks + 1))
          (λ may. deeper_block_at levels (levels + 2) ranks (ranks + 1) blocks (blocks + 1) (omega arith) some (omega arith) may (omega arith));
      some = omega arith;
      may = blocks_below (block_at levels ranks blocks) blocks ranks (levels + 1) more;
    }

pub has_one_member : HasOneMember
has_one_member levels ranks blocks nesting some more =
    answers_once (exact_item_at nesting (exact_inside levels ranks blocks)) (exact_item_at (nesting + 1) (exact_inside (levels + 2) (ranks + 1) (blocks + 1)))
    (grows_item_at nesting (nesting + 1) (omega arith) (spreads_inside levels ranks blocks some more)).deeper

pub has_one_unit : HasOneUnit
has_one_unit levels ranks blocks nesting some more =
    answers_once (exact_unit_at nesting (exact_inside levels ranks blocks)) (exact_unit_at (nesting + 1) (exact_inside (levels + 2) (ranks + 1) (blocks + 1)))
    (grows_unit_at nesting (nesting + 1) (omega arith) (spreads_inside levels ranks blocks some more)).deeper
