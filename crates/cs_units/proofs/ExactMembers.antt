-- Members are exact.
use Rattle.std.proofs.Common.{ℕ, ◌&&◌, true, false, List, [], ◌∷◌, Option, Some, None, refl, codes}
use Rattle.cs_token.specs.Placed.{Placed as Token}
use Rattle.cs_token.specs.declared.lexeme.Lexeme.TheVariants as lexeme
use Rattle.cs_tree.specs.declared.types.Spot.{Spot}
use Rattle.cs_tree.specs.declared.types.Name.{Name}
use Rattle.cs_tree.specs.declared.types.TypeForm.{TypeForm}
use Rattle.cs_tree.specs.declared.types.Param.{Param}
use Rattle.cs_tree.specs.declared.members.Explicit.{Explicit}
use Rattle.cs_tree.specs.declared.members.Accessor.{Accessor}
use Rattle.cs_productions.specs.declared.values.Part.TheVariants.{Whole}
use Rattle.cs_units.specs.declared.values.Marked.{Marked}
use Rattle.cs_units.specs.declared.values.Implementing.{Implementing}
use Rattle.cs_grammar.specs.Exact.{Exact}
use Rattle.cs_grammar.proofs.Basics.{exact_gives, exact_one, wider}
use Rattle.cs_grammar.proofs.Bind.{then}
use Rattle.cs_grammar.proofs.Either.{or}
use Rattle.cs_grammar.proofs.Limited.{choose}
use Rattle.cs_grammar.proofs.Turns.{repeat}
use Rattle.cs_productions.specs.Kinds.{names, global, getter, setter, indexer, brace, unbrace, paren, unparen, bracket, unbracket, semicolon, colon, colons, dot, equals, keyword_types, kw_base, kw_this, kw_const, kw_void, kw_operator}
use Rattle.cs_productions.specs.Tokens.{kind, spot_of, name_of}
use Rattle.cs_productions.specs.Types.{global_type}
use Rattle.cs_productions.specs.Inner.{Inner}
use Rattle.cs_productions.proofs.Follow.{type_kinds, param_kinds, AreExact}
use Rattle.cs_productions.proofs.ExactTokens.{sample, global_sample, exact_sign, exact_place, exact_name_text, exact_any_name}
use Rattle.cs_productions.proofs.ExactTypes.{exact_path, exact_ranks, exact_type_of_keyword, exact_ty, exact_param, exact_more_params}
use Rattle.cs_productions.proofs.ExactCalls.{exact_arguments}
use Rattle.cs_productions.proofs.Growing.{Grows, to, grows_gives, grows_sign, grows_any_name, grows_then}
use Rattle.cs_statements.specs.Kinds.{name_kinds}
use Rattle.cs_statements.specs.Jumps.{no_value}
use Rattle.cs_units.specs.Kinds.{maker_names, member_kinds}
use Rattle.cs_units.specs.Modifiers.{unmarked, only_static, start}
use Rattle.cs_units.specs.Members.{are_none, one_param, empty_params, some_params, params, no_body, body, field, method, implementing_first, one_more_part, explicit_of, implementing, accessor, some_accessor, no_accessor, without_setter, with_setter, behind_getter, with_getter, first_accessor, accessors, property, behind_name, global_behind, name_behind, behind_type, void_global, void_name, void_method, constant, operator, constructor, initializer, maker, behind_params, constructing, indexing, keyword_member, path_member, global_member, indexer_member, named_member, any_member}
use Rattle.cs_units.proofs.Modifiers.{grows_modifiers}

abbrev pub getter_sample : Token
getter_sample = sample (lexeme.Name (codes "get"))

abbrev pub setter_sample : Token
setter_sample = sample (lexeme.Name (codes "set"))

abbrev pub indexer_sample : Token
indexer_sample = sample (lexeme.Name (codes "indexer"))

pub grows_empty_params : Grows empty_params empty_params (unparen ∷ []) [] false
grows_empty_params = to refl refl (grows_then (grows_sign unparen refl) refl (λ _. (grows_gives _)))

pub exact_some_params : (limit : ℕ) → Exact kind (some_params limit) param_kinds [] false
exact_some_params limit = wider refl refl (then (exact_param limit) refl (λ p. (then (exact_more_params limit (one_param p)) refl (λ ps. (then (exact_sign unparen refl) refl (λ _. (exact_gives _)))))))

pub exact_params : (limit : ℕ) → Exact kind (params limit) (paren ∷ []) [] false
exact_params limit = wider refl refl (then (exact_sign paren refl) refl (λ _. (or (unparen ∷ []) refl refl grows_empty_params.exact (exact_some_params limit))))

pub grows_no_body : Grows no_body no_body (semicolon ∷ []) [] false
grows_no_body = to refl refl (grows_then (grows_sign semicolon refl) refl (λ _. (grows_gives _)))

pub exact_body : {inner : Inner} → AreExact inner → Exact kind (body inner) (semicolon ∷ brace ∷ []) [] false
exact_body {inner = inner} q = wider refl refl (or (semicolon ∷ []) refl refl grows_no_body.exact (then q.block refl (λ b. (exact_gives _))))

pub grows_no_value : Grows no_value no_value (semicolon ∷ []) [] false
grows_no_value = to refl refl (grows_then (grows_sign semicolon refl) refl (λ _. (grows_gives _)))

pub exact_field : {inner : Inner} (m : Marked) (t : TypeForm) (x : Name) → AreExact inner → Exact kind (field inner m t x) (equals ∷ semicolon ∷ []) [] false
exact_field {inner = inner} m t x q = wider refl refl (then (or (equals ∷ []) refl refl (then (exact_sign equals refl) refl (λ _. (then (q.forms Whole) refl (λ a. (then (exact_sign semicolon refl) refl (λ _. (exact_gives _))))))) grows_no_value.exact) refl (λ v. (exact_gives _)))

pub exact_method : {inner : Inner} (s : Spot) (m : Marked) (result : Option TypeForm) (explicit : Option Explicit) (x : Name) → AreExact inner → Exact kind (method inner s m result explicit x) (paren ∷ []) [] false
exact_method {inner = inner} s m result explicit x q = wider refl refl (then (exact_params inner.ranks) refl (λ ps. (then (exact_body q) refl (λ b. (exact_gives _)))))

pub grows_one_more_part : (before : Implementing) → Grows (one_more_part before) (one_more_part before) (dot ∷ []) [] false
grows_one_more_part before = to refl refl (grows_then (grows_sign dot refl) refl (λ _. (grows_then grows_any_name refl (λ y. (grows_gives _)))))

pub exact_implementing : {inner : Inner} (s : Spot) (m : Marked) (result : Option TypeForm) (at : Spot) → AreExact inner → Exact kind (implementing inner s m result at) (colons ∷ []) [] false
exact_implementing {inner = inner} s m result at q = wider refl refl (then (exact_sign colons refl) refl (λ _. (then exact_name_text refl (λ first. (then (exact_sign dot refl) refl (λ _. (then exact_any_name refl (λ y. (then (repeat (dot ∷ []) (λ _. true) (implementing_first first y) refl refl (λ before. (grows_one_more_part before).exact)) refl (λ named. (exact_method s m result (explicit_of at named) named.name q)))))))))))

pub exact_get : {inner : Inner} (m : Marked) → AreExact inner → Exact kind (accessor inner getter m) (getter ∷ []) [] false
exact_get {inner = inner} m q = wider refl refl (then (exact_one (getter ∷ []) spot_of getter_sample refl) refl (λ s. (then (exact_body q) refl (λ b. (exact_gives _)))))

pub exact_set : {inner : Inner} (m : Marked) → AreExact inner → Exact kind (accessor inner setter m) (setter ∷ []) [] false
exact_set {inner = inner} m q = wider refl refl (then (exact_one (setter ∷ []) spot_of setter_sample refl) refl (λ s. (then (exact_body q) refl (λ b. (exact_gives _)))))

pub grows_without_setter : (g : Option Accessor) → Grows (without_setter g) (without_setter g) (unbrace ∷ []) [] false
grows_without_setter g = to refl refl (grows_then (grows_sign unbrace refl) refl (λ _. (grows_gives _)))

pub exact_with_setter : {inner : Inner} (g : Option Accessor) (m : Marked) → AreExact inner → Exact kind (with_setter inner g m) (setter ∷ []) [] false
exact_with_setter {inner = inner} g m q = wider refl refl (then (exact_set m q) refl (λ a. (then (exact_sign unbrace refl) refl (λ _. (exact_gives _)))))

pub exact_behind_getter : {inner : Inner} (g : Option Accessor) (m : Marked) → AreExact inner → Exact kind (behind_getter inner g m) (unbrace ∷ setter ∷ []) [] false
exact_behind_getter {inner = inner} g m q = wider refl refl (choose (unbrace ∷ []) (unmarked m) refl refl (grows_without_setter g).exact (exact_with_setter g m q))

pub exact_with_getter : {inner : Inner} (m : Marked) → AreExact inner → Exact kind (with_getter inner m) (getter ∷ []) [] false
exact_with_getter {inner = inner} m q = wider refl refl (then (exact_get m q) refl (λ a. (then grows_modifiers.exact refl (λ more. (exact_behind_getter (some_accessor a) more q)))))

pub exact_first_accessor : {inner : Inner} (m : Marked) → AreExact inner → Exact kind (first_accessor inner m) (getter ∷ unbrace ∷ setter ∷ []) [] false
exact_first_accessor {inner = inner} m q = wider refl refl (or (getter ∷ []) refl refl (exact_with_getter m q) (exact_behind_getter no_accessor m q))

pub exact_accessors : {inner : Inner} → AreExact inner → Exact kind (accessors inner) (brace ∷ []) [] false
exact_accessors {inner = inner} q = wider refl refl (then (exact_sign brace refl) refl (λ _. (then grows_modifiers.exact refl (λ m. (exact_first_accessor m q)))))

pub exact_property : {inner : Inner} (m : Marked) (t : TypeForm) (x : Name) → AreExact inner → Exact kind (property inner m t x) (brace ∷ []) [] false
exact_property {inner = inner} m t x q = wider refl refl (then (exact_accessors q) refl (λ a. (exact_gives _)))

pub exact_behind_name : {inner : Inner} (m : Marked) (t : TypeForm) (x : Name) → AreExact inner → Exact kind (behind_name inner m t x) (equals ∷ semicolon ∷ paren ∷ brace ∷ []) [] false
exact_behind_name {inner = inner} m t x q = wider refl refl (or (equals ∷ semicolon ∷ []) refl refl (exact_field m t x q) (or (paren ∷ []) refl refl (exact_method (start m t.spot) m (Some t) None x q) (exact_property m t x q)))

pub exact_global_behind : {inner : Inner} (m : Marked) (t : TypeForm) → AreExact inner → Exact kind (global_behind inner m t) (global ∷ []) [] false
exact_global_behind {inner = inner} m t q = wider refl refl (then (exact_one (global ∷ []) name_of global_sample refl) refl (λ y. (or (colons ∷ []) refl refl (exact_implementing (start m t.spot) m (Some t) y.spot q) (exact_behind_name m t y q))))

pub exact_name_behind : {inner : Inner} (m : Marked) (t : TypeForm) → AreExact inner → Exact kind (name_behind inner m t) name_kinds [] false
exact_name_behind {inner = inner} m t q = wider refl refl (then (exact_one name_kinds name_of (sample (lexeme.Name [])) refl) refl (λ y. (exact_behind_name m t y q)))

pub exact_behind_type : {inner : Inner} (m : Marked) (t : TypeForm) → AreExact inner → Exact kind (behind_type inner m t) names [] false
exact_behind_type {inner = inner} m t q = wider refl refl (or (global ∷ []) refl refl (exact_global_behind m t q) (exact_name_behind m t q))

pub exact_void_global : {inner : Inner} (m : Marked) (s : Spot) → AreExact inner → Exact kind (void_global inner m s) (global ∷ []) [] false
exact_void_global {inner = inner} m s q = wider refl refl (then (exact_one (global ∷ []) name_of global_sample refl) refl (λ y. (or (colons ∷ []) refl refl (exact_implementing (start m s) m None y.spot q) (exact_method (start m s) m None None y q))))

pub exact_void_name : {inner : Inner} (m : Marked) (s : Spot) → AreExact inner → Exact kind (void_name inner m s) name_kinds [] false
exact_void_name {inner = inner} m s q = wider refl refl (then (exact_one name_kinds name_of (sample (lexeme.Name [])) refl) refl (λ y. (exact_method (start m s) m None None y q)))

pub exact_void_method : {inner : Inner} (m : Marked) → AreExact inner → Exact kind (void_method inner m) (kw_void ∷ []) [] false
exact_void_method {inner = inner} m q = wider refl refl (then (exact_place kw_void refl) refl (λ s. (or (global ∷ []) refl refl (exact_void_global m s q) (exact_void_name m s q))))

pub exact_constant : {inner : Inner} (m : Marked) → AreExact inner → Exact kind (constant inner m) (kw_const ∷ []) [] false
exact_constant {inner = inner} m q = wider refl refl (then (exact_place kw_const refl) refl (λ s. (then (exact_ty inner.ranks) refl (λ t. (then exact_any_name refl (λ y. (then (exact_sign equals refl) refl (λ _. (then (q.forms Whole) refl (λ a. (then (exact_sign semicolon refl) refl (λ _. (exact_gives _)))))))))))))

pub exact_operator : {inner : Inner} → AreExact inner → Exact kind (operator inner) (kw_operator ∷ []) [] false
exact_operator {inner = inner} q = wider refl refl (then (exact_place kw_operator refl) refl (λ s. (then (exact_ty inner.ranks) refl (λ t. (then exact_any_name refl (λ y. (then (exact_params inner.ranks) refl (λ ps. (then (exact_sign semicolon refl) refl (λ _. (exact_gives _)))))))))))

pub exact_constructor : {inner : Inner} (m : Marked) (x : Name) (ps : List Param) → AreExact inner → Exact kind (constructor inner m x ps) (colon ∷ []) [] false
exact_constructor {inner = inner} m x ps q = wider refl refl (then (exact_sign colon refl) refl (λ _. (then (or (kw_base ∷ []) refl refl (then (exact_sign kw_base refl) refl (λ _. (then (exact_arguments q) refl (λ a. (exact_gives _))))) (then (exact_sign kw_this refl) refl (λ _. (then (exact_arguments q) refl (λ a. (exact_gives _)))))) refl (λ first. (then q.block refl (λ b. (exact_gives _)))))))

pub exact_initializer : {inner : Inner} (m : Marked) (x : Name) → AreExact inner → Exact kind (initializer inner m x) (brace ∷ []) [] false
exact_initializer {inner = inner} m x q = wider refl refl (then q.block refl (λ b. (exact_gives _)))

pub grows_maker : (m : Marked) (x : Name) (ps : List Param) → Grows (maker m x ps) (maker m x ps) (semicolon ∷ []) [] false
grows_maker m x ps = to refl refl (grows_then (grows_sign semicolon refl) refl (λ _. (grows_gives _)))

pub exact_behind_params : {inner : Inner} (m : Marked) (x : Name) (ps : List Param) → AreExact inner → Exact kind (behind_params inner m x ps) (colon ∷ brace ∷ semicolon ∷ []) [] false
exact_behind_params {inner = inner} m x ps q = wider refl refl (or (colon ∷ []) refl refl (exact_constructor m x ps q) (choose (brace ∷ []) (only_static m.mods && are_none ps) refl refl (exact_initializer m x q) (grows_maker m x ps).exact))

pub exact_constructing : {inner : Inner} (m : Marked) (x : Name) → AreExact inner → Exact kind (constructing inner m x) (paren ∷ []) [] false
exact_constructing {inner = inner} m x q = wider refl refl (then (exact_params inner.ranks) refl (λ ps. (exact_behind_params m x ps q)))

pub exact_indexing : {inner : Inner} (m : Marked) (s : Spot) → AreExact inner → Exact kind (indexing inner m s) type_kinds [] false
exact_indexing {inner = inner} m s q = wider refl refl (then (exact_ty inner.ranks) refl (λ t. (then exact_any_name refl (λ y. (then (exact_sign bracket refl) refl (λ _. (then (exact_ty inner.ranks) refl (λ u. (then exact_any_name refl (λ i. (then (exact_sign unbracket refl) refl (λ _. (then (exact_accessors q) refl (λ a. (exact_gives _)))))))))))))))

pub exact_keyword_member : {inner : Inner} (m : Marked) → AreExact inner → Exact kind (keyword_member inner m) keyword_types [] false
exact_keyword_member {inner = inner} m q = wider refl refl (then (exact_type_of_keyword inner.ranks) refl (λ t. (exact_behind_type m t q)))

pub exact_path_member : {inner : Inner} (m : Marked) (s : Spot) → AreExact inner → Exact kind (path_member inner m s) (colons ∷ []) [] false
exact_path_member {inner = inner} m s q = wider refl refl (then (exact_sign colons refl) refl (λ _. (then exact_path refl (λ path_names. (then (exact_ranks inner.ranks (global_type s path_names)) refl (λ t. (exact_behind_type m t q)))))))

pub exact_global_member : {inner : Inner} (m : Marked) → AreExact inner → Exact kind (global_member inner m) (global ∷ []) [] false
exact_global_member {inner = inner} m q = wider refl refl (then (exact_one (global ∷ []) name_of global_sample refl) refl (λ y. (or (colons ∷ []) refl refl (exact_path_member m y.spot q) (exact_constructing m y q))))

pub exact_indexer_member : {inner : Inner} (m : Marked) → AreExact inner → Exact kind (indexer_member inner m) (indexer ∷ []) [] false
exact_indexer_member {inner = inner} m q = wider refl refl (then (exact_one (indexer ∷ []) name_of indexer_sample refl) refl (λ y. (or (paren ∷ []) refl refl (exact_constructing m y q) (exact_indexing m y.spot q))))

pub exact_named_member : {inner : Inner} (m : Marked) → AreExact inner → Exact kind (named_member inner m) maker_names [] false
exact_named_member {inner = inner} m q = wider refl refl (then (exact_one maker_names name_of (sample (lexeme.Name [])) refl) refl (λ y. (exact_constructing m y q)))

pub exact_any_member : {inner : Inner} (m : Marked) → AreExact inner → Exact kind (any_member inner m) member_kinds [] false
exact_any_member {inner = inner} m q = wider refl refl (or keyword_types refl refl (exact_keyword_member m q) (or (global ∷ []) refl refl (exact_global_member m q) (or (indexer ∷ []) refl refl (exact_indexer_member m q) (or maker_names refl refl (exact_named_member m q) (or (kw_void ∷ []) refl refl (exact_void_method m q) (choose (kw_operator ∷ []) (unmarked m) refl refl (exact_operator q) (exact_constant m q)))))))
