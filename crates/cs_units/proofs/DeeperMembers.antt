-- Members with more levels, more pairs of brackets and more blocks.
use Rattle.std.proofs.Common.{ℕ, ◌<◌, ◌&&◌, false, List, [], ◌∷◌, Option, Some, None, refl, arith}
use Rattle.cs_token.specs.declared.lexeme.Lexeme.TheVariants as lexeme
use Rattle.cs_tree.specs.declared.types.Spot.{Spot}
use Rattle.cs_tree.specs.declared.types.Name.{Name}
use Rattle.cs_tree.specs.declared.types.TypeForm.{TypeForm}
use Rattle.cs_tree.specs.declared.types.Param.{Param}
use Rattle.cs_tree.specs.declared.members.Explicit.{Explicit}
use Rattle.cs_tree.specs.declared.members.Accessor.{Accessor}
use Rattle.cs_productions.specs.declared.values.Part.TheVariants.{Whole}
use Rattle.cs_units.specs.declared.values.Marked.{Marked}
use Rattle.cs_productions.specs.Kinds.{names, global, getter, setter, indexer, brace, unbrace, paren, unparen, bracket, unbracket, semicolon, colon, colons, dot, equals, keyword_types, kw_base, kw_this, kw_const, kw_void, kw_operator}
use Rattle.cs_productions.specs.Tokens.{spot_of, name_of}
use Rattle.cs_productions.specs.Types.{global_type}
use Rattle.cs_productions.specs.Inner.{Inner}
use Rattle.cs_productions.proofs.Follow.{type_kinds, param_kinds}
use Rattle.cs_productions.proofs.ExactTokens.{sample, global_sample, exact_name_text}
use Rattle.cs_productions.proofs.ExactTypes.{exact_ranks, exact_type_of_keyword, exact_ty, exact_param, exact_more_params}
use Rattle.cs_productions.proofs.Growing.{Grows, grows, to, grows_gives, grows_one, grows_sign, grows_place, grows_any_name, grows_then, grows_or}
use Rattle.cs_productions.proofs.DeeperTypes.{deeper_name_text, deeper_ranks, deeper_type_of_keyword, deeper_ty, deeper_param, deeper_more_params}
use Rattle.cs_productions.proofs.DeeperCalls.{Widens, grows_forms, grows_arguments}
use Rattle.cs_productions.proofs.DeeperPrimaries.{grows_path}
use Rattle.cs_statements.specs.Kinds.{name_kinds}
use Rattle.cs_units.specs.Kinds.{maker_names, member_kinds}
use Rattle.cs_units.specs.Modifiers.{unmarked, only_static, start}
use Rattle.cs_units.specs.Members.{are_none, one_param, some_params, params, body, field, method, implementing_first, explicit_of, implementing, accessor, some_accessor, no_accessor, with_setter, behind_getter, with_getter, first_accessor, accessors, property, behind_name, global_behind, name_behind, behind_type, void_global, void_name, void_method, constant, operator, constructor, initializer, behind_params, constructing, indexing, keyword_member, path_member, global_member, indexer_member, named_member, any_member}
use Rattle.cs_units.proofs.Modifiers.{grows_modifiers}
use Rattle.cs_units.proofs.Rounding.{grows_choose, grows_rounds}
use Rattle.cs_units.proofs.ExactMembers.{getter_sample, setter_sample, indexer_sample, grows_empty_params, grows_no_body, grows_no_value, grows_one_more_part, grows_without_setter, grows_maker}

-- what stands in members, and the same with more levels
pub record Spreads (inner wide : Inner) : Type 0 where
  pub levels : ℕ
  pub more : ℕ
  pub widens : Widens levels more inner wide
  pub some : 0 < levels
  pub may : 0 < inner.blocks

grows_block : {inner wide : Inner} → Spreads inner wide → Grows inner.block wide.block (brace ∷ []) [] false
grows_block z = grows (z.widens.block z.may) z.widens.exact.block

pub grows_some_params : (limit more : ℕ) → limit < more → Grows (some_params limit) (some_params more) param_kinds [] false
grows_some_params limit more l = to refl refl (grows_then (grows (deeper_param limit more l) (exact_param more)) refl (λ p. (grows_then (grows (deeper_more_params limit more (one_param p) l) (exact_more_params more (one_param p))) refl (λ ps. (grows_then (grows_sign unparen refl) refl (λ _. (grows_gives _)))))))

pub grows_params : (limit more : ℕ) → limit < more → Grows (params limit) (params more) (paren ∷ []) [] false
grows_params limit more l = to refl refl (grows_then (grows_sign paren refl) refl (λ _. (grows_or (unparen ∷ []) refl refl grows_empty_params (grows_some_params limit more l))))

pub grows_body : {inner wide : Inner} → Spreads inner wide → Grows (body inner) (body wide) (semicolon ∷ brace ∷ []) [] false
grows_body {inner = inner} {wide = wide} z = to refl refl (grows_or (semicolon ∷ []) refl refl grows_no_body (grows_then (grows_block z) refl (λ b. (grows_gives _))))

pub grows_field : {inner wide : Inner} (m : Marked) (t : TypeForm) (x : Name) → Spreads inner wide → Grows (field inner m t x) (field wide m t x) (equals ∷ semicolon ∷ []) [] false
grows_field {inner = inner} {wide = wide} m t x z = to refl refl (grows_then (grows_or (equals ∷ []) refl refl (grows_then (grows_sign equals refl) refl (λ _. (grows_then (grows_forms z.widens z.some Whole) refl (λ a. (grows_then (grows_sign semicolon refl) refl (λ _. (grows_gives _))))))) grows_no_value) refl (λ v. (grows_gives _)))

pub grows_method : {inner wide : Inner} (s : Spot) (m : Marked) (result : Option TypeForm) (explicit : Option Explicit) (x : Name) → Spreads inner wide → Grows (method inner s m result explicit x) (method wide s m result explicit x) (paren ∷ []) [] false
grows_method {inner = inner} {wide = wide} s m result explicit x z = to refl refl (grows_then (grows_params inner.ranks wide.ranks z.widens.ranks) refl (λ ps. (grows_then (grows_body z) refl (λ b. (grows_gives _)))))

pub grows_implementing : {inner wide : Inner} (s : Spot) (m : Marked) (result : Option TypeForm) (at : Spot) → Spreads inner wide → Grows (implementing inner s m result at) (implementing wide s m result at) (colons ∷ []) [] false
grows_implementing {inner = inner} {wide = wide} s m result at z = to refl refl (grows_then (grows_sign colons refl) refl (λ _. (grows_then (grows deeper_name_text exact_name_text) refl (λ first. (grows_then (grows_sign dot refl) refl (λ _. (grows_then grows_any_name refl (λ y. (grows_then (grows_rounds (dot ∷ []) (implementing_first first y) refl refl (λ before. grows_one_more_part before)) refl (λ named. (grows_method s m result (explicit_of at named) named.name z)))))))))))

pub grows_get : {inner wide : Inner} (m : Marked) → Spreads inner wide → Grows (accessor inner getter m) (accessor wide getter m) (getter ∷ []) [] false
grows_get {inner = inner} {wide = wide} m z = to refl refl (grows_then (grows_one (getter ∷ []) spot_of getter_sample refl) refl (λ s. (grows_then (grows_body z) refl (λ b. (grows_gives _)))))

pub grows_set : {inner wide : Inner} (m : Marked) → Spreads inner wide → Grows (accessor inner setter m) (accessor wide setter m) (setter ∷ []) [] false
grows_set {inner = inner} {wide = wide} m z = to refl refl (grows_then (grows_one (setter ∷ []) spot_of setter_sample refl) refl (λ s. (grows_then (grows_body z) refl (λ b. (grows_gives _)))))

pub grows_with_setter : {inner wide : Inner} (g : Option Accessor) (m : Marked) → Spreads inner wide → Grows (with_setter inner g m) (with_setter wide g m) (setter ∷ []) [] false
grows_with_setter {inner = inner} {wide = wide} g m z = to refl refl (grows_then (grows_set m z) refl (λ a. (grows_then (grows_sign unbrace refl) refl (λ _. (grows_gives _)))))

pub grows_behind_getter : {inner wide : Inner} (g : Option Accessor) (m : Marked) → Spreads inner wide → Grows (behind_getter inner g m) (behind_getter wide g m) (unbrace ∷ setter ∷ []) [] false
grows_behind_getter {inner = inner} {wide = wide} g m z = to refl refl (grows_choose (unbrace ∷ []) (unmarked m) refl refl (grows_without_setter g) (grows_with_setter g m z))

pub grows_with_getter : {inner wide : Inner} (m : Marked) → Spreads inner wide → Grows (with_getter inner m) (with_getter wide m) (getter ∷ []) [] false
grows_with_getter {inner = inner} {wide = wide} m z = to refl refl (grows_then (grows_get m z) refl (λ a. (grows_then grows_modifiers refl (λ more. (grows_behind_getter (some_accessor a) more z)))))

pub grows_first_accessor : {inner wide : Inner} (m : Marked) → Spreads inner wide → Grows (first_accessor inner m) (first_accessor wide m) (getter ∷ unbrace ∷ setter ∷ []) [] false
grows_first_accessor {inner = inner} {wide = wide} m z = to refl refl (grows_or (getter ∷ []) refl refl (grows_with_getter m z) (grows_behind_getter no_accessor m z))

pub grows_accessors : {inner wide : Inner} → Spreads inner wide → Grows (accessors inner) (accessors wide) (brace ∷ []) [] false
grows_accessors {inner = inner} {wide = wide} z = to refl refl (grows_then (grows_sign brace refl) refl (λ _. (grows_then grows_modifiers refl (λ m. (grows_first_accessor m z)))))

pub grows_property : {inner wide : Inner} (m : Marked) (t : TypeForm) (x : Name) → Spreads inner wide → Grows (property inner m t x) (property wide m t x) (brace ∷ []) [] false
grows_property {inner = inner} {wide = wide} m t x z = to refl refl (grows_then (grows_accessors z) refl (λ a. (grows_gives _)))

pub grows_behind_name : {inner wide : Inner} (m : Marked) (t : TypeForm) (x : Name) → Spreads inner wide → Grows (behind_name inner m t x) (behind_name wide m t x) (equals ∷ semicolon ∷ paren ∷ brace ∷ []) [] false
grows_behind_name {inner = inner} {wide = wide} m t x z = to refl refl (grows_or (equals ∷ semicolon ∷ []) refl refl (grows_field m t x z) (grows_or (paren ∷ []) refl refl (grows_method (start m t.spot) m (Some t) None x z) (grows_property m t x z)))

pub grows_global_behind : {inner wide : Inner} (m : Marked) (t : TypeForm) → Spreads inner wide → Grows (global_behind inner m t) (global_behind wide m t) (global ∷ []) [] false
grows_global_behind {inner = inner} {wide = wide} m t z = to refl refl (grows_then (grows_one (global ∷ []) name_of global_sample refl) refl (λ y. (grows_or (colons ∷ []) refl refl (grows_implementing (start m t.spot) m (Some t) y.spot z) (grows_behind_name m t y z))))

pub grows_name_behind : {inner wide : Inner} (m : Marked) (t : TypeForm) → Spreads inner wide → Grows (name_behind inner m t) (name_behind wide m t) name_kinds [] false
grows_name_behind {inner = inner} {wide = wide} m t z = to refl refl (grows_then (grows_one name_kinds name_of (sample (lexeme.Name [])) refl) refl (λ y. (grows_behind_name m t y z)))

pub grows_behind_type : {inner wide : Inner} (m : Marked) (t : TypeForm) → Spreads inner wide → Grows (behind_type inner m t) (behind_type wide m t) names [] false
grows_behind_type {inner = inner} {wide = wide} m t z = to refl refl (grows_or (global ∷ []) refl refl (grows_global_behind m t z) (grows_name_behind m t z))

pub grows_void_global : {inner wide : Inner} (m : Marked) (s : Spot) → Spreads inner wide → Grows (void_global inner m s) (void_global wide m s) (global ∷ []) [] false
grows_void_global {inner = inner} {wide = wide} m s z = to refl refl (grows_then (grows_one (global ∷ []) name_of global_sample refl) refl (λ y. (grows_or (colons ∷ []) refl refl (grows_implementing (start m s) m None y.spot z) (grows_method (start m s) m None None y z))))

pub grows_void_name : {inner wide : Inner} (m : Marked) (s : Spot) → Spreads inner wide → Grows (void_name inner m s) (void_name wide m s) name_kinds [] false
grows_void_name {inner = inner} {wide = wide} m s z = to refl refl (grows_then (grows_one name_kinds name_of (sample (lexeme.Name [])) refl) refl (λ y. (grows_method (start m s) m None None y z)))

pub grows_void_method : {inner wide : Inner} (m : Marked) → Spreads inner wide → Grows (void_method inner m) (void_method wide m) (kw_void ∷ []) [] false
grows_void_method {inner = inner} {wide = wide} m z = to refl refl (grows_then (grows_place kw_void refl) refl (λ s. (grows_or (global ∷ []) refl refl (grows_void_global m s z) (grows_void_name m s z))))

pub grows_constant : {inner wide : Inner} (m : Marked) → Spreads inner wide → Grows (constant inner m) (constant wide m) (kw_const ∷ []) [] false
grows_constant {inner = inner} {wide = wide} m z = to refl refl (grows_then (grows_place kw_const refl) refl (λ s. (grows_then (grows (deeper_ty inner.ranks wide.ranks z.widens.ranks) (exact_ty wide.ranks)) refl (λ t. (grows_then grows_any_name refl (λ y. (grows_then (grows_sign equals refl) refl (λ _. (grows_then (grows_forms z.widens z.some Whole) refl (λ a. (grows_then (grows_sign semicolon refl) refl (λ _. (grows_gives _)))))))))))))

pub grows_operator : {inner wide : Inner} → Spreads inner wide → Grows (operator inner) (operator wide) (kw_operator ∷ []) [] false
grows_operator {inner = inner} {wide = wide} z = to refl refl (grows_then (grows_place kw_operator refl) refl (λ s. (grows_then (grows (deeper_ty inner.ranks wide.ranks z.widens.ranks) (exact_ty wide.ranks)) refl (λ t. (grows_then grows_any_name refl (λ y. (grows_then (grows_params inner.ranks wide.ranks z.widens.ranks) refl (λ ps. (grows_then (grows_sign semicolon refl) refl (λ _. (grows_gives _)))))))))))

pub grows_constructor : {inner wide : Inner} (m : Marked) (x : Name) (ps : List Param) → Spreads inner wide → Grows (constructor inner m x ps) (constructor wide m x ps) (colon ∷ []) [] false
grows_constructor {inner = inner} {wide = wide} m x ps z = to refl refl (grows_then (grows_sign colon refl) refl (λ _. (grows_then (grows_or (kw_base ∷ []) refl refl (grows_then (grows_sign kw_base refl) refl (λ _. (grows_then (grows_arguments z.widens z.some) refl (λ a. (grows_gives _))))) (grows_then (grows_sign kw_this refl) refl (λ _. (grows_then (grows_arguments z.widens z.some) refl (λ a. (grows_gives _)))))) refl (λ first. (grows_then (grows_block z) refl (λ b. (grows_gives _)))))))

pub grows_initializer : {inner wide : Inner} (m : Marked) (x : Name) → Spreads inner wide → Grows (initializer inner m x) (initializer wide m x) (brace ∷ []) [] false
grows_initializer {inner = inner} {wide = wide} m x z = to refl refl (grows_then (grows_block z) refl (λ b. (grows_gives _)))

pub grows_behind_params : {inner wide : Inner} (m : Marked) (x : Name) (ps : List Param) → Spreads inner wide → Grows (behind_params inner m x ps) (behind_params wide m x ps) (colon ∷ brace ∷ semicolon ∷ []) [] false
grows_behind_params {inner = inner} {wide = wide} m x ps z = to refl refl (grows_or (colon ∷ []) refl refl (grows_constructor m x ps z) (grows_choose (brace ∷ []) (only_static m.mods && are_none ps) refl refl (grows_initializer m x z) (grows_maker m x ps)))

pub grows_constructing : {inner wide : Inner} (m : Marked) (x : Name) → Spreads inner wide → Grows (constructing inner m x) (constructing wide m x) (paren ∷ []) [] false
grows_constructing {inner = inner} {wide = wide} m x z = to refl refl (grows_then (grows_params inner.ranks wide.ranks z.widens.ranks) refl (λ ps. (grows_behind_params m x ps z)))

pub grows_indexing : {inner wide : Inner} (m : Marked) (s : Spot) → Spreads inner wide → Grows (indexing inner m s) (indexing wide m s) type_kinds [] false
grows_indexing {inner = inner} {wide = wide} m s z = to refl refl (grows_then (grows (deeper_ty inner.ranks wide.ranks z.widens.ranks) (exact_ty wide.ranks)) refl (λ t. (grows_then grows_any_name refl (λ y. (grows_then (grows_sign bracket refl) refl (λ _. (grows_then (grows (deeper_ty inner.ranks wide.ranks z.widens.ranks) (exact_ty wide.ranks)) refl (λ u. (grows_then grows_any_name refl (λ i. (grows_then (grows_sign unbracket refl) refl (λ _. (grows_then (grows_accessors z) refl (λ a. (grows_gives _)))))))))))))))

pub grows_keyword_member : {inner wide : Inner} (m : Marked) → Spreads inner wide → Grows (keyword_member inner m) (keyword_member wide m) keyword_types [] false
grows_keyword_member {inner = inner} {wide = wide} m z = to refl refl (grows_then (grows (deeper_type_of_keyword inner.ranks wide.ranks z.widens.ranks) (exact_type_of_keyword wide.ranks)) refl (λ t. (grows_behind_type m t z)))

pub grows_path_member : {inner wide : Inner} (m : Marked) (s : Spot) → Spreads inner wide → Grows (path_member inner m s) (path_member wide m s) (colons ∷ []) [] false
grows_path_member {inner = inner} {wide = wide} m s z = to refl refl (grows_then (grows_sign colons refl) refl (λ _. (grows_then grows_path refl (λ path_names. (grows_then (grows (deeper_ranks inner.ranks wide.ranks (global_type s path_names) z.widens.ranks (omega arith)) (exact_ranks wide.ranks (global_type s path_names))) refl (λ t. (grows_behind_type m t z)))))))

pub grows_global_member : {inner wide : Inner} (m : Marked) → Spreads inner wide → Grows (global_member inner m) (global_member wide m) (global ∷ []) [] false
grows_global_member {inner = inner} {wide = wide} m z = to refl refl (grows_then (grows_one (global ∷ []) name_of global_sample refl) refl (λ y. (grows_or (colons ∷ []) refl refl (grows_path_member m y.spot z) (grows_constructing m y z))))

pub grows_indexer_member : {inner wide : Inner} (m : Marked) → Spreads inner wide → Grows (indexer_member inner m) (indexer_member wide m) (indexer ∷ []) [] false
grows_indexer_member {inner = inner} {wide = wide} m z = to refl refl (grows_then (grows_one (indexer ∷ []) name_of indexer_sample refl) refl (λ y. (grows_or (paren ∷ []) refl refl (grows_constructing m y z) (grows_indexing m y.spot z))))

pub grows_named_member : {inner wide : Inner} (m : Marked) → Spreads inner wide → Grows (named_member inner m) (named_member wide m) maker_names [] false
grows_named_member {inner = inner} {wide = wide} m z = to refl refl (grows_then (grows_one maker_names name_of (sample (lexeme.Name [])) refl) refl (λ y. (grows_constructing m y z)))

pub grows_any_member : {inner wide : Inner} (m : Marked) → Spreads inner wide → Grows (any_member inner m) (any_member wide m) member_kinds [] false
grows_any_member {inner = inner} {wide = wide} m z = to refl refl (grows_or keyword_types refl refl (grows_keyword_member m z) (grows_or (global ∷ []) refl refl (grows_global_member m z) (grows_or (indexer ∷ []) refl refl (grows_indexer_member m z) (grows_or maker_names refl refl (grows_named_member m z) (grows_or (kw_void ∷ []) refl refl (grows_void_method m z) (grows_choose (kw_operator ∷ []) (unmarked m) refl refl (grows_operator z) (grows_constant m z)))))))
