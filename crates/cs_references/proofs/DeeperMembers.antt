-- Members of reference texts with more pairs of brackets.
use Rattle.std.proofs.Common.{ℕ, ◌<◌, true, false, List, [], ◌∷◌, Option, Some, None, refl, arith}
use Rattle.cs_token.specs.declared.lexeme.Lexeme.TheVariants as lexeme
use Rattle.cs_tree.specs.declared.types.Spot.{Spot}
use Rattle.cs_tree.specs.declared.types.Name.{Name}
use Rattle.cs_tree.specs.declared.types.TypeForm.{TypeForm}
use Rattle.cs_tree.specs.declared.members.Explicit.{Explicit}
use Rattle.cs_units.specs.declared.values.Marked.{Marked}
use Rattle.cs_productions.specs.Kinds.{names, global, indexer, paren, unparen, bracket, unbracket, semicolon, colons, dot, equals, brace, minus, keyword_types, kw_const, kw_void, kw_operator}
use Rattle.cs_productions.specs.Tokens.{name_of}
use Rattle.cs_productions.specs.Types.{global_type}
use Rattle.cs_productions.proofs.Follow.{type_kinds}
use Rattle.cs_productions.proofs.ExactTokens.{sample, global_sample, exact_name_text}
use Rattle.cs_productions.proofs.ExactTypes.{exact_ranks, exact_type_of_keyword, exact_ty}
use Rattle.cs_productions.proofs.Growing.{Grows, grows, to, grows_gives, grows_one, grows_sign, grows_place, grows_any_name, grows_then, grows_or}
use Rattle.cs_productions.proofs.DeeperTypes.{deeper_name_text, deeper_ranks, deeper_type_of_keyword, deeper_ty}
use Rattle.cs_productions.proofs.DeeperPrimaries.{grows_path}
use Rattle.cs_statements.specs.Kinds.{name_kinds, literal_kinds}
use Rattle.cs_units.specs.Kinds.{maker_names, member_kinds}
use Rattle.cs_units.specs.Modifiers.{unmarked, start}
use Rattle.cs_units.specs.Members.{implementing_first, explicit_of}
use Rattle.cs_units.proofs.Rounding.{grows_choose, grows_rounds}
use Rattle.cs_units.proofs.ExactMembers.{indexer_sample, grows_one_more_part, grows_maker}
use Rattle.cs_units.proofs.DeeperMembers.{grows_params}
use Rattle.cs_references.specs.Members.{cast, value, constant, method, implementing, behind_name, global_behind, name_behind, behind_type, void_global, void_name, void_method, operator, constructing, indexing, keyword_member, path_member, global_member, indexer_member, named_member, any_member}
use Rattle.cs_references.proofs.ExactMembers.{value_kinds, grows_literal, grows_negative, grows_enclosed, grows_field, grows_accessors, grows_property}

pub grows_cast : (limit more : ℕ) → limit < more → Grows (cast limit) (cast more) (paren ∷ []) [] false
grows_cast limit more l = to refl refl (grows_then (grows_place paren refl) refl (λ s. (grows_then (grows (deeper_ty limit more l) (exact_ty more)) refl (λ t. (grows_then (grows_sign unparen refl) refl (λ _. (grows_then (grows_or literal_kinds refl refl grows_literal grows_enclosed) refl (λ a. (grows_gives _)))))))))

pub grows_value : (limit more : ℕ) → limit < more → Grows (value limit) (value more) value_kinds [] false
grows_value limit more l = to refl refl (grows_or literal_kinds refl refl grows_literal (grows_or (minus ∷ []) refl refl grows_negative (grows_cast limit more l)))

pub grows_constant : (limit more : ℕ) (m : Marked) → limit < more → Grows (constant limit m) (constant more m) (kw_const ∷ []) [] false
grows_constant limit more m l = to refl refl (grows_then (grows_place kw_const refl) refl (λ s. (grows_then (grows (deeper_ty limit more l) (exact_ty more)) refl (λ t. (grows_then grows_any_name refl (λ y. (grows_then (grows_sign equals refl) refl (λ _. (grows_then (grows_value limit more l) refl (λ a. (grows_then (grows_sign semicolon refl) refl (λ _. (grows_gives _)))))))))))))

pub grows_method : (limit more : ℕ) (s : Spot) (m : Marked) (result : Option TypeForm) (explicit : Option Explicit) (x : Name) → limit < more → Grows (method limit s m result explicit x) (method more s m result explicit x) (paren ∷ []) [] false
grows_method limit more s m result explicit x l = to refl refl (grows_then (grows_params limit more l) refl (λ ps. (grows_then (grows_sign semicolon refl) refl (λ _. (grows_gives _)))))

pub grows_implementing : (limit more : ℕ) (s : Spot) (m : Marked) (result : Option TypeForm) (at : Spot) → limit < more → Grows (implementing limit s m result at) (implementing more s m result at) (colons ∷ []) [] false
grows_implementing limit more s m result at l = to refl refl (grows_then (grows_sign colons refl) refl (λ _. (grows_then (grows deeper_name_text exact_name_text) refl (λ first. (grows_then (grows_sign dot refl) refl (λ _. (grows_then grows_any_name refl (λ y. (grows_then (grows_rounds (dot ∷ []) (implementing_first first y) refl refl (λ before. (grows_one_more_part before))) refl (λ named. (grows_method limit more s m result (explicit_of at named) named.name l)))))))))))

pub grows_behind_name : (limit more : ℕ) (m : Marked) (t : TypeForm) (x : Name) → limit < more → Grows (behind_name limit m t x) (behind_name more m t x) (semicolon ∷ paren ∷ brace ∷ []) [] false
grows_behind_name limit more m t x l = to refl refl (grows_or (semicolon ∷ []) refl refl (grows_field m t x) (grows_or (paren ∷ []) refl refl (grows_method limit more (start m t.spot) m (Some t) None x l) (grows_property m t x)))

pub grows_global_behind : (limit more : ℕ) (m : Marked) (t : TypeForm) → limit < more → Grows (global_behind limit m t) (global_behind more m t) (global ∷ []) [] false
grows_global_behind limit more m t l = to refl refl (grows_then (grows_one (global ∷ []) name_of global_sample refl) refl (λ y. (grows_or (colons ∷ []) refl refl (grows_implementing limit more (start m t.spot) m (Some t) y.spot l) (grows_behind_name limit more m t y l))))

pub grows_name_behind : (limit more : ℕ) (m : Marked) (t : TypeForm) → limit < more → Grows (name_behind limit m t) (name_behind more m t) name_kinds [] false
grows_name_behind limit more m t l = to refl refl (grows_then (grows_one name_kinds name_of (sample (lexeme.Name [])) refl) refl (λ y. (grows_behind_name limit more m t y l)))

pub grows_behind_type : (limit more : ℕ) (m : Marked) (t : TypeForm) → limit < more → Grows (behind_type limit m t) (behind_type more m t) names [] false
grows_behind_type limit more m t l = to refl refl (grows_or (global ∷ []) refl refl (grows_global_behind limit more m t l) (grows_name_behind limit more m t l))

pub grows_void_global : (limit more : ℕ) (m : Marked) (s : Spot) → limit < more → Grows (void_global limit m s) (void_global more m s) (global ∷ []) [] false
grows_void_global limit more m s l = to refl refl (grows_then (grows_one (global ∷ []) name_of global_sample refl) refl (λ y. (grows_or (colons ∷ []) refl refl (grows_implementing limit more (start m s) m None y.spot l) (grows_method limit more (start m s) m None None y l))))

pub grows_void_name : (limit more : ℕ) (m : Marked) (s : Spot) → limit < more → Grows (void_name limit m s) (void_name more m s) name_kinds [] false
grows_void_name limit more m s l = to refl refl (grows_then (grows_one name_kinds name_of (sample (lexeme.Name [])) refl) refl (λ y. (grows_method limit more (start m s) m None None y l)))

pub grows_void_method : (limit more : ℕ) (m : Marked) → limit < more → Grows (void_method limit m) (void_method more m) (kw_void ∷ []) [] false
grows_void_method limit more m l = to refl refl (grows_then (grows_place kw_void refl) refl (λ s. (grows_or (global ∷ []) refl refl (grows_void_global limit more m s l) (grows_void_name limit more m s l))))

pub grows_operator : (limit more : ℕ) → limit < more → Grows (operator limit) (operator more) (kw_operator ∷ []) [] false
grows_operator limit more l = to refl refl (grows_then (grows_place kw_operator refl) refl (λ s. (grows_then (grows (deeper_ty limit more l) (exact_ty more)) refl (λ t. (grows_then grows_any_name refl (λ y. (grows_then (grows_params limit more l) refl (λ ps. (grows_then (grows_sign semicolon refl) refl (λ _. (grows_gives _)))))))))))

pub grows_constructing : (limit more : ℕ) (m : Marked) (x : Name) → limit < more → Grows (constructing limit m x) (constructing more m x) (paren ∷ []) [] false
grows_constructing limit more m x l = to refl refl (grows_then (grows_params limit more l) refl (λ ps. (grows_maker m x ps)))

pub grows_indexing : (limit more : ℕ) (m : Marked) (s : Spot) → limit < more → Grows (indexing limit m s) (indexing more m s) type_kinds [] false
grows_indexing limit more m s l = to refl refl (grows_then (grows (deeper_ty limit more l) (exact_ty more)) refl (λ t. (grows_then grows_any_name refl (λ y. (grows_then (grows_sign bracket refl) refl (λ _. (grows_then (grows (deeper_ty limit more l) (exact_ty more)) refl (λ u. (grows_then grows_any_name refl (λ i. (grows_then (grows_sign unbracket refl) refl (λ _. (grows_then grows_accessors refl (λ a. (grows_gives _)))))))))))))))

pub grows_keyword_member : (limit more : ℕ) (m : Marked) → limit < more → Grows (keyword_member limit m) (keyword_member more m) keyword_types [] false
grows_keyword_member limit more m l = to refl refl (grows_then (grows (deeper_type_of_keyword limit more l) (exact_type_of_keyword more)) refl (λ t. (grows_behind_type limit more m t l)))

pub grows_path_member : (limit more : ℕ) (m : Marked) (s : Spot) → limit < more → Grows (path_member limit m s) (path_member more m s) (colons ∷ []) [] false
grows_path_member limit more m s l = to refl refl (grows_then (grows_sign colons refl) refl (λ _. (grows_then grows_path refl (λ path_names. (grows_then (grows (deeper_ranks limit more (global_type s path_names) l (omega arith)) (exact_ranks more (global_type s path_names))) refl (λ t. (grows_behind_type limit more m t l)))))))

pub grows_global_member : (limit more : ℕ) (m : Marked) → limit < more → Grows (global_member limit m) (global_member more m) (global ∷ []) [] false
grows_global_member limit more m l = to refl refl (grows_then (grows_one (global ∷ []) name_of global_sample refl) refl (λ y. (grows_or (colons ∷ []) refl refl (grows_path_member limit more m y.spot l) (grows_constructing limit more m y l))))

pub grows_indexer_member : (limit more : ℕ) (m : Marked) → limit < more → Grows (indexer_member limit m) (indexer_member more m) (indexer ∷ []) [] false
grows_indexer_member limit more m l = to refl refl (grows_then (grows_one (indexer ∷ []) name_of indexer_sample refl) refl (λ y. (grows_or (paren ∷ []) refl refl (grows_constructing limit more m y l) (grows_indexing limit more m y.spot l))))

pub grows_named_member : (limit more : ℕ) (m : Marked) → limit < more → Grows (named_member limit m) (named_member more m) maker_names [] false
grows_named_member limit more m l = to refl refl (grows_then (grows_one maker_names name_of (sample (lexeme.Name [])) refl) refl (λ y. (grows_constructing limit more m y l)))

pub grows_any_member : (limit more : ℕ) (m : Marked) → limit < more → Grows (any_member limit m) (any_member more m) member_kinds [] false
grows_any_member limit more m l = to refl refl (grows_or keyword_types refl refl (grows_keyword_member limit more m l) (grows_or (global ∷ []) refl refl (grows_global_member limit more m l) (grows_or (indexer ∷ []) refl refl (grows_indexer_member limit more m l) (grows_or maker_names refl refl (grows_named_member limit more m l) (grows_or (kw_void ∷ []) refl refl (grows_void_method limit more m l) (grows_choose (kw_operator ∷ []) (unmarked m) refl refl (grows_operator limit more l) (grows_constant limit more m l)))))))
