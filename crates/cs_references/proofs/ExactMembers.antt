-- Members of reference texts are exact.
use Rattle.std.proofs.Common.{ℕ, true, false, List, [], ◌∷◌, ◌++◌, Option, Some, None, refl}
use Rattle.cs_token.specs.declared.lexeme.Lexeme.TheVariants as lexeme
use Rattle.cs_token.specs.declared.lexeme.Suffix.TheVariants as suffix
use Rattle.cs_tree.specs.declared.types.Spot.{Spot}
use Rattle.cs_tree.specs.declared.types.Name.{Name}
use Rattle.cs_tree.specs.declared.types.TypeForm.{TypeForm}
use Rattle.cs_tree.specs.declared.members.Explicit.{Explicit}
use Rattle.cs_tree.specs.declared.members.Accessor.{Accessor}
use Rattle.cs_units.specs.declared.values.Marked.{Marked}
use Rattle.cs_grammar.specs.Exact.{Exact}
use Rattle.cs_grammar.proofs.Basics.{exact_gives, exact_one, wider}
use Rattle.cs_grammar.proofs.Bind.{then}
use Rattle.cs_grammar.proofs.Either.{or}
use Rattle.cs_grammar.proofs.Limited.{choose}
use Rattle.cs_grammar.proofs.Turns.{repeat}
use Rattle.cs_productions.specs.Kinds.{names, global, getter, setter, indexer, number, brace, unbrace, paren, unparen, bracket, unbracket, semicolon, colons, dot, equals, minus, keyword_types, kw_const, kw_void, kw_operator}
use Rattle.cs_productions.specs.Tokens.{kind, spot_of, name_of}
use Rattle.cs_productions.specs.Types.{global_type}
use Rattle.cs_productions.proofs.Follow.{type_kinds}
use Rattle.cs_productions.proofs.ExactTokens.{sample, global_sample, exact_sign, exact_place, exact_name_text, exact_any_name}
use Rattle.cs_productions.proofs.ExactTypes.{exact_path, exact_ranks, exact_type_of_keyword, exact_ty}
use Rattle.cs_productions.proofs.Growing.{Grows, to, grows_gives, grows_one, grows_sign, grows_place, grows_then, grows_or}
use Rattle.cs_statements.specs.Kinds.{name_kinds, literal_kinds}
use Rattle.cs_units.specs.Kinds.{maker_names, member_kinds}
use Rattle.cs_units.specs.Modifiers.{unmarked, start}
use Rattle.cs_units.specs.Members.{implementing_first, one_more_part, explicit_of, some_accessor, no_accessor, without_setter}
use Rattle.cs_units.proofs.Modifiers.{grows_modifiers}
use Rattle.cs_units.proofs.Rounding.{grows_choose}
use Rattle.cs_units.proofs.ExactMembers.{getter_sample, setter_sample, indexer_sample, exact_params, grows_no_value, grows_one_more_part, grows_without_setter, grows_maker}
use Rattle.cs_references.specs.Members.{literal_form, literal, any_number, negative, enclosed, cast, value, constant, field, method, implementing, accessor, with_setter, behind_getter, with_getter, first_accessor, accessors, property, behind_name, global_behind, name_behind, behind_type, void_global, void_name, void_method, operator, constructing, indexing, keyword_member, path_member, global_member, indexer_member, named_member, any_member}

-- what a constant's value begins with
abbrev pub value_kinds : List ℕ
value_kinds = literal_kinds ++ minus ∷ paren ∷ []

pub grows_literal : Grows literal literal literal_kinds [] false
grows_literal = to refl refl (grows_one literal_kinds literal_form (sample (lexeme.Number 0 suffix.Plain)) refl)

pub grows_any_number : Grows any_number any_number (number ∷ []) [] false
grows_any_number = to refl refl (grows_one (number ∷ []) literal_form (sample (lexeme.Number 0 suffix.Plain)) refl)

pub grows_negative : Grows negative negative (minus ∷ []) [] false
grows_negative = to refl refl (grows_then (grows_place minus refl) refl (λ s. (grows_then grows_any_number refl (λ a. (grows_gives _)))))

pub grows_enclosed : Grows enclosed enclosed (paren ∷ []) [] false
grows_enclosed = to refl refl (grows_then (grows_place paren refl) refl (λ s. (grows_then (grows_sign minus refl) refl (λ _. (grows_then grows_any_number refl (λ a. (grows_then (grows_sign unparen refl) refl (λ _. (grows_gives _)))))))))

pub exact_cast : (limit : ℕ) → Exact kind (cast limit) (paren ∷ []) [] false
exact_cast limit = wider refl refl (then (exact_place paren refl) refl (λ s. (then (exact_ty limit) refl (λ t. (then (exact_sign unparen refl) refl (λ _. (then (or literal_kinds refl refl grows_literal.exact grows_enclosed.exact) refl (λ a. (exact_gives _)))))))))

pub exact_value : (limit : ℕ) → Exact kind (value limit) value_kinds [] false
exact_value limit = wider refl refl (or literal_kinds refl refl grows_literal.exact (or (minus ∷ []) refl refl grows_negative.exact (exact_cast limit)))

pub exact_constant : (limit : ℕ) (m : Marked) → Exact kind (constant limit m) (kw_const ∷ []) [] false
exact_constant limit m = wider refl refl (then (exact_place kw_const refl) refl (λ s. (then (exact_ty limit) refl (λ t. (then exact_any_name refl (λ y. (then (exact_sign equals refl) refl (λ _. (then (exact_value limit) refl (λ a. (then (exact_sign semicolon refl) refl (λ _. (exact_gives _)))))))))))))

pub grows_field : (m : Marked) (t : TypeForm) (x : Name) → Grows (field m t x) (field m t x) (semicolon ∷ []) [] false
grows_field m t x = to refl refl (grows_then grows_no_value refl (λ v. (grows_gives _)))

pub exact_method : (limit : ℕ) (s : Spot) (m : Marked) (result : Option TypeForm) (explicit : Option Explicit) (x : Name) → Exact kind (method limit s m result explicit x) (paren ∷ []) [] false
exact_method limit s m result explicit x = wider refl refl (then (exact_params limit) refl (λ ps. (then (exact_sign semicolon refl) refl (λ _. (exact_gives _)))))

pub exact_implementing : (limit : ℕ) (s : Spot) (m : Marked) (result : Option TypeForm) (at : Spot) → Exact kind (implementing limit s m result at) (colons ∷ []) [] false
exact_implementing limit s m result at = wider refl refl (then (exact_sign colons refl) refl (λ _. (then exact_name_text refl (λ first. (then (exact_sign dot refl) refl (λ _. (then exact_any_name refl (λ y. (then (repeat (dot ∷ []) (λ _. true) (implementing_first first y) refl refl (λ before. ((grows_one_more_part before).exact))) refl (λ named. (exact_method limit s m result (explicit_of at named) named.name)))))))))))

pub grows_get : (m : Marked) → Grows (accessor getter m) (accessor getter m) (getter ∷ []) [] false
grows_get m = to refl refl (grows_then (grows_one (getter ∷ []) spot_of getter_sample refl) refl (λ s. (grows_then (grows_sign semicolon refl) refl (λ _. (grows_gives _)))))

pub grows_set : (m : Marked) → Grows (accessor setter m) (accessor setter m) (setter ∷ []) [] false
grows_set m = to refl refl (grows_then (grows_one (setter ∷ []) spot_of setter_sample refl) refl (λ s. (grows_then (grows_sign semicolon refl) refl (λ _. (grows_gives _)))))

pub grows_with_setter : (g : Option Accessor) (m : Marked) → Grows (with_setter g m) (with_setter g m) (setter ∷ []) [] false
grows_with_setter g m = to refl refl (grows_then (grows_set m) refl (λ a. (grows_then (grows_sign unbrace refl) refl (λ _. (grows_gives _)))))

pub grows_behind_getter : (g : Option Accessor) (m : Marked) → Grows (behind_getter g m) (behind_getter g m) (unbrace ∷ setter ∷ []) [] false
grows_behind_getter g m = to refl refl (grows_choose (unbrace ∷ []) (unmarked m) refl refl (grows_without_setter g) (grows_with_setter g m))

pub grows_with_getter : (m : Marked) → Grows (with_getter m) (with_getter m) (getter ∷ []) [] false
grows_with_getter m = to refl refl (grows_then (grows_get m) refl (λ a. (grows_then grows_modifiers refl (λ more. (grows_behind_getter (some_accessor a) more)))))

pub grows_first_accessor : (m : Marked) → Grows (first_accessor m) (first_accessor m) (getter ∷ unbrace ∷ setter ∷ []) [] false
grows_first_accessor m = to refl refl (grows_or (getter ∷ []) refl refl (grows_with_getter m) (grows_behind_getter no_accessor m))

pub grows_accessors : Grows accessors accessors (brace ∷ []) [] false
grows_accessors = to refl refl (grows_then (grows_sign brace refl) refl (λ _. (grows_then grows_modifiers refl (λ m. (grows_first_accessor m)))))

pub grows_property : (m : Marked) (t : TypeForm) (x : Name) → Grows (property m t x) (property m t x) (brace ∷ []) [] false
grows_property m t x = to refl refl (grows_then grows_accessors refl (λ a. (grows_gives _)))

pub exact_behind_name : (limit : ℕ) (m : Marked) (t : TypeForm) (x : Name) → Exact kind (behind_name limit m t x) (semicolon ∷ paren ∷ brace ∷ []) [] false
exact_behind_name limit m t x = wider refl refl (or (semicolon ∷ []) refl refl ((grows_field m t x).exact) (or (paren ∷ []) refl refl (exact_method limit (start m t.spot) m (Some t) None x) ((grows_property m t x).exact)))

pub exact_global_behind : (limit : ℕ) (m : Marked) (t : TypeForm) → Exact kind (global_behind limit m t) (global ∷ []) [] false
exact_global_behind limit m t = wider refl refl (then (exact_one (global ∷ []) name_of global_sample refl) refl (λ y. (or (colons ∷ []) refl refl (exact_implementing limit (start m t.spot) m (Some t) y.spot) (exact_behind_name limit m t y))))

pub exact_name_behind : (limit : ℕ) (m : Marked) (t : TypeForm) → Exact kind (name_behind limit m t) name_kinds [] false
exact_name_behind limit m t = wider refl refl (then (exact_one name_kinds name_of (sample (lexeme.Name [])) refl) refl (λ y. (exact_behind_name limit m t y)))

pub exact_behind_type : (limit : ℕ) (m : Marked) (t : TypeForm) → Exact kind (behind_type limit m t) names [] false
exact_behind_type limit m t = wider refl refl (or (global ∷ []) refl refl (exact_global_behind limit m t) (exact_name_behind limit m t))

pub exact_void_global : (limit : ℕ) (m : Marked) (s : Spot) → Exact kind (void_global limit m s) (global ∷ []) [] false
exact_void_global limit m s = wider refl refl (then (exact_one (global ∷ []) name_of global_sample refl) refl (λ y. (or (colons ∷ []) refl refl (exact_implementing limit (start m s) m None y.spot) (exact_method limit (start m s) m None None y))))

pub exact_void_name : (limit : ℕ) (m : Marked) (s : Spot) → Exact kind (void_name limit m s) name_kinds [] false
exact_void_name limit m s = wider refl refl (then (exact_one name_kinds name_of (sample (lexeme.Name [])) refl) refl (λ y. (exact_method limit (start m s) m None None y)))

pub exact_void_method : (limit : ℕ) (m : Marked) → Exact kind (void_method limit m) (kw_void ∷ []) [] false
exact_void_method limit m = wider refl refl (then (exact_place kw_void refl) refl (λ s. (or (global ∷ []) refl refl (exact_void_global limit m s) (exact_void_name limit m s))))

pub exact_operator : (limit : ℕ) → Exact kind (operator limit) (kw_operator ∷ []) [] false
exact_operator limit = wider refl refl (then (exact_place kw_operator refl) refl (λ s. (then (exact_ty limit) refl (λ t. (then exact_any_name refl (λ y. (then (exact_params limit) refl (λ ps. (then (exact_sign semicolon refl) refl (λ _. (exact_gives _)))))))))))

pub exact_constructing : (limit : ℕ) (m : Marked) (x : Name) → Exact kind (constructing limit m x) (paren ∷ []) [] false
exact_constructing limit m x = wider refl refl (then (exact_params limit) refl (λ ps. ((grows_maker m x ps).exact)))

pub exact_indexing : (limit : ℕ) (m : Marked) (s : Spot) → Exact kind (indexing limit m s) type_kinds [] false
exact_indexing limit m s = wider refl refl (then (exact_ty limit) refl (λ t. (then exact_any_name refl (λ y. (then (exact_sign bracket refl) refl (λ _. (then (exact_ty limit) refl (λ u. (then exact_any_name refl (λ i. (then (exact_sign unbracket refl) refl (λ _. (then grows_accessors.exact refl (λ a. (exact_gives _)))))))))))))))

pub exact_keyword_member : (limit : ℕ) (m : Marked) → Exact kind (keyword_member limit m) keyword_types [] false
exact_keyword_member limit m = wider refl refl (then (exact_type_of_keyword limit) refl (λ t. (exact_behind_type limit m t)))

pub exact_path_member : (limit : ℕ) (m : Marked) (s : Spot) → Exact kind (path_member limit m s) (colons ∷ []) [] false
exact_path_member limit m s = wider refl refl (then (exact_sign colons refl) refl (λ _. (then exact_path refl (λ path_names. (then (exact_ranks limit (global_type s path_names)) refl (λ t. (exact_behind_type limit m t)))))))

pub exact_global_member : (limit : ℕ) (m : Marked) → Exact kind (global_member limit m) (global ∷ []) [] false
exact_global_member limit m = wider refl refl (then (exact_one (global ∷ []) name_of global_sample refl) refl (λ y. (or (colons ∷ []) refl refl (exact_path_member limit m y.spot) (exact_constructing limit m y))))

pub exact_indexer_member : (limit : ℕ) (m : Marked) → Exact kind (indexer_member limit m) (indexer ∷ []) [] false
exact_indexer_member limit m = wider refl refl (then (exact_one (indexer ∷ []) name_of indexer_sample refl) refl (λ y. (or (paren ∷ []) refl refl (exact_constructing limit m y) (exact_indexing limit m y.spot))))

pub exact_named_member : (limit : ℕ) (m : Marked) → Exact kind (named_member limit m) maker_names [] false
exact_named_member limit m = wider refl refl (then (exact_one maker_names name_of (sample (lexeme.Name [])) refl) refl (λ y. (exact_constructing limit m y)))

pub exact_any_member : (limit : ℕ) (m : Marked) → Exact kind (any_member limit m) member_kinds [] false
exact_any_member limit m = wider refl refl (or keyword_types refl refl (exact_keyword_member limit m) (or (global ∷ []) refl refl (exact_global_member limit m) (or (indexer ∷ []) refl refl (exact_indexer_member limit m) (or maker_names refl refl (exact_named_member limit m) (or (kw_void ∷ []) refl refl (exact_void_method limit m) (choose (kw_operator ∷ []) (unmarked m) refl refl (exact_operator limit) (exact_constant limit m)))))))
