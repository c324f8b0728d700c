-- Paths, types and parameters are exact.
use Rattle.std.proofs.Common.{ℕ, true, false, List, [], ◌∷◌, refl, nat_lt}
use Rattle.cs_tree.specs.declared.types.TypeForm.{TypeForm}
use Rattle.cs_tree.specs.declared.types.Param.{Param}
use Rattle.cs_grammar.specs.Exact.{Exact}
use Rattle.cs_grammar.proofs.Basics.{exact_gives, exact_one, wider}
use Rattle.cs_grammar.proofs.Bind.{then}
use Rattle.cs_grammar.proofs.Either.{or}
use Rattle.cs_grammar.proofs.Turns.{repeat}
use Rattle.cs_productions.specs.Kinds.{names, dot, colons, bracket, unbracket, comma, global, keyword_types, kw_ref, kw_out, kw_bool}
use Rattle.cs_productions.specs.Tokens.{kind, way_of, spot_of}
use Rattle.cs_productions.specs.Types.{one_more_name, path, keyword_type, keyword_type_at, type_by_path, named_type, one_more_rank, ranks, type_of_keyword, ty, given_way, way, param, passed_param, one_more_param, more_params}
use Rattle.cs_productions.proofs.Follow.{type_kinds, param_kinds}
use Rattle.cs_productions.proofs.ExactTokens.{sample_of, global_sample, exact_sign, exact_name_text, exact_any_name}

exact_one_more_name : (n : List (List ℕ)) → Exact kind (one_more_name n) (dot ∷ []) [] false
exact_one_more_name n = wider refl refl (then (exact_sign dot refl) refl (λ _. then exact_name_text refl (λ _. exact_gives _)))

pub exact_path : Exact kind path names (dot ∷ []) false
exact_path = wider refl refl (then exact_name_text refl (λ first. repeat (dot ∷ []) (λ _. true) (first ∷ []) refl refl exact_one_more_name))

pub exact_keyword_type : Exact kind keyword_type keyword_types [] false
exact_keyword_type = exact_one keyword_types keyword_type_at (sample_of kw_bool) refl

pub exact_type_by_path : Exact kind type_by_path (global ∷ []) (dot ∷ []) false
exact_type_by_path =
    wider refl refl
    (then (exact_one (global ∷ []) spot_of global_sample refl) refl (λ s. then (exact_sign colons refl) refl (λ _. then exact_path refl (λ _. exact_gives _))))

pub exact_named_type : Exact kind named_type type_kinds (dot ∷ []) false
exact_named_type = wider refl refl (or keyword_types refl refl exact_keyword_type exact_type_by_path)

exact_one_more_rank : (t : TypeForm) → Exact kind (one_more_rank t) (bracket ∷ []) [] false
exact_one_more_rank t = wider refl refl (then (exact_sign bracket refl) refl (λ _. then (exact_sign unbracket refl) refl (λ _. exact_gives _)))

pub exact_ranks : (limit : ℕ) (t : TypeForm) → Exact kind (ranks limit t) (bracket ∷ []) (bracket ∷ []) true
exact_ranks limit t = wider refl refl (repeat (bracket ∷ []) (λ (u : TypeForm). nat_lt u.ranks limit) t refl refl exact_one_more_rank)

pub exact_type_of_keyword : (limit : ℕ) → Exact kind (type_of_keyword limit) keyword_types (bracket ∷ []) false
exact_type_of_keyword limit = wider refl refl (then exact_keyword_type refl (λ t. exact_ranks limit t))

pub exact_ty : (limit : ℕ) → Exact kind (ty limit) type_kinds (dot ∷ bracket ∷ []) false
exact_ty limit = wider refl refl (then exact_named_type refl (λ t. exact_ranks limit t))

pub exact_given_way : Exact kind given_way (kw_ref ∷ kw_out ∷ []) [] false
exact_given_way = exact_one (kw_ref ∷ kw_out ∷ []) (λ t. way_of (kind t)) (sample_of kw_ref) refl

pub exact_way : Exact kind way (kw_ref ∷ kw_out ∷ []) (kw_ref ∷ kw_out ∷ []) true
exact_way = wider refl refl (or (kw_ref ∷ kw_out ∷ []) refl refl exact_given_way (exact_gives _))

pub exact_param : (limit : ℕ) → Exact kind (param limit) param_kinds [] false
exact_param limit = wider refl refl (then exact_way refl (λ w. then (exact_ty limit) refl (λ t. then exact_any_name refl (λ _. exact_gives _))))

pub exact_passed_param : (limit : ℕ) → Exact kind (passed_param limit) (kw_ref ∷ kw_out ∷ []) [] false
exact_passed_param limit = wider refl refl (then exact_given_way refl (λ w. then (exact_ty limit) refl (λ t. then exact_any_name refl (λ _. exact_gives _))))

exact_one_more_param : (limit : ℕ) (params : List Param) → Exact kind (one_more_param limit params) (comma ∷ []) [] false
exact_one_more_param limit params = wider refl refl (then (exact_sign comma refl) refl (λ _. then (exact_param limit) refl (λ _. exact_gives _)))

pub exact_more_params : (limit : ℕ) (params : List Param) → Exact kind (more_params limit params) (comma ∷ []) (comma ∷ []) true
exact_more_params limit params = wider refl refl (repeat (comma ∷ []) (λ _. true) params refl refl (exact_one_more_param limit))
