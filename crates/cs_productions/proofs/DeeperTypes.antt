-- Types and parameters with more pairs of brackets.
use Rattle.std.proofs.Common.{ℕ, ◌<◌, ◌≤◌, true, false, List, [], ◌∷◌, ◌++◌, refl, nat_lt, arith}
use Rattle.std.proofs.lemmas.Bool.{ltb-true, lt-ltb}
use Rattle.cs_tree.specs.declared.types.TypeForm.{TypeForm}
use Rattle.cs_tree.specs.declared.types.Param.{Param}
use Rattle.cs_tree.specs.declared.types.Way.{Way}
use Rattle.cs_tree.specs.declared.types.Way.TheVariants as passed
use Rattle.cs_token.specs.Placed.{Placed as Token}
use Rattle.cs_grammar.specs.Grammar.{Grammar, gives, ◌>>=◌}
use Rattle.cs_grammar.specs.Exact.{Exact}
use Rattle.cs_grammar.specs.Whole.{Deeper}
use Rattle.cs_grammar.specs.Levels.{Yields}
use Rattle.cs_grammar.proofs.Basics.{exact_gives, wider}
use Rattle.cs_grammar.proofs.Bind.{then}
use Rattle.cs_grammar.proofs.Turns.{repeat}
use Rattle.cs_grammar.proofs.Deeper.{yields_any, yields_gives, yields_then, yields_or, enters_one, enters_then, deeper_gives, deeper_one, deeper_then, deeper_or, deeper_turns}
use Rattle.cs_productions.specs.Kinds.{names, dot, colons, bracket, unbracket, comma, global, keyword_types, kw_ref, kw_out}
use Rattle.cs_productions.specs.Tokens.{kind, sign, place, spot_of, name_text, any_name, text_of, name_of, way_of}
use Rattle.cs_productions.specs.Types.{one_more_name, path, keyword_type, keyword_type_at, type_by_path, global_type, named_type, array_of, one_more_rank, ranks, type_of_keyword, ty, given_way, way, param_of, param_by, param, passed_param, one_more_param, more_params}
use Rattle.cs_productions.proofs.Follow.{type_kinds, param_kinds}
use Rattle.cs_productions.proofs.ExactTokens.{exact_sign, exact_name_text, exact_any_name}
use Rattle.cs_productions.proofs.ExactTypes.{exact_path, exact_ranks, exact_ty, exact_param}
use Rattle.cs_productions.proofs.Heights.{yields_one}

pub deeper_sign : (k : ℕ) → Deeper (sign k) (sign k)
deeper_sign k = deeper_one kind (k ∷ []) (λ _. tt)

pub deeper_place : (k : ℕ) → Deeper (place k) (place k)
deeper_place k = deeper_one kind (k ∷ []) spot_of

pub deeper_name_text : Deeper name_text name_text
deeper_name_text = deeper_one kind names text_of

pub deeper_any_name : Deeper any_name any_name
deeper_any_name = deeper_one kind names name_of

-- paths

exact_named : (path_names : List (List ℕ)) → Exact kind (do n ← name_text; gives (path_names ++ n ∷ [])) names [] false
exact_named path_names = wider refl refl (then exact_name_text refl (λ n. exact_gives _))

exact_one_more_name : (n : List (List ℕ)) → Exact kind (one_more_name n) (dot ∷ []) [] false
exact_one_more_name n = wider refl refl (then (exact_sign dot refl) refl (λ _. exact_named n))

deeper_one_more_name : (path_names : List (List ℕ)) → Deeper (one_more_name path_names) (one_more_name path_names)
deeper_one_more_name path_names =
    deeper_then (deeper_sign dot) (yields_any (sign dot))
    (λ _ _. deeper_then deeper_name_text (yields_any name_text) (λ n _. deeper_gives (path_names ++ n ∷ [])) (λ n. exact_gives {kind = kind} (path_names ++ n ∷ [])))
    (λ _. exact_named path_names)

pub deeper_path : Deeper path path
deeper_path =
    deeper_then deeper_name_text (yields_any name_text)
    (λ first _.
    deeper_turns {P = λ _. Unit {0}} {f = one_more_name} (dot ∷ []) (λ _. true) (λ _. true) (first ∷ []) tt (λ _ _. refl) (λ n _ _. yields_any (one_more_name n))
    (λ n _. deeper_one_more_name n) (λ n. enters_then (enters_one (dot ∷ []) (λ _. tt)) (λ _. exact_named n)) exact_one_more_name)
    (λ first. repeat (dot ∷ []) (λ _. true) (first ∷ []) refl refl exact_one_more_name)

-- types

pub deeper_keyword_type : Deeper keyword_type keyword_type
deeper_keyword_type = deeper_one kind keyword_types keyword_type_at

deeper_type_by_path : Deeper type_by_path type_by_path
deeper_type_by_path =
    deeper_then (deeper_place global) (yields_any (place global))
    (λ s _. deeper_then (deeper_sign colons) (yields_any (sign colons))
    (λ _ _. deeper_then deeper_path (yields_any path) (λ path_names _. deeper_gives (global_type s path_names)) (λ path_names. exact_gives {kind = kind} (global_type s path_names)))
    (λ _. then exact_path refl (λ path_names. exact_gives (global_type s path_names))))
    (λ s. then (exact_sign colons refl) refl (λ _. then exact_path refl (λ path_names. exact_gives (global_type s path_names))))

pub deeper_named_type : Deeper named_type named_type
deeper_named_type = deeper_or kind keyword_types deeper_keyword_type deeper_type_by_path

abbrev pub RanksAtMost : ℕ → TypeForm → Type 0
RanksAtMost limit t = t.ranks ≤ limit

pub ranked_keyword_type : (limit : ℕ) → Yields (RanksAtMost limit) keyword_type
ranked_keyword_type limit = yields_one {P = RanksAtMost limit} keyword_types keyword_type_at (λ t. omega arith)

pub ranked_named_type : (limit : ℕ) → Yields (RanksAtMost limit) named_type
ranked_named_type limit =
    yields_or kind keyword_types (ranked_keyword_type limit)
    (yields_then {Q = λ _. Unit {0}} (yields_any (place global))
    (λ s _. yields_then {Q = λ _. Unit {0}} (yields_any (sign colons))
    (λ _ _. yields_then {Q = λ _. Unit {0}} (yields_any path) (λ path_names _. yields_gives {P = RanksAtMost limit} (global_type s path_names) (omega arith)))))

exact_after_bracket : (t : TypeForm) → Exact kind (do _ ← sign unbracket; gives (array_of t)) (unbracket ∷ []) [] false
exact_after_bracket t = wider refl refl (then (exact_sign unbracket refl) refl (λ _. exact_gives _))

exact_one_more_rank : (t : TypeForm) → Exact kind (one_more_rank t) (bracket ∷ []) [] false
exact_one_more_rank t = wider refl refl (then (exact_sign bracket refl) refl (λ _. exact_after_bracket t))

deeper_one_more_rank : (t : TypeForm) → Deeper (one_more_rank t) (one_more_rank t)
deeper_one_more_rank t =
    deeper_then (deeper_sign bracket) (yields_any (sign bracket))
    (λ _ _. deeper_then (deeper_sign unbracket) (yields_any (sign unbracket)) (λ _ _. deeper_gives (array_of t)) (λ _. exact_gives {kind = kind} (array_of t)))
    (λ _. exact_after_bracket t)

ranked_one_more_rank : (limit : ℕ) (t : TypeForm) → t.ranks < limit → Yields (RanksAtMost limit) (one_more_rank t)
ranked_one_more_rank limit t room =
    yields_then {Q = λ _. Unit {0}} (yields_any (sign bracket))
    (λ _ _. yields_then {Q = λ _. Unit {0}} (yields_any (sign unbracket)) (λ _ _. yields_gives {P = RanksAtMost limit} (array_of t) (omega arith)))

pub deeper_ranks : (limit more : ℕ) (t : TypeForm) → limit < more → RanksAtMost limit t → Deeper (ranks limit t) (ranks more t)
deeper_ranks limit more t l p =
    deeper_turns {P = RanksAtMost limit} {f = one_more_rank} (bracket ∷ []) (λ (u : TypeForm). nat_lt u.ranks limit) (λ (u : TypeForm). nat_lt u.ranks more) t p
    (λ u q. lt-ltb u.ranks more (omega arith)) (λ u q r. ranked_one_more_rank limit u (ltb-true u.ranks limit r)) (λ u q. deeper_one_more_rank u)
    (λ u. enters_then (enters_one (bracket ∷ []) (λ _. tt)) (λ _. exact_after_bracket u)) exact_one_more_rank

pub deeper_type_of_keyword : (limit more : ℕ) → limit < more → Deeper (type_of_keyword limit) (type_of_keyword more)
deeper_type_of_keyword limit more l =
    deeper_then deeper_keyword_type (ranked_keyword_type limit) (λ t p. deeper_ranks limit more t l p) (λ t. exact_ranks more t)

pub deeper_ty : (limit more : ℕ) → limit < more → Deeper (ty limit) (ty more)
deeper_ty limit more l = deeper_then deeper_named_type (ranked_named_type limit) (λ t p. deeper_ranks limit more t l p) (λ t. exact_ranks more t)

-- parameters

pub deeper_given_way : Deeper given_way given_way
deeper_given_way = deeper_one kind (kw_ref ∷ kw_out ∷ []) (λ t. way_of (kind t))

pub deeper_way : Deeper way way
deeper_way = deeper_or kind (kw_ref ∷ kw_out ∷ []) deeper_given_way (deeper_gives passed.Value)

exact_param_name : (w : Way) (t : TypeForm) → Exact kind (do n ← any_name; gives (param_of w t n)) names [] false
exact_param_name w t = wider refl refl (then exact_any_name refl (λ n. exact_gives _))

exact_param_type : (limit : ℕ) (w : Way) → Exact kind (do t ← ty limit; n ← any_name; gives (param_of w t n)) type_kinds [] false
exact_param_type limit w = wider refl refl (then (exact_ty limit) refl (λ t. exact_param_name w t))

deeper_param_by : {passing : Grammar Token Way} (limit more : ℕ) → limit < more → Deeper passing passing → Deeper (param_by passing limit) (param_by passing more)
deeper_param_by {passing = passing} limit more l d =
    deeper_then d (yields_any passing)
    (λ w _. deeper_then (deeper_ty limit more l) (yields_any (ty limit))
    (λ t _. deeper_then deeper_any_name (yields_any any_name) (λ n _. deeper_gives (param_of w t n)) (λ n. exact_gives {kind = kind} (param_of w t n)))
    (λ t. exact_param_name w t))
    (λ w. exact_param_type more w)

pub deeper_param : (limit more : ℕ) → limit < more → Deeper (param limit) (param more)
deeper_param limit more l = deeper_param_by limit more l deeper_way

pub deeper_passed_param : (limit more : ℕ) → limit < more → Deeper (passed_param limit) (passed_param more)
deeper_passed_param limit more l = deeper_param_by limit more l deeper_given_way

exact_added_param : (limit : ℕ) (params : List Param) → Exact kind (do p ← param limit; gives (params ++ p ∷ [])) param_kinds [] false
exact_added_param limit params = wider refl refl (then (exact_param limit) refl (λ p. exact_gives _))

exact_one_more_param : (limit : ℕ) (params : List Param) → Exact kind (one_more_param limit params) (comma ∷ []) [] false
exact_one_more_param limit params = wider refl refl (then (exact_sign comma refl) refl (λ _. exact_added_param limit params))

deeper_one_more_param : (limit more : ℕ) (params : List Param) → limit < more → Deeper (one_more_param limit params) (one_more_param more params)
deeper_one_more_param limit more params l =
    deeper_then (deeper_sign comma) (yields_any (sign comma))
    (λ _ _. deeper_then (deeper_param limit more l) (yields_any (param limit)) (λ p _. deeper_gives (params ++ p ∷ [])) (λ p. exact_gives {kind = kind} (params ++ p ∷ [])))
    (λ _. exact_added_param more params)

pub deeper_more_params : (limit more : ℕ) (params : List Param) → limit < more → Deeper (more_params limit params) (more_params more params)
deeper_more_params limit more params l =
    deeper_turns {P = λ _. Unit {0}} {f = one_more_param limit} (comma ∷ []) (λ _. true) (λ _. true) params tt (λ _ _. refl) (λ ps _ _. yields_any (one_more_param limit ps))
    (λ ps _. deeper_one_more_param limit more ps l) (λ ps. enters_then (enters_one (comma ∷ []) (λ _. tt)) (λ _. exact_added_param more ps)) (exact_one_more_param more)
