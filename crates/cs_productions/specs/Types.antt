-- Paths, types and parameters (ECMA-334, 7.8, 8 and 15.6.2).
use Rattle.std.specs.Prelude.{ℕ, ◌+◌, true, List, [], ◌∷◌, ◌++◌, nat_lt}
use Rattle.cs_token.specs.Placed.{Placed as Token}
use Rattle.cs_tree.specs.declared.types.Spot.{Spot}
use Rattle.cs_tree.specs.declared.types.Name.{Name}
use Rattle.cs_tree.specs.declared.types.TypeName.TheVariants as type_name
use Rattle.cs_tree.specs.declared.types.TypeForm.{TypeForm}
use Rattle.cs_tree.specs.declared.types.Param.{Param}
use Rattle.cs_tree.specs.declared.types.Way.{Way}
use Rattle.cs_tree.specs.declared.types.Way.TheVariants as passed
use Rattle.cs_grammar.specs.Grammar.{Grammar, gives, one, ◌>>=◌, either, turns}
use Rattle.cs_productions.specs.Kinds.{dot, colons, bracket, unbracket, comma, global, keyword_types, kw_ref, kw_out}
use Rattle.cs_productions.specs.Tokens.{kind, sign, place, spot_of, name_text, any_name, keyword_type_of, way_of}

-- path = name { "." name } (7.8): all names that stand behind one another
abbrev pub one_more_name : List (List ℕ) → Grammar Token (List (List ℕ))
one_more_name names = do _ ← sign dot; n ← name_text; gives (names ++ n ∷ [])

abbrev pub path : Grammar Token (List (List ℕ))
path = do first ← name_text; turns kind (dot ∷ []) (λ _. true) one_more_name (first ∷ [])

-- a type without brackets: keyword type | "global" "::" path
abbrev pub keyword_type_at : Token → TypeForm
keyword_type_at t = record { spot = spot_of t; name = type_name.Keyword (keyword_type_of (kind t)); ranks = 0 }

abbrev pub global_type : Spot → List (List ℕ) → TypeForm
global_type s names = record { spot = s; name = type_name.Global names; ranks = 0 }

abbrev pub keyword_type : Grammar Token TypeForm
keyword_type = one kind keyword_types keyword_type_at

abbrev pub type_by_path : Grammar Token TypeForm
type_by_path = do s ← place global; _ ← sign colons; names ← path; gives (global_type s names)

abbrev pub named_type : Grammar Token TypeForm
named_type = either kind keyword_types keyword_type type_by_path

-- { "[" "]" }, at most so many pairs on a type
abbrev pub array_of : TypeForm → TypeForm
array_of t = record { spot = t.spot; name = t.name; ranks = t.ranks + 1 }

abbrev pub one_more_rank : TypeForm → Grammar Token TypeForm
one_more_rank t = do _ ← sign bracket; _ ← sign unbracket; gives (array_of t)

abbrev pub ranks : ℕ → TypeForm → Grammar Token TypeForm
ranks limit t = turns kind (bracket ∷ []) (λ u. nat_lt u.ranks limit) one_more_rank t

-- ty = (keyword type | "global" "::" path) { "[" "]" } (8.1, 17.2)
abbrev pub type_of_keyword : ℕ → Grammar Token TypeForm
type_of_keyword limit = do t ← keyword_type; ranks limit t

abbrev pub ty : ℕ → Grammar Token TypeForm
ty limit = do t ← named_type; ranks limit t

-- ("ref" | "out"), and the same where it may be left out
abbrev pub given_way : Grammar Token Way
given_way = one kind (kw_ref ∷ kw_out ∷ []) (λ t. way_of (kind t))

abbrev pub way : Grammar Token Way
way = either kind (kw_ref ∷ kw_out ∷ []) given_way (gives passed.Value)

-- param = ["ref" | "out"] ty name (15.6.2)
abbrev pub param_of : Way → TypeForm → Name → Param
param_of w t n = record { way = w; ty = t; name = n }

abbrev pub param_by : Grammar Token Way → ℕ → Grammar Token Param
param_by passing limit = do w ← passing; t ← ty limit; n ← any_name; gives (param_of w t n)

abbrev pub param : ℕ → Grammar Token Param
param limit = param_by way limit

abbrev pub passed_param : ℕ → Grammar Token Param
passed_param limit = param_by given_way limit

-- { "," param }
abbrev pub one_more_param : ℕ → List Param → Grammar Token (List Param)
one_more_param limit params = do _ ← sign comma; p ← param limit; gives (params ++ p ∷ [])

abbrev pub more_params : ℕ → List Param → Grammar Token (List Param)
more_params limit params = turns kind (comma ∷ []) (λ _. true) (one_more_param limit) params
