-- The regions that the clauses of a body begin, one clause after another.
use Rattle.std.proofs.Common.{◌≡◌, ℕ, ◌+◌, ◌<◌, ◌≤◌, List, [], ◌∷◌, ◌++◌, length, get_or, take, sym, ap, ◌∙◌, arith}
use Rattle.std.proofs.lemmas.List.{get_or_default, take_more, take_all, flat_map_more}
use Rattle.std.proofs.lemmas.List.FromFn.{length-enumerate_from, get_or-enumerate_from}
use Rattle.std.specs.List.{flat_map, enumerate_from}
use Rattle.cil_body.specs.declared.body.Body.{Body}
use Rattle.cil_body.specs.declared.body.Clause.{Clause}
use Rattle.cil_regions.specs.declared.region.Span.{Span}
use Rattle.cil_regions.specs.Region.{first_of, begun_by, whole_code, spans_of}
use Rattle.cil_regions.specs.Laid.{AreFirsts, begun}

-- the regions that the first clauses begin
abbrev pub spans_upto : Body → ℕ → List Span
spans_upto body i = whole_code body ∷ flat_map (begun_by body.clauses) (take i (enumerate_from 0 body.clauses))

pub spans_more : (body : Body) (i : ℕ) (c : Clause) → i < length body.clauses → c ≡ get_or body.clauses i c → spans_upto body (i + 1) ≡ spans_upto body i ++ begun i c (first_of body.clauses i c)
spans_more body i c within is =
    let none : 0 + i ≡ i = omega arith in
    let entry : get_or (enumerate_from 0 body.clauses) i (i, c) ≡ (i, c) =
    get_or-enumerate_from 0 body.clauses i (i, c) within ∙ ap (λ n. (n, get_or body.clauses i c)) none ∙ ap (λ d. (i, d)) (sym is) in
    let grown : take (i + 1) (enumerate_from 0 body.clauses) ≡ take i (enumerate_from 0 body.clauses) ++ (i, c) ∷ [] =
    take_more (enumerate_from 0 body.clauses) i (i, c) (omega (arith, length-enumerate_from 0 body.clauses))
    ∙ ap (λ e. take i (enumerate_from 0 body.clauses) ++ e ∷ []) entry in
    ap (λ es. whole_code body ∷ flat_map (begun_by body.clauses) es) grown
    ∙ ap (λ ss. whole_code body ∷ ss) (sym (flat_map_more (begun_by body.clauses) [] (take i (enumerate_from 0 body.clauses)) (i, c)))

pub spans_all : (body : Body) (i : ℕ) → length body.clauses ≤ i → spans_upto body i ≡ spans_of body
spans_all body i past =
    ap (λ es. whole_code body ∷ flat_map (begun_by body.clauses) es)
    (take_all i (enumerate_from 0 body.clauses) (omega (arith, length-enumerate_from 0 body.clauses)))

-- the step of the loop that adds the regions of one clause
pub spans_step : (body : Body) (i : ℕ) (d : Clause) (clauses : List Clause) (firsts : List ℕ) (old new : List Span) → clauses ≡ body.clauses → AreFirsts body.clauses firsts → i < length clauses → old ≡ spans_upto body i → new ≡ old ++ begun i (get_or clauses i d) (get_or firsts i 0) → new ≡ spans_upto body (i + 1)
spans_step body i d clauses firsts old new same numbers within was is =
    let inside : i < length body.clauses = omega (arith, ap length same) in
    let c = get_or body.clauses i d in
    let more = spans_more body i c inside (get_or_default body.clauses i d c inside) in
    let first : get_or firsts i 0 ≡ first_of body.clauses i c =
    numbers.each i c inside ∙ ap (first_of body.clauses i) (get_or_default body.clauses i c d inside) in
    is ∙ ap (λ ss. ss ++ begun i (get_or clauses i d) (get_or firsts i 0)) was
    ∙ ap (λ cs. spans_upto body i ++ begun i (get_or cs i d) (get_or firsts i 0)) same
    ∙ ap (λ n. spans_upto body i ++ begun i c n) first
    ∙ sym more
