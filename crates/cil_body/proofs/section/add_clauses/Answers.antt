use Rattle.std.proofs.Common.{◌≡◌, ℕ, ◌+◌, ◌*◌, ◌/◌, ◌-◌, ◌++◌, ◌∷◌, [], ◌<◌, ◌≤◌, List, refl, sym, ap, ◌∙◌, subst, append_assoc, add-one, All, arith}
use Rattle.std.proofs.lemmas.List.Elements.{All-push}
use Rattle.std.proofs.lemmas.Bool.{false≢true}
use Rattle.cil_body.specs.declared.section.RawClause.{RawClause}
use Rattle.cil_body.specs.Section.{IsClause, clause_width, clause_at, clauses_from}
use Rattle.cil_body.proofs.SectionFacts.{first_broken, clauses_more, place_of_clause}
use Rattle.cil_body.proofs.section.add_clauses.Goals as goal

-- the clause that was read stands where its number puts it
read_at : {c : RawClause} (fat : _) (bytes : List ℕ) (at i width : ℕ) → width ≡ clause_width fat → c ≡ clause_at fat bytes (at + i * width) → c ≡ clause_at fat bytes (at + i * clause_width fat)
read_at fat bytes at i width e is = is ∙ ap (λ (w : ℕ). clause_at fat bytes (at + i * w)) e

pub returns-then-not-is_clause-clause-fault : goal.returns-then-not-is_clause-clause-fault
returns-then-not-is_clause-clause-fault c =
    let s = c.args.section in
    let bytes = c.args.bytes.now in
    let w = clause_width s.is_fat in
    let is = read_at s.is_fat bytes (s.at + 4) c.loop-i.i c.width-width.result c.width-width.ensures c.clause_at-clause.ensures in
    let within : c.loop-i.i < (s.size - 4) / w = subst (λ (x : ℕ). c.loop-i.i < (s.size - 4) / x) c.width-width.ensures c.loop-i-test.true in
    let off : IsClause c.args.starts.now c.args.size c.clause_at-clause.result → ⊥ = λ h. absurd (false≢true (c.if-not-is_clause.ensures.1 h)) in
    let place : c.bad_section.result.at ≡ s.at + 4 + c.loop-i.i * w = c.bad_section.ensures.place ∙ ap (λ (x : ℕ). s.at + 4 + c.loop-i.i * x) c.width-width.ensures in (
      c.bad_section.ensures.cause,
      (
        clause_at s.is_fat bytes (s.at + 4 + c.loop-i.i * w),
        first_broken c.args.starts.now c.args.size s.is_fat bytes (s.at + 4) ((s.size - 4) / w) c.loop-i.i within c.loop-i.invariant.1
            (subst (λ (x : RawClause). IsClause c.args.starts.now c.args.size x → ⊥) is off),
        place ∙ sym (place_of_clause s.is_fat bytes _),
      ),
    )

pub loop-i-preserved : goal.loop-i-preserved
loop-i-preserved c =
    let s = c.args.section in
    let bytes = c.args.bytes.now in
    let is = read_at s.is_fat bytes (s.at + 4) c.loop-i.i c.width-width.result c.width-width.ensures c.clause_at-clause.ensures in
    let front = clauses_from s.is_fat bytes (s.at + 4) c.loop-i.i in
    let more : clauses_from s.is_fat bytes (s.at + 4) (c.loop-i.i + 1) ≡ front ++ c.clause_at-clause.result ∷ [] =
    ap (λ (k : ℕ). clauses_from s.is_fat bytes (s.at + 4) k) (add-one c.loop-i.i) ∙ clauses_more s.is_fat bytes (s.at + 4) c.loop-i.i ∙ ap (λ (x : RawClause). front ++ x ∷ []) (sym is) in
    let fine : IsClause c.args.starts.now c.args.size c.clause_at-clause.result = c.if-not-is_clause.ensures.0 refl in (
      c.in_ok-push.ensures.items ∙ ap (λ (x : List RawClause). x ++ c.clause_at-clause.result ∷ []) c.loop-i.invariant.0 ∙ append_assoc c.args.clauses.now.items front (c.clause_at-clause.result ∷ []) ∙ ap (λ (x : List RawClause). c.args.clauses.now.items ++ x) (sym more),
      subst (λ (x : List RawClause). All (IsClause c.args.starts.now c.args.size) x) (sym more) (All-push (IsClause c.args.starts.now c.args.size) front c.clause_at-clause.result c.loop-i.invariant.1 fine),
    )

-- behind the loop all clauses are read
all_read : (i width n size : ℕ) → i ≤ n / size → width ≡ size → n / width ≤ i → i ≡ n / size
all_read i width n size le e past =
    let past' : n / size ≤ i = subst (λ (x : ℕ). n / x ≤ i) e past in
    omega arith

pub returns-clause-added : goal.returns-clause-added
returns-clause-added c =
    let s = c.args.section in
    let i = all_read c.loop-i.i c.width-width.result (s.size - 4) (clause_width s.is_fat) (subst (λ (x : ℕ). c.loop-i.i ≤ (s.size - 4) / x) c.width-width.ensures c.loop-i.auto.i-end) c.width-width.ensures c.loop-i-test.false in
    subst (λ (k : ℕ). c.loop-i.clauses.items ≡ c.args.clauses.now.items ++ clauses_from s.is_fat c.args.bytes.now (s.at + 4) k) i c.loop-i.invariant.0

pub returns-clause-fine : goal.returns-clause-fine
returns-clause-fine c =
    let s = c.args.section in
    let i = all_read c.loop-i.i c.width-width.result (s.size - 4) (clause_width s.is_fat) (subst (λ (x : ℕ). c.loop-i.i ≤ (s.size - 4) / x) c.width-width.ensures c.loop-i.auto.i-end) c.width-width.ensures c.loop-i-test.false in
    subst (λ (k : ℕ). All (IsClause c.args.starts.now c.args.size) (clauses_from s.is_fat c.args.bytes.now (s.at + 4) k)) i c.loop-i.invariant.1
