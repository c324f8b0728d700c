-- More fuel keeps a result.
use Rattle.std.proofs.Common.{◌≡◌, ℕ, zero, suc, ◌+◌, ◌≤◌, ◌<◌, List, [], ◌∷◌, Option, Some, None, map, length, ltb, Bool, true, false, cond, ◌-◌, refl, subst, arith, add-suc, add-zero, ⊎_elim}
use Rattle.std.proofs.lemmas.Bool.{cases_lt}
use Rattle.cs_meaning.specs.declared.state.State.{State}
use Rattle.cs_meaning.specs.declared.state.End.{End}
use Rattle.cs_meaning.specs.declared.state.End.TheVariants.{Falls, Breaks, Continues, Goes, Returns, Throws, Asks, Wrong}
use Rattle.cs_body.specs.declared.tree.Stmt.{Stmt}
use Rattle.cs_body.specs.declared.tree.Expr.TheOpen.{Stmt-F}
use Rattle.cs_body.specs.declared.tree.Stmt.{fold_out-Stmt}
use Rattle.cs_meaning.specs.Ran.{Valued, gives, stops, Ran, spent, done, Meaning, end_of, with_value, begun, wrong, Part, after, runs, is_label, entry, landed, jump, again, block, store, assigned}
use Rattle.cs_meaning.specs.Meaning.{Node, Handler, Branch, node, part, handler, branch, stmt_meaning, part_of, declares, returns, block_meaning}

-- s is r with one unit of fuel more left
abbrev Step : Ran → Ran → Type 0
Step r s = (e : End) (τ : State) (k : ℕ) → r ≡ done e τ k → s ≡ done e τ (suc k)

-- with one unit more, a run that ends ends alike, with one unit more left
pub record Keeps (m : Meaning) : Type 0 where
  pub more : (n : ℕ) (σ : State) → Step (m n σ) (m (suc n) σ)

pub data AllKeep : List Part → Type 0 where
  none : AllKeep []
  also : (p : Part) (ps : List Part) → Keeps p.run → AllKeep ps → AllKeep (p ∷ ps)

after_keeps : (r s : Ran) (m : Meaning) → Keeps m → Step r s → Step (after r m) (after s m)
after_keeps spent s m keeps step e τ k h = cc
after_keeps (done Falls σ n) s m keeps step e τ k h = rw (step Falls σ n refl) (keeps.more n σ e τ k h)
after_keeps (done Breaks σ n) s m keeps step e τ k h = rw (step Breaks σ n refl) (cc)
after_keeps (done Continues σ n) s m keeps step e τ k h = rw (step Continues σ n refl) (cc)
after_keeps (done (Goes l) σ n) s m keeps step e τ k h = rw (step (Goes l) σ n refl) (cc)
after_keeps (done (Returns v) σ n) s m keeps step e τ k h = rw (step (Returns v) σ n refl) (cc)
after_keeps (done (Throws v) σ n) s m keeps step e τ k h = rw (step (Throws v) σ n refl) (cc)
after_keeps (done Asks σ n) s m keeps step e τ k h = rw (step Asks σ n refl) (cc)
after_keeps (done Wrong σ n) s m keeps step e τ k h = rw (step Wrong σ n refl) (cc)

pub runs_keep : (ps : List Part) → AllKeep ps → Keeps (runs ps)
runs_keep [] none = record { more = λ n σ e τ k h. cc }
runs_keep (p ∷ ps) (also _ _ here rest) = record {
  more = λ n σ.
      after_keeps (p.run n σ) (p.run (suc n) σ) (runs ps) (runs_keep ps rest) (here.more n σ);
}

landed_keeps : (o : Option Meaning) → ((m : Meaning) → o ≡ Some m → Keeps m) → (l : ℕ) (σ : State) (n : ℕ) (f g : Ran → Ran) →
    ((r s : Ran) → Step r s → Step (f r) (g s)) → Step (landed o l σ n f) (landed o l σ (suc n) g)
landed_keeps None keep l σ n f g carry e τ k h = cc
landed_keeps (Some m) keep l σ n f g carry e τ k h = carry (m n σ) (m (suc n) σ) ((keep m refl).more n σ) e τ k h

jump_keeps : (at : ℕ → Option Meaning) → ((l : ℕ) (m : Meaning) → at l ≡ Some m → Keeps m) → (f g : Ran → Ran) →
    ((r s : Ran) → Step r s → Step (f r) (g s)) → (r s : Ran) → Step r s → Step (jump at r f) (jump at s g)
jump_keeps at keep f g carry spent s step e τ k h = cc
jump_keeps at keep f g carry (done Falls σ n) s step e τ k h = rw (step Falls σ n refl) (cc)
jump_keeps at keep f g carry (done Breaks σ n) s step e τ k h = rw (step Breaks σ n refl) (cc)
jump_keeps at keep f g carry (done Continues σ n) s step e τ k h = rw (step Continues σ n refl) (cc)
jump_keeps at keep f g carry (done (Goes l) σ n) s step e τ k h =
    rw (step (Goes l) σ n refl) (landed_keeps (at l) (keep l) l σ n f g carry e τ k h)
jump_keeps at keep f g carry (done (Returns v) σ n) s step e τ k h = rw (step (Returns v) σ n refl) (cc)
jump_keeps at keep f g carry (done (Throws v) σ n) s step e τ k h = rw (step (Throws v) σ n refl) (cc)
jump_keeps at keep f g carry (done Asks σ n) s step e τ k h = rw (step Asks σ n refl) (cc)
jump_keeps at keep f g carry (done Wrong σ n) s step e τ k h = rw (step Wrong σ n refl) (cc)

again_keeps : (n : ℕ) (at : ℕ → Option Meaning) → ((l : ℕ) (m : Meaning) → at l ≡ Some m → Keeps m) →
    (r s : Ran) → Step r s → Step (again n at r) (again (suc n) at s)
again_keeps zero at keep = jump_keeps at keep (λ _. spent) (again zero at) (λ r s step e τ k h. cc)
again_keeps (suc n) at keep = jump_keeps at keep (again n at) (again (suc n) at) (again_keeps n at keep)

some_same : (a b : Meaning) → Some a ≡ Some b → a ≡ b
some_same a b h = cc

entry_keeps : (ps : List Part) → AllKeep ps → (l : ℕ) (m : Meaning) → entry ps l ≡ Some m → Keeps m
entry_keeps [] none l m h = absurd (cc)
entry_keeps (p ∷ ps) (also _ _ here rest) l m h = elim (is_label l p.label) as (λ b. cond b (Some (runs (p ∷ ps))) (entry ps l) ≡ Some m → Keeps m) [
  | true ↦ λ is. subst Keeps (some_same (runs (p ∷ ps)) m is) (runs_keep (p ∷ ps) (also p ps here rest))
  | false ↦ λ is. entry_keeps ps rest l m is
] h

-- more fuel keeps the result of a block
pub block_keeps : (ps : List Part) → AllKeep ps → Keeps (block ps)
block_keeps ps all = record {
  more = λ n σ.
      again_keeps n (entry ps) (entry_keeps ps all) (runs ps n σ) (runs ps (suc n) σ) ((runs_keep ps all).more n σ);
}

begun_keeps : (m : Meaning) → Keeps m → (n : ℕ) (σ : State) → Step (begun m n σ) (begun m (suc n) σ)
begun_keeps m keeps zero σ e τ k h = cc
begun_keeps m keeps (suc n) σ e τ k h = keeps.more n σ e τ k h

part_of_keeps : (m : Meaning) → Keeps m → Keeps ((part_of m).run)
part_of_keeps m keeps = record { more = begun_keeps m keeps }

stored : (b : Bool) (σ τ : State) (n : ℕ) → Step (cond b (done Falls σ n) (done Wrong τ n)) (cond b (done Falls σ (suc n)) (done Wrong τ (suc n)))
stored true σ τ n e υ k h = cc
stored false σ τ n e υ k h = cc

declares_keeps : (v : ℕ) (r : Valued) (n : ℕ) → Step (with_value r n (λ x τ. store v x τ n)) (with_value r (suc n) (λ x τ. store v x τ (suc n)))
declares_keeps v (gives x σ) n e' τ k h = stored (ltb v (length σ.vars)) (assigned v x σ) σ n e' τ k h
declares_keeps v (stops e σ) n e' τ k h = cc

returns_keeps : (r : Valued) (n : ℕ) → Step (with_value r n (λ x τ. done (Returns (Some x)) τ n)) (with_value r (suc n) (λ x τ. done (Returns (Some x)) τ (suc n)))
returns_keeps (gives x σ) n e τ k h = cc
returns_keeps (stops e σ) n e' τ k h = cc

part_keeps : (x : Stmt-F Node Part Handler Branch) → Keeps ((part x).run)
part_keeps (Stmt-F.Decl v e) = part_of_keeps (declares v e) (record { more = λ n σ. declares_keeps v (e.value σ) n })
part_keeps (Stmt-F.Return None) = part_of_keeps (returns None) (record { more = λ n σ e τ k h. cc })
part_keeps (Stmt-F.Return (Some e)) = part_of_keeps (returns (Some e)) (record { more = λ n σ. returns_keeps (e.value σ) n })
part_keeps _ = part_of_keeps wrong (record { more = λ n σ e τ k h. cc })

pub stmt_keeps : (s : Stmt) → Keeps ((stmt_meaning s).run)
stmt_keeps s = rw (fold_out-Stmt Node Part Handler Branch node part handler branch s) (part_keeps _)

pub stmts_keep : (stmts : List Stmt) → AllKeep (map stmt_meaning stmts)
stmts_keep [] = none
stmts_keep (s ∷ rest) = also (stmt_meaning s) (map stmt_meaning rest) (stmt_keeps s) (stmts_keep rest)

-- a block of statements that ends with some fuel ends alike with more
pub block_meaning_keeps : (stmts : List Stmt) → Keeps (block_meaning stmts)
block_meaning_keeps stmts = block_keeps (map stmt_meaning stmts) (stmts_keep stmts)

more_by : (m : Meaning) → Keeps m → (d n : ℕ) (σ : State) (e : End) (τ : State) (k : ℕ) → m n σ ≡ done e τ k → m (n + d) σ ≡ done e τ (k + d)
more_by m keeps zero n σ e τ k h = simp add-zero h
more_by m keeps (suc d) n σ e τ k h = simp add-suc (keeps.more (n + d) σ e τ (k + d) (more_by m keeps d n σ e τ k h))

-- the same, at least so much fuel
pub with_more : (m : Meaning) → Keeps m → (n n' : ℕ) → n ≤ n' → (σ : State) (e : End) (τ : State) (k : ℕ) → m n σ ≡ done e τ k → end_of (m n' σ) ≡ Some e
with_more m keeps n n' below σ e τ k h =
    let same : n' ≡ n + (n' - n) = omega arith in
    rw (same, more_by m keeps (n' - n) n σ e τ k h)

pub ended : (r : Ran) (e : End) → end_of r ≡ Some e → (τ : State) × (k : ℕ) × (r ≡ done e τ k)
ended spent e h = absurd (cc)
ended (done e' σ n) e h = (σ, n, cc)

-- a run ends in one way
pub one_end : (m : Meaning) → Keeps m → (n n' : ℕ) (σ : State) (e e' : End) → end_of (m n σ) ≡ Some e → end_of (m n' σ) ≡ Some e' → e ≡ e'
one_end m keeps n n' σ e e' h h' =
    let r = ended (m n σ) e h in
    let r' = ended (m n' σ) e' h' in
    ⊎_elim
    (λ (below : n < n'). let got : end_of (m n' σ) ≡ Some e = with_more m keeps n n' (omega arith) σ e r.0 r.1 r.2 in cc)
    (λ (below : n' ≤ n). let got : end_of (m n σ) ≡ Some e' = with_more m keeps n' n below σ e' r'.0 r'.1 r'.2 in cc)
    (cases_lt n n')
