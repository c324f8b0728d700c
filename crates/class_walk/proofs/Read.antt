-- The steps are read off the ring.
use Rattle.std.proofs.Common.{◌≡◌, ℕ, zero, suc, ◌+◌, ◌-◌, ◌<◌, ◌≤◌, Some, None, List, [], ◌∷◌, ◌++◌, length, get_or, inl, inr, sym, refl, ap, subst, ◌∙◌, arith}
use Rattle.std.proofs.lemmas.Bool.{lt-ltb, le-ltb}
use Rattle.std.proofs.lemmas.List.{append-nil, append_assoc, length-append}
use Rattle.std.proofs.lemmas.Option.{slice_get_within, get_or_from_slice_get}
use Rattle.std.specs.List.{slice_get}
use Rattle.class_chains.specs.Ends.{IsAboveFirst}
use Rattle.class_rows.specs.declared.row.TypeRow.{TypeRow}
use Rattle.class_rows.specs.Types.{IsAbove}
use Rattle.class_walk.specs.declared.walk.Step.{Step}
use Rattle.class_walk.specs.declared.walk.Step.TheVariants.{Enter, Leave}
use Rattle.class_walk.specs.Walk.{IsWholeWalk}
use Rattle.class_walk.specs.Ring.{node_head, node_of, type_of, step_at, Spells, Has, LacksNode, AreApart, IsRing}

has_at : (steps : List Step) (r : Step) → Has steps r → (k : ℕ) × (slice_get steps k ≡ Some r)
has_at [] r h = absurd h
has_at (s ∷ steps) r (inl e) = (0, ap Some e)
has_at (s ∷ steps) r (inr h) = let at = has_at steps r h in (suc at.0, at.1)

lacks_at : (n v k : ℕ) (steps : List Step) (r : Step) → LacksNode n v steps → slice_get steps k ≡ Some r → node_of n r ≡ v → ⊥
lacks_at n v k [] r lacks e same = let o : None ≡ Some r = e in absurd cc
lacks_at n v zero (s ∷ steps) r lacks e same = let o : s ≡ r = cc in lacks.0 (ap (node_of n) o ∙ same)
lacks_at n v (suc k) (s ∷ steps) r lacks e same = lacks_at n v k steps r lacks.1 e same

once_at : (n : ℕ) (steps : List Step) (r : Step) (j k : ℕ) → AreApart n steps → slice_get steps j ≡ Some r → slice_get steps k ≡ Some r → j ≡ k
once_at n [] r j k apart p q = let o : None ≡ Some r = p in absurd cc
once_at n (s ∷ steps) r zero zero apart p q = refl
once_at n (s ∷ steps) r zero (suc k) apart p q = let o : s ≡ r = cc in absurd (lacks_at n (node_of n s) k steps r apart.1 q (ap (node_of n) (sym o)))
once_at n (s ∷ steps) r (suc j) zero apart p q = let o : s ≡ r = cc in absurd (lacks_at n (node_of n s) j steps r apart.1 p (ap (node_of n) (sym o)))
once_at n (s ∷ steps) r (suc j) (suc k) apart p q = ap suc (once_at n steps r j k apart.2 p q)

-- the whole ring is a walk over all types
pub whole_walk : (types : List TypeRow) (next order : List ℕ) → IsAboveFirst (IsAbove types) (length types) order → (ring : IsRing types next order (length order)) → IsWholeWalk types ring.steps
whole_walk types next order first ring = record {
  walk = ring.walk;
  whole = λ t lt.
      let at = first.all t lt in
      has_at ring.steps (Enter (record { 0 = t })) (ring.has at.0 t (slice_get_within order at.0 t at.1) at.1);
  once = λ j k t p q. once_at (length types) ring.steps (Enter (record { 0 = t })) j k ring.apart p q;
}

-- the node where the reading stands leads to these steps
abbrev pub Leads : ℕ → List ℕ → ℕ → List Step → Type 0
Leads n next at [] = at ≡ node_head n
Leads n next at (s ∷ rest) = (at ≡ node_of n s) × (type_of s < n) × Spells n next (node_of n s) rest

-- so many steps are read
pub record IsRead (n : ℕ) (next : List ℕ) (steps done : List Step) (at : ℕ) : Type 0 where
  pub rest : List Step
  pub whole : steps ≡ done ++ rest
  pub apart : AreApart n rest
  pub leads : Leads n next at rest

leads_from : (n : ℕ) (next : List ℕ) (f : ℕ) (steps : List Step) → AreApart n steps → Spells n next f steps → Leads n next (get_or next f 0) steps
leads_from n next f [] apart spells = get_or_from_slice_get next f (node_head n) 0 spells
leads_from n next f (s ∷ steps) apart spells = (get_or_from_slice_get next f (node_of n s) 0 spells.0, apart.0, spells.1)

step_back : (n : ℕ) (s : Step) → type_of s < n → step_at n (node_of n s) ≡ s
step_back n (Enter u) lt = let small : u.0 < n = lt in rw (lt-ltb u.0 n small) refl
step_back n (Leave u) lt =
    let ge : n ≤ n + u.0 = omega arith in
    let back : n + u.0 - n ≡ u.0 = omega arith in
    rw (le-ltb (n + u.0) n ge) (ap (λ (v : ℕ). Leave (record { 0 = v })) back)

node_small : (n : ℕ) (s : Step) → type_of s < n → node_of n s < node_head n
node_small n (Enter u) lt = omega (arith, lt)
node_small n (Leave u) lt = omega (arith, lt)

pub read_begins : (n : ℕ) (next : List ℕ) (steps : List Step) → AreApart n steps → Spells n next (node_head n) steps → IsRead n next steps [] (get_or next (node_head n) 0)
read_begins n next steps apart spells = record { rest = steps; whole = refl; apart = apart; leads = leads_from n next (node_head n) steps apart spells }

read_next : (n : ℕ) (next : List ℕ) (steps done rest : List Step) (at : ℕ) → at < node_head n → steps ≡ done ++ rest → AreApart n rest → Leads n next at rest → IsRead n next steps (done ++ (step_at n at ∷ [])) (get_or next at 0)
read_next n next steps done [] at lt whole apart leads = absurd (omega (arith, lt, leads))
read_next n next steps done (s ∷ rest) at lt whole apart leads =
    let e : step_at n at ≡ s = ap (step_at n) leads.0 ∙ step_back n s leads.1 in
    let go = leads_from n next (node_of n s) rest apart.2 leads.2 in
    record {
      rest = rest;
      whole = whole ∙ sym (append_assoc done (s ∷ []) rest) ∙ ap (λ (r : Step). (done ++ (r ∷ [])) ++ rest) (sym e);
      apart = apart.2;
      leads = subst (λ (v : ℕ). Leads n next (get_or next v 0) rest) (sym leads.0) go;
    }

pub read_more : (n : ℕ) (next : List ℕ) (steps done : List Step) (at : ℕ) → at < node_head n → IsRead n next steps done at → IsRead n next steps (done ++ (step_at n at ∷ [])) (get_or next at 0)
read_more n next steps done at lt read = read_next n next steps done read.rest at lt read.whole read.apart read.leads

all_read : (n : ℕ) (next : List ℕ) (steps done rest : List Step) (at : ℕ) → node_head n ≤ at → steps ≡ done ++ rest → Leads n next at rest → steps ≡ done
all_read n next steps done [] at le whole leads = whole ∙ append-nil done
all_read n next steps done (s ∷ rest) at le whole leads = let small = node_small n s leads.1 in let e = leads.0 in absurd (omega (arith, le, small, e))

pub read_ends : (n : ℕ) (next : List ℕ) (steps done : List Step) (at : ℕ) → node_head n ≤ at → IsRead n next steps done at → steps ≡ done
read_ends n next steps done at le read = all_read n next steps done read.rest at le read.whole read.leads

-- fewer steps are read than twice the types of the order
pub read_few : (n : ℕ) (next : List ℕ) (steps done : List Step) (at : ℕ) → at < node_head n → IsRead n next steps done at → length done < length steps
read_few n next steps done at lt read = left done read.rest read.whole read.leads
  where
    left : (done rest : List Step) → steps ≡ done ++ rest → Leads n next at rest → length done < length steps
    left done [] whole leads = absurd (omega (arith, lt, leads))
    left done (s ∷ rest) whole leads = let e = ap length whole ∙ length-append done (s ∷ rest) in omega (arith, e)
