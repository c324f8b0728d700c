-- A hunt down a stack for the first number of which a fact holds.
use Rattle.std.proofs.Common.{◌≡◌, ℕ, suc, ◌+◌, ◌<◌, true, false, cond, nat_eq, Option, Some, None, List, [], ◌∷◌, ◌++◌, length, inl, inr, sym, refl, ap, subst, ◌∙◌, arith}
use Rattle.std.proofs.lemmas.Bool.{eq-eqb, eqb-true}
use Rattle.std.proofs.lemmas.List.{append_assoc, length-append}
use Rattle.std.specs.List.{slice_get}
use Rattle.class_rows.specs.declared.row.TypeRow.{TypeRow}
use Rattle.class_rows.specs.declared.row.MemberRow.{MemberRow}
use Rattle.class_open.specs.Trail.{Has, FirstIn, IsAlikeTo}
use Rattle.class_open.specs.Signs.{AreSigns}
use Rattle.class_open.specs.Stacks.{AreOnce, Leads}

-- how many stand behind the first place of a number, and how far a hunt may still go
abbrev pub behind : List ℕ → ℕ → ℕ
behind [] n = 0
behind (m ∷ trail) n = cond (nat_eq m n) (length trail) (behind trail n)

abbrev pub depth : List ℕ → Option ℕ → ℕ
depth trail None = 0
depth trail (Some n) = suc (behind trail n)

has_last : (xs ys : List ℕ) (n : ℕ) → Has (xs ++ (n ∷ ys)) n
has_last [] ys n = inl refl
has_last (x ∷ xs) ys n = inr (has_last xs ys n)

behind_at : (before rest : List ℕ) (n : ℕ) → AreOnce (before ++ (n ∷ rest)) → behind (before ++ (n ∷ rest)) n ≡ length rest
behind_at [] rest n once = rw (eq-eqb n n refl) refl
behind_at (x ∷ before) rest n once =
    elim (nat_eq x n) as (λ b. nat_eq x n ≡ b → cond b (length (before ++ (n ∷ rest))) (behind (before ++ (n ∷ rest)) n) ≡ length rest) [
      | true ↦ λ e. absurd (once.0 (subst (λ (k : ℕ). Has (before ++ (n ∷ rest)) k) (sym (eqb-true x n e)) (has_last before rest n)))
      | false ↦ λ e. behind_at before rest n once.1
    ] refl

behind_in : (trail before rest : List ℕ) (n : ℕ) → trail ≡ before ++ (n ∷ rest) → AreOnce trail → behind trail n ≡ length rest
behind_in trail before rest n whole once = ap (λ (l : List ℕ). behind l n) whole ∙ behind_at before rest n (subst (λ (l : List ℕ). AreOnce l) whole once)

-- the hunt through a list stands here
pub record IsHunt (Fact : ℕ → Type 0) (signs : List ℕ) (below : List (Option ℕ)) (s : ℕ) (trail : List ℕ) (at : Option ℕ) : Type 0 where
  pub passed : List ℕ
  pub rest : List ℕ
  pub whole : trail ≡ passed ++ rest
  pub leads : Leads signs below s rest at
  pub none : (k : ℕ) → Has passed k → Fact k → ⊥

-- the number there, and what stands below it
pub record IsHit (Fact : ℕ → Type 0) (signs : List ℕ) (below : List (Option ℕ)) (s : ℕ) (trail : List ℕ) (n : ℕ) : Type 0 where
  pub before : List ℕ
  pub after : List ℕ
  pub whole : trail ≡ before ++ (n ∷ after)
  pub none : (k : ℕ) → Has before k → Fact k → ⊥
  pub next : Option ℕ
  pub stands : slice_get below n ≡ Some next
  pub leads : Leads signs below s after next

module _ (Fact : ℕ → Type 0) (signs : List ℕ) (below : List (Option ℕ)) (s : ℕ) (sign : (k : ℕ) → Fact k → slice_get signs k ≡ Some s) where
  pub hunt_begins : (trail : List ℕ) (at : Option ℕ) → Leads signs below s trail at → IsHunt Fact signs below s trail at
  hunt_begins trail at leads = record { passed = []; rest = trail; whole = refl; leads = leads; none = λ k h. absurd h }

  none_more : (passed : List ℕ) (m : ℕ) → (Fact m → ⊥) → ((k : ℕ) → Has passed k → Fact k → ⊥) → (k : ℕ) → Has (passed ++ (m ∷ [])) k → Fact k → ⊥
  none_more [] m off none k (inl e) fact = off (subst Fact (sym e) fact)
  none_more [] m off none k (inr h) fact = absurd h
  none_more (x ∷ passed) m off none k (inl e) fact = none k (inl e) fact
  none_more (x ∷ passed) m off none k (inr h) fact = none_more passed m off (λ j has. none j (inr has)) k h fact

  hit_in : (trail passed rest : List ℕ) (n : ℕ) → trail ≡ passed ++ rest → ((k : ℕ) → Has passed k → Fact k → ⊥) → Leads signs below s rest (Some n) → IsHit Fact signs below s trail n
  hit_in trail passed [] n whole none leads = let e : Some n ≡ None = leads in absurd cc
  hit_in trail passed (m ∷ rest) n whole none (inl skip) =
      hit_in trail (passed ++ (m ∷ [])) rest n (whole ∙ sym (append_assoc passed (m ∷ []) rest)) (none_more passed m (λ fact. skip.0 (sign m fact)) none) skip.1
  hit_in trail passed (m ∷ rest) n whole none (inr one) =
      let e : Some n ≡ Some m = one.1 in
      let same : m ≡ n = cc in
      record {
        before = passed;
        after = rest;
        whole = whole ∙ ap (λ (k : ℕ). passed ++ (k ∷ rest)) same;
        none = none;
        next = one.2;
        stands = ap (λ (k : ℕ). slice_get below k) (sym same) ∙ one.3;
        leads = one.4;
      }

  pub hit : (trail : List ℕ) (n : ℕ) → IsHunt Fact signs below s trail (Some n) → IsHit Fact signs below s trail n
  hit trail n hunt = hit_in trail hunt.passed hunt.rest n hunt.whole hunt.none hunt.leads

  first_behind : (before after : List ℕ) (n : ℕ) → ((k : ℕ) → Has before k → Fact k → ⊥) → Fact n → FirstIn Fact (before ++ (n ∷ after)) n
  first_behind [] after n none fact = inl (refl, fact)
  first_behind (x ∷ before) after n none fact = inr (none x (inl refl), first_behind before after n (λ k h. none k (inr h)) fact)

  pub hunt_found : (trail : List ℕ) (n : ℕ) → IsHunt Fact signs below s trail (Some n) → Fact n → FirstIn Fact trail n
  hunt_found trail n hunt fact =
      let h = hit trail n hunt in
      subst (λ (l : List ℕ). FirstIn Fact l n) (sym h.whole) (first_behind h.before h.after n h.none fact)

  pub hunt_on : (trail : List ℕ) (n : ℕ) (o : Option ℕ) → IsHunt Fact signs below s trail (Some n) → (Fact n → ⊥) → (slice_get below n ≡ Some o) → IsHunt Fact signs below s trail o
  hunt_on trail n o hunt off at =
      let h = hit trail n hunt in
      let e : Some h.next ≡ Some o = sym h.stands ∙ at in
      let same : h.next ≡ o = cc in
      record {
        passed = h.before ++ (n ∷ []);
        rest = h.after;
        whole = h.whole ∙ sym (append_assoc h.before (n ∷ []) h.after);
        leads = subst (λ (x : Option ℕ). Leads signs below s h.after x) same h.leads;
        none = none_more h.before n off h.none;
      }

  none_left : (rest : List ℕ) → Leads signs below s rest None → (k : ℕ) → Has rest k → Fact k → ⊥
  none_left [] leads k has fact = absurd has
  none_left (m ∷ rest) (inl skip) k (inl e) fact = skip.0 (sign m (subst Fact (sym e) fact))
  none_left (m ∷ rest) (inl skip) k (inr h) fact = none_left rest skip.1 k h fact
  none_left (m ∷ rest) (inr one) k has fact = let e : None ≡ Some m = one.1 in absurd cc

  none_in : (passed rest : List ℕ) → ((k : ℕ) → Has passed k → Fact k → ⊥) → ((k : ℕ) → Has rest k → Fact k → ⊥) → (k : ℕ) → Has (passed ++ rest) k → Fact k → ⊥
  none_in [] rest none left k h fact = left k h fact
  none_in (x ∷ passed) rest none left k (inl e) fact = none k (inl e) fact
  none_in (x ∷ passed) rest none left k (inr h) fact = none_in passed rest (λ j has. none j (inr has)) left k h fact

  pub hunt_ends : (trail : List ℕ) → IsHunt Fact signs below s trail None → (k : ℕ) → Has trail k → Fact k → ⊥
  hunt_ends trail hunt k has fact =
      none_in hunt.passed hunt.rest hunt.none (none_left hunt.rest hunt.leads) k (subst (λ (l : List ℕ). Has l k) hunt.whole has) fact

  -- below a number fewer stand behind
  pub hunt_lower : (trail : List ℕ) (n : ℕ) (o : Option ℕ) → AreOnce trail → IsHunt Fact signs below s trail (Some n) → (Fact n → ⊥) → slice_get below n ≡ Some o → depth trail o < depth trail (Some n)
  hunt_lower trail n None once hunt off at = omega arith
  hunt_lower trail n (Some k) once hunt off at =
      let h = hit trail n hunt in
      let next : Some h.next ≡ Some (Some k) = sym h.stands ∙ at in
      let same : h.next ≡ Some k = cc in
      let g = hit_in h.after [] h.after k refl (λ j none. absurd none) (subst (λ (x : Option ℕ). Leads signs below s h.after x) same h.leads) in
      let whole : trail ≡ (h.before ++ (n ∷ g.before)) ++ (k ∷ g.after) = h.whole ∙ ap (λ (l : List ℕ). h.before ++ (n ∷ l)) g.whole ∙ sym (append_assoc h.before (n ∷ g.before) (k ∷ g.after)) in
      let a : behind trail n ≡ length h.after = behind_in trail h.before h.after n h.whole once in
      let b : behind trail k ≡ length g.after = behind_in trail (h.before ++ (n ∷ g.before)) g.after k whole once in
      let long : length h.after ≡ length g.before + suc (length g.after) = ap length g.whole ∙ length-append g.before (k ∷ g.after) in
      omega (arith, a, b, long)

-- a member that is alike to this one has its sign
pub alike_sign : (types : List TypeRow) (members : List MemberRow) (signs : List ℕ) (m s : ℕ) (row : MemberRow) → AreSigns members signs → slice_get members m ≡ Some row → slice_get signs m ≡ Some s → (k : ℕ) → IsAlikeTo types members row k → slice_get signs k ≡ Some s
alike_sign types members signs m s row are stands at k alike = are.alike types k m alike.row row alike.stands stands alike.is ∙ at
