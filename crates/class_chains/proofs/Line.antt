-- The visits of a walk: each stands on a way up from the one below it.
use Rattle.std.proofs.Common.{◌≡◌, ◌≢◌, ◌⊎◌, ℕ, ◌+◌, ◌-◌, ◌<◌, ◌≤◌, Option, Some, None, List, [], ◌∷◌, ◌++◌, length, get_or, zero, suc, inl, inr, sym, refl, ap, subst, ◌∙◌, arith}
use Rattle.std.proofs.Math.ListN.{set, length-set}
use Rattle.std.proofs.lemmas.Bool.{cases_lt}
use Rattle.std.proofs.lemmas.Option.{slice_get_within, slice_get_past, slice_get-get_or}
use Rattle.std.specs.List.{slice_get}
use Rattle.class_chains.specs.declared.walk.Mark.{Mark}
use Rattle.class_chains.specs.declared.walk.Mark.TheVariants.{New, Walked, Ends as EndsMark}
use Rattle.class_chains.specs.declared.walk.Visit.{Visit}
use Rattle.class_chains.specs.Ends.{Ends, ends, IsWay, ways_of, IsAboveFirst}
use Rattle.class_chains.specs.Walk.{MarksEnds, NoneIsWalked, IsKnown, IsOrderSoFar, IsBetween}
use Rattle.class_chains.proofs.Marks.{at_set, set_at, new_work, new_work-end, new_work-walk}

-- where each of some numbers has another of them above it, none of them ends
pub goes_on : (up : ℕ → ℕ → Type 0) (S : ℕ → Type 0) → ((t : ℕ) → S t → (b : ℕ) × up t b × S b) → (t : ℕ) → Ends up t → S t → ⊥
goes_on up S above t (ends u all) s = let next = above u s in goes_on up S above next.0 (all next.0 next.1) next.2

-- a visit of a number in the list, whose passed ways end
pub record IsVisit (ways : List (List ℕ)) (order : List ℕ) (v : Visit) : Type 0 where
  pub within : v.at < length ways
  pub passed : (i b : ℕ) → i < v.passed → slice_get (ways_of ways v.at) i ≡ Some b → Ends (IsWay ways) b
  pub behind : (i b : ℕ) → i < v.passed → slice_get (ways_of ways v.at) i ≡ Some b → IsKnown ways order b

-- the visits, the last one first; when the first is over, all chains from the root end
abbrev pub IsLine : List (List ℕ) → List ℕ → ℕ → List Visit → Type 0
IsLine ways order root [] = Ends (IsWay ways) root × ((k : ℕ) × (slice_get order k ≡ Some root))
IsLine ways order root (v ∷ []) = IsVisit ways order v × (v.at ≡ root)
IsLine ways order root (v ∷ (w ∷ rest)) = IsVisit ways order v × IsWay ways w.at v.at × IsLine ways order root (w ∷ rest)

-- a visit of this number is among them
abbrev pub IsOn : List Visit → ℕ → Type 0
IsOn [] s = ⊥
IsOn (v ∷ rest) s = (v.at ≡ s) ⊎ IsOn rest s

pub record IsWalk (ways : List (List ℕ)) (order : List ℕ) (root : ℕ) (marks : List Mark) (stack : List Visit) : Type 0 where
  pub long : length marks ≡ length ways
  pub known : MarksEnds ways order marks
  pub ordered : IsOrderSoFar ways order
  pub walked : (s : ℕ) → slice_get marks s ≡ Some Walked → IsOn stack s
  pub line : IsLine ways order root stack

-- what is left to do at the visits
abbrev pub visit_work : List (List ℕ) → List Visit → ℕ
visit_work ways [] = 0
visit_work ways (v ∷ rest) = (length (ways_of ways v.at) - v.passed) + 1 + visit_work ways rest

pub top : (ways : List (List ℕ)) (order : List ℕ) (root : ℕ) (v : Visit) (rest : List Visit) → IsLine ways order root (v ∷ rest) → IsVisit ways order v
top ways order root v [] line = line.0
top ways order root v (w ∷ rest) line = line.0

-- a number all of whose ways were passed ends
pub finished : (ways : List (List ℕ)) (order : List ℕ) (v : Visit) → IsVisit ways order v → length (ways_of ways v.at) ≤ v.passed → Ends (IsWay ways) v.at
finished ways order v visit all =
    ends v.at (λ b way.
    let lt : way.0 < length (ways_of ways v.at) = slice_get_within _ _ _ way.1 in
    visit.passed way.0 b (omega arith) way.1)

-- one more in the order
pub at_left : {X : Type 0} (xs ys : List X) (k : ℕ) (y : X) → slice_get xs k ≡ Some y → slice_get (xs ++ ys) k ≡ Some y
at_left [] ys k y h = let e : None ≡ Some y = h in cc
at_left (x ∷ xs) ys zero y h = h
at_left (x ∷ xs) ys (suc k) y h = at_left xs ys k y h

pub at_end : {X : Type 0} (xs : List X) (x : X) → slice_get (xs ++ (x ∷ [])) (length xs) ≡ Some x
at_end [] x = refl
at_end (y ∷ xs) x = at_end xs x

pub at_push : {X : Type 0} (xs : List X) (x : X) (k : ℕ) (y : X) → slice_get (xs ++ (x ∷ [])) k ≡ Some y → (slice_get xs k ≡ Some y) ⊎ ((k ≡ length xs) × (y ≡ x))
at_push [] x zero y h = inr (refl, cc)
at_push [] x (suc k) y h = let e : None ≡ Some y = h in cc
at_push (z ∷ xs) x zero y h = inl h
at_push (z ∷ xs) x (suc k) y h = elim (at_push xs x k y h) [ inl e ↦ inl e | inr p ↦ inr (ap suc p.0, p.1) ]

known_more : (ways : List (List ℕ)) (order : List ℕ) (x b : ℕ) → IsKnown ways order b → IsKnown ways (order ++ (x ∷ [])) b
known_more ways order x b (inl past) = inl past
known_more ways order x b (inr place) = inr (place.0, at_left order (x ∷ []) place.0 b place.1)

visit_more : (ways : List (List ℕ)) (order : List ℕ) (x : ℕ) (v : Visit) → IsVisit ways order v → IsVisit ways (order ++ (x ∷ [])) v
visit_more ways order x v visit = record {
  within = visit.within;
  passed = visit.passed;
  behind = λ i b lt way. known_more ways order x b (visit.behind i b lt way);
}

line_more : (ways : List (List ℕ)) (order : List ℕ) (root x : ℕ) (v : Visit) (rest : List Visit) → IsLine ways order root (v ∷ rest) → IsLine ways (order ++ (x ∷ [])) root (v ∷ rest)
line_more ways order root x v [] line = (visit_more ways order x v line.0, line.1)
line_more ways order root x v (w ∷ rest) line =
    (visit_more ways order x v line.0, line.1, line_more ways order root x w rest line.2)

pub popped : (ways : List (List ℕ)) (order : List ℕ) (root : ℕ) (v : Visit) (rest : List Visit) → IsLine ways order root (v ∷ rest) → Ends (IsWay ways) v.at → IsLine ways (order ++ (v.at ∷ [])) root rest
popped ways order root v [] line done = (
  subst (λ (t : ℕ). Ends (IsWay ways) t) line.1 done,
  (length order, subst (λ (t : ℕ). slice_get (order ++ (v.at ∷ [])) (length order) ≡ Some t) line.1 (at_end order v.at)),
)
popped ways order root v (w ∷ rest) line done = line_more ways order root v.at w rest line.2

-- the order goes on with a number whose ways all lead to what is known
ordered_more : (ways : List (List ℕ)) (order : List ℕ) (x : ℕ) → IsOrderSoFar ways order → x < length ways → ((b : ℕ) → IsWay ways x b → IsKnown ways order b) → IsOrderSoFar ways (order ++ (x ∷ []))
ordered_more ways order x ordered lt behind = record {
  within = λ k t h. elim (at_push order x k t h) [
    | inl e ↦ ordered.within k t e
    | inr p ↦ subst (λ (n : ℕ). n < length ways) (sym p.1) lt
  ];
  above = λ k t b h way inside. elim (at_push order x k t h) [
    | inl e ↦ let place = ordered.above k t b e way inside in (place.0, place.1, at_left order (x ∷ []) place.0 b place.2)
    | inr p ↦ elim (behind b (subst (λ (n : ℕ). IsWay ways n b) p.1 way)) [
      | inl past ↦ absurd (omega arith)
      | inr place ↦
          let lt2 = slice_get_within order place.0 b place.1 in
          (place.0, omega (arith, lt2, p.0), at_left order (x ∷ []) place.0 b place.1)
    ]
  ];
}

-- another visit of the same number
pub again : (ways : List (List ℕ)) (order : List ℕ) (root : ℕ) (v u : Visit) (rest : List Visit) → u.at ≡ v.at → IsVisit ways order u → IsLine ways order root (v ∷ rest) → IsLine ways order root (u ∷ rest)
again ways order root v u [] same visit line = (visit, same ∙ line.1)
again ways order root v u (w ∷ rest) same visit line = (visit, subst (λ (t : ℕ). IsWay ways w.at t) (sym same) line.1, line.2)

-- the numbers on the line, where the topmost has one of them above it, go on for ever
rises : (ways : List (List ℕ)) (order : List ℕ) (root : ℕ) (v : Visit) (rest : List Visit) (S : ℕ → Type 0) → IsLine ways order root (v ∷ rest) → ((b : ℕ) × IsWay ways v.at b × S b) → ((s : ℕ) → IsOn (v ∷ rest) s → S s) → (t : ℕ) → IsOn (v ∷ rest) t → (b : ℕ) × IsWay ways t b × S b
rises ways order root v [] S line way all t (inl e) = subst (λ (t : ℕ). (b : ℕ) × IsWay ways t b × S b) e way
rises ways order root v [] S line way all t (inr none) = absurd none
rises ways order root v (w ∷ rest) S line way all t (inl e) = subst (λ (t : ℕ). (b : ℕ) × IsWay ways t b × S b) e way
rises ways order root v (w ∷ rest) S line way all t (inr on) =
    rises ways order root w rest S line.2 (v.at, line.1, all v.at (inl refl)) (λ s h. all s (inr h)) t on

at_root : (ways : List (List ℕ)) (order : List ℕ) (root : ℕ) (v : Visit) (rest : List Visit) → IsLine ways order root (v ∷ rest) → IsOn (v ∷ rest) root
at_root ways order root v [] line = inl line.1
at_root ways order root v (w ∷ rest) line = inr (at_root ways order root w rest line.2)

pub round : (ways : List (List ℕ)) (order : List ℕ) (root : ℕ) (v : Visit) (rest : List Visit) (b : ℕ) → IsLine ways order root (v ∷ rest) → IsWay ways v.at b → IsOn (v ∷ rest) b → Ends (IsWay ways) root → ⊥
round ways order root v rest b line way on over =
    goes_on (IsWay ways) (IsOn (v ∷ rest))
    (rises ways order root v rest (IsOn (v ∷ rest)) line (b, way, on) (λ s h. h))
    root over (at_root ways order root v rest line)

pub past_ends : (ways : List (List ℕ)) (b : ℕ) → length ways ≤ b → Ends (IsWay ways) b
past_ends ways b past =
    let none = slice_get_past ways b past in
    ends b (λ t way. let h = rw none at way.1 in let k : None ≡ Some t = h in cc)

-- a number at which no mark stands is past the list
no_mark : (marks : List Mark) (b : ℕ) → slice_get marks b ≡ None → length marks ≤ b
no_mark [] b h = omega arith
no_mark (m ∷ marks) zero h = let k : Some m ≡ None = h in cc
no_mark (m ∷ marks) (suc b) h = omega (arith, no_mark marks b h)

-- the last visit is over
pub over : (ways : List (List ℕ)) (order : List ℕ) (root : ℕ) (marks : List Mark) (v : Visit) (rest : List Visit) → IsWalk ways order root marks (v ∷ rest) → length (ways_of ways v.at) ≤ v.passed → IsWalk ways (order ++ (v.at ∷ [])) root (set marks v.at EndsMark) rest
over ways order root marks v rest walk all =
    let visit = top ways order root v rest walk.line in
    let done = finished ways order v visit all in
    record {
      long = omega (arith, length-set marks v.at EndsMark, walk.long);
      known = λ s h. elim (at_set marks v.at EndsMark s EndsMark h) [
        | inl p ↦ (
          subst (λ (t : ℕ). Ends (IsWay ways) t) (sym p.0) done,
          (length order, subst (λ (t : ℕ). slice_get (order ++ (v.at ∷ [])) (length order) ≡ Some t) (sym p.0) (at_end order v.at)),
        )
        | inr p ↦ let known = walk.known s p.1 in (known.0, (known.1.0, at_left order (v.at ∷ []) known.1.0 s known.1.1))
      ];
      ordered = ordered_more ways order v.at walk.ordered visit.within
          (λ b way. let lt = slice_get_within (ways_of ways v.at) way.0 b way.1 in visit.behind way.0 b (omega (arith, lt)) way.1);
      walked = λ s h. elim (at_set marks v.at EndsMark s Walked h) [
        | inl p ↦ let k : Walked ≡ EndsMark = p.1 in cc
        | inr p ↦ elim (walk.walked s p.1) [ inl e ↦ absurd (p.0 (sym e)) | inr on ↦ on ]
      ];
      line = popped ways order root v rest walk.line done;
    }

pub over-smaller : (ways : List (List ℕ)) (marks : List Mark) (v : Visit) (rest : List Visit) → new_work ways (set marks v.at EndsMark) + visit_work ways rest < new_work ways marks + visit_work ways (v ∷ rest)
over-smaller ways marks v rest = omega (arith, new_work-end ways marks v.at)

-- a way that ends was passed
pub passed_one : (ways : List (List ℕ)) (order : List ℕ) (root : ℕ) (marks : List Mark) (v u : Visit) (rest : List Visit) (b : ℕ) → IsWalk ways order root marks (v ∷ rest) → u.at ≡ v.at → u.passed ≡ v.passed + 1 → slice_get (ways_of ways v.at) v.passed ≡ Some b → ((slice_get marks b ≡ None) ⊎ (slice_get marks b ≡ Some EndsMark)) → IsWalk ways order root marks (u ∷ rest)
passed_one ways order root marks v u rest b walk same more way found =
    let visit = top ways order root v rest walk.line in
    let past : slice_get marks b ≡ None → length ways ≤ b = λ none. omega (arith, no_mark marks b none, walk.long) in
    let done : Ends (IsWay ways) b = elim found [ inl none ↦ past_ends ways b (past none) | inr mark ↦ (walk.known b mark).0 ] in
    let known : IsKnown ways order b = elim found [ inl none ↦ inl (past none) | inr mark ↦ inr (walk.known b mark).1 ] in
    let next : IsVisit ways order u = record {
      within = omega (arith, visit.within, same);
      passed = λ i t lt h. elim (cases_lt i v.passed) [
        | inl below ↦ visit.passed i t below (rw same at h)
        | inr above ↦
            let e : i ≡ v.passed = omega arith in
            let h2 : slice_get (ways_of ways v.at) v.passed ≡ Some t = subst (λ (j : ℕ). slice_get (ways_of ways v.at) j ≡ Some t) e (rw same at h) in
            let k : b ≡ t = cc in subst (λ (t : ℕ). Ends (IsWay ways) t) k done
      ];
      behind = λ i t lt h. elim (cases_lt i v.passed) [
        | inl below ↦ visit.behind i t below (rw same at h)
        | inr above ↦
            let e : i ≡ v.passed = omega arith in
            let h2 : slice_get (ways_of ways v.at) v.passed ≡ Some t = subst (λ (j : ℕ). slice_get (ways_of ways v.at) j ≡ Some t) e (rw same at h) in
            let k : b ≡ t = cc in subst (λ (t : ℕ). IsKnown ways order t) k known
      ];
    } in
    record {
      long = walk.long;
      known = walk.known;
      ordered = walk.ordered;
      walked = λ s h. elim (walk.walked s h) [ inl e ↦ inl (same ∙ e) | inr on ↦ inr on ];
      line = again ways order root v u rest same next walk.line;
    }

-- a number that no walk had met is visited
pub visited : (ways : List (List ℕ)) (order : List ℕ) (root : ℕ) (marks : List Mark) (v u : Visit) (rest : List Visit) → IsWalk ways order root marks (v ∷ rest) → u.passed ≡ 0 → slice_get (ways_of ways v.at) v.passed ≡ Some u.at → slice_get marks u.at ≡ Some New → IsWalk ways order root (set marks u.at Walked) (u ∷ (v ∷ rest))
visited ways order root marks v u rest walk none way new =
    let next : IsVisit ways order u = record {
      within = omega (arith, slice_get_within marks u.at New new, walk.long);
      passed = λ i t lt h. absurd (omega arith);
      behind = λ i t lt h. absurd (omega arith);
    } in
    record {
      long = omega (arith, length-set marks u.at Walked, walk.long);
      known = λ s h. elim (at_set marks u.at Walked s EndsMark h) [
        | inl p ↦ let k : EndsMark ≡ Walked = p.1 in cc
        | inr p ↦ walk.known s p.1
      ];
      ordered = walk.ordered;
      walked = λ s h. elim (at_set marks u.at Walked s Walked h) [
        | inl p ↦ inl (sym p.0)
        | inr p ↦ inr (walk.walked s p.1)
      ];
      line = (next, (v.passed, way), walk.line);
    }

ways_at : (ways : List (List ℕ)) (b : ℕ) → b < length ways → slice_get ways b ≡ Some (ways_of ways b)
ways_at [] b h = absurd (omega arith)
ways_at (w ∷ ways) zero h = refl
ways_at (w ∷ ways) (suc b) h = ways_at ways b (omega arith)

pub visited-smaller : (ways : List (List ℕ)) (order : List ℕ) (root : ℕ) (marks : List Mark) (v u : Visit) (rest : List Visit) → IsWalk ways order root marks (v ∷ rest) → u.passed ≡ 0 → slice_get marks u.at ≡ Some New → new_work ways (set marks u.at Walked) + visit_work ways (u ∷ (v ∷ rest)) < new_work ways marks + visit_work ways (v ∷ rest)
visited-smaller ways order root marks v u rest walk none new =
    let lt : u.at < length ways = omega (arith, slice_get_within marks u.at New new, walk.long) in
    omega (arith, new_work-walk ways marks u.at (ways_of ways u.at) new (ways_at ways u.at lt))

pub passed_one-smaller : (ways : List (List ℕ)) (v u : Visit) (rest : List Visit) (n b : ℕ) → u.at ≡ v.at → u.passed ≡ v.passed + 1 → slice_get (ways_of ways v.at) v.passed ≡ Some b → n + visit_work ways (u ∷ rest) < n + visit_work ways (v ∷ rest)
passed_one-smaller ways v u rest n b same more way =
    let lt = slice_get_within (ways_of ways v.at) v.passed b way in
    let e : length (ways_of ways u.at) ≡ length (ways_of ways v.at) = ap (λ (t : ℕ). length (ways_of ways t)) same in
    omega (arith, lt, e)

-- the first visit
pub begun : (ways : List (List ℕ)) (order : List ℕ) (root : ℕ) (marks : List Mark) (v : Visit) → IsBetween ways order marks → slice_get marks root ≡ Some New → v.at ≡ root → v.passed ≡ 0 → IsWalk ways order root (set marks root Walked) (v ∷ [])
begun ways order root marks v between new same none = record {
  long = omega (arith, length-set marks root Walked, between.long);
  known = λ s h. elim (at_set marks root Walked s EndsMark h) [
    | inl p ↦ let k : EndsMark ≡ Walked = p.1 in cc
    | inr p ↦ between.known s p.1
  ];
  ordered = between.ordered;
  walked = λ s h. elim (at_set marks root Walked s Walked h) [
    | inl p ↦ inl (same ∙ sym p.0)
    | inr p ↦ absurd (between.unwalked s p.1)
  ];
  line = (
    record {
      within = omega (arith, slice_get_within marks root New new, between.long, same);
      passed = λ i t lt h. absurd (omega arith);
      behind = λ i t lt h. absurd (omega arith);
    },
    same,
  );
}

-- between two walks again
pub ended_walk : (ways : List (List ℕ)) (order : List ℕ) (root : ℕ) (marks : List Mark) → IsWalk ways order root marks [] → IsBetween ways order marks
ended_walk ways order root marks walk = record {
  long = walk.long;
  known = walk.known;
  unwalked = λ s h. walk.walked s h;
  ordered = walk.ordered;
}

-- a number that stands in no walk and isn't new ends
pub settled : (ways : List (List ℕ)) (order : List ℕ) (marks : List Mark) (root : ℕ) → IsBetween ways order marks → root < length ways → (slice_get marks root ≡ Some New → ⊥) → Ends (IsWay ways) root × ((k : ℕ) × (slice_get order k ≡ Some root))
settled ways order marks root between lt old =
    let at : slice_get marks root ≡ Some (get_or marks root New) = slice_get-get_or marks root New (omega (arith, between.long)) in
    by_mark (get_or marks root New) at
  where
    by_mark : (m : Mark) → slice_get marks root ≡ Some m → Ends (IsWay ways) root × ((k : ℕ) × (slice_get order k ≡ Some root))
    by_mark New at = absurd (old at)
    by_mark Walked at = absurd (between.unwalked root at)
    by_mark EndsMark at = between.known root at

-- when all numbers stand in the order
pub complete : (ways : List (List ℕ)) (order : List ℕ) (marks : List Mark) → IsBetween ways order marks → ((s : ℕ) → s < length ways → Ends (IsWay ways) s × ((k : ℕ) × (slice_get order k ≡ Some s))) → IsAboveFirst (IsWay ways) (length ways) order
complete ways order marks between all = record {
  all = λ t lt. (all t lt).1;
  within = between.ordered.within;
  above = between.ordered.above;
}
