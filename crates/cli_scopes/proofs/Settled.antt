-- The rows on the way of a walk: each stands in the one above it.
use Rattle.std.proofs.Common.{◌≡◌, ◌⊎◌, ℕ, zero, suc, ◌+◌, ◌<◌, ◌≤◌, true, false, cond, Option, Some, None, List, [], ◌∷◌, length, map, replicate, inl, inr, sym, refl, ap, subst, ◌∙◌, arith}
use Rattle.std.proofs.Math.ListN.{set, length-set}
use Rattle.std.specs.List.{slice_get}
use Rattle.std.specs.Option.{option_map}
use Rattle.std.proofs.lemmas.Option.{slice_get_within}
use Rattle.dc_base.specs.declared.names.TypeId.{TypeId}
use Rattle.class_keys.proofs.Items.{one_item, item_at}
use Rattle.cli_scopes.specs.declared.name.Within.{Within}
use Rattle.cli_scopes.specs.declared.name.Within.TheVariants.{References as InReferences, Own as InOwn, InType}
use Rattle.cli_scopes.specs.declared.name.TypeName.{TypeName}
use Rattle.cli_scopes.specs.declared.refs.Scope.{Scope}
use Rattle.cli_scopes.specs.declared.refs.Scope.TheVariants.{References, Own, InRef, Nowhere}
use Rattle.cli_scopes.specs.declared.refs.TypeRef.{TypeRef}
use Rattle.cli_scopes.specs.declared.walk.Mark.{Mark}
use Rattle.cli_scopes.specs.declared.walk.Mark.TheVariants.{New, Walked, Known}
use Rattle.cli_scopes.specs.Names.{first_of}
use Rattle.cli_scopes.specs.Meant.{IsFirstIn, IsTop, Means, at_top, inside, IsMeant, AreMeant}
use Rattle.cli_scopes.specs.Walk.{known_of, is_new, is_new_at, new_in, new_above_row, new_above, type_id, known_at, first_inside, answer_in, answer_row, answer, AreRight, IsBetween, StayMet, IsSettled}
use Rattle.cli_scopes.proofs.Marks.{at_set, new_work, new_work-known, new_work-walked}

-- ---- what rows mean

one_scope : (s t : ℕ) → InRef s ≡ InRef t → s ≡ t
one_scope s t e = cc

one_top : (scope : Scope) (v w : Within) → IsTop scope v → IsTop scope w → v ≡ w
one_top References v w p q = p ∙ sym q
one_top Own v w p q = p ∙ sym q
one_top (InRef s) v w p q = absurd p
one_top Nowhere v w p q = absurd p

not_both : (scope : Scope) (w : Within) (s : ℕ) → IsTop scope w → scope ≡ InRef s → ⊥
not_both References w s p e = let k : References ≡ InRef s = e in cc
not_both Own w s p e = let k : Own ≡ InRef s = e in cc
not_both (InRef t) w s p e = p
not_both Nowhere w s p e = p

one_first : (names : List TypeName) (v w : Within) (row : TypeRef) (t u : ℕ) → v ≡ w → IsFirstIn names v row t → IsFirstIn names w row u → t ≡ u
one_first names v w row t u e p q =
    let p2 : IsFirstIn names w row t = subst (λ (x : Within). IsFirstIn names x row t) e p in
    let k : Some t ≡ Some u = sym p2 ∙ q in cc

-- a row means one type
pub one_meaning : (names : List TypeName) (refs : List TypeRef) (r t u : ℕ) → Means names refs r t → Means names refs r u → t ≡ u
one_meaning names refs r t u (at_top ra ta row w stands top first) (at_top rb ub row2 w2 stands2 top2 first2) =
    let e : row ≡ row2 = one_item refs r row row2 stands stands2 in
    let top3 : IsTop row2.scope w = subst (λ (x : TypeRef). IsTop x.scope w) e top in
    one_first names w w2 row2 t u (one_top row2.scope w w2 top3 top2) (subst (λ (x : TypeRef). IsFirstIn names w x t) e first) first2
one_meaning names refs r t u (at_top ra ta row w stands top first) (inside rb s2 o2 ub row2 stands2 in2 outer2 first2) =
    let e : row ≡ row2 = one_item refs r row row2 stands stands2 in
    absurd (not_both row2.scope w s2 (subst (λ (x : TypeRef). IsTop x.scope w) e top) in2)
one_meaning names refs r t u (inside ra s o ta row stands in1 outer first) (at_top rb ub row2 w2 stands2 top2 first2) =
    let e : row ≡ row2 = one_item refs r row row2 stands stands2 in
    absurd (not_both row2.scope w2 s top2 (ap (λ (x : TypeRef). x.scope) (sym e) ∙ in1))
one_meaning names refs r t u (inside ra s o ta row stands in1 outer first) (inside rb s2 o2 ub row2 stands2 in2 outer2 first2) =
    let e : row ≡ row2 = one_item refs r row row2 stands stands2 in
    let same : s ≡ s2 = one_scope s s2 (sym in1 ∙ ap (λ (x : TypeRef). x.scope) e ∙ in2) in
    let same_outer : o ≡ o2 = one_meaning names refs s o o2 outer (subst (λ (x : ℕ). Means names refs x o2) (sym same) outer2) in
    one_first names (InType (record { 0 = o })) (InType (record { 0 = o2 })) row2 t u (ap (λ (x : ℕ). InType (record { 0 = x })) same_outer) (subst (λ (x : TypeRef). IsFirstIn names (InType (record { 0 = o })) x t) e first) first2

-- the row stands in that one
pub record StandsIn (refs : List TypeRef) (r s : ℕ) : Type 0 where
  pub row : TypeRef
  pub stands : slice_get refs r ≡ Some row
  pub scope : row.scope ≡ InRef s

-- rows each of which stands in another of them mean nothing
pub goes_round : (names : List TypeName) (refs : List TypeRef) (S : ℕ → Type 0) → ((r : ℕ) → S r → (s : ℕ) × StandsIn refs r s × S s) → (r t : ℕ) → Means names refs r t → S r → ⊥
goes_round names refs S round r t (at_top ra ta row w stands top first) on =
    let next = round r on in
    let e : row ≡ next.1.row = one_item refs r row next.1.row stands next.1.stands in
    not_both row.scope w next.0 top (ap (λ (x : TypeRef). x.scope) e ∙ next.1.scope)
goes_round names refs S round r t (inside ra s o ta row stands in1 outer first) on =
    let next = round r on in
    let e : row ≡ next.1.row = one_item refs r row next.1.row stands next.1.stands in
    let same : next.0 ≡ s = one_scope next.0 s (sym next.1.scope ∙ sym (ap (λ (x : TypeRef). x.scope) e) ∙ in1) in
    goes_round names refs S round s o outer (subst S same next.2)

-- ---- the stack

-- the row is on the way
abbrev pub IsOn : List ℕ → ℕ → Type 0
IsOn [] s = ⊥
IsOn (r ∷ rest) s = (r ≡ s) ⊎ IsOn rest s

-- the rows on the way, the last one first: each stands in the one above it
abbrev pub IsLine : List TypeRef → List ℕ → Type 0
IsLine refs [] = Unit {0}
IsLine refs (r ∷ []) = r < length refs
IsLine refs (r ∷ (s ∷ rest)) = (r < length refs) × StandsIn refs s r × IsLine refs (s ∷ rest)

pub record IsWalk (names : List TypeName) (refs : List TypeRef) (root : ℕ) (before marks : List Mark) (stack : List ℕ) : Type 0 where
  pub long : length marks ≡ length refs
  pub right : AreRight names refs marks
  pub walked : (s : ℕ) → slice_get marks s ≡ Some Walked → IsOn stack s
  pub line : IsLine refs stack
  pub met : slice_get marks root ≡ Some New → ⊥
  pub kept : StayMet before marks

top_within : (refs : List TypeRef) (r : ℕ) (rest : List ℕ) → IsLine refs (r ∷ rest) → r < length refs
top_within refs r [] line = line
top_within refs r (s ∷ rest) line = line.0

below : (refs : List TypeRef) (r : ℕ) (rest : List ℕ) → IsLine refs (r ∷ rest) → IsLine refs rest
below refs r [] line = tt
below refs r (s ∷ rest) line = line.2

-- the rows on the way, where the topmost stands in one of them, go round
rises : (refs : List TypeRef) (r : ℕ) (rest : List ℕ) (S : ℕ → Type 0) → IsLine refs (r ∷ rest) → ((s : ℕ) × StandsIn refs r s × S s) → ((s : ℕ) → IsOn (r ∷ rest) s → S s) → (t : ℕ) → IsOn (r ∷ rest) t → (s : ℕ) × StandsIn refs t s × S s
rises refs r [] S line way all t (inl e) = subst (λ (x : ℕ). (s : ℕ) × StandsIn refs x s × S s) e way
rises refs r [] S line way all t (inr none) = absurd none
rises refs r (w ∷ rest) S line way all t (inl e) = subst (λ (x : ℕ). (s : ℕ) × StandsIn refs x s × S s) e way
rises refs r (w ∷ rest) S line way all t (inr on) =
    rises refs w rest S line.2 (r, line.1, all r (inl refl)) (λ s h. all s (inr h)) t on

-- a row that stands in one on the way means nothing
round_means : (names : List TypeName) (refs : List TypeRef) (r s t : ℕ) (rest : List ℕ) → IsLine refs (r ∷ rest) → StandsIn refs r s → IsOn (r ∷ rest) s → Means names refs r t → ⊥
round_means names refs r s t rest line way on means =
    goes_round names refs (IsOn (r ∷ rest)) (rises refs r rest (IsOn (r ∷ rest)) line (s, way, on) (λ x h. h)) r t means (inl refl)

-- ---- answers

top_none : (names : List TypeName) (refs : List TypeRef) (r u : ℕ) (row : TypeRef) (w : Within) → first_of names (record { within = w; space = row.space; name = row.name }) ≡ None → slice_get refs r ≡ Some row → IsTop row.scope w → Means names refs r u → ⊥
top_none names refs r u row w is stands top (at_top ra ua row2 w2 stands2 top2 first2) =
    let e : row2 ≡ row = one_item refs r row2 row stands2 stands in
    let same : w2 ≡ w = one_top row.scope w2 w (subst (λ (x : TypeRef). IsTop x.scope w2) e top2) top in
    let found : IsFirstIn names w row u = subst (λ (x : Within). IsFirstIn names x row u) same (subst (λ (x : TypeRef). IsFirstIn names w2 x u) e first2) in
    let k : None ≡ Some u = sym is ∙ found in cc
top_none names refs r u row w is stands top (inside ra s2 o2 ua row2 stands2 in2 outer2 first2) =
    let e : row2 ≡ row = one_item refs r row2 row stands2 stands in
    not_both row.scope w s2 top (ap (λ (x : TypeRef). x.scope) (sym e) ∙ in2)

-- the answer at the top of a scope
first_means : (names : List TypeName) (refs : List TypeRef) (r : ℕ) (row : TypeRef) (w : Within) (first : Option ℕ) → first_of names (record { within = w; space = row.space; name = row.name }) ≡ first → slice_get refs r ≡ Some row → IsTop row.scope w → IsMeant names refs r (option_map type_id first)
first_means names refs r row w (Some t) is stands top = at_top r t row w stands top is
first_means names refs r row w None is stands top = λ t means. top_none names refs r t row w is stands top means

none_inside : (names : List TypeName) (refs : List TypeRef) (r s : ℕ) (row : TypeRef) → slice_get refs r ≡ Some row → row.scope ≡ InRef s → ((o t : ℕ) → Means names refs s o → IsFirstIn names (InType (record { 0 = o })) row t → ⊥) → (t : ℕ) → Means names refs r t → ⊥
none_inside names refs r s row stands scope never t (at_top ra ta row2 w stands2 top first) =
    let e : row2 ≡ row = one_item refs r row2 row stands2 stands in
    not_both row2.scope w s top (ap (λ (x : TypeRef). x.scope) e ∙ scope)
none_inside names refs r s row stands scope never t (inside ra s2 o ta row2 stands2 in2 outer first) =
    let e : row2 ≡ row = one_item refs r row2 row stands2 stands in
    let same : s2 ≡ s = one_scope s2 s (sym in2 ∙ ap (λ (x : TypeRef). x.scope) e ∙ scope) in
    never o t (subst (λ (x : ℕ). Means names refs x o) same outer) (subst (λ (x : TypeRef). IsFirstIn names (InType (record { 0 = o })) x t) e first)

-- what stands nowhere means nothing
nowhere_none : (names : List TypeName) (refs : List TypeRef) (r : ℕ) (row : TypeRef) → slice_get refs r ≡ Some row → row.scope ≡ Nowhere → (t : ℕ) → Means names refs r t → ⊥
nowhere_none names refs r row stands scope t (at_top ra ta row2 w stands2 top first) =
    let e : row2 ≡ row = one_item refs r row2 row stands2 stands in
    subst (λ (x : Scope). IsTop x w) (ap (λ (x : TypeRef). x.scope) e ∙ scope) top
nowhere_none names refs r row stands scope t (inside ra s2 o ta row2 stands2 in2 outer first) =
    let e : row2 ≡ row = one_item refs r row2 row stands2 stands in
    let k : InRef s2 ≡ Nowhere = sym in2 ∙ ap (λ (x : TypeRef). x.scope) e ∙ scope in cc

-- a number past the rows means nothing
past_none : (names : List TypeName) (refs : List TypeRef) (s o : ℕ) → length refs ≤ s → Means names refs s o → ⊥
past_none names refs s o past (at_top sa oa row w stands top first) = let lt = slice_get_within refs s row stands in omega (arith, lt, past)
past_none names refs s o past (inside sa s2 o2 oa row stands in1 outer first) = let lt = slice_get_within refs s row stands in omega (arith, lt, past)

-- the answer in a type that is known
first_inside_means : (names : List TypeName) (refs : List TypeRef) (r s : ℕ) (row : TypeRef) (outer : TypeId) (first : Option ℕ) → first_of names (record { within = InType outer; space = row.space; name = row.name }) ≡ first → slice_get refs r ≡ Some row → row.scope ≡ InRef s → Means names refs s outer.0 → IsMeant names refs r (option_map type_id first)
first_inside_means names refs r s row outer (Some t) is stands scope means = inside r s outer.0 t row stands scope means is
first_inside_means names refs r s row outer None is stands scope means =
    none_inside names refs r s row stands scope (λ o t other found.
    let same : o ≡ outer.0 = one_meaning names refs s o outer.0 other means in
    let found2 : IsFirstIn names (InType (record { 0 = outer.0 })) row t = subst (λ (x : ℕ). IsFirstIn names (InType (record { 0 = x })) row t) same found in
    let k : None ≡ Some t = sym is ∙ found2 in cc)

no_mark : (marks : List Mark) (s : ℕ) → slice_get marks s ≡ None → length marks ≤ s
no_mark [] s h = omega arith
no_mark (m ∷ marks) zero h = let k : Some m ≡ None = h in absurd cc
no_mark (m ∷ marks) (suc s) h = omega (arith, no_mark marks s h)

known_means : (names : List TypeName) (refs : List TypeRef) (r s : ℕ) (row : TypeRef) (found : Option TypeId) → slice_get refs r ≡ Some row → row.scope ≡ InRef s → IsMeant names refs s found → IsMeant names refs r (first_inside names found row)
known_means names refs r s row None stands scope none = none_inside names refs r s row stands scope (λ o t other first. none o other)
known_means names refs r s row (Some outer) stands scope means =
    first_inside_means names refs r s row outer (first_of names (record { within = InType outer; space = row.space; name = row.name })) refl stands scope means

answer_inside : (names : List TypeName) (refs : List TypeRef) (root : ℕ) (before marks : List Mark) (r : ℕ) (rest : List ℕ) (s : ℕ) (row : TypeRef) (mark : Option Mark) → slice_get marks s ≡ mark → IsWalk names refs root before marks (r ∷ rest) → slice_get refs r ≡ Some row → row.scope ≡ InRef s → new_in marks (InRef s) ≡ None → IsMeant names refs r (first_inside names (known_at mark) row)
answer_inside names refs root before marks r rest s row None is walk stands scope none =
    none_inside names refs r s row stands scope (λ o t other first.
    past_none names refs s o (let p = no_mark marks s is in omega (arith, p, walk.long)) other)
answer_inside names refs root before marks r rest s row (Some New) is walk stands scope none =
    let k : cond (is_new (Some New)) (Some s) None ≡ None = subst (λ (o : Option Mark). cond (is_new o) (Some s) None ≡ None) is none in
    let l : Some s ≡ None = k in absurd cc
answer_inside names refs root before marks r rest s row (Some Walked) is walk stands scope none =
    λ t means. round_means names refs r s t rest walk.line (record { row = row; stands = stands; scope = scope }) (walk.walked s is) means
answer_inside names refs root before marks r rest s row (Some (Known found)) is walk stands scope none =
    known_means names refs r s row found stands scope (walk.right s found is)

answer_scope : (names : List TypeName) (refs : List TypeRef) (root : ℕ) (before marks : List Mark) (r : ℕ) (rest : List ℕ) (row : TypeRef) (scope : Scope) → row.scope ≡ scope → IsWalk names refs root before marks (r ∷ rest) → slice_get refs r ≡ Some row → new_in marks scope ≡ None → IsMeant names refs r (answer_in names marks row scope)
answer_scope names refs root before marks r rest row References is walk stands none =
    first_means names refs r row InReferences (first_of names (record { within = InReferences; space = row.space; name = row.name })) refl stands (subst (λ (x : Scope). IsTop x InReferences) (sym is) refl)
answer_scope names refs root before marks r rest row Own is walk stands none =
    first_means names refs r row InOwn (first_of names (record { within = InOwn; space = row.space; name = row.name })) refl stands (subst (λ (x : Scope). IsTop x InOwn) (sym is) refl)
answer_scope names refs root before marks r rest row (InRef s) is walk stands none =
    answer_inside names refs root before marks r rest s row (slice_get marks s) refl walk stands is none
answer_scope names refs root before marks r rest row Nowhere is walk stands none = nowhere_none names refs r row stands is

-- the answer for the topmost row is right
pub answer_means : (names : List TypeName) (refs : List TypeRef) (root : ℕ) (before marks : List Mark) (r : ℕ) (rest : List ℕ) → IsWalk names refs root before marks (r ∷ rest) → new_above refs marks r ≡ None → IsMeant names refs r (answer names refs marks r)
answer_means names refs root before marks r rest walk none =
    let there = item_at refs r (top_within refs r rest walk.line) in
    subst (λ (o : Option TypeRef). IsMeant names refs r (answer_row names marks o)) (sym there.1)
    (answer_scope names refs root before marks r rest there.0 there.0.scope refl walk there.1
    (subst (λ (o : Option TypeRef). new_above_row marks o ≡ None) there.1 none))

-- ---- steps of the walk

new_mark : (mark : Option Mark) (s a : ℕ) → cond (is_new mark) (Some s) None ≡ Some a → (mark ≡ Some New) × (s ≡ a)
new_mark None s a h = let k : None ≡ Some a = h in absurd cc
new_mark (Some New) s a h = let k : Some s ≡ Some a = h in (refl, cc)
new_mark (Some Walked) s a h = let k : None ≡ Some a = h in absurd cc
new_mark (Some (Known f)) s a h = let k : None ≡ Some a = h in absurd cc

new_scope : (marks : List Mark) (scope : Scope) (a : ℕ) → new_in marks scope ≡ Some a → (scope ≡ InRef a) × (slice_get marks a ≡ Some New)
new_scope marks References a h = let k : None ≡ Some a = h in absurd cc
new_scope marks Own a h = let k : None ≡ Some a = h in absurd cc
new_scope marks Nowhere a h = let k : None ≡ Some a = h in absurd cc
new_scope marks (InRef s) a h =
    let found = new_mark (slice_get marks s) s a h in
    (ap (λ (x : ℕ). InRef x) found.1, subst (λ (x : ℕ). slice_get marks x ≡ Some New) found.1 found.0)

new_row : (refs : List TypeRef) (marks : List Mark) (r a : ℕ) (row : Option TypeRef) → slice_get refs r ≡ row → new_above_row marks row ≡ Some a → StandsIn refs r a × (slice_get marks a ≡ Some New)
new_row refs marks r a None is h = let k : None ≡ Some a = h in absurd cc
new_row refs marks r a (Some row) is h =
    let found = new_scope marks row.scope a h in
    (record { row = row; stands = is; scope = found.0 }, found.1)

new_is : (refs : List TypeRef) (marks : List Mark) (r a : ℕ) → new_above refs marks r ≡ Some a → StandsIn refs r a × (slice_get marks a ≡ Some New)
new_is refs marks r a h = new_row refs marks r a (slice_get refs r) refl h

pub above_within : (refs : List TypeRef) (marks : List Mark) (r a : ℕ) → new_above refs marks r ≡ Some a → a < length marks
above_within refs marks r a h = slice_get_within marks a New (new_is refs marks r a h).1

pub top_marked : (names : List TypeName) (refs : List TypeRef) (root : ℕ) (before marks : List Mark) (r : ℕ) (rest : List ℕ) → IsWalk names refs root before marks (r ∷ rest) → r < length marks
top_marked names refs root before marks r rest walk = let lt = top_within refs r rest walk.line in omega (arith, lt, walk.long)

-- the row that the topmost one stands in is met
pub visited : (names : List TypeName) (refs : List TypeRef) (root : ℕ) (before marks : List Mark) (r a : ℕ) (rest : List ℕ) → IsWalk names refs root before marks (r ∷ rest) → new_above refs marks r ≡ Some a → IsWalk names refs root before (set marks a Walked) (a ∷ (r ∷ rest))
visited names refs root before marks r a rest walk above =
    let new = new_is refs marks r a above in
    let lt = slice_get_within marks a New new.1 in
    record {
      long = omega (arith, length-set marks a Walked, walk.long);
      right = λ s found h. elim (at_set marks a Walked s (Known found) h) [
        | inl p ↦ let k : Known found ≡ Walked = p.1 in absurd cc
        | inr p ↦ walk.right s found p.1
      ];
      walked = λ s h. elim (at_set marks a Walked s Walked h) [
        | inl p ↦ inl (sym p.0)
        | inr p ↦ inr (walk.walked s p.1)
      ];
      line = (omega (arith, lt, walk.long), new.0, walk.line);
      met = λ h. elim (at_set marks a Walked root New h) [
        | inl p ↦ let k : New ≡ Walked = p.1 in cc
        | inr p ↦ walk.met p.1
      ];
      kept = λ s h. elim (at_set marks a Walked s New h) [
        | inl p ↦ let k : New ≡ Walked = p.1 in absurd cc
        | inr p ↦ walk.kept s p.1
      ];
    }

pub visited-smaller : (refs : List TypeRef) (marks : List Mark) (r a : ℕ) (rest : List ℕ) → new_above refs marks r ≡ Some a → new_work (set marks a Walked) + length (a ∷ (r ∷ rest)) < new_work marks + length (r ∷ rest)
visited-smaller refs marks r a rest above = omega (arith, new_work-walked marks a (new_is refs marks r a above).1)

-- the topmost row is known
pub over : (names : List TypeName) (refs : List TypeRef) (root : ℕ) (before marks : List Mark) (r : ℕ) (rest : List ℕ) (found : Option TypeId) → IsWalk names refs root before marks (r ∷ rest) → IsMeant names refs r found → IsWalk names refs root before (set marks r (Known found)) rest
over names refs root before marks r rest found walk means =
    record {
      long = omega (arith, length-set marks r (Known found), walk.long);
      right = λ s f h. elim (at_set marks r (Known found) s (Known f) h) [
        | inl p ↦
            let k : Known f ≡ Known found = p.1 in
            let e : found ≡ f = cc in
            subst (λ (x : ℕ). IsMeant names refs x f) (sym p.0) (subst (λ (x : Option TypeId). IsMeant names refs r x) e means)
        | inr p ↦ walk.right s f p.1
      ];
      walked = λ s h. elim (at_set marks r (Known found) s Walked h) [
        | inl p ↦ let k : Walked ≡ Known found = p.1 in absurd cc
        | inr p ↦ elim (walk.walked s p.1) [ inl e ↦ absurd (p.0 (sym e)) | inr on ↦ on ]
      ];
      line = below refs r rest walk.line;
      met = λ h. elim (at_set marks r (Known found) root New h) [
        | inl p ↦ let k : New ≡ Known found = p.1 in cc
        | inr p ↦ walk.met p.1
      ];
      kept = λ s h. elim (at_set marks r (Known found) s New h) [
        | inl p ↦ let k : New ≡ Known found = p.1 in absurd cc
        | inr p ↦ walk.kept s p.1
      ];
    }

pub over-smaller : (marks : List Mark) (r : ℕ) (rest : List ℕ) (found : Option TypeId) → new_work (set marks r (Known found)) + length rest < new_work marks + length (r ∷ rest)
over-smaller marks r rest found = omega (arith, new_work-known marks r found)

-- a walk begins
pub begun : (names : List TypeName) (refs : List TypeRef) (root : ℕ) (marks : List Mark) → IsBetween names refs marks → root < length refs → IsWalk names refs root marks (set marks root Walked) (root ∷ [])
begun names refs root marks between lt =
    record {
      long = omega (arith, length-set marks root Walked, between.long);
      right = λ s found h. elim (at_set marks root Walked s (Known found) h) [
        | inl p ↦ let k : Known found ≡ Walked = p.1 in absurd cc
        | inr p ↦ between.right s found p.1
      ];
      walked = λ s h. elim (at_set marks root Walked s Walked h) [
        | inl p ↦ inl (sym p.0)
        | inr p ↦ absurd (between.unwalked s p.1)
      ];
      line = lt;
      met = λ h. elim (at_set marks root Walked root New h) [
        | inl p ↦ let k : New ≡ Walked = p.1 in cc
        | inr p ↦ p.0 refl
      ];
      kept = λ s h. elim (at_set marks root Walked s New h) [
        | inl p ↦ let k : New ≡ Walked = p.1 in absurd cc
        | inr p ↦ p.1
      ];
    }

-- a walk is over
pub ended : (names : List TypeName) (refs : List TypeRef) (root : ℕ) (before marks : List Mark) → IsWalk names refs root before marks [] → IsSettled names refs root before marks
ended names refs root before marks walk = record {
  between = record { long = walk.long; right = walk.right; unwalked = walk.walked };
  met = walk.met;
  stay = walk.kept;
}

-- a row that was met needs none
pub unmoved : (names : List TypeName) (refs : List TypeRef) (root : ℕ) (marks : List Mark) → IsBetween names refs marks → is_new_at marks root ≡ false → IsSettled names refs root marks marks
unmoved names refs root marks between old = record {
  between = between;
  met = λ new. let k : is_new (Some New) ≡ false = subst (λ (o : Option Mark). is_new o ≡ false) new old in let l : true ≡ false = k in cc;
  stay = λ s h. h;
}

-- ---- all rows

known_item : (names : List TypeName) (refs : List TypeRef) (marks : List Mark) (r : ℕ) (mark : Mark) → IsBetween names refs marks → (slice_get marks r ≡ Some New → ⊥) → slice_get marks r ≡ Some mark → IsMeant names refs r (known_of mark)
known_item names refs marks r New between met is = absurd (met is)
known_item names refs marks r Walked between met is = absurd (between.unwalked r is)
known_item names refs marks r (Known found) between met is = between.right r found is

mapped_item : {X Y : Type 0} (f : X → Y) (xs : List X) (r : ℕ) (y : Y) → slice_get (map f xs) r ≡ Some y → (x : X) × (slice_get xs r ≡ Some x) × (y ≡ f x)
mapped_item f [] r y h = let k : None ≡ Some y = h in absurd cc
mapped_item f (x ∷ xs) zero y h = let k : Some (f x) ≡ Some y = h in (x, refl, cc)
mapped_item f (x ∷ xs) (suc r) y h = mapped_item f xs r y h

mapped_length : {X Y : Type 0} (f : X → Y) (xs : List X) → length (map f xs) ≡ length xs
mapped_length f [] = refl
mapped_length f (x ∷ xs) = ap suc (mapped_length f xs)

pub all_meant : (names : List TypeName) (refs : List TypeRef) (marks : List Mark) → IsBetween names refs marks → ((s : ℕ) → s < length refs → slice_get marks s ≡ Some New → ⊥) → AreMeant names refs (map known_of marks)
all_meant names refs marks between met = record {
  long = mapped_length known_of marks ∙ between.long;
  each = λ r found h.
      let item = mapped_item known_of marks r found h in
      let lt = slice_get_within marks r item.0 item.1 in
      subst (λ (f : Option TypeId). IsMeant names refs r f) (sym item.2)
      (known_item names refs marks r item.0 between (met r (omega (arith, lt, between.long))) item.1);
}

at_replicate : (n k : ℕ) (m : Mark) → slice_get (replicate n New) k ≡ Some m → New ≡ m
at_replicate zero k m h = let e : None ≡ Some m = h in absurd cc
at_replicate (suc n) zero m h = let e : Some New ≡ Some m = h in cc
at_replicate (suc n) (suc k) m h = at_replicate n k m h

replicate_long : (n : ℕ) → length (replicate n New) ≡ n
replicate_long zero = refl
replicate_long (suc n) = ap suc (replicate_long n)

-- no walk has met a row
pub fresh : (names : List TypeName) (refs : List TypeRef) (n : ℕ) → n ≡ length refs → IsBetween names refs (replicate n New)
fresh names refs n e = record {
  long = replicate_long n ∙ e;
  right = λ s found h. let k : New ≡ Known found = at_replicate n s (Known found) h in absurd cc;
  unwalked = λ s h. let k : New ≡ Walked = at_replicate n s Walked h in cc;
}
