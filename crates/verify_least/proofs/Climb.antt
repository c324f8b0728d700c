-- Where there is a map there is a least one: from nothing on, what comes and isn't held is united to what is there, until all
-- is held.
use Rattle.std.proofs.Common.{◌≡◌, ◌⊎◌, inl, inr, ℕ, zero, suc, ◌<◌, ◌≤◌, List, [], ◌∷◌, Option, Some, None, length, get_or, slice_get, replicate, refl, sym, ◌∙◌, subst, arith}
use Rattle.std.proofs.lemmas.Bool.{cases_lt}
use Rattle.std.proofs.lemmas.Option.{slice_get_within, slice_get_cases, get_or_from_slice_get}
use Rattle.std.proofs.lemmas.List.{get_or-replicate, length-replicate}
use Rattle.std.specs.List.{Contains}
use Rattle.verify_least.specs.Flow.{Flow, Facts, Has, Holds, IsMap, IsBelow, IsLeastMap, IsMonotone, Comes, IsFinite, HasJoins, IsHeight}
use Rattle.verify_least.proofs.Least.{some_same, has_one, put, put_length, put_cases, comes_below, united_below, put_comes, weigh, lighter, below_top, below_height}

-- all of a list, or one that isn't so
Found : {X : Type 0} → (X → Type 0) → (X → Type 0) → List X → Type 0
Found {X} P Q xs = ((x : X) → Contains xs x → P x) ⊎ ((x : X) × Contains xs x × Q x)

in_rest : {X : Type 0} (y x : X) (xs : List X) → Contains xs x → Contains (y ∷ xs) x
in_rest y x xs has = let lt = has.1 in (suc has.0, omega (arith, lt), has.2)

in_cases : {X : Type 0} (y x : X) (xs : List X) → Contains (y ∷ xs) x → (y ≡ x) ⊎ Contains xs x
in_cases y x xs has = go has.0 has.1 has.2
  where
    go : (k : ℕ) → k < length (y ∷ xs) → get_or (y ∷ xs) k x ≡ x → (y ≡ x) ⊎ Contains xs x
    go zero lt is = inl is
    go (suc k) lt is = inr (k, omega (arith, lt), is)

find_in : {X : Type 0} (P Q : X → Type 0) (xs : List X) → ((x : X) → Contains xs x → P x ⊎ Q x) → Found P Q xs
unfolding Found
find_in P Q [] each = inl (λ x has. let lt = has.1 in absurd (omega (arith, lt)))
find_in {X} P Q (y ∷ xs) each =
    elim (each y (0, omega arith, refl)) [
      | inr q ↦ inr (y, (0, omega arith, refl), q)
      | inl p ↦ elim (find_in P Q xs (λ x has. each x (in_rest y x xs has))) [
        | inr off ↦ inr (off.0, in_rest y off.0 xs off.1, off.2)
        | inl all ↦ inl (λ x has. elim (in_cases y x xs has) [ inl e ↦ subst P e p | inr rest ↦ all x rest ])
      ]
    ]

find_below : (P Q : ℕ → Type 0) (n : ℕ) → ((i : ℕ) → i < n → P i ⊎ Q i) → ((i : ℕ) → i < n → P i) ⊎ ((i : ℕ) × (i < n) × Q i)
find_below P Q zero each = inl (λ i lt. absurd (omega (arith, lt)))
find_below P Q (suc n) each =
    elim (each n (omega arith)) [
      | inr q ↦ inr (n, omega arith, q)
      | inl p ↦ elim (find_below P Q n (λ i lt. each i (omega (arith, lt)))) [
        | inr off ↦ let lt = off.1 in inr (off.0, omega (arith, lt), off.2)
        | inl all ↦ inl (λ i lt. elim (cases_lt i n) [
          | inl less ↦ all i less
          | inr ge ↦ let same : n ≡ i = omega (arith, lt, ge) in subst P same p
        ])
      ]
    ]

module _ {F : Type 0} (flow : Flow F) (count : ℕ) (mono : IsMonotone flow) (finite : IsFinite flow) (joins : HasJoins flow) (heights : IsHeight flow) (map : Facts F) (is : IsMap flow count map) where
  -- facts on the way
  record On (facts : Facts F) : Type 0 where
    many : length facts ≡ count
    fine : (i : ℕ) (f : F) → Has facts i f → flow.Fine f
    below : IsBelow flow count facts

  -- what comes and isn't held
  record Wants (facts : Facts F) : Type 0 where
    at : ℕ
    fact : F
    comes : Comes flow facts at fact
    fine : flow.Fine fact
    off : Holds flow facts at fact → ⊥

  held_or : (facts : Facts F) → On facts → (j : ℕ) (g : F) → Comes flow facts j g → Holds flow facts j g ⊎ (Holds flow facts j g → ⊥)
  held_or facts on j g comes =
      let held = comes_below flow count mono facts on.below on.fine j g comes map is in
      go held.0 held.1 held.2 (slice_get facts j) refl
    where
      go : (h : F) → Has map j h → flow.In g h → (o : Option (Option F)) → slice_get facts j ≡ o → Holds flow facts j g ⊎ (Holds flow facts j g → ⊥)
      go h has in_h None e = inr (λ h. let p : None ≡ Some (Some h.0) = sym e ∙ h.1 in cc)
      go h has in_h (Some None) e = inr (λ h. let p : None ≡ Some h.0 = some_same None (Some h.0) (sym e ∙ h.1) in cc)
      go h has in_h (Some (Some f)) e =
          let there = on.below map is j f e in
          let f_in : flow.In f h = subst (flow.In f) (has_one map j there.0 h there.1 has) there.2 in
          elim (finite.decided g f h in_h f_in) [
            | inl in_f ↦ inl (f, e, in_f)
            | inr off ↦ inr (λ h. off (subst (flow.In g) (sym (has_one facts j f h.0 e h.1)) h.2))
          ]

  record Settled (facts : Facts F) (i : ℕ) : Type 0 where
    entries : (f : F) → flow.Enters i f → Holds flow facts i f
    accepted : (f : F) → Has facts i f → (left : F) × flow.Gives i f left × ((j : ℕ) → flow.Leads i j → Holds flow facts j left)

  gives_or : (facts : Facts F) → On facts → (i : ℕ) (f : F) → Has facts i f → ((left : F) × flow.Gives i f left × ((j : ℕ) → flow.Leads i j → Holds flow facts j left)) ⊎ Wants facts
  unfolding Found
  gives_or facts on i f has =
      let held = on.below map is i f has in
      let there = is.accepted i held.0 held.1 in
      let less = mono.narrower i f held.0 there.0 (on.fine i f has) held.2 there.1 in
      elim (find_in (λ j. Holds flow facts j less.0) (λ j. Holds flow facts j less.0 → ⊥) (finite.leads i) (λ j among. held_or facts on j less.0 (inr (record { i = i; before = f; has = has; gives = less.1; leads = (finite.led i j).1 among })))) [
        | inl all ↦ inl (less.0, less.1, λ j leads. all j ((finite.led i j).0 leads))
        | inr off ↦ inr (record {
          at = off.0;
          fact = less.0;
          comes = inr (record { i = i; before = f; has = has; gives = less.1; leads = (finite.led i off.0).1 off.1 });
          fine = less.2;
          off = off.2;
        })
      ]

  settled_or : (facts : Facts F) → On facts → (i : ℕ) → i < count → Settled facts i ⊎ Wants facts
  unfolding Found
  settled_or facts on i lt =
      elim (find_in (λ f. Holds flow facts i f) (λ f. Holds flow facts i f → ⊥) (finite.entries i) (λ f among. held_or facts on i f (inl ((finite.enters i f).1 among)))) [
        | inr off ↦ inr (record {
          at = i;
          fact = off.0;
          comes = inl ((finite.enters i off.0).1 off.1);
          fine = finite.fine i off.0 ((finite.enters i off.0).1 off.1);
          off = off.2;
        })
        | inl all ↦ go (slice_get facts i) refl (λ f enters. all f ((finite.enters i f).0 enters))
      ]
    where
      go : (o : Option (Option F)) → slice_get facts i ≡ o → ((f : F) → flow.Enters i f → Holds flow facts i f) → Settled facts i ⊎ Wants facts
      go None e entries = inl (record { entries = entries; accepted = λ f has. let p : None ≡ Some (Some f) = sym e ∙ has in cc })
      go (Some None) e entries = inl (record { entries = entries; accepted = λ f has. let p : None ≡ Some f = some_same None (Some f) (sym e ∙ has) in cc })
      go (Some (Some g)) e entries =
          elim (gives_or facts on i g e) [
            | inr wants ↦ inr wants
            | inl gives ↦ inl (record {
              entries = entries;
              accepted = λ f has.
                  let same : g ≡ f = has_one facts i g f e has in
                  (gives.0, subst (λ (x : F). flow.Gives i x gives.0) same gives.1, gives.2);
            })
          ]

  -- a map, or more is wanted
  map_or : (facts : Facts F) → On facts → IsMap flow count facts ⊎ Wants facts
  map_or facts on =
      elim (find_below (Settled facts) (λ i. Wants facts) count (settled_or facts on)) [
        | inr off ↦ inr off.2
        | inl all ↦ inl (record {
          as_many = on.many;
          fine = on.fine;
          entries = λ i f enters.
              let held = is.entries i f enters in
              let within = slice_get_within map i (Some held.0) held.1 in
              let many = is.as_many in
              (all i (omega (arith, within, many))).entries f enters;
          accepted = λ i f has.
              let within = slice_get_within facts i (Some f) has in
              let many = on.many in
              (all i (omega (arith, within, many))).accepted f has;
        })
      ]

  -- further facts, from which less is left
  record Further (facts : Facts F) : Type 0 where
    next : Facts F
    on : On next
    less : weigh heights.height heights.top map next < weigh heights.height heights.top map facts

  put_on : (facts : Facts F) → On facts → (j : ℕ) (u : F) → flow.Fine u → IsBelow flow count (put facts j u) → On (put facts j u)
  put_on facts on j u fine below = record {
    many = put_length facts j u ∙ on.many;
    fine = λ i f has. elim (put_cases facts i j u f has) [ inl before ↦ on.fine i f before | inr now ↦ subst flow.Fine (sym now.1) fine ];
    below = below;
  }

  further : (facts : Facts F) → On facts → Wants facts → Further facts
  further facts on w =
      let held = comes_below flow count mono facts on.below on.fine w.at w.fact w.comes map is in
      go held.0 held.1 held.2 (slice_get facts w.at) refl
    where
      go : (h : F) → Has map w.at h → flow.In w.fact h → (o : Option (Option F)) → slice_get facts w.at ≡ o → Further facts
      go h has in_h None e =
          let within = slice_get_within map w.at (Some h) has in
          let ours = on.many in
          let theirs = is.as_many in
          elim (slice_get_cases facts w.at).1 [
            | inl there ↦ let p : None ≡ Some there.0 = sym e ∙ there.2 in cc
            | inr past ↦ let far = past.0 in absurd (omega (arith, within, ours, theirs, far))
          ]
      go h has in_h (Some None) e = record {
        next = put facts w.at w.fact;
        on = put_on facts on w.at w.fact w.fine (put_comes flow count mono facts on.below on.fine w.at w.fact w.comes);
        less = lighter heights.height heights.top map facts w.at h w.fact None has e (below_top heights.height heights.top h w.fact (heights.under h w.fact w.fine in_h));
      }
      go h has in_h (Some (Some f)) e =
          let there = on.below map is w.at f e in
          let same : there.0 ≡ h = has_one map w.at there.0 h there.1 has in
          let f_in : flow.In f h = subst (flow.In f) same there.2 in
          let u = joins f w.fact h (on.fine w.at f e) w.fine f_in in_h in
          let united = u.2 in
          record {
            next = put facts w.at u.0;
            on = put_on facts on w.at u.0 u.1 (united_below flow count mono facts on.below on.fine w.at f w.fact u.0 e w.comes united);
            less =
                lighter heights.height heights.top map facts w.at h u.0 (Some f) has e
                (below_height heights.height heights.top h f u.0 (heights.falls h f u.0 (on.fine w.at f e) u.1 united.left (λ back. w.off (f, e, mono.through w.fact u.0 f united.right back)) (united.least h f_in in_h)));
          }

  climb : (k : ℕ) (facts : Facts F) → On facts → weigh heights.height heights.top map facts ≤ k → (least : Facts F) × IsLeastMap flow count least
  climb zero facts on le =
      elim (map_or facts on) [
        | inl done ↦ (facts, record { map = done; below = on.below })
        | inr wants ↦ let less = (further facts on wants).less in absurd (omega (arith, less, le))
      ]
  climb (suc k) facts on le =
      elim (map_or facts on) [
        | inl done ↦ (facts, record { map = done; below = on.below })
        | inr wants ↦
            let f = further facts on wants in
            let less = f.less in
            climb k f.next f.on (omega (arith, less, le))
      ]

  nothing : (i : ℕ) (f : F) → Has (replicate count None) i f → ⊥
  nothing i f has =
      let within = slice_get_within (replicate count None) i (Some f) has in
      let many = length-replicate {A = Option F} count None in
      let here : get_or (replicate count None) i None ≡ Some f = get_or_from_slice_get (replicate count None) i (Some f) None has in
      let none : get_or (replicate count None) i None ≡ None = get_or-replicate count i None None (omega (arith, within, many)) in
      let p : None ≡ Some f = sym none ∙ here in
      cc

  -- where there is a map there is a least one
  pub least_map : (least : Facts F) × IsLeastMap flow count least
  least_map = climb (weigh heights.height heights.top map (replicate count None)) (replicate count None) start (omega arith)
    where
      start : On (replicate count None)
      start = record {
        many = length-replicate count None;
        fine = λ i f has. absurd (nothing i f has);
        below = λ m mis i f has. absurd (nothing i f has);
      }
