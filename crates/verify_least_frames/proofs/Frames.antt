-- Frames of a body are a map of a flow.
use Rattle.std.proofs.Common.{◌≡◌, ◌≢◌, ◌⊎◌, ◌↔◌, inl, inr, ℕ, ◌+◌, Bool, true, false, List, [], ◌∷◌, ◌++◌, Option, Some, None, Result, Ok, Err, length, slice_get, refl, sym, ap, ◌∙◌, subst, arith}
use Rattle.std.proofs.lemmas.List.Elements.{Contains-append_left, Contains-append_right, Contains-append_cases}
use Rattle.std.proofs.lemmas.Option.{slice_get_within, slice_get_cases}
use Rattle.std.proofs.lemmas.Bool.{cases_lt}
use Rattle.std.specs.List.{Contains}
use Rattle.std.specs.Cmp.{both_ways}
use Rattle.dc_base.specs.declared.ty.Ty.{Ty}
use Rattle.dc_causes.specs.Step.Then.{stop, go}
use Rattle.cil_body.specs.declared.body.Body.{Body}
use Rattle.cil_regions.specs.declared.region.RegionKind.{RegionKind}
use Rattle.cil_regions.specs.declared.region.RegionKind.TheVariants.{Code, Try, Catch, Finally}
use Rattle.cil_regions.specs.declared.region.Span.{Span}
use Rattle.cil_regions.specs.Region.{spans_of}
use Rattle.cil_rows.specs.declared.row.Row.{Row}
use Rattle.cil_rows.specs.Flow.{aims_of, goes_on}
use Rattle.cil_rows.specs.Code.{starts_of}
use Rattle.verify_slots.specs.declared.slot.Slot.{Slot}
use Rattle.verify_slots.specs.declared.slot.Slot.TheVariants.{Refs}
use Rattle.verify_slots.specs.declared.slot.Mark.TheVariants.{Other}
use Rattle.verify_slots.specs.Slots.{AreIn}
use Rattle.verify_slots.proofs.Order.{are_same, are_through}
use Rattle.verify_rules.specs.declared.rule.Rule.{Rule}
use Rattle.verify_rules.specs.declared.setting.Setting.{Setting}
use Rattle.verify_rules.specs.declared.setting.Spot.{Spot}
use Rattle.verify_rules.specs.Look.{named_ty}
use Rattle.verify_rules.specs.Results.{leaves}
use Rattle.verify_rules.specs.Rules.{Accepts, TellsThis}
use Rattle.verify_narrower.specs.Narrower.{HasOnce, IsFrame}
use Rattle.verify_narrower.proofs.Whole.{law}
use Rattle.verify_spots.specs.Spots.{IsRow, IsFirstOf, IsSpot}
use Rattle.verify_spots.specs.Frames.{Table, IsEntry, LeadsTo, IsAccepted, caught, entered, AreFrames, AreLeastFrames}
use Rattle.verify_least.specs.Flow.{Flow, IsMap, IsMonotone, IsFinite, HasJoins, IsHeight}
use Rattle.verify_least.proofs.Least.{some_same}
use Rattle.verify_least.proofs.Climb.{least_map}
use Rattle.verify_least_frames.proofs.Sets.{at_head, behind, either, nowhere}
use Rattle.verify_least_frames.proofs.Join.{frame_or, frame_join, height, top, under, falls}

inside : List Slot → Result (List Slot) Rule → List Slot
inside d (Ok a) = a
inside d (Err e) = d

ok_same : (a b : List Slot) → ◌≡◌ {A = Result (List Slot) Rule} (Ok a) (Ok b) → a ≡ b
unfolding inside
ok_same a b e = ap (inside a) e

not_both : (a : List Slot) (e : Rule) → ◌≡◌ {A = Result (List Slot) Rule} (Ok a) (Err e) → ⊥
not_both a e is = cc

-- what is said of where an instruction stands is said once
made : ℕ → Bool → Bool → Bool → Bool → Bool → Bool → Spot
made n a b c d e f = record { number = n; is_aim = a; begins_try = b; begins_region = c; falls_off = d; jumps_off = e; ends_head = f }

told : (a b : Bool) (P : Type 0) → (a ≡ true) ↔ P → (b ≡ true) ↔ P → a ≡ b
told a b P f g = both_ways a b (λ t. g.1 (f.0 t)) (λ t. f.1 (g.0 t))

one_spot : (s : Setting) (body : Body) (i : ℕ) (p q : Spot) → IsSpot s body i p → IsSpot s body i q → p ≡ q
unfolding made
one_spot s body i p q x y =
    let n : p.number ≡ q.number = x.number ∙ sym y.number in
    let a : p.is_aim ≡ q.is_aim = told p.is_aim q.is_aim _ x.aim y.aim in
    let b : p.begins_try ≡ q.begins_try = told p.begins_try q.begins_try _ x.try_ y.try_ in
    let c : p.begins_region ≡ q.begins_region = told p.begins_region q.begins_region _ x.region y.region in
    let d : p.falls_off ≡ q.falls_off = told p.falls_off q.falls_off _ x.falls y.falls in
    let e : p.jumps_off ≡ q.jumps_off = told p.jumps_off q.jumps_off _ x.jumps y.jumps in
    let f : p.ends_head ≡ q.ends_head = told p.ends_head q.ends_head _ x.head y.head in
    ap (λ (k : ℕ). made k p.is_aim p.begins_try p.begins_region p.falls_off p.jumps_off p.ends_head) n
    ∙ ap (λ (k : Bool). made q.number k p.begins_try p.begins_region p.falls_off p.jumps_off p.ends_head) a
    ∙ ap (λ (k : Bool). made q.number q.is_aim k p.begins_region p.falls_off p.jumps_off p.ends_head) b
    ∙ ap (λ (k : Bool). made q.number q.is_aim q.begins_try k p.falls_off p.jumps_off p.ends_head) c
    ∙ ap (λ (k : Bool). made q.number q.is_aim q.begins_try q.begins_region k p.jumps_off p.ends_head) d
    ∙ ap (λ (k : Bool). made q.number q.is_aim q.begins_try q.begins_region q.falls_off k p.ends_head) e
    ∙ ap (λ (k : Bool). made q.number q.is_aim q.begins_try q.begins_region q.falls_off q.jumps_off k) f

one_this : (s : Setting) (p : Spot) (a b : Bool) → TellsThis s p a → TellsThis s p b → a ≡ b
one_this s p true true x y = refl
one_this s p false false x y = refl
one_this s p true false x y = absurd (y x)
one_this s p false true x y = absurd (x y)

-- an instruction leaves one frame
one_left : (s : Setting) (p : Spot) (row : Row) (f g h : List Slot) → Accepts s p row f (Ok g) → Accepts s p row f (Ok h) → g ≡ h
one_left s p row f g h (stop e first is) y = absurd (not_both g e is)
one_left s p row f g h (go a kept x) (stop e first is) = absurd (not_both h e is)
one_left s p row f g h (go a kept x) (go b held y) =
    ok_same g (leaves s p x.0 row f) x.2 ∙ ap (λ (t : Bool). leaves s p t row f) (one_this s p x.0 y.0 x.1 y.1) ∙ sym (ok_same h (leaves s p y.0 row f) y.2)

caught_fine : (o : Option Ty) (f : List Slot) → caught o ≡ Some f → IsFrame f
caught_fine None f is = cc
caught_fine (Some ty) f is =
    subst IsFrame (some_same (Refs (ty ∷ []) Other ∷ []) f is)
    (λ slot has. elim (either (Refs (ty ∷ []) Other) slot [] has) [
      | inl e ↦ subst HasOnce e (nowhere ty, tt)
      | inr none ↦ absurd (nowhere slot none)
    ])

no_slots : IsFrame []
no_slots slot has = absurd (nowhere slot has)

entered_fine : (s : Setting) (kind : RegionKind) (f : List Slot) → entered s kind ≡ Some f → IsFrame f
entered_fine s Code f is = subst IsFrame (some_same [] f is) no_slots
entered_fine s Finally f is = subst IsFrame (some_same [] f is) no_slots
entered_fine s (Catch class) f is = caught_fine (named_ty s class) f is
entered_fine s Try f is = cc

-- equal places are told
is_place : (o : Option ℕ) (place : ℕ) → (o ≡ Some place) ⊎ (o ≡ Some place → ⊥)
is_place None place = inr (λ e. cc)
is_place (Some p) place =
    elim (cases_lt p place) [
      | inl lt ↦ inr (λ e. let same = some_same p place e in omega (arith, lt, same))
      | inr ge ↦ elim (cases_lt place p) [
        | inl gt ↦ inr (λ e. let same = some_same p place e in omega (arith, gt, same))
        | inr le ↦ inl (ap Some (omega (arith, ge, le)))
      ]
    ]

module _ (s : Setting) (body : Body) where
  row_there : ℕ → Row → Type 0
  row_there i row = IsRow s i row

  flow : Flow (List Slot)
  flow = record {
    Fine = IsFrame;
    In = AreIn;
    Enters = IsEntry s body;
    Gives = λ i f left. (row : Row) × IsRow s i row × IsAccepted s body i row f left;
    Leads = λ i j. (row : Row) × IsRow s i row × LeadsTo row i j;
  }

  one_row : (i : ℕ) (r q : Row) → IsRow s i r → IsRow s i q → r ≡ q
  one_row i r q x y = some_same r q (sym x ∙ y)

  same_left : (i : ℕ) (r q : Row) (f g h : List Slot) → r ≡ q → IsAccepted s body i r f g → IsAccepted s body i q f h → g ≡ h
  same_left i r q f g h e x y =
      one_left s y.0 q f g h (subst (λ (p : Spot). Accepts s p q f (Ok g)) (one_spot s body i x.0 y.0 x.1 y.1) (subst (λ (w : Row). Accepts s x.0 w f (Ok g)) e x.2)) y.2

  monotone : IsMonotone flow
  unfolding flow
  monotone = record {
    same = are_same;
    through = are_through;
    one = λ i f g h x y. subst (λ (k : List Slot). AreIn g k) (same_left i x.0 y.0 f g h (one_row i x.0 y.0 x.1 y.1) x.2 y.2) (are_same g);
    narrower = λ i f g h fine is x.
        let a = x.2 in
        let less = law s a.0 x.0 f g h fine is a.2 in
        (less.0, (x.0, x.1, (a.0, a.1, less.1)), less.2, less.3);
  }

  -- the frames with which an instruction is entered
  listed : {P : Type 0} → Option (List Slot) → P ⊎ (P → ⊥) → List (List Slot)
  listed (Some f) (inl there) = f ∷ []
  listed _ _ = []

  entries_in : List Span → ℕ → List (List Slot)
  entries_in [] i = []
  entries_in (r ∷ rs) i = listed (entered s r.kind) (is_place (slice_get (starts_of body.code) i) r.from) ++ entries_in rs i

  listed_has : {P : Type 0} (o : Option (List Slot)) (d : P ⊎ (P → ⊥)) (f : List Slot) → o ≡ Some f → P → Contains (listed o d) f
  unfolding listed
  listed_has None d f is p = cc
  listed_has (Some g) (inl q) f is p = subst (λ (x : List Slot). Contains (g ∷ []) x) (some_same g f is) (at_head g [])
  listed_has (Some g) (inr q) f is p = absurd (q p)

  listed_from : {P : Type 0} (o : Option (List Slot)) (d : P ⊎ (P → ⊥)) (f : List Slot) → Contains (listed o d) f → (o ≡ Some f) × P
  unfolding listed
  listed_from None d f has = absurd (nowhere f has)
  listed_from (Some g) (inl q) f has = elim (either g f [] has) [ inl e ↦ (ap Some e, q) | inr none ↦ absurd (nowhere f none) ]
  listed_from (Some g) (inr q) f has = absurd (nowhere f has)

  entry_has : (rs : List Span) (i : ℕ) (f : List Slot) (r : Span) → Contains rs r → IsFirstOf body r i → entered s r.kind ≡ Some f → Contains (entries_in rs i) f
  unfolding entries_in
  entry_has [] i f r has first is = absurd (nowhere r has)
  entry_has (q ∷ rs) i f r has first is =
      elim (either q r rs has) [
        | inl e ↦
            Contains-append_left (listed (entered s q.kind) (is_place (slice_get (starts_of body.code) i) q.from)) (entries_in rs i) f
            (listed_has (entered s q.kind) (is_place (slice_get (starts_of body.code) i) q.from) f
            (subst (λ (x : Span). entered s x.kind ≡ Some f) (sym e) is) (subst (λ (x : Span). IsFirstOf body x i) (sym e) first))
        | inr rest ↦
            Contains-append_right (listed (entered s q.kind) (is_place (slice_get (starts_of body.code) i) q.from)) (entries_in rs i) f
            (entry_has rs i f r rest first is)
      ]

  entry_from : (rs : List Span) (i : ℕ) (f : List Slot) → Contains (entries_in rs i) f → (r : Span) × Contains rs r × (IsFirstOf body r i × (entered s r.kind ≡ Some f))
  unfolding entries_in
  entry_from [] i f has = absurd (nowhere f has)
  entry_from (q ∷ rs) i f has =
      elim (Contains-append_cases (listed (entered s q.kind) (is_place (slice_get (starts_of body.code) i) q.from)) (entries_in rs i) f has) [
        | inl here ↦
            let l = listed_from (entered s q.kind) (is_place (slice_get (starts_of body.code) i) q.from) f here in
            (q, at_head q rs, (l.1, l.0))
        | inr rest ↦ let r = entry_from rs i f rest in (r.0, behind q r.0 rs r.1, r.2)
      ]

  -- where an instruction leads
  next_of : Bool → ℕ → List ℕ
  next_of true i = (i + 1) ∷ []
  next_of false i = []

  leads_of : Option Row → ℕ → List ℕ
  leads_of None i = []
  leads_of (Some row) i = next_of (goes_on row) i ++ aims_of row

  next_has : (b : Bool) (i j : ℕ) → b ≡ true → j ≡ i + 1 → Contains (next_of b i) j
  unfolding next_of
  next_has true i j on is = subst (λ (x : ℕ). Contains ((i + 1) ∷ []) x) (sym is) (at_head (i + 1) [])
  next_has false i j on is = cc

  next_from : (b : Bool) (i j : ℕ) → Contains (next_of b i) j → (b ≡ true) × (j ≡ i + 1)
  unfolding next_of
  next_from true i j has = elim (either (i + 1) j [] has) [ inl e ↦ (refl, sym e) | inr none ↦ absurd (nowhere j none) ]
  next_from false i j has = absurd (nowhere j has)

  lead_has : (o : Option Row) (i j : ℕ) (row : Row) → o ≡ Some row → LeadsTo row i j → Contains (leads_of o i) j
  unfolding leads_of
  lead_has None i j row is leads = cc
  lead_has (Some q) i j row is leads =
      let same : q ≡ row = some_same q row is in
      elim (subst (λ (x : Row). LeadsTo x i j) (sym same) leads) [
        | inl on ↦ Contains-append_left (next_of (goes_on q) i) (aims_of q) j (next_has (goes_on q) i j on.0 on.1)
        | inr aim ↦ Contains-append_right (next_of (goes_on q) i) (aims_of q) j aim
      ]

  lead_from : (o : Option Row) (i j : ℕ) → Contains (leads_of o i) j → (row : Row) × (o ≡ Some row) × LeadsTo row i j
  unfolding leads_of
  lead_from None i j has = absurd (nowhere j has)
  lead_from (Some q) i j has =
      elim (Contains-append_cases (next_of (goes_on q) i) (aims_of q) j has) [
        | inl on ↦ (q, refl, inl (next_from (goes_on q) i j on))
        | inr aim ↦ (q, refl, inr aim)
      ]

  finite : IsFinite flow
  unfolding flow
  finite = record {
    entries = entries_in (spans_of body);
    leads = λ i. leads_of (slice_get s.rows.now i) i;
    enters = λ i f. ((λ e. let h = e.2 in entry_has (spans_of body) i f e.0 e.1 h.0 h.1), (λ has. entry_from (spans_of body) i f has));
    led = λ i j. ((λ e. lead_has (slice_get s.rows.now i) i j e.0 e.1 e.2), (λ has. lead_from (slice_get s.rows.now i) i j has));
    fine = λ i f e. let h = e.2 in entered_fine s (e.0).kind f h.1;
    decided = frame_or;
  }

  joins : HasJoins flow
  unfolding flow
  joins = frame_join

  heights : IsHeight flow
  unfolding flow
  heights = record { height = height; top = top; under = λ h f fine is. under h f is; falls = λ h f u one two is off held. falls h f u is off held }

  to_map : (table : Table) → AreFrames s body table → IsMap flow (length s.rows.now) table
  unfolding flow
  to_map table are = record {
    as_many = are.as_many;
    fine = are.are;
    entries = are.entries;
    accepted = λ i f has.
        let within = slice_get_within table i (Some f) has in
        let many = are.as_many in
        elim (slice_get_cases s.rows.now i).1 [
          | inr past ↦ let end = past.0 in absurd (omega (arith, within, many, end))
          | inl at ↦
              let left = are.accepted i at.0 f at.2 has in
              (left.0, (at.0, at.2, left.1), λ j leads. left.2 j (subst (λ (r : Row). LeadsTo r i j) (one_row i leads.0 at.0 leads.1 at.2) leads.2))
        ];
  }

  from_map : (table : Table) → (s.rows.now ≢ []) → IsMap flow (length s.rows.now) table → AreFrames s body table
  unfolding flow
  from_map table some is = record {
    as_many = is.as_many;
    are = is.fine;
    some = some;
    entries = is.entries;
    accepted = λ i row f at has.
        let left = is.accepted i f has in
        let gives = left.1 in
        (left.0, subst (λ (r : Row). IsAccepted s body i r f left.0) (one_row i gives.0 row gives.1 at) gives.2, λ j leads. left.2 j (row, at, leads));
  }

  pub least_frames : (table : Table) → AreFrames s body table → (least : Table) × AreLeastFrames s body least
  unfolding flow
  least_frames table are =
      let least = least_map flow (length s.rows.now) monotone finite joins heights table (to_map table are) in
      let is = least.1 in
      (least.0, record { frames = from_map least.0 are.some is.map; least = λ other fits. is.below other (to_map other fits) })
