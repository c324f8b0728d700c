-- The first member of each sign in each type that is there.
use Rattle.std.proofs.Common.{◌≡◌, ℕ, ◌+◌, ◌<◌, ◌≤◌, Bool, true, Some, None, List, [], ◌∷◌, ◌++◌, length, refl, sym, ◌∙◌, ap, subst, inl, inr, arith}
use Rattle.std.specs.Bool.{Decides}
use Rattle.std.specs.List.{slice_get}
use Rattle.std.proofs.lemmas.Bool.{cases_lt}
use Rattle.std.proofs.lemmas.Bool.Decides.{Decides-eqb, Decides-and, Decides-like}
use Rattle.std.proofs.lemmas.List.{length-append}
use Rattle.std.proofs.lemmas.Option.{slice_get_within}
use Rattle.dc_base.specs.declared.names.TypeId.{TypeId}
use Rattle.dc_causes.specs.First.{IsLeast}
use Rattle.class_keys.specs.Firsts.{IsAlsoAt, AreFirsts}
use Rattle.class_keys.proofs.Items.{one_item, item_at, item_kept, last_item, pushed_item}
use Rattle.class_rows.specs.declared.row.MemberRow.{MemberRow}
use Rattle.class_rows.specs.Members.{HasMember, IsOf}
use Rattle.cli_refs.specs.declared.pick.Place.{Place}
use Rattle.cli_refs.specs.contracts.pick.PlacePartialEq.TheImpl as place_impl
use Rattle.cli_refs.specs.Picks.{IsPlace, ArePlaces, IsPickedAt, ArePicked, IsSignedIn, ArePicks}

-- the places so far
pub none_placed : (members : List MemberRow) (signs : List ℕ) (places : List Place) → places ≡ [] → ArePlaces members signs 0 places
none_placed members signs places none = record {
  long = ap length none;
  right = λ m s row place at sign is. let e : None ≡ Some place = sym (ap (λ (ps : List Place). slice_get ps m) none) ∙ is in absurd cc;
}

pub placed_more : (members : List MemberRow) (signs : List ℕ) (places : List Place) (i s : ℕ) (row : MemberRow) (place : Place) → ArePlaces members signs i places → slice_get members i ≡ Some row → slice_get signs i ≡ Some s → IsPlace row s place → ArePlaces members signs (i + 1) (places ++ (place ∷ []))
placed_more members signs places i s row place are at sign is = record {
  long = length-append places (place ∷ []) ∙ ap (λ (n : ℕ). n + 1) are.long;
  right = λ m r other p stands signed there. elim (pushed_item places place m p there) [
    | inl old ↦ are.right m r other p stands signed old
    | inr new ↦
        let same : m ≡ i = new.0 ∙ are.long in
        let one : row ≡ other = one_item members i row other at (ap (λ (n : ℕ). slice_get members n) (sym same) ∙ stands) in
        let two : s ≡ r = one_item signs i s r sign (ap (λ (n : ℕ). slice_get signs n) (sym same) ∙ signed) in
        subst (λ (q : Place). IsPlace other r q) (sym new.1) (subst (λ (n : ℕ). IsPlace other n place) two (subst (λ (x : MemberRow). IsPlace x s place) one is))
  ];
}

-- the flags so far
module _ (types : ℕ) (members : List MemberRow) (firsts : List ℕ) where
  pub none_picked : (picks : List Bool) → picks ≡ [] → ArePicked types members firsts 0 picks
  none_picked picks none = record {
    long = ap length none;
    yes_ = λ n at. let e : None ≡ Some true = sym (ap (λ (l : List Bool). slice_get l n) none) ∙ at in absurd cc;
    no_ = λ n lt h. absurd (omega (arith, lt));
  }

  picked_row : (m f : ℕ) (row : MemberRow) → slice_get members m ≡ Some row → slice_get firsts m ≡ Some f → (f ≡ m) × (row.owner.0 < types) → IsPickedAt types members firsts m
  picked_row m f row at first both = (first ∙ ap Some both.0, record { row = row; stands = at; is = both.1 })

  row_picked : (m f : ℕ) (row : MemberRow) → slice_get members m ≡ Some row → slice_get firsts m ≡ Some f → IsPickedAt types members firsts m → (f ≡ m) × (row.owner.0 < types)
  row_picked m f row at first picked = (
    one_item firsts m f m first picked.0,
    subst (λ (r : MemberRow). r.owner.0 < types) (one_item members m picked.1.row row picked.1.stands at) picked.1.is,
  )

  pub picked_more : (picks : List Bool) (m f : ℕ) (row : MemberRow) (flag : Bool) → ArePicked types members firsts m picks → slice_get members m ≡ Some row → slice_get firsts m ≡ Some f → (flag ≡ true → (f ≡ m) × (row.owner.0 < types)) → ((f ≡ m) × (row.owner.0 < types) → flag ≡ true) → ArePicked types members firsts (m + 1) (picks ++ (flag ∷ []))
  picked_more picks m f row flag are at first is so = record {
    long = length-append picks (flag ∷ []) ∙ ap (λ (n : ℕ). n + 1) are.long;
    yes_ = λ n there. elim (pushed_item picks flag n true there) [
      | inl old ↦ are.yes_ n old
      | inr new ↦ subst (λ (k : ℕ). IsPickedAt types members firsts k) (sym (new.0 ∙ are.long)) (picked_row m f row at first (is (sym new.1)))
    ];
    no_ = λ n lt picked. elim (cases_lt n m) [
      | inl less ↦ item_kept picks (flag ∷ []) n true (are.no_ n less picked)
      | inr ge ↦
          let same : n ≡ m = omega (arith, ge, lt) in
          let up : flag ≡ true = so (row_picked m f row at first (subst (λ (k : ℕ). IsPickedAt types members firsts k) same picked)) in
          ap (λ (k : ℕ). slice_get (picks ++ (flag ∷ [])) k) (same ∙ sym are.long) ∙ last_item picks flag ∙ ap Some up
    ];
  }

pub record AreOnePlace (a b : Place) : Type 0 where
  pub owner : a.owner ≡ b.owner
  pub sign : a.sign ≡ b.sign

pub place_tells : (a b : Place) → Decides ((place_impl.eq-value).it a b) (AreOnePlace a b)
place_tells a b =
    Decides-like _
    (λ p. record { owner = p.0; sign = p.1 })
    (λ s. (s.owner, s.sign))
    (Decides-and _ _ (Decides-eqb a.owner b.owner) (Decides-eqb a.sign b.sign))

abbrev pub Tells : (Place → Place → Bool) → Type 0
Tells eq = (a b : Place) → Decides (eq a b) (AreOnePlace a b)

place_through : (a b c : Place) → AreOnePlace a b → AreOnePlace b c → AreOnePlace a c
place_through a b c p q = record { owner = p.owner ∙ q.owner; sign = p.sign ∙ q.sign }

module _ (eq : Place → Place → Bool) (tells : Tells eq) (types : ℕ) (members : List MemberRow) (signs : List ℕ) (places : List Place) (firsts : List ℕ) (picks : List Bool) (placed : ArePlaces members signs (length members) places) (first : AreFirsts eq places firsts) (are : ArePicked types members firsts (length members) picks) where
  -- the place of a member of this type and this sign
  place_at : (t s m : ℕ) → IsSignedIn members signs t s m → (p : Place) × (slice_get places m ≡ Some p) × (p.owner ≡ t) × (p.sign ≡ s)
  place_at t s m in_ =
      let long = placed.long in
      let p = item_at places m (let lt = slice_get_within members m in_.0.row in_.0.stands in omega (arith, lt, long)) in
      let is = placed.right m s in_.0.row p.0 in_.0.stands in_.1 p.1 in
      (p.0, p.1, is.owner ∙ ap (λ (o : TypeId). o.0) in_.0.is, is.sign)

  twin : (t s m n : ℕ) → IsSignedIn members signs t s m → IsSignedIn members signs t s n → IsAlsoAt eq places m n
  twin t s m n here there =
      let p = place_at t s m here in
      let q = place_at t s n there in
      record { key = p.0; stands = p.1; twin = q.0; other_stands = q.1; equal = (tells p.0 q.0).1 (record { owner = p.2 ∙ sym q.2; sign = p.3 ∙ sym q.3 }) }

  least_of : (t s m n : ℕ) → slice_get picks m ≡ Some true → IsSignedIn members signs t s m → n < m → IsSignedIn members signs t s n → ⊥
  least_of t s m n up here lt there = (first.first m m (are.yes_ m up).0).least n lt (twin t s m n here there)

  there_of : (t m : ℕ) → slice_get picks m ≡ Some true → IsOf members t m → t < types
  there_of t m up of_ =
      let at = (are.yes_ m up).1 in
      let e = one_item members m at.row of_.row at.stands of_.stands in
      subst (λ (n : ℕ). n < types) (ap (λ (r : MemberRow). r.owner.0) e ∙ ap (λ (o : TypeId). o.0) of_.is) at.is

  -- a number's place is that of a member, with its sign
  placed_in : (t s f : ℕ) (p : Place) → length members ≤ length signs → slice_get places f ≡ Some p → p.owner ≡ t → p.sign ≡ s → IsSignedIn members signs t s f
  placed_in t s f p short at owner sign =
      let long = placed.long in
      let lt = slice_get_within places f p at in
      let row = item_at members f (omega (arith, lt, long)) in
      let r = item_at signs f (omega (arith, lt, long, short)) in
      let is = placed.right f r.0 row.0 p row.1 r.1 at in (
        record { row = row.0; stands = row.1; is = ap (λ (n : ℕ). record { 0 = n }) (sym is.owner ∙ owner) },
        r.1 ∙ ap Some (sym is.sign ∙ sign),
      )

  one_place : (m f : ℕ) (p : Place) → slice_get places m ≡ Some p → IsAlsoAt eq places m f → (b : Place) × (slice_get places f ≡ Some b) × AreOnePlace p b
  one_place m f p stands at =
      let e : at.key ≡ p = one_item places m at.key p at.stands stands in
      (at.twin, at.other_stands, subst (λ (k : Place). AreOnePlace k at.twin) e ((tells at.key at.twin).0 at.equal))

  -- the first index of a place is that of its own place
  first_again : (m f g : ℕ) (p : Place) → slice_get places m ≡ Some p → IsLeast (IsAlsoAt eq places m) f → IsLeast (IsAlsoAt eq places f) g → g ≡ f
  first_again m f g p stands least again =
      let b = one_place m f p stands least.holds in
      let c = one_place f g b.0 b.1 again.holds in
      let back : f ≤ g = elim (cases_lt g f) [
        | inr le ↦ le
        | inl less ↦ absurd (least.least g less (record { key = p; stands = stands; twin = c.0; other_stands = c.1; equal = (tells p c.0).1 (place_through p b.0 c.0 b.2 c.2) }))
      ] in
      let self : g ≤ f = elim (cases_lt f g) [
        | inr le ↦ le
        | inl less ↦ absurd (again.least f less (record { key = b.0; stands = b.1; twin = b.0; other_stands = b.1; equal = (tells b.0 b.0).1 (record { owner = refl; sign = refl }) }))
      ] in
      omega (arith, back, self)

  owner_within : (t m : ℕ) → IsOf members t m → t < types → HasMember members m (λ row. row.owner.0 < types)
  owner_within t m of_ lt = record { row = of_.row; stands = of_.stands; is = subst (λ (o : TypeId). o.0 < types) (sym of_.is) lt }

  first_of : (t s m : ℕ) → length members ≤ length signs → t < types → IsSignedIn members signs t s m → (n : ℕ) × (slice_get picks n ≡ Some true) × IsSignedIn members signs t s n
  first_of t s m short within here =
      let p = place_at t s m here in
      let f = item_at firsts m (let lt = slice_get_within places m p.0 p.1 in let long = first.long in omega (arith, lt, long)) in
      let least = first.first m f.0 f.1 in
      let b = one_place m f.0 p.0 p.1 least.holds in
      let in_ = placed_in t s f.0 b.0 short b.1 (sym b.2.owner ∙ p.2) (sym b.2.sign ∙ p.3) in
      let lt = slice_get_within places f.0 b.0 b.1 in
      let g = item_at firsts f.0 (let long = first.long in omega (arith, lt, long)) in
      let fixed = first_again m f.0 g.0 p.0 p.1 least (first.first f.0 g.0 g.1) in
      (f.0, are.no_ f.0 (let long = placed.long in omega (arith, lt, long)) (subst (λ (n : ℕ). slice_get firsts f.0 ≡ Some n) fixed g.1, owner_within t f.0 in_.0 within), in_)

  pub are_picks : length members ≤ length signs → ArePicks types members signs picks
  are_picks short = record {
    there = there_of;
    least = least_of;
    has = λ t s m within here. first_of t s m short within here;
  }
