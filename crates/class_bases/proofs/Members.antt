-- The least owner of a member that names a type which isn't there.
use Rattle.std.proofs.Common.{◌≡◌, ◌⊎◌, ℕ, ◌+◌, ◌<◌, ◌≤◌, Option, Some, None, min, List, length, refl, sym, ◌∙◌, ap, subst, inl, inr, arith}
use Rattle.std.specs.List.{slice_get}
use Rattle.std.proofs.lemmas.Bool.{cases_lt}
use Rattle.std.proofs.lemmas.Option.{slice_get_within}
use Rattle.dc_base.specs.declared.names.TypeId.{TypeId}
use Rattle.class_rows.specs.declared.row.TypeRow.{TypeRow}
use Rattle.class_rows.specs.declared.row.MemberRow.{MemberRow}
use Rattle.class_rows.specs.Names.{IsReference}
use Rattle.class_rows.specs.Members.{HasMember}
use Rattle.class_rows.specs.Bases.{MemberNames}
use Rattle.class_keys.specs.Least.{IsLeastOff, lesser_of}
use Rattle.class_keys.proofs.Items.{one_item}
use Rattle.class_bases.specs.Fit.{MemberIsThere, MembersFit, IsBrokenOwner}

-- the number is at or above the least one
abbrev pub IsAtLeast : Option ℕ → ℕ → Type 0
IsAtLeast None t = ⊥
IsAtLeast (Some l) t = l ≤ t

-- a type owns a member that names what isn't there
pub record OwnsBroken (types : List TypeRow) (members : List MemberRow) (t : ℕ) : Type 0 where
  pub reference : IsReference types t
  pub m : ℕ
  pub row : MemberRow
  pub stands : slice_get members m ≡ Some row
  pub owner : row.owner ≡ record { 0 = t }
  pub off : MemberIsThere types row → ⊥

-- the least number, where there is one, is of such a type
abbrev pub IsBrokenAt : List TypeRow → List MemberRow → Option ℕ → Type 0
IsBrokenAt types members None = Unit {0}
IsBrokenAt types members (Some l) = OwnsBroken types members l

-- of the first so many members
pub record MembersFitBefore (types : List TypeRow) (members : List MemberRow) (i : ℕ) (least : Option ℕ) : Type 0 where
  pub broken : IsBrokenAt types members least
  pub others : (m : ℕ) (row : MemberRow) → m < i → slice_get members m ≡ Some row → IsReference types row.owner.0 → MemberIsThere types row ⊎ IsAtLeast least row.owner.0

at_least_left : (a b : Option ℕ) (t : ℕ) → IsAtLeast a t → IsAtLeast (lesser_of a b) t
at_least_left None b t h = absurd h
at_least_left (Some l) None t h = h
at_least_left (Some l) (Some k) t h = let low : l ≤ t = h in omega arith

at_least_right : (a b : Option ℕ) (t : ℕ) → IsAtLeast b t → IsAtLeast (lesser_of a b) t
at_least_right None b t h = h
at_least_right (Some l) None t h = absurd h
at_least_right (Some l) (Some k) t h = let low : k ≤ t = h in omega arith

broken_lesser : (types : List TypeRow) (members : List MemberRow) (a b : Option ℕ) → IsBrokenAt types members a → IsBrokenAt types members b → IsBrokenAt types members (lesser_of a b)
broken_lesser types members None b p q = q
broken_lesser types members (Some l) None p q = p
broken_lesser types members (Some l) (Some k) p q = elim (cases_lt l k) [
  | inl lt ↦ let e : l ≡ min l k = omega (arith, lt) in subst (λ (n : ℕ). OwnsBroken types members n) e p
  | inr le ↦ let e : k ≡ min l k = omega (arith, le) in subst (λ (n : ℕ). OwnsBroken types members n) e q
]

-- what one member adds
broken_by : (types : List TypeRow) (members : List MemberRow) (i : ℕ) (row : MemberRow) (found : Option ℕ) → slice_get members i ≡ Some row → IsBrokenOwner types row found → IsBrokenAt types members found
broken_by types members i row None stands is = tt
broken_by types members i row (Some t) stands is = record { reference = is.1; m = i; row = row; stands = stands; owner = ap (λ (n : ℕ). let id : TypeId = record { 0 = n } in id) (sym is.0); off = is.2 }

there_or_least : (types : List TypeRow) (row : MemberRow) (found : Option ℕ) → IsBrokenOwner types row found → IsReference types row.owner.0 → MemberIsThere types row ⊎ IsAtLeast found row.owner.0
there_or_least types row None is reference = inl (is reference)
there_or_least types row (Some t) is reference = inr (let e = is.0 in omega (arith, e))

pub member_more : (types : List TypeRow) (members : List MemberRow) (i : ℕ) (row : MemberRow) (least found : Option ℕ) → slice_get members i ≡ Some row → IsBrokenOwner types row found → MembersFitBefore types members i least → MembersFitBefore types members (i + 1) (lesser_of least found)
member_more types members i row least found stands is so = record {
  broken = broken_lesser types members least found so.broken (broken_by types members i row found stands is);
  others = λ m other lt at reference. elim (cases_lt m i) [
    | inl less ↦ elim (so.others m other less at reference) [
      | inl there ↦ inl there
      | inr low ↦ inr (at_least_left least found other.owner.0 low)
    ]
    | inr le ↦
        let e : m ≡ i = omega (arith, lt, le) in
        let same = one_item members i other row (ap (λ (k : ℕ). slice_get members k) (sym e) ∙ at) stands in
        let r = subst (λ (x : MemberRow). IsReference types x.owner.0) same reference in
        subst (λ (x : MemberRow). MemberIsThere types x ⊎ IsAtLeast (lesser_of least found) x.owner.0) (sym same) (elim (there_or_least types row found is r) [
          | inl there ↦ inl there
          | inr low ↦ inr (at_least_right least found row.owner.0 low)
        ])
  ];
}

named_there : (types : List TypeRow) (row : MemberRow) (n : ℕ) → MemberIsThere types row → MemberNames row n → n < length types
named_there types row n there names = elim names [
  | inl by_result ↦ there.result_there n by_result
  | inr by_param ↦ there.params_there by_param.0 by_param.1 by_param.2 n by_param.3
]

fit_where_there : (types : List TypeRow) (members : List MemberRow) (i t : ℕ) (least : Option ℕ) → length members ≤ i → MembersFitBefore types members i least → (IsAtLeast least t → ⊥) → MembersFit types members t
fit_where_there types members i t least all so off reference m n h =
    let lt = slice_get_within members m h.row h.stands in
    let r = subst (λ (o : TypeId). IsReference types o.0) (sym h.is.0) reference in
    elim (so.others m h.row (omega (arith, lt, all)) h.stands r) [
      | inl there ↦ named_there types h.row n there h.is.1
      | inr low ↦ absurd (off (subst (λ (o : TypeId). IsAtLeast least o.0) h.is.0 low))
    ]

pub members_fit : (types : List TypeRow) (members : List MemberRow) (i : ℕ) (least : Option ℕ) → length members ≤ i → MembersFitBefore types members i least → IsLeastOff (MembersFit types members) least
members_fit types members i None all so = λ t. fit_where_there types members i t None all so (λ low. low)
members_fit types members i (Some l) all so = (
  (λ fit. so.broken.off (record {
    result_there = λ n names. fit so.broken.reference so.broken.m n (record { row = so.broken.row; stands = so.broken.stands; is = (so.broken.owner, inl names) });
    params_there = λ k p at n names. fit so.broken.reference so.broken.m n (record { row = so.broken.row; stands = so.broken.stands; is = (so.broken.owner, inr (k, p, at, names)) });
  })),
  λ t lt. fit_where_there types members i t (Some l) all so (λ low. let le : l ≤ t = low in omega (arith, lt, le)),
)
