-- What the conditions in their order say of the first failure.
use Rattle.std.proofs.Common.{◌≡◌, ◌⊎◌, ◌∙◌, ℕ, ◌+◌, ◌-◌, ◌<◌, ◌≤◌, List, [], ◌∷◌, length, Ok, Err, Some, refl, sym, ap, subst, inl, inr, arith}
use Rattle.std.specs.List.{slice_get}
use Rattle.std.proofs.lemmas.Bool.{cases_lt}
use Rattle.std.proofs.lemmas.Option.{slice_get_within}
use Rattle.dc_base.specs.declared.names.Token.{Token}
use Rattle.dc_causes.specs.Causes.{InOrder}
use Rattle.dc_causes.specs.Rows.{OfRow, OfRows}
use Rattle.dc_causes.proofs.Chain.{then_read, then_fault}
use Rattle.dc_causes.proofs.Single.{not_both}
use Rattle.class_rows.specs.declared.row.TypeRow.{TypeRow}
use Rattle.cli_conditions.specs.declared.condition.Condition.{Condition}
use Rattle.cli_conditions.specs.declared.condition.Condition.TheVariants as conditions
use Rattle.cli_conditions.specs.declared.unmet.Unmet.{Unmet}
use Rattle.cli_conditions.specs.Conditions.{number_of as place_of}
use Rattle.cli_shapes.specs.declared.own.Own.{Own}
use Rattle.cli_shapes.specs.declared.own.Told.{Told}
use Rattle.cli_shapes.specs.declared.shape.Shape.{Shape}
use Rattle.cli_shapes.specs.declared.shape.Shape.TheVariants.{ValueType, RefShape, StaticShape, NoConstructor, InterfaceShape, Finalizer, DelegateShape, EnumShape, ArrayDepth}
use Rattle.cli_shapes.specs.Own.{IsTold, type_token, IsSound}
use Rattle.cli_shapes.specs.Profile.{TypeFails, MemberFails, Fails, IsFailure, ComesBefore, ShapesInProfile}
use Rattle.cli_shapes.specs.Shapes.{condition_of, asked, FailsAt, Meets, IsTokenOf, IsUnmet}

abbrev pub all : List Shape
all = ValueType ∷ RefShape ∷ StaticShape ∷ NoConstructor ∷ InterfaceShape ∷ Finalizer ∷ DelegateShape ∷ EnumShape ∷ ArrayDepth ∷ []

abbrev number : Shape → ℕ
number shape = place_of (condition_of shape)

-- ---- the list

Among : Shape → List Shape → Type 0
Among j [] = ⊥
Among j (x ∷ xs) = (j ≡ x) ⊎ Among j xs

-- the places rise, from behind this one on
Rising : ℕ → List Shape → Type 0
Rising b [] = Unit {0}
Rising b (x ∷ xs) = (b < number x) × Rising (number x) xs

further_on : (b : ℕ) (xs : List Shape) (j : Shape) → Rising b xs → Among j xs → b < number j
unfolding Among Rising
further_on b [] j up among = absurd among
further_on b (x ∷ xs) j up (inl is) = let same : number j ≡ number x = ap (λ (i : Shape). number i) is in omega (arith, up.0, same)
further_on b (x ∷ xs) j up (inr later) = let more = further_on (number x) xs j up.1 later in omega (arith, up.0, more)

rising : Rising 0 all
unfolding Rising
rising = (omega arith, (omega arith, (omega arith, (omega arith, (omega arith, (omega arith, (omega arith, (omega arith, (omega arith, tt)))))))))

each_is_among : (j : Shape) → Among j all
unfolding Among
each_is_among ValueType = inl refl
each_is_among RefShape = inr (inl refl)
each_is_among StaticShape = inr (inr (inl refl))
each_is_among NoConstructor = inr (inr (inr (inl refl)))
each_is_among InterfaceShape = inr (inr (inr (inr (inl refl))))
each_is_among Finalizer = inr (inr (inr (inr (inr (inl refl)))))
each_is_among DelegateShape = inr (inr (inr (inr (inr (inr (inl refl))))))
each_is_among EnumShape = inr (inr (inr (inr (inr (inr (inr (inl refl)))))))
each_is_among ArrayDepth = inr (inr (inr (inr (inr (inr (inr (inr (inl refl))))))))

-- ---- what the conditions in their order say

pub record IsFound (s : Own) (p : Shape × ℕ) : Type 0 where
  pub within : p.1 < asked p.0 s
  pub fails : Meets p.0 s p.1 → ⊥

record IsFoundIn (s : Own) (x : Shape) (p : Shape × ℕ) : Type 0 where
  its : p.0 ≡ x
  within : p.1 < asked x s
  before : (m : ℕ) → m < p.1 → Meets x s m
  fails : Meets x s p.1 → ⊥

found_in : (s : Own) (x : Shape) (p : Shape × ℕ) → OfRow asked Meets s x (Err p) → IsFoundIn s x p
found_in s x p h =
    let same : h.0 ≡ p.1 = sym (ap (λ (q : Shape × ℕ). q.1) h.3.1) in
    record {
      its = ap (λ (q : Shape × ℕ). q.0) h.3.1;
      within = omega (arith, same, h.1);
      before = λ m lt. h.2 m (omega (arith, same, lt));
      fails = subst (λ (k : ℕ). Meets x s k → ⊥) same h.3.0;
    }

pub found : (s : Own) (xs : List Shape) (p : Shape × ℕ) → OfRows asked Meets s xs (Err p) → IsFound s p
found s [] p h = absurd (not_both tt p (sym h))
found s (x ∷ xs) p h = elim (then_fault (OfRow asked Meets s x) (λ _. InOrder (OfRow asked Meets s) xs) p h) [
  | inl here ↦ (let it = found_in s x p here in record {
    within = subst (λ (j : Shape). p.1 < asked j s) (sym it.its) it.within;
    fails = subst (λ (j : Shape). Meets j s p.1 → ⊥) (sym it.its) it.fails;
  })
  | inr rest ↦ found s xs p rest.2
]

-- what is found isn't behind what fails
abbrev IsNotBehind : Shape × ℕ → Shape → ℕ → Type 0
IsNotBehind p j k = (number p.0 < number j) ⊎ ((p.0 ≡ j) × (p.1 ≤ k))

here_first : (s : Own) (x : Shape) (p : Shape × ℕ) (j : Shape) (k : ℕ) → IsFoundIn s x p → j ≡ x → (Meets j s k → ⊥) → IsNotBehind p j k
here_first s x p j k it is fails = inr (
  it.its ∙ sym is,
  elim (cases_lt k p.1) [
    | inl lt ↦ absurd (fails (subst (λ (i : Shape). Meets i s k) (sym is) (it.before k lt)))
    | inr le ↦ le
  ],
)

least : (s : Own) (b : ℕ) (xs : List Shape) (p : Shape × ℕ) (j : Shape) (k : ℕ) → Rising b xs → OfRows asked Meets s xs (Err p) → Among j xs → k < asked j s → (Meets j s k → ⊥) → IsNotBehind p j k
unfolding Among Rising
least s b [] p j k up h among lt fails = absurd among
least s b (x ∷ xs) p j k up h (inl is) lt fails = elim (then_fault (OfRow asked Meets s x) (λ _. InOrder (OfRow asked Meets s) xs) p h) [
  | inl here ↦ here_first s x p j k (found_in s x p here) is fails
  | inr rest ↦ absurd (fails (subst (λ (i : Shape). Meets i s k) (sym is) (rest.1 k (subst (λ (i : Shape). k < asked i s) is lt))))
]
least s b (x ∷ xs) p j k up h (inr later) lt fails = elim (then_fault (OfRow asked Meets s x) (λ _. InOrder (OfRow asked Meets s) xs) p h) [
  | inl here ↦ inl (let same : number p.0 ≡ number x = ap (λ (i : Shape). number i) (found_in s x p here).its in
      let less : number x < number j = further_on (number x) xs j up.1 later in
      omega (arith, same, less))
  | inr rest ↦ least s (number x) xs p j k up.1 rest.2 later lt fails
]

none_fails : (s : Own) (xs : List Shape) (j : Shape) (k : ℕ) → OfRows asked Meets s xs (Ok tt) → Among j xs → k < asked j s → Meets j s k
unfolding Among
none_fails s [] j k h among lt = absurd among
none_fails s (x ∷ xs) j k h (inl is) lt =
    let both = then_read (OfRow asked Meets s x) (λ _. InOrder (OfRow asked Meets s) xs) tt h in
    subst (λ (i : Shape). Meets i s k) (sym is) (both.1 k (subst (λ (i : Shape). k < asked i s) is lt))
none_fails s (x ∷ xs) j k h (inr later) lt =
    let both = then_read (OfRow asked Meets s x) (λ _. InOrder (OfRow asked Meets s) xs) tt h in
    none_fails s xs j k both.2 later lt

-- ---- each failure is one that is asked

record IsAsked (s : Own) (c : Condition) (token : Token) : Type 0 where
  shape : Shape
  is : c ≡ condition_of shape
  n : ℕ
  within : n < asked shape s
  fails : FailsAt shape s n
  its : IsTokenOf shape s n token

own_within : (s : Own) (t : ℕ) (row : TypeRow) → slice_get s.table.now.types (s.first_type.0 + t) ≡ Some row → t < length s.table.now.types - s.first_type.0
own_within s t row stands =
    let there : s.first_type.0 + t < length s.table.now.types = slice_get_within s.table.now.types (s.first_type.0 + t) row stands in
    omega (arith, there)

ask_type : (s : Own) (c : Condition) (t : ℕ) (token : Token) → TypeFails s c t → token ≡ type_token t → IsAsked s c token
ask_type s conditions.ValueType t token h e = record { shape = ValueType; is = refl; n = t; within = own_within s t h.row h.stands; fails = h; its = e }
ask_type s conditions.StaticShape t token h e = record { shape = StaticShape; is = refl; n = t; within = own_within s t h.0.row h.0.stands; fails = h; its = e }
ask_type s conditions.NoConstructor t token h e = record { shape = NoConstructor; is = refl; n = t; within = own_within s t h.0.row h.0.stands; fails = h; its = e }
ask_type s conditions.DelegateShape t token h e = record { shape = DelegateShape; is = refl; n = t; within = own_within s t h.0.row h.0.stands; fails = h; its = e }
ask_type s conditions.EnumShape t token h e = record { shape = EnumShape; is = refl; n = t; within = own_within s t h.0.row h.0.stands; fails = h; its = e }
ask_type s _ t token h e = absurd h

told_within : (s : Own) (k : ℕ) (token : Token) → IsTold s k (λ told. token ≡ told.token) → k < length s.told.now
told_within s k token told = slice_get_within s.told.now k told.told told.stands

ask_member : (s : Own) (c : Condition) (k : ℕ) (token : Token) → MemberFails s c k → IsTold s k (λ told. token ≡ told.token) → IsAsked s c token
ask_member s conditions.RefShape k token h e = record { shape = RefShape; is = refl; n = k; within = told_within s k token e; fails = h; its = e }
ask_member s conditions.InterfaceShape k token h e = record { shape = InterfaceShape; is = refl; n = k; within = told_within s k token e; fails = h; its = e }
ask_member s conditions.Finalizer k token h e = record { shape = Finalizer; is = refl; n = k; within = told_within s k token e; fails = h; its = e }
ask_member s conditions.ArrayDepth k token h e = record { shape = ArrayDepth; is = refl; n = k; within = told_within s k token e; fails = h; its = e }
ask_member s _ k token h e = absurd h

asks : (s : Own) (c : Condition) (token : Token) → Fails s c token → IsAsked s c token
asks s c token (inl (t, h, e)) = ask_type s c t token h e
asks s c token (inr (k, h, e)) = ask_member s c k token h e

-- ---- and what is told is one of them

as_type : (s : Own) (c : Condition) (t : ℕ) (token : Token) → TypeFails s c t → token ≡ type_token t → Fails s c token
as_type s c t token h e = inl (t, h, e)

as_member : (s : Own) (c : Condition) (k : ℕ) (token : Token) → MemberFails s c k → IsTold s k (λ told. token ≡ told.token) → Fails s c token
as_member s c k token h e = inr (k, h, e)

told_fails : (s : Own) (shape : Shape) (n : ℕ) (token : Token) → FailsAt shape s n → IsTokenOf shape s n token → Fails s (condition_of shape) token
told_fails s ValueType n token h e = as_type s conditions.ValueType n token h e
told_fails s RefShape n token h e = as_member s conditions.RefShape n token h e
told_fails s StaticShape n token h e = as_type s conditions.StaticShape n token h e
told_fails s NoConstructor n token h e = as_type s conditions.NoConstructor n token h e
told_fails s InterfaceShape n token h e = as_member s conditions.InterfaceShape n token h e
told_fails s Finalizer n token h e = as_member s conditions.Finalizer n token h e
told_fails s DelegateShape n token h e = as_type s conditions.DelegateShape n token h e
told_fails s EnumShape n token h e = as_type s conditions.EnumShape n token h e
told_fails s ArrayDepth n token h e = as_member s conditions.ArrayDepth n token h e

-- ---- tokens rise

told_rises : (s : Own) → IsSound s → (m n : ℕ) (a b : Token) → m ≤ n → IsTold s m (λ told. a ≡ told.token) → IsTold s n (λ told. b ≡ told.token) → a.0 ≤ b.0
told_rises s sound m n a b le x y =
    let low : a.0 ≡ x.told.token.0 = ap (λ (t : Token). t.0) x.is in
    let high : b.0 ≡ y.told.token.0 = ap (λ (t : Token). t.0) y.is in
    elim (cases_lt m n) as (λ _. a.0 ≤ b.0) [
      | inl lt ↦ (let less = sound.order m n x.told y.told lt x.stands y.stands in omega (arith, low, high, less))
      | inr past ↦
          let same : n ≡ m = omega (arith, le, past) in
          let stands : slice_get s.told.now m ≡ Some y.told = subst (λ (i : ℕ). slice_get s.told.now i ≡ Some y.told) same y.stands in
          let both : Some x.told ≡ Some y.told = sym x.stands ∙ stands in
          let one : x.told ≡ y.told = cc in
          let numbers : x.told.token.0 ≡ y.told.token.0 = ap (λ (t : Told). t.token.0) one in
          omega (arith, low, high, numbers)
    ]

type_rises : (m n : ℕ) (a b : Token) → m ≤ n → a ≡ type_token m → b ≡ type_token n → a.0 ≤ b.0
type_rises m n a b le x y =
    let low : a.0 ≡ (type_token m).0 = ap (λ (t : Token). t.0) x in
    let high : b.0 ≡ (type_token n).0 = ap (λ (t : Token). t.0) y in
    omega (arith, low, high, le)

rises : (s : Own) (shape : Shape) → IsSound s → (m n : ℕ) (a b : Token) → m ≤ n → IsTokenOf shape s m a → IsTokenOf shape s n b → a.0 ≤ b.0
rises s ValueType sound m n a b le x y = type_rises m n a b le x y
rises s RefShape sound m n a b le x y = told_rises s sound m n a b le x y
rises s StaticShape sound m n a b le x y = type_rises m n a b le x y
rises s NoConstructor sound m n a b le x y = type_rises m n a b le x y
rises s InterfaceShape sound m n a b le x y = told_rises s sound m n a b le x y
rises s Finalizer sound m n a b le x y = told_rises s sound m n a b le x y
rises s DelegateShape sound m n a b le x y = type_rises m n a b le x y
rises s EnumShape sound m n a b le x y = type_rises m n a b le x y
rises s ArrayDepth sound m n a b le x y = told_rises s sound m n a b le x y

-- ---- the answers

pub met : (s : Own) → OfRows asked Meets s all (Ok tt) → ShapesInProfile s (Ok tt)
met s passed g fails =
    let it = asks s g.condition g.token fails in
    none_fails s all it.shape it.n passed (each_is_among it.shape) it.within it.fails

first : (s : Own) (p : Shape × ℕ) (f : Unmet) → IsSound s → OfRows asked Meets s all (Err p) → IsUnmet p.0 s p.1 f → (g : Unmet) → IsFailure s g → ComesBefore g f → ⊥
first s p f sound broken told g fails comes =
    let it = asks s g.condition g.token fails in
    let place : place_of g.condition ≡ number it.shape = ap (λ (c : Condition). place_of c) it.is in
    let mine : place_of f.condition ≡ number p.0 = ap (λ (c : Condition). place_of c) told.condition in
    let order = least s 0 all p it.shape it.n rising broken (each_is_among it.shape) it.within (λ meets. meets it.fails) in
    elim order as (λ _. ⊥) [
      | inl less ↦ elim comes as (λ _. ⊥) [
        | inl lower ↦ absurd (omega (arith, place, mine, less, lower))
        | inr places ↦ absurd (omega (arith, place, mine, less, places.0))
      ]
      | inr same ↦ (let number_same : number p.0 ≡ number it.shape = ap (λ (j : Shape). number j) same.0 in elim comes as (λ _. ⊥) [
        | inl lower ↦ absurd (omega (arith, place, mine, number_same, lower))
        | inr tokens ↦
            let its : IsTokenOf p.0 s it.n g.token = subst (λ (j : Shape). IsTokenOf j s it.n g.token) (sym same.0) it.its in
            let le = rises s p.0 sound p.1 it.n f.token g.token same.1 told.token its in
            absurd (omega (arith, le, tokens.1))
      ])
    ]

pub unmet : (s : Own) (p : Shape × ℕ) (f : Unmet) → IsSound s → OfRows asked Meets s all (Err p) → IsUnmet p.0 s p.1 f → ShapesInProfile s (Err f)
unmet s p f sound broken told = record {
  fails = subst (λ (c : Condition). Fails s c f.token) (sym told.condition) (told_fails s p.0 p.1 f.token told.fails told.token);
  first = first s p f sound broken told;
}
