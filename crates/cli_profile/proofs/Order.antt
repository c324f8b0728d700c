-- What the tables in their order say of the first failure.
use Rattle.std.proofs.Common.{◌≡◌, ◌⊎◌, ◌∙◌, ℕ, ◌+◌, ◌-◌, ◌<◌, ◌≤◌, List, [], ◌∷◌, Ok, Err, refl, sym, ap, subst, inl, inr, arith}
use Rattle.std.proofs.lemmas.Bool.{cases_lt}
use Rattle.dc_causes.specs.Causes.{InOrder}
use Rattle.dc_causes.specs.Rows.{OfRow, OfRows}
use Rattle.dc_causes.proofs.Chain.{then_read, then_fault}
use Rattle.dc_causes.proofs.Single.{not_both}
use Rattle.cli_conditions.specs.declared.condition.Condition.{Condition}
use Rattle.cli_metadata.specs.declared.tables.Table.{Table}
use Rattle.cli_metadata.specs.Numbers.{number_of}
use Rattle.cli_profile.specs.declared.judged.Judged.{Judged}
use Rattle.cli_profile.specs.declared.judged.Judged.TheVariants.{Field, MethodDef, FieldMarshal, DeclSecurity, ClassLayout, FieldLayout, EventMap, Event, ModuleRef, TypeSpec, ImplMap, FieldRva, Assembly, File, ExportedType, GenericParam, MethodSpec, GenericParamConstraint}
use Rattle.cli_profile.specs.Rows.{Subject}
use Rattle.cli_profile.specs.Profile.{Fails, Failure, IsFailure, ComesBefore, RowsInProfile, unmet_of}
use Rattle.cli_profile.specs.Judged.{table_of, asked, FailsNone, FailsAt}
use Rattle.cli_profile.proofs.Judging.{IsAsked, asks}

abbrev pub all : List Judged
all = Field ∷ MethodDef ∷ FieldMarshal ∷ DeclSecurity ∷ ClassLayout ∷ FieldLayout ∷ EventMap ∷ Event ∷ ModuleRef ∷ TypeSpec ∷ ImplMap ∷ FieldRva ∷ Assembly ∷ File ∷ ExportedType ∷ GenericParam ∷ MethodSpec ∷ GenericParamConstraint ∷ []

abbrev number : Judged → ℕ
number judged = number_of (table_of judged)

-- ---- the list

Among : Judged → List Judged → Type 0
Among j [] = ⊥
Among j (x ∷ xs) = (j ≡ x) ⊎ Among j xs

-- the numbers rise, from behind this one on
Rising : ℕ → List Judged → Type 0
Rising b [] = Unit {0}
Rising b (x ∷ xs) = (b < number x) × Rising (number x) xs

above : (b : ℕ) (xs : List Judged) (j : Judged) → Rising b xs → Among j xs → b < number j
unfolding Among Rising
above b [] j up among = absurd among
above b (x ∷ xs) j up (inl is) = let same : number j ≡ number x = ap (λ (i : Judged). number i) is in omega (arith, up.0, same)
above b (x ∷ xs) j up (inr later) = let more = above (number x) xs j up.1 later in omega (arith, up.0, more)

rising : Rising 0 all
unfolding Rising
rising = (omega arith, (omega arith, (omega arith, (omega arith, (omega arith, (omega arith, (omega arith, (omega arith, (omega arith, (omega arith, (omega arith, (omega arith, (omega arith, (omega arith, (omega arith, (omega arith, (omega arith, (omega arith, tt))))))))))))))))))

each_is_among : (j : Judged) → Among j all
unfolding Among
each_is_among Field = inl refl
each_is_among MethodDef = inr (inl refl)
each_is_among FieldMarshal = inr (inr (inl refl))
each_is_among DeclSecurity = inr (inr (inr (inl refl)))
each_is_among ClassLayout = inr (inr (inr (inr (inl refl))))
each_is_among FieldLayout = inr (inr (inr (inr (inr (inl refl)))))
each_is_among EventMap = inr (inr (inr (inr (inr (inr (inl refl))))))
each_is_among Event = inr (inr (inr (inr (inr (inr (inr (inl refl)))))))
each_is_among ModuleRef = inr (inr (inr (inr (inr (inr (inr (inr (inl refl))))))))
each_is_among TypeSpec = inr (inr (inr (inr (inr (inr (inr (inr (inr (inl refl)))))))))
each_is_among ImplMap = inr (inr (inr (inr (inr (inr (inr (inr (inr (inr (inl refl))))))))))
each_is_among FieldRva = inr (inr (inr (inr (inr (inr (inr (inr (inr (inr (inr (inl refl)))))))))))
each_is_among Assembly = inr (inr (inr (inr (inr (inr (inr (inr (inr (inr (inr (inr (inl refl))))))))))))
each_is_among File = inr (inr (inr (inr (inr (inr (inr (inr (inr (inr (inr (inr (inr (inl refl)))))))))))))
each_is_among ExportedType = inr (inr (inr (inr (inr (inr (inr (inr (inr (inr (inr (inr (inr (inr (inl refl))))))))))))))
each_is_among GenericParam = inr (inr (inr (inr (inr (inr (inr (inr (inr (inr (inr (inr (inr (inr (inr (inl refl)))))))))))))))
each_is_among MethodSpec = inr (inr (inr (inr (inr (inr (inr (inr (inr (inr (inr (inr (inr (inr (inr (inr (inl refl))))))))))))))))
each_is_among GenericParamConstraint = inr (inr (inr (inr (inr (inr (inr (inr (inr (inr (inr (inr (inr (inr (inr (inr (inr (inl refl)))))))))))))))))

-- ---- what the tables in their order say

-- the row that is found is the first of its table that fails
pub record IsFound (s : Subject) (p : Judged × ℕ) : Type 0 where
  pub within : p.1 < asked p.0 s
  pub before : (m : ℕ) → m < p.1 → FailsNone p.0 s m
  pub fails : FailsNone p.0 s p.1 → ⊥

-- it is a row of its table, and the rows before it fail nothing
record IsFoundIn (s : Subject) (x : Judged) (p : Judged × ℕ) : Type 0 where
  its : p.0 ≡ x
  within : p.1 < asked x s
  before : (m : ℕ) → m < p.1 → FailsNone x s m
  fails : FailsNone x s p.1 → ⊥

found_in : (s : Subject) (x : Judged) (p : Judged × ℕ) → OfRow asked FailsNone s x (Err p) → IsFoundIn s x p
found_in s x p h =
    let same : h.0 ≡ p.1 = sym (ap (λ (q : Judged × ℕ). q.1) h.3.1) in
    record {
      its = ap (λ (q : Judged × ℕ). q.0) h.3.1;
      within = omega (arith, same, h.1);
      before = λ m lt. h.2 m (omega (arith, same, lt));
      fails = subst (λ (k : ℕ). FailsNone x s k → ⊥) same h.3.0;
    }

pub found : (s : Subject) (xs : List Judged) (p : Judged × ℕ) → OfRows asked FailsNone s xs (Err p) → IsFound s p
found s [] p h = absurd (not_both tt p (sym h))
found s (x ∷ xs) p h = elim (then_fault (OfRow asked FailsNone s x) (λ _. InOrder (OfRow asked FailsNone s) xs) p h) [
  | inl here ↦ (let it = found_in s x p here in record {
    within = subst (λ (j : Judged). p.1 < asked j s) (sym it.its) it.within;
    before = subst (λ (j : Judged). (m : ℕ) → m < p.1 → FailsNone j s m) (sym it.its) it.before;
    fails = subst (λ (j : Judged). FailsNone j s p.1 → ⊥) (sym it.its) it.fails;
  })
  | inr rest ↦ found s xs p rest.2
]

-- the row that is found isn't behind one that fails
abbrev IsNotBehind : Judged × ℕ → Judged → ℕ → Type 0
IsNotBehind p j k = (number p.0 < number j) ⊎ ((p.0 ≡ j) × (p.1 ≤ k))

here_first : (s : Subject) (x : Judged) (p : Judged × ℕ) (j : Judged) (k : ℕ) → IsFoundIn s x p → j ≡ x → (FailsNone j s k → ⊥) → IsNotBehind p j k
here_first s x p j k it is fails = inr (
  it.its ∙ sym is,
  elim (cases_lt k p.1) [
    | inl lt ↦ absurd (fails (subst (λ (i : Judged). FailsNone i s k) (sym is) (it.before k lt)))
    | inr le ↦ le
  ],
)

least : (s : Subject) (b : ℕ) (xs : List Judged) (p : Judged × ℕ) (j : Judged) (k : ℕ) → Rising b xs → OfRows asked FailsNone s xs (Err p) → Among j xs → k < asked j s → (FailsNone j s k → ⊥) → IsNotBehind p j k
unfolding Among Rising
least s b [] p j k up h among lt fails = absurd among
least s b (x ∷ xs) p j k up h (inl is) lt fails = elim (then_fault (OfRow asked FailsNone s x) (λ _. InOrder (OfRow asked FailsNone s) xs) p h) [
  | inl here ↦ here_first s x p j k (found_in s x p here) is fails
  | inr rest ↦ absurd (fails (subst (λ (i : Judged). FailsNone i s k) (sym is) (rest.1 k (subst (λ (i : Judged). k < asked i s) is lt))))
]
least s b (x ∷ xs) p j k up h (inr later) lt fails = elim (then_fault (OfRow asked FailsNone s x) (λ _. InOrder (OfRow asked FailsNone s) xs) p h) [
  | inl here ↦ inl (let same : number p.0 ≡ number x = ap (λ (i : Judged). number i) (found_in s x p here).its in
      let less : number x < number j = above (number x) xs j up.1 later in
      omega (arith, same, less))
  | inr rest ↦ least s (number x) xs p j k up.1 rest.2 later lt fails
]

-- no row fails where all are passed
none_fails : (s : Subject) (xs : List Judged) (j : Judged) (k : ℕ) → OfRows asked FailsNone s xs (Ok tt) → Among j xs → k < asked j s → FailsNone j s k
unfolding Among
none_fails s [] j k h among lt = absurd among
none_fails s (x ∷ xs) j k h (inl is) lt =
    let both = then_read (OfRow asked FailsNone s x) (λ _. InOrder (OfRow asked FailsNone s) xs) tt h in
    subst (λ (i : Judged). FailsNone i s k) (sym is) (both.1 k (subst (λ (i : Judged). k < asked i s) is lt))
none_fails s (x ∷ xs) j k h (inr later) lt =
    let both = then_read (OfRow asked FailsNone s x) (λ _. InOrder (OfRow asked FailsNone s) xs) tt h in
    none_fails s xs j k both.2 later lt

-- ---- and of the failures

-- a failing row as one that is asked
fails_at : (s : Subject) (g : Failure) (fails : IsFailure s g) (it : IsAsked s g.table g.row) → Fails s g.condition (table_of it.judged) ((g.row - 1) + 1)
fails_at s g fails it =
    let same : g.row ≡ (g.row - 1) + 1 = omega (arith, it.low) in
    subst (λ (n : ℕ). Fails s g.condition (table_of it.judged) n) same (subst (λ (t : Table). Fails s g.condition t g.row) it.is fails)

pub met : (s : Subject) → OfRows asked FailsNone s all (Ok tt) → RowsInProfile s (Ok tt)
met s passed g fails =
    let it = asks s g.condition g.table g.row fails in
    none_fails s all it.judged (g.row - 1) passed (each_is_among it.judged) (omega (arith, it.low, it.high)) g.condition (fails_at s g fails it)

first : (s : Subject) (p : Judged × ℕ) (c : Condition) → OfRows asked FailsNone s all (Err p) → FailsAt p.0 s p.1 c → (g : Failure) → IsFailure s g → ComesBefore g (record { condition = c; table = table_of p.0; row = p.1 + 1 }) → ⊥
first s p c broken at g fails comes =
    let it = asks s g.condition g.table g.row fails in
    let table : number_of g.table ≡ number it.judged = ap (λ (t : Table). number_of t) it.is in
    let order = least s 0 all p it.judged (g.row - 1) rising broken (each_is_among it.judged) (omega (arith, it.low, it.high)) (λ none. none g.condition (fails_at s g fails it)) in
    elim order [
      | inl less ↦ elim comes [
        | inl lower ↦ omega (arith, table, less, lower)
        | inr rest ↦ elim rest [
          | inl rows ↦ omega (arith, table, less, rows.0)
          | inr places ↦ omega (arith, table, less, places.0)
        ]
      ]
      | inr same ↦ (let number_same : number p.0 ≡ number it.judged = ap (λ (j : Judged). number j) same.0 in elim comes [
        | inl lower ↦ omega (arith, table, number_same, lower)
        | inr rest ↦ elim rest [
          | inl rows ↦ omega (arith, it.low, same.1, rows.1)
          | inr places ↦ at.first g.condition places.2 (
              subst (λ (n : ℕ). Fails s g.condition (table_of p.0) n) places.1
              (subst (λ (t : Table). Fails s g.condition t g.row) (it.is ∙ ap (λ (j : Judged). table_of j) (sym same.0)) fails)
              )
        ]
      ])
    ]

pub unmet : (s : Subject) (p : Judged × ℕ) (c : Condition) → OfRows asked FailsNone s all (Err p) → FailsAt p.0 s p.1 c → RowsInProfile s (Err (unmet_of (record { condition = c; table = table_of p.0; row = p.1 + 1 })))
unmet s p c broken at = (
  record { condition = c; table = table_of p.0; row = p.1 + 1 },
  record { fails = at.fails; first = first s p c broken at },
  refl,
)
