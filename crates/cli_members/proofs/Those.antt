-- The rows of which a fact holds, one list behind the other.
use Rattle.std.proofs.Common.{◌≡◌, ◌⊎◌, ℕ, ◌+◌, ◌<◌, ◌≤◌, Some, None, List, [], ◌∷◌, ◌++◌, length, refl, sym, ap, subst, ◌∙◌, inl, inr, arith}
use Rattle.std.specs.List.{slice_get}
use Rattle.std.proofs.lemmas.Bool.{cases_lt}
use Rattle.std.proofs.lemmas.Option.{slice_get_within}
use Rattle.class_keys.proofs.Items.{item_kept, last_item, pushed_item}
use Rattle.cli_members.specs.declared.numbers.Owned.{Owned}
use Rattle.cli_members.specs.Members.{AreThose}

-- row r of the list of row t stands before row f of the list of row n
abbrev pub IsBefore : ℕ → ℕ → ℕ → ℕ → Type 0
IsBefore n f t r = (t < n) ⊎ ((t ≡ n) × (r < f))

pub record IsSoFar (Is : ℕ → ℕ → Type 0) (n f t r : ℕ) : Type 0 where
  pub is : Is t r
  pub before : IsBefore n f t r

-- lists stand one behind the other
abbrev pub IsOrdered : (ℕ → ℕ → Type 0) → Type 0
IsOrdered Is = (j k a b : ℕ) → j < k → Is j a → Is k b → a < b

pub none_yet : (Is : ℕ → ℕ → Type 0) → ((t r : ℕ) → Is t r → ⊥) → AreThose Is []
none_yet Is none = record {
  in_order = λ j k a b lt at_j at_k. let e : None ≡ Some a = at_j in absurd cc;
  right = λ j o at. let e : None ≡ Some o = at in absurd cc;
  all = λ n r is. absurd (none n r is);
}

-- a fact that says the same has the same rows
pub same_those : (P Q : ℕ → ℕ → Type 0) (owned : List Owned) → ((t r : ℕ) → P t r → Q t r) → ((t r : ℕ) → Q t r → P t r) → AreThose P owned → AreThose Q owned
same_those P Q owned there back so = record {
  in_order = so.in_order;
  right = λ j o at. there o.owner o.row (so.right j o at);
  all = λ n r is. so.all n r (back n r is);
}

earlier : (Is : ℕ → ℕ → Type 0) (n f t r : ℕ) → IsOrdered Is → Is n f → IsSoFar Is n f t r → r < f
earlier Is n f t r ordered here so = elim so.before [
  | inl less ↦ ordered t n r f less so.is here
  | inr same ↦ same.1
]

further : (Is : ℕ → ℕ → Type 0) (n f t r : ℕ) → IsSoFar Is n f t r → IsSoFar Is n (f + 1) t r
further Is n f t r so = record {
  is = so.is;
  before = elim so.before [ inl less ↦ inl less | inr same ↦ inr (same.0, omega (arith, same.1)) ];
}

-- a row is no more before the next one, or is this one
not_further : (Is : ℕ → ℕ → Type 0) (n f t r : ℕ) → IsSoFar Is n (f + 1) t r → (IsSoFar Is n f t r) ⊎ ((t ≡ n) × (r ≡ f))
not_further Is n f t r so = elim so.before [
  | inl less ↦ inl (record { is = so.is; before = inl less })
  | inr same ↦ elim (cases_lt r f) [
    | inl less ↦ inl (record { is = so.is; before = inr (same.0, less) })
    | inr le ↦ inr (same.0, omega (arith, same.1, le))
  ]
]

same_owned : (n f t r : ℕ) → n ≡ t → f ≡ r → (let a : Owned = record { owner = n; row = f } in let b : Owned = record { owner = t; row = r } in a ≡ b)
same_owned n f t r p q =
    let left : Owned → Owned = λ o. o in
    let mid : Owned = record { owner = t; row = f } in
    let one : (let a : Owned = record { owner = n; row = f } in a ≡ mid) = ap (λ (x : ℕ). left (record { owner = x; row = f })) p in
    let two : (let b : Owned = record { owner = t; row = r } in mid ≡ b) = ap (λ (x : ℕ). left (record { owner = t; row = x })) q in
    one ∙ two

pushed : (Is : ℕ → ℕ → Type 0) (n f : ℕ) (owned : List Owned) → IsOrdered Is → Is n f → AreThose (IsSoFar Is n f) owned → AreThose (IsSoFar Is n (f + 1)) (owned ++ (record { owner = n; row = f } ∷ []))
pushed Is n f owned ordered here so = record {
  in_order = λ j k a b lt at_j at_k.
      elim (pushed_item owned (record { owner = n; row = f }) k b at_k) [
        | inl old_k ↦ elim (pushed_item owned (record { owner = n; row = f }) j a at_j) [
          | inl old_j ↦ so.in_order j k a b lt old_j old_k
          | inr new_j ↦ (let inside = slice_get_within owned k b old_k in absurd (omega (arith, lt, inside, new_j.0)))
        ]
        | inr new_k ↦ elim (pushed_item owned (record { owner = n; row = f }) j a at_j) [
          | inl old_j ↦
              let less : a.row < f = earlier Is n f a.owner a.row ordered here (so.right j a old_j) in
              subst (λ (o : Owned). a.row < o.row) (sym new_k.1) less
          | inr new_j ↦ absurd (omega (arith, lt, new_j.0, new_k.0))
        ]
      ];
  right = λ j o at.
      elim (pushed_item owned (record { owner = n; row = f }) j o at) [
        | inl old ↦ further Is n f o.owner o.row (so.right j o old)
        | inr new ↦
            subst (λ (x : Owned). IsSoFar Is n (f + 1) x.owner x.row) (sym new.1)
            (record { is = here; before = inr (refl, omega arith) })
      ];
  all = λ t r is.
      elim (not_further Is n f t r is) [
        | inl old ↦
            let found = so.all t r old in
            (found.0, item_kept owned (record { owner = n; row = f } ∷ []) found.0 (record { owner = t; row = r }) found.1)
        | inr new ↦
            let e : record { owner = n; row = f } ≡ record { owner = t; row = r } = same_owned n f t r (sym new.0) (sym new.1) in
            (length owned, subst (λ (x : Owned). slice_get (owned ++ (record { owner = n; row = f } ∷ [])) (length owned) ≡ Some x) e (last_item owned (record { owner = n; row = f })))
      ];
}

-- the next row is one
pub one_row_more : (Is : ℕ → ℕ → Type 0) (n f : ℕ) (owned after : List Owned) → IsOrdered Is → Is n f → after ≡ owned ++ (record { owner = n; row = f } ∷ []) → AreThose (IsSoFar Is n f) owned → AreThose (IsSoFar Is n (f + 1)) after
one_row_more Is n f owned after ordered here same so = subst (λ (xs : List Owned). AreThose (IsSoFar Is n (f + 1)) xs) (sym same) (pushed Is n f owned ordered here so)

-- the next row is none
pub one_row_passed : (Is : ℕ → ℕ → Type 0) (n f : ℕ) (owned : List Owned) → (Is n f → ⊥) → AreThose (IsSoFar Is n f) owned → AreThose (IsSoFar Is n (f + 1)) owned
one_row_passed Is n f owned not_here so =
    same_those (IsSoFar Is n f) (IsSoFar Is n (f + 1)) owned (λ t r is. further Is n f t r is)
    (λ t r is. elim (not_further Is n f t r is) [
      | inl old ↦ old
      | inr new ↦ (let there : Is n r = subst (λ (x : ℕ). Is x r) new.0 is.is in absurd (not_here (subst (λ (x : ℕ). Is n x) new.1 there)))
    ])
    so

-- a list begins at a row
pub list_begun : (Is : ℕ → ℕ → Type 0) (n f : ℕ) (owned : List Owned) → ((r : ℕ) → Is n r → f ≤ r) → AreThose (IsSoFar Is n 0) owned → AreThose (IsSoFar Is n f) owned
list_begun Is n f owned from so =
    same_those (IsSoFar Is n 0) (IsSoFar Is n f) owned
    (λ t r is. record { is = is.is; before = elim is.before [ inl less ↦ inl less | inr same ↦ absurd (omega (arith, same.1)) ] })
    (λ t r is. record {
      is = is.is;
      before = elim is.before [
        | inl less ↦ inl less
        | inr same ↦ (let le : f ≤ r = from r (subst (λ (x : ℕ). Is x r) same.0 is.is) in absurd (omega (arith, same.1, le)))
      ];
    })
    so

-- a list ended before a row
pub list_ended : (Is : ℕ → ℕ → Type 0) (n f : ℕ) (owned : List Owned) → ((r : ℕ) → Is n r → r < f) → AreThose (IsSoFar Is n f) owned → AreThose (IsSoFar Is (n + 1) 0) owned
list_ended Is n f owned end so =
    same_those (IsSoFar Is n f) (IsSoFar Is (n + 1) 0) owned
    (λ t r is. record { is = is.is; before = elim is.before [ inl less ↦ inl (omega (arith, less)) | inr same ↦ inl (omega (arith, same.0)) ] })
    (λ t r is. record {
      is = is.is;
      before = elim is.before [
        | inl less ↦ elim (cases_lt t n) [
          | inl lt ↦ inl lt
          | inr le ↦
              let same : t ≡ n = omega (arith, less, le) in
              inr (same, end r (subst (λ (x : ℕ). Is x r) same is.is))
        ]
        | inr same ↦ absurd (omega (arith, same.1))
      ];
    })
    so

-- all lists ended
pub all_ended : (Is : ℕ → ℕ → Type 0) (n : ℕ) (owned : List Owned) → ((t r : ℕ) → Is t r → t < n) → AreThose (IsSoFar Is n 0) owned → AreThose Is owned
all_ended Is n owned few so =
    same_those (IsSoFar Is n 0) Is owned (λ t r is. is.is) (λ t r is. record { is = is; before = inl (few t r is) }) so

-- no list began
pub none_begun : (Is : ℕ → ℕ → Type 0) (n : ℕ) → ((t r : ℕ) → Is t r → n ≤ t) → AreThose (IsSoFar Is n 0) []
none_begun Is n from =
    none_yet (IsSoFar Is n 0) (λ t r is. elim is.before [
      | inl less ↦ (let le = from t r is.is in absurd (omega (arith, less, le)))
      | inr same ↦ absurd (omega (arith, same.1))
    ])
