-- Lists of interfaces, by one more row of InterfaceImpl.
use Rattle.std.proofs.Common.{◌≡◌, ◌≢◌, ◌⊎◌, ℕ, zero, suc, ◌+◌, ◌-◌, ◌<◌, ◌≤◌, Bool, true, ◌==◌, cond, Some, None, List, [], ◌∷◌, ◌++◌, length, map, get_or, inl, inr, sym, refl, ap, subst, ◌∙◌, arith, append-nil, length-append}
use Rattle.std.proofs.Math.ListN.{set, length-set}
use Rattle.std.proofs.lemmas.List.{map-set, map-append, length-map}
use Rattle.std.proofs.lemmas.Bool.{ne_eqb}
use Rattle.std.proofs.lemmas.Bool.Decides.{eqb_tells}
use Rattle.std.proofs.lemmas.Option.{slice_get_within, slice_get-map}
use Rattle.std.specs.Option.{option_map}
use Rattle.std.specs.List.{slice_get}
use Rattle.dc_base.specs.declared.names.TypeId.{TypeId}
use Rattle.class_keys.proofs.Items.{read_item, pushed_item}
use Rattle.cli_metadata.specs.declared.tables.Table.TheVariants as tables
use Rattle.cli_metadata.specs.Metadata.{Contents, rows_of}
use Rattle.cli_types.specs.declared.types.Tokens.{Tokens}
use Rattle.cli_own.specs.Interfaces.{implemented, interface_of, named_by, interfaces_of, AreInterfaces, IsAdded}

-- what stands at a place after a write: what was written, or what stood there
at_set : {X : Type 0} (xs : List X) (i : ℕ) (v : X) (j : ℕ) (y : X) → slice_get (set xs i v) j ≡ Some y → ((j ≡ i) × (y ≡ v)) ⊎ ((j ≢ i) × (slice_get xs j ≡ Some y))
at_set [] i v j y h = inr ((λ e. let k : Some y ≡ None = sym h in cc), h)
at_set (x ∷ xs) zero v zero y h = inl (refl, cc)
at_set (x ∷ xs) zero v (suc j) y h = inr ((λ e. omega arith), h)
at_set (x ∷ xs) (suc i) v zero y h = inr ((λ e. omega arith), h)
at_set (x ∷ xs) (suc i) v (suc j) y h =
    elim (at_set xs i v j y h) [
      | inl p ↦ inl (ap suc p.0, p.1)
      | inr p ↦ inr ((λ e. p.0 (omega arith)), p.1)
    ]

same_is : (n k : ℕ) → n ≡ k → (n == k) ≡ true
same_is n k e = elim (eqb_tells n k) [ inl yes_ ↦ yes_.0 | inr apart ↦ absurd (apart.1 e) ]

kept : (class j : ℕ) (interface : TypeId) (named : List TypeId) → class ≢ j + 1 → named ≡ named ++ cond (class == j + 1) (interface ∷ []) []
kept class j interface named apart =
    sym (append-nil named) ∙ ap (λ (b : Bool). named ++ cond b (interface ∷ []) []) (sym (ne_eqb class (j + 1) apart))

pub passed_over : (class : ℕ) (interface : TypeId) (lists : List (List TypeId)) → (class < 1) ⊎ (length lists < class) → IsAdded class interface lists lists
passed_over class interface lists out = record {
  long = refl;
  each = λ j named at.
      let lt = slice_get_within lists j named at in
      (named, at, kept class j interface named (λ e. elim out [ inl low ↦ omega (arith, low, e) | inr high ↦ omega (arith, high, e, lt) ]));
}

pub written : (class : ℕ) (interface : TypeId) (lists : List (List TypeId)) (old : List TypeId) → 1 ≤ class → slice_get lists (class - 1) ≡ Some old → IsAdded class interface lists (set lists (class - 1) (old ++ (interface ∷ [])))
written class interface lists old low there = record {
  long = length-set lists (class - 1) (old ++ (interface ∷ []));
  each = λ j named at. elim (at_set lists (class - 1) (old ++ (interface ∷ [])) j named at) [
    | inl p ↦
        let here : j + 1 ≡ class = omega (arith, low, p.0) in (
          old,
          subst (λ (n : ℕ). slice_get lists n ≡ Some old) (sym p.0) there,
          p.1 ∙ ap (λ (b : Bool). old ++ cond b (interface ∷ []) []) (sym (same_is class (j + 1) (sym here))),
        )
    | inr p ↦ (named, p.1, kept class j interface named (λ e. p.0 (omega (arith, e))))
  ];
}

-- the same of lists in vectors, of which one was read, and has one more item
pub pushed_in : {X : Type 0} (f : X → List TypeId) (xs : List X) (class : ℕ) (interface : TypeId) (old new : X) → 1 ≤ class → class ≤ length xs → old ≡ get_or xs (class - 1) old → f new ≡ f old ++ (interface ∷ []) → IsAdded class interface (map f xs) (map f (set xs (class - 1) new))
pushed_in {X} f xs class interface old new low high read more =
    let stands = read_item xs (class - 1) old (omega (arith, low, high)) read in
    let there : slice_get (map f xs) (class - 1) ≡ Some (f old) = slice_get-map f xs (class - 1) ∙ ap (option_map f) stands in
    subst (λ (after : List (List TypeId)). IsAdded class interface (map f xs) after)
    (sym (map-set f xs (class - 1) new ∙ ap (λ (l : List TypeId). set (map f xs) (class - 1) l) more))
    (written class interface (map f xs) (f old) low there)

pub passed_in : {X : Type 0} (f : X → List TypeId) (xs : List X) (class : ℕ) (interface : TypeId) → (class < 1) ⊎ (length xs < class) → IsAdded class interface (map f xs) (map f xs)
passed_in f xs class interface out = passed_over class interface (map f xs) (elim out [ inl low ↦ inl low | inr high ↦ inr (let same = length-map xs f in omega (arith, high, same)) ])

-- so many empty lists
pub record AreEmpty (count : ℕ) (lists : List (List TypeId)) : Type 0 where
  pub long : length lists ≡ count
  pub each : (j : ℕ) (named : List TypeId) → slice_get lists j ≡ Some named → named ≡ []

pub one_empty : (count : ℕ) (before : List (List TypeId)) → AreEmpty count before → AreEmpty (count + 1) (before ++ ([] ∷ []))
one_empty count before so = record {
  long = (let long = length-append before ([] ∷ []) in omega (arith, long, so.long));
  each = λ j named at. elim (pushed_item before [] j named at) [ inl old ↦ so.each j named old | inr new ↦ new.1 ];
}

pub empty_in : {X : Type 0} (f : X → List TypeId) (count : ℕ) (xs after : List X) (x : X) → after ≡ xs ++ (x ∷ []) → f x ≡ [] → AreEmpty count (map f xs) → AreEmpty (count + 1) (map f after)
empty_in {X} f count xs after x more none so =
    subst (λ (ls : List (List TypeId)). AreEmpty (count + 1) ls)
    (sym (ap (λ (ys : List X). map f ys) more ∙ map-append f xs (x ∷ []) ∙ ap (λ (l : List TypeId). map f xs ++ (l ∷ [])) none))
    (one_empty count (map f xs) so)

-- the interfaces by the first rows
pub record AreNamedBy (m : Contents) (tokens : Tokens) (rows : ℕ) (lists : List (List TypeId)) : Type 0 where
  pub long : length lists ≡ rows_of m tables.TypeDef
  pub each : (j : ℕ) (named : List TypeId) → slice_get lists j ≡ Some named → named ≡ named_by m tokens (j + 1) rows

next_row : (m : Contents) (tokens : Tokens) (k : ℕ) (before after : List (List TypeId)) → AreNamedBy m tokens k before → IsAdded (implemented m (suc k)).class (interface_of tokens (implemented m (suc k))) before after → AreNamedBy m tokens (suc k) after
next_row m tokens k before after so added = record {
  long = added.long ∙ so.long;
  each = λ j named at.
      let new = added.each j named at in
      new.2 ∙ ap (λ (old : List TypeId). old ++ cond ((implemented m (suc k)).class == j + 1) (interface_of tokens (implemented m (suc k)) ∷ []) []) (so.each j new.0 new.1);
}

pub one_more : (m : Contents) (tokens : Tokens) (k : ℕ) (before after : List (List TypeId)) → AreNamedBy m tokens k before → IsAdded (implemented m (k + 1)).class (interface_of tokens (implemented m (k + 1))) before after → AreNamedBy m tokens (k + 1) after
one_more m tokens k before after so added =
    let next : k + 1 ≡ suc k = omega arith in
    subst (λ (n : ℕ). AreNamedBy m tokens n after) (sym next)
    (next_row m tokens k before after so (subst (λ (n : ℕ). IsAdded (implemented m n).class (interface_of tokens (implemented m n)) before after) next added))

pub all_named : (m : Contents) (tokens : Tokens) (lists : List (List TypeId)) → AreNamedBy m tokens (rows_of m tables.InterfaceImpl) lists → AreInterfaces m tokens lists
all_named m tokens lists so = record { long = so.long; each = so.each }

-- a list in a vector that was read
pub read_named : {X : Type 0} (f : X → List TypeId) (m : Contents) (tokens : Tokens) (xs : List X) (k : ℕ) (x : X) → AreInterfaces m tokens (map f xs) → k < length xs → x ≡ get_or xs k x → f x ≡ interfaces_of m tokens (k + 1)
read_named f m tokens xs k x are within read =
    are.each k (f x) (slice_get-map f xs k ∙ ap (option_map f) (read_item xs k x within read))

pub none_named : (m : Contents) (tokens : Tokens) (lists : List (List TypeId)) → AreEmpty (rows_of m tables.TypeDef) lists → AreNamedBy m tokens 0 lists
none_named m tokens lists so = record { long = so.long; each = so.each }
