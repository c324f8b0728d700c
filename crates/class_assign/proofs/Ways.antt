-- How a reference goes to a type.
use Rattle.std.proofs.Common.{◌≡◌, ◌⊎◌, ℕ, zero, suc, ◌+◌, ◌-◌, ◌<◌, List, codes, Bool, true, false, ◌||◌, inl, inr, sym, refl, ap, subst, ◌∙◌, arith}
use Rattle.dc_base.specs.declared.names.TypeId.{TypeId}
use Rattle.dc_base.specs.declared.ty.Ty.{Ty}
use Rattle.dc_base.specs.declared.ty.Core.{Core}
use Rattle.dc_base.specs.declared.ty.Core.TheVariants.{Class as ClassCore}
use Rattle.class_rows.specs.declared.row.TypeRow.{TypeRow}
use Rattle.class_rows.specs.declared.row.Kind.TheVariants.{Interface}
use Rattle.class_rows.specs.Types.{HasType, IsSuper, InBaseChain}
use Rattle.class_chains.specs.Ends.{here}
use Rattle.class_rows.specs.Core.{IsSystem}
use Rattle.class_rows.specs.Lookups.{brackets, class_ty, IsReferenceTy, IsAssignable, same, to_super, to_object, elements, array}
use Rattle.class_assign.specs.Supers.{IsOnly}

pub data IsWay (types : List TypeRow) (s t : Ty) : Type 0 where
  as_same : s ≡ t → IsWay types s t
  as_super : (a b : ℕ) → s ≡ class_ty a → t ≡ class_ty b → IsSuper types a b → IsWay types s t
  as_object : (a b : ℕ) → s ≡ class_ty a → t ≡ class_ty b → HasType types a (λ row. row.kind ≡ Interface) → IsSystem types (codes "Object") b → IsWay types s t
  as_elements : (c d : Core) (m n : ℕ) → s ≡ brackets c (m + 1) → t ≡ brackets d (n + 1) → IsReferenceTy c m → IsReferenceTy d n → IsAssignable types (brackets c m) (brackets d n) → IsWay types s t
  as_array : (c : Core) (m a : ℕ) → s ≡ brackets c (m + 1) → IsSystem types (codes "Array") a → IsAssignable types (class_ty a) t → IsWay types s t

pub way_of : (types : List TypeRow) (s t : Ty) → IsAssignable types s t → IsWay types s t
way_of types s t (same u) = as_same refl
way_of types s t (to_super a b super) = as_super a b refl refl super
way_of types s t (to_object a b kind object) = as_object a b refl refl kind object
way_of types s t (elements c d m n p q rest) = as_elements c d m n refl refl p q rest
way_of types s t (array c m a u is rest) = as_array c m a refl is rest

-- what types that are one have in common
core_of : (s t : Ty) → s ≡ t → s.core ≡ t.core
core_of s t e = ap (λ (u : Ty). u.core) e

arrays_of : (s t : Ty) → s ≡ t → s.arrays ≡ t.arrays
arrays_of s t e = ap (λ (u : Ty). u.arrays) e

class_of : (t : ℕ) (c : Core) → ClassCore (record { 0 = t }) ≡ c → (s : TypeId) → c ≡ ClassCore s → t ≡ s.0
class_of t c e s f = let k : ClassCore (record { 0 = t }) ≡ ClassCore s = e ∙ f in ap (λ (u : TypeId). u.0) (one_class (record { 0 = t }) s k)
  where
    one_class : (a b : TypeId) → ClassCore a ≡ ClassCore b → a ≡ b
    one_class a b h = cc

no_brackets : (m n : ℕ) → m ≡ n → m ≡ 0 → 0 < n → ⊥
no_brackets m n e f lt = omega (arith, e, f, lt)

-- between classes, and between types without brackets
pub class_back : (types : List TypeRow) (a b : ℕ) → IsAssignable types (class_ty a) (class_ty b) → IsSuper types a b ⊎ (HasType types a (λ row. row.kind ≡ Interface) × IsSystem types (codes "Object") b)
class_back types a b goes = elim (way_of types (class_ty a) (class_ty b) goes) [
  | as_same e ↦ inl (inl (subst (λ (n : ℕ). InBaseChain types a n) (class_of a (ClassCore (record { 0 = b })) (core_of (class_ty a) (class_ty b) e) (record { 0 = b }) refl) (here a)))
  | as_super x y p q super ↦
      let e = class_of a (ClassCore (record { 0 = x })) (core_of (class_ty a) (class_ty x) p) (record { 0 = x }) refl in
      let f = class_of b (ClassCore (record { 0 = y })) (core_of (class_ty b) (class_ty y) q) (record { 0 = y }) refl in
      inl (subst (λ (n : ℕ). IsSuper types n b) (sym e) (subst (λ (n : ℕ). IsSuper types x n) (sym f) super))
  | as_object x y p q kind object ↦
      let e = class_of a (ClassCore (record { 0 = x })) (core_of (class_ty a) (class_ty x) p) (record { 0 = x }) refl in
      let f = class_of b (ClassCore (record { 0 = y })) (core_of (class_ty b) (class_ty y) q) (record { 0 = y }) refl in
      inr (subst (λ (n : ℕ). HasType types n (λ row. row.kind ≡ Interface)) (sym e) kind, subst (λ (n : ℕ). IsSystem types (codes "Object") n) (sym f) object)
  | as_elements c d m n p q rc rd rest ↦ absurd (no_brackets 0 (m + 1) (arrays_of (class_ty a) (brackets c (m + 1)) p) refl (omega arith))
  | as_array c m u p is rest ↦ absurd (no_brackets 0 (m + 1) (arrays_of (class_ty a) (brackets c (m + 1)) p) refl (omega arith))
]

pub record AreClasses (types : List TypeRow) (c d : Core) : Type 0 where
  pub a : ℕ
  pub b : ℕ
  pub from_ : c ≡ ClassCore (record { 0 = a })
  pub to_ : d ≡ ClassCore (record { 0 = b })
  pub goes : IsAssignable types (class_ty a) (class_ty b)

pub core_back : (types : List TypeRow) (c d : Core) → IsAssignable types (brackets c 0) (brackets d 0) → (c ≡ d) ⊎ AreClasses types c d
core_back types c d goes = elim (way_of types (brackets c 0) (brackets d 0) goes) [
  | as_same e ↦ inl (core_of (brackets c 0) (brackets d 0) e)
  | as_super x y p q super ↦ inr (record { a = x; b = y; from_ = core_of (brackets c 0) (class_ty x) p; to_ = core_of (brackets d 0) (class_ty y) q; goes = to_super x y super })
  | as_object x y p q kind object ↦ inr (record { a = x; b = y; from_ = core_of (brackets c 0) (class_ty x) p; to_ = core_of (brackets d 0) (class_ty y) q; goes = to_object x y kind object })
  | as_elements e f m n p q rc rd rest ↦ absurd (no_brackets 0 (m + 1) (arrays_of (brackets c 0) (brackets e (m + 1)) p) refl (omega arith))
  | as_array e m u p is rest ↦ absurd (no_brackets 0 (m + 1) (arrays_of (brackets c 0) (brackets e (m + 1)) p) refl (omega arith))
]

pub cores_back : (types : List TypeRow) (a b : TypeId) → IsAssignable types (brackets (ClassCore a) 0) (brackets (ClassCore b) 0) → IsAssignable types (class_ty a.0) (class_ty b.0)
cores_back types a b goes = goes

-- one has brackets and the other has none
pub core_to_array : (types : List TypeRow) (c d : Core) (n : ℕ) → 0 < n → IsAssignable types (brackets c 0) (brackets d n) → ⊥
core_to_array types c d n lt goes = elim (way_of types (brackets c 0) (brackets d n) goes) [
  | as_same e ↦ no_brackets 0 n (arrays_of (brackets c 0) (brackets d n) e) refl lt
  | as_super x y p q super ↦ no_brackets 0 n (sym (arrays_of (brackets d n) (class_ty y) q)) refl lt
  | as_object x y p q kind object ↦ no_brackets 0 n (sym (arrays_of (brackets d n) (class_ty y) q)) refl lt
  | as_elements e f m k p q rc rd rest ↦ no_brackets 0 (m + 1) (arrays_of (brackets c 0) (brackets e (m + 1)) p) refl (omega arith)
  | as_array e m u p is rest ↦ no_brackets 0 (m + 1) (arrays_of (brackets c 0) (brackets e (m + 1)) p) refl (omega arith)
]

pub array_to : (types : List TypeRow) (c : Core) (m a : ℕ) (t : Ty) → 0 < m → IsSystem types (codes "Array") a → IsAssignable types (class_ty a) t → IsAssignable types (brackets c m) t
array_to types c m a t lt is goes =
    let e : (m - 1) + 1 ≡ m = omega arith in
    subst (λ (k : ℕ). IsAssignable types (brackets c k) t) e (array c (m - 1) a t is goes)

pub array_back : (types : List TypeRow) (c d : Core) (m a : ℕ) → 0 < m → IsOnly types (codes "Array") a → IsAssignable types (brackets c m) (brackets d 0) → IsAssignable types (class_ty a) (brackets d 0)
array_back types c d m a lt only goes = elim (way_of types (brackets c m) (brackets d 0) goes) [
  | as_same e ↦ absurd (no_brackets 0 m (sym (arrays_of (brackets c m) (brackets d 0) e)) refl lt)
  | as_super x y p q super ↦ absurd (no_brackets 0 m (sym (arrays_of (brackets c m) (class_ty x) p)) refl lt)
  | as_object x y p q kind object ↦ absurd (no_brackets 0 m (sym (arrays_of (brackets c m) (class_ty x) p)) refl lt)
  | as_elements e f k n p q rc rd rest ↦ absurd (no_brackets 0 (n + 1) (arrays_of (brackets d 0) (brackets f (n + 1)) q) refl (omega arith))
  | as_array e k u p is rest ↦ subst (λ (n : ℕ). IsAssignable types (class_ty n) (brackets d 0)) (only.one u is) rest
]

-- both have brackets
pub elements_to : (types : List TypeRow) (c d : Core) (m n : ℕ) → 0 < m → 0 < n → IsReferenceTy c (m - 1) → IsReferenceTy d (n - 1) → IsAssignable types (brackets c (m - 1)) (brackets d (n - 1)) → IsAssignable types (brackets c m) (brackets d n)
elements_to types c d m n low lo p q goes =
    let e : (m - 1) + 1 ≡ m = omega arith in
    let f : (n - 1) + 1 ≡ n = omega arith in
    subst (λ (k : ℕ). IsAssignable types (brackets c k) (brackets d n)) e (subst (λ (k : ℕ). IsAssignable types (brackets c ((m - 1) + 1)) (brackets d k)) f (elements c d (m - 1) (n - 1) p q goes))

pub record AreElements (types : List TypeRow) (c d : Core) (m n : ℕ) : Type 0 where
  pub from_ : IsReferenceTy c (m - 1)
  pub to_ : IsReferenceTy d (n - 1)
  pub goes : IsAssignable types (brackets c (m - 1)) (brackets d (n - 1))

pub elements_back : (types : List TypeRow) (c d : Core) (m n : ℕ) → 0 < m → 0 < n → IsAssignable types (brackets c m) (brackets d n) → ((c ≡ d) × (m ≡ n)) ⊎ AreElements types c d m n
elements_back types c d m n low lo goes = elim (way_of types (brackets c m) (brackets d n) goes) [
  | as_same e ↦ inl (core_of (brackets c m) (brackets d n) e, arrays_of (brackets c m) (brackets d n) e)
  | as_super x y p q super ↦ absurd (no_brackets 0 m (sym (arrays_of (brackets c m) (class_ty x) p)) refl low)
  | as_object x y p q kind object ↦ absurd (no_brackets 0 m (sym (arrays_of (brackets c m) (class_ty x) p)) refl low)
  | as_elements e f k l p q rc rd rest ↦
      let ce : e ≡ c = sym (core_of (brackets c m) (brackets e (k + 1)) p) in
      let me : m ≡ k + 1 = arrays_of (brackets c m) (brackets e (k + 1)) p in
      let km : k ≡ m - 1 = omega (arith, me) in
      let df : f ≡ d = sym (core_of (brackets d n) (brackets f (l + 1)) q) in
      let ne : n ≡ l + 1 = arrays_of (brackets d n) (brackets f (l + 1)) q in
      let ln : l ≡ n - 1 = omega (arith, ne) in
      inr (record {
        from_ = subst (λ (x : Core). IsReferenceTy x (m - 1)) ce (subst (λ (j : ℕ). IsReferenceTy e j) km rc);
        to_ = subst (λ (x : Core). IsReferenceTy x (n - 1)) df (subst (λ (j : ℕ). IsReferenceTy f j) ln rd);
        goes = subst (λ (x : Core). IsAssignable types (brackets x (m - 1)) (brackets d (n - 1))) ce
            (subst (λ (j : ℕ). IsAssignable types (brackets e j) (brackets d (n - 1))) km
            (subst (λ (x : Core). IsAssignable types (brackets e k) (brackets x (n - 1))) df
            (subst (λ (j : ℕ). IsAssignable types (brackets e k) (brackets f j)) ln rest)));
      })
  | as_array e k u p is rest ↦ absurd (core_to_array types (ClassCore (record { 0 = u })) d n lo rest)
]

-- a lent place goes to nothing but itself
pub not_lent : (types : List TypeRow) (s t : Ty) → IsAssignable types s t → (s ≡ t) ⊎ ((s.lent ≡ false) × (t.lent ≡ false))
not_lent types s t (same u) = inl refl
not_lent types s t (to_super a b super) = inr (refl, refl)
not_lent types s t (to_object a b kind object) = inr (refl, refl)
not_lent types s t (elements c d m n p q rest) = inr (refl, refl)
not_lent types s t (array c m a u is rest) = elim (not_lent types (class_ty a) u rest) [
  | inl e ↦ inr (refl, ap (λ (v : Ty). v.lent) (sym e))
  | inr both ↦ inr (refl, both.1)
]

pub is_class_reference : (t : TypeId) (n : ℕ) → IsReferenceTy (ClassCore t) n
is_class_reference t zero = inl (t.0, refl, refl)
is_class_reference t (suc n) = inr (omega arith)

pub same_brackets : (types : List TypeRow) (c d : Core) (m n : ℕ) → (c ≡ d) × (m ≡ n) → IsAssignable types (brackets c m) (brackets d n)
same_brackets types c d m n e =
    subst (λ (x : Core). IsAssignable types (brackets c m) (brackets x n)) e.0 (subst (λ (k : ℕ). IsAssignable types (brackets c m) (brackets c k)) e.1 (same (brackets c m)))

pub none_lent : (a b : Bool) → (a ≡ false) × (b ≡ false) → true ≡ (a || b) → false ≡ true
none_lent true b both h = sym both.0
none_lent false true both h = sym both.1
none_lent false false both h = sym h
