-- Types of one full name, by what no two types may share.
use Rattle.std.proofs.Common.{◌≡◌, ◌≢◌, ◌⊎◌, ℕ, ◌<◌, Bool, true, false, nat_eq, Option, Some, List, length, refl, sym, ◌∙◌, ap, subst, inl, inr, arith}
use Rattle.std.specs.Str.{bytes_eq}
use Rattle.std.specs.Borrow.{Bor}
use Rattle.std.specs.List.{slice_get}
use Rattle.std.proofs.lemmas.Bool.{eqb-true}
use Rattle.std.proofs.lemmas.Option.{slice_get_within}
use Rattle.class_keys.specs.Least.{IsLeastOf}
use Rattle.class_keys.specs.Shared.{IsShared}
use Rattle.class_keys.proofs.Items.{one_item, item_at}
use Rattle.class_keys.proofs.OfTwo.{least_of_same}
use Rattle.class_rows.specs.declared.row.TypeRow.{TypeRow}
use Rattle.class_rows.specs.Types.{HasType}
use Rattle.class_rows.specs.Names.{IsReference, IsFullName, IsTwice, IsNamespace}
use Rattle.class_names.specs.declared.unique.Shown.{Shown}
use Rattle.class_names.specs.declared.unique.Shown.TheVariants.{Own, Reference}
use Rattle.class_names.specs.Inner.{AreNames, HasNameOfAnother}
use Rattle.class_names.specs.Shown.{IsShown, AreShown}
use Rattle.class_names.specs.Spaces.{HasNameOfSpace}
use Rattle.class_names.proofs.Bytes.{same_bytes, bytes_same}
use Rattle.class_names.proofs.OneName.{one_name}

-- when two keys are equal
pub record Tells (eq : Shown → Shown → Bool) : Type 0 where
  pub owns : (m n : ℕ) → eq (Own m) (Own n) ≡ nat_eq m n
  pub own_reference : (m : ℕ) (name : Bor (List ℕ)) → eq (Own m) (Reference name) ≡ false
  pub reference_own : (m : ℕ) (name : Bor (List ℕ)) → eq (Reference name) (Own m) ≡ false
  pub references : (name other : Bor (List ℕ)) → eq (Reference name) (Reference other) ≡ bytes_eq name.now other.now

pub not_own : (types : List TypeRow) (t : ℕ) → IsReference types t → HasType types t (λ row. row.own ≡ true) → ⊥
not_own types t reference own =
    let same = one_item types t reference.row own.row reference.stands own.stands in
    let e : false ≡ true = sym reference.is ∙ ap (λ (r : TypeRow). r.own) same ∙ own.is in
    cc

shared_by : (eq : Shown → Shown → Bool) → Tells eq → (types : List TypeRow) (names : List (List ℕ)) (t o : ℕ) (a b : Shown) → AreNames types (length types) names → t ≢ o → IsShown types names t a → IsShown types names o b → eq a b ≡ true → HasNameOfAnother types t
shared_by eq tells types names t o (Own m) (Own n) are apart x y e =
    let same = eqb-true m n (sym (tells.owns m n) ∙ e) in absurd (apart (sym x.0 ∙ same ∙ y.0))
shared_by eq tells types names t o (Own m) (Reference b) are apart x y e =
    let no : false ≡ true = sym (tells.own_reference m b) ∙ e in absurd cc
shared_by eq tells types names t o (Reference a) (Own n) are apart x y e =
    let no : false ≡ true = sym (tells.reference_own n a) ∙ e in absurd cc
shared_by eq tells types names t o (Reference a) (Reference b) are apart x y e =
    let same = same_bytes a.now b.now (sym (tells.references a b) ∙ e) in
    record {
      reference = x.0;
      name = a.now;
      is = are.named t a.now x.1 x.0;
      other = o;
      apart = λ k. apart (sym k);
      other_reference = y.0;
      other_is = subst (λ (n : List ℕ). IsFullName types o n) (sym same) (are.named o b.now y.1 y.0);
    }

equal_by : (eq : Shown → Shown → Bool) → Tells eq → (types : List TypeRow) (names : List (List ℕ)) (t : ℕ) (a b : Shown) → AreNames types (length types) names → (h : HasNameOfAnother types t) → IsShown types names t a → IsShown types names h.other b → eq a b ≡ true
equal_by eq tells types names t (Own m) b are h x y = absurd (not_own types t h.reference x.1)
equal_by eq tells types names t (Reference a) (Own n) are h x y = absurd (not_own types h.other h.other_reference y.1)
equal_by eq tells types names t (Reference a) (Reference b) are h x y =
    let here = one_name types t a.now h.name (are.named t a.now x.1 x.0) h.is in
    let there = one_name types h.other b.now h.name (are.named h.other b.now y.1 y.0) h.other_is in
    tells.references a b ∙ bytes_same a.now b.now (here ∙ sym there)

pub reference_within : (types : List TypeRow) (t : ℕ) → IsReference types t → t < length types
reference_within types t reference = slice_get_within types t reference.row reference.stands

pub least_alike : (eq : Shown → Shown → Bool) → Tells eq → (types : List TypeRow) (names : List (List ℕ)) (keys : List Shown) (found : Option ℕ) → AreNames types (length types) names → AreShown types names (length types) keys → IsLeastOf (IsShared eq keys) found → IsLeastOf (HasNameOfAnother types) found
least_alike eq tells types names keys found are all =
    least_of_same (IsShared eq keys) (HasNameOfAnother types) found
    (λ t s. shared_by eq tells types names t s.other s.key s.twin are s.apart (all.shown t s.key s.stands) (all.shown s.other s.twin s.other_stands) s.equal)
    (λ t h.
    let here = item_at keys t (let lt = reference_within types t h.reference in omega (arith, lt, all.long)) in
    let there = item_at keys h.other (let lt = reference_within types h.other h.other_reference in omega (arith, lt, all.long)) in
    record {
      key = here.0;
      stands = here.1;
      other = h.other;
      apart = λ e. h.apart (sym e);
      twin = there.0;
      other_stands = there.1;
      equal = equal_by eq tells types names t here.0 there.0 are h (all.shown t here.0 here.1) (all.shown h.other there.0 there.1);
    })

is_twice : (types : List TypeRow) (t : ℕ) → HasNameOfAnother types t ⊎ HasNameOfSpace types t → IsTwice types t
is_twice types t (inl h) = record { reference = h.reference; name = h.name; is = h.is; taken = inl (h.other, h.apart, h.other_reference, h.other_is) }
is_twice types t (inr h) = record { reference = h.reference; name = h.name; is = h.is; taken = inr h.taken }

twice_is : (types : List TypeRow) (t : ℕ) → IsTwice types t → HasNameOfAnother types t ⊎ HasNameOfSpace types t
twice_is types t h = elim h.taken [
  | inl other ↦ inl (record { reference = h.reference; name = h.name; is = h.is; other = other.0; apart = other.1; other_reference = other.2; other_is = other.3 })
  | inr space ↦ inr (record { reference = h.reference; name = h.name; is = h.is; taken = space })
]

pub least_of_twice : (types : List TypeRow) (found : Option ℕ) → IsLeastOf (λ t. HasNameOfAnother types t ⊎ HasNameOfSpace types t) found → IsLeastOf (IsTwice types) found
least_of_twice types found = least_of_same (λ t. HasNameOfAnother types t ⊎ HasNameOfSpace types t) (IsTwice types) found (is_twice types) (twice_is types)

pub twice_within : (types : List TypeRow) (t : ℕ) → IsTwice types t → t < length types
twice_within types t h = reference_within types t h.reference

-- where a namespace takes a type's name, it is the one that was found
pub taken_here : (types : List TypeRow) (names : List (List ℕ)) (t : ℕ) (name : List ℕ) → AreNames types (length types) names → slice_get names t ≡ Some name → (h : HasNameOfSpace types t) → name ≡ h.name
taken_here types names t name are stands h = one_name types t name h.name (are.named t name stands h.reference) h.is
