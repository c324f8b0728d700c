-- A member and a reference have one number just where they have one key.
use Rattle.std.proofs.Common.{◌≡◌, ℕ, ◌≤◌, Bool, ◌+◌, eqb, Some, List, length, refl, sym, ◌∙◌, ap, subst, inl, inr, arith, rules}
use Rattle.std.specs.Bool.{Decides}
use Rattle.std.specs.List.{slice_get}
use Rattle.std.proofs.lemmas.Bool.{cases_lt}
use Rattle.std.proofs.lemmas.Bool.Decides.{Decides-eqb, Decides-and, Decides-like}
use Rattle.std.proofs.lemmas.Option.{slice_get_within}
use Rattle.std.proofs.lemmas.Slice.Eq.{slice_eq-Decides}
use lib.Pointwise.{pointwise}
use Rattle.dc_base.specs.declared.ty.Ty.{Ty}
use Rattle.dc_base.specs.contracts.ty.TyPartialEq.TheImpl as ty_impl
use Rattle.dc_causes.specs.First.{IsLeast}
use Rattle.class_keys.specs.Firsts.{IsAlsoAt, AreFirsts}
use Rattle.class_keys.proofs.Items.{one_item, item_at}
use Rattle.class_rows.specs.declared.row.MemberRow.{MemberRow}
use Rattle.cli_refs.specs.declared.key.Shape.{Shape}
use Rattle.cli_refs.specs.declared.key.Sought.{Sought}
use Rattle.cli_refs.specs.declared.key.Key.{Key}
use Rattle.cli_refs.specs.contracts.key.ShapePartialEq.TheImpl as shape_impl
use Rattle.cli_refs.specs.contracts.key.KeyPartialEq.TheImpl as key_impl
use Rattle.cli_refs.specs.Sought.{IsSought}
use Rattle.cli_refs.specs.Keys.{IsKey, IsKeySought, AreKeys}
use Rattle.cli_refs.specs.Signs.{AreSigns}

pub record AreOneKey (a b : Key) : Type 0 where
  pub name : a.name.now ≡ b.name.now
  pub shape : a.shape ≡ b.shape
  pub params : a.params.now ≡ b.params.now
  pub result : a.result ≡ b.result

ty_tells : (a b : Ty) → Decides ((ty_impl.eq-value).it a b) (a ≡ b)
ty_tells a b = search rules

shape_tells : (a b : Shape) → Decides ((shape_impl.eq-value).it a b) (a ≡ b)
shape_tells a b = search rules

bytes_tell : (xs ys : List ℕ) → Decides (pointwise eqb xs ys) (xs ≡ ys)
bytes_tell xs ys = slice_eq-Decides Decides-eqb xs ys _ refl

pub key_tells : (a b : Key) → Decides ((key_impl.eq-value).it a b) (AreOneKey a b)
key_tells a b =
    Decides-like _
    (λ p. record { name = p.0; shape = p.1.0; params = p.1.1.0; result = p.1.1.1 })
    (λ s. (s.name, (s.shape, (s.params, s.result))))
    (Decides-and _ _ (bytes_tell a.name.now b.name.now) (Decides-and _ _ (shape_tells a.shape b.shape)
    (Decides-and _ _ (slice_eq-Decides ty_tells a.params.now b.params.now _ refl) (ty_tells a.result b.result))))

one_key : (row : MemberRow) (s : Sought) (j k : Key) → IsSought s row → IsKey row j → IsKeySought s k → AreOneKey j k
one_key row s j k is here there = record {
  name = here.name ∙ is.name ∙ sym there.name;
  shape = here.shape ∙ is.shape ∙ sym there.shape;
  params = here.params ∙ is.params ∙ sym there.params;
  result = here.result ∙ is.result ∙ sym there.result;
}

is_sought : (row : MemberRow) (s : Sought) (j k : Key) → AreOneKey j k → IsKey row j → IsKeySought s k → IsSought s row
is_sought row s j k one here there = record {
  name = sym here.name ∙ one.name ∙ there.name;
  shape = sym here.shape ∙ one.shape ∙ there.shape;
  params = sym here.params ∙ one.params ∙ there.params;
  result = sym here.result ∙ one.result ∙ there.result;
}

key_through : (a b c : Key) → AreOneKey a b → AreOneKey b c → AreOneKey a c
key_through a b c p q = record { name = p.name ∙ q.name; shape = p.shape ∙ q.shape; params = p.params ∙ q.params; result = p.result ∙ q.result }

key_back : (a b : Key) → AreOneKey a b → AreOneKey b a
key_back a b p = record { name = sym p.name; shape = sym p.shape; params = sym p.params; result = sym p.result }

abbrev pub Tells : (Key → Key → Bool) → Type 0
Tells eq = (a b : Key) → Decides (eq a b) (AreOneKey a b)

-- where one key stands, the same index is the first
same_least : (eq : Key → Key → Bool) → Tells eq → (keys : List Key) (m n f g : ℕ) (a b : Key) → slice_get keys m ≡ Some a → slice_get keys n ≡ Some b → AreOneKey a b → IsLeast (IsAlsoAt eq keys m) f → IsLeast (IsAlsoAt eq keys n) g → f ≤ g
same_least eq tells keys m n f g a b here there one first other = elim (cases_lt g f) [
  | inr le ↦ le
  | inl lt ↦
      let at = other.holds in
      let e : b ≡ at.key = one_item keys n b at.key there at.stands in
      let both = key_through a at.key at.twin (subst (λ (k : Key). AreOneKey a k) e one) ((tells at.key at.twin).0 at.equal) in
      absurd (first.least g lt (record { key = a; stands = here; twin = at.twin; other_stands = at.other_stands; equal = (tells a at.twin).1 both }))
]

-- a key is that at its first index
first_key : (eq : Key → Key → Bool) → Tells eq → (keys : List Key) (m f : ℕ) (a : Key) → slice_get keys m ≡ Some a → IsLeast (IsAlsoAt eq keys m) f → (b : Key) × (slice_get keys f ≡ Some b) × AreOneKey a b
first_key eq tells keys m f a here first =
    let at = first.holds in
    let e : at.key ≡ a = one_item keys m at.key a at.stands here in
    (at.twin, at.other_stands, subst (λ (k : Key). AreOneKey k at.twin) e ((tells at.key at.twin).0 at.equal))

some_number : (a b : ℕ) → Some a ≡ Some b → a ≡ b
some_number a b h = cc

module _ (eq : Key → Key → Bool) (tells : Tells eq) (keys : List Key) (signs : List ℕ) (first : AreFirsts eq keys signs) where
  one_number : (m n : ℕ) (a b : Key) → slice_get keys m ≡ Some a → slice_get keys n ≡ Some b → AreOneKey a b → slice_get signs m ≡ slice_get signs n
  one_number m n a b here there one =
      let long = first.long in
      let s_m = item_at signs m (let lt = slice_get_within keys m a here in omega (arith, lt, long)) in
      let s_n = item_at signs n (let lt = slice_get_within keys n b there in omega (arith, lt, long)) in
      let le = same_least eq tells keys m n s_m.0 s_n.0 a b here there one (first.first m s_m.0 s_m.1) (first.first n s_n.0 s_n.1) in
      let ge = same_least eq tells keys n m s_n.0 s_m.0 b a there here (key_back a b one) (first.first n s_n.0 s_n.1) (first.first m s_m.0 s_m.1) in
      let same : s_m.0 ≡ s_n.0 = omega (arith, le, ge) in
      s_m.1 ∙ ap Some same ∙ sym s_n.1

  same_key : (m n : ℕ) (a b : Key) → slice_get keys m ≡ Some a → slice_get keys n ≡ Some b → slice_get signs m ≡ slice_get signs n → AreOneKey a b
  same_key m n a b here there same =
      let long = first.long in
      let s_m = item_at signs m (let lt = slice_get_within keys m a here in omega (arith, lt, long)) in
      let at_n : slice_get signs n ≡ Some s_m.0 = sym same ∙ s_m.1 in
      let one = first_key eq tells keys m s_m.0 a here (first.first m s_m.0 s_m.1) in
      let two = first_key eq tells keys n s_m.0 b there (first.first n s_m.0 at_n) in
      let e : two.0 ≡ one.0 = one_item keys s_m.0 two.0 one.0 two.1 one.1 in
      key_through a one.0 b one.2 (key_back b one.0 (subst (λ (k : Key). AreOneKey b k) e two.2))

  pub are_signs : (members : List MemberRow) (sought : List Sought) → AreKeys members sought (length sought) keys → AreSigns members sought signs
  are_signs members sought are = record {
    long = first.long ∙ are.long;
    small = λ m s at.
        let also = (first.first m s at).holds in
        let lt = slice_get_within keys s also.twin also.other_stands in
        let long = first.long in
        omega (arith, lt, long);
    one = λ m q row s here there is.
        let keyed = are.long in
        let k_m = item_at keys m (let lt = slice_get_within members m row here in omega (arith, lt, keyed)) in
        let k_q = item_at keys (length members + q) (let lt = slice_get_within sought q s there in omega (arith, lt, keyed)) in
        one_number m (length members + q) k_m.0 k_q.0 k_m.1 k_q.1 (one_key row s k_m.0 k_q.0 is (are.member m row k_m.0 here k_m.1) (are.reference q s k_q.0 there k_q.1));
    same = λ m q row s here there same.
        let keyed = are.long in
        let k_m = item_at keys m (let lt = slice_get_within members m row here in omega (arith, lt, keyed)) in
        let k_q = item_at keys (length members + q) (let lt = slice_get_within sought q s there in omega (arith, lt, keyed)) in
        is_sought row s k_m.0 k_q.0 (same_key m (length members + q) k_m.0 k_q.0 k_m.1 k_q.1 same) (are.member m row k_m.0 here k_m.1) (are.reference q s k_q.0 there k_q.1);
  }
