-- Members alike have one key, and so one number.
use Rattle.std.proofs.Common.{◌≡◌, ℕ, ◌≤◌, Bool, ◌+◌, eqb, Some, None, List, [], ◌∷◌, ◌++◌, length, map, refl, sym, ◌∙◌, ap, subst, inl, inr, arith, rules}
use Rattle.std.specs.Bool.{Decides}
use Rattle.std.specs.List.{slice_get}
use Rattle.std.proofs.lemmas.Bool.{cases_lt}
use Rattle.std.proofs.lemmas.Bool.Decides.{Decides-eqb, Decides-and, Decides-like}
use Rattle.std.proofs.lemmas.Option.{slice_get_within}
use Rattle.std.proofs.lemmas.List.{length-append}
use Rattle.std.proofs.lemmas.Slice.Eq.{slice_eq-Decides}
use lib.Pointwise.{pointwise}
use Rattle.dc_base.specs.declared.ty.Ty.{Ty}
use Rattle.dc_base.specs.contracts.ty.TyPartialEq.TheImpl as ty_impl
use Rattle.dc_causes.specs.First.{IsLeast}
use Rattle.class_keys.specs.Firsts.{IsAlsoAt, AreFirsts}
use Rattle.class_keys.proofs.Items.{one_item, item_at, pushed_item}
use Rattle.class_rows.specs.declared.row.TypeRow.{TypeRow}
use Rattle.class_rows.specs.declared.row.MemberRow.{MemberRow}
use Rattle.class_rows.specs.declared.row.Sort.{Sort}
use Rattle.class_rows.specs.declared.row.Param.{Param}
use Rattle.class_rows.specs.Implemented.{AreAlike, AreOneList}
use Rattle.class_rows.specs.contracts.row.SortPartialEq.TheImpl as sort_impl
use Rattle.class_open.specs.declared.sign.Key.{Key}
use Rattle.class_open.specs.contracts.sign.KeyPartialEq.TheImpl as key_impl
use Rattle.class_open.specs.Signs.{IsKey, AreKeys, AreSigns}

pub record AreOneKey (a b : Key) : Type 0 where
  pub name : a.name.now ≡ b.name.now
  pub sort : a.sort ≡ b.sort
  pub types : a.types.now ≡ b.types.now
  pub result : a.result ≡ b.result

ty_tells : (a b : Ty) → Decides ((ty_impl.eq-value).it a b) (a ≡ b)
ty_tells a b = search rules

sort_tells : (a b : Sort) → Decides ((sort_impl.eq-value).it a b) (a ≡ b)
sort_tells a b = search rules

bytes_tell : (xs ys : List ℕ) → Decides (pointwise eqb xs ys) (xs ≡ ys)
bytes_tell xs ys = slice_eq-Decides Decides-eqb xs ys _ refl

pub key_tells : (a b : Key) → Decides ((key_impl.eq-value).it a b) (AreOneKey a b)
key_tells a b =
    Decides-like _
    (λ p. record { name = p.0; sort = p.1.0; types = p.1.1.0; result = p.1.1.1 })
    (λ s. (s.name, (s.sort, (s.types, s.result))))
    (Decides-and _ _ (bytes_tell a.name.now b.name.now) (Decides-and _ _ (sort_tells a.sort b.sort)
    (Decides-and _ _ (slice_eq-Decides ty_tells a.types.now b.types.now _ refl) (ty_tells a.result b.result))))

-- the keys so far
pub none_keyed : (members : List MemberRow) (keys : List Key) → keys ≡ [] → AreKeys members 0 keys
none_keyed members keys none = record {
  long = ap length none;
  right = λ m row key at is. let e : None ≡ Some key = sym (ap (λ (ks : List Key). slice_get ks m) none) ∙ is in absurd cc;
}

pub keyed_more : (members : List MemberRow) (keys : List Key) (i : ℕ) (row : MemberRow) (key : Key) → AreKeys members i keys → slice_get members i ≡ Some row → IsKey row key → AreKeys members (i + 1) (keys ++ (key ∷ []))
keyed_more members keys i row key are at is = record {
  long = length-append keys (key ∷ []) ∙ ap (λ (n : ℕ). n + 1) are.long;
  right = λ m other k stands there. elim (pushed_item keys key m k there) [
    | inl old ↦ are.right m other k stands old
    | inr new ↦
        let same : m ≡ i = new.0 ∙ are.long in
        let one : row ≡ other = one_item members i row other at (ap (λ (n : ℕ). slice_get members n) (sym same) ∙ stands) in
        subst (λ (q : Key). IsKey other q) (sym new.1) (subst (λ (r : MemberRow). IsKey r key) one is)
  ];
}

-- parameters of one list are of the same types
one_types : (across : Bool) (ps qs : List Param) → AreOneList across ps qs → map (λ (p : Param). p.ty) ps ≡ map (λ (p : Param). p.ty) qs
one_types across [] [] one = refl
one_types across (p ∷ ps) (q ∷ qs) one =
    ap (λ (t : Ty). t ∷ map (λ (x : Param). x.ty) ps) one.0 ∙ ap (λ (ts : List Ty). q.ty ∷ ts) (one_types across ps qs one.2)
one_types across [] (q ∷ qs) one = absurd one
one_types across (p ∷ ps) [] one = absurd one

one_key : (types : List TypeRow) (a b : MemberRow) (j k : Key) → AreAlike types a b → IsKey a j → IsKey b k → AreOneKey j k
one_key types a b j k alike here there = record {
  name = here.name ∙ alike.name ∙ sym there.name;
  sort = here.sort ∙ alike.sort ∙ sym there.sort;
  types = here.types ∙ one_types _ a.params b.params alike.params ∙ sym there.types;
  result = here.result ∙ alike.result ∙ sym there.result;
}

key_through : (a b c : Key) → AreOneKey a b → AreOneKey b c → AreOneKey a c
key_through a b c p q = record { name = p.name ∙ q.name; sort = p.sort ∙ q.sort; types = p.types ∙ q.types; result = p.result ∙ q.result }

key_back : (a b : Key) → AreOneKey a b → AreOneKey b a
key_back a b p = record { name = sym p.name; sort = sym p.sort; types = sym p.types; result = sym p.result }

abbrev pub Tells : (Key → Key → Bool) → Type 0
Tells eq = (a b : Key) → Decides (eq a b) (AreOneKey a b)

-- where one key stands, the same index is the first
same_least : (eq : Key → Key → Bool) → Tells eq → (keys : List Key) (m n f g : ℕ) (a b : Key) → slice_get keys m ≡ Some a → slice_get keys n ≡ Some b → AreOneKey a b → IsLeast (IsAlsoAt eq keys m) f → IsLeast (IsAlsoAt eq keys n) g → f ≤ g
same_least eq tells keys m n f g a b here there one first other = elim (cases_lt g f) [
  | inr le ↦ le
  | inl lt ↦
      let at = other.holds in
      let e : b ≡ at.key = one_item keys n b at.key there at.stands in
      let both = key_through a at.key at.twin (subst (λ (k : Key). AreOneKey a k) e one) ((tells at.key at.twin).0 at.equal) in
      absurd (first.least g lt (record { key = a; stands = here; twin = at.twin; other_stands = at.other_stands; equal = (tells a at.twin).1 both }))
]

pub are_signs : (eq : Key → Key → Bool) → Tells eq → (members : List MemberRow) (keys : List Key) (signs : List ℕ) → AreKeys members (length members) keys → AreFirsts eq keys signs → AreSigns members signs
are_signs eq tells members keys signs are first = record {
  long = first.long ∙ are.long;
  small = λ m s at.
      let also = (first.first m s at).holds in
      let lt = slice_get_within keys s also.twin also.other_stands in
      let long = first.long in
      omega (arith, lt, long);
  alike = λ types m n a b here there alike.
      let long = first.long in
      let keyed = are.long in
      let k_m = item_at keys m (let lt = slice_get_within members m a here in omega (arith, lt, keyed)) in
      let k_n = item_at keys n (let lt = slice_get_within members n b there in omega (arith, lt, keyed)) in
      let s_m = item_at signs m (let lt = slice_get_within members m a here in omega (arith, lt, keyed, long)) in
      let s_n = item_at signs n (let lt = slice_get_within members n b there in omega (arith, lt, keyed, long)) in
      let one = one_key types a b k_m.0 k_n.0 alike (are.right m a k_m.0 here k_m.1) (are.right n b k_n.0 there k_n.1) in
      let le = same_least eq tells keys m n s_m.0 s_n.0 k_m.0 k_n.0 k_m.1 k_n.1 one (first.first m s_m.0 s_m.1) (first.first n s_n.0 s_n.1) in
      let ge = same_least eq tells keys n m s_n.0 s_m.0 k_n.0 k_m.0 k_n.1 k_m.1 (key_back k_m.0 k_n.0 one) (first.first n s_n.0 s_n.1) (first.first m s_m.0 s_m.1) in
      let same : s_m.0 ≡ s_n.0 = omega (arith, le, ge) in
      s_m.1 ∙ ap Some same ∙ sym s_n.1;
}
