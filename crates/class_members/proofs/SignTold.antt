-- Members that can't be told from one another, by their signs.
use Rattle.std.proofs.Common.{◌≡◌, ◌≢◌, ℕ, Bool, true, false, nat_eq, Option, Some, List, length, sym, ◌∙◌, ap, subst, inl, inr, arith}
use Rattle.std.specs.List.{slice_get}
use Rattle.std.proofs.lemmas.Bool.{eqb-true}
use Rattle.std.proofs.lemmas.Option.{slice_get_within}
use Rattle.dc_base.specs.declared.names.TypeId.{TypeId}
use Rattle.class_keys.specs.Least.{IsLeastOf}
use Rattle.class_keys.specs.Shared.{IsShared}
use Rattle.class_keys.proofs.Items.{one_item, item_at}
use Rattle.class_keys.proofs.OfTwo.{least_of_same}
use Rattle.class_rows.specs.declared.row.TypeRow.{TypeRow}
use Rattle.class_rows.specs.declared.row.MemberRow.{MemberRow}
use Rattle.class_rows.specs.Names.{IsReference}
use Rattle.class_rows.specs.Members.{Agree}
use Rattle.class_members.specs.declared.sign.Signature.{Signature}
use Rattle.class_members.specs.declared.sign.Overload.{Overload}
use Rattle.class_members.specs.declared.sign.Sign.{Sign}
use Rattle.class_members.specs.declared.sign.Sign.TheVariants.{Nameless, Own, Reference}
use Rattle.class_members.specs.Signs.{IsSignature, IsOverload, IsSign, AreSigns}
use Rattle.class_members.specs.Twins.{AreOneOverload, HasTwin}

pub record AreOneSignature (a b : Signature) : Type 0 where
  pub owner : a.owner ≡ b.owner
  pub name : a.name.now ≡ b.name.now
  pub sort : a.sort ≡ b.sort
  pub params : a.params.now ≡ b.params.now
  pub result : a.result ≡ b.result

pub record AreSameOverload (a b : Overload) : Type 0 where
  pub owner : a.owner ≡ b.owner
  pub name : a.name.now ≡ b.name.now
  pub sort : a.sort ≡ b.sort
  pub types : a.types.now ≡ b.types.now

-- when two signs are equal
pub record Tells (eq : Sign → Sign → Bool) : Type 0 where
  pub nameless : (m n : ℕ) → eq (Nameless m) (Nameless n) ≡ nat_eq m n
  pub nameless_own : (m : ℕ) (s : Signature) → eq (Nameless m) (Own s) ≡ false
  pub nameless_reference : (m : ℕ) (o : Overload) → eq (Nameless m) (Reference o) ≡ false
  pub own_nameless : (s : Signature) (n : ℕ) → eq (Own s) (Nameless n) ≡ false
  pub own_reference : (s : Signature) (o : Overload) → eq (Own s) (Reference o) ≡ false
  pub reference_nameless : (o : Overload) (n : ℕ) → eq (Reference o) (Nameless n) ≡ false
  pub reference_own : (o : Overload) (s : Signature) → eq (Reference o) (Own s) ≡ false
  pub own : (a b : Signature) → eq (Own a) (Own b) ≡ true → AreOneSignature a b
  pub own_back : (a b : Signature) → AreOneSignature a b → eq (Own a) (Own b) ≡ true
  pub reference : (a b : Overload) → eq (Reference a) (Reference b) ≡ true → AreSameOverload a b
  pub reference_back : (a b : Overload) → AreSameOverload a b → eq (Reference a) (Reference b) ≡ true

no_way : {G : Type 0} (b : Bool) → b ≡ false → b ≡ true → G
no_way b e f = let no : false ≡ true = sym e ∙ f in absurd cc

one_id : (a b : TypeId) → a.0 ≡ b.0 → a ≡ b
one_id a b e = ap (λ (n : ℕ). let id : TypeId = record { 0 = n } in id) e

twin_by : (eq : Sign → Sign → Bool) → Tells eq → (types : List TypeRow) (members : List MemberRow) (nameless : List Bool) (m n : ℕ) (a b : Sign) → m ≢ n → IsSign types members nameless m a → IsSign types members nameless n b → eq a b ≡ true → HasTwin types members nameless m
twin_by eq tells types members nameless m n (Nameless i) (Nameless j) apart x y e =
    let same = eqb-true i j (sym (tells.nameless i j) ∙ e) in absurd (apart (sym x.0 ∙ same ∙ y.0))
twin_by eq tells types members nameless m n (Nameless i) (Own b) apart x y e = no_way _ (tells.nameless_own i b) e
twin_by eq tells types members nameless m n (Nameless i) (Reference b) apart x y e = no_way _ (tells.nameless_reference i b) e
twin_by eq tells types members nameless m n (Own a) (Nameless j) apart x y e = no_way _ (tells.own_nameless a j) e
twin_by eq tells types members nameless m n (Own a) (Reference b) apart x y e = no_way _ (tells.own_reference a b) e
twin_by eq tells types members nameless m n (Reference a) (Nameless j) apart x y e = no_way _ (tells.reference_nameless a j) e
twin_by eq tells types members nameless m n (Reference a) (Own b) apart x y e = no_way _ (tells.reference_own a b) e
twin_by eq tells types members nameless m n (Own a) (Own b) apart x y e =
    let one = tells.own a b e in
    let here = x.1.is.1 in
    let there = y.1.is.1 in
    record {
      named = x.0;
      n = n;
      apart = apart;
      other_named = y.0;
      a = x.1.row;
      stands = x.1.stands;
      b = y.1.row;
      other_stands = y.1.stands;
      one_owner = one_id x.1.row.owner y.1.row.owner (sym here.owner ∙ one.owner ∙ there.owner);
      twins = inl (
        x.1.is.0,
        record {
          name = sym here.name ∙ one.name ∙ there.name;
          sort = sym here.sort ∙ one.sort ∙ there.sort;
          params = sym here.params ∙ one.params ∙ there.params;
          result = sym here.result ∙ one.result ∙ there.result;
        },
      );
    }
twin_by eq tells types members nameless m n (Reference a) (Reference b) apart x y e =
    let one = tells.reference a b e in
    let here = x.1.is.1 in
    let there = y.1.is.1 in
    record {
      named = x.0;
      n = n;
      apart = apart;
      other_named = y.0;
      a = x.1.row;
      stands = x.1.stands;
      b = y.1.row;
      other_stands = y.1.stands;
      one_owner = one_id x.1.row.owner y.1.row.owner (sym here.owner ∙ one.owner ∙ there.owner);
      twins = inr (
        x.1.is.0,
        record {
          name = sym here.name ∙ one.name ∙ there.name;
          sort = sym here.sort ∙ one.sort ∙ there.sort;
          told = sym here.types ∙ one.types ∙ there.types;
        },
      );
    }

up_down : {G : Type 0} (flags : List Bool) (m : ℕ) → slice_get flags m ≡ Some true → slice_get flags m ≡ Some false → G
up_down flags m up down = let both : Some true ≡ Some false = sym up ∙ down in absurd cc

reference_of : (types : List TypeRow) (a b : MemberRow) → a ≡ b → IsReference types a.owner.0 → IsReference types b.owner.0
reference_of types a b e = subst (λ (r : MemberRow). IsReference types r.owner.0) e

equal_own : (eq : Sign → Sign → Bool) → Tells eq → (a b : Signature) (ra rb : MemberRow) → IsSignature ra a → IsSignature rb b → ra.owner ≡ rb.owner → Agree ra rb → eq (Own a) (Own b) ≡ true
equal_own eq tells a b ra rb here there owner agree = tells.own_back a b (record {
  owner = here.owner ∙ ap (λ (t : TypeId). t.0) owner ∙ sym there.owner;
  name = here.name ∙ agree.name ∙ sym there.name;
  sort = here.sort ∙ agree.sort ∙ sym there.sort;
  params = here.params ∙ agree.params ∙ sym there.params;
  result = here.result ∙ agree.result ∙ sym there.result;
})

equal_reference : (eq : Sign → Sign → Bool) → Tells eq → (a b : Overload) (ra rb : MemberRow) → IsOverload ra a → IsOverload rb b → ra.owner ≡ rb.owner → AreOneOverload ra rb → eq (Reference a) (Reference b) ≡ true
equal_reference eq tells a b ra rb here there owner one = tells.reference_back a b (record {
  owner = here.owner ∙ ap (λ (t : TypeId). t.0) owner ∙ sym there.owner;
  name = here.name ∙ one.name ∙ sym there.name;
  sort = here.sort ∙ one.sort ∙ sym there.sort;
  types = here.types ∙ one.told ∙ sym there.types;
})

equal_by : (eq : Sign → Sign → Bool) → Tells eq → (types : List TypeRow) (members : List MemberRow) (nameless : List Bool) (m : ℕ) (a b : Sign) → (h : HasTwin types members nameless m) → IsSign types members nameless m a → IsSign types members nameless h.n b → eq a b ≡ true
equal_by eq tells types members nameless m (Nameless i) b h x y = up_down nameless m x.1 h.named
equal_by eq tells types members nameless m (Own a) (Nameless j) h x y = up_down nameless h.n y.1 h.other_named
equal_by eq tells types members nameless m (Reference a) (Nameless j) h x y = up_down nameless h.n y.1 h.other_named
equal_by eq tells types members nameless m (Own a) (Own b) h x y =
    let here = one_item members m x.1.row h.a x.1.stands h.stands in
    let there = one_item members h.n y.1.row h.b y.1.stands h.other_stands in
    elim h.twins [
      | inl own ↦ equal_own eq tells a b h.a h.b (subst (λ (r : MemberRow). IsSignature r a) here x.1.is.1) (subst (λ (r : MemberRow). IsSignature r b) there y.1.is.1) h.one_owner own.1
      | inr reference ↦ absurd (x.1.is.0 (reference_of types h.a x.1.row (sym here) reference.0))
    ]
equal_by eq tells types members nameless m (Reference a) (Reference b) h x y =
    let here = one_item members m x.1.row h.a x.1.stands h.stands in
    let there = one_item members h.n y.1.row h.b y.1.stands h.other_stands in
    elim h.twins [
      | inl own ↦ absurd (own.0 (reference_of types x.1.row h.a here x.1.is.0))
      | inr reference ↦ equal_reference eq tells a b h.a h.b (subst (λ (r : MemberRow). IsOverload r a) here x.1.is.1) (subst (λ (r : MemberRow). IsOverload r b) there y.1.is.1) h.one_owner reference.1
    ]
equal_by eq tells types members nameless m (Own a) (Reference b) h x y =
    let here = one_item members m x.1.row h.a x.1.stands h.stands in
    let there = one_item members h.n y.1.row h.b y.1.stands h.other_stands in
    absurd (x.1.is.0 (reference_of types h.a x.1.row (sym here) (subst (λ (o : TypeId). IsReference types o.0) (sym h.one_owner) (reference_of types y.1.row h.b there y.1.is.0))))
equal_by eq tells types members nameless m (Reference a) (Own b) h x y =
    let here = one_item members m x.1.row h.a x.1.stands h.stands in
    let there = one_item members h.n y.1.row h.b y.1.stands h.other_stands in
    absurd (y.1.is.0 (reference_of types h.b y.1.row (sym there) (subst (λ (o : TypeId). IsReference types o.0) h.one_owner (reference_of types x.1.row h.a here x.1.is.0))))

pub least_with_twin : (eq : Sign → Sign → Bool) → Tells eq → (types : List TypeRow) (members : List MemberRow) (nameless : List Bool) (signs : List Sign) (found : Option ℕ) → AreSigns types members nameless (length members) signs → IsLeastOf (IsShared eq signs) found → IsLeastOf (HasTwin types members nameless) found
least_with_twin eq tells types members nameless signs found all =
    least_of_same (IsShared eq signs) (HasTwin types members nameless) found
    (λ m s. twin_by eq tells types members nameless m s.other s.key s.twin s.apart (all.signed m s.key s.stands) (all.signed s.other s.twin s.other_stands) s.equal)
    (λ m h.
    let here = item_at signs m (let lt = slice_get_within members m h.a h.stands in let long = all.long in omega (arith, lt, long)) in
    let there = item_at signs h.n (let lt = slice_get_within members h.n h.b h.other_stands in let long = all.long in omega (arith, lt, long)) in
    record {
      key = here.0;
      stands = here.1;
      other = h.n;
      apart = h.apart;
      twin = there.0;
      other_stands = there.1;
      equal = equal_by eq tells types members nameless m here.0 there.0 h (all.signed m here.0 here.1) (all.signed h.n there.0 there.1);
    })
