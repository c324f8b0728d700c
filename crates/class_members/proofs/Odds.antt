-- The first members of their names, and those that may not share one with the first.
use Rattle.std.proofs.Common.{◌≡◌, ◌⊎◌, ℕ, ◌+◌, ◌<◌, ◌≤◌, Bool, true, false, Option, Some, None, List, length, refl, sym, ◌∙◌, ap, subst, inl, inr, arith}
use Rattle.std.specs.List.{slice_get}
use Rattle.std.proofs.lemmas.Bool.{cases_lt, cases_order}
use Rattle.std.proofs.lemmas.Option.{slice_get_within}
use Rattle.dc_base.specs.declared.names.TypeId.{TypeId}
use Rattle.dc_causes.specs.First.{IsLeast}
use Rattle.class_keys.specs.Least.{IsLeastOf, lesser_of}
use Rattle.class_keys.proofs.Items.{one_item, item_at}
use Rattle.class_keys.proofs.OfTwo.{least_of_same, least_of_either}
use Rattle.class_rows.specs.declared.row.TypeRow.{TypeRow}
use Rattle.class_rows.specs.declared.row.MemberRow.{MemberRow}
use Rattle.class_rows.specs.Names.{IsReference}
use Rattle.class_rows.specs.Members.{MayShareName, known_as}
use Rattle.class_members.specs.declared.nested.NameIn.{NameIn}
use Rattle.class_keys.specs.Firsts.{AreFirsts}
use Rattle.class_members.specs.Groups.{GoesWith, IsClashOf, IsFirstClash, AreFirstNamed, IsOdd}
use Rattle.class_members.specs.Names.{IsNameIn, AreNamesIn}

-- when the names of two members are equal
pub record Tells (eq : Option NameIn → Option NameIn → Bool) : Type 0 where
  pub some_none : (a : NameIn) → eq (Some a) None ≡ false
  pub same : (a b : NameIn) → eq (Some a) (Some b) ≡ true → (a.outer ≡ b.outer) × (a.name.now ≡ b.name.now)
  pub back : (a b : NameIn) → a.outer ≡ b.outer → a.name.now ≡ b.name.now → eq (Some a) (Some b) ≡ true

one_id : (a b : TypeId) → a.0 ≡ b.0 → a ≡ b
one_id a b e = ap (λ (n : ℕ). let id : TypeId = record { 0 = n } in id) e

goes_at : (eq : Option NameIn → Option NameIn → Bool) → Tells eq → (types : List TypeRow) (members : List MemberRow) (nameless : List Bool) (m k : ℕ) (key twin : Option NameIn) → IsNameIn types members nameless m key → IsNameIn types members nameless k twin → GoesWith types members nameless m m → eq key twin ≡ true → GoesWith types members nameless m k
goes_at eq tells types members nameless m k None twin is other goes equal = absurd (is goes.named (record { row = goes.a; stands = goes.stands; is = goes.reference }))
goes_at eq tells types members nameless m k (Some a) None is other goes equal =
    let no : false ≡ true = sym (tells.some_none a) ∙ equal in absurd cc
goes_at eq tells types members nameless m k (Some a) (Some b) is other goes equal =
    let same = tells.same a b equal in
    record {
      named = is.0;
      other_named = other.0;
      a = is.1.row;
      stands = is.1.stands;
      b = other.1.row;
      other_stands = other.1.stands;
      one_owner = one_id is.1.row.owner other.1.row.owner (sym is.1.is.1 ∙ same.0 ∙ other.1.is.1);
      reference = is.1.is.0;
      one_name = sym is.1.is.2 ∙ same.1 ∙ other.1.is.2;
    }

equal_at : (eq : Option NameIn → Option NameIn → Bool) → Tells eq → (types : List TypeRow) (members : List MemberRow) (nameless : List Bool) (m k : ℕ) (key twin : Option NameIn) → IsNameIn types members nameless m key → IsNameIn types members nameless k twin → GoesWith types members nameless m k → eq key twin ≡ true
equal_at eq tells types members nameless m k None twin is other goes = absurd (is goes.named (record { row = goes.a; stands = goes.stands; is = goes.reference }))
equal_at eq tells types members nameless m k (Some a) None is other goes =
    absurd (other goes.other_named (record { row = goes.b; stands = goes.other_stands; is = subst (λ (o : TypeId). IsReference types o.0) goes.one_owner goes.reference }))
equal_at eq tells types members nameless m k (Some a) (Some b) is other goes =
    let here = one_item members m is.1.row goes.a is.1.stands goes.stands in
    let there = one_item members k other.1.row goes.b other.1.stands goes.other_stands in
    tells.back a b
    (is.1.is.1 ∙ ap (λ (r : MemberRow). r.owner.0) here ∙ ap (λ (o : TypeId). o.0) goes.one_owner ∙ sym (other.1.is.1 ∙ ap (λ (r : MemberRow). r.owner.0) there))
    (is.1.is.2 ∙ ap known_as here ∙ goes.one_name ∙ sym (other.1.is.2 ∙ ap known_as there))

pub first_of_names : (eq : Option NameIn → Option NameIn → Bool) → Tells eq → (types : List TypeRow) (members : List MemberRow) (nameless : List Bool) (names : List (Option NameIn)) (firsts : List ℕ) → AreNamesIn types members nameless (length members) names → AreFirsts eq names firsts → AreFirstNamed types members nameless firsts
first_of_names eq tells types members nameless names firsts are all = record {
  long = all.long ∙ are.long;
  within = λ m f at.
      let lt = slice_get_within names f (all.first m f at).holds.twin (all.first m f at).holds.other_stands in
      let long = are.long in
      omega (arith, lt, long);
  first = λ m f at goes.
      let first = all.first m f at in
      let here = are.named m first.holds.key first.holds.stands in
      record {
        holds = goes_at eq tells types members nameless m f first.holds.key first.holds.twin here (are.named f first.holds.twin first.holds.other_stands) goes first.holds.equal;
        least = λ k lt other.
            let within = slice_get_within members k other.b other.other_stands in
            let long = are.long in
            let there = item_at names k (omega (arith, within, long)) in
            first.least k lt (record {
              key = first.holds.key;
              stands = first.holds.stands;
              twin = there.0;
              other_stands = there.1;
              equal = equal_at eq tells types members nameless m k first.holds.key there.0 here (are.named k there.0 there.1) other;
            });
      };
}

-- a clash with the first, of one of the first so many members
pub record IsClashBefore (types : List TypeRow) (members : List MemberRow) (nameless : List Bool) (i f : ℕ) : Type 0 where
  pub m : ℕ
  pub before : m < i
  pub clash : IsClashOf types members nameless m f

pub one_least : (P : ℕ → Type 0) (m n : ℕ) → IsLeast P m → IsLeast P n → m ≡ n
one_least P m n a b = elim (cases_order m n) [
  | inl e ↦ e
  | inr w ↦ elim w [
    | inl lt ↦ absurd (b.least m lt a.holds)
    | inr gt ↦ absurd (a.least n gt b.holds)
  ]
]

odd_goes : (types : List TypeRow) (members : List MemberRow) (nameless : List Bool) (m f : ℕ) → IsOdd types members nameless m f → GoesWith types members nameless m m
odd_goes types members nameless m f odd = record {
  named = odd.named;
  other_named = odd.named;
  a = odd.a;
  stands = odd.stands;
  b = odd.a;
  other_stands = odd.stands;
  one_owner = refl;
  reference = odd.reference;
  one_name = refl;
}

pub goes_itself : (types : List TypeRow) (members : List MemberRow) (nameless : List Bool) (m n : ℕ) → GoesWith types members nameless m n → GoesWith types members nameless m m
goes_itself types members nameless m n goes = record {
  named = goes.named;
  other_named = goes.named;
  a = goes.a;
  stands = goes.stands;
  b = goes.a;
  other_stands = goes.stands;
  one_owner = refl;
  reference = goes.reference;
  one_name = refl;
}

clash_of_odd : (types : List TypeRow) (members : List MemberRow) (nameless : List Bool) (m f : ℕ) → (GoesWith types members nameless m m → IsLeast (GoesWith types members nameless m) f) → IsOdd types members nameless m f → IsClashOf types members nameless m f
clash_of_odd types members nameless m f first odd =
    let least = first (odd_goes types members nameless m f odd) in
    record {
      first = least;
      apart = odd.apart;
      clash = λ may.
          let here = one_item members m least.holds.a odd.a least.holds.stands odd.stands in
          let there = one_item members f least.holds.b odd.b least.holds.other_stands odd.other_stands in
          odd.clash (subst (λ (r : MemberRow). MayShareName odd.a r) there (subst (λ (r : MemberRow). MayShareName r least.holds.b) here may));
    }

odd_of_clash : (types : List TypeRow) (members : List MemberRow) (nameless : List Bool) (m f : ℕ) → IsClashOf types members nameless m f → IsOdd types members nameless m f
odd_of_clash types members nameless m f clash = record {
  apart = clash.apart;
  named = clash.first.holds.named;
  a = clash.first.holds.a;
  stands = clash.first.holds.stands;
  reference = clash.first.holds.reference;
  b = clash.first.holds.b;
  other_stands = clash.first.holds.other_stands;
  clash = clash.clash;
}

pub no_clash_yet : (types : List TypeRow) (members : List MemberRow) (nameless : List Bool) (f : ℕ) → IsClashBefore types members nameless 0 f → ⊥
no_clash_yet types members nameless f before = let lt = before.before in omega (arith, lt)

later : (types : List TypeRow) (members : List MemberRow) (nameless : List Bool) (i f : ℕ) → IsClashBefore types members nameless i f → IsClashBefore types members nameless (i + 1) f
later types members nameless i f before = record { m = before.m; before = let lt = before.before in omega (arith, lt); clash = before.clash }

pub clash_more : (types : List TypeRow) (members : List MemberRow) (nameless : List Bool) (firsts : List ℕ) (i f : ℕ) (least : Option ℕ) → AreFirstNamed types members nameless firsts → slice_get firsts i ≡ Some f → IsOdd types members nameless i f → IsLeastOf (IsClashBefore types members nameless i) least → IsLeastOf (IsClashBefore types members nameless (i + 1)) (lesser_of least (Some f))
clash_more types members nameless firsts i f least are at odd so =
    let clash = clash_of_odd types members nameless i f (are.first i f at) odd in
    let one : IsLeastOf (λ (g : ℕ). g ≡ f) (Some f) = record { holds = refl; least = λ k lt e. omega (arith, lt, e) } in
    least_of_same (λ g. IsClashBefore types members nameless i g ⊎ (g ≡ f)) (IsClashBefore types members nameless (i + 1)) (lesser_of least (Some f))
    (λ g either. elim either [
      | inl before ↦ later types members nameless i g before
      | inr e ↦ subst (λ (n : ℕ). IsClashBefore types members nameless (i + 1) n) (sym e) (record { m = i; before = omega arith; clash = clash })
    ])
    (λ g before. elim (cases_lt before.m i) [
      | inl less ↦ inl (record { m = before.m; before = less; clash = before.clash })
      | inr le ↦
          let lt = before.before in
          let here : before.m ≡ i = omega (arith, lt, le) in
          let there : IsClashOf types members nameless i g = subst (λ (n : ℕ). IsClashOf types members nameless n g) here before.clash in
          inr (one_least (GoesWith types members nameless i) g f there.first clash.first)
    ])
    (least_of_either (IsClashBefore types members nameless i) (λ g. g ≡ f) least (Some f) so one)

pub no_clash_more : (types : List TypeRow) (members : List MemberRow) (nameless : List Bool) (firsts : List ℕ) (i f : ℕ) (least : Option ℕ) → AreFirstNamed types members nameless firsts → slice_get firsts i ≡ Some f → (IsOdd types members nameless i f → ⊥) → IsLeastOf (IsClashBefore types members nameless i) least → IsLeastOf (IsClashBefore types members nameless (i + 1)) least
no_clash_more types members nameless firsts i f least are at even so =
    least_of_same (IsClashBefore types members nameless i) (IsClashBefore types members nameless (i + 1)) least
    (later types members nameless i)
    (λ g before. elim (cases_lt before.m i) [
      | inl less ↦ record { m = before.m; before = less; clash = before.clash }
      | inr le ↦
          let lt = before.before in
          let here : before.m ≡ i = omega (arith, lt, le) in
          let there : IsClashOf types members nameless i g = subst (λ (n : ℕ). IsClashOf types members nameless n g) here before.clash in
          let first = are.first i f at (goes_itself types members nameless i g there.first.holds) in
          let same : g ≡ f = one_least (GoesWith types members nameless i) g f there.first first in
          absurd (even (subst (λ (n : ℕ). IsOdd types members nameless i n) same (odd_of_clash types members nameless i g there)))
    ])
    so

pub all_clashes : (types : List TypeRow) (members : List MemberRow) (nameless : List Bool) (i : ℕ) (least : Option ℕ) → length members ≤ i → IsLeastOf (IsClashBefore types members nameless i) least → IsLeastOf (IsFirstClash types members nameless) least
all_clashes types members nameless i least all so =
    least_of_same (IsClashBefore types members nameless i) (IsFirstClash types members nameless) least
    (λ f before. (before.m, before.clash))
    (λ f clash.
    let lt = slice_get_within members clash.0 clash.1.first.holds.a clash.1.first.holds.stands in
    record { m = clash.0; before = omega (arith, lt, all); clash = clash.1 })
    so
