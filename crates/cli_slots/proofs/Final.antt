-- What is told of all members makes their rows.
use Rattle.std.proofs.Common.{◌≡◌, ◌<◌, ◌≤◌, ◌+◌, ◌-◌, ℕ, Bool, true, false, Some, List, length, refl, sym, ap, subst, ◌∙◌, arith}
use Rattle.std.proofs.lemmas.Option.{slice_get_within}
use Rattle.std.specs.List.{slice_get}
use Rattle.dc_base.specs.declared.names.MemberId.{MemberId}
use Rattle.class_keys.proofs.Items.{one_item}
use Rattle.class_rows.specs.declared.row.TypeRow.{TypeRow}
use Rattle.class_rows.specs.declared.row.MemberRow.{MemberRow}
use Rattle.class_rows.specs.declared.row.Virt.{Virt}
use Rattle.class_rows.specs.Members.{IsOf}
use Rattle.class_rows.specs.Implemented.{AreAlike}
use Rattle.class_rows.specs.Lookups.{IsVirtualLike, IsNearest, in_it, above}
use Rattle.class_walk.specs.declared.walk.Step.{Step}
use Rattle.class_walk.specs.Walk.{IsWholeWalk}
use Rattle.cli_flags.specs.Flags.{virt_of}
use Rattle.cli_slots.specs.declared.known.Known.{Known}
use Rattle.cli_slots.specs.declared.told.Told.{Told}
use Rattle.cli_slots.specs.Settled.{Overrides, Tells, with_virt, IsByFlags, AreSettled}
use Rattle.cli_slots.specs.Known.{IsKnown, with_virts}
use Rattle.cli_slots.specs.Told.{ByRows, IsVirtBy, of_reference, of_own, AreLong}
use Rattle.cli_slots.specs.At.{AreTold}
use Rattle.cli_slots.proofs.Rows.{of_with, length_with}

some_is : {X : Type 0} (a b : X) → Some a ≡ Some b → a ≡ b
some_is a b h = cc

alike_to : (types : List TypeRow) (virt : Virt) (a b : MemberRow) → AreAlike types a b → AreAlike types a (with_virt virt b)
alike_to types virt a b is = record {
  name = is.name;
  sort = is.sort;
  result = is.result;
  owner = is.owner;
  owns = is.owns;
  other = is.other;
  other_owns = is.other_owns;
  params = is.params;
}

alike_from : (types : List TypeRow) (virt : Virt) (a b : MemberRow) → AreAlike types a (with_virt virt b) → AreAlike types a b
alike_from types virt a b is = record {
  name = is.name;
  sort = is.sort;
  result = is.result;
  owner = is.owner;
  owns = is.owns;
  other = is.other;
  other_owns = is.other_owns;
  params = is.params;
}

-- two rows to which the same ones are alike override the same
module _ (types : List TypeRow) (rows : List MemberRow) (explicit : List (MemberId × MemberId)) where
  like_of : (a b : MemberRow) → ((x : MemberRow) → AreAlike types x a → AreAlike types x b) → (t n : ℕ) → IsVirtualLike types rows explicit a t n → IsVirtualLike types rows explicit b t n
  like_of a b to t n like = (
    record { row = like.0.row; stands = like.0.stands; is = (like.0.is.0, like.0.is.1, like.0.is.2, to like.0.row like.0.is.3) },
    like.1,
  )

  near_of : (a b : MemberRow) → ((x : MemberRow) → AreAlike types x a → AreAlike types x b) → ((x : MemberRow) → AreAlike types x b → AreAlike types x a) → (t n : ℕ) → IsNearest types rows explicit a t n → IsNearest types rows explicit b t n
  near_of a b to back t n (in_it u k like) = in_it u k (like_of a b to u k like)
  near_of a b to back t n (above u c k off base rest) = above u c k (λ i like. off i (like_of b a back u i like)) base (near_of a b to back c k rest)

  over_to : (virt : Virt) (row : MemberRow) → Overrides types rows explicit row → Overrides types rows explicit (with_virt virt row)
  over_to virt row over = record {
    b = over.b;
    base = over.base;
    n = over.n;
    nearest = near_of row (with_virt virt row) (λ x. alike_to types virt x row) (λ x. alike_from types virt x row) over.b over.n over.nearest;
  }

  over_from : (virt : Virt) (row : MemberRow) → Overrides types rows explicit (with_virt virt row) → Overrides types rows explicit row
  over_from virt row over = record {
    b = over.b;
    base = over.base;
    n = over.n;
    nearest = near_of (with_virt virt row) row (λ x. alike_from types virt x row) (λ x. alike_to types virt x row) over.b over.n over.nearest;
  }

  tells_to : (virt : Virt) (row : MemberRow) (overrides : Bool) → Tells overrides (Overrides types rows explicit row) → Tells overrides (Overrides types rows explicit (with_virt virt row))
  tells_to virt row true over = over_to virt row over
  tells_to virt row false none = λ over. none (over_from virt row over)

by_reference : (known : Known) (Over : MemberRow → Bool → Type 0) (m : ℕ) (row : MemberRow) (virt : Virt) → m < known.own_from → IsVirtBy known Over m row virt → virt ≡ row.virt
by_reference known Over m row virt lt (of_reference less) = refl
by_reference known Over m row virt lt (of_own flags overrides own at over) = absurd (omega (arith, lt, own))

by_own : (known : Known) (Over : MemberRow → Bool → Type 0) (m flag : ℕ) (row : MemberRow) (virt : Virt) → known.own_from ≤ m → slice_get known.flags.now (m - known.own_from) ≡ Some flag → IsVirtBy known Over m row virt → (overrides : Bool) × Over row overrides × (virt ≡ virt_of flag overrides)
by_own known Over m flag row virt own at (of_reference less) = absurd (omega (arith, less, own))
by_own known Over m flag row virt own at (of_own flags overrides owned there over) =
    (overrides, over, ap (λ (f : ℕ). virt_of f overrides) (some_is flags flag (sym there ∙ at)))

module _ (known : Known) (are : IsKnown known) (steps : List Step) (whole : IsWholeWalk known.types.now steps) (k : ℕ) (le : length steps ≤ k) (told : Told) (long : AreLong known told) (so : AreTold known steps k told) where
  abbrev members : List MemberRow
  members = known.members.now

  abbrev virts : List Virt
  virts = told.virts.items

  -- each member's type was entered
  told_of : (m : ℕ) (row : MemberRow) (virt : Virt) → slice_get members m ≡ Some row → slice_get virts m ≡ Some virt → IsVirtBy known (ByRows known virts) m row virt
  told_of m row virt stands put =
      let of_ : IsOf members row.owner.0 m = record { row = row; stands = stands; is = refl } in
      let place = whole.whole row.owner.0 (are.owners m row stands) in
      let lt = slice_get_within steps place.0 _ place.1 in
      let mine = so.each row.owner.0 m (place.0, omega (arith, lt, le), place.1) of_ in
      let e : mine.is.row ≡ row = one_item members m mine.is.row row mine.is.stands stands in
      let f : mine.word.virt ≡ virt = some_is mine.word.virt virt (sym mine.put ∙ put) in
      subst (λ (v : Virt). IsVirtBy known (ByRows known virts) m row v) f (subst (λ (r : MemberRow). IsVirtBy known (ByRows known virts) m r mine.word.virt) e mine.is.by_)

  own_row : (m flag : ℕ) (row : MemberRow) → known.own_from ≤ m → slice_get known.flags.now (m - known.own_from) ≡ Some flag → slice_get (with_virts members virts) m ≡ Some row → IsByFlags known.types.now (with_virts members virts) known.explicit.now flag row
  own_row m flag row own at there =
      let was = of_with members virts m row long.virts there in
      let by_ = by_own known (ByRows known virts) m flag was.0 was.1 own at (told_of m was.0 was.1 was.2 was.3) in
      subst (λ (r : MemberRow). IsByFlags known.types.now (with_virts members virts) known.explicit.now flag r) (sym was.4) (record {
        overrides = by_.0;
        told = tells_to known.types.now (with_virts members virts) known.explicit.now was.1 was.0 by_.0 by_.1;
        virt = by_.2;
      })

  pub all_settled : AreSettled known.types.now known.explicit.now known.own_from known.flags.now members (with_virts members virts)
  all_settled = record {
    long = length_with members virts;
    of_references = λ m row lt there.
        let was = of_with members virts m row long.virts there in
        let same : was.1 ≡ was.0.virt = by_reference known (ByRows known virts) m was.0 was.1 lt (told_of m was.0 was.1 was.2 was.3) in
        let e : row ≡ was.0 = was.4 ∙ ap (λ (v : Virt). with_virt v was.0) same in
        was.2 ∙ ap Some (sym e);
    stays = λ m row there.
        let was = of_with members virts m row long.virts there in
        let v : row.virt ≡ was.1 = ap (λ (r : MemberRow). r.virt) was.4 in
        (was.0, was.2, was.4 ∙ ap (λ (w : Virt). with_virt w was.0) (sym v));
    own = λ j flag row at there.
        let back : known.own_from + j - known.own_from ≡ j = omega arith in
        own_row (known.own_from + j) flag row (omega arith) (ap (λ (n : ℕ). slice_get known.flags.now n) back ∙ at) there;
  }
