-- The innermost of the virtual methods that stand open is the one that is overridden.
use Rattle.std.proofs.Common.{◌≡◌, ◌<◌, ℕ, Option, Some, None, List, [], ◌∷◌, length, inl, inr, sym, ap, subst, ◌∙◌, arith}
use Rattle.std.proofs.lemmas.Option.{slice_get_within}
use Rattle.std.specs.Prelude.{IfSome, IfNone}
use Rattle.std.specs.List.{slice_get}
use Rattle.dc_base.specs.declared.names.TypeId.{TypeId}
use Rattle.dc_base.specs.declared.names.MemberId.{MemberId}
use Rattle.class_chains.specs.Ends.{here, further}
use Rattle.class_rows.specs.declared.row.TypeRow.{TypeRow}
use Rattle.class_rows.specs.declared.row.MemberRow.{MemberRow}
use Rattle.class_rows.specs.declared.row.Virt.TheVariants.{Plain}
use Rattle.class_rows.specs.Types.{IsBase, InBaseChain}
use Rattle.class_rows.specs.Members.{IsOf}
use Rattle.class_rows.specs.Lookups.{TakesOver, IsVirtualLike, IsNearest, in_it, above, IsOverridden}
use Rattle.class_keys.proofs.Items.{one_item}
use Rattle.class_walk.specs.Walk.{IsBelow}
use Rattle.class_open.specs.declared.open.Open.{Open}
use Rattle.class_open.specs.Trail.{Has, IsPath, IsPicked, IsTrail, FirstIn, IsAlikeTo}
use Rattle.class_open.proofs.Path.{above_path, trail_has, first_cases}
use Rattle.class_slots.specs.declared.known.Known.{Known}
use Rattle.class_slots.specs.Slots.{OwnersAreThere}
use Rattle.class_slots.specs.Known.{IsKnown, IsOpenAt, IsOpenAbove}

pub owner_there : (types : List TypeRow) (members : List MemberRow) → OwnersAreThere types members → (t m : ℕ) → IsOf members t m → t < length types
owner_there types members owners t m of_ =
    subst (λ (n : ℕ). n < length types) (ap (λ (o : TypeId). o.0) of_.is) (owners m of_.row of_.stands)

module _ (known : Known) (are : IsKnown known) (row : MemberRow) where
  abbrev types : List TypeRow
  types = known.types.now

  abbrev members : List MemberRow
  members = known.members.now

  abbrev explicit : List (MemberId × MemberId)
  explicit = known.explicit.now

  -- a virtual method like the member is a picked one that is alike to it
  like_picked : (t n : ℕ) → IsVirtualLike types members explicit row t n → IsPicked members known.virtuals.now t n × IsAlikeTo types members row n
  like_picked t n like =
      let lt = slice_get_within members n like.0.row like.0.stands in
      let virtual = are.virtuals.no_ n lt (record { row = like.0.row; stands = like.0.stands; is = (like.0.is.1, like.0.is.2) }, like.1) in (
        (record { row = like.0.row; stands = like.0.stands; is = like.0.is.0 }, virtual),
        record { row = like.0.row; stands = like.0.stands; is = like.0.is.3 },
      )

  picked_like : (t n : ℕ) → IsPicked members known.virtuals.now t n → IsAlikeTo types members row n → IsVirtualLike types members explicit row t n
  picked_like t n picked alike =
      let virtual = are.virtuals.yes_ n picked.1 in
      let e = one_item members n picked.0.row alike.row picked.0.stands alike.stands in
      let f = one_item members n virtual.0.row alike.row virtual.0.stands alike.stands in (
        record {
          row = alike.row;
          stands = alike.stands;
          is = (
            ap (λ (r : MemberRow). r.owner) (sym e) ∙ picked.0.is,
            subst (λ (r : MemberRow). r.virt ≡ Plain → ⊥) f virtual.0.is.0,
            ap (λ (r : MemberRow). r.is_static) (sym f) ∙ virtual.0.is.1,
            alike.is,
          );
        },
        virtual.1,
      )

  near_found : (b n : ℕ) (path trail : List ℕ) → IsPath types (b ∷ path) → IsTrail members known.virtuals.now (b ∷ path) trail → FirstIn (IsAlikeTo types members row) trail n → IsNearest types members explicit row b n
  near_found b n [] trail chain is first =
      elim (first_cases members known.virtuals.now (IsAlikeTo types members row) is.0 is.1 n (subst (λ (l : List ℕ). FirstIn (IsAlikeTo types members row) l n) is.2 first)) [
        | inl mine ↦ in_it b n (picked_like b n ((is.3 n).0 mine.0) mine.1)
        | inr up ↦ absurd (subst (λ (l : List ℕ). FirstIn (IsAlikeTo types members row) l n) is.4 up.1)
      ]
  near_found b n (c ∷ path) trail chain is first =
      elim (first_cases members known.virtuals.now (IsAlikeTo types members row) is.0 is.1 n (subst (λ (l : List ℕ). FirstIn (IsAlikeTo types members row) l n) is.2 first)) [
        | inl mine ↦ in_it b n (picked_like b n ((is.3 n).0 mine.0) mine.1)
        | inr up ↦ above b c n (λ k like. let p = like_picked b k like in up.0 k ((is.3 k).1 p.0) p.1) chain.0 (near_found c n path is.1 chain.1 is.4 up.1)
      ]

  -- the owner of what is nearest is in the base chain
  nearest_in : (t n : ℕ) → IsNearest types members explicit row t n → (u : ℕ) × InBaseChain types t u × IsVirtualLike types members explicit row u n
  nearest_in t n (in_it u k like) = (u, here u, like)
  nearest_in t n (above u b k off base rest) = let at = nearest_in b k rest in (at.0, further u b at.0 base at.1, at.2)

  module _ (stacks : Open) (t m : ℕ) (stands : slice_get members m ≡ Some row) (owned : IsOf members t m) where
    owner : row.owner.0 ≡ t
    owner = ap (λ (o : TypeId). o.0) (ap (λ (r : MemberRow). r.owner) (one_item members m row owned.row stands owned.stands) ∙ owned.is)

    found : TakesOver row.virt → (n : ℕ) (path : List ℕ) → IsOpenAt known path stacks → IsBelow types path t → FirstIn (IsAlikeTo types members row) stacks.trail n → IsOverridden types members explicit m n
    found takes n [] at below first = absurd (subst (λ (l : List ℕ). FirstIn (IsAlikeTo types members row) l n) at.trail first)
    found takes n (b ∷ path) at below first = record {
      row = row;
      stands = stands;
      over = takes;
      b = b;
      base = subst (λ (o : ℕ). IsBase types o b) (sym owner) below;
      nearest = near_found b n path stacks.trail at.chain at.trail first;
    }

    pub over_found : TakesOver row.virt → IsOpenAbove known stacks t → (f : Option ℕ) → IfSome f (λ n. FirstIn (IsAlikeTo types members row) stacks.trail n) → IfSome f (λ n. IsOverridden types members explicit m n)
    over_found takes above_ None h = tt
    over_found takes above_ (Some n) h = found takes n above_.0 above_.1 above_.2 h

    none : IsOpenAbove known stacks t → ((n : ℕ) → Has stacks.trail n → IsAlikeTo types members row n → ⊥) → (n : ℕ) → IsOverridden types members explicit m n → ⊥
    none above_ off n over =
        let e = one_item members m over.row row over.stands stands in
        let base = subst (λ (o : ℕ). IsBase types o over.b) owner (subst (λ (r : MemberRow). IsBase types r.owner.0 over.b) e over.base) in
        let near = nearest_in over.b n (subst (λ (r : MemberRow). IsNearest types members explicit r over.b n) e over.nearest) in
        let p = like_picked near.0 n near.2 in
        elim (above_path types t over.b near.0 above_.0 above_.1.chain above_.2 base near.1) [
          | inl on ↦ off n (trail_has members known.virtuals.now above_.0 stacks.trail near.0 n above_.1.trail on p.0) p.1
          | inr past ↦ let lt = owner_there types members are.owners near.0 n p.0.0 in omega (arith, lt, past)
        ]

    pub over_none : IsOpenAbove known stacks t → (f : Option ℕ) → IfNone f ((n : ℕ) → Has stacks.trail n → IsAlikeTo types members row n → ⊥) → IfNone f ((n : ℕ) → IsOverridden types members explicit m n → ⊥)
    over_none above_ (Some n) h = tt
    over_none above_ None h = none above_ h
