-- What a member overrides, by the members and their words on slots.
use Rattle.std.proofs.Common.{◌≡◌, ◌≢◌, ℕ, Bool, true, false, Some, List, [], ◌∷◌, length, inl, inr, refl, sym, ap, subst, ◌∙◌, arith}
use Rattle.std.proofs.lemmas.Option.{slice_get_within}
use Rattle.std.specs.List.{slice_get}
use Rattle.class_chains.specs.Ends.{here, further}
use Rattle.class_keys.proofs.Items.{one_item, item_at}
use Rattle.class_rows.specs.declared.row.TypeRow.{TypeRow}
use Rattle.class_rows.specs.declared.row.MemberRow.{MemberRow}
use Rattle.class_rows.specs.declared.row.Virt.{Virt}
use Rattle.class_rows.specs.declared.row.Virt.TheVariants.{Plain}
use Rattle.class_rows.specs.Types.{IsBase, InBaseChain}
use Rattle.class_rows.specs.Members.{IsOf, IsNameless}
use Rattle.class_rows.specs.Implemented.{AreAlike}
use Rattle.class_rows.specs.Lookups.{IsVirtualLike, IsNearest, in_it, above}
use Rattle.class_walk.specs.Walk.{IsBelow}
use Rattle.class_open.specs.Trail.{Has, IsPath, IsPicked, IsTrail, FirstIn, IsAlikeTo}
use Rattle.class_open.proofs.Path.{above_path, trail_has, first_cases}
use Rattle.class_slots.proofs.Near.{owner_there}
use Rattle.cli_slots.specs.declared.known.Known.{Known}
use Rattle.cli_slots.specs.declared.walked.Progress.{Progress}
use Rattle.cli_slots.specs.Settled.{Overrides, Tells, with_virt}
use Rattle.cli_slots.specs.Known.{IsKnown, with_virts}
use Rattle.cli_slots.specs.Told.{ByOpen, ByRows, IsVirtBy, of_reference, of_own, IsVirtual, IsTold}
use Rattle.cli_slots.specs.At.{IsAt}
use Rattle.cli_slots.proofs.Rows.{at_with, of_with}

some_is : {X : Type 0} (a b : X) → Some a ≡ Some b → a ≡ b
some_is a b h = cc

-- a virtual method like this one, by the members as they were and their words on slots
pub record IsLikeBy (known : Known) (virts : List Virt) (row : MemberRow) (t n : ℕ) : Type 0 where
  pub old : MemberRow
  pub stands : slice_get known.members.now n ≡ Some old
  pub virt : Virt
  pub put : slice_get virts n ≡ Some virt
  pub owned : old.owner ≡ record { 0 = t }
  pub virtual : IsVirtual known n old virt
  pub alike : AreAlike known.types.now old row

alike_from : (types : List TypeRow) (virt : Virt) (a b : MemberRow) → AreAlike types (with_virt virt a) b → AreAlike types a b
alike_from types virt a b is = record {
  name = is.name;
  sort = is.sort;
  result = is.result;
  owner = is.owner;
  owns = is.owns;
  other = is.other;
  other_owns = is.other_owns;
  params = is.params;
}

alike_to : (types : List TypeRow) (virt : Virt) (a b : MemberRow) → AreAlike types a b → AreAlike types (with_virt virt a) b
alike_to types virt a b is = record {
  name = is.name;
  sort = is.sort;
  result = is.result;
  owner = is.owner;
  owns = is.owns;
  other = is.other;
  other_owns = is.other_owns;
  params = is.params;
}

module _ (known : Known) (virts : List Virt) (long : length virts ≡ length known.members.now) where
  abbrev rows : List MemberRow
  rows = with_virts known.members.now virts

  owned_from : (t n : ℕ) → IsOf rows t n → IsOf known.members.now t n
  owned_from t n of_ =
      let was = of_with known.members.now virts n of_.row long of_.stands in
      record { row = was.0; stands = was.2; is = ap (λ (r : MemberRow). r.owner) (sym was.4) ∙ of_.is }

  owned_to : (t n : ℕ) → IsOf known.members.now t n → IsOf rows t n
  owned_to t n of_ =
      let lt = slice_get_within known.members.now n of_.row of_.stands in
      let word = item_at virts n (omega (arith, lt, long)) in
      record { row = with_virt word.0 of_.row; stands = at_with known.members.now virts n of_.row word.0 of_.stands word.1; is = of_.is }

  nameless_from : (n : ℕ) → IsNameless known.types.now rows known.explicit.now n → IsNameless known.types.now known.members.now known.explicit.now n
  nameless_from n is = record { t = is.t; owned = owned_from is.t n is.owned; reference = is.reference; interface_member = is.interface_member; paired = is.paired }

  nameless_to : (n : ℕ) → IsNameless known.types.now known.members.now known.explicit.now n → IsNameless known.types.now rows known.explicit.now n
  nameless_to n is = record { t = is.t; owned = owned_to is.t n is.owned; reference = is.reference; interface_member = is.interface_member; paired = is.paired }

  pub like_from : (row : MemberRow) (t n : ℕ) → IsVirtualLike known.types.now rows known.explicit.now row t n → IsLikeBy known virts row t n
  like_from row t n like =
      let was = of_with known.members.now virts n like.0.row long like.0.stands in
      let e : like.0.row ≡ with_virt was.1 was.0 = was.4 in
      record {
        old = was.0;
        stands = was.2;
        virt = was.1;
        put = was.3;
        owned = ap (λ (r : MemberRow). r.owner) (sym e) ∙ like.0.is.0;
        virtual = (
          subst (λ (r : MemberRow). r.virt ≢ Plain) e like.0.is.1,
          ap (λ (r : MemberRow). r.is_static) (sym e) ∙ like.0.is.2,
          (λ nameless. like.1 (nameless_to n nameless)),
        );
        alike = alike_from known.types.now was.1 was.0 row (subst (λ (r : MemberRow). AreAlike known.types.now r row) e like.0.is.3);
      }

  pub like_to : (row : MemberRow) (t n : ℕ) → IsLikeBy known virts row t n → IsVirtualLike known.types.now rows known.explicit.now row t n
  like_to row t n is = (
    record {
      row = with_virt is.virt is.old;
      stands = at_with known.members.now virts n is.old is.virt is.stands is.put;
      is = (is.owned, is.virtual.0, is.virtual.1, alike_to known.types.now is.virt is.old row is.alike);
    },
    (λ nameless. is.virtual.2 (nameless_from n nameless)),
  )

-- what is like a member stays so, where its word stays
like_kept : (known : Known) (before after : List Virt) (row : MemberRow) (t n : ℕ) → slice_get after n ≡ slice_get before n → IsLikeBy known before row t n → IsLikeBy known after row t n
like_kept known before after row t n same is = record {
  old = is.old;
  stands = is.stands;
  virt = is.virt;
  put = same ∙ is.put;
  owned = is.owned;
  virtual = is.virtual;
  alike = is.alike;
}

like_of : (known : Known) (virts : List Virt) (row : MemberRow) (t n : ℕ) → IsLikeBy known virts row t n → IsOf known.members.now t n
like_of known virts row t n is = record { row = is.old; stands = is.stands; is = is.owned }

-- words stay on the members of these types, among which the base of each is
module _ (known : Known) (Some_ : ℕ → Type 0) (closed : (u b : ℕ) → Some_ u → IsBase known.types.now u b → Some_ b) where
  near_kept : (before after : List Virt) → length before ≡ length known.members.now → length after ≡ length known.members.now → ((u n : ℕ) → Some_ u → IsOf known.members.now u n → slice_get after n ≡ slice_get before n) → (row : MemberRow) (t n : ℕ) → Some_ t → IsNearest known.types.now (with_virts known.members.now before) known.explicit.now row t n → IsNearest known.types.now (with_virts known.members.now after) known.explicit.now row t n
  near_kept before after long longer same row t n some (in_it u k like) =
      let is = like_from known before long row u k like in
      in_it u k (like_to known after longer row u k (like_kept known before after row u k (same u k some (like_of known before row u k is)) is))
  near_kept before after long longer same row t n some (above u b k off base rest) =
      above u b k
      (λ i like. let is = like_from known after longer row u i like in off i (like_to known before long row u i (like_kept known after before row u i (sym (same u i some (like_of known after row u i is))) is)))
      base (near_kept before after long longer same row b k (closed u b some base) rest)

  over_kept : (before after : List Virt) → length before ≡ length known.members.now → length after ≡ length known.members.now → ((u n : ℕ) → Some_ u → IsOf known.members.now u n → slice_get after n ≡ slice_get before n) → (row : MemberRow) → ((b : ℕ) → IsBase known.types.now row.owner.0 b → Some_ b) → Overrides known.types.now (with_virts known.members.now before) known.explicit.now row → Overrides known.types.now (with_virts known.members.now after) known.explicit.now row
  over_kept before after long longer same row bases over = record {
    b = over.b;
    base = over.base;
    n = over.n;
    nearest = near_kept before after long longer same row over.b over.n (bases over.b over.base) over.nearest;
  }

  pub by_kept : (before after : List Virt) → length before ≡ length known.members.now → length after ≡ length known.members.now → ((u n : ℕ) → Some_ u → IsOf known.members.now u n → slice_get after n ≡ slice_get before n) → (row : MemberRow) → ((b : ℕ) → IsBase known.types.now row.owner.0 b → Some_ b) → (overrides : Bool) → ByRows known before row overrides → ByRows known after row overrides
  by_kept before after long longer same row bases true over = over_kept before after long longer same row bases over
  by_kept before after long longer same row bases false none = λ over.
      none (over_kept after before longer long (λ u n some of_. sym (same u n some of_)) row bases over)

pub virt_by : (known : Known) (Over Other : MemberRow → Bool → Type 0) (m : ℕ) (row : MemberRow) (virt : Virt) → ((overrides : Bool) → Over row overrides → Other row overrides) → IsVirtBy known Over m row virt → IsVirtBy known Other m row virt
virt_by known Over Other m row virt to (of_reference lt) = of_reference lt
virt_by known Over Other m row virt to (of_own flags overrides own at over) = of_own flags overrides own at (to overrides over)

is_true : (b : Bool) (Fact : Type 0) → Tells b Fact → Fact → b ≡ true
is_true true Fact told fact = refl
is_true false Fact told fact = absurd (told fact)

holds : (b : Bool) (Fact : Type 0) → Tells b Fact → b ≡ true → Fact
holds true Fact told e = told
holds false Fact told e = let k : false ≡ true = e in absurd cc

-- the innermost of the members that stand open is the one that is overridden
module _ (known : Known) (are : IsKnown known) (p : Progress) (long : length p.told.virts.items ≡ length known.members.now) (row : MemberRow) where
  abbrev members : List MemberRow
  members = known.members.now

  abbrev virts : List Virt
  virts = p.told.virts.items

  abbrev picks : List Bool
  picks = p.told.picks.items

  abbrev ToldOn : List ℕ → Type 0
  ToldOn path = (u m : ℕ) → Has path u → IsOf members u m → IsTold known (ByRows known virts) virts picks m

  like_picked : (t n : ℕ) → IsTold known (ByRows known virts) virts picks n → IsLikeBy known virts row t n → IsPicked members picks t n × IsAlikeTo known.types.now members row n
  like_picked t n told is =
      let word = told.word in
      let e : is.old ≡ told.is.row = one_item members n is.old told.is.row is.stands told.is.stands in
      let f : is.virt ≡ word.virt = some_is is.virt word.virt (sym is.put ∙ told.put) in
      let virtual : IsVirtual known n told.is.row word.virt = subst (λ (v : Virt). IsVirtual known n told.is.row v) f (subst (λ (r : MemberRow). IsVirtual known n r is.virt) e is.virtual) in (
        (record { row = is.old; stands = is.stands; is = is.owned }, told.flagged ∙ ap Some (is_true word.pick _ told.is.tells virtual)),
        record { row = is.old; stands = is.stands; is = is.alike },
      )

  picked_like : (t n : ℕ) → IsTold known (ByRows known virts) virts picks n → IsPicked members picks t n → IsAlikeTo known.types.now members row n → IsLikeBy known virts row t n
  picked_like t n told picked alike =
      let word = told.word in
      let virtual = holds word.pick _ told.is.tells (some_is word.pick true (sym told.flagged ∙ picked.1)) in
      let e : picked.0.row ≡ told.is.row = one_item members n picked.0.row told.is.row picked.0.stands told.is.stands in
      let f : alike.row ≡ told.is.row = one_item members n alike.row told.is.row alike.stands told.is.stands in
      record {
        old = told.is.row;
        stands = told.is.stands;
        virt = word.virt;
        put = told.put;
        owned = ap (λ (r : MemberRow). r.owner) (sym e) ∙ picked.0.is;
        virtual = virtual;
        alike = subst (λ (r : MemberRow). AreAlike known.types.now r row) f alike.is;
      }

  near_found : (b n : ℕ) (path trail : List ℕ) → ToldOn (b ∷ path) → IsPath known.types.now (b ∷ path) → IsTrail members picks (b ∷ path) trail → FirstIn (IsAlikeTo known.types.now members row) trail n → IsNearest known.types.now (with_virts members virts) known.explicit.now row b n
  near_found b n [] trail told chain is first =
      elim (first_cases members picks (IsAlikeTo known.types.now members row) is.0 is.1 n (subst (λ (l : List ℕ). FirstIn (IsAlikeTo known.types.now members row) l n) is.2 first)) [
        | inl mine ↦ let picked = (is.3 n).0 mine.0 in in_it b n (like_to known virts long row b n (picked_like b n (told b n (inl refl) picked.0) picked mine.1))
        | inr up ↦ absurd (subst (λ (l : List ℕ). FirstIn (IsAlikeTo known.types.now members row) l n) is.4 up.1)
      ]
  near_found b n (c ∷ path) trail told chain is first =
      elim (first_cases members picks (IsAlikeTo known.types.now members row) is.0 is.1 n (subst (λ (l : List ℕ). FirstIn (IsAlikeTo known.types.now members row) l n) is.2 first)) [
        | inl mine ↦ let picked = (is.3 n).0 mine.0 in in_it b n (like_to known virts long row b n (picked_like b n (told b n (inl refl) picked.0) picked mine.1))
        | inr up ↦ above b c n
            (λ k like.
            let by_ = like_from known virts long row b k like in
            let both = like_picked b k (told b k (inl refl) (like_of known virts row b k by_)) by_ in
            up.0 k ((is.3 k).1 both.0) both.1)
            chain.0 (near_found c n path is.1 (λ u m on of_. told u m (inr on) of_) chain.1 is.4 up.1)
      ]

  -- the owner of what is nearest is in the base chain
  nearest_in : (t n : ℕ) → IsNearest known.types.now (with_virts members virts) known.explicit.now row t n → (u : ℕ) × InBaseChain known.types.now t u × IsVirtualLike known.types.now (with_virts members virts) known.explicit.now row u n
  nearest_in t n (in_it u k like) = (u, here u, like)
  nearest_in t n (above u b k off base rest) = let at = nearest_in b k rest in (at.0, further u b at.0 base at.1, at.2)

  -- below a path, a member of this owner overrides by the open members what it overrides by the rows
  pub by_rows : (path : List ℕ) → IsAt known path p → IsBelow known.types.now path row.owner.0 → ToldOn path → (overrides : Bool) → ByOpen known p.stacks.trail row overrides → ByRows known virts row overrides
  by_rows [] at below told true first = absurd (subst (λ (l : List ℕ). FirstIn (IsAlikeTo known.types.now members row) l first.0) at.trail first.1)
  by_rows (b ∷ path) at below told true first = record {
    b = b;
    base = below;
    n = first.0;
    nearest = near_found b first.0 path p.stacks.trail told at.chain at.trail first.1;
  }
  by_rows path at below told false none = λ over.
      let near = nearest_in over.b over.n over.nearest in
      let by_ = like_from known virts long row near.0 over.n near.2 in
      let of_ = like_of known virts row near.0 over.n by_ in
      elim (above_path known.types.now row.owner.0 over.b near.0 path at.chain below over.base near.1) [
        | inl on ↦ let both = like_picked near.0 over.n (told near.0 over.n on of_) by_ in none over.n (trail_has members picks path p.stacks.trail near.0 over.n at.trail on both.0) both.1
        | inr past ↦ let lt = owner_there known.types.now members are.owners near.0 over.n of_ in absurd (omega (arith, lt, past))
      ]
