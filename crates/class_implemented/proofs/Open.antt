-- The members of an interface, some interfaces, and the interfaces that a type names, one by one.
use Rattle.std.proofs.Common.{◌≡◌, ◌⊎◌, ℕ, ◌+◌, ◌<◌, ◌≤◌, Option, Some, None, List, length, inl, inr, sym, refl, ap, subst, ◌∙◌, arith}
use Rattle.std.specs.Prelude.{◌↔◌}
use Rattle.std.specs.List.{slice_get, Contains}
use Rattle.std.proofs.lemmas.Option.{slice_get_within, slice_get-get_or, get_or_from_slice_get}
use Rattle.class_keys.specs.Least.{IsLeastOf, lesser_of}
use Rattle.class_rows.specs.Types.{IsNamed, NamesInterface}
use Rattle.class_rows.specs.Members.{IsOf}
use Rattle.class_spread.specs.declared.spread.Spread.{Spread}
use Rattle.class_implemented.specs.declared.known.Known.{Known}
use Rattle.class_implemented.specs.Known.{IsKnown}
use Rattle.class_implemented.specs.Open.{IsOpen, IsOpenIn, IsOpenAmong, IsOpenFrom, IsPassed}
use Rattle.class_implemented.proofs.Least.{IsSoFar, IsFrom, so_far_begins, so_far_more, so_far_ends, from_next, from_end}
use Rattle.class_implemented.proofs.Interfaces.{has_index, index_has, own_named, named_next, link_named, is_told}

-- it is this member
abbrev pub IsItself : Known → ℕ → ℕ → ℕ → Type 0
IsItself known c x m = (m ≡ x) × IsOpen known c m

pub itself_least : (known : Known) (c x : ℕ) → IsOpen known c x → IsLeastOf (IsItself known c x) (Some x)
itself_least known c x open_ = record { holds = (refl, open_); least = λ m lt q. let e : m ≡ x = q.0 in absurd (omega (arith, lt, e)) }

pub itself_none : (known : Known) (c x : ℕ) → (IsOpen known c x → ⊥) → IsLeastOf (IsItself known c x) None
itself_none known c x off = λ m q. off (subst (λ (n : ℕ). IsOpen known c n) q.0 q.1)

-- the members of an interface from an index on are still to come
abbrev pub IsWithin : Known → ℕ → ℕ → List ℕ → ℕ → Option ℕ → Type 0
IsWithin known c i own k least = IsSoFar (IsOpenIn known c i) (IsFrom (IsItself known c) own k) least

module _ (known : Known) (c i : ℕ) (own : List ℕ) (exact : (m : ℕ) → Contains own m ↔ IsOf known.members.now i m) where
  pub within_begins : IsWithin known c i own 0 None
  within_begins = so_far_begins (IsOpenIn known c i) (IsFrom (IsItself known c) own 0) (λ m w.
      let at = (exact m).1 w.0 in (at.0, omega arith, m, slice_get-get_or own at.0 m at.1 ∙ ap Some at.2, (refl, w.1)))

  pub within_more : (k x : ℕ) (least o : Option ℕ) → slice_get own k ≡ Some x → IsWithin known c i own k least → IsLeastOf (IsItself known c x) o → IsWithin known c i own (k + 1) (lesser_of least o)
  within_more k x least o at so first =
      so_far_more (IsOpenIn known c i) (IsItself known c x) (IsFrom (IsItself known c) own k) (IsFrom (IsItself known c) own (k + 1)) least o so first
      (λ m q. ((exact m).0 (k, slice_get_within own k x at, get_or_from_slice_get own k x m at ∙ sym q.0), q.1))
      (λ m r. from_next (IsItself known c) own k x m at r)

  pub within_ends : (k : ℕ) (least : Option ℕ) → length own ≤ k → IsWithin known c i own k least → IsLeastOf (IsOpenIn known c i) least
  within_ends k least all so = so_far_ends (IsOpenIn known c i) (IsFrom (IsItself known c) own k) least so (λ m r. from_end (IsItself known c) own k m all r)

-- the interfaces from an index on are still to come
abbrev pub IsAmong : Known → ℕ → List ℕ → ℕ → Option ℕ → Type 0
IsAmong known c interfaces k least = IsSoFar (IsOpenAmong known c interfaces) (IsFrom (IsOpenIn known c) interfaces k) least

pub among_begins : (known : Known) (c : ℕ) (interfaces : List ℕ) → IsAmong known c interfaces 0 None
among_begins known c interfaces = so_far_begins (IsOpenAmong known c interfaces) (IsFrom (IsOpenIn known c) interfaces 0) (λ m w. (w.0, omega arith, w.1, w.2, w.3))

pub among_more : (known : Known) (c : ℕ) (interfaces : List ℕ) (k x : ℕ) (least o : Option ℕ) → slice_get interfaces k ≡ Some x → IsAmong known c interfaces k least → IsLeastOf (IsOpenIn known c x) o → IsAmong known c interfaces (k + 1) (lesser_of least o)
among_more known c interfaces k x least o at so first =
    so_far_more (IsOpenAmong known c interfaces) (IsOpenIn known c x) (IsFrom (IsOpenIn known c) interfaces k) (IsFrom (IsOpenIn known c) interfaces (k + 1)) least o so first
    (λ m q. (k, x, at, q))
    (λ m r. from_next (IsOpenIn known c) interfaces k x m at r)

pub among_ends : (known : Known) (c : ℕ) (interfaces : List ℕ) (k : ℕ) (least : Option ℕ) → length interfaces ≤ k → IsAmong known c interfaces k least → IsLeastOf (IsOpenAmong known c interfaces) least
among_ends known c interfaces k least all so = so_far_ends (IsOpenAmong known c interfaces) (IsFrom (IsOpenIn known c) interfaces k) least so (λ m r. from_end (IsOpenIn known c) interfaces k m all r)

-- the interfaces that this type names are still to come
pub record IsOnLinks (known : Known) (c d at : ℕ) (least : Option ℕ) : Type 0 where
  pub within : at < length known.types.now
  pub to_ : (i : ℕ) → NamesInterface known.types.now at i → NamesInterface known.types.now d i
  pub so_far : IsSoFar (IsOpenFrom known c d) (IsOpenFrom known c at) least

pub links_begin : (known : Known) (c d : ℕ) → d < length known.types.now → IsOnLinks known c d d None
links_begin known c d lt = record { within = lt; to_ = λ i n. n; so_far = so_far_begins (IsOpenFrom known c d) (IsOpenFrom known c d) (λ m w. w) }

pub named_within : (known : Known) → IsKnown known → (t i : ℕ) → IsNamed known.types.now t i → i < length known.types.now
named_within known is t i named = let fit = (is.bases t).interfaces i named in slice_get_within known.types.now i fit.row fit.stands

-- what is open from here is open in an interface of the type's own, or from the type that it goes on with
links_split : (known : Known) (c at m : ℕ) (s : Spread) → IsKnown known → at < length known.types.now → slice_get known.spreads.now at ≡ Some (Some s) → IsOpenFrom known c at m → IsOpenAmong known c s.own m ⊎ ((b : ℕ) × (s.onward ≡ Some b) × IsOpenFrom known c b m)
links_split known c at m s is lt stands w = elim (named_next known.types.now known.spreads.now at w.0 s is.spreads (named_within known is) lt stands w.1) [
  | inl own ↦ let k = has_index s.own w.0 own in inl (k.0, w.0, k.1, w.2)
  | inr on ↦ inr (on.0, on.1, (w.0, on.2, w.2))
]

own_open : (known : Known) (c d at m : ℕ) (s : Spread) (least : Option ℕ) → IsKnown known → IsOnLinks known c d at least → slice_get known.spreads.now at ≡ Some (Some s) → IsOpenAmong known c s.own m → IsOpenFrom known c d m
own_open known c d at m s least is on stands q =
    (q.1, on.to_ q.1 (own_named known.types.now known.spreads.now at q.1 s is.spreads on.within stands (index_has s.own q.1 q.0 q.2)), q.3)

some_number : (a b : ℕ) → Some a ≡ Some b → a ≡ b
some_number a b h = cc

pub links_on : (known : Known) (c d at b : ℕ) (s : Spread) (least o : Option ℕ) → IsKnown known → IsOnLinks known c d at least → slice_get known.spreads.now at ≡ Some (Some s) → s.onward ≡ Some b → IsLeastOf (IsOpenAmong known c s.own) o → IsOnLinks known c d b (lesser_of least o)
links_on known c d at b s least o is on stands link first = record {
  within = named_within known is at b (is.spreads.links at b s stands link);
  to_ = λ i n. on.to_ i (link_named known.types.now known.spreads.now at b i s is.spreads stands link n);
  so_far = so_far_more (IsOpenFrom known c d) (IsOpenAmong known c s.own) (IsOpenFrom known c at) (IsOpenFrom known c b) least o on.so_far first
      (λ m q. own_open known c d at m s least is on stands q)
      (λ m r. elim (links_split known c at m s is on.within stands r) [
        | inl own ↦ inl own
        | inr up ↦ inr (subst (λ (n : ℕ). IsOpenFrom known c n m) (some_number up.0 b (sym up.1 ∙ link)) up.2)
      ]);
}

pub links_end : (known : Known) (c d at : ℕ) (s : Spread) (least o : Option ℕ) → IsKnown known → IsOnLinks known c d at least → slice_get known.spreads.now at ≡ Some (Some s) → s.onward ≡ None → IsLeastOf (IsOpenAmong known c s.own) o → IsLeastOf (IsOpenFrom known c d) (lesser_of least o)
links_end known c d at s least o is on stands top first =
    so_far_ends (IsOpenFrom known c d) (λ m. ⊥) (lesser_of least o)
    (so_far_more (IsOpenFrom known c d) (IsOpenAmong known c s.own) (IsOpenFrom known c at) (λ m. ⊥) least o on.so_far first
    (λ m q. own_open known c d at m s least is on stands q)
    (λ m r. elim (links_split known c at m s is on.within stands r) [
      | inl own ↦ inl own
      | inr up ↦ let both : None ≡ Some up.0 = sym top ∙ up.1 in absurd cc
    ]))
    (λ m r. r)

-- nothing is open from a type that was gone through
pub links_passed : (known : Known) (c d at : ℕ) (least : Option ℕ) → IsOnLinks known c d at least → IsPassed known c at → IsLeastOf (IsOpenFrom known c d) least
links_passed known c d at least on passed = so_far_ends (IsOpenFrom known c d) (IsOpenFrom known c at) least on.so_far (λ m r. passed m (inr r))

pub links_off : (known : Known) (c d at : ℕ) (least : Option ℕ) → IsKnown known → IsOnLinks known c d at least → ((s : Spread) → slice_get known.spreads.now at ≡ Some (Some s) → ⊥) → ⊥
links_off known c d at least is on none =
    let told = is_told known.types.now known.spreads.now at is.spreads on.within in none told.0 told.1
