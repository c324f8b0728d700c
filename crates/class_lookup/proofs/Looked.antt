-- What is found in types in turn is what a look-up gives.
use Rattle.std.proofs.Common.{◌≡◌, ℕ, Bool, true, false, not, Option, Some, None, List, [], ◌∷◌, inl, inr, sym, refl, ap, ◌∙◌}
use Rattle.std.proofs.lemmas.Bool.{and_from, and_parts, false_from_ne_true}
use Rattle.std.proofs.lemmas.List.Kept.{IsStrictlyIncreasing-filter}
use Rattle.std.specs.List.{slice_get, Contains}
use Rattle.std.specs.Prelude.{unwrap_or}
use Rattle.dc_base.specs.declared.names.MemberId.{MemberId}
use Rattle.class_rows.specs.declared.row.TypeRow.{TypeRow}
use Rattle.class_rows.specs.declared.row.MemberRow.{MemberRow}
use Rattle.class_rows.specs.declared.row.Kind.{Kind}
use Rattle.class_rows.specs.declared.row.Kind.TheVariants.{Class, Interface}
use Rattle.class_rows.specs.declared.row.Virt.{Virt}
use Rattle.class_rows.specs.declared.row.Virt.TheVariants.{Plain, Virtual, Abstract, Override, SealedOverride}
use Rattle.class_rows.specs.Members.{IsNameless}
use Rattle.class_rows.specs.Bases.{BasesAreThere}
use Rattle.class_rows.specs.Lookups.{TakesOver, IsFound, AreFound, none, more}
use Rattle.class_alike.specs.Named.{AreMarks}
use Rattle.class_search.specs.Fit.{BasesAreClasses, NamedAreInterfaces}
use Rattle.class_lookup.specs.Stand.{is_override, is_no_override, may_stand, known_in}
use Rattle.class_lookup.specs.Left.{found_in, all_found}
use Rattle.class_lookup.proofs.Increasing.{filter_to, filter_back}
use Rattle.class_lookup.proofs.Those.{known_to, known_back, known_rises}

pub bases_fit : (types : List TypeRow) (members : List MemberRow) → BasesAreThere types members → BasesAreClasses types
bases_fit types members fit t b base =
    let is = (fit t).base b base in
    record { row = is.row; stands = is.stands; is = λ e. apart is.row.kind is.is.0 e }
  where
    apart : (k : Kind) → k ≡ Class → k ≡ Interface → ⊥
    apart k e f = let g : Class ≡ Interface = sym e ∙ f in cc

pub named_fit : (types : List TypeRow) (members : List MemberRow) → BasesAreThere types members → NamedAreInterfaces types
named_fit types members fit t i named = (fit t).interfaces i named

override_takes : (v : Virt) → TakesOver v → is_override v ≡ true
override_takes v (inl e) = ap is_override e
override_takes v (inr e) = ap is_override e

not_taking : (v : Virt) → (TakesOver v → ⊥) → is_override v ≡ false
not_taking Plain off = refl
not_taking Virtual off = refl
not_taking Abstract off = refl
not_taking Override off = absurd (off (inl refl))
not_taking SealedOverride off = absurd (off (inr refl))

not_cases : (b : Bool) → not b ≡ true → b ≡ true → ⊥
not_cases true h k = let e : false ≡ true = h in cc
not_cases false h k = let e : false ≡ true = k in cc

is_marked : (o : Option Bool) → unwrap_or o false ≡ true → o ≡ Some true
is_marked None h = let e : false ≡ true = h in cc
is_marked (Some true) h = refl
is_marked (Some false) h = let e : false ≡ true = h in cc

module _ (types : List TypeRow) (members : List MemberRow) (explicit : List (MemberId × MemberId)) (nameless : List Bool) (marks : AreMarks types members explicit nameless) where
  unmarked : (m : ℕ) → not (unwrap_or (slice_get nameless m) false) ≡ true → IsNameless types members explicit m → ⊥
  unmarked m h n = not_cases (unwrap_or (slice_get nameless m) false) h (ap (λ (o : Option Bool). unwrap_or o false) (marks.no_ m n))

  not_marked : (m : ℕ) → (IsNameless types members explicit m → ⊥) → not (unwrap_or (slice_get nameless m) false) ≡ true
  not_marked m off = ap not (false_from_ne_true (unwrap_or (slice_get nameless m) false) (λ h. off (marks.yes_ m (is_marked (slice_get nameless m) h))))

  module _ (name : List ℕ) where
    found_to : (t m : ℕ) → Contains (found_in members nameless name t) m → IsFound types members explicit name t m
    found_to t m h =
        let both = filter_to (may_stand members nameless) (known_in members name t) m h in
        let known = known_to members name t m both.0 in
        let stands = and_parts (is_no_override (slice_get members m)) (not (unwrap_or (slice_get nameless m) false)) both.1 in
        let plain : not (is_override known.row.virt) ≡ true = sym (ap is_no_override known.stands) ∙ stands.0 in (
          record {
            row = known.row;
            stands = known.stands;
            is = (known.is.0, known.is.1, λ over. not_cases (is_override known.row.virt) plain (override_takes known.row.virt over));
          },
          unmarked m stands.1,
        )

    found_back : (t m : ℕ) → IsFound types members explicit name t m → Contains (found_in members nameless name t) m
    found_back t m found =
        let row = found.0 in
        let known = known_back members name t m (record { row = row.row; stands = row.stands; is = (row.is.0, row.is.1) }) in
        let plain : is_no_override (slice_get members m) ≡ true = ap is_no_override row.stands ∙ ap not (not_taking row.row.virt row.is.2) in
        filter_back (may_stand members nameless) (known_in members name t) m known
        (and_from (is_no_override (slice_get members m)) (not (unwrap_or (slice_get nameless m) false)) plain (not_marked m found.1))

    pub are_found : (ts : List ℕ) → AreFound types members explicit name ts (all_found members nameless name ts)
    are_found [] = none
    are_found (t ∷ ts) = more t ts (found_in members nameless name t) (all_found members nameless name ts)
        (IsStrictlyIncreasing-filter (may_stand members nameless) (known_in members name t) (known_rises members name t))
        (λ m. (found_to t m, found_back t m))
        (are_found ts)
