-- The members of a name, and steps along what is left.
use Rattle.std.proofs.Common.{◌≡◌, ◌↔◌, ℕ, ◌<◌, Bool, true, false, Option, Some, None, List, [], ◌∷◌, ◌++◌, length, sym, refl, ap, ◌∙◌}
use Rattle.std.proofs.lemmas.Bool.{and_from, and_parts, eqb-true, eq-eqb}
use Rattle.std.proofs.lemmas.List.Kept.{IsStrictlyIncreasing-filter}
use Rattle.std.proofs.lemmas.Slice.Eq.{bytes_eq-Decides}
use Rattle.std.proofs.lemmas.Option.{slice_get_within, get_or_from_slice_get}
use Rattle.std.specs.Bool.{Decides, ◌==◌}
use Rattle.std.specs.Str.{bytes_eq}
use Rattle.std.specs.List.{slice_get, Contains, filter, range_with_len}
use Rattle.std.specs.List.Sorted.{IsStrictlyIncreasing}
use Rattle.dc_base.specs.declared.names.TypeId.{TypeId}
use Rattle.class_rows.specs.declared.row.MemberRow.{MemberRow}
use Rattle.class_rows.specs.Members.{known_as}
use Rattle.class_index.specs.Index.{IsKnownSo}
use Rattle.class_index.specs.Order.{key_at, key_of}
use Rattle.class_lookup.specs.Stand.{may_stand, is_known_so, known_in}
use Rattle.class_lookup.specs.Left.{all_found}
use Rattle.class_lookup.proofs.Increasing.{one_rising, range_rises, range_has, filter_to, filter_back}

same_bytes : (xs ys : List ℕ) (b : Bool) → Decides b (xs ≡ ys) → b ≡ true → xs ≡ ys
same_bytes xs ys b d h = d.0 h

are_bytes : (xs ys : List ℕ) (b : Bool) → Decides b (xs ≡ ys) → xs ≡ ys → b ≡ true
are_bytes xs ys b d h = d.1 h

-- the first of a list
pub no_first : (xs : List ℕ) → None ≡ slice_get xs 0 → xs ≡ []
no_first [] h = refl
no_first (x ∷ xs) h = let k : None ≡ Some x = h in cc

first_in : (xs : List ℕ) (m : ℕ) → Some m ≡ slice_get xs 0 → Contains xs m
first_in xs m h = (0, slice_get_within xs 0 m (sym h), get_or_from_slice_get xs 0 m m (sym h))

module _ (members : List MemberRow) (name : List ℕ) where
  known_row : (t m : ℕ) (at : Option MemberRow) → slice_get members m ≡ at → is_known_so t name at ≡ true → IsKnownSo members t name m
  known_row t m None e h = let k : false ≡ true = h in cc
  known_row t m (Some row) e h =
      let both = and_parts (row.owner.0 == t) (bytes_eq (known_as row) name) h in
      let owner : row.owner.0 ≡ t = eqb-true row.owner.0 t both.0 in
      record {
        row = row;
        stands = e;
        is = (ap (λ (o : ℕ). record { 0 = o }) owner, same_bytes (known_as row) name (bytes_eq (known_as row) name) (bytes_eq-Decides (known_as row) name) both.1);
      }

  row_known : (t m : ℕ) → IsKnownSo members t name m → is_known_so t name (slice_get members m) ≡ true
  row_known t m known =
      let owner : known.row.owner.0 ≡ t = ap (λ (o : TypeId). o.0) known.is.0 in
      ap (λ (at : Option MemberRow). is_known_so t name at) known.stands
      ∙ and_from (known.row.owner.0 == t) (bytes_eq (known_as known.row) name) (eq-eqb known.row.owner.0 t owner)
      (are_bytes (known_as known.row) name (bytes_eq (known_as known.row) name) (bytes_eq-Decides (known_as known.row) name) known.is.1)

  pub known_to : (t m : ℕ) → Contains (known_in members name t) m → IsKnownSo members t name m
  known_to t m h =
      known_row t m (slice_get members m) refl (filter_to (λ k. is_known_so t name (slice_get members k)) (range_with_len 0 (length members)) m h).1

  pub known_back : (t m : ℕ) → IsKnownSo members t name m → Contains (known_in members name t) m
  known_back t m known =
      filter_back (λ k. is_known_so t name (slice_get members k)) (range_with_len 0 (length members)) m
      (range_has (length members) m (slice_get_within members m known.row known.stands)) (row_known t m known)

  pub known_rises : (t : ℕ) → IsStrictlyIncreasing (known_in members name t)
  known_rises t = IsStrictlyIncreasing-filter (λ k. is_known_so t name (slice_get members k)) (range_with_len 0 (length members)) (range_rises (length members))

  -- the members that a search gives are these
  pub those_are : (t : ℕ) (those : List ℕ) → IsStrictlyIncreasing those → ((m : ℕ) → Contains those m ↔ IsKnownSo members t name m) → those ≡ known_in members name t
  those_are t those rises exact = one_rising those (known_in members name t) rises (known_rises t)
      (λ m h. known_back t m ((exact m).0 h))
      (λ m h. (exact m).1 (known_to t m h))

  -- the first of them is there, and goes by the name
  pub first_known : (t m : ℕ) (those : List ℕ) → ((k : ℕ) → Contains those k ↔ IsKnownSo members t name k) → Some m ≡ slice_get those 0 → IsKnownSo members t name m
  first_known t m those exact h = (exact m).0 (first_in those m h)

  pub known_within : (t m : ℕ) → IsKnownSo members t name m → m < length members
  known_within t m known = slice_get_within members m known.row known.stands

  pub name_known : (t m : ℕ) → IsKnownSo members t name m → (key_of members m).1 ≡ name
  name_known t m known = ap (λ (at : Option MemberRow). (key_at at).1) known.stands ∙ known.is.1

  module _ (nameless : List Bool) where
    abbrev pub passed : List ℕ → List ℕ
    passed those = filter (may_stand members nameless) those

    -- one is found
    pub one_found : (before those others ts : List ℕ) (m : ℕ) → before ≡ passed those ++ all_found members nameless name ts → passed those ≡ m ∷ passed others → before ≡ m ∷ (passed others ++ all_found members nameless name ts)
    one_found before those others ts m e split = e ∙ ap (λ (xs : List ℕ). xs ++ all_found members nameless name ts) split

    -- none is left in a type, and the next is begun
    pub next_type : (before those others ts behind : List ℕ) (t : ℕ) → before ≡ passed those ++ all_found members nameless name ts → passed those ≡ [] → ts ≡ t ∷ behind → others ≡ known_in members name t → before ≡ passed others ++ all_found members nameless name behind
    next_type before those others ts behind t e none_ split are =
        e
        ∙ ap (λ (xs : List ℕ). xs ++ all_found members nameless name ts) none_
        ∙ ap (λ (us : List ℕ). all_found members nameless name us) split
        ∙ ap (λ (xs : List ℕ). passed xs ++ all_found members nameless name behind) (sym are)

    pub none_left : (before those ts : List ℕ) → before ≡ passed those ++ all_found members nameless name ts → passed those ≡ [] → ts ≡ [] → before ≡ []
    none_left before those ts e none_ top =
        e
        ∙ ap (λ (xs : List ℕ). xs ++ all_found members nameless name ts) none_
        ∙ ap (λ (us : List ℕ). all_found members nameless name us) top

    -- a look-up begins at the first type that has any
    pub begun_in : (own whole those ts behind : List ℕ) (t : ℕ) → own ≡ name → whole ≡ all_found members nameless name ts → ts ≡ t ∷ behind → those ≡ known_in members name t → passed those ++ all_found members nameless own behind ≡ whole
    begun_in own whole those ts behind t same e split are =
        ap (λ (known_by : List ℕ). passed those ++ all_found members nameless known_by behind) same
        ∙ ap (λ (xs : List ℕ). passed xs ++ all_found members nameless name behind) are
        ∙ ap (λ (us : List ℕ). all_found members nameless name us) (sym split)
        ∙ sym e

    pub skipped : (whole those ts behind : List ℕ) (t : ℕ) → whole ≡ all_found members nameless name ts → ts ≡ t ∷ behind → those ≡ known_in members name t → those ≡ [] → whole ≡ all_found members nameless name behind
    skipped whole those ts behind t e split are none_ =
        e
        ∙ ap (λ (us : List ℕ). all_found members nameless name us) split
        ∙ ap (λ (xs : List ℕ). passed xs ++ all_found members nameless name behind) (sym are ∙ none_)
