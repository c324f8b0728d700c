-- Inner facts: references to members, by the types that they name.
use Rattle.std.specs.Prelude.{◌≡◌, ℕ, ◌<◌, List, Option, Some, None, length, slice_get}
use Rattle.cli_refs.specs.declared.key.Sought.{Sought}

-- the reference at this index names the type t
abbrev pub Asks : List Sought → ℕ → ℕ → Type 0
Asks sought t q = (s : Sought) × (slice_get sought q ≡ Some s) × (s.parent.0 ≡ t)

-- this is the last reference that names a type before an index, and from it on lead those before it
pub data IsLastOf (sought : List Sought) (before : List (Option ℕ)) (t : ℕ) : ℕ → Option ℕ → Type 0 where
  no_more : (k : ℕ) → ((p : ℕ) → p < k → Asks sought t p → ⊥) → IsLastOf sought before t k None
  one_more : (k p : ℕ) (o : Option ℕ) → p < k → Asks sought t p → ((q : ℕ) → p < q → q < k → Asks sought t q → ⊥) → slice_get before p ≡ Some o → IsLastOf sought before t p o → IsLastOf sought before t k (Some p)

-- the first so many references, by so many types
pub record AreAsked (sought : List Sought) (count k : ℕ) (last before : List (Option ℕ)) : Type 0 where
  pub wide : length last ≡ count
  pub long : length before ≡ k
  pub lasts : (t : ℕ) (o : Option ℕ) → slice_get last t ≡ Some o → IsLastOf sought before t k o
