-- The first stream of a name.
use Rattle.std.proofs.Common.{◌≡◌, ◌≢◌, ◌⊎◌, inl, inr, ℕ, zero, suc, List, [], ◌∷◌, ◌++◌, Bool, true, false, Option, None, Some, refl, sym, ap, subst, ◌∙◌, arith}
use Rattle.std.specs.Prelude.{All}
use Rattle.std.specs.Bool.{Decides}
use Rattle.std.specs.Str.{bytes_eq}
use Rattle.std.proofs.lemmas.Slice.Eq.{bytes_eq-Decides}
use Rattle.cli_metadata.specs.declared.root.Stream.{Stream}
use Rattle.cli_metadata.specs.Standing.{Header}
use Rattle.cli_metadata.specs.Root.{named}
use Rattle.cli_metadata.specs.Standing.{IsFirst, IsFirstNamed}

-- ---- of each element

pub all-none : {X : Type 0} (P : X → Type 0) → All P []
all-none P k d lt = absurd (omega arith)

pub all-more : {X : Type 0} (P : X → Type 0) (x : X) (xs : List X) → P x → All P xs → All P (x ∷ xs)
all-more P x xs p all zero d lt = p
all-more P x xs p all (suc k) d lt = all k d (omega arith)

pub all-behind : {X : Type 0} (P : X → Type 0) (x : X) (xs : List X) → All P (x ∷ xs) → All P xs
all-behind P x xs all k d lt = all (suc k) d (omega arith)

pub all-first : {X : Type 0} (P : X → Type 0) (x : X) (xs : List X) → All P (x ∷ xs) → P x
all-first P x xs all = all 0 x (omega arith)

-- ---- the first of a name

tells : (P : Type 0) (r : Bool) → Decides r P → ((r ≡ true) × P) ⊎ ((r ≡ false) × (P → ⊥))
tells P true d = inl (refl, d.0 refl)
tells P false d = inr (refl, λ p. let t = d.1 p in absurd cc)

eq-tells : (a b : List ℕ) → ((bytes_eq a b ≡ true) × (a ≡ b)) ⊎ ((bytes_eq a b ≡ false) × (a ≢ b))
eq-tells a b = tells (a ≡ b) (bytes_eq a b) (bytes_eq-Decides a b)

eq-yes : (a b : List ℕ) → a ≡ b → bytes_eq a b ≡ true
eq-yes a b same = elim (eq-tells a b) [ inl w ↦ w.0 | inr w ↦ absurd (w.1 same) ]

eq-no : (a b : List ℕ) → a ≢ b → bytes_eq a b ≡ false
eq-no a b other = elim (eq-tells a b) [ inl w ↦ absurd (other w.1) | inr w ↦ w.0 ]

named-behind : (name : List ℕ) (h : Header) (headers : List Header) (s : Option Stream) → h.name ≢ name → IsFirstNamed name headers s → IsFirstNamed name (h ∷ headers) s
named-behind name h headers None ne w = all-more (λ (x : Header). x.name ≢ name) h headers ne w
named-behind name h headers (Some s) ne w = record {
  before = h ∷ w.before;
  header = w.header;
  behind = w.behind;
  among = ap (λ (hs : List Header). h ∷ hs) w.among;
  new = all-more (λ (x : Header). x.name ≢ name) h w.before ne w.new;
  named = w.named;
  its = w.its;
}

pub is-first : (name : List ℕ) (headers : List Header) → IsFirstNamed name headers (named name headers)
is-first name [] = all-none (λ (x : Header). x.name ≢ name)
is-first name (h ∷ headers) = elim (eq-tells h.name name) [
  | inl w ↦ (let yes : bytes_eq h.name name ≡ true = w.0 in
      let found : named name (h ∷ headers) ≡ Some h.stream = rw yes refl in
      let first : IsFirst name (h ∷ headers) h.stream = record { before = []; header = h; behind = headers; among = refl; new = all-none (λ (x : Header). x.name ≢ name); named = w.1; its = refl } in
      subst (λ (s : Option Stream). IsFirstNamed name (h ∷ headers) s) (sym found) first)
  | inr w ↦ (let no : bytes_eq h.name name ≡ false = w.0 in
      let passed : named name (h ∷ headers) ≡ named name headers = rw no refl in
      subst (λ (s : Option Stream). IsFirstNamed name (h ∷ headers) s) (sym passed) (named-behind name h headers (named name headers) w.1 (is-first name headers)))
]

named-none : (name : List ℕ) (headers : List Header) → All (λ h. h.name ≢ name) headers → named name headers ≡ None
named-none name [] all = refl
named-none name (h ∷ headers) all =
    let no : bytes_eq h.name name ≡ false = eq-no h.name name (all-first (λ (x : Header). x.name ≢ name) h headers all) in
    rw no (named-none name headers (all-behind (λ (x : Header). x.name ≢ name) h headers all))

named-some : (name : List ℕ) (before : List Header) (header : Header) (behind : List Header) → All (λ h. h.name ≢ name) before → header.name ≡ name → named name (before ++ header ∷ behind) ≡ Some header.stream
named-some name [] header behind all same =
    let yes : bytes_eq header.name name ≡ true = eq-yes header.name name same in
    rw yes refl
named-some name (h ∷ before) header behind all same =
    let no : bytes_eq h.name name ≡ false = eq-no h.name name (all-first (λ (x : Header). x.name ≢ name) h before all) in
    rw no (named-some name before header behind (all-behind (λ (x : Header). x.name ≢ name) h before all) same)

pub named-is : (name : List ℕ) (headers : List Header) (s : Option Stream) → IsFirstNamed name headers s → named name headers ≡ s
named-is name headers None w = named-none name headers w
named-is name headers (Some s) w =
    ap (named name) w.among ∙ named-some name w.before w.header w.behind w.new w.named ∙ ap (λ (x : Stream). Some x) w.its
