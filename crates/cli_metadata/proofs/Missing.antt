-- A root or a stream header that doesn't stand.
use Rattle.std.proofs.Common.{◌≡◌, inl, inr, ℕ, zero, suc, ◌+◌, ◌<◌, ◌≤◌, List, [], ◌∷◌, length, take, drop, Bool, true, false, cond, ltb, Option, None, Some, Result, Ok, Err, refl, sym, ap, subst, ◌∙◌, arith}
use Rattle.std.specs.Prelude.{position, ◌==◌}
use Rattle.byteorder.specs.Endian.{little_number}
use Rattle.cli_metadata.specs.declared.fault.MetaFault.{MetaFault}
use Rattle.cli_metadata.specs.declared.fault.MetaCause.TheVariants.{BadRoot}
use Rattle.cli_metadata.specs.Standing.{Header, padded}
use Rattle.cli_metadata.specs.Root.{root_of, name_of, name_at, header_at, headers_at}
use Rattle.cli_metadata.specs.Standing.{IsName, AreHeaders}
use Rattle.cli_metadata.specs.Wrong.{Field, field, root_fields, header_numbers, IsNoRoot, IsNoHeader}
use Rattle.cli_metadata.proofs.Steps.{number-is, number-there}
use Rattle.cli_metadata.proofs.Heads.{name-stands, name-read, header-stands, header-read}
use Rattle.cli_metadata.proofs.Fields.{fault, bind_err, FirstOf, first-of, first-wrong, Goes, goes, number-fails, behind-fails, value-fails, number-meets, behind-meets, value-meets}

-- ---- the root

-- its fields from some place on
abbrev last_field : ℕ → List Field
last_field size = field (16 + size + 2) 2 ∷ []

abbrev from_flags : ℕ → List Field
from_flags size = field (16 + size) 2 ∷ last_field size

abbrev from_text : ℕ → List Field
from_text size = field 16 size ∷ from_flags size

abbrev from_length : ℕ → List Field
from_length size = field 12 4 ∷ from_text size

abbrev from_reserved : ℕ → List Field
from_reserved size = field 8 4 ∷ from_length size

abbrev from_minor : ℕ → List Field
from_minor size = field 6 2 ∷ from_reserved size

abbrev from_major : ℕ → List Field
from_major size = field 4 2 ∷ from_minor size

pub root-fails : (bytes : List ℕ) (f : MetaFault) → root_of bytes ≡ Err f → (f.cause ≡ BadRoot) × IsNoRoot bytes f.place
unfolding root_of
root-fails bytes f e =
    let size = little_number 4 (drop 12 bytes) in
    let w : Goes bytes BadRoot (root_fields (little_number 4 (drop 12 bytes))) f ⊥ =
    value-fails BadRoot 4 0x424A5342 bytes 0 _ f (from_major size) ⊥ e (λ a g.
    number-fails BadRoot 2 bytes 4 _ f (from_minor size) ⊥ g (λ b h.
    number-fails BadRoot 2 bytes 6 _ f (from_reserved size) ⊥ h (λ c i.
    number-fails BadRoot 4 bytes 8 _ f (from_length size) ⊥ i (λ d j.
    number-fails BadRoot 4 bytes 12 _ f (from_text size) ⊥ j (λ x k.
    behind-fails BadRoot (little_number 4 (drop 12 bytes)) bytes 16 _ f (from_flags size) ⊥ k (λ y l.
    number-fails BadRoot 2 bytes (16 + little_number 4 (drop 12 bytes)) _ f (last_field size) ⊥ l (λ z m.
    number-fails BadRoot 2 bytes (16 + little_number 4 (drop 12 bytes) + 2) _ f [] ⊥ m (λ u n. absurd cc)))))))) in
    elim (goes bytes BadRoot (root_fields (little_number 4 (drop 12 bytes))) f ⊥ w) [
      | inl a ↦ (a.0, record { size = size; length_of_version = λ le. number-there 4 bytes 12 (omega arith); first = first-wrong bytes (root_fields (little_number 4 (drop 12 bytes))) f.place a.1 })
      | inr b ↦ absurd b.1
    ]

pub root-meets : (bytes : List ℕ) (place : ℕ) → IsNoRoot bytes place → root_of bytes ≡ Err (fault BadRoot place)
unfolding root_of
root-meets bytes place w =
    let size = w.size in
    let told = w.length_of_version in
    let first = first-of bytes (root_fields w.size) place w.first in
    value-meets BadRoot 4 0x424A5342 bytes 0 _ (from_major w.size) place first (λ a g.
    number-meets BadRoot 2 bytes 4 _ (from_minor w.size) place g (λ b h.
    number-meets BadRoot 2 bytes 6 _ (from_reserved w.size) place h (λ c i.
    number-meets BadRoot 4 bytes 8 _ (from_length w.size) place i (λ d j.
    number-meets BadRoot 4 bytes 12 _ (from_text w.size) place j (λ x k.
    let is = told (omega arith) in
    let same : w.size ≡ little_number 4 (drop 12 bytes) = is.same in
    let real : FirstOf bytes (from_text (little_number 4 (drop 12 bytes))) place = subst (λ (n : ℕ). FirstOf bytes (from_text n) place) same k in
    behind-meets BadRoot (little_number 4 (drop 12 bytes)) bytes 16 _ (from_flags (little_number 4 (drop 12 bytes))) place real (λ y l.
    number-meets BadRoot 2 bytes (16 + little_number 4 (drop 12 bytes)) _ (last_field (little_number 4 (drop 12 bytes))) place l (λ z m.
    number-meets BadRoot 2 bytes (16 + little_number 4 (drop 12 bytes) + 2) _ [] place m (λ u n. absurd n))))))))

-- ---- names

name-fault : (bytes : List ℕ) (at : ℕ) (o : Option ℕ) (f : MetaFault) → name_of bytes at o ≡ Err f → fault BadRoot at ≡ f
name-fault bytes at None f e = cc
name-fault bytes at (Some n) f e = elim (ltb (length bytes) (at + padded n)) as (λ (b : Bool). cond b (Err (fault BadRoot at)) (Ok (take n (drop at bytes))) ≡ Err f → fault BadRoot at ≡ f) [
  | true ↦ λ g. cc
  | false ↦ λ g. absurd cc
] e

name-fails : (bytes : List ℕ) (at : ℕ) (f : MetaFault) → name_at bytes at ≡ Err f → (fault BadRoot at ≡ f) × ((name : List ℕ) → ¬ (IsName bytes at name))
name-fails bytes at f e = (name-fault bytes at (position (λ b. b == 0) (take 33 (drop at bytes))) f e, λ name w. let read = name-read bytes at name w in absurd (let both : (let o : Result (List ℕ) MetaFault = Ok name in o) ≡ Err f = sym read ∙ e in cc))

name-none : (bytes : List ℕ) (at : ℕ) (r : Result (List ℕ) MetaFault) → name_at bytes at ≡ r → ((name : List ℕ) → ¬ (IsName bytes at name)) → name_at bytes at ≡ Err (fault BadRoot at)
name-none bytes at (Ok name) e none = absurd (none name (name-stands bytes at name e))
name-none bytes at (Err f) e none = e ∙ ap (λ (g : MetaFault). Err g) (sym (name-fault bytes at (position (λ b. b == 0) (take 33 (drop at bytes))) f e))

-- ---- headers

pub header-fails : (bytes : List ℕ) (at : ℕ) (f : MetaFault) → header_at bytes at ≡ Err f → (f.cause ≡ BadRoot) × IsNoHeader bytes at f.place
unfolding header_at
header-fails bytes at f e =
    let w : Goes bytes BadRoot (header_numbers at) f ((at + 4 + 4 ≤ length bytes) × (name_at bytes (at + 8) ≡ Err f)) =
    number-fails BadRoot 4 bytes at _ f (field (at + 4) 4 ∷ []) ((at + 4 + 4 ≤ length bytes) × (name_at bytes (at + 8) ≡ Err f)) e (λ a g.
    number-fails BadRoot 4 bytes (at + 4) _ f [] ((at + 4 + 4 ≤ length bytes) × (name_at bytes (at + 8) ≡ Err f)) g (λ b h.
    (b, elim (bind_err (name_at bytes (at + 8)) _ f h) [ inl x ↦ x | inr x ↦ (let z = x.2 in absurd cc) ]))) in
    elim (goes bytes BadRoot (header_numbers at) f ((at + 4 + 4 ≤ length bytes) × (name_at bytes (at + 8) ≡ Err f)) w) [
      | inl a ↦ (a.0, inl (first-wrong bytes (header_numbers at) f.place a.1))
      | inr b ↦ (let n = name-fails bytes (at + 8) f b.1.1 in
          let whole = b.1.0 in
          (ap (λ (g : MetaFault). g.cause) (sym n.0), inr (omega arith, n.1, ap (λ (g : MetaFault). g.place) (sym n.0))))
    ]

pub header-meets : (bytes : List ℕ) (at place : ℕ) → IsNoHeader bytes at place → header_at bytes at ≡ Err (fault BadRoot place)
unfolding header_at
header-meets bytes at place w = elim w [
  | inl a ↦ number-meets BadRoot 4 bytes at _ (field (at + 4) 4 ∷ []) place (first-of bytes (header_numbers at) place a) (λ b g.
      number-meets BadRoot 4 bytes (at + 4) _ [] place g (λ c h. absurd h))
  | inr a ↦ (let le = a.0 in
      let from = number-is BadRoot 4 bytes at (little_number 4 (drop at bytes)) (number-there 4 bytes at (omega arith)) in
      let size = number-is BadRoot 4 bytes (at + 4) (little_number 4 (drop (at + 4) bytes)) (number-there 4 bytes (at + 4) (omega arith)) in
      let none = name-none bytes (at + 8) (name_at bytes (at + 8)) refl a.1 in
      let made : header_at bytes at ≡ Err (fault BadRoot (at + 8)) = rw (from, size, none) refl in
      made ∙ ap (λ (p : ℕ). Err (fault BadRoot p)) (sym a.2))
]

-- fewer headers stand than are counted
pub record Fewer (n : ℕ) (bytes : List ℕ) (at place : ℕ) : Type 0 where
  pub headers : List Header
  pub end : ℕ
  pub stand : AreHeaders bytes at headers end
  pub few : length headers < n
  pub missing : IsNoHeader bytes end place

pub headers-fail : (n : ℕ) (bytes : List ℕ) (at : ℕ) (f : MetaFault) → headers_at n bytes at ≡ Err f → (f.cause ≡ BadRoot) × Fewer n bytes at f.place
unfolding headers_at
headers-fail zero bytes at f e = absurd cc
headers-fail (suc n) bytes at f e = elim (bind_err (header_at bytes at) _ f e) [
  | inl a ↦ (let w = header-fails bytes at f a in
      (w.0, record { headers = []; end = at; stand = refl; few = omega arith; missing = w.1 }))
  | inr a ↦ elim (bind_err (headers_at n bytes a.0.next) _ f a.2) [
    | inl b ↦ (let r = headers-fail n bytes a.0.next f b in
        let h = header-stands bytes at a.0 a.1 in
        let few = r.1.few in
        (r.0, record { headers = a.0 ∷ r.1.headers; end = r.1.end; stand = (h.0, h.1, r.1.stand); few = omega arith; missing = r.1.missing }))
    | inr b ↦ (let z = b.2 in absurd cc)
  ]
]

pub headers-meet : (headers : List Header) (n : ℕ) (bytes : List ℕ) (at end place : ℕ) → AreHeaders bytes at headers end → length headers < n → IsNoHeader bytes end place → headers_at n bytes at ≡ Err (fault BadRoot place)
unfolding headers_at
headers-meet headers zero bytes at end place w lt no_more = absurd (omega arith)
headers-meet [] (suc n) bytes at end place w lt no_more =
    let none : header_at bytes at ≡ Err (fault BadRoot place) = header-meets bytes at place (subst (λ (p : ℕ). IsNoHeader bytes p place) w no_more) in
    rw none refl
headers-meet (h ∷ headers) (suc n) bytes at end place w lt no_more =
    let a : header_at bytes at ≡ Ok h = ap (header_at bytes) (sym w.0) ∙ header-read bytes h w.1 in
    let b = headers-meet headers n bytes h.next end place w.2 (omega arith) no_more in
    rw (a, b) refl
