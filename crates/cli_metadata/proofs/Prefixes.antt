-- Fields of the stream of tables that aren't right, and tables that none has.
use Rattle.std.proofs.Common.{◌≡◌, ◌≢◌, ◌⊎◌, inl, inr, ◌&&◌, ◌||◌, ℕ, zero, suc, ◌+◌, ◌/◌, ◌%◌, ◌≤◌, List, [], ◌∷◌, ◌++◌, length, drop, get_or, Bool, true, false, Result, Err, refl, sym, ap, ◌∙◌, arith}
use Rattle.std.specs.Prelude.{All, nat_lt, ◌==◌}
use Rattle.byteorder.specs.Endian.{little_number}
use Rattle.std.proofs.lemmas.Bool.Decides.{eqb_tells}
use Rattle.cli_metadata.specs.declared.fault.MetaFault.{MetaFault}
use Rattle.cli_metadata.specs.declared.fault.MetaCause.{MetaCause}
use Rattle.cli_metadata.specs.declared.fault.MetaCause.TheVariants.{BadHeader, UnknownTable}
use Rattle.cli_metadata.specs.declared.tables.Column.{Column}
use Rattle.cli_metadata.specs.Reading.{◌>>=◌, number_at, holds}
use Rattle.cli_metadata.specs.Standing.{is_table}
use Rattle.cli_metadata.specs.Layout.{are_tables, versioned_at, prefix_at}
use Rattle.cli_metadata.specs.Standing.{bit}
use Rattle.cli_metadata.specs.Wrong.{Field, field, field_of, field_below, IsRight, header_fields, IsHeaderWrong, IsTableUnknown}
use Rattle.cli_metadata.proofs.Named.{all-none, all-more}
use Rattle.cli_metadata.proofs.Steps.{number-is, number-there}
use Rattle.cli_metadata.proofs.Bits.{parity, bit-first, bit-half, known-stands}
use Rattle.cli_metadata.proofs.Rows.{Fields, version-stands, version-read}
use Rattle.cli_metadata.proofs.Fields.{fault, bind_err, le_or, guard_fails, bound-err, bound-ok, FirstOf, first-of, first-wrong, first-longer, Goes, goes, number-fails, value-fails, below-fails, holds-fails, number-meets, value-meets, below-meets, number-cut}

-- ---- a last field with one value

holds-err : (c : MetaCause) (b : Bool) (at : ℕ) (f : MetaFault) → holds b c at ≡ Err f → (b ≡ false) × (fault c at ≡ f)
holds-err c true at f e = absurd cc
holds-err c false at f e = (refl, cc)

last-fails : (c : MetaCause) (n v : ℕ) (bytes : List ℕ) (at : ℕ) (f : MetaFault) → (number_at c n bytes at >>= λ x. holds (x == v) c at) ≡ Err f → Goes bytes c (field_of at n v ∷ []) f ⊥
last-fails c n v bytes at f e = elim (guard_fails (length bytes) (at + n) (fault c at) (little_number n (drop at bytes)) (λ x. holds (x == v) c at) f e) [
  | inl a ↦ inl (λ w. let whole = w.whole in omega arith, a.1)
  | inr b ↦ (let h = holds-err c (little_number n (drop at bytes) == v) at f b.1 in
      inl (λ w. elim (eqb_tells (little_number n (drop at bytes)) v) [ inl same ↦ (let t = same.0 in let u = h.0 in absurd cc) | inr other ↦ other.1 (sym w.same) ], h.1))
]

last-meets : (c : MetaCause) (n v : ℕ) (bytes : List ℕ) (at place : ℕ) → FirstOf bytes (field_of at n v ∷ []) place → (number_at c n bytes at >>= λ x. holds (x == v) c at) ≡ Err (fault c place)
last-meets c n v bytes at place w =
    let on : ℕ → Result ℕ MetaFault = λ x. holds (x == v) c at in
    elim w [
      | inl bad ↦ elim (le_or (at + n) (length bytes)) [
        | inl le ↦ (let other : (little_number n (drop at bytes) == v) ≡ false = elim (eqb_tells (little_number n (drop at bytes)) v) [ inl same ↦ absurd (bad.0 (record { whole = le; same = sym same.1 })) | inr z ↦ z.0 ] in
            let not_so : holds (little_number n (drop at bytes) == v) c at ≡ Err (fault c at) = rw other refl in
            bound-ok (number_at c n bytes at) on (little_number n (drop at bytes)) (fault c place) (number-is c n bytes at (little_number n (drop at bytes)) (number-there n bytes at le)) (not_so ∙ ap (λ (p : ℕ). Err (fault c p)) bad.1))
        | inr lt ↦ bound-err (number_at c n bytes at) on (fault c place) (number-cut c n bytes at lt ∙ ap (λ (p : ℕ). Err (fault c p)) bad.1)
      ]
      | inr good ↦ absurd good.1
    ]

-- ---- the version

abbrev minor_field : ℕ → List Field
minor_field at = field_of (at + 5) 1 0 ∷ []

abbrev from_major : ℕ → List Field
from_major at = field_of (at + 4) 1 2 ∷ minor_field at

abbrev version_fields : ℕ → List Field
version_fields at = field at 4 ∷ from_major at

version-fails : (bytes : List ℕ) (at : ℕ) (f : MetaFault) → versioned_at bytes at ≡ Err f → Goes bytes BadHeader (version_fields at) f ⊥
unfolding versioned_at
version-fails bytes at f e =
    number-fails BadHeader 4 bytes at _ f (from_major at) ⊥ e (λ a g.
    value-fails BadHeader 1 2 bytes (at + 4) _ f (minor_field at) ⊥ g (λ b h.
    last-fails BadHeader 1 0 bytes (at + 5) f h))

version-meets : (bytes : List ℕ) (at place : ℕ) → FirstOf bytes (version_fields at) place → versioned_at bytes at ≡ Err (fault BadHeader place)
unfolding versioned_at
version-meets bytes at place w =
    number-meets BadHeader 4 bytes at _ (from_major at) place w (λ a g.
    value-meets BadHeader 1 2 bytes (at + 4) _ (minor_field at) place g (λ b h.
    last-meets BadHeader 1 0 bytes (at + 5) place h))

-- ---- the bits

some-bit : (fuel valid : ℕ) → valid ≤ fuel → valid ≢ 0 → (k : ℕ) × (bit valid k ≡ 1)
some-bit zero valid le ne = absurd (omega arith)
some-bit (suc fuel) valid le ne = elim (parity valid) [
  | inr odd ↦ (0, bit-first valid ∙ odd)
  | inl even ↦ (let half : valid / 2 ≢ 0 = omega arith in
      let r = some-bit fuel (valid / 2) (omega arith) half in
      (suc r.0, sym (bit-half valid r.0) ∙ r.1))
]

and-false : (a b : Bool) → (a && b) ≡ false → (a ≡ false) ⊎ (b ≡ false)
and-false true b e = inr e
and-false false b e = inl refl

or-false : (n : ℕ) (b : Bool) → (n == 0 || b) ≡ false → (n ≢ 0) × (b ≡ false)
or-false n b e = elim (eqb_tells n 0) [
  | inl z ↦ (let t : (n == 0) ≡ true = z.0 in let u : true ≡ false = rw t at e in absurd cc)
  | inr z ↦ (let t : (n == 0) ≡ false = z.0 in (z.1, rw t at e))
]

unknown-stands : (tables : List (List Column)) (valid : ℕ) → are_tables valid tables ≡ false → (k : ℕ) × (bit valid k ≡ 1) × (is_table (get_or tables k []) ≡ false)
unknown-stands [] valid e = elim (eqb_tells valid 0) [
  | inl z ↦ (let t = z.0 in absurd cc)
  | inr z ↦ (let r = some-bit valid valid (omega arith) z.1 in (r.0, r.1, refl))
]
unknown-stands (t ∷ tables) valid e = elim (and-false (valid % 2 == 0 || is_table t) (are_tables (valid / 2) tables) e) [
  | inl a ↦ (let r = or-false (valid % 2) (is_table t) a in
      let odd : valid % 2 ≡ 1 = elim (parity valid) [ inl z ↦ absurd (r.0 z) | inr z ↦ z ] in
      (0, bit-first valid ∙ odd, r.1))
  | inr a ↦ (let r = unknown-stands tables (valid / 2) a in
      (suc r.0, sym (bit-half valid r.0) ∙ r.1, r.2))
]

bool_or : (b : Bool) → (b ≡ true) ⊎ (b ≡ false)
bool_or true = inl refl
bool_or false = inr refl

unknown-meets : (tables : List (List Column)) (valid k : ℕ) → bit valid k ≡ 1 → is_table (get_or tables k []) ≡ false → are_tables valid tables ≡ false
unknown-meets tables valid k one none = elim (bool_or (are_tables valid tables)) [
  | inl t ↦ (let its = known-stands tables valid t k one in absurd cc)
  | inr t ↦ t
]

-- ---- the fields

abbrev sorted_field : ℕ → List Field
sorted_field at = field (at + 16) 8 ∷ []

abbrev from_valid : ℕ → List Field
from_valid at = field (at + 8) 8 ∷ sorted_field at

abbrev from_reserved : ℕ → List Field
from_reserved at = field (at + 7) 1 ∷ from_valid at

abbrev from_sizes : ℕ → List Field
from_sizes at = field_below (at + 6) 1 8 ∷ from_reserved at

first-split : (bytes : List ℕ) (xs ys : List Field) (place : ℕ) → FirstOf bytes (xs ++ ys) place → FirstOf bytes xs place ⊎ (All (IsRight bytes) xs × FirstOf bytes ys place)
first-split bytes [] ys place w = inr (all-none (IsRight bytes), w)
first-split bytes (x ∷ xs) ys place w = elim w [
  | inl bad ↦ inl (inl bad)
  | inr good ↦ elim (first-split bytes xs ys place good.1) [
    | inl a ↦ inl (inr (good.0, a))
    | inr a ↦ inr (all-more (IsRight bytes) x xs good.0 a.0, a.1)
  ]
]

pub prefix-fails : (tables : List (List Column)) (bytes : List ℕ) (at : ℕ) (f : MetaFault) → prefix_at tables bytes at ≡ Err f
    → ((f.cause ≡ BadHeader) × IsHeaderWrong bytes at f.place) ⊎ ((f.cause ≡ UnknownTable) × IsTableUnknown tables bytes at f.place)
unfolding prefix_at
prefix-fails tables bytes at f e =
    let V = little_number 8 (drop (at + 8) bytes) in
    elim (bind_err (versioned_at bytes at) _ f e) [
      | inl a ↦ elim (goes bytes BadHeader (version_fields at) f ⊥ (version-fails bytes at f a)) [
        | inl x ↦ inl (x.0, first-wrong bytes (header_fields at) f.place (first-longer bytes (version_fields at) (from_sizes at) f.place x.1))
        | inr x ↦ absurd x.1
      ]
      | inr a ↦ (let v = version-stands bytes at a.0 a.1 in
          let major = v.0.whole in
          let reserved : at + 4 ≤ length bytes = omega arith in
          let w : Goes bytes BadHeader (from_sizes at) f ((are_tables (little_number 8 (drop (at + 8) bytes)) tables ≡ false) × (fault UnknownTable (at + 8) ≡ f)) =
          below-fails BadHeader 1 8 bytes (at + 6) _ f (from_reserved at) ((are_tables (little_number 8 (drop (at + 8) bytes)) tables ≡ false) × (fault UnknownTable (at + 8) ≡ f)) a.2 (λ b g.
          number-fails BadHeader 1 bytes (at + 7) _ f (from_valid at) ((are_tables (little_number 8 (drop (at + 8) bytes)) tables ≡ false) × (fault UnknownTable (at + 8) ≡ f)) g (λ c h.
          number-fails BadHeader 8 bytes (at + 8) _ f (sorted_field at) ((are_tables (little_number 8 (drop (at + 8) bytes)) tables ≡ false) × (fault UnknownTable (at + 8) ≡ f)) h (λ d i.
          number-fails BadHeader 8 bytes (at + 16) _ f [] ((are_tables (little_number 8 (drop (at + 8) bytes)) tables ≡ false) × (fault UnknownTable (at + 8) ≡ f)) i (λ x j.
          elim (holds-fails UnknownTable (are_tables (little_number 8 (drop (at + 8) bytes)) tables) (at + 8) _ f j) [ inl z ↦ z | inr z ↦ (let u = z.1 in absurd cc) ])))) in
          elim (goes bytes BadHeader (from_sizes at) f ((are_tables (little_number 8 (drop (at + 8) bytes)) tables ≡ false) × (fault UnknownTable (at + 8) ≡ f)) w) [
            | inl x ↦ inl (x.0, first-wrong bytes (header_fields at) f.place (inr (reserved, inr (v.0, inr (v.1, x.1)))))
            | inr x ↦ (let q = x.1 in
                let u = unknown-stands tables (little_number 8 (drop (at + 8) bytes)) q.0 in
                let minor_on : All (IsRight bytes) (field_of (at + 5) 1 0 ∷ from_sizes at) = all-more (IsRight bytes) (field_of (at + 5) 1 0) (from_sizes at) v.1 x.0 in
                let major_on : All (IsRight bytes) (field_of (at + 4) 1 2 ∷ field_of (at + 5) 1 0 ∷ from_sizes at) = all-more (IsRight bytes) (field_of (at + 4) 1 2) (field_of (at + 5) 1 0 ∷ from_sizes at) v.0 minor_on in
                let whole : at + 8 + 8 ≤ length bytes = x.0 2 (field at 0) (omega arith) in
                inr (
                  ap (λ (g : MetaFault). g.cause) (sym q.1),
                  record {
                    valid = little_number 8 (drop (at + 8) bytes);
                    table = u.0;
                    fields = all-more (IsRight bytes) (field at 4) (field_of (at + 4) 1 2 ∷ field_of (at + 5) 1 0 ∷ from_sizes at) reserved major_on;
                    bits = number-there 8 bytes (at + 8) whole;
                    set = u.1;
                    unknown = u.2;
                    its = ap (λ (g : MetaFault). g.place) (sym q.1);
                  },
                ))
          ])
    ]

pub header-wrong-meets : (tables : List (List Column)) (bytes : List ℕ) (at place : ℕ) → IsHeaderWrong bytes at place → prefix_at tables bytes at ≡ Err (fault BadHeader place)
unfolding prefix_at
header-wrong-meets tables bytes at place w = elim (first-split bytes (version_fields at) (from_sizes at) place (first-of bytes (header_fields at) place w)) [
  | inl a ↦ (let none = version-meets bytes at place a in rw none refl)
  | inr a ↦ (let v = version-read bytes at (a.0 1 (field at 0) (omega arith)) (a.0 2 (field at 0) (omega arith)) in
      bound-ok (versioned_at bytes at) _ (at + 5) (fault BadHeader place) v (
      below-meets BadHeader 1 8 bytes (at + 6) _ (from_reserved at) place a.1 (λ b g.
      number-meets BadHeader 1 bytes (at + 7) _ (from_valid at) place g (λ c h.
      number-meets BadHeader 8 bytes (at + 8) _ (sorted_field at) place h (λ d i.
      number-meets BadHeader 8 bytes (at + 16) _ [] place i (λ x j. absurd j))))))
]

pub unknown-table-meets : (tables : List (List Column)) (bytes : List ℕ) (at place : ℕ) → IsTableUnknown tables bytes at place → prefix_at tables bytes at ≡ Err (fault UnknownTable place)
unfolding prefix_at
unknown-table-meets tables bytes at place w =
    let v = version-read bytes at (w.fields 1 (field at 0) (omega arith)) (w.fields 2 (field at 0) (omega arith)) in
    let end : at + 16 + 8 ≤ length bytes = w.fields 6 (field at 0) (omega arith) in
    let sizes = w.fields 3 (field at 0) (omega arith) in
    let low = sizes.2 in
    let few : nat_lt sizes.0 8 ≡ true = grind arith in
    let a = number-is BadHeader 1 bytes (at + 6) sizes.0 sizes.1 in
    let b = number-is BadHeader 1 bytes (at + 7) (little_number 1 (drop (at + 7) bytes)) (number-there 1 bytes (at + 7) (omega arith)) in
    let c = number-is BadHeader 8 bytes (at + 8) w.valid w.bits in
    let d = number-is BadHeader 8 bytes (at + 16) (little_number 8 (drop (at + 16) bytes)) (number-there 8 bytes (at + 16) (omega arith)) in
    let unknown = unknown-meets tables w.valid w.table w.set w.unknown in
    let made : prefix_at tables bytes at ≡ Err (fault UnknownTable (at + 8)) = rw (v, a, few, b, c, d, unknown) refl in
    made ∙ ap (λ (p : ℕ). Err (fault UnknownTable p)) (sym w.its)

-- the fields of a stream of tables that goes on are right
pub fields-right : (tables : List (List Column)) (bytes : List ℕ) (at sizes valid : ℕ) → Fields tables bytes at sizes valid → All (IsRight bytes) (header_fields at)
fields-right tables bytes at sizes valid w =
    let end = w.prefix in
    let R = IsRight bytes in
    let a : All (IsRight bytes) (sorted_field at) = all-more (IsRight bytes) (field (at + 16) 8) [] (omega arith) (all-none (IsRight bytes)) in
    let b : All (IsRight bytes) (from_valid at) = all-more (IsRight bytes) (field (at + 8) 8) (sorted_field at) (omega arith) a in
    let c : All (IsRight bytes) (from_reserved at) = all-more (IsRight bytes) (field (at + 7) 1) (from_valid at) (omega arith) b in
    let d : All (IsRight bytes) (from_sizes at) = all-more (IsRight bytes) (field_below (at + 6) 1 8) (from_reserved at) (sizes, w.heap_sizes, w.known_sizes) c in
    let e : All (IsRight bytes) (field_of (at + 5) 1 0 ∷ from_sizes at) = all-more (IsRight bytes) (field_of (at + 5) 1 0) (from_sizes at) w.minor d in
    let f : All (IsRight bytes) (field_of (at + 4) 1 2 ∷ field_of (at + 5) 1 0 ∷ from_sizes at) = all-more (IsRight bytes) (field_of (at + 4) 1 2) (field_of (at + 5) 1 0 ∷ from_sizes at) w.major e in
    all-more (IsRight bytes) (field at 4) (field_of (at + 4) 1 2 ∷ field_of (at + 5) 1 0 ∷ from_sizes at) (omega arith) f
