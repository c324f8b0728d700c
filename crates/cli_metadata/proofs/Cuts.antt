-- Row counts and tables that are cut off.
use Rattle.std.proofs.Common.{◌≡◌, ◌⊎◌, inl, inr, ℕ, zero, suc, ◌+◌, ◌-◌, ◌*◌, ◌/◌, ◌%◌, ◌<◌, ◌≤◌, List, [], ◌∷◌, ◌++◌, length, drop, get_or, Result, Ok, Err, refl, sym, ap, subst, ◌∙◌, arith, drop-cons, add-one, length-drop}
use Rattle.std.specs.Prelude.{All, map, slice_index}
use Rattle.std.proofs.lemmas.List.{drop_all, length-map}
use Rattle.byteorder.specs.Endian.{little_number}
use Rattle.cli_metadata.specs.declared.fault.MetaFault.{MetaFault}
use Rattle.cli_metadata.specs.declared.fault.MetaCause.TheVariants.{BadHeader, UnknownTable, Truncated}
use Rattle.cli_metadata.specs.declared.tables.Column.{Column}
use Rattle.cli_metadata.specs.declared.widths.Width.{Width}
use Rattle.cli_metadata.specs.declared.layout.Placed.{Placed}
use Rattle.cli_metadata.specs.Reading.{◌>>=◌, behind, number_at}
use Rattle.cli_metadata.specs.Widths.{width_of, row_width}
use Rattle.cli_metadata.specs.Layout.{prefix_at, count_at, counts_at, table_at, tables_at, tables_of}
use Rattle.cli_metadata.specs.Standing.{AreConsecutive}
use Rattle.cli_metadata.specs.Standing.{IsNumber, IsRowCount, bit, tables_below, rows_by_number}
use Rattle.cli_metadata.specs.Wrong.{field, IsHeaderWrong, IsTableUnknown, IsCountCut, IsTableCut, IsCut}
use Rattle.cli_metadata.proofs.Places.{ok_is, bind_ok}
use Rattle.cli_metadata.proofs.Named.{all-none, all-more, all-behind, all-first}
use Rattle.cli_metadata.proofs.Steps.{number-there}
use Rattle.cli_metadata.proofs.Bits.{parity, bit-first, bit-half, below-none, below-half, known-stands, known-read}
use Rattle.cli_metadata.proofs.Counts.{Counts, count-stands, count-read, counts-stand, counts-read}
use Rattle.cli_metadata.proofs.Rows.{Fields, fields-stand, fields-read, widths_by_number, placed, table-stands, table-read}
use Rattle.cli_metadata.proofs.Fields.{fault, bind_err, guard_fails, number-cut, behind-cut}
use Rattle.cli_metadata.proofs.Prefixes.{prefix-fails, header-wrong-meets, unknown-table-meets, fields-right}

-- ---- row counts

-- a row count passes the end, and those before it don't
pub record CountCut (n valid : ℕ) (bytes : List ℕ) (at place : ℕ) : Type 0 where
  pub table : ℕ
  pub within : table < n
  pub there : bit valid table ≡ 1
  pub its : place ≡ at + 4 * tables_below valid table
  pub before : place ≤ length bytes
  pub cut : length bytes < place + 4

count-fails : (valid : ℕ) (bytes : List ℕ) (at : ℕ) (f : MetaFault) → count_at valid bytes at ≡ Err f → (valid % 2 ≡ 1) × (length bytes < at + 4) × (fault Truncated at ≡ f)
count-fails valid bytes at f e = elim (parity valid) [
  | inl even ↦ (let none : (let o : Result (ℕ × ℕ) MetaFault = Ok (0, at) in o) ≡ Err f = rw even at e in absurd cc)
  | inr odd ↦ (let on : ℕ → Result (ℕ × ℕ) MetaFault = λ n. Ok (n, at + 4) in
      let one : (number_at Truncated 4 bytes at >>= on) ≡ Err f = rw odd at e in
      elim (guard_fails (length bytes) (at + 4) (fault Truncated at) (little_number 4 (drop at bytes)) on f one) [
        | inl a ↦ (odd, a.0, a.1)
        | inr a ↦ (let z = a.1 in absurd cc)
      ])
]

count-whole : (valid : ℕ) (bytes : List ℕ) (at : ℕ) (x : ℕ × ℕ) → at ≤ length bytes → Counts bytes valid at x → x.1 ≤ length bytes
count-whole valid bytes at x le c =
    let end = c.end in
    elim (parity valid) [
      | inl even ↦ omega arith
      | inr odd ↦ (let w = c.there odd in let whole = w.whole in omega arith)
    ]

counts-whole : (n valid : ℕ) (bytes : List ℕ) (at : ℕ) (x : List ℕ × ℕ) → at ≤ length bytes → counts_at n valid bytes at ≡ Ok x → x.1 ≤ length bytes
unfolding counts_at
counts-whole zero valid bytes at x le e = subst (λ (y : List ℕ × ℕ). y.1 ≤ length bytes) (ok_is ([], at) x e) le
counts-whole (suc n) valid bytes at x le e =
    let a = bind_ok (count_at valid bytes at) _ x e in
    let b = bind_ok (counts_at n (valid / 2) bytes a.0.1) _ x a.2 in
    let r = counts-whole n (valid / 2) bytes a.0.1 b.0 (count-whole valid bytes at a.0 le (count-stands valid bytes at a.0 a.1)) b.1 in
    subst (λ (y : List ℕ × ℕ). y.1 ≤ length bytes) (ok_is (a.0.0 ∷ b.0.0, b.0.1) x b.2) r

counts-fail : (n valid : ℕ) (bytes : List ℕ) (at : ℕ) (f : MetaFault) → at ≤ length bytes → counts_at n valid bytes at ≡ Err f → (f.cause ≡ Truncated) × CountCut n valid bytes at f.place
unfolding counts_at
counts-fail zero valid bytes at f le e = absurd cc
counts-fail (suc n) valid bytes at f le e = elim (bind_err (count_at valid bytes at) _ f e) [
  | inl a ↦ (let w = count-fails valid bytes at f a in
      let none = below-none valid in
      let short = w.1 in
      let here : at ≡ f.place = ap (λ (g : MetaFault). g.place) w.2 in
      (ap (λ (g : MetaFault). g.cause) (sym w.2), record { table = 0; within = omega arith; there = bit-first valid ∙ w.0; its = omega arith; before = omega arith; cut = omega arith }))
  | inr a ↦ elim (bind_err (counts_at n (valid / 2) bytes a.0.1) _ f a.2) [
    | inl b ↦ (let c = count-stands valid bytes at a.0 a.1 in
        let r = counts-fail n (valid / 2) bytes a.0.1 f (count-whole valid bytes at a.0 le c) b in
        let half = below-half valid r.1.table in
        let end = c.end in
        let its = r.1.its in
        let within = r.1.within in
        (r.0, record { table = suc r.1.table; within = omega arith; there = sym (bit-half valid r.1.table) ∙ r.1.there; its = omega arith; before = r.1.before; cut = r.1.cut }))
    | inr b ↦ (let z = b.2 in absurd cc)
  ]
]

count-there : (valid : ℕ) (bytes : List ℕ) (at : ℕ) → at + 4 * (valid % 2) ≤ length bytes → (rows : ℕ) × (count_at valid bytes at ≡ Ok (rows, at + 4 * (valid % 2)))
count-there valid bytes at le = elim (parity valid) [
  | inl even ↦ (0, count-read valid bytes at 0 (record { there = λ odd. absurd (omega arith); missing = λ z. refl; end = refl }))
  | inr odd ↦ (little_number 4 (drop at bytes), count-read valid bytes at (little_number 4 (drop at bytes)) (record { there = λ z. number-there 4 bytes at (omega arith); missing = λ even. absurd (omega arith); end = refl }))
]

counts-meet : (n valid : ℕ) (bytes : List ℕ) (at k place : ℕ) → k < n → bit valid k ≡ 1 → place ≡ at + 4 * tables_below valid k → place ≤ length bytes → length bytes < place + 4 → counts_at n valid bytes at ≡ Err (fault Truncated place)
unfolding counts_at
counts-meet zero valid bytes at k place lt one its before cut = absurd (omega arith)
counts-meet (suc n) valid bytes at zero place lt one its before cut =
    let odd : valid % 2 ≡ 1 = sym (bit-first valid) ∙ one in
    let none = below-none valid in
    let here : place ≡ at = omega arith in
    let short = number-cut Truncated 4 bytes at (omega arith) in
    let made : counts_at (suc n) valid bytes at ≡ Err (fault Truncated at) = rw (odd, short) refl in
    made ∙ ap (λ (p : ℕ). Err (fault Truncated p)) (sym here)
counts-meet (suc n) valid bytes at (suc k) place lt one its before cut =
    let half = below-half valid k in
    let first = count-there valid bytes at (omega arith) in
    let rest = counts-meet n (valid / 2) bytes (at + 4 * (valid % 2)) k place (omega arith) (bit-half valid k ∙ one) (omega arith) before cut in
    let e = first.1 in
    rw (e, rest) refl

-- ---- tables

abbrev end_of : Placed → ℕ
end_of p = p.start + p.rows * row_width p.widths

-- the first of these tables that passes the end begins at a place
abbrev FirstCut : ℕ → List Placed → ℕ → Type 0
FirstCut len [] place = ⊥
FirstCut len (p ∷ placed) place = ((len < end_of p) × (p.start ≡ place)) ⊎ ((end_of p ≤ len) × FirstCut len placed place)

-- the first that does among these
record IsFirstCut (len : ℕ) (placed : List Placed) (place : ℕ) : Type 0 where
  before : List Placed
  cut : Placed
  behind : List Placed
  among : placed ≡ before ++ cut ∷ behind
  whole : All (λ p. p.start + p.rows * row_width p.widths ≤ len) before
  passes : len < cut.start + cut.rows * row_width cut.widths
  its : cut.start ≡ place

is-first-cut : (len : ℕ) (placed : List Placed) (place : ℕ) → FirstCut len placed place → IsFirstCut len placed place
is-first-cut len [] place w = absurd w
is-first-cut len (p ∷ placed) place w = elim w [
  | inl a ↦ record { before = []; cut = p; behind = placed; among = refl; whole = all-none (λ (q : Placed). q.start + q.rows * row_width q.widths ≤ len); passes = a.0; its = a.1 }
  | inr a ↦ (let r = is-first-cut len placed place a.1 in
      record {
        before = p ∷ r.before;
        cut = r.cut;
        behind = r.behind;
        among = ap (λ (ps : List Placed). p ∷ ps) r.among;
        whole = all-more (λ (q : Placed). q.start + q.rows * row_width q.widths ≤ len) p r.before a.0 r.whole;
        passes = r.passes;
        its = r.its;
      })
]

cut-at : (len : ℕ) (before : List Placed) (cut : Placed) (behind : List Placed) (place : ℕ) → All (λ p. p.start + p.rows * row_width p.widths ≤ len) before → len < end_of cut → cut.start ≡ place → FirstCut len (before ++ cut ∷ behind) place
cut-at len [] cut behind place whole passes its = inl (passes, its)
cut-at len (p ∷ before) cut behind place whole passes its =
    inr (all-first (λ (q : Placed). q.start + q.rows * row_width q.widths ≤ len) p before whole, cut-at len before cut behind place (all-behind (λ (q : Placed). q.start + q.rows * row_width q.widths ≤ len) p before whole) passes its)

table-fails : (widths : List Width) (rows : ℕ) (bytes : List ℕ) (at : ℕ) (f : MetaFault) → table_at widths rows bytes at ≡ Err f → (length bytes < at + rows * row_width widths) × (fault Truncated at ≡ f)
unfolding table_at
table-fails widths rows bytes at f e = elim (guard_fails (length bytes) (at + rows * row_width widths) (fault Truncated at) (at + rows * row_width widths) (λ end. Ok (placed widths rows at, end)) f e) [
  | inl a ↦ a
  | inr a ↦ (let z = a.1 in absurd cc)
]

table-meets : (widths : List Width) (rows : ℕ) (bytes : List ℕ) (at : ℕ) → length bytes < at + rows * row_width widths → table_at widths rows bytes at ≡ Err (fault Truncated at)
unfolding table_at
table-meets widths rows bytes at lt = let short = behind-cut Truncated (rows * row_width widths) bytes at lt in rw short refl

module _ (sizes : ℕ) (counts : List ℕ) (bytes : List ℕ) where
  -- tables laid one behind the other, wherever the bytes end
  record Laid (tables : List (List Column)) (k at : ℕ) (placed : List Placed) : Type 0 where
    rows : rows_by_number placed ≡ drop k counts
    widths : widths_by_number placed ≡ map (map (width_of sizes counts)) tables
    consecutive : AreConsecutive at placed

  laid-more : (columns : List Column) (tables : List (List Column)) (k at : ℕ) (x : List Placed) → k < length counts
      → Laid tables (k + 1) (at + slice_index counts k * row_width (map (width_of sizes counts) columns)) x → Laid (columns ∷ tables) k at (placed (map (width_of sizes counts) columns) (slice_index counts k) at ∷ x)
  laid-more columns tables k at x lt w =
      let next : drop k counts ≡ get_or counts k 0 ∷ drop (k + 1) counts = rw add-one (drop-cons counts k 0 lt) in
      record {
        rows = ap (λ (ns : List ℕ). slice_index counts k ∷ ns) w.rows ∙ sym next;
        widths = ap (λ (ws : List (List Width)). map (width_of sizes counts) columns ∷ ws) w.widths;
        consecutive = (refl, w.consecutive);
      }

  lay : (tables : List (List Column)) (k at : ℕ) → k + length tables ≡ length counts → (x : List Placed) × Laid tables k at x
  lay [] k at long = let none : drop k counts ≡ [] = drop_all k counts (omega arith) in ([], record { rows = sym none; widths = refl; consecutive = tt })
  lay (columns ∷ tables) k at long =
      let r = lay tables (k + 1) (at + slice_index counts k * row_width (map (width_of sizes counts) columns)) (omega arith) in
      (placed (map (width_of sizes counts) columns) (slice_index counts k) at ∷ r.0, laid-more columns tables k at r.0 (omega arith) r.1)

  tables-fail : (tables : List (List Column)) (k at : ℕ) (f : MetaFault) → k + length tables ≡ length counts → tables_at sizes counts tables k bytes at ≡ Err f
      → (f.cause ≡ Truncated) × ((x : List Placed) × Laid tables k at x × FirstCut (length bytes) x f.place)
  unfolding tables_at
  tables-fail [] k at f long e = absurd cc
  tables-fail (columns ∷ tables) k at f long e =
      let widths = map (width_of sizes counts) columns in
      let rows = slice_index counts k in
      elim (bind_err (table_at (map (width_of sizes counts) columns) (slice_index counts k) bytes at) _ f e) [
        | inl a ↦ (let w = table-fails (map (width_of sizes counts) columns) (slice_index counts k) bytes at f a in
            let r = lay tables (k + 1) (at + slice_index counts k * row_width (map (width_of sizes counts) columns)) (omega arith) in
            (ap (λ (g : MetaFault). g.cause) (sym w.1), (placed widths rows at ∷ r.0, laid-more columns tables k at r.0 (omega arith) r.1, inl (w.0, ap (λ (g : MetaFault). g.place) w.1))))
        | inr a ↦ elim (bind_err (tables_at sizes counts tables (k + 1) bytes a.0.1) _ f a.2) [
          | inl b ↦ (let t = table-stands (map (width_of sizes counts) columns) (slice_index counts k) bytes at a.0 a.1 in
              let r = tables-fail tables (k + 1) a.0.1 f (omega arith) b in
              let there : Laid tables (k + 1) (at + rows * row_width widths) r.1.0 = subst (λ (y : Placed × ℕ). Laid tables (k + 1) y.1 r.1.0) (sym t.1) r.1.1 in
              (r.0, (placed widths rows at ∷ r.1.0, laid-more columns tables k at r.1.0 (omega arith) there, inr (t.0, r.1.2))))
          | inr b ↦ (let z = b.2 in absurd cc)
        ]
      ]

  tables-meet : (tables : List (List Column)) (k at : ℕ) (x : List Placed) (place : ℕ) → Laid tables k at x → FirstCut (length bytes) x place → tables_at sizes counts tables k bytes at ≡ Err (fault Truncated place)
  unfolding tables_at
  tables-meet [] k at [] place w c = absurd c
  tables-meet [] k at (p ∷ x) place w c = let e = w.widths in absurd cc
  tables-meet (columns ∷ tables) k at [] place w c = absurd c
  tables-meet (columns ∷ tables) k at (p ∷ x) place w c =
      let e = w.widths in
      let f = w.rows in
      let many : suc (length (rows_by_number x)) ≡ length counts - k = ap length f ∙ length-drop k counts in
      let next : drop k counts ≡ get_or counts k 0 ∷ drop (k + 1) counts = rw add-one (drop-cons counts k 0 (omega arith)) in
      let split : p.rows ∷ rows_by_number x ≡ get_or counts k 0 ∷ drop (k + 1) counts = f ∙ next in
      let rows : p.rows ≡ get_or counts k 0 = cc in
      let others : rows_by_number x ≡ drop (k + 1) counts = cc in
      let widths : p.widths ≡ map (width_of sizes counts) columns = cc in
      let behind_it : widths_by_number x ≡ map (map (width_of sizes counts)) tables = cc in
      let start = w.consecutive.0 in
      let as_table : (r : Result (Placed × ℕ) MetaFault) → table_at p.widths p.rows bytes at ≡ r → table_at (map (width_of sizes counts) columns) (get_or counts k 0) bytes at ≡ r
      = λ r z. ap (λ (ws : List Width). table_at ws (get_or counts k 0) bytes at) (sym widths) ∙ ap (λ (n : ℕ). table_at p.widths n bytes at) (sym rows) ∙ z in
      elim c [
        | inl a ↦ (let short : length bytes < at + p.rows * row_width p.widths = subst (λ (n : ℕ). length bytes < n + p.rows * row_width p.widths) start a.0 in
            let there = as_table (Err (fault Truncated at)) (table-meets p.widths p.rows bytes at short) in
            let made : tables_at sizes counts (columns ∷ tables) k bytes at ≡ Err (fault Truncated at) = rw there refl in
            made ∙ ap (λ (n : ℕ). Err (fault Truncated n)) (sym start ∙ a.1))
        | inr a ↦ (let fits : at + p.rows * row_width p.widths ≤ length bytes = subst (λ (n : ℕ). n + p.rows * row_width p.widths ≤ length bytes) start a.0 in
            let there = as_table (Ok (placed p.widths p.rows at, at + p.rows * row_width p.widths)) (table-read p.widths p.rows bytes at fits) in
            let rest = tables-meet tables (k + 1) (at + p.rows * row_width p.widths) x place (record { rows = others; widths = behind_it; consecutive = w.consecutive.1 }) a.1 in
            rw (there, rest) refl)
      ]

-- ---- the stream of tables

pub layout-fails : (tables : List (List Column)) (bytes : List ℕ) (at : ℕ) (f : MetaFault) → length tables ≡ 45 → tables_of tables bytes at ≡ Err f
    → (((f.cause ≡ BadHeader) × IsHeaderWrong bytes at f.place) ⊎ ((f.cause ≡ UnknownTable) × IsTableUnknown tables bytes at f.place)) ⊎ ((f.cause ≡ Truncated) × IsCut tables bytes at f.place)
unfolding tables_of
layout-fails tables bytes at f long e = elim (bind_err (prefix_at tables bytes at) _ f e) [
  | inl a ↦ inl (prefix-fails tables bytes at f a)
  | inr a ↦ (let p = fields-stand tables bytes at a.0 a.1 in
      let prefix = p.prefix in
      let right = fields-right tables bytes at a.0.sizes a.0.valid p in
      let known = known-stands tables a.0.valid p.known in
      elim (bind_err (counts_at 45 a.0.valid bytes (at + 24)) _ f a.2) [
        | inl b ↦ (let r = counts-fail 45 a.0.valid bytes (at + 24) f (omega arith) b in
            let within = r.1.within in
            let cut : IsCountCut tables bytes at a.0.valid f.place = record { table = r.1.table; within = omega arith; there = r.1.there; its = r.1.its; before = r.1.before; cut = r.1.cut } in
            inr (r.0, record { valid = a.0.valid; fields = right; bits = p.bits; known = known; wrong = inl cut }))
        | inr b ↦ (let c = counts-stand 45 a.0.valid bytes (at + 24) b.0 b.1 in
            let many = c.long in
            let end = c.end in
            let whole = counts-whole 45 a.0.valid bytes (at + 24) b.0 (omega arith) b.1 in
            let t = tables-fail a.0.sizes b.0.0 bytes tables 0 b.0.1 f (omega arith) b.2 in
            let x = t.1.0 in
            let laid = t.1.1 in
            let rows : rows_by_number t.1.0 ≡ b.0.0 = laid.rows in
            let first = is-first-cut (length bytes) t.1.0 f.place t.1.2 in
            let cut : IsTableCut tables bytes at a.0.valid f.place = record {
              sizes = a.0.sizes;
              placed = t.1.0;
              heap_sizes = p.heap_sizes;
              counts = subst (λ (n : ℕ). at + 24 + 4 * tables_below a.0.valid n ≤ length bytes) (sym long) (subst (λ (n : ℕ). n ≤ length bytes) c.end whole);
              rows = λ k lt. subst (λ (ns : List ℕ). IsRowCount bytes (at + 24) a.0.valid k (get_or ns k 0)) (sym rows) (c.rows k (omega arith));
              widths = subst (λ (ns : List ℕ). widths_by_number t.1.0 ≡ map (map (width_of a.0.sizes ns)) tables) (sym rows) laid.widths;
              consecutive = subst (λ (n : ℕ). AreConsecutive (at + 24 + 4 * tables_below a.0.valid n) t.1.0) (sym long) (subst (λ (n : ℕ). AreConsecutive n t.1.0) c.end laid.consecutive);
              before = first.before;
              cut = first.cut;
              behind = first.behind;
              among = first.among;
              whole = first.whole;
              passes = first.passes;
              its = first.its;
            } in
            inr (t.0, record { valid = a.0.valid; fields = right; bits = p.bits; known = known; wrong = inr cut }))
      ])
]

bound : (tables : List (List Column)) (bytes : List ℕ) (at : ℕ) (f : MetaFault) → prefix_at tables bytes at ≡ Err f → tables_of tables bytes at ≡ Err f
unfolding tables_of
bound tables bytes at f e = rw e refl

pub header-wrong-met : (tables : List (List Column)) (bytes : List ℕ) (at place : ℕ) → IsHeaderWrong bytes at place → tables_of tables bytes at ≡ Err (fault BadHeader place)
header-wrong-met tables bytes at place w = bound tables bytes at (fault BadHeader place) (header-wrong-meets tables bytes at place w)

pub unknown-table-met : (tables : List (List Column)) (bytes : List ℕ) (at place : ℕ) → IsTableUnknown tables bytes at place → tables_of tables bytes at ≡ Err (fault UnknownTable place)
unknown-table-met tables bytes at place w = bound tables bytes at (fault UnknownTable place) (unknown-table-meets tables bytes at place w)

-- what goes before the row counts, with this HeapSizes
fields-of : (tables : List (List Column)) (bytes : List ℕ) (at sizes place : ℕ) (w : IsCut tables bytes at place) → IsNumber 1 bytes (at + 6) sizes → Fields tables bytes at sizes w.valid
fields-of tables bytes at sizes place w heap =
    let end : at + 16 + 8 ≤ length bytes = w.fields 6 (field at 0) (omega arith) in
    let known_sizes = w.fields 3 (field at 0) (omega arith) in
    let one = known_sizes.1.same in
    let other = heap.same in
    let low = known_sizes.2 in
    record {
      major = w.fields 1 (field at 0) (omega arith);
      minor = w.fields 2 (field at 0) (omega arith);
      heap_sizes = heap;
      known_sizes = omega arith;
      bits = w.bits;
      prefix = omega arith;
      known = known-read tables w.valid w.known;
    }

pub cut-met : (tables : List (List Column)) (bytes : List ℕ) (at place : ℕ) → length tables ≡ 45 → IsCut tables bytes at place → tables_of tables bytes at ≡ Err (fault Truncated place)
unfolding tables_of
cut-met tables bytes at place long w =
    let end : at + 16 + 8 ≤ length bytes = w.fields 6 (field at 0) (omega arith) in
    elim w.wrong [
      | inl c ↦ (let sizes = little_number 1 (drop (at + 6) bytes) in
          let p = fields-read tables bytes at (little_number 1 (drop (at + 6) bytes)) w.valid (fields-of tables bytes at (little_number 1 (drop (at + 6) bytes)) place w (number-there 1 bytes (at + 6) (omega arith))) in
          let within = c.within in
          let n = counts-meet 45 w.valid bytes (at + 24) c.table place (omega arith) c.there c.its c.before c.cut in
          rw (p, n) refl)
      | inr c ↦ (let p = fields-read tables bytes at c.sizes w.valid (fields-of tables bytes at c.sizes place w c.heap_sizes) in
          let by_rows : length (rows_by_number c.placed) ≡ length c.placed = length-map c.placed (λ p. p.rows) in
          let by_widths : length (widths_by_number c.placed) ≡ length c.placed = length-map c.placed (λ p. p.widths) in
          let by_columns : length (map (map (width_of c.sizes (rows_by_number c.placed))) tables) ≡ length tables = length-map tables (map (width_of c.sizes (rows_by_number c.placed))) in
          let same : length (widths_by_number c.placed) ≡ length (map (map (width_of c.sizes (rows_by_number c.placed))) tables) = ap length c.widths in
          let all : length (rows_by_number c.placed) ≡ 45 = omega arith in
          let r = counts-read (rows_by_number c.placed) w.valid bytes (at + 24) (λ k lt. c.rows k (omega arith)) in
          let n : counts_at 45 w.valid bytes (at + 24) ≡ Ok (rows_by_number c.placed, at + 24 + 4 * tables_below w.valid 45)
          = subst (λ (n : ℕ). counts_at n w.valid bytes (at + 24) ≡ Ok (rows_by_number c.placed, at + 24 + 4 * tables_below w.valid n)) all r in
          let there : AreConsecutive (at + 24 + 4 * tables_below w.valid 45) c.placed = subst (λ (n : ℕ). AreConsecutive (at + 24 + 4 * tables_below w.valid n) c.placed) long c.consecutive in
          let first : FirstCut (length bytes) c.placed place = subst (λ (ps : List Placed). FirstCut (length bytes) ps place) (sym c.among) (cut-at (length bytes) c.before c.cut c.behind place c.whole c.passes c.its) in
          let t = tables-meet c.sizes (rows_by_number c.placed) bytes tables 0 (at + 24 + 4 * tables_below w.valid 45) c.placed place (record { rows = refl; widths = c.widths; consecutive = there }) first in
          rw (p, n) t)
    ]
