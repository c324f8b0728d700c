-- The tables, as they are read and as they stand.
use Rattle.std.proofs.Common.{◌≡◌, ℕ, suc, ◌+◌, ◌-◌, ◌*◌, ◌<◌, ◌≤◌, List, [], ◌∷◌, length, drop, get_or, true, Ok, refl, sym, ap, subst, ◌∙◌, arith, drop-cons, add-one, length-drop}
use Rattle.std.specs.Prelude.{map, slice_index, nat_lt, ◌==◌}
use Rattle.std.proofs.lemmas.Bool.{eqb-true}
use Rattle.std.proofs.lemmas.List.{drop_all, length-map}
use Rattle.byteorder.specs.Endian.{little_number}
use Rattle.cli_metadata.specs.declared.fault.MetaCause.TheVariants.{BadHeader, UnknownTable, Truncated}
use Rattle.cli_metadata.specs.declared.tables.Column.{Column}
use Rattle.cli_metadata.specs.declared.widths.Width.{Width}
use Rattle.cli_metadata.specs.declared.layout.Prefix.{Prefix}
use Rattle.cli_metadata.specs.declared.layout.Placed.{Placed}
use Rattle.cli_metadata.specs.Widths.{width_of, row_width}
use Rattle.cli_metadata.specs.Layout.{are_tables, versioned_at, prefix_at, counts_at, table_at, tables_at, tables_of}
use Rattle.cli_metadata.specs.Standing.{ArePlaced}
use Rattle.cli_metadata.specs.Standing.{AreConsecutive}
use Rattle.cli_metadata.specs.Standing.{IsNumber, IsRowCount, AreTables, tables_below, rows_by_number}
use Rattle.cli_metadata.proofs.Places.{ok_is, bind_ok}
use Rattle.cli_metadata.proofs.Steps.{number-goes, behind-goes, holds-goes, holds-true, number-is, behind-is, number-there}
use Rattle.cli_metadata.proofs.Bits.{known-stands, known-read}
use Rattle.cli_metadata.proofs.Counts.{counts-stand, counts-read}

abbrev pub widths_by_number : List Placed → List (List Width)
widths_by_number placed = map (λ p. p.widths) placed

-- ---- one table

abbrev pub placed : List Width → ℕ → ℕ → Placed
placed widths rows at = record { rows = rows; start = at; widths = widths }

pub table-stands : (widths : List Width) (rows : ℕ) (bytes : List ℕ) (at : ℕ) (x : Placed × ℕ) → table_at widths rows bytes at ≡ Ok x
    → (at + rows * row_width widths ≤ length bytes) × ((placed widths rows at, at + rows * row_width widths) ≡ x)
unfolding table_at
table-stands widths rows bytes at x e =
    let g = behind-goes Truncated (rows * row_width widths) bytes at _ x e in
    (g.0, ok_is (placed widths rows at, at + rows * row_width widths) x g.1)

pub table-read : (widths : List Width) (rows : ℕ) (bytes : List ℕ) (at : ℕ) → at + rows * row_width widths ≤ length bytes
    → table_at widths rows bytes at ≡ Ok (placed widths rows at, at + rows * row_width widths)
unfolding table_at
table-read widths rows bytes at w = let b = behind-is Truncated (rows * row_width widths) bytes at w in rw b refl

-- ---- all of them

module _ (sizes : ℕ) (counts : List ℕ) (bytes : List ℕ) where
  -- the tables from number k on
  pub record TablesStand (tables : List (List Column)) (k at : ℕ) (placed : List Placed) : Type 0 where
    pub rows : rows_by_number placed ≡ drop k counts
    pub widths : widths_by_number placed ≡ map (map (width_of sizes counts)) tables
    pub consecutive : AreConsecutive at placed
    pub whole : ArePlaced (length bytes) placed

  pub tables-stand : (tables : List (List Column)) (k at : ℕ) (x : List Placed) → k + length tables ≡ length counts → tables_at sizes counts tables k bytes at ≡ Ok x → TablesStand tables k at x
  unfolding tables_at
  tables-stand [] k at x long e =
      let none : drop k counts ≡ [] = drop_all k counts (omega arith) in
      let made : TablesStand [] k at [] = record { rows = sym none; widths = refl; consecutive = tt; whole = tt } in
      subst (λ (y : List Placed). TablesStand [] k at y) (ok_is [] x e) made
  tables-stand (columns ∷ tables) k at x long e =
      let widths = map (width_of sizes counts) columns in
      let rows = slice_index counts k in
      let a = bind_ok (table_at (map (width_of sizes counts) columns) (slice_index counts k) bytes at) _ x e in
      let b = bind_ok (tables_at sizes counts tables (k + 1) bytes a.0.1) _ x a.2 in
      let t = table-stands (map (width_of sizes counts) columns) (slice_index counts k) bytes at a.0 a.1 in
      let next : drop k counts ≡ get_or counts k 0 ∷ drop (k + 1) counts = rw add-one (drop-cons counts k 0 (omega arith)) in
      let r = tables-stand tables (k + 1) a.0.1 b.0 (omega arith) b.1 in
      let at_end : TablesStand tables (k + 1) (at + rows * row_width widths) b.0 = subst (λ (y : Placed × ℕ). TablesStand tables (k + 1) y.1 b.0) (sym t.1) r in
      let made : TablesStand (columns ∷ tables) k at (placed widths rows at ∷ b.0) = record {
        rows = ap (λ (ns : List ℕ). rows ∷ ns) at_end.rows ∙ sym next;
        widths = ap (λ (ws : List (List Width)). widths ∷ ws) at_end.widths;
        consecutive = (refl, at_end.consecutive);
        whole = (t.0, at_end.whole);
      } in
      let same : placed widths rows at ∷ b.0 ≡ x = ap (λ (y : Placed × ℕ). y.0 ∷ b.0) t.1 ∙ ok_is (a.0.0 ∷ b.0) x b.2 in
      subst (λ (y : List Placed). TablesStand (columns ∷ tables) k at y) same made

  pub tables-read : (tables : List (List Column)) (k at : ℕ) (x : List Placed) → TablesStand tables k at x → tables_at sizes counts tables k bytes at ≡ Ok x
  unfolding tables_at
  tables-read [] k at [] w = refl
  tables-read [] k at (p ∷ x) w = let e = w.widths in absurd cc
  tables-read (columns ∷ tables) k at [] w = let e = w.widths in absurd cc
  tables-read (columns ∷ tables) k at (p ∷ x) w =
      let e = w.widths in
      let f = w.rows in
      let many : suc (length (rows_by_number x)) ≡ length counts - k = ap length f ∙ length-drop k counts in
      let next : drop k counts ≡ get_or counts k 0 ∷ drop (k + 1) counts = rw add-one (drop-cons counts k 0 (omega arith)) in
      let split : p.rows ∷ rows_by_number x ≡ get_or counts k 0 ∷ drop (k + 1) counts = f ∙ next in
      let rows : p.rows ≡ get_or counts k 0 = cc in
      let others : rows_by_number x ≡ drop (k + 1) counts = cc in
      let widths : p.widths ≡ map (width_of sizes counts) columns = cc in
      let behind : widths_by_number x ≡ map (map (width_of sizes counts)) tables = cc in
      let rest = tables-read tables (k + 1) (at + p.rows * row_width p.widths) x (record { rows = others; widths = behind; consecutive = w.consecutive.1; whole = w.whole.1 }) in
      let start = w.consecutive.0 in
      let fits : at + p.rows * row_width p.widths ≤ length bytes = subst (λ (n : ℕ). n + p.rows * row_width p.widths ≤ length bytes) start w.whole.0 in
      let first = table-read p.widths p.rows bytes at fits in
      let is : placed p.widths p.rows at ≡ p = ap (λ (n : ℕ). placed p.widths p.rows n) (sym start) in
      let there : table_at (map (width_of sizes counts) columns) (get_or counts k 0) bytes at ≡ Ok (placed p.widths p.rows at, at + p.rows * row_width p.widths)
      = ap (λ (ws : List Width). table_at ws (get_or counts k 0) bytes at) (sym widths) ∙ ap (λ (n : ℕ). table_at p.widths n bytes at) (sym rows) ∙ first in
      let made : tables_at sizes counts (columns ∷ tables) k bytes at ≡ Ok (placed p.widths p.rows at ∷ x) = rw (there, rest) refl in
      made ∙ ap (λ (q : Placed). Ok (q ∷ x)) is

-- ---- the fields before the row counts

pub record Fields (tables : List (List Column)) (bytes : List ℕ) (at sizes valid : ℕ) : Type 0 where
  pub major : IsNumber 1 bytes (at + 4) 2
  pub minor : IsNumber 1 bytes (at + 5) 0
  pub heap_sizes : IsNumber 1 bytes (at + 6) sizes
  pub known_sizes : sizes < 8
  pub bits : IsNumber 8 bytes (at + 8) valid
  pub prefix : at + 24 ≤ length bytes
  pub known : are_tables valid tables ≡ true

pub version-stands : (bytes : List ℕ) (at x : ℕ) → versioned_at bytes at ≡ Ok x → IsNumber 1 bytes (at + 4) 2 × IsNumber 1 bytes (at + 5) 0
unfolding versioned_at
version-stands bytes at x e =
    let a = number-goes BadHeader 4 bytes at _ x e in
    let b = number-goes BadHeader 1 bytes (at + 4) _ x a.1 in
    let c = holds-goes BadHeader (little_number 1 (drop (at + 4) bytes) == 2) (at + 4) _ x b.1 in
    let d = number-goes BadHeader 1 bytes (at + 5) _ x c.1 in
    let minor : (little_number 1 (drop (at + 5) bytes) == 0) ≡ true = holds-true BadHeader (little_number 1 (drop (at + 5) bytes) == 0) (at + 5) x d.1 in
    (record { whole = b.0.whole; same = sym (eqb-true (little_number 1 (drop (at + 4) bytes)) 2 c.0) }, record { whole = d.0.whole; same = sym (eqb-true (little_number 1 (drop (at + 5) bytes)) 0 minor) })

pub version-read : (bytes : List ℕ) (at : ℕ) → IsNumber 1 bytes (at + 4) 2 → IsNumber 1 bytes (at + 5) 0 → versioned_at bytes at ≡ Ok (at + 5)
unfolding versioned_at
version-read bytes at major minor =
    let whole = major.whole in
    let a = number-is BadHeader 4 bytes at (little_number 4 (drop at bytes)) (number-there 4 bytes at (omega arith)) in
    let b = number-is BadHeader 1 bytes (at + 4) 2 major in
    let c = number-is BadHeader 1 bytes (at + 5) 0 minor in
    rw (a, b, c) refl

pub fields-stand : (tables : List (List Column)) (bytes : List ℕ) (at : ℕ) (x : Prefix) → prefix_at tables bytes at ≡ Ok x → Fields tables bytes at x.sizes x.valid
unfolding prefix_at
fields-stand tables bytes at x e =
    let v = bind_ok (versioned_at bytes at) _ x e in
    let w = version-stands bytes at v.0 v.1 in
    let a = number-goes BadHeader 1 bytes (at + 6) _ x v.2 in
    let s = holds-goes BadHeader (nat_lt (little_number 1 (drop (at + 6) bytes)) 8) (at + 6) _ x a.1 in
    let few = s.0 in
    let b = number-goes BadHeader 1 bytes (at + 7) _ x s.1 in
    let c = number-goes BadHeader 8 bytes (at + 8) _ x b.1 in
    let d = number-goes BadHeader 8 bytes (at + 16) _ x c.1 in
    let k = holds-goes UnknownTable (are_tables (little_number 8 (drop (at + 8) bytes)) tables) (at + 8) _ x d.1 in
    let end = d.0.whole in
    let made : Prefix = record { sizes = little_number 1 (drop (at + 6) bytes); valid = little_number 8 (drop (at + 8) bytes) } in
    let fields : Fields tables bytes at made.sizes made.valid = record { major = w.0; minor = w.1; heap_sizes = a.0; known_sizes = grind arith; bits = c.0; prefix = omega arith; known = k.0 } in
    subst (λ (y : Prefix). Fields tables bytes at y.sizes y.valid) (ok_is made x k.1) fields

pub fields-read : (tables : List (List Column)) (bytes : List ℕ) (at sizes valid : ℕ) → Fields tables bytes at sizes valid → prefix_at tables bytes at ≡ Ok (record { sizes = sizes; valid = valid })
unfolding prefix_at
fields-read tables bytes at sizes valid w =
    let end = w.prefix in
    let known = w.known in
    let v = version-read bytes at w.major w.minor in
    let a = number-is BadHeader 1 bytes (at + 6) sizes w.heap_sizes in
    let low = w.known_sizes in
    let few : nat_lt sizes 8 ≡ true = grind arith in
    let b = number-is BadHeader 1 bytes (at + 7) (little_number 1 (drop (at + 7) bytes)) (number-there 1 bytes (at + 7) (omega arith)) in
    let c = number-is BadHeader 8 bytes (at + 8) valid w.bits in
    let d = number-is BadHeader 8 bytes (at + 16) (little_number 8 (drop (at + 16) bytes)) (number-there 8 bytes (at + 16) (omega arith)) in
    rw (v, a, few, b, c, d, known) refl

-- ---- the stream of tables

pub layout-stands : (tables : List (List Column)) (bytes : List ℕ) (at : ℕ) (x : List Placed) → length tables ≡ 45 → tables_of tables bytes at ≡ Ok x → AreTables tables bytes at x
unfolding tables_of
layout-stands tables bytes at x long e =
    let a = bind_ok (prefix_at tables bytes at) _ x e in
    let b = bind_ok (counts_at 45 a.0.valid bytes (at + 24)) _ x a.2 in
    let f = fields-stand tables bytes at a.0 a.1 in
    let c = counts-stand 45 a.0.valid bytes (at + 24) b.0 b.1 in
    let many = c.long in
    let t = tables-stand a.0.sizes b.0.0 bytes tables 0 b.0.1 x (omega arith) b.2 in
    let rows : rows_by_number x ≡ b.0.0 = t.rows in
    record {
      sizes = a.0.sizes;
      valid = a.0.valid;
      major = f.major;
      minor = f.minor;
      heap_sizes = f.heap_sizes;
      known_sizes = f.known_sizes;
      bits = f.bits;
      prefix = f.prefix;
      known = known-stands tables a.0.valid f.known;
      rows = λ k lt. subst (λ (ns : List ℕ). IsRowCount bytes (at + 24) a.0.valid k (get_or ns k 0)) (sym rows) (c.rows k (omega arith));
      widths = subst (λ (ns : List ℕ). widths_by_number x ≡ map (map (width_of a.0.sizes ns)) tables) (sym rows) t.widths;
      consecutive = subst (λ (n : ℕ). AreConsecutive (at + 24 + 4 * tables_below a.0.valid n) x) (sym long) (subst (λ (n : ℕ). AreConsecutive n x) c.end t.consecutive);
      whole = t.whole;
    }

pub layout-read : (tables : List (List Column)) (bytes : List ℕ) (at : ℕ) (x : List Placed) → length tables ≡ 45 → AreTables tables bytes at x → tables_of tables bytes at ≡ Ok x
unfolding tables_of
layout-read tables bytes at x long w =
    let counts = rows_by_number x in
    let by_rows : length (rows_by_number x) ≡ length x = length-map x (λ p. p.rows) in
    let by_widths : length (widths_by_number x) ≡ length x = length-map x (λ p. p.widths) in
    let by_columns : length (map (map (width_of w.sizes (rows_by_number x))) tables) ≡ length tables = length-map tables (map (width_of w.sizes (rows_by_number x))) in
    let same : length (widths_by_number x) ≡ length (map (map (width_of w.sizes (rows_by_number x))) tables) = ap length w.widths in
    let many : length (rows_by_number x) ≡ length tables = omega arith in
    let all : length (rows_by_number x) ≡ 45 = omega arith in
    let f : Fields tables bytes at w.sizes w.valid = record { major = w.major; minor = w.minor; heap_sizes = w.heap_sizes; known_sizes = w.known_sizes; bits = w.bits; prefix = w.prefix; known = known-read tables w.valid w.known } in
    let a = fields-read tables bytes at w.sizes w.valid f in
    let c = counts-read (rows_by_number x) w.valid bytes (at + 24) (λ k lt. w.rows k (omega arith)) in
    let b : counts_at 45 w.valid bytes (at + 24) ≡ Ok (rows_by_number x, at + 24 + 4 * tables_below w.valid 45)
    = subst (λ (n : ℕ). counts_at n w.valid bytes (at + 24) ≡ Ok (rows_by_number x, at + 24 + 4 * tables_below w.valid n)) all c in
    let placed_there : AreConsecutive (at + 24 + 4 * tables_below w.valid 45) x = subst (λ (n : ℕ). AreConsecutive (at + 24 + 4 * tables_below w.valid n) x) long w.consecutive in
    let t = tables-read w.sizes (rows_by_number x) bytes tables 0 (at + 24 + 4 * tables_below w.valid 45) x (record { rows = refl; widths = w.widths; consecutive = placed_there; whole = w.whole }) in
    rw (a, b) t
