-- Loops over the row counts and over the tables.
use Rattle.std.proofs.Common.{◌≡◌, ◌≢◌, ◌⊎◌, inl, inr, ◌&&◌, ◌||◌, ℕ, zero, suc, ◌+◌, ◌-◌, ◌*◌, ◌/◌, ◌%◌, ◌<◌, ◌≤◌, List, [], ◌∷◌, ◌++◌, length, get_or, take, drop, set, Bool, true, cond, ltb, Result, Ok, Err, refl, sym, ap, subst, ◌∙◌, append_assoc, arith, drop-cons, add-one}
use Rattle.std.specs.Prelude.{map, slice_index, ◌==◌}
use Rattle.std.proofs.lemmas.List.{append-nil, take_more_set, take_all, drop_all}
use Rattle.cli_metadata.specs.declared.fault.MetaFault.{MetaFault}
use Rattle.cli_metadata.specs.declared.tables.Column.{Column}
use Rattle.cli_metadata.specs.declared.widths.Width.{Width}
use Rattle.cli_metadata.specs.declared.layout.Placed.{Placed}
use Rattle.cli_metadata.specs.declared.fault.MetaCause.TheVariants.{Truncated}
use Rattle.cli_metadata.specs.Reading.{◌>>=◌, behind}
use Rattle.cli_metadata.specs.Widths.{width_of, row_width}
use Rattle.cli_metadata.specs.Standing.{is_table, ArePlaced}
use Rattle.cli_metadata.specs.Layout.{are_tables, count_at, counts_at, table_at, tables_at}

abbrev done : {A : Type 0} → A → Result A MetaFault
done x = Ok x

pub ok_is : {A : Type 0} (x y : A) → done x ≡ done y → x ≡ y
ok_is x y e = cc

-- ---- row counts

-- the counts in front, and then those that are still read
abbrev pub counts_behind : List ℕ → Result (List ℕ × ℕ) MetaFault → Result (List ℕ × ℕ) MetaFault
counts_behind front read = read >>= λ x. Ok (front ++ x.0, x.1)

counts-regroup : (front : List ℕ) (n : ℕ) (read : Result (List ℕ × ℕ) MetaFault) → counts_behind front (read >>= λ x. Ok (n ∷ x.0, x.1)) ≡ counts_behind (front ++ n ∷ []) read
counts-regroup front n (Ok x) = ap (λ (ns : List ℕ). Ok (ns, x.1)) (simp append_assoc)
counts-regroup front n (Err f) = refl

counts-step : (left bits : ℕ) (bytes : List ℕ) (at n end : ℕ) (front : List ℕ) → count_at bits bytes at ≡ Ok (n, end)
    → counts_behind front (counts_at (suc left) bits bytes at) ≡ counts_behind (front ++ n ∷ []) (counts_at left (bits / 2) bytes end)
unfolding counts_at
counts-step left bits bytes at n end front e = rw e (counts-regroup front n (counts_at left (bits / 2) bytes end))

pub counts-more : (i bits : ℕ) (bytes : List ℕ) (at n end : ℕ) (counts : List ℕ) (total : Result (List ℕ × ℕ) MetaFault) → i < 45 → length counts ≡ 45 → count_at bits bytes at ≡ Ok (n, end)
    → counts_behind (take i counts) (counts_at (45 - i) bits bytes at) ≡ total
    → counts_behind (take (i + 1) (set counts i n)) (counts_at (45 - (i + 1)) (bits / 2) bytes end) ≡ total
counts-more i bits bytes at n end counts total lt len e so =
    let k : 45 - i ≡ suc (45 - (i + 1)) = omega arith in
    let within : i < length counts = omega arith in
    let step : counts_behind (take i counts) (counts_at (45 - i) bits bytes at) ≡ counts_behind (take i counts ++ n ∷ []) (counts_at (45 - (i + 1)) (bits / 2) bytes end)
    = rw k (counts-step (45 - (i + 1)) bits bytes at n end (take i counts) e) in
    ap (λ (front : List ℕ). counts_behind front (counts_at (45 - (i + 1)) (bits / 2) bytes end)) (take_more_set counts i n within) ∙ sym step ∙ so

counts-stop : (left bits : ℕ) (bytes : List ℕ) (at : ℕ) (f : MetaFault) (front : List ℕ) → count_at bits bytes at ≡ Err f
    → counts_behind front (counts_at (suc left) bits bytes at) ≡ Err f
unfolding counts_at
counts-stop left bits bytes at f front e = rw e refl

pub counts-err : (i bits : ℕ) (bytes : List ℕ) (at : ℕ) (f : MetaFault) (counts : List ℕ) (total : Result (List ℕ × ℕ) MetaFault) → i < 45 → count_at bits bytes at ≡ Err f
    → counts_behind (take i counts) (counts_at (45 - i) bits bytes at) ≡ total → Err f ≡ total
counts-err i bits bytes at f counts total lt e so =
    let k : 45 - i ≡ suc (45 - (i + 1)) = omega arith in
    let step : counts_behind (take i counts) (counts_at (45 - i) bits bytes at) ≡ Err f = rw k (counts-stop (45 - (i + 1)) bits bytes at f (take i counts) e) in
    sym step ∙ so

pub counts-none : (i bits : ℕ) (bytes : List ℕ) (at : ℕ) (counts : List ℕ) (total : Result (List ℕ × ℕ) MetaFault) → 45 ≤ i → length counts ≡ 45
    → counts_behind (take i counts) (counts_at (45 - i) bits bytes at) ≡ total → Ok (counts, at) ≡ total
unfolding counts_at
counts-none i bits bytes at counts total le len so =
    let k : 45 - i ≡ 0 = omega arith in
    let short : length counts ≤ i = omega arith in
    let whole : take i counts ++ [] ≡ counts = append-nil (take i counts) ∙ take_all i counts short in
    let step : counts_behind (take i counts) (counts_at (45 - i) bits bytes at) ≡ Ok (take i counts ++ [], at) = rw k refl in
    ap (λ (ns : List ℕ). Ok (ns, at)) (sym whole) ∙ sym step ∙ so

-- ---- tables

abbrev pub tables_behind : List Placed → Result (List Placed) MetaFault → Result (List Placed) MetaFault
tables_behind front read = read >>= λ x. Ok (front ++ x)

tables-regroup : (front : List Placed) (p : Placed) (read : Result (List Placed) MetaFault) → tables_behind front (read >>= λ x. Ok (p ∷ x)) ≡ tables_behind (front ++ p ∷ []) read
tables-regroup front p (Ok x) = ap (λ (ps : List Placed). Ok ps) (simp append_assoc)
tables-regroup front p (Err f) = refl

module _ (sizes : ℕ) (counts : List ℕ) (bytes : List ℕ) where
  widths : List Column → List Width
  widths columns = map (width_of sizes counts) columns

  tables-step : (columns : List Column) (tables : List (List Column)) (k at : ℕ) (p : Placed) (end : ℕ) (front : List Placed) → table_at (map (width_of sizes counts) columns) (slice_index counts k) bytes at ≡ Ok (p, end)
      → tables_behind front (tables_at sizes counts (columns ∷ tables) k bytes at) ≡ tables_behind (front ++ p ∷ []) (tables_at sizes counts tables (k + 1) bytes end)
  unfolding tables_at
  tables-step columns tables k at p end front e = rw e (tables-regroup front p (tables_at sizes counts tables (k + 1) bytes end))

  tables-stop : (columns : List Column) (tables : List (List Column)) (k at : ℕ) (f : MetaFault) (front : List Placed) → table_at (map (width_of sizes counts) columns) (slice_index counts k) bytes at ≡ Err f
      → tables_behind front (tables_at sizes counts (columns ∷ tables) k bytes at) ≡ Err f
  unfolding tables_at
  tables-stop columns tables k at f front e = rw e refl

  tables-last : (k at : ℕ) (front : List Placed) → tables_behind front (tables_at sizes counts [] k bytes at) ≡ Ok (front ++ [])
  unfolding tables_at
  tables-last k at front = refl

  pub tables-more : (tables : List (List Column)) (i at : ℕ) (p : Placed) (end : ℕ) (placed : List Placed) (d : List Column) (total : Result (List Placed) MetaFault) → i < length tables → i < length placed
      → table_at (map (width_of sizes counts) (get_or tables i d)) (slice_index counts i) bytes at ≡ Ok (p, end)
      → tables_behind (take i placed) (tables_at sizes counts (drop i tables) i bytes at) ≡ total
      → tables_behind (take (i + 1) (set placed i p)) (tables_at sizes counts (drop (i + 1) tables) (i + 1) bytes end) ≡ total
  tables-more tables i at p end placed d total lt within e so =
      let next : drop i tables ≡ get_or tables i d ∷ drop (i + 1) tables = rw add-one (drop-cons tables i d lt) in
      let step = tables-step (get_or tables i d) (drop (i + 1) tables) i at p end (take i placed) e in
      ap (λ (front : List Placed). tables_behind front (tables_at sizes counts (drop (i + 1) tables) (i + 1) bytes end)) (take_more_set placed i p within)
      ∙ sym step ∙ ap (λ (ts : List (List Column)). tables_behind (take i placed) (tables_at sizes counts ts i bytes at)) (sym next) ∙ so

  pub tables-err : (tables : List (List Column)) (i at : ℕ) (f : MetaFault) (placed : List Placed) (d : List Column) (total : Result (List Placed) MetaFault) → i < length tables
      → table_at (map (width_of sizes counts) (get_or tables i d)) (slice_index counts i) bytes at ≡ Err f
      → tables_behind (take i placed) (tables_at sizes counts (drop i tables) i bytes at) ≡ total → Err f ≡ total
  tables-err tables i at f placed d total lt e so =
      let next : drop i tables ≡ get_or tables i d ∷ drop (i + 1) tables = rw add-one (drop-cons tables i d lt) in
      sym (tables-stop (get_or tables i d) (drop (i + 1) tables) i at f (take i placed) e)
      ∙ ap (λ (ts : List (List Column)). tables_behind (take i placed) (tables_at sizes counts ts i bytes at)) (sym next) ∙ so

  pub tables-none : (tables : List (List Column)) (i at : ℕ) (placed : List Placed) (total : Result (List Placed) MetaFault) → length tables ≤ i → length placed ≤ i
      → tables_behind (take i placed) (tables_at sizes counts (drop i tables) i bytes at) ≡ total → Ok placed ≡ total
  tables-none tables i at placed total le short so =
      let none : drop i tables ≡ [] = drop_all i tables le in
      let whole : take i placed ++ [] ≡ placed = append-nil (take i placed) ∙ take_all i placed short in
      ap (λ (ps : List Placed). Ok ps) (sym whole) ∙ sym (tables-last i at (take i placed))
      ∙ ap (λ (ts : List (List Column)). tables_behind (take i placed) (tables_at sizes counts ts i bytes at)) (sym none) ∙ so

-- ---- tables stand whole

pub bind_ok : {A B : Type 0} (r : Result A MetaFault) (f : A → Result B MetaFault) (y : B) → (r >>= f) ≡ Ok y → (x : A) × (r ≡ Ok x) × (f x ≡ Ok y)
bind_ok (Ok x) f y e = (x, refl, e)
bind_ok (Err d) f y e = absurd cc

pub guard_whole : (len end : ℕ) (f : MetaFault) (x : ℕ) → cond (ltb len end) (Err f) (Ok end) ≡ Ok x → (end ≡ x) × (end ≤ len)
guard_whole len end f x e = grind arith

table-whole : (widths : List Width) (rows : ℕ) (bytes : List ℕ) (at : ℕ) (x : Placed × ℕ) → table_at widths rows bytes at ≡ Ok x → x.0.start + x.0.rows * row_width x.0.widths ≤ length bytes
unfolding table_at
table-whole widths rows bytes at x e =
    let made : ℕ → Result (Placed × ℕ) MetaFault = λ end. Ok (record { rows = rows; start = at; widths = widths }, end) in
    let a = bind_ok (behind Truncated (rows * row_width widths) bytes at) made x e in
    let w = guard_whole (length bytes) (at + rows * row_width widths) (record { cause = Truncated; place = at }) a.0 a.1 in
    let placed : Placed = record { rows = rows; start = at; widths = widths } in
    let same : (placed, a.0) ≡ x = ok_is (placed, a.0) x a.2 in
    subst (λ (y : Placed × ℕ). y.0.start + y.0.rows * row_width y.0.widths ≤ length bytes) same w.1

module _ (sizes : ℕ) (counts : List ℕ) (bytes : List ℕ) where
  pub tables-placed : (tables : List (List Column)) (k at : ℕ) (placed : List Placed) → tables_at sizes counts tables k bytes at ≡ Ok placed → ArePlaced (length bytes) placed
  unfolding tables_at
  tables-placed [] k at placed e = subst (λ (ps : List Placed). ArePlaced (length bytes) ps) (ok_is [] placed e) tt
  tables-placed (columns ∷ tables) k at placed e =
      let others : Placed × ℕ → Result (List Placed) MetaFault = λ first. tables_at sizes counts tables (k + 1) bytes first.1 >>= λ o. Ok (first.0 ∷ o) in
      let a = bind_ok (table_at (map (width_of sizes counts) columns) (slice_index counts k) bytes at) others placed e in
      let b = bind_ok (tables_at sizes counts tables (k + 1) bytes a.0.1) (λ o. Ok (a.0.0 ∷ o)) placed a.2 in
      let first = table-whole (map (width_of sizes counts) columns) (slice_index counts k) bytes at a.0 a.1 in
      let rest = tables-placed tables (k + 1) a.0.1 b.0 b.1 in
      subst (λ (ps : List Placed). ArePlaced (length bytes) ps) (ok_is (a.0.0 ∷ b.0) placed b.2) (first, rest)

-- each table of these stands whole
pub placed-at : (len : ℕ) (placed : List Placed) (k : ℕ) (d : Placed) → d.start + d.rows * row_width d.widths ≤ len → ArePlaced len placed
    → (get_or placed k d).start + (get_or placed k d).rows * row_width (get_or placed k d).widths ≤ len
placed-at len [] k d h a = h
placed-at len (p ∷ placed) zero d h a = a.0
placed-at len (p ∷ placed) (suc k) d h a = placed-at len placed k d h a.1

-- ---- the bits of Valid

bit_goes : (bits : ℕ) (b : Bool) (rest : Bool) → ((bits % 2 ≡ 1) × (b ≡ true)) ⊎ (bits % 2 ≢ 1) → ((bits % 2 == 0 || b) && rest) ≡ rest
bit_goes bits b rest h = elim h [
  | inl w ↦ rw w.1 (grind arith)
  | inr n ↦ (let even : bits % 2 ≡ 0 = omega arith in rw even refl)
]

pub bits-go : (valid bits : ℕ) (tables : List (List Column)) (i : ℕ) (d : List Column) (total : Bool) → i < length tables
    → ((bits % 2 ≡ 1) × (is_table (get_or tables i d) ≡ true)) ⊎ (bits % 2 ≢ 1)
    → are_tables bits (drop i tables) ≡ total → are_tables (bits / 2) (drop (i + 1) tables) ≡ total
bits-go valid bits tables i d total lt h so =
    let next : drop i tables ≡ get_or tables i d ∷ drop (i + 1) tables = rw add-one (drop-cons tables i d lt) in
    sym (bit_goes bits (is_table (get_or tables i d)) (are_tables (bits / 2) (drop (i + 1) tables)) h)
    ∙ ap (are_tables bits) (sym next) ∙ so
