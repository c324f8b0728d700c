-- The cells of a row, and where rows stand.
use Rattle.std.proofs.Common.{◌≡◌, ℕ, ◌+◌, ◌-◌, ◌<◌, ◌≤◌, List, [], ◌∷◌, ◌++◌, length, get_or, take, drop, set, refl, sym, ap, ◌∙◌, append_assoc, arith, drop-cons, add-one}
use Rattle.std.proofs.Math.ListN.{length-set}
use Rattle.byteorder.specs.Endian.{little_number}
use Rattle.std.proofs.lemmas.List.{append-nil, take_more_set, take_all, drop_all, length-drop}
use Rattle.std.proofs.lemmas.List.Sums.{sum_by-drop_more}
use Rattle.cli_metadata.specs.declared.widths.Width.{Width}
use Rattle.cli_metadata.specs.Widths.{bytes_in, row_width}
use Rattle.cli_metadata.specs.Metadata.{cells_of}

-- what a walk over the cells has read, and what it still reads
pub record Reads (widths : List Width) (whole : List ℕ) (i : ℕ) (cells left : List ℕ) : Type 0 where
  pub same : take i cells ++ cells_of (drop i widths) left ≡ cells_of widths whole
  pub fits : row_width (drop i widths) ≤ length left
  pub long : length cells ≡ 9

pub reads-fits : (widths : List Width) (whole : List ℕ) (i : ℕ) (cells left : List ℕ) (d : Width) → i < length widths → Reads widths whole i cells left → bytes_in (get_or widths i d) ≤ length left
reads-fits widths whole i cells left d lt r =
    let next = sum_by-drop_more bytes_in widths i d lt in
    let fits = r.fits in
    omega (arith, next, fits)

pub reads-more : (widths : List Width) (whole : List ℕ) (i : ℕ) (cells left : List ℕ) (d : Width) (n : ℕ) (rest : List ℕ) → i < length widths → i < 9 → n ≡ little_number (bytes_in (get_or widths i d)) left
    → rest ≡ drop (bytes_in (get_or widths i d)) left → Reads widths whole i cells left → Reads widths whole (i + 1) (set cells i n) rest
reads-more widths whole i cells left d n rest lt nine is after r =
    let next : drop i widths ≡ get_or widths i d ∷ drop (i + 1) widths = rw add-one (drop-cons widths i d lt) in
    let total = sum_by-drop_more bytes_in widths i d lt in
    let fits = r.fits in
    let within : i < length cells = omega (arith, r.long) in
    let shorter : length rest ≡ length left - bytes_in (get_or widths i d) = ap length after ∙ length-drop (bytes_in (get_or widths i d)) left in
    let step : cells_of (drop i widths) left ≡ n ∷ cells_of (drop (i + 1) widths) rest = rw (next, is, after) refl in
    record {
      same = ap (λ (front : List ℕ). front ++ cells_of (drop (i + 1) widths) rest) (take_more_set cells i n within)
          ∙ append_assoc (take i cells) (n ∷ []) (cells_of (drop (i + 1) widths) rest)
          ∙ ap (λ (xs : List ℕ). take i cells ++ xs) (sym step) ∙ r.same;
      fits = omega (arith, total, fits, shorter);
      long = rw length-set r.long;
    }

pub reads-all : (widths : List Width) (whole : List ℕ) (i : ℕ) (cells left : List ℕ) → length widths ≤ i → 9 ≤ i → Reads widths whole i cells left → cells ≡ cells_of widths whole
reads-all widths whole i cells left le nine r =
    let short : length cells ≤ i = omega (arith, r.long) in
    let none : drop i widths ≡ [] = drop_all i widths le in
    let end : cells_of (drop i widths) left ≡ [] = rw none refl in
    sym (append-nil cells) ∙ ap (λ (xs : List ℕ). xs ++ []) (sym (take_all i cells short)) ∙ ap (λ (xs : List ℕ). take i cells ++ xs) (sym end) ∙ r.same
