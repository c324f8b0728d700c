-- What is known of a value of a head, and which values a head may hold.
use Rattle.std.specs.Prelude.{ℕ, ◌+◌, Bool, true, false, ◌&&◌, ◌||◌, not, List, fold, Option, Some, None, slice_get, max, nat_lt, if◌then◌else◌}
use Rattle.std.specs.List.{list_all, list_any}
use Rattle.std.specs.Option.{is_some}
use Rattle.cil_rows.specs.declared.row.Row.{Row}
use Rattle.cli_heads.specs.declared.constant.Constant.{Constant}
use Rattle.cli_heads.specs.declared.constant.Constant.TheVariants.{Null}
use Rattle.cli_heads.specs.declared.known.Known.{Known}
use Rattle.cli_heads.specs.declared.maker.Maker.{Maker}
use Rattle.cli_heads.specs.Constant.{constant_of, is_out_of_range, is_by_zero}
use Rattle.cli_heads.specs.Row.{reads_argument, is_operator, unboxes}

-- how deep expressions may be
abbrev pub depth_limit : ℕ
depth_limit = 40

-- the constant that this one of some values is
abbrev pub constant_in : Option Known → Option Constant
constant_in None = None
constant_in (Some v) = v.constant

abbrev pub constant_at : List Known → ℕ → Option Constant
constant_at of k = constant_in (slice_get of k)

abbrev pub is_null : Option Constant → Bool
is_null (Some Null) = true
is_null _ = false

abbrev pub are_constants : List Known → Bool
are_constants of = list_all (λ (v : Known). is_some v.constant) of

-- an operator on constants alone, a constant zero divisor, a conversion of a constant that doesn't fit, or the value in no box
abbrev pub is_odd : Maker → Row → List Known → Bool
is_odd s row of =
    (is_operator s row && are_constants of)
    || is_by_zero row (constant_at of 1) || is_out_of_range row (constant_at of 0) || (unboxes s row && is_null (constant_at of 0))

abbrev pub reads_one : List Known → Bool
reads_one of = list_any (λ (v : Known). v.reads) of

abbrev pub deepest : List Known → ℕ
deepest of = fold (λ depth (v : Known). max depth v.depth) 0 of

-- how deep the values are that stand under one; a constant is a leaf
abbrev pub under : Option Constant → List Known → ℕ
under None of = deepest of
under (Some c) of = 0

-- what is known of the value that the row makes of these
abbrev pub known_by : Row → List Known → Known
known_by row of =
    record {
      constant = constant_of row (constant_at of 0);
      depth = under (constant_of row (constant_at of 0)) of + 1;
      reads = reads_argument row || reads_one of;
    }

-- a head may hold it
abbrev pub is_fine : Maker → Row → List Known → Bool
is_fine s row of = not (is_odd s row of) && nat_lt (under (constant_of row (constant_at of 0)) of) depth_limit

abbrev pub known_of : Maker → Row → List Known → Option Known
known_of s row of = if is_fine s row of then Some (known_by row of) else None
