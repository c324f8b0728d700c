-- The tries of the catches that were looked at so far, each range with the number of its first clause.
use Rattle.std.specs.Prelude.{ℕ, Bool, ◌&&◌, ◌==◌, Option, Some, unwrap_or, is_some, not, if◌then◌else◌}
use Rattle.std.specs.Ordering.{nat_cmp, ordering_then}
use Rattle.std.specs.BTreeMap.{BTreeMap, get}
use Rattle.cil_body.specs.declared.body.Clause.{Clause}
use Rattle.cil_regions.specs.Region.{is_catch}

-- a try's place and its length
abbrev pub Range : Type 0
Range = ℕ × ℕ

abbrev pub range_of : Clause → Range
range_of c = (c.try_at, c.try_len)

abbrev pub same_range : Range → Range → Bool
same_range r s = (r.0 == s.0) && (r.1 == s.1)

-- what is known of a range
abbrev pub found_at : BTreeMap Range ℕ → Range → Option ℕ
found_at tries q = get (λ x y. ordering_then (nat_cmp x.0 y.0) (nat_cmp x.1 y.1)) tries q

-- the first clause over the range of this one, if it is a catch and an earlier one is known
abbrev pub first_by : BTreeMap Range ℕ → Clause → ℕ → ℕ
first_by tries c number = if is_catch c.kind then unwrap_or (found_at tries (range_of c)) number else number

-- what is known behind it
abbrev pub found_behind : BTreeMap Range ℕ → Clause → ℕ → Range → Option ℕ
found_behind tries c number q =
    if is_catch c.kind && same_range (range_of c) q && not (is_some (found_at tries q)) then Some number else found_at tries q
