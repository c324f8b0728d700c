use Rattle.std.proofs.Common.{◌≤◌, ◌^◌, length, arith}
use Rattle.cil_body.specs.Body.{IsBody}
use Rattle.cil_regions.proofs.tests.regions.tree_of.Goals as goal

pub regions-requires : goal.regions-requires
regions-requires g c =
    let short : length c.as_slice.result.now ≤ 2 ^ 31 = omega (arith, c.as_slice.ensures.len) in
    let read : IsBody c.as_slice.result.now 0x4000 c.expect-body.result = rw c.expect-body.ensures at c.decode.ensures.read in
    c.body_has_ranges.ensures c.as_slice.result.now 0x4000 c.expect-body.result short read
