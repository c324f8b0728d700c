use Rattle.std.proofs.Common.{arith}
use Rattle.std.proofs.lemmas.Option.{slice_get_within}
use Rattle.verify_spots.proofs.Marks.{row_some, row_all}
use Rattle.verify_spots.proofs.aim.aimed.Goals as goal

pub loop-row-preserved : goal.loop-row-preserved
loop-row-preserved c =
    let was = c.loop-row.invariant.as_many in
    let now = c.mark.ensures.as_many in
    record {
      as_many = omega (arith, was, now);
      some =
          row_some c.args.setting.now c.loop-row.row-index c.row-item.result c.loop-row-test.true c.row-item.is c.aims.result.now c.aims.ensures c.loop-row.aimed.items c.mark.new.marks.items
          c.loop-row.invariant.some c.mark.ensures.some;
      all =
          row_all c.args.setting.now c.loop-row.row-index c.row-item.result c.loop-row-test.true c.row-item.is c.aims.result.now c.aims.ensures c.loop-row.aimed.items c.mark.new.marks.items
          c.loop-row.invariant.all c.mark.ensures.kept c.loop-row.invariant.as_many c.mark.ensures.all;
    }

pub returns : goal.returns
returns c = record {
  as_many = c.loop-row.invariant.as_many;
  some = c.loop-row.invariant.some;
  all = λ i lt aim.
      let within = slice_get_within c.args.setting.now.rows.now aim.0 aim.1 aim.2 in
      let many = c.loop-row.invariant.as_many in
      c.loop-row.invariant.all aim.0 (omega (arith, within, c.loop-row-test.false)) aim.1 aim.2 i (omega (arith, lt, many)) aim.3;
}
