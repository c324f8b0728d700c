use Rattle.std.proofs.Common.{rules, arith}
use Rattle.cil_rows.specs.Code.{number_at}
use Rattle.cil_rows.proofs.Numbers.{map_next}
use Rattle.cil_rows.proofs.code.numbers.Goals as goal

pub loop-place-preserved : goal.loop-place-preserved
loop-place-preserved c =
    map_next (number_at c.args.starts.now) c.args.places.now c.loop-place.numbers.items c.push.new.self.items
    c.loop-place.place-index c.in_ok-number.field-0 0 (omega arith) c.loop-place.invariant (search rules) (search rules)
