use Rattle.std.proofs.Common.{◌≡◌, map, take}
use Rattle.class_written.specs.TypeRows.{super}
use Rattle.class_written.proofs.rows.supers.Given as goal

abbrev pub invariant-loop-form : goal.invariant-loop-form
invariant-loop-form l = l.named.items ≡ map (super l.types) (take l.form-index l.forms)
