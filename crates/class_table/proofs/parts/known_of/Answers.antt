use Rattle.std.proofs.Common.{◌≡◌}
use Rattle.std.proofs.lemmas.Result.{err_from_is_err_and}
use Rattle.class_table.proofs.Steps.{fault_last}
use Rattle.class_table.proofs.parts.known_of.Goals as goal

pub returns-in_err-last_parts-clause-fault : goal.returns-in_err-last_parts-clause-fault
returns-in_err-last_parts-clause-fault c =
    let p = err_from_is_err_and c.from_residual-in_err-last_parts.result c.from_residual-in_err-last_parts.ensures.1 in
    let same : p.0 ≡ c.in_err-last_parts.field-0.0 = p.2 in
    rw (p.1, same) (fault_last c.args.types.now c.args.members.now c.args.explicit.now _ c.in_ok-known.ensures.end c.in_ok-known.ensures.names c.in_ok-known.ensures.members c.in_err-last_parts.ensures.fault)
