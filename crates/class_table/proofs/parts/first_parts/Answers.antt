use Rattle.std.proofs.Common.{◌≡◌}
use Rattle.std.proofs.lemmas.Result.{err_from_is_err_and}
use Rattle.class_table.proofs.Steps.{fault_chains, fault_names, fault_members}
use Rattle.class_table.proofs.parts.first_parts.Goals as goal

pub returns-in_err-orders-clause-fault : goal.returns-in_err-orders-clause-fault
returns-in_err-orders-clause-fault c =
    let p = err_from_is_err_and c.from_residual.result c.from_residual.ensures.1 in
    let same : p.0 ≡ c.in_err-orders.field-0.0 = p.2 in
    rw (p.1, same) (fault_chains c.args.types.now c.args.members.now c.args.explicit.now _ c.in_err-orders.ensures.cycle)

pub returns-in_err-unique_names-clause-fault : goal.returns-in_err-unique_names-clause-fault
returns-in_err-unique_names-clause-fault c =
    let p = err_from_is_err_and c.from_residual-in_err-unique_names.result c.from_residual-in_err-unique_names.ensures.1 in
    let same : p.0 ≡ c.in_err-unique_names.field-0.0 = p.2 in
    rw (p.1, same) (fault_names c.args.types.now c.args.members.now c.args.explicit.now _ c.in_ok-orders.ensures.end c.in_err-unique_names.ensures.twice)

pub returns-in_err-members_are_unique-clause-fault : goal.returns-in_err-members_are_unique-clause-fault
returns-in_err-members_are_unique-clause-fault c =
    let p = err_from_is_err_and c.from_residual-in_err-members_are_unique.result c.from_residual-in_err-members_are_unique.ensures.1 in
    let same : p.0 ≡ c.in_err-members_are_unique.field-0.0 = p.2 in
    rw (p.1, same) (fault_members c.args.types.now c.args.members.now c.args.explicit.now _ c.in_ok-orders.ensures.end c.in_ok-unique_names.ensures.unique c.in_err-members_are_unique.ensures.duplicate)
