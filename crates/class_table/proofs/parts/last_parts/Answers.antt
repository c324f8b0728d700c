use Rattle.std.proofs.Common.{◌≡◌}
use Rattle.std.proofs.lemmas.Result.{err_from_is_err_and, IfErr-weaker}
use Rattle.class_table.proofs.Steps.{fault_bases, fault_core, fault_interfaces}
use Rattle.class_table.proofs.parts.last_parts.Goals as goal

pub returns-in_err-bases_in_order-clause-fault : goal.returns-in_err-bases_in_order-clause-fault
returns-in_err-bases_in_order-clause-fault c =
    let p = err_from_is_err_and c.from_residual.result c.from_residual.ensures.1 in
    let same : p.0 ≡ c.in_err-bases_in_order.field-0.0 = p.2 in
    rw (p.1, same) (fault_bases c.args.types.now c.args.members.now c.args.explicit.now _ c.in_err-bases_in_order.ensures.missing)

pub returns-in_err-core_is_there-clause-fault : goal.returns-in_err-core_is_there-clause-fault
returns-in_err-core_is_there-clause-fault c =
    let p = err_from_is_err_and c.from_residual-in_err-core_is_there.result c.from_residual-in_err-core_is_there.ensures.1 in
    let same : p.0 ≡ c.in_err-core_is_there.field-0.0 = p.2 in
    rw (p.1, same) (fault_core c.args.types.now c.args.members.now c.args.explicit.now _ c.in_ok-bases_in_order.ensures.there c.in_err-core_is_there.ensures.missing)

pub returns-clause-fault : goal.returns-clause-fault
returns-clause-fault c =
    IfErr-weaker _ _ _ (λ e h. fault_interfaces c.args.types.now c.args.members.now c.args.explicit.now e c.in_ok-bases_in_order.ensures.there c.in_ok-core_is_there.ensures.there h) c.interfaces_are_implemented.ensures.unimplemented
