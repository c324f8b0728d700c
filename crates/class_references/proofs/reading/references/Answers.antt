use Rattle.std.proofs.Common.{◌≡◌, subst}
use Rattle.std.specs.Str.{chars}
use Rattle.dc_base.specs.declared.failure.Or.{Or}
use Rattle.dc_causes.specs.Answer.{OnFault}
use Rattle.class_rows.specs.declared.fault.TableFault.{TableFault}
use Rattle.class_rows.specs.Table.{MakeTable}
use Rattle.std.proofs.lemmas.Result.{err_from_is_err_and}
use Rattle.class_references.proofs.Steps.{fault_of_text, fault_of_rows, table_of_rows}
use Rattle.class_references.proofs.reading.references.Goals as goal

pub returns-in_err-types-clause-fault : goal.returns-in_err-types-clause-fault
returns-in_err-types-clause-fault c =
    let p = err_from_is_err_and c.from_residual.result c.from_residual.ensures.1 in
    let same : p.0 ≡ c.in_err-types.field-0.0 = p.2 in
    rw (p.1, same) (fault_of_text (chars c.args.source.now) _ c.in_err-types.ensures.fault)

pub returns-in-Ok-clause-table : goal.returns-in-Ok-clause-table
returns-in-Ok-clause-table c =
    let rows = c.in_ok-types.field-0 in
    table_of_rows (chars c.args.source.now) rows.types.items rows.members.items rows.explicit.items c.in-Ok.table c.in_ok-types.ensures.rows c.in-Ok.ensures.rows c.in-Ok.ensures.table

pub returns-in-Err-Fault-clause-fault : goal.returns-in-Err-Fault-clause-fault
returns-in-Err-Fault-clause-fault c =
    let rows = c.in_ok-types.field-0 in
    fault_of_rows (chars c.args.source.now) rows.types.items rows.members.items rows.explicit.items c.in-Err-Fault.fault c.in_ok-types.ensures.rows
    (subst (λ (o : Or TableFault). OnFault (MakeTable rows.types.items rows.members.items rows.explicit.items) o) c.in-Err-Fault.field-0-is c.in-Err-Fault.ensures.fault)
