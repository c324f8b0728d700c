use Rattle.std.proofs.Common.{◌≡◌, ◌∙◌, List, ap, sym, subst}
use Rattle.class_rows.specs.declared.row.TypeRow.{TypeRow}
use Rattle.class_rows.specs.Lookups.{IsAssignable}
use Rattle.class_table.specs.Rows.{Rows}
use Rattle.class_table.proofs.table.ClassTable.assignable.Goals as goal

pub returns-clause-no : goal.returns-clause-no
returns-clause-no c = λ h.
    let same : c.as_slice.result.now ≡ c.args.self.now.types = c.as_slice.ensures.value ∙ ap (λ (r : Rows). r.types) c.self.view_is in
    c.assignable.ensures.no (λ k s at. subst (λ (ts : List TypeRow). IsAssignable ts s c.args.to) (sym same) (h k s at))
