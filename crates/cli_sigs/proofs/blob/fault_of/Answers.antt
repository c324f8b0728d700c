use Rattle.std.proofs.Common.{IfOk, sym, subst}
use Rattle.cli_sigs.specs.declared.form.Form.{Form}
use Rattle.cli_sigs.specs.Forms.{IsFault, IsThe}
use Rattle.cli_sigs.proofs.blob.fault_of.Goals as goal

pub returns-in-Type_ : goal.returns-in-Type_
returns-in-Type_ c = subst (λ (form : Form). IfOk c.type_fault.result (IsThe (IsFault form c.args.blob.now))) (sym c.in-Type_.is) c.type_fault.ensures
