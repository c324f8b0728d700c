-- Parameters are the same where their types and ways are.
use Rattle.std.proofs.Common.{◌≡◌, ap, ◌∙◌}
use Rattle.dc_base.specs.declared.ty.Ty.{Ty}
use Rattle.class_rows.specs.declared.row.Param.{Param}
use Rattle.class_rows.specs.declared.row.Way.{Way}

pub same : (p q : Param) → p.ty ≡ q.ty → p.way ≡ q.way → p ≡ q
same p q e f = ap (λ (t : Ty). record { ty = t; way = p.way }) e ∙ ap (λ (w : Way). record { ty = q.ty; way = w }) f
