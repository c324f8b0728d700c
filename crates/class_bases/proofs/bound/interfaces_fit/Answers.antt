use Rattle.std.proofs.Common.{◌≡◌, refl, arith}
use Rattle.dc_base.specs.declared.names.TypeId.{TypeId}
use Rattle.class_rows.specs.declared.row.Kind.TheVariants.{Interface}
use Rattle.class_rows.specs.Types.{HasType}
use Rattle.class_keys.proofs.Items.{taken_more}
use Rattle.class_bases.proofs.bound.interfaces_fit.Goals as goal

pub loop-interface-preserved : goal.loop-interface-preserved
loop-interface-preserved c =
    taken_more (λ (i : TypeId). HasType c.args.types.now i.0 (λ row. row.kind ≡ Interface)) c.args.named.now c.loop-interface.interface-index _ c.loop-interface-test.true c.loop-interface.invariant (c.if-not-is_interface.ensures.yes refl)
