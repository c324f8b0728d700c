use Rattle.std.proofs.Common.{List, sym, subst}
use Rattle.std.specs.List.{Contains}
use Rattle.dc_base.specs.declared.ty.Ty.{Ty}
use Rattle.verify_slots.specs.Sets.{IsPut}
use Rattle.verify_narrower.specs.Narrower.{IsOnce}
use Rattle.verify_joins.proofs.Kept.{once_push, put_push}
use Rattle.verify_joins.proofs.set.put.Goals as goal

pub returns-clause-put : goal.returns-clause-put
returns-clause-put c =
    subst (λ (zs : List Ty). IsPut c.args.set.now.items c.args.ty zs) (sym c.in_ok-push.ensures.items) (put_push c.args.set.now.items c.args.ty)

pub returns-clause-once : goal.returns-clause-once
returns-clause-once c = λ once.
    subst IsOnce (sym c.in_ok-push.ensures.items)
    (once_push c.args.set.now.items c.args.ty (subst (λ (zs : List Ty). Contains zs c.args.ty → ⊥) c.as_slice.ensures.value c.if-has.ensures.no) once)
