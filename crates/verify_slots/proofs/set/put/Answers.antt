use Rattle.std.proofs.Common.{List, sym, subst, refl}
use Rattle.dc_base.specs.declared.ty.Ty.{Ty}
use Rattle.verify_slots.specs.Sets.{IsPut}
use Rattle.verify_slots.proofs.Put.{put_at, put_in_order}
use Rattle.verify_slots.proofs.set.put.Goals as goal

pub returns-in_ok-insert-clause-put : goal.returns-in_ok-insert-clause-put
returns-in_ok-insert-clause-put c =
    subst (λ (zs : List Ty). IsPut c.args.set.now.items c.args.ty zs) (sym c.in_ok-insert.ensures.items) (put_at c.args.set.now.items c.in-Err.place c.args.ty)

pub returns-in_ok-insert-clause-ordered : goal.returns-in_ok-insert-clause-ordered
returns-in_ok-insert-clause-ordered c =
    put_in_order c.args.set.now.items c.deref.result.now c.insert.new.self.items c.in-Err.place c.args.ty c.deref.ensures.value c.in-Err.ensures.bound c.in-Err.ensures.position c.in_ok-insert.ensures.items
    (λ d. c.in_ok-insert.ensures.by_index.0 d refl) c.in_ok-insert.ensures.by_index.1 (λ k d lt. c.in_ok-insert.ensures.by_index.2 k d refl lt)
