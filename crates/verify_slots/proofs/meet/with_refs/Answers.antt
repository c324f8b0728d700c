use Rattle.std.proofs.Common.{List, subst}
use Rattle.dc_base.specs.declared.ty.Ty.{Ty}
use Rattle.verify_slots.specs.Slots.{IsSubset, IsUnited}
use Rattle.verify_slots.proofs.United.{united_refs}
use Rattle.verify_slots.proofs.meet.with_refs.Goals as goal

pub returns-in_ok-all-in-Refs : goal.returns-in_ok-all-in-Refs
returns-in_ok-all-in-Refs c =
    let all = subst (λ (types : List Ty). IsUnited IsSubset c.args.set.now types c.in_ok-all-in-Refs.all) c.items.ensures c.in_ok-all-in-Refs.ensures.united in
    rw c.in-Refs.is (united_refs c.args.set.now c.in-Refs.types c.in_ok-all-in-Refs.all c.args.mark c.in-Refs.also c.united_mark.result all c.united_mark.ensures.own c.united_mark.ensures.left c.united_mark.ensures.right)
