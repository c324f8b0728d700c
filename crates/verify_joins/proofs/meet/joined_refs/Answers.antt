use Rattle.std.proofs.Common.{List, subst}
use Rattle.dc_base.specs.declared.ty.Ty.{Ty}
use Rattle.verify_slots.specs.Slots.{IsSubset, IsUnited}
use Rattle.verify_slots.proofs.United.{united_refs}
use Rattle.verify_joins.proofs.meet.joined_refs.Goals as goal

pub returns-in_ok-all-in-Refs-clause-united : goal.returns-in_ok-all-in-Refs-clause-united
returns-in_ok-all-in-Refs-clause-united c =
    let all = subst (λ (types : List Ty). IsUnited IsSubset c.args.set.now types c.in_ok-all-in-Refs.all) c.items.ensures c.in_ok-all-in-Refs.ensures.united in
    rw c.in-Refs.is (united_refs c.args.set.now c.in-Refs.types c.in_ok-all-in-Refs.all c.args.mark c.in-Refs.also c.joined_mark.result all c.joined_mark.ensures.own c.joined_mark.ensures.left c.joined_mark.ensures.right)
