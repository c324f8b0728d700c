use Rattle.std.proofs.Common.{map, ◌≡◌, ◌+◌, subst}
use Rattle.dc_base.specs.declared.names.TypeId.{TypeId}
use Rattle.cli_tables.specs.declared.types.InterfaceImplRow.{InterfaceImplRow}
use Rattle.cli_own.specs.Interfaces.{implemented, interface_of, IsAdded}
use Rattle.cli_own.proofs.Named.{empty_in, one_more}
use Rattle.cli_own.proofs.interfaces.interfaces_of.Goals as goal

pub loop-preserved : goal.loop-preserved
loop-preserved c =
    empty_in (λ l. l.items) c.loop.counter c.loop.lists.items c.push.new.self.items c.new.result c.in_ok-push.ensures.items c.new.ensures.items c.loop.invariant

pub loop-k-preserved : goal.loop-k-preserved
loop-k-preserved c =
    let m = c.args.metadata.now in
    let before = map (λ l. l.items) c.loop-k.lists.items in
    let after = map (λ l. l.items) c.in_ok-lists.lists.items in
    let row : c.row-row.result ≡ implemented m (c.loop-k.k + 1) = c.row-row.ensures in
    let added : IsAdded c.row-row.result.class (interface_of c.args.tokens.now c.row-row.result) before after =
    subst (λ (i : TypeId). IsAdded c.row-row.result.class i before after) c.interface.ensures c.in_ok-lists.ensures in
    one_more m c.args.tokens.now c.loop-k.k before after c.loop-k.invariant
    (subst (λ (r : InterfaceImplRow). IsAdded r.class (interface_of c.args.tokens.now r) before after) row added)
