use Rattle.std.proofs.Common.{subst}
use Rattle.cli_metadata.specs.Metadata.{coded_of}
use Rattle.cli_tables.specs.declared.members.MethodImplRow.{MethodImplRow}
use Rattle.cli_explicit.specs.Explicit.{IsMeantBy}
use Rattle.cli_explicit.proofs.Written.{one_more}
use Rattle.cli_explicit.proofs.pairs.explicit_of.Goals as goal

pub loop-k-preserved : goal.loop-k-preserved
loop-k-preserved c =
    let body = c.meant_by-body.result in
    let declaration = c.meant_by-declaration.result in
    one_more c.args.metadata.now c.args.members.now c.loop-k.k c.loop-k.pairs.items c.push.new.self.items (body, declaration) (
      subst (λ (row : MethodImplRow). IsMeantBy c.args.members.now (coded_of row.body.kind row.body.cell) body) c.row-row.ensures c.meant_by-body.ensures,
      subst (λ (row : MethodImplRow). IsMeantBy c.args.members.now (coded_of row.declaration.kind row.declaration.cell) declaration) c.row-row.ensures c.meant_by-declaration.ensures,
    )
    c.in_ok-push.ensures.items c.loop-k.invariant
