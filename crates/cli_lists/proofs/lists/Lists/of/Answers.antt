use Rattle.std.proofs.Common.{rules, subst, Err, Ok, [], ◌∷◌}
use Rattle.cli_lists.specs.declared.lists.Lists.{Lists}
use Rattle.cli_lists.specs.declared.owner.Owner.TheVariants.{TypeDef, MethodDef, PropertyMap}
use Rattle.dc_causes.specs.Rows.{OfRows}
use Rattle.cli_lists.specs.Lists.{owners, BeginsLists}
use Rattle.cli_lists.proofs.Wrong.{row_fits, are_lists, each_row}
use Rattle.cli_lists.proofs.lists.Lists.of.Goals as goal

pub token-requires : goal.token-requires
token-requires c =
    let broken = subst (λ (lists : Lists). OfRows owners BeginsLists lists (TypeDef ∷ MethodDef ∷ PropertyMap ∷ []) (Err (c.in-Some.owner, c.in-Some.row))) c.in_ok-lists.ensures c.in-Some.ensures.broken in
    row_fits c.args.metadata.now c.in-Some.owner c.in-Some.row c.requires.few broken

pub returns-in-Some-clause-fault : goal.returns-in-Some-clause-fault
returns-in-Some-clause-fault c =
    let broken = subst (λ (lists : Lists). OfRows owners BeginsLists lists (TypeDef ∷ MethodDef ∷ PropertyMap ∷ []) (Err (c.in-Some.owner, c.in-Some.row))) c.in_ok-lists.ensures c.in-Some.ensures.broken in
    ((c.in-Some.owner, c.in-Some.row), broken, search rules)

pub returns-in-None-clause-lists : goal.returns-in-None-clause-lists
returns-in-None-clause-lists c =
    let met = subst (λ (lists : Lists). OfRows owners BeginsLists lists (TypeDef ∷ MethodDef ∷ PropertyMap ∷ []) (Ok tt)) c.in_ok-lists.ensures c.in-None.ensures.met in
    rw c.in_ok-lists.ensures (are_lists c.args.metadata.now c.requires.few met)

pub returns-in-None-clause-each_row : goal.returns-in-None-clause-each_row
returns-in-None-clause-each_row c = rw c.in_ok-lists.ensures (each_row c.args.metadata.now)
