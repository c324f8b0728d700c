use Rattle.std.proofs.Common.{◌≡◌, ℕ, ◌+◌, List, Option, Some, None, get_or, subst}
use Rattle.std.specs.List.{slice_get}
use Rattle.std.proofs.lemmas.Option.{slice_get-get_or}
use Rattle.cli_params.proofs.Written.{row_there, name_more}
use Rattle.cli_params.proofs.names.param_names.Goals as goal

pub name_in-requires : goal.name_in-requires
name_in-requires c = λ r is.
    let row = get_or c.as_slice-row-items.result.now c.loop-row.row-index None in
    let stands = slice_get-get_or c.as_slice-row-items.result.now c.loop-row.row-index None c.loop-row-test.true in
    let first = c.in_ok-rows.ensures.each c.loop-row.row-index row (subst (λ (xs : List (Option ℕ)). slice_get xs c.loop-row.row-index ≡ Some row) c.as_slice-row-items.ensures.value stands) in
    row_there c.args.metadata.now c.args.params.now c.args.k (c.loop-row.row-index + 1) row c.requires.column c.requires.same first r is

pub loop-row-preserved : goal.loop-row-preserved
loop-row-preserved c =
    let row = get_or c.as_slice-row-items.result.now c.loop-row.row-index None in
    let stands = slice_get-get_or c.as_slice-row-items.result.now c.loop-row.row-index None c.loop-row-test.true in
    let first = c.in_ok-rows.ensures.each c.loop-row.row-index row (subst (λ (xs : List (Option ℕ)). slice_get xs c.loop-row.row-index ≡ Some row) c.as_slice-row-items.ensures.value stands) in
    name_more c.args.metadata.now c.args.params.now c.args.k c.loop-row.row-index c.loop-row.names.items c.push.new.self.items row _ first c.in_ok-name_in.ensures c.in_ok-push.ensures.items c.loop-row.invariant
