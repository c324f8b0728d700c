use Rattle.std.proofs.Common.{rules, ◌≡◌, ℕ, List, Option, None, replicate, sym, subst, arith}
use Rattle.cli_params.specs.Put.{IsPut, AreBefore}
use Rattle.cli_params.proofs.Written.{none_yet, one_more, all_rows, is_row}
use Rattle.cli_params.proofs.rows.param_rows.Goals as goal

pub loop-r-init : goal.loop-r-init
loop-r-init c =
    let is : c.in_ok-found.found.items ≡ replicate c.args.count None = search rules in
    subst (λ (xs : List (Option ℕ)). AreBefore c.args.metadata.now c.args.params.now c.args.k c.args.count c.list-list.result.start xs) (sym is)
    (none_yet c.args.metadata.now c.args.params.now c.args.k c.args.count c.list-list.result.start (λ r at. ((c.list-list.ensures r).1 at).0))

pub sequence-sequence-requires : goal.sequence-sequence-requires
sequence-sequence-requires c =
    let test = c.loop-r-test.true in
    let from = c.loop-r.auto.r in
    is_row c.args.metadata.now c.args.params.now c.args.k c.loop-r.r c.requires.column c.requires.same ((c.list-list.ensures c.loop-r.r).0 (omega (arith, from, test), test))

pub loop-r-preserved : goal.loop-r-preserved
loop-r-preserved c =
    let test = c.loop-r-test.true in
    let from = c.loop-r.auto.r in
    one_more c.args.metadata.now c.args.params.now c.args.k c.args.count c.loop-r.r c.loop-r.found.items c.with_row-found.result.items
    ((c.list-list.ensures c.loop-r.r).0 (omega (arith, from, test), test)) c.loop-r.invariant
    (subst (λ (n : ℕ). IsPut n c.loop-r.r c.loop-r.found.items c.with_row-found.result.items) c.sequence-sequence.ensures c.with_row-found.ensures)

pub returns : goal.returns
returns c =
    let over = c.loop-r-test.false in
    all_rows c.args.metadata.now c.args.params.now c.args.k c.args.count c.loop-r.r c.loop-r.found.items
    (λ r at. let within = ((c.list-list.ensures r).1 at).1 in omega (arith, within, over)) c.loop-r.invariant
