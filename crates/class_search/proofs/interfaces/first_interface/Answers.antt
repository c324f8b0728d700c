use Rattle.std.proofs.Common.{◌≡◌, [], Some}
use Rattle.std.proofs.lemmas.List.{nil_from_length}
use Rattle.class_search.proofs.Left.{go_on, go_lower, go_no_further}
use Rattle.class_search.proofs.interfaces.first_interface.Goals as goal

pub returns-in_err-spread : goal.returns-in_err-spread
returns-in_err-spread c =
    let none_ : c.loop-first.own.now ≡ [] = nil_from_length c.loop-first.own.now c.in_default.ensures.cases in
    let on : c.loop-first.onward ≡ Some c.in_ok-onward.field-0 = c.in_ok-onward.was in
    let nothing = go_no_further c.requires.types c.args.supers.now.orders.bases c.requires.first c.args.supers.now.spreads c.requires.links _ _ c.loop-first.onward c.in_ok-onward.field-0 c.items.result.now c.loop-first.invariant none_ on c.items.ensures c.in_err-spread.ensures.none in
    rw c.from_residual-in_err-spread.ensures nothing

pub loop-first-smaller : goal.loop-first-smaller
loop-first-smaller c =
    go_lower c.requires.types c.args.supers.now.orders.bases c.requires.first c.args.supers.now.spreads c.requires.links c.loop-first.onward c.in_ok-onward.field-0 c.in_ok-spread.spread.now c.items.result.now c.in_ok-onward.was c.items.ensures c.in_ok-spread.ensures.some

pub loop-first-preserved : goal.loop-first-preserved
loop-first-preserved c =
    let none_ : c.loop-first.own.now ≡ [] = nil_from_length c.loop-first.own.now c.in_default.ensures.cases in
    go_on c.requires.types c.args.supers.now.orders.bases c.requires.first c.args.supers.now.spreads c.requires.links _ c.loop-first.own.now c.items-own.result.now c.loop-first.onward c.in_ok-onward.field-0 c.in_ok-spread.spread.now c.items.result.now c.loop-first.invariant none_ c.in_ok-onward.was c.items.ensures c.in_ok-spread.ensures.some c.items-own.ensures
