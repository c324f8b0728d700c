use Rattle.std.proofs.Common.{get_or, ◌≡◌, ◌-◌, Some, sym, subst, arith}
use Rattle.std.specs.List.{slice_get}
use Rattle.std.proofs.lemmas.Option.{slice_get_within, slice_get-get_or}
use Rattle.class_rows.specs.declared.row.Virt.{Virt}
use Rattle.cli_slots.specs.Told.{ByOpen, IsVirtBy, of_reference, of_own}
use Rattle.cli_slots.proofs.overridden.virt_by.Goals as goal

pub returns-then-n-known : goal.returns-then-n-known
returns-then-n-known c = of_reference c.if-n-known.true

pub bounds-known-n : goal.bounds-known-n
bounds-known-n c =
    let known = c.args.known.now in
    let lt = slice_get_within known.members.now c.args.m c.args.row.now c.requires.stands in
    let long = c.requires.known.long in
    let own = c.if-n-known.false in
    omega (arith, lt, long, own)

pub returns : goal.returns
returns c =
    let known = c.args.known.now in
    let lt = slice_get_within known.members.now c.args.m c.args.row.now c.requires.stands in
    let long = c.requires.known.long in
    let own = c.if-n-known.false in
    let flags : slice_get known.flags.now (c.args.m - known.own_from) ≡ Some (get_or known.flags.now (c.args.m - known.own_from) 0) =
    slice_get-get_or known.flags.now (c.args.m - known.own_from) 0 (omega (arith, lt, long, own)) in
    subst (λ (v : Virt). IsVirtBy known (ByOpen known c.args.stacks.now.trail) c.args.m c.args.row.now v) (sym c.virt_of.ensures)
    (of_own (get_or known.flags.now (c.args.m - known.own_from) 0) c.overrides.result own flags c.overrides.ensures)
