use Rattle.std.proofs.Common.{List, ℕ, Bool, Vec, Global, length, sym, subst}
use Rattle.std.proofs.lemmas.Result.{IfOk-weaker}
use Rattle.cli_refs.specs.declared.pick.Place.{Place}
use Rattle.cli_refs.specs.Picks.{ArePlaces, ArePicked}
use Rattle.cli_refs.proofs.FirstOf.{place_tells, are_picks}
use Rattle.cli_refs.proofs.pick.picks_of.Goals as goal

pub returns : goal.returns
returns c =
    let members = c.args.members.now in
    let signs = c.args.signs.now in
    let placed = subst (λ (l : List Place). ArePlaces members signs (length members) l) (sym c.as_slice.ensures.value) c.in_ok-places.ensures in
    let first = c.in_ok-firsts.ensures in
    IfOk-weaker _ _ _
    (λ (picks : Vec Bool Global) are. are_picks _ place_tells c.args.count members signs _ c.in_ok-firsts.firsts.items picks.items placed first (subst (λ (l : List ℕ). ArePicked c.args.count members l (length members) picks.items) c.as_slice-2.ensures.value are) c.requires)
    c.picked.ensures
