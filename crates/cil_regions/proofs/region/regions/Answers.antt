use Rattle.std.proofs.Common.{ℕ, List, sym, subst}
use Rattle.std.proofs.lemmas.Option.{MatchOption-at_none, MatchOption-at_some}
use Rattle.std.specs.List.{All}
use Rattle.cil_instruction.specs.declared.instruction.Instr.{Instr}
use Rattle.cil_regions.specs.declared.region.Region.{Region}
use Rattle.cil_regions.specs.Laid.{AreLinked, AreNested, IsFineBy, IsOffBy, IsDepthAnswer}
use Rattle.cil_regions.proofs.Caught.{all_fine, bad_rethrow, are_nested}
use Rattle.cil_regions.proofs.Made.{deep_found, is_region_tree}
use Rattle.cil_regions.proofs.region.regions.Goals as goal

pub misplaced-requires : goal.misplaced-requires
misplaced-requires c =
    let tree = c.in_ok-nodes.ensures.nested.1 in
    subst AreNested (sym c.as_slice.ensures.value) (are_nested c.args.body.now c.in_ok-nodes.nodes.items tree)

pub returns-in-Some-clause-fault : goal.returns-in-Some-clause-fault
returns-in-Some-clause-fault c =
    let nested = c.in_ok-nodes.ensures.nested in
    let place = c.in-Some.place in
    let off = subst (λ (nodes : List Region). IsOffBy nodes c.items.result.now place) c.as_slice.ensures.value (MatchOption-at_some _ _ place c.in-Some.is c.in_ok-place.ensures) in
    let here = subst (λ (code : List (ℕ × Instr)). IsOffBy c.in_ok-nodes.nodes.items code place) c.items.ensures off in
    (nested.0, bad_rethrow c.args.body.now c.in_ok-nodes.nodes.items nested.1 place here)

pub too_deep-requires : goal.too_deep-requires
too_deep-requires c =
    let tree = c.in_ok-nodes.ensures.nested.1 in
    subst AreLinked (sym c.as_slice-2.ensures.value) (are_nested c.args.body.now c.in_ok-nodes.nodes.items tree).linked

pub returns-in-Some-2-clause-fault : goal.returns-in-Some-2-clause-fault
returns-in-Some-2-clause-fault c =
    let body = c.args.body.now in
    let nodes = c.in_ok-nodes.nodes.items in
    let nested = c.in_ok-nodes.ensures.nested in
    let fine = subst (λ (ns : List Region). All (IsFineBy ns) c.items.result.now) c.as_slice.ensures.value (MatchOption-at_none _ _ c.in_default.is c.in_ok-place.ensures) in
    let all = subst (All (IsFineBy nodes)) c.items.ensures fine in
    let answer = subst (λ (ns : List Region). IsDepthAnswer ns c.in_ok-place-2.field-0) c.as_slice-2.ensures.value c.in_ok-place-2.ensures in
    (nested.0, all_fine body nodes nested.1 body.code all, deep_found body nodes nested.1 c.in_ok-place-2.field-0 c.in-Some-2.place answer c.in-Some-2.is)

pub returns-clause-tree : goal.returns-clause-tree
returns-clause-tree c =
    let body = c.args.body.now in
    let nodes = c.in_ok-nodes.nodes.items in
    let nested = c.in_ok-nodes.ensures.nested in
    let fine = subst (λ (ns : List Region). All (IsFineBy ns) c.items.result.now) c.as_slice.ensures.value (MatchOption-at_none _ _ c.in_default.is c.in_ok-place.ensures) in
    let all = subst (All (IsFineBy nodes)) c.items.ensures fine in
    let answer = subst (λ (ns : List Region). IsDepthAnswer ns c.in_ok-place-2.field-0) c.as_slice-2.ensures.value c.in_ok-place-2.ensures in
    is_region_tree body nodes nested.1 c.of.result c.in_ok-place-2.field-0 c.of.ensures nested.0 all answer c.in_default-2.not-Some
