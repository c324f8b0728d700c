use Rattle.std.proofs.lemmas.Result.{IfOk-weaker}
use Rattle.std.proofs.Common.{Vec, ◌∙◌, List, ℕ, Bool, subst}
use Rattle.std.specs.declared.alloc.Global.{Global}
use Rattle.cli_reached.specs.Reached.{AreReached}
use Rattle.cli_reached_rows.proofs.Sets.{are_marked}
use Rattle.cli_reached_rows.proofs.marks.reached_rows.Goals as goal

pub returns : goal.returns
returns c =
    IfOk-weaker _ _ _ (λ (marks : Vec Bool Global) are.
    are_marked c.args.metadata.now c.args.roots.now c.in_ok-names.names.items marks.items c.names_are_one.ensures.one c.names_are_one.ensures.numbered c.names_are_one.ensures.told c.names_are_one.ensures.below c.in_ok-names.ensures
    (subst (λ (xs : List ℕ). AreReached xs c.in_ok-names.names.items marks.items) (c.as_slice.ensures.value ∙ c.in_ok-numbers.ensures)
    (subst (λ (xs : List (List ℕ)). AreReached c.as_slice.result.now xs marks.items) c.as_slice-2.ensures.value are))) c.reached.ensures
