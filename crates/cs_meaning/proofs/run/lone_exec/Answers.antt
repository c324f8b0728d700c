use Rattle.std.proofs.Common.{◌≡◌, ℤ, length, Some, IsSome, sym, ◌∙◌, subst, rules}
use Rattle.std.proofs.lemmas.Int.{to_z-of_z}
use mir.Syntax.{w32}
use mir.Val.{SFits}
use Rattle.cs_meaning.specs.Meaning.{CsReturns, first_values}
use Rattle.cs_meaning.specs.Run.{returned_int}
use Rattle.cs_meaning.proofs.Lone.{lone_result}
use Rattle.cs_meaning.proofs.run.lone_exec.Goals as goal
use Rattle.cs_meaning.proofs.run.lone_exec.Goals.{After-returned_int}

-- the int that the run returned
found : (c : After-returned_int) → (y : ℤ) × (returned_int c.in_ok-ended.ended ≡ Some y) × CsReturns c.args.body.now c.args.args y
found c =
    let four : length c.args.args ≡ 4 = search rules in
    let vars : c.in_ok-vars.vars ≡ first_values c.args.body.now.vars c.args.args = search rules in
    lone_result c.args.body.now c.args.args four c.requires.typed c.requires.assigned
    c.as_slice.result.now c.len.result c.in_ok-vars.vars (search rules) (search rules) vars
    c.in_ok-ended.ended c.exec.new.state c.exec.new.fuel c.in_ok-ended.ensures

pub unwrap-requires : goal.unwrap-requires
unwrap-requires c = subst IsSome (sym (c.returned_int.ensures ∙ (found c).1)) (search rules)

pub returns : goal.returns
returns c =
    let y = found (goal.at.returns c).After-returned_int in
    let fits : SFits w32 c.unwrap.result = search rules in
    let same : y.0 ≡ c.unwrap.result = cc in
    rw (to_z-of_z w32 c.unwrap.result fits) (subst (CsReturns c.args.body.now c.args.args) same y.2)
