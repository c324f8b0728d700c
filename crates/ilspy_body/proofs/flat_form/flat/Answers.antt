-- The flat form of a lone body's code runs as the code.
use Rattle.std.proofs.Common.{subst, sym}
use Rattle.std.proofs.lemmas.Result.{IfOk-weaker}
use Rattle.cs_body.specs.declared.body.Role.TheVariants.{SlotVar}
use Rattle.ilspy_body.specs.Theorem.{RunsAsTheCode}
use Rattle.ilspy_body.proofs.Returns.{LoneLaws, flat_runs_as}
use Rattle.ilspy_body.proofs.flat_form.flat.Goals as goal

pub returns-clause-same : goal.returns-clause-same
returns-clause-same c = λ file short lone.
    let laws : LoneLaws = record {
      walks = c.balance_is_a_walk.ensures;
      consecutive = c.code_fills_the_file.ensures.consecutive;
      operands = c.code_fills_the_file.ensures.operands;
    } in
    IfOk-weaker _ _ (RunsAsTheCode c.args.code.now)
    (λ body is. subst (RunsAsTheCode c.args.code.now) (sym is) (flat_runs_as laws SlotVar (λ e. cc) file c.args.code.now short lone).runs) c.flattened.ensures
