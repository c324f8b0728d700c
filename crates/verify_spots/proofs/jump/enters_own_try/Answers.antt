use Rattle.std.proofs.Common.{List, subst}
use Rattle.std.specs.Bool.{OnTrue, OnFalse}
use Rattle.cil_body.specs.declared.body.Clause.{Clause}
use Rattle.verify_spots.specs.Questions.{HasOwnTry}
use Rattle.verify_spots.proofs.jump.enters_own_try.Goals as goal

pub returns-clause-yes : goal.returns-clause-yes
returns-clause-yes c = subst (λ (clauses : List Clause). OnTrue c.has_own_try.result (HasOwnTry c.args.regions.now.body.now clauses c.args.from c.args.to)) c.items.ensures c.has_own_try.ensures.yes

pub returns-clause-no : goal.returns-clause-no
returns-clause-no c = subst (λ (clauses : List Clause). OnFalse c.has_own_try.result (HasOwnTry c.args.regions.now.body.now clauses c.args.from c.args.to → ⊥)) c.items.ensures c.has_own_try.ensures.no
