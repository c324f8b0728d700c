use Rattle.std.proofs.Common.{arith}
use Rattle.std.proofs.lemmas.Bool.{ltb-true, ltb-false, leb-false}
use Rattle.cli_lists.specs.Starts.{IsInList}
use Rattle.cli_profile.proofs.Answered.{on_true, on_false}
use Rattle.cli_profile.proofs.rows.in_first_list.Goals as goal

pub returns-then-list-n-clause-yes : goal.returns-then-list-n-clause-yes
returns-then-list-n-clause-yes c = on_true (IsInList c.args.column.now.rows c.args.column.now.cells 1 c.args.n) _ (λ e. (c.list-list.ensures c.args.n).0 (c.if-list-n.true, ltb-true _ _ e))

pub returns-then-list-n-clause-no : goal.returns-then-list-n-clause-no
returns-then-list-n-clause-no c = on_false (IsInList c.args.column.now.rows c.args.column.now.cells 1 c.args.n) _ (λ e listed. omega (arith, ltb-false _ _ e, ((c.list-list.ensures c.args.n).1 listed).1))

pub returns-else-list-n-clause-no : goal.returns-else-list-n-clause-no
returns-else-list-n-clause-no c = on_false (IsInList c.args.column.now.rows c.args.column.now.cells 1 c.args.n) _ (λ e listed. omega (arith, leb-false _ _ e, ((c.list-list.ensures c.args.n).1 listed).0))
