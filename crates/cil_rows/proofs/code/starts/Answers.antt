-- The chain gives the first part of each item.
use Rattle.std.proofs.Common.{◌≡◌, rules, tests}
use Rattle.std.proofs.lemmas.Iterator.{YieldsList-from_slice, YieldsList-from_map, items_from_collect}
use Rattle.std.proofs.lemmas.Result.{IfOk-at_ok}
use Rattle.cil_rows.specs.Code.{Placed, starts_of}
use Rattle.cil_rows.proofs.code.starts.Goals as goal

pub returns : goal.returns
returns c =
    IfOk-at_ok (λ w. w.items ≡ starts_of c.args.code.now) c.in_ok-collect.was
    (items_from_collect c.collect.result c.collect.ensures.ran
    (YieldsList-from_map _ (λ (e : Placed). e.0) (YieldsList-from_slice c.args.code.now cc) c.map.ensures.closure (λ x r q k. search (rules, tests))))
