use Rattle.std.proofs.Common.{ap, rules}
use Rattle.std.proofs.lemmas.Fn.{always_returns_same}
use Rattle.std.proofs.lemmas.List.Sorted.{ranks_by}
use Rattle.std.specs.Ordering.{is_lt}
use Rattle.class_index.specs.Order.{order_cmp}
use Rattle.class_index.proofs.Order.{order_total}
use Rattle.class_index.proofs.index.MemberIndex.of.Goals as goal

pub returns : goal.returns
returns c =
    let sorted = c.in_ok-sort_by.ensures.sorted (λ m n. is_lt (order_cmp c.args.members.now m n)) (ranks_by (order_total c.args.members.now) (λ n. n)) (always_returns_same _ _ _ (λ a r f h. (ap is_lt (search rules), search rules))) in
    record { all = search rules; sorted = search rules }
