use Rattle.std.proofs.Common.{rules}
use Rattle.std.proofs.lemmas.List.Sorted.{answers_always}
use Rattle.cil_regions.proofs.Ordered.{are_ordered, key}
use Rattle.cil_regions.proofs.span.ordered.Goals as goal

pub returns : goal.returns
returns c =
    are_ordered c.args.body.now c.in_ok-spans.spans.items c.sort_by_key.new.self.items c.in_ok-spans.ensures c.sort_by_key.ensures.permutation
    (c.in_ok-sort_by_key.ensures.sorted key (answers_always _ _ _ (λ f a r g h. search rules)))
