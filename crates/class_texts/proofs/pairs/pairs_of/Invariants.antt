use Rattle.std.proofs.Common.{◌≡◌, map, take}
use Rattle.std.specs.Prelude.{All}
use Rattle.class_texts.specs.Pairs.{IsPair}
use Rattle.class_texts.proofs.pairs.pairs_of.Given as goal

abbrev pub invariant-loop-index : goal.invariant-loop-index
invariant-loop-index l =
    record {
      each : map (λ p. p.0.0) l.pairs.items ≡ take l.index l.asked.items;
      right : All (IsPair l.types l.rows) l.pairs.items;
    }
