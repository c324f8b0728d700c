use Rattle.std.proofs.Common.{◌≤◌, ◌-◌, length}
use Rattle.cli_signature.specs.Grammar.{IsLead, IsCount}
use Rattle.cli_signature.specs.Reading.{Reached, results_of}
use Rattle.cli_signature.proofs.signature.counted.Given as goal

abbrev pub invariant-loop-slot : goal.invariant-loop-slot
invariant-loop-slot l =
    record {
      lead : IsLead l.fn.kind l.lead;
      count : IsCount l.fn.kind l.total;
      reached : Reached l.fn.kind l.lead l.total l.blob l.at l.slot l.types.items;
      few : length l.types.items ≤ l.total;
      results : results_of l.fn.kind ≤ l.total;
    }

abbrev pub decreases-loop-slot : goal.decreases-loop-slot
decreases-loop-slot l = l.total - length l.types.items
