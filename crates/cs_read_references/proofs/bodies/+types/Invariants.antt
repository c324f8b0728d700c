-- A type of this number calls what stands in it, which calls a type of a lower number. So far the items are what is read in the rounds
-- that are left.
use Rattle.std.proofs.Common.{◌≡◌, ◌+◌, ◌-◌, ◌*◌, true, []}
use Rattle.cs_grammar.specs.Grammar.{turns, read_rounds}
use Rattle.cs_productions.specs.Tokens.{kind}
use Rattle.cs_units.specs.Kinds.{item_kinds}
use Rattle.cs_units.specs.Declarations.{one_more_item}
use Rattle.cs_references.specs.Declarations.{item_at}
use Rattle.cs_read_references.proofs.bodies.+types.Given as goal

abbrev pub decreases-item : goal.decreases-item
decreases-item l = 8 * l.nesting

abbrev pub decreases-one_more_item : goal.decreases-one_more_item
decreases-one_more_item l = 8 * l.nesting + 1

abbrev pub decreases-items : goal.decreases-items
decreases-items l = 8 * l.nesting + 2

abbrev pub decreases-body_type : goal.decreases-body_type
decreases-body_type l = 8 * l.nesting + 3

abbrev pub decreases-type_behind : goal.decreases-type_behind
decreases-type_behind l = 8 * l.nesting + 4

abbrev pub decreases-type_item : goal.decreases-type_item
decreases-type_item l = 8 * l.nesting + 5

abbrev pub invariant-items-turns : goal.invariant-items-turns
invariant-items-turns l =
    (turns kind item_kinds (λ _. true) (one_more_item (item_at l.limit l.nesting)) []).reads l.fn.tokens ≡ read_rounds kind item_kinds (λ _. true) (one_more_item (item_at l.limit l.nesting)) (l.end - l.counter) l.so_far l.tokens
