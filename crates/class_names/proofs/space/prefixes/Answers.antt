use Rattle.std.proofs.Common.{rules, refl, ◌≡◌, ◌≢◌, ℕ, List, ap, sym, subst, [], length, arith}
use Rattle.std.specs.Borrow.{Bor}
use Rattle.class_names.proofs.Prefix.{PrefixesBefore, with_dot, without_dot, all_prefixes}
use Rattle.class_names.proofs.space.prefixes.Goals.{then-space-index-eq46+in_ok-push, else-space-index-eq46}
use Rattle.class_names.proofs.space.prefixes.Goals as goal

pub loop-index-preserved : goal.loop-index-preserved
loop-index-preserved c = elim c.if-space-index-eq46.branch [
  | then-space-index-eq46+in_ok-push w ↦ rw w.found-is (with_dot c.args.space.now c.loop-index.index c.loop-index.found.items _ _ (omega arith) (omega arith) w.if-space-index-eq46.true refl w.in_ok-push.ensures.items c.loop-index.invariant)
  | else-space-index-eq46 w ↦ rw w.found-is (without_dot c.args.space.now c.loop-index.index c.loop-index.found.items (omega arith) w.if-space-index-eq46.false c.loop-index.invariant)
]

pub returns : goal.returns
returns c =
    let some : c.args.space.now ≢ [] = λ empty. let n = ap length empty in grind (arith, n, c.if-is_empty.ensures) in
    all_prefixes c.args.space.now c.loop-index.index c.loop-index.found.items _ _ some (omega arith) refl c.in_ok-push-2.ensures.items c.loop-index.invariant
