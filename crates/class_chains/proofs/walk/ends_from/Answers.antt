use Rattle.std.proofs.Common.{◌≡◌, ◌<◌, ◌∷◌, ℕ, length, Some, refl, arith}
use Rattle.std.specs.List.{slice_get}
use Rattle.std.proofs.lemmas.Option.{slice_get_within}
use Rattle.class_chains.proofs.Line.{over, over-smaller, passed_one, passed_one-smaller, visited, visited-smaller, begun, round, ended_walk, at_left}
use Rattle.class_chains.proofs.walk.ends_from.Goals as goal

pub returns-in-Round : goal.returns-in-Round
returns-in-Round c =
    let f = c.in-Round.ensures in
    let walk = rw c.in-Some.ensures at c.loop-visit.invariant.walk in
    λ ended. round _ _ _ c.in-Some.visit c.pop.new.self f.0 walk.line (c.in-Some.visit.passed, f.1) (walk.walked f.0 f.2) ended

pub bounds-marks-above : goal.bounds-marks-above
bounds-marks-above c = slice_get_within _ _ _ c.in-Fresh.ensures.1

pub loop-visit-smaller : goal.loop-visit-smaller
loop-visit-smaller c =
    let walk = rw c.in-Some.ensures at c.loop-visit.invariant.walk in
    rw (c.in_ok-push-in-Fresh-2.ensures.ok, c.in_ok-push-in-Fresh.ensures.ok, c.in-Some.ensures)
    (visited-smaller _ _ c.args.root _ c.in-Some.visit _ c.pop.new.self walk refl c.in-Fresh.ensures.1)

pub loop-visit-preserved : goal.loop-visit-preserved
loop-visit-preserved c =
    let f = c.in-Fresh.ensures in
    let walk = rw c.in-Some.ensures at c.loop-visit.invariant.walk in
    record {
      walk = rw (c.in_ok-push-in-Fresh-2.ensures.ok, c.in_ok-push-in-Fresh.ensures.ok)
          (visited _ _ c.args.root _ c.in-Some.visit _ c.pop.new.self walk refl f.0 f.1);
      kept = c.loop-visit.invariant.kept;
    }

pub loop-visit-smaller-in-Continue-branch-2 : goal.loop-visit-smaller-in-Continue-branch-2
loop-visit-smaller-in-Continue-branch-2 c = rw c.in-Some.ensures (over-smaller _ _ c.in-Some.visit c.pop.new.self)

pub loop-visit-preserved-in-Continue-branch-2 : goal.loop-visit-preserved-in-Continue-branch-2
loop-visit-preserved-in-Continue-branch-2 c =
    let walk = rw c.in-Some.ensures at c.loop-visit.invariant.walk in
    record {
      walk = rw c.in_ok-push-in-Finished.ensures.items (over _ _ _ _ c.in-Some.visit c.pop.new.self walk c.in-Finished.ensures);
      kept = λ s k h. rw c.in_ok-push-in-Finished.ensures.items (at_left _ _ k s (c.loop-visit.invariant.kept s k h));
    }

pub loop-visit-smaller-in-Continue-branch-3 : goal.loop-visit-smaller-in-Continue-branch-3
loop-visit-smaller-in-Continue-branch-3 c =
    let f = c.in-Ended.ensures in
    rw (c.in_ok-push-in-Ended.ensures.ok, c.in-Some.ensures)
    (passed_one-smaller _ c.in-Some.visit _ c.pop.new.self _ f.0 refl f.1 f.2)

pub loop-visit-preserved-in-Continue-branch-3 : goal.loop-visit-preserved-in-Continue-branch-3
loop-visit-preserved-in-Continue-branch-3 c =
    let f = c.in-Ended.ensures in
    let walk = rw c.in-Some.ensures at c.loop-visit.invariant.walk in
    record {
      walk = rw c.in_ok-push-in-Ended.ensures.ok (passed_one _ _ _ _ c.in-Some.visit _ c.pop.new.self f.0 walk refl f.1 f.2 f.3);
      kept = c.loop-visit.invariant.kept;
    }
