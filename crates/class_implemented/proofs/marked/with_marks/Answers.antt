use Rattle.std.proofs.Common.{subst, Option, ℕ}
use Rattle.class_keys.proofs.Items.{item_at}
use Rattle.class_implemented.specs.Marked.{IsMarkedOne}
use Rattle.class_implemented.proofs.Marking.{AreMarking, marking_begins, pair_there, before_there, marking_lower, marking_on, marking_ends}
use Rattle.class_implemented.proofs.marked.with_marks.Goals as goal

pub loop-at-init : goal.loop-at-init
loop-at-init c = marking_begins c.args.known.now c.args.flags.now c.args.t.0 c.args.marks.items c.last_of-at.result c.requires.known c.last_of-at.ensures

pub method_of-requires : goal.method_of-requires
method_of-requires c =
    let known = c.args.known.now in
    let are = subst (λ (o : Option ℕ). AreMarking known c.args.flags.now c.args.t.0 c.args.marks.items c.loop-at.marks.items o) c.in-Some.is c.loop-at.invariant in
    pair_there known c.args.flags.now c.args.t.0 c.args.marks.items c.loop-at.marks.items c.in-Some.p are

pub before_of-at-requires : goal.before_of-at-requires
before_of-at-requires c =
    let known = c.args.known.now in
    let are = subst (λ (o : Option ℕ). AreMarking known c.args.flags.now c.args.t.0 c.args.marks.items c.loop-at.marks.items o) c.in-Some.is c.loop-at.invariant in
    before_there known c.args.flags.now c.args.t.0 c.args.marks.items c.loop-at.marks.items c.in-Some.p are

pub loop-at-smaller : goal.loop-at-smaller
loop-at-smaller c =
    let known = c.args.known.now in
    let are = subst (λ (o : Option ℕ). AreMarking known c.args.flags.now c.args.t.0 c.args.marks.items c.loop-at.marks.items o) c.in-Some.is c.loop-at.invariant in
    let lower = marking_lower known c.args.flags.now c.args.t.0 c.args.marks.items c.loop-at.marks.items c.in-Some.p c.before_of-at.result are c.before_of-at.ensures in
    rw c.in-Some.is lower

pub loop-at-preserved : goal.loop-at-preserved
loop-at-preserved c =
    let known = c.args.known.now in
    let p = c.in-Some.p in
    let marks = c.loop-at.marks.items in
    let are = subst (λ (o : Option ℕ). AreMarking known c.args.flags.now c.args.t.0 c.args.marks.items marks o) c.in-Some.is c.loop-at.invariant in
    let pair = item_at known.explicit.now p (pair_there known c.args.flags.now c.args.t.0 c.args.marks.items marks p are) in
    let one = subst (λ (m : ℕ). IsMarkedOne c.args.flags.now c.args.t.0 m marks c.with_mark-marks.result.items) (c.method_of.ensures pair.0 pair.1) c.with_mark-marks.ensures in
    marking_on known c.args.flags.now c.args.t.0 c.args.marks.items marks c.with_mark-marks.result.items p c.before_of-at.result pair.0 pair.1 are c.before_of-at.ensures one

pub returns : goal.returns
returns c =
    let known = c.args.known.now in
    let are = subst (λ (o : Option ℕ). AreMarking known c.args.flags.now c.args.t.0 c.args.marks.items c.loop-at.marks.items o) c.in_default.is c.loop-at.invariant in
    marking_ends known c.args.flags.now c.args.t.0 c.args.marks.items c.loop-at.marks.items c.requires.within are
