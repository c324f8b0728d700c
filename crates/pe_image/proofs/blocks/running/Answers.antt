use Rattle.std.proofs.Common.{length, arith, subst, ◌≡◌, ℕ}
use Rattle.pe_image.proofs.Reaches.{AreRunning, all_running}
use Rattle.pe_image.proofs.blocks.running.Goals as goal

pub returns : goal.returns
returns c =
    let sorted = c.args.sorted.now in
    let all : c.loop-section.section-index ≡ length sorted = omega (arith, c.loop-section.invariant.within, c.loop-section-test.false) in
    all_running sorted c.loop-section.end c.loop-section.reaches.items c.requires
    (subst (λ (n : ℕ). AreRunning sorted n c.loop-section.end c.loop-section.reaches.items) all c.loop-section.invariant)
