use Rattle.std.proofs.Common.{Some, inl, inr, sym, ap, ◌∙◌}
use Rattle.std.proofs.lemmas.Option.{slice_get-get_or}
use Rattle.class_implemented.proofs.passed.with_all.Goals as goal

pub loop-i-preserved : goal.loop-i-preserved
loop-i-preserved c = λ t x at. elim (c.with_one-passed.ensures t x at) [
  | inl new_ ↦ inl (new_.0, (c.loop-i.i-index, slice_get-get_or c.args.interfaces.now c.loop-i.i-index _ c.loop-i-test.true ∙ ap Some (sym new_.1)))
  | inr old ↦ c.loop-i.invariant t x old
]
