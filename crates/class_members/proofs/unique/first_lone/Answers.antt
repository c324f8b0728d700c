use Rattle.std.proofs.Common.{ℕ, subst, inl, inr, arith}
use Rattle.std.proofs.lemmas.Bool.{cases_lt, false≢true}
use Rattle.std.proofs.lemmas.Option.{slice_get_within}
use Rattle.class_keys.proofs.Items.{read_item}
use Rattle.class_members.specs.Known.{IsLone}
use Rattle.class_members.proofs.Duplicates.{lone_at}
use Rattle.class_members.proofs.unique.first_lone.Goals as goal

pub loop-m-preserved : goal.loop-m-preserved
loop-m-preserved c = λ n lt lone. elim (cases_lt n c.loop-m.m) [
  | inl less ↦ c.loop-m.invariant n less lone
  | inr le ↦
      let here = subst (λ (k : ℕ). IsLone c.args.types.now c.args.members.now c.args.nameless.now k) (omega (arith, lt, le)) lone in
      let stands = read_item c.args.members.now c.loop-m.m c.index-members-m.result c.loop-m-test.true c.index-members-m.is in
      false≢true (c.if-is_lone.ensures.no (lone_at c.args.types.now c.args.members.now c.args.nameless.now c.loop-m.m c.index-members-m.result _ stands here))
]

pub returns : goal.returns
returns c = λ n lone.
    let lt = slice_get_within c.args.members.now n lone.row lone.stands in
    c.loop-m.invariant n (omega (arith, lt, c.loop-m-test.false)) lone
