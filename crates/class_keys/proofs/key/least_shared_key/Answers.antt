use Rattle.std.proofs.Common.{◌≡◌, ◌∙◌, ℕ, ◌+◌, ◌-◌, true, false, refl, sym, subst, rules, arith}
use Rattle.std.specs.List.{list_any}
use Rattle.class_keys.proofs.Behind.{step_new, step_old, all_seen, before_the_walk}
use Rattle.class_keys.specs.Least.{IsLeastOf}
use Rattle.class_keys.proofs.key.least_shared_key.Goals as goal

pub loop-index-init : goal.loop-index-init
loop-index-init g c = before_the_walk g.K.PartialEq.eq c.args.keys.now c.new-behind.result.keys (search rules)

pub loop-index-preserved : goal.loop-index-preserved
loop-index-preserved g c =
    let none : list_any (g.K.PartialEq.eq c.index-keys-index.result) c.loop-index.behind.keys ≡ false = search rules in
    let next : c.loop-index.index ≡ c.loop-index.index - 1 + 1 = omega arith in
    let r = step_new g.K.PartialEq.eq c.args.keys.now c.loop-index.behind.keys (c.loop-index.index - 1) c.loop-index.index c.index-keys-index.result c.loop-index.least next (omega arith) (sym c.index-keys-index.is) c.loop-index.invariant none in
    rw c.in_ok-is_new.ensures.keys r

pub loop-index-preserved-then-not-is_new : goal.loop-index-preserved-then-not-is_new
loop-index-preserved-then-not-is_new g c =
    let found : list_any (g.K.PartialEq.eq c.index-keys-index.result) c.loop-index.behind.keys ≡ true = search rules in
    let next : c.loop-index.index ≡ c.loop-index.index - 1 + 1 = omega arith in
    let r = step_old g.K.PartialEq.eq g.met.K.Eq.laws c.args.keys.now c.loop-index.behind.keys (c.loop-index.index - 1) c.loop-index.index c.index-keys-index.result c.loop-index.least next (omega arith) (sym c.index-keys-index.is) c.loop-index.invariant found in
    rw c.in_ok-is_new.ensures.keys r

pub returns : goal.returns
returns g c =
    let end : c.loop-index.index ≡ 0 = omega arith in
    all_seen g.K.PartialEq.eq g.met.K.Eq.laws c.args.keys.now c.loop-index.least (rw end at c.loop-index.invariant.first)
