use Rattle.std.proofs.Common.{sym, subst, length, List, ℕ, Vec, Global}
use Rattle.std.proofs.lemmas.Result.{IfOk-weaker}
use Rattle.class_open.specs.declared.sign.Key.{Key}
use Rattle.class_open.specs.Signs.{AreKeys}
use Rattle.class_open.proofs.Told.{key_tells, are_signs}
use Rattle.class_open.proofs.sign.signs_of.Goals as goal

pub returns : goal.returns
returns c =
    let all = subst (λ (keys : List Key). AreKeys c.args.members.now (length c.args.members.now) keys) (sym c.as_slice-2.ensures.value) c.in_ok-keys.ensures in
    IfOk-weaker _ _ _ (λ (signs : Vec ℕ Global) first. are_signs _ key_tells c.args.members.now _ signs.items all first) c.first_indices.ensures
