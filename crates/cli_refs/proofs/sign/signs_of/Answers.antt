use Rattle.std.proofs.Common.{sym, subst, length, List, ℕ, Vec, Global}
use Rattle.std.proofs.lemmas.Result.{IfOk-weaker}
use Rattle.cli_refs.specs.declared.key.Key.{Key}
use Rattle.cli_refs.specs.Keys.{AreKeys}
use Rattle.cli_refs.proofs.OneSign.{key_tells, are_signs}
use Rattle.cli_refs.proofs.sign.signs_of.Goals as goal

pub returns : goal.returns
returns c =
    let all = subst (λ (keys : List Key). AreKeys c.args.members.now c.args.sought.now (length c.args.sought.now) keys) (sym c.as_slice-2.ensures.value) c.in_ok-keys.ensures in
    IfOk-weaker _ _ _ (λ (signs : Vec ℕ Global) first. are_signs _ key_tells _ signs.items first c.args.members.now c.args.sought.now all) c.first_indices.ensures
