use Rattle.std.proofs.Common.{refl, sym, subst, length, List}
use Rattle.std.proofs.lemmas.Result.{IfOk-weaker}
use Rattle.class_names.specs.declared.unique.Shown.{Shown}
use Rattle.class_names.specs.Shown.{AreShown}
use Rattle.class_names.proofs.Alike.{least_alike}
use Rattle.class_names.proofs.unique.least_named_alike.Goals as goal

pub returns : goal.returns
returns c =
    let all = subst (λ (keys : List Shown). AreShown c.args.types.now c.args.names.now (length c.args.types.now) keys) (sym c.as_slice.ensures.value) c.in_ok-keys.ensures in
    IfOk-weaker _ _ _ (λ found first. least_alike _ (record { owns = λ m n. refl; own_reference = λ m name. refl; reference_own = λ m name. refl; references = λ name other. refl }) c.args.types.now c.args.names.now _ found c.requires.names all first) c.least_shared_key.ensures
