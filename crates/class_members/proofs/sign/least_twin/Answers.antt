use Rattle.std.proofs.Common.{refl, sym, subst, length, List}
use Rattle.std.proofs.lemmas.Result.{IfOk-weaker}
use Rattle.class_members.specs.declared.sign.Sign.{Sign}
use Rattle.class_members.specs.Signs.{AreSigns}
use Rattle.class_members.proofs.Equal.{signature_tells, overload_tells}
use Rattle.class_members.proofs.SignTold.{least_with_twin}
use Rattle.class_members.proofs.sign.least_twin.Goals as goal

pub returns : goal.returns
returns c =
    let all = subst (λ (signs : List Sign). AreSigns c.args.types.now c.args.members.now c.args.nameless.now (length c.args.members.now) signs) (sym c.as_slice-2.ensures.value) c.in_ok-signs.ensures in
    IfOk-weaker _ _ _ (λ found first. least_with_twin _ (record {
      nameless = λ m n. refl;
      nameless_own = λ m s. refl;
      nameless_reference = λ m o. refl;
      own_nameless = λ s n. refl;
      own_reference = λ s o. refl;
      reference_nameless = λ o n. refl;
      reference_own = λ o s. refl;
      own = λ a b. (signature_tells a b).0;
      own_back = λ a b. (signature_tells a b).1;
      reference = λ a b. (overload_tells a b).0;
      reference_back = λ a b. (overload_tells a b).1;
    }) c.args.types.now c.args.members.now c.args.nameless.now _ found all first) c.least_shared_key.ensures
