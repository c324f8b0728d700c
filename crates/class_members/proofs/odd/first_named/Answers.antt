use Rattle.std.proofs.Common.{refl, sym, subst, length, List, Option, ℕ, Vec, Global}
use Rattle.std.proofs.lemmas.Result.{IfOk-weaker}
use Rattle.class_members.specs.declared.nested.NameIn.{NameIn}
use Rattle.class_members.specs.Names.{AreNamesIn}
use Rattle.class_members.proofs.Equal.{name_tells}
use Rattle.class_members.proofs.Odds.{first_of_names}
use Rattle.class_members.proofs.odd.first_named.Goals as goal

pub returns : goal.returns
returns c =
    let all = subst (λ (names : List (Option NameIn)). AreNamesIn c.args.types.now c.args.members.now c.args.nameless.now (length c.args.members.now) names) (sym c.as_slice.ensures.value) c.in_ok-names.ensures in
    IfOk-weaker _ _ _ (λ (firsts : Vec ℕ Global) are. first_of_names _ (record { some_none = λ a. refl; same = λ a b. (name_tells a b).0; back = λ a b o n. (name_tells a b).1 (o, n) }) c.args.types.now c.args.members.now c.args.nameless.now _ firsts.items all are) c.first_indices.ensures
