use Rattle.std.proofs.Common.{◌≡◌, refl, subst, sym, Option, ℕ, rules}
use Rattle.class_keys.specs.Least.{IsLeastOf}
use Rattle.class_rows.specs.Names.{IsTwice}
use Rattle.class_names.specs.Inner.{HasNameOfAnother}
use Rattle.class_names.specs.Spaces.{HasNameOfSpace}
use Rattle.class_keys.proofs.OfTwo.{least_of_either}
use Rattle.class_names.proofs.Alike.{least_of_twice}
use Rattle.class_names.proofs.unique.least_twice.Goals as goal

pub returns : goal.returns
returns c =
    let both = least_of_either (HasNameOfAnother c.args.types.now) (HasNameOfSpace c.args.types.now) c.in_ok-alike.alike c.least_named_as_space-as_space.result c.in_ok-alike.ensures c.least_named_as_space-as_space.ensures in
    rw c.lesser.ensures (least_of_twice c.args.types.now _ both)
