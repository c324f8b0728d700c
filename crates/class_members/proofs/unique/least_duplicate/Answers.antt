use Rattle.std.proofs.Common.{◌⊎◌}
use Rattle.class_keys.proofs.OfTwo.{least_of_either}
use Rattle.class_members.specs.Known.{IsLone}
use Rattle.class_members.specs.Twins.{HasTwin}
use Rattle.class_members.specs.Groups.{IsFirstClash}
use Rattle.class_members.proofs.Duplicates.{least_duplicate_is}
use Rattle.class_members.proofs.unique.least_duplicate.Goals as goal

pub returns : goal.returns
returns c =
    let Twin = HasTwin c.args.types.now c.args.members.now c.args.nameless.now in
    let Clash = IsFirstClash c.args.types.now c.args.members.now c.args.nameless.now in
    let Lone = IsLone c.args.types.now c.args.members.now c.args.nameless.now in
    let two = least_of_either Twin Clash c.in_ok-twin.twin c.in_ok-odd.odd c.in_ok-twin.ensures c.in_ok-odd.ensures in
    let all = least_of_either (λ m. Twin m ⊎ Clash m) Lone c.lesser.result c.in_ok-lone.lone (rw c.lesser.ensures two) c.in_ok-lone.ensures in
    rw c.lesser-2.ensures (least_duplicate_is c.args.types.now c.args.members.now c.args.explicit.now c.args.nameless.now _ c.requires.marks all)
