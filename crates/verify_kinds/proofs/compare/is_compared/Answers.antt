use Rattle.std.proofs.Common.{◌⊎◌}
use Rattle.verify_rules.specs.Slots.{AreOneSize, AreReferences}
use Rattle.verify_rules.specs.Kinds.{TellsReferences, IsLengthTest}
use Rattle.verify_kinds.proofs.Items.{neither}
use Rattle.verify_kinds.proofs.compare.is_compared.Goals as goal

pub returns-else-are_one_size-clause-no : goal.returns-else-are_one_size-clause-no
returns-else-are_one_size-clause-no c =
    neither (AreOneSize c.args.lower.now c.args.upper.now)
    ((AreReferences c.args.lower.now c.args.upper.now × TellsReferences c.args.test c.args.unsigned c.args.upper.now) ⊎ IsLengthTest c.args.setting.now c.args.spot c.args.test c.args.unsigned c.args.lower.now c.args.upper.now)
    c.is_told.result c.if-are_one_size.ensures.no c.is_told.ensures.no
