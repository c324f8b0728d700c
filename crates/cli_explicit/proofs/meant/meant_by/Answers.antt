use Rattle.std.proofs.Common.{◌∙◌, refl, sym}
use Rattle.cli_metadata.specs.Metadata.{coded_of}
use Rattle.cli_explicit.proofs.Written.{means_member, means_nothing}
use Rattle.cli_explicit.proofs.meant.meant_by.Goals as goal

pub returns-in-Some-named : goal.returns-in-Some-named
returns-in-Some-named c = means_member c.args.members.now (coded_of c.args.cell.kind c.args.cell.cell) c.in-Some.token c.in-Some-named.member (sym c.token.ensures ∙ c.in-Some.is) c.in-Some-named.ensures.some

pub returns-in-None-named : goal.returns-in-None-named
returns-in-None-named c = means_nothing c.args.members.now (coded_of c.args.cell.kind c.args.cell.cell) c.in-Some.token (record { 0 = 4294967295 }) (sym c.token.ensures ∙ c.in-Some.is) c.in-None-named.ensures.none refl
