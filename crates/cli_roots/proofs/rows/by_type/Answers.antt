use Rattle.std.proofs.lemmas.Result.{IfOk-weaker}
use Rattle.std.proofs.Common.{Vec, ◌∙◌, ap}
use Rattle.std.specs.Option.{option_to_list}
use Rattle.std.specs.declared.alloc.Global.{Global}
use Rattle.dc_base.specs.declared.names.Token.{Token}
use Rattle.cli_roots.proofs.First.{of_type}
use Rattle.cli_roots.proofs.rows.by_type.Goals as goal

pub returns : goal.returns
returns c = IfOk-weaker _ _ _ (λ (found : Vec Token Global) are. of_type c.args.metadata.now c.args.r c.row-row.result found.items c.row-row.ensures (are ∙ ap option_to_list c.token.ensures)) c.listed.ensures
