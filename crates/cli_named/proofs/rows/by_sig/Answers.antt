use Rattle.std.proofs.lemmas.Result.{IfOk-weaker}
use Rattle.std.proofs.Common.{Vec}
use Rattle.std.specs.declared.alloc.Global.{Global}
use Rattle.dc_base.specs.declared.names.Token.{Token}
use Rattle.cli_named.proofs.Named.{of_sig}
use Rattle.cli_named.proofs.rows.by_sig.Goals as goal

pub returns : goal.returns
returns c = IfOk-weaker _ _ _ (λ (found : Vec Token Global) are. of_sig c.args.metadata.now c.args.r c.row-row.result found.items c.requires.low c.requires.high c.requires.fits c.row-row.ensures are) c.local_tokens.ensures
