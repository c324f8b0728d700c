use Rattle.std.proofs.Common.{sym}
use Rattle.cs_read_calls.specs.Asked.{inner_of}
use Rattle.cs_read_forms.proofs.Joined.{joined}
use Rattle.cs_read_forms.proofs.whole.form.Goals as goal

pub returns : goal.returns
returns g c =
    let at = c.args.level.now.at in
    rw (sym (joined c.args.part at.left (inner_of at) c.args.tokens.now)) c.in_two.ensures
