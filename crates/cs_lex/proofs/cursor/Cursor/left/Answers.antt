use Rattle.std.proofs.Common.{length, sym, ◌∙◌, ap}
use Rattle.std.specs.Str.{chars}
use Rattle.cs_lex.proofs.Cursors.{as_many}
use Rattle.cs_lex.proofs.cursor.Cursor.left.Goals as goal

pub returns : goal.returns
returns c =
    let k = c.self.inside in
    sym (ap length (sym c.self.view_is) ∙ as_many (chars k.source.now) k.left (chars k.here.now) c.self.invariant.counted)
