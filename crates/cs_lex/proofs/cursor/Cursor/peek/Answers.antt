use Rattle.cs_lex.proofs.Cursors.{peeked}
use Rattle.cs_lex.proofs.cursor.Cursor.peek.Goals as goal

pub returns : goal.returns
returns c =
    let k = c.self.inside in
    peeked k.source.now k.here.now (k.line, k.column) c.as_ref.result k.next k.behind.now k.left c.args.self.now c.as_ref.ensures.value c.self.invariant c.if-self-eq0.false c.self.view_is
