use Rattle.std.proofs.Common.{length, sym, ◌∙◌, ap, subst}
use Rattle.std.specs.Prelude.{Option}
use Rattle.std.specs.Str.{chars}
use Rattle.cs_token.specs.declared.tokens.Token.{Token}
use Rattle.cs_lex.specs.Cursors.{IsCursor}
use Rattle.cs_lex.proofs.Cursors.{as_many, some_left, gone}
use Rattle.cs_lex.proofs.cursor.Cursor.advance.Goals as goal

pub passed-behind-requires : goal.passed-behind-requires
passed-behind-requires c =
    let k = c.self.inside in
    some_left (length c.args.self.now) k.left (ap length (sym c.self.view_is) ∙ as_many (chars k.source.now) k.left (chars k.here.now) c.self.invariant.counted) c.if-self-eq0.false

pub returns : goal.returns
returns c =
    let k = c.self.inside in
    let next = subst (λ (o : Option Token). IsCursor k.source.now k.here.now (k.line, k.column) o k.behind.now k.left) (sym c.take-next.ensures.value) c.self.invariant in
    gone k.source.now k.here.now (k.line, k.column) c.take-next.result k.behind.now k.left c.args.self.now _ next c.if-self-eq0.false c.self.view_is (c.self-2.view_is ∙ c.passed-behind.ensures)
