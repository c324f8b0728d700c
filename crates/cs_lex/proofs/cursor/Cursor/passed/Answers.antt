use Rattle.std.proofs.Common.{◌<◌, length, sym, ◌∙◌, ap, subst}
use Rattle.std.specs.Str.{chars}
use Rattle.cs_lex.proofs.Advances.{at_more}
use Rattle.cs_lex.proofs.Cursors.{as_many, follows, still, passed_so}
use Rattle.cs_lex.proofs.cursor.Cursor.passed.Goals as goal

pub before-requires : goal.before-requires
before-requires c =
    let k = c.self.inside in
    let many = ap length (sym c.self.view_is) ∙ as_many (chars k.source.now) k.left (chars k.here.now) c.self.invariant.counted in
    follows k.source.now k.here.now (k.line, k.column) k.next k.behind.now k.left c.behind_gap-here.result.now c.self.invariant (subst (λ n. 0 < n) many c.requires) c.behind_gap-here.ensures.ends

pub at-requires-clause-placed : goal.at-requires-clause-placed
at-requires-clause-placed c =
    let k = c.self.inside in
    at_more k.source.now k.here.now c.before-2.result.now c.behind_gap-here.result.now (k.line, k.column) c.advanced-place.result c.self.invariant.placed c.advanced-place.ensures.text c.before-2.ensures c.advanced-place.ensures.value

pub at-requires-clause-counted : goal.at-requires-clause-counted
at-requires-clause-counted c =
    let k = c.self.inside in
    let many = ap length (sym c.self.view_is) ∙ as_many (chars k.source.now) k.left (chars k.here.now) c.self.invariant.counted in
    still k.source.now k.here.now (k.line, k.column) k.next k.behind.now k.left (chars c.behind_gap-here.result.now) c.self.invariant (subst (λ n. 0 < n) many c.requires) c.behind_gap-here.ensures.rest

pub returns : goal.returns
returns c =
    let k = c.self.inside in
    let many = ap length (sym c.self.view_is) ∙ as_many (chars k.source.now) k.left (chars k.here.now) c.self.invariant.counted in
    c.at.ensures ∙ passed_so k.source.now k.here.now (k.line, k.column) k.next k.behind.now k.left (chars c.behind_gap-here.result.now) c.args.self.now c.self.invariant (subst (λ n. 0 < n) many c.requires) c.behind_gap-here.ensures.rest c.self.view_is
