use Rattle.std.proofs.Common.{◌<◌, ◌∙◌, None, ap, subst, arith}
use Rattle.std.proofs.lemmas.Option.{get_or_from_slice_get}
use Rattle.class_keys.proofs.Items.{item_at, read_item}
use Rattle.cli_refs.specs.declared.key.Sought.{Sought}
use Rattle.cli_refs.proofs.ByType.{asked_more, unasked_more}
use Rattle.cli_refs.proofs.asked.with_reference.Goals as goal

pub returns-in_ok-push-in-Some : goal.returns-in_ok-push-in-Some
returns-in_ok-push-in-Some c =
    let sought = c.args.sought.now in
    let last = c.args.asked.last.items in
    let s = item_at sought c.args.q c.requires.within in
    let named = c.in-Some.ensures.some.1 ∙ ap (λ (x : Sought). x.parent.0) (get_or_from_slice_get sought c.args.q s.0 _ s.1) in
    let at = read_item last c.in-Some.t c.index.result.now (let lt = c.in-Some.ensures.some.0 in let wide = c.requires.asked.wide in omega (arith, lt, wide)) c.index.ensures in
    let more = asked_more sought c.args.count c.args.q last c.args.asked.before.items s.0 s.1 c.requires.asked c.in-Some.t c.index.result.now named at in
    rw c.in_ok-push-in-Some.ensures.items more

pub returns-in_ok-push-in-None : goal.returns-in_ok-push-in-None
returns-in_ok-push-in-None c =
    let sought = c.args.sought.now in
    let s = item_at sought c.args.q c.requires.within in
    let past = subst (λ (x : Sought). x.parent.0 < c.args.count → ⊥) (get_or_from_slice_get sought c.args.q s.0 _ s.1) c.in-None.ensures.none in
    let more = unasked_more sought c.args.count c.args.q c.args.asked.last.items c.args.asked.before.items s.0 s.1 c.requires.asked None past in
    rw c.in_ok-push-in-None.ensures.items more
