use Rattle.std.proofs.Common.{get_or, arith}
use Rattle.std.proofs.lemmas.Option.{slice_get-get_or}
use Rattle.dc_base.specs.declared.names.MemberId.{MemberId}
use Rattle.class_keys.proofs.Items.{read_item}
use Rattle.class_implemented.proofs.ByType.{owned_more, unowned_more}
use Rattle.class_implemented.proofs.explicit.with_pair.Goals as goal

pub returns-in_ok-push-in-Some : goal.returns-in_ok-push-in-Some
returns-in_ok-push-in-Some c =
    let explicit = c.args.explicit.now in
    let pair : MemberId × MemberId = get_or explicit c.args.k (record { 0 = 0 }, record { 0 = 0 }) in
    let last = c.args.by.last.items in
    let at = read_item last c.in-Some.t c.index.result.now (let lt = c.in-Some.ensures.some.0 in let wide = c.requires.by.wide in omega (arith, lt, wide)) c.index.ensures in
    let more = owned_more c.args.members.now explicit c.args.count c.args.k last c.args.by.before.items pair (slice_get-get_or explicit c.args.k _ c.requires.within) c.requires.by c.in-Some.t c.index.result.now c.in-Some.ensures.some.0 c.in-Some.ensures.some.1 at in
    rw c.in_ok-push-in-Some.ensures.items more

pub returns-in_ok-push-in-None : goal.returns-in_ok-push-in-None
returns-in_ok-push-in-None c =
    let explicit = c.args.explicit.now in
    let pair : MemberId × MemberId = get_or explicit c.args.k (record { 0 = 0 }, record { 0 = 0 }) in
    let more = unowned_more c.args.members.now explicit c.args.count c.args.k c.args.by.last.items c.args.by.before.items pair (slice_get-get_or explicit c.args.k _ c.requires.within) c.requires.by _ c.in-None.ensures.none in
    rw c.in_ok-push-in-None.ensures.items more
