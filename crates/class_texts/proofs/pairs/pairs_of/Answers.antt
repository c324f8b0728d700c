use Rattle.std.proofs.Common.{◌≡◌, ◌∙◌, ℕ, ◌+◌, ◌<◌, List, length, sym, ap, subst, arith}
use Rattle.std.proofs.lemmas.Option.{get_or_from_slice_get}
use Rattle.dc_base.specs.declared.names.MemberId.{MemberId}
use Rattle.class_keys.specs.Firsts.{AreFirsts}
use Rattle.class_keys.proofs.Items.{read_item}
use Rattle.class_texts.specs.declared.pairs.Key.{Key}
use Rattle.class_texts.specs.Pairs.{IsPair}
use Rattle.class_texts.specs.Keys.{AllImplement, AreKeys, target_of}
use Rattle.class_texts.proofs.KeyEqual.{key_tells}
use Rattle.class_texts.proofs.Keyed.{all_implement, target_is, pair_pushed}
use Rattle.class_texts.specs.contracts.pairs.KeyPartialEq.TheImpl as key_impl
use Rattle.class_texts.proofs.pairs.pairs_of.Goals as goal

pub keys-requires : goal.keys-requires
keys-requires c = subst (λ (xs : List ℕ). AllImplement c.args.rows.now xs) (sym (c.as_slice.ensures.value ∙ c.in_ok-asked.ensures.all)) (all_implement c.args.rows.now)

pub loop-index-preserved : goal.loop-index-preserved
loop-index-preserved c =
    let test = c.loop-index-test.true in
    let end = c.len-index-end.ensures in
    let lt : c.loop-index.index < length c.in_ok-asked.asked.items = omega (arith, test, end) in
    let so : AreKeys c.args.types.now c.args.rows.now c.in_ok-asked.asked.items (length c.in_ok-asked.asked.items) c.in_ok-keys.keys.items =
    subst (λ (xs : List ℕ). AreKeys c.args.types.now c.args.rows.now xs (length xs) c.in_ok-keys.keys.items) (c.as_slice.ensures.value) c.in_ok-keys.ensures in
    let told : AreFirsts (λ x y. (key_impl.eq-value).it x y) c.in_ok-keys.keys.items c.in_ok-firsts.firsts.items = subst (λ (ks : List Key). AreFirsts (λ x y. (key_impl.eq-value).it x y) ks c.in_ok-firsts.firsts.items) c.as_slice-2.ensures.value c.in_ok-firsts.ensures in
    let long = told.long in
    let longer = so.long in
    let at = read_item c.in_ok-asked.asked.items c.loop-index.index c.index.result.now lt c.index.ensures in
    let there = read_item c.in_ok-firsts.firsts.items (length c.args.rows.now + c.loop-index.index) c.index-first.result.now (omega (arith, lt, long, longer)) c.index-first.ensures in
    let right : IsPair c.args.types.now c.args.rows.now (record { 0 = c.index.result.now }, record { 0 = target_of c.index-first.result.now (length c.args.rows.now) }) =
    target_is (λ x y. (key_impl.eq-value).it x y) (record { same = λ a b. (key_tells a b).0; back = λ a b. (key_tells a b).1 }) c.args.types.now c.args.rows.now c.in_ok-asked.asked.items c.in_ok-keys.keys.items c.in_ok-firsts.firsts.items c.loop-index.index c.index.result.now c.index-first.result.now so told at there in
    let same : ◌≡◌ {A = MemberId} (record { 0 = target_of c.index-first.result.now (length c.args.rows.now) }) c.target.result =
    ap (λ (n : ℕ). let m : MemberId = record { 0 = n } in m) (sym c.target.ensures) in
    let pair : IsPair c.args.types.now c.args.rows.now (record { 0 = c.index.result.now }, c.target.result) =
    subst (λ (m : MemberId). IsPair c.args.types.now c.args.rows.now (record { 0 = c.index.result.now }, m)) same right in
    let more = pair_pushed c.args.types.now c.args.rows.now c.in_ok-asked.asked.items c.loop-index.index c.loop-index.pairs.items c.push.new.self.items (record { 0 = c.index.result.now }, c.target.result) lt (sym (get_or_from_slice_get c.in_ok-asked.asked.items c.loop-index.index c.index.result.now 0 at)) pair c.in_ok-push.ensures.items c.loop-index.invariant.each c.loop-index.invariant.right in
    record { each = more.0; right = more.1 }
