use Rattle.std.proofs.Common.{◌≡◌, ◌∙◌, rules, sym, true, false, take}
use Rattle.std.specs.List.{list_any}
use Rattle.dc_causes.proofs.Rows.{repeated_at, not_repeated_at, none_more, keys_more}
use Rattle.dc_causes.proofs.key.least_repeated_key.Goals as goal

pub returns-then-not-is_new-clause-repeated : goal.returns-then-not-is_new-clause-repeated
returns-then-not-is_new-clause-repeated g c =
    let found : list_any (g.K.PartialEq.eq c.index-keys-index.result) (take c.loop-index.index c.args.keys.now) ≡ true = rw (← c.loop-index.invariant.0) (search rules) in
    record {
      holds = repeated_at g.K.PartialEq.eq c.args.keys.now c.loop-index.index c.index-keys-index.result (search rules) (sym c.index-keys-index.is) found;
      least = c.loop-index.invariant.1;
    }

pub loop-index-preserved : goal.loop-index-preserved
loop-index-preserved g c =
    let seen : list_any (g.K.PartialEq.eq c.index-keys-index.result) c.loop-index.seen.keys ≡ false = search rules in
    let none : list_any (g.K.PartialEq.eq c.index-keys-index.result) (take c.loop-index.index c.args.keys.now) ≡ false = rw (← c.loop-index.invariant.0) seen in
    (c.in_ok-is_new.ensures.keys ∙ keys_more g.K.PartialEq.eq c.args.keys.now c.loop-index.seen.keys c.loop-index.index c.index-keys-index.result (search rules) (sym c.index-keys-index.is) c.loop-index.invariant.0 seen, none_more g.K.PartialEq.eq c.args.keys.now c.loop-index.index c.loop-index.invariant.1 (not_repeated_at g.K.PartialEq.eq c.args.keys.now c.loop-index.index c.index-keys-index.result (search rules) (sym c.index-keys-index.is) none))

pub returns-clause-apart : goal.returns-clause-apart
returns-clause-apart g c = λ n r. c.loop-index.invariant.1 n (search (rules, r.within)) r
