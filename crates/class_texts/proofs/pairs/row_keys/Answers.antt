use Rattle.std.proofs.Common.{◌+◌, List, sym, subst}
use Rattle.class_keys.proofs.Items.{read_item}
use Rattle.class_texts.specs.declared.pairs.Key.{Key}
use Rattle.class_texts.specs.Keys.{AreRowKeys}
use Rattle.class_texts.proofs.Keyed.{row_key_pushed}
use Rattle.class_texts.proofs.pairs.row_keys.Goals as goal

pub loop-row-preserved : goal.loop-row-preserved
loop-row-preserved c =
    let stands = read_item c.args.rows.now c.loop-row.row-index c.row-item.result c.loop-row-test.true c.row-item.is in
    subst (λ (ks : List Key). AreRowKeys c.args.rows.now (c.loop-row.row-index + 1) ks) (sym c.in_ok-push.ensures.items)
    (row_key_pushed c.args.rows.now c.loop-row.row-index c.loop-row.keys.items c.row-item.result c.key_of.result stands c.key_of.ensures c.loop-row.invariant)
