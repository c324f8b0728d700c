use Rattle.std.proofs.Common.{◌≡◌, ◌∙◌, ◌+◌, ◌<◌, ℕ, length, get_or, List, Some, None, sym, ap, subst}
use Rattle.std.specs.List.{slice_get}
use Rattle.std.proofs.lemmas.Option.{slice_get_within, slice_get-get_or}
use Rattle.class_keys.proofs.Items.{read_item, one_item}
use Rattle.class_texts.specs.declared.row.Row.{Row}
use Rattle.class_texts.specs.declared.pairs.Key.{Key}
use Rattle.class_texts.specs.Keys.{AllImplement, AreKeys, IsWantedBy}
use Rattle.class_texts.proofs.Keyed.{no_wanted_yet, wanted_pushed}
use Rattle.class_texts.proofs.pairs.keys.Goals.{in-Some+in_ok-push, in_default}
use Rattle.class_texts.proofs.pairs.keys.Goals as goal

asked_at : (rows : List Row) (asked : List ℕ) (i : ℕ) → AllImplement rows asked → i < length asked → get_or asked i 0 < length rows
asked_at rows asked i all lt = let p = all i (get_or asked i 0) (slice_get-get_or asked i 0 lt) in slice_get_within rows (get_or asked i 0) p.0 p.1

none_here : {G : Type 0} (rows : List Row) (asked : List ℕ) (i : ℕ) (row : Row) → AllImplement rows asked → i < length asked → slice_get rows (get_or asked i 0) ≡ Some row → row.implements ≡ None → G
none_here rows asked i row all lt stands none =
    let p = all i (get_or asked i 0) (slice_get-get_or asked i 0 lt) in
    let one = one_item rows (get_or asked i 0) row p.0 stands p.1 in
    let e : None ≡ Some p.2.0 = sym none ∙ ap (λ (r : Row). r.implements) one ∙ p.2.1 in
    absurd cc

pub loop-number-init : goal.loop-number-init
loop-number-init c = no_wanted_yet c.args.types.now c.args.rows.now c.args.asked.now c.in_ok-keys.keys.items c.in_ok-keys.ensures

pub bounds-rows-number : goal.bounds-rows-number
bounds-rows-number c = asked_at c.args.rows.now c.args.asked.now c.loop-number.number-index c.requires c.loop-number-test.true

pub loop-number-preserved : goal.loop-number-preserved
loop-number-preserved c =
    let bound = asked_at c.args.rows.now c.args.asked.now c.loop-number.number-index c.requires c.loop-number-test.true in
    let at = slice_get-get_or c.args.asked.now c.loop-number.number-index 0 c.loop-number-test.true in
    let stands = read_item c.args.rows.now (get_or c.args.asked.now c.loop-number.number-index 0) c.index-rows-number.result bound c.index-rows-number.is in
    elim c.match-row.branch [
      | in-Some+in_ok-push w ↦
          let by : IsWantedBy c.args.types.now c.args.rows.now (get_or c.args.asked.now c.loop-number.number-index 0) w.wanted.result = record {
            row = c.index-rows-number.result;
            stands = stands;
            named = (w.in-Some.interface, w.in-Some.name);
            implements = w.in-Some.is;
            wanted = w.wanted.ensures;
          } in
          rw w.keys-is
          (subst (λ (ks : List Key). AreKeys c.args.types.now c.args.rows.now c.args.asked.now (c.loop-number.number-index + 1) ks) (sym w.in_ok-push.ensures.items)
          (wanted_pushed c.args.types.now c.args.rows.now c.args.asked.now c.loop-number.number-index (get_or c.args.asked.now c.loop-number.number-index 0) c.loop-number.keys.items w.wanted.result at by c.loop-number.invariant))
      | in_default w ↦ none_here c.args.rows.now c.args.asked.now c.loop-number.number-index c.index-rows-number.result c.requires c.loop-number-test.true stands w.in_default.is
    ]
