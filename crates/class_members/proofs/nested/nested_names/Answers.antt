use Rattle.std.proofs.Common.{◌∙◌, refl}
use Rattle.class_keys.proofs.Items.{read_item}
use Rattle.class_members.specs.declared.nested.NameIn.{NameIn}
use Rattle.class_members.proofs.Equal.{name_tells}
use Rattle.class_members.proofs.Inner.{with_nested, without_nested, all_nested}
use Rattle.class_members.proofs.nested.nested_names.Goals.{in-Some+in_ok-insert_full, in_default}
use Rattle.class_members.proofs.nested.nested_names.Goals as goal

pub loop-row-preserved : goal.loop-row-preserved
loop-row-preserved c =
    let stands = read_item c.args.types.now c.loop-row.row-index c.row-item.result c.loop-row-test.true c.row-item.is in
    elim c.match-row.branch [
      | in-Some+in_ok-insert_full w ↦
          let text = w.as_bytes-name.ensures.value ∙ w.as_str.ensures in
          let key : NameIn = record { outer = w.in-Some.outer.0; name = w.as_bytes-name.result } in
          rw w.names-is (with_nested _ (record { same = λ a b. (name_tells a b).0; back = λ a b o n. (name_tells a b).1 (o, n) }) c.args.types.now c.loop-row.row-index w.in-Some.outer.0 c.row-item.result c.loop-row.names.keys _ key stands w.in-Some.is refl text w.in_ok-insert_full.ensures.keys c.loop-row.invariant)
      | in_default w ↦ rw w.names-is (without_nested c.args.types.now c.loop-row.row-index c.row-item.result c.loop-row.names.keys stands w.in_default.is c.loop-row.invariant)
    ]

pub returns : goal.returns
returns c = all_nested c.args.types.now c.loop-row.row-index c.loop-row.names.keys c.loop-row-test.false c.loop-row.invariant
