use Rattle.std.proofs.Common.{◌≡◌, Some, None, true, false, rules, refl, sym, ◌∙◌, ap, arith}
use Rattle.std.specs.List.{slice_get}
use Rattle.std.specs.Option.{is_some}
use Rattle.std.specs.Borrow.{Bor}
use Rattle.class_keys.proofs.Items.{read_item}
use Rattle.std.proofs.lemmas.Grind.{common_steps}
use Rattle.class_names.specs.Spaces.{HasPrefixes, HasAdded}
use Rattle.class_names.proofs.Spaces.{with_space, without_space, all_spaces}
use Rattle.class_names.proofs.space.namespaces.Goals.{then-not-row+then-is_none+in_ok-found+in_ok-spaces, else-not-row, else-not-row-via-then-not-row+else-is_none, else-not-row-via-else-not-row}
use Rattle.class_names.proofs.space.namespaces.Goals as goal

pub loop-row-preserved : goal.loop-row-preserved
loop-row-preserved c =
    let stands : slice_get c.args.types.now c.loop-row.row-index ≡ Some c.row-item.result = read_item c.args.types.now c.loop-row.row-index c.row-item.result (omega arith) c.row-item.is in
    elim c.if-not-row.branch [
      | then-not-row+then-is_none+in_ok-found+in_ok-spaces w ↦
          let other : c.row-item.result.own ≡ false = search rules in
          let top : c.row-item.result.outer ≡ None = grind (arith, common_steps) in
          let text : w.as_bytes.result.now ≡ c.row-item.result.space = w.as_bytes.ensures.value ∙ w.as_str.ensures in
          let has : HasPrefixes c.row-item.result.space w.in_ok-found.found.items = rw (← text) w.in_ok-found.ensures in
          let added : HasAdded c.loop-row.spaces.keys w.in_ok-found.found.items w.in_ok-spaces.spaces.keys = rw (← w.as_slice.ensures.value) w.in_ok-spaces.ensures in
          rw w.spaces-is (with_space c.args.types.now c.loop-row.row-index c.row-item.result c.loop-row.spaces.keys _ _ stands other top has added c.loop-row.invariant)
      | else-not-row w ↦ rw w.spaces-is (without_space c.args.types.now c.loop-row.row-index c.row-item.result c.loop-row.spaces.keys stands
          (λ other top. elim w.else-not-row.branch [
            | else-not-row-via-then-not-row+else-is_none u ↦
                let some : is_some c.row-item.result.outer ≡ true = u.if-is_none.ensures in
                let none : is_some c.row-item.result.outer ≡ false = ap is_some top in
                let both : true ≡ false = sym some ∙ none in
                cc
            | else-not-row-via-else-not-row u ↦ let both : false ≡ true = sym other ∙ u.if-not-row.false in cc
          ]) c.loop-row.invariant)
    ]

pub returns : goal.returns
returns c = all_spaces c.args.types.now c.loop-row.row-index c.loop-row.spaces.keys c.loop-row-test.false c.loop-row.invariant
