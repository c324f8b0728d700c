use Rattle.std.proofs.Common.{◌≡◌, ◌∙◌, ℕ, List, Some, Bool, cond, refl, sym, ap, arith}
use Rattle.std.proofs.lemmas.Bool.{false≢true}
use Rattle.std.specs.Str.{bytes_eq}
use Rattle.class_keys.proofs.Items.{read_item, one_item}
use Rattle.class_rows.specs.declared.row.TypeRow.{TypeRow}
use Rattle.class_bases.specs.System.{at_name}
use Rattle.class_bases.proofs.Systems.{no_system_yet, with_system, without_system, all_systems, IsNamedNow}
use Rattle.class_bases.proofs.system.system_types.Goals.{then-is_system+in_ok-insert, else-is_system}
use Rattle.class_bases.proofs.system.system_types.Goals as goal

pub loop-index-preserved : goal.loop-index-preserved
loop-index-preserved c =
    let stands = read_item c.args.types.now c.loop-index.index c.index-types-index.result c.loop-index-test.true c.index-types-index.is in
    elim c.if-is_system.branch [
      | then-is_system+in_ok-insert w ↦
          let text : w.as_bytes.result.now ≡ c.index-types-index.result.name =
          let again = read_item c.args.types.now c.loop-index.index w.index-types-index-then-is_system.result c.loop-index-test.true w.index-types-index-then-is_system.is in
          w.as_bytes.ensures.value ∙ w.as_str.ensures ∙ ap (λ (r : TypeRow). r.name) (sym w.index-types-index-then-is_system.is) ∙ ap (λ (r : TypeRow). r.name) (one_item c.args.types.now c.loop-index.index w.index-types-index-then-is_system.result c.index-types-index.result again stands) in
          let now : IsNamedNow c.loop-index.found.entries w.insert.new.self.entries c.index-types-index.result.name c.loop-index.index = λ name.
          w.in_ok-insert.ensures.updates.0 (record { ref_ptr = (0, 0); now = name })
          ∙ ap (λ (k : List ℕ). cond (bytes_eq k name) (Some c.loop-index.index) (at_name c.loop-index.found.entries name)) text in
          rw w.found-is (with_system c.args.types.now c.loop-index.index c.index-types-index.result c.loop-index.found.entries _ stands (w.if-is_system.ensures.yes refl) now c.loop-index.invariant)
      | else-is_system w ↦ rw w.found-is (without_system c.args.types.now c.loop-index.index c.index-types-index.result c.loop-index.found.entries stands (λ is. false≢true (w.if-is_system.ensures.no is)) c.loop-index.invariant)
    ]

pub returns : goal.returns
returns c = all_systems c.args.types.now c.loop-index.index c.loop-index.found.entries c.loop-index-test.false c.loop-index.invariant
