use Rattle.std.proofs.Common.{◌≡◌, ◌∙◌, ℕ, suc, ◌-◌, List, cond, Some, drop, sym, ap, subst, arith}
use Rattle.std.specs.Str.{bytes_eq}
use Rattle.class_keys.proofs.Items.{read_item}
use Rattle.cs_declared.specs.declared.declared.Declared.{Declared}
use Rattle.class_written.specs.Numbered.{at_name, AreNumbered}
use Rattle.class_written.proofs.Numbers.{IsNumberedNow, one_more_name}
use Rattle.class_written.proofs.types.numbers.Goals as goal

pub loop-index-preserved : goal.loop-index-preserved
loop-index-preserved c =
    let some = c.loop-index-test.true in
    let k = c.loop-index.index - 1 in
    let next : c.loop-index.index ≡ suc (c.loop-index.index - 1) = omega (arith, some) in
    let within = c.loop-index.auto.index in
    let stands = read_item c.args.found.now (c.loop-index.index - 1) c.index-found-index.result (omega (arith, some, within)) c.index-found-index.is in
    let text : c.as_bytes.result.now ≡ c.index-found-index.result.full = c.as_bytes.ensures.value ∙ c.as_str.ensures ∙ ap (λ (d : Declared). d.full) (sym c.index-found-index.is) in
    let number : c.in-Ok.number ≡ c.loop-index.index - 1 = c.in-Ok.ensures.1 in
    let now : IsNumberedNow c.loop-index.numbers.entries c.insert.new.self.entries c.index-found-index.result.full (c.loop-index.index - 1) = λ name.
    c.in_ok-insert.ensures.updates.0 (record { ref_ptr = (0, 0); now = name })
    ∙ ap (λ (n : ℕ). cond (bytes_eq c.as_bytes.result.now name) (Some n) (at_name c.loop-index.numbers.entries name)) number
    ∙ ap (λ (t : List ℕ). cond (bytes_eq t name) (Some (c.loop-index.index - 1)) (at_name c.loop-index.numbers.entries name)) text in
    one_more_name c.args.found.now (c.loop-index.index - 1) c.index-found-index.result c.loop-index.numbers.entries c.insert.new.self.entries stands now
    (subst (λ (j : ℕ). AreNumbered j (drop j c.args.found.now) c.loop-index.numbers.entries) next c.loop-index.invariant)
