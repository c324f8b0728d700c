-- One more file was read, or this is the first that wasn't given.
use Rattle.std.proofs.Common.{◌≡◌, ◌∙◌, refl, sym, subst, rules, append-nil}
use Rattle.dc_base.specs.declared.failure.Or.TheVariants.{Fault}
use Rattle.dc_outside.specs.declared.shelf.TakeFault.TheVariants.{Longer, Failed}
use Rattle.dc_outside.specs.Outside.{HasAtLeast}
use Rattle.ilspy_cli.specs.Files.{wanted}
use Rattle.ilspy_cli.proofs.Taken.{failed_counts, failed_gives, longer_counts, longer_gives, longer_takes, stops_at, taken_more}
use Rattle.ilspy_cli.proofs.taking.take_all.Goals as goal

pub loop-name-preserved : goal.loop-name-preserved
loop-name-preserved g c =
    rw c.in_ok-push-in-Ok.ensures.items
    (taken_more (λ file. wanted file.0.now file.1) (λ file. file.items) c.args.files.now c.loop-name.name-index c.loop-name-item.result c.loop-name-item.is c.loop-name-test.true
    _ _ _ _ _ _ _ _ _ _ _ _ c.loop-name.contents.items c.in-Ok.bytes c.loop-name.invariant
    c.in-Ok.ensures.files c.in-Ok.ensures.counts.0 c.in-Ok.ensures.counts.1 c.in-Ok.ensures.gives c.in-Ok.ensures.takes.1 c.in-Ok.ensures.takes.0)

pub returns-in-Err-Fault-Longer-clause-taken : goal.returns-in-Err-Fault-Longer-clause-taken
returns-in-Err-Fault-Longer-clause-taken g c =
    let item = c.loop-name-item.result in
    let so = c.loop-name.invariant in
    let is : c.in-Err-Fault-Longer.field-0 ≡ Fault (Longer c.in-Err-Fault-Longer.field-0-0-0) = search rules in
    let takes = longer_takes _ _ _ _ _ is c.in-Err-Fault-Longer.ensures.takes in
    let counts = longer_counts _ _ _ _ _ _ _ is c.in-Err-Fault-Longer.ensures.counts in (
      wanted item.0.now item.1,
      refl,
      stops_at (λ file. wanted file.0.now file.1) (λ file. file.items) c.args.files.now c.loop-name.name-index item c.loop-name-item.is c.loop-name-test.true
          _ _ _ _ _ _ _ _ _ _ _ _ c.loop-name.contents.items so (longer_gives _ _ _ _ _ is c.in-Err-Fault-Longer.ensures.gives),
      record { count = counts.0 ∙ so.unfailed.count; last = counts.1 ∙ so.unfailed.last },
      record {
        bytes = c.in-Err-Fault-Longer.field-0-0-0;
        has = subst (λ files. HasAtLeast files item.0.now c.in-Err-Fault-Longer.field-0-0-0) so.same takes.1;
        long = takes.0;
      },
    )

pub returns-in-Err-Fault-Failed-clause-taken : goal.returns-in-Err-Fault-Failed-clause-taken
returns-in-Err-Fault-Failed-clause-taken g c =
    let item = c.loop-name-item.result in
    let so = c.loop-name.invariant in
    let is : c.in-Err-Fault-Failed.field-0 ≡ Fault Failed = search rules in
    let counts = failed_counts _ _ _ _ _ _ is c.in-Err-Fault-Failed.ensures.counts in (
      wanted item.0.now item.1,
      refl,
      stops_at (λ file. wanted file.0.now file.1) (λ file. file.items) c.args.files.now c.loop-name.name-index item c.loop-name-item.is c.loop-name-test.true
          _ _ _ _ _ _ _ _ _ _ _ _ c.loop-name.contents.items so (failed_gives _ _ _ _ is c.in-Err-Fault-Failed.ensures.gives ∙ sym (append-nil _)),
      record { risen = rw so.unfailed.count at counts.0; is_last = counts.1 },
    )
