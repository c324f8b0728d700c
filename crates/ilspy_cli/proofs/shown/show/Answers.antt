-- Why an assembly isn't shown.
use Rattle.std.proofs.Common.{◌≡◌, ap, ◌∙◌, option_map, subst, refl}
use Rattle.pe_image.specs.Sections.{bytes_in}
use Rattle.cli_metadata.specs.Standing.{IsStanding}
use Rattle.cli_metadata.specs.Wrong.{IsWrong}
use Rattle.ilspy_cli.specs.Show.{shown, not_shown, bad_image, bad_metadata, bad_name}
use Rattle.ilspy_cli.proofs.shown.show.Goals as goal

pub returns-in-Err : goal.returns-in-Err
returns-in-Err c =
    rw c.refused.ensures (not_shown (bad_image c.in-Err.fault c.in-Err.ensures.fault c.in_ok-bad_image-in-Err.ensures) refl)

pub returns-in-Err-of : goal.returns-in-Err-of
returns-in-Err-of c =
    let image = c.in-Ok.image in
    let same = c.metadata.ensures.bytes ∙ ap (λ f. bytes_in f image.metadata) c.in-Ok.ensures.file in
    rw c.refused-in-Err-of.ensures
    (not_shown
    (bad_metadata c.in-Err-of.fault
    (record { sections = image.sections; metadata = image.metadata; image = c.in-Ok.ensures.read; wrong = subst (λ bytes. IsWrong bytes c.in-Err-of.fault.place c.in-Err-of.fault.cause) same c.in-Err-of.ensures.fault })
    c.in_ok-bad_metadata-in-Err-of.ensures)
    refl)

pub returns-in_ok-bad_name-in-Err-assembly_name : goal.returns-in_ok-bad_name-in-Err-assembly_name
returns-in_ok-bad_name-in-Err-assembly_name c =
    let image = c.in-Ok.image in
    let same = c.metadata.ensures.bytes ∙ ap (λ f. bytes_in f image.metadata) c.in-Ok.ensures.file in
    rw c.refused-in-Err-assembly_name.ensures
    (not_shown
    (bad_name c.in-Ok-of.metadata c.in-Err-assembly_name.cause
    (record { sections = image.sections; metadata = image.metadata; image = c.in-Ok.ensures.read; stands = subst (λ bytes. IsStanding bytes c.in-Ok-of.metadata) same c.in-Ok-of.ensures.read })
    c.in-Err-assembly_name.ensures c.in_ok-bad_name-in-Err-assembly_name.ensures)
    refl)

pub returns-in_ok-text-in-Ok-assembly_name : goal.returns-in_ok-text-in-Ok-assembly_name
returns-in_ok-text-in-Ok-assembly_name c =
    let image = c.in-Ok.image in
    let same = c.metadata.ensures.bytes ∙ ap (λ f. bytes_in f image.metadata) c.in-Ok.ensures.file in
    shown
    (record {
      contents = c.in-Ok-of.metadata;
      has = record { sections = image.sections; metadata = image.metadata; image = c.in-Ok.ensures.read; stands = subst (λ bytes. IsStanding bytes c.in-Ok-of.metadata) same c.in-Ok-of.ensures.read };
      name = option_map (λ text. text.now) c.in-Ok-assembly_name.name;
      is_name = c.in-Ok-assembly_name.ensures;
      due = c.in_ok-text-in-Ok-assembly_name.ensures;
    })
    refl
