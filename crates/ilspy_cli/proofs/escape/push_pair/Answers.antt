-- The second unit stands behind the first.
use Rattle.std.proofs.Common.{◌+◌, ◌-◌, ◌/◌, ◌%◌, ◌++◌, ◌∙◌, ap, append_assoc}
use Rattle.std.specs.String.{string_bytes}
use Rattle.ilspy_cli.specs.Escape.{unit_text}
use Rattle.ilspy_cli.proofs.escape.push_pair.Goals as goal

pub returns : goal.returns
returns c =
    let first = unit_text (0xD800 + (c.args.code - 0x10000) / 1024) in
    let second = unit_text (0xDC00 + (c.args.code - 0x10000) % 1024) in
    c.in_ok-push_unit-2.ensures ∙ ap (λ bytes. bytes ++ second) c.in_ok-push_unit.ensures
    ∙ append_assoc (string_bytes c.args.out.now) first second
