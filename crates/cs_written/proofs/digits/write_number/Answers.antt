use Rattle.std.proofs.Common.{arith, ◌≡◌, ◌++◌, sym, ◌∙◌, ap}
use Rattle.std.proofs.lemmas.Grind.{common_steps}
use Rattle.std.specs.String.{string_bytes}
use Rattle.std.specs.Fmt.{decimal}
use Rattle.cs_written.specs.Spelled.{suffix_spelled}
use Rattle.cs_written.proofs.Ascii.{number_bytes}
use Rattle.cs_written.proofs.digits.write_number.Goals as goal

pub returns : goal.returns
returns c =
    let old = string_bytes c.args.out.now in
    let plain : string_bytes c.push_str.new.self ≡ old ++ (decimal c.args.number ++ suffix_spelled c.args.suffix) = grind (arith, common_steps) in
    plain ∙ ap (λ t. old ++ t) (sym (number_bytes c.args.number c.args.suffix c.ranges.number.fits))
