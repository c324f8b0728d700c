use Rattle.std.proofs.Common.{arith, ◌≡◌, ◌++◌, ◌∷◌, [], sym, ◌∙◌, ap, ◌<◌, ◌^◌}
use Rattle.std.specs.List.{flat_map}
use Rattle.std.proofs.lemmas.Grind.{common_steps}
use Rattle.std.proofs.lemmas.List.Elements.{All-from_get_or}
use Rattle.std.specs.String.{string_bytes}
use Rattle.cs_written.specs.Spelled.{unit_spelled}
use Rattle.cs_written.proofs.Ascii.{text_bytes}
use Rattle.cs_written.proofs.quoted.write_text.Goals as goal

pub returns : goal.returns
returns c =
    let old = string_bytes c.args.out.now in
    let plain : string_bytes c.push_str-2.new.self ≡ old ++ (34 ∷ (flat_map (unit_spelled 34) c.args.units.now ++ 34 ∷ [])) = grind (arith, common_steps) in
    plain ∙ ap (λ t. old ++ t) (sym (text_bytes c.args.units.now (All-from_get_or (λ unit. unit < 2 ^ 16) c.args.units.now 0 (λ k l. omega (arith, c.type_inv.units k)))))
