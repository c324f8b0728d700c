use Rattle.std.proofs.Common.{arith, ◌≡◌, ◌++◌, ◌∷◌, sym, ◌∙◌, ap, cond}
use Rattle.std.proofs.lemmas.Grind.{common_steps}
use Rattle.std.specs.String.{string_bytes}
use Rattle.dc_base.specs.Identifiers.{is_keyword}
use Rattle.cs_written.proofs.Ascii.{name_bytes}
use Rattle.cs_written.proofs.words.write_name.Goals as goal

pub returns : goal.returns
returns c =
    let old = string_bytes c.args.out.now in
    let plain : string_bytes c.push_str.new.self ≡ old ++ cond (is_keyword c.args.name.now) (64 ∷ c.args.name.now) c.args.name.now = grind (arith, common_steps) in
    plain ∙ ap (λ t. old ++ t) (sym (name_bytes c.args.name.now c.utf8.name))
