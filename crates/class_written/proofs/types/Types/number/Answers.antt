use Rattle.std.proofs.Common.{◌≡◌, ◌∙◌, ℕ, List, ap}
use Rattle.class_written.specs.Named.{Known, number_of}
use Rattle.class_written.specs.Numbered.{at_name}
use Rattle.class_written.proofs.Numbers.{number_told}
use Rattle.class_written.proofs.types.Types.number.Goals as goal

pub returns-in-Some : goal.returns-in-Some
returns-in-Some c =
    let text : c.as_bytes.result.now ≡ c.args.name.now = c.as_bytes.ensures.value in
    let told : at_name c.self.inside.numbers.entries c.args.name.now ≡ number_of c.args.self.now c.args.name.now =
    number_told c.self.inside.found.now c.self.inside.numbers.entries c.args.name.now c.self.invariant ∙ ap (λ (ks : List Known). number_of ks c.args.name.now) c.self.view_is in
    c.in-Some.ensures.value ∙ ap (λ (t : List ℕ). at_name c.self.inside.numbers.entries t) text ∙ told

pub returns-in-None : goal.returns-in-None
returns-in-None c =
    let text : c.as_bytes.result.now ≡ c.args.name.now = c.as_bytes.ensures.value in
    let told : at_name c.self.inside.numbers.entries c.args.name.now ≡ number_of c.args.self.now c.args.name.now =
    number_told c.self.inside.found.now c.self.inside.numbers.entries c.args.name.now c.self.invariant ∙ ap (λ (ks : List Known). number_of ks c.args.name.now) c.self.view_is in
    c.in-None.ensures.value ∙ ap (λ (t : List ℕ). at_name c.self.inside.numbers.entries t) text ∙ told
