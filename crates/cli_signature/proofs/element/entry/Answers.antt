-- The search in the table is `find` over its lines.
use Rattle.std.proofs.Common.{rules, tests, ◌∙◌}
use Rattle.std.specs.Prelude.{◌==◌}
use Rattle.std.proofs.lemmas.Iterator.{YieldsList-from_slice}
use Rattle.std.proofs.lemmas.Iterator.Search.{find_from_yields_List}
use Rattle.cli_signature.specs.declared.element.Element.{Element}
use Rattle.cli_signature.specs.declared.element.TheConstants.{ELEMENTS}
use Rattle.cli_signature.specs.Element.{entry_of}
use Rattle.cli_signature.proofs.element.entry.Goals as goal

pub returns : goal.returns
unfolding entry_of
returns c =
    let found =
    find_from_yields_List (λ (e : Element). e.byte == c.args.byte) _ _ c.find.result c.find.ensures.ran
    (YieldsList-from_slice ELEMENTS cc)
    (λ x b q k. search (rules, tests)) in
    c.copied.ensures ∙ found
