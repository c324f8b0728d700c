use Rattle.std.proofs.Common.{◌≡◌, ℕ, List, Some, true, false, rules, refl, sym, ◌∙◌, ap, subst, arith}
use Rattle.std.specs.List.{slice_get}
use Rattle.class_keys.proofs.Items.{read_item}
use Rattle.class_rows.specs.Names.{IsReference, IsNamespace}
use Rattle.class_names.specs.Spaces.{IsOneOf}
use Rattle.class_names.proofs.OneOf.{found_one, one_found}
use Rattle.class_names.proofs.Alike.{taken_here, not_own}
use Rattle.class_names.proofs.unique.is_named_as_space.Goals as goal

pub returns-then-not-types-index-clause-yes : goal.returns-then-not-types-index-clause-yes
returns-then-not-types-index-clause-yes c = λ t.
    let stands : slice_get c.args.types.now c.args.index ≡ Some c.index-types-index.result = read_item c.args.types.now c.args.index c.index-types-index.result c.requires.within c.index-types-index.is in
    let reference : IsReference c.args.types.now c.args.index = record { row = c.index-types-index.result; stands = stands; is = search rules } in
    let one = found_one c.args.spaces.now.keys c.as_bytes.result.now (sym c.contains.ensures ∙ t) in
    let text : c.as_bytes.result.now ≡ c.index-names-index.result = c.as_bytes.ensures.value ∙ c.as_str.ensures in
    record {
      reference = reference;
      name = c.index-names-index.result;
      is = c.requires.names.named c.args.index c.index-names-index.result (read_item c.args.names.now c.args.index c.index-names-index.result (omega (arith, c.requires.within, c.requires.names.long)) c.index-names-index.is) reference;
      taken = subst (λ (n : List ℕ). IsNamespace c.args.types.now n) text (c.requires.spaces.sound _ one);
    }

pub returns-then-not-types-index-clause-no : goal.returns-then-not-types-index-clause-no
returns-then-not-types-index-clause-no c = λ h.
    let text : c.as_bytes.result.now ≡ c.index-names-index.result = c.as_bytes.ensures.value ∙ c.as_str.ensures in
    let same = taken_here c.args.types.now c.args.names.now c.args.index c.index-names-index.result c.requires.names (read_item c.args.names.now c.args.index c.index-names-index.result (omega (arith, c.requires.within, c.requires.names.long)) c.index-names-index.is) h in
    let one = subst (λ (n : List ℕ). IsOneOf c.args.spaces.now.keys n) (sym (text ∙ same)) (c.requires.spaces.complete h.name h.taken) in
    c.contains.ensures ∙ one_found c.args.spaces.now.keys c.as_bytes.result.now one

pub returns-else-not-types-index-clause-no : goal.returns-else-not-types-index-clause-no
returns-else-not-types-index-clause-no c = λ h.
    absurd (not_own c.args.types.now c.args.index h.reference (record { row = c.index-types-index.result; stands = read_item c.args.types.now c.args.index c.index-types-index.result c.requires.within c.index-types-index.is; is = search rules }))
