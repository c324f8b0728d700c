use Rattle.std.proofs.Common.{◌≡◌, ◌∙◌, List, map, ap, subst}
use Rattle.cs_declared.specs.declared.declared.Declared.{Declared}
use Rattle.cs_declared.specs.Seen.{seen}
use Rattle.class_written.specs.Named.{Known}
use Rattle.class_written.specs.Numbered.{known_in}
use Rattle.class_written.specs.TypeRows.{type_row}
use Rattle.class_texts.specs.declared.row.Row.{Row}
use Rattle.class_texts.specs.MemberRows.{rows_from}
use Rattle.class_texts.specs.Pairs.{ArePairs}
use Rattle.class_texts.proofs.Whole.{whole}
use Rattle.class_texts.proofs.text.rows_of.Goals as goal

pub returns : goal.returns
returns c =
    let found = c.in_ok-found.found.items in
    let known : c.in_ok-types.types ≡ known_in c.in_ok-found.found.items = c.in_ok-types.ensures ∙ ap known_in c.as_slice.ensures.value in
    let of_types : c.in_ok-type_rows.field-0.items ≡ map (λ d. type_row (known_in c.in_ok-found.found.items) (seen d)) c.in_ok-found.found.items =
    c.in_ok-type_rows.ensures ∙ ap (λ (ds : List Declared). map (λ d. type_row c.in_ok-types.types (seen d)) ds) c.as_slice-4.ensures.value
    ∙ ap (λ (ks : List Known). map (λ d. type_row ks (seen d)) c.in_ok-found.found.items) known in
    let of_members : c.in_ok-rows.rows.items ≡ rows_from (known_in c.in_ok-found.found.items) 0 (map (λ d. seen d) c.in_ok-found.found.items) =
    c.in_ok-rows.ensures ∙ ap (λ (ds : List Declared). rows_from c.in_ok-types.types 0 (map (λ d. seen d) ds)) c.as_slice-2.ensures.value
    ∙ ap (λ (ks : List Known). rows_from ks 0 (map (λ d. seen d) c.in_ok-found.found.items)) known in
    let paired = subst (λ (rs : List Row). ArePairs c.in_ok-types.types rs c.in_ok-explicit.explicit.items) c.as_slice-3.ensures.value c.in_ok-explicit.ensures in
    whole c.args.unit.now c.in_ok-found.found.items c.in_ok-type_rows.field-0.items c.in_ok-rows.rows.items c.in_ok-members.field-0.items c.in_ok-explicit.explicit.items c.in_ok-found.ensures of_types of_members c.in_ok-members.ensures
    (subst (λ (ks : List Known). ArePairs ks c.in_ok-rows.rows.items c.in_ok-explicit.explicit.items) known paired)
