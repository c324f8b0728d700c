use Rattle.std.proofs.Common.{◌≡◌, List, rules, sym, subst}
use Rattle.std.specs.List.Sorted.{IsNonDecreasingBy, IsPermutation}
use Rattle.std.proofs.lemmas.List.Sorted.{IsNonDecreasingBy-from_sort_by_key}
use Rattle.pe_image.specs.declared.sections.Section.{Section}
use Rattle.pe_image.proofs.Reaches.{told_of_sorted}
use Rattle.pe_image.proofs.blocks.reaches.Goals as goal

pub running-requires : goal.running-requires
running-requires c =
    subst (IsNonDecreasingBy (λ (s : Section). s.address)) (sym c.as_slice.ensures.value)
    (IsNonDecreasingBy-from_sort_by_key (λ (s : Section). s.address) _ c.in_ok-sort_by_key.ensures.sorted (λ a r g h. search rules))

pub returns : goal.returns
returns c =
    let copied : c.in_ok-sorted.sorted.items ≡ c.args.sections.now = c.in_ok-sorted.ensures.items_if_clones_equal (λ s t e. e) in
    let permuted = subst (λ (ss : List Section). IsPermutation ss c.sort_by_key.new.self.items) copied c.sort_by_key.ensures.permutation in
    told_of_sorted c.args.sections.now c.as_slice.result.now c.running.result
    (subst (IsPermutation c.args.sections.now) (sym c.as_slice.ensures.value) permuted)
    c.running.ensures
