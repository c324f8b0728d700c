-- The nodes make the tree of the body's regions.
use Rattle.std.proofs.Common.{◌≡◌, ℕ, ◌<◌, Option, Some, None, List, length, get_or, sym, refl, subst, arith}
use Rattle.std.proofs.lemmas.List.{get_or_default}
use Rattle.std.specs.List.{All}
use Rattle.cil_body.specs.declared.body.Body.{Body}
use Rattle.cil_regions.specs.declared.region.Region.{Region}
use Rattle.cil_regions.specs.Region.{IsParent, IsNested, IsDeepAt, IsLeast, AreNodes, IsRegionTree}
use Rattle.cil_regions.specs.Laid.{IsTree, IsFineBy, IsDepthAnswer}
use Rattle.cil_regions.proofs.Caught.{all_fine}
use Rattle.cil_regions.proofs.Depths.{none_deep, least_deep}
use Rattle.cil_regions.proofs.Nested.{parent_is}

module _ (body : Body) (nodes : List Region) (tree : IsTree body nodes) where
  pub are_nodes : AreNodes body nodes
  are_nodes = record {
    spans = tree.spans;
    all = tree.ordered.all;
    ordered = tree.ordered.ordered;
    as_many = tree.chained.as_many;
    each = λ k r node lt.
        let within : k < length nodes = omega (arith, lt, tree.chained.as_many) in
        let link = tree.chained.links.each k r node within in
        let p = (get_or nodes k node).parent in
        record {
          kind = link.kind;
          from = link.from;
          to = link.to;
          first = link.first;
          parent = λ pos.
              let before = link.before pos in (
                before,
                subst (IsParent tree.spans (get_or tree.spans k r)) (get_or_default tree.spans p r (get_or tree.spans k r) (omega (arith, before, lt)))
                    (parent_is tree.spans tree.laid tree.laminar k p r pos lt before (link.reaches r pos) (λ i above below. link.last i r above below)),
              );
        };
  }

  pub deep_found : (found : Option ℕ) (place : ℕ) → IsDepthAnswer nodes found → found ≡ Some place → IsLeast (IsDeepAt body) place
  deep_found found place answer is =
      let deep = subst (IsDepthAnswer nodes) is answer in
      least_deep body nodes tree deep.0 place deep.1

  none_found : (found : Option ℕ) → IsDepthAnswer nodes found → ((place : ℕ) → found ≡ Some place → ⊥) → (place : ℕ) → IsDeepAt body place → ⊥
  none_found None answer off place deep = none_deep body nodes tree answer.0 answer.1 answer.2 place deep
  none_found (Some found) answer off place deep = absurd (off found refl)

  pub is_region_tree : (made : List Region) (found : Option ℕ) → made ≡ nodes → IsNested body → All (IsFineBy nodes) body.code → IsDepthAnswer nodes found → ((place : ℕ) → found ≡ Some place → ⊥) → IsRegionTree body record { nodes = made }
  is_region_tree made found is nested fine answer off = record {
    nested = nested;
    rethrows = all_fine body nodes tree body.code fine;
    shallow = none_found found answer off;
    nodes = subst (AreNodes body) (sym is) are_nodes;
  }
