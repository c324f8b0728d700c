-- What follows from the definition of the regions of a body.
use Rattle.std.specs.Prelude.{◌≡◌}
use Rattle.cil_body.specs.declared.body.Body.{Body}
use Rattle.cil_regions.specs.declared.region.RegionTree.{RegionTree}
use Rattle.cil_regions.specs.declared.region.RegionFault.{RegionFault}
use Rattle.cil_regions.specs.Region.{IsRegionTree, IsRegionFault}

-- the regions of a body make one tree
abbrev pub HasOneTree : Type 0
HasOneTree = (body : Body) (tree other : RegionTree) → IsRegionTree body tree → IsRegionTree body other → tree ≡ other

-- a body with a fault of its regions has no tree of them
abbrev pub TreeHasNoFault : Type 0
TreeHasNoFault = (body : Body) (tree : RegionTree) (fault : RegionFault) → IsRegionTree body tree → IsRegionFault body fault → ⊥

-- the regions of a body have one fault
abbrev pub TreeHasOneFault : Type 0
TreeHasOneFault = (body : Body) (fault other : RegionFault) → IsRegionFault body fault → IsRegionFault body other → fault ≡ other
