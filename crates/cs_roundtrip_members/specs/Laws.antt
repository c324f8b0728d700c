-- What is printed of members is read back (ECMA-334, clause 15).
use Rattle.std.specs.Prelude.{◌≡◌, ℕ, ◌+◌, ◌<◌, List}
use Rattle.cs_tree.specs.declared.members.Member.{Member}
use Rattle.cs_tree.specs.declared.declarations.Item.{Item}
use Rattle.cs_tree.specs.declared.declarations.Item.TheVariants as item
use Rattle.cs_tree.specs.BareUnits.{bare_member}
use Rattle.cs_units.specs.Declarations.{item_at, inside}
use Rattle.cs_unit_layout.specs.Members.{member_laid}
use Rattle.cs_roundtrip_types.specs.Laws.{IsReadBack}
use Rattle.cs_roundtrip_members.specs.Members.{IsWellFormedMember}

-- what stands in a type, as this member but for its places and its note
abbrev pub IsMemberAs : Member → Item → Type 0
IsMemberAs m i = (n : Member) × (i ≡ item.Member n) × (bare_member n ≡ bare_member m)

abbrev pub MembersAreReadBack : Type 0
MembersAreReadBack =
    (levels limit blocks nesting : ℕ) (m : Member) (margin : List ℕ) → 0 < limit → 0 < blocks → IsWellFormedMember levels limit blocks m
    → IsReadBack (item_at (inside levels limit blocks) nesting) (item_at (inside (levels + 2) (limit + 1) (blocks + 1)) (nesting + 1)) (IsMemberAs m) (member_laid m margin)
