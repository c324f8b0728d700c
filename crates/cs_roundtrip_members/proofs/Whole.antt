-- Members are read back: what stands in them is, and each of them where its parts are.
use Rattle.std.proofs.Common.{◌≡◌, ℕ, zero, suc, ◌+◌, Bool, true, false, List, refl, sym, subst, arith}
use Rattle.cs_token.specs.Placed.{Placed as Token}
use Rattle.cs_tree.specs.declared.members.Member.{Member}
use Rattle.cs_tree.specs.declared.members.Member.TheVariants as member
use Rattle.cs_tree.specs.declared.declarations.Item.{Item}
use Rattle.cs_tree.specs.declared.declarations.Item.TheVariants as item
use Rattle.cs_grammar.specs.Grammar.{Grammar, gives, bind}
use Rattle.cs_productions.specs.Inner.{Inner}
use Rattle.cs_productions.specs.Levels.{at, below}
use Rattle.cs_statements.specs.Blocks.{block_at}
use Rattle.cs_units.specs.Modifiers.{modifiers}
use Rattle.cs_units.specs.Members.{any_member}
use Rattle.cs_units.specs.Kinds.{type_words}
use Rattle.cs_units.specs.Declarations.{type_item, member_item, item_in, lowest_item, item_at, inside}
use Rattle.cs_units.proofs.DeeperDeclarations.{has_one_member}
use Rattle.cs_layout.specs.Pieces.{Piece}
use Rattle.cs_unit_layout.specs.Members.{member_laid}
use Rattle.cs_roundtrip_types.specs.Spells.{Spells}
use Rattle.cs_roundtrip_types.proofs.Spelling.{says_so, says_in, says_made, read_back}
use Rattle.cs_roundtrip_forms.proofs.Reading.{whole, ranks_are, block_is}
use Rattle.cs_roundtrip_forms.proofs.Opening.{else_derives}
use Rattle.cs_roundtrip_forms.specs.Reading.{BlockIsRead}
use Rattle.cs_roundtrip_statements.proofs.Blocks.{form_read, args_read, block_read}
use Rattle.cs_roundtrip_members.specs.Members.{IsWellFormedMember}
use Rattle.cs_roundtrip_members.specs.Inside.{IsInside}
use Rattle.cs_roundtrip_members.specs.Laws.{IsMemberAs, MembersAreReadBack}
use Rattle.cs_roundtrip_members.proofs.Members.{MemberIsRead, reads_field, reads_constant, reads_operator, reads_maker}
use Rattle.cs_roundtrip_members.proofs.Methods.{reads_constructor, reads_initializer, reads_property, reads_indexer}
use Rattle.cs_roundtrip_members.proofs.Explicit.{reads_method}

-- what stands in members, within the depths
next : (levels : ℕ) → suc levels ≡ levels + 1
next levels = omega arith

inside_at : (levels limit blocks : ℕ) → IsInside levels limit blocks (at levels (below (block_at levels limit blocks) blocks limit levels))
inside_at levels limit blocks =
    record {
      forms = λ f margin w. says_so (whole (form_read levels limit w.2 blocks w.4 levels w.3 margin)) (λ m p. p.same);
      bodies = λ b w. subst (λ g. BlockIsRead g b) (sym (block_is (block_at levels limit blocks) blocks limit (suc levels))) (block_read levels limit w.1 blocks w.2);
      args = λ xs margin w. says_so (args_read levels limit w.2 blocks w.4 levels w.3 margin).all (λ r p. p.same);
      ranks = ranks_are (block_at levels limit blocks) blocks limit (suc levels);
    }

pub is_inside : (levels limit blocks : ℕ) → IsInside levels limit blocks (inside levels limit blocks)
is_inside levels limit blocks = subst (λ k. IsInside levels limit blocks (below (block_at levels limit blocks) blocks limit k)) (next levels) (inside_at levels limit blocks)

member_read : (levels limit blocks : ℕ) (inner : Inner) (m : Member) (margin : List ℕ) → IsInside levels limit blocks inner → IsWellFormedMember levels limit blocks m → MemberIsRead inner m (member_laid m margin)
member_read levels limit blocks inner (member.Field s note mods t x v) margin i w = reads_field levels limit blocks inner s note mods t x v margin i w.0 w.2
member_read levels limit blocks inner (member.Constant s note mods t x a) margin i w = reads_constant levels limit blocks inner s note mods t x a margin i w.0 w.2
member_read levels limit blocks inner (member.Method s note mods r f x ps b) margin i w = reads_method levels limit blocks inner s note mods r f x ps b margin i w.0 w.1 w.3 w.4
member_read levels limit blocks inner (member.Constructor s note mods x ps f b) margin i w = reads_constructor levels limit blocks inner s note mods x ps f b margin i w.1 w.2 w.3
member_read levels limit blocks inner (member.Initializer s note x b) margin i w = reads_initializer levels limit blocks inner s note x b margin i w.1
member_read levels limit blocks inner (member.Property s note mods t x g r) margin i w = reads_property levels limit blocks inner s note mods t x g r margin i w.0 w.2 w.3
member_read levels limit blocks inner (member.Maker s mods x ps) margin i w = reads_maker levels limit blocks inner s mods x ps margin i w.1
member_read levels limit blocks inner (member.Indexer s mods t x u y g r) margin i w = reads_indexer levels limit blocks inner s mods t x u y g r margin i w.0 w.2 w.4 w.5
member_read levels limit blocks inner (member.Operator s t x ps) margin i w = reads_operator levels limit blocks inner s t x ps margin i w.0 w.2

-- as what stands in a type
as_item : (room : Bool) (inner : Inner) (below_ : Grammar Token Item) (m : Member) (ps : List Piece) → MemberIsRead inner m ps → Spells (item_in room inner below_) ps (IsMemberAs m)
as_item room inner below_ m ps x =
    says_in {g = bind (bind modifiers (any_member inner)) (λ n. gives (item.Member n))}
    (λ ts i rest p d. (d.2.0, d.2.1, d.2.2, else_derives room type_words (type_item inner below_ d.2.0) (member_item inner d.2.0) d.2.1 i rest (d.0, d.1, d.2.3, d.3)))
    (says_made (λ n. item.Member n) x (λ n e. (n, refl, e)))

pub at_any : (levels limit blocks nesting : ℕ) (m : Member) (margin : List ℕ) → IsWellFormedMember levels limit blocks m → Spells (item_at (inside levels limit blocks) nesting) (member_laid m margin) (IsMemberAs m)
at_any levels limit blocks zero m margin w =
    as_item false (inside levels limit blocks) (lowest_item (inside levels limit blocks)) m (member_laid m margin) (member_read levels limit blocks (inside levels limit blocks) m margin (is_inside levels limit blocks) w)
at_any levels limit blocks (suc nesting) m margin w =
    as_item true (inside levels limit blocks) (item_at (inside levels limit blocks) nesting) m (member_laid m margin) (member_read levels limit blocks (inside levels limit blocks) m margin (is_inside levels limit blocks) w)

pub members_back : MembersAreReadBack
members_back levels limit blocks nesting m margin some more w = read_back (has_one_member levels limit blocks nesting some more) (at_any levels limit blocks nesting m margin w)
