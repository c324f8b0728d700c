-- Members, types and whole texts without their places and notes.
use Rattle.std.specs.Prelude.{◌≡◌, List, map, Option, None}
use Rattle.std.specs.Option.{option_map}
use Rattle.cs_tree.specs.declared.members.Initial.{Initial}
use Rattle.cs_tree.specs.declared.members.Initial.TheVariants as initial
use Rattle.cs_tree.specs.declared.members.Explicit.{Explicit}
use Rattle.cs_tree.specs.declared.members.Accessor.{Accessor}
use Rattle.cs_tree.specs.declared.members.Member.{Member}
use Rattle.cs_tree.specs.declared.members.Member.TheVariants as member
use Rattle.cs_tree.specs.declared.declarations.Enumerator.{Enumerator}
use Rattle.cs_tree.specs.declared.declarations.Item.{Item}
use Rattle.cs_tree.specs.declared.declarations.Item.TheVariants as item
use Rattle.cs_tree.specs.declared.declarations.Decl.{Decl}
use Rattle.cs_tree.specs.declared.declarations.Decl.TheVariants as decl
use Rattle.cs_tree.specs.declared.declarations.Decl.TheOpen.{Decl-F, Item-F}
use Rattle.cs_tree.specs.declared.declarations.Decl.TheFolds.{fold-Decl, fold-Item}
use Rattle.cs_tree.specs.declared.declarations.Space.{Space}
use Rattle.cs_tree.specs.declared.declarations.Space.TheVariants as space
use Rattle.cs_tree.specs.declared.declarations.Unit.{Unit as WholeText}
use Rattle.cs_tree.specs.Bare.{nowhere, bare_name, bare_path, bare_type, bare_param, bare_form, bare_arg, bare_block}

abbrev pub bare_initial : Initial → Initial
bare_initial (initial.Base args) = initial.Base (map bare_arg args)
bare_initial (initial.This args) = initial.This (map bare_arg args)

abbrev pub bare_explicit : Explicit → Explicit
bare_explicit e = record { spot = nowhere; path = e.path }

abbrev pub bare_accessor : Accessor → Accessor
bare_accessor a = record { spot = nowhere; mods = a.mods; block = option_map bare_block a.block }

abbrev pub bare_member : Member → Member
bare_member (member.Field _ _ mods ty name value) = member.Field nowhere None mods (bare_type ty) (bare_name name) (option_map bare_form value)
bare_member (member.Constant _ _ mods ty name value) = member.Constant nowhere None mods (bare_type ty) (bare_name name) (bare_form value)
bare_member (member.Method _ _ mods ty explicit name params block) =
    member.Method nowhere None mods (option_map bare_type ty) (option_map bare_explicit explicit) (bare_name name) (map bare_param params) (option_map bare_block block)
bare_member (member.Constructor _ _ mods name params first block) =
    member.Constructor nowhere None mods (bare_name name) (map bare_param params) (bare_initial first) (bare_block block)
bare_member (member.Initializer _ _ name block) = member.Initializer nowhere None (bare_name name) (bare_block block)
bare_member (member.Property _ _ mods ty name getter setter) =
    member.Property nowhere None mods (bare_type ty) (bare_name name) (option_map bare_accessor getter) (option_map bare_accessor setter)
bare_member (member.Maker spot mods name params) = member.Maker nowhere mods (bare_name name) (map bare_param params)
bare_member (member.Indexer spot mods ty name index_ty index getter setter) =
    member.Indexer nowhere mods (bare_type ty) (bare_name name) (bare_type index_ty) (bare_name index) (option_map bare_accessor getter) (option_map bare_accessor setter)
bare_member (member.Operator spot ty name params) = member.Operator nowhere (bare_type ty) (bare_name name) (map bare_param params)

abbrev pub bare_enumerator : Enumerator → Enumerator
bare_enumerator e = record { name = bare_name e.name; negative = e.negative; value = e.value }

abbrev pub decl_layer : Decl-F Decl Item → Decl
decl_layer (Decl-F.Body _ _ mods kind name bases items) = decl.Body nowhere None mods kind (bare_name name) (map bare_type bases) items
decl_layer (Decl-F.Enum _ _ mods name ty enumerators) = decl.Enum nowhere None mods (bare_name name) (bare_type ty) (map bare_enumerator enumerators)
decl_layer (Decl-F.Delegate _ _ mods ty name params) =
    decl.Delegate nowhere None mods (option_map bare_type ty) (bare_name name) (map bare_param params)

abbrev pub item_layer : Item-F Decl Item → Item
item_layer (Item-F.Member m) = item.Member (bare_member m)
item_layer (Item-F.Type d) = item.Type d

abbrev pub bare_decl : Decl → Decl
bare_decl = fold-Decl Decl Item decl_layer item_layer

abbrev pub bare_space : Space → Space
bare_space (space.Namespace _ _ path types) = space.Namespace nowhere None (bare_path path) (map bare_decl types)
bare_space (space.Type d) = space.Type (bare_decl d)

abbrev pub bare_unit : WholeText → WholeText
bare_unit u = record { assembly = None; spaces = map bare_space u.spaces }

-- two texts, members, expressions are the same but for places and notes
abbrev pub SameUnit : WholeText → WholeText → Type 0
SameUnit t u = bare_unit t ≡ bare_unit u

abbrev pub SameMember : Member → Member → Type 0
SameMember t u = bare_member t ≡ bare_member u
