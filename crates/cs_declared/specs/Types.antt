-- The types that a text declares, in its order: a type stands before those that are nested in it, and its number is how many types stand
-- before it (ECMA-334, 14.2, 14.3, 15.3.9).
use Rattle.std.specs.Prelude.{ℕ, List, [], ◌∷◌, ◌++◌, length, map, Option, None, Some}
use Rattle.dc_base.specs.declared.names.TypeId.{TypeId}
use Rattle.class_rows.specs.Names.{dotted}
use Rattle.cs_tree.specs.declared.types.Name.{Name}
use Rattle.cs_tree.specs.declared.types.TypeForm.{TypeForm}
use Rattle.cs_tree.specs.declared.types.Param.{Param}
use Rattle.cs_tree.specs.declared.members.Mods.{Mods}
use Rattle.cs_tree.specs.declared.members.Member.{Member}
use Rattle.cs_tree.specs.declared.declarations.Enumerator.{Enumerator}
use Rattle.cs_tree.specs.declared.declarations.Kind.{Kind}
use Rattle.cs_tree.specs.declared.declarations.Kind.TheVariants as kind
use Rattle.cs_tree.specs.declared.declarations.Item.{Item}
use Rattle.cs_tree.specs.declared.declarations.Decl.{Decl}
use Rattle.cs_tree.specs.declared.declarations.Decl.TheOpen.{Decl-F, Item-F}
use Rattle.cs_tree.specs.declared.declarations.Decl.TheFolds.{fold-Decl, fold-Item}
use Rattle.cs_tree.specs.declared.declarations.Space.{Space}
use Rattle.cs_tree.specs.declared.declarations.Space.TheVariants as space
use Rattle.cs_tree.specs.declared.declarations.Unit.{Unit as WholeText}
use Rattle.cs_declared.specs.declared.declared.Within.{Within}
use Rattle.cs_declared.specs.declared.declared.Within.TheVariants as within
use Rattle.cs_declared.specs.declared.scope.Scope.{Scope}
use Rattle.cs_declared.specs.Names.{joined}

-- what kind of type is declared, and the members that stand directly in it
pub data Content : Type 0 where
  Body : Kind → List TypeForm → List Member → Content
  Enum : TypeForm → List Enumerator → Content
  Delegate : Option TypeForm → List Param → Content

-- a declared type: the number of the type that it is nested in, what stands directly round it, its namespace where it is nested in none,
-- and its full name
pub record Placed : Type 0 where
  pub outer : Option TypeId
  pub within : Within
  pub space : List ℕ
  pub full : List ℕ
  pub mods : Mods
  pub name : Name
  pub content : Content

-- what stands directly round the types of a namespace, and round those that are nested in a type
abbrev pub of_space : List ℕ → Scope
of_space name = record { outer = None; within = within.Space; space = name; front = name }

abbrev pub within_of : Kind → Within
within_of kind.Class = within.Type
within_of kind.Interface = within.Interface
within_of kind.Struct = within.Type

abbrev pub of_type : ℕ → Kind → List ℕ → Scope
of_type number kind full = record { outer = Some (record { 0 = number }); within = within_of kind; space = []; front = full }

abbrev pub placed : Scope → Mods → Name → Content → Placed
placed scope mods name content =
    record {
      outer = scope.outer;
      within = scope.within;
      space = scope.space;
      full = dotted scope.front name.text;
      mods = mods;
      name = name;
      content = content;
    }

-- the types up to here, and with those of some part of the text behind them
abbrev pub Grown : Type 0
Grown = Scope → List Placed → List Placed

abbrev pub all_grown : List Grown → Grown
all_grown [] scope before = before
all_grown (g ∷ parts) scope before = all_grown parts scope (g scope before)

-- what stands in a type: a member, or types
pub data Part : Type 0 where
  OfMember : Member → Part
  OfType : Grown → Part

abbrev pub members_of : List Part → List Member
members_of [] = []
members_of (OfMember m ∷ parts) = m ∷ members_of parts
members_of (OfType g ∷ parts) = members_of parts

abbrev pub types_of : List Part → List Grown
types_of [] = []
types_of (OfMember m ∷ parts) = types_of parts
types_of (OfType g ∷ parts) = g ∷ types_of parts

-- one layer of each

abbrev pub decl_layer : Decl-F Grown Part → Grown
decl_layer (Decl-F.Body _ _ mods kind name bases items) scope before =
    all_grown (types_of items) (of_type (length before) kind (dotted scope.front name.text)) (before ++ placed scope mods name (Body kind bases (members_of items)) ∷ [])
decl_layer (Decl-F.Enum _ _ mods name ty enumerators) scope before = before ++ placed scope mods name (Enum ty enumerators) ∷ []
decl_layer (Decl-F.Delegate _ _ mods result name params) scope before = before ++ placed scope mods name (Delegate result params) ∷ []

abbrev pub item_layer : Item-F Grown Part → Part
item_layer (Item-F.Member m) = OfMember m
item_layer (Item-F.Type g) = OfType g

-- whole trees

abbrev pub decl_grown : Decl → Grown
decl_grown = fold-Decl Grown Part decl_layer item_layer

abbrev pub item_grown : Item → Part
item_grown = fold-Item Grown Part decl_layer item_layer

abbrev pub space_grown : List Placed → Space → List Placed
space_grown before (space.Namespace _ _ path types) = all_grown (map decl_grown types) (of_space (joined path.names)) before
space_grown before (space.Type d) = decl_grown d (of_space []) before

abbrev pub spaces_grown : List Placed → List Space → List Placed
spaces_grown before [] = before
spaces_grown before (s ∷ spaces) = spaces_grown (space_grown before s) spaces

-- the types that a text declares
abbrev pub types_in : WholeText → List Placed
types_in unit = spaces_grown [] unit.spaces
