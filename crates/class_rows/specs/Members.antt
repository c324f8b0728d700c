-- The list of members, and which of them agree (ECMA-335 II.22.15, II.22.26; ECMA-334 on signatures and overloading).
use Rattle.std.specs.Prelude.{◌≡◌, ◌≢◌, ◌⊎◌, ℕ, ◌++◌, List, [], ◌∷◌, Option, Some, None, slice_get, map, drop, Bool, true, false, Contains}
use Rattle.dc_base.specs.declared.names.TypeId.{TypeId}
use Rattle.dc_base.specs.declared.names.MemberId.{MemberId}
use Rattle.dc_base.specs.declared.ty.Ty.{Ty}
use Rattle.class_rows.specs.declared.row.TypeRow.{TypeRow}
use Rattle.class_rows.specs.declared.row.MemberRow.{MemberRow}
use Rattle.class_rows.specs.declared.row.MemberKind.{MemberKind}
use Rattle.class_rows.specs.declared.row.MemberKind.TheVariants.{Field, Method, Constructor, Getter, Setter, Indexer, Operator}
use Rattle.class_rows.specs.declared.row.Sort.{Sort}
use Rattle.class_rows.specs.declared.row.Sort.TheVariants.{Field as FieldSort, Method as MethodSort, Constructor as ConstructorSort, Getter as GetterSort, Setter as SetterSort, Indexer as IndexerSort, Operator as OperatorSort}
use Rattle.class_rows.specs.declared.row.Param.{Param}
use Rattle.class_rows.specs.declared.row.Way.{Way}
use Rattle.class_rows.specs.declared.row.Way.TheVariants.{ByValue, Ref, Out}
use Rattle.class_rows.specs.Types.{HasType, IsOuter}
use Rattle.class_rows.specs.Names.{IsReference}

abbrev pub sort_of : MemberKind → Sort
sort_of (Field init_only literal) = FieldSort
sort_of Method = MethodSort
sort_of Constructor = ConstructorSort
sort_of Getter = GetterSort
sort_of Setter = SetterSort
sort_of Indexer = IndexerSort
sort_of Operator = OperatorSort

-- the member of this number has a row of which the fact holds
pub record HasMember (members : List MemberRow) (m : ℕ) (Fact : MemberRow → Type 0) : Type 0 where
  pub row : MemberRow
  pub stands : slice_get members m ≡ Some row
  pub is : Fact row

-- the member is one of this type's own
abbrev pub IsOf : List MemberRow → ℕ → ℕ → Type 0
IsOf members t m = HasMember members m (λ row. row.owner ≡ record { 0 = t })

-- the name that C# knows it by: an accessor goes by its property's, without the four letters `get_` or `set_`
abbrev pub name_of : Sort → List ℕ → List ℕ
name_of GetterSort name = drop 4 name
name_of SetterSort name = drop 4 name
name_of IndexerSort name = drop 4 name
name_of _ name = name

abbrev pub known_as : MemberRow → List ℕ
known_as row = name_of (sort_of row.kind) row.name

abbrev pub types_of : MemberRow → List Ty
types_of row = map (λ (p : Param). p.ty) row.params

-- one is the getter of a property and the other its setter: the setter takes, last, a value of the getter's result
pub record IsProperty (getter setter : MemberRow) : Type 0 where
  pub gets : sort_of getter.kind ≡ GetterSort
  pub sets : sort_of setter.kind ≡ SetterSort
  pub one_static : getter.is_static ≡ setter.is_static
  pub one_type : types_of setter ≡ types_of getter ++ (getter.result ∷ [])

-- members of these sorts may have one name
abbrev pub IsOverloaded : Sort → Type 0
IsOverloaded sort = (sort ≡ MethodSort) ⊎ (sort ≡ IndexerSort) ⊎ (sort ≡ ConstructorSort) ⊎ (sort ≡ OperatorSort)

-- two members of one name are of one such sort, and their parameters differ in type
pub record AreOverloads (a b : MemberRow) : Type 0 where
  pub one_sort : sort_of a.kind ≡ sort_of b.kind
  pub overloaded : IsOverloaded (sort_of a.kind)
  pub apart : types_of a ≢ types_of b

abbrev pub MayShareName : MemberRow → MemberRow → Type 0
MayShareName a b = IsProperty a b ⊎ IsProperty b a ⊎ AreOverloads a b

-- two members agree in name, kind, parameters and result
pub record Agree (a b : MemberRow) : Type 0 where
  pub name : a.name ≡ b.name
  pub sort : sort_of a.kind ≡ sort_of b.kind
  pub params : a.params ≡ b.params
  pub result : a.result ≡ b.result

-- an explicit implementation in a type of the references has no name of its own
pub record IsNameless (types : List TypeRow) (members : List MemberRow) (explicit : List (MemberId × MemberId)) (m : ℕ) : Type 0 where
  pub t : ℕ
  pub owned : IsOf members t m
  pub reference : IsReference types t
  pub interface_member : ℕ
  pub paired : Contains explicit (record { 0 = m }, record { 0 = interface_member })
