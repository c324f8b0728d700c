-- Who implements the methods of interfaces (ECMA-335 II.12.2; ECMA-334 on interface implementations).
use Rattle.std.specs.Prelude.{◌≡◌, ◌≢◌, ◌⊎◌, ℕ, List, [], ◌∷◌, Bool, true, false, Some, slice_get, Contains}
use Rattle.dc_base.specs.declared.names.TypeId.{TypeId}
use Rattle.dc_base.specs.declared.names.MemberId.{MemberId}
use Rattle.class_rows.specs.declared.row.TypeRow.{TypeRow}
use Rattle.class_rows.specs.declared.row.MemberRow.{MemberRow}
use Rattle.class_rows.specs.declared.row.Access.TheVariants.{Public}
use Rattle.class_rows.specs.declared.row.Param.{Param}
use Rattle.class_rows.specs.declared.row.Way.{Way}
use Rattle.class_rows.specs.declared.row.Way.TheVariants.{ByValue, Ref, Out}
use Rattle.class_rows.specs.declared.row.Sort.TheVariants.{Field as FieldSort}
use Rattle.class_rows.specs.Types.{HasType, InBaseChain, NamesInterface, IsClass}
use Rattle.class_rows.specs.Members.{HasMember, IsOf, sort_of}

-- two ways are one; `ref` and `out` are, between an own member and one of the references
abbrev pub IsOneWay : Bool → Way → Way → Type 0
IsOneWay across Ref Out = across ≡ true
IsOneWay across Out Ref = across ≡ true
IsOneWay across v w = v ≡ w

abbrev pub AreOneList : Bool → List Param → List Param → Type 0
AreOneList across [] [] = Unit {0}
AreOneList across (p ∷ ps) (q ∷ qs) = (p.ty ≡ q.ty) × IsOneWay across p.way q.way × AreOneList across ps qs
AreOneList across [] (q ∷ qs) = ⊥
AreOneList across (p ∷ ps) [] = ⊥

-- whether just one of two types is own
abbrev pub differs : Bool → Bool → Bool
differs true true = false
differs false false = false
differs true false = true
differs false true = true

-- two members have one name, kind and result, and parameters of the same types and ways
pub record AreAlike (types : List TypeRow) (a b : MemberRow) : Type 0 where
  pub name : a.name ≡ b.name
  pub sort : sort_of a.kind ≡ sort_of b.kind
  pub result : a.result ≡ b.result
  pub owner : TypeRow
  pub owns : slice_get types a.owner.0 ≡ Some owner
  pub other : TypeRow
  pub other_owns : slice_get types b.owner.0 ≡ Some other
  pub params : AreOneList (differs owner.own other.own) a.params b.params

-- m is a method of an interface of the class c, or of a base of it
pub record IsDue (types : List TypeRow) (members : List MemberRow) (c m : ℕ) : Type 0 where
  pub class : HasType types c (λ row. IsClass row.kind)
  pub b : ℕ
  pub base : InBaseChain types c b
  pub i : ℕ
  pub interface : NamesInterface types b i
  pub method : HasMember members m (λ row. (row.owner ≡ record { 0 = i }) × (sort_of row.kind ≢ FieldSort) × (row.is_static ≡ false))

-- x implements m for the class c: it is a member of c or of a base, and it implements m explicitly, or is a
-- public instance member like m
pub record IsImplementer (types : List TypeRow) (members : List MemberRow) (explicit : List (MemberId × MemberId)) (c m x : ℕ) : Type 0 where
  pub b : ℕ
  pub base : InBaseChain types c b
  pub row : MemberRow
  pub stands : slice_get members x ≡ Some row
  pub owned : row.owner ≡ record { 0 = b }
  pub implements : Contains explicit (record { 0 = x }, record { 0 = m })
      ⊎ ((row.access ≡ Public) × (row.is_static ≡ false) × HasMember members m (λ due. AreAlike types row due))

pub record IsUnimplemented (types : List TypeRow) (members : List MemberRow) (explicit : List (MemberId × MemberId)) (c m : ℕ) : Type 0 where
  pub due : IsDue types members c m
  pub none : (x : ℕ) → IsImplementer types members explicit c m x → ⊥

abbrev pub InterfacesAreImplemented : List TypeRow → List MemberRow → List (MemberId × MemberId) → Type 0
InterfacesAreImplemented types members explicit = (c m : ℕ) → IsUnimplemented types members explicit c m → ⊥
