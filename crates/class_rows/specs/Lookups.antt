-- What is asked of a class table: which types go where (ECMA-335 I.8.7), slots (II.10.3), look-up (I.8.10.4 and
-- ECMA-334 on member look-up) and access (ECMA-335 I.8.5.3).
use Rattle.std.specs.Prelude.{◌≡◌, ◌≢◌, ◌⊎◌, ◌↔◌, ℕ, ◌+◌, ◌<◌, List, [], ◌∷◌, ◌++◌, Bool, true, false, not, ◌==◌, filter, Option, Some, None, slice_get, map, Contains, codes}
use Rattle.std.specs.List.Sorted.{IsStrictlyIncreasing}
use Rattle.dc_base.specs.declared.names.TypeId.{TypeId}
use Rattle.dc_base.specs.declared.names.MemberId.{MemberId}
use Rattle.dc_base.specs.declared.ty.Ty.{Ty}
use Rattle.dc_base.specs.declared.ty.Core.{Core}
use Rattle.dc_base.specs.declared.ty.Core.TheVariants.{Class as ClassCore}
use Rattle.class_rows.specs.declared.row.TypeRow.{TypeRow}
use Rattle.class_rows.specs.declared.row.MemberRow.{MemberRow}
use Rattle.class_rows.specs.declared.row.Kind.TheVariants.{Interface}
use Rattle.class_rows.specs.declared.row.Access.{Access}
use Rattle.class_rows.specs.declared.row.Access.TheVariants.{Private, PrivateProtected, Internal, Protected, ProtectedInternal, Public}
use Rattle.class_rows.specs.declared.row.Virt.{Virt}
use Rattle.class_rows.specs.declared.row.Virt.TheVariants.{Plain, Virtual, Abstract, Override, SealedOverride}
use Rattle.class_rows.specs.Types.{HasType, IsBase, IsNamed, IsOuter, InBaseChain, IsSuper, IsRound}
use Rattle.class_rows.specs.Members.{HasMember, IsOf, IsNameless, known_as}
use Rattle.class_rows.specs.Core.{IsSystem}
use Rattle.class_rows.specs.Implemented.{AreAlike}

-- a type with so many brackets
abbrev pub brackets : Core → ℕ → Ty
brackets core n = record { core = core; arrays = n; lent = false }

abbrev pub class_ty : ℕ → Ty
class_ty t = brackets (ClassCore (record { 0 = t })) 0

-- a class, interface or delegate, or an array
abbrev pub IsReferenceTy : Core → ℕ → Type 0
IsReferenceTy core n = ((t : ℕ) × (core ≡ ClassCore (record { 0 = t })) × (n ≡ 0)) ⊎ (0 < n)

-- a reference to s may stand where one to t is wanted
pub data IsAssignable (types : List TypeRow) : Ty → Ty → Type 0 where
  same : (s : Ty) → IsAssignable types s s
  to_super : (s t : ℕ) → IsSuper types s t → IsAssignable types (class_ty s) (class_ty t)
  to_object : (s t : ℕ) → HasType types s (λ row. row.kind ≡ Interface) → IsSystem types (codes "Object") t → IsAssignable types (class_ty s) (class_ty t)
  elements : (c d : Core) (m n : ℕ) → IsReferenceTy c m → IsReferenceTy d n → IsAssignable types (brackets c m) (brackets d n) → IsAssignable types (brackets c (m + 1)) (brackets d (n + 1))
  array : (c : Core) (m a : ℕ) (t : Ty) → IsSystem types (codes "Array") a → IsAssignable types (class_ty a) t → IsAssignable types (brackets c (m + 1)) t

-- each type of a set may stand there
abbrev pub AreAssignable : List TypeRow → List Ty → Ty → Type 0
AreAssignable types set to = (k : ℕ) (s : Ty) → slice_get set k ≡ Some s → IsAssignable types s to

-- a virtual method takes over a slot
abbrev pub TakesOver : Virt → Type 0
TakesOver virt = (virt ≡ Override) ⊎ (virt ≡ SealedOverride)

-- a named virtual instance method like this one
abbrev pub IsVirtualLike : List TypeRow → List MemberRow → List (MemberId × MemberId) → MemberRow → ℕ → ℕ → Type 0
IsVirtualLike types members explicit row t n =
    HasMember members n (λ other. (other.owner ≡ record { 0 = t }) × (other.virt ≢ Plain) × (other.is_static ≡ false) × AreAlike types other row)
    × (IsNameless types members explicit n → ⊥)

-- the nearest such method in a type or, where it has none, in its base chain
pub data IsNearest (types : List TypeRow) (members : List MemberRow) (explicit : List (MemberId × MemberId)) (row : MemberRow) : ℕ → ℕ → Type 0 where
  in_it : (t n : ℕ) → IsVirtualLike types members explicit row t n → IsNearest types members explicit row t n
  above : (t b n : ℕ) → ((k : ℕ) → IsVirtualLike types members explicit row t k → ⊥) → IsBase types t b → IsNearest types members explicit row b n → IsNearest types members explicit row t n

-- the member that an override overrides
pub record IsOverridden (types : List TypeRow) (members : List MemberRow) (explicit : List (MemberId × MemberId)) (m n : ℕ) : Type 0 where
  pub row : MemberRow
  pub stands : slice_get members m ≡ Some row
  pub over : TakesOver row.virt
  pub b : ℕ
  pub base : IsBase types row.owner.0 b
  pub nearest : IsNearest types members explicit row b n

-- the member that introduced the slot of m; m itself where it takes none over
pub data IsSlot (types : List TypeRow) (members : List MemberRow) (explicit : List (MemberId × MemberId)) : ℕ → ℕ → Type 0 where
  itself : (m : ℕ) → ((n : ℕ) → IsOverridden types members explicit m n → ⊥) → IsSlot types members explicit m m
  taken : (m n s : ℕ) → IsOverridden types members explicit m n → IsSlot types members explicit n s → IsSlot types members explicit m s

-- a type and its base chain, from it up
pub data IsChain (types : List TypeRow) : ℕ → List ℕ → Type 0 where
  ended : (t : ℕ) → ((b : ℕ) → IsBase types t b → ⊥) → IsChain types t (t ∷ [])
  longer : (t b : ℕ) (chain : List ℕ) → IsBase types t b → IsChain types b chain → IsChain types t (t ∷ chain)

-- the numbers of the interfaces that a type names, in order
abbrev pub AreNamed : List TypeRow → ℕ → List ℕ → Type 0
AreNamed types t is = HasType types t (λ row. map (λ (i : TypeId). i.0) row.bases ≡ is)

-- interfaces in order, each directly followed by those that it names, in the same way
pub data AreSpread (types : List TypeRow) : List ℕ → List ℕ → Type 0 where
  none : AreSpread types [] []
  more : (i : ℕ) (is named spread rest : List ℕ) → AreNamed types i named → AreSpread types named spread → AreSpread types is rest → AreSpread types (i ∷ is) (i ∷ (spread ++ rest))

-- each number once, where it occurs first
abbrev pub firsts : List ℕ → List ℕ
firsts [] = []
firsts (x ∷ xs) = x ∷ filter (λ y. not (y == x)) (firsts xs)

-- The types whose members a look-up in t gives, in order: its base chain, and for an interface its interfaces and
-- System.Object.
pub data AreSearched (types : List TypeRow) (t : ℕ) : List ℕ → Type 0 where
  of_interface : (chain named spread : List ℕ) (o : ℕ) → HasType types t (λ row. row.kind ≡ Interface) → IsChain types t chain → AreNamed types t named → AreSpread types named spread → IsSystem types (codes "Object") o → AreSearched types t (firsts (chain ++ (spread ++ (o ∷ []))))
  of_other : (chain : List ℕ) → (HasType types t (λ row. row.kind ≡ Interface) → ⊥) → IsChain types t chain → AreSearched types t chain

-- a member of u that C# knows by this name and that isn't left out: it has a name, and overrides none
abbrev pub IsFound : List TypeRow → List MemberRow → List (MemberId × MemberId) → List ℕ → ℕ → ℕ → Type 0
IsFound types members explicit name u m =
    HasMember members m (λ row. (row.owner ≡ record { 0 = u }) × (known_as row ≡ name) × (TakesOver row.virt → ⊥))
    × (IsNameless types members explicit m → ⊥)

-- for each type in turn its members of this name, by number
pub data AreFound (types : List TypeRow) (members : List MemberRow) (explicit : List (MemberId × MemberId)) (name : List ℕ) : List ℕ → List ℕ → Type 0 where
  none : AreFound types members explicit name [] []
  more : (u : ℕ) (us found rest : List ℕ) → IsStrictlyIncreasing found → ((m : ℕ) → Contains found m ↔ IsFound types members explicit name u m) → AreFound types members explicit name us rest → AreFound types members explicit name (u ∷ us) (found ++ rest)

-- what a look-up of a name in t gives
pub record IsLookup (types : List TypeRow) (members : List MemberRow) (explicit : List (MemberId × MemberId)) (t : ℕ) (name found : List ℕ) : Type 0 where
  pub searched : List ℕ
  pub are_searched : AreSearched types t searched
  pub are_found : AreFound types members explicit name searched found

-- both types are own
abbrev pub AreOwn : List TypeRow → ℕ → ℕ → Type 0
AreOwn types from owner = HasType types from (λ row. row.own ≡ true) × HasType types owner (λ row. row.own ≡ true)

abbrev pub IsThrough : List TypeRow → Option TypeId → ℕ → Type 0
IsThrough types None heir = Unit {0}
IsThrough types (Some t) heir = InBaseChain types t.0 heir

-- a type round `from`, or itself, is the owner or derives from it; what is reached goes through a type that is that
-- heir or derives from it
pub record IsHeir (types : List TypeRow) (from owner : ℕ) (through : Option TypeId) : Type 0 where
  pub heir : ℕ
  pub round : IsRound types from heir
  pub derives : InBaseChain types heir owner
  pub reached : IsThrough types through heir

-- what has this access in the owner may be named from there
abbrev pub MayName : List TypeRow → Access → ℕ → ℕ → Option TypeId → Type 0
MayName types Public owner from through = Unit {0}
MayName types Private owner from through = IsRound types from owner
MayName types Internal owner from through = AreOwn types from owner
MayName types Protected owner from through = IsHeir types from owner through
MayName types ProtectedInternal owner from through = IsHeir types from owner through ⊎ AreOwn types from owner
MayName types PrivateProtected owner from through = IsHeir types from owner through × AreOwn types from owner

-- a type may be named: it is nested in none, and public or own, or may be named as a member of its outer type
pub data IsOpen (types : List TypeRow) (from : ℕ) : ℕ → Type 0 where
  at_top : (t : ℕ) → HasType types t (λ row. (row.outer ≡ None) × ((row.access ≡ Public) ⊎ (row.own ≡ true))) → IsOpen types from t
  nested : (t o : ℕ) → IsOuter types t o → HasType types t (λ row. MayName types row.access o from None) → IsOpen types from o → IsOpen types from t

-- a member may be named from a type, through a type where one is given
abbrev pub IsAccessible : List TypeRow → List MemberRow → ℕ → ℕ → Option TypeId → Type 0
IsAccessible types members from m through =
    HasMember members m (λ row. MayName types row.access row.owner.0 from through × IsOpen types from row.owner.0)
