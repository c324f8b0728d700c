-- Each member of a text is owned by a type of it.
use Rattle.std.proofs.Common.{◌≡◌, ℕ, ◌+◌, ◌<◌, false, List, [], ◌∷◌, ◌++◌, map, length, All, Option, Some, None, refl, sym, subst, arith}
use Rattle.std.proofs.lemmas.List.Elements.{All-nil, All-cons, All-append, All-map, All-weaker}
use Rattle.dc_base.specs.declared.names.TypeId.{TypeId}
use Rattle.dc_base.specs.declared.ty.Ty.{Ty}
use Rattle.class_rows.specs.declared.row.MemberRow.{MemberRow}
use Rattle.class_rows.specs.declared.row.MemberKind.{MemberKind}
use Rattle.class_rows.specs.declared.row.MemberKind.TheVariants as member_kind
use Rattle.class_rows.specs.declared.row.Param.{Param}
use Rattle.cs_tree.specs.declared.types.Name.{Name}
use Rattle.cs_tree.specs.declared.types.TypeForm.{TypeForm}
use Rattle.cs_tree.specs.declared.types.Param.{Param as TreeParam}
use Rattle.cs_tree.specs.declared.members.Mods.{Mods}
use Rattle.cs_tree.specs.declared.members.Explicit.{Explicit}
use Rattle.cs_tree.specs.declared.members.Accessor.{Accessor}
use Rattle.cs_tree.specs.declared.members.Member.{Member}
use Rattle.cs_tree.specs.declared.members.Member.TheVariants as member
use Rattle.cs_declared.specs.Types.{Placed, Content, Body, Enum, Delegate, within_of}
use Rattle.class_written.specs.Named.{Known}
use Rattle.class_written.specs.Forms.{type_id, ty_of}
use Rattle.class_texts.specs.declared.row.Home.{Home}
use Rattle.class_texts.specs.declared.row.Row.{Row}
use Rattle.class_texts.specs.MemberRows.{plain, by_value, method_rows, getter_row, setter_row, member_rows, all_member_rows, enumerator_row, maker_row, invoke_row, content_rows, rows_from}

-- a row of this home's type
abbrev In : Home → Row → Type 0
In home r = r.row.owner ≡ home.owner

abbrev AreIn : Home → List Row → Type 0
AreIn home rows = All (In home) rows

none_in : (home : Home) → AreIn home []
none_in home = All-nil (In home)

one_in : (home : Home) (r : Row) → In home r → AreIn home (r ∷ [])
one_in home r is = All-cons (In home) r [] is (All-nil (In home))

-- accessors

abbrev Of : Home → MemberRow → Type 0
Of home row = row.owner ≡ home.owner

getter_in : (home : Home) (mods : Mods) (kind : MemberKind) (params : List Param) (ty : Ty) (name : Name) (a : Option Accessor) → All (Of home) (getter_row home mods kind params ty name a)
getter_in home mods kind params ty name None = All-nil (Of home)
getter_in home mods kind params ty name (Some a) = All-cons (Of home) _ [] refl (All-nil (Of home))

setter_in : (home : Home) (mods : Mods) (kind : MemberKind) (params : List Param) (ty : Ty) (name : Name) (a : Option Accessor) → All (Of home) (setter_row home mods kind params ty name a)
setter_in home mods kind params ty name None = All-nil (Of home)
setter_in home mods kind params ty name (Some a) = All-cons (Of home) _ [] refl (All-nil (Of home))

accessors_in : (home : Home) (gs ss : List MemberRow) → All (Of home) gs → All (Of home) ss → AreIn home (map plain (gs ++ ss))
accessors_in home gs ss g s = All-map (In home) plain (gs ++ ss) (All-append (Of home) gs ss g s)

-- members

method_in : (types : List Known) (home : Home) (mods : Mods) (result : Option TypeForm) (explicit : Option Explicit) (name : Name) (params : List TreeParam) → In home (method_rows types home mods result explicit name params)
method_in types home mods result None name params = refl
method_in types home mods result (Some e) name params = refl

member_in : (types : List Known) (home : Home) (m : Member) → AreIn home (member_rows types home m)
member_in types home (member.Field _ _ mods ty name v) = one_in home _ refl
member_in types home (member.Constant _ _ mods ty name v) = one_in home _ refl
member_in types home (member.Method _ _ mods result explicit name params block) =
    one_in home _ (method_in types home mods result explicit name params)
member_in types home (member.Property _ _ mods ty name getter setter) =
    accessors_in home _ _ (getter_in home mods member_kind.Getter [] (ty_of types false ty) name getter) (setter_in home mods member_kind.Setter [] (ty_of types false ty) name setter)
member_in types home (member.Maker _ mods name params) = one_in home _ refl
member_in types home (member.Indexer _ mods ty name index_ty index getter setter) =
    accessors_in home _ _ (getter_in home mods member_kind.Indexer (by_value (ty_of types false index_ty) ∷ []) (ty_of types false ty) name getter) (setter_in home mods member_kind.Indexer (by_value (ty_of types false index_ty) ∷ []) (ty_of types false ty) name setter)
member_in types home (member.Operator _ ty name params) = one_in home _ refl
member_in types home (member.Constructor _ _ mods name params initial block) = none_in home
member_in types home (member.Initializer _ _ name block) = none_in home

members_in : (types : List Known) (home : Home) (members : List Member) → AreIn home (all_member_rows types home members)
members_in types home [] = none_in home
members_in types home (m ∷ members) =
    All-append (In home) (member_rows types home m) (all_member_rows types home members) (member_in types home m) (members_in types home members)

-- the members of one type, and of all

abbrev OwnedBy : ℕ → Row → Type 0
OwnedBy n r = r.row.owner ≡ type_id n

content_owned : (types : List Known) (n : ℕ) (c : Content) → All (OwnedBy n) (content_rows types n c)
content_owned types n (Body kind bases members) = members_in types (record { owner = type_id n; within = within_of kind }) members
content_owned types n (Enum ty enumerators) = All-map (OwnedBy n) (enumerator_row types n) enumerators (λ k d lt. refl)
content_owned types n (Delegate result params) =
    All-cons (OwnedBy n) (maker_row types n) (invoke_row types n result params ∷ []) refl
    (All-cons (OwnedBy n) (invoke_row types n result params) [] refl (All-nil (OwnedBy n)))

abbrev OwnedBelow : ℕ → Row → Type 0
OwnedBelow n r = r.row.owner.0 < n

one_below : (k n : ℕ) → k < n → (r : Row) → OwnedBy k r → OwnedBelow n r
one_below k n lt r is = subst (λ (t : TypeId). t.0 < n) (sym is) lt

owned_from : (types : List Known) (k : ℕ) (all : List Placed) → All (OwnedBelow (k + length all)) (rows_from types k all)
owned_from types k [] = All-nil (OwnedBelow (k + 0))
owned_from types k (p ∷ rest) =
    All-append (OwnedBelow (k + length (p ∷ rest))) (content_rows types k p.content) (rows_from types (k + 1) rest)
    (All-weaker (OwnedBy k) (OwnedBelow (k + length (p ∷ rest))) (one_below k (k + length (p ∷ rest)) (omega arith)) (content_rows types k p.content) (content_owned types k p.content))
    (All-weaker (OwnedBelow ((k + 1) + length rest)) (OwnedBelow (k + length (p ∷ rest))) (λ r lt. omega (arith, lt)) (rows_from types (k + 1) rest) (owned_from types (k + 1) rest))

pub all_owned : (types : List Known) (all : List Placed) → All (λ (row : MemberRow). row.owner.0 < length all) (map (λ (r : Row). r.row) (rows_from types 0 all))
all_owned types all =
    let e : 0 + length all ≡ length all = omega arith in
    All-map (λ (row : MemberRow). row.owner.0 < length all) (λ (r : Row). r.row) (rows_from types 0 all)
    (subst (λ (n : ℕ). All (OwnedBelow n) (rows_from types 0 all)) e (owned_from types 0 all))
