-- The rows of the members that a reference text declares (ECMA-334, 15.3 to 15.12, 18.4, 19.4, 20.2).
use Rattle.std.specs.Prelude.{ℕ, ◌+◌, List, [], ◌∷◌, ◌++◌, Option, None, Some, Bool, true, false, cond, codes, map, ℤ, pos, neg_ℤ}
use Rattle.dc_base.specs.declared.ty.Ty.{Ty}
use Rattle.class_rows.specs.declared.row.MemberRow.{MemberRow}
use Rattle.class_rows.specs.declared.row.MemberKind.{MemberKind}
use Rattle.class_rows.specs.declared.row.MemberKind.TheVariants as member_kind
use Rattle.class_rows.specs.declared.row.Literal.{Literal}
use Rattle.class_rows.specs.declared.row.Literal.TheVariants as value
use Rattle.class_rows.specs.declared.row.Access.{Access}
use Rattle.class_rows.specs.declared.row.Access.TheVariants as access
use Rattle.class_rows.specs.declared.row.Virt.{Virt}
use Rattle.class_rows.specs.declared.row.Virt.TheVariants as virt
use Rattle.class_rows.specs.declared.row.Param.{Param}
use Rattle.class_rows.specs.declared.row.Way.{Way}
use Rattle.class_rows.specs.declared.row.Way.TheVariants as way
use Rattle.cs_tree.specs.declared.types.Name.{Name}
use Rattle.cs_tree.specs.declared.types.TypeForm.{TypeForm}
use Rattle.cs_tree.specs.declared.types.Param.{Param as TreeParam}
use Rattle.cs_tree.specs.declared.types.Way.{Way as TreeWay}
use Rattle.cs_tree.specs.declared.types.Way.TheVariants as tree_way
use Rattle.cs_tree.specs.declared.forms.Literal.{Literal as TreeLiteral}
use Rattle.cs_tree.specs.declared.forms.Literal.TheVariants as literal
use Rattle.cs_tree.specs.declared.forms.Form.{Form}
use Rattle.cs_tree.specs.declared.forms.Action.TheOpen.{Form-F}
use Rattle.cs_tree.specs.declared.forms.Action.TheFolds.{fold-Form}
use Rattle.cs_tree.specs.declared.members.Access.{Access as Word}
use Rattle.cs_tree.specs.declared.members.Mods.{Mods}
use Rattle.cs_tree.specs.declared.members.Explicit.{Explicit}
use Rattle.cs_tree.specs.declared.members.Accessor.{Accessor}
use Rattle.cs_tree.specs.declared.members.Member.{Member}
use Rattle.cs_tree.specs.declared.members.Member.TheVariants as member
use Rattle.cs_tree.specs.declared.declarations.Enumerator.{Enumerator}
use Rattle.cs_declared.specs.declared.declared.Within.{Within}
use Rattle.cs_declared.specs.declared.declared.Within.TheVariants as within
use Rattle.cs_declared.specs.Names.{joined}
use Rattle.cs_declared.specs.Types.{Placed, Content, Body, Enum, Delegate, within_of}
use Rattle.class_rows.specs.Names.{dotted}
use Rattle.class_texts.specs.declared.row.Home.{Home}
use Rattle.class_texts.specs.declared.row.Row.{Row}
use Rattle.class_written.specs.Named.{Known}
use Rattle.class_written.specs.Forms.{ty_of, result_of, own_ty, object, void, type_id}
use Rattle.class_written.specs.TypeRows.{access_or, access_within}

-- ---- constants (15.4, 19.4)

abbrev pub signed : Bool → ℕ → ℤ
signed negative n = cond negative (neg_ℤ (pos n)) (pos n)

abbrev pub literal_value : Bool → TreeLiteral → Literal
literal_value negative (literal.Number n suffix) = value.Number (signed negative n)
literal_value negative (literal.Char unit) = value.Number (pos unit)
literal_value negative (literal.Text units) = value.Text units
literal_value negative (literal.Bool truth) = value.Number (pos (cond truth 1 0))
literal_value negative literal.Null = value.NullText

-- a literal, and whether a minus stands before it; casts change neither, and other expressions aren't values of constants
abbrev pub Spelled : Type 0
Spelled = Option (Bool × TreeLiteral)

abbrev pub minus : Spelled → Spelled
minus None = None
minus (Some p) = Some (true, p.1)

abbrev pub form_spelled : Form-F (Unit {0}) Spelled (Unit {0}) (Unit {0}) (Unit {0}) (Unit {0}) (Unit {0}) → Spelled
form_spelled (Form-F.Literal spot l) = Some (false, l)
form_spelled (Form-F.Unary spot op operand) = minus operand
form_spelled (Form-F.Cast spot ty operand) = operand
form_spelled _ = None

abbrev pub spelled : Form → Spelled
spelled = fold-Form (Unit {0}) Spelled (Unit {0}) (Unit {0}) (Unit {0}) (Unit {0}) (Unit {0}) (λ _. tt) form_spelled (λ _. tt) (λ _. tt) (λ _. tt) (λ _. tt) (λ _. tt)

abbrev pub spelled_value : Spelled → Literal
spelled_value None = value.NullText
spelled_value (Some p) = literal_value p.0 p.1

abbrev pub constant_value : Form → Literal
constant_value form = spelled_value (spelled form)

-- ---- parts

abbrev pub way_of : TreeWay → Way
way_of tree_way.Value = way.ByValue
way_of tree_way.Ref = way.Ref
way_of tree_way.Out = way.Out

abbrev pub is_lent : TreeWay → Bool
is_lent tree_way.Value = false
is_lent _ = true

abbrev pub param_of : List Known → TreeParam → Param
param_of types p = record { ty = ty_of types (is_lent p.way) p.ty; way = way_of p.way }

abbrev pub params_of : List Known → List TreeParam → List Param
params_of types params = map (param_of types) params

abbrev pub by_value : Ty → Param
by_value ty = record { ty = ty; way = way.ByValue }

-- methods of interfaces are abstract (18.4.2); of `abstract override` the second counts
abbrev pub virt_by : Mods → Virt
virt_by mods =
    cond mods.is_override (cond mods.is_sealed virt.SealedOverride virt.Override)
    (cond mods.is_abstract virt.Abstract (cond mods.is_virtual virt.Virtual virt.Plain))

abbrev pub virt_of : Within → Mods → Virt
virt_of within.Interface mods = virt.Abstract
virt_of _ mods = virt_by mods

-- ---- rows

abbrev pub plain : MemberRow → Row
plain row = record { row = row; implements = None }

abbrev pub access_of : Home → Option Word → Access
access_of home word = access_or word (access_within home.within)

abbrev pub field_row : List Known → Home → Mods → TypeForm → Name → MemberRow
field_row types home mods ty name =
    record {
      owner = home.owner;
      name = name.text;
      kind = member_kind.Field mods.is_readonly None;
      access = access_of home mods.access;
      is_static = mods.is_static;
      virt = virt.Plain;
      params = [];
      result = ty_of types false ty;
    }

abbrev pub constant_row : List Known → Home → Mods → TypeForm → Name → Form → MemberRow
constant_row types home mods ty name form =
    record {
      owner = home.owner;
      name = name.text;
      kind = member_kind.Field false (Some (constant_value form));
      access = access_of home mods.access;
      is_static = true;
      virt = virt.Plain;
      params = [];
      result = ty_of types false ty;
    }

abbrev pub method_row : List Known → Home → Mods → Option TypeForm → Name → List TreeParam → MemberRow
method_row types home mods result name params =
    record {
      owner = home.owner;
      name = name.text;
      kind = member_kind.Method;
      access = access_of home mods.access;
      is_static = mods.is_static;
      virt = virt_of home.within mods;
      params = params_of types params;
      result = result_of types result;
    }

-- a method that implements one of an interface by name is private (18.6.2)
abbrev pub explicit_row : List Known → Home → Option TypeForm → List ℕ → Name → List TreeParam → MemberRow
explicit_row types home result interface name params =
    record {
      owner = home.owner;
      name = dotted interface name.text;
      kind = member_kind.Method;
      access = access.Private;
      is_static = false;
      virt = virt.Plain;
      params = params_of types params;
      result = result_of types result;
    }

abbrev pub implementing : List Known → Home → Option TypeForm → List ℕ → Name → List TreeParam → Row
implementing types home result interface name params =
    record { row = explicit_row types home result interface name params; implements = Some (interface, name.text) }

abbrev pub method_rows : List Known → Home → Mods → Option TypeForm → Option Explicit → Name → List TreeParam → Row
method_rows types home mods result None name params = plain (method_row types home mods result name params)
method_rows types home mods result (Some e) name params = implementing types home result (joined e.path) name params

abbrev pub constructor_name : Bool → List ℕ
constructor_name is_static = cond is_static (codes ".cctor") (codes ".ctor")

abbrev pub constructor_row : List Known → Home → Mods → List TreeParam → MemberRow
constructor_row types home mods params =
    record {
      owner = home.owner;
      name = constructor_name mods.is_static;
      kind = member_kind.Constructor;
      access = access_of home mods.access;
      is_static = mods.is_static;
      virt = virt.Plain;
      params = params_of types params;
      result = void;
    }

-- an accessor has its property's access where it has none of its own (15.7.3)
abbrev pub accessor_row : Home → Mods → Accessor → List ℕ → MemberKind → List Param → Ty → MemberRow
accessor_row home mods accessor name kind params result =
    record {
      owner = home.owner;
      name = name;
      kind = kind;
      access = access_or accessor.mods.access (access_of home mods.access);
      is_static = mods.is_static;
      virt = virt_of home.within mods;
      params = params;
      result = result;
    }

-- the getter of a property or an indexer, which has these parameters, and the setter, which has the value behind them
abbrev pub getter_row : Home → Mods → MemberKind → List Param → Ty → Name → Option Accessor → List MemberRow
getter_row home mods kind params ty name None = []
getter_row home mods kind params ty name (Some a) = accessor_row home mods a (codes "get_" ++ name.text) kind params ty ∷ []

abbrev pub setter_row : Home → Mods → MemberKind → List Param → Ty → Name → Option Accessor → List MemberRow
setter_row home mods kind params ty name None = []
setter_row home mods kind params ty name (Some a) = accessor_row home mods a (codes "set_" ++ name.text) kind (params ++ by_value ty ∷ []) void ∷ []

abbrev pub property_rows : List Known → Home → Mods → TypeForm → Name → Option Accessor → Option Accessor → List MemberRow
property_rows types home mods ty name getter setter =
    getter_row home mods member_kind.Getter [] (ty_of types false ty) name getter ++ setter_row home mods member_kind.Setter [] (ty_of types false ty) name setter

abbrev pub indexer_rows : List Known → Home → Mods → TypeForm → Name → TypeForm → Option Accessor → Option Accessor → List MemberRow
indexer_rows types home mods ty name index getter setter =
    getter_row home mods member_kind.Indexer (by_value (ty_of types false index) ∷ []) (ty_of types false ty) name getter
    ++ setter_row home mods member_kind.Indexer (by_value (ty_of types false index) ∷ []) (ty_of types false ty) name setter

-- an operator is public and static (15.10.1)
abbrev pub operator_row : List Known → Home → TypeForm → Name → List TreeParam → MemberRow
operator_row types home ty name params =
    record {
      owner = home.owner;
      name = name.text;
      kind = member_kind.Operator;
      access = access.Public;
      is_static = true;
      virt = virt.Plain;
      params = params_of types params;
      result = ty_of types false ty;
    }

-- the rows of a member; constructors with blocks are no part of a reference text
abbrev pub member_rows : List Known → Home → Member → List Row
member_rows types home (member.Field _ _ mods ty name v) = plain (field_row types home mods ty name) ∷ []
member_rows types home (member.Constant _ _ mods ty name v) = plain (constant_row types home mods ty name v) ∷ []
member_rows types home (member.Method _ _ mods result explicit name params block) = method_rows types home mods result explicit name params ∷ []
member_rows types home (member.Property _ _ mods ty name getter setter) = map plain (property_rows types home mods ty name getter setter)
member_rows types home (member.Maker _ mods name params) = plain (constructor_row types home mods params) ∷ []
member_rows types home (member.Indexer _ mods ty name index_ty index getter setter) =
    map plain (indexer_rows types home mods ty name index_ty getter setter)
member_rows types home (member.Operator _ ty name params) = plain (operator_row types home ty name params) ∷ []
member_rows types home _ = []

abbrev pub all_member_rows : List Known → Home → List Member → List Row
all_member_rows types home [] = []
all_member_rows types home (m ∷ members) = member_rows types home m ++ all_member_rows types home members

-- a constant of an enum, whose type is the enum
abbrev pub enumerator_row : List Known → ℕ → Enumerator → Row
enumerator_row types owner e =
    plain
    (record {
      owner = type_id owner;
      name = e.name.text;
      kind = member_kind.Field false (Some (value.Number (signed e.negative e.value)));
      access = access.Public;
      is_static = true;
      virt = virt.Plain;
      params = [];
      result = own_ty types owner;
    })

-- the constructor and the method Invoke of a delegate
abbrev pub maker_row : List Known → ℕ → Row
maker_row types owner =
    plain
    (record {
      owner = type_id owner;
      name = codes ".ctor";
      kind = member_kind.Constructor;
      access = access.Public;
      is_static = false;
      virt = virt.Plain;
      params = by_value (object types) ∷ [];
      result = void;
    })

abbrev pub invoke_row : List Known → ℕ → Option TypeForm → List TreeParam → Row
invoke_row types owner result params =
    plain
    (record {
      owner = type_id owner;
      name = codes "Invoke";
      kind = member_kind.Method;
      access = access.Public;
      is_static = false;
      virt = virt.Virtual;
      params = params_of types params;
      result = result_of types result;
    })

-- the rows of the members of the type of this number
abbrev pub content_rows : List Known → ℕ → Content → List Row
content_rows types owner (Body kind bases members) = all_member_rows types (record { owner = type_id owner; within = within_of kind }) members
content_rows types owner (Enum ty enumerators) = map (enumerator_row types owner) enumerators
content_rows types owner (Delegate result params) = maker_row types owner ∷ invoke_row types owner result params ∷ []

-- and those of all types from that of number `k` on
abbrev pub rows_from : List Known → ℕ → List Placed → List Row
rows_from types k [] = []
rows_from types k (p ∷ rest) = content_rows types k p.content ++ rows_from types (k + 1) rest
