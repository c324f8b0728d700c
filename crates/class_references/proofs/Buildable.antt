-- The rows of a text are such as a table is built of.
use Rattle.std.proofs.Common.{◌≡◌, ◌≢◌, ◌∙◌, ℕ, ◌<◌, Bool, true, false, cond, List, map, length, All, Option, Some, None, refl, sym, ap, subst, arith}
use Rattle.std.specs.List.{slice_get}
use Rattle.std.specs.Option.{option_map}
use Rattle.std.proofs.lemmas.List.{length-map}
use Rattle.std.proofs.lemmas.Option.{slice_get-map, slice_get_within, get_or_from_slice_get}
use Rattle.dc_base.specs.declared.names.TypeId.{TypeId}
use Rattle.dc_base.specs.declared.ty.Prim_.{Prim_}
use Rattle.class_rows.specs.declared.row.TypeRow.{TypeRow}
use Rattle.class_rows.specs.declared.row.MemberRow.{MemberRow}
use Rattle.class_rows.specs.declared.row.Kind.TheVariants as row_kind
use Rattle.cs_tree.specs.declared.members.Mods.{Mods}
use Rattle.cs_tree.specs.declared.declarations.Kind.{Kind as TreeKind}
use Rattle.cs_tree.specs.declared.declarations.Kind.TheVariants as tree_kind
use Rattle.cs_declared.specs.Types.{Placed, Content, Body, Enum, Delegate, types_in}
use Rattle.class_written.specs.Named.{Known}
use Rattle.class_written.specs.Forms.{body_kind, is_static_class, enum_kind, underlying, kind_of}
use Rattle.class_written.specs.TypeRows.{type_row}
use Rattle.class_texts.specs.Text.{known_types}
use Rattle.class_table.specs.Buildable.{IsTypeRow}
use Rattle.class_references.specs.Laws.{TextsAreBuildable}
use Rattle.class_references.proofs.Outers.{types_stand_behind_theirs}
use Rattle.class_references.proofs.Owners.{all_owned}

-- no text declares a struct that a table doesn't take: it is an opaque type

static_or_not : (b : Bool) → cond b row_kind.StaticClass row_kind.Class ≢ row_kind.Struct
static_or_not true = λ e. cc
static_or_not false = λ e. cc

body_no_struct : (mods : Mods) (k : TreeKind) → body_kind mods k ≢ row_kind.Struct
body_no_struct mods tree_kind.Class = static_or_not (is_static_class mods)
body_no_struct mods tree_kind.Interface = λ e. cc
body_no_struct mods tree_kind.Struct = λ e. cc

enum_no_struct : (p : Option Prim_) → enum_kind p ≢ row_kind.Struct
enum_no_struct (Some p) = λ e. cc
enum_no_struct None = λ e. cc

no_struct : (mods : Mods) (c : Content) → kind_of mods c ≢ row_kind.Struct
no_struct mods (Body kind bases members) = body_no_struct mods kind
no_struct mods (Enum ty enumerators) = enum_no_struct (underlying ty)
no_struct mods (Delegate result params) = λ e. cc

-- an item of a mapped list is that of an item

mapped : {X Y : Type 0} (f : X → Y) (o : Option X) (y : Y) → option_map f o ≡ Some y → (x : X) × ((o ≡ Some x) × (f x ≡ y))
mapped f None y e = let none : None ≡ Some y = e in absurd cc
mapped f (Some x) y e = let same : Some (f x) ≡ Some y = e in (x, (refl, cc))

mapped_item : {X Y : Type 0} (f : X → Y) (xs : List X) (n : ℕ) (y : Y) → slice_get (map f xs) n ≡ Some y → (x : X) × ((slice_get xs n ≡ Some x) × (f x ≡ y))
mapped_item f xs n y at = mapped f (slice_get xs n) y (sym (slice_get-map f xs n) ∙ at)

-- rows

type_row_fits : (known : List Known) (all : List Placed) (count t : ℕ) (p : Placed) (row : TypeRow) → count ≡ length all → slice_get all t ≡ Some p → type_row known p ≡ row → ((o : TypeId) → p.outer ≡ Some o → o.0 < t) → IsTypeRow count row
type_row_fits known all count t p row long at same before =
    subst (λ (r : TypeRow). IsTypeRow count r) same
    (record {
      outer = λ o is. let lt = before o is in let within = slice_get_within all t p at in omega (arith, lt, within, long);
      kind = no_struct p.mods p.content;
    })

pub texts_are_buildable : TextsAreBuildable
texts_are_buildable unit types members explicit so few_types few_members few_explicit =
    let known = known_types (types_in unit) in
    let long : length types ≡ length (types_in unit) = ap length so.types ∙ length-map (types_in unit) (type_row known) in
    let owned = all_owned known (types_in unit) in
    record {
      few_types = few_types;
      few_members = few_members;
      few_explicit = few_explicit;
      rows = λ t row at.
          let p = mapped_item (type_row known) (types_in unit) t row (subst (λ (rows : List TypeRow). slice_get rows t ≡ Some row) so.types at) in
          type_row_fits known (types_in unit) (length types) t p.0 row long p.1.0 p.1.1 (types_stand_behind_theirs unit t p.0 p.1.0);
      owners = λ m row at.
          let all = subst (λ (rows : List MemberRow). All (λ (row : MemberRow). row.owner.0 < length (types_in unit)) rows) (sym so.those) owned in
          let lt = all m row (slice_get_within members m row at) in
          let here : row.owner.0 < length (types_in unit) = subst (λ (r : MemberRow). r.owner.0 < length (types_in unit)) (get_or_from_slice_get members m row row at) lt in
          omega (arith, here, long);
    }
