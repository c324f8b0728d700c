-- A type that is nested in another stands behind it.
use Rattle.std.proofs.Common.{◌≡◌, ◌∙◌, ℕ, ◌<◌, ◌≤◌, List, [], ◌∷◌, ◌++◌, map, length, None, Some, sym, ap, subst, inl, inr, arith}
use Rattle.std.proofs.lemmas.List.{length-append}
use Rattle.dc_base.specs.declared.names.TypeId.{TypeId}
use Rattle.class_keys.proofs.Items.{pushed_item}
use Rattle.class_rows.specs.Names.{dotted}
use Rattle.cs_tree.specs.declared.types.Name.{Name}
use Rattle.cs_tree.specs.declared.members.Mods.{Mods}
use Rattle.cs_tree.specs.declared.declarations.Kind.{Kind}
use Rattle.cs_tree.specs.declared.declarations.Item.{Item}
use Rattle.cs_tree.specs.declared.declarations.Decl.{Decl}
use Rattle.cs_tree.specs.declared.declarations.Decl.TheOpen.{Decl-F, Item-F}
use Rattle.cs_tree.specs.declared.declarations.Decl.TheFolds.{fold-roll-Decl, fold-roll-Item, ind-Decl, map-Decl, map-Item}
use Rattle.cs_tree.specs.declared.declarations.Space.{Space}
use Rattle.cs_tree.specs.declared.declarations.Space.TheVariants as space
use Rattle.cs_declared.specs.declared.scope.Scope.{Scope}
use Rattle.cs_declared.specs.Names.{joined}
use Rattle.cs_declared.specs.Types.{Content, Placed, of_space, of_type, placed, Grown, all_grown, Part, OfMember, OfType, types_of, decl_layer, item_layer, decl_grown, item_grown, space_grown, spaces_grown}
use Rattle.class_references.specs.Laws.{OutersStandBefore, TypesStandBehindTheirs}

-- the types up to here and some behind them, each behind the one that it is nested in
record Extends (before : ℕ) (after : List Placed) : Type 0 where
  pub longer : before ≤ length after
  pub behind : OutersStandBefore after

-- what stands round the next types is among those up to here
abbrev Fits : Scope → ℕ → Type 0
Fits scope count = (o : TypeId) → scope.outer ≡ Some o → o.0 < count

abbrev Keeps : Grown → Type 0
Keeps g = (scope : Scope) (before : List Placed) → Fits scope (length before) → OutersStandBefore before → Extends (length before) (g scope before)

abbrev KeepsPart : Part → Type 0
KeepsPart (OfMember m) = Unit {0}
KeepsPart (OfType g) = Keeps g

abbrev AllKeep : List Grown → Type 0
AllKeep [] = Unit {0}
AllKeep (g ∷ parts) = Keeps g × AllKeep parts

-- one type more

pushed : (scope : Scope) (before : List Placed) (mods : Mods) (name : Name) (content : Content) → Fits scope (length before) → OutersStandBefore before → OutersStandBefore (before ++ placed scope mods name content ∷ [])
pushed scope before mods name content fits behind t p at o is =
    elim (pushed_item before (placed scope mods name content) t p at) [
      | inl old ↦ behind t p old o is
      | inr new ↦
          let e = new.0 in
          let outer : scope.outer ≡ Some o = sym (ap (λ (q : Placed). q.outer) new.1) ∙ is in
          let lt = fits o outer in
          omega (arith, lt, e)
    ]

one_more : (scope : Scope) (before : List Placed) (mods : Mods) (name : Name) (content : Content) → Fits scope (length before) → OutersStandBefore before → Extends (length before) (before ++ placed scope mods name content ∷ [])
one_more scope before mods name content fits behind =
    let long = length-append before (placed scope mods name content ∷ []) in
    record { longer = omega (arith, long); behind = pushed scope before mods name content fits behind }

-- parts in a row

all_keep : (parts : List Grown) → AllKeep parts → Keeps (all_grown parts)
all_keep [] keep scope before fits behind = record { longer = omega arith; behind = behind }
all_keep (g ∷ parts) keep scope before fits behind =
    let first = keep.0 scope before fits behind in
    let longer = first.longer in
    let others = all_keep parts keep.1 scope (g scope before) (λ o is. let lt = fits o is in omega (arith, lt, longer)) first.behind in
    let more = others.longer in
    record { longer = omega (arith, longer, more); behind = others.behind }

-- the body of a type, whose number is how many stand before it

body_keeps : (mods : Mods) (kind : Kind) (name : Name) (content : Content) (parts : List Grown) → AllKeep parts
    → Keeps (λ scope before. all_grown parts (of_type (length before) kind (dotted scope.front name.text)) (before ++ placed scope mods name content ∷ []))
body_keeps mods kind name content parts keep scope before fits behind =
    let one = one_more scope before mods name content fits behind in
    let long = length-append before (placed scope mods name content ∷ []) in
    let inner = all_keep parts keep (of_type (length before) kind (dotted scope.front name.text)) (before ++ placed scope mods name content ∷ [])
    (λ o is. let same : Some (record { 0 = length before }) ≡ Some o = is in let e : length before ≡ o.0 = cc in omega (arith, e, long)) one.behind in
    let more = inner.longer in
    record { longer = omega (arith, long, more); behind = inner.behind }

-- whole trees

abbrev KeepsDecl : Decl → Type 0
KeepsDecl d = Keeps (decl_grown d)

abbrev KeepsItem : Item → Type 0
KeepsItem i = KeepsPart (item_grown i)

part_more : (p : Part) (parts : List Part) → KeepsPart p → AllKeep (types_of parts) → AllKeep (types_of (p ∷ parts))
part_more (OfMember m) parts keep others = others
part_more (OfType g) parts keep others = (keep, others)

items_keep : (items : List ((i : Item) × KeepsItem i)) → AllKeep (types_of (map item_grown (map (λ e. e.0) items)))
items_keep [] = tt
items_keep (e ∷ items) = part_more (item_grown e.0) (map item_grown (map (λ e. e.0) items)) e.1 (items_keep items)

abbrev bare_decl : Decl-F ((d : Decl) × KeepsDecl d) ((i : Item) × KeepsItem i) → Decl-F Decl Item
bare_decl = map-Decl ((d : Decl) × KeepsDecl d) ((i : Item) × KeepsItem i) Decl Item (λ e. e.0) (λ e. e.0)

abbrev bare_item : Item-F ((d : Decl) × KeepsDecl d) ((i : Item) × KeepsItem i) → Item-F Decl Item
bare_item = map-Item ((d : Decl) × KeepsDecl d) ((i : Item) × KeepsItem i) Decl Item (λ e. e.0) (λ e. e.0)

layer_keeps : (y : Decl-F ((d : Decl) × KeepsDecl d) ((i : Item) × KeepsItem i)) → Keeps (decl_layer (map-Decl Decl Item Grown Part decl_grown item_grown (bare_decl y)))
layer_keeps (Decl-F.Body _ _ mods kind name bases items) = body_keeps mods kind name _ _ (items_keep items)
layer_keeps (Decl-F.Enum _ _ mods name ty enumerators) = λ scope before fits behind. one_more scope before mods name _ fits behind
layer_keeps (Decl-F.Delegate _ _ mods result name params) = λ scope before fits behind. one_more scope before mods name _ fits behind

item_keeps : (y : Item-F ((d : Decl) × KeepsDecl d) ((i : Item) × KeepsItem i)) → KeepsPart (item_layer (map-Item Decl Item Grown Part decl_grown item_grown (bare_item y)))
item_keeps (Item-F.Member m) = tt
item_keeps (Item-F.Type e) = e.1

decl_keeps : (d : Decl) → KeepsDecl d
decl_keeps = ind-Decl KeepsDecl KeepsItem
    (λ x y is. subst (λ (g : Grown). Keeps g) (sym (fold-roll-Decl Grown Part decl_layer item_layer x))
    (subst (λ (z : Decl-F Decl Item). Keeps (decl_layer (map-Decl Decl Item Grown Part decl_grown item_grown z))) is (layer_keeps y)))
    (λ x y is. subst (λ (p : Part). KeepsPart p) (sym (fold-roll-Item Grown Part decl_layer item_layer x))
    (subst (λ (z : Item-F Decl Item). KeepsPart (item_layer (map-Item Decl Item Grown Part decl_grown item_grown z))) is (item_keeps y)))

-- whole texts

decls_keep : (decls : List Decl) → AllKeep (map decl_grown decls)
decls_keep [] = tt
decls_keep (d ∷ decls) = (decl_keeps d, decls_keep decls)

space_keeps : (before : List Placed) (s : Space) → OutersStandBefore before → OutersStandBefore (space_grown before s)
space_keeps before (space.Namespace _ _ path types) behind =
    (all_keep (map decl_grown types) (decls_keep types) (of_space (joined path.names)) before (λ o is. let none : None ≡ Some o = is in absurd cc) behind).behind
space_keeps before (space.Type d) behind = (decl_keeps d (of_space []) before (λ o is. let none : None ≡ Some o = is in absurd cc) behind).behind

spaces_keep : (before : List Placed) (spaces : List Space) → OutersStandBefore before → OutersStandBefore (spaces_grown before spaces)
spaces_keep before [] behind = behind
spaces_keep before (s ∷ spaces) behind = spaces_keep (space_grown before s) spaces (space_keeps before s behind)

pub types_stand_behind_theirs : TypesStandBehindTheirs
types_stand_behind_theirs unit = spaces_keep [] unit.spaces (λ t p at o is. let none : None ≡ Some p = at in absurd cc)
