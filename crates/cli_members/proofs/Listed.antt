-- Members of rows of TypeDef stand in lists.
use Rattle.std.proofs.Common.{◌≡◌, ◌+◌, ◌-◌, ◌≤◌, ◌<◌, ◌↔◌, ℕ, zero, suc, List, length, sym, ap, subst, ◌∙◌, arith}
use Rattle.class_rows.specs.declared.row.TypeRow.{TypeRow}
use Rattle.cli_metadata.specs.declared.tables.Table.TheVariants as tables
use Rattle.cli_metadata.specs.Metadata.{Contents, rows_of}
use Rattle.cli_lists.specs.declared.column.ListColumn.{ListColumn}
use Rattle.cli_lists.specs.declared.lists.Lists.{Lists}
use Rattle.cli_lists.specs.Starts.{cell_of, AreStarts, IsInList}
use Rattle.cli_lists.specs.Lists.{lists_of, AreLists, HaveEachRow, IsListColumn}
use Rattle.cli_lists.specs.Laws.{StandInOrder}
use Rattle.cli_members.specs.Members.{IsMemberField, IsMemberMethod, AreThose, AreRows}
use Rattle.cli_members.specs.declared.numbers.Owned.{Owned}
use Rattle.cli_members.proofs.Those.{IsOrdered}

-- ---- lists stand one behind the other

-- a later cell is no lower
grows : (count : ℕ) (cells : List ℕ) → AreStarts count cells → (d j : ℕ) → 1 ≤ j → j + d ≤ length cells → cell_of cells j ≤ cell_of cells (j + d)
grows count cells starts zero j low high =
    let same : j ≡ j + zero = omega arith in
    let itself : cell_of cells j ≤ cell_of cells j = omega arith in
    subst (λ (k : ℕ). cell_of cells j ≤ cell_of cells k) same itself
grows count cells starts (suc d) j low high =
    let before : cell_of cells j ≤ cell_of cells (j + d) = grows count cells starts d j low (omega (arith, high)) in
    let step : cell_of cells ((j + suc d) - 1) ≤ cell_of cells (j + suc d) = (starts (j + suc d) (omega arith) high).rising (omega (arith, low)) in
    let same : (j + suc d) - 1 ≡ j + d = omega arith in
    let step_ : cell_of cells (j + d) ≤ cell_of cells (j + suc d) = subst (λ (k : ℕ). cell_of cells k ≤ cell_of cells (j + suc d)) same step in
    omega (arith, before, step_)

never_falls : (count : ℕ) (cells : List ℕ) → AreStarts count cells → (j k : ℕ) → 1 ≤ j → j ≤ k → k ≤ length cells → cell_of cells j ≤ cell_of cells k
never_falls count cells starts j k low le high =
    let there : j + (k - j) ≡ k = omega (arith, le) in
    subst (λ (n : ℕ). cell_of cells j ≤ cell_of cells n) there (grows count cells starts (k - j) j low (omega (arith, le, high)))

in_order : StandInOrder
in_order count cells j k m n starts lt one other =
    let next : m < cell_of cells (j + 1) = one.before_next (omega (arith, lt, other.high)) in
    let up : cell_of cells (j + 1) ≤ cell_of cells k = never_falls count cells starts (j + 1) k (omega arith) (omega (arith, lt)) other.high in
    omega (arith, next, up, other.from)

fields_ordered : (m : Contents) (own : List TypeRow) → IsListColumn (lists_of m).fields → IsOrdered (IsMemberField m own)
fields_ordered m own column j k a b lt one other =
    in_order (lists_of m).fields.rows (lists_of m).fields.cells j k a b column.starts lt one.listed other.listed

methods_ordered : (m : Contents) → IsListColumn (lists_of m).methods → IsOrdered (IsMemberMethod m)
methods_ordered m column j k a b lt one other =
    in_order (lists_of m).methods.rows (lists_of m).methods.cells j k a b column.starts lt one.listed other.listed

-- a row in a list is a row of the table
pub row_low : (column : ListColumn) (n r : ℕ) → IsListColumn column → IsInList column.rows column.cells n r → 1 ≤ r
row_low column n r is listed =
    let low = (is.starts n listed.low listed.high).low in
    let from = listed.from in
    omega (arith, low, from)

-- ---- what a range of rows is

methods_same : (m : Contents) (lists : Lists) → lists ≡ lists_of m → lists.methods ≡ (lists_of m).methods
methods_same m lists same = ap (λ (l : Lists). l.methods) same

fields_same : (m : Contents) (lists : Lists) → lists ≡ lists_of m → lists.fields ≡ (lists_of m).fields
fields_same m lists same = ap (λ (l : Lists). l.fields) same

pub methods_range : (m : Contents) (lists : Lists) (n start end : ℕ) → lists ≡ lists_of m → ((r : ℕ) → ((start ≤ r) × (r < end)) ↔ IsInList lists.methods.rows lists.methods.cells n r) → 2 ≤ n → (r : ℕ) → ((start ≤ r) × (r < end)) ↔ IsMemberMethod m n r
methods_range m lists n start end same list low r = (
  λ both. record {
    a_type = low;
    listed = subst (λ (c : ListColumn). IsInList c.rows c.cells n r) (methods_same m lists same) ((list r).0 both);
  },
  λ is. (list r).1 (subst (λ (c : ListColumn). IsInList c.rows c.cells n r) (sym (methods_same m lists same)) is.listed),
)

pub fields_range : (m : Contents) (lists : Lists) (n start end : ℕ) → lists ≡ lists_of m → ((r : ℕ) → ((start ≤ r) × (r < end)) ↔ IsInList lists.fields.rows lists.fields.cells n r) → (r : ℕ) → ((start ≤ r) × (r < end)) ↔ IsInList (rows_of m tables.Field) (lists_of m).fields.cells n r
fields_range m lists n start end same list r = (
  λ both. subst (λ (c : ListColumn). IsInList c.rows c.cells n r) (fields_same m lists same) ((list r).0 both),
  λ is. (list r).1 (subst (λ (c : ListColumn). IsInList c.rows c.cells n r) (sym (fields_same m lists same)) is),
)

pub ordered_methods : (m : Contents) (lists : Lists) → lists ≡ lists_of m → AreLists lists → IsOrdered (IsMemberMethod m)
ordered_methods m lists same are = methods_ordered m (subst (λ (c : ListColumn). IsListColumn c) (methods_same m lists same) are.methods)

pub ordered_fields : (m : Contents) (own : List TypeRow) (lists : Lists) → lists ≡ lists_of m → AreLists lists → IsOrdered (IsMemberField m own)
ordered_fields m own lists same are = fields_ordered m own (subst (λ (c : ListColumn). IsListColumn c) (fields_same m lists same) are.fields)

pub method_few : (m : Contents) (lists : Lists) (t r : ℕ) → lists ≡ lists_of m → HaveEachRow m lists → IsMemberMethod m t r → t ≤ rows_of m tables.TypeDef
method_few m lists t r same have is =
    let high = is.listed.high in
    let long : length (lists_of m).methods.cells ≡ rows_of m tables.TypeDef = sym (ap (λ (c : ListColumn). length c.cells) (methods_same m lists same)) ∙ have.methods in
    omega (arith, high, long)

pub field_few : (m : Contents) (own : List TypeRow) (lists : Lists) (t r : ℕ) → lists ≡ lists_of m → HaveEachRow m lists → IsMemberField m own t r → t ≤ rows_of m tables.TypeDef
field_few m own lists t r same have is =
    let high = is.listed.high in
    let long : length (lists_of m).fields.cells ≡ rows_of m tables.TypeDef = sym (ap (λ (c : ListColumn). length c.cells) (fields_same m lists same)) ∙ have.fields in
    omega (arith, high, long)

pub field_row : (m : Contents) (lists : Lists) (n r : ℕ) → lists ≡ lists_of m → AreLists lists → IsInList (rows_of m tables.Field) (lists_of m).fields.cells n r → (1 ≤ r) × (r ≤ rows_of m tables.Field)
field_row m lists n r same are listed = (
  row_low (lists_of m).fields n r (subst (λ (c : ListColumn). IsListColumn c) (fields_same m lists same) are.fields) listed,
  listed.within,
)

-- ---- what is found are rows

pub rows_of_fields : (m : Contents) (own : List TypeRow) (lists : Lists) (owned : List Owned) → lists ≡ lists_of m → AreLists lists → HaveEachRow m lists → AreThose (IsMemberField m own) owned → AreRows m tables.Field owned
rows_of_fields m own lists owned same are have those = λ j o at.
    let is = those.right j o at in
    let row = field_row m lists o.owner o.row same are is.listed in
    record { a_type = is.a_type; typed = field_few m own lists o.owner o.row same have is; low = row.0; high = row.1 }

pub rows_of_methods : (m : Contents) (lists : Lists) (owned : List Owned) → lists ≡ lists_of m → AreLists lists → HaveEachRow m lists → AreThose (IsMemberMethod m) owned → AreRows m tables.MethodDef owned
rows_of_methods m lists owned same are have those = λ j o at.
    let is = those.right j o at in
    record {
      a_type = is.a_type;
      typed = method_few m lists o.owner o.row same have is;
      low = row_low (lists_of m).methods o.owner o.row (subst (λ (c : ListColumn). IsListColumn c) (methods_same m lists same) are.methods) is.listed;
      high = is.listed.within;
    }
