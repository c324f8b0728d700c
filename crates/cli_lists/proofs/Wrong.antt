-- What a first broken row, or none, says of the columns.
use Rattle.std.proofs.Common.{◌≡◌, ℕ, ◌+◌, ◌-◌, ◌<◌, ◌^◌, List, [], ◌∷◌, length, Ok, Err, ap, subst, arith}
use Rattle.std.proofs.lemmas.List.FromFn.{length-map-range_with_len}
use Rattle.dc_causes.specs.Rows.{OfRow, OfRows}
use Rattle.dc_causes.specs.Causes.{InOrder}
use Rattle.dc_causes.proofs.Chain.{then_read}
use Rattle.dc_causes.proofs.Order.{first_fault}
use Rattle.cli_metadata.specs.declared.tables.Table.{Table}
use Rattle.cli_metadata.specs.declared.tables.Table.TheVariants as tables
use Rattle.cli_metadata.specs.Metadata.{Contents, rows_of, row_of}
use Rattle.cli_tables.specs.Types.{type_def_of}
use Rattle.cli_tables.specs.Members.{method_def_of}
use Rattle.cli_tables.specs.Properties.{property_map_of}
use Rattle.cli_lists.specs.declared.owner.Owner.{Owner}
use Rattle.cli_lists.specs.declared.owner.Owner.TheVariants.{TypeDef, MethodDef, PropertyMap}
use Rattle.cli_lists.specs.Starts.{IsStart}
use Rattle.cli_lists.specs.Lists.{FewRows, HaveEachRow, cells_in, lists_of, IsListColumn, AreLists, owners, BeginsLists}

-- a column has a cell for each row
pub long : (m : Contents) (table : Table) (list : List ℕ → ℕ) → length (cells_in m table list) ≡ rows_of m table
long m table list = length-map-range_with_len (λ (k : ℕ). list (row_of m table (k + 1))) 0 (rows_of m table)

pub few_owners : (m : Contents) (owner : Owner) → FewRows m → owners owner (lists_of m) < 2 ^ 24
few_owners m TypeDef few = omega (arith, long m tables.TypeDef (λ row. (type_def_of row).fields), few.types)
few_owners m MethodDef few = omega (arith, long m tables.MethodDef (λ row. (method_def_of row).params), few.methods)
few_owners m PropertyMap few = omega (arith, long m tables.PropertyMap (λ row. (property_map_of row).properties), few.property_maps)

abbrev pub all : List Owner
all = TypeDef ∷ MethodDef ∷ PropertyMap ∷ []

pub row_fits : (m : Contents) (owner : Owner) (row : ℕ) → FewRows m → OfRows owners BeginsLists (lists_of m) all (Err (owner, row)) → row + 1 < 2 ^ 24
row_fits m owner row few broken =
    let first = first_fault (OfRow owners BeginsLists (lists_of m)) all (owner, row) broken in
    let n : ℕ = first.fails.0 in
    let within : n < owners first.first (lists_of m) = first.fails.1 in
    let same : row ≡ n = ap (λ (p : Owner × ℕ). p.1) first.fails.3.1 in
    omega (arith, within, same, few_owners m first.first few)

column : (m : Contents) (table : Table) (list : List ℕ → ℕ) (rows : ℕ) → rows_of m table < 2 ^ 24 → rows < 2 ^ 24 → ((k : ℕ) → k < rows_of m table → IsStart rows (cells_in m table list) (k + 1)) → IsListColumn (record { cells = cells_in m table list; rows = rows })
column m table list rows few few_rows right = record {
  few_cells = omega (arith, long m table list, few);
  few_rows = few_rows;
  starts = λ k low high.
      let back : (k - 1) + 1 ≡ k = omega (arith, low) in
      subst (λ (n : ℕ). IsStart rows (cells_in m table list) n) back (right (k - 1) (omega (arith, low, high, long m table list)));
}

pub are_lists : (m : Contents) → FewRows m → OfRows owners BeginsLists (lists_of m) all (Ok tt) → AreLists (lists_of m)
are_lists m few met =
    let Asked = OfRow owners BeginsLists (lists_of m) in
    let types = then_read (Asked TypeDef) (λ _. InOrder Asked (MethodDef ∷ PropertyMap ∷ [])) tt met in
    let methods = then_read (Asked MethodDef) (λ _. InOrder Asked (PropertyMap ∷ [])) tt types.2 in
    let maps = then_read (Asked PropertyMap) (λ _. InOrder Asked []) tt methods.2 in
    record {
      fields = column m tables.TypeDef (λ row. (type_def_of row).fields) _ few.types few.fields (λ k lt. (types.1 k (omega (arith, lt, long m tables.TypeDef (λ row. (type_def_of row).fields)))).0);
      methods = column m tables.TypeDef (λ row. (type_def_of row).methods) _ few.types few.methods (λ k lt. (types.1 k (omega (arith, lt, long m tables.TypeDef (λ row. (type_def_of row).fields)))).1);
      params = column m tables.MethodDef (λ row. (method_def_of row).params) _ few.methods few.params (λ k lt. methods.1 k (omega (arith, lt, long m tables.MethodDef (λ row. (method_def_of row).params))));
      properties = column m tables.PropertyMap (λ row. (property_map_of row).properties) _ few.property_maps few.properties (λ k lt. maps.1 k (omega (arith, lt, long m tables.PropertyMap (λ row. (property_map_of row).properties))));
    }

pub each_row : (m : Contents) → HaveEachRow m (lists_of m)
each_row m = record {
  fields = long m tables.TypeDef (λ row. (type_def_of row).fields);
  methods = long m tables.TypeDef (λ row. (type_def_of row).methods);
  params = long m tables.MethodDef (λ row. (method_def_of row).params);
  properties = long m tables.PropertyMap (λ row. (property_map_of row).properties);
}
