-- What is known of the tables by their places is known of each.
use Rattle.std.proofs.Common.{ℕ, ◌<◌, ◌^◌, slice_index_or, arith}
use Rattle.cli_metadata.specs.Metadata.{Contents, rows_of}
use Rattle.cli_cells.specs.declared.table.CellTable.{CellTable}
use Rattle.cli_cells.specs.declared.table.CellTable.TheVariants.{TypeRef, TypeDef, Field, MethodDef, Param, InterfaceImpl, MemberRef, Constant, StandAloneSig, PropertyMap, Property, MethodSemantics, MethodImpl, TypeSpec, Assembly, NestedClass}
use Rattle.cli_cells.specs.Rows.{table_of}
use Rattle.cli_cells.specs.First.{by_number, AreFew}

-- the first tables have few rows
abbrev pub AreFewUpTo : Contents → ℕ → Type 0
AreFewUpTo m i = (j : ℕ) (d : CellTable) → j < i → rows_of m (table_of (slice_index_or by_number j d)) < 2 ^ 24

pub each : (m : Contents) → AreFewUpTo m 16 → AreFew m
each m few TypeRef = few 0 TypeRef (omega arith)
each m few TypeDef = few 1 TypeDef (omega arith)
each m few Field = few 2 Field (omega arith)
each m few MethodDef = few 3 MethodDef (omega arith)
each m few Param = few 4 Param (omega arith)
each m few InterfaceImpl = few 5 InterfaceImpl (omega arith)
each m few MemberRef = few 6 MemberRef (omega arith)
each m few Constant = few 7 Constant (omega arith)
each m few StandAloneSig = few 8 StandAloneSig (omega arith)
each m few PropertyMap = few 9 PropertyMap (omega arith)
each m few Property = few 10 Property (omega arith)
each m few MethodSemantics = few 11 MethodSemantics (omega arith)
each m few MethodImpl = few 12 MethodImpl (omega arith)
each m few TypeSpec = few 13 TypeSpec (omega arith)
each m few Assembly = few 14 Assembly (omega arith)
each m few NestedClass = few 15 NestedClass (omega arith)
