use Rattle.std.proofs.Common.{◌-◌, subst}
use Rattle.std.specs.List.{slice_index_or}
use Rattle.dc_causes.specs.First.{IsLeast}
use Rattle.cli_tables.specs.declared.members.ConstantRow.{ConstantRow}
use Rattle.cli_constants.specs.Owned.{IsConstantOf}
use Rattle.cli_member_rows.specs.Fields.{IsValue, IsLiteral, of_row, no_row}
use Rattle.cli_member_rows.proofs.Handed.{handed}
use Rattle.cli_member_rows.proofs.Constants.{owned_by, no_constant, first_constant}
use Rattle.cli_member_rows.proofs.fields.first_value.Goals as goal

pub returns-then-found-eq0 : goal.returns-then-found-eq0
returns-then-found-eq0 c =
    no_row (no_constant c.args.metadata.now c.args.f (slice_index_or c.args.constants.now (c.args.f - 1) (0, 0))
    (owned_by c.args.metadata.now c.args.constants.now c.args.f c.requires.constants c.requires.low c.requires.high) c.if-found-eq0.true)

pub row-requires-clause-low : goal.row-requires-clause-low
row-requires-clause-low c =
    (first_constant c.args.metadata.now c.args.f (slice_index_or c.args.constants.now (c.args.f - 1) (0, 0))
    (owned_by c.args.metadata.now c.args.constants.now c.args.f c.requires.constants c.requires.low c.requires.high) c.if-found-eq0.false).holds.low

pub row-requires-clause-high : goal.row-requires-clause-high
row-requires-clause-high c =
    (first_constant c.args.metadata.now c.args.f (slice_index_or c.args.constants.now (c.args.f - 1) (0, 0))
    (owned_by c.args.metadata.now c.args.constants.now c.args.f c.requires.constants c.requires.low c.requires.high) c.if-found-eq0.false).holds.high

pub returns : goal.returns
returns c =
    let r = (slice_index_or c.args.constants.now (c.args.f - 1) (0, 0)).1 in
    let first : IsLeast (IsConstantOf c.args.metadata.now c.args.f) r =
    first_constant c.args.metadata.now c.args.f (slice_index_or c.args.constants.now (c.args.f - 1) (0, 0))
    (owned_by c.args.metadata.now c.args.constants.now c.args.f c.requires.constants c.requires.low c.requires.high) c.if-found-eq0.false in
    handed (IsValue c.args.metadata.now c.row.result) (IsLiteral c.args.metadata.now c.args.f) c.value.result
    (λ v is. of_row r v first (subst (λ (row : ConstantRow). IsValue c.args.metadata.now row v) c.row.ensures is)) c.value.ensures
