-- What contracts see of a class table: the lists that it was built of.
use Rattle.std.specs.Prelude.{List}
use Rattle.dc_base.specs.declared.names.MemberId.{MemberId}
use Rattle.class_rows.specs.declared.row.TypeRow.{TypeRow}
use Rattle.class_rows.specs.declared.row.MemberRow.{MemberRow}

pub record Rows : Type 0 where
  pub types : List TypeRow
  pub members : List MemberRow
  pub explicit : List (MemberId × MemberId)
