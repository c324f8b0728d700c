-- Inner facts: numbers of the members, and behind them of the references.
use Rattle.std.specs.Prelude.{◌≡◌, ℕ, ◌+◌, ◌<◌, List, Some, length, slice_get}
use Rattle.class_rows.specs.declared.row.MemberRow.{MemberRow}
use Rattle.cli_refs.specs.declared.key.Sought.{Sought}
use Rattle.cli_refs.specs.Sought.{IsSought}

-- a member has a reference's number just where it has the name and the signature that are sought
pub record AreSigns (members : List MemberRow) (sought : List Sought) (signs : List ℕ) : Type 0 where
  pub long : length signs ≡ length members + length sought
  pub small : (k s : ℕ) → slice_get signs k ≡ Some s → s < length signs
  pub one : (m q : ℕ) (row : MemberRow) (s : Sought) → slice_get members m ≡ Some row → slice_get sought q ≡ Some s → IsSought s row → slice_get signs m ≡ slice_get signs (length members + q)
  pub same : (m q : ℕ) (row : MemberRow) (s : Sought) → slice_get members m ≡ Some row → slice_get sought q ≡ Some s → slice_get signs m ≡ slice_get signs (length members + q) → IsSought s row
