-- What follows from the definitions.
use Rattle.std.specs.Prelude.{◌≡◌, ◌<◌, ◌≤◌, ℕ, List, Err}
use Rattle.dc_base.specs.declared.names.Token.{Token}
use Rattle.dc_causes.specs.Answer.{IsSingle}
use Rattle.cli_metadata.specs.Metadata.{Contents}
use Rattle.cli_lists.specs.declared.lists.Lists.{Lists}
use Rattle.cli_lists.specs.declared.owner.Owner.{Owner}
use Rattle.cli_lists.specs.Lists.{FewRows, lists_of, owners, BeginsLists, row_token, EachBeginsLists}
use Rattle.cli_lists.specs.Starts.{AreStarts, IsInList}

-- each row stands in one list at most
abbrev pub HasOneOwner : Type 0
HasOneOwner =
    (count : ℕ) (cells : List ℕ) (j k n : ℕ) → AreStarts count cells → IsInList count cells j n → IsInList count cells k n → j ≡ k

-- the list of a row stands behind those of the rows before
abbrev pub StandInOrder : Type 0
StandInOrder =
    (count : ℕ) (cells : List ℕ) (j k m n : ℕ) → AreStarts count cells → j < k → IsInList count cells j m → IsInList count cells k n → m < n

-- each row begins lists, or there is one fault
abbrev pub HasOneAnswer : Type 0
HasOneAnswer = (lists : Lists) → IsSingle (EachBeginsLists lists)

-- the fault is the least token of a row that doesn't begin lists
abbrev pub HasLeastToken : Type 0
HasLeastToken =
    (m : Contents) (fault : Token) (owner : Owner) (k : ℕ) → FewRows m → EachBeginsLists (lists_of m) (Err fault)
    → k < owners owner (lists_of m) → (BeginsLists owner (lists_of m) k → ⊥) → fault.0 ≤ (row_token (owner, k)).0
