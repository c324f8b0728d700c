-- Whether a look-up can give two lists.
use Rattle.std.specs.Prelude.{◌≡◌, ℕ, List, codes}
use Rattle.dc_base.specs.declared.names.MemberId.{MemberId}
use Rattle.class_rows.specs.declared.row.TypeRow.{TypeRow}
use Rattle.class_rows.specs.declared.row.MemberRow.{MemberRow}
use Rattle.class_rows.specs.Core.{IsSystem}
use Rattle.class_rows.specs.Lookups.{IsLookup}

-- where one type at most is System.Object, no name has two look-ups in a type
abbrev pub LookupsAreOne : Type 0
LookupsAreOne =
    (types : List TypeRow) (members : List MemberRow) (explicit : List (MemberId × MemberId)) (t : ℕ) (name found other : List ℕ)
    → ((a b : ℕ) → IsSystem types (codes "Object") a → IsSystem types (codes "Object") b → a ≡ b)
    → IsLookup types members explicit t name found → IsLookup types members explicit t name other → found ≡ other
