-- Numbers of the rows that name further rows: those of TypeRef, behind them those of TypeSpec, of MemberRef and of StandAloneSig.
use Rattle.std.specs.Prelude.{ℕ, ◌+◌, ◌-◌, ◌/◌, ◌%◌, ◌^◌, ◌==◌, nat_lt, nat_le, ◌&&◌, cond, min, Option, Some, None}
use Rattle.dc_base.specs.declared.names.Token.{Token}
use Rattle.cli_metadata.specs.declared.tables.Table.{Table}
use Rattle.cli_metadata.specs.declared.tables.Table.TheVariants as tables
use Rattle.cli_metadata.specs.Metadata.{Contents, rows_of}
use Rattle.cli_named.specs.Rows.{token_at}
use Rattle.cli_named.specs.declared.numbers.Numbers.{Numbers}

-- how many rows of a table tokens can name
abbrev pub nameable : Contents → Table → ℕ
nameable m table = min (rows_of m table) 0xFFFFFF

abbrev pub numbers_of : Contents → Numbers
numbers_of m = record { type_refs = nameable m tables.TypeRef; type_specs = nameable m tables.TypeSpec; member_refs = nameable m tables.MemberRef; sigs = nameable m tables.StandAloneSig }

-- how many rows stand before those of a table
abbrev pub specs_from : Numbers → ℕ
specs_from n = n.type_refs

abbrev pub members_from : Numbers → ℕ
members_from n = n.type_refs + n.type_specs

abbrev pub sigs_from : Numbers → ℕ
sigs_from n = n.type_refs + n.type_specs + n.member_refs

abbrev pub count_of : Numbers → ℕ
count_of n = n.type_refs + n.type_specs + n.member_refs + n.sigs

-- the number of a row of a table that has so many, before which so many stand
abbrev pub numbered : ℕ → ℕ → ℕ → Option ℕ
numbered before rows row = cond (nat_lt 0 row && nat_le row rows) (Some (before + (row - 1))) None

-- the number of the row of a token
abbrev pub number_of : Numbers → Token → Option ℕ
number_of n token =
    let row = token.0 % 2 ^ 24 in
    let table = token.0 / 2 ^ 24 in
    cond (table == 0x01) (numbered 0 n.type_refs row)
    (cond (table == 0x1B) (numbered (specs_from n) n.type_specs row)
    (cond (table == 0x0A) (numbered (members_from n) n.member_refs row)
    (cond (table == 0x11) (numbered (sigs_from n) n.sigs row) None)))

-- the token of the row of a number
abbrev pub token_of : Numbers → ℕ → Token
token_of n k =
    cond (nat_lt k (specs_from n)) (token_at 0x01 (k + 1))
    (cond (nat_lt k (members_from n)) (token_at 0x1B (k - specs_from n + 1))
    (cond (nat_lt k (sigs_from n)) (token_at 0x0A (k - members_from n + 1)) (token_at 0x11 (k - sigs_from n + 1))))
