-- The operand of a row, from the number that an instruction has (ECMA-335 III.1.9, VI.C.2).
use Rattle.std.specs.Prelude.{ℕ, ◌^◌, ℤ, pos, negsuc, List, [], ◌∷◌, nat_lt, if◌then◌else◌}
use Rattle.dc_base.specs.declared.names.Token.{Token}

-- the number, where it is one of so many bits without a sign, and else 0
abbrev pub natural_of : ℕ → ℤ → ℕ
natural_of width (pos n) = if nat_lt n (2 ^ width) then n else 0
natural_of width (negsuc n) = 0

-- the number of an argument or a local
abbrev pub number_of : ℤ → ℕ
number_of arg = natural_of 16 arg

abbrev pub token_of : ℤ → Token
token_of arg = record { 0 = natural_of 32 arg }

-- the number, where it is one of 32 bits with a sign, and else 0: a negsuc n is -(n + 1)
abbrev pub int_of : ℤ → ℤ
int_of (pos n) = if nat_lt n (2 ^ 31) then pos n else pos 0
int_of (negsuc n) = if nat_lt n (2 ^ 31) then negsuc n else pos 0

-- the one aim of a branch, which is its first target, and else 0
abbrev pub aim_of : List ℕ → ℕ
aim_of (to ∷ rest) = to
aim_of [] = 0
