-- How a name is written in a line.
use Rattle.std.specs.Prelude.{ℕ, ◌+◌, ◌-◌, ◌/◌, ◌%◌, false, ◌&&◌, nat_lt, nat_le, if◌then◌else◌, List, [], ◌∷◌, ◌++◌, codes, flat_map}
use Rattle.std.specs.Fmt.{digit_glyph}
use Rattle.std.specs.Str.{chars}

-- a UTF-16 unit as `\u` and four lower-case hexadecimal digits
abbrev pub unit_text : ℕ → List ℕ
unit_text u = codes "\\u" ++ digit_glyph false (u / 4096) ∷ digit_glyph false (u / 256 % 16) ∷ digit_glyph false (u / 16 % 16) ∷ digit_glyph false (u % 16) ∷ []

-- the two units of a character past 0xFFFF
abbrev pub pair_text : ℕ → List ℕ
pair_text c = unit_text (0xD800 + (c - 0x10000) / 1024) ++ unit_text (0xDC00 + (c - 0x10000) % 1024)

-- a character from 0x20 to 0x7E as itself; any other as its UTF-16 units, one below 0x10000 and else two
abbrev pub char_text : ℕ → List ℕ
char_text c =
    if nat_le 0x20 c && nat_le c 0x7E then c ∷ []
    else (if nat_lt c 0x10000 then unit_text c else pair_text c)

-- a name with its characters so
abbrev pub escaped : List ℕ → List ℕ
escaped name = flat_map char_text (chars name)
