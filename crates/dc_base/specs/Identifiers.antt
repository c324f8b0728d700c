-- Keywords and the names that may stand as identifiers (ECMA-334, 6.4.3 and 6.4.4).
use Rattle.std.specs.Prelude.{ℕ, Bool, false, ◌&&◌, ◌||◌, ◌==◌, List, [], ◌∷◌, codes}
use Rattle.std.specs.List.{list_all, list_any}
use Rattle.std.specs.Str.{bytes_eq}
use Rattle.unicode_ident.specs.Ident.{is_xid_start, is_xid_continue}

-- the keywords, without the contextual ones
abbrev pub keywords : List (List ℕ)
keywords =
    codes "abstract" ∷ codes "as" ∷ codes "base" ∷ codes "bool" ∷ codes "break" ∷ codes "byte" ∷ codes "case" ∷
    codes "catch" ∷ codes "char" ∷ codes "checked" ∷ codes "class" ∷ codes "const" ∷ codes "continue" ∷
    codes "decimal" ∷ codes "default" ∷ codes "delegate" ∷ codes "do" ∷ codes "double" ∷ codes "else" ∷
    codes "enum" ∷ codes "event" ∷ codes "explicit" ∷ codes "extern" ∷ codes "false" ∷ codes "finally" ∷
    codes "fixed" ∷ codes "float" ∷ codes "for" ∷ codes "foreach" ∷ codes "goto" ∷ codes "if" ∷ codes "implicit" ∷
    codes "in" ∷ codes "int" ∷ codes "interface" ∷ codes "internal" ∷ codes "is" ∷ codes "lock" ∷ codes "long" ∷
    codes "namespace" ∷ codes "new" ∷ codes "null" ∷ codes "object" ∷ codes "operator" ∷ codes "out" ∷
    codes "override" ∷ codes "params" ∷ codes "private" ∷ codes "protected" ∷ codes "public" ∷ codes "readonly" ∷
    codes "ref" ∷ codes "return" ∷ codes "sbyte" ∷ codes "sealed" ∷ codes "short" ∷ codes "sizeof" ∷
    codes "stackalloc" ∷ codes "static" ∷ codes "string" ∷ codes "struct" ∷ codes "switch" ∷ codes "this" ∷
    codes "throw" ∷ codes "true" ∷ codes "try" ∷ codes "typeof" ∷ codes "uint" ∷ codes "ulong" ∷ codes "unchecked" ∷
    codes "unsafe" ∷ codes "ushort" ∷ codes "using" ∷ codes "virtual" ∷ codes "void" ∷ codes "volatile" ∷
    codes "while" ∷ []

-- a word is a keyword
abbrev pub is_keyword : List ℕ → Bool
is_keyword word = list_any (λ keyword. bytes_eq keyword word) keywords

-- the characters make an identifier: the first is `_` (95) or starts one, the others continue it
abbrev pub is_legal : List ℕ → Bool
is_legal [] = false
is_legal (first ∷ others) = (first == 95 || is_xid_start first) && list_all is_xid_continue others
