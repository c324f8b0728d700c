-- The kinds have the names that their tokens are written by (ECMA-334, 6.4).
use Rattle.std.specs.Prelude.{◌≡◌, ℕ, ◌+◌, List, [], ◌∷◌, map, Option, Some, None, codes}
use Rattle.cs_token.specs.declared.lexeme.Suffix.TheVariants.{Plain, Unsigned, Long, UnsignedLong}
use Rattle.cs_token.specs.declared.lexeme.Lexeme.TheVariants.{Number, Char, Literal}
use Rattle.cs_token.specs.Words.{sign_at}
use Rattle.cs_token.specs.Tokens.{kind_of, named}
use Rattle.cs_productions.specs.Kinds.{name, number, character, text, global, getter, setter, indexer, suffixed, brace, unbrace, paren, unparen, bracket, unbracket, comma, semicolon, colon, dot, question, equals, less, greater, amp, bar, caret, plus, minus, times, slash, percent, bang, tilde, equal, unequal, at_most, at_least, shift_left, shift_right, both, either_one, arrow, colons, plus_equals, minus_equals, times_equals, amp_equals, bar_equals, caret_equals, kw_abstract, kw_as, kw_base, kw_bool, kw_break, kw_byte, kw_case, kw_catch, kw_char, kw_checked, kw_class, kw_const, kw_continue, kw_decimal, kw_default, kw_delegate, kw_do, kw_double, kw_else, kw_enum, kw_event, kw_explicit, kw_extern, kw_false, kw_finally, kw_fixed, kw_float, kw_for, kw_foreach, kw_goto, kw_if, kw_implicit, kw_in, kw_int, kw_interface, kw_internal, kw_is, kw_lock, kw_long, kw_namespace, kw_new, kw_null, kw_object, kw_operator, kw_out, kw_override, kw_params, kw_private, kw_protected, kw_public, kw_readonly, kw_ref, kw_return, kw_sbyte, kw_sealed, kw_short, kw_sizeof, kw_stackalloc, kw_static, kw_string, kw_struct, kw_switch, kw_this, kw_throw, kw_true, kw_try, kw_typeof, kw_uint, kw_ulong, kw_unchecked, kw_unsafe, kw_ushort, kw_using, kw_virtual, kw_void, kw_volatile, kw_while}

abbrev pub kind_of_word : List ℕ → ℕ
kind_of_word word = kind_of (named word)

-- the keywords (6.4.4)
abbrev pub Keywords : Type 0
Keywords =
    map kind_of_word (
    codes "abstract" ∷ codes "as" ∷ codes "base" ∷ codes "bool" ∷ codes "break" ∷ codes "byte" ∷ codes "case" ∷
    codes "catch" ∷ codes "char" ∷ codes "checked" ∷ codes "class" ∷ codes "const" ∷ codes "continue" ∷ codes "decimal" ∷
    codes "default" ∷ codes "delegate" ∷ codes "do" ∷ codes "double" ∷ codes "else" ∷ codes "enum" ∷ codes "event" ∷
    codes "explicit" ∷ codes "extern" ∷ codes "false" ∷ codes "finally" ∷ codes "fixed" ∷ codes "float" ∷ codes "for" ∷
    codes "foreach" ∷ codes "goto" ∷ codes "if" ∷ codes "implicit" ∷ codes "in" ∷ codes "int" ∷ codes "interface" ∷
    codes "internal" ∷ codes "is" ∷ codes "lock" ∷ codes "long" ∷ codes "namespace" ∷ codes "new" ∷ codes "null" ∷
    codes "object" ∷ codes "operator" ∷ codes "out" ∷ codes "override" ∷ codes "params" ∷ codes "private" ∷
    codes "protected" ∷ codes "public" ∷ codes "readonly" ∷ codes "ref" ∷ codes "return" ∷ codes "sbyte" ∷ codes "sealed" ∷
    codes "short" ∷ codes "sizeof" ∷ codes "stackalloc" ∷ codes "static" ∷ codes "string" ∷ codes "struct" ∷ codes "switch" ∷
    codes "this" ∷ codes "throw" ∷ codes "true" ∷ codes "try" ∷ codes "typeof" ∷ codes "uint" ∷ codes "ulong" ∷
    codes "unchecked" ∷ codes "unsafe" ∷ codes "ushort" ∷ codes "using" ∷ codes "virtual" ∷ codes "void" ∷ codes "volatile" ∷
    codes "while" ∷ [])
    ≡ (
    kw_abstract ∷ kw_as ∷ kw_base ∷ kw_bool ∷ kw_break ∷ kw_byte ∷ kw_case ∷ kw_catch ∷ kw_char ∷ kw_checked ∷ kw_class ∷
    kw_const ∷ kw_continue ∷ kw_decimal ∷ kw_default ∷ kw_delegate ∷ kw_do ∷ kw_double ∷ kw_else ∷ kw_enum ∷ kw_event ∷
    kw_explicit ∷ kw_extern ∷ kw_false ∷ kw_finally ∷ kw_fixed ∷ kw_float ∷ kw_for ∷ kw_foreach ∷ kw_goto ∷ kw_if ∷
    kw_implicit ∷ kw_in ∷ kw_int ∷ kw_interface ∷ kw_internal ∷ kw_is ∷ kw_lock ∷ kw_long ∷ kw_namespace ∷ kw_new ∷ kw_null ∷
    kw_object ∷ kw_operator ∷ kw_out ∷ kw_override ∷ kw_params ∷ kw_private ∷ kw_protected ∷ kw_public ∷ kw_readonly ∷
    kw_ref ∷ kw_return ∷ kw_sbyte ∷ kw_sealed ∷ kw_short ∷ kw_sizeof ∷ kw_stackalloc ∷ kw_static ∷ kw_string ∷ kw_struct ∷
    kw_switch ∷ kw_this ∷ kw_throw ∷ kw_true ∷ kw_try ∷ kw_typeof ∷ kw_uint ∷ kw_ulong ∷ kw_unchecked ∷ kw_unsafe ∷
    kw_ushort ∷ kw_using ∷ kw_virtual ∷ kw_void ∷ kw_volatile ∷ kw_while ∷ [])

-- the signs (6.4.6)
abbrev pub kind_of_found : Option (ℕ × List ℕ) → ℕ
kind_of_found None = 0
kind_of_found (Some p) = 10 + p.0

abbrev pub kind_of_sign : List ℕ → ℕ
kind_of_sign sign = kind_of_found (sign_at sign)

abbrev pub Signs : Type 0
Signs =
    map kind_of_sign (
    codes "{" ∷ codes "}" ∷ codes "(" ∷ codes ")" ∷ codes "[" ∷ codes "]" ∷ codes "," ∷ codes ";" ∷ codes ":" ∷ codes "." ∷
    codes "?" ∷ codes "=" ∷ codes "<" ∷ codes ">" ∷ codes "&" ∷ codes "|" ∷ codes "^" ∷ codes "+" ∷ codes "-" ∷ codes "*" ∷
    codes "/" ∷ codes "%" ∷ codes "!" ∷ codes "~" ∷ codes "==" ∷ codes "!=" ∷ codes "<=" ∷ codes ">=" ∷ codes "<<" ∷
    codes ">>" ∷ codes "&&" ∷ codes "||" ∷ codes "=>" ∷ codes "::" ∷ codes "+=" ∷ codes "-=" ∷ codes "*=" ∷ codes "&=" ∷
    codes "|=" ∷ codes "^=" ∷ [])
    ≡ (
    brace ∷ unbrace ∷ paren ∷ unparen ∷ bracket ∷ unbracket ∷ comma ∷ semicolon ∷ colon ∷ dot ∷ question ∷ equals ∷ less ∷
    greater ∷ amp ∷ bar ∷ caret ∷ plus ∷ minus ∷ times ∷ slash ∷ percent ∷ bang ∷ tilde ∷ equal ∷ unequal ∷ at_most ∷
    at_least ∷ shift_left ∷ shift_right ∷ both ∷ either_one ∷ arrow ∷ colons ∷ plus_equals ∷ minus_equals ∷ times_equals ∷
    amp_equals ∷ bar_equals ∷ caret_equals ∷ [])

-- names, and those that mean something of their own in some places
abbrev pub Names : Type 0
Names = map kind_of_word (codes "x" ∷ codes "global" ∷ codes "get" ∷ codes "set" ∷ codes "indexer" ∷ []) ≡ (name ∷ global ∷ getter ∷ setter ∷ indexer ∷ [])

-- literals (6.4.5)
abbrev pub Literals : Type 0
Literals =
    map kind_of (Number 7 Plain ∷ Number 7 Unsigned ∷ Number 7 Long ∷ Number 7 UnsignedLong ∷ Char 97 ∷ Literal (97 ∷ []) ∷ [])
    ≡ (number ∷ suffixed ∷ suffixed ∷ suffixed ∷ character ∷ text ∷ [])

abbrev pub Kinds : Type 0
Kinds = Keywords × Signs × Names × Literals
