-- The kinds of tokens, by which productions tell them apart (ECMA-334, 6.4). A sign has its number among the signs and 10, a
-- keyword its number among the keywords and 60.
use Rattle.std.specs.Prelude.{ℕ, List, [], ◌∷◌}

-- a name, a number without a suffix, a character, a text in quotes
abbrev pub name : ℕ
name = 0

abbrev pub number : ℕ
number = 1

abbrev pub character : ℕ
character = 2

abbrev pub text : ℕ
text = 3

-- the names `global`, `get`, `set` and `indexer`, which have a meaning of their own in some places, and a number with a suffix
abbrev pub global : ℕ
global = 4

abbrev pub getter : ℕ
getter = 5

abbrev pub setter : ℕ
setter = 6

abbrev pub indexer : ℕ
indexer = 7

abbrev pub suffixed : ℕ
suffixed = 8

-- signs: `{ } ( ) [ ] , ; : . ? = < > & | ^ + - * / % ! ~ == != <= >= << >> && || => :: += -= *= &= |= ^=`
abbrev pub brace : ℕ
brace = 10

abbrev pub unbrace : ℕ
unbrace = 11

abbrev pub paren : ℕ
paren = 12

abbrev pub unparen : ℕ
unparen = 13

abbrev pub bracket : ℕ
bracket = 14

abbrev pub unbracket : ℕ
unbracket = 15

abbrev pub comma : ℕ
comma = 16

abbrev pub semicolon : ℕ
semicolon = 17

abbrev pub colon : ℕ
colon = 18

abbrev pub dot : ℕ
dot = 19

abbrev pub question : ℕ
question = 20

abbrev pub equals : ℕ
equals = 21

abbrev pub less : ℕ
less = 22

abbrev pub greater : ℕ
greater = 23

abbrev pub amp : ℕ
amp = 24

abbrev pub bar : ℕ
bar = 25

abbrev pub caret : ℕ
caret = 26

abbrev pub plus : ℕ
plus = 27

abbrev pub minus : ℕ
minus = 28

abbrev pub times : ℕ
times = 29

abbrev pub slash : ℕ
slash = 30

abbrev pub percent : ℕ
percent = 31

abbrev pub bang : ℕ
bang = 32

abbrev pub tilde : ℕ
tilde = 33

abbrev pub equal : ℕ
equal = 34

abbrev pub unequal : ℕ
unequal = 35

abbrev pub at_most : ℕ
at_most = 36

abbrev pub at_least : ℕ
at_least = 37

abbrev pub shift_left : ℕ
shift_left = 38

abbrev pub shift_right : ℕ
shift_right = 39

abbrev pub both : ℕ
both = 40

abbrev pub either_one : ℕ
either_one = 41

abbrev pub arrow : ℕ
arrow = 42

abbrev pub colons : ℕ
colons = 43

abbrev pub plus_equals : ℕ
plus_equals = 44

abbrev pub minus_equals : ℕ
minus_equals = 45

abbrev pub times_equals : ℕ
times_equals = 46

abbrev pub amp_equals : ℕ
amp_equals = 47

abbrev pub bar_equals : ℕ
bar_equals = 48

abbrev pub caret_equals : ℕ
caret_equals = 49

-- keywords, each under its name and `kw` before it
abbrev pub kw_abstract : ℕ
kw_abstract = 60

abbrev pub kw_as : ℕ
kw_as = 61

abbrev pub kw_base : ℕ
kw_base = 62

abbrev pub kw_bool : ℕ
kw_bool = 63

abbrev pub kw_break : ℕ
kw_break = 64

abbrev pub kw_byte : ℕ
kw_byte = 65

abbrev pub kw_case : ℕ
kw_case = 66

abbrev pub kw_catch : ℕ
kw_catch = 67

abbrev pub kw_char : ℕ
kw_char = 68

abbrev pub kw_checked : ℕ
kw_checked = 69

abbrev pub kw_class : ℕ
kw_class = 70

abbrev pub kw_const : ℕ
kw_const = 71

abbrev pub kw_continue : ℕ
kw_continue = 72

abbrev pub kw_decimal : ℕ
kw_decimal = 73

abbrev pub kw_default : ℕ
kw_default = 74

abbrev pub kw_delegate : ℕ
kw_delegate = 75

abbrev pub kw_do : ℕ
kw_do = 76

abbrev pub kw_double : ℕ
kw_double = 77

abbrev pub kw_else : ℕ
kw_else = 78

abbrev pub kw_enum : ℕ
kw_enum = 79

abbrev pub kw_event : ℕ
kw_event = 80

abbrev pub kw_explicit : ℕ
kw_explicit = 81

abbrev pub kw_extern : ℕ
kw_extern = 82

abbrev pub kw_false : ℕ
kw_false = 83

abbrev pub kw_finally : ℕ
kw_finally = 84

abbrev pub kw_fixed : ℕ
kw_fixed = 85

abbrev pub kw_float : ℕ
kw_float = 86

abbrev pub kw_for : ℕ
kw_for = 87

abbrev pub kw_foreach : ℕ
kw_foreach = 88

abbrev pub kw_goto : ℕ
kw_goto = 89

abbrev pub kw_if : ℕ
kw_if = 90

abbrev pub kw_implicit : ℕ
kw_implicit = 91

abbrev pub kw_in : ℕ
kw_in = 92

abbrev pub kw_int : ℕ
kw_int = 93

abbrev pub kw_interface : ℕ
kw_interface = 94

abbrev pub kw_internal : ℕ
kw_internal = 95

abbrev pub kw_is : ℕ
kw_is = 96

abbrev pub kw_lock : ℕ
kw_lock = 97

abbrev pub kw_long : ℕ
kw_long = 98

abbrev pub kw_namespace : ℕ
kw_namespace = 99

abbrev pub kw_new : ℕ
kw_new = 100

abbrev pub kw_null : ℕ
kw_null = 101

abbrev pub kw_object : ℕ
kw_object = 102

abbrev pub kw_operator : ℕ
kw_operator = 103

abbrev pub kw_out : ℕ
kw_out = 104

abbrev pub kw_override : ℕ
kw_override = 105

abbrev pub kw_params : ℕ
kw_params = 106

abbrev pub kw_private : ℕ
kw_private = 107

abbrev pub kw_protected : ℕ
kw_protected = 108

abbrev pub kw_public : ℕ
kw_public = 109

abbrev pub kw_readonly : ℕ
kw_readonly = 110

abbrev pub kw_ref : ℕ
kw_ref = 111

abbrev pub kw_return : ℕ
kw_return = 112

abbrev pub kw_sbyte : ℕ
kw_sbyte = 113

abbrev pub kw_sealed : ℕ
kw_sealed = 114

abbrev pub kw_short : ℕ
kw_short = 115

abbrev pub kw_sizeof : ℕ
kw_sizeof = 116

abbrev pub kw_stackalloc : ℕ
kw_stackalloc = 117

abbrev pub kw_static : ℕ
kw_static = 118

abbrev pub kw_string : ℕ
kw_string = 119

abbrev pub kw_struct : ℕ
kw_struct = 120

abbrev pub kw_switch : ℕ
kw_switch = 121

abbrev pub kw_this : ℕ
kw_this = 122

abbrev pub kw_throw : ℕ
kw_throw = 123

abbrev pub kw_true : ℕ
kw_true = 124

abbrev pub kw_try : ℕ
kw_try = 125

abbrev pub kw_typeof : ℕ
kw_typeof = 126

abbrev pub kw_uint : ℕ
kw_uint = 127

abbrev pub kw_ulong : ℕ
kw_ulong = 128

abbrev pub kw_unchecked : ℕ
kw_unchecked = 129

abbrev pub kw_unsafe : ℕ
kw_unsafe = 130

abbrev pub kw_ushort : ℕ
kw_ushort = 131

abbrev pub kw_using : ℕ
kw_using = 132

abbrev pub kw_virtual : ℕ
kw_virtual = 133

abbrev pub kw_void : ℕ
kw_void = 134

abbrev pub kw_volatile : ℕ
kw_volatile = 135

abbrev pub kw_while : ℕ
kw_while = 136

-- what may stand where a name is wanted
abbrev pub names : List ℕ
names = name ∷ global ∷ getter ∷ setter ∷ indexer ∷ []

-- the keywords that name a type (8.2.3, 8.2.5, 8.3.5)
abbrev pub keyword_types : List ℕ
keyword_types =
    kw_bool ∷ kw_char ∷ kw_sbyte ∷ kw_byte ∷ kw_short ∷ kw_ushort ∷ kw_int ∷ kw_uint ∷ kw_long ∷ kw_ulong ∷ kw_object ∷ kw_string ∷ []

-- the tokens that are an expression by themselves (12.8): names but `global`, literals (6.4.5), `this`
abbrev pub simple_kinds : List ℕ
simple_kinds =
    name ∷ getter ∷ setter ∷ indexer ∷ number ∷ suffixed ∷ character ∷ text ∷ kw_true ∷ kw_false ∷ kw_null ∷ kw_this ∷ []

-- what begins with a construct that counts as a level
abbrev pub counted_kinds : List ℕ
counted_kinds = paren ∷ kw_new ∷ kw_default ∷ kw_checked ∷ kw_unchecked ∷ []

-- what an operand of a cast begins with: where it stands behind a type in parentheses, they are a cast
abbrev pub operand_kinds : List ℕ
operand_kinds =
    name ∷ getter ∷ setter ∷ indexer ∷ number ∷ suffixed ∷ character ∷ text ∷ kw_true ∷ kw_false ∷ kw_null ∷ kw_this ∷ paren ∷ kw_new ∷ kw_default ∷
    kw_checked ∷ kw_unchecked ∷ kw_base ∷ global ∷ []

-- the operators with one operand (12.9)
abbrev pub unary_operators : List ℕ
unary_operators = bang ∷ tilde ∷ minus ∷ []

-- what an expression begins with
abbrev pub expression_kinds : List ℕ
expression_kinds =
    bang ∷ tilde ∷ minus ∷ name ∷ getter ∷ setter ∷ indexer ∷ number ∷ suffixed ∷ character ∷ text ∷ kw_true ∷ kw_false ∷ kw_null ∷ kw_this ∷ paren ∷
    kw_new ∷ kw_default ∷ kw_checked ∷ kw_unchecked ∷ kw_base ∷ global ∷ []

-- the operators with two operands, level by level (12.4.2), from those that bind most on
abbrev pub multiplicative_operators : List ℕ
multiplicative_operators = times ∷ slash ∷ percent ∷ []

abbrev pub additive_operators : List ℕ
additive_operators = plus ∷ minus ∷ []

abbrev pub shift_operators : List ℕ
shift_operators = shift_left ∷ shift_right ∷ []

abbrev pub comparisons : List ℕ
comparisons = less ∷ greater ∷ at_most ∷ at_least ∷ []

abbrev pub type_tests : List ℕ
type_tests = kw_is ∷ kw_as ∷ []

abbrev pub relational_operators : List ℕ
relational_operators = less ∷ greater ∷ at_most ∷ at_least ∷ kw_is ∷ kw_as ∷ []

abbrev pub equality_operators : List ℕ
equality_operators = equal ∷ unequal ∷ []
