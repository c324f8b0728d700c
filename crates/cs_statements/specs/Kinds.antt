-- Kinds of tokens that statements begin with.
use Rattle.std.specs.Prelude.{ℕ, List, [], ◌∷◌, ◌++◌}
use Rattle.cs_productions.specs.Kinds.{name, global, getter, setter, indexer, number, suffixed, character, text, plus_equals, minus_equals, times_equals, amp_equals, bar_equals, caret_equals, keyword_types, counted_kinds, kw_true, kw_false, kw_null, kw_this, kw_base, kw_goto, kw_break, kw_continue, kw_return, kw_throw, kw_switch, kw_if, kw_while, kw_do, kw_for, kw_foreach, kw_using, kw_lock, kw_try}

-- names but `global`
abbrev pub name_kinds : List ℕ
name_kinds = name ∷ getter ∷ setter ∷ indexer ∷ []

-- literals (6.4.5), and these and `this`
abbrev pub literal_kinds : List ℕ
literal_kinds = number ∷ suffixed ∷ character ∷ text ∷ kw_true ∷ kw_false ∷ kw_null ∷ []

abbrev pub unnamed_kinds : List ℕ
unnamed_kinds = number ∷ suffixed ∷ character ∷ text ∷ kw_true ∷ kw_false ∷ kw_null ∷ kw_this ∷ []

-- the operators of compound assignments (12.21.4)
abbrev pub compound_operators : List ℕ
compound_operators = plus_equals ∷ minus_equals ∷ times_equals ∷ amp_equals ∷ bar_equals ∷ caret_equals ∷ []

-- the statements that end where they stand, and those that hold blocks
abbrev pub jump_kinds : List ℕ
jump_kinds = kw_goto ∷ kw_break ∷ kw_continue ∷ kw_return ∷ kw_throw ∷ []

abbrev pub block_kinds : List ℕ
block_kinds = kw_if ∷ kw_while ∷ kw_do ∷ kw_for ∷ kw_foreach ∷ kw_using ∷ kw_lock ∷ kw_try ∷ []

-- what a primary expression begins with that is no name
abbrev pub unnamed_primary_kinds : List ℕ
unnamed_primary_kinds = counted_kinds ++ kw_base ∷ unnamed_kinds

-- what a statement begins with
abbrev pub statement_kinds : List ℕ
statement_kinds = keyword_types ++ (global ∷ name_kinds ++ (unnamed_primary_kinds ++ (jump_kinds ++ (block_kinds ++ kw_switch ∷ []))))
