-- Kinds of tokens that declarations begin with.
use Rattle.std.specs.Prelude.{ℕ, List, [], ◌∷◌, ◌++◌}
use Rattle.cs_productions.specs.Kinds.{name, global, getter, setter, indexer, keyword_types, kw_public, kw_private, kw_protected, kw_internal, kw_static, kw_abstract, kw_sealed, kw_virtual, kw_override, kw_readonly, kw_extern, kw_class, kw_interface, kw_struct, kw_enum, kw_delegate, kw_const, kw_void, kw_operator}

-- the words of an access (15.3.6), and of all modifiers (15.3.5)
abbrev pub access_kinds : List ℕ
access_kinds = kw_public ∷ kw_internal ∷ kw_private ∷ kw_protected ∷ []

abbrev pub modifier_kinds : List ℕ
modifier_kinds =
    kw_public ∷ kw_internal ∷ kw_private ∷ kw_protected ∷ kw_static ∷ kw_abstract ∷ kw_sealed ∷ kw_virtual ∷ kw_override ∷ kw_readonly ∷ kw_extern ∷ []

-- what a type is told by: one that has a body of members, and all
abbrev pub body_kinds : List ℕ
body_kinds = kw_class ∷ kw_interface ∷ kw_struct ∷ []

abbrev pub type_words : List ℕ
type_words = kw_class ∷ kw_interface ∷ kw_struct ∷ kw_enum ∷ kw_delegate ∷ []

-- names that mean nothing of their own where a member begins
abbrev pub maker_names : List ℕ
maker_names = name ∷ getter ∷ setter ∷ []

-- what a member begins with, its modifiers aside
abbrev pub member_kinds : List ℕ
member_kinds = keyword_types ++ (global ∷ indexer ∷ maker_names ++ (kw_void ∷ kw_operator ∷ kw_const ∷ []))

-- what a declaration of a type begins with, and anything that stands in a type
abbrev pub decl_kinds : List ℕ
decl_kinds = modifier_kinds ++ type_words

abbrev pub item_kinds : List ℕ
item_kinds = modifier_kinds ++ (type_words ++ member_kinds)
