-- What is printed of members and whole texts is written well, and is read back (ECMA-334, clauses 6 and 14 to 20).
use Rattle.std.specs.Prelude.{◌≡◌, ℕ, ◌+◌, ◌<◌, Bool, List, [], map, Result, Ok, IsTrue, IsUtf8}
use Rattle.std.specs.List.{flat_map, list_all}
use Rattle.std.specs.Str.{chars}
use Rattle.cs_token.specs.declared.tokens.Token.{Token}
use Rattle.cs_token.specs.Placed.{Placed}
use Rattle.cs_token.specs.Words.{is_blank}
use Rattle.cs_token.specs.Cuts.{AreTokens}
use Rattle.cs_tree.specs.declared.members.Member.{Member}
use Rattle.cs_tree.specs.declared.declarations.Unit.{Unit as WholeText}
use Rattle.cs_tree.specs.BareUnits.{bare_unit}
use Rattle.cs_grammar.specs.Grammar.{Grammar}
use Rattle.cs_grammar.specs.Whole.{Answers}
use Rattle.cs_units.specs.Declarations.{unit_at, item_at, inside}
use Rattle.cs_written.specs.Written.{AreLexemes}
use Rattle.cs_layout.specs.Pieces.{Piece, piece_bytes, tokens}
use Rattle.cs_unit_layout.specs.Members.{member_laid}
use Rattle.cs_unit_layout.specs.Units.{unit_laid}
use Rattle.cs_roundtrip_members.specs.Members.{IsWellFormedMember}
use Rattle.cs_roundtrip_members.specs.Laws.{IsMemberAs}
use Rattle.cs_roundtrip_units.specs.Units.{IsWellFormedUnit}
use Rattle.cs_roundtrip_texts.specs.Notes.{member_notes, unit_notes, AreTexts}

abbrev pub bytes_of : List Piece → List ℕ
bytes_of ps = flat_map piece_bytes ps

-- the bytes of pieces are a text in UTF-8, whose tokens are just those of the pieces
abbrev pub HaveTheirTokens : List Piece → Type 0
HaveTheirTokens ps = IsUtf8 (bytes_of ps) × AreLexemes (chars (bytes_of ps)) (map (λ p. p.1) (tokens ps))

abbrev pub MembersAreWrittenWell : Type 0
MembersAreWrittenWell =
    (levels limit blocks : ℕ) (m : Member) (margin : List ℕ) → IsTrue (list_all is_blank margin) → IsWellFormedMember levels limit blocks m
    → AreTexts (member_notes m) → HaveTheirTokens (member_laid m margin)

abbrev pub TextsAreWrittenWell : Type 0
TextsAreWrittenWell =
    (levels limit blocks nesting : ℕ) (u : WholeText) → IsWellFormedUnit levels limit blocks nesting u → AreTexts (unit_notes u) → HaveTheirTokens (unit_laid u)

-- The tokens of a text are a value of the grammar, which is what is wanted, and they are nothing else. `wide` is the same grammar within
-- greater depths.
abbrev pub IsReadAs : {A : Type 0} → Grammar Placed A → Grammar Placed A → (A → Type 0) → List ℕ → Type 0
IsReadAs {A} g wide Wanted text =
    (ts : List Token) × AreTokens text ts × ((a : A) × Wanted a × g.derives ts a [] × ((r : Result A (Bool × List Token)) → Answers g wide ts r → r ≡ Ok a))

-- as what stands in a type
abbrev pub PrintedMembersAreReadBack : Type 0
PrintedMembersAreReadBack =
    (levels limit blocks nesting : ℕ) (m : Member) (margin : List ℕ) → 0 < limit → 0 < blocks → IsTrue (list_all is_blank margin) → IsWellFormedMember levels limit blocks m
    → AreTexts (member_notes m)
    → IsReadAs (item_at (inside levels limit blocks) nesting) (item_at (inside (levels + 2) (limit + 1) (blocks + 1)) (nesting + 1)) (IsMemberAs m) (chars (bytes_of (member_laid m margin)))

-- the same text but for its places and notes
abbrev pub PrintedTextsAreReadBack : Type 0
PrintedTextsAreReadBack =
    (levels limit blocks nesting : ℕ) (u : WholeText) → 0 < limit → 0 < blocks → IsWellFormedUnit levels limit blocks nesting u → AreTexts (unit_notes u)
    → IsReadAs (unit_at (inside levels limit blocks) nesting) (unit_at (inside (levels + 2) (limit + 1) (blocks + 1)) (nesting + 1)) (λ v. bare_unit v ≡ bare_unit u) (chars (bytes_of (unit_laid u)))
