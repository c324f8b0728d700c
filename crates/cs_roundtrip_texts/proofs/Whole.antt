-- Members and whole texts are written well, and what is printed of them is read back: the laws.
use Rattle.std.proofs.Common.{◌≡◌, ℕ, ◌+◌, true, List, [], ◌∷◌, Option, Some, None, refl, sym, ◌∙◌, ap, subst}
use Rattle.std.specs.Prelude.{map}
use Rattle.std.specs.Str.{chars}
use Rattle.std.proofs.Math.Utf8.{encodes}
use Rattle.std.proofs.lemmas.List.{append-nil}
use Rattle.std.proofs.lemmas.Str.{chars-encodes}
use Rattle.cs_token.specs.Placed.{Placed}
use Rattle.cs_token.specs.declared.lexeme.Lexeme.{Lexeme}
use Rattle.cs_tree.specs.BareUnits.{bare_unit}
use Rattle.cs_grammar.specs.Grammar.{Grammar}
use Rattle.cs_units.specs.Declarations.{unit_at, item_at, inside}
use Rattle.cs_written.specs.Written.{may_end, written, AreLexemes}
use Rattle.cs_written.proofs.Apart.{read_from}
use Rattle.cs_layout.specs.Pieces.{Piece, tokens, last}
use Rattle.cs_unit_layout.specs.Members.{member_laid}
use Rattle.cs_unit_layout.specs.Units.{unit_laid}
use Rattle.cs_roundtrip_types.specs.Laws.{IsReadBack}
use Rattle.cs_roundtrip_members.specs.Laws.{IsMemberAs}
use Rattle.cs_roundtrip_members.proofs.Whole.{members_back}
use Rattle.cs_roundtrip_units.proofs.Whole.{texts_back}
use Rattle.cs_roundtrip_texts.specs.Lines.{begins_blank, IsBehind, IsReady, Apart, WrittenBehind, Lines}
use Rattle.cs_roundtrip_texts.specs.Laws.{bytes_of, HaveTheirTokens, IsReadAs, MembersAreWrittenWell, TextsAreWrittenWell, PrintedMembersAreReadBack, PrintedTextsAreReadBack}
use Rattle.cs_roundtrip_texts.proofs.Spelled.{low_scalars}
use Rattle.cs_roundtrip_texts.proofs.Members.{member_lines}
use Rattle.cs_roundtrip_texts.proofs.Units.{unit_lines}

-- at the end stands the last gap

ends_blank : (a : Lexeme) (g : List ℕ) → begins_blank g ≡ true → may_end g ≡ true
ends_blank a [] h = refl
ends_blank a (c ∷ g) h = h

may_behind : (before : Option Lexeme) (g : List ℕ) → IsBehind before g → Apart before [] g
may_behind None g h = tt
may_behind (Some a) g h = ends_blank a g h

ends_behind : (before : Option Lexeme) (g : List ℕ) → IsReady before g → WrittenBehind before g []
ends_behind before g r = record { apart = may_behind before g r.blank; well = r.ends; bytes = append-nil (encodes g); scalar = low_scalars g r.low }

from_lines : (ps : List Piece) → Lines ps → WrittenBehind None [] ps
from_lines ps x = subst (WrittenBehind None []) (append-nil ps) (x.lines None [] [] (record { ends = refl; low = refl; blank = tt }) ends_behind)

-- the text, which is its bytes' characters
text_is : (ps : List Piece) (w : WrittenBehind None [] ps) → chars (bytes_of ps) ≡ written (tokens ps) (last ps)
text_is ps w = ap chars w.bytes ∙ chars-encodes (written (tokens ps) (last ps)) w.scalar

well_from : (ps : List Piece) → WrittenBehind None [] ps → HaveTheirTokens ps
well_from ps w = (
  (written (tokens ps) (last ps), (w.scalar, sym w.bytes)),
  subst (λ t. AreLexemes t (map (λ p. p.1) (tokens ps))) (sym (text_is ps w)) (read_from (written (tokens ps) (last ps)) (tokens ps) (last ps) w.well),
)

pub members_well : MembersAreWrittenWell
members_well levels limit blocks m margin blank w n = well_from (member_laid m margin) (from_lines (member_laid m margin) (member_lines levels limit blocks m margin blank w n))

pub texts_well : TextsAreWrittenWell
texts_well levels limit blocks nesting u w n = well_from (unit_laid u) (from_lines (unit_laid u) (unit_lines levels limit blocks nesting u w n))

-- what has the layout's tokens is read as it
text_of : {A : Type 0} (g wide : Grammar Placed A) (Wanted : A → Type 0) (ps : List Piece) → HaveTheirTokens ps → IsReadBack g wide Wanted ps → IsReadAs g wide Wanted (chars (bytes_of ps))
text_of g wide Wanted ps well back = let r = well.1 in (r.0, r.1, back r.0 r.2)

pub printed_members : PrintedMembersAreReadBack
printed_members levels limit blocks nesting m margin some more blank w n =
    text_of (item_at (inside levels limit blocks) nesting) (item_at (inside (levels + 2) (limit + 1) (blocks + 1)) (nesting + 1)) (IsMemberAs m) (member_laid m margin)
    (members_well levels limit blocks m margin blank w n) (members_back levels limit blocks nesting m margin some more w)

pub printed_texts : PrintedTextsAreReadBack
printed_texts levels limit blocks nesting u some more w n =
    text_of (unit_at (inside levels limit blocks) nesting) (unit_at (inside (levels + 2) (limit + 1) (blocks + 1)) (nesting + 1)) (λ v. bare_unit v ≡ bare_unit u) (unit_laid u)
    (texts_well levels limit blocks nesting u w n) (texts_back levels limit blocks nesting u some more w)
