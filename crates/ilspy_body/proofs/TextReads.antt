-- The text of a flat body is one list of tokens, which are one tree, which has the body.
use Rattle.std.proofs.Common.{◌≡◌, ℕ, ◌^◌, ◌<◌, ◌≤◌, Bool, List, [], length, codes, Some, None, Result, Ok, refl, sym, ap, ◌∙◌, subst, arith}
use Rattle.std.specs.Prelude.{IsUtf8}
use Rattle.std.specs.List.{flat_map}
use Rattle.std.specs.Str.{chars}
use Rattle.std.proofs.Math.Utf8.{encodes}
use Rattle.std.proofs.lemmas.Str.{chars_from_encodes}
use Rattle.cs_token.specs.declared.tokens.Token.{Token}
use Rattle.cs_token.specs.Cuts.{AreTokens}
use Rattle.cs_lex.specs.Lexed.{HasOneAnswer}
use Rattle.cs_tree.specs.declared.members.Member.{Member}
use Rattle.cs_tree.specs.declared.declarations.Item.{Item}
use Rattle.cs_tree.specs.declared.declarations.Item.TheVariants as item
use Rattle.cs_tree.specs.BareUnits.{bare_member}
use Rattle.cs_written.specs.Written.{written}
use Rattle.cs_written.proofs.Apart.{read_from}
use Rattle.cs_layout.specs.Pieces.{Piece, piece_bytes, tokens, last}
use Rattle.cs_layout.proofs.Written.{bytes_from}
use Rattle.cs_unit_layout.specs.Members.{member_laid}
use Rattle.cs_roundtrip_members.specs.Members.{IsWellFormedMember}
use Rattle.cs_roundtrip_members.specs.Laws.{MembersAreReadBack}
use Rattle.cs_roundtrip_types.specs.Laws.{AreTokensOf}
use Rattle.cs_roundtrip_written.specs.Sound.{Sound, Is}
use Rattle.cs_roundtrip_written.proofs.Texts.{gaps_are_blank, written_from}
use Rattle.cs_body.specs.declared.body.Role.{Role}
use Rattle.cs_body.specs.declared.body.Role.TheVariants.{Local}
use Rattle.cs_body.specs.declared.tree.Stmt.{Stmt}
use Rattle.ilspy_body.specs.Flat.{lone_body}
use Rattle.ilspy_body.specs.Tree.{block, syntax_of, member_of}
use Rattle.ilspy_body.specs.Layout.{text_of}
use Rattle.ilspy_body.specs.Elaborate.{bare_body, body_of}
use Rattle.ilspy_body.specs.Theorem.{IsItem, HasOneTokenList, HasOneTree}
use Rattle.ilspy_body.proofs.FlatShape.{AreFlat}
use Rattle.ilspy_body.proofs.TreeMeans.{four, member_stands}
use Rattle.ilspy_body.proofs.HeadSound.{sound_method}
use Rattle.ilspy_body.proofs.Utf8Pieces.{pieces_utf8}

-- bytes of pieces that are written well are text in UTF-8, whose tokens are theirs
pub record IsTokenText (ps : List Piece) : Type 0 where
  pub utf8 : IsUtf8 (flat_map piece_bytes ps)
  pub tokens : List Token
  pub are : AreTokens (chars (flat_map piece_bytes ps)) tokens
  pub those : AreTokensOf ps tokens

token_text : (ps : List Piece) → Sound (Is None) ps (Is None) → IsTokenText ps
token_text ps sound =
    let well = (sound.sound None refl).0 in
    let text = written (tokens ps) (last ps) in
    let utf8 = pieces_utf8 None ps well in
    let bytes : flat_map piece_bytes ps ≡ encodes text = bytes_from [] ps (gaps_are_blank None ps well) in
    let same : text ≡ chars (flat_map piece_bytes ps) = chars_from_encodes text (flat_map piece_bytes ps) utf8 (sym bytes) in
    let read = read_from text (tokens ps) (last ps) (written_from None [] ps refl well) in
    record { utf8 = utf8; tokens = read.0; are = subst (λ cs. AreTokens cs read.0) same read.1; those = read.2 }

-- the laws of the crates below
pub record TextLaws : Type 0 where
  pub lexed : HasOneAnswer
  pub members : MembersAreReadBack

-- a text reads as one tree, whose body has these statements, in variables of the role that locals have
pub record TextReads (text : List ℕ) (stmts : List Stmt) : Type 0 where
  pub tokens : List Token
  pub lexed : HasOneTokenList text tokens
  pub tree : Member
  pub parsed : HasOneTree 400 33 200 200 tokens tree
  pub elaborated : body_of tree ≡ Some (lone_body Local stmts)

-- a well formed member's tokens are it and nothing else
pub record IsReadAs (levels ranks blocks nesting : ℕ) (m : Member) (tokens : List Token) : Type 0 where
  pub tree : Member
  pub parsed : HasOneTree levels ranks blocks nesting tokens tree
  pub same : bare_member tree ≡ bare_member m

abbrev answer : Item → Result Item (Bool × List Token)
answer it = Ok it

only_one : (i j : Item) → answer i ≡ answer j → i ≡ j
only_one i j e = cc

is_read_as : MembersAreReadBack → (levels ranks blocks nesting : ℕ) (m : Member) → 0 < ranks → 0 < blocks → IsWellFormedMember levels ranks blocks m
    → (ts : List Token) → AreTokensOf (member_laid m []) ts → IsReadAs levels ranks blocks nesting m ts
is_read_as law levels ranks blocks nesting m some more well ts those =
    let read = law levels ranks blocks nesting m [] some more well ts those in
    let like = read.1 in
    record {
      tree = like.0;
      parsed = record {
        is = subst (IsItem levels ranks blocks nesting ts) like.1 read.2;
        only = λ other d. only_one other (item.Member like.0) (read.3 (answer other) d ∙ ap answer like.1);
      };
      same = like.2;
    }

pub flat_text_reads : TextLaws → (role : Role) (stmts : List Stmt) → AreFlat 4 stmts → length stmts ≤ 2 ^ 32 → TextReads (text_of (lone_body role stmts)) stmts
flat_text_reads laws role stmts flat h =
    let m = member_of (lone_body role stmts) in
    let ps = member_laid m [] in
    let s = member_stands role stmts flat h in
    let text = token_text ps (sound_method (codes "M") four (block (flat_map syntax_of stmts)) 1 s.result s.name s.params s.body) in
    let read = is_read_as laws.members 400 33 200 200 m (omega arith) (omega arith) s.well text.tokens text.those in
    record {
      tokens = text.tokens;
      lexed = record { utf8 = text.utf8; are = text.are; only = λ others a. laws.lexed.one_list (chars (flat_map piece_bytes ps)) others text.tokens a text.are };
      tree = read.tree;
      parsed = read.parsed;
      elaborated = ap bare_body read.same ∙ s.elaborated;
    }
