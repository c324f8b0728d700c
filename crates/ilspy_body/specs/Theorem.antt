-- The theorem of a lone body: the text that is written for it means what its bytes mean.
use Rattle.std.specs.Prelude.{◌≡◌, ◌↔◌, ℕ, ℤ, List, [], length, All, Some, IsUtf8}
use Rattle.std.specs.Str.{chars}
use Rattle.std.specs.Int.{w32}
use Rattle.std.specs.Int.RustNames.{FitsSigned}
use Rattle.cil_lone.specs.Cut.{Placed}
use Rattle.cil_lone.specs.Lone.{IsLone}
use Rattle.cil_meaning.specs.Meaning.{CilReturns}
use Rattle.cs_token.specs.declared.tokens.Token.{Token}
use Rattle.cs_token.specs.Cuts.{AreTokens}
use Rattle.cs_tree.specs.declared.members.Member.{Member}
use Rattle.cs_tree.specs.declared.declarations.Item.{Item}
use Rattle.cs_tree.specs.declared.declarations.Item.TheVariants as item
use Rattle.cs_units.specs.Declarations.{item_at, inside}
use Rattle.cs_body.specs.declared.body.Body.{Body}
use Rattle.cs_meaning.specs.Meaning.{CsReturns}
use Rattle.cs_meaning.specs.Typed.{IsLoneTyped}
use Rattle.cs_meaning.specs.Assigned.{IsDefinitelyAssigned}
use Rattle.ilspy_body.specs.Elaborate.{body_of}

-- four ints
abbrev pub AreArguments : List ℤ → Type 0
AreArguments args = (length args ≡ 4) × All (FitsSigned w32) args

-- the body returns, for all four arguments, what the code returns
pub record ReturnsTheSame (code : List Placed) (body : Body) : Type 0 where
  pub both : (args : List ℤ) → AreArguments args → (v : ℤ) × CilReturns code args v × CsReturns body args v
  pub same : (args : List ℤ) (v : ℤ) → AreArguments args → CilReturns code args v ↔ CsReturns body args v

-- the body is typed and definitely assigned, and returns what the code returns
pub record RunsAsTheCode (code : List Placed) (body : Body) : Type 0 where
  pub typed : IsLoneTyped body
  pub assigned : IsDefinitelyAssigned body
  pub returns : ReturnsTheSame code body

-- what the tokens are in a type's body, where an expression has at most so many levels, a type so many pairs of brackets, and so many
-- blocks and types are open in one another
abbrev pub IsItem : ℕ → ℕ → ℕ → ℕ → List Token → Item → Type 0
IsItem levels ranks blocks nesting tokens it = (item_at (inside levels ranks blocks) nesting).derives tokens it []

-- the text is in UTF-8, and is one list of tokens, and no other
pub record HasOneTokenList (text : List ℕ) (tokens : List Token) : Type 0 where
  pub utf8 : IsUtf8 text
  pub are : AreTokens (chars text) tokens
  pub only : (others : List Token) → AreTokens (chars text) others → others ≡ tokens

-- the tokens are one member within these depths, and no other, nor anything else that may stand in a type's body
pub record HasOneTree (levels ranks blocks nesting : ℕ) (tokens : List Token) (tree : Member) : Type 0 where
  pub is : IsItem levels ranks blocks nesting tokens (item.Member tree)
  pub only : (other : Item) → IsItem levels ranks blocks nesting tokens other → other ≡ item.Member tree

-- the text reads as one tree, whose one body is typed, definitely assigned, and returns what the file's code returns
pub record LoneBodyMeansTheSame (file text : List ℕ) : Type 0 where
  pub code : List Placed
  pub lone : IsLone file code
  pub tokens : List Token
  pub lexed : HasOneTokenList text tokens
  pub tree : Member
  pub parsed : HasOneTree 400 33 200 200 tokens tree
  pub body : Body
  pub elaborated : body_of tree ≡ Some body
  pub runs : RunsAsTheCode code body
