-- What a whole assembly reaches.
use Rattle.std.specs.Prelude.{List, ◌++◌, Bool}
use Rattle.dc_base.specs.declared.names.Token.{Token}
use Rattle.cli_metadata.specs.Metadata.{Contents}
use Rattle.cli_roots.specs.Own.{AreOwnTokens}
use Rattle.cli_reached_rows.specs.Reached.{AreMarked}

-- the marks of what own types and members name, and these tokens of bodies behind them, reach
pub record IsReachedWith (m : Contents) (named : List Token) (marks : List Bool) : Type 0 where
  pub own : List Token
  pub are_own : AreOwnTokens m own
  pub marked : AreMarked m (own ++ named) marks
