-- What follows from the definitions.
use Rattle.dc_causes.specs.Answer.{IsSingle}
use Rattle.cli_profile.specs.Rows.{Subject}
use Rattle.cli_profile.specs.Profile.{RowsInProfile}

-- the rows are in the profile, or there is one first failure
abbrev pub HasOneAnswer : Type 0
HasOneAnswer = (s : Subject) → IsSingle (RowsInProfile s)
