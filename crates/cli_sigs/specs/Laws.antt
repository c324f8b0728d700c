-- What follows from the definitions.
use Rattle.dc_causes.specs.Answer.{IsSingle}
use Rattle.cli_sigs.specs.Rows.{Subject}
use Rattle.cli_sigs.specs.First.{HaveSignatures}

-- the rows have signatures, or there is one first refusal
abbrev pub HasOneRefusal : Type 0
HasOneRefusal = (s : Subject) → IsSingle (HaveSignatures s)
