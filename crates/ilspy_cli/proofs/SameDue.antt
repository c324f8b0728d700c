-- Two statuses and texts that are the same.
use Rattle.std.proofs.Common.{◌≡◌, ℕ, List}
use Rattle.ilspy_cli.specs.declared.status.Status.{Status}

-- the two statuses and the two texts are the same
pub record SameDue (s s' : Status) (t t' : List ℕ) : Type 0 where
  pub status : s ≡ s'
  pub text : t ≡ t'
