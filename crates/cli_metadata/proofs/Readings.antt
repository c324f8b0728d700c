-- Bytes are metadata with one content, or have one fault.
use Rattle.std.proofs.Common.{◌≡◌, ℕ, List, Result, Ok, Err, sym, ◌∙◌}
use Rattle.std.specs.Prelude.{IfOk, IfErr}
use Rattle.cli_metadata.specs.declared.fault.MetaFault.{MetaFault}
use Rattle.cli_metadata.specs.Metadata.{Contents}
use Rattle.cli_metadata.specs.Standing.{IsStanding}
use Rattle.cli_metadata.specs.Wrong.{IsWrong}
use Rattle.cli_metadata.specs.Laws.{HasOneContent, HasNoFault, HasOneFault}
use Rattle.cli_metadata.specs.Read.{metadata_of}
use Rattle.cli_metadata.proofs.Places.{ok_is}
use Rattle.cli_metadata.proofs.Stands.{read-stands, standing-read}
use Rattle.cli_metadata.proofs.Fails.{fault-wrong, wrong-fault}

pub one-content : HasOneContent
one-content bytes m n v w = ok_is m n (sym (standing-read bytes m v) ∙ standing-read bytes n w)

pub no-fault : HasNoFault
no-fault bytes m fault v w = let both : Ok m ≡ Err fault = sym (standing-read bytes m v) ∙ wrong-fault bytes fault w in cc

pub one-fault : HasOneFault
one-fault bytes fault other v w = let both : Err fault ≡ Err other = sym (wrong-fault bytes fault v) ∙ wrong-fault bytes other w in cc

-- what is read stands, and the fault that is met is what is wrong
pub stands-of : (bytes : List ℕ) (r : Result Contents MetaFault) → r ≡ metadata_of bytes → IfOk r (IsStanding bytes)
stands-of bytes (Ok m) e = read-stands bytes m (sym e)
stands-of bytes (Err fault) e = tt

pub wrong-of : (bytes : List ℕ) (r : Result Contents MetaFault) → r ≡ metadata_of bytes → IfErr r (λ fault. IsWrong bytes fault.place fault.cause)
wrong-of bytes (Ok m) e = tt
wrong-of bytes (Err fault) e = fault-wrong bytes fault (sym e)
