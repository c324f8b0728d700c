-- What follows from the definitions of signatures.
use Rattle.std.specs.Prelude.{◌≡◌, ℕ, List}
use Rattle.cli_signature.specs.declared.kind.Kind.{Kind}
use Rattle.cli_signature.specs.declared.raw.SigFault.{SigFault}
use Rattle.cli_signature.specs.Grammar.{Sig, Derives, IsBlob}
use Rattle.cli_signature.specs.Fault.{IsSigFault}

-- a blob has one derivation, and so says one thing
abbrev pub HasOneDerivation : Type 0
HasOneDerivation = (kind : Kind) (blob : List ℕ) (s t : Sig) → Derives kind blob s → Derives kind blob t → s ≡ t

-- a signature has no fault
abbrev pub HasNoFault : Type 0
HasNoFault = (kind : Kind) (blob : List ℕ) (fault : SigFault) → IsBlob kind blob → IsSigFault (IsBlob kind) blob fault → ⊥

-- what is no signature has one fault
abbrev pub HasOneFault : Type 0
HasOneFault =
    (kind : Kind) (blob : List ℕ) (fault other : SigFault) → IsSigFault (IsBlob kind) blob fault → IsSigFault (IsBlob kind) blob other → fault ≡ other
