-- A type by itself is the signature of a field without its lead byte.
use Rattle.std.proofs.Common.{rules, ◌≡◌, ◌∙◌, ℕ, true, false, List, [], ◌∷◌, map, refl, sym, ap}
use Rattle.std.specs.List.{flat_map}
use Rattle.cli_signature.specs.declared.kind.Kind.TheVariants.{Field}
use Rattle.cli_signature.specs.declared.kind.Slot.TheVariants.{Whole, Behind}
use Rattle.cli_signature.specs.declared.raw.RawTy.{RawTy}
use Rattle.cli_signature.specs.declared.raw.SigFault.{SigFault}
use Rattle.cli_signature.specs.Grammar.{Way, Bare, Lent, Void, IsWay, Sig, Derives, IsBlob, IsFieldSig, AreWays, raws, raw_of, raw_of_shape, Shape, Plain, Named, Array, spelled_way}
use Rattle.cli_signature.specs.Fault.{IsSigFault}
use Rattle.cli_signature.specs.Laws.{HasNoFault, HasOneDerivation}
use Rattle.cli_sig_tokens.specs.Spec.{IsSpec}

-- what stands behind nothing may stand as a whole
whole : (way : Way) → IsWay Behind way → IsWay Whole way
whole (Bare shape) is = is
whole (Lent shape) is = absurd is.0
whole Void is = absurd is

abbrev field_of : Way → Sig
field_of way = record { lead = 0x06; types = way ∷ [] }

derived : (blob : List ℕ) (way : Way) → IsWay Behind way → blob ≡ spelled_way way → Derives Field (0x06 ∷ blob) (field_of way)
derived blob way fits is =
    let bytes : blob ≡ flat_map spelled_way (way ∷ []) = is ∙ search rules in
    (record { lead = refl; count = refl; ways = (whole way fits, tt) }, ap (λ (b : List ℕ). 0x06 ∷ b) bytes)

not_lent_shape : (shape : Shape) → (raw_of_shape shape).lent ≡ false
not_lent_shape (Plain element) = refl
not_lent_shape (Named element n) = refl
not_lent_shape (Array of) = not_lent_shape of

not_lent : (way : Way) → IsWay Behind way → (raw_of way).lent ≡ false
not_lent (Bare shape) is = not_lent_shape shape
not_lent (Lent shape) is = absurd is.0
not_lent Void is = absurd is

head_is : (x y : RawTy) → x ∷ [] ≡ y ∷ [] → x ≡ y
head_is x y e = cc

parts : (blob : List ℕ) (lead : ℕ) (types : List Way) (ty : RawTy) → AreWays Whole types → map raw_of types ≡ ty ∷ [] → 0x06 ∷ blob ≡ lead ∷ flat_map spelled_way types → ty.lent ≡ false → IsSpec blob ty
parts blob lead [] ty ways read bytes bare = let none : [] ≡ ty ∷ [] = read in absurd cc
parts blob lead (Bare shape ∷ []) ty ways read bytes bare =
    let behind : blob ≡ flat_map spelled_way (Bare shape ∷ []) = cc in
    record { way = Bare shape; fits = ways.0; is = behind ∙ search rules; read = sym (head_is _ _ read) }
parts blob lead (Lent shape ∷ []) ty ways read bytes bare =
    let same : raw_of (Lent shape) ≡ ty = head_is _ _ read in
    let lent : true ≡ ty.lent = ap (λ (t : RawTy). t.lent) same in
    let never : true ≡ false = lent ∙ bare in
    absurd cc
parts blob lead (Void ∷ []) ty ways read bytes bare = absurd ways.0
parts blob lead (way ∷ (other ∷ rest)) ty ways read bytes bare = let never : raw_of way ∷ (raw_of other ∷ map raw_of rest) ≡ ty ∷ [] = read in absurd cc

pub bare_is : (blob : List ℕ) (ty : RawTy) → IsFieldSig (0x06 ∷ blob) ty → ty.lent ≡ false → IsSpec blob ty
bare_is blob ty is bare = parts blob is.0.lead is.0.types ty is.1.0.ways is.2 is.1.1 bare

pub lent_is_none : HasOneDerivation → (blob : List ℕ) (ty : RawTy) → IsFieldSig (0x06 ∷ blob) ty → ty.lent ≡ true → (other : RawTy) → IsSpec blob other → ⊥
lent_is_none one blob ty is lent other at =
    let same : is.0 ≡ field_of at.way = one Field (0x06 ∷ blob) is.0 (field_of at.way) is.1 (derived blob at.way at.fits at.is) in
    let read : raw_of at.way ∷ [] ≡ ty ∷ [] = ap raws (sym same) ∙ is.2 in
    let never : false ≡ true = sym (not_lent at.way at.fits) ∙ (ap (λ (t : RawTy). t.lent) (head_is _ _ read) ∙ lent) in
    absurd cc

pub fault_is_none : HasNoFault → (blob : List ℕ) (fault : SigFault) → IsSigFault (IsBlob Field) (0x06 ∷ blob) fault → (other : RawTy) → IsSpec blob other → ⊥
fault_is_none none blob fault at other is = none Field (0x06 ∷ blob) fault (field_of is.way, derived blob is.way is.fits is.is) at

-- a blob is one type by itself
pub one_spec : HasOneDerivation → (blob : List ℕ) (ty other : RawTy) → IsSpec blob ty → IsSpec blob other → ty ≡ other
one_spec one blob ty other is by =
    let same : field_of is.way ≡ field_of by.way = one Field (0x06 ∷ blob) (field_of is.way) (field_of by.way) (derived blob is.way is.fits is.is) (derived blob by.way by.fits by.is) in
    is.read ∙ (head_is _ _ (ap raws same) ∙ sym by.read)
