-- What a type names above it fits exactly where its row does.
use Rattle.std.proofs.Common.{◌≡◌, ℕ, ◌<◌, Option, Some, None, List, length, refl, sym, ◌∙◌, ap, subst, arith}
use Rattle.std.specs.List.{slice_get}
use Rattle.dc_base.specs.declared.names.TypeId.{TypeId}
use Rattle.class_rows.specs.declared.row.TypeRow.{TypeRow}
use Rattle.class_rows.specs.declared.row.MemberRow.{MemberRow}
use Rattle.class_rows.specs.declared.row.Kind.TheVariants.{Class, Interface}
use Rattle.class_rows.specs.Types.{HasType, IsBase, IsNamed}
use Rattle.class_rows.specs.Bases.{BasesFit}
use Rattle.std.specs.Prelude.{false}
use Rattle.std.proofs.lemmas.Option.{slice_get_within}
use Rattle.class_keys.specs.Least.{IsLeastOff}
use Rattle.class_keys.proofs.Items.{one_item}
use Rattle.class_keys.proofs.OfTwo.{off_of_same}
use Rattle.class_bases.specs.Fit.{BaseFits, InterfacesFit, RowFits, FitsAbove, MembersFit}

pub fits_above : (types : List TypeRow) (t : ℕ) (row : TypeRow) → slice_get types t ≡ Some row → RowFits types row → FitsAbove types t
fits_above types t row stands fits = record {
  base = λ b is.
      let same = one_item types t is.row row is.stands stands in
      subst (λ (o : Option TypeId). BaseFits types o) (sym (ap (λ (r : TypeRow). r.base) same) ∙ is.is) fits.base;
  interfaces = λ i is.
      let same = one_item types t is.row row is.stands stands in
      fits.interfaces is.is.0 (record { 0 = i }) (subst (λ (r : TypeRow). slice_get r.bases is.is.0 ≡ Some (record { 0 = i })) same is.is.1);
}

base_of_row : (types : List TypeRow) (t : ℕ) (row : TypeRow) (o : Option TypeId) → slice_get types t ≡ Some row → row.base ≡ o → FitsAbove types t → BaseFits types o
base_of_row types t row None stands is fits = tt
base_of_row types t row (Some b) stands is fits = fits.base b.0 (record { row = row; stands = stands; is = is })

pub row_fits_so : (types : List TypeRow) (t : ℕ) (row : TypeRow) → slice_get types t ≡ Some row → FitsAbove types t → RowFits types row
row_fits_so types t row stands fits = record {
  base = base_of_row types t row row.base stands refl fits;
  interfaces = λ k i at. fits.interfaces i.0 (record { row = row; stands = stands; is = (k, at) });
}

-- a number past the list names nothing
pub fits_past : (types : List TypeRow) (t : ℕ) → (t < length types → ⊥) → FitsAbove types t
fits_past types t past = record {
  base = λ b is. absurd (past (slice_get_within types t is.row is.stands));
  interfaces = λ i is. absurd (past (slice_get_within types t is.row is.stands));
}

pub all_fit : (types : List TypeRow) (members : List MemberRow) (found : Option ℕ) → IsLeastOff (λ t. FitsAbove types t × MembersFit types members t) found → IsLeastOff (BasesFit types members) found
all_fit types members found = off_of_same (λ t. FitsAbove types t × MembersFit types members t) (BasesFit types members) found
    (λ t both. record { base = both.0.base; interfaces = both.0.interfaces; own_members = both.1 })
    (λ t fit. (record { base = fit.base; interfaces = fit.interfaces }, fit.own_members))
