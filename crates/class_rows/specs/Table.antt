-- What makes rows a class table, and which part of it fails first (ECMA-335 II.8, II.10).
use Rattle.std.specs.Prelude.{◌≡◌, ℕ, List, [], ◌∷◌}
use Rattle.dc_base.specs.declared.names.TypeId.{TypeId}
use Rattle.dc_base.specs.declared.names.MemberId.{MemberId}
use Rattle.dc_causes.specs.Step.{Step, Test}
use Rattle.dc_causes.specs.Causes.{InOrder, Least, Rounds}
use Rattle.class_chains.specs.Ends.{Ends}
use Rattle.class_rows.specs.declared.row.TypeRow.{TypeRow}
use Rattle.class_rows.specs.declared.row.MemberRow.{MemberRow}
use Rattle.class_rows.specs.declared.fault.TableFault.{TableFault}
use Rattle.class_rows.specs.declared.fault.TableFault.TheVariants.{Cycle, Twice, Duplicate, MissingBase, MissingCore, Unimplemented}
use Rattle.class_rows.specs.Types.{IsAbove, IsOuter, ChainsEnd}
use Rattle.class_rows.specs.Names.{IsTwice, NamesAreUnique}
use Rattle.class_rows.specs.Unique.{IsDuplicate, MembersAreUnique}
use Rattle.class_rows.specs.Bases.{BasesFit, BasesAreThere}
use Rattle.class_rows.specs.Core.{IsMissingCore, CoreIsThere}
use Rattle.class_rows.specs.Implemented.{IsUnimplemented, InterfacesAreImplemented}

pub record IsClassTable (types : List TypeRow) (members : List MemberRow) (explicit : List (MemberId × MemberId)) : Type 0 where
  pub chains_end : ChainsEnd types
  pub names_are_unique : NamesAreUnique types
  pub members_are_unique : MembersAreUnique types members explicit
  pub bases_are_there : BasesAreThere types members
  pub core_is_there : CoreIsThere types
  pub interfaces_are_implemented : InterfacesAreImplemented types members explicit

-- the parts, as they are asked
pub data Part : Type 0 where
  chains : Part
  names : Part
  members : Part
  bases : Part
  core : Part
  interfaces : Part

-- each part holds, or its fault has the least number at which it fails
abbrev pub Asked : List TypeRow → List MemberRow → List (MemberId × MemberId) → Part → Step (Unit {0}) TableFault
Asked ts ms es chains = Rounds (λ t. Test (Ends (IsAbove ts) t × Ends (IsOuter ts) t) (Cycle (record { 0 = t })))
Asked ts ms es names = Least (IsTwice ts) (λ t. Twice (record { 0 = t }))
Asked ts ms es members = Least (IsDuplicate ts ms es) (λ m. Duplicate (record { 0 = m }))
Asked ts ms es bases = Rounds (λ t. Test (BasesFit ts ms t) (MissingBase (record { 0 = t })))
Asked ts ms es core = Least (IsMissingCore ts) (λ k. MissingCore k)
Asked ts ms es interfaces =
    Rounds (λ c. Least (IsUnimplemented ts ms es c) (λ m. Unimplemented (record { 0 = c }) (record { 0 = m })))

-- the rows make a table, or the fault is that of the first part that fails
abbrev pub MakeTable : List TypeRow → List MemberRow → List (MemberId × MemberId) → Step (Unit {0}) TableFault
MakeTable ts ms es = InOrder (Asked ts ms es) (chains ∷ names ∷ members ∷ bases ∷ core ∷ interfaces ∷ [])
