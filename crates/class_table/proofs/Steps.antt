-- A fault of one of two steps, where memory may be wanting.
use Rattle.std.proofs.Common.{◌≡◌, Ok, List, [], ◌∷◌, refl, subst}
use Rattle.dc_base.specs.declared.failure.Or.{Or}
use Rattle.dc_base.specs.declared.failure.Or.TheVariants.{NoMemory, Fault}
use Rattle.dc_causes.specs.Step.{Step, Then, stop, go}
use Rattle.dc_causes.specs.Answer.{OnFault}
use Rattle.dc_causes.specs.Causes.{InOrder}
use Rattle.dc_base.specs.declared.names.MemberId.{MemberId}
use Rattle.class_rows.specs.declared.row.TypeRow.{TypeRow}
use Rattle.class_rows.specs.declared.row.MemberRow.{MemberRow}
use Rattle.class_rows.specs.declared.fault.TableFault.{TableFault}
use Rattle.class_rows.specs.Table.{Asked, chains, names, members, bases, core, interfaces, MakeTable}
use Rattle.class_rows.specs.Types.{ChainsEnd}
use Rattle.class_rows.specs.Names.{NamesAreUnique}
use Rattle.class_rows.specs.Unique.{MembersAreUnique}
use Rattle.class_rows.specs.Bases.{BasesAreThere}
use Rattle.class_rows.specs.Core.{CoreIsThere}

pub stops : {A B F : Type 0} (First : Step A F) (Next : A → Step B F) (e : Or F) → OnFault First e → OnFault (Then First Next) e
stops First Next NoMemory h = tt
stops First Next (Fault f) h = stop f h refl

pub goes : {A B F : Type 0} (First : Step A F) (Next : A → Step B F) (a : A) (e : Or F) → First (Ok a) → OnFault (Next a) e → OnFault (Then First Next) e
goes First Next a NoMemory read h = tt
goes First Next a (Fault f) read h = go a read h

module _ (ts : List TypeRow) (ms : List MemberRow) (es : List (MemberId × MemberId)) (e : Or TableFault) where
  chains_read : ChainsEnd ts → Asked ts ms es chains (Ok tt)
  chains_read end = λ t. (end.bases t, end.outers t)

  pub fault_chains : OnFault (Asked ts ms es chains) e → OnFault (MakeTable ts ms es) e
  fault_chains h = stops (Asked ts ms es chains) _ e h

  pub fault_names : ChainsEnd ts → OnFault (Asked ts ms es names) e → OnFault (MakeTable ts ms es) e
  fault_names end h = goes (Asked ts ms es chains) _ tt e (chains_read end) (stops (Asked ts ms es names) _ e h)

  pub fault_members : ChainsEnd ts → NamesAreUnique ts → OnFault (Asked ts ms es members) e → OnFault (MakeTable ts ms es) e
  fault_members end unique h =
      goes (Asked ts ms es chains) _ tt e (chains_read end) (goes (Asked ts ms es names) _ tt e unique (stops (Asked ts ms es members) _ e h))

  pub fault_last : ChainsEnd ts → NamesAreUnique ts → MembersAreUnique ts ms es → OnFault (InOrder (Asked ts ms es) (bases ∷ core ∷ interfaces ∷ [])) e → OnFault (MakeTable ts ms es) e
  fault_last end unique lone h =
      goes (Asked ts ms es chains) _ tt e (chains_read end) (goes (Asked ts ms es names) _ tt e unique (goes (Asked ts ms es members) _ tt e lone h))

  pub fault_bases : OnFault (Asked ts ms es bases) e → OnFault (InOrder (Asked ts ms es) (bases ∷ core ∷ interfaces ∷ [])) e
  fault_bases h = stops (Asked ts ms es bases) _ e h

  pub fault_core : BasesAreThere ts ms → OnFault (Asked ts ms es core) e → OnFault (InOrder (Asked ts ms es) (bases ∷ core ∷ interfaces ∷ [])) e
  fault_core there h = goes (Asked ts ms es bases) _ tt e there (stops (Asked ts ms es core) _ e h)

  pub fault_interfaces : BasesAreThere ts ms → CoreIsThere ts → OnFault (Asked ts ms es interfaces) e → OnFault (InOrder (Asked ts ms es) (bases ∷ core ∷ interfaces ∷ [])) e
  fault_interfaces there all h =
      goes (Asked ts ms es bases) _ tt e there (goes (Asked ts ms es core) _ tt e all (stops (Asked ts ms es interfaces) _ e h))

-- the same of lists that are equal
pub fault_of_same : (ts us : List TypeRow) (ms ns : List MemberRow) (es fs : List (MemberId × MemberId)) (e : Or TableFault) → ts ≡ us → ms ≡ ns → es ≡ fs → OnFault (MakeTable ts ms es) e → OnFault (MakeTable us ns fs) e
fault_of_same ts us ms ns es fs e t m s h =
    subst (λ (xs : List TypeRow). OnFault (MakeTable xs ns fs) e) t (subst (λ (xs : List MemberRow). OnFault (MakeTable ts xs fs) e) m (subst (λ (xs : List (MemberId × MemberId)). OnFault (MakeTable ts ms xs) e) s h))
