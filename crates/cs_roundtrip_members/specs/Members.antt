-- Well formed members (ECMA-334, clause 15): names are legal, types, parameters, values and blocks are well formed within the depths.
use Rattle.std.specs.Prelude.{ℕ, ◌≤◌, List, All, Option, Some, None}
use Rattle.cs_tree.specs.declared.types.TypeForm.{TypeForm}
use Rattle.cs_tree.specs.declared.forms.Arg.{Arg}
use Rattle.cs_tree.specs.declared.forms.Form.{Form}
use Rattle.cs_tree.specs.declared.forms.Block.{Block}
use Rattle.cs_tree.specs.declared.members.Initial.{Initial}
use Rattle.cs_tree.specs.declared.members.Initial.TheVariants as initial
use Rattle.cs_tree.specs.declared.members.Explicit.{Explicit}
use Rattle.cs_tree.specs.declared.members.Accessor.{Accessor}
use Rattle.cs_tree.specs.declared.members.Member.{Member}
use Rattle.cs_tree.specs.declared.members.Member.TheVariants as member
use Rattle.cs_wellformed.specs.Words.{IsName, IsPath, IsType, IsParam}
use Rattle.cs_wellformed.specs.WellFormed.{AreArgs, IsWellFormedForm, IsWellFormedBlock}

-- what may be left out
abbrev pub IsResult : ℕ → Option TypeForm → Type 0
IsResult limit None = Unit {0}
IsResult limit (Some t) = IsType limit t

abbrev pub IsFirstValue : ℕ → ℕ → ℕ → Option Form → Type 0
IsFirstValue levels limit blocks None = Unit {0}
IsFirstValue levels limit blocks (Some a) = IsWellFormedForm levels limit blocks a

abbrev pub IsBody : ℕ → ℕ → ℕ → Option Block → Type 0
IsBody levels limit blocks None = Unit {0}
IsBody levels limit blocks (Some b) = IsWellFormedBlock levels limit blocks b

abbrev pub IsExplicit : Option Explicit → Type 0
IsExplicit None = Unit {0}
IsExplicit (Some e) = IsPath e.path

abbrev pub IsAccessor : ℕ → ℕ → ℕ → Option Accessor → Type 0
IsAccessor levels limit blocks None = Unit {0}
IsAccessor levels limit blocks (Some a) = IsBody levels limit blocks a.block

-- arguments within the depths
abbrev pub AreWellFormedArgs : ℕ → ℕ → ℕ → List Arg → Type 0
AreWellFormedArgs levels limit blocks args = (h : ℕ) × (b : ℕ) × AreArgs levels limit args h b × (h ≤ levels) × (b ≤ blocks)

abbrev pub IsInitial : ℕ → ℕ → ℕ → Initial → Type 0
IsInitial levels limit blocks (initial.Base args) = AreWellFormedArgs levels limit blocks args
IsInitial levels limit blocks (initial.This args) = AreWellFormedArgs levels limit blocks args

abbrev pub IsWellFormedMember : ℕ → ℕ → ℕ → Member → Type 0
IsWellFormedMember levels limit blocks (member.Field _ _ _ t x value) = IsType limit t × IsName x.text × IsFirstValue levels limit blocks value
IsWellFormedMember levels limit blocks (member.Constant _ _ _ t x value) = IsType limit t × IsName x.text × IsWellFormedForm levels limit blocks value
IsWellFormedMember levels limit blocks (member.Method _ _ _ result explicit x params block) =
    IsResult limit result × IsExplicit explicit × IsName x.text × All (IsParam limit) params × IsBody levels limit blocks block
IsWellFormedMember levels limit blocks (member.Constructor _ _ _ x params first block) =
    IsName x.text × All (IsParam limit) params × IsInitial levels limit blocks first × IsWellFormedBlock levels limit blocks block
IsWellFormedMember levels limit blocks (member.Initializer _ _ x block) = IsName x.text × IsWellFormedBlock levels limit blocks block
IsWellFormedMember levels limit blocks (member.Property _ _ _ t x getter setter) =
    IsType limit t × IsName x.text × IsAccessor levels limit blocks getter × IsAccessor levels limit blocks setter
IsWellFormedMember levels limit blocks (member.Maker _ _ x params) = IsName x.text × All (IsParam limit) params
IsWellFormedMember levels limit blocks (member.Indexer _ _ t x u i getter setter) =
    IsType limit t × IsName x.text × IsType limit u × IsName i.text × IsAccessor levels limit blocks getter × IsAccessor levels limit blocks setter
IsWellFormedMember levels limit blocks (member.Operator _ t x params) = IsType limit t × IsName x.text × All (IsParam limit) params
