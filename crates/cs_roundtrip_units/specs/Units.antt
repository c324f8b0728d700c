-- Well formed types and texts (ECMA-334, clauses 14 to 20). `IsDecl .. d n`: the type is well formed, and `n` types are open in one another
-- in it.
use Rattle.std.specs.Prelude.{ℕ, ◌+◌, ◌≤◌, ◌<◌, ◌^◌, max, List, [], ◌∷◌, All, Option}
use Rattle.cs_tree.specs.declared.types.Spot.{Spot}
use Rattle.cs_tree.specs.declared.types.Name.{Name}
use Rattle.cs_tree.specs.declared.types.TypeForm.{TypeForm}
use Rattle.cs_tree.specs.declared.types.Param.{Param}
use Rattle.cs_tree.specs.declared.members.Mods.{Mods}
use Rattle.cs_tree.specs.declared.members.Member.{Member}
use Rattle.cs_tree.specs.declared.declarations.Kind.{Kind}
use Rattle.cs_tree.specs.declared.declarations.Enumerator.{Enumerator}
use Rattle.cs_tree.specs.declared.declarations.Item.{Item}
use Rattle.cs_tree.specs.declared.declarations.Item.TheVariants as item
use Rattle.cs_tree.specs.declared.declarations.Decl.{Decl}
use Rattle.cs_tree.specs.declared.declarations.Decl.TheVariants as decl
use Rattle.cs_tree.specs.declared.declarations.Space.{Space}
use Rattle.cs_tree.specs.declared.declarations.Space.TheVariants as space
use Rattle.cs_tree.specs.declared.declarations.Unit.{Unit as WholeText}
use Rattle.cs_wellformed.specs.Words.{IsName, IsPath, IsType, IsParam}
use Rattle.cs_roundtrip_members.specs.Members.{IsResult, IsWellFormedMember}

-- a constant of an enum (19.4)
abbrev pub IsEnumerator : Enumerator → Type 0
IsEnumerator e = IsName e.name.text × (e.value < 2 ^ 64)

mutual
  pub data IsDecl (levels limit blocks : ℕ) : Decl → ℕ → Type 0 where
    body : (s : Spot) (note : Option (List ℕ)) (mods : Mods) (kind : Kind) (x : Name) (bases : List TypeForm) (items : List Item) (n : ℕ) → IsName x.text →
        All (IsType limit) bases → AreItems levels limit blocks items n → IsDecl levels limit blocks (decl.Body s note mods kind x bases items) n
    enum : (s : Spot) (note : Option (List ℕ)) (mods : Mods) (x : Name) (t : TypeForm) (es : List Enumerator) → IsName x.text → IsType limit t →
        All IsEnumerator es → IsDecl levels limit blocks (decl.Enum s note mods x t es) 0
    delegate : (s : Spot) (note : Option (List ℕ)) (mods : Mods) (r : Option TypeForm) (x : Name) (params : List Param) → IsResult limit r → IsName x.text →
        All (IsParam limit) params → IsDecl levels limit blocks (decl.Delegate s note mods r x params) 0

  pub data AreItems (levels limit blocks : ℕ) : List Item → ℕ → Type 0 where
    no_items : AreItems levels limit blocks [] 0
    member_item : (m : Member) (items : List Item) (n : ℕ) → IsWellFormedMember levels limit blocks m → AreItems levels limit blocks items n →
        AreItems levels limit blocks (item.Member m ∷ items) n
    -- a type in a type is one that is open in it
    type_item : (d : Decl) (items : List Item) (n k : ℕ) → IsDecl levels limit blocks d n → AreItems levels limit blocks items k →
        AreItems levels limit blocks (item.Type d ∷ items) (max (n + 1) k)

-- types with at most so many open in one another
abbrev pub IsWellFormedDecl : ℕ → ℕ → ℕ → ℕ → Decl → Type 0
IsWellFormedDecl levels limit blocks nesting d = (n : ℕ) × IsDecl levels limit blocks d n × (n ≤ nesting)

abbrev pub IsWellFormedSpace : ℕ → ℕ → ℕ → ℕ → Space → Type 0
IsWellFormedSpace levels limit blocks nesting (space.Namespace _ _ p types) = IsPath p.names × All (IsWellFormedDecl levels limit blocks nesting) types
IsWellFormedSpace levels limit blocks nesting (space.Type d) = IsWellFormedDecl levels limit blocks nesting d

abbrev pub IsWellFormedUnit : ℕ → ℕ → ℕ → ℕ → WholeText → Type 0
IsWellFormedUnit levels limit blocks nesting u = All (IsWellFormedSpace levels limit blocks nesting) u.spaces
