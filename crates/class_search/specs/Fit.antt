-- What the types above a type are.
use Rattle.std.specs.Prelude.{◌≡◌, ◌≢◌, ◌⊎◌, ℕ, List}
use Rattle.class_rows.specs.declared.row.TypeRow.{TypeRow}
use Rattle.class_rows.specs.declared.row.Kind.TheVariants.{Interface}
use Rattle.class_rows.specs.Types.{HasType, IsBase, IsNamed, InBaseChain, NamesInterface}

-- what a type names as its base is no interface
abbrev pub BasesAreClasses : List TypeRow → Type 0
BasesAreClasses types = (t b : ℕ) → IsBase types t b → HasType types b (λ row. row.kind ≢ Interface)

-- what it names as interfaces are interfaces
abbrev pub NamedAreInterfaces : List TypeRow → Type 0
NamedAreInterfaces types = (t i : ℕ) → IsNamed types t i → HasType types i (λ row. row.kind ≡ Interface)

-- a type stands in the base chain of another, or among its interfaces
abbrev pub IsSearchedBefore : List TypeRow → ℕ → ℕ → Type 0
IsSearchedBefore types t o = InBaseChain types t o ⊎ NamesInterface types t o
