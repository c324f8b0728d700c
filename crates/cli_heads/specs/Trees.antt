-- The trees of a head are its code.
use Rattle.std.specs.Prelude.{◌≡◌, ℕ, zero, suc, List, [], ◌∷◌, ◌++◌, Option, Some, slice_get}
use Rattle.std.specs.List.{flat_map}
use Rattle.cil_rows.specs.declared.row.Row.{Row}
use Rattle.cil_rows.specs.declared.row.Row.TheVariants.{Nop}
use Rattle.cli_heads.specs.declared.head.Value.{Value}
use Rattle.cli_heads.specs.declared.head.Value.TheOpen.{Value-F}
use Rattle.cli_heads.specs.declared.head.Value.TheFolds.{fold-Value}
use Rattle.cli_heads.specs.declared.head.Store.{Store}
use Rattle.cli_heads.specs.declared.begun.Item.{Item}
use Rattle.cli_heads.specs.declared.begun.Item.TheVariants.{This, Made}
use Rattle.cli_heads.specs.declared.begun.Begun.{Begun}
use Rattle.cli_heads.specs.declared.maker.Maker.{Maker}
use Rattle.cli_heads.specs.Head.{begun}

abbrev pub numbers_layer : Value-F (List ℕ) → List ℕ
numbers_layer v = flat_map (λ (of : List ℕ). of) v.of ++ v.at ∷ []

-- the numbers of a value's instructions: of those of the values that its instruction takes, in order, then its own
abbrev pub numbers : Value → List ℕ
numbers = fold-Value (List ℕ) numbers_layer

abbrev pub numbers_of_store : Store → List ℕ
numbers_of_store store = store.receiver ∷ (numbers store.value ++ store.at ∷ [])

abbrev pub numbers_of_item : Item → List ℕ
numbers_of_item (This at) = at ∷ []
numbers_of_item (Made m) = numbers m.value

abbrev pub numbers_of : Begun → List ℕ
numbers_of b = flat_map numbers_of_store b.stores ++ flat_map numbers_of_item b.stack

-- an instruction, and nothing for a `nop`
abbrev pub one_of : ℕ → Option Row → List ℕ
one_of n (Some Nop) = []
one_of n _ = n ∷ []

-- the first n instructions without `nop`s
abbrev pub numbers_before : Maker → ℕ → List ℕ
numbers_before s zero = []
numbers_before s (suc n) = numbers_before s n ++ one_of n (slice_get s.rows.now n)

-- the stores of a beginning and what stands on its stack are the code that it is, in order and without a gap
abbrev pub TreesAreCode : Type 0
TreesAreCode = (s : Maker) (n : ℕ) (b : Begun) → begun s n ≡ Some b → numbers_of b ≡ numbers_before s n
