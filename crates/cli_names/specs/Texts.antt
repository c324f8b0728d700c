-- Texts of the heap of strings (ECMA-335 II.24.2.3).
use Rattle.std.specs.Prelude.{◌≡◌, ◌⊎◌, ℕ, List, []}
use Rattle.cli_metadata.specs.Metadata.{Contents, IsString}

-- the text that begins there; where none does, the empty one
abbrev pub IsTextAt : Contents → ℕ → List ℕ → Type 0
IsTextAt m i text = IsString m.strings i text ⊎ (((other : List ℕ) → IsString m.strings i other → ⊥) × (text ≡ []))
