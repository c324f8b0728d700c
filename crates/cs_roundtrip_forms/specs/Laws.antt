-- What is printed of expressions is read back (ECMA-334, clause 12).
use Rattle.std.specs.Prelude.{◌≡◌, ℕ, ◌+◌, ◌<◌, List}
use Rattle.cs_tree.specs.declared.forms.Form.{Form}
use Rattle.cs_tree.specs.Bare.{bare_form}
use Rattle.cs_statements.specs.Laws.{expression_at}
use Rattle.cs_layout.specs.Layout.{form_shown}
use Rattle.cs_wellformed.specs.WellFormed.{IsWellFormedForm}
use Rattle.cs_roundtrip_types.specs.Laws.{IsReadBack}

-- the same expression but for its places
abbrev pub ExpressionsAreReadBack : Type 0
ExpressionsAreReadBack =
    (levels limit : ℕ) (f : Form) (margin : List ℕ) → 0 < limit → IsWellFormedForm levels limit 0 f
    → IsReadBack (expression_at levels limit 0) (expression_at (levels + 2) (limit + 1) (0 + 1)) (λ m. bare_form m.form ≡ bare_form f) ((form_shown f).pieces margin)
