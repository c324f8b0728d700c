-- Inner facts: what stands in members is read.
use Rattle.std.specs.Prelude.{◌≡◌, ℕ, List, map}
use Rattle.cs_tree.specs.declared.forms.Arg.{Arg}
use Rattle.cs_tree.specs.declared.forms.Form.{Form}
use Rattle.cs_tree.specs.declared.forms.Block.{Block}
use Rattle.cs_tree.specs.Bare.{bare_form, bare_arg}
use Rattle.cs_productions.specs.declared.values.Part.TheVariants.{Whole}
use Rattle.cs_productions.specs.Inner.{Inner}
use Rattle.cs_productions.specs.Calls.{arguments}
use Rattle.cs_layout.specs.Layout.{form_shown, arg_laid}
use Rattle.cs_layout.specs.Layout as laid
use Rattle.cs_wellformed.specs.WellFormed.{IsWellFormedForm, IsWellFormedBlock}
use Rattle.cs_roundtrip_types.specs.Spells.{Spells}
use Rattle.cs_roundtrip_forms.specs.Reading.{BlockIsRead}
use Rattle.cs_roundtrip_members.specs.Members.{AreWellFormedArgs}

pub record IsInside (levels limit blocks : ℕ) (inner : Inner) : Type 0 where
  pub forms : (f : Form) (margin : List ℕ) → IsWellFormedForm levels limit blocks f → Spells (inner.forms Whole) ((form_shown f).pieces margin) (λ m. bare_form m.form ≡ bare_form f)
  pub bodies : (b : Block) → IsWellFormedBlock levels limit blocks b → BlockIsRead inner.block b
  pub args : (xs : List Arg) (margin : List ℕ) → AreWellFormedArgs levels limit blocks xs
      → Spells (arguments inner) (laid.arguments (map arg_laid xs) margin) (λ r. map bare_arg r.args ≡ map bare_arg xs)
  pub ranks : inner.ranks ≡ limit
