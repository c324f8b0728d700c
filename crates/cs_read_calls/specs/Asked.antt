-- Where a reader is: how many levels and blocks are left, and what stands one level lower there.
use Rattle.std.specs.Prelude.{◌≡◌, ℕ, List, Result, Ok, Err}
use Rattle.dc_base.specs.declared.failure.Or.{Or}
use Rattle.dc_base.specs.declared.failure.Or.TheVariants.{NoMemory, Fault as WithFault}
use Rattle.cs_token.specs.Placed.{Placed as Token}
use Rattle.cs_tree.specs.declared.forms.Block.{Block}
use Rattle.cs_grammar.specs.declared.fault.Fault.{Fault}
use Rattle.cs_grammar.specs.Grammar.{Read}
use Rattle.cs_grammar.specs.Reads.{is_deep}
use Rattle.cs_productions.specs.declared.values.Measured.{Measured}
use Rattle.cs_productions.specs.declared.values.Lead.{Lead}
use Rattle.cs_productions.specs.declared.values.Lead.TheVariants as led
use Rattle.cs_productions.specs.Inner.{Inner}
use Rattle.cs_productions.specs.Levels.{below}
use Rattle.cs_statements.specs.Blocks.{block_at}
use Rattle.cs_read_calls.specs.declared.level.Depth.{Depth}
use Rattle.cs_read_calls.specs.declared.level.Ask.{Ask}
use Rattle.cs_read_calls.specs.declared.level.Ask.TheVariants as ask
use Rattle.cs_read_calls.specs.declared.level.Got.{Got}
use Rattle.cs_read_calls.specs.declared.level.Got.TheVariants as got

-- what stands below the levels that are left
abbrev pub inner_of : Depth → Inner
inner_of d = below (block_at d.levels d.ranks d.blocks) d.blocks d.ranks d.left

-- how high an expression is that was led to
abbrev pub lead_height : Lead → ℕ
lead_height (led.Form a) = a.height
lead_height _ = 0

-- what was asked for, and not something else, is what the production reads
abbrev pub FormRead : Read Token Measured → Got → List Token → Type 0
FormRead r (got.Form a) left = r ≡ Ok (a, left)
FormRead r _ left = ⊥

abbrev pub LeadRead : Read Token Lead → Got → List Token → Type 0
LeadRead r (got.Lead l) left = r ≡ Ok (l, left)
LeadRead r _ left = ⊥

abbrev pub BlockRead : Read Token Block → Got → List Token → Type 0
BlockRead r (got.Block b) left = r ≡ Ok (b, left)
BlockRead r _ left = ⊥

abbrev pub FaultRead : {A : Type 0} → Read Token A → Or Fault → List Token → Type 0
FaultRead r (WithFault fault) left = r ≡ Err (is_deep fault, left)
FaultRead r NoMemory left = Unit {0}

abbrev pub GotRead : {A : Type 0} → Read Token A → (Read Token A → Got → List Token → Type 0) → Result Got (Or Fault) → List Token → Type 0
GotRead r P (Ok g) left = P r g left
GotRead r P (Err e) left = FaultRead r e left

abbrev pub Asked : Depth → Ask → List Token → Result Got (Or Fault) → List Token → Type 0
Asked d (ask.Form part) tokens result left = GotRead (((inner_of d).forms part).reads tokens) FormRead result left
Asked d ask.Lead tokens result left = GotRead ((inner_of d).lead.reads tokens) LeadRead result left
Asked d ask.Block tokens result left = GotRead ((inner_of d).block.reads tokens) BlockRead result left
