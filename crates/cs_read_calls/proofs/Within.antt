-- What is read below a number of levels is no higher.
use Rattle.std.proofs.Common.{◌≡◌, ℕ, zero, suc, ◌≤◌, List, [], ◌∷◌, Result, Ok, Err, IfOk, arith}
use Rattle.dc_base.specs.declared.failure.Or.{Or}
use Rattle.cs_grammar.specs.declared.fault.Fault.{Fault}
use Rattle.cs_grammar.specs.Reads.{Reads}
use Rattle.cs_token.specs.Placed.{Placed as Token}
use Rattle.cs_tree.specs.declared.forms.Block.{Block}
use Rattle.cs_productions.specs.declared.values.Measured.{Measured}
use Rattle.cs_productions.specs.declared.values.Lead.{Lead}
use Rattle.cs_productions.specs.declared.values.Lead.TheVariants as led
use Rattle.cs_productions.specs.declared.values.Part.{Part}
use Rattle.cs_grammar.specs.Grammar.{Grammar}
use Rattle.cs_grammar.specs.Levels.{Yields}
use Rattle.cs_grammar.proofs.Deeper.{yields_gives, yields_then}
use Rattle.cs_productions.specs.Kinds.{name, global}
use Rattle.cs_productions.specs.Primaries.{global_leaf}
use Rattle.cs_productions.specs.Operators.{form_led}
use Rattle.cs_productions.specs.Levels.{below, led_alone}
use Rattle.cs_productions.proofs.Heights.{yields_one, AtMost, Below, LeadWithin, are_below}
use Rattle.cs_read_calls.specs.declared.level.Depth.{Depth}
use Rattle.cs_read_calls.specs.Asked.{inner_of, lead_height}
use Rattle.cs_statements.specs.Blocks.{block_at}

form_below : (block : Grammar Token Block) (blocks ranks n : ℕ) (p : Part) (ts : List Token) (a : Measured) (rest : List Token) → ((below block blocks ranks n).forms p).reads ts ≡ Ok (a, rest) → a.height ≤ n
form_below block blocks ranks zero p ts a rest e = (yields_one {P = AtMost 0} (name ∷ []) global_leaf (λ t. omega arith)).yields ts a rest e
form_below block blocks ranks (suc n) p ts a rest e =
    let lower : Below (suc n) a = ((are_below block blocks ranks (suc n)).forms (omega arith) p).yields ts a rest e in
    omega arith

form_within : (d : Depth) (p : Part) (ts : List Token) (a : Measured) (rest : List Token) → ((inner_of d).forms p).reads ts ≡ Ok (a, rest) → a.height ≤ d.left
form_within d p ts a rest e = form_below (block_at d.levels d.ranks d.blocks) d.blocks d.ranks d.left p ts a rest e

low : (blocks n : ℕ) (l : Lead) → LeadWithin blocks (Below (suc n)) l → lead_height l ≤ n
low blocks n (led.Form a) p = omega arith
low blocks n (led.Type t) p = omega arith
low blocks n (led.Named t x) p = omega arith

lowest : (blocks : ℕ) (l : Lead) → LeadWithin blocks (AtMost 0) l → lead_height l ≤ 0
lowest blocks (led.Form a) p = p
lowest blocks (led.Type t) p = omega arith
lowest blocks (led.Named t x) p = omega arith

lead_below : (block : Grammar Token Block) (blocks ranks n : ℕ) (ts : List Token) (l : Lead) (rest : List Token) → (below block blocks ranks n).lead.reads ts ≡ Ok (l, rest) → lead_height l ≤ n
lead_below block blocks ranks zero ts l rest e =
    let alone : Yields (LeadWithin blocks (AtMost 0)) led_alone =
    yields_then (yields_one {P = AtMost 0} (global ∷ []) global_leaf (λ t. omega arith)) (λ g p. yields_gives {P = LeadWithin blocks (AtMost 0)} (form_led g) p)
    in
    lowest blocks l (alone.yields ts l rest e)
lead_below block blocks ranks (suc n) ts l rest e =
    let no_higher : lead_height l ≤ n = low _ n l (((are_below block blocks ranks (suc n)).lead (omega arith)).yields ts l rest e) in
    omega arith

lead_within : (d : Depth) (ts : List Token) (l : Lead) (rest : List Token) → (inner_of d).lead.reads ts ≡ Ok (l, rest) → lead_height l ≤ d.left
lead_within d ts l rest e = lead_below (block_at d.levels d.ranks d.blocks) d.blocks d.ranks d.left ts l rest e

-- the same of what a function answers that reads it
pub form_no_higher : (d : Depth) (p : Part) (ts left : List Token) (result : Result Measured (Or Fault)) → Reads (((inner_of d).forms p).reads ts) result left → IfOk result (λ a. a.height ≤ d.left)
form_no_higher d p ts left (Ok a) h = form_within d p ts a left h
form_no_higher d p ts left (Err e) h = tt

pub lead_no_higher : (d : Depth) (ts left : List Token) (result : Result Lead (Or Fault)) → Reads ((inner_of d).lead.reads ts) result left → IfOk result (λ l. lead_height l ≤ d.left)
lead_no_higher d ts left (Ok l) h = lead_within d ts l left h
lead_no_higher d ts left (Err e) h = tt
