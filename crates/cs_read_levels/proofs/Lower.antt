-- What stands below a number of levels, by one level less, and a block below, by one block less.
use Rattle.std.proofs.Common.{◌≡◌, ℕ, zero, suc, ◌+◌, List, refl, sym, arith}
use Rattle.cs_grammar.specs.Grammar.{Grammar, Read}
use Rattle.cs_token.specs.Placed.{Placed as Token}
use Rattle.cs_tree.specs.declared.forms.Block.{Block}
use Rattle.cs_productions.specs.declared.values.Measured.{Measured}
use Rattle.cs_productions.specs.declared.values.Lead.{Lead}
use Rattle.cs_productions.specs.declared.values.Part.{Part}
use Rattle.cs_productions.specs.Operators.{lead}
use Rattle.cs_productions.specs.Levels.{forms_at, below}
use Rattle.cs_statements.specs.Blocks.{block_at, empty_block}
use Rattle.cs_read_calls.specs.declared.level.Depth.{Depth}
use Rattle.cs_read_calls.specs.Asked.{inner_of}

forms_by : (block : Grammar Token Block) (blocks ranks n m : ℕ) → n ≡ suc m → (p : Part) (ts : List Token) → (forms_at m (below block blocks ranks m) p).reads ts ≡ ((below block blocks ranks n).forms p).reads ts
forms_by block blocks ranks n m e p ts = rw e refl

leads_by : (block : Grammar Token Block) (blocks ranks n m : ℕ) → n ≡ suc m → (ts : List Token) → (lead m (below block blocks ranks m)).reads ts ≡ (below block blocks ranks n).lead.reads ts
leads_by block blocks ranks n m e ts = rw e refl

pub forms_lower : (at low : Depth) → low.levels ≡ at.levels → low.left + 1 ≡ at.left → low.blocks ≡ at.blocks → low.ranks ≡ at.ranks → (p : Part) (ts : List Token) → (forms_at low.left (inner_of low) p).reads ts ≡ ((inner_of at).forms p).reads ts
forms_lower at low levels left blocks ranks p ts =
    rw (levels, blocks, ranks) (forms_by (block_at at.levels at.ranks at.blocks) at.blocks at.ranks at.left low.left (omega arith) p ts)

pub leads_lower : (at low : Depth) → low.levels ≡ at.levels → low.left + 1 ≡ at.left → low.blocks ≡ at.blocks → low.ranks ≡ at.ranks → (ts : List Token) → (lead low.left (inner_of low)).reads ts ≡ (inner_of at).lead.reads ts
leads_lower at low levels left blocks ranks ts =
    rw (levels, blocks, ranks) (leads_by (block_at at.levels at.ranks at.blocks) at.blocks at.ranks at.left low.left (omega arith) ts)

-- the block of a lambda or a statement is the same at each level of an expression
same_block : (block : Grammar Token Block) (blocks ranks n : ℕ) (ts : List Token) → block.reads ts ≡ (below block blocks ranks n).block.reads ts
same_block block blocks ranks zero ts = refl
same_block block blocks ranks (suc n) ts = same_block block blocks ranks n ts

pub block_deeper : (at : Depth) (levels ranks blocks : ℕ) → levels ≡ at.levels → ranks ≡ at.ranks → blocks ≡ at.blocks → (ts : List Token) → (block_at levels ranks blocks).reads ts ≡ (inner_of at).block.reads ts
block_deeper at levels ranks blocks l r b ts = rw (l, r, b) (same_block (block_at at.levels at.ranks at.blocks) at.blocks at.ranks at.left ts)

pub no_block : (at : Depth) → at.blocks ≡ 0 → (ts : List Token) → empty_block.reads ts ≡ (inner_of at).block.reads ts
no_block at none ts = block_deeper at at.levels at.ranks 0 refl refl (sym none) ts
