-- The rounds that tell which rule a method breaks. In round 0 no instruction has a frame. Each further round unites to each
-- instruction's frame those with which it is entered, and those that instructions leave which are accepted in the round
-- before. The fault is that of the first round in which a rule is broken: at the least instruction, the first rule. Frames
-- that don't agree where they meet break Merge there.
use Rattle.std.specs.Prelude.{◌≡◌, ◌⊎◌, ℕ, suc, List, [], Option, Some, None, length, slice_get, replicate}
use Rattle.dc_causes.specs.Step.{Step, Test, Then}
use Rattle.dc_causes.specs.Causes.{InOrder, Below, Rounds}
use Rattle.cil_body.specs.declared.body.Body.{Body}
use Rattle.cil_rows.specs.declared.row.Row.{Row}
use Rattle.verify_slots.specs.declared.slot.Slot.{Slot}
use Rattle.verify_slots.specs.Slots.{AreIn}
use Rattle.verify_rules.specs.declared.rule.Rule.{Rule}
use Rattle.verify_rules.specs.declared.rule.Rule.TheVariants.{FallOff, Merge}
use Rattle.verify_rules.specs.declared.setting.Setting.{Setting}
use Rattle.verify_rules.specs.declared.setting.Spot.{Spot}
use Rattle.verify_rules.specs.Rules.{Keeps, rules}
use Rattle.verify_narrower.specs.Narrower.{IsFrame}
use Rattle.verify_spots.specs.Spots.{IsRow, IsSpot}
use Rattle.verify_spots.specs.Frames.{Table, HasFrame, IsEntry, IsAccepted, LeadsTo}

-- a frame that comes to an instruction: what an instruction leaves that is accepted and leads there
pub record Comes (s : Setting) (body : Body) (table : Table) (j : ℕ) (frame : List Slot) : Type 0 where
  pub i : ℕ
  pub row : Row
  pub before : List Slot
  pub is : IsRow s i row
  pub has : HasFrame table i before
  pub accepted : IsAccepted s body i row before frame
  pub leads : LeadsTo row i j

-- its own frame, one with which it is entered, or one that comes
abbrev pub Meets : Setting → Body → Table → ℕ → List Slot → Type 0
Meets s body table j frame = HasFrame table j frame ⊎ IsEntry s body j frame ⊎ Comes s body table j frame

-- the least frame that holds all that meet at an instruction
pub record IsMet (s : Setting) (body : Body) (table : Table) (j : ℕ) (met : List Slot) : Type 0 where
  pub is : IsFrame met
  pub some : (frame : List Slot) × Meets s body table j frame
  pub holds : (frame : List Slot) → Meets s body table j frame → AreIn frame met
  pub least : (other : List Slot) → ((frame : List Slot) → Meets s body table j frame → AreIn frame other) → AreIn met other

-- no frame holds all that meet there
abbrev pub IsApart : Setting → Body → Table → ℕ → Type 0
IsApart s body table j = (other : List Slot) → ((frame : List Slot) → Meets s body table j frame → AreIn frame other) → ⊥

-- what an instruction has in the next round
abbrev pub IsNext : Setting → Body → Table → ℕ → Option (List Slot) → Type 0
IsNext s body table j None = (frame : List Slot) → Meets s body table j frame → ⊥
IsNext s body table j (Some met) = IsMet s body table j met

-- the tables of the rounds
pub data IsRound (s : Setting) (body : Body) : ℕ → Table → Type 0 where
  opening : IsRound s body 0 (replicate (length s.rows.now) None)
  next : (n : ℕ) (before table : Table) → IsRound s body n before → length table ≡ length s.rows.now → ((i : ℕ) (o : Option (List Slot)) → slice_get table i ≡ Some o → IsNext s body before i o) → IsRound s body (suc n) table

-- an instruction keeps a rule in a round: one that has no frame yet keeps all but Merge
abbrev pub KeepsThere : Setting → Spot → Row → Option (Option (List Slot)) → Rule → Type 0
KeepsThere s p row (Some (Some frame)) rule = Keeps s p row frame rule
KeepsThere s p row _ rule = Unit {0}

abbrev pub KeepsIn : Setting → Body → Table → ℕ → Rule → Type 0
KeepsIn s body table i Merge = IsApart s body table i → ⊥
KeepsIn s body table i rule =
    (p : Spot) (row : Row) → IsSpot s body i p → IsRow s i row → KeepsThere s p row (slice_get table i) rule

-- where a rule is broken, by the instruction's number
pub record At : Type 0 where
  pub number : ℕ
  pub rule : Rule

abbrev pub Stands : Setting → Body → Table → ℕ → Step (Unit {0}) At
Stands s body table i = InOrder (λ rule. Test (KeepsIn s body table i rule) (record { number = i; rule = rule })) rules

-- no rule is broken in this round, or this is the fault
abbrev pub Passes : Setting → Body → ℕ → Step (Unit {0}) At
Passes s body n r = (table : Table) × IsRound s body n table × Below (length s.rows.now) (Stands s body table) r

-- the method has some code, and no rule is broken in any round; or this is the fault
abbrev pub Verifies : Setting → Body → Step (Unit {0}) At
Verifies s body r =
    Then (Test ((s.rows.now ≡ []) → ⊥) (record { number = 0; rule = FallOff })) (λ _. Rounds (Passes s body)) r
