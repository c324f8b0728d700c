-- What accepts a frame accepts each frame in it.
use Rattle.std.proofs.Common.{◌≡◌, ◌≤◌, ◌-◌, ◌+◌, List, Result, Ok, Err, All, length, refl, sym, ap, subst, arith}
use Rattle.dc_causes.specs.Step.{Test, stop, go}
use Rattle.dc_causes.specs.Causes.{InOrder}
use Rattle.dc_causes.proofs.Order.{passed}
use Rattle.dc_causes.proofs.Single.{not_both}
use Rattle.cil_rows.specs.declared.row.Row.{Row}
use Rattle.cil_rows.specs.declared.row.Row.TheVariants.{Return}
use Rattle.verify_slots.specs.declared.slot.Slot.{Slot}
use Rattle.verify_slots.specs.Slots.{AreIn}
use Rattle.verify_rules.specs.declared.rule.Rule.{Rule}
use Rattle.verify_rules.specs.declared.rule.Rule.TheVariants.{Underflow, MaxStack, FallOff, Jump, Empty, InitLocals, Kind, Truth, Assign, ThisStore, InitOnly, Receiver, Gap, Border, Merge, Access}
use Rattle.verify_rules.specs.declared.setting.Setting.{Setting}
use Rattle.verify_rules.specs.declared.setting.Spot.{Spot}
use Rattle.verify_rules.specs.Look.{types_of}
use Rattle.verify_rules.specs.Held.{held_by}
use Rattle.verify_rules.specs.Puts.{FitsKind, FitsTruth, FitsType, taken, given}
use Rattle.verify_rules.specs.Kinds.{IsTaken}
use Rattle.verify_rules.specs.Rules.{Keeps, Accepts, IsEmptied, rules}
use Rattle.verify_rules.specs.Results.{leaves}
use Rattle.verify_narrower.specs.Narrower.{IsFrame, NarrowerFramesAreAccepted}
use Rattle.verify_narrower.proofs.View.{in_length, in_nothing}
use Rattle.verify_narrower.proofs.Kept.{kept_kind}
use Rattle.verify_narrower.proofs.Taken.{taken_in}
use Rattle.verify_narrower.proofs.Puts.{puts_in, kept_truth, kept_type}
use Rattle.verify_narrower.proofs.Members.{init_in, receiver_in, delegate_in, access_in}
use Rattle.verify_narrower.proofs.Gaps.{gap_in, border_in}
use Rattle.verify_narrower.proofs.Results.{leaves_in}
use Rattle.verify_narrower.proofs.Once.{leaves_frame}

emptied : (s : Setting) (row : Row) (f g : List Slot) → length f ≡ length g → IsEmptied s row g → IsEmptied s row f
emptied s Return f g e k = subst (λ n. n ≤ taken s Return) (sym e) k
emptied s _ f g e k = k

abbrev value : {A F : Type 0} → A → Result A F → A
value a (Ok b) = b
value a (Err f) = a

ok_inside : {A F : Type 0} (a b : A) → ◌≡◌ {A = Result A F} (Ok a) (Ok b) → a ≡ b
ok_inside {A} {F} a b e = ap (value a) e

kind : (s : Setting) (p : Spot) (row : Row) (f g : List Slot) → InOrder (λ rule. Test (Keeps s p row g rule) rule) rules (Ok tt) → IsTaken s p row g
kind s p row f g k = (passed (λ rule. Test (Keeps s p row g rule) rule) rules k 6 Kind (omega arith)).0

module _ (s : Setting) (p : Spot) (row : Row) (f g : List Slot) (frame : IsFrame f) (h : AreIn f g) (k : InOrder (λ rule. Test (Keeps s p row g rule) rule) rules (Ok tt)) where
  all : All (λ (r : Rule). Test (Keeps s p row g r) r (Ok tt)) rules
  all = passed (λ rule. Test (Keeps s p row g rule) rule) rules k

  same : length f ≡ length g
  same = in_length f g h

  keeps_underflow : Keeps s p row f Underflow
  keeps_underflow = subst (λ n. taken s row ≤ n) (sym same) (all 0 Underflow (omega arith))

  keeps_maxstack : Keeps s p row f MaxStack
  keeps_maxstack = subst (λ n. (n ≤ s.max_stack) × (n - taken s row + given s row ≤ s.max_stack)) (sym same) (all 1 MaxStack (omega arith))

  keeps_falloff : Keeps s p row f FallOff
  keeps_falloff = all 2 FallOff (omega arith)

  keeps_jump : Keeps s p row f Jump
  keeps_jump = all 3 Jump (omega arith)

  keeps_empty : Keeps s p row f Empty
  keeps_empty = let e = all 4 Empty (omega arith) in (λ begins. in_nothing f g h (e.0 begins), emptied s row f g same e.1)

  keeps_initlocals : Keeps s p row f InitLocals
  keeps_initlocals = all 5 InitLocals (omega arith)

  keeps_kind : Keeps s p row f Kind
  keeps_kind = let e = all 6 Kind (omega arith) in (taken_in s p row f g frame h e.0, puts_in s row f g h (λ ty slot. FitsKind (held_by (types_of s) ty) slot) (λ ty a b is fit. kept_kind (held_by (types_of s) ty) a b is fit) e.1)

  keeps_truth : Keeps s p row f Truth
  keeps_truth = puts_in s row f g h (λ ty slot. FitsTruth (held_by (types_of s) ty) slot) (λ ty a b is fit. kept_truth (held_by (types_of s) ty) a b is fit) (all 7 Truth (omega arith))

  keeps_assign : Keeps s p row f Assign
  keeps_assign = let e = all 8 Assign (omega arith) in (puts_in s row f g h (λ ty slot. FitsType (types_of s) ty (held_by (types_of s) ty) slot) (λ ty a b is fit. kept_type (types_of s) ty (held_by (types_of s) ty) a b is fit) e.0, delegate_in s p f g h row e.1)

  keeps_thisstore : Keeps s p row f ThisStore
  keeps_thisstore = all 9 ThisStore (omega arith)

  keeps_initonly : Keeps s p row f InitOnly
  keeps_initonly = init_in s p f g h row (all 10 InitOnly (omega arith))

  keeps_receiver : Keeps s p row f Receiver
  keeps_receiver = receiver_in s p f g h row (all 11 Receiver (omega arith))

  keeps_gap : Keeps s p row f Gap
  keeps_gap = gap_in s p row f g h (all 12 Gap (omega arith))

  keeps_border : Keeps s p row f Border
  keeps_border = border_in s p row f g h (all 13 Border (omega arith))

  keeps_merge : Keeps s p row f Merge
  keeps_merge = tt

  keeps_access : Keeps s p row f Access
  keeps_access = access_in s p f g h row (all 15 Access (omega arith))

  in_order : InOrder (λ rule. Test (Keeps s p row f rule) rule) rules (Ok tt)
  in_order =
      go tt keeps_underflow (go tt keeps_maxstack (go tt keeps_falloff (go tt keeps_jump (go tt keeps_empty (go tt keeps_initlocals (go tt keeps_kind (go tt keeps_truth (go tt keeps_assign (go tt keeps_thisstore (go tt keeps_initonly (go tt keeps_receiver (go tt keeps_gap (go tt keeps_border (go tt keeps_merge (go tt keeps_access refl)))))))))))))))

narrower : (s : Setting) (p : Spot) (row : Row) (f g h : List Slot) → IsFrame f → AreIn f g → Accepts s p row g (Ok h) → (k : List Slot) × Accepts s p row f (Ok k) × IsFrame k × AreIn k h
narrower s p row f g h frame in_ (stop e first is) = absurd (not_both h e is)
narrower s p row f g h frame in_ (go a kept next) = (
  leaves s p next.0 row f,
  go tt (in_order s p row f g frame in_ kept) (next.0, next.1, refl),
  leaves_frame s p next.0 row f frame,
  subst (λ (x : List Slot). AreIn (leaves s p next.0 row f) x) (sym (ok_inside h (leaves s p next.0 row g) next.2)) (leaves_in s p next.0 row f g in_ (kind s p row f g kept)),
)

pub law : NarrowerFramesAreAccepted
law s p row f g h frame in_ accepts = narrower s p row f g h frame in_ accepts
