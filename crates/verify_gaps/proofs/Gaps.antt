-- That there is no gap, slot by slot.
use Rattle.std.proofs.Common.{◌≡◌, ℕ, ◌<◌, Bool, true, false, List, [], ◌∷◌, Option, Some, None, length, slice_get, take, drop, inl, inr, refl, sym, ap, ◌∙◌, subst}
use Rattle.std.proofs.lemmas.Option.{slice_get_within}
use Rattle.std.proofs.lemmas.List.Elements.{Contains-append_left, Contains-append_cases}
use Rattle.std.specs.Bool.{OnTrue, OnFalse}
use Rattle.std.specs.List.{Contains}
use Rattle.cil_rows.specs.declared.row.Row.{Row}
use Rattle.verify_slots.specs.declared.slot.Slot.{Slot}
use Rattle.verify_slots.specs.declared.slot.Slot.TheVariants.{Lent}
use Rattle.verify_slots.specs.declared.slot.Tested.TheVariants.{By}
use Rattle.verify_rules.specs.declared.setting.Setting.{Setting}
use Rattle.verify_rules.specs.declared.setting.Spot.{Spot}
use Rattle.verify_rules.specs.Slots.{IsBy}
use Rattle.verify_rules.specs.Puts.{taken}
use Rattle.verify_rules.specs.Gap.{HasNoGap, makers, makers_of, used, Disturbs, Reads, IsTested, IsTouching, MayCopy, MayUse}
use Rattle.verify_frames.specs.Among.{HasSome, HasNone}
use Rattle.verify_gaps.specs.Parts.{HasNoGapAmong, IsUnused, IsPending, TopMayBeCopied, MayBeCopied, MayBePassed, MayBeUsedAt, MayBeUsed}
use Rattle.verify_gaps.proofs.Makers.{nothing, sole, one, stable, from_makers, to_makers, tested_some, some_tested}

module _ (s : Setting) (row : Row) where
  copied_by : (slot : Slot) (k : ℕ) → MayBeCopied s row slot → Contains (makers_of slot) k → MayCopy s row k
  copied_by (Lent ty (By n)) k may has = subst (λ i. MayCopy s row i) (one n k has) may
  copied_by _ k may has = absurd (nothing k has)

  kept_by : (frame : List Slot) (k : ℕ) → TopMayBeCopied s row frame → Contains (makers (take 1 frame)) k → MayCopy s row k
  kept_by [] k may has = absurd (nothing k has)
  kept_by (x ∷ below) k may has = elim (Contains-append_cases (makers_of x) [] k has) [ inl here ↦ copied_by x k may here | inr none ↦ absurd (nothing k none) ]

  copied_of : (slot : Slot) → ((k : ℕ) → Contains (makers_of slot) k → MayCopy s row k) → MayBeCopied s row slot
  copied_of (Lent ty (By n)) h = h n (sole n n refl)
  copied_of _ h = tt

  top_by : (frame : List Slot) → ((k : ℕ) → Contains (makers (take 1 frame)) k → MayCopy s row k) → TopMayBeCopied s row frame
  top_by [] h = tt
  top_by (x ∷ below) h = copied_of x (λ k has. h k (Contains-append_left (makers_of x) [] k has))

  passed_by : (slot : Slot) (k depth : ℕ) → IsBy k slot → MayBeUsed s row depth slot → MayUse s row depth k
  passed_by (Lent ty (By n)) k depth by may = subst (λ i. MayUse s row depth i) by may
  passed_by _ k depth by may = absurd by

unused_by : (uses : List ℕ) (slot : Slot) (k : ℕ) → Contains (makers_of slot) k → (Contains uses k → ⊥) → IsUnused uses slot
unused_by uses (Lent ty (By n)) k has none = λ h. none (subst (λ i. Contains uses i) (one n k has) h)
unused_by uses _ k has none = absurd (nothing k has)

pending_by : (s : Setting) (uses : List ℕ) (slot : Slot) (k : ℕ) → Contains (makers_of slot) k → (Contains uses k → ⊥) → IsTouching s k → IsPending s uses slot
pending_by s uses (Lent ty (By n)) k has none touch = (λ h. none (subst (λ i. Contains uses i) (one n k has) h), subst (λ i. IsTouching s i) (sym (one n k has)) touch)
pending_by s uses _ k has none touch = absurd (nothing k has)

module _ (s : Setting) (p : Spot) (row : Row) (frame slots rest : List Slot) (n : ℕ) (same : makers slots ≡ used s row frame) (count : n ≡ taken s row) (under : rest ≡ drop n frame) where
  left : rest ≡ drop (taken s row) frame
  left = under ∙ ap (λ k. drop k frame) count

  is_used : (k : ℕ) → Contains (makers slots) k → Contains (used s row frame) k
  is_used k has = subst (λ (ks : List ℕ). Contains ks k) same has

  uses : (k : ℕ) → Contains (used s row frame) k → Contains (makers slots) k
  uses k has = subst (λ (ks : List ℕ). Contains ks k) (sym same) has

  pub to_gap : HasNoGapAmong s p row frame slots rest → HasNoGap s p row frame
  to_gap h = record {
    quiet = λ k has none d.
        let m = from_makers frame k has in
        h.quiet d m.place m.slot (slice_get_within frame m.place m.slot m.at) m.at (unused_by (makers slots) m.slot k m.has (λ u. none (is_used k u)));
    untouched = λ k has none touch r.
        let m = from_makers frame k has in
        h.untouched r m.place m.slot (slice_get_within frame m.place m.slot m.at) m.at (pending_by s (makers slots) m.slot k m.has (λ u. none (is_used k u)) touch);
    kept = λ k has. kept_by s row frame k h.kept has;
    passed = λ depth k slot at lt by. passed_by s row slot k depth by (subst (λ (o : Option Slot). MayBeUsedAt s row depth o) at (h.passed depth lt));
    alone = λ j k used_j left_k.
        let none : HasNone (IsUnused (makers slots)) rest = h.alone (tested_some slots j (uses j used_j)) in
        let m = from_makers rest k (subst (λ (xs : List Slot). Contains (makers xs) k) (sym left) left_k) in
        is_used k (stable (makers slots) k (λ no. none m.place m.slot (slice_get_within rest m.place m.slot m.at) m.at (unused_by (makers slots) m.slot k m.has no)));
  }

  module _ (g : HasNoGap s p row frame) where
    quiet_at : (slot : Slot) (i : ℕ) → slice_get frame i ≡ Some slot → IsUnused (makers slots) slot → Disturbs s p row frame → ⊥
    quiet_at (Lent ty (By k)) i at un d = g.quiet k (to_makers frame i (Lent ty (By k)) k at (sole k k refl)) (λ u. un (uses k u)) d
    quiet_at _ i at un d = absurd un

    untouched_at : (slot : Slot) (i : ℕ) → slice_get frame i ≡ Some slot → IsPending s (makers slots) slot → Reads row → ⊥
    untouched_at (Lent ty (By k)) i at pending r = g.untouched k (to_makers frame i (Lent ty (By k)) k at (sole k k refl)) (λ u. pending.0 (uses k u)) pending.1 r
    untouched_at _ i at pending r = absurd pending

    used_at : (slot : Slot) (depth : ℕ) → depth < taken s row → slice_get frame depth ≡ Some slot → MayBeUsed s row depth slot
    used_at (Lent ty (By k)) depth lt at = g.passed depth k (Lent ty (By k)) at lt refl
    used_at _ depth lt at = tt

    used_there : (o : Option Slot) (depth : ℕ) → depth < taken s row → slice_get frame depth ≡ o → MayBeUsedAt s row depth o
    used_there None depth lt at = tt
    used_there (Some slot) depth lt at = used_at slot depth lt at

    alone_at : (slot : Slot) (i : ℕ) → slice_get rest i ≡ Some slot → HasSome IsTested slots → IsUnused (makers slots) slot → ⊥
    alone_at (Lent ty (By k)) i at some un =
        let m = some_tested slots some in
        un (uses k (g.alone m.k k (is_used m.k m.has) (subst (λ (xs : List Slot). Contains (makers xs) k) left (to_makers rest i (Lent ty (By k)) k at (sole k k refl)))))
    alone_at _ i at some un = absurd un

    among : HasNoGapAmong s p row frame slots rest
    among = record {
      quiet = λ d i slot lt at un. quiet_at slot i at un d;
      untouched = λ r i slot lt at pending. untouched_at slot i at pending r;
      kept = top_by s row frame g.kept;
      passed = λ depth lt. used_there (slice_get frame depth) depth lt refl;
      alone = λ some i slot lt at un. alone_at slot i at some un;
    }

  pub of_gap : HasNoGap s p row frame → HasNoGapAmong s p row frame slots rest
  of_gap g = among g

  pub yes : (b : Bool) → OnTrue b (HasNoGapAmong s p row frame slots rest) → OnTrue b (HasNoGap s p row frame)
  yes true h = to_gap h
  yes false h = tt

  pub no : (b : Bool) → OnFalse b (HasNoGapAmong s p row frame slots rest → ⊥) → OnFalse b (HasNoGap s p row frame → ⊥)
  no true h = tt
  no false h = λ g. h (of_gap g)
