-- Of some slots one is so, or none.
use Rattle.std.proofs.Common.{◌≡◌, ℕ, ◌+◌, ◌<◌, Bool, true, false, drop, List, Some, length, get_or, slice_get, inl, inr, sym, ap, ◌∙◌, subst, arith}
use Rattle.std.proofs.lemmas.Bool.{cases_lt}
use Rattle.std.proofs.lemmas.Option.{slice_get-get_or, slice_get_within, get_or_from_slice_get}
use Rattle.std.specs.List.{Contains}
use Rattle.std.specs.Bool.{OnTrue, OnFalse}
use Rattle.cil_rows.specs.declared.row.Row.{Row}
use Rattle.verify_rules.specs.declared.setting.Setting.{Setting}
use Rattle.verify_rules.specs.declared.setting.Spot.{Spot}
use Rattle.verify_rules.specs.Slots.{IsFleeting, IsCode}
use Rattle.verify_rules.specs.Puts.{taken}
use Rattle.verify_rules.specs.Gap.{Jumps, KeepsBorder}
use Rattle.verify_slots.specs.declared.slot.Slot.{Slot}
use Rattle.verify_frames.specs.Among.{HasSome, HasNoneBelow, HasNone}

pub none_more : (Is : Slot → Type 0) (slots : List Slot) (i : ℕ) (x : Slot) → HasNoneBelow Is slots i → x ≡ get_or slots i x → (Is x → ⊥) → HasNoneBelow Is slots (i + 1)
none_more Is slots i x before here off k slot lt at is = elim (cases_lt k i) [
  | inl less ↦ before k slot less at is
  | inr more ↦
      let same : k ≡ i = omega (arith, lt, more) in
      let one : x ≡ slot = here ∙ ap (λ j. get_or slots j x) (sym same) ∙ get_or_from_slice_get slots k slot x at in
      off (subst Is (sym one) is)
]

pub some_here : (Is : Slot → Type 0) (slots : List Slot) (i : ℕ) (x : Slot) → i < length slots → x ≡ get_or slots i x → Is x → HasSome Is slots
some_here Is slots i x lt here is = (i, x, slice_get-get_or slots i x lt ∙ ap Some (sym here), is)

pub contained : (slots : List Slot) (k : ℕ) (x : Slot) → slice_get slots k ≡ Some x → Contains slots x
contained slots k x at = (k, slice_get_within slots k x at, get_or_from_slice_get slots k x x at)

pub none_contained : (Is : Slot → Type 0) (slots : List Slot) → HasNone Is slots → (x : Slot) → Contains slots x → Is x → ⊥
none_contained Is slots none x has is = none has.0 x has.1 (slice_get-get_or slots has.0 x has.1 ∙ ap Some has.2) is

-- where the premise holds, what denies the fact denies that it follows
pub denied_aim : (p : Spot) (slots : List Slot) (b : Bool) → p.is_aim ≡ true → OnFalse b (((slot : Slot) → Contains slots slot → IsFleeting slot → ⊥) → ⊥) → OnFalse b ((p.is_aim ≡ true → (slot : Slot) → Contains slots slot → IsFleeting slot → ⊥) → ⊥)
denied_aim p slots true a h = tt
denied_aim p slots false a h = λ f. h (f a)

pub denied_over : (row : Row) (slots : List Slot) (b : Bool) → Jumps row → OnFalse b (((slot : Slot) → Contains slots slot → IsFleeting slot → ⊥) → ⊥) → OnFalse b ((Jumps row → (slot : Slot) → Contains slots slot → IsFleeting slot → ⊥) → ⊥)
denied_over row slots true a h = tt
denied_over row slots false a h = λ f. h (f a)

module _ (s : Setting) (p : Spot) (row : Row) (frame rest : List Slot) (n : ℕ) (count : n ≡ taken s row) (under : rest ≡ drop n frame) where
  same : drop (taken s row) frame ≡ rest
  same = ap (λ k. drop k frame) (sym count) ∙ sym under

  pub over : KeepsBorder s p row frame → Jumps row → (slot : Slot) → Contains rest slot → IsFleeting slot → ⊥
  over k jump slot has = k.over_jump jump slot (subst (λ (xs : List Slot). Contains xs slot) (sym same) has)

  pub next : KeepsBorder s p row frame → (slot : Slot) → Contains rest slot → IsCode slot → ⊥
  next k slot has = k.taken_next slot (subst (λ (xs : List Slot). Contains xs slot) (sym same) has)

  pub denied_next : (b : Bool) → OnFalse b (((slot : Slot) → Contains rest slot → IsCode slot → ⊥) → ⊥) → OnFalse b (KeepsBorder s p row frame → ⊥)
  denied_next true h = tt
  denied_next false h = λ k. h (next k)

  pub kept : (b : Bool) → (p.is_aim ≡ true → (slot : Slot) → Contains frame slot → IsFleeting slot → ⊥) → (Jumps row → (slot : Slot) → Contains rest slot → IsFleeting slot → ⊥) → OnTrue b ((slot : Slot) → Contains rest slot → IsCode slot → ⊥) → OnTrue b (KeepsBorder s p row frame)
  kept true at jump h = record {
    at_aim = at;
    over_jump = λ j slot has. jump j slot (subst (λ (xs : List Slot). Contains xs slot) same has);
    taken_next = λ slot has. h slot (subst (λ (xs : List Slot). Contains xs slot) same has);
  }
  kept false at jump h = tt
