-- What reading the front of a file gives.
use Rattle.std.proofs.Common.{◌≡◌, ◌≤◌, ◌+◌, ℕ, List, [], ◌++◌, length, take, Option, Some, None, Result, Ok, Err, Vec, arith, sym, ap, ◌∙◌, append-nil, inl, inr}
use Rattle.std.proofs.Math.Nat.{eq-or-lt_of_le}
use Rattle.std.proofs.Math.Seq.{take-append_seam}
use Rattle.std.proofs.lemmas.List.{length-append, length-take, take_all}
use Rattle.std.proofs.KnownBytes.{Consumes-trans}
use Rattle.std.specs.Io.KnownBytes.{Consumes, IsAtEnd}
use Rattle.std.specs.declared.alloc.Global.{Global}
use Rattle.dc_base.specs.declared.failure.Or.{Or}
use Rattle.dc_base.specs.declared.failure.Or.TheVariants.{NoMemory, Fault}
use Rattle.dc_outside.specs.declared.shelf.TakeFault.{TakeFault}
use Rattle.dc_outside.specs.declared.shelf.TakeFault.TheVariants.{Longer, Failed}
use Rattle.dc_outside.specs.Outside.{Takes}
use Rattle.ilspy_outside.specs.System.{IsOpened, IsFront, IsWithin, LosesAtMost}

-- what is lost behind what was lost
pub loses_more : (a b c : Option (List ℕ)) (front : List ℕ) (room most : ℕ) → length front + room ≤ most → Consumes a b front → LosesAtMost b c room → LosesAtMost a c most
loses_more a b c front room most fits lost more =
    (front ++ more.0, omega (arith, fits, more.1, length-append front more.0), Consumes-trans a b c front more.0 lost more.2)

-- a front that is the whole where it is short
front_of : (limit : ℕ) (front rest all : List ℕ) → all ≡ front ++ rest → length front ≤ limit + 1 → (length front ≤ limit → rest ≡ []) → front ≡ take (limit + 1) all
front_of limit front rest all split within end = elim (eq-or-lt_of_le within) [
  | inl e ↦ sym (ap (λ n. take n all) (sym e) ∙ ap (take (length front)) split ∙ take-append_seam front rest)
  | inr lt ↦
      let whole : all ≡ front = split ∙ ap (λ r. front ++ r) (end (omega (arith, lt))) ∙ append-nil front in
      sym (take_all (limit + 1) all (omega (arith, within, ap length whole)) ∙ whole)
]

-- what an open file lost is the front of the file at the path
pub is_front : (files : Option (List ℕ → Option (List ℕ))) (path : List ℕ) (old new : Option (List ℕ)) (limit : ℕ) (front : List ℕ) → IsOpened files path old
    → Consumes old new front → length front ≤ limit + 1 → (length front ≤ limit → IsAtEnd new) → IsFront files path limit front
is_front None path old new limit front opened lost within end = tt
is_front (Some files) path None new limit front opened lost within end = absurd (let no : None ≡ Some opened.0 = opened.2 in cc)
is_front (Some files) path (Some all) None limit front opened lost within end = absurd lost
is_front (Some files) path (Some all) (Some rest) limit front opened lost within end =
    let same : all ≡ opened.0 = cc in
    (opened.0, opened.1, front_of limit front rest opened.0 (sym same ∙ lost) within end)

-- a front that is no longer than the limit is the file, and a longer one shows that the file is
pub takes : (files : Option (List ℕ → Option (List ℕ))) (name : List ℕ) (limit : ℕ) (front : Vec ℕ Global) (result : Result (Vec ℕ Global) (Or TakeFault))
    → IsFront files name limit front.items → IsWithin front limit result → Takes files name limit result
takes None name limit front (Ok bytes) is w = (w.1, tt)
takes (Some files) name limit front (Ok bytes) is w =
    let most = length-take (limit + 1) is.0 in
    let cut : bytes.items ≡ take (limit + 1) is.0 = ap (λ v. v.items) w.0 ∙ is.2 in
    let whole : take (limit + 1) is.0 ≡ is.0 = take_all (limit + 1) is.0 (omega (arith, most, w.1, ap length cut)) in
    (w.1, is.1 ∙ ap Some (sym (cut ∙ whole)))
takes None name limit front (Err (Fault (Longer n))) is w = (w.1, tt)
takes (Some files) name limit front (Err (Fault (Longer n))) is w =
    (w.1, (is.0, is.1, omega (arith, w.0, ap length is.2, length-take (limit + 1) is.0)))
takes files name limit front (Err (Fault Failed)) is w = tt
takes files name limit front (Err NoMemory) is w = tt
