-- What the crates above take from a lone body.
use Rattle.std.proofs.Common.{◌≡◌, ℕ, ◌+◌, ◌-◌, ◌<◌, ◌≤◌, List, [], ◌∷◌, ◌++◌, length, get_or, drop, arith, sym, subst, ap, ◌∙◌, refl}
use Rattle.std.proofs.lemmas.List.{drop-drop}
use Rattle.std.specs.Int.{w32}
use Rattle.std.specs.Int.RustNames.{FitsSigned}
use Rattle.cil_lone.specs.declared.row.Row.{Row}
use Rattle.cil_lone.specs.declared.row.Row.TheVariants.{Load, Binary, Return, Beyond}
use Rattle.cil_lone.specs.Row.{row_of, size_of}
use Rattle.cil_lone.specs.Cut.{Placed, Cuts}
use Rattle.cil_lone.specs.Lone.{depth_after, code_bytes, IsLone, DoesItsPart, Walks}
use Rattle.cil_lone.proofs.Walk.{GoesOn, Runs, Runs-from_balanced}
use Rattle.cil_lone.proofs.Fields.{IsTaken, consecutive_within, lone_at-stood, Cuts-operand}
use Rattle.cil_lone.proofs.Reading.{IsLone-consecutive}

DoesItsPart-from_GoesOn : (r : Row) (depth : ℕ) (code : List Placed) (V W : Type 0) → (V → W) → IsTaken r → GoesOn r depth code V → DoesItsPart r depth code W
DoesItsPart-from_GoesOn (Load s) depth code V W f t h = f h
DoesItsPart-from_GoesOn (Binary b) depth code V W f t h = (h.0, f h.1)
DoesItsPart-from_GoesOn Return depth code V W f t h = h
DoesItsPart-from_GoesOn Beyond depth code V W f t h = absurd t

-- code that is cut from bytes walks where it runs, since a lone body has each of its instructions
Cuts-walks : (depth at : ℕ) (bytes : List ℕ) (code : List Placed) (end : ℕ) (rest : List ℕ) → Cuts at bytes code end rest → Runs depth code → Walks depth code
Cuts-walks depth at bytes [] end rest h w = w
Cuts-walks depth at bytes (e ∷ code) end rest h w =
    let r = row_of e.1.op in
    DoesItsPart-from_GoesOn r depth code (Runs (depth_after depth r) code) (Walks (depth_after depth r) code)
    (Cuts-walks (depth_after depth r) (at + size_of e.1.op) (drop (size_of e.1.op) bytes) code end rest h.2)
    (lone_at-stood bytes e.1 h.1).taken w

pub IsLone-walks : (file : List ℕ) (code : List Placed) → IsLone file code → Walks 0 code
IsLone-walks file code l =
    Cuts-walks 0 1 (code_bytes file l.size) code (l.size + 1) [] l.cut.1 (Runs-from_balanced code (l.size + 1) l.balanced)

pub IsLone-operand : (file : List ℕ) (code : List Placed) → IsLone file code → (k : ℕ) (d : Placed) → k < length code → FitsSigned w32 (get_or code k d).1.arg
IsLone-operand file code l = Cuts-operand 1 (code_bytes file l.size) code (l.size + 1) [] l.cut.1

pub IsLone-place : (file : List ℕ) (code : List Placed) → IsLone file code → (k : ℕ) (d : Placed) → k < length code → (get_or code k d).0 < length file
IsLone-place file code l = consecutive_within 1 code (length file) (IsLone-consecutive file code l)

-- A cut in two: where the second part begins, with the bytes that it begins at.
pub record IsSplit (at : ℕ) (bytes : List ℕ) (before code : List Placed) (end : ℕ) (rest : List ℕ) : Type 0 where
  pub mid : ℕ
  pub from : at ≤ mid
  pub front : Cuts at bytes before mid (drop (mid - at) bytes)
  pub back : Cuts mid (drop (mid - at) bytes) code end rest

pub Cuts-split :
    (at : ℕ) (bytes : List ℕ) (before code : List Placed) (end : ℕ) (rest : List ℕ) → Cuts at bytes (before ++ code) end rest → IsSplit at bytes before code end rest
Cuts-split at bytes [] code end rest h =
    let none : at - at ≡ 0 = omega arith in
    let same : drop (at - at) bytes ≡ bytes = ap (λ (n : ℕ). drop n bytes) none in
    record {
      mid = at;
      from = omega arith;
      front = (refl, same);
      back = subst (λ (xs : List ℕ). Cuts at xs code end rest) (sym same) h;
    }
Cuts-split at bytes (e ∷ before) code end rest h =
    let s = Cuts-split (at + size_of e.1.op) (drop (size_of e.1.op) bytes) before code end rest h.2 in
    let le : at + size_of e.1.op ≤ s.mid = s.from in
    let far : size_of e.1.op + (s.mid - (at + size_of e.1.op)) ≡ s.mid - at = omega arith in
    let same : drop (s.mid - (at + size_of e.1.op)) (drop (size_of e.1.op) bytes) ≡ drop (s.mid - at) bytes =
    drop-drop (s.mid - (at + size_of e.1.op)) (size_of e.1.op) bytes ∙ ap (λ (n : ℕ). drop n bytes) far in
    record {
      mid = s.mid;
      from = omega arith;
      front =
          (h.0, h.1, subst (λ (xs : List ℕ). Cuts (at + size_of e.1.op) (drop (size_of e.1.op) bytes) before s.mid xs) same s.front);
      back = subst (λ (xs : List ℕ). Cuts s.mid xs code end rest) same s.back;
    }
