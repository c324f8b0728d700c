-- A file has one reading: one code, or one fault.
use Rattle.std.proofs.Common.{◌≡◌, ◌⊎◌, ℕ, ◌+◌, ◌<◌, List, [], ◌∷◌, ◌++◌, length, Result, Err, refl, sym, ◌∙◌, ap, subst, inl, inr, arith}
use Rattle.cil_lone.specs.declared.row.Row.{Row}
use Rattle.cil_lone.specs.declared.row.Row.TheVariants.{Load, Binary, Return, Beyond}
use Rattle.cil_instruction.specs.declared.instruction.Simple.{Simple}
use Rattle.cil_lone.specs.declared.standalone.Stop.{Stop}
use Rattle.cil_lone.specs.declared.standalone.Stop.TheVariants.{NotYet as NotYetHere, Truncated as TruncatedHere}
use Rattle.cil_lone.specs.declared.standalone.LoneFault.{LoneFault}
use Rattle.cil_lone.specs.declared.standalone.LoneFault.TheVariants.{BadHeader, Truncated, NotYet, Underflow, BadReturn, Trailing}
use Rattle.cil_lone.specs.Row.{row_of}
use Rattle.cil_lone.specs.Cut.{Placed, Cuts, IsConsecutive, lone_at}
use Rattle.cil_lone.specs.Lone.{HasHeader, code_bytes, IsWhole, IsCut, IsOperator, IsReturn, Underflows, IsBadReturn, IsFineBefore, IsBalanced, IsBreak, IsLone, Stops, IsLoneFault, stop_of}
use Rattle.cil_lone.proofs.Cut.{HasNone, HasNone-nil, Cuts-unique, Cuts-consecutive, consecutive_place, consecutive_once}

pub one_size : (file : List ℕ) (size other : ℕ) → HasHeader file size → HasHeader file other → size ≡ other
one_size [] size other h k = absurd h
one_size (b ∷ bytes) size other h k = sym h.1 ∙ k.1

pub none_from_fault : (bytes : List ℕ) (stop : Stop) → lone_at bytes ≡ Err stop → HasNone bytes
none_from_fault bytes stop h i k = cc

-- a file is cut in one way
pub one_cut :
    (file : List ℕ) (size : ℕ) (code : List Placed) (size' : ℕ) (code' : List Placed) → IsCut file size code → IsCut file size' code' → (size ≡ size') × (code ≡ code')
one_cut file size code size' code' h k =
    let same : size ≡ size' = one_size file size size' h.0.0 k.0.0 in
    let k' : Cuts 1 (code_bytes file size) code' (size + 1) [] =
    subst (λ (n : ℕ). Cuts 1 (code_bytes file n) code' (n + 1) []) (sym same) k.1 in
    (same, (Cuts-unique 1 (code_bytes file size) code (size + 1) [] code' (size + 1) [] h.1 HasNone-nil k' HasNone-nil).0)

-- where a cut stops, the code isn't cut
pub cut_stops_not : (file : List ℕ) (size : ℕ) (code : List Placed) (place : ℕ) (bytes : List ℕ) → IsCut file size code → Stops file place bytes → HasNone bytes → ⊥
cut_stops_not file size code place bytes h s n =
    let same : s.size ≡ size = one_size file s.size size s.whole.0 h.0.0 in
    let k : Cuts 1 (code_bytes file size) s.code place bytes =
    subst (λ (m : ℕ). Cuts 1 (code_bytes file m) s.code place bytes) same s.cut in
    s.more (Cuts-unique 1 (code_bytes file size) s.code place bytes code (size + 1) [] k n h.1 HasNone-nil).2

-- a cut stops at one place
pub one_stop :
    (file : List ℕ) (place place' : ℕ) (bytes bytes' : List ℕ) → Stops file place bytes → HasNone bytes → Stops file place' bytes' → HasNone bytes' → (place ≡ place') × (bytes ≡ bytes')
one_stop file place place' bytes bytes' s n t m =
    let same : t.size ≡ s.size = one_size file t.size s.size t.whole.0 s.whole.0 in
    let k : Cuts 1 (code_bytes file s.size) t.code place' bytes' =
    subst (λ (x : ℕ). Cuts 1 (code_bytes file x) t.code place' bytes') same t.cut in
    let r = Cuts-unique 1 (code_bytes file s.size) s.code place bytes t.code place' bytes' s.cut n k m in
    (r.1, r.2)

-- the places of a cut file
pub IsCut-consecutive : (file : List ℕ) (size : ℕ) (code : List Placed) → IsCut file size code → IsConsecutive 1 code (size + 1)
IsCut-consecutive file size code h = Cuts-consecutive 1 (code_bytes file size) code (size + 1) [] h.1

pub IsLone-consecutive : (file : List ℕ) (code : List Placed) → IsLone file code → IsConsecutive 1 code (length file)
IsLone-consecutive file code l =
    subst (λ (n : ℕ). IsConsecutive 1 code n) (sym l.ended) (IsCut-consecutive file l.size code l.cut)

-- what IsBreak says, whatever the fault
pub record BreaksAt (code : List Placed) (end : ℕ) (fault : LoneFault) : Type 0 where
  pub place : ℕ
  pub fine : IsFineBefore code end place
  pub how : (Underflows code place × (fault ≡ Underflow place)) ⊎ (IsBadReturn code end place × (fault ≡ BadReturn place))

pub IsBreak-says : (code : List Placed) (end : ℕ) (fault : LoneFault) → IsBreak code end fault → BreaksAt code end fault
IsBreak-says code end (BadHeader place) b = absurd b
IsBreak-says code end (Truncated place) b = absurd b
IsBreak-says code end (NotYet byte place) b = absurd b
IsBreak-says code end (Underflow place) b = record { place = place; fine = b.0; how = inl (b.1, refl) }
IsBreak-says code end (BadReturn place) b = record { place = place; fine = b.0; how = inr (b.1, refl) }
IsBreak-says code end (Trailing place) b = absurd b

fine_not : (code : List Placed) (end place : ℕ) (fault : LoneFault) → IsFineBefore code end place → (b : BreaksAt code end fault) → b.place < place → ⊥
fine_not code end place fault fine b less =
    elim b.how [ inl w ↦ (fine b.place less).0 w.0 | inr w ↦ (fine b.place less).1 w.0 ]

same_from_neither : (a b : ℕ) → (a < b → ⊥) → (b < a → ⊥) → a ≡ b
same_from_neither a b h k = grind arith

operator_returns_not : (r : Row) → IsOperator r → IsReturn r → ⊥
operator_returns_not (Load s) o h = o
operator_returns_not (Binary t) o h = h
operator_returns_not Return o h = o
operator_returns_not Beyond o h = o

-- an operator's place is no bad return
pub underflow_or_return : (code : List Placed) (end place : ℕ) → IsConsecutive 1 code end → Underflows code place → IsBadReturn code end place → ⊥
underflow_or_return code end place c u r =
    let cu : IsConsecutive 1 (u.before ++ (place, u.i) ∷ u.after) end =
    subst (λ (xs : List Placed). IsConsecutive 1 xs end) u.stands c in
    elim r [
      | inl v ↦ let same : u.i ≡ v.i =
          consecutive_once 1 u.before v.before place u.i v.i u.after v.after end cu (sym u.stands ∙ v.stands) in
          operator_returns_not (row_of u.i.op) u.operator
          (subst (λ (i : Simple). IsReturn (row_of i.op)) (sym same) v.returns)
      | inr m ↦ let p = consecutive_place 1 u.before place u.i u.after end cu in
          let at_end : place ≡ end = m.0 in
          absurd (omega arith)
    ]

-- code does wrong first in one way
pub one_break : (code : List Placed) (end : ℕ) (fault other : LoneFault) → IsConsecutive 1 code end → BreaksAt code end fault → BreaksAt code end other → fault ≡ other
one_break code end fault other c b d =
    let same : b.place ≡ d.place =
    same_from_neither b.place d.place (fine_not code end d.place fault d.fine b) (fine_not code end b.place other b.fine d) in
    elim b.how [
      | inl v ↦ elim d.how [
        | inl w ↦ v.1 ∙ ap Underflow same ∙ sym w.1
        | inr w ↦ absurd (underflow_or_return code end d.place c (subst (λ (p : ℕ). Underflows code p) same v.0) w.0)
      ]
      | inr v ↦ elim d.how [
        | inl w ↦ absurd (underflow_or_return code end d.place c w.0 (subst (λ (p : ℕ). IsBadReturn code end p) same v.0))
        | inr w ↦ v.1 ∙ ap BadReturn same ∙ sym w.1
      ]
    ]

-- How far the reading of a file comes.
abbrev pub ReachesCode : List ℕ → Type 0
ReachesCode file = (size : ℕ) × HasHeader file size

abbrev pub ReachesCut : List ℕ → Type 0
ReachesCut file = (size : ℕ) × IsWhole file size

abbrev pub ReachesBalance : List ℕ → Type 0
ReachesBalance file = (size : ℕ) × (code : List Placed) × IsCut file size code

abbrev pub ReachesEnd : List ℕ → Type 0
ReachesEnd file = (size : ℕ) × (code : List Placed) × IsCut file size code × IsBalanced code (size + 1)

pub record IsStop (file : List ℕ) (fault : LoneFault) : Type 0 where
  pub place : ℕ
  pub bytes : List ℕ
  pub stop : Stop
  pub stops : Stops file place bytes
  pub cannot : lone_at bytes ≡ Err stop
  pub is : fault ≡ stop_of stop place

pub record IsBroken (file : List ℕ) (fault : LoneFault) : Type 0 where
  pub size : ℕ
  pub code : List Placed
  pub cut : IsCut file size code
  pub breaks : BreaksAt code (size + 1) fault

pub record IsTrailed (file : List ℕ) (fault : LoneFault) : Type 0 where
  pub size : ℕ
  pub code : List Placed
  pub cut : IsCut file size code
  pub balanced : IsBalanced code (size + 1)
  pub longer : size + 1 < length file
  pub is : fault ≡ Trailing (size + 1)

-- the part of the reading that a fault ends
pub data Ends (file : List ℕ) (fault : LoneFault) : Type 0 where
  at_header : (ReachesCode file → ⊥) → fault ≡ BadHeader 0 → Ends file fault
  at_length : ReachesCode file → (ReachesCut file → ⊥) → fault ≡ Truncated (length file) → Ends file fault
  at_stop : ReachesCut file → (ReachesBalance file → ⊥) → IsStop file fault → Ends file fault
  at_break : ReachesBalance file → (ReachesEnd file → ⊥) → IsBroken file fault → Ends file fault
  at_trail : ReachesEnd file → IsTrailed file fault → Ends file fault

cut_of_end : (file : List ℕ) → ReachesBalance file → ReachesCut file
cut_of_end file r = (r.0, r.2.0)

code_of_cut : (file : List ℕ) → ReachesCut file → ReachesCode file
code_of_cut file r = (r.0, r.1.0)

balance_of_end : (file : List ℕ) → ReachesEnd file → ReachesBalance file
balance_of_end file r = (r.0, r.1, r.2)

IsStop-ends : (file : List ℕ) (fault : LoneFault) → IsStop file fault → Ends file fault
IsStop-ends file fault s =
    at_stop (s.stops.size, s.stops.whole)
    (λ b. cut_stops_not file b.0 b.1 s.place s.bytes b.2 s.stops (none_from_fault s.bytes s.stop s.cannot)) s

not_balanced : (code : List Placed) (end : ℕ) (fault : LoneFault) → BreaksAt code end fault → IsBalanced code end → ⊥
not_balanced code end fault b all =
    elim b.how [ inl w ↦ (all b.place).0 w.0 | inr w ↦ (all b.place).1 w.0 ]

IsBroken-ends : (file : List ℕ) (fault : LoneFault) → IsBroken file fault → Ends file fault
IsBroken-ends file fault b =
    at_break (b.size, b.code, b.cut)
    (λ r. let same = one_cut file r.0 r.1 b.size b.code r.2 b.cut in
    not_balanced b.code (b.size + 1) fault b.breaks
    (subst (λ (xs : List Placed). IsBalanced xs (b.size + 1)) same.1
    (subst (λ (n : ℕ). IsBalanced r.1 (n + 1)) same.0 r.3)))
    b

short_ends : (file : List ℕ) (place size : ℕ) → HasHeader file size → length file < size + 1 → place ≡ length file → Ends file (Truncated place)
short_ends file place size h short is =
    at_length (size, h)
    (λ r. let same : r.0 ≡ size = one_size file r.0 size r.1.0 h in
    let whole : r.0 < length file = r.1.1 in
    absurd (omega arith))
    (ap Truncated is)

pub IsLoneFault-ends : (file : List ℕ) (fault : LoneFault) → IsLoneFault file fault → Ends file fault
IsLoneFault-ends file (BadHeader place) f = at_header (λ r. f.1 r.0 r.1) (ap BadHeader f.0)
IsLoneFault-ends file (Truncated place) f =
    elim f [
      | inl w ↦ short_ends file place w.0 w.1 w.2 w.3
      | inr w ↦ IsStop-ends file (Truncated place)
          (record { place = place; bytes = w.0; stop = TruncatedHere; stops = w.1; cannot = w.2; is = refl })
    ]
IsLoneFault-ends file (NotYet byte place) f =
    IsStop-ends file (NotYet byte place)
    (record { place = place; bytes = f.0; stop = NotYetHere byte; stops = f.1; cannot = f.2; is = refl })
IsLoneFault-ends file (Underflow place) f =
    IsBroken-ends file (Underflow place)
    (record {
      size = f.0.size;
      code = f.0.code;
      cut = f.0.cut;
      breaks = record { place = place; fine = f.0.fine; how = inl (f.1, refl) };
    })
IsLoneFault-ends file (BadReturn place) f =
    IsBroken-ends file (BadReturn place)
    (record {
      size = f.0.size;
      code = f.0.code;
      cut = f.0.cut;
      breaks = record { place = place; fine = f.0.fine; how = inr (f.1, refl) };
    })
IsLoneFault-ends file (Trailing place) f =
    let at_end : place ≡ f.0 + 1 = f.4 in
    let within : place < length file = f.5 in
    at_trail (f.0, f.1, f.2, f.3)
    (record {
      size = f.0;
      code = f.1;
      cut = f.2;
      balanced = f.3;
      longer = omega arith;
      is = ap Trailing at_end;
    })

one_stop_fault : (file : List ℕ) (fault other : LoneFault) → IsStop file fault → IsStop file other → fault ≡ other
one_stop_fault file fault other s t =
    let r = one_stop file s.place t.place s.bytes t.bytes s.stops (none_from_fault s.bytes s.stop s.cannot) t.stops (none_from_fault t.bytes t.stop t.cannot) in
    let errs : ◌≡◌ {A = Result Simple Stop} (Err s.stop) (Err t.stop) = sym s.cannot ∙ ap lone_at r.1 ∙ t.cannot in
    let stop : s.stop ≡ t.stop = cc in
    s.is ∙ ap (λ (x : Stop). stop_of x s.place) stop ∙ ap (λ (p : ℕ). stop_of t.stop p) r.0 ∙ sym t.is

one_broken_fault : (file : List ℕ) (fault other : LoneFault) → IsBroken file fault → IsBroken file other → fault ≡ other
one_broken_fault file fault other b d =
    let same = one_cut file d.size d.code b.size b.code d.cut b.cut in
    let by_size : BreaksAt d.code (b.size + 1) other = subst (λ (n : ℕ). BreaksAt d.code (n + 1) other) same.0 d.breaks in
    let by_code : BreaksAt b.code (b.size + 1) other = subst (λ (xs : List Placed). BreaksAt xs (b.size + 1) other) same.1 by_size in
    one_break b.code (b.size + 1) fault other (IsCut-consecutive file b.size b.code b.cut) b.breaks by_code

one_trail_fault : (file : List ℕ) (fault other : LoneFault) → IsTrailed file fault → IsTrailed file other → fault ≡ other
one_trail_fault file fault other t u =
    let same = one_cut file t.size t.code u.size u.code t.cut u.cut in
    t.is ∙ ap (λ n. Trailing (n + 1)) same.0 ∙ sym u.is

one_ending : (file : List ℕ) (fault other : LoneFault) → Ends file fault → Ends file other → fault ≡ other
one_ending file fault other (at_header n e) (at_header m g) = e ∙ sym g
one_ending file fault other (at_header n e) (at_length r m g) = absurd (n r)
one_ending file fault other (at_header n e) (at_stop r m g) = absurd (n (code_of_cut file r))
one_ending file fault other (at_header n e) (at_break r m g) = absurd (n (code_of_cut file (cut_of_end file r)))
one_ending file fault other (at_header n e) (at_trail r g) = absurd (n (code_of_cut file (cut_of_end file (balance_of_end file r))))
one_ending file fault other (at_length q n e) (at_header m g) = absurd (m q)
one_ending file fault other (at_length q n e) (at_length r m g) = e ∙ sym g
one_ending file fault other (at_length q n e) (at_stop r m g) = absurd (n r)
one_ending file fault other (at_length q n e) (at_break r m g) = absurd (n (cut_of_end file r))
one_ending file fault other (at_length q n e) (at_trail r g) = absurd (n (cut_of_end file (balance_of_end file r)))
one_ending file fault other (at_stop q n e) (at_header m g) = absurd (m (code_of_cut file q))
one_ending file fault other (at_stop q n e) (at_length r m g) = absurd (m q)
one_ending file fault other (at_stop q n e) (at_stop r m g) = one_stop_fault file fault other e g
one_ending file fault other (at_stop q n e) (at_break r m g) = absurd (n r)
one_ending file fault other (at_stop q n e) (at_trail r g) = absurd (n (balance_of_end file r))
one_ending file fault other (at_break q n e) (at_header m g) = absurd (m (code_of_cut file (cut_of_end file q)))
one_ending file fault other (at_break q n e) (at_length r m g) = absurd (m (cut_of_end file q))
one_ending file fault other (at_break q n e) (at_stop r m g) = absurd (m q)
one_ending file fault other (at_break q n e) (at_break r m g) = one_broken_fault file fault other e g
one_ending file fault other (at_break q n e) (at_trail r g) = absurd (n r)
one_ending file fault other (at_trail q e) (at_header m g) = absurd (m (code_of_cut file (cut_of_end file (balance_of_end file q))))
one_ending file fault other (at_trail q e) (at_length r m g) = absurd (m (cut_of_end file (balance_of_end file q)))
one_ending file fault other (at_trail q e) (at_stop r m g) = absurd (m (balance_of_end file q))
one_ending file fault other (at_trail q e) (at_break r m g) = absurd (m q)
one_ending file fault other (at_trail q e) (at_trail r g) = one_trail_fault file fault other e g

pub one_fault : (file : List ℕ) (fault other : LoneFault) → IsLoneFault file fault → IsLoneFault file other → fault ≡ other
one_fault file fault other f g =
    one_ending file fault other (IsLoneFault-ends file fault f) (IsLoneFault-ends file other g)

pub one_code : (file : List ℕ) (code other : List Placed) → IsLone file code → IsLone file other → code ≡ other
one_code file code other l m = (one_cut file l.size code m.size other l.cut m.cut).1

lone_ends_not : (file : List ℕ) (code : List Placed) (fault : LoneFault) → IsLone file code → Ends file fault → ⊥
lone_ends_not file code fault l (at_header n e) = n (l.size, l.cut.0.0)
lone_ends_not file code fault l (at_length r n e) = n (l.size, l.cut.0)
lone_ends_not file code fault l (at_stop r n e) = n (l.size, code, l.cut)
lone_ends_not file code fault l (at_break r n e) = n (l.size, code, l.cut, l.balanced)
lone_ends_not file code fault l (at_trail r t) =
    let same = one_cut file t.size t.code l.size code t.cut l.cut in
    let sizes : t.size ≡ l.size = same.0 in
    let longer : t.size + 1 < length file = t.longer in
    let ended : length file ≡ l.size + 1 = l.ended in
    absurd (omega arith)

pub no_fault : (file : List ℕ) (code : List Placed) (fault : LoneFault) → IsLone file code → IsLoneFault file fault → ⊥
no_fault file code fault l f = lone_ends_not file code fault l (IsLoneFault-ends file fault f)
