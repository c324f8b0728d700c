-- `InOrder` in one sentence: all causes are passed, or one has the fault and each before it is passed.
use Rattle.std.proofs.Common.{zero, suc, List, [], ◌∷◌, ◌++◌, All, Ok, Err, refl, sym, ap, subst, arith}
use Rattle.dc_causes.specs.Step.{Step, stop, go}
use Rattle.dc_causes.specs.Causes.{InOrder, IsFirstFault}
use Rattle.dc_causes.proofs.Single.{err_is, not_both}

pub all_more : {X : Type 0} (P : X → Type 0) (x : X) (xs : List X) → P x → All P xs → All P (x ∷ xs)
all_more P x xs p all = elim [ zero ↦ λ d lt. p | suc k ↦ λ d lt. all k d (omega (arith, lt)) ]

pub all_tail : {X : Type 0} (P : X → Type 0) (x : X) (xs : List X) → All P (x ∷ xs) → All P xs
all_tail P x xs all k d lt = all (suc k) d (omega (arith, lt))

pub all_head : {X : Type 0} (P : X → Type 0) (x : X) (xs : List X) → All P (x ∷ xs) → P x
all_head P x xs all = all 0 x (omega arith)

-- each cause is passed
pub passed : {C F : Type 0} (Asked : C → Step (Unit {0}) F) (causes : List C) → InOrder Asked causes (Ok tt) → All (λ c. Asked c (Ok tt)) causes
passed Asked [] p = λ k d lt. absurd (omega (arith, lt))
passed Asked (c ∷ causes) (stop f p e) = absurd (not_both tt f e)
passed Asked (c ∷ causes) (go a p n) = all_more (λ c. Asked c (Ok tt)) c causes p (passed Asked causes n)

pub passes : {C F : Type 0} (Asked : C → Step (Unit {0}) F) (causes : List C) → All (λ c. Asked c (Ok tt)) causes → InOrder Asked causes (Ok tt)
passes Asked [] all = refl
passes Asked (c ∷ causes) all =
    go tt (all_head (λ c. Asked c (Ok tt)) c causes all) (passes Asked causes (all_tail (λ c. Asked c (Ok tt)) c causes all))

-- a cause has the fault, and each before it is passed
pub first_fault : {C F : Type 0} (Asked : C → Step (Unit {0}) F) (causes : List C) (f : F) → InOrder Asked causes (Err f) → IsFirstFault Asked causes f
first_fault Asked [] f p = absurd (not_both tt f (sym p))
first_fault Asked (c ∷ causes) f (stop g p e) =
    record {
      before = [];
      first = c;
      behind = causes;
      among = refl;
      passed = λ k d lt. absurd (omega (arith, lt));
      fails = subst (λ x. Asked c (Err x)) (err_is g f (sym e)) p;
    }
first_fault Asked (c ∷ causes) f (go a p n) =
    let rest = first_fault Asked causes f n in
    record {
      before = c ∷ rest.before;
      first = rest.first;
      behind = rest.behind;
      among = ap (λ cs. c ∷ cs) rest.among;
      passed = all_more (λ c. Asked c (Ok tt)) c rest.before p rest.passed;
      fails = rest.fails;
    }

faults : {C F : Type 0} (Asked : C → Step (Unit {0}) F) (before : List C) (c : C) (behind : List C) (f : F) → All (λ c. Asked c (Ok tt)) before → Asked c (Err f) → InOrder Asked (before ++ (c ∷ behind)) (Err f)
faults Asked [] c behind f all p = stop f p refl
faults Asked (b ∷ before) c behind f all p =
    go tt (all_head (λ c. Asked c (Ok tt)) b before all)
    (faults Asked before c behind f (all_tail (λ c. Asked c (Ok tt)) b before all) p)

pub fault_there : {C F : Type 0} (Asked : C → Step (Unit {0}) F) (causes : List C) (f : F) → IsFirstFault Asked causes f → InOrder Asked causes (Err f)
fault_there {C} Asked causes f first =
    subst (λ (cs : List C). InOrder Asked cs (Err f)) (sym first.among) (faults Asked first.before first.first first.behind f first.passed first.fails)
