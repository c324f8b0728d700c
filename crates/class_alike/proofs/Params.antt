-- Two lists of parameters, compared one by one.
use Rattle.std.proofs.Common.{◌≡◌, ℕ, suc, ◌+◌, ◌<◌, ◌≤◌, Bool, List, [], ◌∷◌, length, drop, get_or, sym, refl, ap, subst, add-one, drop-cons}
use Rattle.std.proofs.Math.ListN.{drop_of_length-le}
use Rattle.class_rows.specs.declared.row.Param.{Param}
use Rattle.class_rows.specs.Implemented.{AreOneList, IsOneWay}

-- two parameters of one type, in one way
abbrev pub IsOne : Bool → Param → Param → Type 0
IsOne across p q = (p.ty ≡ q.ty) × IsOneWay across p.way q.way

pub as_long : (across : Bool) (ps qs : List Param) → AreOneList across ps qs → length ps ≡ length qs
as_long across [] [] one = refl
as_long across (p ∷ ps) (q ∷ qs) one = ap suc (as_long across ps qs one.2)
as_long across [] (q ∷ qs) one = absurd one
as_long across (p ∷ ps) [] one = absurd one

-- the first k are one, and the others are still to be compared
pub record IsRest (across : Bool) (ps qs : List Param) (k : ℕ) : Type 0 where
  pub to_ : AreOneList across (drop k ps) (drop k qs) → AreOneList across ps qs
  pub back : AreOneList across ps qs → AreOneList across (drop k ps) (drop k qs)

pub rest_begins : (across : Bool) (ps qs : List Param) → IsRest across ps qs 0
rest_begins across ps qs = record { to_ = λ one. one; back = λ one. one }

next : (ps : List Param) (k : ℕ) (d : Param) → k < length ps → drop k ps ≡ get_or ps k d ∷ drop (k + 1) ps
next ps k d lt = rw (add-one, drop-cons ps k d) refl

both : (across : Bool) (ps qs xs ys : List Param) → ps ≡ xs → qs ≡ ys → AreOneList across ps qs → AreOneList across xs ys
both across ps qs xs ys e f one = subst (λ (zs : List Param). AreOneList across xs zs) f (subst (λ (zs : List Param). AreOneList across zs qs) e one)

pub rest_on : (across : Bool) (ps qs : List Param) (k : ℕ) (d e : Param) → k < length ps → k < length qs → IsRest across ps qs k → IsOne across (get_or ps k d) (get_or qs k e) → IsRest across ps qs (k + 1)
rest_on across ps qs k d e lt short rest one = record {
  to_ = λ more. rest.to_ (both across _ _ _ _ (sym (next ps k d lt)) (sym (next qs k e short)) (one.0, one.1, more));
  back = λ whole. (both across _ _ _ _ (next ps k d lt) (next qs k e short) (rest.back whole)).2;
}

pub rest_breaks : (across : Bool) (ps qs : List Param) (k : ℕ) (d e : Param) → k < length ps → k < length qs → IsRest across ps qs k → (IsOne across (get_or ps k d) (get_or qs k e) → ⊥) → AreOneList across ps qs → ⊥
rest_breaks across ps qs k d e lt short rest off whole =
    let one = both across _ _ _ _ (next ps k d lt) (next qs k e short) (rest.back whole) in
    off (one.0, one.1)

pub rest_ends : (across : Bool) (ps qs : List Param) (k : ℕ) → length ps ≤ k → length qs ≤ k → IsRest across ps qs k → AreOneList across ps qs
rest_ends across ps qs k long as_long_ rest = rest.to_ (both across _ _ _ _ (sym (drop_of_length-le ps long)) (sym (drop_of_length-le qs as_long_)) tt)
