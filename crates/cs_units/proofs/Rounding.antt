-- A choice, and rounds that there is always room for, with more levels.
use Rattle.std.proofs.Common.{◌≡◌, inl, inr, ℕ, zero, suc, ◌<◌, ◌≤◌, Bool, true, false, cond, List, [], ◌++◌, length, refl, sym, ◌∙◌, subst, Ok, Err, arith}
use Rattle.cs_token.specs.Placed.{Placed as Token}
use Rattle.cs_grammar.specs.Kinds.{disjoint, subset}
use Rattle.cs_grammar.specs.Grammar.{Read, Grammar, and_then, choice, turns, read_rounds}
use Rattle.cs_grammar.specs.Whole.{left_of, Deeper}
use Rattle.cs_grammar.proofs.Basics.{not_both}
use Rattle.cs_grammar.proofs.Bind.{and_then-ok, and_then-err, both_of, fails_in}
use Rattle.cs_grammar.proofs.Limited.{choose}
use Rattle.cs_grammar.proofs.Turns.{turn, stops, too_deep, goes, stop, round, repeat}
use Rattle.cs_grammar.proofs.Deeper.{left_within, deeper_choose}
use Rattle.cs_productions.specs.Tokens.{kind}
use Rattle.cs_productions.proofs.Growing.{Grows, grows}

pub grows_choose : {A : Type 0} {g wide h further : Grammar Token A} {xs ys v w : List ℕ} {null : Bool} (first : List ℕ) (may : Bool) → subset xs first ≡ true → disjoint first ys ≡ true → Grows g wide xs v false → Grows h further ys w null → Grows (choice kind may first g h) (choice kind may first wide further) (xs ++ ys) (v ++ (w ++ cond null first [])) null
grows_choose first may s d z y = grows (deeper_choose kind first may z.deeper y.deeper) (choose first may s d z.exact y.exact)

left_then : {A B : Type 0} (r : Read Token A) (k : A → List Token → Read Token B) → ((a : A) (mid : List Token) → left_of (k a mid) ≤ length mid) → left_of (and_then r k) ≤ left_of r
left_then (Ok p) k h = h p.0 p.1
left_then (Err e) k h = omega arith

-- rounds that there is always room for
module _ {A : Type 0} (first : List ℕ) (f further : A → Grammar Token A) (d : (a : A) → Deeper (f a) (further a)) (y : (a : A) (ts : List Token) → left_of ((further a).reads ts) ≤ length ts) where
  abbrev rounds_of : ℕ → A → List Token → Read Token A
  rounds_of = read_rounds kind first (λ _. true) f

  abbrev wider_rounds : ℕ → A → List Token → Read Token A
  wider_rounds = read_rounds kind first (λ _. true) further

  never : {B : Type 0} → (let p : Bool = true in p) ≡ false → B
  never e = absurd (cc)

  within : (k : ℕ) (a : A) (ts : List Token) → left_of (wider_rounds k a ts) ≤ length ts
  within zero a ts = omega arith
  within (suc k) a ts =
      elim (turn kind first (λ _. true) further k a ts (wider_rounds (suc k) a ts) refl) [
        | stops x h ↦ subst (λ (r : Read Token A). left_of r ≤ length ts) h (omega arith)
        | too_deep x o h ↦ never o
        | goes x o h ↦
            let first_left : left_of (and_then ((further a).reads ts) (wider_rounds k)) ≤ left_of ((further a).reads ts) = left_then ((further a).reads ts) (wider_rounds k) (within k) in
            let all : left_of (and_then ((further a).reads ts) (wider_rounds k)) ≤ length ts = omega (arith, y a ts) in
            subst (λ (r : Read Token A). left_of r ≤ length ts) h all
      ]

  same : (k : ℕ) (a : A) (ts : List Token) (c : A) (rest : List Token) → rounds_of k a ts ≡ Ok (c, rest) → wider_rounds k a ts ≡ Ok (c, rest)
  same zero a ts c rest e = e
  same (suc k) a ts c rest e =
      elim (turn kind first (λ _. true) f k a ts (Ok (c, rest)) e) [
        | stops x h ↦ stop kind first (λ _. true) further (suc k) a ts x ∙ h
        | too_deep x o h ↦ never o
        | goes x o h ↦
            let p = both_of ((f a).reads ts) (rounds_of k) c rest h in
            round kind first (λ _. true) further k a ts x refl
            ∙ (and_then-ok ((further a).reads ts) p.value p.mid (wider_rounds k) ((d a).same ts p.value p.mid p.one) ∙ same k p.value p.mid c rest p.other)
      ]

  parse : (k : ℕ) (a : A) (ts left : List Token) → rounds_of k a ts ≡ Err (false, left) → wider_rounds k a ts ≡ Err (false, left)
  parse zero a ts left e = absurd (not_both (a, ts) (false, left) e)
  parse (suc k) a ts left e =
      elim (turn kind first (λ _. true) f k a ts (Err (false, left)) e) [
        | stops x h ↦ absurd (not_both (a, ts) (false, left) h)
        | too_deep x o h ↦ never o
        | goes x o h ↦
            elim (fails_in ((f a).reads ts) (rounds_of k) false left h) [
              | inl g ↦
                  round kind first (λ _. true) further k a ts x refl ∙ and_then-err ((further a).reads ts) false left (wider_rounds k) ((d a).parse ts left g)
              | inr s ↦
                  round kind first (λ _. true) further k a ts x refl
                  ∙ (and_then-ok ((further a).reads ts) s.value s.mid (wider_rounds k) ((d a).same ts s.value s.mid s.one) ∙ parse k s.value s.mid left s.other)
            ]
      ]

  deep : (k : ℕ) (a : A) (ts left : List Token) → rounds_of k a ts ≡ Err (true, left) → left_of (wider_rounds k a ts) < length left
  deep zero a ts left e = absurd (not_both (a, ts) (true, left) e)
  deep (suc k) a ts left e =
      elim (turn kind first (λ _. true) f k a ts (Err (true, left)) e) [
        | stops x h ↦ absurd (not_both (a, ts) (true, left) h)
        | too_deep x o h ↦ never o
        | goes x o h ↦
            elim (fails_in ((f a).reads ts) (rounds_of k) true left h) [
              | inl g ↦
                  let lt = (d a).deep ts left g in
                  let second = left_then ((further a).reads ts) (wider_rounds k) (within k) in
                  let all : left_of (and_then ((further a).reads ts) (wider_rounds k)) < length left = omega arith in
                  subst (λ (r : Read Token A). left_of r < length left) (sym (round kind first (λ _. true) further k a ts x refl)) all
              | inr s ↦
                  let there = round kind first (λ _. true) further k a ts x refl ∙ and_then-ok ((further a).reads ts) s.value s.mid (wider_rounds k) ((d a).same ts s.value s.mid s.one) in
                  subst (λ (r : Read Token A). left_of r < length left) (sym there) (deep k s.value s.mid left s.other)
            ]
      ]

pub grows_rounds : {A : Type 0} {f further : A → Grammar Token A} {ys w : List ℕ} (first : List ℕ) (a : A) → subset ys first ≡ true → disjoint w ys ≡ true → ((b : A) → Grows (f b) (further b) ys w false) → Grows (turns kind first (λ _. true) f a) (turns kind first (λ _. true) further a) ys (w ++ first) true
grows_rounds {A = A} {f = f} {further = further} first a s d z =
    let lies : (b : A) (ts : List Token) → left_of ((further b).reads ts) ≤ length ts = λ b ts. left_within (z b).exact ts in
    let deeper : (b : A) → Deeper (f b) (further b) = λ b. (z b).deeper in
    grows
    (record {
      same = λ ts c rest e. same first f further deeper lies (length ts) a ts c rest e;
      parse = λ ts left e. parse first f further deeper lies (length ts) a ts left e;
      deep = λ ts left e. deep first f further deeper lies (length ts) a ts left e;
    })
    (repeat first (λ _. true) a s d (λ b. (z b).exact))
