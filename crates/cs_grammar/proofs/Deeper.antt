-- More levels read no less, and get further where there were too few.
use Rattle.std.proofs.Common.{◌≡◌, inl, inr, ℕ, zero, suc, ◌<◌, ◌≤◌, Bool, true, false, cond, List, [], ◌∷◌, ◌++◌, length, refl, sym, ◌∙◌, ap, subst, Ok, Err, arith}
use Rattle.std.proofs.lemmas.List.{length-append}
use Rattle.cs_grammar.specs.Kinds.{begins}
use Rattle.cs_grammar.specs.Grammar.{Read, Grammar, gives, one, read_one, and_then, bind, either, limited, guarded, choice, turns, read_rounds}
use Rattle.cs_grammar.specs.Exact.{Exact}
use Rattle.cs_grammar.specs.Whole.{left_of, Deeper}
use Rattle.cs_grammar.specs.Levels.{Yields, Enters}
use Rattle.cs_grammar.proofs.Basics.{err, ok_value, err_deep, err_left, not_both, one_left, read_one-is}
use Rattle.cs_grammar.proofs.Bind.{and_then-ok, and_then-err, both_of, fails_in}
use Rattle.cs_grammar.proofs.Turns.{turn, stops, too_deep, goes, stop, round}

-- what is left is no more than there was

pub left_within : {T A : Type 0} {kind : T → ℕ} {g : Grammar T A} {xs v : List ℕ} {n : Bool} → Exact kind g xs v n → (ts : List T) → left_of (g.reads ts) ≤ length ts
left_within {T = T} {A = A} {g = g} x ts = by_case (g.reads ts) refl
  where
    by_case : (r : Read T A) → g.reads ts ≡ r → left_of r ≤ length ts
    by_case (Ok p) e = let m = x.moves ts p.0 p.1 e in let n : length ts ≡ length (m.front ++ p.1) = ap length m.split in omega (arith, length-append m.front p.1)
    by_case (Err p) e = let k = x.stuck ts p.0 p.1 e in let n : length ts ≡ length (k.front ++ p.1) = ap length k.split in omega (arith, length-append k.front p.1)

left_then : {T A B : Type 0} (r : Read T A) (k : A → List T → Read T B) → ((a : A) (mid : List T) → left_of (k a mid) ≤ length mid) → left_of (and_then r k) ≤ left_of r
left_then (Ok p) k h = h p.0 p.1
left_then (Err e) k h = omega arith

rounds_within : {T A : Type 0} (kind : T → ℕ) (first : List ℕ) (room : A → Bool) (f : A → Grammar T A) → ((a : A) (ts : List T) → left_of ((f a).reads ts) ≤ length ts) → (k : ℕ) (a : A) (ts : List T) → left_of (read_rounds kind first room f k a ts) ≤ length ts
rounds_within kind first room f y zero a ts = omega arith
rounds_within {T = T} {A = A} kind first room f y (suc k) a ts =
    elim (turn kind first room f k a ts (read_rounds kind first room f (suc k) a ts) refl) [
      | stops x h ↦ subst (λ (r : Read T A). left_of r ≤ length ts) h (omega arith)
      | too_deep x o h ↦ subst (λ (r : Read T A). left_of r ≤ length ts) h (omega arith)
      | goes x o h ↦
          let first_left : left_of (and_then ((f a).reads ts) (read_rounds kind first room f k)) ≤ left_of ((f a).reads ts) =
          left_then ((f a).reads ts) (read_rounds kind first room f k) (rounds_within kind first room f y k)
          in
          let all : left_of (and_then ((f a).reads ts) (read_rounds kind first room f k)) ≤ length ts = omega (arith, y a ts) in
          subst (λ (r : Read T A). left_of r ≤ length ts) h all
    ]

-- what a next token enters

pub enters_one : {T A : Type 0} {kind : T → ℕ} (kinds : List ℕ) (f : T → A) → Enters kind kinds (one kind kinds f)
enters_one {T = T} {A = A} {kind = kind} kinds f = record { enters = enters }
  where
    enters : (ts : List T) → begins kind kinds ts ≡ true → left_of (read_one kind kinds f ts) < length ts
    enters [] e = cc
    enters (t ∷ ts) e = rw (read_one-is kind kinds f t ts e) (omega arith)

pub enters_then : {T A B : Type 0} {kind : T → ℕ} {kinds : List ℕ} {g : Grammar T A} {f : A → Grammar T B} {ys w : List ℕ} {n : Bool} → Enters kind kinds g → ((a : A) → Exact kind (f a) ys w n) → Enters kind kinds (bind g f)
enters_then {g = g} {f = f} h y =
    record {
      enters = λ ts e.
          let second = left_then (g.reads ts) (λ a mid. (f a).reads mid) (λ a mid. left_within (y a) mid) in
          let first = h.enters ts e in
          omega arith;
    }

-- the values that are read

pub yields_any : {T A : Type 0} (g : Grammar T A) → Yields (λ _. Unit {0}) g
yields_any g = record { yields = λ ts a rest e. tt }

pub yields_gives : {T A : Type 0} {P : A → Type 0} (a : A) → P a → Yields {T = T} P (gives a)
yields_gives {P = P} a p = record { yields = λ ts b rest e. subst P (ok_value (a, ts) (b, rest) e) p }

pub yields_then : {T A B : Type 0} {Q : A → Type 0} {P : B → Type 0} {g : Grammar T A} {f : A → Grammar T B} → Yields Q g → ((a : A) → Q a → Yields P (f a)) → Yields P (bind g f)
yields_then {g = g} {f = f} q p =
    record {
      yields = λ ts b rest e.
          let s = both_of (g.reads ts) (λ a mid. (f a).reads mid) b rest e in
          (p s.value (q.yields ts s.value s.mid s.one)).yields s.mid b rest s.other;
    }

pub yields_or : {T A : Type 0} {P : A → Type 0} {g h : Grammar T A} (kind : T → ℕ) (first : List ℕ) → Yields P g → Yields P h → Yields P (either kind first g h)
yields_or {T = T} {A = A} {P = P} {g = g} {h = h} kind first p q = record { yields = λ ts a rest e. by_case ts a rest (begins kind first ts) e }
  where
    by_case : (ts : List T) (a : A) (rest : List T) (b : Bool) → cond b (g.reads ts) (h.reads ts) ≡ Ok (a, rest) → P a
    by_case ts a rest true e = p.yields ts a rest e
    by_case ts a rest false e = q.yields ts a rest e

pub yields_limit : {T A : Type 0} {P : A → Type 0} {h : Grammar T A} (kind : T → ℕ) (kinds : List ℕ) → Yields P h → Yields P (limited kind kinds h)
yields_limit {T = T} {A = A} {P = P} {h = h} kind kinds q = record { yields = λ ts a rest e. by_case ts a rest (begins kind kinds ts) e }
  where
    by_case : (ts : List T) (a : A) (rest : List T) (b : Bool) → cond b (err (true, ts)) (h.reads ts) ≡ Ok (a, rest) → P a
    by_case ts a rest true e = absurd (not_both (a, rest) (true, ts) (sym e))
    by_case ts a rest false e = q.yields ts a rest e

pub yields_guard : {T A : Type 0} {P : A → Type 0} {g h : Grammar T A} (kind : T → ℕ) (first : List ℕ) (room : Bool) → Yields P g → Yields P h → Yields P (guarded kind room first g h)
yields_guard kind first true p q = yields_or kind first p q
yields_guard kind first false p q = yields_limit kind first q

pub yields_choose : {T A : Type 0} {P : A → Type 0} {g h : Grammar T A} (kind : T → ℕ) (first : List ℕ) (may : Bool) → Yields P g → Yields P h → Yields P (choice kind may first g h)
yields_choose kind first true p q = yields_or kind first p q
yields_choose kind first false p q = q

rounds_yield : {T A : Type 0} (P : A → Type 0) (kind : T → ℕ) (first : List ℕ) (room : A → Bool) (f : A → Grammar T A) → ((b : A) → P b → room b ≡ true → Yields P (f b)) → (k : ℕ) (a : A) (ts : List T) (c : A) (rest : List T) → P a → read_rounds kind first room f k a ts ≡ Ok (c, rest) → P c
rounds_yield P kind first room f y zero a ts c rest p e = subst P (ok_value (a, ts) (c, rest) e) p
rounds_yield P kind first room f y (suc k) a ts c rest p e =
    elim (turn kind first room f k a ts (Ok (c, rest)) e) [
      | stops x h ↦ subst P (ok_value (a, ts) (c, rest) h) p
      | too_deep x o h ↦ absurd (not_both (c, rest) (true, ts) (sym h))
      | goes x o h ↦
          let s = both_of ((f a).reads ts) (read_rounds kind first room f k) c rest h in
          rounds_yield P kind first room f y k s.value s.mid c rest ((y a p o).yields ts s.value s.mid s.one) s.other
    ]

pub yields_turns : {T A : Type 0} {P : A → Type 0} {f : A → Grammar T A} (kind : T → ℕ) (first : List ℕ) (room : A → Bool) (a : A) → P a → ((b : A) → P b → room b ≡ true → Yields P (f b)) → Yields P (turns kind first room f a)
yields_turns {P = P} {f = f} kind first room a p y = record { yields = λ ts c rest e. rounds_yield P kind first room f y (length ts) a ts c rest p e }

-- more levels

true_not : true ≡ false → ⊥
true_not e = cc

pub deeper_gives : {T A : Type 0} (a : A) → Deeper {T = T} (gives a) (gives a)
deeper_gives a =
    record {
      same = λ ts b rest e. e;
      parse = λ ts left e. e;
      deep = λ ts left e. absurd (not_both (a, ts) (true, left) e);
    }

pub deeper_one : {T A : Type 0} (kind : T → ℕ) (kinds : List ℕ) (f : T → A) → Deeper (one kind kinds f) (one kind kinds f)
deeper_one kind kinds f =
    record {
      same = λ ts b rest e. e;
      parse = λ ts left e. e;
      deep = λ ts left e. absurd (true_not (one_left kind kinds f ts true left e).0);
    }

pub deeper_then : {T A B : Type 0} {P : A → Type 0} {kind : T → ℕ} {g wide : Grammar T A} {f further : A → Grammar T B} {ys w : List ℕ} {n : Bool} → Deeper g wide → Yields P g → ((a : A) → P a → Deeper (f a) (further a)) → ((a : A) → Exact kind (further a) ys w n) → Deeper (bind g f) (bind wide further)
deeper_then {T = T} {A = A} {B = B} {g = g} {wide = wide} {f = f} {further = further} d p e y =
    record { same = same; parse = parse; deep = deep }
  where
    next : A → List T → Read T B
    next a mid = (f a).reads mid

    on : A → List T → Read T B
    on a mid = (further a).reads mid

    same : (ts : List T) (b : B) (rest : List T) → (bind g f).reads ts ≡ Ok (b, rest) → (bind wide further).reads ts ≡ Ok (b, rest)
    same ts b rest h =
        let s = both_of (g.reads ts) next b rest h in
        and_then-ok (wide.reads ts) s.value s.mid on (d.same ts s.value s.mid s.one) ∙ (e s.value (p.yields ts s.value s.mid s.one)).same s.mid b rest s.other

    parse : (ts left : List T) → (bind g f).reads ts ≡ Err (false, left) → (bind wide further).reads ts ≡ Err (false, left)
    parse ts left h =
        elim (fails_in (g.reads ts) next false left h) [
          | inl k ↦ and_then-err (wide.reads ts) false left on (d.parse ts left k)
          | inr s ↦
              and_then-ok (wide.reads ts) s.value s.mid on (d.same ts s.value s.mid s.one) ∙ (e s.value (p.yields ts s.value s.mid s.one)).parse s.mid left s.other
        ]

    deep : (ts left : List T) → (bind g f).reads ts ≡ Err (true, left) → left_of ((bind wide further).reads ts) < length left
    deep ts left h =
        elim (fails_in (g.reads ts) next true left h) [
          | inl k ↦
              let second = left_then (wide.reads ts) on (λ a mid. left_within (y a) mid) in
              let first = d.deep ts left k in
              omega arith
          | inr s ↦
              let there = and_then-ok (wide.reads ts) s.value s.mid on (d.same ts s.value s.mid s.one) in
              subst (λ (r : Read T B). left_of r < length left) (sym there) ((e s.value (p.yields ts s.value s.mid s.one)).deep s.mid left s.other)
        ]

pub deeper_or : {T A : Type 0} {g wide h further : Grammar T A} (kind : T → ℕ) (first : List ℕ) → Deeper g wide → Deeper h further → Deeper (either kind first g h) (either kind first wide further)
deeper_or {T = T} {A = A} {g = g} {wide = wide} {h = h} {further = further} kind first d e =
    record {
      same = λ ts a rest k. same ts a rest (begins kind first ts) k;
      parse = λ ts left k. parse ts left (begins kind first ts) k;
      deep = λ ts left k. deep ts left (begins kind first ts) k;
    }
  where
    same : (ts : List T) (a : A) (rest : List T) (b : Bool) → cond b (g.reads ts) (h.reads ts) ≡ Ok (a, rest) → cond b (wide.reads ts) (further.reads ts) ≡ Ok (a, rest)
    same ts a rest true k = d.same ts a rest k
    same ts a rest false k = e.same ts a rest k

    parse : (ts left : List T) (b : Bool) → cond b (g.reads ts) (h.reads ts) ≡ Err (false, left) → cond b (wide.reads ts) (further.reads ts) ≡ Err (false, left)
    parse ts left true k = d.parse ts left k
    parse ts left false k = e.parse ts left k

    deep : (ts left : List T) (b : Bool) → cond b (g.reads ts) (h.reads ts) ≡ Err (true, left) → left_of (cond b (wide.reads ts) (further.reads ts)) < length left
    deep ts left true k = d.deep ts left k
    deep ts left false k = e.deep ts left k

pub deeper_limit : {T A : Type 0} {kind : T → ℕ} {wide h further : Grammar T A} (first : List ℕ) → Enters kind first wide → Deeper h further → Deeper (limited kind first h) (either kind first wide further)
deeper_limit {T = T} {A = A} {kind = kind} {wide = wide} {h = h} {further = further} first n e =
    record {
      same = λ ts a rest k. same ts a rest (begins kind first ts) k;
      parse = λ ts left k. parse ts left (begins kind first ts) k;
      deep = λ ts left k. deep ts left (begins kind first ts) refl k;
    }
  where
    same : (ts : List T) (a : A) (rest : List T) (b : Bool) → cond b (err (true, ts)) (h.reads ts) ≡ Ok (a, rest) → cond b (wide.reads ts) (further.reads ts) ≡ Ok (a, rest)
    same ts a rest true k = absurd (not_both (a, rest) (true, ts) (sym k))
    same ts a rest false k = e.same ts a rest k

    parse : (ts left : List T) (b : Bool) → cond b (err (true, ts)) (h.reads ts) ≡ Err (false, left) → cond b (wide.reads ts) (further.reads ts) ≡ Err (false, left)
    parse ts left true k = absurd (true_not (err_deep A (true, ts) (false, left) k))
    parse ts left false k = e.parse ts left k

    deep : (ts left : List T) (b : Bool) → begins kind first ts ≡ b → cond b (err (true, ts)) (h.reads ts) ≡ Err (true, left) → left_of (cond b (wide.reads ts) (further.reads ts)) < length left
    deep ts left true x k = subst (λ (us : List T). left_of (wide.reads ts) < length us) (err_left A (true, ts) (true, left) k) (n.enters ts x)
    deep ts left false x k = e.deep ts left k

pub deeper_guard : {T A : Type 0} {kind : T → ℕ} {g wide h further : Grammar T A} (first : List ℕ) (room : Bool) → Enters kind first wide → Deeper g wide → Deeper h further → Deeper (guarded kind room first g h) (either kind first wide further)
deeper_guard {kind = kind} first true n d e = deeper_or kind first d e
deeper_guard first false n d e = deeper_limit first n e

pub deeper_choose : {T A : Type 0} {g wide h further : Grammar T A} (kind : T → ℕ) (first : List ℕ) (may : Bool) → Deeper g wide → Deeper h further → Deeper (choice kind may first g h) (choice kind may first wide further)
deeper_choose kind first true d e = deeper_or kind first d e
deeper_choose kind first false d e = e

rounds_same : {T A : Type 0} (P : A → Type 0) (kind : T → ℕ) (first : List ℕ) (room more : A → Bool) (f further : A → Grammar T A) → ((b : A) → P b → more b ≡ true) → ((b : A) → P b → room b ≡ true → Yields P (f b)) → ((b : A) → P b → Deeper (f b) (further b)) → (k : ℕ) (a : A) (ts : List T) (c : A) (rest : List T) → P a → read_rounds kind first room f k a ts ≡ Ok (c, rest) → read_rounds kind first more further k a ts ≡ Ok (c, rest)
rounds_same P kind first room more f further m v d zero a ts c rest p e = e
rounds_same P kind first room more f further m v d (suc k) a ts c rest p e =
    elim (turn kind first room f k a ts (Ok (c, rest)) e) [
      | stops x h ↦ stop kind first more further (suc k) a ts x ∙ h
      | too_deep x o h ↦ absurd (not_both (c, rest) (true, ts) (sym h))
      | goes x o h ↦
          let s = both_of ((f a).reads ts) (read_rounds kind first room f k) c rest h in
          round kind first more further k a ts x (m a p)
          ∙ (and_then-ok ((further a).reads ts) s.value s.mid (read_rounds kind first more further k) ((d a p).same ts s.value s.mid s.one)
          ∙ rounds_same P kind first room more f further m v d k s.value s.mid c rest ((v a p o).yields ts s.value s.mid s.one) s.other)
    ]

rounds_parse : {T A : Type 0} (P : A → Type 0) (kind : T → ℕ) (first : List ℕ) (room more : A → Bool) (f further : A → Grammar T A) → ((b : A) → P b → more b ≡ true) → ((b : A) → P b → room b ≡ true → Yields P (f b)) → ((b : A) → P b → Deeper (f b) (further b)) → (k : ℕ) (a : A) (ts left : List T) → P a → read_rounds kind first room f k a ts ≡ Err (false, left) → read_rounds kind first more further k a ts ≡ Err (false, left)
rounds_parse P kind first room more f further m v d zero a ts left p e = absurd (not_both (a, ts) (false, left) e)
rounds_parse {A = A} P kind first room more f further m v d (suc k) a ts left p e =
    elim (turn kind first room f k a ts (Err (false, left)) e) [
      | stops x h ↦ absurd (not_both (a, ts) (false, left) h)
      | too_deep x o h ↦ absurd (true_not (err_deep A (true, ts) (false, left) h))
      | goes x o h ↦
          elim (fails_in ((f a).reads ts) (read_rounds kind first room f k) false left h) [
            | inl g ↦
                round kind first more further k a ts x (m a p) ∙ and_then-err ((further a).reads ts) false left (read_rounds kind first more further k) ((d a p).parse ts left g)
            | inr s ↦
                round kind first more further k a ts x (m a p)
                ∙ (and_then-ok ((further a).reads ts) s.value s.mid (read_rounds kind first more further k) ((d a p).same ts s.value s.mid s.one)
                ∙ rounds_parse P kind first room more f further m v d k s.value s.mid left ((v a p o).yields ts s.value s.mid s.one) s.other)
          ]
    ]

rounds_deep : {T A : Type 0} (P : A → Type 0) (kind : T → ℕ) (first : List ℕ) (room more : A → Bool) (f further : A → Grammar T A) → ((b : A) → P b → more b ≡ true) → ((b : A) → P b → room b ≡ true → Yields P (f b)) → ((b : A) → P b → Deeper (f b) (further b)) → ((b : A) → Enters kind first (further b)) → ((b : A) (ts : List T) → left_of ((further b).reads ts) ≤ length ts) → (k : ℕ) (a : A) (ts left : List T) → P a → read_rounds kind first room f k a ts ≡ Err (true, left) → left_of (read_rounds kind first more further k a ts) < length left
rounds_deep P kind first room more f further m v d n y zero a ts left p e = absurd (not_both (a, ts) (true, left) e)
rounds_deep {T = T} {A = A} P kind first room more f further m v d n y (suc k) a ts left p e =
    elim (turn kind first room f k a ts (Err (true, left)) e) [
      | stops x h ↦ absurd (not_both (a, ts) (true, left) h)
      | too_deep x o h ↦
          let enters = (n a).enters ts x in
          let here : length ts ≡ length left = ap length (err_left A (true, ts) (true, left) h) in
          wide_left x (omega arith)
      | goes x o h ↦
          elim (fails_in ((f a).reads ts) (read_rounds kind first room f k) true left h) [
            | inl g ↦ wide_left x ((d a p).deep ts left g)
            | inr s ↦
                let there = round kind first more further k a ts x (m a p) ∙ and_then-ok ((further a).reads ts) s.value s.mid (read_rounds kind first more further k) ((d a p).same ts s.value s.mid s.one) in
                subst (λ (r : Read T A). left_of r < length left) (sym there)
                (rounds_deep P kind first room more f further m v d n y k s.value s.mid left ((v a p o).yields ts s.value s.mid s.one) s.other)
          ]
    ]
  where
    wide_left : begins kind first ts ≡ true → left_of ((further a).reads ts) < length left → left_of (read_rounds kind first more further (suc k) a ts) < length left
    wide_left x lt =
        let second = left_then ((further a).reads ts) (read_rounds kind first more further k) (rounds_within kind first more further y k) in
        let all : left_of (and_then ((further a).reads ts) (read_rounds kind first more further k)) < length left = omega arith in
        subst (λ (r : Read T A). left_of r < length left) (sym (round kind first more further k a ts x (m a p))) all

-- rounds, where the wide one has room for each value of the other
pub deeper_turns : {T A : Type 0} {P : A → Type 0} {kind : T → ℕ} {f further : A → Grammar T A} {ys w : List ℕ} {n : Bool} (first : List ℕ) (room more : A → Bool) (a : A) → P a → ((b : A) → P b → more b ≡ true) → ((b : A) → P b → room b ≡ true → Yields P (f b)) → ((b : A) → P b → Deeper (f b) (further b)) → ((b : A) → Enters kind first (further b)) → ((b : A) → Exact kind (further b) ys w n) → Deeper (turns kind first room f a) (turns kind first more further a)
deeper_turns {T = T} {A = A} {P = P} {kind = kind} {f = f} {further = further} first room more a p m v d n y =
    record {
      same = λ ts c rest e. rounds_same P kind first room more f further m v d (length ts) a ts c rest p e;
      parse = λ ts left e. rounds_parse P kind first room more f further m v d (length ts) a ts left p e;
      deep = λ ts left e. rounds_deep P kind first room more f further m v d n (λ b us. left_within (y b) us) (length ts) a ts left p e;
    }
