-- Rests of texts.
use Rattle.std.proofs.Common.{◌≡◌, ℕ, ◌<◌, ◌≤◌, Bool, true, false, cond, List, [], ◌∷◌, ◌++◌, refl, sym, ◌∙◌, ap, length, length-append, arith}
use Rattle.std.specs.Prelude.{Option, Some, None, IfSome}
use Rattle.std.specs.Str.{chars}
use Rattle.std.proofs.lemmas.List.{append_assoc}
use Rattle.cs_token.specs.Words.{behind}
use Rattle.cs_token.specs.Pieces.{Follows, Passes, Starts}

pub itself : (text : List ℕ) → Follows text text
itself text = record { front = []; whole = refl }

pub onward : (rest mid text : List ℕ) → Follows rest mid → Follows mid text → Follows rest text
onward rest mid text a b = record { front = b.front ++ a.front; whole = b.whole ∙ (ap (λ m. b.front ++ m) a.whole ∙ sym (append_assoc b.front a.front rest)) }

pub past : (rest mid text : List ℕ) → Passes rest mid → Passes mid text → Passes rest text
past rest mid text a b =
    let l = a.shorter in
    let m = b.shorter in
    record { ends = onward rest mid text a.ends b.ends; shorter = omega arith }

pub past_on : (rest mid text : List ℕ) → Passes rest mid → Follows mid text → Passes rest text
past_on rest mid text a b =
    let l = a.shorter in
    let size = ap length b.whole ∙ length-append b.front mid in
    record { ends = onward rest mid text a.ends b; shorter = omega arith }

past_by : (rest text front : List ℕ) → text ≡ front ++ rest → length (chars rest) < length (chars text) → length rest < length text
past_by rest text [] e h =
    let same : length (chars text) ≡ length (chars rest) = ap (λ t. length (chars t)) e in
    absurd (omega arith)
past_by rest text (b ∷ front) e h =
    let size = ap length e ∙ length-append (b ∷ front) rest in
    omega arith

pub past_by_chars : (rest text : List ℕ) → Follows rest text → length (chars rest) < length (chars text) → Passes rest text
past_by_chars rest text f h = record { ends = f; shorter = past_by rest text f.front f.whole h }

behind_by : (passes : ℕ → Bool) (b : Bool) (c : ℕ) (cs : List ℕ) → length (behind passes cs) ≤ length cs → length (cond b (behind passes cs) (c ∷ cs)) ≤ length (c ∷ cs)
behind_by passes true c cs h = omega arith
behind_by passes false c cs h = omega arith

behind_le : (passes : ℕ → Bool) (cs : List ℕ) → length (behind passes cs) ≤ length cs
behind_le passes [] = omega arith
behind_le passes (c ∷ cs) = behind_by passes (passes c) c cs (behind_le passes cs)

behind_start : (passes : ℕ → Bool) (c : ℕ) (cs : List ℕ) → passes c ≡ true → behind passes (c ∷ cs) ≡ behind passes cs
behind_start passes c cs e = ap (λ b. cond b (behind passes cs) (c ∷ cs)) e

-- behind the characters that pass a test less is left, where the first passes
pub behind_lt : (passes : ℕ → Bool) (cs : List ℕ) → Starts passes cs → length (behind passes cs) < length cs
behind_lt passes cs s =
    let here = ap (λ x. length (behind passes x)) s.seen ∙ ap length (behind_start passes s.first s.rest s.passed) in
    let size = ap length s.seen in
    let le = behind_le passes s.rest in
    omega arith

pub past_class : (passes : ℕ → Bool) (rest text : List ℕ) → Starts passes (chars text) → Follows rest text → chars rest ≡ behind passes (chars text) → Passes rest text
past_class passes rest text s f e =
    let lt = behind_lt passes (chars text) s in
    let size = ap length e in
    past_by_chars rest text f (omega arith)

pub past_under : (rest mid text : List ℕ) → Follows rest mid → Passes mid text → Passes rest text
past_under rest mid text a b =
    let l = b.shorter in
    let size = ap length a.whole ∙ length-append a.front rest in
    record { ends = onward rest mid text a b.ends; shorter = omega arith }

pub starts_by : (passes : ℕ → Bool) (text : List ℕ) (c : ℕ) (rest : List ℕ) → text ≡ c ∷ rest → passes c ≡ true → Starts passes text
starts_by passes text c rest e h = record { first = c; rest = rest; seen = e; passed = h }

pub past_each : {A : Type 0} (o : Option A) (rest_of : A → List ℕ) (mid text : List ℕ) → IfSome o (λ p. Passes (rest_of p) mid) → Passes mid text → IfSome o (λ p. Passes (rest_of p) text)
past_each None rest_of mid text h k = tt
past_each (Some p) rest_of mid text h k = past (rest_of p) mid text h k
