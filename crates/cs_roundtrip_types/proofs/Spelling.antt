-- What grammars spell that are put together.
use Rattle.std.proofs.Common.{◌≡◌, inl, inr, ℕ, zero, suc, Bool, true, false, List, [], ◌∷◌, ◌++◌, map, refl, sym, ◌∙◌, ap, subst, Ok}
use Rattle.std.proofs.lemmas.List.{append-nil, append_assoc}
use Rattle.cs_token.specs.Placed.{Placed as Token}
use Rattle.cs_token.specs.Tokens.{kind_of}
use Rattle.cs_token.specs.declared.lexeme.Lexeme.{Lexeme}
use Rattle.cs_grammar.specs.Kinds.{has}
use Rattle.cs_grammar.specs.Grammar.{Grammar, gives, one, bind, either, guarded, turns}
use Rattle.cs_layout.specs.Pieces.{Piece, gap, token, tokens_behind}
use Rattle.cs_productions.specs.Tokens.{kind}
use Rattle.cs_productions.specs.Laws.{OneAnswer}
use Rattle.cs_roundtrip_types.specs.Spells.{lexemes, lexemes_of, Found, Spells}
use Rattle.cs_roundtrip_types.specs.Laws.{IsReadBack}

-- tokens of pieces

pub lexemes-append : (ps qs : List Piece) → lexemes (ps ++ qs) ≡ lexemes ps ++ lexemes qs
lexemes-append [] qs = refl
lexemes-append (gap g ∷ ps) qs = lexemes-append ps qs
lexemes-append (token l ∷ ps) qs = ap (λ ls. l ∷ ls) (lexemes-append ps qs)

lexemes_behind : (g : List ℕ) (ps : List Piece) → map (λ p. p.1) (tokens_behind g ps) ≡ lexemes ps
lexemes_behind g [] = refl
lexemes_behind g (gap h ∷ ps) = lexemes_behind (g ++ h) ps
lexemes_behind g (token l ∷ ps) = ap (λ ls. l ∷ ls) (lexemes_behind [] ps)

-- tokens that are those of one part and of another
record Parted (ts : List Token) (ls ms : List Lexeme) : Type 0 where
  front : List Token
  back : List Token
  whole : ts ≡ front ++ back
  first : lexemes_of front ≡ ls
  second : lexemes_of back ≡ ms

head_same : (l m : Lexeme) (ls ms : List Lexeme) → l ∷ ls ≡ m ∷ ms → l ≡ m
head_same l m ls ms e = cc

tail_same : (l m : Lexeme) (ls ms : List Lexeme) → l ∷ ls ≡ m ∷ ms → ls ≡ ms
tail_same l m ls ms e = cc

both_same : (l m : Lexeme) (ls ms : List Lexeme) → l ≡ m → ls ≡ ms → l ∷ ls ≡ m ∷ ms
both_same l m ls ms e d = cc

not_nothing : (m : Lexeme) (ms : List Lexeme) → [] ≡ m ∷ ms → ⊥
not_nothing m ms e = cc

parted : (ts : List Token) (ls ms : List Lexeme) → lexemes_of ts ≡ ls ++ ms → Parted ts ls ms
parted ts [] ms e = record { front = []; back = ts; whole = refl; first = refl; second = e }
parted [] (l ∷ ls) ms e = absurd (not_nothing l (ls ++ ms) e)
parted (t ∷ ts) (l ∷ ls) ms e =
    let p = parted ts ls ms (tail_same t.lexeme l (lexemes_of ts) (ls ++ ms) e) in
    record {
      front = t ∷ p.front;
      back = p.back;
      whole = ap (λ us. t ∷ us) p.whole;
      first = both_same t.lexeme l (lexemes_of p.front) ls (head_same t.lexeme l (lexemes_of ts) (ls ++ ms) e) p.first;
      second = p.second;
    }

-- nothing, one token, and a gap

pub says_nothing : {A : Type 0} {P : A → Type 0} (a : A) → P a → Spells (gives a) [] P
says_nothing {P = P} a p = record { spells = none }
  where
    none : (ts : List Token) → lexemes_of ts ≡ [] → (rest : List Token) → Found (gives a) P (ts ++ rest) rest
    none [] e rest = (a, p, (refl, refl))
    none (t ∷ ts) e rest = absurd (not_nothing t.lexeme (lexemes_of ts) (sym e))

pub skips : {A : Type 0} {g : Grammar Token A} {P : A → Type 0} {ps : List Piece} (b : List ℕ) → Spells g ps P → Spells g (gap b ∷ ps) P
skips b s = record { spells = s.spells }

pub takes : {A B : Type 0} {P : B → Type 0} {ps : List Piece} {f : A → Grammar Token B} (kinds : List ℕ) (made : Token → A) (l : Lexeme) → has kinds (kind_of l) ≡ true
    → ((t : Token) → t.lexeme ≡ l → Spells (f (made t)) ps P) → Spells (bind (one kind kinds made) f) (token l ∷ ps) P
takes {P = P} {ps = ps} {f = f} kinds made l is next = record { spells = found }
  where
    found : (ts : List Token) → lexemes_of ts ≡ l ∷ lexemes ps → (rest : List Token) → Found (bind (one kind kinds made) f) P (ts ++ rest) rest
    found [] e rest = absurd (not_nothing l (lexemes ps) e)
    found (t ∷ ts) e rest =
        let same = head_same t.lexeme l (lexemes_of ts) (lexemes ps) e in
        let s = (next t same).spells ts (tail_same t.lexeme l (lexemes_of ts) (lexemes ps) e) rest in
        (s.0, s.1, (made t, ts ++ rest, (ap (λ k. has kinds (kind_of k)) same ∙ is, refl, refl), s.2))

pub takes_last : {A : Type 0} {P : A → Type 0} (kinds : List ℕ) (made : Token → A) (l : Lexeme) → has kinds (kind_of l) ≡ true
    → ((t : Token) → t.lexeme ≡ l → P (made t)) → Spells (one kind kinds made) (token l ∷ []) P
takes_last {P = P} kinds made l is holds = record { spells = found }
  where
    found : (ts : List Token) → lexemes_of ts ≡ l ∷ [] → (rest : List Token) → Found (one kind kinds made) P (ts ++ rest) rest
    found [] e rest = absurd (not_nothing l [] e)
    found (t ∷ []) e rest =
        let same = head_same t.lexeme l [] [] e in
        (made t, holds t same, (ap (λ k. has kinds (kind_of k)) same ∙ is, refl, refl))
    found (t ∷ u ∷ ts) e rest = absurd (not_nothing u.lexeme (lexemes_of ts) (sym (tail_same t.lexeme l (u.lexeme ∷ lexemes_of ts) [] e)))

-- one behind the other

pub says_then : {A B : Type 0} {P : A → Type 0} {Q : B → Type 0} {g : Grammar Token A} {f : A → Grammar Token B} {ps qs : List Piece} → Spells g ps P
    → ((a : A) → P a → Spells (f a) qs Q) → Spells (bind g f) (ps ++ qs) Q
says_then {Q = Q} {g = g} {f = f} {ps = ps} {qs = qs} x y = record { spells = found }
  where
    found : (ts : List Token) → lexemes_of ts ≡ lexemes (ps ++ qs) → (rest : List Token) → Found (bind g f) Q (ts ++ rest) rest
    found ts e rest =
        let p = parted ts (lexemes ps) (lexemes qs) (e ∙ lexemes-append ps qs) in
        let a = x.spells p.front p.first (p.back ++ rest) in
        let b = (y a.0 a.1).spells p.back p.second rest in
        let split : p.front ++ (p.back ++ rest) ≡ ts ++ rest = sym (append_assoc p.front p.back rest) ∙ ap (λ us. us ++ rest) (sym p.whole) in
        (b.0, b.1, (a.0, p.back ++ rest, subst (λ us. g.derives us a.0 (p.back ++ rest)) split a.2, b.2))

-- the same of a value that is put to one use
pub says_made : {A B : Type 0} {P : A → Type 0} {Q : B → Type 0} {g : Grammar Token A} {ps : List Piece} (f : A → B) → Spells g ps P
    → ((a : A) → P a → Q (f a)) → Spells (bind g (λ a. gives (f a))) ps Q
says_made {Q = Q} {g = g} {ps = ps} f x y =
    subst (λ us. Spells (bind g (λ a. gives (f a))) us Q) (append-nil ps) (says_then x (λ a p. says_nothing (f a) (y a p)))

-- a weaker fact
pub says_so : {A : Type 0} {P Q : A → Type 0} {g : Grammar Token A} {ps : List Piece} → Spells g ps P → ((a : A) → P a → Q a) → Spells g ps Q
says_so x f = record { spells = λ ts e rest. let a = x.spells ts e rest in (a.0, f a.0 a.1, a.2) }

-- other gaps
pub says_like : {A : Type 0} {P : A → Type 0} {g : Grammar Token A} {ps qs : List Piece} → Spells g ps P → lexemes qs ≡ lexemes ps → Spells g qs P
says_like x same = record { spells = λ ts e rest. x.spells ts (e ∙ same) rest }

-- another grammar that derives what this one does
pub says_in : {A : Type 0} {P : A → Type 0} {g h : Grammar Token A} {ps : List Piece} → ((ts : List Token) (a : A) (rest : List Token) → P a → g.derives ts a rest → h.derives ts a rest)
    → Spells g ps P → Spells h ps P
says_in f x = record { spells = λ ts e rest. let a = x.spells ts e rest in (a.0, a.1, f (ts ++ rest) a.0 rest a.1 a.2) }

-- one or the other

pub says_first : {A : Type 0} {P : A → Type 0} {ps : List Piece} {g : Grammar Token A} (first : List ℕ) (h : Grammar Token A) → Spells g ps P → Spells (either kind first g h) ps P
says_first first h x = record { spells = λ ts e rest. let a = x.spells ts e rest in (a.0, a.1, inl a.2) }

pub says_second : {A : Type 0} {P : A → Type 0} {ps : List Piece} {h : Grammar Token A} (first : List ℕ) (g : Grammar Token A) → Spells h ps P → Spells (either kind first g h) ps P
says_second first g x = record { spells = λ ts e rest. let a = x.spells ts e rest in (a.0, a.1, inr a.2) }

pub says_where : {A : Type 0} {P : A → Type 0} {ps : List Piece} {g : Grammar Token A} (room : Bool) (first : List ℕ) (h : Grammar Token A) → room ≡ true → Spells g ps P
    → Spells (guarded kind room first g h) ps P
says_where {P = P} {ps = ps} {g = g} room first h is x = subst (λ b. Spells (guarded kind b first g h) ps P) (sym is) (says_first first h x)

pub says_else : {A : Type 0} {P : A → Type 0} {ps : List Piece} {h : Grammar Token A} (room : Bool) (first : List ℕ) (g : Grammar Token A) → Spells h ps P
    → Spells (guarded kind room first g h) ps P
says_else true first g x = says_second first g x
says_else false first g x = record { spells = x.spells }

-- rounds

pub says_no_round : {A : Type 0} {P : A → Type 0} (first : List ℕ) (room : A → Bool) (f : A → Grammar Token A) (a : A) → P a → Spells (turns kind first room f a) [] P
says_no_round {A = A} {P = P} first room f a p = record { spells = none }
  where
    none : (ts : List Token) → lexemes_of ts ≡ [] → (rest : List Token) → Found (turns kind first room f a) P (ts ++ rest) rest
    none [] e rest = (a, p, (zero, (refl, refl)))
    none (t ∷ ts) e rest = absurd (not_nothing t.lexeme (lexemes_of ts) (sym e))

pub says_round : {A : Type 0} {P R : A → Type 0} {ps qs : List Piece} (first : List ℕ) (room : A → Bool) (f : A → Grammar Token A) (a : A) → room a ≡ true → Spells (f a) ps R
    → ((b : A) → R b → Spells (turns kind first room f b) qs P) → Spells (turns kind first room f a) (ps ++ qs) P
says_round {P = P} {ps = ps} {qs = qs} first room f a may x y =
    says_in (λ ts c rest p d. (suc d.3.0, (d.0, d.1, may, d.2, d.3.1))) (says_then x y)

-- whole lists

pub read_back : {A : Type 0} {Wanted : A → Type 0} {g wide : Grammar Token A} {ps : List Piece} → OneAnswer g wide → Spells g ps Wanted → IsReadBack g wide Wanted ps
read_back {A = A} {g = g} {wide = wide} {ps = ps} once x ts e =
    let a = x.spells ts (e ∙ lexemes_behind [] ps) [] in
    let derived : g.derives ts a.0 [] = subst (λ us. g.derives us a.0 []) (append-nil ts) a.2 in
    let one = once ts in
    (a.0, a.1, derived, λ r is. sym (one.2 r is) ∙ one.2 (Ok a.0) derived)
