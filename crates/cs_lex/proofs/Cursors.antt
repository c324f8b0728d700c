-- Places among the tokens of a text.
use Rattle.std.proofs.Common.{◌≡◌, ℕ, zero, suc, ◌+◌, ◌-◌, ◌<◌, false, List, [], ◌∷◌, Some, None, MatchOption, Bor, length, length-append, drop, refl, sym, ◌∙◌, ap, subst, arith}
use Rattle.std.specs.Prelude.{Option}
use Rattle.std.specs.Option.{option_copied}
use Rattle.std.specs.Str.{chars}
use Rattle.cs_token.specs.declared.tokens.Token.{Token}
use Rattle.cs_token.specs.declared.lexeme.Lexeme.{Lexeme}
use Rattle.cs_token.specs.Words.{behind_gap}
use Rattle.cs_token.specs.Tokens.{token_at}
use Rattle.cs_token.specs.Cuts.{place_of, Cuts}
use Rattle.cs_token.specs.Pieces.{Follows, Passes}
use Rattle.cs_token.proofs.Parts.{onward}
use Rattle.cs_lex.specs.Cursors.{Counts, HasTokens, tokens_from, IsCursor}
use Rattle.cs_lex.proofs.Advances.{place_at}

-- as many tokens as are counted
pub as_many : (whole : List ℕ) (n : ℕ) (text : List ℕ) → HasTokens n text → length (tokens_from whole n text) ≡ n
as_many whole zero text h = refl
as_many whole (suc n) text (rest, c) = rw c.2 (ap suc (as_many whole n (behind_gap false c.1) (rest, c.3)))

-- they are the tokens of the text
pub cut_so : (whole : List ℕ) (n : ℕ) (before rest : List ℕ) → Counts n (behind_gap false before) rest → Cuts whole before (tokens_from whole n (behind_gap false before)) rest
cut_so whole zero before rest c = c
cut_so whole (suc n) before rest c = rw c.2 (c.1, c.2, refl, cut_so whole n c.1 rest c.3)

made : Lexeme → ℕ → ℕ → Token
made x l c = record { lexeme = x; line = l; column = c }

same_token : (t : Token) (l c : ℕ) → t.line ≡ l → t.column ≡ c → made t.lexeme l c ≡ t
unfolding made
same_token t l c f g = sym (ap (λ l. made t.lexeme l t.column) f ∙ ap (made t.lexeme l) g)

same_rest : (p q : Lexeme × List ℕ) → Some p ≡ Some q → p.1 ≡ q.1
same_rest p q e = cc

none_some : (p : Lexeme × List ℕ) (o : Option (Lexeme × List ℕ)) → o ≡ None → o ≡ Some p → ⊥
none_some p o e f = cc

-- where tokens are left, one stands here
stands : (source here : List ℕ) (at : ℕ × ℕ) (behind : List ℕ) (n : ℕ) → IsCursor source here at None behind (suc n) → ⊥
stands source here at behind n i = let c = i.counted.1 in none_some (c.0, c.1) (token_at (chars here)) i.begins c.2

-- the tokens from here on are this one and those behind it
begin_so : (source here : List ℕ) (at : ℕ × ℕ) (t : Token) (behind : List ℕ) (n : ℕ) → IsCursor source here at (Some t) behind (suc n)
    → tokens_from (chars source) (suc n) (chars here) ≡ t ∷ tokens_from (chars source) n (behind_gap false (chars behind))
unfolding made
begin_so source here at t behind n i =
    let place = place_at source here at i.placed in
    let line = i.begins.1 ∙ ap (λ (p : ℕ × ℕ). p.0) place in
    let column = i.begins.2 ∙ ap (λ (p : ℕ × ℕ). p.1) place in
    rw i.begins.0 (ap (λ (u : Token). u ∷ tokens_from (chars source) n (behind_gap false (chars behind))) (same_token t (place_of (chars source) (chars here)).0 (place_of (chars source) (chars here)).1 line column))

-- the next token is the first one of those that are left

pub peeked : (source here : List ℕ) (at : ℕ × ℕ) (r : Option (Bor Token)) (next : Option Token) (behind : List ℕ) (left : ℕ) (ts : List Token) → option_copied r ≡ next → IsCursor source here at next behind left → (left ≡ 0 → ⊥)
    → tokens_from (chars source) left (chars here) ≡ ts → MatchOption r (ts ≡ []) (λ t. (rest : List Token) × (ts ≡ t.now ∷ rest))
peeked source here at r next behind zero ts v i some e = absurd (some refl)
peeked source here at None next behind (suc n) ts v i some e =
    absurd (stands source here at behind n (subst (λ (o : Option Token). IsCursor source here at o behind (suc n)) (sym v) i))
peeked source here at (Some b) next behind (suc n) ts v i some e =
    (tokens_from (chars source) n (behind_gap false (chars behind)), sym e ∙ begin_so source here at b.now behind n (subst (λ (o : Option Token). IsCursor source here at o behind (suc n)) (sym v) i))

pub gone : (source here : List ℕ) (at : ℕ × ℕ) (next : Option Token) (behind : List ℕ) (left : ℕ) (ts after : List Token) → IsCursor source here at next behind left → (left ≡ 0 → ⊥)
    → tokens_from (chars source) left (chars here) ≡ ts → after ≡ drop 1 ts → MatchOption next ((ts ≡ []) × (after ≡ [])) (λ t. ts ≡ t ∷ after)
gone source here at next behind zero ts after i some e a = absurd (some refl)
gone source here at None behind (suc n) ts after i some e a = absurd (stands source here at behind n i)
gone source here at (Some t) behind (suc n) ts after i some e a =
    let all = sym e ∙ begin_so source here at t behind n i in
    all ∙ ap (λ (us : List Token). t ∷ us) (sym (a ∙ ap (drop 1) all))

-- behind the next token

minus_one : (n : ℕ) → suc n - 1 ≡ n
minus_one n = omega arith

pub follows : (source here : List ℕ) (at : ℕ × ℕ) (next : Option Token) (behind : List ℕ) (left : ℕ) (further : List ℕ) → IsCursor source here at next behind left → 0 < left → Follows further behind → Follows further here
follows source here at next behind zero further i some f = absurd (omega arith)
follows source here at None behind (suc n) further i some f = absurd (stands source here at behind n i)
follows source here at (Some t) behind (suc n) further i some f = onward further behind here f i.begins.3.ends

pub still : (source here : List ℕ) (at : ℕ × ℕ) (next : Option Token) (behind : List ℕ) (left : ℕ) (further : List ℕ) → IsCursor source here at next behind left → 0 < left → further ≡ behind_gap false (chars behind) → HasTokens (left - 1) further
still source here at next behind zero further i some f = absurd (omega arith)
still source here at None behind (suc n) further i some f = absurd (stands source here at behind n i)
still source here at (Some t) behind (suc n) further i some f =
    let c = i.counted.1 in
    let same : c.1 ≡ chars behind = same_rest (c.0, c.1) (t.lexeme, chars behind) (sym c.2 ∙ i.begins.0) in
    let counts : Counts n further i.counted.0 = subst (λ (text : List ℕ). Counts n text i.counted.0) (ap (behind_gap false) same ∙ sym f) c.3 in
    (i.counted.0, subst (λ (k : ℕ). Counts k further i.counted.0) (sym (minus_one n)) counts)

pub passed_so : (source here : List ℕ) (at : ℕ × ℕ) (next : Option Token) (behind : List ℕ) (left : ℕ) (further : List ℕ) (ts : List Token) → IsCursor source here at next behind left → 0 < left → further ≡ behind_gap false (chars behind)
    → tokens_from (chars source) left (chars here) ≡ ts → tokens_from (chars source) (left - 1) further ≡ drop 1 ts
passed_so source here at next behind zero further ts i some f e = absurd (omega arith)
passed_so source here at None behind (suc n) further ts i some f e = absurd (stands source here at behind n i)
passed_so source here at (Some t) behind (suc n) further ts i some f e =
    ap (λ k. tokens_from (chars source) k further) (minus_one n) ∙ (ap (tokens_from (chars source) n) f ∙ ap (drop 1) (sym (begin_so source here at t behind n i) ∙ e))

pub some_left : (n left : ℕ) → n ≡ left → (left ≡ 0 → ⊥) → 0 < n
some_left n zero e some = absurd (some refl)
some_left n (suc left) e some = omega arith

-- tokens that are counted one by one

-- so many tokens lead from the start to here
pub record Led (start : List ℕ) (count : ℕ) (left : List ℕ) : Type 0 where
  pub so_far : (n : ℕ) (rest : List ℕ) → Counts n left rest → Counts (count + n) start rest

none_more : (n : ℕ) → n ≡ 0 + n
none_more n = omega arith

pub led_none : (start : List ℕ) → Led start 0 start
led_none start = record { so_far = λ n rest c. subst (λ (k : ℕ). Counts k start rest) (none_more n) c }

one_more : (count n : ℕ) → count + suc n ≡ count + 1 + n
one_more count n = omega arith

pub led_more : (start : List ℕ) (count : ℕ) (left : List ℕ) (lexeme : Lexeme) (more next : List ℕ) → Led start count left → token_at left ≡ Some (lexeme, more) → next ≡ behind_gap false more → Led start (count + 1) next
led_more start count left lexeme more next l e n =
    record {
      so_far = λ m rest c.
          subst (λ (k : ℕ). Counts k start rest) (one_more count m) (l.so_far (suc m) rest (lexeme, more, e, subst (λ (t : List ℕ). Counts m t rest) n c));
    }

no_more : (count : ℕ) → count + 0 ≡ count
no_more count = omega arith

pub led_all : (start : List ℕ) (count : ℕ) (left : List ℕ) → Led start count left → Counts count start left
led_all start count left l = subst (λ (k : ℕ). Counts k start left) (no_more count) (l.so_far 0 left refl)

-- what stands behind a token and the gap behind it is shorter
pub shorter : (next rest left : List ℕ) → Follows next rest → Passes rest left → length next < length left
shorter next rest left f p =
    let size = ap length f.whole ∙ length-append f.front next in
    let less = p.shorter in
    omega arith
