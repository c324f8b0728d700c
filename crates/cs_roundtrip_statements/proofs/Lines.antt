-- Lines, blocks on lines of their own, and lists of parts.
use Rattle.std.proofs.Common.{◌≡◌, ℕ, Bool, true, List, [], ◌∷◌, ◌++◌, map, refl, sym, ◌∙◌, ap}
use Rattle.std.proofs.lemmas.List.{append-nil, append_assoc, map-append}
use Rattle.cs_token.specs.Placed.{Placed as Token}
use Rattle.cs_tree.specs.declared.forms.Block.{Block}
use Rattle.cs_tree.specs.Bare.{bare_block}
use Rattle.cs_grammar.specs.Grammar.{Grammar, gives, bind, turns}
use Rattle.cs_productions.specs.Tokens.{kind}
use Rattle.cs_layout.specs.Pieces.{Piece, gap}
use Rattle.cs_layout.specs.declared.fixed.Fixed.TheVariants as part
use Rattle.cs_layout.specs.Words.{fixed}
use Rattle.cs_layout.specs.Layout.{block_laid, line, indent, deeper, braced}
use Rattle.cs_roundtrip_types.specs.Spells.{lexemes, Spells}
use Rattle.cs_roundtrip_types.proofs.Spelling.{lexemes-append, says_made, says_so, says_like, says_no_round, says_round}
use Rattle.cs_roundtrip_forms.specs.Reading.{BlockIsRead}

-- a line has the tokens of its parts
pub line_is : (margin : List ℕ) (ps : List Piece) → lexemes (line margin ps) ≡ lexemes ps
unfolding indent fixed
line_is margin ps = lexemes-append ps (gap (10 ∷ []) ∷ []) ∙ append-nil (lexemes ps)

pub both_like : (ps qs us vs : List Piece) → lexemes ps ≡ lexemes us → lexemes qs ≡ lexemes vs → lexemes (ps ++ qs) ≡ lexemes (us ++ vs)
both_like ps qs us vs e d = lexemes-append ps qs ∙ (ap (λ z. z ++ lexemes qs) e ∙ (ap (λ z. lexemes us ++ z) d ∙ sym (lexemes-append us vs)))

pub line_front : (margin : List ℕ) (ps qs : List Piece) → lexemes (line margin ps ++ qs) ≡ lexemes (ps ++ qs)
line_front margin ps qs = both_like (line margin ps) qs ps qs (line_is margin ps) refl

pub says_line : {A : Type 0} {P : A → Type 0} {g : Grammar Token A} {ps : List Piece} (margin : List ℕ) → Spells g ps P → Spells g (line margin ps) P
says_line {ps = ps} margin x = says_like x (line_is margin ps)

pub says_line_front : {A : Type 0} {P : A → Type 0} {g : Grammar Token A} (margin : List ℕ) (ps qs : List Piece) → Spells g (ps ++ qs) P → Spells g (line margin ps ++ qs) P
says_line_front margin ps qs x = says_like x (line_front margin ps qs)

-- a block
pub says_braced : {g : Grammar Token Block} (b : Block) (margin : List ℕ) → BlockIsRead g b → Spells g (braced (block_laid b) margin) (λ c. bare_block c ≡ bare_block b)
says_braced b margin x =
    says_like (x (deeper margin))
    (both_like (line margin (fixed part.OpenBrace)) (block_laid b (deeper margin) ++ line margin (fixed part.CloseBrace)) (fixed part.OpenBrace) (block_laid b (deeper margin) ++ fixed part.CloseBrace)
    (line_is margin (fixed part.OpenBrace))
    (both_like (block_laid b (deeper margin)) (line margin (fixed part.CloseBrace)) (block_laid b (deeper margin)) (fixed part.CloseBrace) refl (line_is margin (fixed part.CloseBrace))))

-- one more item of a list
abbrev pub more : {X : Type 0} → Grammar Token X → List X → Grammar Token (List X)
more g before = bind g (λ x. gives (before ++ x ∷ []))

pub says_no_more : {X : Type 0} (bare : X → X) (first : List ℕ) (room : List X → Bool) (g : Grammar Token X) (before : List X)
    → Spells (turns kind first room (more g) before) [] (λ r. map bare r ≡ map bare (before ++ []))
says_no_more bare first room g before = says_no_round first room (more g) before (ap (map bare) (sym (append-nil before)))

pub says_one_more : {X : Type 0} (bare : X → X) (first : List ℕ) (room : List X → Bool) (g : Grammar Token X) (x : X) (xs : List X) (ps qs : List Piece) → ((before : List X) → room before ≡ true)
    → Spells g ps (λ y. bare y ≡ bare x) → ((before : List X) → Spells (turns kind first room (more g) before) qs (λ r. map bare r ≡ map bare (before ++ xs)))
    → (before : List X) → Spells (turns kind first room (more g) before) (ps ++ qs) (λ r. map bare r ≡ map bare (before ++ x ∷ xs))
says_one_more bare first room g x xs ps qs may one others before =
    says_round {R = λ mid. map bare mid ≡ map bare (before ++ x ∷ [])} first room (more g) before (may before)
    (says_made (λ y. before ++ y ∷ []) one (λ y e. map-append bare before (y ∷ []) ∙ (ap (λ z. map bare before ++ z ∷ []) e ∙ sym (map-append bare before (x ∷ [])))))
    (λ mid e. says_so (others mid)
    (λ r d. d
    ∙ (map-append bare mid xs ∙ (ap (λ z. z ++ map bare xs) e ∙ (sym (map-append bare (before ++ x ∷ []) xs) ∙ ap (map bare) (append_assoc before (x ∷ []) xs))))))
