-- Pieces that are written one after another.
use Rattle.std.proofs.Common.{◌≡◌, ℕ, zero, suc, ◌+◌, ◌<◌, List, [], ◌∷◌, ◌++◌, map, length, take, drop, get_or, refl, sym, ◌∙◌, ap, arith}
use Rattle.std.specs.Prelude.{codes}
use Rattle.std.specs.List.{flat_map}
use Rattle.std.specs.Str.{chars}
use Rattle.std.proofs.lemmas.List.{append_assoc, append-nil, flat_map_more, take_more, map_more, map-append, length-map, length-take-le}
use Rattle.std.proofs.lemmas.Grind.{flat_map-append}
use Rattle.cs_layout.specs.declared.fixed.Fixed.TheVariants as part
use Rattle.cs_layout.specs.Pieces.{Piece, piece_bytes, followed}
use Rattle.cs_layout.specs.Words.{fixed, comma, more_listed, listed, ranks, name, path, more_names}

pub followed_append : (before : List ℕ) (ps qs : List Piece) → followed before (ps ++ qs) ≡ followed (followed before ps) qs
unfolding followed
followed_append before ps qs =
    ap (λ bs. before ++ bs) (flat_map-append piece_bytes ps qs) ∙ sym (append_assoc before (flat_map piece_bytes ps) (flat_map piece_bytes qs))

pub followed_nothing : (before : List ℕ) → followed before [] ≡ before
unfolding followed
followed_nothing before = append-nil before

-- one more of several parts
pub followed_each : {X : Type 0} (f : X → List Piece) (before : List ℕ) (xs : List X) (i : ℕ) (d : X) → i < length xs
    → followed (followed before (flat_map f (take i xs))) (f (get_or xs i d)) ≡ followed before (flat_map f (take (i + 1) xs))
followed_each f before xs i d l =
    sym (followed_append before (flat_map f (take i xs)) (f (get_or xs i d)))
    ∙ ap (followed before) (flat_map_more f [] (take i xs) (get_or xs i d) ∙ ap (flat_map f) (sym (take_more xs i d l)))

pub followed_each_laid : {X Y : Type 0} (f : X → Y) (g : Y → List Piece) (before : List ℕ) (xs : List X) (i : ℕ) (d : X) → i < length xs
    → followed (followed before (flat_map g (map f (take i xs)))) (g (f (get_or xs i d))) ≡ followed before (flat_map g (map f (take (i + 1) xs)))
followed_each_laid f g before xs i d l =
    sym (followed_append before (flat_map g (map f (take i xs))) (g (f (get_or xs i d))))
    ∙ ap (followed before) (flat_map_more g [] (map f (take i xs)) (f (get_or xs i d)) ∙ ap (flat_map g) (sym (map_more f xs i d l)))

-- parts with commas between them
comma_some : (n : ℕ) → 0 < n → comma n ≡ fixed part.Comma
comma_some zero h = absurd (omega arith)
comma_some (suc n) h = refl

more_step : (xs : List (List Piece)) (y : List Piece) → more_listed (xs ++ y ∷ []) ≡ more_listed xs ++ (fixed part.Comma ++ y)
more_step [] y = ap (λ t. fixed part.Comma ++ t) (append-nil y)
more_step (x ∷ xs) y =
    let more = fixed part.Comma ++ y in
    ap (λ t. fixed part.Comma ++ (x ++ t)) (more_step xs y)
    ∙ (ap (λ t. fixed part.Comma ++ t) (sym (append_assoc x (more_listed xs) more)) ∙ sym (append_assoc (fixed part.Comma) (x ++ more_listed xs) more))

listed_step : (xs : List (List Piece)) (y : List Piece) (n : ℕ) → n ≡ length xs → listed (xs ++ y ∷ []) ≡ listed xs ++ (comma n ++ y)
listed_step [] y n e = append-nil y ∙ ap (λ c. c ++ y) (sym (ap comma e))
listed_step (x ∷ xs) y n e =
    ap (λ t. x ++ t) (more_step xs y)
    ∙ (sym (append_assoc x (more_listed xs) (fixed part.Comma ++ y)) ∙ ap (λ c. (x ++ more_listed xs) ++ (c ++ y)) (sym (comma_some n (omega (arith, e)))))

listed_more : (before : List ℕ) (xs : List (List Piece)) (y : List Piece) (n : ℕ) → n ≡ length xs
    → followed (followed (followed before (listed xs)) (comma n)) y ≡ followed before (listed (xs ++ y ∷ []))
listed_more before xs y n e =
    sym (followed_append (followed before (listed xs)) (comma n) y)
    ∙ (sym (followed_append before (listed xs) (comma n ++ y)) ∙ ap (followed before) (sym (listed_step xs y n e)))

pub followed_listed : {X : Type 0} (f : X → List Piece) (before : List ℕ) (xs : List X) (i : ℕ) (d : X) → i < length xs
    → followed (followed (followed before (listed (map f (take i xs)))) (comma i)) (f (get_or xs i d)) ≡ followed before (listed (map f (take (i + 1) xs)))
followed_listed f before xs i d l =
    let long : i ≡ length (map f (take i xs)) = sym (length-map (take i xs) f ∙ length-take-le i xs (omega arith)) in
    listed_more before (map f (take i xs)) (f (get_or xs i d)) i long ∙ ap (λ ps. followed before (listed ps)) (sym (map_more f xs i d l))

pub followed_listed_laid : {X Y : Type 0} (f : X → Y) (g : Y → List Piece) (before : List ℕ) (xs : List X) (i : ℕ) (d : X) → i < length xs
    → followed (followed (followed before (listed (map g (map f (take i xs))))) (comma i)) (g (f (get_or xs i d))) ≡ followed before (listed (map g (map f (take (i + 1) xs))))
followed_listed_laid f g before xs i d l =
    let inner = map f (take i xs) in
    let long : i ≡ length (map g inner) = sym (length-map inner g ∙ (length-map (take i xs) f ∙ length-take-le i xs (omega arith))) in
    listed_more before (map g inner) (g (f (get_or xs i d))) i long
    ∙ ap (λ ps. followed before (listed ps)) (sym (ap (map g) (map_more f xs i d l) ∙ map-append g inner (f (get_or xs i d) ∷ [])))

-- one more pair of brackets
ranks_turned : (n : ℕ) → ranks n ++ fixed part.Brackets ≡ fixed part.Brackets ++ ranks n
ranks_turned zero = sym (append-nil (fixed part.Brackets))
ranks_turned (suc n) = append_assoc (fixed part.Brackets) (ranks n) (fixed part.Brackets) ∙ ap (λ t. fixed part.Brackets ++ t) (ranks_turned n)

pub followed_rank : (before : List ℕ) (n : ℕ) → followed (followed before (ranks n)) (fixed part.Brackets) ≡ followed before (ranks (n + 1))
followed_rank before n =
    let next : suc n ≡ n + 1 = omega arith in
    sym (followed_append before (ranks n) (fixed part.Brackets)) ∙ (ap (followed before) (ranks_turned n) ∙ ap (λ k. followed before (ranks k)) next)

-- the one name that is the same in all trees
pub global_bytes : codes "global::" ≡ flat_map piece_bytes (fixed part.Global)
unfolding fixed chars lib.Utf8.encode
global_bytes = refl

-- the same behind what was written before
pub item_written : {X : Type 0} (f : X → List Piece) (before old new : List ℕ) (xs : List X) (i : ℕ) (x : X) → i < length xs → x ≡ get_or xs i x
    → old ≡ followed before (flat_map f (take i xs)) → new ≡ followed old (f x) → new ≡ followed before (flat_map f (take (i + 1) xs))
item_written f before old new xs i x l is e h =
    h ∙ (ap (λ o. followed o (f x)) e ∙ (ap (λ y. followed (followed before (flat_map f (take i xs))) (f y)) is ∙ followed_each f before xs i x l))

pub laid_item_written : {X Y : Type 0} (f : X → Y) (g : Y → List Piece) (before old new : List ℕ) (xs : List X) (i : ℕ) (x : X) → i < length xs → x ≡ get_or xs i x
    → old ≡ followed before (flat_map g (map f (take i xs))) → new ≡ followed old (g (f x)) → new ≡ followed before (flat_map g (map f (take (i + 1) xs)))
laid_item_written f g before old new xs i x l is e h =
    h
    ∙ (ap (λ o. followed o (g (f x))) e
    ∙ (ap (λ y. followed (followed before (flat_map g (map f (take i xs)))) (g (f y))) is ∙ followed_each_laid f g before xs i x l))

pub listed_written : {X : Type 0} (f : X → List Piece) (before old mid new : List ℕ) (xs : List X) (i : ℕ) (x : X) → i < length xs → x ≡ get_or xs i x
    → old ≡ followed before (listed (map f (take i xs))) → mid ≡ followed old (comma i) → new ≡ followed mid (f x)
    → new ≡ followed before (listed (map f (take (i + 1) xs)))
listed_written f before old mid new xs i x l is e h k =
    k
    ∙ (ap (λ o. followed o (f x)) (h ∙ ap (λ o. followed o (comma i)) e)
    ∙ (ap (λ y. followed (followed (followed before (listed (map f (take i xs)))) (comma i)) (f y)) is ∙ followed_listed f before xs i x l))

pub listed_laid_written : {X Y : Type 0} (f : X → Y) (g : Y → List Piece) (before old mid new : List ℕ) (xs : List X) (i : ℕ) (x : X) → i < length xs → x ≡ get_or xs i x
    → old ≡ followed before (listed (map g (map f (take i xs)))) → mid ≡ followed old (comma i) → new ≡ followed mid (g (f x))
    → new ≡ followed before (listed (map g (map f (take (i + 1) xs))))
listed_laid_written f g before old mid new xs i x l is e h k =
    k
    ∙ (ap (λ o. followed o (g (f x))) (h ∙ ap (λ o. followed o (comma i)) e)
    ∙ (ap (λ y. followed (followed (followed before (listed (map g (map f (take i xs))))) (comma i)) (g (f y))) is ∙ followed_listed_laid f g before xs i x l))

-- a path by its first name
pub path_split : (texts : List (List ℕ)) (text : List ℕ) → 0 < length texts → text ≡ get_or texts 0 text → path texts ≡ name text ++ more_names (drop 1 texts)
path_split [] text l is = absurd (omega arith)
path_split (t ∷ ts) text l is = ap (λ n. name n ++ more_names ts) (sym is)

pub path_written : (before mid new : List ℕ) (texts : List (List ℕ)) (text : List ℕ) → 0 < length texts → text ≡ get_or texts 0 text
    → mid ≡ followed before (name text) → new ≡ followed mid (more_names (drop 1 texts)) → new ≡ followed before (path texts)
path_written before mid new texts text l is e h =
    h
    ∙ (ap (λ o. followed o (more_names (drop 1 texts))) e
    ∙ (sym (followed_append before (name text) (more_names (drop 1 texts))) ∙ ap (followed before) (sym (path_split texts text l is))))
