-- The root and the stream headers, as they are read and as they stand.
use Rattle.std.proofs.Common.{◌≡◌, ◌≢◌, inl, inr, ℕ, zero, suc, ◌+◌, ◌<◌, List, [], ◌∷◌, ◌++◌, length, take, drop, true, false, ltb, eqb, Option, None, Some, Ok, refl, sym, ap, subst, ◌∙◌, arith}
use Rattle.std.specs.Prelude.{All, position, ◌==◌}
use Rattle.std.specs.List.{position_or_len}
use Rattle.std.proofs.lemmas.Bool.{eqb-true, le-ltb}
use Rattle.std.proofs.lemmas.Bool.Decides.{eqb_tells}
use Rattle.byteorder.specs.Endian.{little_number}
use Rattle.cli_metadata.specs.declared.fault.MetaCause.TheVariants.{BadRoot}
use Rattle.cli_metadata.specs.Root.{Root, root_of, name_of, name_at, header_at, headers_at}
use Rattle.cli_metadata.specs.Standing.{Header, padded}
use Rattle.cli_metadata.specs.Standing.{IsRoot, IsName, IsHeader, AreHeaders}
use Rattle.cli_metadata.proofs.Places.{ok_is, bind_ok}
use Rattle.cli_metadata.proofs.Steps.{guard_is, some_found, found_some, number-goes, behind-goes, holds-goes, number-is, behind-is, number-there}
use Rattle.cli_metadata.proofs.Named.{all-none, all-more, all-behind, all-first}

-- ---- the root

pub root-stands : (bytes : List ℕ) (root : Root) → root_of bytes ≡ Ok root → IsRoot bytes root.count root.at
unfolding root_of
root-stands bytes root e =
    let a = number-goes BadRoot 4 bytes 0 _ root e in
    let b = holds-goes BadRoot (little_number 4 (drop 0 bytes) == 0x424A5342) 0 _ root a.1 in
    let c = number-goes BadRoot 2 bytes 4 _ root b.1 in
    let d = number-goes BadRoot 2 bytes 6 _ root c.1 in
    let f = number-goes BadRoot 4 bytes 8 _ root d.1 in
    let g = number-goes BadRoot 4 bytes 12 _ root f.1 in
    let h = behind-goes BadRoot (little_number 4 (drop 12 bytes)) bytes 16 _ root g.1 in
    let i = number-goes BadRoot 2 bytes (16 + little_number 4 (drop 12 bytes)) _ root h.1 in
    let j = number-goes BadRoot 2 bytes (16 + little_number 4 (drop 12 bytes) + 2) _ root i.1 in
    let signed : little_number 4 (drop 0 bytes) ≡ 0x424A5342 = eqb-true (little_number 4 (drop 0 bytes)) 0x424A5342 b.0 in
    let made : Root = record { at = 16 + little_number 4 (drop 12 bytes) + 4; count = little_number 2 (drop (16 + little_number 4 (drop 12 bytes) + 2) bytes) } in
    let stands : IsRoot bytes made.count made.at = record {
      size = little_number 4 (drop 12 bytes);
      signature = record { whole = a.0.whole; same = sym signed };
      length_of_version = g.0;
      streams = j.0;
      headers = refl;
    } in
    subst (λ (r : Root). IsRoot bytes r.count r.at) (ok_is made root j.1) stands

pub root-read : (bytes : List ℕ) (count at : ℕ) → IsRoot bytes count at → root_of bytes ≡ Ok (record { at = at; count = count })
unfolding root_of
root-read bytes count at w =
    let size = w.size in
    let end = w.streams.whole in
    let a = number-is BadRoot 4 bytes 0 0x424A5342 w.signature in
    let c = number-is BadRoot 2 bytes 4 (little_number 2 (drop 4 bytes)) (number-there 2 bytes 4 (omega arith)) in
    let d = number-is BadRoot 2 bytes 6 (little_number 2 (drop 6 bytes)) (number-there 2 bytes 6 (omega arith)) in
    let f = number-is BadRoot 4 bytes 8 (little_number 4 (drop 8 bytes)) (number-there 4 bytes 8 (omega arith)) in
    let g = number-is BadRoot 4 bytes 12 size w.length_of_version in
    let h = behind-is BadRoot size bytes 16 (omega arith) in
    let i = number-is BadRoot 2 bytes (16 + size) (little_number 2 (drop (16 + size) bytes)) (number-there 2 bytes (16 + size) (omega arith)) in
    let j = number-is BadRoot 2 bytes (16 + size + 2) count w.streams in
    let made : root_of bytes ≡ Ok (record { at = 16 + size + 4; count = count }) = rw (a, c, d, f, g, h, i, j) refl in
    made ∙ ap (λ (n : ℕ). Ok (record { at = n; count = count })) (sym w.headers)

-- ---- names

-- what a search for a zero among the first bytes finds
pub record Ends (xs : List ℕ) (limit n : ℕ) : Type 0 where
  pub others : List ℕ
  pub ended : xs ≡ take n xs ++ 0 ∷ others
  pub nonzero : All (λ b. b ≢ 0) (take n xs)
  pub short : n < limit
  pub long : length (take n xs) ≡ n

abbrev before_zero : List ℕ → ℕ
before_zero xs = position_or_len (λ b. b == 0) xs

ends : (xs : List ℕ) (limit n : ℕ) → before_zero (take limit xs) ≡ n → n < length (take limit xs) → Ends xs limit n
ends xs zero n e lt = absurd (omega arith)
ends [] (suc limit) n e lt = absurd (omega arith)
ends (x ∷ xs) (suc limit) zero e lt = elim (eqb_tells x 0) [
  | inl w ↦ record { others = xs; ended = ap (λ (y : ℕ). y ∷ xs) w.1; nonzero = all-none (λ (b : ℕ). b ≢ 0); short = omega arith; long = refl }
  | inr w ↦ (let no : eqb x 0 ≡ false = w.0 in
      let one : 1 + before_zero (take limit xs) ≡ 0 = rw no at e in
      absurd (omega arith))
]
ends (x ∷ xs) (suc limit) (suc n) e lt = elim (eqb_tells x 0) [
  | inl w ↦ (let yes : eqb x 0 ≡ true = w.0 in
      let none : 0 ≡ suc n = rw yes at e in
      absurd (omega arith))
  | inr w ↦ (let no : eqb x 0 ≡ false = w.0 in
      let one : 1 + before_zero (take limit xs) ≡ suc n = rw no at e in
      let r = ends xs limit n (omega arith) (omega arith) in
      record {
        others = r.others;
        ended = ap (λ (ys : List ℕ). x ∷ ys) r.ended;
        nonzero = all-more (λ (b : ℕ). b ≢ 0) x (take n xs) w.1 r.nonzero;
        short = omega (arith, r.short);
        long = ap suc r.long;
      })
]

pub zero-found : (xs : List ℕ) (limit n : ℕ) → position (λ b. b == 0) (take limit xs) ≡ Some n → Ends xs limit n
zero-found xs limit n e =
    let found : (before_zero (take limit xs) ≡ n) × (before_zero (take limit xs) < length (take limit xs)) = some_found (before_zero (take limit xs)) (length (take limit xs)) n e in
    ends xs limit n found.0 (omega arith)

ends-at : (name others : List ℕ) (limit : ℕ) → All (λ b. b ≢ 0) name → length name < limit
    → (before_zero (take limit (name ++ 0 ∷ others)) ≡ length name) × (length name < length (take limit (name ++ 0 ∷ others)))
ends-at name others zero all lt = absurd (omega arith)
ends-at [] others (suc limit) all lt = (refl, omega arith)
ends-at (x ∷ name) others (suc limit) all lt =
    let r = ends-at name others limit (all-behind (λ (b : ℕ). b ≢ 0) x name all) (omega arith) in
    let nonzero : x ≢ 0 = all-first (λ (b : ℕ). b ≢ 0) x name all in
    let no : eqb x 0 ≡ false = grind arith in
    (rw no (omega (arith, r.0)), omega (arith, r.1))

zero-at : (name others : List ℕ) (limit : ℕ) → All (λ b. b ≢ 0) name → length name < limit → position (λ b. b == 0) (take limit (name ++ 0 ∷ others)) ≡ Some (length name)
zero-at name others limit all lt =
    let r = ends-at name others limit all lt in
    found_some (before_zero (take limit (name ++ 0 ∷ others))) (length (take limit (name ++ 0 ∷ others))) (length name) r.0 r.1

-- the name at a place
named-by : (bytes : List ℕ) (at n : ℕ) (name : List ℕ) → Ends (drop at bytes) 33 n → name_of bytes at (Some n) ≡ Ok name → IsName bytes at name
named-by bytes at n name r e =
    let g = guard_is (length bytes) (at + padded n) (record { cause = BadRoot; place = at }) (take n (drop at bytes)) name e in
    let long = r.long in
    let short = r.short in
    let made : IsName bytes at (take n (drop at bytes)) = record {
      others = r.others;
      ended = r.ended;
      nonzero = r.nonzero;
      short = omega arith;
      whole = rw long g.0;
    } in
    subst (λ (x : List ℕ). IsName bytes at x) g.1 made

name-stands-by : (bytes : List ℕ) (at : ℕ) (name : List ℕ) (found : Option ℕ) → position (λ b. b == 0) (take 33 (drop at bytes)) ≡ found → name_of bytes at found ≡ Ok name → IsName bytes at name
name-stands-by bytes at name None e f = absurd cc
name-stands-by bytes at name (Some n) e f = named-by bytes at n name (zero-found (drop at bytes) 33 n e) f

pub name-stands : (bytes : List ℕ) (at : ℕ) (name : List ℕ) → name_at bytes at ≡ Ok name → IsName bytes at name
name-stands bytes at name e = name-stands-by bytes at name (position (λ b. b == 0) (take 33 (drop at bytes))) refl e

take-front : (name others : List ℕ) → take (length name) (name ++ others) ≡ name
take-front [] others = refl
take-front (x ∷ name) others = ap (λ (ys : List ℕ). x ∷ ys) (take-front name others)

pub name-read : (bytes : List ℕ) (at : ℕ) (name : List ℕ) → IsName bytes at name → name_at bytes at ≡ Ok name
name-read bytes at name w =
    let short = w.short in
    let found : position (λ b. b == 0) (take 33 (drop at bytes)) ≡ Some (length name)
    = ap (λ (xs : List ℕ). position (λ b. b == 0) (take 33 xs)) w.ended ∙ zero-at name w.others 33 w.nonzero (omega arith) in
    let past : ltb (length bytes) (at + padded (length name)) ≡ false = le-ltb (length bytes) (at + padded (length name)) w.whole in
    let its : take (length name) (drop at bytes) ≡ name = ap (λ (xs : List ℕ). take (length name) xs) w.ended ∙ take-front name (0 ∷ w.others) in
    let some : name_of bytes at (Some (length name)) ≡ Ok name = rw past (ap (λ (x : List ℕ). Ok x) its) in
    ap (name_of bytes at) found ∙ some

-- ---- headers

pub header-stands : (bytes : List ℕ) (at : ℕ) (h : Header) → header_at bytes at ≡ Ok h → (h.stream.place ≡ at) × IsHeader bytes h
unfolding header_at
header-stands bytes at h e =
    let a = number-goes BadRoot 4 bytes at _ h e in
    let b = number-goes BadRoot 4 bytes (at + 4) _ h a.1 in
    let c = bind_ok (name_at bytes (at + 8)) _ h b.1 in
    let made : Header = record { stream = record { place = at; from = little_number 4 (drop at bytes); size = little_number 4 (drop (at + 4) bytes) }; name = c.0; next = at + 8 + padded (length c.0) } in
    let stands : IsHeader bytes made = record { from = a.0; size = b.0; name = name-stands bytes (at + 8) c.0 c.1; next = refl } in
    subst (λ (x : Header). (x.stream.place ≡ at) × IsHeader bytes x) (ok_is made h c.2) (refl, stands)

pub header-read : (bytes : List ℕ) (h : Header) → IsHeader bytes h → header_at bytes h.stream.place ≡ Ok h
unfolding header_at
header-read bytes h w =
    let place = h.stream.place in
    let a = number-is BadRoot 4 bytes h.stream.place h.stream.from w.from in
    let b = number-is BadRoot 4 bytes (h.stream.place + 4) h.stream.size w.size in
    let c = name-read bytes (h.stream.place + 8) h.name w.name in
    let made : header_at bytes h.stream.place ≡ Ok (record { stream = h.stream; name = h.name; next = h.stream.place + 8 + padded (length h.name) }) = rw (a, b, c) refl in
    made ∙ ap (λ (n : ℕ). Ok (record { stream = h.stream; name = h.name; next = n })) (sym w.next)

pub headers-stand : (n : ℕ) (bytes : List ℕ) (at : ℕ) (x : List Header × ℕ) → headers_at n bytes at ≡ Ok x → AreHeaders bytes at x.0 x.1 × (length x.0 ≡ n)
unfolding headers_at
headers-stand zero bytes at x e = subst (λ (y : List Header × ℕ). AreHeaders bytes at y.0 y.1 × (length y.0 ≡ 0)) (ok_is ([], at) x e) (refl, refl)
headers-stand (suc n) bytes at x e =
    let a = bind_ok (header_at bytes at) _ x e in
    let b = bind_ok (headers_at n bytes a.0.next) _ x a.2 in
    let h = header-stands bytes at a.0 a.1 in
    let r = headers-stand n bytes a.0.next b.0 b.1 in
    subst (λ (y : List Header × ℕ). AreHeaders bytes at y.0 y.1 × (length y.0 ≡ suc n)) (ok_is (a.0 ∷ b.0.0, b.0.1) x b.2) ((h.0, h.1, r.0), ap suc r.1)

pub headers-read : (headers : List Header) (bytes : List ℕ) (at end : ℕ) → AreHeaders bytes at headers end → headers_at (length headers) bytes at ≡ Ok (headers, end)
unfolding headers_at
headers-read [] bytes at end w = ap (λ (n : ℕ). Ok ([], n)) (sym w)
headers-read (h ∷ headers) bytes at end w =
    let a : header_at bytes at ≡ Ok h = ap (header_at bytes) (sym w.0) ∙ header-read bytes h w.1 in
    let b = headers-read headers bytes h.next end w.2 in
    rw (a, b) refl
