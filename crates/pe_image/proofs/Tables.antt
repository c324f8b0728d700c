-- Going over the section headers, one after the other.
use Rattle.std.proofs.Common.{◌≡◌, ℕ, zero, suc, ◌+◌, ◌*◌, ◌-◌, ◌<◌, ◌≤◌, Bool, true, false, cond, List, [], ◌∷◌, ◌++◌, length, get_or, drop, Option, Some, None, refl, sym, ap, ◌∙◌, subst, arith}
use Rattle.std.specs.Prelude.{find}
use Rattle.pe_image.specs.declared.sections.Section.{Section}
use Rattle.pe_image.specs.declared.sections.Table.{Table}
use Rattle.pe_image.specs.Sections.{section_of}
use Rattle.pe_image.specs.Table.{sections_from, sections_of, IsTable}
use Rattle.pe_image.specs.Within.{AreWithin}

pub length-sections_from : (file : List ℕ) (place n : ℕ) → length (sections_from file place n) ≡ n
length-sections_from file place zero = refl
length-sections_from file place (suc n) = ap suc (length-sections_from file (place + 40) n)

pub get_or-sections_from : (file : List ℕ) (place n k : ℕ) (d : Section) → k < n → get_or (sections_from file place n) k d ≡ section_of (drop (place + 40 * k) file)
get_or-sections_from file place zero k d lt = absurd (omega (arith, lt))
get_or-sections_from file place (suc n) zero d lt =
    let e : place ≡ place + 40 * 0 = omega arith in ap (λ (p : ℕ). section_of (drop p file)) e
get_or-sections_from file place (suc n) (suc k) d lt =
    let e : place + 40 + 40 * k ≡ place + 40 * suc k = omega arith in
    get_or-sections_from file (place + 40) n k d (omega (arith, lt)) ∙ ap (λ (p : ℕ). section_of (drop p file)) e

pub table_within : (file : List ℕ) (table : Table) → IsTable file table → AreWithin file (sections_of file table)
table_within file table is k d lt =
    let less : k < table.count = omega (arith, lt, length-sections_from file table.place table.count) in
    subst (λ (s : Section). s.start + s.size ≤ length file) (sym (get_or-sections_from file table.place table.count k d less)) (is k less).raw

left : (count i : ℕ) → i < count → count - i ≡ suc (count - (i + 1))
left count i lt = omega arith

-- the section at the front is the first, or the others remain
front : (p : Section → Bool) (file : List ℕ) (place count i : ℕ) (s : Section) (first : Option Section) → i < count → section_of (drop (place + 40 * i) file) ≡ s → find p (sections_from file (place + 40 * i) (count - i)) ≡ first → cond (p s) (Some s) (find p (sections_from file (place + 40 * (i + 1)) (count - (i + 1)))) ≡ first
front p file place count i s first lt is r =
    let at : place + 40 * i + 40 ≡ place + 40 * (i + 1) = omega arith in
    let here : find p (sections_from file (place + 40 * i) (suc (count - (i + 1)))) ≡ first = subst (λ (n : ℕ). find p (sections_from file (place + 40 * i) n) ≡ first) (left count i lt) r in
    subst (λ (q : ℕ). cond (p s) (Some s) (find p (sections_from file q (count - (i + 1)))) ≡ first) at
    (subst (λ (t : Section). cond (p t) (Some t) (find p (sections_from file (place + 40 * i + 40) (count - (i + 1)))) ≡ first) is here)

pub first_passes : (p : Section → Bool) (file : List ℕ) (place count i : ℕ) (s : Section) (first : Option Section) → i < count → section_of (drop (place + 40 * i) file) ≡ s → p s ≡ true → find p (sections_from file (place + 40 * i) (count - i)) ≡ first → Some s ≡ first
first_passes p file place count i s first lt is passes r =
    let test = front p file place count i s first lt is r in
    subst (λ (b : Bool). cond b (Some s) (find p (sections_from file (place + 40 * (i + 1)) (count - (i + 1)))) ≡ first) passes test

pub goes_on : (p : Section → Bool) (file : List ℕ) (place count i : ℕ) (s : Section) (first : Option Section) → i < count → section_of (drop (place + 40 * i) file) ≡ s → p s ≡ false → find p (sections_from file (place + 40 * i) (count - i)) ≡ first → find p (sections_from file (place + 40 * (i + 1)) (count - (i + 1))) ≡ first
goes_on p file place count i s first lt is fails r =
    let test = front p file place count i s first lt is r in
    subst (λ (b : Bool). cond b (Some s) (find p (sections_from file (place + 40 * (i + 1)) (count - (i + 1)))) ≡ first) fails test

pub none_passes : (p : Section → Bool) (file : List ℕ) (place count i : ℕ) (first : Option Section) → count ≤ i → find p (sections_from file (place + 40 * i) (count - i)) ≡ first → None ≡ first
none_passes p file place count i first le r =
    let e : count - i ≡ 0 = omega arith in
    subst (λ (n : ℕ). find p (sections_from file (place + 40 * i) n) ≡ first) e r

-- one more section behind the others
pub sections_more : (file : List ℕ) (place i : ℕ) → sections_from file place (i + 1) ≡ sections_from file place i ++ (section_of (drop (place + 40 * i) file) ∷ [])
sections_more file place zero =
    let e : place ≡ place + 40 * 0 = omega arith in ap (λ (p : ℕ). section_of (drop p file) ∷ []) e
sections_more file place (suc i) =
    let on : suc i + 1 ≡ suc (i + 1) = omega arith in
    let e : place + 40 + 40 * i ≡ place + 40 * suc i = omega arith in
    ap (sections_from file place) on ∙ ap (λ (ss : List Section). section_of (drop place file) ∷ ss) (sections_more file (place + 40) i)
    ∙ ap (λ (p : ℕ). sections_from file place (suc i) ++ (section_of (drop p file) ∷ [])) e
