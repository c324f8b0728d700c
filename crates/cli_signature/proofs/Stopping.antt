-- Where no number goes on.
use Rattle.std.proofs.Common.{◌≡◌, ◌≢◌, ◌⊎◌, ℕ, ◌+◌, ◌*◌, ◌-◌, ◌/◌, ◌%◌, ◌<◌, ◌≤◌, Bool, true, false, List, [], ◌∷◌, ◌++◌, length, get_or, find, None, refl, sym, ap, subst, ◌∙◌, inl, inr, arith}
use Rattle.std.specs.List.{list_all}
use Rattle.std.specs.Prelude.{◌==◌, nat_lt}
use Rattle.std.proofs.lemmas.Bool.{cases_lt}
use Rattle.std.proofs.lemmas.Bool.Decides.{nat_tests}
use Rattle.dc_base.specs.Spelling.{spelling, BeginsWithNumber}
use Rattle.dc_base.proofs.Spelling.{begins_unique, spelling-two, spelling-four, forms, only_two, only_four, begins_one, begins_two, begins_four, none_high}
use Rattle.cli_signature.specs.declared.element.Element.{Element}
use Rattle.cli_signature.specs.declared.element.Part.TheVariants.{Plain, LeftOut, Unknown}
use Rattle.cli_signature.specs.Element.{element_types, entry_of, part_of, part_in}
use Rattle.cli_signature.specs.Fault.{IsViable}
use Rattle.std.proofs.Math.Seq.{get_or-append_seam}
use Rattle.cli_signature.specs.declared.raw.SigFault.TheVariants.{BadElement}
use Rattle.cli_signature.specs.Reading.{Begins, Stops, IsNotDue, IsFaultAt, IsNumber, IsNumberWord, IsNumberStop, BeginsWithNoSuch, top_of as top}
use Rattle.cli_signature.proofs.Trees.{begins_from_split}

-- bytes from 0xE0 on are no element
low : Element → Bool
low e = nat_lt e.byte 224

all_low : list_all low element_types ≡ true
unfolding low
all_low = refl

find_past : (es : List Element) (b : ℕ) → list_all low es ≡ true → 224 ≤ b → find (λ e. e.byte == b) es ≡ None
unfolding low
find_past [] b h l = refl
find_past (e ∷ es) b h l = let r = find_past es b in grind (arith, nat_tests)

entry_past : (b : ℕ) → 224 ≤ b → entry_of b ≡ None
unfolding entry_of
entry_past b h = find_past element_types b all_low h

pub left_out_low : (b : ℕ) → part_of b ≡ LeftOut → b < 224
left_out_low b h =
    elim (cases_lt b 224) [
      | inl l ↦ l
      | inr g ↦ let e : part_of b ≡ Unknown = ap part_in (entry_past b g) in absurd (cc (e, h))
    ]

pub part-char : part_of 3 ≡ Plain
unfolding entry_of
part-char = refl

pub number_fits : (r : Bool) (n : ℕ) → IsNumber r n → n < 536870912
number_fits true n h = let x = h.0 in omega arith
number_fits false n h = h

in_range : (r : Bool) (a x n : ℕ) → 192 ≤ a → a < top r → x < 16777216 → n ≡ (a - 192) * 16777216 + x → n % 4 ≡ 0 → IsNumber r n
in_range true a x n la ha hx e t = (omega arith, λ q. omega arith)
in_range false a x n la ha hx e t = omega arith

small : (r : Bool) (n : ℕ) → n < 16384 → n % 4 ≡ 0 → IsNumber r n
small true n h t = (omega arith, λ q. omega arith)
small false n h t = omega arith

-- a word that the bytes begin with, as a number
record Begun (r : Bool) (bytes : List ℕ) : Type 0 where
  n : ℕ
  len : ℕ
  is : IsNumber r n
  begins : BeginsWithNumber bytes n len

begun : (r : Bool) (bytes : List ℕ) → Begins (IsNumberWord r) bytes → Begun r bytes
begun r bytes (word, more, w, e) =
    record {
      n = w.0;
      len = length (spelling w.0);
      is = w.1;
      begins = subst (λ (x : List ℕ). BeginsWithNumber x w.0 (length (spelling w.0))) (sym (e ∙ ap (λ (x : List ℕ). x ++ more) w.2)) (begins_from_split w.0 more (number_fits r w.0 w.1));
    }

-- what goes on
Goes : Bool → List ℕ → Type 0
Goes r front = (more : List ℕ) × IsNumberWord r (front ++ more) × (more ≢ [])

goes_viable : (r : Bool) (front : List ℕ) → Goes r front → IsViable (IsNumberWord r) front
unfolding Goes
goes_viable r front g = (g.0, g.1)

goes_none : (r : Bool) → Goes r []
unfolding Goes
goes_none r = (4 ∷ [], (4, small r 4 (omega arith) (omega arith), refl), λ e. cc)

goes_two : (r : Bool) (a : ℕ) → 128 ≤ a → a < 192 → Goes r (a ∷ [])
unfolding Goes
goes_two r a la ha =
    let n : ℕ = (a - 128) * 256 + 128 in
    let e = spelling-two n (omega arith) (omega arith) in
    let p : a ≡ 128 + n / 256 = omega arith in
    let q : 128 ≡ n % 256 = omega arith in
    (128 ∷ [], (n, small r n (omega arith) (omega arith), cc), λ x. cc)

goes_four_one : (r : Bool) (a : ℕ) → 192 ≤ a → a < top r → Goes r (a ∷ [])
unfolding Goes
goes_four_one r a la ha =
    let n : ℕ = (a - 192) * 16777216 + 65536 in
    let e = spelling-four n (omega arith) in
    let p : a ≡ 192 + n / 16777216 = omega arith in
    let q : 1 ≡ n / 65536 % 256 = omega arith in
    let s : 0 ≡ n / 256 % 256 = omega arith in
    let t : 0 ≡ n % 256 = omega arith in
    (1 ∷ 0 ∷ 0 ∷ [], (n, in_range r a 65536 n la ha (omega arith) refl (omega arith), cc), λ x. cc)

goes_four_two : (r : Bool) (a b : ℕ) → 192 ≤ a → a < top r → b < 256 → Goes r (a ∷ b ∷ [])
unfolding Goes
goes_four_two r a b la ha hb =
    let x : ℕ = b * 65536 + 16384 in
    let n : ℕ = (a - 192) * 16777216 + x in
    let e = spelling-four n (omega arith) in
    let p : a ≡ 192 + n / 16777216 = omega arith in
    let q : b ≡ n / 65536 % 256 = omega arith in
    let s : 64 ≡ n / 256 % 256 = omega arith in
    let t : 0 ≡ n % 256 = omega arith in
    (64 ∷ 0 ∷ [], (n, in_range r a x n la ha (omega arith) refl (omega arith), cc), λ y. cc)

least_four : (a b c : ℕ) → 192 ≤ a → (a ≡ 192 → b ≡ 0 → 64 ≤ c) → 16384 ≤ (a - 192) * 16777216 + (b * 65536 + c * 256)
least_four a b c la least =
    elim (cases_lt 192 a) [
      | inl l ↦ omega arith
      | inr g ↦ elim (cases_lt 0 b) [
        | inl l ↦ omega arith
        | inr f ↦ let m = least (omega arith) (omega arith) in omega arith
      ]
    ]

goes_four_three : (r : Bool) (a b c : ℕ) → 192 ≤ a → a < top r → b < 256 → c < 256 → (a ≡ 192 → b ≡ 0 → 64 ≤ c) → Goes r (a ∷ b ∷ c ∷ [])
unfolding Goes
goes_four_three r a b c la ha hb hc least =
    let x : ℕ = b * 65536 + c * 256 in
    let n : ℕ = (a - 192) * 16777216 + x in
    let big : 16384 ≤ n = least_four a b c la least in
    let e = spelling-four n big in
    let p : a ≡ 192 + n / 16777216 = omega arith in
    let q : b ≡ n / 65536 % 256 = omega arith in
    let s : c ≡ n / 256 % 256 = omega arith in
    let t : 0 ≡ n % 256 = omega arith in
    (0 ∷ [], (n, in_range r a x n la ha (omega arith) refl (omega arith), cc), λ y. cc)

-- CHAR can't begin the number of a type
not_due_first : IsNotDue (IsNumberWord true) []
not_due_first = (
  3,
  part-char,
  λ more g.
      let b = begun true (3 ∷ more) g in
      elim (forms (3 ∷ more) b.n b.len b.begins) [
        | inl f ↦ let e : 3 ≡ b.n = cc (f.is) in let t = b.is.1 in t (omega arith)
        | inr o ↦ elim o [
          | inl f ↦ let e : 3 ≡ 128 + b.n / 256 = cc (f.is) in absurd (omega arith)
          | inr f ↦ let e : 3 ≡ 192 + b.n / 16777216 = cc (f.is) in absurd (omega arith)
        ]
      ],
)

abbrev AtByte : Bool → List ℕ → ℕ → Type 0
AtByte r bytes k = (byte : ℕ) × (s : Stops (IsNumberWord r) 0 bytes k byte) × (part_of byte ≡ LeftOut → IsNotDue (IsNumberWord r) s.front)

not_due_low : (r : Bool) (a : ℕ) (rest : List ℕ) → a < 128 → BeginsWithNoSuch r (a ∷ rest) → IsNotDue (IsNumberWord r) []
not_due_low true a rest h none = not_due_first
not_due_low false a rest h none = absurd (none a 1 (begins_one a rest h) (omega arith))

stop_low : (r : Bool) (a : ℕ) (rest : List ℕ) → a < 128 → BeginsWithNoSuch r (a ∷ rest) → AtByte r (a ∷ rest) 0
stop_low r a rest h none = (
  a,
  record {
    front = [];
    rest = rest;
    is = refl;
    there = refl;
    viable = goes_viable r [] (goes_none r);
    stuck = λ more g.
        let b = begun r (a ∷ more) g in
        elim (forms (a ∷ more) b.n b.len b.begins) [
          | inl f ↦ let e : b.n ≡ a = cc (f.is) in none a 1 (begins_one a rest h) (subst (IsNumber r) e b.is)
          | inr o ↦ elim o [
            | inl f ↦ let e : a ≡ 128 + b.n / 256 = cc (f.is) in absurd (omega arith)
            | inr f ↦ let e : a ≡ 192 + b.n / 16777216 = cc (f.is) in absurd (omega arith)
          ]
        ];
  },
  λ l. not_due_low r a rest h none,
)

no_high : (r : Bool) (a : ℕ) (more : List ℕ) → top r ≤ a → Begun r (a ∷ more) → ⊥
no_high true a more h b =
    let f = only_four a more b.n b.len (omega arith) b.begins in
    let e : a ≡ 192 + b.n / 16777216 = cc (f.is) in
    let s = b.is.0 in
    absurd (omega arith)
no_high false a more h b = none_high a more h b.n b.len b.begins

not_due_high : (r : Bool) (a : ℕ) → top r ≤ a → part_of a ≡ LeftOut → IsNotDue (IsNumberWord r) []
not_due_high true a h l = not_due_first
not_due_high false a h l = let p = left_out_low a l in absurd (omega arith)

stop_high : (r : Bool) (a : ℕ) (rest : List ℕ) → top r ≤ a → AtByte r (a ∷ rest) 0
stop_high r a rest h = (
  a,
  record {
    front = [];
    rest = rest;
    is = refl;
    there = refl;
    viable = goes_viable r [] (goes_none r);
    stuck = λ more g. no_high r a more h (begun r (a ∷ more) g);
  },
  λ l. not_due_high r a h l,
)

not_due_two : (r : Bool) (a b : ℕ) (rest : List ℕ) → 128 ≤ a → a < 192 → b < 224 → BeginsWithNoSuch r (a ∷ b ∷ rest) → (more : List ℕ) → Begun r (a ∷ 3 ∷ more) → ⊥
not_due_two true a b rest la ha hb none more g =
    let f = only_two a (3 ∷ more) g.n g.len la ha g.begins in
    let e : 3 ≡ g.n % 256 = cc (f.is) in
    let t = g.is.1 in
    t (omega arith)
not_due_two false a b rest la ha hb none more g =
    let f = only_two a (3 ∷ more) g.n g.len la ha g.begins in
    let e : 3 ≡ g.n % 256 = cc (f.is) in
    let d : a ≡ 128 + g.n / 256 = cc (f.is) in
    let from = f.from in
    none ((a - 128) * 256 + b) 2 (begins_two a b rest ((a - 128) * 256 + b) la ha (omega arith) refl (omega arith)) (omega arith)

stop_two : (r : Bool) (a b : ℕ) (rest : List ℕ) → 128 ≤ a → a < 192 → BeginsWithNoSuch r (a ∷ b ∷ rest) → AtByte r (a ∷ b ∷ rest) 1
stop_two r a b rest la ha none = (
  b,
  record {
    front = a ∷ [];
    rest = rest;
    is = refl;
    there = refl;
    viable = goes_viable r (a ∷ []) (goes_two r a la ha);
    stuck = λ more g.
        let x = begun r (a ∷ b ∷ more) g in
        let f = only_two a (b ∷ more) x.n x.len la ha x.begins in
        let p : a ≡ 128 + x.n / 256 = cc (f.is) in
        let q : b ≡ x.n % 256 = cc (f.is) in
        let from = f.from in
        none x.n 2 (begins_two a b rest x.n la ha (omega arith) (omega arith) from) x.is;
  },
  λ l. (3, part-char, λ more g. not_due_two r a b rest la ha (left_out_low b l) none more (begun r (a ∷ 3 ∷ more) g)),
)

no_third : (r : Bool) (c : ℕ) (more : List ℕ) → c < 64 → Begun r (192 ∷ 0 ∷ c ∷ more) → ⊥
no_third r c more h g =
    let f = only_four 192 (0 ∷ c ∷ more) g.n g.len (omega arith) g.begins in
    let p : 192 ≡ 192 + g.n / 16777216 = cc (f.is) in
    let q : 0 ≡ g.n / 65536 % 256 = cc (f.is) in
    let s : c ≡ g.n / 256 % 256 = cc (f.is) in
    let from = f.from in
    absurd (omega arith)

stop_third : (r : Bool) (c : ℕ) (rest : List ℕ) → c < 64 → 192 < top r → AtByte r (192 ∷ 0 ∷ c ∷ rest) 2
stop_third r c rest h t = (
  c,
  record {
    front = 192 ∷ 0 ∷ [];
    rest = rest;
    is = refl;
    there = refl;
    viable = goes_viable r (192 ∷ 0 ∷ []) (goes_four_two r 192 0 (omega arith) t (omega arith));
    stuck = λ more g. no_third r c more h (begun r (192 ∷ 0 ∷ c ∷ more) g);
  },
  λ l. (3, part-char, λ more g. no_third r 3 more (omega arith) (begun r (192 ∷ 0 ∷ 3 ∷ more) g)),
)

not_due_four : (r : Bool) (a b c d : ℕ) (rest : List ℕ) → 192 ≤ a → d < 224 → BeginsWithNoSuch r (a ∷ b ∷ c ∷ d ∷ rest) → (more : List ℕ) → Begun r (a ∷ b ∷ c ∷ 3 ∷ more) → ⊥
not_due_four true a b c d rest la hd none more g =
    let f = only_four a (b ∷ c ∷ 3 ∷ more) g.n g.len la g.begins in
    let e : 3 ≡ g.n % 256 = cc (f.is) in
    let t = g.is.1 in
    t (omega arith)
not_due_four false a b c d rest la hd none more g =
    let f = only_four a (b ∷ c ∷ 3 ∷ more) g.n g.len la g.begins in
    let p : a ≡ 192 + g.n / 16777216 = cc (f.is) in
    let q : b ≡ g.n / 65536 % 256 = cc (f.is) in
    let s : c ≡ g.n / 256 % 256 = cc (f.is) in
    let t : 3 ≡ g.n % 256 = cc (f.is) in
    let from = f.from in
    let below = f.below in
    let m : ℕ = ((a - 192) * 256 + b) * 65536 + (c * 256 + d) in
    none m 4 (begins_four a b c d rest m la (omega arith) (omega arith) (omega arith) (omega arith) refl (omega arith)) (omega arith)

stop_four : (r : Bool) (a b c d : ℕ) (rest : List ℕ) → 192 ≤ a → Goes r (a ∷ b ∷ c ∷ []) → BeginsWithNoSuch r (a ∷ b ∷ c ∷ d ∷ rest) → AtByte r (a ∷ b ∷ c ∷ d ∷ rest) 3
unfolding Goes
stop_four r a b c d rest la goes none = (
  d,
  record {
    front = a ∷ b ∷ c ∷ [];
    rest = rest;
    is = refl;
    there = refl;
    viable = goes_viable r (a ∷ b ∷ c ∷ []) goes;
    stuck = λ more g.
        let x = begun r (a ∷ b ∷ c ∷ d ∷ more) g in
        let f = only_four a (b ∷ c ∷ d ∷ more) x.n x.len la x.begins in
        let p : a ≡ 192 + x.n / 16777216 = cc (f.is) in
        let q : b ≡ x.n / 65536 % 256 = cc (f.is) in
        let s : c ≡ x.n / 256 % 256 = cc (f.is) in
        let t : d ≡ x.n % 256 = cc (f.is) in
        let from = f.from in
        let below = f.below in
        none x.n 4 (begins_four a b c d rest x.n la (omega arith) (omega arith) (omega arith) (omega arith) (omega arith) from) x.is;
  },
  λ l. (3, part-char, λ more g. not_due_four r a b c d rest la (left_out_low d l) none more (begun r (a ∷ b ∷ c ∷ 3 ∷ more) g)),
)

-- the same, as the code sees the bytes
pub at_end : (r : Bool) (bytes : List ℕ) → length bytes < 1 → IsNumberStop r bytes 0
unfolding Goes
at_end r [] h = inr (omega arith, goes_none r)
at_end r (a ∷ bytes) h = absurd (omega arith)

pub at_first : (r : Bool) (bytes : List ℕ) → 1 ≤ length bytes → BeginsWithNoSuch r bytes → (get_or bytes 0 0 < 128) ⊎ (top r ≤ get_or bytes 0 0) → IsNumberStop r bytes 0
at_first r [] l none h = absurd (omega arith)
at_first r (a ∷ rest) l none (inl h) = inl (stop_low r a rest h none)
at_first r (a ∷ rest) l none (inr h) = inl (stop_high r a rest h)

pub after_first : (r : Bool) (bytes : List ℕ) → 1 ≤ length bytes → length bytes < 2 → 128 ≤ get_or bytes 0 0 → get_or bytes 0 0 < top r → IsNumberStop r bytes 1
unfolding Goes
after_first r [] l k la ha = absurd (omega arith)
after_first r (a ∷ []) l k la ha =
    elim (cases_lt a 192) [
      | inl s ↦ inr (omega arith, goes_two r a la s)
      | inr g ↦ inr (omega arith, goes_four_one r a g ha)
    ]
after_first r (a ∷ b ∷ rest) l k la ha = absurd (omega arith)

pub at_second : (r : Bool) (bytes : List ℕ) → 2 ≤ length bytes → 128 ≤ get_or bytes 0 0 → get_or bytes 0 0 < 192 → BeginsWithNoSuch r bytes → IsNumberStop r bytes 1
at_second r [] l la ha none = absurd (omega arith)
at_second r (a ∷ []) l la ha none = absurd (omega arith)
at_second r (a ∷ b ∷ rest) l la ha none = inl (stop_two r a b rest la ha none)

pub after_second : (r : Bool) (bytes : List ℕ) → 2 ≤ length bytes → length bytes < 3 → 192 ≤ get_or bytes 0 0 → get_or bytes 0 0 < top r → get_or bytes 1 0 < 256 → IsNumberStop r bytes 2
unfolding Goes
after_second r [] l k la ha hb = absurd (omega arith)
after_second r (a ∷ []) l k la ha hb = absurd (omega arith)
after_second r (a ∷ b ∷ []) l k la ha hb = inr (omega arith, goes_four_two r a b la ha hb)
after_second r (a ∷ b ∷ c ∷ rest) l k la ha hb = absurd (omega arith)

pub at_third : (r : Bool) (bytes : List ℕ) → 3 ≤ length bytes → get_or bytes 0 0 ≡ 192 → get_or bytes 1 0 ≡ 0 → get_or bytes 2 0 < 64 → IsNumberStop r bytes 2
at_third r [] l ea eb h = absurd (omega arith)
at_third r (a ∷ []) l ea eb h = absurd (omega arith)
at_third r (a ∷ b ∷ []) l ea eb h = absurd (omega arith)
at_third r (a ∷ b ∷ c ∷ rest) l ea eb h =
    let e : 192 ∷ 0 ∷ c ∷ rest ≡ a ∷ b ∷ c ∷ rest = cc in
    subst (λ (x : List ℕ). IsNumberStop r x 2) e (inl (stop_third r c rest h (above r)))
  where
    above : (r : Bool) → 192 < top r
    above true = omega arith
    above false = omega arith

pub at_fourth :
    (r : Bool) (bytes : List ℕ) → 3 ≤ length bytes → 192 ≤ get_or bytes 0 0 → get_or bytes 0 0 < top r → get_or bytes 1 0 < 256 → get_or bytes 2 0 < 256 → (get_or bytes 0 0 ≡ 192 → get_or bytes 1 0 ≡ 0 → 64 ≤ get_or bytes 2 0) → BeginsWithNoSuch r bytes → IsNumberStop r bytes 3
unfolding Goes
at_fourth r [] l la ha hb hc least none = absurd (omega arith)
at_fourth r (a ∷ []) l la ha hb hc least none = absurd (omega arith)
at_fourth r (a ∷ b ∷ []) l la ha hb hc least none = absurd (omega arith)
at_fourth r (a ∷ b ∷ c ∷ []) l la ha hb hc least none = inr (omega arith, goes_four_three r a b c la ha hb hc least)
at_fourth r (a ∷ b ∷ c ∷ d ∷ rest) l la ha hb hc least none =
    inl (stop_four r a b c d rest la (goes_four_three r a b c la ha hb hc least) none)

-- no number of a list's spelling begins where the one that begins is none
pub no_such : (r : Bool) (bytes : List ℕ) (n len : ℕ) → BeginsWithNumber bytes n len → (IsNumber r n → ⊥) → BeginsWithNoSuch r bytes
no_such r bytes n len b h m k g is =
    let u = begins_unique bytes n m len k b g in
    h (subst (IsNumber r) (sym u.0) is)

at_byte : (r : Bool) (bytes : List ℕ) (k byte at : ℕ) → byte ≡ get_or bytes k 0 → AtByte r bytes k → IsFaultAt (IsNumberWord r) at bytes (BadElement (at + k) byte)
at_byte r bytes k byte at is (b, s, l) =
    let t : k ≡ length s.front = omega (arith, s.there) in
    let here : get_or (s.front ++ b ∷ s.rest) (length s.front) 0 ≡ byte = cc (s.is, t, is) in
    let e : b ≡ byte = sym (get_or-append_seam s.front b s.rest 0) ∙ here in (
      record {
        front = s.front;
        rest = s.rest;
        is = s.is ∙ ap (λ (x : ℕ). s.front ++ x ∷ s.rest) e;
        there = omega arith;
        viable = s.viable;
        stuck = subst (λ (x : ℕ). (more : List ℕ) → Begins (IsNumberWord r) (s.front ++ x ∷ more) → ⊥) e s.stuck;
      },
      λ p. l (ap part_of e ∙ p),
    )

-- the fault at the byte where a number stops
pub stopped : (r : Bool) (bytes : List ℕ) (k byte at : ℕ) → IsNumberStop r bytes k → k < length bytes → byte ≡ get_or bytes k 0 → IsFaultAt (IsNumberWord r) at bytes (BadElement (at + k) byte)
stopped r bytes k byte at (inl s) h is = at_byte r bytes k byte at is s
stopped r bytes k byte at (inr s) h is = absurd (let x = s.0 in omega arith)
