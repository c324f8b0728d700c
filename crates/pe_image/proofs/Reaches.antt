-- How far the sections of a block reach.
use Rattle.std.proofs.Common.{◌≡◌, ℕ, ◌+◌, ◌-◌, ◌*◌, ◌<◌, ◌≤◌, true, false, List, [], ◌∷◌, ◌++◌, length, get_or, refl, sym, ap, ◌∙◌, subst, inl, inr, arith, leb, min, max, drop, get_or-take, length-take, length-drop, length-append}
use Rattle.std.specs.Prelude.{slice_range, Result, Ok, Err, IfOk}
use Rattle.std.specs.Global.{Vec}
use Rattle.std.specs.List.Sorted.{IsNonDecreasingBy, IsPartitionPoint, IsPermutation}
use Rattle.std.proofs.lemmas.Bool.{cases_lt, leb-false}
use Rattle.std.proofs.Math.Nat.{le-max_left, le-max_right}
use Rattle.std.proofs.lemmas.List.{get_or_default, get_or_push, get_or-drop}
use Rattle.std.proofs.lemmas.List.Elements.{Contains-get_or}
use Rattle.std.proofs.lemmas.List.Sorted.{Contains-permutation}
use Rattle.std.proofs.Math.ListN.{get_or-append}
use Rattle.pe_image.specs.declared.blocks.Reach.{Reach}
use Rattle.pe_image.specs.declared.sections.Section.{Section}
use Rattle.pe_image.specs.Blocks.{AreInOrder, AreReaches, AreShort, Covers}

abbrev no_section : Section
no_section = record { address = 0; size = 0; start = 0 }

abbrev pub no_reach : Reach
no_reach = record { address = 0; end = 0 }

-- the last one that begins by an address has the greatest end of the sections that do
pub last_reaches :
    (reaches : List Reach) (rva n : ℕ) (d : Reach) (s : Section) → n ≤ length reaches → IsPartitionPoint (λ (r : Reach). leb r.address rva ≡ true) (λ r. leb r.address rva ≡ false) reaches n
    → Covers reaches s → s.address ≤ rva → (0 < n) × (s.address + s.size ≤ (get_or reaches (n - 1) d).end)
last_reaches reaches rva n d s few point covers begun =
    elim (cases_lt covers.at n) [
      | inl early ↦ (omega arith, covers.ends (n - 1) d (omega arith) (omega arith))
      | inr past ↦
          let behind = leb-false (get_or reaches covers.at d).address rva (point.1 covers.at d past covers.within) in
          let begins = covers.begins d in
          absurd (omega arith)
    ]

-- reaches of the first n sections, each with the section's address and the greatest end up to it
pub record AreRunning (sorted : List Section) (n end : ℕ) (reaches : List Reach) : Type 0 where
  pub as_many : length reaches ≡ n
  pub within : n ≤ length sorted
  pub address : (k : ℕ) (r : Reach) (s : Section) → k < n → (get_or reaches k r).address ≡ (get_or sorted k s).address
  pub ends : (k i : ℕ) (r : Reach) (s : Section) → k ≤ i → i < n → (get_or sorted k s).address + (get_or sorted k s).size ≤ (get_or reaches i r).end
  pub so_far : (k : ℕ) (s : Section) → k < n → (get_or sorted k s).address + (get_or sorted k s).size ≤ end

pub running_more :
    (sorted : List Section) (n end more : ℕ) (reaches new : List Reach) (d : Section) → AreRunning sorted n end reaches → n < length sorted
    → more ≡ max ((get_or sorted n d).address + (get_or sorted n d).size) end → new ≡ reaches ++ (record { address = (get_or sorted n d).address; end = more }) ∷ []
    → AreRunning sorted (n + 1) more new
running_more sorted n end more reaches new d running lt greatest is = subst (AreRunning sorted (n + 1) more) (sym is) grown where
  last : Reach
  last = record { address = (get_or sorted n d).address; end = more }

  old : (k : ℕ) (r : Reach) → k < n → get_or (reaches ++ last ∷ []) k r ≡ get_or reaches k r
  old k r less = get_or-append reaches (last ∷ []) r k (omega (arith, running.as_many))

  newest : (k : ℕ) (r : Reach) → n ≡ k → get_or (reaches ++ last ∷ []) k r ≡ last
  newest k r e = ap (λ j. get_or (reaches ++ last ∷ []) j r) (sym e) ∙ get_or_push reaches last r n running.as_many

  here : (k : ℕ) (s : Section) → n ≡ k → get_or sorted k s ≡ get_or sorted n d
  here k s e = ap (λ j. get_or sorted j s) (sym e) ∙ get_or_default sorted n s d lt

  by_here : (k : ℕ) (s : Section) → k < n + 1 → (get_or sorted k s).address + (get_or sorted k s).size ≤ more
  by_here k s less =
      elim (cases_lt k n) [
        | inl early ↦ (let before = running.so_far k s early in let most = le-max_right ((get_or sorted n d).address + (get_or sorted n d).size) end in omega arith)
        | inr past ↦
            let same = here k s (omega arith) in
            let most = le-max_left ((get_or sorted n d).address + (get_or sorted n d).size) end in
            omega (arith, ap (λ (t : Section). t.address) same, ap (λ (t : Section). t.size) same)
      ]

  grown : AreRunning sorted (n + 1) more (reaches ++ last ∷ [])
  grown = record {
    as_many = omega (arith, running.as_many, length-append reaches (last ∷ []));
    within = omega arith;
    address = λ k r s less. elim (cases_lt k n) [
      | inl early ↦ ap (λ (t : Reach). t.address) (old k r early) ∙ running.address k r s early
      | inr past ↦
          let e : n ≡ k = omega arith in
          ap (λ (t : Reach). t.address) (newest k r e) ∙ ap (λ (t : Section). t.address) (sym (here k s e))
    ];
    ends = λ k i r s le less. elim (cases_lt i n) [
      | inl early ↦ (let before = running.ends k i r s le early in omega (arith, ap (λ (t : Reach). t.end) (old i r early)))
      | inr past ↦ (let most = by_here k s (omega arith) in omega (arith, ap (λ (t : Reach). t.end) (newest i r (omega arith))))
    ];
    so_far = by_here;
  }

-- reaches of sections in order are theirs
pub all_running : (sorted : List Section) (end : ℕ) (reaches : List Reach) → IsNonDecreasingBy (λ (s : Section). s.address) sorted → AreRunning sorted (length sorted) end reaches → AreReaches sorted reaches
all_running sorted end reaches in_order running = record {
  in_order = λ i j d le lt.
      let rise = in_order i j no_section le (omega (arith, lt, running.as_many)) in
      omega (arith, rise, running.address i d no_section (omega (arith, le, lt, running.as_many)), running.address j d no_section (omega (arith, lt, running.as_many)));
  covered = λ k s lt. record {
    at = k;
    within = omega (arith, lt, running.as_many);
    begins = λ d. omega (arith, running.address k d s lt);
    ends = λ i d le less. running.ends k i d s le (omega (arith, less, running.as_many));
  };
}

-- and those of the same sections in another order
pub of_sorted : (sections sorted : List Section) (reaches : List Reach) → IsPermutation sections sorted → AreReaches sorted reaches → AreReaches sections reaches
of_sorted sections sorted reaches permuted are = record {
  in_order = are.in_order;
  covered = λ k s lt.
      let has = Contains-permutation sections sorted (get_or sections k s) permuted (Contains-get_or sections k s lt) in
      subst (Covers reaches) (get_or_default sorted has.0 s (get_or sections k s) has.1 ∙ has.2) (are.covered has.0 s has.1);
}

pub told_of_sorted : {E : Type 0} (sections sorted : List Section) (told : Result (Vec Reach) E) → IsPermutation sections sorted → IfOk told (λ reaches. AreReaches sorted reaches.items) → IfOk told (λ reaches. AreReaches sections reaches.items)
told_of_sorted sections sorted (Ok reaches) permuted are = of_sorted sections sorted reaches.items permuted are
told_of_sorted sections sorted (Err e) permuted are = tt

-- blocks of the sections before one
pub record AreBlocksTo (sections : List Section) (width from : ℕ) (blocks : List (Vec Reach)) : Type 0 where
  pub few : length blocks ≤ from
  pub within : from ≤ length sections
  pub aligned : from < length sections → from ≡ length blocks * width
  pub in_order : (i : ℕ) (b : Vec Reach) → i < length blocks → AreInOrder (get_or blocks i b).items
  pub covered : (i k : ℕ) (b : Vec Reach) (d : Section) → i < length blocks → i * width ≤ k → k < (i + 1) * width → k < length sections → Covers (get_or blocks i b).items (get_or sections k d)

pub blocks_more :
    (sections slice : List Section) (width from count : ℕ) (blocks new : List (Vec Reach)) (block : Vec Reach) → AreBlocksTo sections width from blocks → 0 < width → from < length sections
    → count ≡ min width (length sections - from) → slice ≡ slice_range sections from (from + count) → AreReaches slice block.items → new ≡ blocks ++ block ∷ [] → AreBlocksTo sections width (from + count) new
blocks_more sections slice width from count blocks new block are some lt counted sliced reached is = subst (AreBlocksTo sections width (from + count)) (sym is) grown where
  many : length (blocks ++ block ∷ []) ≡ length blocks + 1
  many = omega (arith, length-append blocks (block ∷ []))

  old : (i : ℕ) (b : Vec Reach) → i < length blocks → get_or (blocks ++ block ∷ []) i b ≡ get_or blocks i b
  old i b less = get_or-append blocks (block ∷ []) b i less

  newest : (i : ℕ) (b : Vec Reach) → length blocks ≡ i → get_or (blocks ++ block ∷ []) i b ≡ block
  newest i b e = ap (λ j. get_or (blocks ++ block ∷ []) j b) (sym e) ∙ get_or_push blocks block b (length blocks) refl

  counted_on : from + count - from ≡ count
  counted_on = omega arith

  -- the section of the slice is that of all
  placed : (k : ℕ) (d : Section) → k < count → get_or slice k d ≡ get_or sections (from + k) d
  placed k d less =
      ap (λ ss. get_or ss k d) sliced
      ∙ get_or-take (from + count - from) (drop from sections) k d (omega (arith, counted_on))
      ∙ get_or-drop from sections k d

  long : length slice ≡ count
  long = ap length sliced ∙ length-take (from + count - from) (drop from sections) ∙ omega (arith, length-drop {A = Section} from sections, counted_on)

  covered_last : (i k : ℕ) (d : Section) → length blocks ≡ i → i * width ≤ k → k < (i + 1) * width → k < length sections → Covers block.items (get_or sections k d)
  covered_last i k d e above below within =
      let start : from ≡ i * width = are.aligned lt ∙ ap (λ n. n * width) e in
      let on : from + (k - from) ≡ k = omega arith in
      let less : k - from < count = omega arith in
      subst (Covers block.items) (placed (k - from) d less ∙ ap (λ n. get_or sections n d) on) (reached.covered (k - from) d (omega (arith, long)))

  grown : AreBlocksTo sections width (from + count) (blocks ++ block ∷ [])
  grown = record {
    few = omega (arith, many, are.few);
    within = omega arith;
    aligned = λ less. let start = are.aligned lt in omega (arith, ap (λ n. n * width) many);
    in_order = λ i b less. elim (cases_lt i (length blocks)) [
      | inl early ↦ subst (λ (v : Vec Reach). AreInOrder v.items) (sym (old i b early)) (are.in_order i b early)
      | inr past ↦ subst (λ (v : Vec Reach). AreInOrder v.items) (sym (newest i b (omega (arith, many)))) reached.in_order
    ];
    covered = λ i k b d less above below within. elim (cases_lt i (length blocks)) [
      | inl early ↦ subst (λ (v : Vec Reach). Covers v.items (get_or sections k d)) (sym (old i b early)) (are.covered i k b d early above below within)
      | inr past ↦
          let e : length blocks ≡ i = omega (arith, many) in
          subst (λ (v : Vec Reach). Covers v.items (get_or sections k d)) (sym (newest i b e)) (covered_last i k d e above below within)
    ];
  }

-- one block more whose sections end early
pub short_more :
    (blocks : List (Vec Reach)) (from block rva end greatest : ℕ) (b : Vec Reach) (reaches : List Reach) → AreShort blocks from block rva end → block < length blocks → b ≡ get_or blocks block b → reaches ≡ b.items
    → ((s : Section) → Covers reaches s → s.address ≤ rva → s.address + s.size ≤ greatest) → greatest < end → AreShort blocks from (block + 1) rva end
short_more blocks from block rva end greatest b reaches are lt is told most less = record {
  within = λ i above below. elim (cases_lt i block) [ inl early ↦ are.within i above early | inr past ↦ omega arith ];
  short = λ i d s above below covers begun. elim (cases_lt i block) [
    | inl early ↦ are.short i d s above early covers begun
    | inr past ↦
        let e : i ≡ block = omega arith in
        let here : get_or blocks i d ≡ b = ap (λ n. get_or blocks n d) e ∙ get_or_default blocks block d b lt ∙ sym is in
        let ends = most s (subst (λ (rs : List Reach). Covers rs s) (ap (λ (v : Vec Reach). v.items) here ∙ sym told) covers) begun in
        omega arith
  ];
}
