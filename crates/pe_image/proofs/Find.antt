-- The first section that holds bytes is behind the blocks of which none does.
use Rattle.std.proofs.Common.{◌≡◌, ℕ, zero, suc, ◌+◌, ◌-◌, ◌*◌, ◌/◌, ◌<◌, ◌≤◌, Bool, false, cond, List, [], ◌∷◌, length, take, drop, length-drop, get_or, Some, refl, sym, ap, ◌∙◌, inl, inr, arith, min}
use Rattle.std.specs.Prelude.{find}
use Rattle.std.specs.Global.{Vec}
use Rattle.std.proofs.lemmas.Bool.{cases_lt}
use Rattle.std.proofs.lemmas.List.{take_all}
use Rattle.pe_image.specs.declared.blocks.Reach.{Reach}
use Rattle.pe_image.specs.declared.sections.Section.{Section}
use Rattle.pe_image.specs.Sections.{holds}
use Rattle.pe_image.specs.Blocks.{AreBlocks, AreShort}

-- where the items before an index fail, those from there on decide
find_past : {X : Type 0} (p : X → Bool) (xs : List X) (n : ℕ) → ((k : ℕ) (d : X) → k < n → k < length xs → p (get_or xs k d) ≡ false) → find p (drop n xs) ≡ find p xs
find_past p [] zero fails = refl
find_past p [] (suc n) fails = refl
find_past p (x ∷ xs) zero fails = refl
find_past p (x ∷ xs) (suc n) fails =
    let here : p x ≡ false = fails 0 x (omega arith) (omega arith) in
    find_past p xs n (λ k d lt within. fails (suc k) d (omega (arith, lt)) (omega (arith, within)))
    ∙ ap (λ b. cond b (Some x) (find p xs)) (sym here)

-- a section that begins behind the address, or ends before the end, doesn't hold the bytes
fails : (rva len : ℕ) (s : Section) → (s.address ≤ rva → s.address + s.size < rva + len) → holds rva len s ≡ false
fails rva len s short =
    elim (cases_lt rva s.address) [
      | inl behind ↦ grind arith
      | inr begun ↦ (let ends = short begun in grind arith)
    ]

an_item : {X : Type 0} (xs : List X) → 0 < length xs → X
an_item [] some = absurd (omega (arith, some))
an_item (x ∷ xs) some = x

module _ (sections : List Section) (blocks wides : List (Vec Reach)) (all : AreBlocks sections 64 blocks) (all_wide : AreBlocks sections 2048 wides) where
  passed : (rva len wide block : ℕ) → AreShort wides 0 wide rva (rva + len) → AreShort blocks (wide * 32) block rva (rva + len) → (k : ℕ) (d : Section) → k < block * 64 → k < length sections → holds rva len (get_or sections k d) ≡ false
  passed rva len wide block short_wide short k d lt within =
      fails rva len (get_or sections k d) (λ begun.
      elim (cases_lt (k / 2048) wide) [
        | inl early ↦
            let there = short_wide.within (k / 2048) (omega arith) early in
            let some = an_item wides (omega (arith, there)) in
            short_wide.short (k / 2048) some (get_or sections k d) (omega arith) early
            (all_wide.covered (k / 2048) k some d there (omega arith) (omega arith) within)
            begun
        | inr late ↦
            let from : wide * 32 ≤ k / 64 = omega arith in
            let to : k / 64 < block = omega arith in
            let there = short.within (k / 64) from to in
            let some = an_item blocks (omega (arith, there)) in
            short.short (k / 64) some (get_or sections k d) from to
            (all.covered (k / 64) k some d there (omega arith) (omega arith) within)
            begun
      ])

  -- the sections from the first block on that isn't passed decide
  pub blocks_decide :
      (rva len wide block from : ℕ) → from ≡ min (length sections) (block * 64) → AreShort wides 0 wide rva (rva + len) → AreShort blocks (wide * 32) block rva (rva + len)
      → find (holds rva len) (take (length sections - from) (drop from sections)) ≡ find (holds rva len) sections
  blocks_decide rva len wide block from is short_wide short =
      ap (find (holds rva len)) (take_all (length sections - from) (drop from sections) (omega (arith, length-drop {A = Section} from sections)))
      ∙ find_past (holds rva len) sections from (λ k d lt within. passed rva len wide block short_wide short k d (omega arith) within)
