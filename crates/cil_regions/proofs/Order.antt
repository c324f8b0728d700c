-- Sorted regions stand in the order of their tree.
use Rattle.std.proofs.Common.{◌≡◌, ℕ, ◌<◌, Bool, true, false, not, Ordering, List, get_or, inl, inr, sym, refl, ◌∙◌, arith}
use Rattle.std.proofs.lemmas.Bool.{both_ways, cases_Bool, cases_order}
use Rattle.std.proofs.lemmas.Cmp.{nat_cmp_total}
use Rattle.std.proofs.lemmas.List.Sorted.{ranks_by, sorted_far}
use Rattle.std.specs.Cmp.{IsTotalOrder, bool_cmp_total, nat_cmp_is, on_total, back_total, then_total}
use Rattle.std.specs.List.{AllPairs}
use Rattle.std.specs.List.Sorted.{IsSortedBy}
use Rattle.std.specs.Ordering.{nat_cmp, bool_cmp, ordering_then, is_lt}
use Rattle.std.specs.declared.cmp.Ordering.TheVariants.{Less, Equal}
use Rattle.cil_regions.specs.declared.region.Span.{Span}
use Rattle.cil_regions.specs.Region.{is_try, ComesBefore}
use Rattle.cil_regions.specs.Laid.{DifferInName}
use Rattle.cil_regions.proofs.Inside.{inside_from}

less : (a b : ℕ) → a < b → nat_cmp a b ≡ Less
less a b h = sym (nat_cmp_is a b Less h)

same : (a b : ℕ) → a ≡ b → nat_cmp a b ≡ Equal
same a b h = sym (nat_cmp_is a b Equal h)

-- how the keys of two regions compare
abbrev pub key_cmp : Span → Span → Ordering
key_cmp r s =
    ordering_then (ordering_then (ordering_then (nat_cmp r.from s.from) (nat_cmp s.to r.to)) (nat_cmp s.first r.first))
    (bool_cmp (not (is_try r.kind)) (not (is_try s.kind)))

abbrev pub key_less : Span → Span → Bool
key_less r s = is_lt (key_cmp r s)

pub key_total : IsTotalOrder key_cmp
key_total =
    then_total
    (then_total
    (then_total (on_total (λ (r : Span). r.from) nat_cmp_total) (on_total (λ (r : Span). r.to) (back_total nat_cmp_total)))
    (on_total (λ (r : Span). r.first) (back_total nat_cmp_total)))
    (on_total (λ (r : Span). not (is_try r.kind)) bool_cmp_total)

-- where the key of s isn't less
by_start : (r s : Span) → s.from < r.from → key_less s r ≡ true
by_start r s h = rw (less s.from r.from h) refl

by_end : (r s : Span) → s.from ≡ r.from → r.to < s.to → key_less s r ≡ true
by_end r s h k = rw (same s.from r.from h, less r.to s.to k) refl

by_number : (r s : Span) → s.from ≡ r.from → r.to ≡ s.to → r.first < s.first → key_less s r ≡ true
by_number r s h k l = rw (same s.from r.from h, same r.to s.to k, less r.first s.first l) refl

by_kind : (r s : Span) → s.from ≡ r.from → r.to ≡ s.to → r.first ≡ s.first → is_try s.kind ≡ true → is_try r.kind ≡ false → key_less s r ≡ true
by_kind r s h k l u v =
    rw (same s.from r.from h, same r.to s.to k, same r.first s.first l) (rw (u, v) refl)

before_kind : (r s : Span) → r.from ≡ s.from → r.to ≡ s.to → r.first ≡ s.first → DifferInName r s → key_less s r ≡ false → ComesBefore r s
before_kind r s h k l named off =
    elim (cases_Bool (is_try r.kind)) [
      | inl tr ↦ elim (cases_Bool (is_try s.kind)) [
        | inl ts ↦ absurd (named l (tr ∙ sym ts))
        | inr fs ↦
            inr (
              h,
              inside_from s r record {
                starts = omega (arith, h);
                ends = omega (arith, k);
                later = λ a b. inr (sym l, tr, fs);
              },
            )
      ]
      | inr fr ↦ elim (cases_Bool (is_try s.kind)) [
        | inl ts ↦ absurd (both_ways (key_less s r) off (by_kind r s (sym h) k l ts fr))
        | inr fs ↦ absurd (named l (fr ∙ sym fs))
      ]
    ]

before_number : (r s : Span) → r.from ≡ s.from → r.to ≡ s.to → DifferInName r s → key_less s r ≡ false → ComesBefore r s
before_number r s h k named off =
    elim (cases_order r.first s.first) [
      | inl l ↦ before_kind r s h k l named off
      | inr apart ↦ elim apart [
        | inl l ↦ absurd (both_ways (key_less s r) off (by_number r s (sym h) k l))
        | inr l ↦
            inr (h, inside_from s r record { starts = omega (arith, h); ends = omega (arith, k); later = λ a b. inl l })
      ]
    ]

before_end : (r s : Span) → r.from ≡ s.from → DifferInName r s → key_less s r ≡ false → ComesBefore r s
before_end r s h named off =
    elim (cases_order r.to s.to) [
      | inl k ↦ before_number r s h k named off
      | inr apart ↦ elim apart [
        | inl k ↦ absurd (both_ways (key_less s r) off (by_end r s (sym h) k))
        | inr k ↦
            inr (h, inside_from s r record { starts = omega (arith, h); ends = omega (arith, k); later = λ a b. absurd (omega arith) })
      ]
    ]

before : (r s : Span) → DifferInName r s → key_less s r ≡ false → ComesBefore r s
before r s named off =
    elim (cases_order r.from s.from) [
      | inl h ↦ before_end r s h named off
      | inr apart ↦ elim apart [ inl h ↦ inl h | inr h ↦ absurd (both_ways (key_less s r) off (by_start r s h)) ]
    ]

pub ordered_from_sorted : (spans : List Span) → AllPairs DifferInName spans → IsSortedBy key_less spans → AllPairs ComesBefore spans
ordered_from_sorted spans named sorted i j d h k =
    before (get_or spans i d) (get_or spans j d) (named i j d h k)
    (sorted_far key_less (ranks_by key_total (λ (r : Span). r)) spans sorted i j d (omega arith) k)
