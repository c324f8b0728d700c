-- When one region stands inside another.
use Rattle.std.proofs.Common.{◌≡◌, ◌<◌, ◌≤◌, true, false, not, ◌&&◌, ◌||◌, eqb, ltb, leb, ◌⊎◌, inl, inr, arith}
use Rattle.std.proofs.lemmas.Bool.{both_ways, not-true, not_from_false, ltb-true, leb-true, eqb-true, lt-ltb, le-leb, eq-eqb, and_parts, and_from, or_cases, or_left, or_right, cases_Bool}
use Rattle.cil_regions.specs.declared.region.Span.{Span}
use Rattle.cil_regions.specs.Region.{lies_in, is_try, is_later, is_inside}

-- s is outside r, where both have one range
abbrev pub IsLater : Span → Span → Type 0
IsLater r s = (r.first < s.first) ⊎ ((r.first ≡ s.first) × (is_try s.kind ≡ true) × (is_try r.kind ≡ false))

-- what it says that r stands inside s
pub record IsWithin (r s : Span) : Type 0 where
  pub starts : s.from ≤ r.from
  pub ends : r.to ≤ s.to
  pub later : r.from ≤ s.from → s.to ≤ r.to → IsLater r s

pub lies_from : (r s : Span) → s.from ≤ r.from → r.to ≤ s.to → lies_in r s ≡ true
lies_from r s a b = and_from (leb s.from r.from) (leb r.to s.to) (le-leb s.from r.from a) (le-leb r.to s.to b)

pub lies_parts : (r s : Span) → lies_in r s ≡ true → (s.from ≤ r.from) × (r.to ≤ s.to)
lies_parts r s h =
    let both = and_parts (leb s.from r.from) (leb r.to s.to) h in
    (leb-true s.from r.from both.0, leb-true r.to s.to both.1)

later_parts : (r s : Span) → is_later r s ≡ true → IsLater r s
later_parts r s h =
    elim (or_cases (ltb r.first s.first) (eqb r.first s.first && is_try s.kind && not (is_try r.kind)) h) [
      | inl less ↦ inl (ltb-true r.first s.first less)
      | inr same ↦
          let outer = and_parts (eqb r.first s.first && is_try s.kind) (not (is_try r.kind)) same in
          let inner = and_parts (eqb r.first s.first) (is_try s.kind) outer.0 in
          inr (eqb-true r.first s.first inner.0, inner.1, not-true (is_try r.kind) outer.1)
    ]

later_from : (r s : Span) → IsLater r s → is_later r s ≡ true
later_from r s h =
    elim h [
      | inl less ↦ or_left (ltb r.first s.first) (eqb r.first s.first && is_try s.kind && not (is_try r.kind)) (lt-ltb r.first s.first less)
      | inr same ↦
          or_right (ltb r.first s.first) (eqb r.first s.first && is_try s.kind && not (is_try r.kind))
          (and_from (eqb r.first s.first && is_try s.kind) (not (is_try r.kind))
          (and_from (eqb r.first s.first) (is_try s.kind) (eq-eqb r.first s.first same.0) same.1)
          (not_from_false (is_try r.kind) same.2))
    ]

pub inside_parts : (r s : Span) → is_inside r s ≡ true → IsWithin r s
inside_parts r s h =
    let both = and_parts (lies_in r s) (not (lies_in s r) || is_later r s) h in
    let lies = lies_parts r s both.0 in
    record {
      starts = lies.0;
      ends = lies.1;
      later = λ a b. elim (or_cases (not (lies_in s r)) (is_later r s) both.1) [
        | inl off ↦ absurd (both_ways (lies_in s r) (not-true (lies_in s r) off) (lies_from s r a b))
        | inr on ↦ later_parts r s on
      ];
    }

pub inside_from : (r s : Span) → IsWithin r s → is_inside r s ≡ true
inside_from r s w =
    and_from (lies_in r s) (not (lies_in s r) || is_later r s) (lies_from r s w.starts w.ends)
    (elim (cases_Bool (lies_in s r)) [
      | inl lies ↦
          let back = lies_parts s r lies in
          or_right (not (lies_in s r)) (is_later r s) (later_from r s (w.later back.0 back.1))
      | inr off ↦ or_left (not (lies_in s r)) (is_later r s) (not_from_false (lies_in s r) off)
    ])

later_trans : (a b c : Span) → IsLater a b → IsLater b c → IsLater a c
later_trans a b c h k =
    elim h [
      | inl u ↦ elim k [ inl v ↦ inl (omega arith) | inr v ↦ inl (omega (arith, v.0)) ]
      | inr u ↦ elim k [ inl v ↦ inl (omega (arith, u.0)) | inr v ↦ absurd (both_ways (is_try b.kind) v.2 u.1) ]
    ]

later_asym : (a b : Span) → IsLater a b → IsLater b a → ⊥
later_asym a b h k =
    elim h [
      | inl u ↦ elim k [ inl v ↦ omega arith | inr v ↦ omega (arith, v.0) ]
      | inr u ↦ elim k [ inl v ↦ omega (arith, u.0) | inr v ↦ both_ways (is_try b.kind) v.2 u.1 ]
    ]

pub inside_trans : (a b c : Span) → is_inside a b ≡ true → is_inside b c ≡ true → is_inside a c ≡ true
inside_trans a b c h k =
    let u = inside_parts a b h in
    let v = inside_parts b c k in
    inside_from a c record {
      starts = omega (arith, u.starts, v.starts);
      ends = omega (arith, u.ends, v.ends);
      later = λ p q. later_trans a b c
          (u.later (omega (arith, v.starts)) (omega (arith, v.ends)))
          (v.later (omega (arith, u.starts)) (omega (arith, u.ends)));
    }

pub inside_asym : (a b : Span) → is_inside a b ≡ true → is_inside b a ≡ true → ⊥
inside_asym a b h k =
    let u = inside_parts a b h in
    let v = inside_parts b a k in
    later_asym a b (u.later v.starts v.ends) (v.later u.starts u.ends)
