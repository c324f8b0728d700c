-- Bytes begin with one header, or with none in one way.
use Rattle.std.proofs.Common.{◌≡◌, ℕ, ◌<◌, List, length, sym, ◌∙◌, inl, inr, arith}
use Rattle.cil_body.specs.declared.header.Header.{Header}
use Rattle.cil_body.specs.Header.{IsTiny, IsFat, IsHeader, IsCutField, IsBadHeader}

tiny_not_fat : (bytes : List ℕ) → IsTiny bytes → IsFat bytes → ⊥
tiny_not_fat bytes t f = absurd (omega (arith, t.1, f.1))

pub one_header : (bytes : List ℕ) (h k : Header) → IsHeader bytes h → IsHeader bytes k → h ≡ k
one_header bytes h k (inl p) (inl q) = p.1 ∙ sym q.1
one_header bytes h k (inl p) (inr q) = absurd (tiny_not_fat bytes p.0 q.0)
one_header bytes h k (inr p) (inl q) = absurd (tiny_not_fat bytes q.0 p.0)
one_header bytes h k (inr p) (inr q) = p.2 ∙ sym q.2

cut_field_short : (bytes : List ℕ) (place : ℕ) → IsCutField bytes place → length bytes < 12
cut_field_short bytes place (inl w) = omega (arith, w.0)
cut_field_short bytes place (inr (inl w)) = omega (arith, w.1)
cut_field_short bytes place (inr (inr w)) = w.1

pub no_bad_header : (bytes : List ℕ) (h : Header) (place : ℕ) → IsHeader bytes h → IsBadHeader bytes place → ⊥
no_bad_header bytes h place (inl p) (inl b) = b.0 p.0
no_bad_header bytes h place (inl p) (inr b) = tiny_not_fat bytes p.0 b.0
no_bad_header bytes h place (inr p) (inl b) = b.1 p.0
no_bad_header bytes h place (inr p) (inr b) = let s = cut_field_short bytes place b.1 in absurd (omega (arith, p.1, s))

one_cut_field : (bytes : List ℕ) (p q : ℕ) → IsCutField bytes p → IsCutField bytes q → p ≡ q
one_cut_field bytes p q (inl a) (inl b) = a.1 ∙ sym b.1
one_cut_field bytes p q (inl a) (inr (inl b)) = absurd (omega (arith, a.0, b.0))
one_cut_field bytes p q (inl a) (inr (inr b)) = absurd (omega (arith, a.0, b.0))
one_cut_field bytes p q (inr (inl a)) (inl b) = absurd (omega (arith, a.0, b.0))
one_cut_field bytes p q (inr (inl a)) (inr (inl b)) = a.2 ∙ sym b.2
one_cut_field bytes p q (inr (inl a)) (inr (inr b)) = absurd (omega (arith, a.1, b.0))
one_cut_field bytes p q (inr (inr a)) (inl b) = absurd (omega (arith, a.0, b.0))
one_cut_field bytes p q (inr (inr a)) (inr (inl b)) = absurd (omega (arith, a.0, b.1))
one_cut_field bytes p q (inr (inr a)) (inr (inr b)) = a.2 ∙ sym b.2

pub one_bad_header : (bytes : List ℕ) (p q : ℕ) → IsBadHeader bytes p → IsBadHeader bytes q → p ≡ q
one_bad_header bytes p q (inl a) (inl b) = a.2 ∙ sym b.2
one_bad_header bytes p q (inl a) (inr b) = absurd (a.1 b.0)
one_bad_header bytes p q (inr a) (inl b) = absurd (b.1 a.0)
one_bad_header bytes p q (inr a) (inr b) = one_cut_field bytes p q a.1 b.1
