-- The sections behind the code are one chain.
use Rattle.std.proofs.Common.{◌≡◌, ◌⊎◌, ℕ, ◌+◌, Bool, true, false, List, [], ◌∷◌, ◌++◌, length, All, refl, sym, ◌∙◌, ap, subst, inl, inr, arith, length-append}
use Rattle.std.proofs.lemmas.List.{get_or-append-add, get_or_append_left}
use Rattle.std.proofs.lemmas.List.Concat.{flat_map-append}
use Rattle.cil_body.specs.declared.section.Section.{Section}
use Rattle.cil_body.specs.declared.section.RawClause.{RawClause}
use Rattle.dc_causes.specs.First.{IsFirstOff}
use Rattle.cil_body.specs.Section.{IsSection, Chained, AreSections, clauses_of, all_clauses, IsClause, IsWrongSection, IsBadSection}
use Rattle.dc_causes.proofs.First.{not_off, one_first}

-- at one place stands one section
pub one_section : (bytes : List ℕ) (at : ℕ) (s t : Section) → IsSection bytes at s → IsSection bytes at t → s ≡ t
one_section bytes at s t a b = a.is ∙ sym b.is

-- a section that another one follows, as the first of more, and what comes behind it
pub record Longer (bytes : List ℕ) (ss : List Section) (end : ℕ) (longer : List Section) : Type 0 where
  pub next : Section
  pub more : List Section
  pub is : longer ≡ ss ++ next ∷ more
  pub section : IsSection bytes end next
  pub follows : next.has_more ≡ true

-- two chains from one place: they are one, or one goes on where the other ends
abbrev pub Compared : List ℕ → List Section → ℕ → List Section → ℕ → Type 0
Compared bytes ss end ts end' =
    ((ss ≡ ts) × (end ≡ end')) ⊎ Longer bytes ss end ts ⊎ Longer bytes ts end' ss

longer_cons : (bytes : List ℕ) (s : Section) (ss : List Section) (end : ℕ) (ts : List Section) → Longer bytes ss end ts → Longer bytes (s ∷ ss) end (s ∷ ts)
longer_cons bytes s ss end ts l =
    record { next = l.next; more = l.more; is = ap (λ (xs : List Section). s ∷ xs) l.is; section = l.section; follows = l.follows }

compared_cons :
    (bytes : List ℕ) (s : Section) (ss : List Section) (end : ℕ) (ts : List Section) (end' : ℕ) → Compared bytes ss end ts end' → Compared bytes (s ∷ ss) end (s ∷ ts) end'
compared_cons bytes s ss end ts end' (inl w) = inl (ap (λ (xs : List Section). s ∷ xs) w.0, w.1)
compared_cons bytes s ss end ts end' (inr (inl w)) = inr (inl (longer_cons bytes s ss end ts w))
compared_cons bytes s ss end ts end' (inr (inr w)) = inr (inr (longer_cons bytes s ts end' ss w))

begins_at : (bytes : List ℕ) (at end : ℕ) (t : Section) (ts : List Section) → end ≡ at → IsSection bytes at t → t.has_more ≡ true → Longer bytes [] end (t ∷ ts)
begins_at bytes at end t ts e s m =
    record { next = t; more = ts; is = refl; section = subst (λ (p : ℕ). IsSection bytes p t) (sym e) s; follows = m }

pub compared :
    (bytes : List ℕ) (at : ℕ) (ss : List Section) (end : ℕ) (ts : List Section) (end' : ℕ) → Chained bytes at ss end → Chained bytes at ts end' → Compared bytes ss end ts end'
compared bytes at [] end [] end' a b = inl (refl, a ∙ sym b)
compared bytes at [] end (t ∷ ts) end' a b = inr (inl (begins_at bytes at end t ts a b.0 b.1))
compared bytes at (s ∷ ss) end [] end' a b = inr (inr (begins_at bytes at end' s ss b a.0 a.1))
compared bytes at (s ∷ ss) end (t ∷ ts) end' a b =
    let same : t ≡ s = one_section bytes at t s b.0 a.0 in
    let tail : Chained bytes (at + s.size) ts end' =
    subst (λ (x : Section). Chained bytes (at + x.size) ts end') same b.2 in
    subst (λ (x : Section). Compared bytes (s ∷ ss) end (x ∷ ts) end') (sym same)
    (compared_cons bytes s ss end ts end' (compared bytes (at + s.size) ss end ts end' a.2 tail))

true_not_false : (b : Bool) → b ≡ true → b ≡ false → ⊥
true_not_false b p q = cc

-- behind the last section none is due
longer_not :
    (bytes : List ℕ) (ss ts : List Section) (end : ℕ) (last : Section) → Longer bytes ss end ts → IsSection bytes end last → last.has_more ≡ false → ⊥
longer_not bytes ss ts end last l s ended =
    let same : l.next ≡ last = one_section bytes end l.next last l.section s in
    true_not_false last.has_more (subst (λ (x : Section). x.has_more ≡ true) same l.follows) ended

pub one_list : (bytes : List ℕ) (at : ℕ) (ss ts : List Section) → AreSections bytes at ss → AreSections bytes at ts → ss ≡ ts
one_list bytes at ss ts a b =
    elim (compared bytes at a.front a.end b.front b.end a.chained b.chained) [
      | inl w ↦ let s : IsSection bytes b.end a.last = subst (λ (p : ℕ). IsSection bytes p a.last) w.1 a.is_last in
          let last : a.last ≡ b.last = one_section bytes b.end a.last b.last s b.is_last in
          a.all ∙ ap (λ (xs : List Section). xs ++ a.last ∷ []) w.0 ∙ ap (λ (x : Section). b.front ++ x ∷ []) last ∙ sym b.all
      | inr w ↦ elim w [
        | inl l ↦ absurd (longer_not bytes a.front b.front a.end a.last l a.is_last a.no_more)
        | inr l ↦ absurd (longer_not bytes b.front a.front b.end b.last l b.is_last b.no_more)
      ]
    ]

-- each part of a list that holds throughout
all_right : {X : Type 0} (P : X → Type 0) (xs ys : List X) → All P (xs ++ ys) → All P ys
all_right P xs ys all k d l =
    subst P (get_or-append-add xs ys k d) (all (length xs + k) d (omega (arith, length-append xs ys)))

all_left : {X : Type 0} (P : X → Type 0) (xs ys : List X) → All P (xs ++ ys) → All P xs
all_left P xs ys all k d l =
    subst P (get_or_append_left xs ys d k l) (all k d (omega (arith, length-append xs ys)))

-- the clauses of sections are those of each
clauses_split :
    (P : RawClause → Type 0) (bytes : List ℕ) (ss : List Section) (t : Section) (more : List Section) → All P (all_clauses bytes (ss ++ t ∷ more)) → All P (all_clauses bytes ss) × All P (clauses_of bytes t)
clauses_split P bytes ss t more all =
    let apart : All P (all_clauses bytes ss ++ (clauses_of bytes t ++ all_clauses bytes more)) =
    subst (λ (xs : List RawClause). All P xs) (flat_map-append (clauses_of bytes) ss (t ∷ more)) all in (
      all_left P (all_clauses bytes ss) (clauses_of bytes t ++ all_clauses bytes more) apart,
      all_left P (clauses_of bytes t) (all_clauses bytes more)
          (all_right P (all_clauses bytes ss) (clauses_of bytes t ++ all_clauses bytes more) apart),
    )

-- what a longer chain says of the section where the shorter one ends
longer_fine :
    (P : RawClause → Type 0) (bytes : List ℕ) (ss ts : List Section) (end : ℕ) (l : Longer bytes ss end ts) → All P (all_clauses bytes ts) → All P (clauses_of bytes l.next)
longer_fine P bytes ss ts end l all =
    (clauses_split P bytes ss l.next l.more (subst (λ (xs : List Section). All P (all_clauses bytes xs)) l.is all)).1

-- a section whose clauses are such is not wrong
wrong_not :
    (bytes starts : List ℕ) (size due place : ℕ) (s : Section) → IsSection bytes due s → All (IsClause starts size) (clauses_of bytes s) → IsWrongSection bytes starts size due place → ⊥
wrong_not bytes starts size due place s here all (inl w) = w.1 s here
wrong_not bytes starts size due place s here all (inr w) =
    let same : s ≡ w.0 = one_section bytes due s w.0 here w.2 in
    not_off (IsClause starts size) (clauses_of bytes w.0) w.1
    (subst (λ (x : Section). All (IsClause starts size) (clauses_of bytes x)) same all) w.3

pub no_bad_section :
    (bytes starts : List ℕ) (size at place : ℕ) (ss : List Section) → AreSections bytes at ss → All (IsClause starts size) (all_clauses bytes ss) → IsBadSection bytes starts size at place → ⊥
no_bad_section bytes starts size at place ss a all b =
    let parts =
    clauses_split (IsClause starts size) bytes a.front a.last []
    (subst (λ (xs : List Section). All (IsClause starts size) (all_clauses bytes xs)) a.all all) in
    elim (compared bytes at a.front a.end b.front b.due a.chained b.chained) [
      | inl w ↦ wrong_not bytes starts size b.due place a.last
          (subst (λ (p : ℕ). IsSection bytes p a.last) w.1 a.is_last) parts.1 b.wrong
      | inr w ↦ elim w [
        | inl l ↦ longer_not bytes a.front b.front a.end a.last l a.is_last a.no_more
        | inr l ↦ wrong_not bytes starts size b.due place l.next l.section
            (longer_fine (IsClause starts size) bytes b.front a.front b.due l parts.0) b.wrong
      ]
    ]

-- one place is due, and at it one thing is wrong
one_wrong :
    (bytes starts : List ℕ) (size due p q : ℕ) → IsWrongSection bytes starts size due p → IsWrongSection bytes starts size due q → p ≡ q
one_wrong bytes starts size due p q (inl v) (inl w) = v.0 ∙ sym w.0
one_wrong bytes starts size due p q (inl v) (inr w) = absurd (v.1 w.0 w.2)
one_wrong bytes starts size due p q (inr v) (inl w) = absurd (w.1 v.0 v.2)
one_wrong bytes starts size due p q (inr v) (inr w) =
    let same : w.0 ≡ v.0 = one_section bytes due w.0 v.0 w.2 v.2 in
    let first : IsFirstOff (IsClause starts size) (clauses_of bytes v.0) w.1 =
    subst (λ (x : Section). IsFirstOff (IsClause starts size) (clauses_of bytes x) w.1) same w.3 in
    let clause : v.1 ≡ w.1 = one_first (IsClause starts size) (clauses_of bytes v.0) v.1 w.1 v.3 first in
    v.4 ∙ ap (λ (c : RawClause). c.at) clause ∙ sym w.4

pub one_bad_section :
    (bytes starts : List ℕ) (size at p q : ℕ) → IsBadSection bytes starts size at p → IsBadSection bytes starts size at q → p ≡ q
one_bad_section bytes starts size at p q a b =
    elim (compared bytes at a.front a.due b.front b.due a.chained b.chained) [
      | inl w ↦ one_wrong bytes starts size b.due p q
          (subst (λ (d : ℕ). IsWrongSection bytes starts size d p) w.1 a.wrong) b.wrong
      | inr w ↦ elim w [
        | inl l ↦ absurd (wrong_not bytes starts size a.due p l.next l.section
            (longer_fine (IsClause starts size) bytes a.front b.front a.due l b.fine) a.wrong)
        | inr l ↦ absurd (wrong_not bytes starts size b.due q l.next l.section
            (longer_fine (IsClause starts size) bytes b.front a.front b.due l a.fine) b.wrong)
      ]
    ]
