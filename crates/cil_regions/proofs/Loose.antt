-- Clauses whose try and handler have not one parent.
use Rattle.std.proofs.Common.{◌≡◌, ℕ, ◌+◌, ◌<◌, min, Option, Some, None, List, length, get_or, ◌⊎◌, inl, inr, sym, ap, ◌∙◌, subst, arith}
use Rattle.std.proofs.lemmas.Bool.{cases_lt}
use Rattle.std.proofs.lemmas.List.{get_or_default}
use Rattle.std.specs.Option.{MatchOption}
use Rattle.cil_body.specs.declared.body.Clause.{Clause}
use Rattle.cil_body.specs.declared.body.ClauseKind.TheVariants.{Catch}
use Rattle.cil_regions.specs.Laid.{AgreeAt, DisagreeAt, IsLeastDisagreement}

-- what stands past the end of a list
abbrev pub no_clause : Clause
no_clause = record { kind = Catch; try_at = 0; try_len = 0; handler_at = 0; handler_len = 0; class = record { 0 = 0 } }

module _ (clauses : List Clause) (firsts tries handlers : List ℕ) (n : ℕ) (d : Clause) (within : n < length clauses) where
  same_clause : (i : ℕ) (c : Clause) → i ≡ n → get_or clauses i c ≡ c → get_or clauses n d ≡ c
  same_clause i c is at = get_or_default clauses n d c within ∙ ap (λ k. get_or clauses k c) (sym is) ∙ at

  DisagreeAt-more : (place : ℕ) → DisagreeAt clauses firsts tries handlers n place → DisagreeAt clauses firsts tries handlers (n + 1) place
  DisagreeAt-more place h = (h.0, h.1, omega (arith, h.2), h.3, h.4, h.5)

  DisagreeAt-cases : (place : ℕ) → DisagreeAt clauses firsts tries handlers (n + 1) place → DisagreeAt clauses firsts tries handlers n place ⊎ ((AgreeAt firsts tries handlers n → ⊥) × ((place ≡ (get_or clauses n d).try_at) ⊎ (place ≡ (get_or clauses n d).handler_at)))
  DisagreeAt-cases place h =
      elim (cases_lt h.0 n) [
        | inl early ↦ inl (h.0, h.1, early, h.3, h.4, h.5)
        | inr past ↦
            let is : h.0 ≡ n = omega (arith, h.2) in
            let same = same_clause h.0 h.1 is h.3 in
            inr (
              subst (λ k. AgreeAt firsts tries handlers k → ⊥) is h.4,
              elim h.5 [
                | inl t ↦ inl (t ∙ ap (λ (c : Clause). c.try_at) (sym same))
                | inr t ↦ inr (t ∙ ap (λ (c : Clause). c.handler_at) (sym same))
              ],
            )
      ]

  -- a clause that agrees changes nothing
  pub agreeing : (least : Option ℕ) → AgreeAt firsts tries handlers n → IsLeastDisagreement clauses firsts tries handlers n least → IsLeastDisagreement clauses firsts tries handlers (n + 1) least
  agreeing None agree h = λ place k. elim (DisagreeAt-cases place k) [ inl old ↦ h place old | inr new ↦ new.0 agree ]
  agreeing (Some least) agree h =
      (DisagreeAt-more least h.0, λ place less k. elim (DisagreeAt-cases place k) [ inl old ↦ h.1 place less old | inr new ↦ new.0 agree ])

  -- the start of one that doesn't
  abbrev pub start : ℕ
  start = min (get_or clauses n d).try_at (get_or clauses n d).handler_at

  start_disagrees : (AgreeAt firsts tries handlers n → ⊥) → DisagreeAt clauses firsts tries handlers (n + 1) start
  start_disagrees off =
      let c = get_or clauses n d in (
        n,
        c,
        omega arith,
        get_or_default clauses n c d within,
        off,
        elim (cases_lt c.try_at c.handler_at) [ inl less ↦ inl (omega arith) | inr more ↦ inr (omega arith) ],
      )

  none_below_start : (place : ℕ) → place < start → (place ≡ (get_or clauses n d).try_at) ⊎ (place ≡ (get_or clauses n d).handler_at) → ⊥
  none_below_start place less at = elim at [ inl t ↦ omega (arith, t) | inr t ↦ omega (arith, t) ]

  -- the lesser of the least so far and the start of a clause that doesn't agree
  pub disagreeing : (least : Option ℕ) (new : ℕ) → (AgreeAt firsts tries handlers n → ⊥) → IsLeastDisagreement clauses firsts tries handlers n least → MatchOption least (new ≡ start) (λ old. new ≡ min old start) → IsLeastDisagreement clauses firsts tries handlers (n + 1) (Some new)
  disagreeing None new off h is = (
    subst (DisagreeAt clauses firsts tries handlers (n + 1)) (sym is) (start_disagrees off),
    λ place less k. elim (DisagreeAt-cases place k) [ inl old ↦ h place old | inr at ↦ none_below_start place (omega (arith, is)) at.1 ],
  )
  disagreeing (Some old) new off h is = (
    elim (cases_lt start old) [
      | inl less ↦
          let here : start ≡ new = omega (arith, is) in
          subst (DisagreeAt clauses firsts tries handlers (n + 1)) here (start_disagrees off)
      | inr more ↦
          let here : old ≡ new = omega (arith, is) in
          subst (DisagreeAt clauses firsts tries handlers (n + 1)) here (DisagreeAt-more old h.0)
    ],
    λ place less k. elim (DisagreeAt-cases place k) [ inl older ↦ h.1 place (omega (arith, is)) older | inr at ↦ none_below_start place (omega (arith, is)) at.1 ],
  )
