use Rattle.std.proofs.Common.{◌≡◌, ℕ, ◌+◌, ◌-◌, ◌<◌, List, [], ◌∷◌, ◌++◌, length, get_or, take, sym, ap, subst, ◌∙◌, arith}
use Rattle.std.proofs.lemmas.List.{take_more, take_all}
use Rattle.cli_metadata.specs.Metadata.{IsItem}
use Rattle.cli_metadata.proofs.heaps.user_string.Goals as goal

-- a list, cut before its last number
cut_last : (xs : List ℕ) → 0 < length xs → xs ≡ take (length xs - 1) xs ++ get_or xs (length xs - 1) 0 ∷ []
cut_last xs lt =
    let within : length xs - 1 < length xs = omega arith in
    let all : length xs ≡ (length xs - 1) + 1 = omega arith in
    sym (take_all (length xs) xs (omega arith)) ∙ ap (λ (n : ℕ). take n xs) all ∙ take_more xs (length xs - 1) 0 within

pub returns-in-Ok-len1-up-clause-found : goal.returns-in-Ok-len1-up-clause-found
returns-in-Ok-len1-up-clause-found c =
    let item = c.in-Ok-len1-up.field-0.now in
    let some : 0 < length c.in-Ok-len1-up.field-0.now = omega (arith, c.in-Ok-len1-up.len_at_least) in (
      get_or item (length item - 1) 0,
      subst (λ (xs : List ℕ). IsItem c.args.heap.now c.args.i xs) (cut_last item some) c.in-Ok-len1-up.ensures.found,
      c.if-text-eq0.true,
    )
