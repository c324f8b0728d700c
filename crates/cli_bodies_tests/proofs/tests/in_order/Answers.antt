use Rattle.std.proofs.Common.{◌≡◌, ℕ, ◌+◌, ◌-◌, ◌<◌, ◌≤◌, ◌⊎◌, length, get_or, ap, inl, inr, arith}
use Rattle.std.proofs.lemmas.List.{get_or_default}
use Rattle.std.proofs.lemmas.Bool.{cases_lt}
use Rattle.dc_base.specs.declared.names.Token.{Token}
use Rattle.cli_assembly.specs.declared.meaning.Named.{Named}
use Rattle.cli_assembly.specs.Meaning.{number_of}
use Rattle.cli_bodies_tests.proofs.tests.in_order.Goals as goal

pub loop-k-preserved : goal.loop-k-preserved
loop-k-preserved c = λ i j d lt below.
    let tokens = c.args.tokens.now in
    let k = c.loop-k.k in
    let before : get_or tokens (k - 1) d ≡ get_or tokens (k - 1) c.index-tokens-k-in-loop-k.result = get_or_default tokens (k - 1) d c.index-tokens-k-in-loop-k.result (omega arith) in
    let here : get_or tokens k d ≡ get_or tokens k c.index-tokens-k.result = get_or_default tokens k d c.index-tokens-k.result (omega arith) in
    let rises : number_of (get_or tokens (k - 1) d) < number_of (get_or tokens k d) =
    omega (arith, ap number_of before, ap number_of here, c.if-tokens-k.false) in
    elim (cases_lt j k) as (λ _. number_of (get_or tokens i d) < number_of (get_or tokens j d)) [
      | inl earlier ↦ c.loop-k.invariant i j d lt earlier
      | inr late ↦
          let is : j ≡ k = omega arith in
          let last : number_of (get_or tokens j d) ≡ number_of (get_or tokens k d) = ap (λ n. number_of (get_or tokens n d)) is in
          elim (cases_lt i (k - 1)) as (λ _. number_of (get_or tokens i d) < number_of (get_or tokens j d)) [
            | inl under ↦ omega (arith, c.loop-k.invariant i (k - 1) d under (omega arith), rises, last)
            | inr above ↦
                let same : i ≡ k - 1 = omega arith in
                omega (arith, ap (λ n. number_of (get_or tokens n d)) same, rises, last)
          ]
    ]
