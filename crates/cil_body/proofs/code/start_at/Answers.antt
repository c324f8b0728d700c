use Rattle.std.proofs.Common.{◌≡◌, ℕ, pos, rules, sym, subst}
use Rattle.std.specs.Prelude.{Contains}
use Rattle.cil_body.proofs.JumpFacts.{search_miss}
use Rattle.cil_body.proofs.code.start_at.Goals as goal

pub returns-else-is_ok : goal.returns-else-is_ok
returns-else-is_ok c has =
    let here : pos c.in_ok-start.start ≡ c.args.place = search rules in
    let same : has.0 ≡ c.in_ok-start.start = cc in
    search_miss c.args.starts.now c.in_ok-start.start c.binary_search.result c.binary_search.ensures.position c.requires (sym c.if-is_ok.ensures.value)
    (subst (λ (n : ℕ). Contains c.args.starts.now n) same has.2)
