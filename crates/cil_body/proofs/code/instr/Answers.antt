use Rattle.std.proofs.Common.{◌≡◌, ℕ, List, rules, refl, sym, subst, to_z, of_z, w64}
use Rattle.std.proofs.lemmas.Int.{to_z-of_z}
use Rattle.std.proofs.lemmas.Option.{MatchOption-at_none, MatchOption-at_some}
use Rattle.cil_body.specs.Code.{jumps_by, AreAims, AreTargets}
use Rattle.cil_body.proofs.CodeFacts.{tail_is}
use Rattle.cil_body.proofs.code.instr.Goals as goal

pub returns-in_default : goal.returns-in_default
returns-in_default c all =
    let tail = tail_is c.args.at c.args.code.now in
    let none = MatchOption-at_none _ _ c.in_default.is c.in_ok-targets.ensures in
    none
    (subst (λ (xs : List ℕ). AreAims c.args.starts.now (c.args.at, c.args.found) (jumps_by c.args.found.operand c.args.found.simple.arg xs)) (sym tail) all)

pub returns : goal.returns
returns c =
    let tail = tail_is c.args.at c.args.code.now in
    let some = MatchOption-at_some _ _ c.in-Some.targets c.in-Some.is c.in_ok-targets.ensures in
    let are =
    subst (λ (xs : List ℕ). AreTargets c.args.starts.now (c.args.at, c.args.found) (jumps_by c.args.found.operand c.args.found.simple.arg xs) c.in-Some.targets.items) tail some in
    let same : to_z w64 (of_z w64 c.args.found.simple.arg) ≡ c.args.found.simple.arg = search (rules, to_z-of_z) in
    (are.0, rw (same, c.of.ensures, are.1) refl)
