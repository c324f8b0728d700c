use Rattle.std.proofs.Common.{◌≡◌, ◌<◌, ◌≤◌, ℤ, pos, length, rules, arith, sym, ◌∙◌, subst, to_z, of_z, w64, w32}
use Rattle.std.specs.Int.RustNames.{FitsSigned}
use Rattle.std.proofs.lemmas.Int.{to_z-of_z}
use Rattle.cil_body.specs.Code.{jumps_by, HasAim, IsTarget}
use Rattle.cil_instruction.proofs.Consequences.{stands_within}
use Rattle.cil_body.proofs.JumpFacts.{instruction_at-cases, instruction_at-fits, targets-more, targets-all}
use Rattle.cil_body.proofs.code.targets.Goals as goal

pub jumps-k-end-requires : goal.jumps-k-end-requires
jumps-k-end-requires c = instruction_at-cases c.args.bytes.now c.args.found c.requires.read

pub jump-requires-clause-there : goal.jump-requires-clause-there
jump-requires-clause-there c = instruction_at-cases c.args.bytes.now c.args.found c.requires.read

pub target-requires-clause-short : goal.target-requires-clause-short
target-requires-clause-short c =
    let within = stands_within c.args.bytes.now c.args.found c.requires.read in
    omega arith

pub target-requires-clause-near : goal.target-requires-clause-near
target-requires-clause-near c =
    let same : to_z w64 (of_z w64 c.jump.result) ≡ c.jump.result = search (rules, to_z-of_z) in
    let within : c.loop-k.k < length (jumps_by c.args.found.operand c.args.found.simple.arg c.args.bytes.now) = omega arith in
    subst (FitsSigned w32) (sym (same ∙ c.jump.ensures)) (instruction_at-fits c.args.bytes.now c.args.found c.requires.read c.loop-k.k (pos 0) within)

pub returns-in_default : goal.returns-in_default
returns-in_default c all =
    let same : to_z w64 (of_z w64 c.jump.result) ≡ c.jump.result = search (rules, to_z-of_z) in
    let within : c.loop-k.k < length (jumps_by c.args.found.operand c.args.found.simple.arg c.args.bytes.now) = omega arith in
    c.in_default.ensures (subst (HasAim c.args.starts.now (c.args.at, c.args.found)) (sym (same ∙ c.jump.ensures)) (all c.loop-k.k (pos 0) within))

pub loop-k-preserved : goal.loop-k-preserved
loop-k-preserved c =
    let same : to_z w64 (of_z w64 c.jump.result) ≡ c.jump.result = search (rules, to_z-of_z) in
    let within : c.loop-k.k < length (jumps_by c.args.found.operand c.args.found.simple.arg c.args.bytes.now) = omega arith in
    let is = subst (λ (jump : ℤ). IsTarget c.args.starts.now (c.args.at, c.args.found) jump c.in-Some.target) (same ∙ c.jump.ensures) c.in-Some.ensures in
    rw c.in_ok-push.ensures.items
    (targets-more c.args.starts.now (c.args.at, c.args.found) (jumps_by c.args.found.operand c.args.found.simple.arg c.args.bytes.now) c.loop-k.k c.loop-k.targets.items c.in-Some.target within is c.loop-k.invariant)

pub returns : goal.returns
returns c =
    let end : length (jumps_by c.args.found.operand c.args.found.simple.arg c.args.bytes.now) ≤ c.loop-k.k = omega arith in
    targets-all c.args.starts.now (c.args.at, c.args.found) (jumps_by c.args.found.operand c.args.found.simple.arg c.args.bytes.now) c.loop-k.k c.loop-k.targets.items end c.loop-k.invariant
