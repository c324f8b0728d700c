use Rattle.std.proofs.Common.{◌≡◌, ◌⊎◌, ◌<◌, ◌≤◌, length, get_or, inl, inr, arith}
use Rattle.std.proofs.lemmas.Grind.{common_steps}
use Rattle.cli_signature.specs.Reading.{top_of}
use Rattle.cli_signature.proofs.Stopping.{at_end, at_first, after_first, at_second, after_second, at_third, at_fourth}
use Rattle.cli_signature.proofs.number.number_stop.Goals as goal
use Rattle.cli_signature.proofs.number.number_stop.Goals.{then-first-lt128-via-then-first-lt128, then-first-lt128-via-else-first-lt128+then-top-first}
use Rattle.cli_signature.proofs.number.number_stop.Goals.{else-first-via-then-first+then-second-eq0+else-third-lt64, else-first-via-then-first+else-second-eq0, else-first-via-else-first}

pub returns-in_default : goal.returns-in_default
returns-in_default c = at_end c.args.reference c.args.bytes.now (omega arith)

pub returns-then-first-lt128 : goal.returns-then-first-lt128
returns-then-first-lt128 c =
    let bytes = c.args.bytes.now in
    let stands : (get_or bytes 0 0 < 128) ⊎ (top_of c.args.reference ≤ get_or bytes 0 0) =
    elim c.then-first-lt128.branch [
      | then-first-lt128-via-then-first-lt128 w ↦ inl (omega arith)
      | then-first-lt128-via-else-first-lt128+then-top-first w ↦ inr (omega arith)
    ] in
    at_first c.args.reference bytes (omega arith) c.requires stands

pub returns-in_default-behind : goal.returns-in_default-behind
returns-in_default-behind c =
    let few : length c.args.bytes.now < 2 = grind (arith, common_steps) in
    after_first c.args.reference c.args.bytes.now (omega arith) few (omega arith) (omega arith)

pub returns-then-first-lt192 : goal.returns-then-first-lt192
returns-then-first-lt192 c =
    let many : 2 ≤ length c.args.bytes.now = grind (arith, common_steps) in
    at_second c.args.reference c.args.bytes.now many (omega arith) (omega arith) c.requires

pub returns-in_default-behind-2 : goal.returns-in_default-behind-2
returns-in_default-behind-2 c =
    let many : 2 ≤ length c.args.bytes.now = grind (arith, common_steps) in
    let few : length c.args.bytes.now < 3 = grind (arith, common_steps) in
    after_second c.args.reference c.args.bytes.now many few (omega arith) (omega arith) (omega (arith, c.type_inv.bytes 1))

pub returns-then-third-lt64 : goal.returns-then-third-lt64
returns-then-third-lt64 c =
    let many : 3 ≤ length c.args.bytes.now = grind (arith, common_steps) in
    let a : get_or c.args.bytes.now 0 0 ≡ 192 = grind (arith, common_steps) in
    let b : get_or c.args.bytes.now 1 0 ≡ 0 = grind (arith, common_steps) in
    let d : get_or c.args.bytes.now 2 0 < 64 = grind (arith, common_steps) in
    at_third c.args.reference c.args.bytes.now many a b d

pub returns : goal.returns
returns c =
    let many : 3 ≤ length c.args.bytes.now = grind (arith, common_steps) in
    let least : get_or c.args.bytes.now 0 0 ≡ 192 → get_or c.args.bytes.now 1 0 ≡ 0 → 64 ≤ get_or c.args.bytes.now 2 0 =
    λ p q. elim c.else-first.branch [
      | else-first-via-then-first+then-second-eq0+else-third-lt64 w ↦ grind (arith, common_steps)
      | else-first-via-then-first+else-second-eq0 w ↦ grind (arith, common_steps)
      | else-first-via-else-first w ↦ grind (arith, common_steps)
    ] in
    at_fourth c.args.reference c.args.bytes.now many (omega arith) (omega arith) (omega (arith, c.type_inv.bytes 1)) (omega (arith, c.type_inv.bytes 2)) least c.requires
