use Rattle.std.proofs.Common.{◌≡◌, ◌<◌, ◌-◌, length, get_or, take, drop, arith}
use Rattle.std.proofs.lemmas.Grind.{common_steps}
use Rattle.std.proofs.lemmas.List.{take_all, length-drop}
use Rattle.cli_signature.proofs.Stopping.{stopped}
use Rattle.cli_signature.proofs.number.number.Goals as goal

pub returns-in-Some-get-clause-fault : goal.returns-in-Some-get-clause-fault
returns-in-Some-get-clause-fault c =
    let bytes = drop c.args.at c.args.blob.now in
    let all : take (length c.args.blob.now - c.args.at) bytes ≡ bytes = take_all _ bytes (omega (arith, length-drop c.args.at c.args.blob.now)) in
    let s = rw all at c.number_stop-stop.ensures in
    let within : c.number_stop-stop.result < length bytes = grind (arith, common_steps) in
    let is : c.in-Some-get.byte.now ≡ get_or bytes c.number_stop-stop.result 0 = grind (arith, common_steps) in
    stopped c.args.reference bytes c.number_stop-stop.result c.in-Some-get.byte.now c.args.at s within is
