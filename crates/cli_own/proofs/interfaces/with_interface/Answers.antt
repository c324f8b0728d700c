use Rattle.std.proofs.Common.{inl, inr, arith}
use Rattle.cli_own.proofs.Named.{pushed_in, passed_in}
use Rattle.cli_own.proofs.interfaces.with_interface.Goals.{then-class-lt1-via-then-class-lt1, then-class-lt1-via-else-class-lt1+then-len-class}
use Rattle.cli_own.proofs.interfaces.with_interface.Goals as goal

pub returns : goal.returns
returns c =
    let low = c.if-class-lt1.false in
    let high = c.if-len-class.false in
    let len = c.len.ensures in
    pushed_in (λ l. l.items) c.args.lists.items c.args.class c.args.interface c.index_mut.result.now c.push.new.self (omega (arith, low)) (omega (arith, high, len)) c.index_mut.ensures.value c.in_ok-push.ensures.items

pub returns-then-class-lt1 : goal.returns-then-class-lt1
returns-then-class-lt1 c = passed_in (λ l. l.items) c.args.lists.items c.args.class c.args.interface (elim c.then-class-lt1.branch [
  | then-class-lt1-via-then-class-lt1 w ↦ inl w.if-class-lt1.true
  | then-class-lt1-via-else-class-lt1+then-len-class w ↦ inr (let high = w.if-len-class.true in let len = w.len.ensures in omega (arith, high, len))
])
