use Rattle.std.proofs.Common.{◌≤◌, ◌+◌, length, sym, subst, refl, arith}
use Rattle.std.proofs.lemmas.Result.{err_from_is_err_and}
use Rattle.cil_lone.specs.declared.standalone.LoneFault.{LoneFault}
use Rattle.cil_lone.specs.Lone.{IsLoneFault}
use Rattle.cil_lone.proofs.Reading.{IsCut-consecutive}
use Rattle.cil_lone.proofs.Parts.{break_fault}
use Rattle.cil_lone.proofs.standalone.lone.Goals as goal

pub balance-requires : goal.balance-requires
balance-requires c =
    rw c.as_slice.ensures.value
    (IsCut-consecutive c.args.bytes.now c.in_ok-size.size c.in_ok-code.code.items c.in_ok-code.ensures.read)

pub returns-in_err-balance-clause-fault : goal.returns-in_err-balance-clause-fault
returns-in_err-balance-clause-fault c =
    let p = err_from_is_err_and c.from_residual-in_err-balance.result c.from_residual-in_err-balance.ensures.1 in
    let b = rw c.as_slice.ensures.value at c.in_err-balance.ensures.fault in
    rw (p.1, p.2)
    (break_fault c.args.bytes.now c.in_ok-size.size c.in_ok-code.code.items c.in_err-balance.field-0.0 c.in_ok-code.ensures.read b)

pub returns-in_err-trailing-clause-fault : goal.returns-in_err-trailing-clause-fault
returns-in_err-trailing-clause-fault c =
    let p = err_from_is_err_and c.from_residual-in_err-trailing.result c.from_residual-in_err-trailing.ensures.1 in
    let b = rw c.as_slice.ensures.value at c.in_ok-balance.ensures.balanced in
    let e = c.in_err-trailing.ensures.fault in
    rw (p.1, p.2)
    (subst (λ (f : LoneFault). IsLoneFault c.args.bytes.now f) (sym e.0) (c.in_ok-size.size, c.in_ok-code.code.items, c.in_ok-code.ensures.read, b, refl, e.1))

pub returns-clause-read : goal.returns-clause-read
returns-clause-read c =
    let b = rw c.as_slice.ensures.value at c.in_ok-balance.ensures.balanced in
    let past : length c.args.bytes.now ≤ c.in_ok-size.size + 1 = c.in_ok-trailing.ensures.ended in
    record {
      size = c.in_ok-size.size;
      cut = c.in_ok-code.ensures.read;
      balanced = b;
      ended = omega (arith, c.in_ok-code.ensures.read.0.1);
    }
