use Rattle.std.proofs.Common.{◌≡◌, ℕ, ◌<◌, cond, Option, unwrap_or, length, get_or, sym, ◌∙◌, ap, arith}
use Rattle.cil_regions.specs.Region.{is_catch, first_of}
use Rattle.cil_regions.specs.Tries.{found_at, range_of}
use Rattle.cil_regions.proofs.FirstSharing.{firsts_more, firsts_all}
use Rattle.cil_regions.proofs.FirstTry.{first_is, known_more}
use Rattle.cil_regions.proofs.Loose.{no_clause}
use Rattle.cil_regions.proofs.span.firsts.Goals as goal

pub loop-i-preserved : goal.loop-i-preserved
loop-i-preserved c =
    let clauses = c.args.clauses.now in
    let i = c.loop-i.i in
    let l : i < length clauses = omega arith in
    let known = c.loop-i.invariant.known in
    let here : c.in_ok-first_of.field-0 ≡ first_of clauses i (get_or clauses i no_clause) =
    c.in_ok-first_of.ensures.first
    ∙ ap (λ (o : Option ℕ). cond (is_catch (get_or clauses i no_clause).kind) (unwrap_or o i) i) (known (range_of (get_or clauses i no_clause)))
    ∙ sym (first_is clauses i no_clause l) in
    record {
      known = λ q. c.in_ok-first_of.ensures.tries q
          ∙ known_more clauses i no_clause q (found_at c.loop-i.tries q) l (known q);
      upto = firsts_more clauses c.loop-i.firsts.items c.push.new.self.items i c.in_ok-first_of.field-0 no_clause l c.loop-i.invariant.upto here c.in_ok-push.ensures.items;
    }

pub returns : goal.returns
returns c = firsts_all c.args.clauses.now c.loop-i.firsts.items c.loop-i.i (omega arith) c.loop-i.invariant.upto
