use Rattle.cli_signature.specs.declared.raw.RawTy.{RawTy}
use Rattle.cli_signature.specs.declared.kind.Slot.{Slot}
use Rattle.std.proofs.Common.{List, ℕ, ap, ◌≡◌, ◌+◌, ◌<◌, [], ◌∷◌, ◌++◌, length, sym, subst, arith}
use Rattle.std.proofs.lemmas.Result.{err_from_is_err_and}
use Rattle.std.proofs.lemmas.List.{length-append}
use Rattle.cli_signature.specs.declared.kind.Slot.TheVariants.{Whole}
use Rattle.cli_signature.specs.Grammar.{IsCount, first_slot}
use Rattle.cli_signature.specs.Reading.{Reached, results_of}
use Rattle.cli_signature.proofs.Blobs.{count_fault, is_count, reach_count, reach_more, reach_fault, reach_all, reach_trailing}
use Rattle.cli_signature.proofs.signature.counted.Goals as goal

pub returns-in_err-count-clause-fault : goal.returns-in_err-count-clause-fault
returns-in_err-count-clause-fault c =
    let p = err_from_is_err_and c.from_residual-in_err-count.result c.from_residual-in_err-count.ensures.1 in
    rw (p.1, p.2)
    (count_fault c.args.kind c.in_ok-lead.lead c.args.blob.now c.in_err-count.field-0.0 c.requires.kind c.in_ok-lead.ensures.read c.in_err-count.ensures.fault)

pub loop-slot-init : goal.loop-slot-init
loop-slot-init c =
    let kind = c.args.kind in
    let n = c.in_ok-count.count in
    let l = c.in_ok-lead.ensures.read in
    let r = c.in_ok-count.ensures.read in
    let total : n + results_of kind ≡ n + c.results.result = omega arith in
    let reached = reach_count kind c.in_ok-lead.lead n c.args.blob.now c.in_ok-count.start c.requires.kind l r in
    let none : [] ≡ c.new-types.result.items = sym c.new-types.ensures.items in
    let r1 = subst (λ (x : ℕ). Reached kind c.in_ok-lead.lead x c.args.blob.now c.in_ok-count.start (first_slot kind) []) total reached in
    let r2 = subst (λ (x : Slot). Reached kind c.in_ok-lead.lead (n + c.results.result) c.args.blob.now c.in_ok-count.start x []) (sym c.first_slot-slot.ensures) r1 in
    record {
      lead = l.lead;
      count = subst (IsCount kind) total (is_count kind n c.requires.kind r.stands);
      reached = subst (λ (x : List RawTy). Reached kind c.in_ok-lead.lead (n + c.results.result) c.args.blob.now c.in_ok-count.start c.first_slot-slot.result x) none r2;
      few = omega (arith, ap (length {A = RawTy}) c.new-types.ensures.items);
      results = omega arith;
    }

pub ty-requires-clause-within : goal.ty-requires-clause-within
ty-requires-clause-within c = c.loop-slot.invariant.reached.within

pub returns-in_err-found-clause-fault : goal.returns-in_err-found-clause-fault
returns-in_err-found-clause-fault c =
    let p = err_from_is_err_and c.from_residual-in_err-found.result c.from_residual-in_err-found.ensures.1 in
    let i = c.loop-slot.invariant in
    let tys = c.loop-slot.types.items in
    let total = c.in_ok-count.count + c.results.result in
    let few : length tys < total = omega (arith, c.loop-slot.types.ok.0) in
    rw (p.1, p.2)
    (reach_fault c.args.kind c.in_ok-lead.lead total c.args.blob.now c.loop-slot.at c.loop-slot.slot tys c.in_err-found.field-0.0 i.lead i.count i.reached few c.in_err-found.ensures.fault)

pub loop-slot-preserved : goal.loop-slot-preserved
loop-slot-preserved c =
    let kind = c.args.kind in
    let lead = c.in_ok-lead.lead in
    let i = c.loop-slot.invariant in
    let tys = c.loop-slot.types.items in
    let ty = c.in_ok-found.found in
    let total = c.in_ok-count.count + c.results.result in
    let few : length tys < total = omega (arith, c.loop-slot.types.ok.0) in
    let more = reach_more kind lead total c.args.blob.now c.loop-slot.at c.in_ok-found.after c.loop-slot.slot tys ty i.reached c.in_ok-found.ensures.read in
    let pushed : c.push.new.self.items ≡ tys ++ ty ∷ [] = c.in_ok-push.ensures.items in
    record {
      lead = i.lead;
      count = i.count;
      reached = subst (λ (x : List RawTy). Reached kind lead total c.args.blob.now c.in_ok-found.after Whole x) (sym pushed) more;
      few = omega (arith, ap (length {A = RawTy}) pushed, length-append tys (ty ∷ []));
      results = i.results;
    }

pub returns-then-at-blob-clause-fault : goal.returns-then-at-blob-clause-fault
returns-then-at-blob-clause-fault c =
    let i = c.loop-slot.invariant in
    let tys = c.loop-slot.types.items in
    let total = c.in_ok-count.count + c.results.result in
    let all : length tys ≡ total = omega (arith, c.loop-slot.types.ok.0, i.few) in
    reach_trailing c.args.kind c.in_ok-lead.lead total c.args.blob.now c.loop-slot.at c.loop-slot.slot tys i.lead i.count i.reached all c.if-at-blob.true

pub returns-clause-read : goal.returns-clause-read
returns-clause-read c =
    let i = c.loop-slot.invariant in
    let tys = c.loop-slot.types.items in
    let total = c.in_ok-count.count + c.results.result in
    let all : length tys ≡ total = omega (arith, c.loop-slot.types.ok.0, i.few) in
    reach_all c.args.kind c.in_ok-lead.lead total c.args.blob.now c.loop-slot.at c.loop-slot.slot tys i.lead i.count i.reached all c.if-at-blob.false
