use Rattle.std.proofs.Common.{◌≡◌, ℕ, ◌+◌, ◌<◌, List, [], ◌∷◌, ◌++◌, Some, length, get_or, sym, ap, ◌∙◌, subst, arith}
use Rattle.std.proofs.lemmas.List.{length-append}
use Rattle.std.proofs.lemmas.Option.{slice_get_within, get_or_from_slice_get}
use Rattle.verify_rules.specs.declared.setting.Spot.{Spot}
use Rattle.verify_spots.specs.Spots.{EndsHead, IsSpot}
use Rattle.verify_spots.proofs.Standing.{less, pushed}
use Rattle.verify_spots.proofs.spot.spots_among.Goals as goal

pub spot-requires-clause-no_head : goal.spot-requires-clause-no_head
spot-requires-clause-no_head c =
    less c.is_at-ends_head.result (c.head_end-head.result ≡ Some c.loop-number.number) (EndsHead c.args.setting.now c.loop-number.number) c.is_at-ends_head.ensures.no (c.head_end-head.ensures.only c.loop-number.number)

pub loop-number-preserved : goal.loop-number-preserved
loop-number-preserved c =
    let spot = c.spot.ensures in
    let each : (k : ℕ) → k < c.loop-number.number + 1 → (d : Spot) → IsSpot c.args.setting.now c.args.regions.now.body.now k (get_or (c.loop-number.spots.items ++ c.spot.result ∷ []) k d) =
    pushed (λ k x. IsSpot c.args.setting.now c.args.regions.now.body.now k x) c.loop-number.spots.items c.spot.result c.loop-number.number c.loop-number.invariant.as_many c.loop-number.invariant.each spot in
    let items : c.push.new.self.items ≡ c.loop-number.spots.items ++ c.spot.result ∷ [] = c.in_ok-push.ensures.items in
    let many = c.loop-number.invariant.as_many in
    record {
      as_many = ap length items ∙ length-append c.loop-number.spots.items (c.spot.result ∷ []) ∙ ap (λ (n : ℕ). n + 1) many;
      each = λ k lt d. subst (λ (xs : List Spot). IsSpot c.args.setting.now c.args.regions.now.body.now k (get_or xs k d)) (sym items) (each k lt d);
    }

pub returns : goal.returns
returns c = record {
  as_many =
      let all = c.loop-number.invariant.as_many in
      let end = c.loop-number.auto.number-end in
      let marked = c.requires.marked.as_many in
      omega (arith, all, end, marked, c.loop-number-test.false);
  each = λ i spot is.
      let all = c.loop-number.invariant.as_many in
      let within = slice_get_within c.loop-number.spots.items i spot is in
      subst (λ (x : Spot). IsSpot c.args.setting.now c.args.regions.now.body.now i x) (get_or_from_slice_get c.loop-number.spots.items i spot spot is) (c.loop-number.invariant.each i (omega (arith, all, within)) spot);
}
