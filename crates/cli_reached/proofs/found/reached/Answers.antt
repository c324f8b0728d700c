use Rattle.std.proofs.Common.{◌≡◌, ℕ, ◌<◌, ◌++◌, ◌∷◌, [], List, length, sym, subst, ◌∙◌, refl, arith, length-append}
use Rattle.std.proofs.lemmas.List.{get_or_default, get_or_push}
use Rattle.std.proofs.lemmas.Option.{unwrap_or-slice_get}
use Rattle.cli_reached.specs.Reached.{named_by}
use Rattle.cli_reached.specs.Visited.{AreVisited, AreUnderWay}
use Rattle.cli_reached.proofs.Closing.{begun, gone_on, ended}
use Rattle.cli_reached.proofs.found.reached.Goals as goal

nil_from_length : (xs : List ℕ) → length xs ≡ 0 → xs ≡ []
nil_from_length [] none = refl
nil_from_length (x ∷ xs) some = absurd (omega arith)

pub loop-row-init : goal.loop-row-init
loop-row-init c =
    begun c.args.roots.now c.args.names.now c.in_ok-unmarked.field-0.items c.visit.new.self.marks.items c.visit.new.self.todo.items
    c.in_ok-unmarked.ensures.len c.in_ok-unmarked.ensures.none (rw c.new.ensures.items at c.in_ok-visit.ensures)

pub loop-row-preserved : goal.loop-row-preserved
loop-row-preserved c =
    let roots = c.args.roots.now in
    let names = c.args.names.now in
    let row = c.in-Some.row in
    let before = c.loop-row.visited.marks.items in
    let rest = c.pop.new.self.items in
    let marks = c.visit-in-Some.new.self.marks.items in
    let todo = c.visit-in-Some.new.self.todo.items in
    let P : List ℕ → Type 0 = λ t. AreUnderWay roots names before t in
    let under_way : AreUnderWay roots names before (rest ++ row ∷ []) = subst P c.in-Some.ensures.items c.loop-row.invariant in
    let lt : row < length names =
    omega (arith, under_way.within (length rest) (omega (arith, length-append rest (row ∷ []))), get_or_push rest row 0 (length rest) refl) in
    let is : c.items.result.now ≡ named_by names row =
    c.items.ensures ∙ (c.index-names-row.is ∙ (get_or_default names row c.index-names-row.result [] lt ∙ sym (unwrap_or-slice_get names row []))) in
    let Q : List ℕ → Type 0 = λ rows. AreVisited (length rows) rows before rest marks todo in
    gone_on roots names before marks rest todo row under_way (subst Q is c.in_ok-visit-2.ensures)

pub returns : goal.returns
returns c =
    let P : List ℕ → Type 0 = λ t. AreUnderWay c.args.roots.now c.args.names.now c.loop-row.visited.marks.items t in
    let none : c.loop-row.visited.todo.items ≡ [] = nil_from_length c.loop-row.visited.todo.items (omega (arith, c.in_default.ensures.cases.0, c.loop-row.visited.todo.ok.0)) in
    ended c.args.roots.now c.args.names.now c.loop-row.visited.marks.items (subst P none c.loop-row.invariant)
