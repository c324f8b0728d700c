use Rattle.std.proofs.Common.{ℕ, Bool, List, Option, inl, inr, sym, subst}
use Rattle.std.proofs.lemmas.Bool.{false≢true}
use Rattle.class_implemented.specs.Marked.{IsMarked}
use Rattle.class_implemented.proofs.Done.{marked_done, open_done, done_cases}
use Rattle.class_implemented.proofs.chain.is_done.Goals as goal

pub returns-then-is_marked-clause-yes : goal.returns-then-is_marked-clause-yes
returns-then-is_marked-clause-yes c = λ _.
    let m = c.args.m in
    let raw = c.is_marked.ensures.yes c.if-is_marked.true in
    let some = subst (λ (l : List (Option ℕ)). IsMarked c.as_slice.result.now l m) c.as_slice-2.ensures.value raw in
    let is = subst (λ (l : List Bool). IsMarked l c.args.standing.now.marks.items m) c.as_slice.ensures.value some in
    marked_done c.args.known.now c.requires.known c.args.standing.now c.args.c.0 c.requires.standing m c.args.due.now c.requires.stands is

pub returns-else-is_marked-clause-yes : goal.returns-else-is_marked-clause-yes
returns-else-is_marked-clause-yes c = λ t.
    open_done c.args.known.now c.requires.known c.args.standing.now c.args.c.0 c.requires.standing c.args.m c.args.due.now c.requires.stands (c.has_open_like.ensures.yes t)

pub returns-else-is_marked-clause-no : goal.returns-else-is_marked-clause-no
returns-else-is_marked-clause-no c = λ done.
    let m = c.args.m in
    elim (done_cases c.args.known.now c.requires.known c.args.standing.now c.args.c.0 c.requires.standing m c.args.due.now c.requires.stands done) [
      | inl is ↦
          let some = subst (λ (l : List Bool). IsMarked l c.args.standing.now.marks.items m) (sym c.as_slice.ensures.value) is in
          let raw = subst (λ (l : List (Option ℕ)). IsMarked c.as_slice.result.now l m) (sym c.as_slice-2.ensures.value) some in
          absurd (false≢true (c.if-is_marked.ensures.no raw))
      | inr like ↦ c.has_open_like.ensures.no like
    ]
