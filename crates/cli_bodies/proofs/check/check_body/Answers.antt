use Rattle.std.proofs.Common.{Option, None, refl, subst}
use Rattle.cli_conditions.specs.declared.condition.Condition.TheVariants as conditions
use Rattle.cli_bodies.specs.declared.method.Failure.{Failure}
use Rattle.cli_bodies.proofs.First.{AreAsked, next, offset_of, head_of, begin, met, unmet}
use Rattle.cli_bodies.proofs.check.check_body.Goals as goal

pub returns-in-Some-clause-fault : goal.returns-in-Some-clause-fault
returns-in-Some-clause-fault c =
    let s = c.args.method.now in
    let tell = c.one_number.ensures in
    let class_ = next s conditions.CatchClass None c.earlier-class.result c.other_class.result tell c.earlier-class.ensures (begin s) (offset_of s conditions.CatchClass c.other_class.result c.other_class.ensures.some c.other_class.ensures.none) in
    let order = next s conditions.CatchOrder c.earlier-class.result c.earlier-order.result c.covered.result tell c.earlier-order.ensures class_ (offset_of s conditions.CatchOrder c.covered.result c.covered.ensures.some c.covered.ensures.none) in
    let head = next s conditions.Head c.earlier-order.result c.earlier-head.result s.head tell c.earlier-head.ensures order (head_of s s.head refl) in
    let unbox = next s conditions.Unbox c.earlier-head.result c.earlier-unbox.result c.unread.result tell c.earlier-unbox.ensures head (offset_of s conditions.Unbox c.unread.result c.unread.ensures.some c.unread.ensures.none) in
    let P : Option Failure → Type 0 = λ o. AreAsked s 33 o in
    unmet s c.in-Some.failure (subst P c.in-Some.is unbox)

pub returns-clause-met : goal.returns-clause-met
returns-clause-met c =
    let s = c.args.method.now in
    let tell = c.one_number.ensures in
    let class_ = next s conditions.CatchClass None c.earlier-class.result c.other_class.result tell c.earlier-class.ensures (begin s) (offset_of s conditions.CatchClass c.other_class.result c.other_class.ensures.some c.other_class.ensures.none) in
    let order = next s conditions.CatchOrder c.earlier-class.result c.earlier-order.result c.covered.result tell c.earlier-order.ensures class_ (offset_of s conditions.CatchOrder c.covered.result c.covered.ensures.some c.covered.ensures.none) in
    let head = next s conditions.Head c.earlier-order.result c.earlier-head.result s.head tell c.earlier-head.ensures order (head_of s s.head refl) in
    let unbox = next s conditions.Unbox c.earlier-head.result c.earlier-unbox.result c.unread.result tell c.earlier-unbox.ensures head (offset_of s conditions.Unbox c.unread.result c.unread.ensures.some c.unread.ensures.none) in
    let P : Option Failure → Type 0 = λ o. AreAsked s 33 o in
    met s (subst P c.in-None.is unbox)
