-- Each place that is off has one offset, and stands in its list.
use Rattle.std.proofs.Common.{◌≡◌, ℕ, ◌<◌, Some, length, sym, ◌∙◌, ap}
use Rattle.std.proofs.lemmas.Option.{slice_get_within}
use Rattle.cil_body.specs.declared.body.Clause.{Clause}
use Rattle.cil_instruction.specs.declared.instruction.Instr.{Instr}
use Rattle.cli_bodies.specs.declared.method.Method.{Method}
use Rattle.cli_bodies.specs.Catches.{IsOtherClass, IsCovered}
use Rattle.cli_bodies.specs.Unboxes.{IsUnread}

pub one_class : (s : Method) (k n m : ℕ) → IsOtherClass s k n → IsOtherClass s k m → m ≡ n
one_class s k n m a b =
    let both : Some b.c ≡ Some a.c = sym b.is.stands ∙ a.is.stands in
    let same : b.c ≡ a.c = cc in
    sym b.at ∙ (ap (λ (c : Clause). c.handler_at) same ∙ a.at)

pub one_cover : (s : Method) (k n m : ℕ) → IsCovered s k n → IsCovered s k m → m ≡ n
one_cover s k n m a b =
    let both : Some b.c ≡ Some a.c = sym b.is.stands ∙ a.is.stands in
    let same : b.c ≡ a.c = cc in
    sym b.at ∙ (ap (λ (c : Clause). c.handler_at) same ∙ a.at)

pub one_unbox : (s : Method) (k n m : ℕ) → IsUnread s k n → IsUnread s k m → m ≡ n
one_unbox s k n m a b =
    let both : Some (m, b.instr) ≡ Some (n, a.instr) = sym b.stands ∙ a.stands in
    let same : (m, b.instr) ≡ (n, a.instr) = cc in
    ap (λ (e : ℕ × Instr). e.0) same

pub class_within : (s : Method) (k n : ℕ) → IsOtherClass s k n → k < length s.body.now.clauses
class_within s k n off = slice_get_within _ k off.c off.is.stands

pub cover_within : (s : Method) (k n : ℕ) → IsCovered s k n → k < length s.body.now.clauses
cover_within s k n off = slice_get_within _ k off.c off.is.stands

pub unbox_within : (s : Method) (k n : ℕ) → IsUnread s k n → k < length s.rows.now
unbox_within s k n off = slice_get_within _ k _ off.is
