use Rattle.std.proofs.Common.{refl}
use Rattle.std.proofs.lemmas.Bool.{false≢true}
use Rattle.class_bases.proofs.member.broken_owner.Goals.{else-is_reference-via-then-is_reference+else-not-is_there, else-is_reference-via-else-is_reference}
use Rattle.class_bases.proofs.member.broken_owner.Goals as goal

pub returns-else-is_reference : goal.returns-else-is_reference
returns-else-is_reference c = λ reference. elim c.else-is_reference.branch [
  | else-is_reference-via-then-is_reference+else-not-is_there w ↦ w.if-not-is_there.ensures.yes refl
  | else-is_reference-via-else-is_reference w ↦ absurd (false≢true (w.if-is_reference.ensures.no reference))
]
