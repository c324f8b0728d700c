use Rattle.std.proofs.Common.{inl, inr}
use Rattle.std.proofs.lemmas.Bool.{lt-ltb}
use Rattle.class_bases.proofs.member.ty_is_there.Goals as goal

pub returns-in-Class-clause-no : goal.returns-in-Class-clause-no
returns-in-Class-clause-no c = λ h. lt-ltb _ _ (h c.in-Class.t.0 (inl c.in-Class.is))

pub returns-in-Value-clause-no : goal.returns-in-Value-clause-no
returns-in-Value-clause-no c = λ h. lt-ltb _ _ (h c.in-Value.t.0 (inr (inl c.in-Value.is)))

pub returns-in-Enum-clause-no : goal.returns-in-Enum-clause-no
returns-in-Enum-clause-no c = λ h. lt-ltb _ _ (h c.in-Enum.t.0 (inr (inr c.in-Enum.is)))
