use Rattle.std.proofs.Common.{◌≡◌, ℕ, ◌<◌, get_or}
use Rattle.dc_base.specs.declared.names.MemberId.{MemberId}
use Rattle.verify_members.proofs.base.lists.Given as goal

abbrev pub invariant-loop-other : goal.invariant-loop-other
invariant-loop-other l = (k : ℕ) (d : MemberId) → k < l.other-index → get_or l.members k d ≡ l.member → ⊥
