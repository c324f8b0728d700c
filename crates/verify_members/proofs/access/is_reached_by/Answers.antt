use Rattle.std.proofs.Common.{List, Some, subst}
use Rattle.std.specs.Bool.{OnTrue, OnFalse}
use Rattle.std.specs.List.{Contains}
use Rattle.dc_base.specs.declared.ty.Ty.{Ty}
use Rattle.verify_rules.specs.Members.{MayBeNamed, through}
use Rattle.verify_members.proofs.access.is_reached_by.Goals as goal

pub returns-in-Refs-clause-yes : goal.returns-in-Refs-clause-yes
returns-in-Refs-clause-yes c =
    let h = subst (λ (set : List Ty). OnTrue c.is_reached_by_each.result ((ty : Ty) → Contains set ty → MayBeNamed c.args.setting.now c.args.member (Some (through c.args.setting.now ty)))) c.items.ensures c.is_reached_by_each.ensures.yes in
    rw c.in-Refs.is h

pub returns-in-Refs-clause-no : goal.returns-in-Refs-clause-no
returns-in-Refs-clause-no c =
    let h = subst (λ (set : List Ty). OnFalse c.is_reached_by_each.result (((ty : Ty) → Contains set ty → MayBeNamed c.args.setting.now c.args.member (Some (through c.args.setting.now ty))) → ⊥)) c.items.ensures c.is_reached_by_each.ensures.no in
    rw c.in-Refs.is h
