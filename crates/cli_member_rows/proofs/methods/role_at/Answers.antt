use Rattle.std.proofs.Common.{◌≡◌, ℕ, ◌+◌, ◌-◌, subst, arith}
use Rattle.std.specs.List.{slice_index_or}
use Rattle.cli_members.specs.declared.roles.Role.TheVariants as role
use Rattle.cli_members.specs.Roles.{IsRole}
use Rattle.cli_member_rows.proofs.Constants.{item}
use Rattle.cli_member_rows.proofs.methods.role_at.Goals as goal

pub returns : goal.returns
returns c =
    let low = c.requires.low in
    let high = c.requires.high in
    let long = c.requires.roles.long in
    let same : c.args.k - 1 + 1 ≡ c.args.k = omega (arith, low) in
    subst (λ (k : ℕ). IsRole c.args.metadata.now k (slice_index_or c.args.roles.now (c.args.k - 1) role.None)) same
    (c.requires.roles.each (c.args.k - 1) (slice_index_or c.args.roles.now (c.args.k - 1) role.None) (item c.args.roles.now (c.args.k - 1) role.None (omega (arith, low, high, long))))
