use Rattle.std.proofs.Common.{◌≡◌, ◌≤◌, ℕ, ◌+◌, ◌-◌, Option, replicate, sym, ap, subst, arith, ◌∙◌}
use Rattle.cli_metadata.specs.declared.tables.Table.TheVariants as tables
use Rattle.cli_metadata.specs.Metadata.{rows_of}
use Rattle.dc_base.specs.declared.names.Token.{Token}
use Rattle.cli_tables.specs.declared.properties.MethodSemanticsRow.{MethodSemanticsRow}
use Rattle.cli_members.specs.declared.roles.Role.{Role}
use Rattle.cli_members.specs.declared.roles.Role.TheVariants as role
use Rattle.cli_members.specs.Put.{role_in, IsPut}
use Rattle.cli_members.specs.Roles.{semantics_at}
use Rattle.cli_members.proofs.Accessors.{AreRolesBehind, said_by, none_yet, one_more, all_roles}
use Rattle.cli_members.proofs.roles.roles_of.Goals as goal

pub loop-k-init : goal.loop-k-init
loop-k-init c =
    let items : c.in_ok-roles.roles.items ≡ replicate c.rows.result role.None = c.in_ok-roles.ensures.items_if_clones_equal (λ y e. e) in
    subst (λ (n : ℕ). AreRolesBehind c.args.metadata.now n c.in_ok-roles.roles.items) (sym c.rows-k.ensures)
    (none_yet c.args.metadata.now c.rows.result c.in_ok-roles.roles.items c.rows.ensures items)

pub loop-k-preserved : goal.loop-k-preserved
loop-k-preserved c =
    let m = c.args.metadata.now in
    let some = c.loop-k-test.true in
    let within = c.loop-k.auto.k in
    let next : c.loop-k.k - 1 + 1 ≡ c.loop-k.k = omega (arith, some) in
    let row : c.row-row.result ≡ semantics_at m c.loop-k.k = c.row-row.ensures ∙ ap (λ (r : ℕ). semantics_at m r) next in
    let rows = c.rows-k.ensures in
    let high : c.loop-k.k ≤ rows_of m tables.MethodSemantics = omega (arith, within, rows) in
    let what : c.role_in-role.result ≡ said_by c.row-row.result = c.role_in-role.ensures ∙ ap (λ (t : Option Token). role_in c.row-row.result.semantics t) c.token.ensures in
    let put : IsPut c.row-row.result.method (said_by c.row-row.result) c.loop-k.roles.items c.with_role-roles.result.items =
    subst (λ (w : Role). IsPut c.row-row.result.method w c.loop-k.roles.items c.with_role-roles.result.items) what c.with_role-roles.ensures in
    one_more m c.loop-k.k c.loop-k.roles.items c.with_role-roles.result.items (omega (arith, some)) high c.loop-k.invariant
    (subst (λ (r : MethodSemanticsRow). IsPut r.method (said_by r) c.loop-k.roles.items c.with_role-roles.result.items) row put)

pub returns : goal.returns
returns c =
    let over = c.loop-k-test.false in
    all_roles c.args.metadata.now c.loop-k.k c.loop-k.roles.items (omega (arith, over)) c.loop-k.invariant
