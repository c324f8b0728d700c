use Rattle.std.proofs.Common.{◌≡◌, ◌∙◌, ℕ, suc, ◌-◌, Bool, List, Option, cond, Some, drop, sym, ap, subst, arith}
use Rattle.std.specs.Map.{lookup}
use Rattle.cli_scopes.specs.declared.name.TypeName.{TypeName}
use Rattle.cli_scopes.specs.Names.{is_name}
use Rattle.cli_scopes.specs.Numbered.{at_name, AreNumbered}
use Rattle.cli_scopes.proofs.Named.{name_same, lookup_same, IsNumberedNow, one_more_name}
use Rattle.cli_scopes.specs.contracts.name.TypeNamePartialEq.TheImpl as name_impl
use Rattle.cli_scopes.proofs.name.numbers.Goals as goal

told : (name : TypeName) (entries : List (TypeName × ℕ)) → lookup ((name_impl.eq-value).it name) entries ≡ at_name entries name
told name entries = lookup_same ((name_impl.eq-value).it name) (λ (key : TypeName). is_name name key) (name_same name) entries

pub loop-index-preserved : goal.loop-index-preserved
loop-index-preserved c =
    let some = c.loop-index-test.true in
    let next : c.loop-index.index ≡ suc (c.loop-index.index - 1) = omega (arith, some) in
    let new = c.name_at-name.result in
    let now : IsNumberedNow c.loop-index.numbers.entries c.insert.new.self.entries new (c.loop-index.index - 1) = λ name.
    sym (told name c.insert.new.self.entries) ∙ c.in_ok-insert.ensures.updates.0 name
    ∙ ap (λ (b : Bool). cond b (Some (c.loop-index.index - 1)) (lookup ((name_impl.eq-value).it name) c.loop-index.numbers.entries)) (name_same new name)
    ∙ ap (λ (o : Option ℕ). cond (is_name new name) (Some (c.loop-index.index - 1)) o) (told name c.loop-index.numbers.entries) in
    one_more_name c.args.names.now (c.loop-index.index - 1) new c.loop-index.numbers.entries c.insert.new.self.entries c.name_at-name.ensures now
    (subst (λ (j : ℕ). AreNumbered j (drop j c.args.names.now) c.loop-index.numbers.entries) next c.loop-index.invariant)
