use Rattle.std.proofs.Common.{◌≡◌, ◌⊎◌, ℕ, Bool, true, false, Some, None, refl, sym, ◌∙◌, inl, inr}
use Rattle.std.specs.Prelude.{IsTrue}
use Rattle.std.proofs.lemmas.Bool.{false≢true}
use Rattle.class_rows.specs.Core.{IsCore}
use Rattle.class_bases.specs.System.{at_name, demand_of}
use Rattle.class_bases.proofs.CoreThere.{core_there, core_off, core_none}
use Rattle.class_bases.proofs.needed.is_core_there.Goals as goal

pub returns-in-Some-clause-yes : goal.returns-in-Some-clause-yes
returns-in-Some-clause-yes c = λ t missing.
    core_there c.args.types.now c.args.systems.now.entries c.args.k c.in-Some.t.now c.core_name.result.now (demand_of c.core_demand.result) c.requires.systems c.core_name.ensures c.core_demand.ensures (sym c.in-Some.ensures.value) (c.meets.ensures.yes t) missing

pub returns-in-Some-clause-no : goal.returns-in-Some-clause-no
returns-in-Some-clause-no c =
    elim c.meets.result as (λ (v : Bool). c.meets.result ≡ v → ((t : ℕ) → IsCore c.args.types.now c.args.k t → ⊥) ⊎ IsTrue v) [
      | true ↦ λ _. inr refl
      | false ↦ λ e. inl (core_off c.args.types.now c.args.systems.now.entries c.args.k c.in-Some.t.now c.core_name.result.now (demand_of c.core_demand.result) c.requires.unique c.requires.systems c.core_name.ensures c.core_demand.ensures (sym c.in-Some.ensures.value) (λ m. false≢true (sym e ∙ c.meets.ensures.no m)))
    ] refl

pub returns-in-None-clause-no : goal.returns-in-None-clause-no
returns-in-None-clause-no c = inl (core_none c.args.types.now c.args.systems.now.entries c.args.k c.core_name.result.now c.requires.systems c.core_name.ensures (sym c.in-None.ensures.value))
