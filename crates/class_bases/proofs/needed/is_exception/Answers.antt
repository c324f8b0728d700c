use Rattle.std.proofs.Common.{◌≡◌, ℕ, List, Some, None, ap, sym, ◌∙◌, subst}
use Rattle.std.specs.Prelude.{codes}
use Rattle.class_rows.specs.Core.{IsSystem}
use Rattle.class_rows.specs.Types.{InBaseChain}
use Rattle.class_bases.specs.System.{at_name}
use Rattle.class_bases.proofs.Systems.{one_system}
use Rattle.class_bases.proofs.needed.is_exception.Goals as goal

pub returns-in-Some-clause-yes : goal.returns-in-Some-clause-yes
returns-in-Some-clause-yes c = λ t.
    let at : at_name c.args.systems.now.entries (codes "Exception") ≡ Some c.in-Some.e.now = sym (c.in-Some.ensures.value ∙ ap (λ (n : List ℕ). at_name c.args.systems.now.entries n) c.as_slice.ensures) in
    (c.in-Some.e.now, c.requires.systems.sound (codes "Exception") c.in-Some.e.now at, c.derives.ensures.yes t)

pub returns-in-Some-clause-no : goal.returns-in-Some-clause-no
returns-in-Some-clause-no c = λ h.
    let at : at_name c.args.systems.now.entries (codes "Exception") ≡ Some c.in-Some.e.now = sym (c.in-Some.ensures.value ∙ ap (λ (n : List ℕ). at_name c.args.systems.now.entries n) c.as_slice.ensures) in
    let same = one_system c.args.types.now (codes "Exception") h.0 c.in-Some.e.now c.requires.unique h.1 (c.requires.systems.sound (codes "Exception") c.in-Some.e.now at) in
    c.derives.ensures.no (subst (λ (n : ℕ). InBaseChain c.args.types.now c.args.t.0 n) same h.2)

pub returns-in-None-clause-no : goal.returns-in-None-clause-no
returns-in-None-clause-no c = λ h.
    let at : at_name c.args.systems.now.entries (codes "Exception") ≡ None = sym (c.in-None.ensures.value ∙ ap (λ (n : List ℕ). at_name c.args.systems.now.entries n) c.as_slice.ensures) in
    let some = c.requires.systems.complete (codes "Exception") h.0 h.1 in
    let both : None ≡ Some some.0 = sym at ∙ some.1 in
    absurd cc
