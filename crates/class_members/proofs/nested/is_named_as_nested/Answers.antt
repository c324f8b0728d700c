use Rattle.std.proofs.Common.{sym, ◌∙◌, subst, List, ℕ}
use Rattle.class_members.specs.declared.nested.NameIn.{NameIn}
use Rattle.class_members.specs.Nested.{HasInner}
use Rattle.class_members.proofs.Equal.{name_tells}
use Rattle.class_members.proofs.Inner.{found_listed, listed_found}
use Rattle.class_members.proofs.nested.is_named_as_nested.Goals as goal

pub returns-clause-yes : goal.returns-clause-yes
returns-clause-yes c = λ t.
    let key : NameIn = record { outer = c.args.row.now.owner.0; name = c.known_name.result } in
    let one = found_listed _ (record { same = λ a b. (name_tells a b).0; back = λ a b o n. (name_tells a b).1 (o, n) }) c.args.names.now.keys key (sym c.contains.ensures ∙ t) in
    let inner = c.requires.sound key.outer key.name.now one in
    (c.is_reference.ensures.yes c.if-not-is_reference.false, subst (λ (n : List ℕ). HasInner c.args.types.now c.args.row.now.owner.0 n) c.known_name.ensures inner)

pub returns-clause-no : goal.returns-clause-no
returns-clause-no c = λ h.
    let key : NameIn = record { outer = c.args.row.now.owner.0; name = c.known_name.result } in
    let one = c.requires.complete key.outer key.name.now (subst (λ (n : List ℕ). HasInner c.args.types.now c.args.row.now.owner.0 n) (sym c.known_name.ensures) h.1) in
    c.contains.ensures ∙ listed_found _ (record { same = λ a b. (name_tells a b).0; back = λ a b o n. (name_tells a b).1 (o, n) }) c.args.names.now.keys key one
