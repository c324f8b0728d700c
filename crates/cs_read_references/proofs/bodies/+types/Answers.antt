use Rattle.std.proofs.Common.{◌≡◌, ◌-◌, rules, true, [], refl, sym, ◌∙◌, subst, Err, arith}
use Rattle.std.proofs.lemmas.Result.{err_from_is_err_and}
use Rattle.dc_base.specs.declared.failure.Or.TheVariants.{Fault as WithFault}
use Rattle.cs_token.specs.Placed.{Placed as Token}
use Rattle.cs_tree.specs.declared.declarations.Item.{Item}
use Rattle.cs_grammar.specs.Grammar.{Read, turns}
use Rattle.cs_grammar.specs.Reads.{is_deep, Reads}
use Rattle.cs_grammar.proofs.Turns.{round_on, stop}
use Rattle.cs_productions.specs.Tokens.{kind}
use Rattle.cs_units.specs.Kinds.{item_kinds}
use Rattle.cs_units.specs.Declarations.{one_more_item}
use Rattle.cs_references.specs.Declarations.{item_at}
use Rattle.cs_read_types.proofs.Looping.{fail_on, fails_too}
use Rattle.cs_read_references.proofs.Nested.{no_modifiers, of_member, of_type}
use Rattle.cs_read_references.proofs.bodies.+types.Goals as goal

pub items-turns-preserved : goal.items-turns-preserved
items-turns-preserved t c =
    c.turns.invariant
    ∙ round_on kind item_kinds (λ _. true) (one_more_item (item_at c.args.limit c.args.nesting)) c.left-end.result c.turns.counter c.turns.so_far c.in_ok-so_far.so_far c.turns.tokens c.one_more_item.new.tokens (omega arith) (sym c.begins.ensures ∙ c.if-not-begins.false) refl c.in_ok-so_far.ensures

pub items-returns-then-not-begins : goal.items-returns-then-not-begins
items-returns-then-not-begins t c =
    c.turns.invariant
    ∙ stop kind item_kinds (λ _. true) (one_more_item (item_at c.args.limit c.args.nesting)) (c.left-end.result - c.turns.counter) c.turns.so_far c.turns.tokens (sym c.begins.ensures ∙ c.if-not-begins.true)

pub items-returns-in_err-so_far : goal.items-returns-in_err-so_far
items-returns-in_err-so_far t c =
    let p = err_from_is_err_and c.from_residual.result c.from_residual.ensures.1 in
    rw (p.1, p.2)
    (fails_too ((one_more_item (item_at c.args.limit c.args.nesting) c.turns.so_far).reads c.turns.tokens) ((turns kind item_kinds (λ _. true) (one_more_item (item_at c.args.limit c.args.nesting)) []).reads c.args.tokens.now) c.in_err-so_far.field-0.0 c.one_more_item.new.tokens c.in_err-so_far.ensures
    (λ deep h. c.turns.invariant
    ∙ fail_on kind item_kinds (λ _. true) (one_more_item (item_at c.args.limit c.args.nesting)) c.left-end.result c.turns.counter c.turns.so_far c.turns.tokens deep c.one_more_item.new.tokens (omega arith) (sym c.begins.ensures ∙ c.if-not-begins.false) refl h))

pub item-returns-in_err-marked : goal.item-returns-in_err-marked
item-returns-in_err-marked t c =
    let is : c.from_residual.result ≡ Err (WithFault c.in_err-marked.field-0.0) = search rules in
    rw is
    (no_modifiers c.args.limit c.args.nesting c.args.tokens.now (is_deep c.in_err-marked.field-0.0) c.modifiers.new.tokens c.in_err-marked.ensures)

pub item-returns-then-not-begins : goal.item-returns-then-not-begins
item-returns-then-not-begins t c =
    subst (λ (r : Read Token Item). Reads r c.member_item.result c.member_item.new.tokens)
    (sym (of_member c.args.limit c.args.nesting c.args.tokens.now c.in_ok-marked.marked c.modifiers.new.tokens c.in_ok-marked.ensures (sym c.begins.ensures ∙ c.if-not-begins.true)))
    c.member_item.ensures

pub item-returns : goal.item-returns
item-returns t c =
    subst (λ (r : Read Token Item). Reads r c.type_item.result c.type_item.new.tokens)
    (sym (of_type c.args.limit c.args.nesting c.args.tokens.now c.in_ok-marked.marked c.modifiers.new.tokens (omega arith) c.in_ok-marked.ensures (sym c.begins.ensures ∙ c.if-not-begins.false)))
    c.type_item.ensures
