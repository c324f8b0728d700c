use Rattle.std.proofs.Common.{◌≡◌, ◌∙◌, ◌∷◌, [], List, ℕ, get_or, ap, sym, subst, map}
use Rattle.std.proofs.lemmas.Option.{slice_get-get_or}
use Rattle.std.specs.List.{slice_get}
use Rattle.dc_base.specs.declared.names.TypeId.{TypeId}
use Rattle.class_spread.specs.Spreads.{IsSpreadOut}
use Rattle.class_spread.proofs.Table.{single_for, several_for, one_of}
use Rattle.class_spread.proofs.spread.spread_of.Goals as goal

pub gathered-requires-clause-behind : goal.gathered-requires-clause-behind
gathered-requires-clause-behind c = λ k i h.
    let row = get_or c.args.types.now c.args.t c.index-types-t.result in
    c.requires.behind i.0 (record {
      row = row;
      stands = slice_get-get_or c.args.types.now c.args.t c.index-types-t.result c.requires.within;
      is = (k, ap (λ (is : List TypeId). slice_get is k) (sym c.items.ensures) ∙ h);
    })

pub returns-in_ok-own-in-len1 : goal.returns-in_ok-own-in-len1
returns-in_ok-own-in-len1 c =
    let row = get_or c.args.types.now c.args.t c.index-types-t.result in
    let only = get_or c.items.result.now 0 (record { 0 = 0 }) in
    let stands = slice_get-get_or c.args.types.now c.args.t c.index-types-t.result c.requires.within in
    let one : row.bases ≡ only ∷ [] = sym c.items.ensures ∙ one_of c.items.result.now (record { 0 = 0 }) c.in-len1.len_at_least c.in-len1.len_below in
    let own : c.of.result ≡ only.0 ∷ [] = c.of.ensures ∙ c.in_ok-own-in-len1.ensures.items in
    single_for c.args.types.now c.args.order.now c.args.table.now c.args.t only.0 row c.of.result c.requires.order c.requires.so_far stands one own
    (c.requires.behind only.0 (record { row = row; stands = stands; is = (0, ap (λ (is : List TypeId). slice_get is 0) one) }))

pub returns-in_ok-own-in_default : goal.returns-in_ok-own-in_default
returns-in_ok-own-in_default c =
    let row = get_or c.args.types.now c.args.t c.index-types-t.result in
    let stands = slice_get-get_or c.args.types.now c.args.t c.index-types-t.result c.requires.within in
    let P : List TypeId → Type 0 = λ is. IsSpreadOut c.args.types.now (map (λ (i : TypeId). i.0) is) c.in_ok-own-in_default.own.items in
    let Q : List ℕ → Type 0 = λ xs. IsSpreadOut c.args.types.now (map (λ (i : TypeId). i.0) row.bases) xs in
    several_for c.args.types.now c.args.table.now c.args.t row c.of-in_default.result stands (subst Q (sym c.of-in_default.ensures) (subst P c.items.ensures c.in_ok-own-in_default.ensures))
