-- What each instruction does to the instructions of a beginning.
use Rattle.std.proofs.Common.{◌≡◌, ◌∙◌, ℕ, zero, suc, Bool, true, false, ◌&&◌, not, List, [], ◌∷◌, ◌++◌, Option, Some, None, take, drop, map, slice_get, refl, sym, ap, if◌then◌else◌, append_assoc}
use Rattle.std.specs.List.{flat_map}
use Rattle.std.proofs.lemmas.List.{append-nil, take-append-drop}
use Rattle.std.proofs.lemmas.List.Concat.{flat_map-append}
use Rattle.dc_base.specs.declared.names.MemberId.{MemberId}
use Rattle.cil_rows.specs.declared.row.Row.{Row}
use Rattle.cil_rows.specs.declared.row.Row.TheVariants as row
use Rattle.cli_heads.specs.declared.head.Value.{Value}
use Rattle.cli_heads.specs.declared.head.Value.TheFolds.{fold-roll-Value}
use Rattle.cli_heads.specs.declared.head.Store.{Store}
use Rattle.cli_heads.specs.declared.known.Known.{Known}
use Rattle.cli_heads.specs.declared.begun.Made.{Made}
use Rattle.cli_heads.specs.declared.begun.Item.{Item}
use Rattle.cli_heads.specs.declared.begun.Item.TheVariants.{This, Made as Makes}
use Rattle.cli_heads.specs.declared.begun.Begun.{Begun}
use Rattle.cli_heads.specs.declared.maker.Maker.{Maker}
use Rattle.cli_heads.specs.Known.{known_of}
use Rattle.cli_heads.specs.Begun.{are_made, values, knowns, received, this_and_one, rises, with_store, stored, own_field, tree_of, built_as, built, with_made, made, goes_on}
use Rattle.cli_heads.specs.Head.{is_plain, goes_on_with, begun}
use Rattle.cli_heads.specs.Trees.{numbers_layer, numbers, numbers_of_store, numbers_of_item, numbers_of, one_of, numbers_before, TreesAreCode}

abbrev noi : List Item → List ℕ
noi items = flat_map numbers_of_item items

abbrev nos : List Store → List ℕ
nos stores = flat_map numbers_of_store stores

-- a test and what it lets through

let_through : {A : Type 0} (p : Bool) (o : Option A) (b : A) → (if p then o else None) ≡ Some b → o ≡ Some b
let_through true o b is = is
let_through false o b is = let no : None ≡ Some b = is in absurd cc

both_first : (p q : Bool) → (p && q) ≡ true → p ≡ true
both_first true q is = refl
both_first false q is = is

test_of : {A : Type 0} (p : Bool) (o : Option A) (b : A) → (if p then o else None) ≡ Some b → p ≡ true
test_of true o b is = refl
test_of false o b is = let no : None ≡ Some b = is in absurd cc

-- the values of some items that are all made have these items' instructions

of_values : (items : List Item) → are_made items ≡ true → flat_map (λ (of : List ℕ). of) (map numbers (values items)) ≡ noi items
of_values [] made = refl
of_values (This at ∷ items) made = let no : false ≡ true = made in absurd cc
of_values (Makes m ∷ items) made = ap (λ ns. numbers m.value ++ ns) (of_values items made)

of_tree : (k : ℕ) (of : List Value) → numbers (tree_of k of) ≡ flat_map (λ (of : List ℕ). of) (map numbers of) ++ k ∷ []
of_tree k of = fold-roll-Value (List ℕ) numbers_layer (record { at = k; of = of })

of_built_as : (k : ℕ) (over : List Item) (known : Option Known) (m : Made) → built_as k over known ≡ Some m → numbers m.value ≡ numbers (tree_of k (values over))
of_built_as k over None m is = let no : None ≡ Some m = is in absurd cc
of_built_as k over (Some known) m is =
    let x : Made = record { value = tree_of k (values over); known = known } in
    let same : Some x ≡ Some m = is in
    let one : x ≡ m = cc in
    sym (ap (λ (y : Made). numbers y.value) one)

of_built : (s : Maker) (k : ℕ) (r : Row) (over : List Item) (m : Made) → built s k r over ≡ Some m → numbers m.value ≡ noi over ++ k ∷ []
of_built s k r over m is =
    let known = let_through (are_made over) (built_as k over (known_of s r (knowns over))) m is in
    let all = test_of (are_made over) (built_as k over (known_of s r (knowns over))) m is in
    of_built_as k over _ m known ∙ (of_tree k (values over) ∙ ap (λ ns. ns ++ k ∷ []) (of_values over all))

-- a value

of_made : (k : ℕ) (stores : List Store) (below over : List Item) (o : Option Made) (b : Begun)
    → ((m : Made) → o ≡ Some m → numbers m.value ≡ noi over ++ k ∷ []) → with_made stores below o ≡ Some b
    → numbers_of b ≡ nos stores ++ (noi (below ++ over) ++ k ∷ [])
of_made k stores below over None b by is = let no : None ≡ Some b = is in absurd cc
of_made k stores below over (Some m) b by is =
    let x : Begun = record { stores = stores; stack = below ++ Makes m ∷ [] } in
    let same : Some x ≡ Some b = is in
    let one : x ≡ b = cc in
    sym (ap numbers_of one)
    ∙ ap (λ ns. nos stores ++ ns)
    (flat_map-append numbers_of_item below (Makes m ∷ [])
    ∙ (ap (λ ns. noi below ++ ns) (append-nil (numbers m.value) ∙ by m refl)
    ∙ (sym (append_assoc (noi below) (noi over) (k ∷ [])) ∙ ap (λ ns. ns ++ k ∷ []) (sym (flat_map-append numbers_of_item below over)))))

made_more : (s : Maker) (k : ℕ) (r : Row) (x b : Begun) (j : ℕ) → with_made x.stores (take j x.stack) (built s k r (drop j x.stack)) ≡ Some b
    → numbers_of b ≡ numbers_of x ++ k ∷ []
made_more s k r x b j is =
    of_made k x.stores (take j x.stack) (drop j x.stack) (built s k r (drop j x.stack)) b (λ m e. of_built s k r (drop j x.stack) m e) is
    ∙ (ap (λ items. nos x.stores ++ (noi items ++ k ∷ [])) (take-append-drop j x.stack) ∙ sym (append_assoc (nos x.stores) (noi x.stack) (k ∷ [])))

of_value : (s : Maker) (k : ℕ) (r : Row) (x b : Begun) → made s k r x ≡ Some b → numbers_of b ≡ numbers_of x ++ k ∷ []
of_value s k r x b is = made_more s k r x b _ (let_through _ _ b is)

-- a store

of_store : (k : ℕ) (field : MemberId) (stores : List Store) (stack : List Item) (b : Begun) → with_store k field stores (this_and_one stack) ≡ Some b
    → numbers_of b ≡ (nos stores ++ noi stack) ++ k ∷ []
of_store k field stores (This at ∷ Makes m ∷ []) b is =
    let st : Store = record { receiver = at; value = m.value; at = k; field = field } in
    let x : Begun = record { stores = stores ++ st ∷ []; stack = [] } in
    let same : Some x ≡ Some b = let_through (rises stores field && not m.known.reads) (Some x) b is in
    let one : x ≡ b = cc in
    sym (ap numbers_of one)
    ∙ (append-nil (nos (stores ++ st ∷ []))
    ∙ (flat_map-append numbers_of_store stores (st ∷ [])
    ∙ (ap (λ ns. nos stores ++ ns) (append-nil (numbers_of_store st) ∙ ap (λ ns. at ∷ (ns ++ k ∷ [])) (sym (append-nil (numbers m.value))))
    ∙ sym (append_assoc (nos stores) (at ∷ (numbers m.value ++ [])) (k ∷ [])))))
of_store k field stores [] b is = let no : None ≡ Some b = is in absurd cc
of_store k field stores (Makes m ∷ stack) b is = let no : None ≡ Some b = is in absurd cc
of_store k field stores (This at ∷ []) b is = let no : None ≡ Some b = is in absurd cc
of_store k field stores (This at ∷ This other ∷ stack) b is = let no : None ≡ Some b = is in absurd cc
of_store k field stores (This at ∷ Makes m ∷ y ∷ stack) b is = let no : None ≡ Some b = is in absurd cc

of_stored : (k : ℕ) (field : Option MemberId) (x b : Begun) → stored k field x ≡ Some b → numbers_of b ≡ numbers_of x ++ k ∷ []
of_stored k None x b is = let no : None ≡ Some b = is in absurd cc
of_stored k (Some field) x b is = of_store k field x.stores x.stack b is

-- `this`

of_this : (k : ℕ) (x b : Begun) → received k x ≡ Some b → numbers_of b ≡ numbers_of x ++ k ∷ []
of_this k x b is =
    let y : Begun = record { stores = x.stores; stack = x.stack ++ This k ∷ [] } in
    let same : Some y ≡ Some b = is in
    let one : y ≡ b = cc in
    sym (ap numbers_of one)
    ∙ (ap (λ ns. nos x.stores ++ ns) (flat_map-append numbers_of_item x.stack (This k ∷ [])) ∙ sym (append_assoc (nos x.stores) (noi x.stack) (k ∷ [])))

of_nothing : (x b : Begun) → Some x ≡ Some b → numbers_of b ≡ numbers_of x ++ []
of_nothing x b is = let one : x ≡ b = cc in sym (ap numbers_of one) ∙ sym (append-nil (numbers_of x))

step : (s : Maker) (k : ℕ) (r : Row) (x b : Begun) → goes_on s k r x ≡ Some b → numbers_of b ≡ numbers_of x ++ one_of k (Some r)
step s k row.Nop x b is = of_nothing x b is
step s k (row.LoadArgument zero) x b is = of_this k x b is
step s k (row.LoadArgument (suc j)) x b is = of_value s k (row.LoadArgument (suc j)) x b is
step s k (row.StoreField token) x b is = of_stored k (own_field s token) x b is
step s k r x b is = of_value s k r x b is

-- one instruction after another

more : (s : Maker) (n : ℕ) (r : Option Row) (o : Option Begun) (b : Begun) → ((x : Begun) → o ≡ Some x → numbers_of x ≡ numbers_before s n)
    → goes_on_with s n r o ≡ Some b → numbers_of b ≡ numbers_before s n ++ one_of n r
more s n None None b so_far is = let no : None ≡ Some b = is in absurd cc
more s n None (Some x) b so_far is = let no : None ≡ Some b = is in absurd cc
more s n (Some r) None b so_far is = let no : None ≡ Some b = is in absurd cc
more s n (Some r) (Some x) b so_far is =
    step s n r x b (let_through (is_plain s n) (goes_on s n r x) b is) ∙ ap (λ ns. ns ++ one_of n (Some r)) (so_far x refl)

pub trees_are_code : TreesAreCode
trees_are_code s zero b is =
    let x : Begun = record { stores = []; stack = [] } in
    let same : Some x ≡ Some b = is in
    let one : x ≡ b = cc in
    sym (ap numbers_of one)
trees_are_code s (suc n) b is = more s n (slice_get s.rows.now n) (begun s n) b (λ x e. trees_are_code s n x e) is
