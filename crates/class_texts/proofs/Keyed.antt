-- Members by what an explicit implementation names.
use Rattle.std.proofs.Common.{◌≡◌, ◌∙◌, ℕ, zero, suc, ◌+◌, ◌<◌, ◌≤◌, Bool, true, cond, Option, Some, None, List, [], ◌∷◌, ◌++◌, map, take, get_or, length, refl, sym, ap, subst, inl, inr, arith}
use Rattle.std.specs.List.{slice_get}
use Rattle.std.proofs.lemmas.Option.{slice_get_within}
use Rattle.std.specs.Prelude.{All}
use Rattle.std.proofs.lemmas.List.{length-append, map-append, take_more}
use Rattle.std.proofs.lemmas.List.Elements.{All-push}
use Rattle.std.proofs.lemmas.Bool.{cases_lt, lt-ltb, le-ltb}
use Rattle.dc_base.specs.declared.names.TypeId.{TypeId}
use Rattle.dc_base.specs.declared.names.MemberId.{MemberId}
use Rattle.dc_causes.specs.First.{IsLeast}
use Rattle.class_keys.specs.Firsts.{IsAlsoAt, AreFirsts}
use Rattle.class_keys.proofs.Items.{one_item, item_at, pushed_item}
use Rattle.class_rows.specs.declared.row.MemberRow.{MemberRow}
use Rattle.class_written.specs.Named.{Known, named, nothing}
use Rattle.class_texts.specs.declared.row.Row.{Row}
use Rattle.class_texts.specs.declared.pairs.Key.{Key}
use Rattle.class_texts.specs.Pairs.{number_by, implementing_from, IsNamedBy, IsPair}
use Rattle.class_texts.specs.Keys.{IsKeyOf, IsWanted, IsWantedBy, AreOneKey, AreRowKeys, AreKeys, AllImplement, target_of}

-- a key more of a row
pub row_key_pushed : (rows : List Row) (n : ℕ) (keys : List Key) (row : Row) (key : Key) → slice_get rows n ≡ Some row → IsKeyOf key row.row → AreRowKeys rows n keys → AreRowKeys rows (n + 1) (keys ++ key ∷ [])
row_key_pushed rows n keys row key stands is so =
    let long = so.long in
    record {
      long = omega (arith, long, length-append keys (key ∷ []));
      own = λ m r k lt s t. elim (pushed_item keys key m k t) [
        | inl old ↦ let within = slice_get_within keys m k old in so.own m r k (omega (arith, within, long)) s old
        | inr new ↦
            let e = new.0 in
            let here : m ≡ n = omega (arith, e, long) in
            let one = one_item rows n r row (subst (λ (j : ℕ). slice_get rows j ≡ Some r) here s) stands in
            subst (λ (x : Key). IsKeyOf x r.row) (sym new.1) (subst (λ (x : Row). IsKeyOf key x.row) (sym one) is)
      ];
    }

pub no_wanted_yet : (types : List Known) (rows : List Row) (asked : List ℕ) (keys : List Key) → AreRowKeys rows (length rows) keys → AreKeys types rows asked 0 keys
no_wanted_yet types rows asked keys so =
    let long = so.long in
    record {
      long = omega (arith, long);
      own = λ n row key s t. so.own n row key (slice_get_within rows n row s) s t;
      wanted = λ j n key lt a t. absurd (omega (arith, lt));
    }

-- a key more of a method that is named
pub wanted_pushed : (types : List Known) (rows : List Row) (asked : List ℕ) (j n : ℕ) (keys : List Key) (key : Key) → slice_get asked j ≡ Some n → IsWantedBy types rows n key → AreKeys types rows asked j keys → AreKeys types rows asked (j + 1) (keys ++ key ∷ [])
wanted_pushed types rows asked j n keys key at is so =
    let long = so.long in
    record {
      long = omega (arith, long, length-append keys (key ∷ []));
      own = λ m row k s t. elim (pushed_item keys key m k t) [
        | inl old ↦ so.own m row k s old
        | inr new ↦ let e = new.0 in let within = slice_get_within rows m row s in absurd (omega (arith, e, within, long))
      ];
      wanted = λ i m k lt a t. elim (pushed_item keys key (length rows + i) k t) [
        | inl old ↦ let within = slice_get_within keys (length rows + i) k old in so.wanted i m k (omega (arith, within, long)) a old
        | inr new ↦
            let e = new.0 in
            let here : i ≡ j = omega (arith, e, long) in
            let one = one_item asked j m n (subst (λ (x : ℕ). slice_get asked x ≡ Some m) here a) at in
            subst (λ (x : Key). IsWantedBy types rows m x) (sym new.1) (subst (λ (x : ℕ). IsWantedBy types rows x key) (sym one) is)
      ];
    }

-- what a number that is asked says of the rows from number `k` on
abbrev Implements : ℕ → List Row → ℕ → Type 0
Implements k rows n =
    (m : ℕ) × (n ≡ k + m) × (row : Row) × (slice_get rows m ≡ Some row) × (named : List ℕ × List ℕ) × (row.implements ≡ Some named)

one_behind : (k n : ℕ) (r : Row) (rows : List Row) → Implements (k + 1) rows n → Implements k (r ∷ rows) n
one_behind k n r rows p = let e = p.1 in (suc p.0, omega (arith, e), p.2, p.3, p.4, p.5)

by_case : (k n : ℕ) (r : Row) (rows : List Row) (o : Option (List ℕ × List ℕ)) → o ≡ r.implements → ((i : ℕ) → slice_get (implementing_from (k + 1) rows) i ≡ Some n → Implements (k + 1) rows n) → (j : ℕ) → slice_get (number_by k o (implementing_from (k + 1) rows)) j ≡ Some n → Implements k (r ∷ rows) n
by_case k n r rows None e all j h = one_behind k n r rows (all j h)
by_case k n r rows (Some w) e all zero h = let same : Some k ≡ Some n = h in let one : k ≡ n = cc in (zero, omega (arith, one), r, refl, w, sym e)
by_case k n r rows (Some w) e all (suc j) h = one_behind k n r rows (all j h)

-- each number that is asked is that of a row which implements a method by name
implement_from : (k : ℕ) (rows : List Row) (j n : ℕ) → slice_get (implementing_from k rows) j ≡ Some n → Implements k rows n
implement_from k [] j n h = let none : None ≡ Some n = h in absurd cc
implement_from k (r ∷ rows) j n h = by_case k n r rows r.implements refl (λ i g. implement_from (k + 1) rows i n g) j h

pub all_implement : (rows : List Row) → AllImplement rows (implementing_from 0 rows)
all_implement rows j n h =
    let p = implement_from 0 rows j n h in
    let e = p.1 in
    let here : p.0 ≡ n = omega (arith, e) in
    (p.2, subst (λ (x : ℕ). slice_get rows x ≡ Some p.2) here p.3, (p.4, p.5))

-- equality of keys tells whether they say the same
pub record Tells (eq : Key → Key → Bool) : Type 0 where
  pub same : (a b : Key) → eq a b ≡ true → AreOneKey a b
  pub back : (a b : Key) → AreOneKey a b → eq a b ≡ true

one_id : (a b : TypeId) → a.0 ≡ b.0 → a ≡ b
one_id a b e = ap (λ (n : ℕ). let id : TypeId = record { 0 = n } in id) e

-- a method that is named stands at a row just where the row's key is the same
named_at : (types : List Known) (rows : List Row) (interface name : List ℕ) (by : MemberRow) (m : ℕ) (row : Row) (key twin : Key) → slice_get rows m ≡ Some row → IsWanted types key by interface name → IsKeyOf twin row.row → AreOneKey key twin → IsNamedBy types rows interface name by m
named_at types rows interface name by m row key twin stands w k one =
    record {
      method = row;
      stands = stands;
      owner = one_id row.row.owner (record { 0 = named types interface }) (sym k.owner ∙ sym one.owner ∙ w.owner);
      one_name = sym k.name ∙ sym one.name ∙ w.one_name;
      sort = sym k.sort ∙ sym one.sort ∙ w.sort;
      params = sym k.params ∙ sym one.params ∙ w.params;
      result = sym k.result ∙ sym one.result ∙ w.result;
    }

one_key_of : (types : List Known) (rows : List Row) (interface name : List ℕ) (by : MemberRow) (m : ℕ) (key twin : Key) → (i : IsNamedBy types rows interface name by m) → IsWanted types key by interface name → IsKeyOf twin i.method.row → AreOneKey key twin
one_key_of types rows interface name by m key twin i w k =
    record {
      owner = w.owner ∙ sym (ap (λ (t : TypeId). t.0) i.owner) ∙ sym k.owner;
      name = w.one_name ∙ sym i.one_name ∙ sym k.name;
      sort = w.sort ∙ sym i.sort ∙ sym k.sort;
      params = w.params ∙ sym i.params ∙ sym k.params;
      result = w.result ∙ sym i.result ∙ sym k.result;
    }

-- what is named stands at the row of the method too
also_named : (eq : Key → Key → Bool) → Tells eq → (types : List Known) (rows : List Row) (asked : List ℕ) (count : ℕ) (keys : List Key) (interface name : List ℕ) (by : MemberRow) (index m : ℕ) (key : Key) → AreKeys types rows asked count keys → slice_get keys index ≡ Some key → IsWanted types key by interface name → IsNamedBy types rows interface name by m → IsAlsoAt eq keys index m
also_named eq tells types rows asked count keys interface name by index m key so stands w i =
    let long = so.long in
    let short = slice_get_within rows m i.method i.stands in
    let twin = item_at keys m (omega (arith, short, long)) in
    record {
      key = key;
      stands = stands;
      twin = twin.0;
      other_stands = twin.1;
      equal = tells.back key twin.0 (one_key_of types rows interface name by m key twin.0 i w (so.own m i.method twin.0 i.stands twin.1));
    }

target_within : (a b : ℕ) → a < b → target_of a b ≡ a
target_within a b lt = ap (λ (c : Bool). cond c a nothing) (lt-ltb a b lt)

target_past : (a b : ℕ) → b ≤ a → target_of a b ≡ nothing
target_past a b le = ap (λ (c : Bool). cond c a nothing) (le-ltb a b le)

-- the first index of the key of a method that is named is that of the method, or none of a row
pub target_is : (eq : Key → Key → Bool) → Tells eq → (types : List Known) (rows : List Row) (asked : List ℕ) (keys : List Key) (firsts : List ℕ) (j n f : ℕ) → AreKeys types rows asked (length asked) keys → AreFirsts eq keys firsts → slice_get asked j ≡ Some n → slice_get firsts (length rows + j) ≡ Some f → IsPair types rows (record { 0 = n }, record { 0 = target_of f (length rows) })
target_is eq tells types rows asked keys firsts j n f so told at there =
    let least = told.first (length rows + j) f there in
    let here = least.holds in
    let within = slice_get_within asked j n at in
    let w = so.wanted j n here.key within at here.stands in
    record {
      by = w.row;
      stands = w.stands;
      named = w.named;
      implements = w.implements;
      target = elim (cases_lt f (length rows)) [
        | inl less ↦
            let r = item_at rows f less in
            let own = so.own f r.0 here.twin r.1 here.other_stands in
            let one = tells.same here.key here.twin here.equal in
            inl
            (subst (λ (t : ℕ). IsLeast (IsNamedBy types rows w.named.0 w.named.1 w.row.row) t) (sym (target_within f (length rows) less))
            (record {
              holds = named_at types rows w.named.0 w.named.1 w.row.row f r.0 here.key here.twin r.1 w.wanted own one;
              least = λ m lt i. least.least m lt (also_named eq tells types rows asked (length asked) keys w.named.0 w.named.1 w.row.row (length rows + j) m here.key so here.stands w.wanted i);
            }))
        | inr le ↦ inr (
          target_past f (length rows) le,
          λ m i.
              let short = slice_get_within rows m i.method i.stands in
              least.least m (omega (arith, short, le)) (also_named eq tells types rows asked (length asked) keys w.named.0 w.named.1 w.row.row (length rows + j) m here.key so here.stands w.wanted i),
        )
      ];
    }

-- one pair more
pub pair_pushed : (types : List Known) (rows : List Row) (asked : List ℕ) (i : ℕ) (before after : List (MemberId × MemberId)) (pair : MemberId × MemberId) → i < length asked → pair.0.0 ≡ get_or asked i 0 → IsPair types rows pair → after ≡ before ++ pair ∷ [] → map (λ (p : MemberId × MemberId). p.0.0) before ≡ take i asked → All (IsPair types rows) before → (map (λ (p : MemberId × MemberId). p.0.0) after ≡ take (i + 1) asked) × All (IsPair types rows) after
pair_pushed types rows asked i before after pair lt first is now each right =
    let pushed : map (λ (p : MemberId × MemberId). p.0.0) (before ++ pair ∷ []) ≡ take (i + 1) asked =
    map-append (λ (p : MemberId × MemberId). p.0.0) before (pair ∷ []) ∙ ap (λ (xs : List ℕ). xs ++ pair.0.0 ∷ []) each ∙ ap (λ (x : ℕ). take i asked ++ x ∷ []) first
    ∙ sym (take_more asked i 0 lt) in
    (ap (map (λ (p : MemberId × MemberId). p.0.0)) now ∙ pushed, subst (All (IsPair types rows)) (sym now) (All-push (IsPair types rows) before pair right is))
