-- The same set in tokens and in numbers.
use Rattle.std.proofs.Common.{◌≡◌, ◌∙◌, ℕ, ◌<◌, List, [], length, get_or, refl, sym, subst, arith, Option, Some, None, Bool, unwrap_or, Contains}
use Rattle.std.specs.List.{filter_map, slice_get}
use Rattle.std.proofs.lemmas.Option.{slice_get-get_or}
use Rattle.dc_base.specs.declared.names.Token.{Token}
use Rattle.cli_metadata.specs.Metadata.{Contents}
use Rattle.cli_reached.specs.Reached.{IsReached as IsReachedRow, root as row_root, named as row_named, AreReached}
use Rattle.cli_named.specs.Rows.{AreNamed}
use Rattle.cli_named.specs.Numbers.{numbers_of, number_of, token_of}
use Rattle.cli_named.specs.Lists.{AreListed}
use Rattle.cli_named.specs.Laws.{NamesAreOne, NamesHaveNumbers, NumbersAreOnes, NumbersAreBelow}
use Rattle.cli_reached_rows.specs.Reached.{IsReached, root, named, AreMarked}
use Rattle.cli_reached_rows.proofs.Kept.{none_in_empty, kept, from_some}

abbrev numbered : Contents → List Token → List ℕ
numbered m tokens = filter_map (number_of (numbers_of m)) tokens

abbrev token : Contents → ℕ → Token
token m k = token_of (numbers_of m) k

-- what a row of numbers names is something that its list has
listed : (m : Contents) (roots : List Token) (names : List (List ℕ)) → NumbersAreOnes → AreListed m names → (by k : ℕ) (o : Option (List ℕ)) → slice_get names by ≡ o → Contains (unwrap_or o []) k → IsReached m roots (token m by) → IsReached m roots (token m k)
listed m roots names told lists by k None at among reached = absurd (none_in_empty k among)
listed m roots names told lists by k (Some found) at among reached =
    let is = lists.each by found at in
    let one = from_some (number_of (numbers_of m)) is.tokens k (subst (λ (xs : List ℕ). Contains xs k) is.numbers among) in
    subst (λ (t : Token). IsReached m roots t) (sym (told m one.x k one.is)) (named (token m by) one.x is.tokens reached is.named one.there)

to_tokens : (m : Contents) (roots : List Token) (names : List (List ℕ)) → NumbersAreOnes → AreListed m names → (k : ℕ) → IsReachedRow (numbered m roots) names k → IsReached m roots (token m k)
to_tokens m roots names told lists k (row_root row among) =
    let one = from_some (number_of (numbers_of m)) roots row among in
    subst (λ (t : Token). IsReached m roots t) (sym (told m one.x row one.is)) (root one.x one.there)
to_tokens m roots names told lists k (row_named by row reached among) =
    listed m roots names told lists by row (slice_get names by) refl among (to_tokens m roots names told lists by reached)

-- a row whose token names another
row_of : (m : Contents) (roots : List Token) (names : List (List ℕ)) → NamesAreOne → NumbersAreOnes → NumbersAreBelow → AreListed m names → (by t : Token) (tokens : List Token) (j k : ℕ) → number_of (numbers_of m) by ≡ Some j → number_of (numbers_of m) t ≡ Some k → AreNamed m by tokens → Contains tokens t → IsReachedRow (numbered m roots) names j → IsReachedRow (numbered m roots) names k
row_of m roots names one told below lists by t tokens j k from to are among reached =
    let lt : j < length names = (let count = below m by j from in let long = lists.long in omega (arith, count, long)) in
    let stands = slice_get-get_or names j [] lt in
    let is = lists.each j (get_or names j []) stands in
    let same : is.tokens ≡ tokens = one m by is.tokens tokens (subst (λ (x : Token). AreNamed m x is.tokens) (told m by j from) is.named) are in
    let here : Contains (numbered m is.tokens) k = kept (number_of (numbers_of m)) is.tokens t k (subst (λ (xs : List Token). Contains xs t) (sym same) among) to in
    let in_list : Contains (get_or names j []) k = subst (λ (xs : List ℕ). Contains xs k) (sym is.numbers) here in
    row_named j k reached (subst (λ (o : Option (List ℕ)). Contains (unwrap_or o []) k) (sym stands) in_list)

to_rows : (m : Contents) (roots : List Token) (names : List (List ℕ)) → NamesAreOne → NamesHaveNumbers → NumbersAreOnes → NumbersAreBelow → AreListed m names → (t : Token) (k : ℕ) → number_of (numbers_of m) t ≡ Some k → IsReached m roots t → IsReachedRow (numbered m roots) names k
to_rows m roots names one have told below lists t k to (root token among) = row_root k (kept (number_of (numbers_of m)) roots token k among to)
to_rows m roots names one have told below lists t k to (named by token tokens reached are among) =
    let number = have m by tokens are in
    row_of m roots names one told below lists by token tokens number.0 k number.1 to are among (to_rows m roots names one have told below lists by number.0 number.1 reached)

pub are_marked : (m : Contents) (roots : List Token) (names : List (List ℕ)) (marks : List Bool) → NamesAreOne → NamesHaveNumbers → NumbersAreOnes → NumbersAreBelow → AreListed m names → AreReached (numbered m roots) names marks → AreMarked m roots marks
are_marked m roots names marks one have told below lists are = record {
  long = are.as_many ∙ lists.long;
  yes = λ t k to mark. subst (λ (x : Token). IsReached m roots x) (told m t k to) (to_tokens m roots names told lists k (are.yes k mark));
  no = λ t k to mark reached. are.no k (let count = below m t k to in let long = lists.long in omega (arith, count, long)) mark (to_rows m roots names one have told below lists t k to reached);
}
