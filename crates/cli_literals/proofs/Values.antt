-- At a place of a heap stands one item.
use Rattle.std.proofs.Common.{◌≡◌, ◌∙◌, ℕ, ◌+◌, List, length, take, drop, Option, Some, None, is_some, sym, ap, inl, inr, arith}
use Rattle.std.specs.Bool.{OnTrue, OnFalse}
use Rattle.dc_base.specs.Spelling.{BeginsWithOne}
use Rattle.class_rows.specs.declared.row.Literal.{Literal}
use Rattle.cli_metadata.specs.declared.fault.MetaCause.{MetaCause}
use Rattle.cli_metadata.specs.declared.fault.MetaCause.TheVariants.{BadRoot, BadStream, BadHeader, UnknownTable, Truncated, BadIndex, BadText, BadBlob}
use Rattle.cli_metadata.specs.Metadata.{Contents, IsItem, IsNoItem}
use Rattle.cli_constants.specs.Values.{literal_of}
use Rattle.cli_literals.specs.Fails.{IsValue}

one_item : (heap : List ℕ) (i : ℕ) (a b : List ℕ) → BeginsWithOne → IsItem heap i a → IsItem heap i b → a ≡ b
one_item heap i a b one x y =
    let same = one (drop i heap) (length a) (length b) x.len y.len x.number y.number in
    x.bytes ∙ ap (λ (n : ℕ). take n (drop (i + x.len) heap)) same.0 ∙ ap (λ (len : ℕ). take (length b) (drop (i + len) heap)) same.1 ∙ sym y.bytes

no_item : (heap : List ℕ) (i : ℕ) (a : List ℕ) (cause : MetaCause) → BeginsWithOne → IsItem heap i a → IsNoItem heap i cause → ⊥
no_item heap i a BadRoot one x bad = bad
no_item heap i a BadStream one x bad = bad
no_item heap i a BadHeader one x bad = bad
no_item heap i a UnknownTable one x bad = bad
no_item heap i a Truncated one x bad = bad
no_item heap i a BadText one x bad = bad
no_item heap i a BadIndex one x bad = let below = x.below in omega (arith, below, bad)
no_item heap i a BadBlob one x bad = elim bad.1 [
  | inl none ↦ none (length a) x.len x.number
  | inr over ↦
      let same = one (drop i heap) (length a) over.size x.len over.len x.number over.number in
      let whole = x.whole in
      let passes = over.passes in
      omega (arith, whole, passes, same.0, same.1)
]

pub value : (m : Contents) (element i : ℕ) (bytes : List ℕ) (found : Option Literal) → IsItem m.blobs i bytes → found ≡ literal_of element bytes → OnTrue (is_some found) (IsValue m element i)
value m element i bytes None at is = tt
value m element i bytes (Some v) at is = record { bytes = bytes; item = at; value = v; says = sym is }

pub no_value : (m : Contents) (element i : ℕ) (bytes : List ℕ) (found : Option Literal) → BeginsWithOne → IsItem m.blobs i bytes → found ≡ literal_of element bytes → OnFalse (is_some found) (IsValue m element i → ⊥)
no_value m element i bytes (Some v) one at is = tt
no_value m element i bytes None one at is = λ so.
    let same : so.bytes ≡ bytes = one_item m.blobs i so.bytes bytes one so.item at in
    let none : None ≡ Some so.value = is ∙ ap (λ (b : List ℕ). literal_of element b) (sym same) ∙ so.says in
    cc

pub no_blob : (m : Contents) (element i : ℕ) (cause : MetaCause) → BeginsWithOne → IsNoItem m.blobs i cause → IsValue m element i → ⊥
no_blob m element i cause one bad so = no_item m.blobs i so.bytes cause one so.item bad
