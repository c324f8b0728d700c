-- A text has one answer.
use Rattle.std.proofs.Common.{◌≡◌, ℕ, ◌+◌, Bool, true, false, List, [], ◌∷◌, ◌++◌, refl, sym, ◌∙◌, ap, subst, Result, Ok, Err}
use Rattle.std.proofs.lemmas.List.{append_assoc}
use Rattle.cs_token.specs.Placed.{Placed as Token}
use Rattle.cs_token.specs.Cuts.{place_of}
use Rattle.cs_token.proofs.OneCut.{one_cut_of}
use Rattle.cs_tree.specs.declared.declarations.Unit.{Unit as WholeText}
use Rattle.cs_grammar.specs.Grammar.{Grammar}
use Rattle.cs_grammar.specs.Exact.{Exact}
use Rattle.cs_grammar.specs.Whole.{Viable, IsFault}
use Rattle.cs_grammar.proofs.Whole.{one_answer}
use Rattle.cs_productions.specs.Tokens.{kind}
use Rattle.cs_units.specs.Declarations.{unit_at, inside}
use Rattle.cs_units.proofs.ExactDeclarations.{exact_unit_at, exact_inside}
use Rattle.cs_references.specs.Declarations.{text_at}
use Rattle.cs_references.proofs.DeeperDeclarations.{exact_text_at}
use Rattle.cs_read_texts.specs.declared.fault.ReadFault.{ReadFault}
use Rattle.cs_read_texts.specs.declared.fault.ReadFault.TheVariants.{Lex, Parse, Deep}
use Rattle.cs_read_texts.specs.Texts.{IsText, HasNoToken, Begins, HasNoTree, IsAnswer, HasOneText, HasOneReference}

abbrev Answer : Type 0
Answer = Result WholeText (Bool × List Token)

abbrev ok_of : WholeText → Answer
ok_of u = Ok u

abbrev err_of : Bool → List Token → Answer
err_of d left = Err (d, left)

same_ok : (u v : WholeText) → ok_of u ≡ ok_of v → u ≡ v
same_ok u v e = cc

not_both : (u : WholeText) (d : Bool) (left : List Token) → ok_of u ≡ err_of d left → ⊥
not_both u d left e = cc

deep_of : Answer → Bool
deep_of (Ok u) = false
deep_of (Err p) = p.0

left_of : Answer → List Token
left_of (Ok u) = []
left_of (Err p) = p.1

same_deep : (d e : Bool) (l m : List Token) → err_of d l ≡ err_of e m → d ≡ e
unfolding deep_of
same_deep d e l m h = ap deep_of h

same_left : (d e : Bool) (l m : List Token) → err_of d l ≡ err_of e m → l ≡ m
unfolding left_of
same_left d e l m h = ap left_of h

true_false : true ≡ false → ⊥
true_false e = cc

-- places

abbrev told_at : (ℕ → ℕ → ReadFault) → ℕ × ℕ → Result WholeText ReadFault
told_at fault p = Err (fault p.0 p.1)

begins_once : (text rest : List ℕ) (left : List Token) (p q : ℕ × ℕ) → Begins text rest left p → Begins text rest left q → p ≡ q
begins_once text rest [] p q a b = a.1 ∙ sym b.1
begins_once text rest (next ∷ left) p q a b = a ∙ sym b

-- tokens that go on, go on at each of them

onward : (g : Grammar Token WholeText) (front left : List Token) (next : Token) → Viable g (front ++ next ∷ left) → Viable g (front ++ next ∷ [])
onward g front left next v =
    (left ++ v.0, v.1, subst (λ (ts : List Token). g.derives ts v.1 []) (append_assoc front (next ∷ left) v.0 ∙ sym (append_assoc front (next ∷ []) (left ++ v.0))) v.2)

-- two answers

two_trees : {g : Grammar Token WholeText} {xs v : List ℕ} {n : Bool} (wide : Grammar Token WholeText) → Exact kind g xs v n → (text : List ℕ) (t u : WholeText) → IsText g text t → IsText g text u → t ≡ u
two_trees {g = g} wide x text t u a b =
    let same = (one_cut_of text text a.tokens b.tokens [] [] a.cut refl b.cut refl).0 in
    same_ok t u (one_answer wide x b.tokens (Ok t) (Ok u) (subst (λ (ts : List Token). g.derives ts t []) same a.derived) b.derived)

tree_or_token : {g : Grammar Token WholeText} (text : List ℕ) (t : WholeText) (at : ℕ × ℕ) → IsText g text t → HasNoToken g text at → ⊥
tree_or_token text t at a b = b.more (sym (one_cut_of text text a.tokens b.tokens [] b.rest a.cut refl b.cut.0 b.cut.1).1)

tree_or_none : {g : Grammar Token WholeText} {xs v : List ℕ} {n : Bool} (wide : Grammar Token WholeText) → Exact kind g xs v n → (text : List ℕ) (t : WholeText) (deep : Bool) (at : ℕ × ℕ) → IsText g text t → HasNoTree g wide text deep at → ⊥
tree_or_none {g = g} wide x text t deep at a b =
    let same = (one_cut_of text text a.tokens b.tokens [] b.rest a.cut refl b.cut.0 b.cut.1).0 in
    not_both t deep b.left (one_answer wide x b.tokens (Ok t) (Err (deep, b.left)) (subst (λ (ts : List Token). g.derives ts t []) same a.derived) b.fault)

two_tokens : {g : Grammar Token WholeText} (text : List ℕ) (p q : ℕ × ℕ) → HasNoToken g text p → HasNoToken g text q → p ≡ q
two_tokens text p q a b =
    let same = (one_cut_of text text a.tokens b.tokens a.rest b.rest a.cut.0 a.cut.1 b.cut.0 b.cut.1).1 in
    a.placed ∙ (ap (place_of text) same ∙ sym b.placed)

token_or_none : {g : Grammar Token WholeText} (wide : Grammar Token WholeText) (text : List ℕ) (deep : Bool) (p q : ℕ × ℕ) → HasNoToken g text p → HasNoTree g wide text deep q → ⊥
token_or_none {g = g} wide text deep p q a b = by_left b.left b.fault b.placed
  where
    same : (a.tokens ≡ b.tokens) × (a.rest ≡ b.rest)
    same = one_cut_of text text a.tokens b.tokens a.rest b.rest a.cut.0 a.cut.1 b.cut.0 b.cut.1

    by_left : (left : List Token) → IsFault g wide b.tokens deep left → Begins text b.rest left q → ⊥
    by_left [] f at = a.more (same.1 ∙ at.0)
    by_left (next ∷ left) f at =
        f.blocked (onward g f.front left next (subst (λ (ts : List Token). Viable g ts) (same.0 ∙ f.split) a.goes_on))

record SameFault (d e : Bool) (p q : ℕ × ℕ) : Type 0 where
  pub deep : d ≡ e
  pub place : p ≡ q

two_faults : {g : Grammar Token WholeText} {xs v : List ℕ} {n : Bool} (wide : Grammar Token WholeText) → Exact kind g xs v n → (text : List ℕ) (d e : Bool) (p q : ℕ × ℕ) → HasNoTree g wide text d p → HasNoTree g wide text e q → SameFault d e p q
two_faults {g = g} wide x text d e p q a b =
    let same = one_cut_of text text a.tokens b.tokens a.rest b.rest a.cut.0 a.cut.1 b.cut.0 b.cut.1 in
    let one = one_answer wide x b.tokens (Err (d, a.left)) (Err (e, b.left)) (subst (λ (ts : List Token). IsFault g wide ts d a.left) same.0 a.fault) b.fault in
    let left = same_left d e a.left b.left one in
    let here : Begins text b.rest b.left p = subst (λ (rest : List ℕ). Begins text rest b.left p) same.1 (subst (λ (l : List Token). Begins text a.rest l p) left a.placed) in
    record { deep = same_deep d e a.left b.left one; place = begins_once text b.rest b.left p q here b.placed }

one_of : {g : Grammar Token WholeText} {xs v : List ℕ} {n : Bool} (wide : Grammar Token WholeText) → Exact kind g xs v n → (text : List ℕ) (r s : Result WholeText ReadFault) → IsAnswer g wide text r → IsAnswer g wide text s → r ≡ s
one_of wide x text (Ok t) (Ok u) a b = ap (λ (w : WholeText). let r : Result WholeText ReadFault = Ok w in r) (two_trees wide x text t u a b)
one_of wide x text (Ok t) (Err (Lex l c)) a b = absurd (tree_or_token text t (l, c) a b)
one_of wide x text (Ok t) (Err (Parse l c)) a b = absurd (tree_or_none wide x text t false (l, c) a b)
one_of wide x text (Ok t) (Err (Deep l c)) a b = absurd (tree_or_none wide x text t true (l, c) a b)
one_of wide x text (Err (Lex l c)) (Ok u) a b = absurd (tree_or_token text u (l, c) b a)
one_of wide x text (Err (Lex l c)) (Err (Lex m d)) a b = ap (told_at (λ l c. Lex l c)) (two_tokens text (l, c) (m, d) a b)
one_of wide x text (Err (Lex l c)) (Err (Parse m d)) a b = absurd (token_or_none wide text false (l, c) (m, d) a b)
one_of wide x text (Err (Lex l c)) (Err (Deep m d)) a b = absurd (token_or_none wide text true (l, c) (m, d) a b)
one_of wide x text (Err (Parse l c)) (Ok u) a b = absurd (tree_or_none wide x text u false (l, c) b a)
one_of wide x text (Err (Parse l c)) (Err (Lex m d)) a b = absurd (token_or_none wide text false (m, d) (l, c) b a)
one_of wide x text (Err (Parse l c)) (Err (Parse m d)) a b = ap (told_at (λ l c. Parse l c)) (two_faults wide x text false false (l, c) (m, d) a b).place
one_of wide x text (Err (Parse l c)) (Err (Deep m d)) a b = absurd (true_false (sym (two_faults wide x text false true (l, c) (m, d) a b).deep))
one_of wide x text (Err (Deep l c)) (Ok u) a b = absurd (tree_or_none wide x text u true (l, c) b a)
one_of wide x text (Err (Deep l c)) (Err (Lex m d)) a b = absurd (token_or_none wide text true (m, d) (l, c) b a)
one_of wide x text (Err (Deep l c)) (Err (Parse m d)) a b = absurd (true_false (two_faults wide x text true false (l, c) (m, d) a b).deep)
one_of wide x text (Err (Deep l c)) (Err (Deep m d)) a b = ap (told_at (λ l c. Deep l c)) (two_faults wide x text true true (l, c) (m, d) a b).place

pub has_one_text : HasOneText
has_one_text levels ranks blocks nesting some more text r s a b =
    one_of (unit_at (inside (levels + 2) (ranks + 1) (blocks + 1)) (nesting + 1)) (exact_unit_at nesting (exact_inside levels ranks blocks)) text r s a b

pub has_one_reference : HasOneReference
has_one_reference limit nesting text r s a b = one_of (text_at (limit + 1) (nesting + 1)) (exact_text_at limit nesting) text r s a b
