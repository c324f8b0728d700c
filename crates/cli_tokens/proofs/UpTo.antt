-- The least fault of the first tokens.
use Rattle.std.proofs.Common.{◌≡◌, ◌∙◌, ℕ, ◌+◌, ◌<◌, ◌≤◌, List, length, Option, Some, None, IfSome, IfNone, inl, inr, refl, sym, ap, subst, arith}
use Rattle.std.proofs.lemmas.Bool.{cases_lt}
use Rattle.std.proofs.lemmas.Option.{slice_get_within}
use Rattle.std.specs.List.{slice_get}
use Rattle.dc_base.specs.declared.names.Token.{Token}
use Rattle.cli_metadata.specs.declared.fault.MetaFault.{MetaFault}
use Rattle.cli_metadata.specs.Metadata.{Contents}
use Rattle.cli_tokens.specs.declared.least.TokenFault.{TokenFault}
use Rattle.cli_tokens.specs.Faults.{IsTokenFault, NoneFails, IsFirst, IsLesser, IsNext}

-- the least of the first i tokens that stands for nothing
pub record IsFirstUpTo (m : Contents) (tokens : List Token) (i : ℕ) (f : TokenFault) : Type 0 where
  pub k : ℕ
  pub within : k < i
  pub among : slice_get tokens k ≡ Some f.token
  pub fails : IsTokenFault m f.token f.fault
  pub least : (j : ℕ) (token : Token) (fault : MetaFault) → j < i → slice_get tokens j ≡ Some token → IsTokenFault m token fault → f.token.0 ≤ token.0

abbrev pub UpTo : Contents → List Token → ℕ → Option TokenFault → Type 0
UpTo m tokens i None = (k : ℕ) (token : Token) (fault : MetaFault) → k < i → slice_get tokens k ≡ Some token → IsTokenFault m token fault → ⊥
UpTo m tokens i (Some f) = IsFirstUpTo m tokens i f

same_token : (tokens : List Token) (i j : ℕ) (token other : Token) → j ≡ i → slice_get tokens i ≡ Some token → slice_get tokens j ≡ Some other → token ≡ other
same_token tokens i j token other is at there =
    let both : Some token ≡ Some other = sym at ∙ subst (λ (n : ℕ). slice_get tokens n ≡ Some other) is there in
    cc

-- a token that stands for something changes nothing
wider : (m : Contents) (tokens : List Token) (i : ℕ) (token : Token) (least : Option TokenFault) → slice_get tokens i ≡ Some token → ((fault : MetaFault) → IsTokenFault m token fault → ⊥) → UpTo m tokens i least → UpTo m tokens (i + 1) least
wider m tokens i token None at stands so = λ k other fault lt there wrong. elim (cases_lt k i) [
  | inl below ↦ so k other fault below there wrong
  | inr from ↦
      let same = same_token tokens i k token other (omega (arith, lt, from)) at there in
      stands fault (subst (λ (t : Token). IsTokenFault m t fault) (sym same) wrong)
]
wider m tokens i token (Some f) at stands so =
    let within = so.within in
    record {
      k = so.k;
      within = omega (arith, within);
      among = so.among;
      fails = so.fails;
      least = λ j other fault lt there wrong. elim (cases_lt j i) [
        | inl below ↦ so.least j other fault below there wrong
        | inr from ↦
            let same = same_token tokens i j token other (omega (arith, lt, from)) at there in
            absurd (stands fault (subst (λ (t : Token). IsTokenFault m t fault) (sym same) wrong))
      ];
    }

-- the old fault stays
stays : (m : Contents) (tokens : List Token) (i : ℕ) (token : Token) (f : TokenFault) → slice_get tokens i ≡ Some token → f.token.0 ≤ token.0 → IsFirstUpTo m tokens i f → IsFirstUpTo m tokens (i + 1) f
stays m tokens i token f at le so =
    let within = so.within in
    record {
      k = so.k;
      within = omega (arith, within);
      among = so.among;
      fails = so.fails;
      least = λ j other fault lt there wrong. elim (cases_lt j i) [
        | inl below ↦ so.least j other fault below there wrong
        | inr from ↦
            let same = same_token tokens i j token other (omega (arith, lt, from)) at there in
            subst (λ (t : Token). f.token.0 ≤ t.0) same le
      ];
    }

-- no earlier token that stands for nothing is less than this one
above : (m : Contents) (tokens : List Token) (i : ℕ) (token : Token) (least : Option TokenFault) → ((f : TokenFault) → least ≡ Some f → token.0 < f.token.0) → UpTo m tokens i least → (j : ℕ) (other : Token) (fault : MetaFault) → j < i → slice_get tokens j ≡ Some other → IsTokenFault m other fault → token.0 ≤ other.0
above m tokens i token None less so j other fault lt there wrong = absurd (so j other fault lt there wrong)
above m tokens i token (Some f) less so j other fault lt there wrong =
    let below = less f refl in
    let from = so.least j other fault lt there wrong in
    omega (arith, below, from)

-- the new fault is the least
replaces : (m : Contents) (tokens : List Token) (i : ℕ) (f : TokenFault) (least : Option TokenFault) → slice_get tokens i ≡ Some f.token → IsTokenFault m f.token f.fault → ((g : TokenFault) → least ≡ Some g → f.token.0 < g.token.0) → UpTo m tokens i least → IsFirstUpTo m tokens (i + 1) f
replaces m tokens i f least at wrong less so = record {
  k = i;
  within = omega arith;
  among = at;
  fails = wrong;
  least = λ j other fault lt there bad. elim (cases_lt j i) [
    | inl below ↦ above m tokens i f.token least less so j other fault below there bad
    | inr from ↦
        let same = same_token tokens i j f.token other (omega (arith, lt, from)) at there in
        subst (λ (t : Token). f.token.0 ≤ t.0) same (omega arith)
  ];
}

taken : (m : Contents) (tokens : List Token) (i : ℕ) (other lesser : TokenFault) (least : Option TokenFault) → slice_get tokens i ≡ Some other.token → IsTokenFault m other.token other.fault → IsLesser least other lesser → UpTo m tokens i least → IsFirstUpTo m tokens (i + 1) lesser
taken m tokens i other lesser least at wrong (IsLesser.old f is le same) so =
    subst (λ (g : TokenFault). IsFirstUpTo m tokens (i + 1) g) (sym same)
    (stays m tokens i other.token f at le (subst (λ (o : Option TokenFault). UpTo m tokens i o) is so))
taken m tokens i other lesser least at wrong (IsLesser.new less same) so =
    subst (λ (g : TokenFault). IsFirstUpTo m tokens (i + 1) g) (sym same) (replaces m tokens i other least at wrong less so)

pub one_more : (m : Contents) (tokens : List Token) (i : ℕ) (token : Token) (least after : Option TokenFault) → slice_get tokens i ≡ Some token → IsNext m token least after → UpTo m tokens i least → UpTo m tokens (i + 1) after
one_more m tokens i token least after at (IsNext.stands stands same) so =
    subst (λ (o : Option TokenFault). UpTo m tokens (i + 1) o) (sym same) (wider m tokens i token least at stands so)
one_more m tokens i token least after at (IsNext.fails other lesser is wrong lower same) so =
    subst (λ (o : Option TokenFault). UpTo m tokens (i + 1) o) (sym same) (taken m tokens i other lesser least
    (at ∙ ap (λ (t : Token). Some t) (sym is))
    (subst (λ (t : Token). IsTokenFault m t other.fault) (sym is) wrong)
    lower so)

pub all_some : (m : Contents) (tokens : List Token) (i : ℕ) (found : Option TokenFault) → length tokens ≤ i → UpTo m tokens i found → IfSome found (IsFirst m tokens)
all_some m tokens i None all so = tt
all_some m tokens i (Some f) all so = record {
  k = so.k;
  among = so.among;
  fails = so.fails;
  least = λ j token fault there wrong.
      let lt = slice_get_within tokens j token there in
      so.least j token fault (omega (arith, lt, all)) there wrong;
}

pub all_none : (m : Contents) (tokens : List Token) (i : ℕ) (found : Option TokenFault) → length tokens ≤ i → UpTo m tokens i found → IfNone found (NoneFails m tokens)
all_none m tokens i None all so = λ k token fault there wrong.
    let lt = slice_get_within tokens k token there in
    so k token fault (omega (arith, lt, all)) there wrong
all_none m tokens i (Some f) all so = tt
