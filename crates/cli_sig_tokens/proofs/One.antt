-- What stands at a place of a heap names one list of tokens.
use Rattle.std.proofs.Common.{◌≡◌, ◌∙◌, ℕ, ◌+◌, ◌<◌, ◌≤◌, List, [], ◌∷◌, length, take, drop, refl, sym, ap, subst, inl, inr, arith}
use Rattle.dc_base.specs.declared.names.Token.{Token}
use Rattle.dc_base.specs.Spelling.{BeginsWithOne}
use Rattle.cli_metadata.specs.declared.fault.MetaCause.{MetaCause}
use Rattle.cli_metadata.specs.declared.fault.MetaCause.TheVariants.{BadRoot, BadStream, BadHeader, UnknownTable, Truncated, BadIndex, BadText, BadBlob}
use Rattle.cli_metadata.specs.Metadata.{Contents, IsItem, IsNoItem}
use Rattle.cli_signature.specs.declared.kind.Kind.{Kind}
use Rattle.cli_signature.specs.declared.raw.RawTy.{RawTy}
use Rattle.cli_signature.specs.declared.raw.SigFault.{SigFault}
use Rattle.cli_signature.specs.Grammar.{Sig, Derives, IsBlob, raws, raw_of, spelled_way}
use Rattle.cli_signature.specs.Fault.{IsSigFault}
use Rattle.cli_signature.specs.Laws.{HasNoFault, HasOneDerivation}
use Rattle.cli_sig_tokens.specs.Spec.{IsSpec}
use Rattle.cli_sig_tokens.specs.Tokens.{tokens_of, AreTokens, says, no_signature, no_blob, AreSpecTokens, is_type, no_type, nowhere}
use Rattle.cli_sig_tokens.specs.Laws.{TokensAreOne, SpecTokensAreOne}
use Rattle.cli_sig_tokens.proofs.Bare.{one_spec}

one_item : (heap : List ℕ) (i : ℕ) (a b : List ℕ) → BeginsWithOne → IsItem heap i a → IsItem heap i b → a ≡ b
one_item heap i a b one x y =
    let same = one (drop i heap) (length a) (length b) x.len y.len x.number y.number in
    x.bytes ∙ ap (λ (n : ℕ). take n (drop (i + x.len) heap)) same.0 ∙ ap (λ (len : ℕ). take (length b) (drop (i + len) heap)) same.1 ∙ sym y.bytes

no_item : (heap : List ℕ) (i : ℕ) (a : List ℕ) (cause : MetaCause) → BeginsWithOne → IsItem heap i a → IsNoItem heap i cause → ⊥
no_item heap i a BadRoot one x bad = bad
no_item heap i a BadStream one x bad = bad
no_item heap i a BadHeader one x bad = bad
no_item heap i a UnknownTable one x bad = bad
no_item heap i a Truncated one x bad = bad
no_item heap i a BadText one x bad = bad
no_item heap i a BadIndex one x bad = let below = x.below in omega (arith, below, bad)
no_item heap i a BadBlob one x bad = elim bad.1 [
  | inl none ↦ none (length a) x.len x.number
  | inr over ↦
      let same = one (drop i heap) (length a) over.size x.len over.len x.number over.number in
      let whole = x.whole in
      let passes = over.passes in
      omega (arith, whole, passes, same.0, same.1)
]

no_fault : (kind : Kind) (blob : List ℕ) (s : Sig) → HasNoFault → Derives kind blob s → (fault : SigFault) → IsSigFault (IsBlob kind) blob fault → ⊥
no_fault kind blob s none derived fault at = none kind blob fault (s, derived) at

pub tokens_are_one : BeginsWithOne → HasOneDerivation → HasNoFault → TokensAreOne
tokens_are_one one derive none m kind i a b (says blob s at derived) (says other t there by) =
    let same : other ≡ blob = one_item m.blobs i other blob one there at in
    ap (λ (x : Sig). tokens_of (raws x)) (derive kind blob s t derived (subst (λ (bytes : List ℕ). Derives kind bytes t) same by))
tokens_are_one one derive none m kind i a b (says blob s at derived) (no_signature other fault there wrong) =
    let same : other ≡ blob = one_item m.blobs i other blob one there at in
    absurd (no_fault kind blob s none derived fault (subst (λ (bytes : List ℕ). IsSigFault (IsBlob kind) bytes fault) same wrong))
tokens_are_one one derive none m kind i a b (says blob s at derived) (no_blob fault bad) = absurd (no_item m.blobs i blob fault.cause one at bad.1)
tokens_are_one one derive none m kind i a b (no_signature other fault there wrong) (says blob s at derived) =
    let same : other ≡ blob = one_item m.blobs i other blob one there at in
    absurd (no_fault kind blob s none derived fault (subst (λ (bytes : List ℕ). IsSigFault (IsBlob kind) bytes fault) same wrong))
tokens_are_one one derive none m kind i a b (no_blob fault bad) (says blob s at derived) = absurd (no_item m.blobs i blob fault.cause one at bad.1)
tokens_are_one one derive none m kind i a b (no_signature blob fault at wrong) (no_signature other by there bad) = refl
tokens_are_one one derive none m kind i a b (no_signature blob fault at wrong) (no_blob by bad) = refl
tokens_are_one one derive none m kind i a b (no_blob fault wrong) (no_signature other by there bad) = refl
tokens_are_one one derive none m kind i a b (no_blob fault wrong) (no_blob by bad) = refl

pub spec_tokens_are_one : BeginsWithOne → HasOneDerivation → SpecTokensAreOne
spec_tokens_are_one one derive m i a b (is_type blob ty at is) (is_type other uy there by) =
    let same : other ≡ blob = one_item m.blobs i other blob one there at in
    ap (λ (x : RawTy). tokens_of (x ∷ [])) (one_spec derive blob ty uy is (subst (λ (bytes : List ℕ). IsSpec bytes uy) same by))
spec_tokens_are_one one derive m i a b (is_type blob ty at is) (no_type other there wrong) =
    let same : blob ≡ other = one_item m.blobs i blob other one at there in
    absurd (wrong ty (subst (λ (bytes : List ℕ). IsSpec bytes ty) same is))
spec_tokens_are_one one derive m i a b (is_type blob ty at is) (nowhere fault bad) = absurd (no_item m.blobs i blob fault.cause one at bad.1)
spec_tokens_are_one one derive m i a b (no_type other there wrong) (is_type blob ty at is) =
    let same : blob ≡ other = one_item m.blobs i blob other one at there in
    absurd (wrong ty (subst (λ (bytes : List ℕ). IsSpec bytes ty) same is))
spec_tokens_are_one one derive m i a b (nowhere fault bad) (is_type blob ty at is) = absurd (no_item m.blobs i blob fault.cause one at bad.1)
spec_tokens_are_one one derive m i a b (no_type blob at wrong) (no_type other there bad) = refl
spec_tokens_are_one one derive m i a b (no_type blob at wrong) (nowhere fault bad) = refl
spec_tokens_are_one one derive m i a b (nowhere fault wrong) (no_type other there bad) = refl
spec_tokens_are_one one derive m i a b (nowhere fault wrong) (nowhere by bad) = refl
