-- The innermost open member of a sign is the one that is meant.
use Rattle.std.proofs.Common.{◌≡◌, ℕ, ◌+◌, ◌<◌, Option, Some, None, List, [], ◌∷◌, length, inl, inr, sym, ap, subst, ◌∙◌, arith}
use Rattle.std.proofs.lemmas.Option.{slice_get_within}
use Rattle.std.specs.List.{slice_get}
use Rattle.class_chains.specs.Ends.{here, further}
use Rattle.class_keys.proofs.Items.{one_item, item_at}
use Rattle.class_rows.specs.declared.row.TypeRow.{TypeRow}
use Rattle.class_rows.specs.declared.row.MemberRow.{MemberRow}
use Rattle.class_rows.specs.Types.{InBaseChain}
use Rattle.class_open.specs.declared.open.Open.{Open}
use Rattle.class_open.specs.Trail.{Has, IsPath, IsPicked, IsTrail, FirstIn}
use Rattle.class_open.specs.Stacks.{Leads}
use Rattle.class_open.proofs.Path.{chain_path, trail_has, first_cases}
use Rattle.cli_refs.specs.declared.key.Sought.{Sought}
use Rattle.cli_refs.specs.declared.walked.Known.{Known}
use Rattle.cli_refs.specs.Sought.{IsSoughtIn, IsNearest, in_it, above}
use Rattle.cli_refs.specs.Picks.{IsSignedIn}
use Rattle.cli_refs.specs.Asked.{Asks}
use Rattle.cli_refs.specs.Known.{IsKnown, IsOpenFrom}

-- of a list, the first number of a sign is the one that leads
module _ (signs : List ℕ) (below : List (Option ℕ)) (s : ℕ) where
  abbrev pub Signed : ℕ → Type 0
  Signed k = slice_get signs k ≡ Some s

  some_number : (a b : ℕ) → Some a ≡ Some b → a ≡ b
  some_number a b h = cc

  pub leads_first : (trail : List ℕ) (n : ℕ) → Leads signs below s trail (Some n) → FirstIn Signed trail n
  leads_first [] n leads = let e : Some n ≡ None = leads in absurd cc
  leads_first (m ∷ trail) n (inl skip) = inr (skip.0, leads_first trail n skip.1)
  leads_first (m ∷ trail) n (inr one) = let same : n ≡ m = some_number n m one.1 in inl (sym same, subst Signed (sym same) one.0)

  pub leads_none : (trail : List ℕ) → Leads signs below s trail None → (k : ℕ) → Has trail k → Signed k → ⊥
  leads_none [] leads k has signed = absurd has
  leads_none (m ∷ trail) (inl skip) k (inl e) signed = skip.0 (subst Signed (sym e) signed)
  leads_none (m ∷ trail) (inl skip) k (inr h) signed = leads_none trail skip.1 k h signed
  leads_none (m ∷ trail) (inr one) k has signed = let e : None ≡ Some m = one.1 in absurd cc

module _ (known : Known) (are : IsKnown known) (q s : ℕ) (ref : Sought) (stands : slice_get known.sought.now q ≡ Some ref) (sign : slice_get known.signs.now (length known.members.now + q) ≡ Some s) where
  abbrev types : List TypeRow
  types = known.types.now

  abbrev members : List MemberRow
  members = known.members.now

  abbrev signs : List ℕ
  signs = known.signs.now

  -- a member of a type is what is sought just where it has the sign
  signed_in : (t m : ℕ) → IsSoughtIn members ref t m → IsSignedIn members signs t s m
  signed_in t m in_ = (
    record { row = in_.row; stands = in_.stands; is = in_.is.0 },
    are.signs.one m q in_.row ref in_.stands stands in_.is.1 ∙ sign,
  )

  sought_in : (t m : ℕ) → IsSignedIn members signs t s m → IsSoughtIn members ref t m
  sought_in t m in_ = record { row = in_.0.row; stands = in_.0.stands; is = (in_.0.is, are.signs.same m q in_.0.row ref in_.0.stands stands (in_.1 ∙ sym sign)) }

  -- the picked member of a sign is the first that is sought
  first_here : (t n : ℕ) → IsPicked members known.picks.now t n → slice_get signs n ≡ Some s → IsNearest types members ref t n
  first_here t n picked signed =
      in_it t n (are.picks.there t n picked.1 picked.0)
      (record { holds = sought_in t n (picked.0, signed); least = λ m lt in_. are.picks.least t s n m picked.1 (picked.0, signed) lt (signed_in t m in_) })

  none_here : (t : ℕ) (mine : List ℕ) → t < length types → ((m : ℕ) → IsPicked members known.picks.now t m → Has mine m) → ((m : ℕ) → Has mine m → slice_get signs m ≡ Some s → ⊥) → (k : ℕ) → IsSoughtIn members ref t k → ⊥
  none_here t mine lt all none k in_ =
      let n = are.picks.has t s k lt (signed_in t k in_) in
      none n.0 (all n.0 (n.2.0, n.1)) n.2.1

  near_found : (b n : ℕ) (path trail : List ℕ) → IsPath types (b ∷ path) → IsTrail members known.picks.now (b ∷ path) trail → FirstIn (Signed signs [] s) trail n → IsNearest types members ref b n
  near_found b n [] trail chain is first =
      elim (first_cases members known.picks.now (Signed signs [] s) is.0 is.1 n (subst (λ (l : List ℕ). FirstIn (Signed signs [] s) l n) is.2 first)) [
        | inl mine ↦ first_here b n ((is.3 n).0 mine.0) mine.1
        | inr up ↦ absurd (subst (λ (l : List ℕ). FirstIn (Signed signs [] s) l n) is.4 up.1)
      ]
  near_found b n (c ∷ path) trail chain is first =
      elim (first_cases members known.picks.now (Signed signs [] s) is.0 is.1 n (subst (λ (l : List ℕ). FirstIn (Signed signs [] s) l n) is.2 first)) [
        | inl mine ↦ first_here b n ((is.3 n).0 mine.0) mine.1
        | inr up ↦ above b c n (none_here b is.0 (slice_get_within types b chain.0.row chain.0.stands) (λ m. (is.3 m).1) up.0) chain.0 (near_found c n path is.1 chain.1 is.4 up.1)
      ]

  -- the type of what is nearest is there, and in the base chain
  nearest_in : (t n : ℕ) → IsNearest types members ref t n → (u : ℕ) × InBaseChain types t u × (u < length types) × IsSoughtIn members ref u n
  nearest_in t n (in_it u k lt least) = (u, here u, lt, least.holds)
  nearest_in t n (above u b k off base rest) = let at = nearest_in b k rest in (at.0, further u b at.0 base at.1, at.2, at.3)

  none_near : (b : ℕ) (path trail : List ℕ) → IsPath types (b ∷ path) → IsTrail members known.picks.now (b ∷ path) trail → ((k : ℕ) → Has trail k → slice_get signs k ≡ Some s → ⊥) → (n : ℕ) → IsNearest types members ref b n → ⊥
  none_near b path trail chain is none n nearest =
      let at = nearest_in b n nearest in
      let p = are.picks.has at.0 s n at.2 (signed_in at.0 n at.3) in
      elim (chain_path types b at.0 path chain at.1) [
        | inl on ↦ none p.0 (trail_has members known.picks.now (b ∷ path) trail at.0 p.0 is on (p.2.0, p.1)) p.2.1
        | inr past ↦ let lt = at.2 in absurd (omega (arith, lt, past))
      ]

  module _ (stacks : Open) (t : ℕ) (open_ : IsOpenFrom known stacks t) (asks : Asks known.sought.now t q) where
    parent : ref.parent.0 ≡ t
    parent = ap (λ (x : Sought). x.parent.0) (sym (one_item known.sought.now q asks.0 ref asks.1 stands)) ∙ asks.2

    pub top_meant : (top : Option ℕ) → slice_get stacks.tops.items s ≡ Some top → (n : ℕ) → top ≡ Some n → IsNearest types members ref ref.parent.0 n
    top_meant top at n is =
        let leads = subst (λ (o : Option ℕ). Leads signs stacks.below.items s stacks.trail o) is (open_.1.stacked.leads s top at) in
        subst (λ (u : ℕ). IsNearest types members ref u n) (sym parent)
        (near_found t n open_.0 stacks.trail open_.1.chain open_.1.trail (leads_first signs stacks.below.items s stacks.trail n leads))

    pub none_meant : (top : Option ℕ) → slice_get stacks.tops.items s ≡ Some top → top ≡ None → (n : ℕ) → IsNearest types members ref ref.parent.0 n → ⊥
    none_meant top at is n nearest =
        let leads = subst (λ (o : Option ℕ). Leads signs stacks.below.items s stacks.trail o) is (open_.1.stacked.leads s top at) in
        none_near t open_.0 stacks.trail open_.1.chain open_.1.trail (leads_none signs stacks.below.items s stacks.trail leads) n
        (subst (λ (u : ℕ). IsNearest types members ref u n) parent nearest)

-- the sign of a reference
pub sign_at : (known : Known) → IsKnown known → (q : ℕ) → q < length known.sought.now → (s : ℕ) × (slice_get known.signs.now (length known.members.now + q) ≡ Some s)
sign_at known are q lt = item_at known.signs.now (length known.members.now + q) (let long = are.signs.long in omega (arith, lt, long))
