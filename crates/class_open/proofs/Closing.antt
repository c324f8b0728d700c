-- Open members of a type are closed one by one.
use Rattle.std.proofs.Common.{◌≡◌, ℕ, List, [], ◌∷◌, ◌++◌, inl, inr, sym, refl, subst, ◌∙◌}
use Rattle.std.proofs.lemmas.List.{append_assoc}
use Rattle.class_rows.specs.declared.row.MemberRow.{MemberRow}
use Rattle.class_rows.specs.Members.{IsOf}
use Rattle.class_open.specs.Trail.{Has}
use Rattle.class_open.specs.Stacks.{IsClearOf, AreLess}

pub record AreClosing (members : List MemberRow) (t : ℕ) (before trail : List ℕ) : Type 0 where
  pub gone : List ℕ
  pub whole : before ≡ gone ++ trail
  pub of : (m : ℕ) → Has gone m → IsOf members t m

pub closing_begins : (members : List MemberRow) (t : ℕ) (before : List ℕ) → AreClosing members t before before
closing_begins members t before = record { gone = []; whole = refl; of = λ m h. absurd h }

has_more : (members : List MemberRow) (t y : ℕ) (xs : List ℕ) → IsOf members t y → ((m : ℕ) → Has xs m → IsOf members t m) → (m : ℕ) → Has (xs ++ (y ∷ [])) m → IsOf members t m
has_more members t y [] of_ all m (inl e) = subst (λ (n : ℕ). IsOf members t n) e of_
has_more members t y [] of_ all m (inr h) = absurd h
has_more members t y (x ∷ xs) of_ all m (inl e) = all m (inl e)
has_more members t y (x ∷ xs) of_ all m (inr h) = has_more members t y xs of_ (λ n has. all n (inr has)) m h

pub closing_more : (members : List MemberRow) (t m : ℕ) (before trail : List ℕ) → IsOf members t m → AreClosing members t before (m ∷ trail) → AreClosing members t before trail
closing_more members t m before trail of_ are = record {
  gone = are.gone ++ (m ∷ []);
  whole = are.whole ∙ sym (append_assoc are.gone (m ∷ []) trail);
  of = has_more members t m are.gone of_ are.of;
}

pub closing_ends : (members : List MemberRow) (t : ℕ) (before trail : List ℕ) → IsClearOf members t trail → AreClosing members t before trail → AreLess members t before trail
closing_ends members t before trail clear are = (are.gone, are.whole, are.of, clear)
