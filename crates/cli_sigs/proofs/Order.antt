-- What the tables in their order say of the first row that fails.
use Rattle.std.proofs.Common.{◌≡◌, ◌⊎◌, ◌∙◌, ℕ, ◌+◌, ◌<◌, ◌≤◌, zero, suc, List, [], ◌∷◌, length, get_or, Option, Some, None, Ok, Err, refl, sym, ap, subst, inl, inr, arith}
use Rattle.std.proofs.lemmas.Bool.{cases_lt}
use Rattle.std.proofs.lemmas.List.{get_or_default}
use Rattle.dc_base.specs.declared.names.Token.{Token}
use Rattle.cli_metadata.specs.Metadata.{rows_of}
use Rattle.cli_sigs.specs.declared.refusal.SigCause.{SigCause}
use Rattle.cli_sigs.specs.declared.refusal.SigRefusal.{SigRefusal}
use Rattle.cli_sigs.specs.declared.table.SigTable.{SigTable}
use Rattle.cli_sigs.specs.declared.table.SigTable.TheVariants.{Field, MethodDef, MemberRef, StandAloneSig, Property, TypeSpec}
use Rattle.cli_sigs.specs.Rows.{Subject, table_number, table_of, token_at}
use Rattle.cli_sigs.specs.First.{Fails, IsFirst, HaveSignatures, NoneFails, IsFirstIn}

abbrev pub all : List SigTable
all = Field ∷ MethodDef ∷ MemberRef ∷ StandAloneSig ∷ Property ∷ TypeSpec ∷ []

-- ---- the list

Among : SigTable → List SigTable → Type 0
Among t [] = ⊥
Among t (x ∷ xs) = (t ≡ x) ⊎ Among t xs

-- the numbers rise, from behind this one on
Rising : ℕ → List SigTable → Type 0
Rising b [] = Unit {0}
Rising b (x ∷ xs) = (b < table_number x) × Rising (table_number x) xs

above : (b : ℕ) (xs : List SigTable) (t : SigTable) → Rising b xs → Among t xs → b < table_number t
unfolding Among Rising
above b [] t up among = absurd among
above b (x ∷ xs) t up (inl is) = let same : table_number t ≡ table_number x = ap (λ (i : SigTable). table_number i) is in omega (arith, up.0, same)
above b (x ∷ xs) t up (inr later) = let more = above (table_number x) xs t up.1 later in omega (arith, up.0, more)

rising : Rising 0 all
unfolding Rising
rising = (omega arith, (omega arith, (omega arith, (omega arith, (omega arith, (omega arith, tt))))))

each_is_among : (t : SigTable) → Among t all
unfolding Among
each_is_among Field = inl refl
each_is_among MethodDef = inr (inl refl)
each_is_among MemberRef = inr (inr (inl refl))
each_is_among StandAloneSig = inr (inr (inr (inl refl)))
each_is_among Property = inr (inr (inr (inr (inl refl))))
each_is_among TypeSpec = inr (inr (inr (inr (inr (inl refl)))))

-- ---- what the tables in their order say

-- none of so many tables has a row that fails
abbrev pub NoneBefore : Subject → List SigTable → ℕ → Type 0
NoneBefore s xs i = (k : ℕ) (d : SigTable) → k < i → NoneFails s (get_or xs k d)

behind : (s : Subject) (x : SigTable) (xs : List SigTable) (i : ℕ) → NoneBefore s (x ∷ xs) (suc i) → NoneBefore s xs i
behind s x xs i none k d lt = none (suc k) d (omega (arith, lt))

-- a table with a lower number stands before
earlier : (s : Subject) (b : ℕ) (xs : List SigTable) (i : ℕ) (t u : SigTable) → Rising b xs → Among u xs → i < length xs → get_or xs i t ≡ t → table_number u < table_number t → NoneBefore s xs i → NoneFails s u
unfolding Among Rising
earlier s b [] i t u up among lt is below none = absurd among
earlier s b (x ∷ xs) zero t u up (inl same) lt is below none =
    let is_x : x ≡ t = is in
    let equal : table_number u ≡ table_number t = ap (λ (i : SigTable). table_number i) (same ∙ is_x) in
    absurd (omega (arith, equal, below))
earlier s b (x ∷ xs) zero t u up (inr later) lt is below none =
    let is_x : x ≡ t = is in
    let equal : table_number x ≡ table_number t = ap (λ (i : SigTable). table_number i) is_x in
    let more = above (table_number x) xs u up.1 later in
    absurd (omega (arith, equal, below, more))
earlier s b (x ∷ xs) (suc i) t u up (inl same) lt is below none = subst (λ (v : SigTable). NoneFails s v) (sym same) (none 0 x (omega arith))
earlier s b (x ∷ xs) (suc i) t u up (inr later) lt is below none = earlier s (table_number x) xs i t u up.1 later (omega (arith, lt)) is below (behind s x xs i none)

among_all : (s : Subject) (xs : List SigTable) (i : ℕ) (u : SigTable) → length xs ≤ i → Among u xs → NoneBefore s xs i → NoneFails s u
unfolding Among
among_all s [] i u le among none = absurd among
among_all s (x ∷ xs) zero u le among none = absurd (omega (arith, le))
among_all s (x ∷ xs) (suc i) u le (inl same) none = subst (λ (v : SigTable). NoneFails s v) (sym same) (none 0 x (omega arith))
among_all s (x ∷ xs) (suc i) u le (inr later) none = among_all s xs i u (omega (arith, le)) later (behind s x xs i none)

pub one_table_more : (s : Subject) (i : ℕ) (d : SigTable) (found : Option (ℕ × SigCause)) → i < 6 → NoneBefore s all i → IsFirstIn s (get_or all i d) found → found ≡ None → NoneBefore s all (i + 1)
one_table_more s i d found within none is so k e lt = elim (cases_lt k i) [
  | inl below ↦ none k e below
  | inr from ↦
      let same : k ≡ i = omega (arith, lt, from) in
      let item : get_or all i d ≡ get_or all k e = get_or_default all i d e within ∙ ap (λ (n : ℕ). get_or all n e) (sym same) in
      subst (λ (t : SigTable). NoneFails s t) item (subst (λ (f : Option (ℕ × SigCause)). IsFirstIn s (get_or all i d) f) so is)
]

pub met : (s : Subject) (i : ℕ) → 6 ≤ i → NoneBefore s all i → HaveSignatures s (Ok tt)
met s i le none f fails = among_all s all i f.table le (each_is_among f.table) none f.row f.cause fails

abbrev refusal_with : Token → SigCause → SigRefusal
refusal_with token cause = record { token = token; cause = cause }

first_of : (s : Subject) (i : ℕ) (d : SigTable) (r : ℕ) (cause : SigCause) → i < 6 → NoneBefore s all i → IsFirstIn s (get_or all i d) (Some (r, cause)) → IsFirst s (record { table = get_or all i d; row = r; cause = cause })
first_of s i d r cause lt none is =
    let t : SigTable = get_or all i d in
    record {
      fails = is.0;
      first = λ g wrong comes. elim comes [
        | inl below ↦ earlier s 0 all i t g.table rising (each_is_among g.table) lt (get_or_default all i t d lt) below none g.row g.cause wrong
        | inr same ↦ is.1 g.row g.cause same.1 (subst (λ (v : SigTable). Fails s v g.row g.cause) same.0 wrong)
      ];
    }

-- the table at this place has a first row that fails, and those before it have none
pub refused : (s : Subject) (i : ℕ) (d : SigTable) (found : Option (ℕ × SigCause)) (r : ℕ) (cause : SigCause) (token : Token) → i < 6 → NoneBefore s all i → IsFirstIn s (get_or all i d) found → found ≡ Some (r, cause) → token ≡ token_at (get_or all i d) r → HaveSignatures s (Err (record { token = token; cause = cause }))
refused s i d found r cause token lt none is so told = (
  record { table = get_or all i d; row = r; cause = cause },
  first_of s i d r cause lt none (subst (λ (f : Option (ℕ × SigCause)). IsFirstIn s (get_or all i d) f) so is),
  ap (λ (t : Token). refusal_with t cause) told,
)

-- ---- the rows of a table

-- no row up to this one fails
abbrev pub NoneUpTo : Subject → SigTable → ℕ → Type 0
NoneUpTo s table k = (r : ℕ) (cause : SigCause) → r ≤ k → Fails s table r cause → ⊥

pub none_yet : (s : Subject) (t : SigTable) → NoneUpTo s t 0
none_yet s t r cause le fails = let low = fails.low in absurd (omega (arith, le, low))

pub one_more : (s : Subject) (t : SigTable) (k : ℕ) → NoneUpTo s t k → ((cause : SigCause) → Fails s t (k + 1) cause → ⊥) → NoneUpTo s t (k + 1)
one_more s t k none here r cause le fails = elim (cases_lt r (k + 1)) [
  | inl below ↦ none r cause (omega (arith, below)) fails
  | inr from ↦ (let same : r ≡ k + 1 = omega (arith, le, from) in here cause (subst (λ (n : ℕ). Fails s t n cause) same fails))
]

pub first : (s : Subject) (t : SigTable) (k : ℕ) (cause : SigCause) → NoneUpTo s t k → Fails s t (k + 1) cause → IsFirstIn s t (Some (k + 1, cause))
first s t k cause none fails = (fails, λ r why lt wrong. none r why (omega (arith, lt)) wrong)

pub whole : (s : Subject) (t : SigTable) (k : ℕ) → rows_of s.metadata (table_of t) ≤ k → NoneUpTo s t k → NoneFails s t
whole s t k over none r cause fails = let high = fails.high in none r cause (omega (arith, over, high)) fails
