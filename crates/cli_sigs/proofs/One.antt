-- A row has one cause, and one refusal is the first.
use Rattle.std.proofs.Common.{◌≡◌, ◌⊎◌, ◌∙◌, ℕ, ◌+◌, ◌-◌, ◌<◌, ◌≤◌, ◌==◌, cond, List, ◌∷◌, length, take, drop, Option, Some, Ok, Err, refl, sym, ap, subst, inl, inr, arith}
use Rattle.std.proofs.lemmas.Bool.{cases_order}
use Rattle.dc_base.specs.Spelling.{BeginsWithOne}
use Rattle.cli_metadata.specs.declared.fault.MetaFault.{MetaFault}
use Rattle.cli_metadata.specs.declared.fault.MetaCause.{MetaCause}
use Rattle.cli_metadata.specs.declared.fault.MetaCause.TheVariants.{BadRoot, BadStream, BadHeader, UnknownTable, BadIndex, BadText, BadBlob}
use Rattle.cli_metadata.specs.declared.fault.MetaCause.TheVariants as metas
use Rattle.cli_metadata.specs.Metadata.{Contents, IsItem, IsNoItem}
use Rattle.cli_signature.specs.declared.kind.Kind.TheVariants as kinds
use Rattle.cli_signature.specs.declared.raw.SigFault.{SigFault}
use Rattle.cli_signature.specs.declared.raw.SigFault.TheVariants.{Truncated, BadElement, OutOfProfile, Trailing}
use Rattle.cli_signature.specs.Laws.{HasOneFault}
use Rattle.cli_sigs.specs.declared.form.Form.{Form}
use Rattle.cli_sigs.specs.declared.form.Form.TheVariants as forms
use Rattle.cli_sigs.specs.declared.refusal.SigCause.{SigCause}
use Rattle.cli_sigs.specs.declared.refusal.SigCause.TheVariants.{Meta, Sig}
use Rattle.cli_sigs.specs.declared.table.SigTable.{SigTable}
use Rattle.cli_sigs.specs.declared.table.SigTable.TheVariants.{Field, MethodDef, MemberRef, StandAloneSig, Property, TypeSpec}
use Rattle.cli_sigs.specs.Forms.{member_kind, one_later, IsTypeFault, lent, as_field, IsFault, IsCause}
use Rattle.cli_sigs.specs.Rows.{Subject, table_number, place_of}
use Rattle.cli_sigs.specs.First.{Fails, Failure, IsFirst, refusal_of}
use Rattle.cli_sigs.specs.Laws.{HasOneRefusal}

-- ---- blobs

one_item : (heap : List ℕ) (i : ℕ) (a b : List ℕ) → BeginsWithOne → IsItem heap i a → IsItem heap i b → a ≡ b
one_item heap i a b one x y =
    let same = one (drop i heap) (length a) (length b) x.len y.len x.number y.number in
    x.bytes ∙ ap (λ (n : ℕ). take n (drop (i + x.len) heap)) same.0 ∙ ap (λ (len : ℕ). take (length b) (drop (i + len) heap)) same.1 ∙ sym y.bytes

-- the two causes
abbrev IsEither : List ℕ → ℕ → MetaCause → Type 0
IsEither heap i cause = ((cause ≡ BadIndex) × (length heap ≤ i)) ⊎ ((cause ≡ BadBlob) × (i < length heap))

either : (heap : List ℕ) (i : ℕ) (cause : MetaCause) → IsNoItem heap i cause → IsEither heap i cause
either heap i BadRoot is = absurd is
either heap i BadStream is = absurd is
either heap i BadHeader is = absurd is
either heap i UnknownTable is = absurd is
either heap i metas.Truncated is = absurd is
either heap i BadText is = absurd is
either heap i BadIndex is = inl (refl, is)
either heap i BadBlob is = inr (refl, is.0)

one_meta : (heap : List ℕ) (i : ℕ) (a b : MetaCause) → IsEither heap i a → IsEither heap i b → a ≡ b
one_meta heap i a b (inl x) (inl y) = x.0 ∙ sym y.0
one_meta heap i a b (inl x) (inr y) = absurd (omega (arith, x.1, y.1))
one_meta heap i a b (inr x) (inl y) = absurd (omega (arith, x.1, y.1))
one_meta heap i a b (inr x) (inr y) = x.0 ∙ sym y.0

same_meta : (a b : MetaFault) → a.cause ≡ b.cause → a.place ≡ b.place → a ≡ b
same_meta a b e f =
    subst (λ (c : MetaCause). a ≡ record { cause = c; place = b.place }) e (subst (λ (p : ℕ). a ≡ record { cause = a.cause; place = p }) f refl)

no_item : (heap : List ℕ) (i : ℕ) (a : List ℕ) (cause : MetaCause) → BeginsWithOne → IsItem heap i a → IsNoItem heap i cause → ⊥
no_item heap i a BadRoot one x bad = bad
no_item heap i a BadStream one x bad = bad
no_item heap i a BadHeader one x bad = bad
no_item heap i a UnknownTable one x bad = bad
no_item heap i a metas.Truncated one x bad = bad
no_item heap i a BadText one x bad = bad
no_item heap i a BadIndex one x bad = let below = x.below in omega (arith, below, bad)
no_item heap i a BadBlob one x bad = elim bad.1 [
  | inl none ↦ none (length a) x.len x.number
  | inr over ↦
      let same = one (drop i heap) (length a) over.size x.len over.len x.number over.number in
      let whole = x.whole in
      let passes = over.passes in
      omega (arith, whole, passes, same.0, same.1)
]

-- ---- faults

abbrev back : SigFault → SigFault
back (Truncated place) = Truncated (place - 1)
back (BadElement place byte) = BadElement (place - 1) byte
back (OutOfProfile place byte) = OutOfProfile (place - 1) byte
back (Trailing place) = Trailing (place - 1)

less_one : (n : ℕ) → n + 1 - 1 ≡ n
less_one n = omega arith

back_later : (f : SigFault) → back (one_later f) ≡ f
back_later (Truncated place) = ap Truncated (less_one place)
back_later (BadElement place byte) = ap (λ (p : ℕ). BadElement p byte) (less_one place)
back_later (OutOfProfile place byte) = ap (λ (p : ℕ). OutOfProfile p byte) (less_one place)
back_later (Trailing place) = ap Trailing (less_one place)

one_type : HasOneFault → (blob : List ℕ) (f g : SigFault) → IsTypeFault blob f → IsTypeFault blob g → f ≡ g
one_type one blob f g (lent at is) (lent there by) = is ∙ sym by
one_type one blob f g (lent at is) (as_field off by) = absurd (off at)
one_type one blob f g (as_field off is) (lent at by) = absurd (off at)
one_type one blob f g (as_field off is) (as_field bare by) =
    sym (back_later f) ∙ (ap back (one kinds.Field (0x06 ∷ blob) (one_later f) (one_later g) is by) ∙ back_later g)

one_sig : HasOneFault → (form : Form) (blob : List ℕ) (f g : SigFault) → IsFault form blob f → IsFault form blob g → f ≡ g
one_sig one forms.Field blob f g is by = one kinds.Field blob f g is by
one_sig one forms.Method blob f g is by = one kinds.Method blob f g is by
one_sig one forms.Constructor blob f g is by = one kinds.Method blob f g is.1 by.1
one_sig one forms.Member blob f g is by = one (member_kind blob) blob f g is by
one_sig one forms.NamedConstructor blob f g is by = one (member_kind blob) blob f g is.1 by.1
one_sig one forms.Locals blob f g is by = one kinds.Locals blob f g is by
one_sig one forms.Property blob f g is by = one kinds.Property blob f g is by
one_sig one forms.Type_ blob f g is by = one_type one blob f g is by

one_cause : BeginsWithOne → HasOneFault → (m : Contents) (form : Form) (i : ℕ) (c d : SigCause) → IsCause m form i c → IsCause m form i d → c ≡ d
one_cause number one m form i (Meta a) (Meta b) is by =
    ap Meta (same_meta a b (one_meta m.blobs i a.cause b.cause (either m.blobs i a.cause is.1) (either m.blobs i b.cause by.1)) (is.0 ∙ sym by.0))
one_cause number one m form i (Meta a) (Sig g) is by = absurd (no_item m.blobs i by.0 a.cause number by.1 is.1)
one_cause number one m form i (Sig f) (Meta b) is by = absurd (no_item m.blobs i is.0 b.cause number is.1 by.1)
one_cause number one m form i (Sig f) (Sig g) is by =
    let same : by.0 ≡ is.0 = one_item m.blobs i by.0 is.0 number by.1 is.1 in
    ap Sig (one_sig one form is.0 f g is.2 (subst (λ (blob : List ℕ). IsFault form blob g) same by.2))

-- ---- rows

form_is : (a b : Form) → ◌≡◌ {A = Option Form} (Some a) (Some b) → a ≡ b
form_is a b e = cc

one_why : BeginsWithOne → HasOneFault → (s : Subject) (t : SigTable) (r : ℕ) (c d : SigCause) → Fails s t r c → Fails s t r d → c ≡ d
one_why number one s t r c d x y =
    let same : y.form ≡ x.form = form_is y.form x.form (sym y.asked ∙ x.asked) in
    one_cause number one s.metadata x.form (place_of s.metadata t r) c d x.is (subst (λ (form : Form). IsCause s.metadata form (place_of s.metadata t r) d) same y.is)

table_in : ℕ → SigTable
table_in n = cond (n == 0x04) Field (cond (n == 0x06) MethodDef (cond (n == 0x0A) MemberRef (cond (n == 0x11) StandAloneSig (cond (n == 0x17) Property TypeSpec))))

told : (t : SigTable) → table_in (table_number t) ≡ t
unfolding table_in
told Field = refl
told MethodDef = refl
told MemberRef = refl
told StandAloneSig = refl
told Property = refl
told TypeSpec = refl

same_table : (t u : SigTable) → table_number t ≡ table_number u → t ≡ u
same_table t u e = sym (told t) ∙ (ap table_in e ∙ told u)

-- ---- the first failure

same_failure : (f g : Failure) → f.table ≡ g.table → f.row ≡ g.row → f.cause ≡ g.cause → f ≡ g
same_failure f g t r c =
    subst (λ (u : SigTable). f ≡ record { table = u; row = g.row; cause = g.cause }) t
    (subst (λ (q : ℕ). f ≡ record { table = f.table; row = q; cause = g.cause }) r
    (subst (λ (d : SigCause). f ≡ record { table = f.table; row = f.row; cause = d }) c refl))

of_table : BeginsWithOne → HasOneFault → (s : Subject) (f g : Failure) → IsFirst s f → IsFirst s g → f.table ≡ g.table → f ≡ g
of_table number one s f g x y t = elim (cases_order f.row g.row) [
  | inl r ↦ same_failure f g t r
      (one_why number one s g.table g.row f.cause g.cause
      (subst (λ (q : ℕ). Fails s g.table q f.cause) r (subst (λ (u : SigTable). Fails s u f.row f.cause) t x.fails)) y.fails)
  | inr w ↦ elim w [
    | inl less ↦ absurd (y.first f x.fails (inr (t, less)))
    | inr less ↦ absurd (x.first g y.fails (inr (sym t, less)))
  ]
]

one_first : BeginsWithOne → HasOneFault → (s : Subject) (f g : Failure) → IsFirst s f → IsFirst s g → f ≡ g
one_first number one s f g x y = elim (cases_order (table_number f.table) (table_number g.table)) [
  | inl e ↦ of_table number one s f g x y (same_table f.table g.table e)
  | inr w ↦ elim w [
    | inl less ↦ absurd (y.first f x.fails (inl less))
    | inr less ↦ absurd (x.first g y.fails (inl less))
  ]
]

pub one_refusal : BeginsWithOne → HasOneFault → HasOneRefusal
one_refusal number one s (Ok a) (Ok b) p q = refl
one_refusal number one s (Ok a) (Err g) p q = absurd (p q.0 q.1.fails)
one_refusal number one s (Err f) (Ok b) p q = absurd (q p.0 p.1.fails)
one_refusal number one s (Err f) (Err g) p q = ap Err (p.2 ∙ (ap refusal_of (one_first number one s p.0 q.0 p.1 q.1) ∙ sym q.2))
