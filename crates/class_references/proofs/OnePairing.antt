-- The rows of a text are one list each.
use Rattle.std.proofs.Common.{◌≡◌, ◌∙◌, ℕ, List, [], ◌∷◌, map, All, Some, refl, sym, ap, subst, inl, inr}
use Rattle.std.specs.List.{slice_get}
use Rattle.std.proofs.lemmas.List.Elements.{All-head, All-tail}
use Rattle.dc_base.specs.declared.names.MemberId.{MemberId}
use Rattle.dc_causes.proofs.First.{one_least}
use Rattle.class_keys.proofs.Items.{one_item}
use Rattle.class_rows.specs.declared.row.MemberRow.{MemberRow}
use Rattle.cs_tree.specs.declared.declarations.Unit.{Unit as WholeText}
use Rattle.cs_declared.specs.Types.{types_in}
use Rattle.class_written.specs.Named.{Known}
use Rattle.class_texts.specs.declared.row.Row.{Row}
use Rattle.class_texts.specs.Pairs.{IsTarget, IsPair}
use Rattle.class_texts.specs.Text.{known_types, rows_of, AreRowsOf}
use Rattle.class_table.specs.Rows.{Rows}

one_target : (known : List Known) (rows : List Row) (interface name : List ℕ) (by : MemberRow) (m n : ℕ) → IsTarget known rows interface name by m → IsTarget known rows interface name by n → m ≡ n
one_target known rows interface name by m n (inl a) (inl b) = one_least _ m n a b
one_target known rows interface name by m n (inl a) (inr b) = absurd (b.1 m a.holds)
one_target known rows interface name by m n (inr a) (inl b) = absurd (a.1 n b.holds)
one_target known rows interface name by m n (inr a) (inr b) = a.0 ∙ sym b.0

same_named : (by other : Row) (a b : List ℕ × List ℕ) → by ≡ other → by.implements ≡ Some a → other.implements ≡ Some b → a ≡ b
same_named by other a b same is was = let e : Some a ≡ Some b = sym is ∙ ap (λ (r : Row). r.implements) same ∙ was in cc

one_pair : (known : List Known) (rows : List Row) (p q : MemberId × MemberId) → p.0.0 ≡ q.0.0 → IsPair known rows p → IsPair known rows q → p ≡ q
one_pair known rows p q first a b =
    let by : b.by ≡ a.by = one_item rows p.0.0 b.by a.by (subst (λ (n : ℕ). slice_get rows n ≡ Some b.by) (sym first) b.stands) a.stands in
    let named : b.named ≡ a.named = same_named b.by a.by b.named a.named by b.implements a.implements in
    let other : IsTarget known rows a.named.0 a.named.1 a.by.row q.1.0 =
    subst (λ (w : List ℕ × List ℕ). IsTarget known rows w.0 w.1 a.by.row q.1.0) named
    (subst (λ (r : Row). IsTarget known rows b.named.0 b.named.1 r.row q.1.0) by b.target) in
    let second : p.1.0 ≡ q.1.0 = one_target known rows a.named.0 a.named.1 a.by.row p.1.0 q.1.0 a.target other in
    λ i. (record { 0 = first i }, record { 0 = second i })

one_pairing : (known : List Known) (rows : List Row) (ps qs : List (MemberId × MemberId)) → map (λ (p : MemberId × MemberId). p.0.0) ps ≡ map (λ (p : MemberId × MemberId). p.0.0) qs → All (IsPair known rows) ps → All (IsPair known rows) qs → ps ≡ qs
one_pairing known rows [] [] e a b = refl
one_pairing known rows [] (q ∷ qs) e a b = absurd cc
one_pairing known rows (p ∷ ps) [] e a b = absurd cc
one_pairing known rows (p ∷ ps) (q ∷ qs) e a b =
    let cells : p.0.0 ∷ map (λ (p : MemberId × MemberId). p.0.0) ps ≡ q.0.0 ∷ map (λ (p : MemberId × MemberId). p.0.0) qs = e in
    let first : p.0.0 ≡ q.0.0 = cc in
    let others : map (λ (p : MemberId × MemberId). p.0.0) ps ≡ map (λ (p : MemberId × MemberId). p.0.0) qs = cc in
    let here = one_pair known rows p q first (All-head (IsPair known rows) p ps a) (All-head (IsPair known rows) q qs b) in
    let there = one_pairing known rows ps qs others (All-tail (IsPair known rows) p ps a) (All-tail (IsPair known rows) q qs b) in
    λ i. here i ∷ there i

pub one_list : (unit : WholeText) (a b : Rows) → AreRowsOf unit a.types a.members a.explicit → AreRowsOf unit b.types b.members b.explicit → a ≡ b
one_list unit a b p q =
    let types : a.types ≡ b.types = p.types ∙ sym q.types in
    let members : a.members ≡ b.members = p.those ∙ sym q.those in
    let explicit : a.explicit ≡ b.explicit =
    one_pairing (known_types (types_in unit)) (rows_of (types_in unit)) a.explicit b.explicit (p.pairs.each ∙ sym q.pairs.each) p.pairs.right q.pairs.right in
    λ i. record { types = types i; members = members i; explicit = explicit i }
