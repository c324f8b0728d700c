-- Keys of members and of references, one by one.
use Rattle.std.proofs.Common.{◌≡◌, ℕ, ◌+◌, Some, None, List, [], ◌∷◌, ◌++◌, length, inl, inr, sym, ap, subst, ◌∙◌, arith}
use Rattle.std.proofs.lemmas.List.{length-append}
use Rattle.std.proofs.lemmas.Option.{slice_get_within}
use Rattle.std.specs.List.{slice_get}
use Rattle.class_keys.proofs.Items.{one_item, pushed_item}
use Rattle.class_rows.specs.declared.row.MemberRow.{MemberRow}
use Rattle.cli_refs.specs.declared.key.Sought.{Sought}
use Rattle.cli_refs.specs.declared.key.Key.{Key}
use Rattle.cli_refs.specs.Keys.{IsKey, IsKeySought, AreMemberKeys, AreKeys}

pub none_keyed : (members : List MemberRow) (keys : List Key) → keys ≡ [] → AreMemberKeys members 0 keys
none_keyed members keys none = record {
  long = ap length none;
  right = λ m row key at is. let e : None ≡ Some key = sym (ap (λ (ks : List Key). slice_get ks m) none) ∙ is in absurd cc;
}

pub keyed_more : (members : List MemberRow) (keys : List Key) (i : ℕ) (row : MemberRow) (key : Key) → AreMemberKeys members i keys → slice_get members i ≡ Some row → IsKey row key → AreMemberKeys members (i + 1) (keys ++ (key ∷ []))
keyed_more members keys i row key are at is = record {
  long = length-append keys (key ∷ []) ∙ ap (λ (n : ℕ). n + 1) are.long;
  right = λ m other k stands there. elim (pushed_item keys key m k there) [
    | inl old ↦ are.right m other k stands old
    | inr new ↦
        let same : m ≡ i = new.0 ∙ are.long in
        let one : row ≡ other = one_item members i row other at (ap (λ (n : ℕ). slice_get members n) (sym same) ∙ stands) in
        subst (λ (q : Key). IsKey other q) (sym new.1) (subst (λ (r : MemberRow). IsKey r key) one is)
  ];
}

-- behind the members no reference has a key yet
pub none_behind : (members : List MemberRow) (sought : List Sought) (keys : List Key) → AreMemberKeys members (length members) keys → AreKeys members sought 0 keys
none_behind members sought keys are = record {
  long = let long = are.long in omega (arith, long);
  member = are.right;
  reference = λ q s key stands there. let lt = slice_get_within keys (length members + q) key there in let long = are.long in absurd (omega (arith, lt, long));
}

pub behind_more : (members : List MemberRow) (sought : List Sought) (keys : List Key) (i : ℕ) (s : Sought) (key : Key) → AreKeys members sought i keys → slice_get sought i ≡ Some s → IsKeySought s key → AreKeys members sought (i + 1) (keys ++ (key ∷ []))
behind_more members sought keys i s key are at is = record {
  long = let long = are.long in let more = length-append keys (key ∷ []) in omega (arith, long, more);
  member = λ m row k stands there. elim (pushed_item keys key m k there) [
    | inl old ↦ are.member m row k stands old
    | inr new ↦ let lt = slice_get_within members m row stands in let e = new.0 in let long = are.long in absurd (omega (arith, lt, e, long))
  ];
  reference = λ q other k stands there. elim (pushed_item keys key (length members + q) k there) [
    | inl old ↦ are.reference q other k stands old
    | inr new ↦
        let e = new.0 in
        let long = are.long in
        let same : q ≡ i = omega (arith, e, long) in
        let one : s ≡ other = one_item sought i s other at (ap (λ (n : ℕ). slice_get sought n) (sym same) ∙ stands) in
        subst (λ (x : Key). IsKeySought other x) (sym new.1) (subst (λ (r : Sought). IsKeySought r key) one is)
  ];
}
