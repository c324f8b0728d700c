-- An item of a heap is one, and a method has one owner.
use Rattle.std.proofs.Common.{◌≡◌, ◌∙◌, ℕ, ◌+◌, List, [], ◌∷◌, length, take, drop, get_or, Some, sym, ap, subst}
use Rattle.std.specs.Prelude.{slice_get}
use Rattle.dc_base.specs.Spelling.{BeginsWithOne}
use Rattle.cli_metadata.specs.Metadata.{Contents, IsItem}
use Rattle.cli_lists.specs.declared.lists.Lists.{Lists}
use Rattle.cli_lists.specs.Starts.{IsInList}
use Rattle.cli_lists.specs.Lists.{lists_of, AreLists}
use Rattle.cli_lists.specs.Laws.{HasOneOwner}
use Rattle.cli_profile.specs.Methods.{IsDelegate, IsOfDelegate}

pub one_item : (heap : List ℕ) (i : ℕ) (a b : List ℕ) → BeginsWithOne → IsItem heap i a → IsItem heap i b → a ≡ b
one_item heap i a b one x y =
    let same = one (drop i heap) (length a) (length b) x.len y.len x.number y.number in
    x.bytes ∙ ap (λ (n : ℕ). take n (drop (i + x.len) heap)) same.0 ∙ ap (λ (len : ℕ). take (length b) (drop (i + len) heap)) same.1 ∙ sym y.bytes

pub first_byte : (bytes : List ℕ) (byte : ℕ) → slice_get bytes 0 ≡ Some byte → get_or bytes 0 0 ≡ byte
first_byte [] byte e = absurd cc
first_byte (x ∷ xs) byte e = cc

pub not_of_delegate : (m : Contents) (lists : Lists) (owner n : ℕ) → HasOneOwner → lists ≡ lists_of m → AreLists lists → IsInList lists.methods.rows lists.methods.cells owner n → (IsDelegate m owner → ⊥) → IsOfDelegate m n → ⊥
not_of_delegate m lists owner n one same starts listed off of =
    let there : IsInList lists.methods.rows lists.methods.cells of.owner n = subst (λ (l : Lists). IsInList l.methods.rows l.methods.cells of.owner n) (sym same) of.listed in
    let equal : of.owner ≡ owner = one lists.methods.rows lists.methods.cells of.owner owner n starts.methods.starts there listed in
    off (subst (λ (t : ℕ). IsDelegate m t) equal of.delegate)
