-- A look-up gives one list.
use Rattle.std.proofs.Common.{◌≡◌, ℕ, List, [], ◌∷◌, ◌++◌, Some, map, codes, sym, refl, ap, subst, ◌∙◌}
use Rattle.std.specs.List.{slice_get}
use Rattle.dc_base.specs.declared.names.MemberId.{MemberId}
use Rattle.dc_base.specs.declared.names.TypeId.{TypeId}
use Rattle.class_parts.proofs.Climb.{one_base}
use Rattle.class_rows.specs.declared.row.TypeRow.{TypeRow}
use Rattle.class_rows.specs.declared.row.MemberRow.{MemberRow}
use Rattle.class_rows.specs.Core.{IsSystem}
use Rattle.class_rows.specs.Lookups.{IsChain, ended, longer, AreNamed, AreSpread, none as no_spread, more as more_spread, AreSearched, of_interface, of_other, AreFound, none as none_found, more as more_found, firsts}
use Rattle.class_lookup.specs.Law.{LookupsAreOne}
use Rattle.class_lookup.proofs.Increasing.{one_rising}

one_row : {X : Type 0} (xs : List X) (t : ℕ) (a b : X) → slice_get xs t ≡ Some a → slice_get xs t ≡ Some b → a ≡ b
one_row xs t a b p q = let e : Some a ≡ Some b = sym p ∙ q in cc

module _ (types : List TypeRow) where
  one_chain : (t : ℕ) (xs ys : List ℕ) → IsChain types t xs → IsChain types t ys → xs ≡ ys
  one_chain t xs ys (ended u top) (ended v end) = refl
  one_chain t xs ys (ended u top) (longer v b rest base on) = absurd (top b base)
  one_chain t xs ys (longer u b rest base on) (ended v end) = absurd (end b base)
  one_chain t xs ys (longer u b rest base on) (longer v d others over up) =
      let same = one_base types u b d base over in
      ap (λ (zs : List ℕ). u ∷ zs) (one_chain b rest others on (subst (λ (n : ℕ). IsChain types n others) (sym same) up))

  one_named : (t : ℕ) (xs ys : List ℕ) → AreNamed types t xs → AreNamed types t ys → xs ≡ ys
  one_named t xs ys a b =
      sym a.is ∙ ap (λ (r : TypeRow). map (λ (i : TypeId). i.0) r.bases) (one_row types t a.row b.row a.stands b.stands) ∙ b.is

  one_spread : (is xs ys : List ℕ) → AreSpread types is xs → AreSpread types is ys → xs ≡ ys
  one_spread is xs ys no_spread no_spread = refl
  one_spread is xs ys (more_spread i js named spread rest are first then_) (more_spread j ks names out others is_ inner behind) =
      let e = one_named i named names are is_ in
      let s = one_spread named spread out first (subst (λ (ns : List ℕ). AreSpread types ns out) (sym e) inner) in
      let r = one_spread js rest others then_ behind in
      ap (λ (zs : List ℕ). i ∷ (zs ++ rest)) s ∙ ap (λ (zs : List ℕ). i ∷ (out ++ zs)) r

  module _ (one : (a b : ℕ) → IsSystem types (codes "Object") a → IsSystem types (codes "Object") b → a ≡ b) where
    one_searched : (t : ℕ) (xs ys : List ℕ) → AreSearched types t xs → AreSearched types t ys → xs ≡ ys
    one_searched t xs ys (of_interface chain named spread o kind up are out system) (of_interface chains names outs p kinds ups is_ inner object) =
        let a = one_chain t chain chains up ups in
        let e = one_named t named names are is_ in
        let s = one_spread named spread outs out (subst (λ (ns : List ℕ). AreSpread types ns outs) (sym e) inner) in
        ap (λ (zs : List ℕ). firsts (zs ++ (spread ++ (o ∷ [])))) a
        ∙ ap (λ (zs : List ℕ). firsts (chains ++ (zs ++ (o ∷ [])))) s
        ∙ ap (λ (n : ℕ). firsts (chains ++ (outs ++ (n ∷ [])))) (one o p system object)
    one_searched t xs ys (of_interface chain named spread o kind up are out system) (of_other chains off ups) = absurd (off kind)
    one_searched t xs ys (of_other chain off up) (of_interface chains names outs p kind ups is_ inner object) = absurd (off kind)
    one_searched t xs ys (of_other chain off up) (of_other chains offs ups) = one_chain t chain chains up ups

    module _ (members : List MemberRow) (explicit : List (MemberId × MemberId)) (name : List ℕ) where
      one_found : (ts xs ys : List ℕ) → AreFound types members explicit name ts xs → AreFound types members explicit name ts ys → xs ≡ ys
      one_found ts xs ys none_found none_found = refl
      one_found ts xs ys (more_found u us found rest rises exact then_) (more_found v vs others behind up same on) =
          let f = one_rising found others rises up (λ m h. (same m).1 ((exact m).0 h)) (λ m h. (exact m).1 ((same m).0 h)) in
          let r = one_found us rest behind then_ on in
          ap (λ (zs : List ℕ). zs ++ rest) f ∙ ap (λ (zs : List ℕ). others ++ zs) r

pub lookups_are_one : LookupsAreOne
lookups_are_one types members explicit t name found other one a b =
    let e = one_searched types one t a.searched b.searched a.are_searched b.are_searched in
    one_found types one members explicit name a.searched found other a.are_found
    (subst (λ (ts : List ℕ). AreFound types members explicit name ts other) (sym e) b.are_found)
