-- When two keys are equal.
use Rattle.std.proofs.Common.{◌≡◌, ℕ, eqb, List, refl, ◌∙◌, ap, rules}
use Rattle.std.specs.Bool.{Decides}
use lib.Pointwise.{pointwise}
use Rattle.std.proofs.lemmas.Slice.Eq.{slice_eq-Decides}
use Rattle.std.proofs.lemmas.Bool.Decides.{Decides-eqb, Decides-and, Decides-like}
use Rattle.dc_base.specs.declared.ty.Ty.{Ty}
use Rattle.class_rows.specs.declared.row.Param.{Param}
use Rattle.class_rows.specs.declared.row.Way.{Way}
use Rattle.class_rows.specs.declared.row.Sort.{Sort}
use Rattle.class_texts.specs.declared.pairs.Key.{Key}
use Rattle.class_texts.specs.Keys.{AreOneKey}
use Rattle.dc_base.specs.contracts.ty.TyPartialEq.TheImpl as ty_impl
use Rattle.class_rows.specs.contracts.row.ParamPartialEq.TheImpl as param_impl
use Rattle.class_rows.specs.contracts.row.WayPartialEq.TheImpl as way_impl
use Rattle.class_rows.specs.contracts.row.SortPartialEq.TheImpl as sort_impl
use Rattle.class_texts.specs.contracts.pairs.KeyPartialEq.TheImpl as key_impl

ty_tells : (a b : Ty) → Decides ((ty_impl.eq-value).it a b) (a ≡ b)
ty_tells a b = search rules

way_tells : (a b : Way) → Decides ((way_impl.eq-value).it a b) (a ≡ b)
way_tells a b = search rules

sort_tells : (a b : Sort) → Decides ((sort_impl.eq-value).it a b) (a ≡ b)
sort_tells a b = search rules

one_param : (a b : Param) → (a.ty ≡ b.ty) × (a.way ≡ b.way) → a ≡ b
one_param a b same =
    ap (λ (t : Ty). let p : Param = record { ty = t; way = a.way } in p) same.0 ∙ ap (λ (w : Way). let p : Param = record { ty = b.ty; way = w } in p) same.1

param_tells : (a b : Param) → Decides ((param_impl.eq-value).it a b) (a ≡ b)
param_tells a b =
    Decides-like _ (one_param a b) (λ e. (ap (λ (p : Param). p.ty) e, ap (λ (p : Param). p.way) e))
    (Decides-and _ _ (ty_tells a.ty b.ty) (way_tells a.way b.way))

bytes_tell : (xs ys : List ℕ) → Decides (pointwise eqb xs ys) (xs ≡ ys)
bytes_tell xs ys = slice_eq-Decides Decides-eqb xs ys _ refl

pub key_tells : (a b : Key) → Decides ((key_impl.eq-value).it a b) (AreOneKey a b)
key_tells a b =
    Decides-like _
    (λ p. record { owner = p.0; name = p.1.0; sort = p.1.1.0; params = p.1.1.1.0; result = p.1.1.1.1 })
    (λ s. (s.owner, (s.name, (s.sort, (s.params, s.result)))))
    (Decides-and _ _ (Decides-eqb a.owner b.owner) (Decides-and _ _ (bytes_tell a.name.now b.name.now) (Decides-and _ _ (sort_tells a.sort b.sort)
    (Decides-and _ _ (slice_eq-Decides param_tells a.params.now b.params.now _ refl) (ty_tells a.result b.result)))))
