use Rattle.std.proofs.Common.{◌≡◌, ◌∙◌, ℕ, ◌+◌, List, [], ◌∷◌, Some, length, inl, inr, sym, ap, subst, arith, length-append}
use Rattle.std.specs.List.{slice_get}
use Rattle.class_keys.proofs.Items.{pushed_item}
use Rattle.cli_scopes.specs.declared.refs.TypeRef.{TypeRef}
use Rattle.cli_scopes.specs.Refs.{IsTypeRef}
use Rattle.cli_scopes.proofs.refs.type_refs.Goals as goal

pub loop-k-preserved : goal.loop-k-preserved
loop-k-preserved c =
    let m = c.args.metadata.now in
    let items = c.in_ok-push.ensures.items in
    let new = c.type_ref.result in
    let long = length-append c.loop-k.refs.items (new ∷ []) in
    record {
      long = ap (λ (xs : List TypeRef). length xs) items ∙ omega (arith, long, c.loop-k.invariant.long);
      each = λ j ref h. elim (pushed_item c.loop-k.refs.items new j ref (subst (λ (xs : List TypeRef). slice_get xs j ≡ Some ref) items h)) [
        | inl old ↦ c.loop-k.invariant.each j ref old
        | inr here ↦
            let at : c.loop-k.k + 1 ≡ j + 1 = omega (arith, here.0, c.loop-k.invariant.long) in
            subst (λ (x : TypeRef). IsTypeRef m (j + 1) x) (sym here.1) (subst (λ (n : ℕ). IsTypeRef m n new) at c.type_ref.ensures)
      ];
    }
