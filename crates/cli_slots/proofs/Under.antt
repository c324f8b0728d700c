-- The members of a type are told, one by one.
use Rattle.std.proofs.Common.{◌≡◌, ℕ, ◌+◌, ◌<◌, ◌≤◌, Bool, true, false, Some, List, length, set, eqb, inl, inr, sym, refl, ap, subst, ◌∙◌, arith}
use Rattle.std.proofs.Math.ListN.{length-set}
use Rattle.std.proofs.lemmas.Bool.{cases_lt, eqb-true, eqb-false}
use Rattle.std.proofs.lemmas.Option.{slice_get_within}
use Rattle.std.specs.List.{slice_get}
use Rattle.class_chains.proofs.Marks.{set_at}
use Rattle.class_open.proofs.Put.{set_other}
use Rattle.class_rows.specs.declared.row.Virt.{Virt}
use Rattle.class_rows.specs.Members.{IsOf}
use Rattle.cli_slots.specs.declared.known.Known.{Known}
use Rattle.cli_slots.specs.declared.told.Told.{Told}
use Rattle.cli_slots.specs.declared.told.Word.{Word}
use Rattle.cli_slots.specs.Told.{IsWord, IsTold, AreLong, AreWritten, ByOpen}

module _ (known : Known) (trail : List ℕ) (t : ℕ) (before : Told) (own : List ℕ) where
  -- the first so many of the members are told
  pub record IsUnderWay (virts : List Virt) (picks : List Bool) (k : ℕ) : Type 0 where
    pub many_virts : length virts ≡ length known.members.now
    pub many_picks : length picks ≡ length known.members.now
    pub done : (j m : ℕ) → j < k → slice_get own j ≡ Some m → IsTold known (ByOpen known trail) virts picks m
    pub kept_virts : (n : ℕ) → (IsOf known.members.now t n → ⊥) → slice_get virts n ≡ slice_get before.virts.items n
    pub kept_picks : (n : ℕ) → (IsOf known.members.now t n → ⊥) → slice_get picks n ≡ slice_get before.picks.items n

  pub begins : AreLong known before → IsUnderWay before.virts.items before.picks.items 0
  begins long = record {
    many_virts = long.virts;
    many_picks = long.picks;
    done = λ j m lt at. absurd (omega arith);
    kept_virts = λ n off. refl;
    kept_picks = λ n off. refl;
  }

  some_number : (a b : ℕ) → Some a ≡ Some b → a ≡ b
  some_number a b h = cc

  pub goes_on : (virts : List Virt) (picks : List Bool) (k m : ℕ) (word : Word) → slice_get own k ≡ Some m → IsOf known.members.now t m → IsWord known (ByOpen known trail) m word → IsUnderWay virts picks k → IsUnderWay (set virts m word.virt) (set picks m word.pick) (k + 1)
  goes_on virts picks k m word at owned is way =
      let lt = slice_get_within known.members.now m owned.row owned.stands in
      let here : IsTold known (ByOpen known trail) (set virts m word.virt) (set picks m word.pick) m = record {
        word = word;
        put = set_at virts m word.virt (let l = way.many_virts in omega (arith, lt, l));
        flagged = set_at picks m word.pick (let l = way.many_picks in omega (arith, lt, l));
        is = is;
      } in
      record {
        many_virts = length-set virts m word.virt ∙ way.many_virts;
        many_picks = length-set picks m word.pick ∙ way.many_picks;
        done = λ j n less there. elim (eqb m n) as (λ b. eqb m n ≡ b → IsTold known (ByOpen known trail) (set virts m word.virt) (set picks m word.pick) n) [
          | true ↦ λ e. subst (λ (i : ℕ). IsTold known (ByOpen known trail) (set virts m word.virt) (set picks m word.pick) i) (eqb-true m n e) here
          | false ↦ λ e. elim (cases_lt j k) [
            | inl earlier ↦
                let was = way.done j n earlier there in
                record {
                  word = was.word;
                  put = set_other virts m n word.virt (eqb-false m n e) ∙ was.put;
                  flagged = set_other picks m n word.pick (eqb-false m n e) ∙ was.flagged;
                  is = was.is;
                }
            | inr ge ↦
                let same : j ≡ k = omega (arith, less, ge) in
                let o : Some m ≡ Some n = sym at ∙ ap (λ (i : ℕ). slice_get own i) (sym same) ∙ there in
                absurd (eqb-false m n e (some_number m n o))
          ]
        ] refl;
        kept_virts = λ n off. set_other virts m n word.virt (λ e. off (subst (λ (i : ℕ). IsOf known.members.now t i) e owned)) ∙ way.kept_virts n off;
        kept_picks = λ n off. set_other picks m n word.pick (λ e. off (subst (λ (i : ℕ). IsOf known.members.now t i) e owned)) ∙ way.kept_picks n off;
      }

  pub is_done : (after : Told) (k : ℕ) → length own ≤ k → ((m : ℕ) → IsOf known.members.now t m → (j : ℕ) × (slice_get own j ≡ Some m)) → IsUnderWay after.virts.items after.picks.items k → AreWritten known trail before after t
  is_done after k le has way = record {
    long = record { virts = way.many_virts; picks = way.many_picks };
    own = λ m of_. let at = has m of_ in way.done at.0 m (omega (arith, slice_get_within own at.0 m at.1, le)) at.1;
    kept = λ n off. (way.kept_virts n off, way.kept_picks n off);
  }
