-- A type is entered, and left again.
use Rattle.std.proofs.Common.{◌≡◌, ◌⊎◌, ◌↔◌, ◌<◌, ℕ, zero, suc, Bool, true, false, eqb, Option, Some, None, List, [], ◌∷◌, length, replicate, set, inl, inr, refl, sym, ap, subst, ◌∙◌, arith}
use Rattle.std.proofs.Math.ListN.{length-set}
use Rattle.std.proofs.lemmas.Bool.{eqb-true, eqb-false}
use Rattle.std.proofs.lemmas.List.{length-replicate}
use Rattle.std.proofs.lemmas.Option.{slice_get_within, get_or_from_slice_get}
use Rattle.std.specs.List.{slice_get, Contains}
use Rattle.class_chains.proofs.Marks.{set_at}
use Rattle.class_rows.specs.Members.{IsOf}
use Rattle.class_walk.specs.Walk.{IsBelow}
use Rattle.class_open.specs.Trail.{Has}
use Rattle.class_open.specs.Stacks.{AreStacked, AreMore, AreLess}
use Rattle.class_open.proofs.Put.{set_other}
use Rattle.class_open.proofs.Path.{path_apart, none_open, trail_more, trail_less}
use Rattle.class_implemented.specs.declared.known.Known.{Known}
use Rattle.class_implemented.specs.declared.standing.Standing.{Standing}
use Rattle.class_implemented.specs.Known.{IsKnown}
use Rattle.class_implemented.specs.Explicit.{IsPairOf}
use Rattle.class_implemented.specs.Marked.{AreMarkedMore, AreMarks}
use Rattle.class_implemented.specs.Standing.{IsStanding}

pub none_up : (n u : ℕ) → slice_get (replicate n false) u ≡ Some true → ⊥
none_up zero u h = let e : None ≡ Some true = h in cc
none_up (suc n) zero h = let e : Some false ≡ Some true = h in cc
none_up (suc n) (suc u) h = none_up n u h

pub none_marked : (n m u : ℕ) → slice_get (replicate n None) m ≡ Some (Some u) → ⊥
none_marked zero m u h = let e : None ≡ Some (Some u) = h in cc
none_marked (suc n) zero u h = let e : Some None ≡ Some (Some u) = h in cc
none_marked (suc n) (suc m) u h = none_marked n m u h

some_bool : (a b : Bool) → Some a ≡ Some b → a ≡ b
some_bool a b h = cc

module _ (known : Known) where
  pub first : (s : Standing) → AreStacked known.signs.now s.stacks.tops.items s.stacks.below.items s.stacks.trail → s.stacks.trail ≡ [] → s.flags.items ≡ replicate (length known.types.now) false → s.marks.items ≡ replicate (length known.members.now) None → IsStanding known [] s
  first s stacked none downs nones = record {
    chain = tt;
    trail = none;
    stacked = stacked;
    wide = ap length downs ∙ length-replicate (length known.types.now) false;
    flagged = λ u at. none_up (length known.types.now) u (ap (λ (l : List Bool). slice_get l u) (sym downs) ∙ at);
    all_flagged = λ u lt h. absurd h;
    long = ap length nones ∙ length-replicate (length known.members.now) None;
    sound = λ m u at. absurd (none_marked (length known.members.now) m u (ap (λ (l : List (Option ℕ)). slice_get l m) (sym nones) ∙ at));
    marks = tt;
  }

  -- the members of a type aren't open before it is entered
  pub fresh_at : IsKnown known → (s : Standing) (path own : List ℕ) (t : ℕ) → IsStanding known path s → IsBelow known.types.now path t → ((m : ℕ) → Contains own m ↔ IsOf known.members.now t m) → (m : ℕ) → Contains own m → Has s.stacks.trail m → ⊥
  fresh_at are s path own t at below exact m has =
      none_open known.members.now known.implicit.now path s.stacks.trail t m at.trail (path_apart known.types.now known.order.now are.order t path at.chain below) ((exact m).0 has)

  pub within_at : IsKnown known → (own : List ℕ) (t : ℕ) → ((m : ℕ) → Contains own m ↔ IsOf known.members.now t m) → (k m : ℕ) → slice_get own k ≡ Some m → m < length known.signs.now
  within_at are own t exact k m at =
      let of_ = (exact m).0 (k, slice_get_within own k m at, get_or_from_slice_get own k m m at) in
      let lt = slice_get_within known.members.now m of_.row of_.stands in
      let long = are.signs.long in
      omega (arith, lt, long)

  flag_up : (flags : List Bool) (t u : ℕ) → slice_get (set flags t true) u ≡ Some true → (t ≡ u) ⊎ (slice_get flags u ≡ Some true)
  flag_up flags t u at = elim (eqb t u) as (λ b. eqb t u ≡ b → (t ≡ u) ⊎ (slice_get flags u ≡ Some true)) [
    | true ↦ λ e. inl (eqb-true t u e)
    | false ↦ λ e. inr (sym (set_other flags t u true (eqb-false t u e)) ∙ at)
  ] refl

  flag_down : (flags : List Bool) (t u : ℕ) → slice_get (set flags t false) u ≡ Some true → (t ≡ u → ⊥) × (slice_get flags u ≡ Some true)
  flag_down flags t u at = elim (eqb t u) as (λ b. eqb t u ≡ b → (t ≡ u → ⊥) × (slice_get flags u ≡ Some true)) [
    | true ↦ λ e.
        let same = eqb-true t u e in
        let here : slice_get (set flags t false) t ≡ Some true = ap (λ (k : ℕ). slice_get (set flags t false) k) same ∙ at in
        let lt : t < length flags = let in_ = slice_get_within (set flags t false) t true here in let long = length-set flags t false in omega (arith, in_, long) in
        let no : false ≡ true = some_bool false true (sym (set_at flags t false lt) ∙ here) in
        absurd cc
    | false ↦ λ e. (eqb-false t u e, sym (set_other flags t u false (eqb-false t u e)) ∙ at)
  ] refl

  flag_stays : (flags : List Bool) (t u : ℕ) → slice_get flags u ≡ Some true → slice_get (set flags t true) u ≡ Some true
  flag_stays flags t u at = elim (eqb t u) as (λ b. eqb t u ≡ b → slice_get (set flags t true) u ≡ Some true) [
    | true ↦ λ e. let same = eqb-true t u e in
        ap (λ (k : ℕ). slice_get (set flags t true) k) (sym same) ∙ set_at flags t true (let lt = slice_get_within flags u true at in omega (arith, lt, same))
    | false ↦ λ e. set_other flags t u true (eqb-false t u e) ∙ at
  ] refl

  -- what is marked within a path stays so
  marks_kept : (flags : List Bool) (t : ℕ) (before after : List (Option ℕ)) (path : List ℕ) → length after ≡ length before → ((n u : ℕ) → slice_get before n ≡ Some (Some u) → Has path u → slice_get after n ≡ Some (Some u)) → AreMarks known.members.now known.explicit.now (length known.types.now) before path → AreMarks known.members.now known.explicit.now (length known.types.now) after path
  marks_kept flags t before after [] long kept are = tt
  marks_kept flags t before after (v ∷ path) long kept are = (
    λ m lt short pair. let good = are.0 m lt (omega (arith, short, long)) pair in (good.0, kept m good.0 good.1 good.2, good.2),
    marks_kept flags t before after path long (λ n u at h. kept n u at (inr h)) are.1,
  )

  pub at_entered : IsKnown known → (s q : Standing) (path own : List ℕ) (t : ℕ) → IsStanding known path s → IsBelow known.types.now path t → ((m : ℕ) → Contains own m ↔ IsOf known.members.now t m) → AreStacked known.signs.now q.stacks.tops.items q.stacks.below.items q.stacks.trail → AreMore known.implicit.now own s.stacks.trail q.stacks.trail → q.flags.items ≡ set s.flags.items t true → AreMarkedMore known q.flags.items t s.marks.items q.marks.items → IsStanding known (t ∷ path) q
  at_entered are s q path own t at below exact stacked more flags marked =
      let flagged : (u : ℕ) → slice_get q.flags.items u ≡ Some true → Has (t ∷ path) u = λ u up. elim (flag_up s.flags.items t u (ap (λ (l : List Bool). slice_get l u) (sym flags) ∙ up)) [
        | inl e ↦ inl e
        | inr was ↦ inr (at.flagged u was)
      ] in
      let up_in : (u : ℕ) → u < length known.types.now → Has (t ∷ path) u → slice_get q.flags.items u ≡ Some true = λ u lt h. ap (λ (l : List Bool). slice_get l u) flags ∙ elim h [
        | inl e ↦ subst (λ (n : ℕ). slice_get (set s.flags.items t true) n ≡ Some true) e (set_at s.flags.items t true (let wide = at.wide in omega (arith, lt, e, wide)))
        | inr on ↦ flag_stays s.flags.items t u (at.all_flagged u lt on)
      ] in
      record {
        chain = (below, at.chain);
        trail = trail_more known.members.now known.implicit.now path own s.stacks.trail q.stacks.trail t exact at.trail more;
        stacked = stacked;
        wide = ap length flags ∙ length-set s.flags.items t true ∙ at.wide;
        flagged = flagged;
        all_flagged = up_in;
        long = marked.long ∙ at.long;
        sound = λ m u there. elim (marked.from_ m u there) [
          | inl was ↦ at.sound m u was
          | inr new ↦ (subst (λ (n : ℕ). n < length known.types.now) (sym new.0) new.1, subst (λ (n : ℕ). IsPairOf known.members.now known.explicit.now n m) (sym new.0) new.2)
        ];
        marks = (
          (λ m lt short pair.
              let is = marked.has lt m (let long = marked.long in omega (arith, short, long)) pair in
              (is.0, is.1, flagged is.0 is.2)),
          marks_kept q.flags.items t s.marks.items q.marks.items path marked.long
              (λ n u was on. marked.kept n u was (up_in u (at.sound n u was).0 (inr on))) at.marks,
        );
      }

  pub at_left : IsKnown known → (s q : Standing) (path : List ℕ) (t : ℕ) → IsStanding known (t ∷ path) s → AreStacked known.signs.now q.stacks.tops.items q.stacks.below.items q.stacks.trail → AreLess known.members.now t s.stacks.trail q.stacks.trail → q.flags.items ≡ set s.flags.items t false → q.marks.items ≡ s.marks.items → IsStanding known path q
  at_left are s q path t at stacked less flags same =
      let apart = path_apart known.types.now known.order.now are.order t path at.chain.1 at.chain.0 in
      record {
        chain = at.chain.1;
        trail = trail_less known.members.now known.implicit.now path s.stacks.trail q.stacks.trail t apart at.trail less;
        stacked = stacked;
        wide = ap length flags ∙ length-set s.flags.items t false ∙ at.wide;
        flagged = λ u up.
            let was = flag_down s.flags.items t u (ap (λ (l : List Bool). slice_get l u) (sym flags) ∙ up) in
            elim (at.flagged u was.1) [
              | inl e ↦ absurd (was.0 e)
              | inr on ↦ on
            ];
        all_flagged = λ u lt on.
            ap (λ (l : List Bool). slice_get l u) flags
            ∙ set_other s.flags.items t u false (λ e. apart (subst (λ (n : ℕ). Has path n) (sym e) on))
            ∙ at.all_flagged u lt (inr on);
        long = ap length same ∙ at.long;
        sound = λ m u there. at.sound m u (ap (λ (l : List (Option ℕ)). slice_get l m) (sym same) ∙ there);
        marks = subst (λ (l : List (Option ℕ)). AreMarks known.members.now known.explicit.now (length known.types.now) l path) (sym same) at.marks.1;
      }

pub flag_set : (flags : List Bool) (t n : ℕ) → length flags ≡ n → t < n → slice_get (set flags t true) t ≡ Some true
flag_set flags t n wide lt = set_at flags t true (omega (arith, wide, lt))
