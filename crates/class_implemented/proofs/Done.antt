-- Who implements a method is marked, or stands open.
use Rattle.std.proofs.Common.{◌≡◌, ◌⊎◌, ◌<◌, ℕ, Some, List, [], ◌∷◌, length, inl, inr, sym, ap, subst, ◌∙◌, arith}
use Rattle.std.proofs.lemmas.Option.{slice_get_within}
use Rattle.std.specs.List.{slice_get}
use Rattle.class_chains.specs.Ends.{here, further}
use Rattle.class_keys.proofs.Items.{one_item}
use Rattle.class_rows.specs.declared.row.MemberRow.{MemberRow}
use Rattle.class_rows.specs.Types.{InBaseChain}
use Rattle.class_rows.specs.Implemented.{AreAlike}
use Rattle.class_open.specs.Trail.{Has}
use Rattle.class_open.proofs.Path.{path_chain, chain_path, trail_has, trail_of}
use Rattle.class_implemented.specs.declared.known.Known.{Known}
use Rattle.class_implemented.specs.declared.standing.Standing.{Standing}
use Rattle.class_implemented.specs.Known.{IsKnown}
use Rattle.class_implemented.specs.Explicit.{IsPairOf}
use Rattle.class_implemented.specs.Marked.{IsMarked, IsGood, AreMarks}
use Rattle.class_implemented.specs.Standing.{IsStandingAt, HasOpenLike}
use Rattle.class_implemented.specs.Open.{IsDone}

module _ (known : Known) (are : IsKnown known) (s : Standing) (c : ℕ) (at : IsStandingAt known s c) (m : ℕ) (due : MemberRow) (stands : slice_get known.members.now m ≡ Some due) where
  pub marked_done : IsMarked s.flags.items s.marks.items m → IsDone known c m
  marked_done is =
      let pair = (at.2.sound m is.0 is.1).1 in (
        is.0,
        path_chain known.types.now c is.0 at.1 at.2.chain (at.2.flagged is.0 is.2),
        record { x = pair.0; row = pair.1.row; stands = pair.1.stands; owned = pair.1.is; implements = inl pair.2 },
      )

  pub open_done : HasOpenLike known.types.now known.members.now due s.stacks.trail → IsDone known c m
  open_done has =
      let of_ = trail_of known.members.now known.implicit.now (c ∷ at.1) s.stacks.trail has.0 at.2.trail has.1 in
      let implicit = are.implicit.yes_ has.0 of_.2.1 in
      let e = one_item known.members.now has.0 of_.2.0.row has.2.row of_.2.0.stands has.2.stands in
      let f = one_item known.members.now has.0 implicit.row has.2.row implicit.stands has.2.stands in (
        of_.0,
        path_chain known.types.now c of_.0 at.1 at.2.chain of_.1,
        record {
          x = has.0;
          row = has.2.row;
          stands = has.2.stands;
          owned = ap (λ (r : MemberRow). r.owner) (sym e) ∙ of_.2.0.is;
          implements = inr (
            ap (λ (r : MemberRow). r.access) (sym f) ∙ implicit.is.0,
            ap (λ (r : MemberRow). r.is_static) (sym f) ∙ implicit.is.1,
            record { row = due; stands = stands; is = has.2.is },
          );
        },
      )

  -- the types of the chain are there
  chain_there : (t b : ℕ) → t < length known.types.now → InBaseChain known.types.now t b → b < length known.types.now
  chain_there t b lt (here u) = lt
  chain_there t b lt (further u d a base rest) = let fit = (are.bases u).base d base in chain_there d a (slice_get_within known.types.now d fit.row fit.stands) rest

  good_in : (path : List ℕ) (b : ℕ) → Has path b → b < length known.types.now → m < length s.marks.items → IsPairOf known.members.now known.explicit.now b m → AreMarks known.members.now known.explicit.now (length known.types.now) s.marks.items path → IsGood s.marks.items path m
  good_in [] b on lt short pair marks = absurd on
  good_in (t ∷ path) b (inl e) lt short pair marks = marks.0 m (omega (arith, lt, e)) short (subst (λ (n : ℕ). IsPairOf known.members.now known.explicit.now n m) (sym e) pair)
  good_in (t ∷ path) b (inr on) lt short pair marks = let good = good_in path b on lt short pair marks.1 in (good.0, good.1, inr good.2)

  pub done_cases : IsDone known c m → IsMarked s.flags.items s.marks.items m ⊎ HasOpenLike known.types.now known.members.now due s.stacks.trail
  done_cases done =
      let lt = chain_there c done.0 at.0 done.1 in
      elim (chain_path known.types.now c done.0 at.1 at.2.chain done.1) [
        | inr past ↦ absurd (omega (arith, lt, past))
        | inl on ↦ elim done.2.implements [
          | inl pair ↦
              let short : m < length s.marks.items = let in_ = slice_get_within known.members.now m due stands in let long = at.2.long in omega (arith, in_, long) in
              let good = good_in (c ∷ at.1) done.0 on lt short (done.2.x, record { row = done.2.row; stands = done.2.stands; is = done.2.owned }, pair) at.2.marks in
              inl (good.0, good.1, at.2.all_flagged good.0 (at.2.sound m good.0 good.1).0 good.2)
          | inr imp ↦
              let x = done.2.x in
              let in_ = slice_get_within known.members.now x done.2.row done.2.stands in
              let picked = are.implicit.no_ x in_ (record { row = done.2.row; stands = done.2.stands; is = (imp.0, imp.1) }) in
              let open_ = trail_has known.members.now known.implicit.now (c ∷ at.1) s.stacks.trail done.0 x at.2.trail on (record { row = done.2.row; stands = done.2.stands; is = done.2.owned }, picked) in
              let e = one_item known.members.now m imp.2.row due imp.2.stands stands in
              inr (x, open_, record { row = done.2.row; stands = done.2.stands; is = subst (λ (r : MemberRow). AreAlike known.types.now done.2.row r) e imp.2.is })
        ]
      ]
