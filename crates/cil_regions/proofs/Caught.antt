-- A rethrow stands in a catch where the innermost region about it that is no try is one.
use Rattle.std.proofs.Common.{◌≡◌, ◌≢◌, ℕ, zero, suc, ◌<◌, ◌≤◌, Bool, true, false, not, ◌&&◌, leb, ltb, List, length, get_or, inl, inr, sym, refl, ap, ◌∙◌, subst, arith}
use Rattle.std.proofs.lemmas.Bool.{leb-true, ltb-true, le-leb, lt-ltb, and_parts, and_from, both_ways, not-true, not_from_false, cases_Bool, cases_lt, cases_order, false_from_ne_true}
use Rattle.std.proofs.lemmas.List.{get_or_default}
use Rattle.std.proofs.lemmas.List.Elements.{Contains-get_or, All-weaker}
use Rattle.std.proofs.lemmas.List.Sorted.{Contains-permutation, IsPermutation-sym}
use Rattle.std.specs.List.{All}
use Rattle.cil_body.specs.declared.body.Body.{Body}
use Rattle.cil_instruction.specs.declared.instruction.Instr.{Instr}
use Rattle.cil_regions.specs.declared.region.RegionKind.{RegionKind}
use Rattle.cil_regions.specs.declared.region.RegionKind.TheVariants.{Code, Try, Catch, Finally}
use Rattle.cil_regions.specs.declared.region.Region.{Region}
use Rattle.cil_regions.specs.declared.region.Span.{Span}
use Rattle.cil_regions.specs.Region.{spans_of, is_try, is_inside, IsCatchKind, IsInCatch, IsRethrowFine, IsBadRethrow}
use Rattle.cil_regions.specs.Laid.{IsLink, AreNested, Handles, IsCaught, IsFineBy, IsOffBy, IsTree}
use Rattle.cil_regions.proofs.Chain.{linked, starts_rise, no_span, no_node}
use Rattle.cil_regions.proofs.Handling.{try_from, no_try_from}
use Rattle.cil_regions.proofs.Inside.{inside_parts}
use Rattle.cil_regions.proofs.Nested.{inside_later, holder_before}

-- the last number below n that passes a test
last_such : (p : ℕ → Bool) (n a : ℕ) → a < n → p a ≡ true → (k : ℕ) × (k < n) × (p k ≡ true) × ((i : ℕ) → k < i → i < n → p i ≡ false)
last_such p zero a lt t = absurd (omega arith)
last_such p (suc n) a lt t =
    elim (cases_Bool (p n)) [
      | inl here ↦ (n, omega arith, here, λ i above below. absurd (omega arith))
      | inr off ↦
          let before : a < n =
          elim (cases_order a n) [
            | inl is ↦ absurd (both_ways (p n) off (ap p (sym is) ∙ t))
            | inr apart ↦ elim apart [ inl less ↦ less | inr more ↦ absurd (omega arith) ]
          ] in
          let rest = last_such p n a before t in (
            rest.0,
            omega (arith, rest.1),
            rest.2,
            λ i above below. elim (cases_lt i n) [ inl early ↦ rest.3 i above early | inr past ↦ let is : n ≡ i = omega arith in ap p (sym is) ∙ off ],
          )
    ]

abbrev handles : ℕ → Region → Bool
handles place node = leb node.from place && ltb place node.to && not (is_try node.kind)

handles_parts : (place : ℕ) (node : Region) → handles place node ≡ true → Handles node place
handles_parts place node h =
    let a = and_parts (leb node.from place && ltb place node.to) (not (is_try node.kind)) h in
    let b = and_parts (leb node.from place) (ltb place node.to) a.0 in
    (leb-true node.from place b.0, ltb-true place node.to b.1, no_try_from node.kind (not-true (is_try node.kind) a.1))

not_try : (k : RegionKind) → k ≢ Try → is_try k ≡ false
not_try k off = false_from_ne_true (is_try k) (λ t. off (try_from k t))

handles_from : (place : ℕ) (node : Region) → Handles node place → handles place node ≡ true
handles_from place node h =
    and_from (leb node.from place && ltb place node.to) (not (is_try node.kind))
    (and_from (leb node.from place) (ltb place node.to) (le-leb node.from place h.0) (lt-ltb place node.to h.1))
    (not_from_false (is_try node.kind) (not_try node.kind h.2))

catch_is_no_try : (k : RegionKind) → IsCatchKind k → k ≢ Try
catch_is_no_try Code c e = cc
catch_is_no_try Try c e = c
catch_is_no_try (Catch class) c e = cc
catch_is_no_try Finally c e = cc

catch_by : (k : RegionKind) → k ≢ Try → (k ≡ Code → ⊥) → (k ≡ Finally → ⊥) → IsCatchKind k
catch_by Code t c f = absurd (c refl)
catch_by Try t c f = absurd (t refl)
catch_by (Catch class) t c f = tt
catch_by Finally t c f = absurd (f refl)

module _ (body : Body) (nodes : List Region) (tree : IsTree body nodes) where
  at_link : (k : ℕ) (d : Span) (e : Region) → k < length nodes → IsLink tree.spans k (get_or tree.spans k d) (get_or nodes k e)
  at_link k d e lt = tree.chained.links.each k d e lt

  pub are_nested : AreNested nodes
  are_nested = record {
    linked = linked tree.spans nodes tree.chained.links no_span;
    rising = λ i j d le lt.
        elim (cases_order i j) [
          | inl is ↦ omega (arith, ap (λ n. (get_or nodes n d).from) is)
          | inr apart ↦ elim apart [
            | inl less ↦
                let rise = starts_rise tree.spans tree.laid i j no_span less (omega (arith, lt, tree.chained.as_many)) in
                omega (arith, rise, (at_link i no_span d (omega (arith, lt))).from, (at_link j no_span d lt).from)
            | inr more ↦ absurd (omega arith)
          ]
        ];
    whole = λ d pos. (at_link 0 no_span d pos).kind ∙ tree.laid.whole no_span;
    held = λ k d pos lt.
        let link = at_link k no_span d lt in
        let p = (get_or nodes k d).parent in
        let before = link.before pos in
        let up = inside_later tree.spans tree.laid tree.laminar p k no_span before (omega (arith, lt, tree.chained.as_many)) (link.reaches no_span pos) in
        let ends = (inside_parts (get_or tree.spans k no_span) (get_or tree.spans p no_span) up).ends in
        omega (arith, ends, link.to, (at_link p no_span d (omega (arith, before, lt))).to);
  }

  -- the whole code alone is the first node
  code_is_first : (k : ℕ) (e : Region) → k < length nodes → (get_or nodes k e).kind ≡ Code → k ≡ 0
  code_is_first k e lt code =
      elim (cases_order k 0) [
        | inl is ↦ is
        | inr apart ↦ elim apart [
          | inl less ↦ absurd (omega arith)
          | inr pos ↦
              absurd (tree.laid.parts k no_span pos (omega (arith, lt, tree.chained.as_many)) (sym (at_link k no_span e lt).kind ∙ code))
        ]
      ]

  module _ (place : ℕ) where
    -- a catch about the place is the last node but tries that holds it, if no finally behind it does
    caught_at :
        (a : ℕ) (e : Region) → a < length nodes → handles place (get_or nodes a e) ≡ true → IsCatchKind (get_or nodes a e).kind
        → ((k : ℕ) → a < k → k < length nodes → (get_or nodes k e).kind ≡ Finally → Handles (get_or nodes k e) place → ⊥) → IsCaught nodes place
    caught_at a e lt passes catch none =
        let last = last_such (λ i. handles place (get_or nodes i e)) (length nodes) a lt passes in
        let k = last.0 in
        let held = handles_parts place (get_or nodes k e) last.2 in
        let not_before : a ≤ k =
        elim (cases_lt k a) [
          | inl less ↦ absurd (both_ways (handles place (get_or nodes a e)) (last.3 a less lt) passes)
          | inr past ↦ past
        ] in
        let other_kind : (o : RegionKind) → (get_or nodes k e).kind ≡ o → (IsCatchKind o → ⊥) → a < k =
        λ o is no_catch. elim (cases_order a k) [
          | inl same ↦ absurd (no_catch (subst IsCatchKind (ap (λ n. (get_or nodes n e).kind) same ∙ is) catch))
          | inr apart ↦ elim apart [ inl less ↦ less | inr more ↦ absurd (omega arith) ]
        ] in
        let kind : IsCatchKind (get_or nodes k e).kind =
        catch_by (get_or nodes k e).kind held.2
        (λ code.
        let first = code_is_first k e last.1 code in
        let above = other_kind Code code (λ c. c) in
        omega (arith, first, above))
        (λ finally'. none k (other_kind Finally finally' (λ c. c)) last.1 finally' held) in (
          k,
          record {
            within = last.1;
            handles = λ d. subst (λ (r : Region). Handles r place) (get_or_default nodes k e d last.1) held;
            last = λ i d above below handled.
                both_ways (handles place (get_or nodes i e)) (last.3 i above below)
                (handles_from place (get_or nodes i e) (subst (λ (r : Region). Handles r place) (get_or_default nodes i d e below) handled));
          },
          λ d. subst (λ (r : Region). IsCatchKind r.kind) (get_or_default nodes k e d last.1) kind,
        )

    in_catch_from : IsCaught nodes place → IsInCatch (spans_of body) place
    in_catch_from caught =
        let at = caught.0 in
        let h = caught.1 in
        let s = get_or tree.spans at no_span in
        let link = at_link at no_span no_node h.within in
        let within : at < length tree.spans = omega (arith, h.within, tree.chained.as_many) in
        let holds = h.handles no_node in (
          s,
          Contains-permutation tree.spans (spans_of body) s (IsPermutation-sym (spans_of body) tree.spans tree.ordered.all) (Contains-get_or tree.spans at no_span within),
          subst IsCatchKind link.kind (caught.2 no_node),
          (omega (arith, holds.0, link.from), omega (arith, holds.1, link.to)),
          λ f among finally' held inside.
              let has = Contains-permutation (spans_of body) tree.spans f tree.ordered.all among in
              let j = has.0 in
              let here : get_or tree.spans j no_span ≡ f = get_or_default tree.spans j no_span f has.1 ∙ has.2 in
              let above = holder_before tree.spans tree.laid tree.laminar at j no_span within has.1 (subst (λ (r : Span). is_inside r s ≡ true) (sym here) inside) in
              let other : j < length nodes = omega (arith, has.1, tree.chained.as_many) in
              let link' = at_link j no_span no_node other in
              let kind : (get_or nodes j no_node).kind ≡ Finally = link'.kind ∙ ap (λ (r : Span). r.kind) here ∙ finally' in
              h.last j no_node above other (
                omega (arith, link'.from, ap (λ (r : Span). r.from) here, held.0),
                omega (arith, link'.to, ap (λ (r : Span). r.to) here, held.1),
                λ try'. let clash : Finally ≡ Try = sym kind ∙ try' in cc,
              ),
        )

    pub caught_from : IsInCatch (spans_of body) place → IsCaught nodes place
    caught_from inside =
        let c = inside.0 in
        let held = inside.3 in
        let has = Contains-permutation (spans_of body) tree.spans c tree.ordered.all inside.1 in
        let a = has.0 in
        let here : get_or tree.spans a no_span ≡ c = get_or_default tree.spans a no_span c has.1 ∙ has.2 in
        let other : a < length nodes = omega (arith, has.1, tree.chained.as_many) in
        let link = at_link a no_span no_node other in
        let start : (get_or nodes a no_node).from ≤ place = omega (arith, link.from, ap (λ (r : Span). r.from) here, held.0) in
        let end : place < (get_or nodes a no_node).to = omega (arith, link.to, ap (λ (r : Span). r.to) here, held.1) in
        let kind : (get_or nodes a no_node).kind ≡ c.kind = link.kind ∙ ap (λ (r : Span). r.kind) here in
        let catch : IsCatchKind (get_or nodes a no_node).kind = subst IsCatchKind (sym kind) inside.2 in
        let passes : handles place (get_or nodes a no_node) ≡ true = handles_from place (get_or nodes a no_node) (start, end, catch_is_no_try (get_or nodes a no_node).kind catch) in
        caught_at a no_node other passes catch
        (λ k above lt finally' holds.
        let within : k < length tree.spans = omega (arith, lt, tree.chained.as_many) in
        let link' = at_link k no_span no_node lt in
        let s = get_or tree.spans k no_span in
        let among = Contains-permutation tree.spans (spans_of body) s (IsPermutation-sym (spans_of body) tree.spans tree.ordered.all) (Contains-get_or tree.spans k no_span within) in
        let in' = inside_later tree.spans tree.laid tree.laminar a k no_span above within (omega (arith, holds.0, link'.from, link.to, end)) in
        inside.4 s among (sym link'.kind ∙ finally') (omega (arith, holds.0, link'.from), omega (arith, holds.1, link'.to)) (subst (λ (r : Span). is_inside s r ≡ true) here in'))

  fine_from : (e : ℕ × Instr) → IsFineBy nodes e → IsRethrowFine (spans_of body) e
  fine_from e fine is = in_catch_from e.0 (fine is)

  pub all_fine : (code : List (ℕ × Instr)) → All (IsFineBy nodes) code → All (IsRethrowFine (spans_of body)) code
  all_fine code all = All-weaker (IsFineBy nodes) (IsRethrowFine (spans_of body)) fine_from code all

  pub bad_rethrow : (place : ℕ) → IsOffBy nodes body.code place → IsBadRethrow body place
  bad_rethrow place off =
      let first = off.1 in (
        off.0,
        record {
          index = first.index;
          within = first.within;
          is = first.is;
          before = λ k d lt. fine_from (get_or body.code k d) (first.before k d lt);
          off = λ fine. first.off (λ is. caught_from off.0.0 (fine is));
        },
        off.2,
      )
