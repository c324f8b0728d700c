-- What is told of a text is what it is read as.
use Rattle.std.proofs.Common.{◌≡◌, ℕ, Bool, true, false, List, [], ◌∷◌, ◌++◌, refl, sym, ◌∙◌, subst, Result, Ok, Err}
use Rattle.std.proofs.lemmas.List.{append-nil}
use Rattle.dc_base.specs.declared.failure.Or.{Or}
use Rattle.dc_base.specs.declared.failure.Or.TheVariants.{NoMemory, Fault as WithFault}
use Rattle.cs_token.specs.Placed.{Placed as Token}
use Rattle.cs_token.specs.Cuts.{place_of, Cuts}
use Rattle.cs_lex.specs.declared.cuts.Tokens.{Tokens}
use Rattle.cs_lex.specs.Lexed.{IsCut}
use Rattle.cs_lex.proofs.Advances.{same_place}
use Rattle.cs_tree.specs.declared.declarations.Unit.{Unit as WholeText}
use Rattle.cs_grammar.specs.declared.fault.Fault.{Fault}
use Rattle.cs_grammar.specs.declared.fault.Fault.TheVariants.{Unexpected, TooDeep}
use Rattle.cs_grammar.specs.Grammar.{Read, Grammar}
use Rattle.cs_grammar.specs.Exact.{Exact}
use Rattle.cs_grammar.specs.Whole.{Viable, IsFault, Answers, whole, Deeper}
use Rattle.cs_grammar.specs.Reads.{Reads}
use Rattle.cs_grammar.proofs.Whole.{whole_answers}
use Rattle.cs_productions.specs.Tokens.{kind}
use Rattle.cs_read_texts.specs.Texts.{IsRead}
use Rattle.cs_read_texts.specs.Told.{told}

not_both : true ≡ false → ⊥
not_both e = cc

-- what tokens that go on are, where nothing is left of them
all_go_on : (g : Grammar Token WholeText) (ts front : List Token) → ts ≡ front ++ [] → Viable g front → Viable g ts
all_go_on g ts front e v = subst (λ us. Viable g us) (sym (e ∙ append-nil front)) v

pub tells : {g wide : Grammar Token WholeText} {xs ys v w : List ℕ} {m n : Bool} → Exact kind g xs v m → Exact kind wide ys w n → Deeper g wide → (text : List ℕ) (cut : Tokens) (left : List Token) (read : Result WholeText (Or Fault)) → IsCut text cut → Reads (g.reads cut.tokens) read left → IsRead g wide text (told cut.end left read)
tells {g = g} {wide = wide} x y d text cut left read c r = by_case left read r
  where
    answer : (r : Read Token WholeText) → g.reads cut.tokens ≡ r → Answers g wide cut.tokens (whole r)
    answer r e = subst (λ (r : Read Token WholeText). Answers g wide cut.tokens (whole r)) e (whole_answers x y d cut.tokens)

    at : (cut.end.line, cut.end.column) ≡ place_of text c.rest
    at = same_place (cut.end.line, cut.end.column) (place_of text c.rest) c.line c.column

    clash : cut.end.whole ≡ false → c.rest ≡ [] → ⊥
    clash e n = not_both (sym (c.whole.1 n) ∙ e)

    -- the tokens are a tree's: it is the text's, or the tokens go on
    at_whole : (b : Bool) (unit : WholeText) → cut.end.whole ≡ b → g.derives cut.tokens unit [] → IsRead g wide text (told cut.end [] (Ok unit))
    at_whole true unit e p =
        rw e
        (record { tokens = cut.tokens; cut = subst (λ (rest : List ℕ). Cuts text text cut.tokens rest) (c.whole.0 e) c.cuts.0; derived = p })
    at_whole false unit e p =
        rw e
        (record {
          tokens = cut.tokens;
          rest = c.rest;
          cut = c.cuts;
          more = clash e;
          goes_on = ([], unit, subst (λ (us : List Token). g.derives us unit []) (sym (append-nil cut.tokens)) p);
          placed = at;
        })

    -- no tree ends behind the tokens: it is the text's end, or the tokens go on
    at_last : (b : Bool) → cut.end.whole ≡ b → IsFault g wide cut.tokens false [] → IsRead g wide text (told cut.end [] (Err (WithFault Unexpected)))
    at_last true e f = rw e (record { tokens = cut.tokens; rest = c.rest; left = []; cut = c.cuts; fault = f; placed = (c.whole.0 e, at) })
    at_last false e f =
        rw e
        (record { tokens = cut.tokens; rest = c.rest; cut = c.cuts; more = clash e; goes_on = all_go_on g cut.tokens f.front f.split f.goes_on; placed = at })

    by_case : (left : List Token) (read : Result WholeText (Or Fault)) → Reads (g.reads cut.tokens) read left → IsRead g wide text (told cut.end left read)
    by_case [] (Ok unit) r = at_whole cut.end.whole unit refl (answer (Ok (unit, [])) r)
    by_case (next ∷ more) (Ok unit) r =
        record { tokens = cut.tokens; rest = c.rest; left = next ∷ more; cut = c.cuts; fault = answer (Ok (unit, next ∷ more)) r; placed = refl }
    by_case [] (Err (WithFault Unexpected)) r = at_last cut.end.whole refl (answer (Err (false, [])) r)
    by_case [] (Err (WithFault TooDeep)) r = absurd (let f : IsFault g wide cut.tokens true [] = answer (Err (true, [])) r in f.depth)
    by_case (next ∷ more) (Err (WithFault Unexpected)) r =
        record { tokens = cut.tokens; rest = c.rest; left = next ∷ more; cut = c.cuts; fault = answer (Err (false, next ∷ more)) r; placed = refl }
    by_case (next ∷ more) (Err (WithFault TooDeep)) r =
        record { tokens = cut.tokens; rest = c.rest; left = next ∷ more; cut = c.cuts; fault = answer (Err (true, next ∷ more)) r; placed = refl }
    by_case left (Err NoMemory) r = tt
