-- A text has one answer.
use Rattle.std.proofs.Common.{◌≡◌, ℕ, [], refl, sym, ◌∙◌, ap}
use Rattle.cs_token.specs.Cuts.{place_of}
use Rattle.cs_token.proofs.OneCut.{one_cut_of}
use Rattle.cs_lex.specs.declared.whole.LexFault.{LexFault}
use Rattle.cs_lex.specs.Lexed.{HasOneAnswer}

made : ℕ → ℕ → LexFault
made l c = record { line = l; column = c }

same_fault : (f g : LexFault) → f.line ≡ g.line → f.column ≡ g.column → f ≡ g
unfolding made
same_fault f g l c = ap (λ x. made x f.column) l ∙ ap (made g.line) c

pub answers_once : HasOneAnswer
answers_once =
    record {
      one_list = λ text ts us a b. (one_cut_of text text ts us [] [] a refl b refl).0;
      one_stop = λ text f g a b.
          let same = (one_cut_of text text a.tokens b.tokens a.rest b.rest a.cuts.0 a.cuts.1 b.cuts.0 b.cuts.1).1 in
          let place = ap (place_of text) same in
          same_fault f g (a.placed.0 ∙ (ap (λ (p : ℕ × ℕ). p.0) place ∙ sym b.placed.0)) (a.placed.1 ∙ (ap (λ (p : ℕ × ℕ). p.1) place ∙ sym b.placed.1));
      not_both = λ text ts f a b. b.more (sym (one_cut_of text text ts b.tokens [] b.rest a refl b.cuts.0 b.cuts.1).1);
    }
