-- Assignments and calls are read, as statements and as steps.
use Rattle.std.proofs.Common.{◌≡◌, ◌⊎◌, inl, inr, ℕ, Bool, true, false, List, [], ◌∷◌, ◌++◌, refl, sym, ◌∙◌, ap, subst, nat_lt}
use Rattle.std.proofs.lemmas.List.{append-nil, append_assoc}
use Rattle.cs_token.specs.Placed.{Placed as Token}
use Rattle.cs_token.specs.Tokens.{kind_of}
use Rattle.cs_token.specs.declared.lexeme.Lexeme.TheVariants as lexeme
use Rattle.cs_tree.specs.declared.types.Spot.{Spot}
use Rattle.cs_tree.specs.declared.forms.AssignOp.{AssignOp}
use Rattle.cs_tree.specs.declared.forms.AssignOp.TheVariants as assign_op
use Rattle.cs_tree.specs.declared.forms.Form.{Form}
use Rattle.cs_tree.specs.declared.forms.Action.{Action}
use Rattle.cs_tree.specs.declared.forms.Action.TheVariants as action
use Rattle.cs_tree.specs.declared.forms.Syntax.{Syntax}
use Rattle.cs_tree.specs.declared.forms.Syntax.TheVariants as syntax
use Rattle.cs_tree.specs.Bare.{bare_action, bare_syntax}
use Rattle.cs_productions.specs.declared.values.Measured.{Measured}
use Rattle.cs_grammar.specs.Kinds.{has}
use Rattle.cs_grammar.specs.Grammar.{gives, bind, either, guarded, TakesOne}
use Rattle.cs_productions.specs.Kinds.{names, global, paren, unparen, bracket, equals, colons, semicolon, expression_kinds}
use Rattle.cs_productions.specs.Tokens.{kind, sign, spot_of, simple_of}
use Rattle.cs_productions.specs.Types.{global_type}
use Rattle.cs_productions.specs.Inner.{Inner}
use Rattle.cs_productions.specs.Calls.{postfixes, index_of}
use Rattle.cs_productions.specs.Primaries.{path_alone, called_path, indexed, behind_path, global_path, global_leaf}
use Rattle.cs_statements.specs.Kinds.{name_kinds, compound_operators}
use Rattle.cs_statements.specs.Jumps.{expression}
use Rattle.cs_statements.specs.Actions.{declared, compound_of, assign_of, compound_assign_of, invoke_of, assigned, compounded, set_to, acted, action_to, act, primary, postfix_act, named_statement, index_act, array_declared, bracket_statement, path_act, path_statement, global_statement}
use Rattle.cs_statements.specs.Blocks.{simple_statement}
use Rattle.cs_layout.specs.Pieces.{Piece, token}
use Rattle.cs_layout.specs.declared.fixed.Fixed.TheVariants as part
use Rattle.cs_layout.specs.Words.{fixed, assign_sign, assign_pieces}
use Rattle.cs_layout.specs.Layout.{form_shown, at_least, action_laid}
use Rattle.cs_wellformed.proofs.Shown.{shown_Assign, shown_Compound, shown_Invoke}
use Rattle.cs_wellformed.proofs.Same.{same_Assign, same_Compound, same_Invoke, same_Act}
use Rattle.cs_roundtrip_types.specs.Spells.{lexemes, Spells}
use Rattle.cs_roundtrip_types.proofs.Spelling.{says_nothing, skips, takes, says_then, says_made, says_like, says_in, says_first, says_second}
use Rattle.cs_roundtrip_statements.specs.Reading.{SameForm, ActionIsRead}

-- a statement begins with a place or a call

acts : (n : ℕ) (inner : Inner) (p : Measured) (mid : List Token) (u : Syntax) (rest : List Token) → Type 0
acts n inner p mid u rest = (act n inner p).derives mid u rest

path_acts : (n : ℕ) (inner : Inner) (s : Spot) (texts : List (List ℕ)) (ts : List Token) (p : Measured) (mid : List Token) (u : Syntax) (rest : List Token) → (behind_path n inner s texts).derives ts p mid
    → (act n inner p).derives mid u rest
    → (either kind names (declared n inner (global_type s texts)) (either kind (bracket ∷ []) (bracket_statement n inner s texts) (path_act n inner s texts))).derives ts u rest
path_acts n inner s texts ts p mid u rest d c = inr (go (nat_lt 0 n) d)
  where
    go : (b : Bool) → (guarded kind b (paren ∷ []) (called_path n inner s texts) (guarded kind b (bracket ∷ []) (indexed n inner (path_alone s texts)) (gives (path_alone s texts)))).derives ts p mid
        → (either kind (bracket ∷ [])
        (bind (sign bracket) (λ _. guarded kind b expression_kinds (index_act n inner (path_alone s texts)) (array_declared n inner (global_type s texts))))
        (bind (guarded kind b (paren ∷ []) (called_path n inner s texts) (gives (path_alone s texts))) (act n inner))).derives ts u rest
    go true (inl e) = inr (p, mid, inl e, c)
    go true (inr (inl e)) =
        let one = e.2 in
        let inside = one.3 in
        let close = inside.3 in
        let end = close.3 in
        let post = subst (λ us. (postfixes n inner (index_of (path_alone s texts) inside.0)).derives us p mid) end.1 (subst (λ b. (postfixes n inner b).derives e.1 p mid) end.0 e.3) in
        inl (tt, one.1, one.2, inl (inside.0, inside.1, inside.2, (tt, close.1, close.2, (p, mid, post, c))))
    go true (inr (inr e)) = inr (p, mid, inr e, c)
    go false e = inr (p, mid, e, c)

global_acts : (n : ℕ) (inner : Inner) (ts : List Token) (g p : Measured) (mid next : List Token) (u : Syntax) (rest : List Token) → TakesOne kind (global ∷ []) global_leaf ts g next
    → (global_path n inner g.spot).derives next p mid ⊎ (postfixes n inner g).derives next p mid → (act n inner p).derives mid u rest → (global_statement n inner).derives ts u rest
global_acts n inner [] g p mid next u rest d e c = absurd d
global_acts n inner (t ∷ ts) g p mid next u rest d e c = (
  t,
  ts,
  (d.0, refl, refl),
  inr (go (subst (λ a. (global_path n inner a.spot).derives ts p mid ⊎ (postfixes n inner a).derives ts p mid) d.1
      (subst (λ us. (global_path n inner g.spot).derives us p mid ⊎ (postfixes n inner g).derives us p mid) d.2 e))),
)
  where
    go : (global_path n inner (spot_of t)).derives ts p mid ⊎ (postfixes n inner (global_leaf t)).derives ts p mid
        → (either kind (colons ∷ []) (path_statement n inner (spot_of t)) (postfix_act n inner (global_leaf t))).derives ts u rest
    go (inl f) = inl (tt, f.1, f.2, (f.3.0, f.3.1, f.3.2, path_acts n inner (spot_of t) f.3.0 f.3.1 p mid u rest f.3.3 c))
    go (inr f) = inr (p, mid, f, c)

named_acts : (n : ℕ) (inner : Inner) (ts : List Token) (a p : Measured) (mid next : List Token) (u : Syntax) (rest : List Token) → TakesOne kind name_kinds simple_of ts a next
    → (postfixes n inner a).derives next p mid → (act n inner p).derives mid u rest → (named_statement n inner).derives ts u rest
named_acts n inner [] a p mid next u rest d e c = absurd d
named_acts n inner (t ∷ ts) a p mid next u rest d e c =
    (t, ts, (d.0, refl, refl), inr (p, mid, subst (λ b. (postfixes n inner b).derives ts p mid) d.1 (subst (λ us. (postfixes n inner a).derives us p mid) d.2 e), c))

pub statement_acts : (n : ℕ) (inner : Inner) (ts : List Token) (u : Syntax) (rest : List Token) → (bind (primary n inner) (act n inner)).derives ts u rest → (simple_statement n inner).derives ts u rest
statement_acts n inner ts u rest d = go d.2
  where
    go : (primary n inner).derives ts d.0 d.1 → (simple_statement n inner).derives ts u rest
    go (inl e) = inr (inl (global_acts n inner ts e.0 d.0 d.1 e.1 u rest e.2 e.3 d.3))
    go (inr (inl e)) = inr (inr (inl (named_acts n inner ts e.0 d.0 d.1 e.1 u rest e.2 e.3 d.3)))
    go (inr (inr e)) = inr (inr (inr (inr (inr (d.0, d.1, e, d.3)))))

-- what is assigned is so whether or not the place could be a call
set_acts : (n : ℕ) (inner : Inner) (b : Bool) (p : Measured) (ts : List Token) (a : Action) (rest : List Token) → (set_to n inner p).derives ts a rest → (acted n inner b p).derives ts a rest
set_acts n inner true p ts a rest d = inl d
set_acts n inner false p ts a rest d = d

call_acts : (n : ℕ) (inner : Inner) (b : Bool) (p : Measured) (ts : List Token) (a : Action) (rest : List Token) → b ≡ true → (gives {T = Token} (invoke_of p)).derives ts a rest → (acted n inner b p).derives ts a rest
call_acts n inner true p ts a rest is d = inr d
call_acts n inner false p ts a rest is d = absurd (cc)

-- what stands behind a place, with its end
ended : (n : ℕ) (inner : Inner) (a : Action) (ps qs : List Piece) (P : Measured → Type 0) → Spells (primary n inner) ps P
    → ((p : Measured) → P p → Spells (acted n inner p.is_call p) qs (λ c. bare_action c ≡ bare_action a)) → (end : ℕ) (k : ℕ) → has (end ∷ []) (kind_of (lexeme.Sign k)) ≡ true
    → {B : Type 0} (Q : B → Type 0) (made : Measured → Action → B) → ((p : Measured) (c : Action) → bare_action c ≡ bare_action a → Q (made p c))
    → Spells (bind (primary n inner) (λ p. bind (action_to n inner end p.is_call p) (λ c. gives (made p c)))) ((ps ++ qs) ++ token (lexeme.Sign k) ∷ []) Q
ended n inner a ps qs P x y end k is {B} Q made so =
    says_like
    (says_then {f = λ p. bind (action_to n inner end p.is_call p) (λ c. gives (made p c))} x
    (λ p q. says_made {g = action_to n inner end p.is_call p} (made p)
    (says_then {f = λ c. bind (sign end) (λ _. gives c)} (y p q)
    (λ c e. takes {P = λ (d : Action). bare_action d ≡ bare_action a} {ps = []} {f = λ _. gives c} (end ∷ []) (λ _. tt) (lexeme.Sign k) is (λ _ _. says_nothing c e)))
    (λ c e. so p c e)))
    (ap lexemes (append_assoc ps qs (token (lexeme.Sign k) ∷ [])))

-- both uses
pub both_uses : (n : ℕ) (inner : Inner) (a : Action) (margin : List ℕ) (ps qs : List Piece) (P : Measured → Type 0) → action_laid a margin ≡ ps ++ qs → Spells (primary n inner) ps P
    → ((p : Measured) → P p → Spells (acted n inner p.is_call p) qs (λ c. bare_action c ≡ bare_action a)) → ActionIsRead n inner a margin
unfolding fixed
both_uses n inner a margin ps qs P shown x y =
    record {
      acts = λ s. says_like
          (ended n inner a ps qs P x y semicolon 7 refl (λ u. bare_syntax u ≡ bare_syntax (syntax.Act s a)) (λ p c. syntax.Act p.spot c) (λ p c e. same_Act p.spot s c a e))
          (ap (λ z. lexemes (z ++ token (lexeme.Sign 7) ∷ [])) shown);
      steps = says_like
          (says_in (λ ts c rest e d. (d.0, d.1, d.2, whole d.0 d.1 c rest d.3)) (ended n inner a ps qs P x y unparen 3 refl (λ c. bare_action c ≡ bare_action a) (λ p c. c) (λ p c e. e)))
          (ap (λ z. lexemes (z ++ token (lexeme.Sign 3) ∷ [])) shown);
    }
  where
    whole : (p : Measured) (mid : List Token) (c : Action) (rest : List Token) → (bind (action_to n inner unparen p.is_call p) (λ c. gives c)).derives mid c rest
        → (action_to n inner unparen p.is_call p).derives mid c rest
    whole p mid c rest d =
        subst (λ us. (action_to n inner unparen p.is_call p).derives mid c us) (sym d.3.1) (subst (λ b. (action_to n inner unparen p.is_call p).derives mid b d.1) (sym d.3.0) d.2)

says_assigned : (n : ℕ) (inner : Inner) (p a : Form) (ps : List Piece) (m : Measured) → SameForm p m → Spells (expression n inner) ps (SameForm a)
    → Spells (acted n inner m.is_call m) (fixed part.Equals ++ ps) (λ c. bare_action c ≡ bare_action (action.Assign p a))
unfolding fixed
says_assigned n inner p a ps m e x =
    says_in {g = set_to n inner m} (λ ts c rest _ d. set_acts n inner m.is_call m ts c rest d)
    (says_first (equals ∷ []) (compounded n inner m)
    (skips (32 ∷ [])
    (takes (equals ∷ []) (λ _. tt) (lexeme.Sign 11) refl
    (λ _ _. skips (32 ∷ []) (says_made (assign_of m) x (λ v d. same_Assign m.form p v.form a e d))))))

compound_kind : (o : AssignOp) → has compound_operators (kind_of (lexeme.Sign (assign_sign o))) ≡ true
compound_kind assign_op.Add = refl
compound_kind assign_op.Sub = refl
compound_kind assign_op.Mul = refl
compound_kind assign_op.BitAnd = refl
compound_kind assign_op.BitOr = refl
compound_kind assign_op.BitXor = refl

compound_is : (o : AssignOp) → compound_of (kind_of (lexeme.Sign (assign_sign o))) ≡ o
compound_is assign_op.Add = refl
compound_is assign_op.Sub = refl
compound_is assign_op.Mul = refl
compound_is assign_op.BitAnd = refl
compound_is assign_op.BitOr = refl
compound_is assign_op.BitXor = refl

says_compounded : (n : ℕ) (inner : Inner) (o : AssignOp) (p a : Form) (ps : List Piece) (m : Measured) → SameForm p m → Spells (expression n inner) ps (SameForm a)
    → Spells (acted n inner m.is_call m) (assign_pieces o ++ ps) (λ c. bare_action c ≡ bare_action (action.Compound o p a))
unfolding assign_pieces
says_compounded n inner o p a ps m e x =
    says_in {g = set_to n inner m} (λ ts c rest _ d. set_acts n inner m.is_call m ts c rest d)
    (says_second (equals ∷ []) (assigned n inner m)
    (skips (32 ∷ [])
    (takes compound_operators kind (lexeme.Sign (assign_sign o)) (compound_kind o)
    (λ t f. skips (32 ∷ [])
    (says_made (compound_assign_of m (kind t)) x
    (λ v d. ap (λ z. bare_action (action.Compound (compound_of (kind_of z)) m.form v.form)) f
    ∙ (ap (λ z. bare_action (action.Compound z m.form v.form)) (compound_is o) ∙ same_Compound o m.form p v.form a e d)))))))

pub reads_assign : (n : ℕ) (inner : Inner) (p a : Form) (margin : List ℕ) → Spells (primary n inner) (at_least 13 (form_shown p) margin) (SameForm p)
    → Spells (expression n inner) ((form_shown a).pieces margin) (SameForm a) → ActionIsRead n inner (action.Assign p a) margin
reads_assign n inner p a margin x y =
    both_uses n inner (action.Assign p a) margin (at_least 13 (form_shown p) margin) (fixed part.Equals ++ (form_shown a).pieces margin) (SameForm p) (ap (λ z. z margin) (shown_Assign p a)) x
    (λ m e. says_assigned n inner p a ((form_shown a).pieces margin) m e y)

pub reads_compound : (n : ℕ) (inner : Inner) (o : AssignOp) (p a : Form) (margin : List ℕ) → Spells (primary n inner) (at_least 13 (form_shown p) margin) (SameForm p)
    → Spells (expression n inner) ((form_shown a).pieces margin) (SameForm a) → ActionIsRead n inner (action.Compound o p a) margin
reads_compound n inner o p a margin x y =
    both_uses n inner (action.Compound o p a) margin (at_least 13 (form_shown p) margin) (assign_pieces o ++ (form_shown a).pieces margin) (SameForm p) (ap (λ z. z margin) (shown_Compound o p a)) x
    (λ m e. says_compounded n inner o p a ((form_shown a).pieces margin) m e y)

pub reads_invoke : (n : ℕ) (inner : Inner) (a : Form) (margin : List ℕ) → Spells (primary n inner) ((form_shown a).pieces margin) (λ m. SameForm a m × (m.is_call ≡ true))
    → ActionIsRead n inner (action.Invoke a) margin
reads_invoke n inner a margin x =
    both_uses n inner (action.Invoke a) margin ((form_shown a).pieces margin) [] (λ m. SameForm a m × (m.is_call ≡ true))
    (ap (λ z. z margin) (shown_Invoke a) ∙ sym (append-nil ((form_shown a).pieces margin))) x
    (λ m e. says_in {g = gives (invoke_of m)} (λ ts c rest _ d. call_acts n inner m.is_call m ts c rest e.1 d) (says_nothing (invoke_of m) (same_Invoke m.form a e.0)))
