-- Lambdas are read.
use Rattle.std.proofs.Common.{◌≡◌, inl, inr, ℕ, zero, suc, ◌≤◌, ◌<◌, Bool, true, false, List, [], ◌∷◌, ◌++◌, map, All, refl, sym, ◌∙◌, ap, subst, nat_lt, codes, arith}
use Rattle.std.proofs.lemmas.List.{append_assoc}
use Rattle.cs_token.specs.Placed.{Placed as Token}
use Rattle.cs_token.specs.declared.lexeme.Lexeme.TheVariants as lexeme
use Rattle.cs_tree.specs.declared.types.Spot.{Spot}
use Rattle.cs_tree.specs.declared.types.Name.{Name}
use Rattle.cs_tree.specs.declared.types.TypeName.{TypeName}
use Rattle.cs_tree.specs.declared.types.TypeName.TheVariants as type_name
use Rattle.cs_tree.specs.declared.types.TypeForm.{TypeForm}
use Rattle.cs_tree.specs.declared.types.Param.{Param}
use Rattle.cs_tree.specs.declared.types.Way.{Way}
use Rattle.cs_tree.specs.declared.types.Way.TheVariants as passed
use Rattle.cs_tree.specs.declared.forms.Form.TheVariants as form
use Rattle.cs_tree.specs.declared.forms.Block.{Block}
use Rattle.cs_tree.specs.declared.forms.Action.TheOpen.{Form-F}
use Rattle.cs_tree.specs.declared.forms.Action.TheFolds.{fold-roll-Form}
use Rattle.cs_tree.specs.Bare.{bare_param}
use Rattle.cs_productions.specs.declared.values.Lead.TheVariants as led
use Rattle.cs_grammar.specs.Grammar.{Grammar, gives, guarded}
use Rattle.cs_productions.specs.Kinds.{names, paren, unparen, bracket, unbracket, global, colons, arrow, expression_kinds, kw_ref, kw_out}
use Rattle.cs_productions.specs.Tokens.{kind, spot_of}
use Rattle.cs_productions.specs.Types.{global_type, array_of, param_of, given_way}
use Rattle.cs_productions.specs.Inner.{Inner}
use Rattle.cs_productions.specs.Calls.{postfixes}
use Rattle.cs_productions.specs.Primaries.{path_alone, global_leaf}
use Rattle.cs_productions.specs.Operators.{lambda_of, lambda, lambda_behind, lambda_from_way, lambda_from_type, cast_to, closed, led_in, keyword_in, lambda_in, form_in, behind_paren, of_paren, type_led, named_led, index_led, called_led, unnamed_led, name_led, lead}
use Rattle.cs_productions.specs.Levels.{at, below}
use Rattle.cs_layout.specs.Pieces.{Piece, gap, token}
use Rattle.cs_layout.specs.declared.fixed.Fixed.TheVariants as fixed_part
use Rattle.cs_layout.specs.Words as layout
use Rattle.cs_layout.specs.Words.{fixed, name}
use Rattle.cs_layout.specs.Layout.{form_shown, block_laid, deeper, indent}
use Rattle.cs_wellformed.specs.Words.{IsPath, IsTypeName, IsParam}
use Rattle.cs_wellformed.specs.Standing.{is_none, lambda_layer, begins_lambda}
use Rattle.cs_wellformed.proofs.Shown.{shown_Lambda}
use Rattle.cs_wellformed.proofs.Same.{same_Lambda}
use Rattle.cs_roundtrip_types.specs.Spells.{lexemes, Spells}
use Rattle.cs_roundtrip_types.proofs.Spelling.{lexemes-append, skips, takes, says_then, says_made, says_so, says_like, says_first, says_where, says_else}
use Rattle.cs_roundtrip_types.proofs.Types.{all_first, all_others, IsNamed, HasText, says_name, says_path, says_keyword_type, says_ranks, says_type, says_ref, says_out, SameParam, same_param, SameParams, says_more_params}
use Rattle.cs_roundtrip_forms.specs.Standing.{Opens, Top, operands, primaries, top_at}
use Rattle.cs_roundtrip_forms.specs.Reading.{IsRead, MayStand, Reads, BlockIsRead}
use Rattle.cs_roundtrip_forms.proofs.Opening.{opens_in, opens_like, opens_skips, opens_then, opens_takes, opens_made, else_derives, where_derives}
use Rattle.cs_roundtrip_forms.proofs.Leading.{from_paren}
use Rattle.cs_roundtrip_forms.proofs.Reading.{at_shown, reads_post, ranks_are, blocks_are, block_is}

begins_Lambda : (s : Spot) (params : List Param) (b : Block) → begins_lambda (form.Lambda s params b) ≡ true
begins_Lambda s params b =
    ap begins_lambda (sym (form.rolls-Lambda s params b)) ∙ fold-roll-Form Bool Bool Bool Bool Bool Bool Bool is_none lambda_layer is_none is_none is_none is_none is_none (Form-F.Lambda s params b)

-- what stands behind the parameters
abbrev behind_params : Block → List ℕ → List Piece
behind_params b margin = fixed fixed_part.Arrow ++ (block_laid b (deeper margin) ++ (indent margin ++ fixed fixed_part.CloseBrace))

module _ (n : ℕ) (i : Inner) (at_spot : Spot) (params : List Param) (b : Block) (margin : List ℕ) (may : nat_lt 0 i.blocks ≡ true) (inside : BlockIsRead i.block b) where
  opens_arrow : (s : Spot) (qs : List Param) → SameParams params qs
      → Opens (postfixes (suc n) (at n i)) (lambda (suc n) (at n i) s qs) (behind_params b margin) (IsRead (form.Lambda at_spot params b) 1)
  unfolding fixed indent
  opens_arrow s qs e =
      opens_takes (unparen ∷ []) (λ _. tt) (lexeme.Sign 3) refl
      (λ _ _. opens_skips (32 ∷ [])
      (opens_takes (arrow ∷ []) (λ _. tt) (lexeme.Sign 32) refl
      (λ _ _. opens_skips (32 ∷ [])
      (opens_made (postfixes (suc n) (at n i)) (lambda_of s qs)
      (says_like (inside (deeper margin))
      (ap (λ z. lexeme.Sign 0 ∷ z)
      (lexemes-append (block_laid b (deeper margin)) (gap margin ∷ token (lexeme.Sign 1) ∷ []) ∙ sym (lexemes-append (block_laid b (deeper margin)) (token (lexeme.Sign 1) ∷ [])))))
      (λ c d. record { same = same_Lambda s at_spot qs params c b e d; tall = refl })))))

  -- behind the first parameter
  opens_others : (s : Spot) (p : Param) (ps : List Param) (q : Param) → params ≡ p ∷ ps → All (IsParam i.ranks) ps → SameParam p q
      → Opens (postfixes (suc n) (at n i)) (lambda_behind (suc n) (at n i) s q) (layout.more_listed (map layout.param_pieces ps) ++ behind_params b margin) (IsRead (form.Lambda at_spot params b) 1)
  opens_others s p ps q whole known same =
      opens_then (says_more_params i.ranks (q ∷ []) ps known)
      (λ qs e. opens_arrow s qs (e ∙ (ap (λ z. z ∷ map bare_param ps) (same_param p q same) ∙ ap (map bare_param) (sym whole))))

  -- a type and a name that begin with `global`
  named_ranks : (s : Spot) (texts : List (List ℕ)) (r : ℕ) (text : List ℕ) → r ≤ i.ranks
      → Spells (guarded kind (nat_lt 0 i.blocks) names (named_led (global_type s texts)) (unnamed_led n i s texts)) (layout.ranks r ++ (fixed fixed_part.Blank ++ name text))
      (λ l. (u : TypeForm) × (y : Name) × IsNamed (type_name.Global texts) r u × HasText text y × (l ≡ led.Named u y))
  unfolding fixed
  named_ranks s texts zero text l =
      says_where (nat_lt 0 i.blocks) names (unnamed_led n i s texts) may
      (skips (32 ∷ []) (says_made (λ y. led.Named (global_type s texts) y) (says_name text) (λ y e. (global_type s texts, y, (refl, refl), e, refl))))
  named_ranks s texts (suc r) text l =
      says_else (nat_lt 0 i.blocks) names (named_led (global_type s texts))
      (says_first (bracket ∷ []) (called_led n i s texts)
      (takes (bracket ∷ []) (λ _. tt) (lexeme.Sign 4) refl
      (λ _ _. says_else (nat_lt 0 n) expression_kinds (index_led n i (path_alone s texts))
      (takes (unbracket ∷ []) (λ _. tt) (lexeme.Sign 5) refl
      (λ _ _. says_then (says_ranks i.ranks (type_name.Global texts) 1 r (array_of (global_type s texts)) (refl, refl) (omega (arith, l)))
      (λ u h. says_where (nat_lt 0 i.blocks) names (gives (type_led u)) may
      (skips (32 ∷ []) (says_made (λ y. led.Named u y) (says_name text) (λ y e. (u, y, (h.0, h.1 ∙ omega arith), e, refl))))))))))

  named_lead : (texts : List (List ℕ)) (r : ℕ) (text : List ℕ) → IsPath texts → r ≤ i.ranks
      → Spells (lead n i) ((fixed fixed_part.Global ++ layout.path texts) ++ (layout.ranks r ++ (fixed fixed_part.Blank ++ name text)))
      (λ l. (u : TypeForm) × (y : Name) × IsNamed (type_name.Global texts) r u × HasText text y × (l ≡ led.Named u y))
  unfolding fixed
  named_lead texts r text h l =
      takes (global ∷ []) global_leaf (lexeme.Name (codes "global")) refl
      (λ t _. says_first (colons ∷ []) (name_led n i (global_leaf t))
      (takes (colons ∷ []) (λ _. tt) (lexeme.Sign 33) refl
      (λ _ _. says_then (says_path texts h)
      (λ path_names e.
      subst
      (λ z. Spells (guarded kind (nat_lt 0 i.blocks) names (named_led (global_type (spot_of t) z)) (unnamed_led n i (spot_of t) z)) (layout.ranks r ++ (gap (32 ∷ []) ∷ name text))
      (λ k. (u : TypeForm) × (y : Name) × IsNamed (type_name.Global texts) r u × HasText text y × (k ≡ led.Named u y)))
      (sym e) (named_ranks (spot_of t) texts r text l)))))

  -- a first parameter that is passed by its value
  opens_from_type : (s : Spot) (x : TypeName) (r : ℕ) (text : List ℕ) (rest : List Piece) → IsTypeName x → r ≤ i.ranks
      → ((u : TypeForm) (y : Name) → IsNamed x r u → HasText text y
      → Opens (postfixes (suc n) (at n i)) (lambda_behind (suc n) (at n i) s (param_of passed.Value u y)) rest (IsRead (form.Lambda at_spot params b) 1))
      → Opens (postfixes (suc n) (at n i)) (form_in (suc n) (at n i) s) (layout.type_without_ranks x ++ (layout.ranks r ++ ((fixed fixed_part.Blank ++ name text) ++ rest))) (IsRead (form.Lambda at_spot params b) 1)
  unfolding fixed
  opens_from_type s (type_name.Keyword k) r text rest known l more =
      opens_in {g = keyword_in (suc n) (at n i) s} (λ ts m others d. inl d)
      (opens_like
      (opens_then (says_then (says_keyword_type k) (λ t p. says_so (says_ranks i.ranks (type_name.Keyword k) 0 r t p (omega (arith, l))) (λ u q. (q.0, q.1 ∙ omega arith))))
      (λ u p. opens_in {g = lambda_from_type (suc n) (at n i) s u} (λ ts m others d. where_derives (nat_lt 0 i.blocks) names (lambda_from_type (suc n) (at n i) s u) (cast_to (at n i) s u) ts m others may d)
      (opens_skips (32 ∷ []) (opens_then (says_name text) (λ y e. more u y p e)))))
      (ap lexemes (sym (append_assoc (layout.keyword_type k) (layout.ranks r) (gap (32 ∷ []) ∷ (name text ++ rest))))))
  opens_from_type s (type_name.Global texts) r text rest known l more =
      opens_in {g = led_in (suc n) (at n i) s} (λ ts m others d. inr (inl d))
      (opens_like
      (opens_then (named_lead texts r text known l)
      (λ k p. subst (λ z. Opens (postfixes (suc n) (at n i)) (closed (suc n) (at n i) s z) rest (IsRead (form.Lambda at_spot params b) 1)) (sym p.4) (more p.0 p.1 p.2 p.3)))
      (ap lexemes
      (ap (λ z. (fixed fixed_part.Global ++ layout.path texts) ++ z) (sym (append_assoc (layout.ranks r) (gap (32 ∷ []) ∷ name text) rest))
      ∙ sym (append_assoc (fixed fixed_part.Global ++ layout.path texts) (layout.ranks r ++ (gap (32 ∷ []) ∷ name text)) rest))))

  -- and one that isn't
  opens_from_way : (s : Spot) (p : Param) (ps : List Param) → params ≡ p ∷ ps → IsParam i.ranks p → All (IsParam i.ranks) ps → (w : Way) → p.way ≡ w → Spells given_way (layout.way_pieces w) (λ v. v ≡ w)
      → Opens (postfixes (suc n) (at n i)) (lambda_from_way (suc n) (at n i) s)
      ((layout.way_pieces w ++ (layout.type_pieces p.ty ++ (fixed fixed_part.Blank ++ name p.name.text))) ++ (layout.more_listed (map layout.param_pieces ps) ++ behind_params b margin))
      (IsRead (form.Lambda at_spot params b) 1)
  unfolding fixed
  opens_from_way s p ps whole known others w e x =
      opens_then
      (says_then x
      (λ v d. says_then (says_type i.ranks p.ty known.0)
      (λ t k. skips (32 ∷ []) (says_made (param_of v t) (says_name p.name.text) (λ y j. (d ∙ sym e, k, j))))))
      (λ q same. opens_others s p ps q whole others same)

  opens_first : (s : Spot) (p : Param) (ps : List Param) → params ≡ p ∷ ps → IsParam i.ranks p → All (IsParam i.ranks) ps → (w : Way) → p.way ≡ w
      → Opens (postfixes (suc n) (at n i)) (behind_paren (suc n) (at n i) s)
      ((layout.way_pieces w ++ (layout.type_pieces p.ty ++ (fixed fixed_part.Blank ++ name p.name.text))) ++ (layout.more_listed (map layout.param_pieces ps) ++ behind_params b margin))
      (IsRead (form.Lambda at_spot params b) 1)
  opens_first s p ps whole known others passed.Value e =
      let last = layout.more_listed (map layout.param_pieces ps) ++ behind_params b margin in
      let named = fixed fixed_part.Blank ++ name p.name.text in
      opens_in {g = form_in (suc n) (at n i) s} (λ ts m rest d. else_derives (nat_lt 0 i.blocks) (unparen ∷ kw_ref ∷ kw_out ∷ []) (lambda_in (suc n) (at n i) s) (form_in (suc n) (at n i) s) ts m rest d)
      (opens_like
      (opens_from_type s p.ty.name p.ty.ranks p.name.text (layout.more_listed (map layout.param_pieces ps) ++ behind_params b margin) known.0.0 known.0.1
      (λ u y k j. opens_others s p ps (param_of passed.Value u y) whole others (sym e, k, j)))
      (ap lexemes
      (append_assoc (layout.type_pieces p.ty) (fixed fixed_part.Blank ++ name p.name.text) (layout.more_listed (map layout.param_pieces ps) ++ behind_params b margin)
      ∙ append_assoc (layout.type_without_ranks p.ty.name) (layout.ranks p.ty.ranks) ((fixed fixed_part.Blank ++ name p.name.text) ++ (layout.more_listed (map layout.param_pieces ps) ++ behind_params b margin)))))
  opens_first s p ps whole known others passed.Ref e =
      opens_in {g = lambda_from_way (suc n) (at n i) s}
      (λ ts m rest d. where_derives (nat_lt 0 i.blocks) (unparen ∷ kw_ref ∷ kw_out ∷ []) (lambda_in (suc n) (at n i) s) (form_in (suc n) (at n i) s) ts m rest may (inr d))
      (opens_from_way s p ps whole known others passed.Ref e says_ref)
  opens_first s p ps whole known others passed.Out e =
      opens_in {g = lambda_from_way (suc n) (at n i) s}
      (λ ts m rest d. where_derives (nat_lt 0 i.blocks) (unparen ∷ kw_ref ∷ kw_out ∷ []) (lambda_in (suc n) (at n i) s) (form_in (suc n) (at n i) s) ts m rest may (inr d))
      (opens_from_way s p ps whole known others passed.Out e says_out)

  opens_params : (s : Spot) (qs : List Param) → params ≡ qs → All (IsParam i.ranks) qs
      → Opens (postfixes (suc n) (at n i)) (behind_paren (suc n) (at n i) s) (layout.listed (map layout.param_pieces qs) ++ behind_params b margin) (IsRead (form.Lambda at_spot params b) 1)
  opens_params s [] whole known =
      opens_in {g = lambda (suc n) (at n i) s []}
      (λ ts m rest d. where_derives (nat_lt 0 i.blocks) (unparen ∷ kw_ref ∷ kw_out ∷ []) (lambda_in (suc n) (at n i) s) (form_in (suc n) (at n i) s) ts m rest may (inl d))
      (opens_arrow s [] (ap (map bare_param) (sym whole)))
  opens_params s (p ∷ ps) whole known =
      opens_like (opens_first s p ps whole (all_first (IsParam i.ranks) p ps known) (all_others (IsParam i.ranks) p ps known) p.way refl)
      (ap lexemes (append_assoc (layout.param_pieces p) (layout.more_listed (map layout.param_pieces ps)) (behind_params b margin)))

  pub opens_lambda : All (IsParam i.ranks) params
      → Opens (postfixes (suc n) (at n i)) (of_paren (suc n) (at n i)) (fixed fixed_part.Open ++ (layout.listed (map layout.param_pieces params) ++ behind_params b margin)) (IsRead (form.Lambda at_spot params b) 1)
  unfolding fixed
  opens_lambda known = opens_takes (paren ∷ []) spot_of (lexeme.Sign 2) refl (λ t _. opens_params (spot_of t) params refl known)

module _ (block : Grammar Token Block) (blocks limit : ℕ) where
  top_of_lambda : (n : ℕ) (s : Spot) (params : List Param) (b : Block) (top : Top) (ps : List Piece) → MayStand (form.Lambda s params b) top
      → Opens (postfixes (suc n) (below block blocks limit (suc n))) (of_paren (suc n) (below block blocks limit (suc n))) ps (IsRead (form.Lambda s params b) 1)
      → Opens (postfixes (suc n) (below block blocks limit (suc n))) (top_at top (suc n) (below block blocks limit (suc n))) ps (IsRead (form.Lambda s params b) 1)
  top_of_lambda n s params b operands ps may x =
      opens_in {g = of_paren (suc n) (below block blocks limit (suc n))} (λ ts m rest d. from_paren n (below block blocks limit (suc n)) ts m rest d) x
  top_of_lambda n s params b primaries ps may x = absurd (not_true (may (begins_Lambda s params b)))
    where
      not_true : false ≡ true → ⊥
      not_true e = cc

  some_block : nat_lt 0 blocks ≡ true → (n : ℕ) → nat_lt 0 (below block blocks limit n).blocks ≡ true
  some_block e n = ap (λ z. nat_lt 0 z) (blocks_are block blocks limit n) ∙ e

  pub reads_lambda : (n : ℕ) (margin : List ℕ) (s : Spot) (params : List Param) (b : Block) → All (IsParam limit) params → 0 < blocks → BlockIsRead block b
      → Reads (suc n) (below block blocks limit (suc n)) (form.Lambda s params b) 1 ((form_shown (form.Lambda s params b)).pieces margin)
  reads_lambda n margin s params b known some inside =
      at_shown margin _ (shown_Lambda s params b)
      (reads_post (ap (λ z. z.level) (shown_Lambda s params b))
      (λ top may. top_of_lambda n s params b top _ may
      (opens_lambda n (below block blocks limit n) s params b margin (some_block (grind (arith, some)) n)
      (subst (λ g. BlockIsRead g b) (sym (block_is block blocks limit n)) inside)
      (subst (λ r. All (IsParam r) params) (sym (ranks_are block blocks limit n)) known))))
