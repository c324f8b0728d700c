-- Primary expressions without lambdas are read.
use Rattle.std.proofs.Common.{◌≡◌, ◌⊎◌, inl, inr, ℕ, suc, ◌+◌, ◌-◌, ◌≤◌, ◌==◌, max, Bool, true, false, cond, List, [], ◌∷◌, ◌++◌, map, refl, sym, ◌∙◌, ap, subst, nat_lt, codes, arith}
use Rattle.std.specs.Str.{bytes_eq}
use Rattle.std.proofs.lemmas.List.{append-nil, append_assoc, map-append}
use Rattle.cs_token.specs.Placed.{Placed as Token}
use Rattle.cs_token.specs.Tokens.{kind_of, kind_of_name, kind_of_number}
use Rattle.cs_token.specs.declared.lexeme.Lexeme.{Lexeme}
use Rattle.cs_token.specs.declared.lexeme.Lexeme.TheVariants as lexeme
use Rattle.cs_token.specs.declared.lexeme.Suffix.{Suffix}
use Rattle.cs_token.specs.declared.lexeme.Suffix.TheVariants as suffix
use Rattle.cs_tree.specs.declared.types.Spot.{Spot}
use Rattle.cs_tree.specs.declared.types.Name.{Name}
use Rattle.cs_tree.specs.declared.types.TypeName.{TypeName}
use Rattle.cs_tree.specs.declared.types.TypeForm.{TypeForm}
use Rattle.cs_tree.specs.declared.types.Way.{Way}
use Rattle.cs_tree.specs.declared.forms.Literal.{Literal}
use Rattle.cs_tree.specs.declared.forms.Literal.TheVariants as literal
use Rattle.cs_tree.specs.declared.forms.Arg.{Arg}
use Rattle.cs_tree.specs.declared.forms.Form.{Form}
use Rattle.cs_tree.specs.declared.forms.Form.TheVariants as form
use Rattle.cs_tree.specs.declared.forms.Block.{Block}
use Rattle.cs_tree.specs.declared.forms.Action.TheOpen.{Form-F}
use Rattle.cs_tree.specs.declared.forms.Action.TheFolds.{fold-roll-Form}
use Rattle.cs_tree.specs.Bare.{nowhere, bare_name, bare_form, bare_arg}
use Rattle.cs_productions.specs.declared.values.Measured.{Measured}
use Rattle.cs_productions.specs.declared.values.Args.{Args}
use Rattle.cs_productions.specs.declared.values.Part.TheVariants as part
use Rattle.cs_grammar.specs.Kinds.{has}
use Rattle.cs_grammar.specs.Grammar.{Grammar, gives, bind, guarded, turns}
use Rattle.cs_productions.specs.Kinds.{simple_kinds, global, colons, paren, unparen, bracket, unbracket, dot, comma, kw_base, kw_new, kw_default, kw_checked, kw_unchecked}
use Rattle.cs_productions.specs.Tokens.{kind, spot_of, text_of_lexeme, leaf, simple_of, simple_form}
use Rattle.cs_productions.specs.Types.{ty}
use Rattle.cs_productions.specs.Inner.{Inner}
use Rattle.cs_productions.specs.Calls.{no_args, with_arg, one_arg, one_more_arg, no_more_args, some_args, arguments, call_of, member_of, one_member, index_of, one_index, postfixes}
use Rattle.cs_productions.specs.Primaries.{base_call, of_base, global_call, called_path, indexed, path_alone, behind_path, global_path, global_leaf, of_global, new_object, of_new_object, new_array, with_member, behind_array, of_new_array, of_new, default_of, of_default, checked_of, of_checked, of_simple}
use Rattle.cs_productions.specs.Levels.{forms_at, at, below}
use Rattle.cs_layout.specs.Pieces.{Piece, gap, token}
use Rattle.cs_layout.specs.declared.fixed.Fixed.TheVariants as fixed_part
use Rattle.cs_layout.specs.Words as layout
use Rattle.cs_layout.specs.Words.{fixed, name}
use Rattle.cs_layout.specs.Layout.{Laid, Shown, form_shown, arg_laid, form_layer, at_least}
use Rattle.cs_layout.specs.Layout as laid
use Rattle.cs_wellformed.specs.Words.{IsPath, IsTypeName, IsType}
use Rattle.cs_wellformed.specs.Standing.{is_none, is_path, path_layer, lambda_layer, begins_lambda, levels_at_least}
use Rattle.cs_wellformed.specs.WellFormed.{arg_of}
use Rattle.cs_wellformed.proofs.Shown.{shown_Literal, shown_Name, shown_This, shown_Member, shown_Call, shown_BaseMember, shown_BaseCall, shown_Global, shown_GlobalCall, shown_Index, shown_New, shown_NewArray, shown_Checked, shown_Unchecked, shown_Default}
use Rattle.cs_wellformed.proofs.Parts.{shown_arg, bare_arg_is}
use Rattle.cs_wellformed.proofs.Same.{same_Literal, same_Name, same_This, same_Member, same_Call, same_BaseMember, same_BaseCall, same_Global, same_GlobalCall, same_Index, same_New, same_NewArray, same_Checked, same_Unchecked, same_Default}
use Rattle.cs_roundtrip_types.specs.Spells.{lexemes, Spells}
use Rattle.cs_roundtrip_types.proofs.Spelling.{says_nothing, skips, takes, says_then, says_made, says_so, says_like, says_first, says_second, says_where, says_else, says_no_round, says_round}
use Rattle.cs_roundtrip_types.proofs.Types.{says_name, says_path, SameType, same_type, says_named_type, says_ranks, says_type, says_way}
use Rattle.cs_roundtrip_forms.specs.Standing.{Opens, Top, top_at, member_tail, index_tail}
use Rattle.cs_roundtrip_forms.specs.Reading.{IsRead, AreRead, MayStand, Reads}
use Rattle.cs_roundtrip_forms.proofs.Opening.{opens_end, opens_in, opens_so, opens_like, opens_skips, opens_then, opens_takes, opens_last, opens_made, opens_behind, closes, else_derives, where_derives}
use Rattle.cs_roundtrip_forms.proofs.Leading.{from_counted, from_global, from_base, from_simple}
use Rattle.cs_roundtrip_forms.proofs.Reading.{at_shown, reads_post, reads_path, reads_array, whole, Claim, opens_member_object, opens_index_object, ranks_are}

-- single tokens

simple_is : (f : Form) (l : Lexeme) (t : Token) → t.lexeme ≡ l → bare_form (simple_form l (spot_of t)) ≡ bare_form f → IsRead f 0 (simple_of t)
simple_is f l t e same = record { same = ap (λ x. bare_form (simple_form x (spot_of t))) e ∙ same; tall = refl }

opens_simple : (n : ℕ) (inner : Inner) (f : Form) (l : Lexeme) → has simple_kinds (kind_of l) ≡ true → ((s : Spot) → bare_form (simple_form l s) ≡ bare_form f) → (top : Top)
    → Opens (postfixes n inner) (top_at top n inner) (token l ∷ []) (IsRead f 0)
opens_simple n inner f l is same top =
    opens_in {g = of_simple n inner} (from_simple top n inner)
    (opens_takes simple_kinds simple_of l is (λ t e. opens_end (postfixes n inner) (simple_of t) (simple_is f l t e (same (spot_of t)))))

number_kind : (s : Suffix) → has simple_kinds (kind_of_number s) ≡ true
number_kind suffix.Plain = refl
number_kind suffix.Unsigned = refl
number_kind suffix.Long = refl
number_kind suffix.UnsignedLong = refl

pub reads_literal : (n : ℕ) (inner : Inner) (margin : List ℕ) (s : Spot) (l : Literal) → Reads n inner (form.Literal s l) 0 ((form_shown (form.Literal s l)).pieces margin)
unfolding fixed layout.number layout.character layout.text
reads_literal n inner margin s (literal.Number v x) =
    at_shown margin _ (shown_Literal s (literal.Number v x)) (reads_post (ap (λ z. z.level) (shown_Literal s (literal.Number v x)))
    (λ top may. opens_simple n inner _ (lexeme.Number v x) (number_kind x) (λ at. same_Literal at s (literal.Number v x)) top))
reads_literal n inner margin s (literal.Char unit) =
    at_shown margin _ (shown_Literal s (literal.Char unit)) (reads_post (ap (λ z. z.level) (shown_Literal s (literal.Char unit)))
    (λ top may. opens_simple n inner _ (lexeme.Char unit) refl (λ at. same_Literal at s (literal.Char unit)) top))
reads_literal n inner margin s (literal.Text units) =
    at_shown margin _ (shown_Literal s (literal.Text units)) (reads_post (ap (λ z. z.level) (shown_Literal s (literal.Text units)))
    (λ top may. opens_simple n inner _ (lexeme.Literal units) refl (λ at. same_Literal at s (literal.Text units)) top))
reads_literal n inner margin s (literal.Bool true) =
    at_shown margin _ (shown_Literal s (literal.Bool true)) (reads_post (ap (λ z. z.level) (shown_Literal s (literal.Bool true)))
    (λ top may. opens_simple n inner _ (lexeme.Keyword 64) refl (λ at. same_Literal at s (literal.Bool true)) top))
reads_literal n inner margin s (literal.Bool false) =
    at_shown margin _ (shown_Literal s (literal.Bool false)) (reads_post (ap (λ z. z.level) (shown_Literal s (literal.Bool false)))
    (λ top may. opens_simple n inner _ (lexeme.Keyword 23) refl (λ at. same_Literal at s (literal.Bool false)) top))
reads_literal n inner margin s literal.Null =
    at_shown margin _ (shown_Literal s literal.Null) (reads_post (ap (λ z. z.level) (shown_Literal s literal.Null))
    (λ top may. opens_simple n inner _ (lexeme.Keyword 41) refl (λ at. same_Literal at s literal.Null) top))

pub reads_this : (n : ℕ) (inner : Inner) (margin : List ℕ) (s : Spot) → Reads n inner (form.This s) 0 ((form_shown (form.This s)).pieces margin)
unfolding fixed
reads_this n inner margin s =
    at_shown margin _ (shown_This s) (reads_post (ap (λ z. z.level) (shown_This s)) (λ top may. opens_simple n inner _ (lexeme.Keyword 62) refl (λ at. same_This at s) top))

name_or_global : (text : List ℕ) → (has simple_kinds (kind_of_name text) ≡ true) ⊎ (has (global ∷ []) (kind_of_name text) ≡ true)
name_or_global text = go (bytes_eq text (codes "global")) (bytes_eq text (codes "get")) (bytes_eq text (codes "set")) (bytes_eq text (codes "indexer"))
  where
    go : (a b c d : Bool) → (has simple_kinds (cond a 4 (cond b 5 (cond c 6 (cond d 7 0)))) ≡ true) ⊎ (has (global ∷ []) (cond a 4 (cond b 5 (cond c 6 (cond d 7 0)))) ≡ true)
    go true b c d = inr refl
    go false true c d = inl refl
    go false false true d = inl refl
    go false false false true = inl refl
    go false false false false = inl refl

global_is : (s : Spot) (text : List ℕ) (t : Token) → t.lexeme ≡ lexeme.Name text → IsRead (form.Name s text) 0 (global_leaf t)
global_is s text t e = record { same = ap (λ x. bare_form (form.Name (spot_of t) (text_of_lexeme x))) e ∙ same_Name (spot_of t) s text; tall = refl }

opens_name : (n : ℕ) (inner : Inner) (s : Spot) (text : List ℕ) (top : Top) → Opens (postfixes n inner) (top_at top n inner) (name text) (IsRead (form.Name s text) 0)
unfolding name
opens_name n inner s text top = elim (name_or_global text) [
  | inl is ↦ opens_simple n inner (form.Name s text) (lexeme.Name text) is (λ at. same_Name at s text) top
  | inr is ↦ opens_in {g = of_global n inner} (from_global top n inner)
      (opens_takes (global ∷ []) global_leaf (lexeme.Name text) is
      (λ t e. opens_in {g = postfixes n inner (global_leaf t)} (λ ts m rest d. inr d) (opens_end (postfixes n inner) (global_leaf t) (global_is s text t e))))
]

pub reads_name : (n : ℕ) (inner : Inner) (margin : List ℕ) (s : Spot) (text : List ℕ) → Reads n inner (form.Name s text) 0 ((form_shown (form.Name s text)).pieces margin)
reads_name n inner margin s text =
    at_shown margin _ (shown_Name s text) (reads_post (ap (λ z. z.level) (shown_Name s text)) (λ top may. opens_name n inner s text top))

-- arguments

says_arg : (inner : Inner) (before : Args) (w : Way) (f : Form) (h : ℕ) (ps : List Piece) → Spells (inner.forms part.Whole) ps (IsRead f h)
    → Spells (one_arg inner before) (layout.way_pieces w ++ ps) (λ r. (map bare_arg r.args ≡ map bare_arg (before.args ++ arg_of w f ∷ [])) × (r.height ≡ max before.height h))
says_arg inner before w f h ps x =
    says_then (says_way w) (λ v e. says_made (with_arg before v) x (λ a p. (arg_same before.args v w a.form f e p.same, ap (max before.height) p.tall)))
  where
    arg_same : (args : List Arg) (v w : Way) (a b : Form) → v ≡ w → bare_form a ≡ bare_form b → map bare_arg (args ++ arg_of v a ∷ []) ≡ map bare_arg (args ++ arg_of w b ∷ [])
    arg_same args v w a b e s =
        map-append bare_arg args (arg_of v a ∷ [])
        ∙ (ap (λ z. map bare_arg args ++ z ∷ []) (bare_arg_is v a ∙ (ap (λ z. arg_of z (bare_form a)) e ∙ (ap (arg_of w) s ∙ sym (bare_arg_is w b))))
        ∙ sym (map-append bare_arg args (arg_of w b ∷ [])))

-- what is read of arguments behind others, and of all in parentheses
pub record ArgsRead (inner : Inner) (args : List Arg) (h : ℕ) (margin : List ℕ) : Type 0 where
  pub more : (before : Args) → Spells (turns kind (comma ∷ []) (λ _. true) (one_more_arg inner) before) (layout.more_listed (map (λ (a : Laid). a margin) (map arg_laid args)))
      (λ r. (map bare_arg r.args ≡ map bare_arg (before.args ++ args)) × (r.height ≡ max before.height h))
  pub all : Spells (arguments inner) (laid.arguments (map arg_laid args) margin) (AreRead args h)

pub args_none : (inner : Inner) (margin : List ℕ) → ArgsRead inner [] 0 margin
unfolding fixed
args_none inner margin =
    record {
      more = λ before. says_no_round (comma ∷ []) (λ _. true) (one_more_arg inner) before (ap (map bare_arg) (sym (append-nil before.args)), omega arith);
      all = takes (paren ∷ []) (λ _. tt) (lexeme.Sign 2) refl
          (λ _ _. says_first (unparen ∷ []) (some_args inner) (takes (unparen ∷ []) (λ _. tt) (lexeme.Sign 3) refl (λ _ _. says_nothing no_args (record { same = refl; tall = refl }))));
    }

pub args_more : (inner : Inner) (w : Way) (f : Form) (h : ℕ) (args : List Arg) (k : ℕ) (margin : List ℕ) → Spells (inner.forms part.Whole) ((form_shown f).pieces margin) (IsRead f h)
    → ArgsRead inner args k margin → ArgsRead inner (arg_of w f ∷ args) (max h k) margin
unfolding fixed
args_more inner w f h args k margin x y =
    record {
      more = λ before. says_like
          (says_round (comma ∷ []) (λ _. true) (one_more_arg inner) before refl
          (takes {ps = gap (32 ∷ []) ∷ (layout.way_pieces w ++ (form_shown f).pieces margin)} (comma ∷ []) (λ _. tt) (lexeme.Sign 6) refl (λ _ _. skips (32 ∷ []) (says_arg inner before w f h ((form_shown f).pieces margin) x)))
          (λ mid p. says_so (y.more mid) (λ r q. (q.0 ∙ joined before.args mid.args p.0, q.1 ∙ omega (arith, p.1)))))
          (ap (λ z. lexeme.Sign 6 ∷ lexemes (z margin ++ layout.more_listed (map (λ (a : Laid). a margin) (map arg_laid args)))) (shown_arg w f));
      all = takes (paren ∷ []) (λ _. tt) (lexeme.Sign 2) refl
          (λ _ _. says_second (unparen ∷ []) no_more_args
          (says_like
          (says_then (says_arg inner no_args w f h ((form_shown f).pieces margin) x)
          (λ first p. says_then (y.more first)
          (λ r q. takes (unparen ∷ []) (λ _. tt) (lexeme.Sign 3) refl (λ _ _. says_nothing r (record { same = q.0 ∙ joined [] first.args p.0; tall = q.1 ∙ omega (arith, p.1) })))))
          (ap (λ z. lexemes ((z margin ++ layout.more_listed (map (λ (a : Laid). a margin) (map arg_laid args))) ++ token (lexeme.Sign 3) ∷ [])) (shown_arg w f)
          ∙ ap lexemes (append_assoc (layout.way_pieces w ++ (form_shown f).pieces margin) (layout.more_listed (map (λ (a : Laid). a margin) (map arg_laid args))) (token (lexeme.Sign 3) ∷ [])))));
    }
  where
    joined : (before mid : List Arg) → map bare_arg mid ≡ map bare_arg (before ++ arg_of w f ∷ []) → map bare_arg (mid ++ args) ≡ map bare_arg (before ++ arg_of w f ∷ args)
    joined before mid e =
        map-append bare_arg mid args
        ∙ (ap (λ z. z ++ map bare_arg args) e ∙ (sym (map-append bare_arg (before ++ arg_of w f ∷ []) args) ∙ ap (map bare_arg) (append_assoc before (arg_of w f ∷ []) args)))

-- what stands behind a primary expression

pub room : (h n k : ℕ) → h ≡ k → k + 1 ≤ n → nat_lt h n ≡ true
room h n k e l = grind (arith, e, l)

-- what holds of the fold of a layer
begins_Member : (s : Spot) (a : Form) (x : Name) → begins_lambda (form.Member s a x) ≡ begins_lambda a
begins_Member s a x = ap begins_lambda (sym (form.rolls-Member s a x)) ∙ fold-roll-Form Bool Bool Bool Bool Bool Bool Bool is_none lambda_layer is_none is_none is_none is_none is_none (Form-F.Member s a x)

begins_Call : (s : Spot) (a : Form) (x : Name) (args : List Arg) → begins_lambda (form.Call s a x args) ≡ begins_lambda a
begins_Call s a x args =
    ap begins_lambda (sym (form.rolls-Call s a x args)) ∙ fold-roll-Form Bool Bool Bool Bool Bool Bool Bool is_none lambda_layer is_none is_none is_none is_none is_none (Form-F.Call s a x args)

begins_Index : (s : Spot) (a i : Form) → begins_lambda (form.Index s a i) ≡ begins_lambda a
begins_Index s a i = ap begins_lambda (sym (form.rolls-Index s a i)) ∙ fold-roll-Form Bool Bool Bool Bool Bool Bool Bool is_none lambda_layer is_none is_none is_none is_none is_none (Form-F.Index s a i)

path_is : (s : Spot) (texts : List (List ℕ)) → is_path (form.Global s texts) ≡ true
path_is s texts = ap is_path (sym (form.rolls-Global s texts)) ∙ fold-roll-Form Bool Bool Bool Bool Bool Bool Bool is_none path_layer is_none is_none is_none is_none is_none (Form-F.Global s texts)

name_same : (x y : Name) (text : List ℕ) → x.text ≡ text → y.text ≡ text → bare_name x ≡ bare_name y
name_same x y text e d = ap (λ z. record { spot = nowhere; text = z }) (e ∙ sym d)

says_member : (n : ℕ) (inner : Inner) (s : Spot) (a : Form) (x : Name) (h : ℕ) (m : Measured) → IsRead a h m
    → Spells (one_member n inner m) (fixed fixed_part.Dot ++ name x.text) (IsRead (form.Member s a x) (h + 1))
unfolding fixed name
says_member n inner s a x h m p =
    takes (dot ∷ []) (λ _. tt) (lexeme.Sign 9) refl
    (λ _ _. says_then (says_name x.text)
    (λ y e. says_else (nat_lt (m.height + 1) n) (paren ∷ []) (bind (arguments inner) (λ args. gives (call_of m y args)))
    (says_nothing (member_of m y) (record { same = same_Member m.spot s m.form a y x p.same (name_same y x x.text e refl); tall = ap (λ z. z + 1) p.tall }))))

says_call : (n : ℕ) (inner : Inner) (s : Spot) (a : Form) (x : Name) (args : List Arg) (h k : ℕ) (margin : List ℕ) (m : Measured) → IsRead a h m → h + 2 ≤ n
    → Spells (arguments inner) (laid.arguments (map arg_laid args) margin) (AreRead args k)
    → Spells (one_member n inner m) (fixed fixed_part.Dot ++ (name x.text ++ laid.arguments (map arg_laid args) margin)) (λ c. IsRead (form.Call s a x args) (max (h + 1) k + 1) c × (c.is_call ≡ true))
unfolding fixed
says_call n inner s a x args h k margin m p l y =
    takes (dot ∷ []) (λ _. tt) (lexeme.Sign 9) refl
    (λ _ _. says_then (says_name x.text)
    (λ z e. says_where (nat_lt (m.height + 1) n) (paren ∷ []) (gives (member_of m z)) (room (m.height + 1) n (h + 1) (ap (λ j. j + 1) p.tall) (omega (arith, l)))
    (says_made (call_of m z) y
    (λ r q. (record { same = same_Call m.spot s m.form a z x r.args args p.same (name_same z x x.text e refl) q.same; tall = omega (arith, p.tall, q.tall) }, refl)))))

module _ (block : Grammar Token Block) (blocks limit : ℕ) where
  pub reads_member : (n : ℕ) (margin : List ℕ) (s : Spot) (a : Form) (x : Name) (h : ℕ) → Claim block blocks limit a h → is_path a ≡ false → levels_at_least 13 a h + 1 ≤ n
      → Reads n (below block blocks limit n) (form.Member s a x) (levels_at_least 13 a h + 1) ((form_shown (form.Member s a x)).pieces margin)
  reads_member n margin s a x h claim no_path l =
      at_shown margin _ (shown_Member s a x)
      (reads_post (ap (λ z. z.level) (shown_Member s a x))
      (λ top may. opens_behind (λ (m : Measured). nat_lt m.height n ≡ true) (one_member n (below block blocks limit n)) (λ m ts made rest room d. (room, d))
      (opens_member_object block blocks limit top n a h margin claim (λ e. may (begins_Member s a x ∙ e)) no_path (omega (arith, l)))
      (λ m p. room m.height n (levels_at_least 13 a h) p.tall l)
      (λ m p. says_member n (below block blocks limit n) s a x (levels_at_least 13 a h) m p)))

  -- with its arguments at its end
  pub opens_call : (n : ℕ) (margin : List ℕ) (s : Spot) (a : Form) (x : Name) (args : List Arg) (h k : ℕ) → Claim block blocks limit a h → is_path a ≡ false
      → max (levels_at_least 13 a h + 1) k + 1 ≤ suc n → ArgsRead (at n (below block blocks limit n)) args k margin → (top : Top) → MayStand (form.Call s a x args) top
      → Opens (postfixes (suc n) (below block blocks limit (suc n))) (top_at top (suc n) (below block blocks limit (suc n)))
      (at_least 13 (form_shown a) margin ++ (fixed fixed_part.Dot ++ (name x.text ++ laid.arguments (map arg_laid args) margin)))
      (λ c. IsRead (form.Call s a x args) (max (levels_at_least 13 a h + 1) k + 1) c × (c.is_call ≡ true))
  opens_call n margin s a x args h k claim no_path l y top may =
      opens_behind (λ (m : Measured). nat_lt m.height (suc n) ≡ true) (one_member (suc n) (below block blocks limit (suc n))) (λ m ts made rest room d. (room, d))
      (opens_member_object block blocks limit top (suc n) a h margin claim (λ e. may (begins_Call s a x args ∙ e)) no_path (omega (arith, l)))
      (λ m p. room m.height (suc n) (levels_at_least 13 a h) p.tall (omega (arith, l)))
      (λ m p. says_call (suc n) (below block blocks limit (suc n)) s a x args (levels_at_least 13 a h) k margin m p (omega (arith, l)) y.all)

  pub reads_call : (n : ℕ) (margin : List ℕ) (s : Spot) (a : Form) (x : Name) (args : List Arg) (h k : ℕ) → Claim block blocks limit a h → is_path a ≡ false
      → max (levels_at_least 13 a h + 1) k + 1 ≤ suc n → ArgsRead (at n (below block blocks limit n)) args k margin
      → Reads (suc n) (below block blocks limit (suc n)) (form.Call s a x args) (max (levels_at_least 13 a h + 1) k + 1) ((form_shown (form.Call s a x args)).pieces margin)
  reads_call n margin s a x args h k claim no_path l y =
      at_shown margin _ (shown_Call s a x args)
      (reads_post (ap (λ z. z.level) (shown_Call s a x args)) (λ top may. opens_so (opens_call n margin s a x args h k claim no_path l y top may) (λ c p. p.0)))

  says_index : (n : ℕ) (inner : Inner) (s : Spot) (a i : Form) (h k : ℕ) (ps : List Piece) (m : Measured) → IsRead a h m → Spells (inner.forms part.Whole) ps (IsRead i k)
      → Spells (one_index inner m) (fixed fixed_part.OpenIndex ++ (ps ++ fixed fixed_part.CloseIndex)) (IsRead (form.Index s a i) (max h k + 1))
  unfolding fixed
  says_index n inner s a i h k ps m p x =
      takes (bracket ∷ []) (λ _. tt) (lexeme.Sign 4) refl
      (λ _ _. says_then x
      (λ j q. takes (unbracket ∷ []) (λ _. tt) (lexeme.Sign 5) refl
      (λ _ _. says_nothing (index_of m j) (record { same = same_Index m.spot s m.form a j.form i p.same q.same; tall = omega (arith, p.tall, q.tall) }))))

  pub reads_index : (n : ℕ) (margin : List ℕ) (s : Spot) (a i : Form) (h k : ℕ) → Claim block blocks limit a h → Claim block blocks limit i k
      → max (levels_at_least 14 a h) k + 1 ≤ suc n
      → Reads (suc n) (below block blocks limit (suc n)) (form.Index s a i) (max (levels_at_least 14 a h) k + 1) ((form_shown (form.Index s a i)).pieces margin)
  reads_index n margin s a i h k claim inside l =
      at_shown margin _ (shown_Index s a i)
      (reads_post (ap (λ z. z.level) (shown_Index s a i))
      (λ top may. opens_behind (λ (m : Measured). nat_lt m.height (suc n) ≡ true) (one_index (below block blocks limit (suc n))) (λ m ts made rest room d. (room, d))
      (opens_index_object block blocks limit top (suc n) a h margin claim (λ e. may (begins_Index s a i ∙ e)) (omega (arith, l)))
      (λ m p. room m.height (suc n) (levels_at_least 14 a h) p.tall (omega (arith, l)))
      (λ m p. says_index (suc n) (below block blocks limit (suc n)) s a i (levels_at_least 14 a h) k ((form_shown i).pieces margin) m p (whole (inside n (omega (arith, l)) margin)))))

  -- `base`, and paths

  pub reads_base_member : (n : ℕ) (inner : Inner) (margin : List ℕ) (s : Spot) (x : Name) → Reads n inner (form.BaseMember s x) 0 ((form_shown (form.BaseMember s x)).pieces margin)
  unfolding fixed name
  reads_base_member n inner margin s x =
      at_shown margin _ (shown_BaseMember s x)
      (reads_post (ap (λ z. z.level) (shown_BaseMember s x))
      (λ top may. opens_in {g = of_base n inner} (from_base top n inner)
      (opens_takes (kw_base ∷ []) spot_of (lexeme.Keyword 2) refl
      (λ t _. opens_takes (dot ∷ []) (λ _. tt) (lexeme.Sign 9) refl
      (λ _ _. opens_then (says_name x.text)
      (λ y e. opens_last (postfixes n inner)
      (says_else (nat_lt 0 n) (paren ∷ []) (bind (arguments inner) (λ args. gives (base_call (spot_of t) y args)))
      (says_nothing (leaf (form.BaseMember (spot_of t) y) (spot_of t)) (record { same = same_BaseMember (spot_of t) s y x (name_same y x x.text e refl); tall = refl })))))))))

  pub some : (k : ℕ) → nat_lt 0 (suc k) ≡ true
  some k = grind arith

  pub opens_base_call : (n : ℕ) (margin : List ℕ) (s : Spot) (x : Name) (args : List Arg) (k : ℕ) → ArgsRead (at n (below block blocks limit n)) args k margin → (top : Top)
      → Opens (postfixes (suc n) (below block blocks limit (suc n))) (top_at top (suc n) (below block blocks limit (suc n)))
      (fixed fixed_part.Base ++ (name x.text ++ laid.arguments (map arg_laid args) margin)) (λ c. IsRead (form.BaseCall s x args) (k + 1) c × (c.is_call ≡ true))
  unfolding fixed
  opens_base_call n margin s x args k y top =
      let inner : Inner = below block blocks limit (suc n) in
      opens_in {g = of_base (suc n) (below block blocks limit (suc n))} (from_base top (suc n) (below block blocks limit (suc n)))
      (opens_takes (kw_base ∷ []) spot_of (lexeme.Keyword 2) refl
      (λ t _. opens_takes (dot ∷ []) (λ _. tt) (lexeme.Sign 9) refl
      (λ _ _. opens_then (says_name x.text)
      (λ z e. opens_last (postfixes (suc n) (below block blocks limit (suc n)))
      (says_where (nat_lt 0 (suc n)) (paren ∷ []) (gives (leaf (form.BaseMember (spot_of t) z) (spot_of t))) (some n)
      (says_made (base_call (spot_of t) z) y.all
      (λ r q. (record { same = same_BaseCall (spot_of t) s z x r.args args (name_same z x x.text e refl) q.same; tall = ap (λ j. j + 1) q.tall }, refl))))))))

  pub reads_base_call : (n : ℕ) (margin : List ℕ) (s : Spot) (x : Name) (args : List Arg) (k : ℕ) → ArgsRead (at n (below block blocks limit n)) args k margin
      → Reads (suc n) (below block blocks limit (suc n)) (form.BaseCall s x args) (k + 1) ((form_shown (form.BaseCall s x args)).pieces margin)
  reads_base_call n margin s x args k y =
      at_shown margin _ (shown_BaseCall s x args) (reads_post (ap (λ z. z.level) (shown_BaseCall s x args)) (λ top may. opens_so (opens_base_call n margin s x args k y top) (λ c p. p.0)))

  opens_path : {P : Measured → Type 0} (n : ℕ) (inner : Inner) (texts : List (List ℕ)) (ps : List Piece) (tail : Measured → Grammar Token Measured) → IsPath texts
      → ((t : Spot) → Opens tail (behind_path n inner t texts) ps P) → (top : Top) → Opens tail (top_at top n inner) (fixed fixed_part.Global ++ (layout.path texts ++ ps)) P
  unfolding fixed
  opens_path {P = P} n inner texts ps tail h x top =
      opens_in {g = of_global n inner} (from_global top n inner)
      (opens_takes (global ∷ []) global_leaf (lexeme.Name (codes "global")) refl
      (λ t _. opens_in {g = global_path n inner (spot_of t)} (λ ts m rest d. inl d)
      (opens_takes (colons ∷ []) (λ _. tt) (lexeme.Sign 33) refl
      (λ _ _. opens_then (says_path texts h) (λ names e. subst (λ z. Opens tail (behind_path n inner (spot_of t) z) ps P) (sym e) (x (spot_of t)))))))

  nothing_more : (texts : List (List ℕ)) → lexemes (fixed fixed_part.Global ++ layout.path texts) ≡ lexemes (fixed fixed_part.Global ++ (layout.path texts ++ []))
  nothing_more texts = ap (λ z. lexemes (fixed fixed_part.Global ++ z)) (sym (append-nil (layout.path texts)))

  path_is_read : (t s : Spot) (texts : List (List ℕ)) → IsRead (form.Global s texts) 0 (path_alone t texts)
  path_is_read t s texts = record { same = same_Global t s texts; tall = refl }

  pub reads_global : (n : ℕ) (inner : Inner) (margin : List ℕ) (s : Spot) (texts : List (List ℕ)) → IsPath texts
      → Reads n inner (form.Global s texts) 0 ((form_shown (form.Global s texts)).pieces margin)
  reads_global n inner margin s texts h =
      at_shown margin _ (shown_Global s texts)
      (reads_path (ap (λ z. z.level) (shown_Global s texts)) (path_is s texts)
      (λ top. closes {tail = gives} (λ m ts. (refl, refl))
      (opens_like (opens_path n inner texts [] gives h
      (λ t. opens_in {g = gives (path_alone t texts)}
      (λ ts m rest d. else_derives (nat_lt 0 n) (paren ∷ []) (called_path n inner t texts) (guarded kind (nat_lt 0 n) (bracket ∷ []) (indexed n inner (path_alone t texts)) (gives (path_alone t texts))) ts m rest
      (else_derives (nat_lt 0 n) (bracket ∷ []) (indexed n inner (path_alone t texts)) (gives (path_alone t texts)) ts m rest d))
      (opens_end gives (path_alone t texts) (path_is_read t s texts))) top) (nothing_more texts)))
      (λ top. opens_like (opens_path n inner texts [] (index_tail n inner) h
      (λ t. opens_in {g = index_tail n inner (path_alone t texts)}
      (λ ts m rest d. else_derives (nat_lt 0 n) (paren ∷ []) (called_path n inner t texts) (guarded kind (nat_lt 0 n) (bracket ∷ []) (indexed n inner (path_alone t texts)) (gives (path_alone t texts))) ts m rest
      (where_derives (nat_lt 0 n) (bracket ∷ []) (indexed n inner (path_alone t texts)) (gives (path_alone t texts)) ts m rest d.0 d.1))
      (opens_end (index_tail n inner) (path_alone t texts) (path_is_read t s texts))) top) (nothing_more texts)))

  pub opens_global_call : (n : ℕ) (margin : List ℕ) (s : Spot) (texts : List (List ℕ)) (args : List Arg) (k : ℕ) → IsPath texts → ArgsRead (at n (below block blocks limit n)) args k margin
      → (top : Top) → Opens (postfixes (suc n) (below block blocks limit (suc n))) (top_at top (suc n) (below block blocks limit (suc n)))
      (fixed fixed_part.Global ++ (layout.path texts ++ laid.arguments (map arg_laid args) margin)) (λ c. IsRead (form.GlobalCall s texts args) (k + 1) c × (c.is_call ≡ true))
  opens_global_call n margin s texts args k h y top =
      opens_path (suc n) (below block blocks limit (suc n)) texts (laid.arguments (map arg_laid args) margin) (postfixes (suc n) (below block blocks limit (suc n))) h
      (λ t. opens_in {g = called_path (suc n) (below block blocks limit (suc n)) t texts}
      (λ ts m rest d. where_derives (nat_lt 0 (suc n)) (paren ∷ []) (called_path (suc n) (below block blocks limit (suc n)) t texts)
      (guarded kind (nat_lt 0 (suc n)) (bracket ∷ []) (indexed (suc n) (below block blocks limit (suc n)) (path_alone t texts)) (gives (path_alone t texts))) ts m rest (some n) d)
      (opens_made (postfixes (suc n) (below block blocks limit (suc n))) (global_call t texts) y.all
      (λ r q. (record { same = same_GlobalCall t s texts r.args args q.same; tall = ap (λ j. j + 1) q.tall }, refl)))) top

  pub reads_global_call : (n : ℕ) (margin : List ℕ) (s : Spot) (texts : List (List ℕ)) (args : List Arg) (k : ℕ) → IsPath texts → ArgsRead (at n (below block blocks limit n)) args k margin
      → Reads (suc n) (below block blocks limit (suc n)) (form.GlobalCall s texts args) (k + 1) ((form_shown (form.GlobalCall s texts args)).pieces margin)
  reads_global_call n margin s texts args k h y =
      at_shown margin _ (shown_GlobalCall s texts args)
      (reads_post (ap (λ z. z.level) (shown_GlobalCall s texts args)) (λ top may. opens_so (opens_global_call n margin s texts args k h y top) (λ c p. p.0)))

  -- what counts as a level

  pub opens_new : (n : ℕ) (margin : List ℕ) (s : Spot) (class : TypeName) (args : List Arg) (k : ℕ) → IsTypeName class → ArgsRead (at n (below block blocks limit n)) args k margin
      → (top : Top) → Opens (postfixes (suc n) (below block blocks limit (suc n))) (top_at top (suc n) (below block blocks limit (suc n)))
      (fixed fixed_part.New ++ (layout.type_without_ranks class ++ laid.arguments (map arg_laid args) margin)) (λ c. IsRead (form.New s class args) (k + 1) c × (c.is_call ≡ true))
  unfolding fixed
  opens_new n margin s class args k h y top =
      opens_in {g = of_new (suc n) (below block blocks limit (suc n))} (λ ts m rest d. from_counted top n (below block blocks limit n) ts m rest (inr (inl d)))
      (opens_takes (kw_new ∷ []) spot_of (lexeme.Keyword 40) refl
      (λ u _. opens_skips (32 ∷ [])
      (opens_then (says_named_type class h)
      (λ t q. opens_in {g = of_new_object (suc n) (below block blocks limit (suc n)) (spot_of u) t} (λ ts m rest d. inl d)
      (opens_made (postfixes (suc n) (below block blocks limit (suc n))) (new_object (spot_of u) t) y.all
      (λ r p. (record { same = ap (λ z. bare_form (form.New (spot_of u) z r.args)) q.0 ∙ same_New (spot_of u) s class r.args args p.same; tall = ap (λ j. j + 1) p.tall }, refl)))))))

  pub reads_new : (n : ℕ) (margin : List ℕ) (s : Spot) (class : TypeName) (args : List Arg) (k : ℕ) → IsTypeName class → ArgsRead (at n (below block blocks limit n)) args k margin
      → Reads (suc n) (below block blocks limit (suc n)) (form.New s class args) (k + 1) ((form_shown (form.New s class args)).pieces margin)
  reads_new n margin s class args k h y =
      at_shown margin _ (shown_New s class args) (reads_post (ap (λ z. z.level) (shown_New s class args)) (λ top may. opens_so (opens_new n margin s class args k h y top) (λ c p. p.0)))

  array_fits : (r n : ℕ) → r + 1 ≤ limit → 0 + r ≤ (below block blocks limit n).ranks - 1
  array_fits r n l = omega (arith, ranks_are block blocks limit n, l)

  opens_array : (n : ℕ) (margin : List ℕ) (s : Spot) (t : TypeForm) (a : Form) (h : ℕ) (tail : Measured → Grammar Token Measured) → IsTypeName t.name → t.ranks + 1 ≤ limit
      → Spells (forms_at n (below block blocks limit n) part.Whole) ((form_shown a).pieces margin) (IsRead a h)
      → ((m : Measured) → Opens tail (behind_array (suc n) (below block blocks limit (suc n)) m) [] (λ c. c ≡ m)) → (top : Top)
      → Opens tail (top_at top (suc n) (below block blocks limit (suc n)))
      (fixed fixed_part.New ++ (layout.type_without_ranks t.name ++ (fixed fixed_part.OpenIndex ++ ((form_shown a).pieces margin ++ (fixed fixed_part.CloseIndex ++ layout.ranks t.ranks)))))
      (IsRead (form.NewArray s t a) (h + 1))
  unfolding fixed
  opens_array n margin s t a h tail known fits x end top =
      opens_in {g = of_new (suc n) (below block blocks limit (suc n))} (λ ts m rest d. from_counted top n (below block blocks limit n) ts m rest (inr (inl d)))
      (opens_takes (kw_new ∷ []) spot_of (lexeme.Keyword 40) refl
      (λ u _. opens_skips (32 ∷ [])
      (opens_then (says_named_type t.name known)
      (λ v q. opens_in {g = of_new_array (suc n) (below block blocks limit (suc n)) (spot_of u) v} (λ ts m rest d. inr d)
      (opens_takes (bracket ∷ []) (λ _. tt) (lexeme.Sign 4) refl
      (λ _ _. opens_then x
      (λ l p. opens_takes (unbracket ∷ []) (λ _. tt) (lexeme.Sign 5) refl
      (λ _ _. opens_like
      (opens_then (says_ranks ((below block blocks limit (suc n)).ranks - 1) t.name 0 t.ranks v q (array_fits t.ranks (suc n) fits))
      (λ w r. opens_so (end (new_array (spot_of u) w l))
      (λ c e. record {
        same = ap (λ z. bare_form z.form) e ∙ same_NewArray (spot_of u) s w t l.form a (same_type t w (r.0, r.1 ∙ omega arith)) p.same;
        tall = ap (λ z. z.height) e ∙ ap (λ j. j + 1) p.tall;
      })))
      (ap lexemes (sym (append-nil (layout.ranks t.ranks))))))))))))

  pub reads_new_array : (n : ℕ) (margin : List ℕ) (s : Spot) (t : TypeForm) (a : Form) (h : ℕ) → IsTypeName t.name → t.ranks + 1 ≤ limit
      → Spells (forms_at n (below block blocks limit n) part.Whole) ((form_shown a).pieces margin) (IsRead a h)
      → Reads (suc n) (below block blocks limit (suc n)) (form.NewArray s t a) (h + 1) ((form_shown (form.NewArray s t a)).pieces margin)
  reads_new_array n margin s t a h known fits x =
      at_shown margin _ (shown_NewArray s t a)
      (reads_array (ap (λ z. z.level) (shown_NewArray s t a))
      (λ top. closes {tail = gives} (λ m ts. (refl, refl))
      (opens_array n margin s t a h gives known fits x
      (λ m. opens_in {g = gives m}
      (λ ts c rest d. else_derives (nat_lt m.height (suc n)) (dot ∷ []) (with_member (suc n) (below block blocks limit (suc n)) m) (gives m) ts c rest d)
      (opens_end gives m refl)) top))
      (λ top. opens_array n margin s t a h (member_tail (suc n) (below block blocks limit (suc n))) known fits x
      (λ m. opens_in {g = member_tail (suc n) (below block blocks limit (suc n)) m}
      (λ ts c rest d. where_derives (nat_lt m.height (suc n)) (dot ∷ []) (with_member (suc n) (below block blocks limit (suc n)) m) (gives m) ts c rest d.0 d.1)
      (opens_end (member_tail (suc n) (below block blocks limit (suc n))) m refl)) top))

  checked_same : (s : Spot) (t : Token) (a b : Form) → t.lexeme ≡ lexeme.Keyword 9 → bare_form b ≡ bare_form a
      → bare_form (cond (kind t == kw_checked) (form.Checked (spot_of t) b) (form.Unchecked (spot_of t) b)) ≡ bare_form (form.Checked s a)
  checked_same s t a b e same =
      ap (λ l. bare_form (cond (kind_of l == kw_checked) (form.Checked (spot_of t) b) (form.Unchecked (spot_of t) b))) e ∙ same_Checked (spot_of t) s b a same

  unchecked_same : (s : Spot) (t : Token) (a b : Form) → t.lexeme ≡ lexeme.Keyword 69 → bare_form b ≡ bare_form a
      → bare_form (cond (kind t == kw_checked) (form.Checked (spot_of t) b) (form.Unchecked (spot_of t) b)) ≡ bare_form (form.Unchecked s a)
  unchecked_same s t a b e same =
      ap (λ l. bare_form (cond (kind_of l == kw_checked) (form.Checked (spot_of t) b) (form.Unchecked (spot_of t) b))) e ∙ same_Unchecked (spot_of t) s b a same

  pub reads_checked : (n : ℕ) (margin : List ℕ) (s : Spot) (a : Form) (h : ℕ) → Spells (forms_at n (below block blocks limit n) part.Whole) ((form_shown a).pieces margin) (IsRead a h)
      → Reads (suc n) (below block blocks limit (suc n)) (form.Checked s a) (h + 1) ((form_shown (form.Checked s a)).pieces margin)
  unfolding fixed
  reads_checked n margin s a h x =
      at_shown margin _ (shown_Checked s a)
      (reads_post (ap (λ z. z.level) (shown_Checked s a))
      (λ top may. opens_in {g = of_checked (suc n) (below block blocks limit (suc n))} (λ ts m rest d. from_counted top n (below block blocks limit n) ts m rest (inr (inr (inr d))))
      (opens_takes (kw_checked ∷ kw_unchecked ∷ []) (λ t. t) (lexeme.Keyword 9) refl
      (λ t e. opens_takes (paren ∷ []) (λ _. tt) (lexeme.Sign 2) refl
      (λ _ _. opens_then x
      (λ b p. opens_takes (unparen ∷ []) (λ _. tt) (lexeme.Sign 3) refl
      (λ _ _. opens_end (postfixes (suc n) (below block blocks limit (suc n))) (checked_of t b) (record { same = checked_same s t a b.form e p.same; tall = ap (λ j. j + 1) p.tall }))))))))

  pub reads_unchecked : (n : ℕ) (margin : List ℕ) (s : Spot) (a : Form) (h : ℕ) → Spells (forms_at n (below block blocks limit n) part.Whole) ((form_shown a).pieces margin) (IsRead a h)
      → Reads (suc n) (below block blocks limit (suc n)) (form.Unchecked s a) (h + 1) ((form_shown (form.Unchecked s a)).pieces margin)
  unfolding fixed
  reads_unchecked n margin s a h x =
      at_shown margin _ (shown_Unchecked s a)
      (reads_post (ap (λ z. z.level) (shown_Unchecked s a))
      (λ top may. opens_in {g = of_checked (suc n) (below block blocks limit (suc n))} (λ ts m rest d. from_counted top n (below block blocks limit n) ts m rest (inr (inr (inr d))))
      (opens_takes (kw_checked ∷ kw_unchecked ∷ []) (λ t. t) (lexeme.Keyword 69) refl
      (λ t e. opens_takes (paren ∷ []) (λ _. tt) (lexeme.Sign 2) refl
      (λ _ _. opens_then x
      (λ b p. opens_takes (unparen ∷ []) (λ _. tt) (lexeme.Sign 3) refl
      (λ _ _. opens_end (postfixes (suc n) (below block blocks limit (suc n))) (checked_of t b) (record { same = unchecked_same s t a b.form e p.same; tall = ap (λ j. j + 1) p.tall }))))))))

  pub says_type_in : (n : ℕ) (t : TypeForm) → IsType limit t → Spells (ty (below block blocks limit n).ranks) (layout.type_pieces t) (SameType t)
  says_type_in n t h = subst (λ r. Spells (ty r) (layout.type_pieces t) (SameType t)) (sym (ranks_are block blocks limit n)) (says_type limit t h)

  pub reads_default : (n : ℕ) (margin : List ℕ) (s : Spot) (t : TypeForm) → IsType limit t
      → Reads (suc n) (below block blocks limit (suc n)) (form.Default s t) 1 ((form_shown (form.Default s t)).pieces margin)
  unfolding fixed
  reads_default n margin s t h =
      at_shown margin _ (shown_Default s t)
      (reads_post (ap (λ z. z.level) (shown_Default s t))
      (λ top may. opens_in {g = of_default (suc n) (below block blocks limit (suc n))} (λ ts m rest d. from_counted top n (below block blocks limit n) ts m rest (inr (inr (inl d))))
      (opens_takes (kw_default ∷ []) spot_of (lexeme.Keyword 14) refl
      (λ u _. opens_takes (paren ∷ []) (λ _. tt) (lexeme.Sign 2) refl
      (λ _ _. opens_then (says_type_in (suc n) t h)
      (λ v q. opens_takes (unparen ∷ []) (λ _. tt) (lexeme.Sign 3) refl
      (λ _ _. opens_end (postfixes (suc n) (below block blocks limit (suc n))) (default_of (spot_of u) v) (record { same = same_Default (spot_of u) s v t (same_type t v q); tall = refl }))))))))
