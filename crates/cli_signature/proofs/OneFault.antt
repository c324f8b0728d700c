-- Each blob has one fault.
use Rattle.std.proofs.Common.{◌≡◌, ℕ, ◌<◌, ◌≤◌, List, [], ◌∷◌, ◌++◌, length, drop, take, refl, sym, ap, subst, ◌∙◌, inl, inr, arith}
use Rattle.std.proofs.lemmas.Bool.{cases_lt}
use Rattle.std.proofs.lemmas.List.{take-append-drop, length-drop, length-take, append_assoc, append-nil, length-append}
use Rattle.cli_signature.specs.declared.kind.Kind.{Kind}
use Rattle.cli_signature.specs.declared.raw.SigFault.TheVariants.{Truncated, BadElement, OutOfProfile, Trailing}
use Rattle.cli_signature.specs.Grammar.{IsBlob}
use Rattle.cli_signature.specs.Fault.{IsViable, Breaks, IsLeftOut}
use Rattle.cli_signature.specs.Laws.{HasOneFault}
use Rattle.cli_signature.proofs.Blobs.{blob_ends}

-- of two fronts of one list the shorter is a front of the longer
split : (a b k l : List ℕ) → a ++ k ≡ b ++ l → length a ≤ length b → (c : List ℕ) × (b ≡ a ++ c) × (k ≡ c ++ l)
split [] b k l e h = (b, refl, e)
split (x ∷ a) [] k l e h = absurd (omega arith)
split (x ∷ a) (y ∷ b) k l e h =
    let head : x ≡ y = cc in
    let tail : a ++ k ≡ b ++ l = cc in
    let r = split a b k l tail (omega arith) in
    (r.0, ap (λ (n : ℕ). n ∷ b) (sym head) ∙ ap (λ (ys : List ℕ). x ∷ ys) r.1, r.2)

-- what goes on from a longer front goes on from a shorter one
shorter : (kind : Kind) (a c : List ℕ) → IsViable (IsBlob kind) (a ++ c) → IsViable (IsBlob kind) a
shorter kind a c v = (c ++ v.0, subst (IsBlob kind) (append_assoc a c v.0) v.1)

-- nothing that goes on is longer than the front of a break
break_bound : (kind : Kind) (blob : List ℕ) (p x : ℕ) (b : List ℕ) (l : List ℕ) → Breaks (IsBlob kind) blob p x → blob ≡ b ++ l → IsViable (IsBlob kind) b → p < length b → ⊥
break_bound kind blob p x b l br e v h =
    let at = br.at in
    let e' : (br.front ++ x ∷ []) ++ br.rest ≡ b ++ l = append_assoc br.front (x ∷ []) br.rest ∙ sym br.is ∙ e in
    let s = split (br.front ++ x ∷ []) b br.rest l e' (omega (arith, length-append br.front (x ∷ []))) in
    br.stuck (shorter kind (br.front ++ x ∷ []) s.0 (subst (IsViable (IsBlob kind)) s.1 v))

breaks_le : (kind : Kind) (blob : List ℕ) (p q x y : ℕ) → Breaks (IsBlob kind) blob p x → Breaks (IsBlob kind) blob q y → q ≤ p
breaks_le kind blob p q x y g h =
    elim (cases_lt p q) [
      | inl l ↦ let at = h.at in absurd (break_bound kind blob p x h.front (y ∷ h.rest) g h.is h.viable (omega arith))
      | inr m ↦ m
    ]

breaks_same : (kind : Kind) (blob : List ℕ) (p q x y : ℕ) (g : Breaks (IsBlob kind) blob p x) (h : Breaks (IsBlob kind) blob q y) → (p ≡ q) × (g.front ≡ h.front) × (x ≡ y)
breaks_same kind blob p q x y g h =
    let low = breaks_le kind blob p q x y g h in
    let high = breaks_le kind blob q p y x h g in
    let pa = g.at in
    let qa = h.at in
    let s = split g.front h.front (x ∷ g.rest) (y ∷ h.rest) (sym g.is ∙ h.is) (omega arith) in
    let none : length s.0 ≡ 0 = omega (arith, ap (length {A = ℕ}) s.1, length-append g.front s.0) in
    let nil = empty s.0 none in
    let same : h.front ≡ g.front = s.1 ∙ ap (λ (c : List ℕ). g.front ++ c) nil ∙ append-nil g.front in
    let heads : x ∷ g.rest ≡ y ∷ h.rest = s.2 ∙ ap (λ (c : List ℕ). c ++ y ∷ h.rest) nil in
    (omega arith, sym same, cc (heads))
  where
    empty : (c : List ℕ) → length c ≡ 0 → c ≡ []
    empty [] h = refl
    empty (z ∷ c) h = absurd (omega arith)

-- a blob that goes on has no break, and one that is cut short isn't longer than a signature
whole_viable : (kind : Kind) (blob : List ℕ) (p x : ℕ) → Breaks (IsBlob kind) blob p x → IsViable (IsBlob kind) blob → ⊥
whole_viable kind blob p x b v =
    b.stuck (shorter kind (b.front ++ x ∷ []) b.rest (subst (IsViable (IsBlob kind)) (b.is ∙ sym (append_assoc b.front (x ∷ []) b.rest)) v))

front_ends : (kind : Kind) (a c : List ℕ) → IsBlob kind a → IsViable (IsBlob kind) (a ++ c) → c ≡ []
front_ends kind a [] g v = refl
front_ends kind a (x ∷ c) g v =
    let e = blob_ends kind a ((x ∷ c) ++ v.0) g (subst (IsBlob kind) (append_assoc a (x ∷ c) v.0) v.1) in
    absurd (cc (e))

front_whole : (kind : Kind) (blob : List ℕ) (p : ℕ) → p < length blob → IsBlob kind (take p blob) → IsViable (IsBlob kind) blob → ⊥
front_whole kind blob p h w v =
    let e = front_ends kind (take p blob) (drop p blob) w (subst (IsViable (IsBlob kind)) (sym (take-append-drop p blob)) v) in
    let none : length (drop p blob) ≡ 0 = ap (length {A = ℕ}) e in
    omega (arith, length-drop p blob)

break_trailing : (kind : Kind) (blob : List ℕ) (p q x : ℕ) → Breaks (IsBlob kind) blob p x → q < length blob → IsBlob kind (take q blob) → ⊥
break_trailing kind blob p q x b h w =
    let at = b.at in
    let size : length (take q blob) ≡ q = omega (arith, length-take q blob) in
    elim (cases_lt p q) [
      | inl l ↦ break_bound kind blob p x (take q blob) (drop q blob) b (sym (take-append-drop q blob)) ([], subst (IsBlob kind) (sym (append-nil (take q blob))) w) (omega arith)
      | inr g ↦
          let s = split (take q blob) b.front (drop q blob) (x ∷ b.rest) (take-append-drop q blob ∙ b.is) (omega arith) in
          let e = front_ends kind (take q blob) s.0 w (subst (IsViable (IsBlob kind)) s.1 b.viable) in
          let same : b.front ≡ take q blob = s.1 ∙ ap (λ (c : List ℕ). take q blob ++ c) e ∙ append-nil (take q blob) in
          b.unfinished (subst (IsBlob kind) (sym same) w)
    ]

trailing_le : (kind : Kind) (blob : List ℕ) (p q : ℕ) → p < length blob → q < length blob → IsBlob kind (take p blob) → IsBlob kind (take q blob) → q ≤ p
trailing_le kind blob p q hp hq g h =
    let sp : length (take p blob) ≡ p = omega (arith, length-take p blob) in
    let sq : length (take q blob) ≡ q = omega (arith, length-take q blob) in
    elim (cases_lt p q) [
      | inl l ↦
          let s = split (take p blob) (take q blob) (drop p blob) (drop q blob) (take-append-drop p blob ∙ sym (take-append-drop q blob)) (omega arith) in
          let e = blob_ends kind (take p blob) s.0 g (subst (IsBlob kind) s.1 h) in
          let none : length s.0 ≡ 0 = ap (length {A = ℕ}) e in
          absurd (omega (arith, ap (length {A = ℕ}) s.1, length-append (take p blob) s.0))
      | inr m ↦ m
    ]

pub one_fault : HasOneFault
one_fault kind blob (Truncated p) (Truncated q) f g = ap Truncated (f.0 ∙ sym g.0)
one_fault kind blob (Truncated p) (BadElement q y) f g = absurd (whole_viable kind blob q y g.0 f.1)
one_fault kind blob (Truncated p) (OutOfProfile q y) f g = absurd (whole_viable kind blob q y g.0 f.1)
one_fault kind blob (Truncated p) (Trailing q) f g = absurd (front_whole kind blob q g.0 g.1 f.1)
one_fault kind blob (BadElement p x) (Truncated q) f g = absurd (whole_viable kind blob p x f.0 g.1)
one_fault kind blob (BadElement p x) (BadElement q y) f g =
    let s = breaks_same kind blob p q x y f.0 g.0 in ap (λ (n : ℕ). BadElement n x) s.0 ∙ ap (λ (n : ℕ). BadElement q n) s.2
one_fault kind blob (BadElement p x) (OutOfProfile q y) f g =
    let s = breaks_same kind blob p q x y f.0 g.0 in
    absurd (f.1 (subst (λ (n : ℕ). IsLeftOut (IsBlob kind) f.0.front n) (sym s.2) (subst (λ (c : List ℕ). IsLeftOut (IsBlob kind) c y) (sym s.1) g.1)))
one_fault kind blob (BadElement p x) (Trailing q) f g = absurd (break_trailing kind blob p q x f.0 g.0 g.1)
one_fault kind blob (OutOfProfile p x) (Truncated q) f g = absurd (whole_viable kind blob p x f.0 g.1)
one_fault kind blob (OutOfProfile p x) (BadElement q y) f g =
    let s = breaks_same kind blob p q x y f.0 g.0 in
    absurd (g.1 (subst (λ (n : ℕ). IsLeftOut (IsBlob kind) g.0.front n) s.2 (subst (λ (c : List ℕ). IsLeftOut (IsBlob kind) c x) s.1 f.1)))
one_fault kind blob (OutOfProfile p x) (OutOfProfile q y) f g =
    let s = breaks_same kind blob p q x y f.0 g.0 in ap (λ (n : ℕ). OutOfProfile n x) s.0 ∙ ap (λ (n : ℕ). OutOfProfile q n) s.2
one_fault kind blob (OutOfProfile p x) (Trailing q) f g = absurd (break_trailing kind blob p q x f.0 g.0 g.1)
one_fault kind blob (Trailing p) (Truncated q) f g = absurd (front_whole kind blob p f.0 f.1 g.1)
one_fault kind blob (Trailing p) (BadElement q y) f g = absurd (break_trailing kind blob q p y g.0 f.0 f.1)
one_fault kind blob (Trailing p) (OutOfProfile q y) f g = absurd (break_trailing kind blob q p y g.0 f.0 f.1)
one_fault kind blob (Trailing p) (Trailing q) f g =
    let low = trailing_le kind blob p q f.0 g.0 f.1 g.1 in
    let high = trailing_le kind blob q p g.0 f.0 g.1 f.1 in
    ap Trailing (omega arith)
