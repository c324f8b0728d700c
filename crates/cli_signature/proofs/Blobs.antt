-- Whole signatures: each has one derivation, and none goes on as another.
use Rattle.std.proofs.Common.{false, ◌≡◌, ℕ, ◌+◌, ◌-◌, ◌<◌, ◌≤◌, List, [], ◌∷◌, ◌++◌, length, map, get_or, drop, take, zero, suc, refl, sym, ap, subst, ◌∙◌, inl, inr, arith}
use Rattle.std.specs.List.{flat_map}
use Rattle.cli_signature.specs.declared.raw.RawTy.{RawTy}
use Rattle.std.proofs.lemmas.List.{take-append-drop, length-drop, length-map, map-append, append_assoc, append-nil, length-append}
use Rattle.dc_base.specs.Spelling.{spelling}
use Rattle.cli_signature.specs.declared.kind.Kind.{Kind}
use Rattle.cli_signature.specs.declared.kind.Kind.TheVariants.{Field, Locals, Method, Property}
use Rattle.cli_signature.specs.declared.kind.Slot.{Slot}
use Rattle.cli_signature.specs.declared.kind.Slot.TheVariants.{Outcome, Whole}
use Rattle.cli_signature.specs.declared.raw.SigFault.{SigFault}
use Rattle.cli_signature.specs.declared.raw.SigFault.TheVariants.{Truncated, BadElement, OutOfProfile, Trailing}
use Rattle.cli_signature.specs.Grammar.{raw_of, Plain, Way, Bare, IsWay, spelled_way, IsWayWord, Sig, IsLead, IsCount, AreWays, first_slot, IsSig, spelled_count, spelled, Derives, IsBlob}
use Rattle.cli_signature.specs.Laws.{HasOneDerivation, HasNoFault}
use Rattle.cli_signature.specs.Fault.{Breaks, IsLeadLeftOut, IsSigFault}
use Rattle.cli_signature.specs.Reading.{Begins, Stops, IsFaultAt, IsNumberWord, ReadsNumber, ReadsWay, ReadsLead, slot_behind, begun, Reached, results_of, Done}
use Rattle.cli_signature.proofs.Words.{Within, lift}
use Rattle.cli_signature.proofs.Trees.{way_unique, number_unique}
use Rattle.cli_signature.proofs.Stopping.{part-char}
use Rattle.std.proofs.Math.Seq.{take-append_seam}
use Rattle.std.proofs.Math.ListN.{drop_of_length-le, replicate, length-replicate}
use Rattle.std.proofs.lemmas.Grind.{flat_map-append}

-- as many types that begin the same bytes are the same types
pub ways_unique : (slot : Slot) (us vs : List Way) (k l : List ℕ) → AreWays slot us → AreWays slot vs → length us ≡ length vs → flat_map spelled_way us ++ k ≡ flat_map spelled_way vs ++ l → (us ≡ vs) × (k ≡ l)
ways_unique slot [] [] k l g h n e = (refl, e)
ways_unique slot [] (v ∷ vs) k l g h n e = absurd (omega arith)
ways_unique slot (u ∷ us) [] k l g h n e = absurd (omega arith)
ways_unique slot (u ∷ us) (v ∷ vs) k l g h n e =
    let e' = sym (append_assoc (spelled_way u) (flat_map spelled_way us) k) ∙ e ∙ append_assoc (spelled_way v) (flat_map spelled_way vs) l in
    let w = way_unique slot u v _ _ g.0 h.0 e' in
    let m : length us ≡ length vs = omega arith in
    let r = ways_unique Whole us vs k l g.1 h.1 m w.1 in
    (ap (λ (x : Way). x ∷ us) w.0 ∙ ap (λ (xs : List Way). v ∷ xs) r.0, r.1)

-- the count says how many types there are
pub count_unique : (kind : Kind) (m n : ℕ) (k l : List ℕ) → IsCount kind m → IsCount kind n → spelled_count kind m ++ k ≡ spelled_count kind n ++ l → (m ≡ n) × (k ≡ l)
count_unique Field m n k l g h e = (g ∙ sym h, e)
count_unique Locals m n k l g h e = number_unique m n k l g h e
count_unique Method m n k l g h e =
    let g1 = g.0 in
    let h1 = h.0 in
    let g2 = g.1 in
    let h2 = h.1 in
    let u = number_unique (m - 1) (n - 1) k l (omega arith) (omega arith) e in (let s = u.0 in omega arith, u.1)
count_unique Property m n k l g h e =
    let g1 = g.0 in
    let h1 = h.0 in
    let g2 = g.1 in
    let h2 = h.1 in
    let u = number_unique (m - 1) (n - 1) k l (omega arith) (omega arith) e in (let s = u.0 in omega arith, u.1)

pub sig_unique : (kind : Kind) (s t : Sig) (k l : List ℕ) → IsSig kind s → IsSig kind t → spelled kind s ++ k ≡ spelled kind t ++ l → (s ≡ t) × (k ≡ l)
sig_unique kind s t k l g h e =
    let first : s.lead ≡ t.lead = cc in
    let rest : (spelled_count kind (length s.types) ++ flat_map spelled_way s.types) ++ k ≡ (spelled_count kind (length t.types) ++ flat_map spelled_way t.types) ++ l = cc in
    let rest' = sym (append_assoc (spelled_count kind (length s.types)) (flat_map spelled_way s.types) k) ∙ rest ∙ append_assoc (spelled_count kind (length t.types)) (flat_map spelled_way t.types) l in
    let c = count_unique kind (length s.types) (length t.types) _ _ g.count h.count rest' in
    let w = ways_unique (first_slot kind) s.types t.types k l g.ways h.ways c.0 c.1 in
    (sig_eq s.lead t.lead s.types t.types first w.0, w.1)
  where
    sig_eq : (a b : ℕ) (us vs : List Way) → a ≡ b → us ≡ vs → ◌≡◌ {A = Sig} (record { lead = a; types = us }) (record { lead = b; types = vs })
    sig_eq a b us vs p q = cc

-- no blob goes on as another
pub blob_ends : (kind : Kind) (blob more : List ℕ) → IsBlob kind blob → IsBlob kind (blob ++ more) → more ≡ []
blob_ends kind blob more g h =
    let e : spelled kind g.0 ++ more ≡ spelled kind h.0 ++ [] =
    ap (λ (x : List ℕ). x ++ more) (sym g.1.1) ∙ h.1.1 ∙ sym (append-nil (spelled kind h.0)) in
    (sig_unique kind g.0 h.0 more [] g.1.0 h.1.0 e).1

stops_breaks : (kind : Kind) (blob : List ℕ) (place byte : ℕ) → Stops (IsBlob kind) 0 blob place byte → Breaks (IsBlob kind) blob place byte
stops_breaks kind blob place byte s =
    record {
      front = s.front;
      rest = s.rest;
      is = s.is;
      at = let t = s.there in omega arith;
      viable = s.viable;
      unfinished = λ w. s.stuck [] (s.front, byte ∷ [], w, refl);
      stuck = λ v. s.stuck v.0 ((s.front ++ byte ∷ []) ++ v.0, [], v.1, sym (append_assoc s.front (byte ∷ []) v.0) ∙ sym (append-nil _));
    }

-- a fault behind the first bytes of a blob is the blob's
pub settle : (kind : Kind) (V : List ℕ → Type 0) (p bytes : List ℕ) (fault : SigFault) → Within V (IsBlob kind) p → 1 ≤ length p → IsFaultAt V (length p) bytes fault → IsSigFault (IsBlob kind) (p ++ bytes) fault
unfolding stops_breaks
settle kind V p bytes (Truncated place) h n f =
    let g = lift V (IsBlob kind) p 0 bytes (Truncated place) h (subst (λ (x : ℕ). IsFaultAt V x bytes (Truncated place)) (omega arith) f) in
    (let e = g.0 in omega arith, (g.1.0, g.1.1), λ w. g.1.2 (blob_ends kind (p ++ bytes) g.1.0 w g.1.1))
settle kind V p bytes (BadElement place byte) h n f =
    let g = lift V (IsBlob kind) p 0 bytes (BadElement place byte) h (subst (λ (x : ℕ). IsFaultAt V x bytes (BadElement place byte)) (omega arith) f) in
    let there = f.0.there in
    let there' = g.0.there in (
      stops_breaks kind (p ++ bytes) place byte g.0,
      λ l. elim l [
        | inl a ↦ let none : length g.0.front ≡ 0 = ap (length {A = ℕ}) a.0 in omega arith
        | inr b ↦
            let d = g.1 b.1 in
            let v = b.0 d.0 d.1 in
            d.2 v.0 ((g.0.front ++ d.0 ∷ []) ++ v.0, [], v.1, sym (append_assoc g.0.front (d.0 ∷ []) v.0) ∙ sym (append-nil _))
      ],
    )
settle kind V p bytes (OutOfProfile place byte) h n f =
    let g = lift V (IsBlob kind) p 0 bytes (OutOfProfile place byte) h (subst (λ (x : ℕ). IsFaultAt V x bytes (OutOfProfile place byte)) (omega arith) f) in
    (stops_breaks kind (p ++ bytes) place byte g.0, inr (g.1, g.2))
settle kind V p bytes (Trailing place) h n f = absurd f

-- CHAR
char : Way
char = Bare (Plain 0x03)

char_stands : (slot : Slot) → IsWay slot char
unfolding char
char_stands slot = part-char

chars : ℕ → List Way
chars n = replicate n char

chars_length : (n : ℕ) → length (chars n) ≡ n
unfolding chars
chars_length n = length-replicate n char

chars_stand : (n : ℕ) (slot : Slot) → AreWays slot (chars n)
unfolding chars
chars_stand zero slot = tt
chars_stand (suc n) slot = (char_stands slot, chars_stand n Whole)

ways_append : (slot : Slot) (us vs : List Way) → AreWays slot us → AreWays (slot_behind slot us) vs → AreWays slot (us ++ vs)
ways_append slot [] vs g h = h
ways_append slot (u ∷ []) vs g h = (g.0, h)
ways_append slot (u ∷ v ∷ us) vs g h = (g.0, ways_append Whole (v ∷ us) vs g.1 h)

pub ways_push : (slot : Slot) (us : List Way) (w : Way) → AreWays slot us → IsWay (slot_behind slot us) w → AreWays slot (us ++ w ∷ [])
ways_push slot us w g h = ways_append slot us (w ∷ []) g (h, tt)

-- behind some of the types stands the next
next_way : (slot : Slot) (ts us : List Way) (k l : List ℕ) → AreWays slot ts → AreWays slot us → length ts < length us → flat_map spelled_way ts ++ k ≡ flat_map spelled_way us ++ l → Begins (IsWayWord (slot_behind slot ts)) k
next_way slot [] [] k l g h n e = absurd (omega arith)
next_way slot [] (u ∷ us) k l g h n e =
    (spelled_way u, flat_map spelled_way us ++ l, (u, h.0, refl), e ∙ append_assoc (spelled_way u) (flat_map spelled_way us) l)
next_way slot (t ∷ ts) [] k l g h n e = absurd (omega arith)
next_way slot (t ∷ ts) (u ∷ us) k l g h n e =
    let e' = sym (append_assoc (spelled_way t) (flat_map spelled_way ts) k) ∙ e ∙ append_assoc (spelled_way u) (flat_map spelled_way us) l in
    let w = way_unique slot t u _ _ g.0 h.0 e' in
    whole ts (next_way Whole ts us k l g.1 h.1 (omega arith) w.1)
  where
    whole : (ts : List Way) → Begins (IsWayWord (slot_behind Whole ts)) k → Begins (IsWayWord Whole) k
    whole [] b = b
    whole (x ∷ xs) b = b

sig_of : ℕ → List Way → Sig
sig_of lead types = record { lead = lead; types = types }

whole_blob : (kind : Kind) (lead : ℕ) (types : List Way) → IsLead kind lead → IsCount kind (length types) → AreWays (first_slot kind) types → IsBlob kind (begun kind lead (length types) types)
whole_blob kind lead types a b c = (record { lead = lead; types = types }, (record { lead = a; count = b; ways = c }, refl))

flat_split : (c f w m : List ℕ) → (c ++ f) ++ (w ++ m) ≡ c ++ (f ++ (w ++ m))
flat_split c f w m = append_assoc c f (w ++ m)

-- the next type stands in a signature behind those before it
pub types_within : (kind : Kind) (lead n : ℕ) (ts : List Way) → IsLead kind lead → IsCount kind n → AreWays (first_slot kind) ts → length ts < n → Within (IsWayWord (slot_behind (first_slot kind) ts)) (IsBlob kind) (begun kind lead n ts)
unfolding sig_of
types_within kind lead n ts a b g l =
    record {
      close = λ v w.
          let fill = chars (n - (length ts + 1)) in
          let all = ts ++ w.0 ∷ fill in
          let many : length all ≡ n = omega (arith, length-append ts (w.0 ∷ fill), chars_length (n - (length ts + 1))) in
          let stand = ways_append (first_slot kind) ts (w.0 ∷ fill) g (w.1, chars_stand (n - (length ts + 1)) Whole) in
          let blob = whole_blob kind lead all a (subst (IsCount kind) (sym many) b) stand in
          let same : begun kind lead (length all) all ≡ begun kind lead n ts ++ (v ++ flat_map spelled_way fill) =
          ap (λ (x : ℕ). begun kind lead x all) many
          ∙ ap (λ (x : List ℕ). lead ∷ (spelled_count kind n ++ x)) (flat_map-append spelled_way ts (w.0 ∷ fill) ∙ ap (λ (x : List ℕ). flat_map spelled_way ts ++ (x ++ flat_map spelled_way fill)) (sym w.2))
          ∙ ap (λ (x : List ℕ). lead ∷ x) (sym (append_assoc (spelled_count kind n) (flat_map spelled_way ts) (v ++ flat_map spelled_way fill))) in
          (flat_map spelled_way fill, subst (IsBlob kind) same blob);
      open_ = λ q x. types_open kind lead n ts q x.1 x.2.0 a b g l x.2.1.0 (x.3 ∙ ap (λ (y : List ℕ). y ++ x.1) x.2.1.1);
    }
  where
    types_open : (kind : Kind) (lead n : ℕ) (ts : List Way) (q more : List ℕ) (s : Sig) → IsLead kind lead → IsCount kind n → AreWays (first_slot kind) ts → length ts < n → IsSig kind s → begun kind lead n ts ++ q ≡ spelled kind s ++ more → Begins (IsWayWord (slot_behind (first_slot kind) ts)) q
    types_open kind lead n ts q more s a b g l is e =
        let rest : (spelled_count kind n ++ flat_map spelled_way ts) ++ q ≡ (spelled_count kind (length s.types) ++ flat_map spelled_way s.types) ++ more = cc in
        let rest' = sym (append_assoc (spelled_count kind n) (flat_map spelled_way ts) q) ∙ rest ∙ append_assoc (spelled_count kind (length s.types)) (flat_map spelled_way s.types) more in
        let c = count_unique kind n (length s.types) _ _ b is.count rest' in
        let many = c.0 in
        next_way (first_slot kind) ts s.types q more g is.ways (omega arith) c.1

-- the types are all read
pub all_read : (kind : Kind) (lead : ℕ) (types : List Way) (blob : List ℕ) (after : ℕ) → IsLead kind lead → IsCount kind (length types) → AreWays (first_slot kind) types → blob ≡ begun kind lead (length types) types ++ drop after blob → length blob ≤ after → Derives kind blob (record { lead = lead; types = types })
all_read kind lead types blob after a b c e h =
    (record { lead = a; count = b; ways = c }, e ∙ ap (λ (x : List ℕ). begun kind lead (length types) types ++ x) (drop_of_length-le blob h) ∙ append-nil _)

-- more stands behind the types
pub all_read_trailing : (kind : Kind) (lead : ℕ) (types : List Way) (blob : List ℕ) (after : ℕ) → IsLead kind lead → IsCount kind (length types) → AreWays (first_slot kind) types → blob ≡ begun kind lead (length types) types ++ drop after blob → after ≡ length (begun kind lead (length types) types) → after < length blob → IsSigFault (IsBlob kind) blob (Trailing after)
all_read_trailing kind lead types blob after a b c e n h =
    let front : take after blob ≡ begun kind lead (length types) types =
    ap (λ (x : List ℕ). take after x) e ∙ ap (λ (k : ℕ). take k (begun kind lead (length types) types ++ drop after blob)) n ∙ take-append_seam (begun kind lead (length types) types) (drop after blob) in
    (h, subst (IsBlob kind) (sym front) (whole_blob kind lead types a b c))

-- each kind has a signature
some_blob : (kind : Kind) → (blob : List ℕ) × IsBlob kind blob
unfolding char
some_blob Field = (6 ∷ 3 ∷ [], whole_blob Field 6 (char ∷ []) refl refl (char_stands Whole, tt))
some_blob Locals = (7 ∷ 0 ∷ [], whole_blob Locals 7 [] refl (omega arith) tt)
some_blob Method = (0 ∷ 0 ∷ 3 ∷ [], whole_blob Method 0 (char ∷ []) (inl refl) (omega arith, omega arith) (char_stands Outcome, tt))
some_blob Property = (8 ∷ 0 ∷ 3 ∷ [], whole_blob Property 8 (char ∷ []) (inl refl) (omega arith, omega arith) (char_stands Whole, tt))

pub lead_missing : (kind : Kind) (blob : List ℕ) → length blob < 1 → IsSigFault (IsBlob kind) blob (Truncated 0)
lead_missing kind [] h = (refl, some_blob kind, λ w. let e = w.1.1 in cc)
lead_missing kind (a ∷ blob) h = absurd (omega arith)

lead_breaks : (kind : Kind) (b : ℕ) (rest : List ℕ) → (IsLead kind b → ⊥) → Breaks (IsBlob kind) (b ∷ rest) 0 b
lead_breaks kind b rest h =
    record {
      front = [];
      rest = rest;
      is = refl;
      at = refl;
      viable = some_blob kind;
      unfinished = λ w. let e = w.1.1 in cc;
      stuck = λ v. let e : b ≡ v.1.0.lead = let whole = v.1.1.1 in cc in h (subst (IsLead kind) (sym e) v.1.1.0.lead);
    }

no_char_lead : (kind : Kind) → IsLead kind 3 → ⊥
no_char_lead Field h = absurd (omega arith)
no_char_lead Locals h = absurd (omega arith)
no_char_lead Method (inl h) = absurd (omega arith)
no_char_lead Method (inr h) = absurd (omega arith)
no_char_lead Property (inl h) = absurd (omega arith)
no_char_lead Property (inr h) = absurd (omega arith)

pub lead_left_out : (kind : Kind) (blob : List ℕ) → 1 ≤ length blob → (IsLead kind (get_or blob 0 0) → ⊥) → IsLeadLeftOut (get_or blob 0 0) → IsSigFault (IsBlob kind) blob (OutOfProfile 0 (get_or blob 0 0))
unfolding lead_breaks
lead_left_out kind [] n h l = absurd (omega arith)
lead_left_out kind (b ∷ rest) n h l = (lead_breaks kind b rest h, inl (refl, l))

pub lead_bad : (kind : Kind) (blob : List ℕ) → 1 ≤ length blob → (IsLead kind (get_or blob 0 0) → ⊥) → (IsLeadLeftOut (get_or blob 0 0) → ⊥) → IsSigFault (IsBlob kind) blob (BadElement 0 (get_or blob 0 0))
unfolding lead_breaks
lead_bad kind [] n h l = absurd (omega arith)
lead_bad kind (b ∷ rest) n h l = (
  lead_breaks kind b rest h,
  λ o. elim o [
    | inl x ↦ l x.1
    | inr x ↦
        let v = x.0 3 part-char in
        let e : 3 ≡ v.1.0.lead = let whole = v.1.1.1 in cc in
        no_char_lead kind (subst (IsLead kind) (sym e) v.1.1.0.lead)
  ],
)

reach_split : (kind : Kind) (lead n : ℕ) (ts : List Way) (w : Way) (rest : List ℕ) → begun kind lead n ts ++ (spelled_way w ++ rest) ≡ begun kind lead n (ts ++ w ∷ []) ++ rest
reach_split kind lead n ts w rest =
    sym (append_assoc (begun kind lead n ts) (spelled_way w) rest) ∙ ap (λ (x : List ℕ). x ++ rest) (reach_begun kind lead n ts w)
  where
    reach_begun : (kind : Kind) (lead n : ℕ) (ts : List Way) (w : Way) → begun kind lead n ts ++ spelled_way w ≡ begun kind lead n (ts ++ w ∷ [])
    reach_begun kind lead n ts w =
        ap (λ (x : List ℕ). lead ∷ x) (append_assoc (spelled_count kind n) (flat_map spelled_way ts) (spelled_way w) ∙ ap (λ (x : List ℕ). spelled_count kind n ++ x) (ap (λ (x : List ℕ). flat_map spelled_way ts ++ x) (sym (append-nil (spelled_way w))) ∙ sym (flat_map-append spelled_way ts (w ∷ []))))

behind_push : (slot : Slot) (ts : List Way) (w : Way) → Whole ≡ slot_behind slot (ts ++ w ∷ [])
behind_push slot [] w = refl
behind_push slot (t ∷ ts) w = refl

-- one more type
pub reach_more : (kind : Kind) (lead n : ℕ) (blob : List ℕ) (at after : ℕ) (slot : Slot) (tys : List RawTy) (ty : RawTy) → Reached kind lead n blob at slot tys → ReadsWay slot blob at ty after → Reached kind lead n blob after Whole (tys ++ ty ∷ [])
reach_more kind lead n blob at after slot tys ty r w =
    let e : blob ≡ begun kind lead n (r.ts ++ w.way ∷ []) ++ drop after blob =
    r.is ∙ ap (λ (x : List ℕ). begun kind lead n r.ts ++ x) w.is ∙ reach_split kind lead n r.ts w.way (drop after blob) in
    let size : length blob ≡ length (begun kind lead n (r.ts ++ w.way ∷ [])) + length (drop after blob) =
    ap (length {A = ℕ}) e ∙ length-append (begun kind lead n (r.ts ++ w.way ∷ [])) (drop after blob) in
    let within = w.within in
    record {
      ts = r.ts ++ w.way ∷ [];
      stand = ways_push (first_slot kind) r.ts w.way r.stand (subst (λ (x : Slot). IsWay x w.way) r.slot_is w.stands);
      slot_is = behind_push (first_slot kind) r.ts w.way;
      is = e;
      there = omega (arith, length-drop after blob);
      within = within;
      read = ap (λ (x : List RawTy). x ++ ty ∷ []) r.read ∙ ap (λ (x : RawTy). map raw_of r.ts ++ x ∷ []) w.read ∙ sym (map-append raw_of r.ts (w.way ∷ []));
    }

reach_length : (tys : List RawTy) (ts : List Way) → tys ≡ map raw_of ts → length tys ≡ length ts
reach_length tys ts e = let f : length (map raw_of ts) ≡ length ts = simp length-map in ap (length {A = RawTy}) e ∙ f

-- the fault of the next type
pub reach_fault : (kind : Kind) (lead n : ℕ) (blob : List ℕ) (at : ℕ) (slot : Slot) (tys : List RawTy) (fault : SigFault) → IsLead kind lead → IsCount kind n → Reached kind lead n blob at slot tys → length tys < n → IsFaultAt (IsWayWord slot) at (drop at blob) fault → IsSigFault (IsBlob kind) blob fault
reach_fault kind lead n blob at slot tys fault a b r few f =
    let few' : length r.ts < n = let l = reach_length tys r.ts r.read in omega arith in
    let w = types_within kind lead n r.ts a b r.stand few' in
    let f1 = subst (λ (x : Slot). IsFaultAt (IsWayWord x) at (drop at blob) fault) r.slot_is f in
    let f2 = subst (λ (x : ℕ). IsFaultAt (IsWayWord (slot_behind (first_slot kind) r.ts)) x (drop at blob) fault) r.there f1 in
    subst (λ (x : List ℕ). IsSigFault (IsBlob kind) x fault) (sym r.is)
    (settle kind (IsWayWord (slot_behind (first_slot kind) r.ts)) (begun kind lead n r.ts) (drop at blob) fault w (omega arith) f2)

-- all types are read, and nothing stands behind them
pub reach_all : (kind : Kind) (lead n : ℕ) (blob : List ℕ) (at : ℕ) (slot : Slot) (tys : List RawTy) → IsLead kind lead → IsCount kind n → Reached kind lead n blob at slot tys → length tys ≡ n → length blob ≤ at → Done kind lead blob tys
reach_all kind lead n blob at slot tys a b r many h =
    let m : n ≡ length r.ts = sym many ∙ reach_length tys r.ts r.read in
    record {
      types = r.ts;
      derives = all_read kind lead r.ts blob at a (subst (IsCount kind) m b) r.stand (subst (λ (x : ℕ). blob ≡ begun kind lead x r.ts ++ drop at blob) m r.is) h;
      read = sym r.read;
    }

pub reach_trailing : (kind : Kind) (lead n : ℕ) (blob : List ℕ) (at : ℕ) (slot : Slot) (tys : List RawTy) → IsLead kind lead → IsCount kind n → Reached kind lead n blob at slot tys → length tys ≡ n → at < length blob → IsSigFault (IsBlob kind) blob (Trailing at)
reach_trailing kind lead n blob at slot tys a b r many h =
    let m : n ≡ length r.ts = sym many ∙ reach_length tys r.ts r.read in
    all_read_trailing kind lead r.ts blob at a (subst (IsCount kind) m b) r.stand (subst (λ (x : ℕ). blob ≡ begun kind lead x r.ts ++ drop at blob) m r.is) (subst (λ (x : ℕ). at ≡ length (begun kind lead x r.ts)) m r.there) h

-- a field has no count
pub reach_field : (blob : List ℕ) (lead : ℕ) → ReadsLead Field blob lead → Reached Field lead 1 blob 1 Whole []
reach_field blob lead r =
    let size : length blob ≡ length (lead ∷ drop 1 blob) = ap (length {A = ℕ}) r.is in
    record { ts = []; stand = tt; slot_is = refl; is = r.is; there = refl; within = omega arith; read = refl }

-- the kinds with a count have so many more types than it says
pub spelled_count_counted : (kind : Kind) (count : ℕ) → (kind ≡ Field → ⊥) → spelled_count kind (count + results_of kind) ≡ spelling count
spelled_count_counted Field count h = absurd (h refl)
spelled_count_counted Locals count h = let e : count + 0 ≡ count = omega arith in ap spelling e
spelled_count_counted Method count h = let e : count + 1 - 1 ≡ count = omega arith in ap spelling e
spelled_count_counted Property count h = let e : count + 1 - 1 ≡ count = omega arith in ap spelling e

pub is_count : (kind : Kind) (count : ℕ) → (kind ≡ Field → ⊥) → count < 536870912 → IsCount kind (count + results_of kind)
is_count Field count h l = absurd (h refl)
is_count Locals count h l = omega arith
is_count Method count h l = (omega arith, omega arith)
is_count Property count h l = (omega arith, omega arith)

pub reach_count : (kind : Kind) (lead count : ℕ) (blob : List ℕ) (at : ℕ) → (kind ≡ Field → ⊥) → ReadsLead kind blob lead → ReadsNumber false blob 1 count at → Reached kind lead (count + results_of kind) blob at (first_slot kind) []
reach_count kind lead count blob at h l r =
    let same : spelling count ++ drop at blob ≡ (spelled_count kind (count + results_of kind) ++ []) ++ drop at blob =
    ap (λ (x : List ℕ). x ++ drop at blob) (sym (spelled_count_counted kind count h) ∙ sym (append-nil (spelled_count kind (count + results_of kind)))) in
    let e : blob ≡ (lead ∷ (spelled_count kind (count + results_of kind) ++ [])) ++ drop at blob =
    l.is ∙ ap (λ (x : List ℕ). lead ∷ x) (r.is ∙ same) in
    let size : length blob ≡ length (lead ∷ (spelled_count kind (count + results_of kind) ++ [])) + length (drop at blob) =
    ap (length {A = ℕ}) e ∙ length-append (lead ∷ (spelled_count kind (count + results_of kind) ++ [])) (drop at blob) in
    let within = r.within in
    record {
      ts = [];
      stand = tt;
      slot_is = refl;
      is = e;
      there = omega (arith, length-drop at blob);
      within = within;
      read = refl;
    }

count_within : (kind : Kind) (lead : ℕ) → (kind ≡ Field → ⊥) → IsLead kind lead → Within (IsNumberWord false) (IsBlob kind) (lead ∷ [])
count_within kind lead h a =
    record {
      close = λ v w.
          let types = chars (w.0 + results_of kind) in
          let many : length types ≡ w.0 + results_of kind = chars_length (w.0 + results_of kind) in
          let blob = whole_blob kind lead types a (subst (IsCount kind) (sym many) (is_count kind w.0 h w.1)) (chars_stand (w.0 + results_of kind) (first_slot kind)) in
          let same : begun kind lead (length types) types ≡ (lead ∷ []) ++ (v ++ flat_map spelled_way types) =
          ap (λ (x : List ℕ). lead ∷ (x ++ flat_map spelled_way types)) (ap (spelled_count kind) many ∙ spelled_count_counted kind w.0 h ∙ sym w.2) in
          (flat_map spelled_way types, subst (IsBlob kind) same blob);
      open_ = λ q x. count_open kind lead q x.1 x.2.0 h x.2.1.0 (x.3 ∙ ap (λ (y : List ℕ). y ++ x.1) x.2.1.1);
    }
  where
    count_begins : (kind : Kind) (n : ℕ) (q more : List ℕ) → (kind ≡ Field → ⊥) → IsCount kind n → q ≡ spelled_count kind n ++ more → Begins (IsNumberWord false) q
    count_begins Field n q more h c e = absurd (h refl)
    count_begins Locals n q more h c e = (spelling n, more, (n, c, refl), e)
    count_begins Method n q more h c e = let c1 = c.0 in let c2 = c.1 in (spelling (n - 1), more, (n - 1, omega arith, refl), e)
    count_begins Property n q more h c e = let c1 = c.0 in let c2 = c.1 in (spelling (n - 1), more, (n - 1, omega arith, refl), e)

    count_open : (kind : Kind) (lead : ℕ) (q more : List ℕ) (s : Sig) → (kind ≡ Field → ⊥) → IsSig kind s → (lead ∷ []) ++ q ≡ spelled kind s ++ more → Begins (IsNumberWord false) q
    count_open kind lead q more s h is e =
        let rest : q ≡ (spelled_count kind (length s.types) ++ flat_map spelled_way s.types) ++ more = cc in
        count_begins kind (length s.types) q (flat_map spelled_way s.types ++ more) h is.count (rest ∙ append_assoc (spelled_count kind (length s.types)) (flat_map spelled_way s.types) more)

-- the fault of the count
pub count_fault : (kind : Kind) (lead : ℕ) (blob : List ℕ) (fault : SigFault) → (kind ≡ Field → ⊥) → ReadsLead kind blob lead → IsFaultAt (IsNumberWord false) 1 (drop 1 blob) fault → IsSigFault (IsBlob kind) blob fault
count_fault kind lead blob fault h l f =
    subst (λ (x : List ℕ). IsSigFault (IsBlob kind) x fault) (sym l.is)
    (settle kind (IsNumberWord false) (lead ∷ []) (drop 1 blob) fault (count_within kind lead h l.lead) (omega arith) f)

pub one_derivation : HasOneDerivation
one_derivation kind blob s t g h =
    (sig_unique kind s t [] [] g.0 h.0 (ap (λ (x : List ℕ). x ++ []) (sym g.1 ∙ h.1))).0

-- a blob has no byte with which none goes on
whole_breaks : (kind : Kind) (blob : List ℕ) (place byte : ℕ) → IsBlob kind blob → Breaks (IsBlob kind) blob place byte → ⊥
whole_breaks kind blob place byte w b =
    b.stuck (b.rest, subst (IsBlob kind) (b.is ∙ sym (append_assoc b.front (byte ∷ []) b.rest)) w)

pub no_fault : HasNoFault
no_fault kind blob (Truncated place) w f = f.2 w
no_fault kind blob (BadElement place byte) w f = whole_breaks kind blob place byte w f.0
no_fault kind blob (OutOfProfile place byte) w f = whole_breaks kind blob place byte w f.0
no_fault kind blob (Trailing place) w f =
    let e = blob_ends kind (take place blob) (drop place blob) f.1 (subst (IsBlob kind) (sym (take-append-drop place blob)) w) in
    let none : length (drop place blob) ≡ 0 = ap (length {A = ℕ}) e in
    let short = f.0 in
    absurd (omega (arith, length-drop place blob))
