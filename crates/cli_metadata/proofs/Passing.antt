-- Streams that pass the end, and the fault of the streams.
use Rattle.std.proofs.Common.{◌≡◌, ◌⊎◌, inl, inr, ℕ, zero, suc, ◌+◌, ◌<◌, ◌≤◌, List, length, true, cond, ltb, Option, None, Some, Ok, Err, refl, sym, ap, subst, ◌∙◌, arith}
use Rattle.std.specs.Prelude.{codes, Contains, min}
use Rattle.cli_metadata.specs.declared.fault.MetaFault.{MetaFault}
use Rattle.cli_metadata.specs.declared.fault.MetaCause.{MetaCause}
use Rattle.cli_metadata.specs.declared.fault.MetaCause.TheVariants.{BadRoot, BadStream}
use Rattle.cli_metadata.specs.declared.root.Stream.{Stream}
use Rattle.cli_metadata.specs.Standing.{Header, IsWithin}
use Rattle.cli_metadata.specs.Root.{root_of, headers_at, named, past_end, earlier, first_past_end, unless_past_end, streams_in, streams_of}
use Rattle.cli_metadata.specs.Wrong.{read_names, IsPassing, IsFirstPassing, IsWithoutTables, IsStreamWrong, IsNoRoot, IsHeaderMissing, IsWrong}
use Rattle.cli_metadata.proofs.Named.{named-is}
use Rattle.cli_metadata.proofs.Heads.{root-stands, root-read, headers-stand, headers-read}
use Rattle.cli_metadata.proofs.Inside.{first_named, first-as, all-within-stands}
use Rattle.cli_metadata.proofs.Fields.{fault, bind_err, le_or}
use Rattle.cli_metadata.proofs.Missing.{root-fails, root-meets, headers-fail, headers-meet}

-- ---- the earlier of two places

record Earlier (p q : Option ℕ) (m : ℕ) : Type 0 where
  one : (p ≡ Some m) ⊎ (q ≡ Some m)
  left : (x : ℕ) → p ≡ Some x → m ≤ x
  right : (x : ℕ) → q ≡ Some x → m ≤ x

some_is : (a b : ℕ) → (let o : Option ℕ = Some a in o) ≡ Some b → a ≡ b
some_is a b e = cc

is-earlier : (p q : Option ℕ) (m : ℕ) → earlier p q ≡ Some m → Earlier p q m
is-earlier None q m e = record {
  one = inr e;
  left = λ x z. absurd cc;
  right = λ x z. let same : m ≡ x = some_is m x (sym e ∙ z) in omega arith;
}
is-earlier (Some p) None m e = record {
  one = inl e;
  left = λ x z. let same : m ≡ x = some_is m x (sym e ∙ z) in omega arith;
  right = λ x z. absurd cc;
}
is-earlier (Some p) (Some q) m e =
    let least : min p q ≡ m = some_is (min p q) m e in
    record {
      one = elim (le_or p q) [
        | inl le ↦ inl (let same : p ≡ m = omega arith in ap (λ (n : ℕ). Some n) same)
        | inr lt ↦ inr (let same : q ≡ m = omega arith in ap (λ (n : ℕ). Some n) same)
      ];
      left = λ x z. let same : p ≡ x = some_is p x z in omega arith;
      right = λ x z. let same : q ≡ x = some_is q x z in omega arith;
    }

-- what is no later than the earlier of two is no later than each of them
below-earlier : (p q : Option ℕ) (m x : ℕ) → ((y : ℕ) → earlier p q ≡ Some y → m ≤ y) → (p ≡ Some x) ⊎ (q ≡ Some x) → m ≤ x
below-earlier None q m x low w = elim w [ inl e ↦ absurd cc | inr e ↦ low x e ]
below-earlier (Some p) None m x low w = elim w [ inl e ↦ low x e | inr e ↦ absurd cc ]
below-earlier (Some p) (Some q) m x low w =
    let least = low (min p q) refl in
    elim w [
      | inl e ↦ (let same : p ≡ x = some_is p x e in omega arith)
      | inr e ↦ (let same : q ≡ x = some_is q x e in omega arith)
    ]

-- ---- the names that are read

each_read : (P : List ℕ → Type 0) → P (codes "#~") → P (codes "#Strings") → P (codes "#US") → P (codes "#GUID") → P (codes "#Blob") → (name : List ℕ) → Contains read_names name → P name
each_read P a b c d e name (zero, lt, same) = subst P same a
each_read P a b c d e name (suc zero, lt, same) = subst P same b
each_read P a b c d e name (suc (suc zero), lt, same) = subst P same c
each_read P a b c d e name (suc (suc (suc zero)), lt, same) = subst P same d
each_read P a b c d e name (suc (suc (suc (suc zero))), lt, same) = subst P same e
each_read P a b c d e name (suc (suc (suc (suc (suc k)))), lt, same) = absurd (omega arith)

-- ---- the first that passes the end

passes_at : (len end place m : ℕ) → cond (ltb len end) (Some place) None ≡ Some m → (len < end) × (place ≡ m)
passes_at len end place m e = grind arith

past-some : (bytes : List ℕ) (s : Option Stream) (m : ℕ) → past_end bytes s ≡ Some m → (t : Stream) × (s ≡ Some t) × (length bytes < t.from + t.size) × (t.place ≡ m)
past-some bytes None m e = absurd cc
past-some bytes (Some t) m e = let w = passes_at (length bytes) (t.from + t.size) t.place m e in (t, refl, w.0, w.1)

past-is : (bytes : List ℕ) (t : Stream) → length bytes < t.from + t.size → past_end bytes (Some t) ≡ Some t.place
past-is bytes t lt =
    let past : ltb (length bytes) (t.from + t.size) ≡ true = grind arith in
    rw past refl

module _ (bytes : List ℕ) (headers : List Header) where
  abbrev past : List ℕ → Option ℕ
  past name = past_end bytes (named name headers)

  passing : (name : List ℕ) (m : ℕ) → Contains read_names name → past name ≡ Some m → (t : Stream) × IsPassing bytes headers t × (t.place ≡ m)
  passing name m read e =
      let w = past-some bytes (named name headers) m e in
      (w.0, record { name = name; read = read; first = first-as name headers (Some w.0) w.1; passes = w.2 }, w.3)

  -- the least of the places
  least : (m : ℕ) → first_past_end bytes (first_named headers) ≡ Some m → ((t : Stream) × IsPassing bytes headers t × (t.place ≡ m)) × ((name : List ℕ) → Contains read_names name → (x : ℕ) → past name ≡ Some x → m ≤ x)
  least m e =
      let t = past (codes "#~") in
      let s = past (codes "#Strings") in
      let u = past (codes "#US") in
      let g = past (codes "#GUID") in
      let b = past (codes "#Blob") in
      let whole = is-earlier (earlier (earlier t s) u) (earlier g b) m e in
      elim whole.one [
        | inl a ↦ (let front = is-earlier (earlier t s) u m a in
            let low_back : (x : ℕ) → (g ≡ Some x) ⊎ (b ≡ Some x) → m ≤ x = λ x z. below-earlier g b m x whole.right z in
            elim front.one [
              | inl c ↦ (let two = is-earlier t s m c in (
                elim two.one [
                  | inl d ↦ passing (codes "#~") m (0, omega arith, refl) d
                  | inr d ↦ passing (codes "#Strings") m (1, omega arith, refl) d
                ],
                each_read (λ (name : List ℕ). (x : ℕ) → past name ≡ Some x → m ≤ x) two.left two.right front.right (λ x z. low_back x (inl z)) (λ x z. low_back x (inr z)),
              ))
              | inr c ↦ (
                passing (codes "#US") m (2, omega arith, refl) c,
                each_read (λ (name : List ℕ). (x : ℕ) → past name ≡ Some x → m ≤ x) (λ x z. below-earlier t s m x front.left (inl z)) (λ x z. below-earlier t s m x front.left (inr z)) front.right (λ x z. low_back x (inl z)) (λ x z. low_back x (inr z)),
              )
            ])
        | inr a ↦ (let back = is-earlier g b m a in
            let low_two : (x : ℕ) → earlier t s ≡ Some x → m ≤ x = λ x z. below-earlier (earlier t s) u m x whole.left (inl z) in (
              elim back.one [
                | inl d ↦ passing (codes "#GUID") m (3, omega arith, refl) d
                | inr d ↦ passing (codes "#Blob") m (4, omega arith, refl) d
              ],
              each_read (λ (name : List ℕ). (x : ℕ) → past name ≡ Some x → m ≤ x) (λ x z. below-earlier t s m x low_two (inl z)) (λ x z. below-earlier t s m x low_two (inr z))
                  (λ x z. below-earlier (earlier t s) u m x whole.left (inr z)) back.left back.right,
            ))
      ]

  pub first-passing : (m : ℕ) → first_past_end bytes (first_named headers) ≡ Some m → IsFirstPassing bytes headers m
  first-passing m e =
      let w = least m e in
      record {
        stream = w.0.0;
        passing = w.0.1;
        its = w.0.2;
        least = λ s p. w.1 p.name p.read s.place (ap (past_end bytes) (named-is p.name headers (Some s) p.first) ∙ past-is bytes s p.passes);
      }

  none-passing : first_past_end bytes (first_named headers) ≡ None → (s : Stream) → ¬ (IsPassing bytes headers s)
  none-passing e s p =
      let w = all-within-stands bytes (first_named headers) e in
      let within : IsWithin (length bytes) (named p.name headers) = each_read (λ (name : List ℕ). IsWithin (length bytes) (named name headers)) w.tables w.strings w.user_strings w.guids w.blobs p.name p.read in
      let its : IsWithin (length bytes) (Some s) = subst (λ (x : Option Stream). IsWithin (length bytes) x) (named-is p.name headers (Some s) p.first) within in
      let passes = p.passes in
      omega arith

  -- ---- the fault of the streams

  streams-in-fails-by : (end : ℕ) (f : MetaFault) (p : Option ℕ) (t : Option Stream) → first_past_end bytes (first_named headers) ≡ p → named (codes "#~") headers ≡ t → unless_past_end p end (first_named headers) t ≡ Err f
      → (f.cause ≡ BadStream) × (IsFirstPassing bytes headers f.place ⊎ IsWithoutTables bytes headers end f.place)
  streams-in-fails-by end f (Some place) t pe te e =
      let same : fault BadStream place ≡ f = cc in
      (ap (λ (g : MetaFault). g.cause) (sym same), inl (subst (λ (g : MetaFault). IsFirstPassing bytes headers g.place) same (first-passing place pe)))
  streams-in-fails-by end f None None pe te e =
      let same : fault BadStream end ≡ f = cc in
      (ap (λ (g : MetaFault). g.cause) (sym same), inr (record { within = none-passing pe; missing = first-as (codes "#~") headers None te; its = ap (λ (g : MetaFault). g.place) (sym same) }))
  streams-in-fails-by end f None (Some t) pe te e = absurd cc

  pub streams-in-fails : (end : ℕ) (f : MetaFault) → streams_in bytes end (first_named headers) ≡ Err f → (f.cause ≡ BadStream) × (IsFirstPassing bytes headers f.place ⊎ IsWithoutTables bytes headers end f.place)
  streams-in-fails end f e = streams-in-fails-by end f (first_past_end bytes (first_named headers)) (named (codes "#~") headers) refl refl e

  the-first : (place : ℕ) (p : Option ℕ) → first_past_end bytes (first_named headers) ≡ p → IsFirstPassing bytes headers place → p ≡ Some place
  the-first place None e w = absurd (none-passing e w.stream w.passing)
  the-first place (Some m) e w =
      let v = first-passing m e in
      let a = w.least v.stream v.passing in
      let b = v.least w.stream w.passing in
      let here = w.its in
      let there = v.its in
      let same : m ≡ place = omega arith in
      ap (λ (n : ℕ). Some n) same

  no-first : (p : Option ℕ) → first_past_end bytes (first_named headers) ≡ p → ((s : Stream) → ¬ (IsPassing bytes headers s)) → p ≡ None
  no-first None e w = refl
  no-first (Some m) e w = let v = first-passing m e in absurd (w v.stream v.passing)

  pub streams-in-meets : (end place : ℕ) → IsFirstPassing bytes headers place ⊎ IsWithoutTables bytes headers end place → streams_in bytes end (first_named headers) ≡ Err (fault BadStream place)
  streams-in-meets end place w = elim w [
    | inl a ↦ ap (λ (p : Option ℕ). unless_past_end p end (first_named headers) (named (codes "#~") headers)) (the-first place (first_past_end bytes (first_named headers)) refl a)
    | inr a ↦ (ap (λ (p : Option ℕ). unless_past_end p end (first_named headers) (named (codes "#~") headers)) (no-first (first_past_end bytes (first_named headers)) refl a.within)
        ∙ ap (λ (t : Option Stream). unless_past_end None end (first_named headers) t) (named-is (codes "#~") headers None a.missing)
        ∙ ap (λ (n : ℕ). Err (fault BadStream n)) (sym a.its))
  ]

pub streams-fail : (bytes : List ℕ) (f : MetaFault) → streams_of bytes ≡ Err f → IsWrong bytes f.place f.cause
unfolding streams_of
streams-fail bytes f e = elim (bind_err (root_of bytes) _ f e) [
  | inl a ↦ (let w = root-fails bytes f a in
      subst (λ (c : MetaCause). IsWrong bytes f.place c) (sym w.0) (inl w.1))
  | inr a ↦ elim (bind_err (headers_at a.0.count bytes a.0.at) _ f a.2) [
    | inl b ↦ (let w = headers-fail a.0.count bytes a.0.at f b in
        let missing : IsHeaderMissing bytes f.place = record { count = a.0.count; at = a.0.at; end = w.1.end; headers = w.1.headers; root = root-stands bytes a.0 a.1; stand = w.1.stand; few = w.1.few; missing = w.1.missing } in
        subst (λ (c : MetaCause). IsWrong bytes f.place c) (sym w.0) (inr missing))
    | inr b ↦ (let w = streams-in-fails bytes b.0.0 b.0.1 f b.2 in
        let h = headers-stand a.0.count bytes a.0.at b.0 b.1 in
        let wrong : IsStreamWrong bytes f.place = record { count = a.0.count; at = a.0.at; end = b.0.1; headers = b.0.0; root = root-stands bytes a.0 a.1; stand = h.0; counted = h.1; wrong = w.1 } in
        subst (λ (c : MetaCause). IsWrong bytes f.place c) (sym w.0) wrong)
  ]
]

pub no-root-meets : (bytes : List ℕ) (place : ℕ) → IsNoRoot bytes place ⊎ IsHeaderMissing bytes place → streams_of bytes ≡ Err (fault BadRoot place)
unfolding streams_of
no-root-meets bytes place w = elim w [
  | inl a ↦ (let none = root-meets bytes place a in rw none refl)
  | inr a ↦ (let root = root-read bytes a.count a.at a.root in
      let none = headers-meet a.headers a.count bytes a.at a.end place a.stand a.few a.missing in
      rw (root, none) refl)
]

pub no-streams-meet : (bytes : List ℕ) (place : ℕ) → IsStreamWrong bytes place → streams_of bytes ≡ Err (fault BadStream place)
unfolding streams_of
no-streams-meet bytes place w =
    let root = root-read bytes w.count w.at w.root in
    let headers : headers_at w.count bytes w.at ≡ Ok (w.headers, w.end) = ap (λ (n : ℕ). headers_at n bytes w.at) (sym w.counted) ∙ headers-read w.headers bytes w.at w.end w.stand in
    let whole : streams_of bytes ≡ streams_in bytes w.end (first_named w.headers) = rw (root, headers) refl in
    whole ∙ streams-in-meets bytes w.headers w.end place w.wrong
