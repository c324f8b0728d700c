-- The streams, as they are read and as they stand.
use Rattle.std.proofs.Common.{◌≡◌, ℕ, ◌+◌, ◌≤◌, List, length, Bool, true, false, cond, ltb, Option, None, Some, Ok, refl, sym, ap, subst, ◌∙◌, arith}
use Rattle.std.specs.Prelude.{codes}
use Rattle.std.proofs.lemmas.Bool.{le-ltb}
use Rattle.cli_metadata.specs.declared.root.Stream.{Stream}
use Rattle.cli_metadata.specs.declared.root.Streams.{Streams}
use Rattle.cli_metadata.specs.declared.root.Found.{Found}
use Rattle.cli_metadata.specs.Standing.{Header, IsWithin, AreWithin}
use Rattle.cli_metadata.specs.Root.{root_of, headers_at, named, past_end, earlier, first_past_end, unless_past_end, streams_in, streams_of, AreWithinAll}
use Rattle.cli_metadata.specs.Standing.{IsFirstNamed, AreStreams}
use Rattle.cli_metadata.proofs.Places.{ok_is, bind_ok}
use Rattle.cli_metadata.proofs.Named.{is-first, named-is}
use Rattle.cli_metadata.proofs.Heads.{root-stands, root-read, headers-stand, headers-read}

-- ---- within the bytes

earlier-none : (p q : Option ℕ) → earlier p q ≡ None → (p ≡ None) × (q ≡ None)
earlier-none None q e = (refl, e)
earlier-none (Some p) None e = absurd cc
earlier-none (Some p) (Some q) e = absurd cc

within-goes : (len end place : ℕ) → cond (ltb len end) (Some place) None ≡ None → end ≤ len
within-goes len end place e = elim (ltb len end) as (λ (b : Bool). ltb len end ≡ b → cond b (Some place) None ≡ None → end ≤ len) [
  | true ↦ λ t g. absurd cc
  | false ↦ λ t g. grind arith
] refl e

within-stands : (bytes : List ℕ) (s : Option Stream) → past_end bytes s ≡ None → IsWithin (length bytes) s
within-stands bytes None e = tt
within-stands bytes (Some s) e = within-goes (length bytes) (s.from + s.size) s.place e

within-read : (bytes : List ℕ) (s : Option Stream) → IsWithin (length bytes) s → past_end bytes s ≡ None
within-read bytes None w = refl
within-read bytes (Some s) w =
    let past : ltb (length bytes) (s.from + s.size) ≡ false = le-ltb (length bytes) (s.from + s.size) w in
    rw past refl

pub all-within-stands : (bytes : List ℕ) (found : Found) → first_past_end bytes found ≡ None → AreWithinAll (length bytes) found
all-within-stands bytes found e =
    let t = past_end bytes found.tables in
    let s = past_end bytes found.strings in
    let u = past_end bytes found.user_strings in
    let g = past_end bytes found.guids in
    let b = past_end bytes found.blobs in
    let top = earlier-none (earlier (earlier t s) u) (earlier g b) e in
    let front = earlier-none (earlier t s) u top.0 in
    let two = earlier-none t s front.0 in
    let back = earlier-none g b top.1 in
    record {
      tables = within-stands bytes found.tables two.0;
      strings = within-stands bytes found.strings two.1;
      user_strings = within-stands bytes found.user_strings front.1;
      guids = within-stands bytes found.guids back.0;
      blobs = within-stands bytes found.blobs back.1;
    }

all-within-read : (bytes : List ℕ) (found : Found) → AreWithinAll (length bytes) found → first_past_end bytes found ≡ None
all-within-read bytes found w =
    let t = within-read bytes found.tables w.tables in
    let s = within-read bytes found.strings w.strings in
    let u = within-read bytes found.user_strings w.user_strings in
    let g = within-read bytes found.guids w.guids in
    let b = within-read bytes found.blobs w.blobs in
    rw (t, s, u, g, b) refl

-- ---- the streams

-- what was found, where there is a stream of tables
record Has (found : Found) (s : Streams) : Type 0 where
  tables : found.tables ≡ Some s.tables
  strings : found.strings ≡ s.strings
  user_strings : found.user_strings ≡ s.user_strings
  blobs : found.blobs ≡ s.blobs

unless-goes : (p : Option ℕ) (end : ℕ) (found : Found) (t : Option Stream) (s : Streams) → found.tables ≡ t → unless_past_end p end found t ≡ Ok s → (p ≡ None) × Has found s
unless-goes (Some place) end found t s is e = absurd cc
unless-goes None end found None s is e = absurd cc
unless-goes None end found (Some tables) s is e =
    let made : Streams = record { tables = tables; strings = found.strings; user_strings = found.user_strings; blobs = found.blobs } in
    let has : Has found made = record { tables = is; strings = refl; user_strings = refl; blobs = refl } in
    (refl, subst (λ (x : Streams). Has found x) (ok_is made s e) has)

abbrev pub first_named : List Header → Found
first_named headers = record {
  tables = named (codes "#~") headers;
  strings = named (codes "#Strings") headers;
  user_strings = named (codes "#US") headers;
  guids = named (codes "#GUID") headers;
  blobs = named (codes "#Blob") headers;
}

within-of : (len : ℕ) (found : Found) (s : Streams) → Has found s → AreWithinAll len found → AreWithin len s
within-of len found s h w = record {
  tables = subst (λ (x : Option Stream). IsWithin len x) h.tables w.tables;
  strings = subst (λ (x : Option Stream). IsWithin len x) h.strings w.strings;
  user_strings = subst (λ (x : Option Stream). IsWithin len x) h.user_strings w.user_strings;
  blobs = subst (λ (x : Option Stream). IsWithin len x) h.blobs w.blobs;
}

pub first-as : (name : List ℕ) (headers : List Header) (s : Option Stream) → named name headers ≡ s → IsFirstNamed name headers s
first-as name headers s e = subst (λ (x : Option Stream). IsFirstNamed name headers x) e (is-first name headers)

pub streams-stand : (bytes : List ℕ) (s : Streams) → streams_of bytes ≡ Ok s → AreStreams bytes s
unfolding streams_of
streams-stand bytes s e =
    let a = bind_ok (root_of bytes) _ s e in
    let b = bind_ok (headers_at a.0.count bytes a.0.at) _ s a.2 in
    let found = first_named b.0.0 in
    let c = unless-goes (first_past_end bytes found) b.0.1 found found.tables s refl b.2 in
    let w = all-within-stands bytes found c.0 in
    let h = headers-stand a.0.count bytes a.0.at b.0 b.1 in
    record {
      count = a.0.count;
      at = a.0.at;
      end = b.0.1;
      headers = b.0.0;
      guids = named (codes "#GUID") b.0.0;
      root = root-stands bytes a.0 a.1;
      stand = h.0;
      counted = h.1;
      tables_named = first-as (codes "#~") b.0.0 (Some s.tables) c.1.tables;
      strings_named = first-as (codes "#Strings") b.0.0 s.strings c.1.strings;
      user_strings_named = first-as (codes "#US") b.0.0 s.user_strings c.1.user_strings;
      guids_named = is-first (codes "#GUID") b.0.0;
      blobs_named = first-as (codes "#Blob") b.0.0 s.blobs c.1.blobs;
      within = within-of (length bytes) found s c.1 w;
      guids_within = w.guids;
    }

pub streams-read : (bytes : List ℕ) (s : Streams) → AreStreams bytes s → streams_of bytes ≡ Ok s
unfolding streams_of
streams-read bytes s w =
    let root = root-read bytes w.count w.at w.root in
    let headers : headers_at w.count bytes w.at ≡ Ok (w.headers, w.end) = ap (λ (n : ℕ). headers_at n bytes w.at) (sym w.counted) ∙ headers-read w.headers bytes w.at w.end w.stand in
    let t = named-is (codes "#~") w.headers (Some s.tables) w.tables_named in
    let n = named-is (codes "#Strings") w.headers s.strings w.strings_named in
    let u = named-is (codes "#US") w.headers s.user_strings w.user_strings_named in
    let g = named-is (codes "#GUID") w.headers w.guids w.guids_named in
    let b = named-is (codes "#Blob") w.headers s.blobs w.blobs_named in
    let found : Found = record { tables = Some s.tables; strings = s.strings; user_strings = s.user_strings; guids = w.guids; blobs = s.blobs } in
    let same : first_named w.headers ≡ found = rw (t, n, u, g, b) refl in
    let all : AreWithinAll (length bytes) found = record { tables = w.within.tables; strings = w.within.strings; user_strings = w.within.user_strings; guids = w.guids_within; blobs = w.within.blobs } in
    let none : first_past_end bytes found ≡ None = all-within-read bytes found all in
    let last : streams_in bytes w.end found ≡ Ok s = ap (λ (p : Option ℕ). unless_past_end p w.end found (Some s.tables)) none in
    let whole : streams_of bytes ≡ streams_in bytes w.end (first_named w.headers) = rw (root, headers) refl in
    whole ∙ ap (streams_in bytes w.end) same ∙ last
