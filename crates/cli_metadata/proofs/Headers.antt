-- A walk over stream headers.
use Rattle.std.proofs.Common.{◌≡◌, ℕ, suc, ◌+◌, ◌-◌, ◌<◌, ◌≤◌, List, [], ◌∷◌, true, false, Option, None, Some, Result, Ok, Err, refl, sym, ap, subst, ◌∙◌, arith}
use Rattle.std.specs.Prelude.{IsOk}
use Rattle.std.specs.Str.{bytes_eq}
use Rattle.cli_metadata.specs.declared.fault.MetaFault.{MetaFault}
use Rattle.cli_metadata.specs.declared.root.Stream.{Stream}
use Rattle.cli_metadata.specs.Reading.{◌>>=◌}
use Rattle.cli_metadata.specs.Standing.{Header}
use Rattle.cli_metadata.specs.Root.{header_at, headers_at, named_in, end_of, found_in, streams_in}

abbrev after : Header → Result (List Header × ℕ) MetaFault → Result (List Header × ℕ) MetaFault
after h others = others >>= λ o. Ok (h ∷ o.0, o.1)

-- a header, and then those behind it
pub headers-more : (count i : ℕ) (bytes : List ℕ) (at : ℕ) (h : Header) → i < count → header_at bytes at ≡ Ok h
    → headers_at (count - i) bytes at ≡ after h (headers_at (count - (i + 1)) bytes h.next)
unfolding headers_at
headers-more count i bytes at h lt e =
    let k : count - i ≡ suc (count - (i + 1)) = omega arith in
    rw (k, e) refl

pub headers-err : (count i : ℕ) (bytes : List ℕ) (at : ℕ) (f : MetaFault) → i < count → header_at bytes at ≡ Err f
    → headers_at (count - i) bytes at ≡ Err f
unfolding headers_at
headers-err count i bytes at f lt e =
    let k : count - i ≡ suc (count - (i + 1)) = omega arith in
    rw (k, e) refl

pub headers-none : (count i : ℕ) (bytes : List ℕ) (at : ℕ) → count ≤ i → headers_at (count - i) bytes at ≡ Ok ([], at)
unfolding headers_at
headers-none count i bytes at le =
    let k : count - i ≡ 0 = omega arith in
    rw k refl

end-after : (h : Header) (r : Result (List Header × ℕ) MetaFault) → end_of (after h r) ≡ end_of r
end-after h (Ok o) = refl
end-after h (Err e) = refl

pub end-more : (count i : ℕ) (bytes : List ℕ) (at : ℕ) (h : Header) (total : Result ℕ MetaFault) → i < count → header_at bytes at ≡ Ok h
    → end_of (headers_at (count - i) bytes at) ≡ total → end_of (headers_at (count - (i + 1)) bytes h.next) ≡ total
end-more count i bytes at h total lt e so =
    sym (end-after h (headers_at (count - (i + 1)) bytes h.next)) ∙ ap end_of (sym (headers-more count i bytes at h lt e)) ∙ so

pub end-err : (count i : ℕ) (bytes : List ℕ) (at : ℕ) (f : MetaFault) (total : Result ℕ MetaFault) → i < count → header_at bytes at ≡ Err f
    → end_of (headers_at (count - i) bytes at) ≡ total → Err f ≡ total
end-err count i bytes at f total lt e so = ap end_of (sym (headers-err count i bytes at f lt e)) ∙ so

pub end-none : (count i : ℕ) (bytes : List ℕ) (at : ℕ) (total : Result ℕ MetaFault) → count ≤ i
    → end_of (headers_at (count - i) bytes at) ≡ total → Ok at ≡ total
end-none count i bytes at total le so = ap end_of (sym (headers-none count i bytes at le)) ∙ so

-- ---- the first of a name

-- what a search still has to find
pub record Seeks (name : List ℕ) (left : Result (List Header × ℕ) MetaFault) (found : Option Stream) : Type 0 where
  pub same : named_in name left ≡ found
  pub stands : IsOk left

named-hit : (name : List ℕ) (h : Header) (r : Result (List Header × ℕ) MetaFault) → IsOk (after h r) → bytes_eq h.name name ≡ true → named_in name (after h r) ≡ Some h.stream
named-hit name h (Ok o) ok e = rw e refl
named-hit name h (Err f) ok e = absurd cc

named-miss : (name : List ℕ) (h : Header) (r : Result (List Header × ℕ) MetaFault) → IsOk (after h r) → bytes_eq h.name name ≡ false → (named_in name (after h r) ≡ named_in name r) × IsOk r
named-miss name h (Ok o) ok e = (rw e refl, refl)
named-miss name h (Err f) ok e = absurd cc

pub seeks-hit : (name : List ℕ) (count i : ℕ) (bytes : List ℕ) (at : ℕ) (h : Header) (found : Option Stream) → i < count → header_at bytes at ≡ Ok h → bytes_eq h.name name ≡ true
    → Seeks name (headers_at (count - i) bytes at) found → Some h.stream ≡ found
seeks-hit name count i bytes at h found lt e eq s =
    let m = headers-more count i bytes at h lt e in
    let ok : IsOk (after h (headers_at (count - (i + 1)) bytes h.next)) = subst (λ (r : Result (List Header × ℕ) MetaFault). IsOk r) m s.stands in
    sym (named-hit name h (headers_at (count - (i + 1)) bytes h.next) ok eq) ∙ ap (named_in name) (sym m) ∙ s.same

pub seeks-miss : (name : List ℕ) (count i : ℕ) (bytes : List ℕ) (at : ℕ) (h : Header) (found : Option Stream) → i < count → header_at bytes at ≡ Ok h → bytes_eq h.name name ≡ false
    → Seeks name (headers_at (count - i) bytes at) found → Seeks name (headers_at (count - (i + 1)) bytes h.next) found
seeks-miss name count i bytes at h found lt e eq s =
    let m = headers-more count i bytes at h lt e in
    let ok : IsOk (after h (headers_at (count - (i + 1)) bytes h.next)) = subst (λ (r : Result (List Header × ℕ) MetaFault). IsOk r) m s.stands in
    let w = named-miss name h (headers_at (count - (i + 1)) bytes h.next) ok eq in
    record { same = sym w.0 ∙ ap (named_in name) (sym m) ∙ s.same; stands = w.1 }

pub seeks-err : (name : List ℕ) (count i : ℕ) (bytes : List ℕ) (at : ℕ) (f : MetaFault) (found : Option Stream) → i < count → header_at bytes at ≡ Err f
    → Seeks name (headers_at (count - i) bytes at) found → None ≡ found
seeks-err name count i bytes at f found lt e s = ap (named_in name) (sym (headers-err count i bytes at f lt e)) ∙ s.same

pub seeks-none : (name : List ℕ) (count i : ℕ) (bytes : List ℕ) (at : ℕ) (found : Option Stream) → count ≤ i
    → Seeks name (headers_at (count - i) bytes at) found → None ≡ found
seeks-none name count i bytes at found le s = ap (named_in name) (sym (headers-none count i bytes at le)) ∙ s.same

-- ---- the streams

pub stands : (r : Result (List Header × ℕ) MetaFault) (end : ℕ) → Ok end ≡ end_of r → IsOk r
stands (Ok o) end e = refl
stands (Err f) end e = absurd cc

pub streams-end : (bytes : List ℕ) (r : Result (List Header × ℕ) MetaFault) (end : ℕ) → Ok end ≡ end_of r
    → (r >>= λ headers. streams_in bytes headers.1 (found_in (Ok headers))) ≡ streams_in bytes end (found_in r)
streams-end bytes (Ok o) end e =
    let same : end ≡ o.1 = cc in
    ap (λ (n : ℕ). streams_in bytes n (found_in (Ok o))) (sym same)
streams-end bytes (Err f) end e = absurd cc

pub streams-err : (bytes : List ℕ) (r : Result (List Header × ℕ) MetaFault) (f : MetaFault) → Err f ≡ end_of r
    → (r >>= λ headers. streams_in bytes headers.1 (found_in (Ok headers))) ≡ Err f
streams-err bytes (Ok o) f e = absurd cc
streams-err bytes (Err g) f e = cc
