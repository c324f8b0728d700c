-- What a file says it says in one way.
use Rattle.std.proofs.Common.{◌≡◌, ℕ, ◌+◌, List, Option, Some, None, refl, sym, ap, ◌∙◌, subst, arith}
use Rattle.std.specs.Prelude.{true, false, not, eqb, ◌<◌, length, IfSome, IfNone}
use Rattle.std.specs.Option.{option_eq}
use Rattle.pe_image.specs.declared.headers.Format.{Format}
use Rattle.pe_image.specs.declared.headers.Format.TheVariants.{Pe32, Pe32Plus}
use Rattle.pe_image.specs.declared.headers.Headers.{Headers}
use Rattle.pe_image.specs.declared.sections.Section.{Section}
use Rattle.pe_image.specs.declared.sections.Span.{Span}
use Rattle.pe_image.specs.Number.{IsNumber, IsU16, IsU32}
use Rattle.pe_image.specs.Headers.{magic_of, pe_signature, IsPe}
use Rattle.pe_image.specs.Sections.{IsSection, range_at}
use Rattle.pe_image.specs.Cli.{Names, HasCli, directory_place}
use Rattle.pe_image.proofs.Options.{some_is}

pub if_none : {A : Type 0} (o : Option A) (P : Type 0) → P → IfNone o P
if_none None P p = p
if_none (Some x) P p = tt

pub one_number : (width : ℕ) (file : List ℕ) (place m n : ℕ) → IsNumber width file place m → IsNumber width file place n → m ≡ n
one_number width file place m n a b = sym a.value ∙ b.value

pub one_format : (f g : Format) → magic_of f ≡ magic_of g → f ≡ g
one_format Pe32 Pe32 e = refl
one_format Pe32 Pe32Plus e = absurd (omega (arith, e))
one_format Pe32Plus Pe32 e = absurd (omega (arith, e))
one_format Pe32Plus Pe32Plus e = refl

abbrev made : ℕ → ℕ → ℕ → Format → Headers
made signature count size format = record { signature = signature; section_count = count; optional_size = size; format = format }

pub one_pe : (file : List ℕ) (h g : Headers) → IsPe file h → IsPe file g → h ≡ g
one_pe file h g a b =
    let s : h.signature ≡ g.signature = one_number 4 file 0x3C _ _ a.named b.named in
    let n : h.section_count ≡ g.section_count = one_number 2 file (g.signature + 6) _ _ (subst (λ (x : ℕ). IsNumber 2 file (x + 6) h.section_count) s a.count) b.count in
    let z : h.optional_size ≡ g.optional_size = one_number 2 file (g.signature + 20) _ _ (subst (λ (x : ℕ). IsNumber 2 file (x + 20) h.optional_size) s a.size) b.size in
    let m : magic_of h.format ≡ magic_of g.format = one_number 2 file (g.signature + 24) _ _ (subst (λ (x : ℕ). IsNumber 2 file (x + 24) (magic_of h.format)) s a.magic) b.magic in
    let f = one_format h.format g.format m in
    ap (λ (x : ℕ). made x h.section_count h.optional_size h.format) s
    ∙ ap (λ (x : ℕ). made g.signature x h.optional_size h.format) n
    ∙ ap (λ (x : ℕ). made g.signature g.section_count x h.format) z
    ∙ ap (λ (x : Format). made g.signature g.section_count g.optional_size x) f

-- without one of the magics behind the signature there are no headers
pub no_pe : (file : List ℕ) (signature : ℕ) → IsU32 file 0x3C signature → ((format : Format) → IsU16 file (signature + 24) (magic_of format) → ⊥) → (h : Headers) → IsPe file h → ⊥
no_pe file signature named never h a =
    never h.format (subst (λ (x : ℕ). IsU16 file (x + 24) (magic_of h.format)) (one_number 4 file 0x3C _ _ a.named named) a.magic)

-- a number that was read and isn't the signature is no signature
pub not_signed : {file : List ℕ} (o : Option ℕ) (place : ℕ) → IfSome o (IsU32 file place) → IfNone o (length file < place + 4) → true ≡ not (option_eq eqb o (Some pe_signature)) → IsU32 file place pe_signature → ⊥
not_signed None place found past differs is = omega (arith, past, is.within)
not_signed {file} (Some n) place found past differs is =
    let same : n ≡ pe_signature = one_number 4 file place n pe_signature found is in
    let no : true ≡ false = subst (λ (m : ℕ). true ≡ not (eqb m pe_signature)) same differs in
    absurd cc

pub one_section : (file : List ℕ) (place : ℕ) (s t : Section) → IsSection file place s → IsSection file place t → s ≡ t
one_section file place s t a b = sym a.says ∙ b.says

pub one_metadata : (file : List ℕ) (ss : List Section) (cli m n : Span) → Names file ss cli m → Names file ss cli n → m ≡ n
one_metadata file ss cli m n a b =
    let at : a.address ≡ b.address = one_number 4 file (cli.start + 8) _ _ a.at b.at in
    let size : a.size ≡ b.size = one_number 4 file (cli.start + 12) _ _ a.long b.long in
    let same : range_at ss b.address b.size ≡ Some m = subst (λ (x : ℕ). range_at ss x b.size ≡ Some m) at (subst (λ (x : ℕ). range_at ss a.address x ≡ Some m) size a.range) in
    some_is m n (sym same ∙ b.range)

-- a CLI header that data directory 14 names is the one that it names
pub one_header : (file : List ℕ) (h : Headers) (ss : List Section) (address : ℕ) (cli c m : Span) → IsU32 file (directory_place h) address → range_at ss address 72 ≡ Some cli → HasCli file h ss c m → c ≡ cli
one_header file h ss address cli c m directory header has =
    let e : has.address ≡ address = one_number 4 file (directory_place h) _ _ has.directory directory in
    some_is c cli (sym has.header ∙ subst (λ (x : ℕ). range_at ss x 72 ≡ Some cli) (sym e) header)

pub no_names : (file : List ℕ) (h : Headers) (ss : List Section) (address : ℕ) (cli : Span) → IsU32 file (directory_place h) address → range_at ss address 72 ≡ Some cli → ((m : Span) → Names file ss cli m → ⊥) → (c m : Span) → HasCli file h ss c m → ⊥
no_names file h ss address cli directory header never c m has =
    never m (subst (λ (x : Span). Names file ss x m) (one_header file h ss address cli c m directory header has) has.names)

pub one_cli : (file : List ℕ) (h : Headers) (ss : List Section) (a b : Span × Span) → HasCli file h ss a.0 a.1 → HasCli file h ss b.0 b.1 → a ≡ b
one_cli file h ss a b p q =
    let cli : a.0 ≡ b.0 = one_header file h ss q.address b.0 a.0 a.1 q.directory q.header p in
    let metadata : a.1 ≡ b.1 = one_metadata file ss b.0 a.1 b.1 (subst (λ (x : Span). Names file ss x a.1) cli p.names) q.names in
    let first : ◌≡◌ {A = Span × Span} (a.0, a.1) (b.0, a.1) = ap (λ (x : Span). (x, a.1)) cli in
    let second : ◌≡◌ {A = Span × Span} (b.0, a.1) (b.0, b.1) = ap (λ (x : Span). (b.0, x)) metadata in
    first ∙ second
