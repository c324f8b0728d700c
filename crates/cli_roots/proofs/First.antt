-- Behind some tokens those of the first rows.
use Rattle.std.proofs.Common.{◌≡◌, ◌∙◌, ℕ, ◌+◌, ◌<◌, List, [], ◌++◌, length, inl, inr, sym, ap, subst, arith, Contains}
use Rattle.std.proofs.lemmas.Bool.{cases_lt}
use Rattle.std.proofs.lemmas.List.Elements.{Contains-append_left, Contains-append_right, Contains-append_cases}
use Rattle.dc_base.specs.declared.names.Token.{Token}
use Rattle.std.specs.Option.{option_to_list}
use Rattle.cli_metadata.specs.Metadata.{Contents, rows_of, coded_of}
use Rattle.cli_tables.specs.declared.members.MethodImplRow.{MethodImplRow}
use Rattle.cli_tables.specs.declared.types.InterfaceImplRow.{InterfaceImplRow}
use Rattle.cli_tables.specs.declared.types.TypeDefRow.{TypeDefRow}
use Rattle.cli_signature.specs.declared.kind.Kind.TheVariants.{Field, Method, Property}
use Rattle.cli_sig_tokens.specs.Laws.{TokensAreOne}
use Rattle.cli_roots.specs.declared.own.Own.{Own}
use Rattle.cli_roots.specs.declared.own.Own.TheVariants as own
use Rattle.cli_roots.specs.Own.{table_of, type_def_at, interface_impl_at, method_impl_at, AreNamedBy, IsNamedIn, AreOwnTokens, AreFirstRows}

one_list : TokensAreOne → (m : Contents) (table : Own) (r : ℕ) (a b : List Token) → AreNamedBy m table r a → AreNamedBy m table r b → a ≡ b
one_list one m own.Types r a b is by = is ∙ sym by
one_list one m own.Interfaces r a b is by = is ∙ sym by
one_list one m own.Fields r a b is by = one m Field _ a b is by
one_list one m own.Methods r a b is by = one m Method _ a b is by
one_list one m own.Properties r a b is by = one m Property _ a b is by
one_list one m own.Implementations r a b is by = is ∙ sym by

pub none_yet : (m : Contents) (table : Own) (before : List Token) → AreFirstRows m table 0 before before
none_yet m table before = record {
  kept = λ t at. at;
  more = λ t r le at. (let low = at.low in absurd (omega (arith, le, low)));
  only = λ t at. inl at;
}

pub one_more : TokensAreOne → (m : Contents) (table : Own) (k : ℕ) (before found here after : List Token) → k < rows_of m (table_of table) → AreNamedBy m table (k + 1) here → after ≡ found ++ here → AreFirstRows m table k before found → AreFirstRows m table (k + 1) before after
one_more one m table k before found here after lt named is so =
    let back = λ (t : Token) (at : Contains (found ++ here) t). subst (λ (xs : List Token). Contains xs t) (sym is) at in
    record {
      kept = λ t at. back t (Contains-append_left found here t (so.kept t at));
      more = λ t r le at. elim (cases_lt r (k + 1)) [
        | inl below ↦ back t (Contains-append_left found here t (so.more t r (omega (arith, below)) at))
        | inr from ↦
            let same : r ≡ k + 1 = omega (arith, le, from) in
            let list : at.tokens ≡ here = one_list one m table (k + 1) at.tokens here (subst (λ (n : ℕ). AreNamedBy m table n at.tokens) same at.named) named in
            back t (Contains-append_right found here t (subst (λ (xs : List Token). Contains xs t) list at.among))
      ];
      only = λ t at. elim (Contains-append_cases found here t (subst (λ (xs : List Token). Contains xs t) is at)) [
        | inl old ↦ elim (so.only t old) [
          | inl first ↦ inl first
          | inr row ↦ (let le = row.1 in inr (row.0, omega (arith, le), row.2))
        ]
        | inr new ↦ inr (k + 1, omega arith, record { low = omega arith; high = omega (arith, lt); tokens = here; named = named; among = new })
      ];
    }

pub of_type : (m : Contents) (r : ℕ) (row : TypeDefRow) (tokens : List Token) → row ≡ type_def_at m r → tokens ≡ option_to_list (coded_of row.extends.kind row.extends.cell) → AreNamedBy m own.Types r tokens
of_type m r row tokens is are = are ∙ ap (λ (x : TypeDefRow). option_to_list (coded_of x.extends.kind x.extends.cell)) is

pub of_interface : (m : Contents) (r : ℕ) (row : InterfaceImplRow) (tokens : List Token) → row ≡ interface_impl_at m r → tokens ≡ option_to_list (coded_of row.interface.kind row.interface.cell) → AreNamedBy m own.Interfaces r tokens
of_interface m r row tokens is are = are ∙ ap (λ (x : InterfaceImplRow). option_to_list (coded_of x.interface.kind x.interface.cell)) is

abbrev pub methods_of : MethodImplRow → List Token
methods_of row = option_to_list (coded_of row.body.kind row.body.cell) ++ option_to_list (coded_of row.declaration.kind row.declaration.cell)

pub of_implementation : (m : Contents) (r : ℕ) (row : MethodImplRow) (tokens : List Token) → row ≡ method_impl_at m r → tokens ≡ methods_of row → AreNamedBy m own.Implementations r tokens
of_implementation m r row tokens is are = are ∙ ap methods_of is

abbrev rows : Contents → Own → ℕ
rows m table = rows_of m (table_of table)

-- one table behind the other
named : (m : Contents) (table : Own) (before after : List Token) (token : Token) → AreFirstRows m table (rows m table) before after → IsNamedIn m table token → Contains after token
named m table before after token are at = are.more token at.0 at.1.high at.1

pub record AreSix (m : Contents) (none a b c d e f : List Token) : Type 0 where
  pub empty : none ≡ []
  pub types : AreFirstRows m own.Types (rows m own.Types) none a
  pub interfaces : AreFirstRows m own.Interfaces (rows m own.Interfaces) a b
  pub fields : AreFirstRows m own.Fields (rows m own.Fields) b c
  pub methods : AreFirstRows m own.Methods (rows m own.Methods) c d
  pub properties : AreFirstRows m own.Properties (rows m own.Properties) d e
  pub implementations : AreFirstRows m own.Implementations (rows m own.Implementations) e f

all_of : (m : Contents) (none a b c d e f : List Token) → AreSix m none a b c d e f → (table : Own) (token : Token) → IsNamedIn m table token → Contains f token
all_of m none a b c d e f six own.Types t at = six.implementations.kept t (six.properties.kept t (six.methods.kept t (six.fields.kept t (six.interfaces.kept t (named m own.Types none a t six.types at)))))
all_of m none a b c d e f six own.Interfaces t at = six.implementations.kept t (six.properties.kept t (six.methods.kept t (six.fields.kept t (named m own.Interfaces a b t six.interfaces at))))
all_of m none a b c d e f six own.Fields t at = six.implementations.kept t (six.properties.kept t (six.methods.kept t (named m own.Fields b c t six.fields at)))
all_of m none a b c d e f six own.Methods t at = six.implementations.kept t (six.properties.kept t (named m own.Methods c d t six.methods at))
all_of m none a b c d e f six own.Properties t at = six.implementations.kept t (named m own.Properties d e t six.properties at)
all_of m none a b c d e f six own.Implementations t at = named m own.Implementations e f t six.implementations at

abbrev OfSome : Contents → Token → Type 0
OfSome m token = (table : Own) × IsNamedIn m table token

back : (m : Contents) (table : Own) (before after : List Token) (token : Token) → AreFirstRows m table (rows m table) before after → (Contains before token → OfSome m token) → Contains after token → OfSome m token
back m table before after token are old at = elim (are.only token at) [
  | inl first ↦ old first
  | inr row ↦ (table, (row.0, row.2))
]

none_in_empty : (xs : List Token) (x : Token) → xs ≡ [] → Contains xs x → ⊥
none_in_empty xs x is h = let lt = h.1 in let none : length xs ≡ 0 = ap (λ (ys : List Token). length ys) is in omega (arith, lt, none)

pub are_own : (m : Contents) (none a b c d e f : List Token) → AreSix m none a b c d e f → AreOwnTokens m f
are_own m none a b c d e f six = record {
  all = all_of m none a b c d e f six;
  only = λ t at.
      back m own.Implementations e f t six.implementations
      (back m own.Properties d e t six.properties
      (back m own.Methods c d t six.methods
      (back m own.Fields b c t six.fields
      (back m own.Interfaces a b t six.interfaces
      (back m own.Types none a t six.types (λ old. absurd (none_in_empty none t six.empty old))))))) at;
}
