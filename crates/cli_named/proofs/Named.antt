-- What was read of a row.
use Rattle.std.proofs.Common.{◌≡◌, ◌∙◌, ℕ, ◌+◌, ◌*◌, ◌/◌, ◌%◌, ◌^◌, ◌<◌, ◌≤◌, List, [], ◌∷◌, ◌++◌, inl, inr, length, sym, ap, subst, Some, arith, length-append}
use Rattle.std.specs.List.{slice_get}
use Rattle.class_keys.proofs.Items.{pushed_item}
use Rattle.cli_named.specs.Lists.{IsListed}
use Rattle.dc_base.specs.declared.names.Token.{Token}
use Rattle.cli_metadata.specs.declared.tables.Table.{Table}
use Rattle.cli_metadata.specs.declared.tables.Table.TheVariants as tables
use Rattle.cli_metadata.specs.Metadata.{Contents, rows_of}
use Rattle.cli_tables.specs.declared.members.MemberRefRow.{MemberRefRow}
use Rattle.cli_tables.specs.declared.members.StandAloneSigRow.{StandAloneSigRow}
use Rattle.cli_tables.specs.declared.types.TypeRefRow.{TypeRefRow}
use Rattle.cli_tables.specs.declared.types.TypeSpecRow.{TypeSpecRow}
use Rattle.cli_signature.specs.declared.kind.Kind.TheVariants.{Field, Locals, Method}
use Rattle.cli_sig_tokens.specs.Tokens.{AreTokens, AreSpecTokens}
use Rattle.cli_named.specs.Rows.{IsRow, table_in, row_in, token_at, type_ref_at, type_spec_at, member_ref_at, sig_at, scope_of, class_of, AreNamed, by_type_ref, by_type_spec, by_member_ref, by_sig}

-- the parts of a token
table_is : (table r : ℕ) → r < 2 ^ 24 → table_in (token_at table r) ≡ table
table_is table r fits = omega (arith, fits)

row_is : (table r : ℕ) → r < 2 ^ 24 → row_in (token_at table r) ≡ r
row_is table r fits = omega (arith, fits)

is_row : (m : Contents) (table : Table) (n r : ℕ) → r < 2 ^ 24 → 1 ≤ r → r ≤ rows_of m table → IsRow m table (row_in (token_at n r))
is_row m table n r fits low high = subst (λ (k : ℕ). IsRow m table k) (sym (row_is n r fits)) (record { low = low; high = high })

pub of_type_ref : (m : Contents) (r : ℕ) (row : TypeRefRow) (tokens : List Token) → 1 ≤ r → r ≤ rows_of m tables.TypeRef → r < 2 ^ 24 → row ≡ type_ref_at m r → tokens ≡ scope_of row → AreNamed m (token_at 0x01 r) tokens
of_type_ref m r row tokens low high fits is are =
    by_type_ref (table_is 0x01 r fits) (is_row m tables.TypeRef 0x01 r fits low high)
    (are ∙ ap scope_of is ∙ ap (λ (k : ℕ). scope_of (type_ref_at m k)) (sym (row_is 0x01 r fits)))

pub of_type_spec : (m : Contents) (r : ℕ) (row : TypeSpecRow) (tokens : List Token) → 1 ≤ r → r ≤ rows_of m tables.TypeSpec → r < 2 ^ 24 → row ≡ type_spec_at m r → AreSpecTokens m row.signature tokens → AreNamed m (token_at 0x1B r) tokens
of_type_spec m r row tokens low high fits is are =
    by_type_spec (table_is 0x1B r fits) (is_row m tables.TypeSpec 0x1B r fits low high)
    (subst (λ (x : TypeSpecRow). AreSpecTokens m x.signature tokens) (is ∙ ap (λ (k : ℕ). type_spec_at m k) (sym (row_is 0x1B r fits))) are)

pub of_sig : (m : Contents) (r : ℕ) (row : StandAloneSigRow) (tokens : List Token) → 1 ≤ r → r ≤ rows_of m tables.StandAloneSig → r < 2 ^ 24 → row ≡ sig_at m r → AreTokens m Locals row.signature tokens → AreNamed m (token_at 0x11 r) tokens
of_sig m r row tokens low high fits is are =
    by_sig (table_is 0x11 r fits) (is_row m tables.StandAloneSig 0x11 r fits low high)
    (subst (λ (x : StandAloneSigRow). AreTokens m Locals x.signature tokens) (is ∙ ap (λ (k : ℕ). sig_at m k) (sym (row_is 0x11 r fits))) are)

pub of_member_ref : (m : Contents) (r : ℕ) (row : MemberRefRow) (tokens field method : List Token) → 1 ≤ r → r ≤ rows_of m tables.MemberRef → r < 2 ^ 24 → row ≡ member_ref_at m r
    → AreTokens m Field row.signature field → AreTokens m Method row.signature method → tokens ≡ class_of row ++ (field ++ method) → AreNamed m (token_at 0x0A r) tokens
of_member_ref m r row tokens field method low high fits is fields methods are =
    let same : row ≡ member_ref_at m (row_in (token_at 0x0A r)) = is ∙ ap (λ (k : ℕ). member_ref_at m k) (sym (row_is 0x0A r fits)) in
    by_member_ref field method (table_is 0x0A r fits) (is_row m tables.MemberRef 0x0A r fits low high)
    (subst (λ (x : MemberRefRow). AreTokens m Field x.signature field) same fields) (subst (λ (x : MemberRefRow). AreTokens m Method x.signature method) same methods)
    (are ∙ ap (λ (x : MemberRefRow). class_of x ++ (field ++ method)) same)

-- the lists of the first rows
pub record AreFirst (m : Contents) (lists : List (List ℕ)) (count : ℕ) : Type 0 where
  pub long : length lists ≡ count
  pub each : (k : ℕ) (found : List ℕ) → slice_get lists k ≡ Some found → IsListed m k found

pub one_more : (m : Contents) (lists after : List (List ℕ)) (count : ℕ) (found : List ℕ) → IsListed m count found → after ≡ lists ++ (found ∷ []) → AreFirst m lists count → AreFirst m after (count + 1)
one_more m lists after count found is more so =
    let long = length-append lists (found ∷ []) in
    record {
      long = ap (λ (xs : List (List ℕ)). length xs) more ∙ omega (arith, long, so.long);
      each = λ k other at. elim (pushed_item lists found k other (subst (λ (xs : List (List ℕ)). slice_get xs k ≡ Some other) more at)) [
        | inl old ↦ so.each k other old
        | inr new ↦
            let same : count ≡ k = omega (arith, new.0, so.long) in
            subst (λ (xs : List ℕ). IsListed m k xs) (sym new.1) (subst (λ (n : ℕ). IsListed m n found) same is)
      ];
    }
