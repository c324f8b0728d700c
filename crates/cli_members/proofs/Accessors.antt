-- Rows of MethodSemantics, looked at from the last to the first.
use Rattle.std.proofs.Common.{◌≡◌, ◌≢◌, ◌⊎◌, ℕ, zero, suc, ◌+◌, ◌-◌, ◌/◌, ◌^◌, ◌<◌, ◌≤◌, ◌||◌, Bool, true, false, cond, Option, Some, None, List, length, replicate, inl, inr, sym, refl, ap, subst, ◌∙◌, arith}
use Rattle.std.specs.List.{slice_get}
use Rattle.std.proofs.lemmas.Bool.{cases_lt, eqb-true, eq-eqb, cond-true}
use Rattle.std.proofs.lemmas.List.{length-replicate}
use Rattle.dc_base.specs.declared.names.Token.{Token}
use Rattle.dc_causes.specs.First.{IsLeast}
use Rattle.cli_metadata.specs.declared.tables.Table.TheVariants as tables
use Rattle.cli_metadata.specs.Metadata.{Contents, rows_of, coded_of}
use Rattle.cli_tables.specs.declared.properties.MethodSemanticsRow.{MethodSemanticsRow}
use Rattle.cli_flags.specs.Flags.{is_set}
use Rattle.cli_members.specs.declared.roles.Role.{Role}
use Rattle.cli_members.specs.declared.roles.Role.TheVariants as role
use Rattle.cli_members.specs.Roles.{semantics_at, IsAccessor, role_by, AreRoles}
use Rattle.cli_members.specs.Put.{of_property, role_in, IsPut}

-- ---- what one row says

bits_some : (reads writes : Bool) → cond reads role.Getter (cond writes role.Setter role.None) ≢ role.None → (reads || writes) ≡ true
bits_some true writes some = refl
bits_some false true some = refl
bits_some false false some = absurd (some refl)

bits_same : (reads writes : Bool) → cond reads role.Getter (cond writes role.Setter role.None) ≢ role.None → cond reads role.Getter (cond writes role.Setter role.None) ≡ cond reads role.Getter role.Setter
bits_same true writes some = refl
bits_same false true some = refl
bits_same false false some = absurd (some refl)

bits_not_none : (reads writes : Bool) → (reads || writes) ≡ true → cond reads role.Getter (cond writes role.Setter role.None) ≡ role.None → ⊥
bits_not_none true writes h e = let k : role.Getter ≡ role.None = e in cc
bits_not_none false true h e = let k : role.Setter ≡ role.None = e in cc
bits_not_none false false h e = let k : false ≡ true = h in cc

cond_some : (b : Bool) (x : Role) → cond b x role.None ≢ role.None → b ≡ true
cond_some true x some = refl
cond_some false x some = absurd (some refl)

-- what a token of a property is
record IsOfProperty (association : Option Token) : Type 0 where
  token : Token
  named : association ≡ Some token
  property : token.0 / 2 ^ 24 ≡ 0x17

property_there : (association : Option Token) → of_property association ≡ true → IsOfProperty association
property_there None e = let k : false ≡ true = e in absurd cc
property_there (Some t) e = record { token = t; named = refl; property = eqb-true (t.0 / 2 ^ 24) 0x17 e }

property_back : (association : Option Token) (t : Token) → association ≡ Some t → t.0 / 2 ^ 24 ≡ 0x17 → of_property association ≡ true
property_back association t named property = ap of_property named ∙ eq-eqb (t.0 / 2 ^ 24) 0x17 property

-- what a row says of its method
abbrev pub said_by : MethodSemanticsRow → Role
said_by row = role_in row.semantics (coded_of row.association.kind row.association.cell)

accessor : (m : Contents) (k r : ℕ) → 1 ≤ r → r ≤ rows_of m tables.MethodSemantics → (semantics_at m r).method ≡ k → said_by (semantics_at m r) ≢ role.None → IsAccessor m k r
accessor m k r low high method some =
    let row = semantics_at m r in
    let there : of_property (coded_of row.association.kind row.association.cell) ≡ true = cond_some _ _ some in
    let found : IsOfProperty (coded_of row.association.kind row.association.cell) = property_there _ there in
    record {
      low = low;
      high = high;
      method = method;
      token = found.token;
      named = found.named;
      property = found.property;
      reads_or_writes = bits_some _ _ (λ e. some (cond-true _ _ role.None there ∙ e));
    }

said_is : (row : MethodSemanticsRow) → said_by row ≢ role.None → said_by row ≡ role_by row.semantics
said_is row some =
    let there : of_property (coded_of row.association.kind row.association.cell) ≡ true = cond_some _ _ some in
    let bits : said_by row ≡ cond (is_set 0x2 row.semantics) role.Getter (cond (is_set 0x1 row.semantics) role.Setter role.None) = cond-true _ _ role.None there in
    bits ∙ bits_same (is_set 0x2 row.semantics) (is_set 0x1 row.semantics) (λ e. some (bits ∙ e))

not_accessor : (m : Contents) (k r : ℕ) → said_by (semantics_at m r) ≡ role.None → IsAccessor m k r → ⊥
not_accessor m k r none is =
    let row = semantics_at m r in
    let there : of_property (coded_of row.association.kind row.association.cell) ≡ true = property_back _ is.token is.named is.property in
    let bits : said_by row ≡ cond (is_set 0x2 row.semantics) role.Getter (cond (is_set 0x1 row.semantics) role.Setter role.None) = cond-true _ _ role.None there in
    bits_not_none (is_set 0x2 row.semantics) (is_set 0x1 row.semantics) is.reads_or_writes (sym bits ∙ none)

-- ---- the rows behind one

pub record IsAccessorBehind (m : Contents) (k b r : ℕ) : Type 0 where
  pub accessor : IsAccessor m k r
  pub behind : b < r

abbrev pub IsRoleBehind : Contents → ℕ → ℕ → Role → Type 0
IsRoleBehind m k b what =
    ((r : ℕ) × IsLeast (IsAccessorBehind m k b) r × (what ≡ role_by (semantics_at m r).semantics))
    ⊎ (((r : ℕ) → IsAccessorBehind m k b r → ⊥) × (what ≡ role.None))

pub record AreRolesBehind (m : Contents) (b : ℕ) (roles : List Role) : Type 0 where
  pub long : length roles ≡ rows_of m tables.MethodDef
  pub each : (j : ℕ) (what : Role) → slice_get roles j ≡ Some what → IsRoleBehind m (j + 1) b what

here : (m : Contents) (k r : ℕ) (what : Role) → IsAccessor m k r → what ≡ role_by (semantics_at m r).semantics → IsRoleBehind m k (r - 1) what
here m k r what is same =
    let low = is.low in
    inl (
      r,
      record {
        holds = record { accessor = is; behind = omega (arith, low) };
        least = λ s lt at. (let b = at.behind in omega (arith, lt, b, low));
      },
      same,
    )

not_here : (m : Contents) (k r s : ℕ) → (IsAccessor m k r → ⊥) → IsAccessorBehind m k (r - 1) s → IsAccessorBehind m k r s
not_here m k r s other at =
    let b = at.behind in
    record {
      accessor = at.accessor;
      behind = elim (cases_lt r s) [
        | inl lt ↦ lt
        | inr le ↦ (let e : s ≡ r = omega (arith, le, b) in absurd (other (subst (λ (x : ℕ). IsAccessor m k x) e at.accessor)))
      ];
    }

elsewhere : (m : Contents) (k r : ℕ) (what : Role) → (IsAccessor m k r → ⊥) → IsRoleBehind m k r what → IsRoleBehind m k (r - 1) what
elsewhere m k r what other so = elim so [
  | inl found ↦ inl (
    found.0,
    record {
      holds = record { accessor = found.1.holds.accessor; behind = (let b = found.1.holds.behind in omega (arith, b)) };
      least = λ s lt at. found.1.least s lt (not_here m k r s other at);
    },
    found.2,
  )
  | inr none ↦ inr ((λ s at. none.0 s (not_here m k r s other at)), none.1)
]

pub one_more : (m : Contents) (r : ℕ) (before after : List Role) → 1 ≤ r → r ≤ rows_of m tables.MethodSemantics → AreRolesBehind m r before → IsPut (semantics_at m r).method (said_by (semantics_at m r)) before after → AreRolesBehind m (r - 1) after
one_more m r before after low high so put = record {
  long = put.long ∙ so.long;
  each = λ j what h. elim (put.each j what h) [
    | inl p ↦ here m (j + 1) r what (accessor m (j + 1) r low high p.1 p.0) (p.2 ∙ said_is (semantics_at m r) p.0)
    | inr p ↦
        elsewhere m (j + 1) r what
        (λ is. elim p.0 [
          | inl none ↦ not_accessor m (j + 1) r none is
          | inr other ↦ other is.method
        ])
        (so.each j what p.1)
  ];
}

at_replicate : {X : Type 0} (n k : ℕ) (x y : X) → slice_get (replicate n x) k ≡ Some y → y ≡ x
at_replicate zero k x y h = let e : None ≡ Some y = h in absurd cc
at_replicate (suc n) zero x y h = let e : Some x ≡ Some y = h in cc
at_replicate (suc n) (suc k) x y h = at_replicate n k x y h

pub none_yet : (m : Contents) (n : ℕ) (roles : List Role) → n ≡ rows_of m tables.MethodDef → roles ≡ replicate n role.None → AreRolesBehind m (rows_of m tables.MethodSemantics) roles
none_yet m n roles same e = record {
  long = ap length e ∙ length-replicate n role.None ∙ same;
  each = λ j what h. inr ((λ r at. (let b = at.behind in let t = at.accessor.high in omega (arith, b, t))), at_replicate n j role.None what (subst (λ (xs : List Role). slice_get xs j ≡ Some what) e h));
}

pub all_roles : (m : Contents) (b : ℕ) (roles : List Role) → b ≡ 0 → AreRolesBehind m b roles → AreRoles m roles
all_roles m b roles none so = record {
  long = so.long;
  each = λ k what h. elim (so.each k what h) [
    | inl found ↦ inl (
      found.0,
      record {
        holds = found.1.holds.accessor;
        least = λ s lt at. found.1.least s lt (record { accessor = at; behind = (let l = at.low in omega (arith, l, none)) });
      },
      found.2,
    )
    | inr no_row ↦ inr ((λ s at. no_row.0 s (record { accessor = at; behind = (let l = at.low in omega (arith, l, none)) })), no_row.1)
  ];
}
