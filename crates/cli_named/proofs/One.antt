-- The row of a token names one list of tokens, and has a number.
use Rattle.std.proofs.Common.{◌≡◌, ◌≢◌, ◌∙◌, rules, ℕ, ◌+◌, ◌-◌, ◌*◌, ◌/◌, ◌%◌, ◌^◌, ◌<◌, ◌≤◌, List, ◌++◌, refl, sym, ap, subst, arith, Option, Some, None, Bool, true, false}
use Rattle.std.specs.Prelude.{cond, min, nat_lt, nat_le, ◌==◌, ◌&&◌}
use Rattle.dc_base.specs.declared.names.Token.{Token}
use Rattle.cli_metadata.specs.declared.tables.Table.{Table}
use Rattle.cli_metadata.specs.declared.tables.Table.TheVariants as tables
use Rattle.cli_metadata.specs.Metadata.{Contents, rows_of}
use Rattle.cli_signature.specs.declared.kind.Kind.TheVariants.{Field, Locals, Method}
use Rattle.cli_sig_tokens.specs.Laws.{TokensAreOne, SpecTokensAreOne}
use Rattle.cli_named.specs.declared.numbers.Numbers.{Numbers}
use Rattle.cli_named.specs.Rows.{IsRow, table_in, row_in, token_at, type_ref_at, type_spec_at, member_ref_at, sig_at, scope_of, class_of, AreNamed, by_type_ref, by_type_spec, by_member_ref, by_sig}
use Rattle.cli_named.specs.Numbers.{nameable, numbers_of, numbered, number_of, token_of, specs_from, members_from, sigs_from}
use Rattle.cli_named.specs.Laws.{NamesAreOne, NamesHaveNumbers, NumbersAreOnes, NumbersAreBelow}
use Rattle.cli_named.proofs.Places.{token_back, number_below, in_table_refs, in_table_specs, in_table_members, in_table_sigs}

other_table : (n a b : ℕ) → n ≡ a → n ≡ b → a ≢ b → ⊥
other_table n a b is by apart = apart (sym is ∙ by)

pub names_are_one : TokensAreOne → SpecTokensAreOne → NamesAreOne
names_are_one one spec m t a b (by_type_ref n r is) (by_type_ref k s by) = is ∙ sym by
names_are_one one spec m t a b (by_type_spec n r is) (by_type_spec k s by) = spec m _ a b is by
names_are_one one spec m t a b (by_sig n r is) (by_sig k s by) = one m Locals _ a b is by
names_are_one one spec m t a b (by_member_ref f g n r fs gs is) (by_member_ref h j k s hs js by) =
    let fields : f ≡ h = one m Field _ f h fs hs in
    let methods : g ≡ j = one m Method _ g j gs js in
    is ∙ (ap (λ (xs : List Token). class_of (member_ref_at m (row_in t)) ++ (xs ++ g)) fields ∙ (ap (λ (xs : List Token). class_of (member_ref_at m (row_in t)) ++ (h ++ xs)) methods ∙ sym by))
names_are_one one spec m t a b (by_type_ref n r is) (by_type_spec k s by) = absurd (omega (arith, n, k))
names_are_one one spec m t a b (by_type_ref n r is) (by_member_ref h j k s hs js by) = absurd (omega (arith, n, k))
names_are_one one spec m t a b (by_type_ref n r is) (by_sig k s by) = absurd (omega (arith, n, k))
names_are_one one spec m t a b (by_type_spec n r is) (by_type_ref k s by) = absurd (omega (arith, n, k))
names_are_one one spec m t a b (by_type_spec n r is) (by_member_ref h j k s hs js by) = absurd (omega (arith, n, k))
names_are_one one spec m t a b (by_type_spec n r is) (by_sig k s by) = absurd (omega (arith, n, k))
names_are_one one spec m t a b (by_member_ref f g n r fs gs is) (by_type_ref k s by) = absurd (omega (arith, n, k))
names_are_one one spec m t a b (by_member_ref f g n r fs gs is) (by_type_spec k s by) = absurd (omega (arith, n, k))
names_are_one one spec m t a b (by_member_ref f g n r fs gs is) (by_sig k s by) = absurd (omega (arith, n, k))
names_are_one one spec m t a b (by_sig n r is) (by_type_ref k s by) = absurd (omega (arith, n, k))
names_are_one one spec m t a b (by_sig n r is) (by_type_spec k s by) = absurd (omega (arith, n, k))
names_are_one one spec m t a b (by_sig n r is) (by_member_ref h j k s hs js by) = absurd (omega (arith, n, k))

within : (m : Contents) (table : Table) (t : Token) → IsRow m table (row_in t) → row_in t ≤ nameable m table
within m table t row = let high = row.high in let fits : row_in t < 2 ^ 24 = omega arith in grind (arith, rules)

pub names_have_numbers : NamesHaveNumbers
names_have_numbers m t tokens (by_type_ref n r is) = (_, in_table_refs (numbers_of m) t n r.low (within m tables.TypeRef t r))
names_have_numbers m t tokens (by_type_spec n r is) = (_, in_table_specs (numbers_of m) t n r.low (within m tables.TypeSpec t r))
names_have_numbers m t tokens (by_member_ref f g n r fs gs is) = (_, in_table_members (numbers_of m) t n r.low (within m tables.MemberRef t r))
names_have_numbers m t tokens (by_sig n r is) = (_, in_table_sigs (numbers_of m) t n r.low (within m tables.StandAloneSig t r))

pub numbers_are_ones : NumbersAreOnes
numbers_are_ones m t k is = token_back (numbers_of m) t k is

pub numbers_are_below : NumbersAreBelow
numbers_are_below m t k is = number_below (numbers_of m) t k is
