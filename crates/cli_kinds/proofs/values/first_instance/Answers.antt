use Rattle.std.proofs.Common.{◌≡◌, ◌∙◌, ℕ, Bool, true, false, not, inl, inr, refl, sym, subst, arith}
use Rattle.std.proofs.lemmas.Bool.{cases_lt}
use Rattle.cli_metadata.specs.declared.tables.Table.TheVariants as tables
use Rattle.cli_metadata.specs.Metadata.{Contents, rows_of}
use Rattle.cli_lists.specs.declared.column.ListColumn.{ListColumn}
use Rattle.cli_lists.specs.Lists.{IsListColumn}
use Rattle.cli_lists.specs.Starts.{IsInList}
use Rattle.cli_flags.specs.Flags.{has}
use Rattle.cli_flags.specs.declared.bits.MemberFlag.TheVariants as member_flag
use Rattle.cli_kinds.specs.Underlying.{field_at, IsFieldRow}
use Rattle.cli_kinds.proofs.values.first_instance.Goals as goal

not_true : (b : Bool) → not b ≡ true → b ≡ false
not_true true e = let k : false ≡ true = e in absurd cc
not_true false e = refl

not_false : (b : Bool) → not b ≡ false → b ≡ false → ⊥
not_false true e f = let k : true ≡ false = f in cc
not_false false e f = let k : true ≡ false = e in cc

field_row : (m : Contents) (fields : ListColumn) (n f : ℕ) → IsListColumn fields → fields.rows ≡ rows_of m tables.Field → IsInList fields.rows fields.cells n f → IsFieldRow m f
field_row m fields n f column same listed =
    let start = column.starts n listed.low listed.high in
    let low = start.low in
    let reached = listed.from in
    let within = listed.within in
    record { low = omega (arith, low, reached); high = omega (arith, within, same) }

pub loop-f-init : goal.loop-f-init
loop-f-init c = λ k lt at. (let in_list = (c.list-list.ensures k).1 at.listed in omega (arith, lt, in_list.0))

pub is_instance-requires : goal.is_instance-requires
is_instance-requires c =
    let test = c.loop-f-test.true in
    let from = c.loop-f.auto.f in
    let listed = (c.list-list.ensures c.loop-f.f).0 (omega (arith, from, test), test) in
    field_row c.args.metadata.now c.args.fields.now c.args.n c.loop-f.f c.requires.column c.requires.same listed

pub loop-f-preserved : goal.loop-f-preserved
loop-f-preserved c = λ k lt at. elim (cases_lt k c.loop-f.f) [
  | inl before ↦ c.loop-f.invariant k before at
  | inr past ↦
      let same : k ≡ c.loop-f.f = omega (arith, lt, past) in
      let instance : has member_flag.Static (field_at c.args.metadata.now c.loop-f.f).flags ≡ false = subst (λ (x : ℕ). has member_flag.Static (field_at c.args.metadata.now x).flags ≡ false) same at.instance in
      not_false _ (sym c.is_instance.ensures ∙ c.if-is_instance.false) instance
]

pub returns-then-is_instance-clause-some : goal.returns-then-is_instance-clause-some
returns-then-is_instance-clause-some c =
    let test = c.loop-f-test.true in
    let from = c.loop-f.auto.f in
    record {
      holds = record {
        listed = (c.list-list.ensures c.loop-f.f).0 (omega (arith, from, test), test);
        instance = not_true _ (sym c.is_instance.ensures ∙ c.if-is_instance.true);
      };
      least = λ s lt at. c.loop-f.invariant s lt at;
    }

pub returns-clause-none : goal.returns-clause-none
returns-clause-none c = λ f at.
    let in_list = (c.list-list.ensures f).1 at.listed in
    let over = c.loop-f-test.false in
    c.loop-f.invariant f (omega (arith, in_list.1, over)) at

pub returns-then-is_instance-clause-there : goal.returns-then-is_instance-clause-there
returns-then-is_instance-clause-there c =
    let test = c.loop-f-test.true in
    let from = c.loop-f.auto.f in
    let listed = (c.list-list.ensures c.loop-f.f).0 (omega (arith, from, test), test) in
    field_row c.args.metadata.now c.args.fields.now c.args.n c.loop-f.f c.requires.column c.requires.same listed
