-- A failure that isn't excluded is there.
use Rattle.std.proofs.Common.{◌≡◌, ◌⊎◌, ℕ, ◌+◌, ◌-◌, ◌<◌, ◌≤◌, Bool, true, false, List, Option, None, Some, refl, sym, subst, inl, inr, arith}
use Rattle.std.specs.Prelude.{slice_get}
use Rattle.std.proofs.lemmas.Bool.{cases_lt}
use Rattle.cli_conditions.specs.declared.condition.Condition.{Condition}
use Rattle.cli_conditions.specs.declared.condition.Condition.TheVariants as conditions
use Rattle.cli_conditions.specs.Conditions.{number_of as place_of}
use Rattle.cli_metadata.specs.declared.tables.Table.TheVariants as tables
use Rattle.cli_metadata.specs.Metadata.{rows_of}
use Rattle.cli_lists.specs.Starts.{IsInList}
use Rattle.cli_profile.specs.declared.judged.Judged.{Judged}
use Rattle.cli_profile.specs.declared.judged.Judged.TheVariants.{Field, MethodDef, TypeSpec, Assembly}
use Rattle.cli_profile.specs.Methods.{IsForeign}
use Rattle.cli_profile.specs.Rows.{Subject, IsModules, IsModuleMember, IsOtherSpec}
use Rattle.cli_profile.specs.Profile.{Fails}
use Rattle.cli_profile.specs.Judged.{asked, FailsNone, FailsAt}

stays_le : (a b : ℕ) → ((a ≤ b → ⊥) → ⊥) → a ≤ b
stays_le a b not = elim (cases_lt b a) [
  | inl lt ↦ absurd (not (λ le. omega (arith, lt, le)))
  | inr le ↦ le
]

stays_in_list : (count : ℕ) (cells : List ℕ) (k n : ℕ) → ((IsInList count cells k n → ⊥) → ⊥) → IsInList count cells k n
stays_in_list count cells k n not = record {
  low = stays_le _ _ (λ off. not (λ h. off h.low));
  high = stays_le _ _ (λ off. not (λ h. off h.high));
  from = stays_le _ _ (λ off. not (λ h. off h.from));
  within = stays_le _ _ (λ off. not (λ h. off h.within));
  before_next = λ lt. stays_le _ _ (λ off. not (λ h. off (h.before_next lt)));
}

stays_true : (o : Option Bool) → ((o ≡ Some true → ⊥) → ⊥) → o ≡ Some true
stays_true (Some true) not = refl
stays_true (Some false) not = absurd (not (λ e. absurd cc))
stays_true None not = absurd (not (λ e. absurd cc))

-- the failure of a table that is this one
carried : (s : Subject) (j i : Judged) (k : ℕ) (c : Condition) → j ≡ i → (k < asked i s → (FailsNone i s k → ⊥) → FailsAt i s k c) → k < asked j s → (FailsNone j s k → ⊥) → FailsAt j s k c
carried s j i k c is there lt not =
    subst (λ (x : Judged). FailsAt x s k c) (sym is)
    (there (subst (λ (x : Judged). k < asked x s) is lt) (subst (λ (x : Judged). FailsNone x s k → ⊥) is not))

-- ---- fields

field_fails : (s : Subject) (n : ℕ) (c : Condition) → Fails s c tables.Field n → IsModuleMember s tables.Field n
field_fails s n conditions.ModuleMember h = h
field_fails s n _ h = absurd h

field_first : (s : Subject) (n : ℕ) (d : Condition) → place_of d < 10 → Fails s d tables.Field n → ⊥
field_first s n conditions.ModuleMember lt h = absurd (omega (arith, lt))
field_first s n _ lt h = h

at_field : (s : Subject) (k : ℕ) → k < rows_of s.metadata tables.Field → (FailsNone Field s k → ⊥) → FailsAt Field s k conditions.ModuleMember
at_field s k lt not = record {
  fails = record {
    there = record { low = omega arith; high = omega (arith, lt) };
    listed = stays_in_list _ _ 1 (k + 1) (λ off. not (λ c h. off (field_fails s (k + 1) c h).listed));
  };
  first = field_first s (k + 1);
}

pub field : (s : Subject) (j : Judged) (k : ℕ) → j ≡ Field → k < asked j s → (FailsNone j s k → ⊥) → FailsAt j s k conditions.ModuleMember
field s j k is = carried s j Field k conditions.ModuleMember is (at_field s k)

-- ---- methods

method_fails : (s : Subject) (n : ℕ) (c : Condition) → Fails s c tables.MethodDef n → IsForeign s.metadata n ⊎ IsModuleMember s tables.MethodDef n
method_fails s n conditions.Native h = inl h
method_fails s n conditions.ModuleMember h = inr h
method_fails s n _ h = absurd h

method_first : (s : Subject) (n : ℕ) → (IsForeign s.metadata n → ⊥) → (d : Condition) → place_of d < 10 → Fails s d tables.MethodDef n → ⊥
method_first s n off conditions.Native lt h = off h
method_first s n off conditions.ModuleMember lt h = absurd (omega (arith, lt))
method_first s n off _ lt h = h

-- a method that is plain IL fails as one that stands outside of types
at_method : (s : Subject) (k : ℕ) → k < rows_of s.metadata tables.MethodDef → (IsForeign s.metadata (k + 1) → ⊥) → (FailsNone MethodDef s k → ⊥) → FailsAt MethodDef s k conditions.ModuleMember
at_method s k lt plain not = record {
  fails = record {
    there = record { low = omega arith; high = omega (arith, lt) };
    listed = stays_in_list _ _ 1 (k + 1) (λ off. not (λ c h. elim (method_fails s (k + 1) c h) [
      | inl foreign ↦ plain foreign
      | inr member ↦ off member.listed
    ]));
  };
  first = method_first s (k + 1) plain;
}

pub method : (s : Subject) (j : Judged) (k : ℕ) → j ≡ MethodDef → (IsForeign s.metadata (k + 1) → ⊥) → k < asked j s → (FailsNone j s k → ⊥) → FailsAt j s k conditions.ModuleMember
method s j k is plain = carried s j MethodDef k conditions.ModuleMember is (λ lt. at_method s k lt plain)

-- ---- types by signature

spec_fails : (s : Subject) (n : ℕ) (c : Condition) → Fails s c tables.TypeSpec n → IsOtherSpec s n
spec_fails s n conditions.TypeSpec h = h
spec_fails s n _ h = absurd h

spec_first : (s : Subject) (n : ℕ) (d : Condition) → place_of d < 9 → Fails s d tables.TypeSpec n → ⊥
spec_first s n conditions.TypeSpec lt h = absurd (omega (arith, lt))
spec_first s n _ lt h = h

at_spec : (s : Subject) (k : ℕ) → k < rows_of s.metadata tables.TypeSpec → (FailsNone TypeSpec s k → ⊥) → FailsAt TypeSpec s k conditions.TypeSpec
at_spec s k lt not = record {
  fails = record {
    there = record { low = omega arith; high = omega (arith, lt) };
    reached = stays_true (slice_get s.reached ((k + 1) - 1)) (λ off. not (λ c h. off (spec_fails s (k + 1) c h).reached));
    other = λ array. not (λ c h. (spec_fails s (k + 1) c h).other array);
  };
  first = spec_first s (k + 1);
}

pub spec : (s : Subject) (j : Judged) (k : ℕ) → j ≡ TypeSpec → k < asked j s → (FailsNone j s k → ⊥) → FailsAt j s k conditions.TypeSpec
spec s j k is = carried s j TypeSpec k conditions.TypeSpec is (at_spec s k)

-- ---- assemblies

assembly_fails : (s : Subject) (n : ℕ) (c : Condition) → Fails s c tables.Assembly n → IsModules s tables.Assembly n
assembly_fails s n conditions.Modules h = h
assembly_fails s n _ h = absurd h

assembly_first : (s : Subject) (n : ℕ) (d : Condition) → place_of d < 4 → Fails s d tables.Assembly n → ⊥
assembly_first s n conditions.Modules lt h = absurd (omega (arith, lt))
assembly_first s n _ lt h = h

-- the first row fails where it isn't there
first_assembly : (s : Subject) (n : ℕ) → IsModules s tables.Assembly n → n ≤ 1 → 1 ≤ rows_of s.metadata tables.Assembly → ⊥
first_assembly s n (inl second) le there = absurd (omega (arith, second.0, le))
first_assembly s n (inr none) le there = absurd (omega (arith, none.1, there))

at_assembly : (s : Subject) (k : ℕ) → k < asked Assembly s → (FailsNone Assembly s k → ⊥) → FailsAt Assembly s k conditions.Modules
at_assembly s k lt not = record {
  fails = elim (cases_lt k 1) [
    | inl first ↦ elim (cases_lt (rows_of s.metadata tables.Assembly) 1) [
      | inl none ↦ inr (omega (arith, first), omega (arith, none))
      | inr there ↦ absurd (not (λ c h. first_assembly s (k + 1) (assembly_fails s (k + 1) c h) (omega (arith, first)) there))
    ]
    | inr behind ↦ inl (omega (arith, behind), record { low = omega arith; high = omega (arith, lt, behind) })
  ];
  first = assembly_first s (k + 1);
}

pub assembly : (s : Subject) (j : Judged) (k : ℕ) → j ≡ Assembly → k < asked j s → (FailsNone j s k → ⊥) → FailsAt j s k conditions.Modules
assembly s j k is = carried s j Assembly k conditions.Modules is (at_assembly s k)
