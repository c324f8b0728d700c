-- The classes of catches (ECMA-335 II.25.4.6, III.1.7.5; ECMA-334 on try statements). A catch of System.Object counts as
-- one of System.Exception, since what is thrown is one.
use Rattle.std.specs.Prelude.{◌≡◌, ℕ, zero, suc, ◌<◌, Bool, false, ◌==◌, Option, Some, slice_get, if◌then◌else◌}
use Rattle.dc_base.specs.declared.ty.Ty.{Ty}
use Rattle.dc_base.specs.declared.ty.Core.{Core}
use Rattle.dc_base.specs.declared.ty.Core.TheVariants.{Class}
use Rattle.class_rows.specs.Lookups.{class_ty, IsAssignable}
use Rattle.cil_body.specs.declared.body.Clause.{Clause}
use Rattle.cil_body.specs.declared.body.ClauseKind.TheVariants.{Catch}
use Rattle.cli_bodies.specs.declared.method.Method.{Method}
use Rattle.cli_bodies.specs.Named.{named_ty, IsSo}

-- whether a type is the class of this number
abbrev pub is_class_core : ℕ → Core → Bool
is_class_core t (Class c) = c.0 == t
is_class_core t _ = false

abbrev pub is_class_without : ℕ → Core → ℕ → Bool
is_class_without t core zero = is_class_core t core
is_class_without t core (suc n) = false

abbrev pub is_class : ℕ → Ty → Bool
is_class t ty = if ty.lent then false else is_class_without t ty.core ty.arrays

-- the class as which a catch of this one counts
abbrev pub counted : Method → Ty → Ty
counted s ty = if is_class s.object.0 ty then class_ty s.exception.0 else ty

-- the class that a clause names
abbrev pub class_of : Method → Clause → Option Ty
class_of s c = named_ty s.tokens.now c.class

-- System.Object, System.Exception or a class that derives from it
abbrev pub IsException : Method → Ty → Type 0
IsException s ty = IsAssignable s.table.now.types (counted s ty) (class_ty s.exception.0)

-- what is caught as the second was caught as the first already
abbrev pub Covers : Method → Ty → Ty → Type 0
Covers s first second = IsAssignable s.table.now.types (counted s second) (counted s first)

-- clause k is this catch
pub record IsCatch (s : Method) (k : ℕ) (c : Clause) : Type 0 where
  pub stands : slice_get s.body.now.clauses k ≡ Some c
  pub catches : c.kind ≡ Catch

-- clause k is a catch whose handler stands at this offset, and its class is no exception
pub record IsOtherClass (s : Method) (k offset : ℕ) : Type 0 where
  pub c : Clause
  pub is : IsCatch s k c
  pub at : c.handler_at ≡ offset
  pub other : IsSo (IsException s) (class_of s c) → ⊥

-- both are catches of one try, and the first covers the second
pub record CoversClause (s : Method) (earlier later : Clause) : Type 0 where
  pub catches : earlier.kind ≡ Catch
  pub one_start : earlier.try_at ≡ later.try_at
  pub one_length : earlier.try_len ≡ later.try_len
  pub covers : IsSo (λ first. IsSo (Covers s first) (class_of s later)) (class_of s earlier)

-- a clause before clause k covers this one
pub record HasCover (s : Method) (k : ℕ) (c : Clause) : Type 0 where
  pub j : ℕ
  pub before : j < k
  pub earlier : Clause
  pub stands : slice_get s.body.now.clauses j ≡ Some earlier
  pub covers : CoversClause s earlier c

-- clause k is a catch whose handler stands at this offset, and an earlier one of the same try covers it
pub record IsCovered (s : Method) (k offset : ℕ) : Type 0 where
  pub c : Clause
  pub is : IsCatch s k c
  pub at : c.handler_at ≡ offset
  pub covered : HasCover s k c
