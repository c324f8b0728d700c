-- Modifiers (ECMA-334, 15.3.5 and 15.3.6): at most one access, then the others, in one order.
use Rattle.std.specs.Prelude.{ℕ, Bool, cond, not, ◌&&◌, [], ◌∷◌, Option, Some, None, is_some}
use Rattle.cs_token.specs.Placed.{Placed as Token}
use Rattle.cs_tree.specs.declared.types.Spot.{Spot}
use Rattle.cs_tree.specs.declared.members.Access.{Access}
use Rattle.cs_tree.specs.declared.members.Access.TheVariants.{Public, Private, Protected, Internal, ProtectedOrInternal, ProtectedAndInternal}
use Rattle.cs_tree.specs.declared.members.Mods.{Mods}
use Rattle.cs_units.specs.declared.values.Accessed.{Accessed}
use Rattle.cs_units.specs.declared.values.Marked.{Marked}
use Rattle.cs_grammar.specs.Grammar.{Grammar, gives, ◌>>=◌, either}
use Rattle.cs_productions.specs.Kinds.{kw_public, kw_private, kw_protected, kw_internal, kw_static, kw_abstract, kw_sealed, kw_virtual, kw_override, kw_readonly, kw_extern}
use Rattle.cs_productions.specs.Tokens.{kind, place}
use Rattle.cs_units.specs.Kinds.{access_kinds}

-- a word that may stand or not, which leaves its place
abbrev pub some_spot : Spot → Option Spot
some_spot s = Some s

abbrev pub no_spot : Option Spot
no_spot = None

abbrev pub flag_given : ℕ → Grammar Token (Option Spot)
flag_given k = do s ← place k; gives (some_spot s)

abbrev pub flag : ℕ → Grammar Token (Option Spot)
flag k = either kind (k ∷ []) (flag_given k) (gives no_spot)

-- "public" | "internal" | "private" ["protected"] | "protected" ["internal"], or nothing
abbrev pub access_of : Access → Spot → Accessed
access_of a s = record { access = Some a; spot = Some s }

abbrev pub no_access : Accessed
no_access = record { access = None; spot = None }

abbrev pub public_access : Grammar Token Accessed
public_access = do s ← place kw_public; gives (access_of Public s)

abbrev pub internal_access : Grammar Token Accessed
internal_access = do s ← place kw_internal; gives (access_of Internal s)

abbrev pub private_access : Grammar Token Accessed
private_access = do
  s ← place kw_private
  more ← flag kw_protected
  gives (access_of (cond (is_some more) ProtectedAndInternal Private) s)

abbrev pub protected_access : Grammar Token Accessed
protected_access = do
  s ← place kw_protected
  more ← flag kw_internal
  gives (access_of (cond (is_some more) ProtectedOrInternal Protected) s)

abbrev pub given_access : Grammar Token Accessed
given_access =
    either kind (kw_public ∷ []) public_access
    (either kind (kw_internal ∷ []) internal_access (either kind (kw_private ∷ []) private_access protected_access))

abbrev pub access : Grammar Token Accessed
access = either kind access_kinds given_access (gives no_access)

-- the first of two places
abbrev pub first_of : Option Spot → Option Spot → Option Spot
first_of (Some s) other = Some s
first_of None other = other

-- [access] ["static"] ["abstract"] ["sealed"] ["virtual"] ["override"] ["readonly"] ["extern"]
abbrev pub marked : Accessed → Option Spot → Option Spot → Option Spot → Option Spot → Option Spot → Option Spot → Option Spot → Marked
marked a static_at abstract_at sealed_at virtual_at override_at readonly_at extern_at =
    record {
      mods = record {
        access = a.access;
        is_static = is_some static_at;
        is_abstract = is_some abstract_at;
        is_sealed = is_some sealed_at;
        is_virtual = is_some virtual_at;
        is_override = is_some override_at;
        is_readonly = is_some readonly_at;
        is_extern = is_some extern_at;
      };
      spot = first_of a.spot
          (first_of static_at (first_of abstract_at (first_of sealed_at (first_of virtual_at (first_of override_at (first_of readonly_at extern_at))))));
    }

abbrev pub modifiers : Grammar Token Marked
modifiers = do
  a ← access
  static_at ← flag kw_static
  abstract_at ← flag kw_abstract
  sealed_at ← flag kw_sealed
  virtual_at ← flag kw_virtual
  override_at ← flag kw_override
  readonly_at ← flag kw_readonly
  extern_at ← flag kw_extern
  gives (marked a static_at abstract_at sealed_at virtual_at override_at readonly_at extern_at)

-- there is no modifier
abbrev pub unmarked : Marked → Bool
unmarked m = not (is_some m.spot)

-- `static` is the only one
abbrev pub only_static : Mods → Bool
only_static m =
    m.is_static && not (is_some m.access) && not m.is_abstract && not m.is_sealed && not m.is_virtual && not m.is_override && not m.is_readonly && not m.is_extern

-- where a declaration begins: at its first modifier, or at what stands behind them
abbrev pub start_at : Option Spot → Spot → Spot
start_at (Some s) other = s
start_at None other = other

abbrev pub start : Marked → Spot → Spot
start m s = start_at m.spot s
