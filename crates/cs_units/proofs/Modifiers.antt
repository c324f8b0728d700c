-- Modifiers are exact, and depend on no level.
use Rattle.std.proofs.Common.{◌≡◌, ℕ, true, false, [], ◌∷◌, refl}
use Rattle.cs_tree.specs.declared.members.Access.TheVariants.{Public, Internal}
use Rattle.cs_grammar.specs.Kinds.{has, subset}
use Rattle.cs_productions.specs.Kinds.{kw_public, kw_private, kw_protected, kw_internal, kw_static, kw_abstract, kw_sealed, kw_virtual, kw_override, kw_readonly, kw_extern}
use Rattle.cs_productions.specs.Tokens.{kind}
use Rattle.cs_productions.proofs.ExactTokens.{sample_of}
use Rattle.cs_productions.proofs.Growing.{Grows, to, grows_gives, grows_place, grows_then, grows_or}
use Rattle.cs_units.specs.Kinds.{access_kinds, modifier_kinds}
use Rattle.cs_units.specs.Modifiers.{some_spot, no_spot, flag, access_of, no_access, public_access, internal_access, private_access, protected_access, given_access, access, modifiers}

pub grows_flag : (k : ℕ) → has (k ∷ []) (kind (sample_of k)) ≡ true → subset (k ∷ []) (k ∷ []) ≡ true → Grows (flag k) (flag k) (k ∷ []) (k ∷ []) true
grows_flag k is it = grows_or (k ∷ []) it refl (grows_then (grows_place k is) refl (λ s. grows_gives (some_spot s))) (grows_gives no_spot)

grows_public_access : Grows public_access public_access (kw_public ∷ []) [] false
grows_public_access = to refl refl (grows_then (grows_place kw_public refl) refl (λ s. grows_gives (access_of Public s)))

grows_internal_access : Grows internal_access internal_access (kw_internal ∷ []) [] false
grows_internal_access = to refl refl (grows_then (grows_place kw_internal refl) refl (λ s. grows_gives (access_of Internal s)))

grows_private_access : Grows private_access private_access (kw_private ∷ []) (kw_protected ∷ []) false
grows_private_access = to refl refl (grows_then (grows_place kw_private refl) refl (λ s. grows_then (grows_flag kw_protected refl refl) refl (λ more. grows_gives _)))

grows_protected_access : Grows protected_access protected_access (kw_protected ∷ []) (kw_internal ∷ []) false
grows_protected_access = to refl refl (grows_then (grows_place kw_protected refl) refl (λ s. grows_then (grows_flag kw_internal refl refl) refl (λ more. grows_gives _)))

grows_given_access : Grows given_access given_access access_kinds (kw_protected ∷ kw_internal ∷ []) false
grows_given_access =
    to refl refl
    (grows_or (kw_public ∷ []) refl refl grows_public_access
    (grows_or (kw_internal ∷ []) refl refl grows_internal_access (grows_or (kw_private ∷ []) refl refl grows_private_access grows_protected_access)))

grows_access : Grows access access access_kinds access_kinds true
grows_access = to refl refl (grows_or access_kinds refl refl grows_given_access (grows_gives no_access))

pub grows_modifiers : Grows modifiers modifiers modifier_kinds modifier_kinds true
grows_modifiers =
    to refl refl
    (grows_then grows_access refl
    (λ a. grows_then (grows_flag kw_static refl refl) refl
    (λ b. grows_then (grows_flag kw_abstract refl refl) refl
    (λ c. grows_then (grows_flag kw_sealed refl refl) refl
    (λ d. grows_then (grows_flag kw_virtual refl refl) refl
    (λ e. grows_then (grows_flag kw_override refl refl) refl
    (λ f. grows_then (grows_flag kw_readonly refl refl) refl (λ g. grows_then (grows_flag kw_extern refl refl) refl (λ h. grows_gives _)))))))))
