-- A chain of two steps taken apart, and put together.
use Rattle.std.proofs.Common.{◌⊎◌, Ok, Err, refl, sym, subst, inl, inr}
use Rattle.dc_causes.specs.Step.{Step, Then, stop, go}
use Rattle.dc_causes.proofs.Single.{err_is, not_both}

-- where the chain reads a value, the first step reads one
pub then_read : {A B F : Type 0} (First : Step A F) (Next : A → Step B F) (b : B) → Then First Next (Ok b) → (a : A) × First (Ok a) × Next a (Ok b)
then_read First Next b (stop f p e) = absurd (not_both b f e)
then_read First Next b (go a p n) = (a, p, n)

-- where it has a fault, it is the first step's or the next one's
pub then_fault : {A B F : Type 0} (First : Step A F) (Next : A → Step B F) (f : F) → Then First Next (Err f) → First (Err f) ⊎ ((a : A) × First (Ok a) × Next a (Err f))
then_fault {F = F} First Next f (stop g p e) = inl (subst (λ (x : F). First (Err x)) (err_is g f (sym e)) p)
then_fault First Next f (go a p n) = inr (a, p, n)

-- the first step's fault is the chain's
pub stops : {A B F : Type 0} (First : Step A F) (Next : A → Step B F) (f : F) → First (Err f) → Then First Next (Err f)
stops First Next f p = stop f p refl
