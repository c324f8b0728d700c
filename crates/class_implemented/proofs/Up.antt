-- A walk up the base chain for what is missing.
use Rattle.std.proofs.Common.{◌≡◌, ◌⊎◌, ℕ, ◌<◌, Bool, true, Option, Some, None, List, length, inl, inr, sym, subst, ◌∙◌}
use Rattle.std.specs.List.{slice_get}
use Rattle.std.proofs.lemmas.Option.{slice_get_within}
use Rattle.class_chains.specs.Ends.{Reaches, here, further}
use Rattle.class_parts.proofs.Climb.{one_base, reached}
use Rattle.class_keys.specs.Least.{IsLeastOf, lesser_of}
use Rattle.class_rows.specs.declared.row.TypeRow.{TypeRow}
use Rattle.class_rows.specs.declared.row.MemberRow.{MemberRow}
use Rattle.class_rows.specs.Types.{HasType, IsBase, IsClass, InBaseChain}
use Rattle.class_rows.specs.Implemented.{IsImplementer}
use Rattle.class_implemented.specs.declared.known.Known.{Known}
use Rattle.class_implemented.specs.Known.{IsKnown}
use Rattle.class_implemented.specs.Open.{IsDone, IsOpenFrom, IsOpenAbove, IsMissing, AreClean}
use Rattle.class_implemented.proofs.Least.{IsSoFar, so_far_begins, so_far_more, so_far_ends}

-- two ways up in turn
then_up : (up : ℕ → ℕ → Type 0) (s t u : ℕ) → Reaches up s t → Reaches up t u → Reaches up s u
then_up up s t u (here v) r = r
then_up up s t u (further v b w way rest) r = further v b u way (then_up up b w u rest r)

implementer_done : (known : Known) (c m x : ℕ) → IsImplementer known.types.now known.members.now known.explicit.now c m x → IsDone known c m
implementer_done known c m x i = (i.b, i.base, record { x = x; row = i.row; stands = i.stands; owned = i.owned; implements = i.implements })

done_implementer : (known : Known) (c m : ℕ) → IsDone known c m → (x : ℕ) × IsImplementer known.types.now known.members.now known.explicit.now c m x
done_implementer known c m d = (d.2.x, record { b = d.0; base = d.1; row = d.2.row; stands = d.2.stands; owned = d.2.owned; implements = d.2.implements })

-- what is missing in a class are the methods of the interfaces above it that have no implementer
pub missing_open : (known : Known) (c m : ℕ) → IsMissing known c m → IsOpenAbove known c c m
missing_open known c m miss =
    let method = miss.due.method in (
      miss.due.b,
      miss.due.base,
      (
        miss.due.i,
        miss.due.interface,
        (
          record { row = method.row; stands = method.stands; is = method.is.0 },
          (
            record { row = method.row; stands = method.stands; is = (method.is.1, method.is.2) },
            λ done. let i = done_implementer known c m done in miss.none i.0 i.1,
          ),
        ),
      ),
    )

pub open_missing : (known : Known) (c d m : ℕ) → HasType known.types.now d (λ row. IsClass row.kind) → InBaseChain known.types.now c d → IsOpenAbove known c d m → IsMissing known d m
open_missing known c d m class up open_ =
    let owned = open_.2.2.0 in
    let method = open_.2.2.1.0 in
    let same : owned.row ≡ method.row = one_row known.members.now m owned.row method.row owned.stands method.stands in
    record {
      due = record {
        class = class;
        b = open_.0;
        base = open_.1;
        i = open_.2.0;
        interface = open_.2.1;
        method = record { row = method.row; stands = method.stands; is = (subst (λ (r : MemberRow). r.owner ≡ record { 0 = open_.2.0 }) same owned.is, method.is.0, method.is.1) };
      };
      none = λ x i. let d_done = implementer_done known d m x i in
          open_.2.2.1.1 (d_done.0, then_up (IsBase known.types.now) c d d_done.0 up d_done.1, d_done.2);
    }
  where
    one_row : {X : Type 0} (xs : List X) (t : ℕ) (a b : X) → slice_get xs t ≡ Some a → slice_get xs t ≡ Some b → a ≡ b
    one_row xs t a b p q = let e : Some a ≡ Some b = sym p ∙ q in cc

-- the interfaces of c and of the bases up to here are passed
pub record IsOnChain (known : Known) (c at : ℕ) (least : Option ℕ) : Type 0 where
  pub up : InBaseChain known.types.now c at
  pub so_far : IsSoFar (IsMissing known c) (λ m. (b : ℕ) × IsBase known.types.now at b × IsOpenAbove known c b m) least

above_next : (known : Known) (c d m : ℕ) → IsOpenAbove known c d m → IsOpenFrom known c d m ⊎ ((b : ℕ) × IsBase known.types.now d b × IsOpenAbove known c b m)
above_next known c d m open_ = elim (reached (IsBase known.types.now) d open_.0 open_.1) [
  | inl e ↦ inl (subst (λ (n : ℕ). IsOpenFrom known c n m) (sym e) open_.2)
  | inr s ↦ inr (s.0, s.1, (open_.0, s.2, open_.2))
]

pub from_missing : (known : Known) (c d m : ℕ) → HasType known.types.now c (λ row. IsClass row.kind) → InBaseChain known.types.now c d → IsOpenFrom known c d m → IsMissing known c m
from_missing known c d m class up open_ = open_missing known c c m class (here c) (d, up, open_)

pub chain_begins : (known : Known) (c : ℕ) (o : Option ℕ) → HasType known.types.now c (λ row. IsClass row.kind) → IsLeastOf (IsOpenFrom known c c) o → IsOnChain known c c o
chain_begins known c o class first = record {
  up = here c;
  so_far = so_far_more (IsMissing known c) (IsOpenFrom known c c) (IsOpenAbove known c c) (λ m. (b : ℕ) × IsBase known.types.now c b × IsOpenAbove known c b m) None o
      (so_far_begins (IsMissing known c) (IsOpenAbove known c c) (missing_open known c)) first
      (λ m q. from_missing known c c m class (here c) q) (λ m r. above_next known c c m r);
}

pub chain_on : (known : Known) (c at b : ℕ) (least o : Option ℕ) → HasType known.types.now c (λ row. IsClass row.kind) → IsOnChain known c at least → IsBase known.types.now at b → IsLeastOf (IsOpenFrom known c b) o → IsOnChain known c b (lesser_of least o)
chain_on known c at b least o class on base first =
    let up = then_up (IsBase known.types.now) c at b on.up (further at b b base (here b)) in
    record {
      up = up;
      so_far = so_far_more (IsMissing known c) (IsOpenFrom known c b) (λ m. (b : ℕ) × IsBase known.types.now at b × IsOpenAbove known c b m) (λ m. (d : ℕ) × IsBase known.types.now b d × IsOpenAbove known c d m) least o
          on.so_far first
          (λ m q. from_missing known c b m class up q)
          (λ m r. above_next known c b m (subst (λ (n : ℕ). IsOpenAbove known c n m) (one_base known.types.now at r.0 b r.1 base) r.2));
    }

pub chain_ends : (known : Known) (c at : ℕ) (least : Option ℕ) → IsOnChain known c at least → ((b : ℕ) → IsBase known.types.now at b → ⊥) → IsLeastOf (IsMissing known c) least
chain_ends known c at least on top = so_far_ends _ _ least on.so_far (λ m r. top r.0 r.1)

-- a base is a class
pub base_class : (known : Known) (at b : ℕ) → IsKnown known → IsBase known.types.now at b → HasType known.types.now b (λ row. IsClass row.kind)
base_class known at b is base =
    let fit = (is.bases at).base b base in
    record { row = fit.row; stands = fit.stands; is = inl fit.is.0 }

-- above a base that is marked nothing is missing
pub chain_clean : (known : Known) (clean : List Bool) (c at b : ℕ) (least : Option ℕ) → IsKnown known → AreClean known clean → IsOnChain known c at least → IsBase known.types.now at b → slice_get clean b ≡ Some true → IsLeastOf (IsMissing known c) least
chain_clean known clean c at b least is are on base mark =
    let up = then_up (IsBase known.types.now) c at b on.up (further at b b base (here b)) in
    so_far_ends _ _ least on.so_far (λ m r.
    are b mark m (open_missing known c b m (base_class known at b is base) up (subst (λ (n : ℕ). IsOpenAbove known c n m) (one_base known.types.now at r.0 b r.1 base) r.2)))

pub type_within : (types : List TypeRow) (t : ℕ) (Fact : TypeRow → Type 0) → HasType types t Fact → t < length types
type_within types t Fact h = slice_get_within types t h.row h.stands
