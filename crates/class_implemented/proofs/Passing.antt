-- Types that were gone through for a class, and for what stands on it.
use Rattle.std.proofs.Common.{◌≡◌, ℕ, ◌<◌, Option, Some, List, length, inl, inr, sym, subst}
use Rattle.std.specs.List.{slice_get}
use Rattle.class_chains.specs.Ends.{further}
use Rattle.class_rows.specs.declared.row.TypeRow.{TypeRow}
use Rattle.class_rows.specs.Types.{IsBase, NamesInterface, directly, in_turn}
use Rattle.class_spread.specs.declared.spread.Spread.{Spread}
use Rattle.class_implemented.specs.declared.known.Known.{Known}
use Rattle.class_implemented.specs.Known.{IsKnown}
use Rattle.class_implemented.specs.Open.{IsOpen, IsOpenFrom, IsPassed, ArePassed, IsMarkedWith}
use Rattle.class_implemented.proofs.Interfaces.{index_has, own_named, link_named}
use Rattle.class_implemented.proofs.Open.{named_within}

open_below : (known : Known) (c b m : ℕ) → IsBase known.types.now c b → IsOpen known c m → IsOpen known b m
open_below known c b m base open_ = (open_.0, λ done. open_.1 (done.0, further c b done.0 base done.1, done.2))

-- what was gone through for a base needn't be again
pub passed_up : (known : Known) (c b t : ℕ) → IsBase known.types.now c b → IsPassed known b t → IsPassed known c t
passed_up known c b t base passed m (inl in_) = passed m (inl (in_.0, open_below known c b m base in_.1))
passed_up known c b t base passed m (inr from_) = passed m (inr (from_.0, from_.1, (from_.2.0, open_below known c b m base from_.2.1)))

named_on : (types : List TypeRow) (t j i : ℕ) → NamesInterface types t j → NamesInterface types j i → NamesInterface types t i
named_on types t j i (directly u v named) rest = in_turn t j i named rest
named_on types t j i (in_turn u k v named on) rest = in_turn t k i named (named_on types k j i on rest)

passed_of : (known : Known) (c t : ℕ) → ((m : ℕ) → IsOpenFrom known c c m → ⊥) → NamesInterface known.types.now c t → IsPassed known c t
passed_of known c t none named m (inl in_) = none m (t, named, in_)
passed_of known c t none named m (inr from_) = none m (from_.0, named_on known.types.now c t from_.0 named from_.1, from_.2)

marked_passed : (known : Known) (before after : List (Option ℕ)) (interfaces : List ℕ) (c : ℕ) → ArePassed known before → IsMarkedWith before after interfaces c → ((k i : ℕ) → slice_get interfaces k ≡ Some i → IsPassed known c i) → ArePassed known after
marked_passed known before after interfaces c are marked all t x at = elim (marked t x at) [
  | inl here_ ↦ subst (λ (n : ℕ). IsPassed known n t) (sym here_.0) (all here_.1.0 t here_.1.1)
  | inr old ↦ are t x old
]

-- the walk over the interfaces that c names stands here
pub record IsPassing (known : Known) (c at : ℕ) (passed : List (Option ℕ)) : Type 0 where
  pub within : at < length known.types.now
  pub to_ : (i : ℕ) → NamesInterface known.types.now at i → NamesInterface known.types.now c i
  pub are : ArePassed known passed

pub passing_begins : (known : Known) (c : ℕ) (passed : List (Option ℕ)) → c < length known.types.now → ArePassed known passed → IsPassing known c c passed
passing_begins known c passed lt are = record { within = lt; to_ = λ i n. n; are = are }

pub passing_marked : (known : Known) (c at : ℕ) (before after : List (Option ℕ)) (s : Spread) → IsKnown known → ((m : ℕ) → IsOpenFrom known c c m → ⊥) → IsPassing known c at before → slice_get known.spreads.now at ≡ Some (Some s) → IsMarkedWith before after s.own c → ArePassed known after
passing_marked known c at before after s is none on stands marked =
    marked_passed known before after s.own c on.are marked (λ k i here_.
    passed_of known c i none (on.to_ i (own_named known.types.now known.spreads.now at i s is.spreads on.within stands (index_has s.own i k here_))))

pub passing_on : (known : Known) (c at b : ℕ) (before after : List (Option ℕ)) (s : Spread) → IsKnown known → ((m : ℕ) → IsOpenFrom known c c m → ⊥) → IsPassing known c at before → slice_get known.spreads.now at ≡ Some (Some s) → s.onward ≡ Some b → IsMarkedWith before after s.own c → IsPassing known c b after
passing_on known c at b before after s is none on stands link marked = record {
  within = named_within known is at b (is.spreads.links at b s stands link);
  to_ = λ i n. on.to_ i (link_named known.types.now known.spreads.now at b i s is.spreads stands link n);
  are = passing_marked known c at before after s is none on stands marked;
}
