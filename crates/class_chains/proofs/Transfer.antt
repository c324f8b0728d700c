-- What holds of chains over one relation holds over a narrower one.
use Rattle.std.proofs.Common.{◌≡◌, ℕ, ◌<◌, ◌≤◌, List, Some, arith}
use Rattle.std.specs.List.{slice_get}
use Rattle.class_chains.specs.Ends.{Ends, ends, IsAboveFirst, IsFirstOpen}

pub ends_in : (up down : ℕ → ℕ → Type 0) → ((t b : ℕ) → down t b → up t b) → (t : ℕ) → Ends up t → Ends down t
ends_in up down narrower t (ends u all) = ends u (λ b way. ends_in up down narrower b (all b (narrower u b way)))

pub above_first_in : (up down : ℕ → ℕ → Type 0) → ((t b : ℕ) → down t b → up t b) → (bound : ℕ) (order : List ℕ) → IsAboveFirst up bound order → IsAboveFirst down bound order
above_first_in up down narrower bound order first = record {
  all = first.all;
  within = first.within;
  above = λ k t b h way lt. first.above k t b h (narrower t b way) lt;
}

-- the same numbers are open over two relations that say the same
pub first_open_in : (up down : ℕ → ℕ → Type 0) → ((t b : ℕ) → down t b → up t b) → ((t b : ℕ) → up t b → down t b) → (t : ℕ) → IsFirstOpen up t → IsFirstOpen down t
first_open_in up down narrower wider t first = record {
  open_ = λ done. first.open_ (ends_in down up wider t done);
  before = λ s lt. ends_in up down narrower s (first.before s lt);
}
