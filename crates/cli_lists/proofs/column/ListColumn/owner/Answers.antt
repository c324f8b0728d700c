use Rattle.std.proofs.Common.{◌≡◌, ℕ, List, true, false, leb, rules, subst, sym, arith}
use Rattle.std.proofs.lemmas.List.Sorted.{IsPartitionPoint-from_clause}
use Rattle.std.specs.List.Sorted.{IsPartitionPoint, IsPartitionedBy}
use Rattle.cli_lists.proofs.Columns.{owner_there, no_owner, parted}
use Rattle.cli_lists.proofs.column.ListColumn.owner.Goals as goal
use Rattle.cli_lists.proofs.column.ListColumn.owner.Goals.{then-self-n-via-then-self-n, then-self-n-via-else-self-n+then-behind-eq0}

pub returns-then-self-n-clause-none : goal.returns-then-self-n-clause-none
returns-then-self-n-clause-none c k in_list =
    let point = IsPartitionPoint-from_clause (λ (x : ℕ). leb x c.args.n) _ _ c.partition_point-behind.ensures.partitioned (subst (λ (xs : List ℕ). IsPartitionedBy (λ (x : ℕ). leb x c.args.n) xs) (sym c.items.ensures) (parted c.args.self.now c.args.n c.requires)) (λ a r q k. search rules) in
    let point_ = subst (λ (xs : List ℕ). IsPartitionPoint (λ (x : ℕ). leb x c.args.n ≡ true) (λ (x : ℕ). leb x c.args.n ≡ false) xs c.partition_point-behind.result) c.items.ensures point in
    elim c.then-self-n.branch [
      | then-self-n-via-then-self-n w ↦ absurd (omega (arith, in_list.within, w.if-self-n))
      | then-self-n-via-else-self-n+then-behind-eq0 w ↦ no_owner c.args.self.now c.args.n c.partition_point-behind.result point_ (omega (arith, w.if-behind-eq0)) k in_list
    ]

pub returns-clause-some : goal.returns-clause-some
returns-clause-some c =
    let point = IsPartitionPoint-from_clause (λ (x : ℕ). leb x c.args.n) _ _ c.partition_point-behind.ensures.partitioned (subst (λ (xs : List ℕ). IsPartitionedBy (λ (x : ℕ). leb x c.args.n) xs) (sym c.items.ensures) (parted c.args.self.now c.args.n c.requires)) (λ a r q k. search rules) in
    let point_ = subst (λ (xs : List ℕ). IsPartitionPoint (λ (x : ℕ). leb x c.args.n ≡ true) (λ (x : ℕ). leb x c.args.n ≡ false) xs c.partition_point-behind.result) c.items.ensures point in
    owner_there c.args.self.now c.partition_point-behind.result c.args.n c.requires point_ (search (rules)) (omega (arith, c.if-self-n.false)) (omega (arith, c.if-behind-eq0.false))
