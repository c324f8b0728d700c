-- One instruction more of a head, and where one ends too early.
use Rattle.std.proofs.Common.{◌≡◌, ◌∙◌, ℕ, ◌+◌, Bool, true, List, Some, None, slice_get, ap, add-one, if◌then◌else◌}
use Rattle.dc_base.specs.declared.names.MemberId.{MemberId}
use Rattle.cil_rows.specs.declared.row.Row.{Row}
use Rattle.cli_heads.specs.declared.head.Store.{Store}
use Rattle.cli_heads.specs.declared.begun.Begun.{Begun}
use Rattle.cli_heads.specs.declared.maker.Maker.{Maker}
use Rattle.cli_heads.specs.Begun.{goes_on}
use Rattle.cli_heads.specs.Head.{is_plain, goes_on_with, begun}
use Rattle.cli_heads.specs.Fault.{is_same, first_bad, offset_at}

pub begun_more : (s : Maker) (k : ℕ) (row : Row) (b : Begun) → slice_get s.rows.now k ≡ Some row → begun s k ≡ Some b → is_plain s k ≡ true
    → begun s (k + 1) ≡ goes_on s k row b
begun_more s k row b stands is plain =
    ap (λ n. begun s n) (add-one k)
    ∙ (ap (λ r. goes_on_with s k r (begun s k)) stands
    ∙ (ap (λ o. goes_on_with s k (Some row) o) is ∙ ap (λ p. if p then goes_on s k row b else None) plain))

pub bad_offset : (s : Maker) (callee : MemberId) (same : Bool) (items stores : List Store) (n offset : ℕ) → same ≡ is_same s callee → items ≡ stores
    → offset ≡ offset_at s (first_bad same items n) → offset ≡ offset_at s (first_bad (is_same s callee) stores n)
bad_offset s callee same items stores n offset is alike at =
    at
    ∙ (ap (λ b. offset_at s (first_bad b items n)) is ∙ ap (λ xs. offset_at s (first_bad (is_same s callee) xs n)) alike)
