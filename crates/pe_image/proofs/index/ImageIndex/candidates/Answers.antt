use Rattle.std.proofs.Common.{◌≡◌, ◌∙◌, ℕ, ◌+◌, List, subst, ap, arith}
use Rattle.std.specs.Prelude.{find, min, length, ◌*◌, ◌-◌, take, drop}
use Rattle.std.specs.Global.{Vec}
use Rattle.pe_image.specs.declared.blocks.Reach.{Reach}
use Rattle.pe_image.specs.declared.sections.Section.{Section}
use Rattle.pe_image.specs.Sections.{holds}
use Rattle.pe_image.specs.Image.{IndexParts}
use Rattle.pe_image.specs.Blocks.{AreShort}
use Rattle.pe_image.proofs.Find.{blocks_decide}
use Rattle.pe_image.proofs.index.ImageIndex.candidates.Goals as goal

pub returns : goal.returns
returns c =
    let sections = c.self.inside.sections.items in
    let rva = c.args.rva in
    let len = c.args.len in
    let end : c.from.result + c.from-2.result ≡ rva + len = omega (arith, c.from.ensures, c.from-2.ensures) in
    let wide = subst (λ (ws : List (Vec Reach)). AreShort ws 0 c.next_reaching-wide.result rva (rva + len)) c.as_slice.ensures.value
    (subst (λ (n : ℕ). AreShort c.as_slice.result.now 0 c.next_reaching-wide.result rva n) end c.next_reaching-wide.ensures.passed) in
    let block = subst (λ (bs : List (Vec Reach)). AreShort bs (c.next_reaching-wide.result * 32) c.next_reaching-block.result rva (rva + len)) c.as_slice-2.ensures.value
    (subst (λ (n : ℕ). AreShort c.as_slice-2.result.now (c.next_reaching-wide.result * 32) c.next_reaching-block.result rva n) end c.next_reaching-block.ensures.passed) in
    let from : c.min.result ≡ min (length sections) (c.next_reaching-block.result * 64) = c.min.ensures ∙ ap (λ (ss : List Section). min (length ss) (c.next_reaching-block.result * 64)) c.as_slice-sections.ensures.value in
    let view : sections ≡ c.args.self.now.sections = ap (λ (v : IndexParts). v.sections) c.self.view_is in
    ap (λ (ss : List Section). find (holds rva len) (take (length ss - c.min.result) (drop c.min.result ss))) c.as_slice-sections.ensures.value
    ∙ blocks_decide sections c.self.inside.blocks.items c.self.inside.wide.items c.self.invariant.blocks c.self.invariant.wide rva len c.next_reaching-wide.result c.next_reaching-block.result c.min.result from wide block
    ∙ ap (find (holds rva len)) view
