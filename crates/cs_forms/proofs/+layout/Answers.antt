use Rattle.std.proofs.Common.{rules, ◌≡◌, ◌∙◌, ap}
use Rattle.std.specs.String.{string_bytes}
use Rattle.cs_layout.specs.Pieces.{followed}
use Rattle.cs_layout.specs.Layout.{deeper, arg_laid, syntax_laid, catching_laid, section_laid}
use Rattle.cs_layout.proofs.Following.{listed_laid_written, laid_item_written}
use Rattle.cs_forms.proofs.+layout.Goals as goal

pub expressions::write_args-loop-index-preserved : goal.expressions::write_args-loop-index-preserved
expressions::write_args-loop-index-preserved m c =
    listed_laid_written arg_laid (λ a. a c.args.margin.now) _ _ _ _ c.args.args.now c.loop-index.index c.index-args-index.result c.loop-index-test.true c.index-args-index.is
    c.loop-index.invariant c.in_ok-write_comma.ensures c.in_ok-write_arg.ensures

pub statements::write_statements-loop-stmt-preserved : goal.statements::write_statements-loop-stmt-preserved
statements::write_statements-loop-stmt-preserved m c =
    laid_item_written syntax_laid (λ s. s c.args.margin.now) _ _ _ c.args.stmts.now c.loop-stmt.stmt-index c.stmt-item.result c.loop-stmt-test.true c.stmt-item.is
    c.loop-stmt.invariant c.in_ok-write_syntax.ensures

pub statements::write_catches-loop-catch-preserved : goal.statements::write_catches-loop-catch-preserved
statements::write_catches-loop-catch-preserved m c =
    laid_item_written catching_laid (λ k. k c.args.margin.now) _ _ _ c.args.catches.now c.loop-catch.catch-index c.catch-item.result c.loop-catch-test.true c.catch-item.is
    c.loop-catch.invariant c.in_ok-write_catch.ensures

pub statements::write_sections-loop-section-preserved : goal.statements::write_sections-loop-section-preserved
statements::write_sections-loop-section-preserved m c =
    let inner : c.as_str.result.now ≡ deeper c.args.margin.now = search rules in
    let here = ap (λ d. followed (string_bytes c.loop-section.out) (section_laid c.section-item.result d)) inner in
    laid_item_written section_laid (λ s. s (deeper c.args.margin.now)) _ _ _ c.args.sections.now c.loop-section.section-index c.section-item.result c.loop-section-test.true
    c.section-item.is c.loop-section.invariant (c.in_ok-write_section.ensures ∙ here)
