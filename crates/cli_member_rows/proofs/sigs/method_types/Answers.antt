use Rattle.std.proofs.Common.{◌≡◌, sym, subst}
use Rattle.std.proofs.lemmas.Bool.{OnTrue_at, OnFalse_at}
use Rattle.cli_member_rows.specs.declared.sigs.MethodTypes.{MethodTypes}
use Rattle.cli_member_rows.specs.Said.{delegate_types, AreRead, AreMethodTypes, usual, other, none}
use Rattle.cli_member_rows.proofs.Handed.{handed}
use Rattle.cli_member_rows.proofs.sigs.method_types.Goals as goal

pub returns-then-is_usual : goal.returns-then-is_usual
returns-then-is_usual c =
    handed (λ (read : MethodTypes). read ≡ delegate_types c.args.types.now) (AreMethodTypes c.args.metadata.now c.args.types.now c.args.signature c.args.may_be_usual) c.delegate_types.result
    (λ read is. subst (λ (x : MethodTypes). AreMethodTypes c.args.metadata.now c.args.types.now c.args.signature c.args.may_be_usual x) (sym is)
    (usual c.in-Ok.blob.now c.in-Ok.ensures.found (OnTrue_at c.if-is_usual.true c.is_usual.ensures.yes)))
    c.delegate_types.ensures

pub returns-else-is_usual : goal.returns-else-is_usual
returns-else-is_usual c =
    handed (AreRead c.args.types.now c.in-Ok.blob.now) (AreMethodTypes c.args.metadata.now c.args.types.now c.args.signature c.args.may_be_usual) c.read_types.result
    (λ read is. other c.in-Ok.blob.now read c.in-Ok.ensures.found (OnFalse_at c.if-is_usual.false c.is_usual.ensures.no) is)
    c.read_types.ensures

pub returns-in-Err : goal.returns-in-Err
returns-in-Err c =
    subst (λ (x : MethodTypes). AreMethodTypes c.args.metadata.now c.args.types.now c.args.signature c.args.may_be_usual x) (sym c.no_types.ensures)
    (none c.in-Err.field-0 c.in-Err.ensures.fault)
