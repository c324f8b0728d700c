use Rattle.std.proofs.Common.{◌<◌, length, refl, arith}
use Rattle.std.proofs.lemmas.Bool.{false≢true}
use Rattle.std.proofs.lemmas.Option.{slice_get_within}
use Rattle.class_alike.proofs.Marks.{marks_kept, marks_more}
use Rattle.class_alike.proofs.named.marked.Goals as goal

pub returns-then-not-is_of_reference : goal.returns-then-not-is_of_reference
returns-then-not-is_of_reference c = λ seen are.
    marks_kept c.args.types.now c.args.members.now seen c.args.marks.items c.args.pair (λ of. false≢true (c.if-not-is_of_reference.ensures.no of)) are

pub index_mut-requires : goal.index_mut-requires
index_mut-requires c =
    let of = c.if-not-is_of_reference.ensures.yes refl in
    let there : c.args.pair.0.0 < length c.args.members.now = slice_get_within c.args.members.now c.args.pair.0.0 of.row of.stands in
    omega (arith, there, c.requires)

pub returns : goal.returns
returns c = λ seen are.
    marks_more c.args.types.now c.args.members.now seen c.args.marks.items c.args.pair (c.if-not-is_of_reference.ensures.yes refl) are
