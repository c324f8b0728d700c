use Rattle.unicode_ident.specs.Ident.{is_xid_continue}
use Rattle.cs_token.proofs.Parts.{past_class}
use Rattle.cs_token.proofs.pieces.word.Goals as goal

pub returns-in-None-clause-passes : goal.returns-in-None-clause-passes
returns-in-None-clause-passes c = past_class is_xid_continue c.split_word.result.1.now c.args.text.now c.requires (record { front = c.split_word.result.0.now; whole = c.split_word.ensures.whole }) c.split_word.ensures.rest

pub returns-in-Some-clause-passes : goal.returns-in-Some-clause-passes
returns-in-Some-clause-passes c = past_class is_xid_continue c.split_word.result.1.now c.args.text.now c.requires (record { front = c.split_word.result.0.now; whole = c.split_word.ensures.whole }) c.split_word.ensures.rest
