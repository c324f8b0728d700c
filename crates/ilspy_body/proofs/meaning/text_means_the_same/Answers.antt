-- The text reads as one tree, whose body is that of the flat form; and the flat form returns what the code returns.
use Rattle.ilspy_body.proofs.LoneMeaning.{text_means_the_same_lem}
use Rattle.ilspy_body.proofs.meaning.text_means_the_same.Goals as goal

pub returns : goal.returns
returns c = text_means_the_same_lem (record {
  walks = c.balance_is_a_walk.ensures;
  consecutive = c.code_fills_the_file.ensures.consecutive;
  operands = c.code_fills_the_file.ensures.operands;
}) (record {
  lexed = c.one_answer.ensures;
  members = c.members_are_read_back.ensures;
})
