use Rattle.std.proofs.lemmas.Bool.{false≢true}
use Rattle.class_implemented.proofs.missing.missing.Goals as goal

pub returns-else-is_class : goal.returns-else-is_class
returns-else-is_class c = λ m miss. false≢true (c.if-is_class.ensures.no miss.due.class)
