-- At the end all words are there.
use Rattle.std.proofs.Common.{map, ap, ◌∙◌, sym, rules}
use Rattle.std.specs.String.{string_bytes}
use Rattle.std.specs.Vec.Iter.{into_iter_items}
use Rattle.std.proofs.lemmas.Iterator.Adapters.{YieldsList-from_vec}
use Rattle.std.proofs.lemmas.Iterator.Consumers.{YieldsList-end}
use Rattle.std.proofs.lemmas.List.{map-id}
use Rattle.ilspy_cli.proofs.process.all_texts.Goals as goal

pub returns : goal.returns
returns c =
    let all = YieldsList-from_vec {s = c.into_iter-word-iterator.result} (into_iter_items c.args.args) (search rules) (search rules) in
    let end = YieldsList-end all c.loop-word.yielded c.loop-word.word-iterator c.loop-word.yielded_by c.next.result c.next.new.self c.in-None.is c.next.ensures.steps in
    c.loop-word.invariant ∙ ap (map string_bytes) (sym (map-id c.loop-word.yielded) ∙ end.0)
