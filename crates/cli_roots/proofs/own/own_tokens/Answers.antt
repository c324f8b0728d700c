use Rattle.std.proofs.lemmas.Result.{IfOk-weaker}
use Rattle.std.proofs.Common.{Vec}
use Rattle.std.specs.declared.alloc.Global.{Global}
use Rattle.dc_base.specs.declared.names.Token.{Token}
use Rattle.cli_roots.proofs.First.{are_own}
use Rattle.cli_roots.proofs.own.own_tokens.Goals as goal

pub returns : goal.returns
returns c = IfOk-weaker _ _ _ (λ (found : Vec Token Global) last. are_own c.args.metadata.now c.new-found.result.items c.in_ok-found.found.items c.in_ok-found-2.found.items c.in_ok-found-3.found.items c.in_ok-found-4.found.items c.in_ok-found-5.found.items found.items (record {
  empty = c.new-found.ensures.items;
  types = c.in_ok-found.ensures;
  interfaces = c.in_ok-found-2.ensures;
  fields = c.in_ok-found-3.ensures;
  methods = c.in_ok-found-4.ensures;
  properties = c.in_ok-found-5.ensures;
  implementations = last;
})) c.with_rows-6.ensures
