use Rattle.std.proofs.Common.{◌∙◌, ℕ, List, ap, subst}
use Rattle.std.specs.List.{filter_map}
use Rattle.dc_base.specs.declared.names.Token.{Token}
use Rattle.cli_named.specs.declared.numbers.Numbers.{Numbers}
use Rattle.cli_named.specs.Rows.{AreNamed}
use Rattle.cli_named.specs.Numbers.{number_of, token_of}
use Rattle.cli_named.proofs.lists.list.Goals as goal

pub returns : goal.returns
returns c = record {
  tokens = c.in_ok-tokens.tokens.items;
  named = subst (λ (n : Numbers). AreNamed c.args.metadata.now (token_of n c.args.k) c.in_ok-tokens.tokens.items) c.requires.numbers c.in_ok-tokens.ensures;
  numbers = c.of.ensures ∙ (c.in_ok-in_numbers.ensures ∙ (ap (λ (xs : List Token). filter_map (number_of c.args.numbers.now) xs) c.as_slice.ensures.value ∙ ap (λ (n : Numbers). filter_map (number_of n) c.in_ok-tokens.tokens.items) c.requires.numbers));
}
