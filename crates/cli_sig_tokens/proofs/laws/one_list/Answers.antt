use Rattle.cli_sig_tokens.proofs.One.{tokens_are_one, spec_tokens_are_one}
use Rattle.cli_sig_tokens.proofs.laws.one_list.Goals as goal

pub returns-clause-tokens : goal.returns-clause-tokens
returns-clause-tokens c = tokens_are_one c.one_number_begins.ensures c.one_reading.ensures.one_derivation c.one_reading.ensures.no_fault

pub returns-clause-specs : goal.returns-clause-specs
returns-clause-specs c = spec_tokens_are_one c.one_number_begins.ensures c.one_reading.ensures.one_derivation
