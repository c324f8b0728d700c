use Rattle.pe_image.proofs.Faults.{ranges_within, rests_within, metadata_within}
use Rattle.pe_image.proofs.laws.ranges_are_within.Goals as goal

pub returns-clause-ranges : goal.returns-clause-ranges
returns-clause-ranges c = ranges_within

pub returns-clause-rests : goal.returns-clause-rests
returns-clause-rests c = rests_within

pub returns-clause-metadata : goal.returns-clause-metadata
returns-clause-metadata c = metadata_within
