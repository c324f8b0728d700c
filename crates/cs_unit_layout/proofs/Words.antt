-- The bytes of the headwords that are names.
use Rattle.std.specs.Prelude.{◌≡◌, codes}
use Rattle.std.specs.List.{flat_map}
use Rattle.std.specs.Str.{chars}
use Rattle.std.proofs.Common.{refl}
use Rattle.cs_layout.specs.Pieces.{piece_bytes}
use Rattle.cs_unit_layout.specs.declared.headwords.Headword.TheVariants as begin
use Rattle.cs_unit_layout.specs.Heads.{headword}

pub indexer_bytes : codes "indexer " ≡ flat_map piece_bytes (headword begin.Indexer)
unfolding headword chars lib.Utf8.encode
indexer_bytes = refl

pub get_bytes : codes "get" ≡ flat_map piece_bytes (headword begin.Get)
unfolding headword chars lib.Utf8.encode
get_bytes = refl

pub set_bytes : codes "set" ≡ flat_map piece_bytes (headword begin.Set)
unfolding headword chars lib.Utf8.encode
set_bytes = refl
