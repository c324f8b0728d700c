-- Inner facts: the rows of members by what they are, with none for all others.
use Rattle.std.specs.Prelude.{[], ◌∷◌, List, map}
use Rattle.cs_tree.specs.declared.members.Member.{Member}
use Rattle.cs_tree.specs.declared.members.Member.TheVariants as member
use Rattle.class_written.specs.Named.{Known}
use Rattle.class_texts.specs.declared.row.Home.{Home}
use Rattle.class_texts.specs.declared.row.Row.{Row}
use Rattle.class_texts.specs.MemberRows.{plain, field_row, constant_row, method_rows, property_rows, indexer_rows, constructor_row, operator_row}

abbrev pub of_field : List Known → Home → Member → List Row
of_field types home (member.Field _ _ mods ty name v) = plain (field_row types home mods ty name) ∷ []
of_field types home (member.Constant _ _ mods ty name v) = plain (constant_row types home mods ty name v) ∷ []
of_field types home _ = []

abbrev pub of_method : List Known → Home → Member → List Row
of_method types home (member.Method _ _ mods result explicit name params block) = method_rows types home mods result explicit name params ∷ []
of_method types home _ = []

abbrev pub of_property : List Known → Home → Member → List Row
of_property types home (member.Property _ _ mods ty name getter setter) = map plain (property_rows types home mods ty name getter setter)
of_property types home _ = []

abbrev pub of_indexer : List Known → Home → Member → List Row
of_indexer types home (member.Indexer _ mods ty name index_ty index getter setter) =
    map plain (indexer_rows types home mods ty name index_ty getter setter)
of_indexer types home _ = []

abbrev pub of_maker : List Known → Home → Member → List Row
of_maker types home (member.Maker _ mods name params) = plain (constructor_row types home mods params) ∷ []
of_maker types home (member.Operator _ ty name params) = plain (operator_row types home ty name params) ∷ []
of_maker types home _ = []
