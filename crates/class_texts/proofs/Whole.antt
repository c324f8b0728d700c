-- The rows of a text, from those of the types that it declares.
use Rattle.std.proofs.Common.{◌≡◌, ◌∙◌, List, [], ◌∷◌, ◌++◌, map, refl, ap, subst}
use Rattle.dc_base.specs.declared.names.MemberId.{MemberId}
use Rattle.class_rows.specs.declared.row.TypeRow.{TypeRow}
use Rattle.class_rows.specs.declared.row.MemberRow.{MemberRow}
use Rattle.cs_tree.specs.declared.declarations.Unit.{Unit as WholeText}
use Rattle.cs_declared.specs.declared.declared.Declared.{Declared}
use Rattle.cs_declared.specs.Types.{Placed, types_in}
use Rattle.cs_declared.specs.Seen.{seen}
use Rattle.class_written.specs.Named.{Known}
use Rattle.class_written.specs.Numbered.{known_in}
use Rattle.class_written.specs.TypeRows.{type_row}
use Rattle.class_texts.specs.declared.row.Row.{Row}
use Rattle.class_texts.specs.MemberRows.{rows_from}
use Rattle.class_texts.specs.Pairs.{ArePairs}
use Rattle.class_texts.specs.Text.{known_types, AreRowsOf}

known_seen : (found : List Declared) → known_in found ≡ known_types (map seen found)
known_seen [] = refl
known_seen (d ∷ found) = ap (λ (ks : List Known). known_in (d ∷ []) ++ ks) (known_seen found)

types_seen : (known : List Known) (found : List Declared) → map (λ d. type_row known (seen d)) found ≡ map (type_row known) (map seen found)
types_seen known [] = refl
types_seen known (d ∷ found) = ap (λ (rs : List TypeRow). type_row known (seen d) ∷ rs) (types_seen known found)

pub whole : (unit : WholeText) (found : List Declared) (types : List TypeRow) (rows : List Row) (members : List MemberRow) (pairs : List (MemberId × MemberId)) → map seen found ≡ types_in unit → types ≡ map (λ d. type_row (known_in found) (seen d)) found → rows ≡ rows_from (known_in found) 0 (map (λ d. seen d) found) → members ≡ map (λ r. r.row) rows → ArePairs (known_in found) rows pairs → AreRowsOf unit types members pairs
whole unit found types rows members pairs declared of_types of_members told paired =
    let known : known_in found ≡ known_types (types_in unit) = known_seen found ∙ ap known_types declared in
    let all : rows ≡ rows_from (known_types (types_in unit)) 0 (types_in unit) =
    of_members ∙ ap (λ (ks : List Known). rows_from ks 0 (map seen found)) known ∙ ap (λ (ps : List Placed). rows_from (known_types (types_in unit)) 0 ps) declared in
    record {
      types = of_types ∙ types_seen (known_in found) found ∙ ap (λ (ks : List Known). map (type_row ks) (map seen found)) known ∙ ap (λ (ps : List Placed). map (type_row (known_types (types_in unit))) ps) declared;
      those = told ∙ ap (λ (rs : List Row). map (λ r. r.row) rs) all;
      pairs = subst (λ (rs : List Row). ArePairs (known_types (types_in unit)) rs pairs) all (subst (λ (ks : List Known). ArePairs ks rows pairs) known paired);
    }
