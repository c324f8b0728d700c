-- The text of a flat body: the bytes of its tree's layout, with no blank before its lines.
use Rattle.std.specs.Prelude.{ℕ, List, []}
use Rattle.std.specs.List.{flat_map}
use Rattle.cs_layout.specs.Pieces.{piece_bytes}
use Rattle.cs_unit_layout.specs.Members.{member_laid}
use Rattle.cs_body.specs.declared.body.Body.{Body}
use Rattle.ilspy_body.specs.Tree.{member_of}

abbrev pub text_of : Body → List ℕ
text_of body = flat_map piece_bytes (member_laid (member_of body) [])
