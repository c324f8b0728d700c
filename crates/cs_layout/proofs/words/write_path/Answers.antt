use Rattle.std.proofs.Common.{◌∙◌, ap, arith}
use Rattle.std.specs.String.{string_bytes}
use Rattle.std.proofs.lemmas.List.{take_rest}
use Rattle.cs_layout.specs.Pieces.{followed}
use Rattle.cs_layout.specs.Words.{more_names}
use Rattle.cs_layout.proofs.Following.{path_written}
use Rattle.cs_layout.proofs.words.write_path.Goals as goal

pub returns-in_ok-write_more_names-in-len1-up : goal.returns-in_ok-write_more_names-in-len1-up
returns-in_ok-write_more_names-in-len1-up c =
    let rest = ap (λ names. followed (string_bytes c.write_name.new.out) (more_names names)) (take_rest c.args.names.now 1) in
    path_written _ _ _ c.args.names.now c.first-item.result (omega (arith, c.in-len1-up.len_at_least)) c.first-item.is c.in_ok-write_name-in-len1-up.ensures
    (c.in_ok-write_more_names-in-len1-up.ensures ∙ rest)
