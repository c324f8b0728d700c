-- The text reads as one tree, whose body is that of the flat form; and the flat form returns what the code returns.
use Rattle.std.proofs.Common.{ℕ, ◌≤◌, ◌<◌, ◌^◌, List, [], length, arith}
use Rattle.cs_body.specs.declared.body.Role.TheVariants.{Local, SlotVar}
use Rattle.ilspy_body.specs.Flat.{flat_from, lone_body, flat_of}
use Rattle.ilspy_body.specs.Layout.{text_of}
use Rattle.ilspy_body.proofs.CilRuns.{consecutive_length}
use Rattle.ilspy_body.proofs.FlatLength.{flat_within}
use Rattle.ilspy_body.proofs.Returns.{LoneLaws, flat_runs_as}
use Rattle.ilspy_body.proofs.TextReads.{TextLaws, flat_text_reads}
use Rattle.cil_lone.specs.Cut.{Placed}
use Rattle.cil_lone.specs.Lone.{IsLone}
use Rattle.ilspy_body.specs.Theorem.{LoneBodyMeansTheSame}

pub text_means_the_same_lem : LoneLaws → TextLaws → (file : List ℕ) (code : List Placed) → length file ≤ 64 → IsLone file code → LoneBodyMeansTheSame file (text_of (flat_of code))
text_means_the_same_lem laws texts file code short lone =
    let stmts = flat_from 4 [] code in
    let end : length file < 2 ^ 32 = omega arith in
    let flat = flat_runs_as laws Local (λ e. cc) file code end lone in
    let fits : length stmts ≤ 2 ^ 32 = omega (arith, flat_within code 4 [], consecutive_length 1 code (length file) (laws.consecutive file code lone)) in
    let reads = flat_text_reads texts SlotVar stmts flat.flat fits in
    record {
      code = code;
      lone = lone;
      tokens = reads.tokens;
      lexed = reads.lexed;
      tree = reads.tree;
      parsed = reads.parsed;
      body = lone_body Local stmts;
      elaborated = reads.elaborated;
      runs = flat.runs;
    }
