-- What is printed of a text is read as it.
use Rattle.cs_tree.specs.declared.declarations.Unit.{Unit as WholeText}
use Rattle.cs_units.specs.Declarations.{unit_at, inside}
use Rattle.cs_roundtrip_texts.proofs.Whole.{printed_texts}
use Rattle.cs_read_texts.specs.Texts.{IsText, IsRead}
use Rattle.cs_read_texts.proofs.OneText.{has_one_text}
use Rattle.cs_roundtrip.specs.Laws.{printed, PrintedTextsAreRead}
use Rattle.std.proofs.Common.{◌≡◌, Result, Ok, Err, ap, ◌∙◌, arith}
use Rattle.dc_base.specs.declared.failure.Or.{Or}
use Rattle.dc_base.specs.declared.failure.Or.TheVariants.{NoMemory, Fault as WithFault}
use Rattle.cs_tree.specs.BareUnits.{bare_unit}
use Rattle.cs_statements.specs.Blocks.{text_levels, text_ranks, text_blocks}
use Rattle.cs_read_texts.specs.declared.fault.ReadFault.{ReadFault}
use Rattle.cs_read.specs.Depths.{text_nesting, text_grammar, wider_grammar}
use Rattle.cs_roundtrip.specs.Printed.{IsPrintable, IsReadBack}

pub printed_read : PrintedTextsAreRead
printed_read levels ranks blocks nesting u some more well notes =
    let back = printed_texts levels ranks blocks nesting u some more well notes in
    let v = back.2 in
    let is : IsText (unit_at (inside levels ranks blocks) nesting) (printed u) v.0 = record { tokens = back.0; cut = back.1; derived = v.2 } in
    record { read = v.0; same = v.1; is = is; only = λ r a. has_one_text levels ranks blocks nesting some more (printed u) r (Ok v.0) a is }

abbrev answer_of : WholeText → Result WholeText ReadFault
answer_of u = Ok u

abbrev fault_of : ReadFault → Result WholeText ReadFault
fault_of fault = Err fault

-- of an answer of the reader
same_text : (u v : WholeText) → answer_of u ≡ answer_of v → u ≡ v
same_text u v e = cc

no_fault : (fault : ReadFault) (v : WholeText) → fault_of fault ≡ answer_of v → ⊥
no_fault fault v e = cc

pub back_of : (u : WholeText) → IsPrintable u → (r : Result WholeText (Or ReadFault)) → IsRead text_grammar wider_grammar (printed u) r → IsReadBack u r
back_of u w (Ok v) a = let law = printed_read text_levels text_ranks text_blocks text_nesting u (omega arith) (omega arith) w.0 w.1 in ap bare_unit (same_text v law.read (law.only (Ok v) a)) ∙ law.same
back_of u w (Err (WithFault fault)) a = let law = printed_read text_levels text_ranks text_blocks text_nesting u (omega arith) (omega arith) w.0 w.1 in no_fault fault law.read (law.only (Err fault) a)
back_of u w (Err NoMemory) a = tt
