-- Files, images and metadata are read in one way, so one status and one text are due for it.
use Rattle.ilspy_cli.proofs.OneDue.{Readings, one_due}
use Rattle.ilspy_cli.proofs.due.one_due.Goals as goal

pub returns : goal.returns
returns c = λ shelf files told still given words status other text others p q.
    let readings : Readings = record {
      one_code = c.one_reading.ensures.one_code;
      no_fault = c.one_reading.ensures.no_fault;
      one_fault = c.one_reading.ensures.one_fault;
      one_image = c.one_reading-2.ensures.one_image;
      no_image_fault = c.one_reading-2.ensures.no_fault;
      one_image_fault = c.one_reading-2.ensures.one_fault;
      one_content = c.one_reading-3.ensures.one_content;
      no_metadata_fault = c.one_reading-3.ensures.no_fault;
      one_metadata_fault = c.one_reading-3.ensures.one_fault;
    } in
    let same = one_due readings shelf files told still given words status other text others p q in
    (same.status, same.text)
