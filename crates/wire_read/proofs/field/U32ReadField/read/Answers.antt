use Rattle.wire_read.proofs.Counts.{front}
use Rattle.wire_read.proofs.field.U32ReadField.read.Goals as goal

pub returns : goal.returns
returns c = front _ _ _ _ c.requires c.read_digits-n.ensures c.if-not-is_count.ensures
