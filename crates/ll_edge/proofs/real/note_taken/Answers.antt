use Rattle.ll_edge.proofs.Noting.{bytes_noted-noted}
use Rattle.ll_edge.proofs.real.note_taken.Goals as goal

pub returns : goal.returns
returns c = bytes_noted-noted c.args.notes.now.notes c.note.new.self.notes _ _ c.args.bytes.now c.note.ensures
