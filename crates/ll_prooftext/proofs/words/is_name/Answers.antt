use Rattle.std.proofs.Common.{sym}
use Rattle.ll_prooftext.proofs.spelling.Spellings.{name_iff, no_name}
use Rattle.ll_prooftext.proofs.words.is_name.Goals as goal

pub returns-then-is_shaped : goal.returns-then-is_shaped
returns-then-is_shaped c = name_iff c.args.bytes.now c.is_keyword.result (sym c.if-is_shaped.ensures) c.is_keyword.ensures

pub returns-else-is_shaped : goal.returns-else-is_shaped
returns-else-is_shaped c = rw c.if-is_shaped.false (no_name c.args.bytes.now (sym c.if-is_shaped.ensures))
