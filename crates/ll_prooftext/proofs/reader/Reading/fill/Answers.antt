use Rattle.std.proofs.Common.{arith}
use Rattle.ll_prooftext.specs.Reading.{is_none, want}
use Rattle.ll_prooftext.proofs.spelling.Kept.{grows_none, grows_on}
use Rattle.ll_prooftext.proofs.reading.SoFar.{so_far_none, so_far_more}
use Rattle.ll_prooftext.proofs.reading.Whole.{text_read, names_read, terms_inside, rules_inside}
use Rattle.ll_prooftext.proofs.reading.Faults.{no_version_cause, refused_within, refused_cause, left_cause, missing_cause}
use Rattle.ll_prooftext.proofs.reading.TakesRead.{next_begins}
use Rattle.ll_prooftext.proofs.reader.Reading.fill.Goals as goal

pub behind_version-requires : goal.behind_version-requires
behind_version-requires c = c.requires.short

pub returns-in_default-clause-err : goal.returns-in_default-clause-err
returns-in_default-clause-err c = no_version_cause c.args.text.now _ c.in_default.ensures c.fault.ensures

pub returns-in_default-clause-grows : goal.returns-in_default-clause-grows
returns-in_default-clause-grows c = grows_none c.args.names.now

pub loop-line-init : goal.loop-line-init
loop-line-init c = so_far_none c.args.text.now c.args.names.now c.args.self.now c.in-Some.lines c.in-Some.ensures c.requires.asked
    c.requires.nodes c.requires.lacking

pub next-requires-clause-begins : goal.next-requires-clause-begins
next-requires-clause-begins c = next_begins _ c.loop-line.lines.rest.now c.loop-line.lines.at c.loop-line.invariant.next

pub next-requires-clause-room : goal.next-requires-clause-room
next-requires-clause-room c = let low = c.loop-line.invariant.low in let short = c.requires.short in omega arith

pub returns-then-self-eq0-clause-err : goal.returns-then-self-eq0-clause-err
returns-then-self-eq0-clause-err c =
    left_cause c.args.text.now c.args.names.now c.loop-line.names c.loop-line.self c.loop-line.lines c.in-Some-next.line c.next.new.self
    c.loop-line.invariant c.in-Some-next.ensures _ c.if-self-eq0.true c.fault-then-self-eq0.ensures

pub returns-then-self-eq0-clause-grows : goal.returns-then-self-eq0-clause-grows
returns-then-self-eq0-clause-grows c = c.loop-line.invariant.grows

pub take-requires-clause-lacks : goal.take-requires-clause-lacks
take-requires-clause-lacks c = let more = c.if-self-eq0.false in omega arith

pub take-requires-clause-few : goal.take-requires-clause-few
take-requires-clause-few c = let few = c.loop-line.invariant.few in let room = c.in-Some-next.ensures.room in let short = c.requires.short in omega arith

pub take-requires-clause-room : goal.take-requires-clause-room
take-requires-clause-room c = let so_far = c.loop-line.invariant.room in let room = c.in-Some-next.ensures.room in let all = c.requires.room in omega arith

pub line_fault-requires-clause-within : goal.line_fault-requires-clause-within
line_fault-requires-clause-within c = refused_within (want (is_none c.loop-line.self.nodes.items)) c.in-Some-next.line.bytes.now c.in-Err.refusal
    c.in-Err.ensures.err

pub line_fault-requires-clause-short : goal.line_fault-requires-clause-short
line_fault-requires-clause-short c = let few = c.loop-line.invariant.few in let room = c.in-Some-next.ensures.room in let short = c.requires.short in
    omega arith

pub returns-in-Err-clause-err : goal.returns-in-Err-clause-err
returns-in-Err-clause-err c =
    refused_cause c.args.text.now c.args.names.now c.loop-line.names c.loop-line.self c.loop-line.lines c.in-Some-next.line c.next.new.self
    c.loop-line.invariant c.in-Some-next.ensures c.in-Err.refusal _ (let more = c.if-self-eq0.false in omega arith) c.in-Err.ensures.err
    c.line_fault.ensures

pub returns-in-Err-clause-grows : goal.returns-in-Err-clause-grows
returns-in-Err-clause-grows c = grows_on c.args.names.now c.loop-line.names c.take.new.names c.loop-line.invariant.grows c.take.ensures.grows

pub loop-line-smaller : goal.loop-line-smaller
loop-line-smaller c = c.in-Some-next.ensures.shorter

pub loop-line-preserved : goal.loop-line-preserved
loop-line-preserved c =
    so_far_more c.args.text.now c.args.names.now c.loop-line.names c.loop-line.self c.loop-line.lines c.in-Some-next.line c.next.new.self c.take.new.names
    c.take.new.self c.loop-line.invariant c.in-Some-next.ensures (let more = c.if-self-eq0.false in omega arith)
    c.in_default-take.ensures.ok

pub returns-then-self-gt0-clause-err : goal.returns-then-self-gt0-clause-err
returns-then-self-gt0-clause-err c =
    missing_cause c.args.text.now c.args.names.now c.loop-line.names c.loop-line.self c.loop-line.lines c.next.new.self.at _ c.loop-line.invariant
    c.in_default-next.ensures.rest c.in_default-next.ensures.at c.if-self-gt0.true c.fault-then-self-gt0.ensures

pub returns-then-self-gt0-clause-grows : goal.returns-then-self-gt0-clause-grows
returns-then-self-gt0-clause-grows c = c.loop-line.invariant.grows

pub returns-clause-terms : goal.returns-clause-terms
returns-clause-terms c = terms_inside c.loop-line.names c.loop-line.self.bank c.loop-line.self.asked.items c.loop-line.invariant.asked

pub returns-clause-rules : goal.returns-clause-rules
returns-clause-rules c = rules_inside c.loop-line.names c.loop-line.self.bank c.loop-line.self.nodes.items c.loop-line.invariant.nodes

pub returns-clause-ok : goal.returns-clause-ok
returns-clause-ok c = text_read c.args.text.now c.args.names.now c.loop-line.names c.loop-line.self c.loop-line.lines c.loop-line.invariant
    c.in_default-next.ensures.rest (let none = c.if-self-gt0.false in omega arith)

pub returns-clause-names : goal.returns-clause-names
returns-clause-names c = names_read c.args.text.now c.args.names.now c.loop-line.names c.loop-line.self c.loop-line.lines c.loop-line.invariant
    c.in_default-next.ensures.rest

pub returns-clause-grows : goal.returns-clause-grows
returns-clause-grows c = c.loop-line.invariant.grows

pub returns-in_default-clause-ok : goal.returns-in_default-clause-ok
returns-in_default-clause-ok c = _

pub returns-in_default-clause-terms : goal.returns-in_default-clause-terms
returns-in_default-clause-terms c = _

pub returns-in_default-clause-rules : goal.returns-in_default-clause-rules
returns-in_default-clause-rules c = _

pub returns-in_default-clause-names : goal.returns-in_default-clause-names
returns-in_default-clause-names c = _

pub returns-then-self-eq0-clause-ok : goal.returns-then-self-eq0-clause-ok
returns-then-self-eq0-clause-ok c = _

pub returns-then-self-eq0-clause-terms : goal.returns-then-self-eq0-clause-terms
returns-then-self-eq0-clause-terms c = _

pub returns-then-self-eq0-clause-rules : goal.returns-then-self-eq0-clause-rules
returns-then-self-eq0-clause-rules c = _

pub returns-then-self-eq0-clause-names : goal.returns-then-self-eq0-clause-names
returns-then-self-eq0-clause-names c = _

pub returns-in-Err-clause-ok : goal.returns-in-Err-clause-ok
returns-in-Err-clause-ok c = _

pub returns-in-Err-clause-terms : goal.returns-in-Err-clause-terms
returns-in-Err-clause-terms c = _

pub returns-in-Err-clause-rules : goal.returns-in-Err-clause-rules
returns-in-Err-clause-rules c = _

pub returns-in-Err-clause-names : goal.returns-in-Err-clause-names
returns-in-Err-clause-names c = _

pub returns-then-self-gt0-clause-ok : goal.returns-then-self-gt0-clause-ok
returns-then-self-gt0-clause-ok c = _

pub returns-then-self-gt0-clause-terms : goal.returns-then-self-gt0-clause-terms
returns-then-self-gt0-clause-terms c = _

pub returns-then-self-gt0-clause-rules : goal.returns-then-self-gt0-clause-rules
returns-then-self-gt0-clause-rules c = _

pub returns-then-self-gt0-clause-names : goal.returns-then-self-gt0-clause-names
returns-then-self-gt0-clause-names c = _

pub returns-clause-err : goal.returns-clause-err
returns-clause-err c = _
