use Rattle.std.proofs.Common.{◌≡◌, ◌++◌, length, vec_len, ◌∙◌, ap, sym, refl, subst, arith, le_trans, le_refl}
use Rattle.std.specs.Prelude.{Some, Err, map}
use Rattle.std.specs.Bool.{◌==◌}
use Rattle.std.proofs.lemmas.List.{length-map}
use Rattle.ll_edge.specs.Pieces.{AppendsFront}
use Rattle.ll_edge.proofs.CallerLemmas.{Rose-later, first-cut}
use Rattle.ll_top.specs.lines.Running.{IsWelcome}
use Rattle.ll_top.proofs.writing.RunLemmas.{on_ok_both, on_err_map}
use Rattle.ll_top.proofs.writing.WaitingLemmas.{err_on, fault_is, some_events, none_left, each_ready, each_wanted, next_event, next_taken}
use Rattle.ll_top.proofs.writing.WaitingLemmas.{taking_starts, taking_same, taking_wants, taking_makes, taking_goes_on, taking_breaks, taking_ends}
use Rattle.ll_top.proofs.writing.WaitingLemmas.{taking_cut, taking_quiet, memory_else, quiet_unless}
use Rattle.ll_top.proofs.writing.WaitingLemmas.{welcome_still}
use Rattle.ll_top.proofs.lines.outlet.WritingOutlet.events.Goals as goal

pub loop-event-init : goal.loop-event-init
loop-event-init g c =
    let told = g.E.Notice.stands_for in
    let events = c.args.events.now.items in
    let welcome = IsWelcome c.args.self.now.problem.now in
    let count : vec_len c.args.events.now ≡ length events = omega (arith, c.args.events.now.ok) in
    let some = some_events (map told events) (c.is_empty.ensures ∙ ap (λ n. n == 0) (count ∙ sym (length-map events told))) c.if-is_empty.false in
    taking_starts _ c.args.self.now (map told events) some (each_ready welcome (map told events) some c.requires).none
    (each_wanted _ welcome (map told events) c.requires)

pub write-made-requires-clause-valid : goal.write-made-requires-clause-valid
write-made-requires-clause-valid g c =
    (taking_wants _ c.loop-event.invariant (next_event g.E.Notice.stands_for _ _ _ _ c.as_slice-event-items.ensures.value c.loop-event-test.true
    c.event-item.is)).valid

pub write-made-requires-clause-found : goal.write-made-requires-clause-found
write-made-requires-clause-found g c =
    (taking_wants _ c.loop-event.invariant (next_event g.E.Notice.stands_for _ _ _ _ c.as_slice-event-items.ensures.value c.loop-event-test.true
    c.event-item.is)).among

pub write-made-requires-clause-all : goal.write-made-requires-clause-all
write-made-requires-clause-all g c =
    (taking_wants _ c.loop-event.invariant (next_event g.E.Notice.stands_for _ _ _ _ c.as_slice-event-items.ensures.value c.loop-event-test.true
    c.event-item.is)).all

pub loop-event-preserved : goal.loop-event-preserved
loop-event-preserved g c =
    let told = g.E.Notice.stands_for in
    let events = c.args.events.now.items in
    let value = c.as_slice-event-items.ensures.value in
    let next = next_event told events _ c.loop-event.event-index c.event-item.result value c.loop-event-test.true c.event-item.is in
    let ready = each_ready (IsWelcome c.args.self.now.problem.now) _ c.loop-event.invariant.some c.requires in
    let all = (taking_wants _ c.loop-event.invariant next).all in
    let shown = c.deref.ensures.value ∙ (c.in-Ok.ensures.lines ∙ taking_makes _ c.loop-event.invariant ready c.loop-event.self.answers
    (told c.event-item.result) all) in
    let put = c.in-Ok-put.ensures.put in
    taking_goes_on _ c.loop-event.invariant next _ _
    (next_taken told events _ c.loop-event.event-index c.event-item.result value c.loop-event-test.true c.event-item.is)
    (record {
      same = record { problem = refl; proofs = refl; lent = refl; faults = c.put.ensures.faults_kept; tells = c.put.ensures.tells };
      quiet = c.in-Ok-put.ensures.quiet;
      answers = c.in-Ok.ensures.answers;
      flushed = put.flushed;
      written = put.written;
      order = put.order ∙ ap (λ l. c.loop-event.self.waiting.now.items ++ l) shown;
    })

pub returns-in_default-clause-refused : goal.returns-in_default-clause-refused
returns-in_default-clause-refused g c =
    taking_breaks _ c.loop-event.invariant (next_event g.E.Notice.stands_for _ _ _ _ c.as_slice-event-items.ensures.value c.loop-event-test.true
    c.event-item.is) _
    (record {
      same = record { problem = refl; proofs = refl; lent = refl; faults = c.refuse.ensures.faults_kept; tells = c.refuse.ensures.tells };
      none = c.refuse.ensures.none;
      written = first-cut _ _ _ _ c.refuse.ensures.cut;
    })

pub returns-in_default-clause-write : goal.returns-in_default-clause-write
returns-in_default-clause-write g c =
    λ e. Rose-later _ _ _ (taking_same _ c.loop-event.invariant).faults (c.refuse.ensures.write (fault_is _ _ e))

pub returns-in_default-clause-faults_kept : goal.returns-in_default-clause-faults_kept
returns-in_default-clause-faults_kept g c = le_trans (taking_same _ c.loop-event.invariant).faults c.refuse.ensures.faults_kept

pub returns-in_default-clause-welcome_kept : goal.returns-in_default-clause-welcome_kept
returns-in_default-clause-welcome_kept g c =
    welcome_still _ c.loop-event.invariant (each_ready (IsWelcome c.args.self.now.problem.now) _ c.loop-event.invariant.some c.requires) refl refl
    c.refuse.ensures.none

pub returns-in-Err-clause-refused : goal.returns-in-Err-clause-refused
returns-in-Err-clause-refused g c =
    let told = g.E.Notice.stands_for in
    let next = next_event told _ _ c.loop-event.event-index c.event-item.result c.as_slice-event-items.ensures.value c.loop-event-test.true c.event-item.is in
    let ready = each_ready (IsWelcome c.args.self.now.problem.now) _ c.loop-event.invariant.some c.requires in
    let all = (taking_wants _ c.loop-event.invariant next).all in
    let shown = c.deref.ensures.value ∙ (c.in-Ok.ensures.lines ∙ taking_makes _ c.loop-event.invariant ready c.loop-event.self.answers
    (told c.event-item.result) all) in
    taking_breaks _ c.loop-event.invariant next _
    (record {
      same = record { problem = refl; proofs = refl; lent = refl; faults = c.put.ensures.faults_kept; tells = c.put.ensures.tells };
      none = c.in-Err.ensures.none;
      written =
          subst (λ l. AppendsFront (Some (g.O.Sink.taken c.loop-event.self.sink.now)) (c.loop-event.self.waiting.now.items ++ l) (Some
          (g.O.Sink.taken c.put.new.sink)))
          shown c.in-Err.ensures.cut;
    })

pub returns-in-Err-clause-write : goal.returns-in-Err-clause-write
returns-in-Err-clause-write g c = λ e. Rose-later _ _ _ (taking_same _ c.loop-event.invariant).faults (c.in-Err.ensures.write e)

pub returns-in-Err-clause-faults_kept : goal.returns-in-Err-clause-faults_kept
returns-in-Err-clause-faults_kept g c = le_trans (taking_same _ c.loop-event.invariant).faults c.put.ensures.faults_kept

pub returns-in-Err-clause-welcome_kept : goal.returns-in-Err-clause-welcome_kept
returns-in-Err-clause-welcome_kept g c =
    welcome_still _ c.loop-event.invariant (each_ready (IsWelcome c.args.self.now.problem.now) _ c.loop-event.invariant.some c.requires) refl refl
    c.in-Err.ensures.none

pub returns-clause-taken : goal.returns-clause-taken
returns-clause-taken g c =
    let value = c.as_slice-event-items.ensures.value in
    let last = none_left g.E.Notice.stands_for _ _ c.loop-event.event-index value (omega arith) in
    let w = c.write_waiting.ensures in
    on_ok_both c.write_waiting.result _ _ _ w.written w.quiet (λ written quiet. taking_ends _ c.loop-event.invariant last _
    (record { problem = refl; proofs = refl; lent = refl; faults = w.faults_kept; tells = w.tells }) quiet refl w.none written)

pub returns-clause-refused : goal.returns-clause-refused
returns-clause-refused g c =
    let value = c.as_slice-event-items.ensures.value in
    let last = none_left g.E.Notice.stands_for _ _ c.loop-event.event-index value (omega arith) in
    let w = c.write_waiting.ensures in
    on_err_map c.write_waiting.result _ _ w.cut (λ both. taking_cut _ c.loop-event.invariant last _ both.0
    (record { problem = refl; proofs = refl; lent = refl; faults = w.faults_kept; tells = w.tells }) w.none both.1)

pub returns-clause-write : goal.returns-clause-write
returns-clause-write g c =
    λ e. Rose-later _ _ _ (taking_same _ c.loop-event.invariant).faults (err_on _ _ e c.write_waiting.ensures.write)

pub returns-clause-faults_kept : goal.returns-clause-faults_kept
returns-clause-faults_kept g c = le_trans (taking_same _ c.loop-event.invariant).faults c.write_waiting.ensures.faults_kept

pub returns-clause-welcome_kept : goal.returns-clause-welcome_kept
returns-clause-welcome_kept g c =
    welcome_still _ c.loop-event.invariant (each_ready (IsWelcome c.args.self.now.problem.now) _ c.loop-event.invariant.some c.requires) refl refl
    c.write_waiting.ensures.none

pub returns-then-is_empty-clause-refused : goal.returns-then-is_empty-clause-refused
returns-then-is_empty-clause-refused g c = _

pub returns-in_default-clause-taken : goal.returns-in_default-clause-taken
returns-in_default-clause-taken g c = _

pub returns-in-Err-clause-taken : goal.returns-in-Err-clause-taken
returns-in-Err-clause-taken g c = _

pub returns-then-is_empty-clause-faults_kept : goal.returns-then-is_empty-clause-faults_kept
returns-then-is_empty-clause-faults_kept g c = le_refl _

pub returns-then-is_empty-clause-welcome_kept : goal.returns-then-is_empty-clause-welcome_kept
returns-then-is_empty-clause-welcome_kept g c = λ e. (λ h. h, λ h. h)

pub returns-then-is_empty-clause-write : goal.returns-then-is_empty-clause-write
returns-then-is_empty-clause-write g c = λ e. err_on _ _ e tt

pub returns-then-is_empty-clause-quiet : goal.returns-then-is_empty-clause-quiet
returns-then-is_empty-clause-quiet g c = λ _. refl

pub returns-in_default-clause-quiet : goal.returns-in_default-clause-quiet
returns-in_default-clause-quiet g c = λ other. (c.refuse.ensures.memory (memory_else _ other)).0 ∙ taking_quiet _ c.loop-event.invariant

pub returns-in-Err-clause-quiet : goal.returns-in-Err-clause-quiet
returns-in-Err-clause-quiet g c = λ other. c.put.ensures.memory (c.in-Err.is ∙ ap Err (memory_else _ other)) ∙ taking_quiet _ c.loop-event.invariant

pub returns-clause-quiet : goal.returns-clause-quiet
returns-clause-quiet g c =
    λ other. quiet_unless c.write_waiting.result c.write_waiting.ensures.quiet c.write_waiting.ensures.cause other ∙ taking_quiet _ c.loop-event.invariant
