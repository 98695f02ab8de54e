use Rattle.std.proofs.Common.{None}
use Rattle.ll_top.specs.forms.Words.{word_texts}
use Rattle.ll_top.proofs.outcomes.CallLemmas.{plain-usage, plain-absent, plain-unreadable, plain-unwritable, plain-denied, plain-covered, plain-uncovered}
use Rattle.ll_top.proofs.outcomes.CallLemmas.{plain-completes}
use Rattle.ll_top.proofs.outcomes.OneText.{plain-shown}
use Rattle.ll_top.proofs.outcomes.ToldLemmas.{texts-fit, plain-at, plain-each, plain-told}
use Rattle.ll_top.proofs.lolli_plain.Goals as goal

pub returns-clause-workers : goal.returns-clause-workers
returns-clause-workers g c = c.serve_plain.ensures.workers

pub returns-clause-untouched : goal.returns-clause-untouched
returns-clause-untouched g c = c.serve_plain.ensures.untouched

pub returns-clause-kept : goal.returns-clause-kept
returns-clause-kept g c = c.serve_plain.ensures.kept

pub returns-clause-sink_faults_kept : goal.returns-clause-sink_faults_kept
returns-clause-sink_faults_kept g c = c.serve_plain.ensures.sink_faults_kept

pub returns-clause-outcome : goal.returns-clause-outcome
returns-clause-outcome g c = c.serve_plain.ensures.outcome

pub returns-clause-misused : goal.returns-clause-misused
returns-clause-misused g c = c.serve_plain.ensures.misused

pub returns-clause-usage : goal.returns-clause-usage
returns-clause-usage g c = plain-usage (word_texts c.args.words.now) None _ _ _ _ _ c.serve_plain.result
    (plain-at _ _ _ c.serve_plain.result c.serve_plain.ensures.outcome None tt)

pub returns-clause-absent : goal.returns-clause-absent
returns-clause-absent g c = λ e. (plain-absent (word_texts c.args.words.now) None _ _ _ _ _ c.serve_plain.result
    (plain-at _ _ _ c.serve_plain.result c.serve_plain.ensures.outcome None tt) e).1.rose

pub returns-clause-unreadable : goal.returns-clause-unreadable
returns-clause-unreadable g c = λ e. (plain-unreadable (word_texts c.args.words.now) None _ _ _ _ _ c.serve_plain.result
    (plain-at _ _ _ c.serve_plain.result c.serve_plain.ensures.outcome None tt) e).1.rose

pub returns-clause-unwritable : goal.returns-clause-unwritable
returns-clause-unwritable g c = plain-unwritable (word_texts c.args.words.now) None _ _ _ _ _ c.serve_plain.result
    (plain-at _ _ _ c.serve_plain.result c.serve_plain.ensures.outcome None tt)

pub returns-clause-denied : goal.returns-clause-denied
returns-clause-denied g c = λ e told fits.
    plain-denied (word_texts c.args.words.now) told _ _ _ _ _ c.serve_plain.result
    (plain-at _ _ _ c.serve_plain.result c.serve_plain.ensures.outcome told fits) e

pub returns-clause-covered : goal.returns-clause-covered
returns-clause-covered g c = λ f e told fits.
    plain-covered (word_texts c.args.words.now) told _ _ _ _ _ c.serve_plain.result
    (plain-at _ _ _ c.serve_plain.result c.serve_plain.ensures.outcome told fits) f e

pub returns-clause-uncovered : goal.returns-clause-uncovered
returns-clause-uncovered g c = λ e told fits.
    plain-uncovered (word_texts c.args.words.now) told _ _ _ _ _ c.serve_plain.result
    (plain-at _ _ _ c.serve_plain.result c.serve_plain.ensures.outcome told fits) e

pub returns-clause-shown : goal.returns-clause-shown
returns-clause-shown g c = λ check is e told fits.
    plain-shown c.answers_are_what_follows.ensures.unlabelled (word_texts c.args.words.now) told _ _ check _ _ _ c.serve_plain.result
    (plain-at _ _ _ c.serve_plain.result c.serve_plain.ensures.outcome told fits) is e

pub returns-clause-complete : goal.returns-clause-complete
returns-clause-complete g c = plain-each _ _ _ c.serve_plain.result (λ told fits.
    plain-completes (word_texts c.args.words.now) told _ _ _ _ _ c.serve_plain.result
    (plain-at _ _ _ c.serve_plain.result c.serve_plain.ensures.outcome told fits) c.one_text.ensures _ (λ name m. m.rose))

pub returns-clause-told_outcome : goal.returns-clause-told_outcome
returns-clause-told_outcome g c = plain-told (g.O.Sink.taken c.args.sink.now) (g.O.Sink.taken c.serve_plain.new.sink) _ _
    (g.met.O.Sink.told c.args.sink.now c.serve_plain.new.sink) _ _
    c.serve_plain.result (plain-at _ _ _ c.serve_plain.result c.serve_plain.ensures.outcome _ (texts-fit c.serve_plain.ensures.kept
    (g.met.F.Shelf.told c.serve_plain.new.shelf)))

pub returns-clause-told_complete : goal.returns-clause-told_complete
returns-clause-told_complete g c = plain-completes (word_texts c.args.words.now) _ _ _ _ _ _ c.serve_plain.result
    (returns-clause-told_outcome g c) c.one_text.ensures _ (λ name m. m.rose)

pub returns-clause-told_denied : goal.returns-clause-told_denied
returns-clause-told_denied g c = λ e. returns-clause-denied g c e _ (texts-fit c.serve_plain.ensures.kept (g.met.F.Shelf.told c.serve_plain.new.shelf))

pub returns-clause-told_covered : goal.returns-clause-told_covered
returns-clause-told_covered g c = λ f e. returns-clause-covered g c f e _ (texts-fit c.serve_plain.ensures.kept (g.met.F.Shelf.told c.serve_plain.new.shelf))

pub returns-clause-told_uncovered : goal.returns-clause-told_uncovered
returns-clause-told_uncovered g c = λ e. returns-clause-uncovered g c e _ (texts-fit c.serve_plain.ensures.kept (g.met.F.Shelf.told c.serve_plain.new.shelf))

pub returns-clause-faults_told : goal.returns-clause-faults_told
returns-clause-faults_told g c = c.serve_plain.ensures.faults_told
