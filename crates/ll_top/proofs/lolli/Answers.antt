use Rattle.std.proofs.Common.{None}
use Rattle.ll_top.specs.forms.Words.{word_texts}
use Rattle.ll_top.proofs.outcomes.CallLemmas.{call-usage, call-absent, call-unreadable, call-unwritable, call-denied, call-covered, call-uncovered}
use Rattle.ll_top.proofs.outcomes.CallLemmas.{completes, heads}
use Rattle.ll_top.proofs.outcomes.OneText.{call-shown}
use Rattle.ll_top.proofs.outcomes.ToldLemmas.{texts-fit, ends-told, shown-told}
use Rattle.ll_top.proofs.lolli.Goals as goal

pub returns-clause-outcome : goal.returns-clause-outcome
returns-clause-outcome g c = c.serve.ensures.outcome

pub returns-clause-run_reads : goal.returns-clause-run_reads
returns-clause-run_reads g c = c.serve.ensures.run_reads

pub returns-clause-proved : goal.returns-clause-proved
returns-clause-proved g c = c.serve.ensures.proved

pub returns-clause-nothing : goal.returns-clause-nothing
returns-clause-nothing g c = c.serve.ensures.nothing

pub returns-clause-misused : goal.returns-clause-misused
returns-clause-misused g c = c.serve.ensures.misused

pub returns-clause-kept : goal.returns-clause-kept
returns-clause-kept g c = c.serve.ensures.kept

pub returns-clause-sink_faults_kept : goal.returns-clause-sink_faults_kept
returns-clause-sink_faults_kept g c = c.serve.ensures.sink_faults_kept

pub returns-clause-complete : goal.returns-clause-complete
returns-clause-complete g c = λ told fits.
    completes c.one_text.ensures (word_texts c.args.words.now) told _ _ _ _ _ c.serve.result _ (λ name m. m.rose) (c.serve.ensures.outcome told fits)

pub returns-clause-headline : goal.returns-clause-headline
returns-clause-headline g c = λ told fits.
    heads c.one_text.ensures (word_texts c.args.words.now) told _ _ _ _ _ c.serve.result (c.serve.ensures.outcome told fits)

pub returns-clause-usage : goal.returns-clause-usage
returns-clause-usage g c = call-usage (word_texts c.args.words.now) None _ _ _ _ _ c.serve.result (c.serve.ensures.outcome None tt)

pub returns-clause-absent : goal.returns-clause-absent
returns-clause-absent g c = λ e. (call-absent (word_texts c.args.words.now) None _ _ _ _ _ c.serve.result (c.serve.ensures.outcome None tt) e).1.rose

pub returns-clause-unreadable : goal.returns-clause-unreadable
returns-clause-unreadable g c = λ e. (call-unreadable (word_texts c.args.words.now) None _ _ _ _ _ c.serve.result (c.serve.ensures.outcome None tt) e).1.rose

pub returns-clause-unwritable : goal.returns-clause-unwritable
returns-clause-unwritable g c = call-unwritable (word_texts c.args.words.now) None _ _ _ _ _ c.serve.result (c.serve.ensures.outcome None tt)

pub returns-clause-denied : goal.returns-clause-denied
returns-clause-denied g c = λ e told fits. call-denied (word_texts c.args.words.now) told _ _ _ _ _ c.serve.result (c.serve.ensures.outcome told fits) e

pub returns-clause-covered : goal.returns-clause-covered
returns-clause-covered g c = λ f e told fits. call-covered (word_texts c.args.words.now) told _ _ _ _ _ c.serve.result (c.serve.ensures.outcome told fits) f e

pub returns-clause-uncovered : goal.returns-clause-uncovered
returns-clause-uncovered g c = λ e told fits. call-uncovered (word_texts c.args.words.now) told _ _ _ _ _ c.serve.result (c.serve.ensures.outcome told fits) e

pub returns-clause-shown : goal.returns-clause-shown
returns-clause-shown g c = λ check is e told fits.
    call-shown c.answers_are_what_follows.ensures.unlabelled (word_texts c.args.words.now) told _ _ check _ _ _ c.serve.result
    (c.serve.ensures.outcome told fits) is e

pub returns-clause-told_outcome : goal.returns-clause-told_outcome
returns-clause-told_outcome g c = ends-told (g.O.Sink.taken c.args.sink.now) (g.O.Sink.taken c.serve.new.sink) _ _
    (g.met.O.Sink.told c.args.sink.now c.serve.new.sink) _ _ c.serve.result
    (c.serve.ensures.outcome _ (texts-fit c.serve.ensures.kept (g.met.F.Shelf.told c.serve.new.shelf)))

pub returns-clause-told_complete : goal.returns-clause-told_complete
returns-clause-told_complete g c = completes c.one_text.ensures (word_texts c.args.words.now) _ _ _ _ _ _ c.serve.result _ (λ name m. m.rose)
    (returns-clause-told_outcome g c)

pub returns-clause-told_headline : goal.returns-clause-told_headline
returns-clause-told_headline g c = heads c.one_text.ensures (word_texts c.args.words.now) _ _ _ _ _ _ c.serve.result (returns-clause-told_outcome g c)

pub returns-clause-told_proved : goal.returns-clause-told_proved
returns-clause-told_proved g c = λ run is small.
    shown-told (g.O.Sink.taken c.args.sink.now) (g.O.Sink.taken c.serve.new.sink) _ _ (g.met.O.Sink.told c.args.sink.now c.serve.new.sink) _ run
    (c.serve.ensures.proved run is small _ (texts-fit c.serve.ensures.kept (g.met.F.Shelf.told c.serve.new.shelf)))

pub returns-clause-told_nothing : goal.returns-clause-told_nothing
returns-clause-told_nothing g c = λ run is one. c.serve.ensures.nothing run is one _ (texts-fit c.serve.ensures.kept (g.met.F.Shelf.told c.serve.new.shelf))

pub returns-clause-told_denied : goal.returns-clause-told_denied
returns-clause-told_denied g c = λ e. returns-clause-denied g c e _ (texts-fit c.serve.ensures.kept (g.met.F.Shelf.told c.serve.new.shelf))

pub returns-clause-told_covered : goal.returns-clause-told_covered
returns-clause-told_covered g c = λ f e. returns-clause-covered g c f e _ (texts-fit c.serve.ensures.kept (g.met.F.Shelf.told c.serve.new.shelf))

pub returns-clause-told_uncovered : goal.returns-clause-told_uncovered
returns-clause-told_uncovered g c = λ e. returns-clause-uncovered g c e _ (texts-fit c.serve.ensures.kept (g.met.F.Shelf.told c.serve.new.shelf))

pub returns-clause-replied : goal.returns-clause-replied
returns-clause-replied g c = c.serve.ensures.replied

pub returns-clause-deepened : goal.returns-clause-deepened
returns-clause-deepened g c = c.serve.ensures.deepened

pub returns-clause-faults_told : goal.returns-clause-faults_told
returns-clause-faults_told g c = c.serve.ensures.faults_told
