use Rattle.std.proofs.Common.{◌≡◌, suc, ◌+◌, ◌∷◌, [], ◌++◌, ◌∙◌, ap, sym, subst, arith}
use Rattle.std.specs.Prelude.{take, map}
use Rattle.std.proofs.Math.Seq.{take-suc}
use Rattle.std.proofs.lemmas.List.{map-append}
use Rattle.ll_laws.specs.Search.{is_answer, is_reached}
use Rattle.ll_order.specs.Drained.{Counting}
use Rattle.ll_order.proofs.Givings.{no_count, counts_more}
use Rattle.ll_order.proofs.order.counted_all.Goals as goal

pub loop-event-init : goal.loop-event-init
loop-event-init g c = record { answers = no_count c.args.counts.answers c.requires.few.0; reached = no_count c.args.counts.reached c.requires.few.1 }

pub loop-event-preserved : goal.loop-event-preserved
loop-event-preserved g c =
    let told = g.E.Notice.stands_for in
    let done = take c.loop-event.event-index c.args.events.now in
    let one = c.event-item.result ∷ [] in
    let next : suc c.loop-event.event-index ≡ c.loop-event.event-index + 1 = omega arith in
    let more : done ++ one ≡ take (c.loop-event.event-index + 1) c.args.events.now =
    ap (λ e. done ++ e ∷ []) c.event-item.is
    ∙ (sym (take-suc c.args.events.now c.loop-event.event-index c.event-item.result c.loop-event-test.true) ∙ ap (λ n. take n c.args.events.now) next) in
    subst (Counting c.args.counts c.counted-counts.result) (sym (map-append told done one) ∙ ap (map told) more) (record {
      answers = counts_more is_answer _ _ _ (map told done) (map told one) c.loop-event.invariant.answers c.counted-counts.ensures.answers;
      reached = counts_more is_reached _ _ _ (map told done) (map told one) c.loop-event.invariant.reached c.counted-counts.ensures.reached;
    })
