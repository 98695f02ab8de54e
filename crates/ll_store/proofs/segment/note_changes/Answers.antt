use Rattle.std.proofs.Common.{arith, map, ◌++◌, sym, ap, ◌∙◌}
use Rattle.std.proofs.lemmas.List.{append-nil, take_all}
use Rattle.ll_list_laws.proofs.CallerLemmas.{OnErr-always}
use Rattle.ll_store.specs.Packed.{change_of}
use Rattle.ll_store.specs.Segments.{Renewed, renewed_of}
use Rattle.ll_store.proofs.SegmentLemmas.{trail-step}
use Rattle.ll_store.proofs.segment.note_changes.Goals as goal

pub loop-renewal-preserved : goal.loop-renewal-preserved
loop-renewal-preserved c = (
  trail-step c.args.renewed.now c.loop-renewal.renewal-index _ (map change_of c.args.trail.now.items) c.loop-renewal.trail.items c.push_reserved.new.self.items
      (omega arith) c.loop-renewal.invariant.0 c.push_reserved.ensures.items,
  omega (arith, c.loop-renewal.invariant.1, c.push_reserved.ensures.len, c.push_reserved.ensures.capacity),
)

pub loop-renewal-init : goal.loop-renewal-init
loop-renewal-init c = (
  ap (map change_of) c.reserve.ensures.items ∙ sym (append-nil (map change_of c.args.trail.now.items)),
  omega (arith, c.in_ok-reserve.ensures.ok),
)

pub push_reserved-requires : goal.push_reserved-requires
push_reserved-requires c = omega (arith, c.loop-renewal.invariant.1, c.loop-renewal-test.true)

pub returns-clause-noted : goal.returns-clause-noted
returns-clause-noted c =
    c.loop-renewal.invariant.0
    ∙ ap (λ rs. map change_of c.args.trail.now.items ++ map (λ (r : Renewed). r.change) (map renewed_of rs))
    (take_all c.loop-renewal.renewal-index c.args.renewed.now c.loop-renewal-test.false)

pub returns-in_err-reserve-clause-refused : goal.returns-in_err-reserve-clause-refused
returns-in_err-reserve-clause-refused c =
    OnErr-always c.from_residual.result (ap (map change_of) c.reserve.ensures.items)
