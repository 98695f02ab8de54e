use Rattle.std.proofs.lemmas.Result.{IfOk-from_err}
use Rattle.std.proofs.Common.{rules, sym, subst, ◌∙◌, List}
use Rattle.std.proofs.lemmas.List.Elements.{All-push, All-weaker}
use Rattle.ll_freeze.specs.Parts.{parts_of, IsGood, IsBefore}
use Rattle.ll_engine.specs.declared.choices.ChoicePoint.{ChoicePoint}
use Rattle.ll_engine.specs.Pointed.{Held, Puts, KeepsKept, AreMarks, helds, held_of}
use Rattle.ll_engine.specs.Based.{KeepsFloors}
use Rattle.ll_engine.proofs.machine.Basing.{floor_push}
use Rattle.ll_engine.proofs.machine.Keeping.{pushed}
use Rattle.ll_engine.proofs.turns.Pointing.{puts_some, keeps_some, some_left, helds_push, rises_push}
use Rattle.ll_engine.proofs.choices.keep.Goals as goal

pub returns-clause-puts : goal.returns-clause-puts
returns-clause-puts c =
    let m = c.args.machine.now in let k : ChoicePoint = record { mark = c.mark.result; untried = c.args.untried } in
    subst (λ (qs : List Held). Puts (parts_of m) c.args.untried.items (helds m c.args.points.now.items) qs)
    (sym (Rattle.std.proofs.Common.ap (λ ks. helds m ks) (pushed _ _ _ _ c.push_back_reserved.ensures.items c.in_ok-reserve.ensures.items)
    ∙ helds_push m c.args.points.now.items k))
    (puts_some (parts_of m) (helds m c.args.points.now.items) (held_of m k) c.mark.ensures.parts
    (some_left c.args.untried.items c.args.untried.len c.is_empty.result c.is_empty.ensures (search rules) c.args.untried.ok.0))

pub returns-clause-kept : goal.returns-clause-kept
returns-clause-kept c =
    let m = c.args.machine.now in let k : ChoicePoint = record { mark = c.mark.result; untried = c.args.untried } in
    subst (λ (qs : List Held). KeepsKept (parts_of m) c.args.untried.items (helds m c.args.points.now.items) qs)
    (sym (Rattle.std.proofs.Common.ap (λ ks. helds m ks) (pushed _ _ _ _ c.push_back_reserved.ensures.items c.in_ok-reserve.ensures.items)
    ∙ helds_push m c.args.points.now.items k))
    (keeps_some (parts_of m) (helds m c.args.points.now.items) (held_of m k) c.mark.ensures.parts
    (some_left c.args.untried.items c.args.untried.len c.is_empty.result c.is_empty.ensures (search rules) c.args.untried.ok.0))

pub returns-clause-marks : goal.returns-clause-marks
returns-clause-marks c =
    let m = c.args.machine.now in let k : ChoicePoint = record { mark = c.mark.result; untried = c.args.untried } in
    let ps = c.args.points.now.items in let a = c.requires.marks in
    subst (λ (qs : List ChoicePoint). AreMarks m qs) (sym (pushed _ _ _ _ c.push_back_reserved.ensures.items c.in_ok-reserve.ensures.items))
    (record {
      good = All-push (λ (j : ChoicePoint). IsGood j.mark m) ps k a.good c.mark.ensures.good;
      rise = rises_push ps k a.rise (All-weaker (λ (j : ChoicePoint). IsGood j.mark m)
          (λ (j : ChoicePoint). IsBefore j.mark k.mark) (λ j g. c.mark.ensures.last j.mark g) ps
          a.good);
    })

pub returns-clause-floors : goal.returns-clause-floors
returns-clause-floors c =
    let m = c.args.machine.now in let k : ChoicePoint = record { mark = c.mark.result; untried = c.args.untried } in
    subst (λ (qs : List ChoicePoint). KeepsFloors m c.args.points.now.items qs)
    (sym (pushed _ _ _ _ c.push_back_reserved.ensures.items c.in_ok-reserve.ensures.items))
    (floor_push m c.args.points.now.items k c.mark.ensures.last)

pub returns-in_err-reserve-clause-puts : goal.returns-in_err-reserve-clause-puts
returns-in_err-reserve-clause-puts c = IfOk-from_err c.from_residual.result _ c.from_residual.ensures.0

pub returns-in_err-reserve-clause-kept : goal.returns-in_err-reserve-clause-kept
returns-in_err-reserve-clause-kept c = IfOk-from_err c.from_residual.result _ c.from_residual.ensures.0

pub returns-in_err-reserve-clause-marks : goal.returns-in_err-reserve-clause-marks
returns-in_err-reserve-clause-marks c = IfOk-from_err c.from_residual.result _ c.from_residual.ensures.0

pub returns-in_err-reserve-clause-floors : goal.returns-in_err-reserve-clause-floors
returns-in_err-reserve-clause-floors c = IfOk-from_err c.from_residual.result _ c.from_residual.ensures.0

pub returns-then-is_empty-clause-kept : goal.returns-then-is_empty-clause-kept
returns-then-is_empty-clause-kept c = search rules

pub returns-then-is_empty-clause-marks : goal.returns-then-is_empty-clause-marks
returns-then-is_empty-clause-marks c = search rules

pub returns-then-is_empty-clause-floors : goal.returns-then-is_empty-clause-floors
returns-then-is_empty-clause-floors c = search rules
