use Rattle.std.proofs.Common.{false, refl, ap, ◌∙◌, ◌∷◌, rules}
use Rattle.std.proofs.lemmas.Result.{IfOk-from_err}
use Rattle.ll_agenda.specs.Frames.{items_at}
use Rattle.ll_resources.specs.Resources.{load_end, with_end}
use Rattle.ll_freeze.specs.Parts.{parts_of}
use Rattle.ll_freeze.proofs.CallerLemmas.{later_same}
use Rattle.ll_engine.proofs.machine.Keeping.{later_top}
use Rattle.ll_engine.proofs.inferences.Settling.{off_lolli, off_imp, off_with, off_bang, with_fits, bang_fits, worked}
use Rattle.ll_engine.proofs.settle.work_off.Goals as goal

pub returns-else-not-branch-clause-works : goal.returns-else-not-branch-clause-works
returns-else-not-branch-clause-works c =
    let m = parts_of c.args.machine.now in let h = c.args.machine.now.context in
    off_lolli m c.close.new.self.present c.in-LolliEnd.saved (items_at m.agenda c.args.rest) c.args.rest c.requires.going
    (c.requires.front ∙ ap (λ i. i ∷ items_at m.agenda c.args.rest) c.in-LolliEnd.is)
    (worked (load_end c.in-LolliEnd.saved m.resources.entries) h c.close.new.self c.in_ok-close-in-LolliEnd.field-0 c.if-not-branch.false
    c.in_ok-close-in-LolliEnd.ensures.settles) refl
    c.requires.rest

pub returns-else-not-branch-2-clause-works : goal.returns-else-not-branch-2-clause-works
returns-else-not-branch-2-clause-works c =
    let m = parts_of c.args.machine.now in let h = c.args.machine.now.context in
    off_imp m c.close-in-ImpEnd.new.self.present (items_at m.agenda c.args.rest) c.args.rest c.requires.going
    (c.requires.front ∙ ap (λ i. i ∷ items_at m.agenda c.args.rest) c.in-ImpEnd.is)
    (worked (load_end false m.resources.entries) h c.close-in-ImpEnd.new.self c.in_ok-close-in-ImpEnd.field-0 c.if-not-branch-2.false
    c.in_ok-close-in-ImpEnd.ensures.settles) refl
    c.requires.rest

pub with_end-requires-clause-saved : goal.with_end-requires-clause-saved
with_end-requires-clause-saved c =
    let m = parts_of c.args.machine.now in let h = c.args.machine.now.context in
    (with_fits m c.in-WithEnd.saved c.in-WithEnd.half (items_at m.agenda c.args.rest) c.requires.going
    (c.requires.front ∙ ap (λ i. i ∷ items_at m.agenda c.args.rest) c.in-WithEnd.is)).0

pub with_end-requires-clause-half : goal.with_end-requires-clause-half
with_end-requires-clause-half c =
    let m = parts_of c.args.machine.now in let h = c.args.machine.now.context in
    (with_fits m c.in-WithEnd.saved c.in-WithEnd.half (items_at m.agenda c.args.rest) c.requires.going
    (c.requires.front ∙ ap (λ i. i ∷ items_at m.agenda c.args.rest) c.in-WithEnd.is)).1

pub bang_end-requires : goal.bang_end-requires
bang_end-requires c =
    let m = parts_of c.args.machine.now in let h = c.args.machine.now.context in
    bang_fits m c.in-BangEnd.saved (items_at m.agenda c.args.rest) c.requires.going
    (c.requires.front ∙ ap (λ i. i ∷ items_at m.agenda c.args.rest) c.in-BangEnd.is)

pub returns-else-not-branch-3-clause-works : goal.returns-else-not-branch-3-clause-works
returns-else-not-branch-3-clause-works c =
    let m = parts_of c.args.machine.now in let h = c.args.machine.now.context in
    off_with m c.with_end.new.self.present c.in-WithEnd.saved c.in-WithEnd.half (items_at m.agenda c.args.rest) c.args.rest c.requires.going
    (c.requires.front ∙ ap (λ i. i ∷ items_at m.agenda c.args.rest) c.in-WithEnd.is)
    (worked (with_end m.resources.kept c.in-WithEnd.saved c.in-WithEnd.half) h c.with_end.new.self c.in_ok-with_end-in-WithEnd.field-0 c.if-not-branch-3.false
    c.in_ok-with_end-in-WithEnd.ensures.settles)
    refl c.requires.rest

pub returns-in_ok-bang_end-in-BangEnd-clause-works : goal.returns-in_ok-bang_end-in-BangEnd-clause-works
returns-in_ok-bang_end-in-BangEnd-clause-works c =
    let m = parts_of c.args.machine.now in let h = c.args.machine.now.context in
    off_bang m c.bang_end.new.self.present c.in-BangEnd.saved (items_at m.agenda c.args.rest) c.args.rest c.requires.going
    (c.requires.front ∙ ap (λ i. i ∷ items_at m.agenda c.args.rest) c.in-BangEnd.is) c.in_ok-bang_end-in-BangEnd.ensures.settles refl c.requires.rest

pub returns-then-not-branch-clause-later : goal.returns-then-not-branch-clause-later
returns-then-not-branch-clause-later c = later_top c.args.machine.now _ refl refl refl c.close.ensures.marks refl refl refl

pub returns-then-not-branch-2-clause-later : goal.returns-then-not-branch-2-clause-later
returns-then-not-branch-2-clause-later c = later_top c.args.machine.now _ refl refl refl c.close-in-ImpEnd.ensures.marks refl refl refl

pub returns-then-not-branch-3-clause-later : goal.returns-then-not-branch-3-clause-later
returns-then-not-branch-3-clause-later c = later_top c.args.machine.now _ refl refl refl c.with_end.ensures.marks refl refl refl

pub returns-else-not-branch-clause-later : goal.returns-else-not-branch-clause-later
returns-else-not-branch-clause-later c = later_top c.args.machine.now _ refl refl refl c.close.ensures.marks refl refl refl

pub returns-else-not-branch-2-clause-later : goal.returns-else-not-branch-2-clause-later
returns-else-not-branch-2-clause-later c = later_top c.args.machine.now _ refl refl refl c.close-in-ImpEnd.ensures.marks refl refl refl

pub returns-else-not-branch-3-clause-later : goal.returns-else-not-branch-3-clause-later
returns-else-not-branch-3-clause-later c = later_top c.args.machine.now _ refl refl refl c.with_end.ensures.marks refl refl refl

pub returns-in_ok-bang_end-in-BangEnd-clause-later : goal.returns-in_ok-bang_end-in-BangEnd-clause-later
returns-in_ok-bang_end-in-BangEnd-clause-later c = later_top c.args.machine.now _ refl refl refl c.bang_end.ensures.marks refl refl refl

pub returns-in-Goal-clause-later : goal.returns-in-Goal-clause-later
returns-in-Goal-clause-later c = later_same c.args.machine.now

pub returns-in_ok-second_side-in-Mid-clause-later : goal.returns-in_ok-second_side-in-Mid-clause-later
returns-in_ok-second_side-in-Mid-clause-later c = c.in_ok-second_side-in-Mid.ensures.later

pub returns-in_err-close-in-LolliEnd-clause-works : goal.returns-in_err-close-in-LolliEnd-clause-works
returns-in_err-close-in-LolliEnd-clause-works c = IfOk-from_err c.from_residual.result _ c.from_residual.ensures.0

pub returns-in_err-close-in-LolliEnd-clause-later : goal.returns-in_err-close-in-LolliEnd-clause-later
returns-in_err-close-in-LolliEnd-clause-later c = IfOk-from_err c.from_residual.result _ c.from_residual.ensures.0

pub returns-in_err-close-in-ImpEnd-clause-works : goal.returns-in_err-close-in-ImpEnd-clause-works
returns-in_err-close-in-ImpEnd-clause-works c = IfOk-from_err c.from_residual-in_err-close-in-ImpEnd.result _ c.from_residual-in_err-close-in-ImpEnd.ensures.0

pub returns-in_err-close-in-ImpEnd-clause-later : goal.returns-in_err-close-in-ImpEnd-clause-later
returns-in_err-close-in-ImpEnd-clause-later c = IfOk-from_err c.from_residual-in_err-close-in-ImpEnd.result _ c.from_residual-in_err-close-in-ImpEnd.ensures.0

pub returns-in_err-second_side-in-Mid-clause-works : goal.returns-in_err-second_side-in-Mid-clause-works
returns-in_err-second_side-in-Mid-clause-works c =
    IfOk-from_err c.from_residual-in_err-second_side-in-Mid.result _ c.from_residual-in_err-second_side-in-Mid.ensures.0

pub returns-in_err-second_side-in-Mid-clause-later : goal.returns-in_err-second_side-in-Mid-clause-later
returns-in_err-second_side-in-Mid-clause-later c =
    IfOk-from_err c.from_residual-in_err-second_side-in-Mid.result _ c.from_residual-in_err-second_side-in-Mid.ensures.0

pub returns-in_err-with_end-in-WithEnd-clause-works : goal.returns-in_err-with_end-in-WithEnd-clause-works
returns-in_err-with_end-in-WithEnd-clause-works c =
    IfOk-from_err c.from_residual-in_err-with_end-in-WithEnd.result _ c.from_residual-in_err-with_end-in-WithEnd.ensures.0

pub returns-in_err-with_end-in-WithEnd-clause-later : goal.returns-in_err-with_end-in-WithEnd-clause-later
returns-in_err-with_end-in-WithEnd-clause-later c =
    IfOk-from_err c.from_residual-in_err-with_end-in-WithEnd.result _ c.from_residual-in_err-with_end-in-WithEnd.ensures.0

pub returns-in_err-bang_end-in-BangEnd-clause-works : goal.returns-in_err-bang_end-in-BangEnd-clause-works
returns-in_err-bang_end-in-BangEnd-clause-works c =
    IfOk-from_err c.from_residual-in_err-bang_end-in-BangEnd.result _ c.from_residual-in_err-bang_end-in-BangEnd.ensures.0

pub returns-in_err-bang_end-in-BangEnd-clause-later : goal.returns-in_err-bang_end-in-BangEnd-clause-later
returns-in_err-bang_end-in-BangEnd-clause-later c =
    IfOk-from_err c.from_residual-in_err-bang_end-in-BangEnd.result _ c.from_residual-in_err-bang_end-in-BangEnd.ensures.0

pub close-requires : goal.close-requires
close-requires c = search rules

pub returns-then-not-branch-clause-works : goal.returns-then-not-branch-clause-works
returns-then-not-branch-clause-works c = search rules

pub close-requires-in-ImpEnd : goal.close-requires-in-ImpEnd
close-requires-in-ImpEnd c = search rules

pub returns-then-not-branch-2-clause-works : goal.returns-then-not-branch-2-clause-works
returns-then-not-branch-2-clause-works c = search rules

pub second_side-requires-clause-going : goal.second_side-requires-clause-going
second_side-requires-clause-going c = search rules

pub second_side-requires-clause-rest : goal.second_side-requires-clause-rest
second_side-requires-clause-rest c = c.requires.rest

pub returns-then-not-branch-3-clause-works : goal.returns-then-not-branch-3-clause-works
returns-then-not-branch-3-clause-works c = search rules

pub returns-in-Goal-clause-works : goal.returns-in-Goal-clause-works
returns-in-Goal-clause-works c = search rules

pub returns-in_ok-second_side-in-Mid-clause-works : goal.returns-in_ok-second_side-in-Mid-clause-works
returns-in_ok-second_side-in-Mid-clause-works c = search rules
