use Rattle.std.proofs.Common.{ap, sym, ◌≡◌, ◌∙◌, subst, arith}
use Rattle.std.proofs.lemmas.Result.{IfOk-from_err}
use Rattle.ll_agenda.specs.Frames.{items_at}
use Rattle.ll_freeze.specs.Parts.{parts_of}
use Rattle.ll_engine.proofs.machine.MachineLemmas.{closed_front, as_it_is, goal_inside}
use Rattle.ll_engine.proofs.inferences.Quantifying.{forall_heads, exists_heads, forall_row, exists_row}
use Rattle.ll_bank.specs.Form.{Use}
use Rattle.ll_bank.specs.Nodes.{AllInTerms, term_trees, form_tree}
use Rattle.ll_engine.proofs.inferences.Loading.{IsLoading, is_loading}
use Rattle.ll_engine.proofs.attempt.take_closed.Goals as goal
use Rattle.ll_engine.proofs.attempt.take_closed.Goals.{After-deref}

-- the load in front, with its arguments as they are lent
loading : (c : After-deref) → IsLoading (parts_of c.args.machine.now) c.in-Use.body c.deref.result.now
    (items_at c.args.machine.now.agenda c.args.rest) c.index-modules-number.result
loading c =
    let m = parts_of c.args.machine.now in let u = c.in-Use in let rest = items_at m.agenda c.args.rest in
    let q : u.args.now ≡ c.deref.result.now = sym (c.deref.ensures.value ∙ c.in_ok-args-in-Use.ensures.items) in
    is_loading m c.args.goal (record { end = c.requires.front.0; count = 0 }) u.body u.number c.deref.result.now rest c.requires.fits c.requires.front.1.list
    (as_it_is m.bank c.requires.front.0 c.args.goal u.ensures.shown.tree ∙ ap (λ xs. Use u.number (term_trees m.bank xs) (form_tree m.bank u.body.0)) q)
    c.index-modules-number.result
    c.index-modules-number.is

pub take_forall-requires-clause-heads : goal.take_forall-requires-clause-heads
take_forall-requires-clause-heads c =
    let m = parts_of c.args.machine.now in
    forall_heads m c.args.goal (record { end = c.requires.front.0; count = 0 }) c.in-Forall.body (items_at m.agenda c.args.rest) c.requires.fits
    c.requires.front.1.list (as_it_is m.bank c.requires.front.0 c.args.goal c.in-Forall.ensures.shown.tree)

pub take_exists-requires-clause-heads : goal.take_exists-requires-clause-heads
take_exists-requires-clause-heads c =
    let m = parts_of c.args.machine.now in
    exists_heads m c.args.goal (record { end = c.requires.front.0; count = 0 }) c.in-Exists.body (items_at m.agenda c.args.rest) c.requires.fits
    c.requires.front.1.list (as_it_is m.bank c.requires.front.0 c.args.goal c.in-Exists.ensures.shown.tree)

pub returns-in_ok-take_forall-in-Forall-clause-attempts : goal.returns-in_ok-take_forall-in-Forall-clause-attempts
returns-in_ok-take_forall-in-Forall-clause-attempts c candidate =
    let m = parts_of c.args.machine.now in
    forall_row m (parts_of c.take_forall.new.machine) c.args.goal (record { end = c.requires.front.0; count = 0 }) c.in-Forall.body
    (items_at m.agenda c.args.rest) candidate c.requires.fits
    c.requires.front.1.list
    (as_it_is m.bank c.requires.front.0 c.args.goal c.in-Forall.ensures.shown.tree) c.in_ok-take_forall-in-Forall.ensures.opens

pub returns-in_ok-take_exists-in-Exists-clause-attempts : goal.returns-in_ok-take_exists-in-Exists-clause-attempts
returns-in_ok-take_exists-in-Exists-clause-attempts c candidate =
    let m = parts_of c.args.machine.now in
    exists_row m (parts_of c.take_exists.new.machine) c.args.goal (record { end = c.requires.front.0; count = 0 }) c.in-Exists.body
    (items_at m.agenda c.args.rest) candidate c.requires.fits
    c.requires.front.1.list
    (as_it_is m.bank c.requires.front.0 c.args.goal c.in-Exists.ensures.shown.tree) c.in_ok-take_exists-in-Exists.ensures.opens

pub take_load-requires-clause-count : goal.take_load-requires-clause-count
take_load-requires-clause-count c = (loading (goal.at.take_load-requires-clause-count c).After-deref).count

pub take_load-requires-clause-closed : goal.take_load-requires-clause-closed
take_load-requires-clause-closed c = (loading (goal.at.take_load-requires-clause-closed c).After-deref).closed

pub take_load-requires-clause-clauses : goal.take_load-requires-clause-clauses
take_load-requires-clause-clauses c = (loading (goal.at.take_load-requires-clause-clauses c).After-deref).clauses

pub take_load-requires-clause-heads : goal.take_load-requires-clause-heads
take_load-requires-clause-heads c = (loading (goal.at.take_load-requires-clause-heads c).After-deref).heads

pub returns-in_ok-take_load-in-Use-clause-attempts : goal.returns-in_ok-take_load-in-Use-clause-attempts
returns-in_ok-take_load-in-Use-clause-attempts c candidate =
    (loading (goal.at.returns-in_ok-take_load-in-Use-clause-attempts c).After-deref).row (parts_of c.take_load.new.machine)
    candidate c.in_ok-take_load-in-Use.ensures.loads

pub take_lolli-requires-clause-front : goal.take_lolli-requires-clause-front
take_lolli-requires-clause-front c =
    closed_front (parts_of c.args.machine.now) c.args.goal _ c.args.rest c.requires.front c.in-Lolli.ensures.shown

pub take_imp-requires-clause-front : goal.take_imp-requires-clause-front
take_imp-requires-clause-front c =
    closed_front (parts_of c.args.machine.now) c.args.goal _ c.args.rest c.requires.front c.in-Imp.ensures.shown

pub take_is-requires-clause-front : goal.take_is-requires-clause-front
take_is-requires-clause-front c =
    closed_front (parts_of c.args.machine.now) c.args.goal _ c.args.rest c.requires.front c.in-Is.ensures.shown

pub take_less-requires-clause-front : goal.take_less-requires-clause-front
take_less-requires-clause-front c =
    closed_front (parts_of c.args.machine.now) c.args.goal _ c.args.rest c.requires.front c.in-Less.ensures.shown

pub take_most-requires-clause-front : goal.take_most-requires-clause-front
take_most-requires-clause-front c =
    closed_front (parts_of c.args.machine.now) c.args.goal _ c.args.rest c.requires.front c.in-Most.ensures.shown

pub returns-in-Lolli-clause-attempts : goal.returns-in-Lolli-clause-attempts
returns-in-Lolli-clause-attempts c candidate = c.take_lolli.ensures.attempts candidate

pub returns-in-Imp-clause-attempts : goal.returns-in-Imp-clause-attempts
returns-in-Imp-clause-attempts c candidate = c.take_imp.ensures.attempts candidate

pub returns-in-Is-clause-attempts : goal.returns-in-Is-clause-attempts
returns-in-Is-clause-attempts c candidate = c.take_is.ensures.attempts candidate

pub returns-in-Less-clause-attempts : goal.returns-in-Less-clause-attempts
returns-in-Less-clause-attempts c candidate = c.take_less.ensures.attempts candidate

pub returns-in-Most-clause-attempts : goal.returns-in-Most-clause-attempts
returns-in-Most-clause-attempts c candidate = c.take_most.ensures.attempts candidate

pub take_lolli-requires-clause-fits : goal.take_lolli-requires-clause-fits
take_lolli-requires-clause-fits c = c.requires.fits

pub take_lolli-requires-clause-left : goal.take_lolli-requires-clause-left
take_lolli-requires-clause-left c = c.requires.left

pub returns-in-Lolli-clause-later : goal.returns-in-Lolli-clause-later
returns-in-Lolli-clause-later c = c.take_lolli.ensures.later

pub take_imp-requires-clause-fits : goal.take_imp-requires-clause-fits
take_imp-requires-clause-fits c = c.requires.fits

pub take_imp-requires-clause-left : goal.take_imp-requires-clause-left
take_imp-requires-clause-left c = c.requires.left

pub returns-in-Imp-clause-later : goal.returns-in-Imp-clause-later
returns-in-Imp-clause-later c = c.take_imp.ensures.later

pub take_is-requires-clause-fits : goal.take_is-requires-clause-fits
take_is-requires-clause-fits c = c.requires.fits

pub take_is-requires-clause-left : goal.take_is-requires-clause-left
take_is-requires-clause-left c = c.requires.left

pub returns-in-Is-clause-later : goal.returns-in-Is-clause-later
returns-in-Is-clause-later c = c.take_is.ensures.later

pub take_less-requires-clause-fits : goal.take_less-requires-clause-fits
take_less-requires-clause-fits c = c.requires.fits

pub take_less-requires-clause-left : goal.take_less-requires-clause-left
take_less-requires-clause-left c = c.requires.left

pub returns-in-Less-clause-later : goal.returns-in-Less-clause-later
returns-in-Less-clause-later c = c.take_less.ensures.later

pub take_most-requires-clause-fits : goal.take_most-requires-clause-fits
take_most-requires-clause-fits c = c.requires.fits

pub take_most-requires-clause-left : goal.take_most-requires-clause-left
take_most-requires-clause-left c = c.requires.left

pub returns-in-Most-clause-later : goal.returns-in-Most-clause-later
returns-in-Most-clause-later c = c.take_most.ensures.later

pub take_forall-requires-clause-rest : goal.take_forall-requires-clause-rest
take_forall-requires-clause-rest c = c.requires.front.1.behind

pub take_forall-requires-clause-left : goal.take_forall-requires-clause-left
take_forall-requires-clause-left c = c.requires.left

pub returns-in_ok-take_forall-in-Forall-clause-later : goal.returns-in_ok-take_forall-in-Forall-clause-later
returns-in_ok-take_forall-in-Forall-clause-later c = c.in_ok-take_forall-in-Forall.ensures.later

pub take_exists-requires-clause-rest : goal.take_exists-requires-clause-rest
take_exists-requires-clause-rest c = c.requires.front.1.behind

pub take_exists-requires-clause-left : goal.take_exists-requires-clause-left
take_exists-requires-clause-left c = c.requires.left

pub returns-in_ok-take_exists-in-Exists-clause-later : goal.returns-in_ok-take_exists-in-Exists-clause-later
returns-in_ok-take_exists-in-Exists-clause-later c = c.in_ok-take_exists-in-Exists.ensures.later

pub take_load-requires-clause-rest : goal.take_load-requires-clause-rest
take_load-requires-clause-rest c = c.requires.front.1.behind

pub take_load-requires-clause-left : goal.take_load-requires-clause-left
take_load-requires-clause-left c = c.requires.left

pub returns-in_ok-take_load-in-Use-clause-later : goal.returns-in_ok-take_load-in-Use-clause-later
returns-in_ok-take_load-in-Use-clause-later c = c.in_ok-take_load-in-Use.ensures.later

pub take_forall-requires-clause-eigens : goal.take_forall-requires-clause-eigens
take_forall-requires-clause-eigens c = let e = c.requires.fits.eigens in let l = c.requires.left in omega (arith, e, l)

pub take_forall-requires-clause-body : goal.take_forall-requires-clause-body
take_forall-requires-clause-body c =
    let m = parts_of c.args.machine.now in
    let h = goal_inside m c.args.goal (record { end = c.requires.front.0; count = 0 }) (items_at m.agenda c.args.rest) c.requires.fits
    c.requires.front.1.list in
    let p = c.in-Forall.ensures.shown.parts in omega (arith, h, p)

pub take_load-requires-clause-args : goal.take_load-requires-clause-args
take_load-requires-clause-args c =
    let q : c.in-Use.args.now ≡ c.deref.result.now = sym (c.deref.ensures.value ∙ c.in_ok-args-in-Use.ensures.items) in
    subst (AllInTerms c.args.machine.now.store.bank) q c.in-Use.ensures.shown.parts.0

pub take_load-requires-clause-body : goal.take_load-requires-clause-body
take_load-requires-clause-body c =
    let m = parts_of c.args.machine.now in
    let h = goal_inside m c.args.goal (record { end = c.requires.front.0; count = 0 }) (items_at m.agenda c.args.rest) c.requires.fits
    c.requires.front.1.list in
    let p = c.in-Use.ensures.shown.parts.1 in omega (arith, h, p)

pub returns-in_err-take_forall-in-Forall-clause-attempts : goal.returns-in_err-take_forall-in-Forall-clause-attempts
returns-in_err-take_forall-in-Forall-clause-attempts c candidate = IfOk-from_err c.from_residual.result _ c.from_residual.ensures.0

pub returns-in_err-take_forall-in-Forall-clause-later : goal.returns-in_err-take_forall-in-Forall-clause-later
returns-in_err-take_forall-in-Forall-clause-later c = IfOk-from_err c.from_residual.result _ c.from_residual.ensures.0

pub returns-in_err-take_exists-in-Exists-clause-attempts : goal.returns-in_err-take_exists-in-Exists-clause-attempts
returns-in_err-take_exists-in-Exists-clause-attempts c candidate =
    IfOk-from_err c.from_residual-in_err-take_exists-in-Exists.result _ c.from_residual-in_err-take_exists-in-Exists.ensures.0

pub returns-in_err-take_exists-in-Exists-clause-later : goal.returns-in_err-take_exists-in-Exists-clause-later
returns-in_err-take_exists-in-Exists-clause-later c =
    IfOk-from_err c.from_residual-in_err-take_exists-in-Exists.result _ c.from_residual-in_err-take_exists-in-Exists.ensures.0

pub returns-in_err-args-in-Use-clause-attempts : goal.returns-in_err-args-in-Use-clause-attempts
returns-in_err-args-in-Use-clause-attempts c candidate = IfOk-from_err c.from_residual-in_err-args-in-Use.result _ c.from_residual-in_err-args-in-Use.ensures.0

pub returns-in_err-args-in-Use-clause-later : goal.returns-in_err-args-in-Use-clause-later
returns-in_err-args-in-Use-clause-later c = IfOk-from_err c.from_residual-in_err-args-in-Use.result _ c.from_residual-in_err-args-in-Use.ensures.0

pub returns-in_err-take_load-in-Use-clause-attempts : goal.returns-in_err-take_load-in-Use-clause-attempts
returns-in_err-take_load-in-Use-clause-attempts c candidate =
    IfOk-from_err c.from_residual-in_err-take_load-in-Use.result _ c.from_residual-in_err-take_load-in-Use.ensures.0

pub returns-in_err-take_load-in-Use-clause-later : goal.returns-in_err-take_load-in-Use-clause-later
returns-in_err-take_load-in-Use-clause-later c =
    IfOk-from_err c.from_residual-in_err-take_load-in-Use.result _ c.from_residual-in_err-take_load-in-Use.ensures.0

pub take_exists-requires-clause-body : goal.take_exists-requires-clause-body
take_exists-requires-clause-body c =
    let m = parts_of c.args.machine.now in
    let h = goal_inside m c.args.goal (record { end = c.requires.front.0; count = 0 }) (items_at m.agenda c.args.rest) c.requires.fits
    c.requires.front.1.list in
    let p = c.in-Exists.ensures.shown.parts in omega (arith, h, p)
