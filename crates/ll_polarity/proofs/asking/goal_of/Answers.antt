use Rattle.std.proofs.Common.{[], length, None, ap, ◌∙◌, arith, rules}
use Rattle.std.proofs.lemmas.Result.{IfOk-from_err}
use Rattle.std.specs.Prelude.{unwrap_or}
use Rattle.ll_bank.proofs.CallerLemmas.{Extends-refl}
use Rattle.ll_laws.specs.Valid.{GoalSide}
use Rattle.ll_parser.specs.Nodes.{raw_at}
use Rattle.ll_parser.proofs.CallerLemmas.{small_query}
use Rattle.ll_polarity.specs.Numbered.{variables_of}
use Rattle.ll_polarity.specs.Reading.{Met}
use Rattle.ll_polarity.specs.Built.{built_form}
use Rattle.ll_polarity.specs.Standing.{outermost}
use Rattle.ll_polarity.specs.Places.{place_in}
use Rattle.ll_polarity.proofs.reading.Building.{same_form, met_form}
use Rattle.ll_polarity.proofs.putting.Clauses.{room_whole}
use Rattle.ll_polarity.proofs.naming.Named.{whole_query_named}
use Rattle.ll_polarity.proofs.asking.goal_of.Goals as goal

pub returns-in_err-binders-clause-keeps : goal.returns-in_err-binders-clause-keeps
returns-in_err-binders-clause-keeps c = Extends-refl c.args.bank.now

pub form-requires-clause-ready : goal.form-requires-clause-ready
form-requires-clause-ready c = record { inside = c.requires.goal; named = whole_query_named _ c.requires.whole }

pub form-requires-clause-high : goal.form-requires-clause-high
form-requires-clause-high c =
    let raw = raw_at c.args.text.now.names.now c.args.text.now.forms.now c.args.at.0 in
    let s = ap (λ b. length b.scope) c.in_ok-binders.ensures in omega (arith, s, (small_query raw c.requires.whole).light)

pub form-requires-clause-room : goal.form-requires-clause-room
form-requires-clause-room c =
    let raw = raw_at c.args.text.now.names.now c.args.text.now.forms.now c.args.at.0 in
    room_whole c.args.text.now.names.now (place_in c.args.text.now.modules.now.places) (outermost None c.in_ok-binders.binders.scope) c.args.met.now.names
    c.args.met.now.variables
    raw c.requires.first
    (omega (arith, c.requires.few, (small_query raw c.requires.whole).light))

pub returns-clause-shows : goal.returns-clause-shows
returns-clause-shows c = λ ms heads first h.
    let texts = c.args.text.now.names.now in
    let raw = raw_at texts c.args.text.now.forms.now c.args.at.0 in
    let places = place_in c.args.text.now.modules.now.places in
    let met : Met = record { names = c.args.met.now.names; variables = [] } in
    c.in_ok-goal.ensures.shows.tree
    ∙
    ((λ i. (built_form places (outermost None ((c.in_ok-binders.ensures i).scope))
    (record { names = c.args.met.now.names; variables = variables_of texts (c.requires.first i) }) raw).it)
    ∙ ap (λ y. y.it) (same_form places ms heads (λ w. ap (λ o. unwrap_or o 0) (first w)) GoalSide (outermost None []) met raw h))

pub returns-clause-met : goal.returns-clause-met
returns-clause-met c = λ ms.
    let texts = c.args.text.now.names.now in
    let raw = raw_at texts c.args.text.now.forms.now c.args.at.0 in
    let places = place_in c.args.text.now.modules.now.places in
    let met : Met = record { names = c.args.met.now.names; variables = [] } in
    c.in_ok-goal.ensures.met
    ∙
    ((λ i. (built_form places (outermost None ((c.in_ok-binders.ensures i).scope))
    (record { names = c.args.met.now.names; variables = variables_of texts (c.requires.first i) }) raw).met)
    ∙ met_form places ms (outermost None []) met raw)

pub returns-in_err-binders-clause-inside : goal.returns-in_err-binders-clause-inside
returns-in_err-binders-clause-inside c = IfOk-from_err c.from_residual.result _ c.from_residual.ensures.0

pub returns-in_err-binders-clause-met : goal.returns-in_err-binders-clause-met
returns-in_err-binders-clause-met c = IfOk-from_err c.from_residual.result _ c.from_residual.ensures.0

pub returns-in_err-binders-clause-shows : goal.returns-in_err-binders-clause-shows
returns-in_err-binders-clause-shows c = IfOk-from_err c.from_residual.result _ c.from_residual.ensures.0

pub returns-in_err-goal-clause-inside : goal.returns-in_err-goal-clause-inside
returns-in_err-goal-clause-inside c = IfOk-from_err c.from_residual-in_err-goal.result _ c.from_residual-in_err-goal.ensures.0

pub returns-in_err-goal-clause-met : goal.returns-in_err-goal-clause-met
returns-in_err-goal-clause-met c = IfOk-from_err c.from_residual-in_err-goal.result _ c.from_residual-in_err-goal.ensures.0

pub returns-in_err-goal-clause-shows : goal.returns-in_err-goal-clause-shows
returns-in_err-goal-clause-shows c = IfOk-from_err c.from_residual-in_err-goal.result _ c.from_residual-in_err-goal.ensures.0

pub returns-in_err-goal-clause-keeps : goal.returns-in_err-goal-clause-keeps
returns-in_err-goal-clause-keeps c = c.form.ensures.keeps

pub returns-clause-inside : goal.returns-clause-inside
returns-clause-inside c = search rules

pub returns-clause-keeps : goal.returns-clause-keeps
returns-clause-keeps c = c.form.ensures.keeps
