use Rattle.std.proofs.Common.{◌≡◌, ℕ, ◌+◌, ◌*◌, ◌<◌, ◌≤◌, zero-le, [], length, Some, ap, ◌∙◌, arith, rules}
use Rattle.std.specs.Prelude.{◌^◌}
use Rattle.std.proofs.lemmas.Result.{IfOk-weaker, IfOk-from_err}
use Rattle.ll_bank.specs.Nodes.{HasForm, ShowsForm, form_tree}
use Rattle.ll_bank.proofs.CallerLemmas.{Extends-refl, Extends-trans}
use Rattle.ll_laws.specs.Module.{forall_all}
use Rattle.ll_laws.specs.Valid.{ClauseSide}
use Rattle.ll_parser.specs.Nodes.{raw_at}
use Rattle.ll_parser.specs.Weights.{weight}
use Rattle.ll_polarity.specs.Numbered.{variables_of}
use Rattle.ll_polarity.specs.Reading.{read_form}
use Rattle.ll_polarity.specs.Built.{built_form}
use Rattle.ll_polarity.specs.Standing.{outermost}
use Rattle.ll_polarity.specs.Places.{place_in}
use Rattle.ll_polarity.proofs.reading.Reread.{clause_built}
use Rattle.ll_polarity.proofs.putting.Clauses.{room_whole, names_met, names_again}
use Rattle.ll_polarity.proofs.put_clauses.quantified.Goals as goal

-- the names of a clause, its binders and its variables have room together
high_again : (n later s t w k : ℕ) → n + s + 6 * w < 2 ^ 32 → later + k ≤ n + w → t ≡ s → t + k + 5 * w < 2 ^ 32
high_again n later s t w k h f is = omega arith

stands_high : (t k w : ℕ) → t + k + 5 * w < 2 ^ 32 → t + k < 2 ^ 32
stands_high t k w h = omega arith

room_again : (n later s w k : ℕ) → n + s + 6 * w < 2 ^ 32 → later + k ≤ n + w → later + w < 2 ^ 32
room_again n later s w k h f = omega arith

pub returns-in_err-count-clause-keeps : goal.returns-in_err-count-clause-keeps
returns-in_err-count-clause-keeps c = Extends-refl c.args.bank.now

pub form-requires-clause-high : goal.form-requires-clause-high
form-requires-clause-high c =
    high_again (length c.args.met.now.names) (length c.counted.new.met.names) (length c.args.binders.now.scope) (length c.counted.new.binders.scope)
    (weight (raw_at c.args.text.now.names.now c.args.text.now.forms.now c.args.clause.form.0)) c.in_ok-count.count c.requires.room
    c.in_ok-count.ensures.few (ap length c.in_ok-count.ensures.scope)

pub form-requires-clause-stands : goal.form-requires-clause-stands
form-requires-clause-stands c = record {
  distinct = c.requires.stands.distinct;
  same = c.in_ok-count.ensures.texts;
  depth = zero-le;
  room = stands_high (length c.counted.new.binders.scope) c.in_ok-count.count
      (weight (raw_at c.args.text.now.names.now c.args.text.now.forms.now c.args.clause.form.0)) (form-requires-clause-high c);
}

pub form-requires-clause-room : goal.form-requires-clause-room
form-requires-clause-room c =
    let raw = raw_at c.args.text.now.names.now c.args.text.now.forms.now c.args.clause.form.0 in
    room_whole c.args.text.now.names.now (place_in c.args.text.now.modules.now.places) (outermost (Some c.in_ok-count.count) c.counted.new.binders.scope)
    c.counted.new.met.names c.new.result raw c.new.ensures (room_again (length c.args.met.now.names) (length c.counted.new.met.names)
    (length c.args.binders.now.scope) (weight raw) c.in_ok-count.count c.requires.room c.in_ok-count.ensures.few)

pub returns-in_err-body-clause-keeps : goal.returns-in_err-body-clause-keeps
returns-in_err-body-clause-keeps c = c.in_err-body.ensures.keeps

pub returns-clause-shows : goal.returns-clause-shows
returns-clause-shows c =
    IfOk-weaker c.under.result (λ form. ShowsForm c.under.new.bank form.0 (forall_all c.in_ok-count.count (form_tree c.form.new.bank c.in_ok-body.body.0))) _
    (λ form closed. λ ms heads first h.
    let texts = c.args.text.now.names.now in
    let places = place_in c.args.text.now.modules.now.places in
    let scope = c.args.binders.now.scope in
    let raw = raw_at texts c.args.text.now.forms.now c.args.clause.form.0 in
    let count = c.in_ok-count.ensures.count ms in
    let b = clause_built places ms heads ClauseSide scope c.args.met.now.names c.counted.new.met.names c.in_ok-count.count raw first
    c.len-known.ensures.distinct (c.in_ok-count.ensures.names ms) count h in
    let t = c.in_ok-body.ensures.shows.tree
    ∙ (λ i. (built_form places (outermost (Some c.in_ok-count.count) (c.in_ok-count.ensures.scope i))
    (record { names = c.counted.new.met.names; variables = variables_of texts (c.new.ensures i) }) raw).it)
    ∙ ap (λ y. y.it) b in
    record { inside = closed.inside; tree = closed.tree ∙ (λ i. forall_all (count i) (t i)) }) c.under.ensures.shows

pub returns-clause-inside : goal.returns-clause-inside
returns-clause-inside c =
    IfOk-weaker c.under.result (λ form. ShowsForm c.under.new.bank form.0 (forall_all c.in_ok-count.count (form_tree c.form.new.bank c.in_ok-body.body.0)))
    (λ form. HasForm c.under.new.bank form.0) (λ form closed. closed.inside) c.under.ensures.shows

pub returns-clause-names : goal.returns-clause-names
returns-clause-names c =
    IfOk-weaker c.under.result (λ form. ShowsForm c.under.new.bank form.0 (forall_all c.in_ok-count.count (form_tree c.form.new.bank c.in_ok-body.body.0))) _
    (λ form closed. λ ms.
    let texts = c.args.text.now.names.now in
    let scope = c.args.binders.now.scope in
    let raw = raw_at texts c.args.text.now.forms.now c.args.clause.form.0 in
    names_met texts (place_in c.args.text.now.modules.now.places) (outermost (Some c.in_ok-count.count) c.counted.new.binders.scope) c.counted.new.met.names
    c.form.new.met.names c.new.result c.form.new.met.variables raw c.new.ensures c.in_ok-body.ensures.met ms
    ∙ (ap (λ s. (read_form ms s (record { names = c.counted.new.met.names; variables = [] }) raw).met.names) c.in_ok-count.ensures.scope
    ∙ names_again ms scope c.args.met.now.names c.counted.new.met.names raw c.len-known.ensures.distinct (c.in_ok-count.ensures.names ms)))
    c.under.ensures.shows

pub returns-clause-scope : goal.returns-clause-scope
returns-clause-scope c =
    IfOk-weaker c.under.result (λ form. ShowsForm c.under.new.bank form.0 (forall_all c.in_ok-count.count (form_tree c.form.new.bank c.in_ok-body.body.0))) _
    (λ form closed. c.in_ok-body.ensures.scope ∙ c.in_ok-count.ensures.scope) c.under.ensures.shows

pub returns-clause-texts : goal.returns-clause-texts
returns-clause-texts c =
    IfOk-weaker c.under.result (λ form. ShowsForm c.under.new.bank form.0 (forall_all c.in_ok-count.count (form_tree c.form.new.bank c.in_ok-body.body.0))) _
    (λ form closed. c.in_ok-body.ensures.texts) c.under.ensures.shows

pub returns-clause-keeps : goal.returns-clause-keeps
returns-clause-keeps c = Extends-trans c.in_ok-body.ensures.keeps c.under.ensures.keeps

pub returns-in_err-count-clause-shows : goal.returns-in_err-count-clause-shows
returns-in_err-count-clause-shows c = IfOk-from_err c.from_residual.result _ c.from_residual.ensures.0

pub returns-in_err-count-clause-names : goal.returns-in_err-count-clause-names
returns-in_err-count-clause-names c = IfOk-from_err c.from_residual.result _ c.from_residual.ensures.0

pub returns-in_err-count-clause-inside : goal.returns-in_err-count-clause-inside
returns-in_err-count-clause-inside c = IfOk-from_err c.from_residual.result _ c.from_residual.ensures.0

pub returns-in_err-count-clause-scope : goal.returns-in_err-count-clause-scope
returns-in_err-count-clause-scope c = IfOk-from_err c.from_residual.result _ c.from_residual.ensures.0

pub returns-in_err-count-clause-texts : goal.returns-in_err-count-clause-texts
returns-in_err-count-clause-texts c = IfOk-from_err c.from_residual.result _ c.from_residual.ensures.0

pub returns-in_err-body-clause-shows : goal.returns-in_err-body-clause-shows
returns-in_err-body-clause-shows c = IfOk-from_err c.from_residual-in_err-body.result _ c.from_residual-in_err-body.ensures.0

pub returns-in_err-body-clause-names : goal.returns-in_err-body-clause-names
returns-in_err-body-clause-names c = IfOk-from_err c.from_residual-in_err-body.result _ c.from_residual-in_err-body.ensures.0

pub returns-in_err-body-clause-inside : goal.returns-in_err-body-clause-inside
returns-in_err-body-clause-inside c = IfOk-from_err c.from_residual-in_err-body.result _ c.from_residual-in_err-body.ensures.0

pub returns-in_err-body-clause-scope : goal.returns-in_err-body-clause-scope
returns-in_err-body-clause-scope c = IfOk-from_err c.from_residual-in_err-body.result _ c.from_residual-in_err-body.ensures.0

pub returns-in_err-body-clause-texts : goal.returns-in_err-body-clause-texts
returns-in_err-body-clause-texts c = IfOk-from_err c.from_residual-in_err-body.result _ c.from_residual-in_err-body.ensures.0

pub counted-requires-clause-stands : goal.counted-requires-clause-stands
counted-requires-clause-stands c = c.requires.stands

pub counted-requires-clause-ready : goal.counted-requires-clause-ready
counted-requires-clause-ready c = c.requires.ready

pub counted-requires-clause-room : goal.counted-requires-clause-room
counted-requires-clause-room c = c.requires.room

pub form-requires-clause-ready : goal.form-requires-clause-ready
form-requires-clause-ready c = c.requires.ready

pub under-requires : goal.under-requires
under-requires c = search rules
