use Rattle.std.proofs.Common.{◌≡◌, ℕ, ◌+◌, ◌*◌, ◌<◌, ◌≤◌, length, None, subst, sym, ◌∙◌, arith}
use Rattle.std.proofs.lemmas.Result.{IfOk-from_err}
use Rattle.std.specs.Prelude.{◌^◌}
use Rattle.ll_parser.specs.Nodes.{raw_at}
use Rattle.ll_parser.specs.Weights.{weight}
use Rattle.ll_polarity.specs.Standing.{outermost}
use Rattle.ll_polarity.specs.Places.{place_in}
use Rattle.ll_polarity.proofs.putting.Clauses.{room_whole, names_met, count_met, few_met}
use Rattle.ll_polarity.proofs.put_clauses.counted.Goals as goal

-- the names of a clause, its binders and its variables have room together
room_once : (n s w : ℕ) → n + s + 6 * w < 2 ^ 32 → n + w < 2 ^ 32
room_once n s w h = omega arith

high_once : (n s w : ℕ) → n + s + 6 * w < 2 ^ 32 → s + 0 + 5 * w < 2 ^ 32
high_once n s w h = omega arith

count_fits : (n later s w k v : ℕ) → n + s + 6 * w < 2 ^ 32 → later + v ≤ n + w → k ≡ v → k < 2 ^ 32
count_fits n later s w k v h f e = omega arith

pub form-requires-clause-room : goal.form-requires-clause-room
form-requires-clause-room c =
    room_whole c.args.text.now.names.now (place_in c.args.text.now.modules.now.places) (outermost None c.args.binders.now.scope) c.args.met.now.names
    c.new.result
    (raw_at c.args.text.now.names.now c.args.text.now.forms.now c.args.clause.form.0) c.new.ensures
    (room_once (length c.args.met.now.names) (length c.args.binders.now.scope) (weight
    (raw_at c.args.text.now.names.now c.args.text.now.forms.now c.args.clause.form.0)) c.requires.room)

pub form-requires-clause-high : goal.form-requires-clause-high
form-requires-clause-high c = high_once (length c.args.met.now.names) (length c.args.binders.now.scope) (weight
    (raw_at c.args.text.now.names.now c.args.text.now.forms.now c.args.clause.form.0))
    c.requires.room

pub overflow_cast-count : goal.overflow_cast-count
overflow_cast-count c =
    let f = few_met c.args.text.now.names.now (place_in c.args.text.now.modules.now.places) (outermost None c.args.binders.now.scope) c.args.met.now.names
    c.form.new.met.names c.new.result c.form.new.met.variables
    (raw_at c.args.text.now.names.now c.args.text.now.forms.now c.args.clause.form.0) c.new.ensures c.in_ok-form.ensures.met in
    record {
      fits = count_fits (length c.args.met.now.names) (length c.form.new.met.names) (length c.args.binders.now.scope)
          (weight (raw_at c.args.text.now.names.now c.args.text.now.forms.now c.args.clause.form.0))
          c.len-count.result (length c.form.new.met.variables) c.requires.room f c.len-count.ensures;
    }

pub returns-clause-count : goal.returns-clause-count
returns-clause-count c = λ ms.
    c.len-count.ensures
    ∙ count_met c.args.text.now.names.now (place_in c.args.text.now.modules.now.places) (outermost None c.args.binders.now.scope) c.args.met.now.names
    c.form.new.met.names c.new.result c.form.new.met.variables
    (raw_at c.args.text.now.names.now c.args.text.now.forms.now c.args.clause.form.0) c.new.ensures c.in_ok-form.ensures.met ms

pub returns-clause-names : goal.returns-clause-names
returns-clause-names c = λ ms.
    names_met c.args.text.now.names.now (place_in c.args.text.now.modules.now.places) (outermost None c.args.binders.now.scope) c.args.met.now.names
    c.form.new.met.names c.new.result c.form.new.met.variables
    (raw_at c.args.text.now.names.now c.args.text.now.forms.now c.args.clause.form.0) c.new.ensures c.in_ok-form.ensures.met ms

pub returns-clause-few : goal.returns-clause-few
returns-clause-few c =
    subst (λ n. length c.form.new.met.names + n ≤ length c.args.met.now.names
    + weight (raw_at c.args.text.now.names.now c.args.text.now.forms.now c.args.clause.form.0)) (sym c.len-count.ensures)
    (few_met c.args.text.now.names.now (place_in c.args.text.now.modules.now.places) (outermost None c.args.binders.now.scope) c.args.met.now.names
    c.form.new.met.names c.new.result c.form.new.met.variables
    (raw_at c.args.text.now.names.now c.args.text.now.forms.now c.args.clause.form.0) c.new.ensures c.in_ok-form.ensures.met)

pub returns-in_err-form-clause-count : goal.returns-in_err-form-clause-count
returns-in_err-form-clause-count c = IfOk-from_err c.from_residual.result _ c.from_residual.ensures.0

pub returns-in_err-form-clause-few : goal.returns-in_err-form-clause-few
returns-in_err-form-clause-few c = IfOk-from_err c.from_residual.result _ c.from_residual.ensures.0

pub returns-in_err-form-clause-names : goal.returns-in_err-form-clause-names
returns-in_err-form-clause-names c = IfOk-from_err c.from_residual.result _ c.from_residual.ensures.0

pub returns-in_err-form-clause-scope : goal.returns-in_err-form-clause-scope
returns-in_err-form-clause-scope c = IfOk-from_err c.from_residual.result _ c.from_residual.ensures.0

pub returns-in_err-form-clause-texts : goal.returns-in_err-form-clause-texts
returns-in_err-form-clause-texts c = IfOk-from_err c.from_residual.result _ c.from_residual.ensures.0
