use Rattle.std.proofs.Common.{◌≡◌, [], sym, subst, ap, ◌∙◌, arith}
use Rattle.std.proofs.lemmas.Result.{IfOk-from_err}
use Rattle.std.proofs.lemmas.Option.{get_or_from_slice_get}
use Rattle.ll_bank.specs.declared.Head.TheVariants as head
use Rattle.ll_bank.specs.Term.{Var, Con}
use Rattle.ll_bank.specs.Names.{with_name}
use Rattle.ll_polarity.specs.Scope.{Meaning, meaning}
use Rattle.ll_polarity.specs.Reading.{Met, read_name, variable_in}
use Rattle.ll_polarity.specs.Numbered.{text_of, variables_of}
use Rattle.ll_polarity.specs.Built.{put_term}
use Rattle.ll_polarity.specs.Standing.{met_of, front_term}
use Rattle.ll_polarity.proofs.naming.Fronts.{number_is, added_is, bound_inside, local_inside, constant_number, put_constant}
use Rattle.ll_polarity.specs.Spots.{texts_of}
use Rattle.ll_polarity.proofs.front.front_of.Goals as goal

pub binder-requires : goal.binder-requires
binder-requires c =
    let e = c.in-Bound.ensures ∙ ap (λ ts. meaning c.args.spot.now.binders.now.scope (text_of ts c.args.name)) c.requires.stands.same in
    omega (arith, c.requires.stands.room, bound_inside c.args.spot.now.binders.now.scope (text_of (texts_of c.args.spot.now) c.args.name) c.in-Bound.further e)

pub binder-requires-in-Local : goal.binder-requires-in-Local
binder-requires-in-Local c =
    let e = c.in-Local.ensures ∙ ap (λ ts. meaning c.args.spot.now.binders.now.scope (text_of ts c.args.name)) c.requires.stands.same in
    omega (arith, c.requires.stands.room, local_inside c.args.spot.now.binders.now.scope (text_of (texts_of c.args.spot.now) c.args.name) c.in-Local.further e)

pub returns-in_ok-number-in-Free-clause-front : goal.returns-in_ok-number-in-Free-clause-front
returns-in_ok-number-in-Free-clause-front c =
    let texts = (texts_of c.args.spot.now) in let n = c.args.name in let w = text_of texts n in
    let e = c.in-Free.ensures ∙ ap (λ ts. meaning c.args.spot.now.binders.now.scope (text_of ts n)) c.requires.stands.same in
    let k = c.in_ok-number-in-Free.ensures.number ∙ (number_is texts n c.requires.stands.distinct c.requires.name c.requires.text c.add.new.self
    ∙ ap (λ vs. variable_in vs w) (ap (variables_of texts) c.in_ok-number-in-Free.ensures.added
    ∙ added_is texts n c.requires.stands.distinct c.requires.name c.requires.text c.args.met.now.variables)) in
    subst (λ (m : Meaning). front_term c.variable.result ≡ put_term c.args.spot.now.place.quantified c.args.spot.now.place.depth
    (read_name m (met_of texts c.args.met.now) w).it)
    e
    (c.variable.ensures ∙ ap (λ x. put_term c.args.spot.now.place.quantified c.args.spot.now.place.depth (Var x)) k)

pub returns-in_ok-number-in-Free-clause-met : goal.returns-in_ok-number-in-Free-clause-met
returns-in_ok-number-in-Free-clause-met c =
    let texts = (texts_of c.args.spot.now) in let n = c.args.name in let w = text_of texts n in
    let e = c.in-Free.ensures ∙ ap (λ ts. meaning c.args.spot.now.binders.now.scope (text_of ts n)) c.requires.stands.same in
    subst (λ (m : Meaning). met_of texts (record { names = c.args.met.now.names; variables = c.add.new.self })
    ≡ (read_name m (met_of texts c.args.met.now) w).met) e
    (ap (λ vs. let m : Met = record { names = c.args.met.now.names; variables = vs } in m)
    (ap (variables_of texts) c.in_ok-number-in-Free.ensures.added
    ∙ added_is texts n c.requires.stands.distinct c.requires.name c.requires.text c.args.met.now.variables))

pub returns-in_ok-number-in-Constant-clause-front : goal.returns-in_ok-number-in-Constant-clause-front
returns-in_ok-number-in-Constant-clause-front c =
    let texts = (texts_of c.args.spot.now) in let n = c.args.name in let w = text_of texts n in
    let e = c.in-Constant.ensures ∙ ap (λ ts. meaning c.args.spot.now.binders.now.scope (text_of ts n)) c.requires.stands.same in
    let t = get_or_from_slice_get texts n c.text.result.now [] c.text.ensures in
    subst (λ (m : Meaning). Con (head.Name c.in_ok-number-in-Constant.number)
    ≡ put_term c.args.spot.now.place.quantified c.args.spot.now.place.depth (read_name m (met_of texts c.args.met.now) w).it) e
    (put_constant c.args.spot.now.place.quantified c.args.spot.now.place.depth _ _
    (constant_number c.args.met.now.names c.add-in-Constant.new.self c.text.result.now w _ c.in_ok-number-in-Constant.ensures.added t
    c.in_ok-number-in-Constant.ensures.number))

pub returns-in_ok-number-in-Constant-clause-met : goal.returns-in_ok-number-in-Constant-clause-met
returns-in_ok-number-in-Constant-clause-met c =
    let texts = (texts_of c.args.spot.now) in let n = c.args.name in let w = text_of texts n in
    let e = c.in-Constant.ensures ∙ ap (λ ts. meaning c.args.spot.now.binders.now.scope (text_of ts n)) c.requires.stands.same in
    let t = get_or_from_slice_get texts n c.text.result.now [] c.text.ensures in
    subst (λ (m : Meaning). met_of texts (record { names = c.add-in-Constant.new.self; variables = c.args.met.now.variables })
    ≡ (read_name m (met_of texts c.args.met.now) w).met) e
    (ap (λ ns. let m : Met = record { names = ns; variables = variables_of texts c.args.met.now.variables } in m)
    (c.in_ok-number-in-Constant.ensures.added ∙ ap (with_name c.args.met.now.names) (sym t)))

pub returns-in_err-number-in-Constant-clause-front : goal.returns-in_err-number-in-Constant-clause-front
returns-in_err-number-in-Constant-clause-front c =
    IfOk-from_err c.from_residual-in_err-number-in-Constant.result _ c.from_residual-in_err-number-in-Constant.ensures.0

pub returns-in_err-number-in-Constant-clause-met : goal.returns-in_err-number-in-Constant-clause-met
returns-in_err-number-in-Constant-clause-met c =
    IfOk-from_err c.from_residual-in_err-number-in-Constant.result _ c.from_residual-in_err-number-in-Constant.ensures.0

pub returns-in_err-number-in-Free-clause-front : goal.returns-in_err-number-in-Free-clause-front
returns-in_err-number-in-Free-clause-front c = IfOk-from_err c.from_residual.result _ c.from_residual.ensures.0

pub returns-in_err-number-in-Free-clause-met : goal.returns-in_err-number-in-Free-clause-met
returns-in_err-number-in-Free-clause-met c = IfOk-from_err c.from_residual.result _ c.from_residual.ensures.0
