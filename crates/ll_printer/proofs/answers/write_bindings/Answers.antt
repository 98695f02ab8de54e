use Rattle.std.proofs.Common.{◌≡◌, ◌++◌, get_or, map, refl, subst, arith}
use Rattle.std.proofs.Math.ListN.{get_or-map}
use Rattle.std.proofs.lemmas.List.{length-map, take_all}
use Rattle.std.proofs.lemmas.Result.{IfOk-from_err}
use Rattle.ll_bank.specs.declared.At.{At}
use Rattle.ll_laws.specs.Output.{binding_lines}
use Rattle.ll_printer.proofs.Printing.{begins_all}
use Rattle.ll_printer.proofs.AnswerLines.{lines_on, lines_refused}
use Rattle.ll_printer.proofs.answers.write_bindings.Goals as goal

pub returns-in_err-write_binding-clause-begun : goal.returns-in_err-write_binding-clause-begun
returns-in_err-write_binding-clause-begun g c =
    lines_refused c.args.names.now c.args.asked.now (map (λ (a : At). g.T.Terms.tree c.args.terms.now a.0) c.args.places.now) c.loop-i.i _ _
    (g.T.Terms.tree c.args.terms.now (get_or c.args.places.now c.loop-i.i (record { 0 = 0 })).0) (g.T.Terms.tree c.args.terms.now 0)
    c.args.out.now.items c.loop-i.out.items c.write_binding.new.out.items (omega arith) (let e =
    length-map c.args.places.now (λ (a : At). g.T.Terms.tree c.args.terms.now a.0) in let l = c.requires.enough in omega arith) refl
    (get_or-map (λ (a : At). g.T.Terms.tree c.args.terms.now a.0) c.args.places.now c.loop-i.i (record { 0 = 0 })) c.loop-i.invariant
    c.write_binding.ensures.begun

pub loop-i-preserved : goal.loop-i-preserved
loop-i-preserved g c =
    lines_on c.args.names.now c.args.asked.now (map (λ (a : At). g.T.Terms.tree c.args.terms.now a.0) c.args.places.now) c.loop-i.i _ _
    (g.T.Terms.tree c.args.terms.now (get_or c.args.places.now c.loop-i.i (record { 0 = 0 })).0) (g.T.Terms.tree c.args.terms.now 0)
    c.args.out.now.items c.loop-i.out.items c.write_binding.new.out.items (omega arith) (let e =
    length-map c.args.places.now (λ (a : At). g.T.Terms.tree c.args.terms.now a.0) in let l = c.requires.enough in omega arith) refl
    (get_or-map (λ (a : At). g.T.Terms.tree c.args.terms.now a.0) c.args.places.now c.loop-i.i (record { 0 = 0 })) c.loop-i.invariant
    c.in_ok-write_binding.ensures.text

pub returns-clause-begun : goal.returns-clause-begun
returns-clause-begun g c =
    begins_all (binding_lines c.args.names.now c.args.asked.now (map (λ (a : At). g.T.Terms.tree c.args.terms.now a.0) c.args.places.now))
    c.args.out.now.items c.loop-i.out.items
    (subst (λ xs. c.loop-i.out.items ≡ c.args.out.now.items ++ binding_lines c.args.names.now xs
    (map (λ (a : At). g.T.Terms.tree c.args.terms.now a.0) c.args.places.now))
    (take_all c.loop-i.i c.args.asked.now (omega arith)) c.loop-i.invariant)

pub returns-in_err-write_binding-clause-text : goal.returns-in_err-write_binding-clause-text
returns-in_err-write_binding-clause-text g c = IfOk-from_err c.from_residual.result _ c.from_residual.ensures.0

pub returns-clause-text : goal.returns-clause-text
returns-clause-text g c =
    subst (λ xs. c.loop-i.out.items ≡ c.args.out.now.items ++ binding_lines c.args.names.now xs
    (map (λ (a : At). g.T.Terms.tree c.args.terms.now a.0) c.args.places.now))
    (take_all c.loop-i.i c.args.asked.now (omega arith)) c.loop-i.invariant
