use Rattle.std.proofs.Common.{ap, map, sym, subst, ◌∙◌, []}
use Rattle.std.specs.List.{list_any}
use Rattle.ll_bank.specs.declared.At.{At}
use Rattle.ll_laws.specs.Problem.{ProblemTree}
use Rattle.ll_laws.specs.Output.{binding_lines, is_named}
use Rattle.ll_printer.specs.Pieces.{BeginsText}
use Rattle.ll_printer.proofs.AnswerLines.{lines_named, lines_unnamed}
use Rattle.ll_printer.proofs.bindings_of.Goals as goal

pub returns-then-has_names-clause-begun : goal.returns-then-has_names-clause-begun
returns-then-has_names-clause-begun g c =
    subst (λ t. BeginsText t c.args.out.now.items c.write_bindings.new.out.items)
    ((λ i. binding_lines ((ap (λ (p : ProblemTree). p.names) c.problem.view_is) i)
    ((c.deref-then-has_names.ensures.value ∙ ap (λ (p : ProblemTree). p.asked) c.problem.view_is) i)
    (map (λ (a : At). g.T.Terms.tree c.args.terms.now a.0) c.args.places.now))
    ∙ lines_named c.args.problem.now (record { terms = map (λ (a : At). g.T.Terms.tree c.args.terms.now a.0) c.args.places.now; steps = [] }) (sym
    (ap (list_any is_named) (c.deref.ensures.value ∙ ap (λ (p : ProblemTree). p.asked) c.problem.view_is))
    ∙ (sym c.has_names.ensures ∙ c.if-has_names.true))) c.write_bindings.ensures.begun

pub returns-else-has_names-clause-begun : goal.returns-else-has_names-clause-begun
returns-else-has_names-clause-begun g c =
    subst (λ t. BeginsText t c.args.out.now.items c.write_yes.new.out.items)
    (lines_unnamed c.args.problem.now (record { terms = map (λ (a : At). g.T.Terms.tree c.args.terms.now a.0) c.args.places.now; steps = [] }) (sym
    (ap (list_any is_named) (c.deref.ensures.value ∙ ap (λ (p : ProblemTree). p.asked) c.problem.view_is))
    ∙ (sym c.has_names.ensures ∙ c.if-has_names.false))) c.write_yes.ensures.begun
