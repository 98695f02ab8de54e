use Rattle.std.proofs.Common.{rules, refl, ap, ◌∙◌, ◌≡◌, ◌∷◌, List, map, length}
use Rattle.ll_laws.specs.declared.Clause.{Clause}
use Rattle.ll_laws.specs.Problem.{ProblemTree}
use Rattle.ll_store.specs.declared.cells.Cell.{Cell}
use Rattle.ll_resources.specs.History.{History}
use Rattle.ll_resources.specs.Resources.{started}
use Rattle.ll_freeze.specs.declared.machine.Machine.{Machine}
use Rattle.ll_freeze.specs.Parts.{parts_of}
use Rattle.ll_freeze.proofs.Starting.{starts_in, cells_bound, cells_levels}
use Rattle.ll_freeze.proofs.machine.Machine.start.Goals as goal

pub returns : goal.returns
returns c =
    let i = c.problem.inside in let n = c.len.result in
    let m : Machine =
    record {
      problem = c.args.problem;
      modules = c.deref-3.result;
      store = c.in_ok-store.store;
      context = c.in_ok-context.context;
      agenda = c.push.new.self;
      top = c.in_ok-top.top;
      left = i.bound;
      eigens = 0;
      terms = c.in_ok-store.terms;
      steps = c.new.result;
      args = c.new-2.result;
    } in
    let count : n ≡ length i.asked.items = search rules in
    let top = c.in_ok-top.ensures.list in let first = c.in_ok-store.ensures in
    starts_in c.args.problem.now i.bank (parts_of m) i.goal i.clauses.items n c.requires.valid refl
    first.keeps
    (ap (λ (p : ProblemTree). p.goal) c.problem.view_is)
    c.problem.invariant.2 (ap (λ (p : ProblemTree). p.clauses) c.problem.view_is) c.problem.invariant.1
    (count ∙ ap (λ (p : ProblemTree). length p.asked) c.problem.view_is)
    (ap (λ (cs : List Cell). map (λ (d : Cell). d.to) cs) first.cells ∙ cells_bound n 0)
    (ap (λ (cs : List Cell). map (λ (d : Cell). d.level) cs) first.cells ∙ cells_levels n 0)
    (ap (λ (h : History _). h.present) c.in_ok-context.ensures
    ∙ ap (λ xs. started xs) (c.deref-2.ensures.value ∙ (c.in_ok-clauses.ensures
    ∙ ap (λ (cs : List Clause). map (λ (k : Clause). (k.kind, k.form)) cs) c.deref.ensures.value)))
    (record {
      inside = top.inside;
      list = top.list ∙ (λ j. c.closed.ensures j ∷ (c.none.ensures c.new-agenda.result).list j);
    })
    (ap (λ (p : ProblemTree). p.bound) c.problem.view_is) refl
    first.inside first.shows c.new.ensures.items i.modules.items
    c.deref-3.ensures.value c.problem.invariant.0 (ap (λ (p : ProblemTree). p.modules) c.problem.view_is)
