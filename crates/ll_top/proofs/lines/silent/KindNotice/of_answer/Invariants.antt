use Rattle.std.specs.Prelude.{map}
use Rattle.ll_laws.specs.declared.Event.TheVariants.{Answer}
use Rattle.ll_top.proofs.lines.silent.KindNotice.of_answer.Given as goal

abbrev pub ghost-ghost_by_terms : goal.ghost-ghost_by_terms
ghost-ghost_by_terms g a = Answer (record { terms = map (λ p. g.T.Terms.tree a._terms.now p.0) a._places.now; steps = a._steps.now })
