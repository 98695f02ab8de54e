use Rattle.std.proofs.Common.{length, ap, sym, ◌∙◌, lt_trans}
use Rattle.ll_bank.specs.Form.{Form}
use Rattle.ll_bank.specs.Nodes.{form_tree}
use Rattle.ll_laws.specs.Leaf.{ways}
use Rattle.ll_laws.proofs.CallerLemmas.{ways_quantified}
use Rattle.ll_engine.proofs.candidates.behind_premises.Goals as goal

pub parts-preserved-in-Lolli : goal.parts-preserved-in-Lolli
parts-preserved-in-Lolli c = let h = c.in-Lolli.ensures.shown in let i = c.parts.invariant in record {
  inside = lt_trans h.parts.1 i.inside;
  same = sym (ap (λ (t : Form). length (ways t)) h.tree) ∙ i.same;
}

pub parts-preserved-in-Imp : goal.parts-preserved-in-Imp
parts-preserved-in-Imp c = let h = c.in-Imp.ensures.shown in let i = c.parts.invariant in record {
  inside = lt_trans h.parts.1 i.inside;
  same = sym (ap (λ (t : Form). length (ways t)) h.tree) ∙ i.same;
}

pub parts-preserved : goal.parts-preserved
parts-preserved c = let h = c.in-Forall.ensures.shown in let i = c.parts.invariant in record {
  inside = lt_trans h.parts i.inside;
  same = sym (ap (λ (t : Form). length (ways t)) h.tree ∙ ways_quantified (form_tree c.args.bank.now c.in-Forall.rest.0)) ∙ i.same;
}
