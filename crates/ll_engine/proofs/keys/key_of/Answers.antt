use Rattle.std.proofs.Common.{ap, sym, ◌∙◌, lt_trans}
use Rattle.ll_bank.specs.Form.{Form}
use Rattle.ll_freeze.specs.Keyed.{clause_key}
use Rattle.ll_engine.proofs.matching.KeyedLemmas.{no_key}
use Rattle.ll_engine.proofs.keys.key_of.Goals as goal

pub parts-preserved-in-Lolli : goal.parts-preserved-in-Lolli
parts-preserved-in-Lolli c = let h = c.in-Lolli.ensures.shown in let i = c.parts.invariant in record {
  inside = lt_trans h.parts.1 i.inside;
  key = sym (ap (λ (t : Form). clause_key t) h.tree) ∙ i.key;
}

pub parts-preserved-in-Imp : goal.parts-preserved-in-Imp
parts-preserved-in-Imp c = let h = c.in-Imp.ensures.shown in let i = c.parts.invariant in record {
  inside = lt_trans h.parts.1 i.inside;
  key = sym (ap (λ (t : Form). clause_key t) h.tree) ∙ i.key;
}

pub parts-preserved : goal.parts-preserved
parts-preserved c = let h = c.in-Forall.ensures.shown in let i = c.parts.invariant in record {
  inside = lt_trans h.parts i.inside;
  key = sym (ap (λ (t : Form). clause_key t) h.tree) ∙ i.key;
}

pub returns-in-Atom : goal.returns-in-Atom
returns-in-Atom c = let h = c.in-Atom.ensures.shown in
    c.term_key.ensures ∙ (ap (λ (t : Form). clause_key t) (sym h.tree) ∙ c.parts.invariant.key)

pub returns-in_default : goal.returns-in_default
returns-in_default c =
    let d = c.in_default in
    sym (no_key c.args.bank.now c.form_at.result d.not-Atom d.not-Lolli d.not-Imp d.not-Forall)
    ∙ (ap (λ (t : Form). clause_key t) (sym c.form_at.ensures.shown.tree) ∙ c.parts.invariant.key)
