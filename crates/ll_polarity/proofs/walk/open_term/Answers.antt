use Rattle.std.proofs.Common.{◌≡◌, sym, ap, ◌∙◌, slice_index_or, [], map, ◌++◌}
use Rattle.std.proofs.lemmas.Result.{IfOk-from_err}
use Rattle.ll_parser.specs.Nodes.{raws_in, raw_trees, identifier}
use Rattle.ll_parser.specs.Seen.{places}
use Rattle.ll_polarity.specs.declared.pending.Part.TheVariants.{Found}
use Rattle.ll_polarity.specs.Scope.{meaning}
use Rattle.ll_polarity.specs.Faults.{may_be_head, unless, applied_fault}
use Rattle.ll_polarity.proofs.putting.Opening.{opened-term, applied-none, applied-some}
use Rattle.ll_polarity.proofs.walk.open_term.Goals as goal
use Rattle.ll_polarity.proofs.walk.open_term.Goals.{then-is_empty, else-is_empty}

pub returns-in_ok-push_fault : goal.returns-in_ok-push_fault
returns-in_ok-push_fault c =
    let texts = c.args.source.now.names.now in let nodes = c.args.source.now.forms.now in let params = c.args.source.now.headings.now.params in
    let scope = c.args.binders.now.scope in let n = c.in-Head.name in
    let fault : unless c.if-is_empty.fits 9 n.at ≡ applied_fault scope (identifier texts n) (raws_in (raw_trees texts nodes) (places c.in-Head.args.now)) =
    elim c.if-is_empty.branch [
      | then-is_empty w ↦ ap (λ b. unless b 9 n.at) (w.fits-is ∙ w.if-is_empty.true)
          ∙ applied-none texts nodes params scope n c.in-Head.args.now (sym c.is_empty.ensures ∙ w.if-is_empty.true)
      | else-is_empty w ↦ ap (λ b. unless b 9 n.at)
          (w.fits-is ∙ (w.may_be_head-fits.ensures ∙ (ap may_be_head w.meaning.ensures
          ∙ ap (λ ts. may_be_head (meaning scope (slice_index_or ts n.name []))) c.requires.texts)))
          ∙ applied-some texts nodes params scope n c.in-Head.args.now (sym c.is_empty.ensures ∙ w.if-is_empty.false)
    ] in
    opened-term texts nodes params scope c.args.at n c.in-Head.args c.if-is_empty.fits c.args.parts.now c.push_fault.new.self c.requires.ready c.in-Head.ensures
    fault
    (c.in_ok-push_fault.ensures ∙ (ap (λ fs. map Found fs ++ c.push_terms.new.self) c.unless.ensures
    ∙ ap (λ ps. map Found (unless c.if-is_empty.fits 9 n.at) ++ ps) c.in_ok-push_terms.ensures))

pub returns-in_err-push_fault : goal.returns-in_err-push_fault
returns-in_err-push_fault c = IfOk-from_err c.from_residual-in_err-push_fault.result _ c.from_residual-in_err-push_fault.ensures.0

pub returns-in_err-push_terms : goal.returns-in_err-push_terms
returns-in_err-push_terms c = IfOk-from_err c.from_residual.result _ c.from_residual.ensures.0
