use Rattle.std.proofs.Common.{refl, arith, ap, ◌∙◌, map, take_all, ◌<◌, ℕ}
use Rattle.std.proofs.lemmas.Result.{IfOk-from_err}
use Rattle.ll_bank.specs.Term.{sub}
use Rattle.ll_bank.specs.Nodes.{term_trees}
use Rattle.ll_bank.proofs.CallerLemmas.{Extends-refl, Extends-trans, HasTerm-extends, AllInTerms-extends}
use Rattle.ll_sequent.specs.Starting.{values}
use Rattle.ll_sequent.proofs.PlaceLemmas.{terms_grow}
use Rattle.ll_sequent.proofs.Substitutions.{terms_now, terms_then, next_images}
use Rattle.ll_sequent.proofs.substitution.term_images.Goals as goal

not_below_none : (k : ℕ) → k < 0 → ⊥
not_below_none k h = omega arith

pub loop-place-init : goal.loop-place-init
loop-place-init c = record {
  keeps = Extends-refl c.args.bank.now;
  terms = c.requires.terms;
  inside = rw c.new-images.ensures.items (λ k d l. absurd (not_below_none k l));
  shows = rw c.new-images.ensures.items refl;
}

pub term_image-requires-clause-terms : goal.term_image-requires-clause-terms
term_image-requires-clause-terms c =
    terms_now c.args.bank.now c.loop-place.bank c.loop-place.bank c.loop-place.invariant.keeps (Extends-refl c.loop-place.bank) c.args.values.now
    c.requires.values c.loop-place.terms.items c.loop-place.invariant.terms

pub term_image-requires-clause-term : goal.term_image-requires-clause-term
term_image-requires-clause-term c =
    HasTerm-extends c.loop-place.invariant.keeps _ (c.requires.places c.loop-place.place-index (record { 0 = 0 }) c.loop-place-test.true)

pub term_image-requires-clause-values : goal.term_image-requires-clause-values
term_image-requires-clause-values c = AllInTerms-extends c.loop-place.invariant.keeps c.args.values.now c.requires.values

pub returns-in_err-image-clause-keeps : goal.returns-in_err-image-clause-keeps
returns-in_err-image-clause-keeps c = Extends-trans c.loop-place.invariant.keeps c.term_image.ensures.keeps

pub loop-place-preserved : goal.loop-place-preserved
loop-place-preserved c = record {
  keeps = Extends-trans c.loop-place.invariant.keeps c.term_image.ensures.keeps;
  terms = terms_then c.args.bank.now c.loop-place.bank c.term_image.new.bank c.loop-place.invariant.keeps c.term_image.ensures.keeps c.args.values.now
      c.requires.values c.term_image.new.terms.items c.in_ok-image.ensures.terms;
  inside = terms_grow c.term_image.ensures.keeps c.loop-place.images.items c.push.new.self.items c.in_ok-image.image c.in_ok-push.ensures.items
      c.loop-place.invariant.inside c.in_ok-image.ensures.shows.inside;
  shows = next_images c.args.bank.now c.loop-place.bank c.term_image.new.bank c.loop-place.invariant.keeps c.term_image.ensures.keeps c.args.values.now
      c.requires.values c.args.places.now c.loop-place.images.items
      c.push.new.self.items c.loop-place.place-index (record { 0 = 0 }) c.in_ok-image.image c.loop-place-test.true c.requires.places c.in_ok-push.ensures.items
      c.loop-place.invariant.inside c.in_ok-image.ensures.shows c.loop-place.invariant.shows;
}

pub returns-in_err-push-clause-keeps : goal.returns-in_err-push-clause-keeps
returns-in_err-push-clause-keeps c = Extends-trans c.loop-place.invariant.keeps c.term_image.ensures.keeps

pub returns-clause-inside : goal.returns-clause-inside
returns-clause-inside c = c.loop-place.invariant.inside

pub returns-clause-shows : goal.returns-clause-shows
returns-clause-shows c =
    c.loop-place.invariant.shows
    ∙ ap (λ ps. map (sub (values (term_trees c.args.bank.now c.args.values.now))) (term_trees c.args.bank.now ps))
    (take_all c.loop-place.place-index c.args.places.now c.loop-place-test.false)

pub returns-clause-terms : goal.returns-clause-terms
returns-clause-terms c = c.loop-place.invariant.terms

pub returns-clause-keeps : goal.returns-clause-keeps
returns-clause-keeps c = c.loop-place.invariant.keeps

pub returns-in_err-image-clause-inside : goal.returns-in_err-image-clause-inside
returns-in_err-image-clause-inside c = IfOk-from_err c.from_residual.result _ c.from_residual.ensures.0

pub returns-in_err-image-clause-shows : goal.returns-in_err-image-clause-shows
returns-in_err-image-clause-shows c = IfOk-from_err c.from_residual.result _ c.from_residual.ensures.0

pub returns-in_err-image-clause-terms : goal.returns-in_err-image-clause-terms
returns-in_err-image-clause-terms c = IfOk-from_err c.from_residual.result _ c.from_residual.ensures.0

pub returns-in_err-push-clause-inside : goal.returns-in_err-push-clause-inside
returns-in_err-push-clause-inside c = IfOk-from_err c.from_residual-in_err-push.result _ c.from_residual-in_err-push.ensures.0

pub returns-in_err-push-clause-shows : goal.returns-in_err-push-clause-shows
returns-in_err-push-clause-shows c = IfOk-from_err c.from_residual-in_err-push.result _ c.from_residual-in_err-push.ensures.0

pub returns-in_err-push-clause-terms : goal.returns-in_err-push-clause-terms
returns-in_err-push-clause-terms c = IfOk-from_err c.from_residual-in_err-push.result _ c.from_residual-in_err-push.ensures.0
