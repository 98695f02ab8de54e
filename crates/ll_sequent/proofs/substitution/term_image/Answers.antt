use Rattle.std.proofs.Common.{List, sym, subst, arith, rules}
use Rattle.std.proofs.lemmas.Result.{IfOk-from_err}
use Rattle.ll_bank.specs.declared.At.{At}
use Rattle.ll_bank.specs.Nodes.{term_trees}
use Rattle.ll_bank.proofs.CallerLemmas.{Extends-refl, Extends-trans, HasTerm-extends, AllInTerms-extends}
use Rattle.ll_sequent.specs.Substituted.{AreTermImages}
use Rattle.ll_sequent.proofs.Substitutions.{terms_now, next_more, term_image_at}
use Rattle.ll_sequent.proofs.substitution.term_image.Goals as goal

pub growth-init : goal.growth-init
growth-init c = record { keeps = Extends-refl c.args.bank.now; terms = c.requires.terms }

pub next_image-requires-clause-term : goal.next_image-requires-clause-term
next_image-requires-clause-term c = let h = HasTerm-extends c.growth.invariant.keeps c.args.term.0 c.requires.term in omega arith

pub next_image-requires-clause-terms : goal.next_image-requires-clause-terms
next_image-requires-clause-terms c =
    let P : List At → Type 0 = AreTermImages c.growth.bank (term_trees c.growth.bank c.args.values.now) in
    subst P (sym c.deref.ensures.value) (terms_now c.args.bank.now c.growth.bank c.growth.bank c.growth.invariant.keeps (Extends-refl c.growth.bank)
    c.args.values.now c.requires.values c.growth.terms.items c.growth.invariant.terms)

pub returns-in_err-image-clause-keeps : goal.returns-in_err-image-clause-keeps
returns-in_err-image-clause-keeps c = Extends-trans c.growth.invariant.keeps c.next_image.ensures.keeps

pub growth-preserved : goal.growth-preserved
growth-preserved c =
    let h = HasTerm-extends c.growth.invariant.keeps c.args.term.0 c.requires.term in
    record {
      keeps = Extends-trans c.growth.invariant.keeps c.next_image.ensures.keeps;
      terms = next_more c.args.bank.now c.growth.bank c.next_image.new.bank c.growth.invariant.keeps c.next_image.ensures.keeps c.args.values.now
          c.requires.values c.growth.terms.items c.push.new.self.items c.len-in-growth.result
          c.in_ok-image.image (let l = c.len-in-growth.ensures in
          search rules) c.growth.invariant.terms (omega arith) c.in_ok-image.ensures.shows c.in_ok-push.ensures.items;
    }

pub returns-clause-shows : goal.returns-clause-shows
returns-clause-shows c =
    term_image_at c.args.bank.now c.growth.bank c.growth.invariant.keeps (term_trees c.args.bank.now c.args.values.now) c.growth.terms.items c.args.term.0
    c.index.result.now c.growth.invariant.terms c.requires.term (omega arith) c.index.ensures

pub next_image-requires-clause-values : goal.next_image-requires-clause-values
next_image-requires-clause-values c = AllInTerms-extends c.growth.invariant.keeps c.args.values.now c.requires.values

pub returns-in_err-push-clause-keeps : goal.returns-in_err-push-clause-keeps
returns-in_err-push-clause-keeps c = Extends-trans c.growth.invariant.keeps c.next_image.ensures.keeps

pub returns-clause-terms : goal.returns-clause-terms
returns-clause-terms c = c.growth.invariant.terms

pub returns-clause-keeps : goal.returns-clause-keeps
returns-clause-keeps c = c.growth.invariant.keeps

pub returns-in_err-image-clause-shows : goal.returns-in_err-image-clause-shows
returns-in_err-image-clause-shows c = IfOk-from_err c.from_residual.result _ c.from_residual.ensures.0

pub returns-in_err-image-clause-terms : goal.returns-in_err-image-clause-terms
returns-in_err-image-clause-terms c = IfOk-from_err c.from_residual.result _ c.from_residual.ensures.0

pub returns-in_err-push-clause-shows : goal.returns-in_err-push-clause-shows
returns-in_err-push-clause-shows c = IfOk-from_err c.from_residual-in_err-push.result _ c.from_residual-in_err-push.ensures.0

pub returns-in_err-push-clause-terms : goal.returns-in_err-push-clause-terms
returns-in_err-push-clause-terms c = IfOk-from_err c.from_residual-in_err-push.result _ c.from_residual-in_err-push.ensures.0
