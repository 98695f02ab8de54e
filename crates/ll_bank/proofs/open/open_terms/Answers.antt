use Rattle.std.proofs.Common.{◌≡◌, [], ap, sym, subst, ◌∙◌, refl, arith, true, map, get_or}
use Rattle.std.specs.BTreeMap.{get}
use Rattle.ll_bank.specs.Term.{close, applies_heads}
use Rattle.std.proofs.lemmas.List.{take_all}
use Rattle.std.proofs.lemmas.Result.{IfOk-from_err}
use Rattle.ll_bank.specs.Nodes.{Nodes, term_tree, term_trees, ShowsTerm, AllInTerms}
use Rattle.ll_bank.specs.Instantiated.{by_spot, opened, IsTermImage, ShowsImage}
use Rattle.ll_bank.specs.Opened.{AreImages}
use Rattle.ll_bank.proofs.Trees.{Extends-refl, Extends-trans, HasTerm-extends, term_tree-extends}
use Rattle.ll_bank.proofs.OpenLemmas.{term_good_now, terms_more}
use Rattle.ll_bank.proofs.open.open_terms.Goals as goal

no_terms : (bank : Nodes) → AllInTerms bank []
no_terms bank = λ j d l. absurd (omega arith)

pub loop-term-init : goal.loop-term-init
loop-term-init c =
    record {
      keeps = Extends-refl c.args.bank.now;
      places = rw c.new-made.ensures.items (no_terms c.args.bank.now);
      shows =
          rw c.new-made.ensures.items refl;
      images = c.requires.images;
    }

pub open_term-requires-clause-inside : goal.open_term-requires-clause-inside
open_term-requires-clause-inside c =
    HasTerm-extends c.loop-term.invariant.keeps (get_or c.args.terms.now c.loop-term.term-index (record { 0 = 0 })).0
    (c.requires.inside c.loop-term.term-index (record { 0 = 0 }) c.loop-term-test.true)

pub open_term-requires-clause-value : goal.open_term-requires-clause-value
open_term-requires-clause-value c = HasTerm-extends c.loop-term.invariant.keeps c.args.value.0 c.requires.value

pub open_term-requires-clause-heads : goal.open_term-requires-clause-heads
open_term-requires-clause-heads c =
    subst (λ t. applies_heads (close (opened t c.args.level) (term_tree c.loop-term.bank (get_or c.args.terms.now c.loop-term.term-index (record { 0 = 0 })).0))
    ≡ true) (sym (term_tree-extends c.loop-term.invariant.keeps c.args.value.0 c.requires.value))
    (term_good_now c.args.bank.now c.loop-term.bank c.loop-term.invariant.keeps (term_tree c.args.bank.now c.args.value.0)
    ((get_or c.args.terms.now c.loop-term.term-index (record { 0 = 0 })).0, c.args.level) (
      (c.requires.inside c.loop-term.term-index (record { 0 = 0 }) c.loop-term-test.true),
      c.requires.heads c.loop-term.term-index (record { 0 = 0 }) c.loop-term-test.true,
    )).1

pub open_term-requires-clause-images : goal.open_term-requires-clause-images
open_term-requires-clause-images c =
    subst (λ t. AreImages (IsTermImage c.loop-term.bank t) (get by_spot c.loop-term.images))
    (sym (term_tree-extends c.loop-term.invariant.keeps c.args.value.0 c.requires.value)) c.loop-term.invariant.images

pub returns-in_err-image-clause-keeps : goal.returns-in_err-image-clause-keeps
returns-in_err-image-clause-keeps c =
    Extends-trans c.loop-term.invariant.keeps c.open_term.ensures.keeps

pub loop-term-preserved : goal.loop-term-preserved
loop-term-preserved c =
    let more = terms_more c.args.bank.now c.loop-term.bank c.open_term.new.bank c.open_term.ensures.keeps (term_tree c.args.bank.now c.args.value.0)
    c.args.level c.args.terms.now c.loop-term.made.items c.push.new.self.items c.loop-term.term-index (record { 0 = 0 }) c.in_ok-image.image
    c.loop-term-test.true
    c.loop-term.invariant.places c.loop-term.invariant.shows
    (subst (λ u. ShowsTerm c.open_term.new.bank c.in_ok-image.image.0 (close (opened (term_tree c.args.bank.now c.args.value.0) c.args.level) u))
    (term_tree-extends c.loop-term.invariant.keeps (get_or c.args.terms.now c.loop-term.term-index (record { 0 = 0 })).0
    (c.requires.inside c.loop-term.term-index (record { 0 = 0 }) c.loop-term-test.true))
    (subst (λ t. ShowsImage c.loop-term.bank c.open_term.new.bank t ((get_or c.args.terms.now c.loop-term.term-index (record { 0 = 0 })).0, c.args.level)
    c.in_ok-image.image) (term_tree-extends c.loop-term.invariant.keeps c.args.value.0 c.requires.value) c.in_ok-image.ensures.shows))
    c.in_ok-push.ensures.items in record {
      keeps = Extends-trans c.loop-term.invariant.keeps c.open_term.ensures.keeps;
      places = more.0;
      shows = more.1;
      images = subst (λ t. AreImages (IsTermImage c.open_term.new.bank t) (get by_spot c.open_term.new.images))
          (term_tree-extends c.loop-term.invariant.keeps c.args.value.0 c.requires.value) c.in_ok-image.ensures.images;
    }

pub returns-in_err-image-clause-places : goal.returns-in_err-image-clause-places
returns-in_err-image-clause-places c = IfOk-from_err c.from_residual.result _ c.from_residual.ensures.0

pub returns-in_err-image-clause-shows : goal.returns-in_err-image-clause-shows
returns-in_err-image-clause-shows c = IfOk-from_err c.from_residual.result _ c.from_residual.ensures.0

pub returns-in_err-image-clause-images : goal.returns-in_err-image-clause-images
returns-in_err-image-clause-images c = IfOk-from_err c.from_residual.result _ c.from_residual.ensures.0

pub returns-in_err-push-clause-places : goal.returns-in_err-push-clause-places
returns-in_err-push-clause-places c = IfOk-from_err c.from_residual-in_err-push.result _ c.from_residual-in_err-push.ensures.0

pub returns-in_err-push-clause-shows : goal.returns-in_err-push-clause-shows
returns-in_err-push-clause-shows c = IfOk-from_err c.from_residual-in_err-push.result _ c.from_residual-in_err-push.ensures.0

pub returns-in_err-push-clause-images : goal.returns-in_err-push-clause-images
returns-in_err-push-clause-images c = IfOk-from_err c.from_residual-in_err-push.result _ c.from_residual-in_err-push.ensures.0

pub returns-in_err-push-clause-keeps : goal.returns-in_err-push-clause-keeps
returns-in_err-push-clause-keeps c = Extends-trans c.loop-term.invariant.keeps c.open_term.ensures.keeps

pub returns-clause-places : goal.returns-clause-places
returns-clause-places c = c.loop-term.invariant.places

pub returns-clause-shows : goal.returns-clause-shows
returns-clause-shows c =
    c.loop-term.invariant.shows
    ∙ ap (λ xs. map (close (opened (term_tree c.args.bank.now c.args.value.0) c.args.level)) (term_trees c.args.bank.now xs))
    (take_all c.loop-term.term-index c.args.terms.now c.loop-term-test.false)

pub returns-clause-images : goal.returns-clause-images
returns-clause-images c = c.loop-term.invariant.images

pub returns-clause-keeps : goal.returns-clause-keeps
returns-clause-keeps c = c.loop-term.invariant.keeps
