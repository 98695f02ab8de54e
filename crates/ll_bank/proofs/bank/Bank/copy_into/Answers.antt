use Rattle.std.proofs.Common.{[], sym, subst, arith}
use Rattle.std.specs.Ordering.{nat_cmp}
use Rattle.std.specs.BTreeMap.{get}
use Rattle.std.specs.List.{Contains}
use Rattle.std.proofs.lemmas.List.Elements.{All-cons, All-nil}
use Rattle.std.proofs.lemmas.Result.{IfOk-from_err}
use Rattle.ll_bank.specs.declared.At.{At}
use Rattle.ll_bank.specs.Nodes.{term_tree, HasTerm}
use Rattle.ll_bank.specs.Walk.{IsInOrder, ShowsAt}
use Rattle.ll_bank.proofs.Trees.{Extends-refl, Extends-trans}
use Rattle.ll_bank.proofs.ImageLemmas.{copying_begins, copying_more, argument_images, root_image, image_found, image_shows}
use Rattle.ll_bank.proofs.bank.Bank.copy_into.Goals as goal

pub terms_under-requires : goal.terms_under-requires
terms_under-requires c =
    All-cons (λ (a : At). HasTerm c.args.self.now a.0) c.args.at [] c.requires (All-nil (λ (a : At). HasTerm c.args.self.now a.0))

pub returns-in_err-places-clause-shows : goal.returns-in_err-places-clause-shows
returns-in_err-places-clause-shows c = IfOk-from_err c.from_residual.result _ c.from_residual.ensures.0

pub returns-in_err-places-clause-keeps : goal.returns-in_err-places-clause-keeps
returns-in_err-places-clause-keeps c = Extends-refl c.args.other.now

pub loop-place-init : goal.loop-place-init
loop-place-init c = copying_begins c.args.other.now (get nat_cmp c.new-images.result) (term_tree c.args.self.now)

pub copied-requires-clause-inside : goal.copied-requires-clause-inside
copied-requires-clause-inside c =
    (subst (IsInOrder c.args.self.now) (sym c.deref-place-items.ensures.value) c.in_ok-places.ensures.order).inside c.loop-place.place-index 0 (omega arith)

pub copied-requires-clause-images : goal.copied-requires-clause-images
copied-requires-clause-images c =
    argument_images c.args.self.now (ShowsAt c.loop-place.other) (get nat_cmp c.loop-place.images) (term_tree c.args.self.now) c.deref-place-items.result.now
    c.loop-place.place-index
    (subst (IsInOrder c.args.self.now) (sym c.deref-place-items.ensures.value) c.in_ok-places.ensures.order) (omega arith) c.loop-place.invariant.images

pub returns-in_err-copy-clause-shows : goal.returns-in_err-copy-clause-shows
returns-in_err-copy-clause-shows c = IfOk-from_err c.from_residual-in_err-copy.result _ c.from_residual-in_err-copy.ensures.0

pub returns-in_err-copy-clause-keeps : goal.returns-in_err-copy-clause-keeps
returns-in_err-copy-clause-keeps c = Extends-trans c.loop-place.invariant.keeps c.copied.ensures.keeps

pub returns-in_err-insert-clause-shows : goal.returns-in_err-insert-clause-shows
returns-in_err-insert-clause-shows c = IfOk-from_err c.from_residual-in_err-insert.result _ c.from_residual-in_err-insert.ensures.0

pub returns-in_err-insert-clause-keeps : goal.returns-in_err-insert-clause-keeps
returns-in_err-insert-clause-keeps c = Extends-trans c.loop-place.invariant.keeps c.copied.ensures.keeps

pub loop-place-preserved : goal.loop-place-preserved
loop-place-preserved c =
    copying_more c.args.other.now c.loop-place.other c.copied.new.other (get nat_cmp c.loop-place.images) (get nat_cmp c.insert.new.self)
    (term_tree c.args.self.now) c.deref-place-items.result.now
    c.loop-place.place-index (omega arith) c.loop-place.invariant c.in_ok-copy.ensures.keeps c.in_ok-copy.copy c.in_ok-copy.ensures.shows
    c.in_ok-insert.ensures.updates.0

pub image_of-requires : goal.image_of-requires
image_of-requires c =
    image_found (ShowsAt c.loop-place.other) (get nat_cmp c.loop-place.images) c.args.at.0 (term_tree c.args.self.now c.args.at.0)
    (root_image (get nat_cmp c.loop-place.images) (term_tree c.args.self.now) c.deref-place-items.result.now c.loop-place.place-index
    (ShowsAt c.loop-place.other) c.args.at.0 (omega arith)
    c.loop-place.invariant.images (subst (λ xs. Contains xs c.args.at.0) (sym c.deref-place-items.ensures.value)
    (c.in_ok-places.ensures.roots 0 c.args.at (omega arith))))

pub returns-clause-shows : goal.returns-clause-shows
returns-clause-shows c =
    image_shows (ShowsAt c.loop-place.other) (get nat_cmp c.loop-place.images) c.args.at.0 (term_tree c.args.self.now c.args.at.0) c.image_of.result
    (root_image (get nat_cmp c.loop-place.images) (term_tree c.args.self.now) c.deref-place-items.result.now c.loop-place.place-index
    (ShowsAt c.loop-place.other) c.args.at.0 (omega arith)
    c.loop-place.invariant.images (subst (λ xs. Contains xs c.args.at.0) (sym c.deref-place-items.ensures.value)
    (c.in_ok-places.ensures.roots 0 c.args.at (omega arith)))) c.image_of.ensures

pub returns-clause-keeps : goal.returns-clause-keeps
returns-clause-keeps c = c.loop-place.invariant.keeps
