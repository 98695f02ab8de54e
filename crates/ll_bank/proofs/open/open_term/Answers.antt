use Rattle.std.proofs.Common.{◌≡◌, ap, sym, subst, ◌∙◌, refl, ◌++◌, ◌∷◌, map, true}
use Rattle.std.specs.BTreeMap.{get}
use Rattle.std.proofs.lemmas.Result.{IfOk-from_err}
use Rattle.ll_bank.specs.Term.{close, applies_heads}
use Rattle.ll_bank.specs.Nodes.{term_tree}
use Rattle.ll_bank.specs.Instantiated.{by_spot, opened, visit, IsTermGood, IsTermImage, IsIn, IsKnown, ShowsImage}
use Rattle.ll_bank.specs.Opened.{term_parts_at, AreImages, term_size_at}
use Rattle.ll_bank.proofs.Trees.{Extends-refl, Extends-trans, HasTerm-extends, term_tree-extends}
use Rattle.ll_bank.proofs.PartLemmas.{term_parts_same, term_size-some}
use Rattle.ll_bank.proofs.Opening.{known_here, known_still, images_put, opening_pops, opening_expands, opening_ready, opening_good, opening_begins, work_pops}
use Rattle.ll_bank.proofs.Opening.{work_expands}
use Rattle.ll_bank.proofs.OpenLemmas.{term_good_now, term_parts_first, term_image_now, term_images_now, term_image_first}
use Rattle.ll_bank.proofs.open.open_term.Goals as goal

pub returns-in_err-push-clause-keeps : goal.returns-in_err-push-clause-keeps
returns-in_err-push-clause-keeps c =
    Extends-refl c.args.bank.now

pub loop-task-init : goal.loop-task-init
loop-task-init c =
    record {
      keeps = Extends-refl c.args.bank.now;
      images = c.requires.images;
      opening =
          opening_begins (term_parts_at c.args.bank.now) (IsTermGood c.args.bank.now (term_tree c.args.bank.now c.args.value.0)) (c.args.term.0, c.args.level)
          (IsKnown (get by_spot c.args.images.now)) c.push.new.self.items c.new-tasks.result.items c.new-tasks.ensures.items c.in_ok-push.ensures.items
          (c.requires.inside, c.requires.heads);
    }

pub opened_term-requires-clause-heads : goal.opened_term-requires-clause-heads
opened_term-requires-clause-heads c =
    subst (λ t. applies_heads (close (opened t c.in-Some.task.level) (term_tree c.loop-task.bank c.in-Some.task.place)) ≡ true)
    (sym (term_tree-extends c.loop-task.invariant.keeps c.args.value.0 c.requires.value))
    (term_good_now c.args.bank.now c.loop-task.bank c.loop-task.invariant.keeps (term_tree c.args.bank.now c.args.value.0) (
      c.in-Some.task.place,
      c.in-Some.task.level,
    ) (opening_good (term_parts_at c.args.bank.now) (IsTermGood c.args.bank.now (term_tree c.args.bank.now c.args.value.0))
    (c.args.term.0, c.args.level) (IsKnown (get by_spot c.loop-task.images)) c.loop-task.tasks.items c.pop.new.self.items c.in-Some.task
    c.in-Some.ensures.items c.loop-task.invariant.opening)).1

pub opened_term-requires-clause-images : goal.opened_term-requires-clause-images
opened_term-requires-clause-images c =
    subst (λ t. AreImages (IsTermImage c.loop-task.bank t) (get by_spot c.loop-task.images))
    (sym (term_tree-extends c.loop-task.invariant.keeps c.args.value.0 c.requires.value)) c.loop-task.invariant.images

pub opened_term-requires-clause-parts : goal.opened_term-requires-clause-parts
opened_term-requires-clause-parts c =
    λ k i. opening_ready (term_parts_at c.args.bank.now) (IsTermGood c.args.bank.now (term_tree c.args.bank.now c.args.value.0)) (c.args.term.0, c.args.level)
    (IsKnown (get by_spot c.loop-task.images)) c.loop-task.tasks.items c.pop.new.self.items c.in-Some.task c.in-Some.ensures.items
    c.loop-task.invariant.opening c.if-task.true k (subst (IsIn k)
    (term_parts_same c.args.bank.now c.loop-task.bank c.loop-task.invariant.keeps (c.in-Some.task.place, c.in-Some.task.level)
    (opening_good (term_parts_at c.args.bank.now) (IsTermGood c.args.bank.now (term_tree c.args.bank.now c.args.value.0)) (c.args.term.0, c.args.level)
    (IsKnown (get by_spot c.loop-task.images)) c.loop-task.tasks.items c.pop.new.self.items c.in-Some.task c.in-Some.ensures.items
    c.loop-task.invariant.opening).0) i)

pub loop-task-preserved-in_ok-insert : goal.loop-task-preserved-in_ok-insert
loop-task-preserved-in_ok-insert c =
    record {
      keeps = Extends-trans c.loop-task.invariant.keeps c.in_ok-image.ensures.keeps;
      images =
          images_put (get by_spot c.loop-task.images) (get by_spot c.insert.new.self) (c.in-Some.task.place, c.in-Some.task.level) c.in_ok-image.image
          c.in_ok-insert.ensures.updates.0 (IsTermImage c.opened_term.new.bank (term_tree c.args.bank.now c.args.value.0))
          (term_images_now c.loop-task.bank c.opened_term.new.bank c.in_ok-image.ensures.keeps (term_tree c.args.bank.now c.args.value.0)
          (get by_spot c.loop-task.images) c.loop-task.invariant.images)
          (term_image_now c.loop-task.bank c.opened_term.new.bank c.in_ok-image.ensures.keeps (term_tree c.args.bank.now c.args.value.0) (
            c.in-Some.task.place,
            c.in-Some.task.level,
          ) c.in_ok-image.image (HasTerm-extends c.loop-task.invariant.keeps c.in-Some.task.place
          (opening_good (term_parts_at c.args.bank.now) (IsTermGood c.args.bank.now (term_tree c.args.bank.now c.args.value.0)) (c.args.term.0, c.args.level)
          (IsKnown (get by_spot c.loop-task.images)) c.loop-task.tasks.items c.pop.new.self.items c.in-Some.task c.in-Some.ensures.items
          c.loop-task.invariant.opening).0) (subst (λ t. ShowsImage c.loop-task.bank c.opened_term.new.bank t (c.in-Some.task.place, c.in-Some.task.level)
          c.in_ok-image.image) (term_tree-extends c.loop-task.invariant.keeps c.args.value.0 c.requires.value) c.in_ok-image.ensures.shows));
      opening =
          opening_pops (term_parts_at c.args.bank.now) (IsTermGood c.args.bank.now (term_tree c.args.bank.now c.args.value.0)) (c.args.term.0, c.args.level)
          (IsKnown (get by_spot c.loop-task.images)) (IsKnown (get by_spot c.insert.new.self))
          (known_still (get by_spot c.loop-task.images) (get by_spot c.insert.new.self) (c.in-Some.task.place, c.in-Some.task.level) c.in_ok-image.image
          c.in_ok-insert.ensures.updates.0) c.loop-task.tasks.items c.pop.new.self.items c.in-Some.task c.in-Some.ensures.items
          (known_here (get by_spot c.loop-task.images) (get by_spot c.insert.new.self) (c.in-Some.task.place, c.in-Some.task.level) c.in_ok-image.image
          c.in_ok-insert.ensures.updates.0) c.loop-task.invariant.opening;
    }

pub loop-task-smaller-in-Continue-branch-4 : goal.loop-task-smaller-in-Continue-branch-4
loop-task-smaller-in-Continue-branch-4 c =
    work_expands (term_size_at c.args.bank.now) c.loop-task.tasks.items c.pop.new.self.items c.push_term.new.tasks.items c.in-Some.task
    (record { place = c.in-Some.task.place; level = c.in-Some.task.level; ready = true })
    (term_parts_at c.args.bank.now (c.in-Some.task.place, c.in-Some.task.level)) c.in-Some.ensures.items
    (c.in_ok-push_term.ensures.pushed ∙ ap (λ ps. c.pop.new.self.items
    ++ (record { place = c.in-Some.task.place; level = c.in-Some.task.level; ready = true }) ∷ map visit ps)
    (term_parts_same c.args.bank.now c.loop-task.bank c.loop-task.invariant.keeps (c.in-Some.task.place, c.in-Some.task.level)
    (opening_good (term_parts_at c.args.bank.now) (IsTermGood c.args.bank.now (term_tree c.args.bank.now c.args.value.0)) (c.args.term.0, c.args.level)
    (IsKnown (get by_spot c.loop-task.images)) c.loop-task.tasks.items c.pop.new.self.items c.in-Some.task c.in-Some.ensures.items
    c.loop-task.invariant.opening).0)) c.if-task.false refl
    (term_parts_first c.args.bank.now c.loop-task.bank c.loop-task.invariant.keeps (c.in-Some.task.place, c.in-Some.task.level)
    (opening_good (term_parts_at c.args.bank.now) (IsTermGood c.args.bank.now (term_tree c.args.bank.now c.args.value.0)) (c.args.term.0, c.args.level)
    (IsKnown (get by_spot c.loop-task.images)) c.loop-task.tasks.items c.pop.new.self.items c.in-Some.task c.in-Some.ensures.items
    c.loop-task.invariant.opening).0 c.in_ok-push_term.ensures.parts).smaller

pub loop-task-preserved-in-Continue-branch-4 : goal.loop-task-preserved-in-Continue-branch-4
loop-task-preserved-in-Continue-branch-4 c =
    record {
      keeps = c.loop-task.invariant.keeps;
      images = c.loop-task.invariant.images;
      opening =
          opening_expands (term_parts_at c.args.bank.now) (IsTermGood c.args.bank.now (term_tree c.args.bank.now c.args.value.0)) (c.args.term.0, c.args.level)
          (IsKnown (get by_spot c.loop-task.images)) c.loop-task.tasks.items c.pop.new.self.items c.push_term.new.tasks.items c.in-Some.task
          (record { place = c.in-Some.task.place; level = c.in-Some.task.level; ready = true }) c.in-Some.ensures.items
          (c.in_ok-push_term.ensures.pushed ∙ ap (λ ps. c.pop.new.self.items
          ++ (record { place = c.in-Some.task.place; level = c.in-Some.task.level; ready = true }) ∷ map visit ps)
          (term_parts_same c.args.bank.now c.loop-task.bank c.loop-task.invariant.keeps (c.in-Some.task.place, c.in-Some.task.level)
          (opening_good (term_parts_at c.args.bank.now) (IsTermGood c.args.bank.now (term_tree c.args.bank.now c.args.value.0)) (c.args.term.0, c.args.level)
          (IsKnown (get by_spot c.loop-task.images)) c.loop-task.tasks.items c.pop.new.self.items c.in-Some.task c.in-Some.ensures.items
          c.loop-task.invariant.opening).0)) refl ((term_parts_first c.args.bank.now c.loop-task.bank c.loop-task.invariant.keeps (
            c.in-Some.task.place,
            c.in-Some.task.level,
          ) (opening_good (term_parts_at c.args.bank.now) (IsTermGood c.args.bank.now (term_tree c.args.bank.now c.args.value.0))
          (c.args.term.0, c.args.level) (IsKnown (get by_spot c.loop-task.images)) c.loop-task.tasks.items c.pop.new.self.items c.in-Some.task
          c.in-Some.ensures.items c.loop-task.invariant.opening).0 c.in_ok-push_term.ensures.parts).still_good (term_tree c.args.bank.now c.args.value.0))
          c.loop-task.invariant.opening;
    }

pub loop-task-smaller : goal.loop-task-smaller
loop-task-smaller c =
    work_pops (term_size_at c.args.bank.now) c.loop-task.tasks.items c.pop.new.self.items c.in-Some.task c.in-Some.ensures.items
    (term_size-some (term_tree c.args.bank.now c.in-Some.task.place))

pub loop-task-preserved : goal.loop-task-preserved
loop-task-preserved c =
    record {
      keeps = c.loop-task.invariant.keeps;
      images = c.loop-task.invariant.images;
      opening =
          opening_pops (term_parts_at c.args.bank.now) (IsTermGood c.args.bank.now (term_tree c.args.bank.now c.args.value.0)) (c.args.term.0, c.args.level)
          (IsKnown (get by_spot c.loop-task.images)) (IsKnown (get by_spot c.loop-task.images)) (λ k h. h) c.loop-task.tasks.items c.pop.new.self.items
          c.in-Some.task c.in-Some.ensures.items (sym c.contains_key.ensures ∙ c.if-not-contains_key.false) c.loop-task.invariant.opening;
    }

pub returns-clause-shows : goal.returns-clause-shows
returns-clause-shows c =
    term_image_first c.args.bank.now c.loop-task.bank c.loop-task.invariant.keeps (term_tree c.args.bank.now c.args.value.0) (c.args.term.0, c.args.level)
    c.term_image.result c.requires.inside (c.loop-task.invariant.images (c.args.term.0, c.args.level) c.term_image.result c.term_image.ensures)

pub returns-in_err-push-clause-shows : goal.returns-in_err-push-clause-shows
returns-in_err-push-clause-shows c =
    IfOk-from_err c.from_residual.result _ c.from_residual.ensures.0

pub returns-in_err-push-clause-images : goal.returns-in_err-push-clause-images
returns-in_err-push-clause-images c =
    IfOk-from_err c.from_residual.result _ c.from_residual.ensures.0

pub returns-in_err-image-clause-shows : goal.returns-in_err-image-clause-shows
returns-in_err-image-clause-shows c =
    IfOk-from_err c.from_residual-in_err-image.result _ c.from_residual-in_err-image.ensures.0

pub returns-in_err-image-clause-images : goal.returns-in_err-image-clause-images
returns-in_err-image-clause-images c =
    IfOk-from_err c.from_residual-in_err-image.result _ c.from_residual-in_err-image.ensures.0

pub returns-in_err-insert-clause-shows : goal.returns-in_err-insert-clause-shows
returns-in_err-insert-clause-shows c =
    IfOk-from_err c.from_residual-in_err-insert.result _ c.from_residual-in_err-insert.ensures.0

pub returns-in_err-insert-clause-images : goal.returns-in_err-insert-clause-images
returns-in_err-insert-clause-images c =
    IfOk-from_err c.from_residual-in_err-insert.result _ c.from_residual-in_err-insert.ensures.0

pub returns-in_err-push_term-clause-shows : goal.returns-in_err-push_term-clause-shows
returns-in_err-push_term-clause-shows c =
    IfOk-from_err c.from_residual-in_err-push_term.result _ c.from_residual-in_err-push_term.ensures.0

pub returns-in_err-push_term-clause-images : goal.returns-in_err-push_term-clause-images
returns-in_err-push_term-clause-images c =
    IfOk-from_err c.from_residual-in_err-push_term.result _ c.from_residual-in_err-push_term.ensures.0

pub returns-in_err-image-clause-keeps : goal.returns-in_err-image-clause-keeps
returns-in_err-image-clause-keeps c =
    Extends-trans c.loop-task.invariant.keeps c.opened_term.ensures.keeps

pub returns-in_err-insert-clause-keeps : goal.returns-in_err-insert-clause-keeps
returns-in_err-insert-clause-keeps c =
    Extends-trans c.loop-task.invariant.keeps c.opened_term.ensures.keeps

pub returns-in_err-push_term-clause-keeps : goal.returns-in_err-push_term-clause-keeps
returns-in_err-push_term-clause-keeps c =
    c.loop-task.invariant.keeps

pub opened_term-requires-clause-inside : goal.opened_term-requires-clause-inside
opened_term-requires-clause-inside c =
    HasTerm-extends c.loop-task.invariant.keeps c.in-Some.task.place
    (opening_good (term_parts_at c.args.bank.now) (IsTermGood c.args.bank.now (term_tree c.args.bank.now c.args.value.0)) (c.args.term.0, c.args.level)
    (IsKnown (get by_spot c.loop-task.images)) c.loop-task.tasks.items c.pop.new.self.items c.in-Some.task c.in-Some.ensures.items
    c.loop-task.invariant.opening).0

pub opened_term-requires-clause-value : goal.opened_term-requires-clause-value
opened_term-requires-clause-value c =
    HasTerm-extends c.loop-task.invariant.keeps c.args.value.0 c.requires.value

pub push_term-requires : goal.push_term-requires
push_term-requires c =
    HasTerm-extends c.loop-task.invariant.keeps c.in-Some.task.place
    (opening_good (term_parts_at c.args.bank.now) (IsTermGood c.args.bank.now (term_tree c.args.bank.now c.args.value.0)) (c.args.term.0, c.args.level)
    (IsKnown (get by_spot c.loop-task.images)) c.loop-task.tasks.items c.pop.new.self.items c.in-Some.task c.in-Some.ensures.items
    c.loop-task.invariant.opening).0

pub loop-task-smaller-in_ok-insert : goal.loop-task-smaller-in_ok-insert
loop-task-smaller-in_ok-insert c =
    work_pops (term_size_at c.args.bank.now) c.loop-task.tasks.items c.pop.new.self.items c.in-Some.task c.in-Some.ensures.items
    (term_size-some (term_tree c.args.bank.now c.in-Some.task.place))

pub returns-clause-images : goal.returns-clause-images
returns-clause-images c =
    c.loop-task.invariant.images

pub returns-clause-keeps : goal.returns-clause-keeps
returns-clause-keeps c =
    c.loop-task.invariant.keeps
