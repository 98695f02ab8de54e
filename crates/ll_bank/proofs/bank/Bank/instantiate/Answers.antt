use Rattle.std.proofs.Common.{◌≡◌, ap, sym, subst, ◌∙◌, refl, ◌++◌, ◌∷◌, [], map, arith, true}
use Rattle.std.specs.BTreeMap.{get}
use Rattle.std.proofs.lemmas.Result.{IfOk-from_err}
use Rattle.ll_bank.specs.Form.{close_form, form_applies_heads}
use Rattle.ll_bank.specs.Nodes.{term_tree, form_tree}
use Rattle.ll_bank.specs.Instantiated.{by_spot, opened, visit, IsFormGood, IsTermImage, IsFormImage, IsIn, IsKnown, ShowsFormImage}
use Rattle.ll_bank.specs.Opened.{form_parts_at, AreImages, form_size_at}
use Rattle.ll_bank.proofs.Trees.{Extends-refl, Extends-trans, HasTerm-extends, HasForm-extends, term_tree-extends}
use Rattle.ll_bank.proofs.PartLemmas.{form_parts_same, form_size-some}
use Rattle.ll_bank.proofs.Opening.{known_here, known_still, images_put, opening_pops, opening_expands, opening_ready, opening_good, opening_begins, no_images}
use Rattle.ll_bank.proofs.Opening.{work_pops, work_expands}
use Rattle.ll_bank.proofs.OpenLemmas.{form_good_now, form_parts_first, form_image_now, form_images_now, form_image_first}
use Rattle.ll_bank.proofs.bank.Bank.instantiate.Goals as goal

pub returns-in_err-push-clause-keeps : goal.returns-in_err-push-clause-keeps
returns-in_err-push-clause-keeps c =
    Extends-refl c.args.self.now

pub loop-task-init : goal.loop-task-init
loop-task-init c =
    record {
      keeps = Extends-refl c.args.self.now;
      terms = no_images (IsTermImage c.args.self.now (term_tree c.args.self.now c.args.value.0)) c.new-terms.result
          c.new-terms.ensures.empty;
      forms = no_images (IsFormImage c.args.self.now (term_tree c.args.self.now c.args.value.0)) c.new-forms.result
          c.new-forms.ensures.empty;
      opening = opening_begins (form_parts_at c.args.self.now)
          (IsFormGood c.args.self.now ((term_tree c.args.self.now c.args.value.0), c.args.form.0)) (c.args.form.0, 0) (IsKnown (get by_spot c.new-forms.result))
          c.push.new.self.items c.new-tasks.result.items c.new-tasks.ensures.items
          (c.in_ok-push.ensures.items ∙ ap (λ x. c.new-tasks.result.items ++ x ∷ []) c.root_task.ensures.is)
          (record { inside = c.requires.body; heads = c.requires.heads; level = omega arith });
    }

pub opened_form-requires-clause-inside : goal.opened_form-requires-clause-inside
opened_form-requires-clause-inside c =
    (form_good_now c.args.self.now c.loop-task.self c.loop-task.invariant.keeps ((term_tree c.args.self.now c.args.value.0), c.args.form.0)
    (c.in-Some.task.place, c.in-Some.task.level) (opening_good (form_parts_at c.args.self.now)
    (IsFormGood c.args.self.now ((term_tree c.args.self.now c.args.value.0), c.args.form.0)) (c.args.form.0, 0) (IsKnown (get by_spot c.loop-task.forms))
    c.loop-task.tasks.items c.pop.new.self.items c.in-Some.task c.in-Some.ensures.items c.loop-task.invariant.opening)).inside

pub opened_form-requires-clause-value : goal.opened_form-requires-clause-value
opened_form-requires-clause-value c =
    HasTerm-extends c.loop-task.invariant.keeps c.args.value.0 c.requires.value

pub opened_form-requires-clause-heads : goal.opened_form-requires-clause-heads
opened_form-requires-clause-heads c =
    subst (λ t. form_applies_heads (close_form (opened t c.in-Some.task.level) (form_tree c.loop-task.self c.in-Some.task.place)) ≡ true)
    (sym (term_tree-extends c.loop-task.invariant.keeps c.args.value.0 c.requires.value))
    (form_good_now c.args.self.now c.loop-task.self c.loop-task.invariant.keeps ((term_tree c.args.self.now c.args.value.0), c.args.form.0)
    (c.in-Some.task.place, c.in-Some.task.level) (opening_good (form_parts_at c.args.self.now)
    (IsFormGood c.args.self.now ((term_tree c.args.self.now c.args.value.0), c.args.form.0)) (c.args.form.0, 0) (IsKnown (get by_spot c.loop-task.forms))
    c.loop-task.tasks.items c.pop.new.self.items c.in-Some.task c.in-Some.ensures.items c.loop-task.invariant.opening)).heads

pub opened_form-requires-clause-terms : goal.opened_form-requires-clause-terms
opened_form-requires-clause-terms c =
    subst (λ t. AreImages (IsTermImage c.loop-task.self t) (get by_spot c.loop-task.terms))
    (sym (term_tree-extends c.loop-task.invariant.keeps c.args.value.0 c.requires.value)) c.loop-task.invariant.terms

pub opened_form-requires-clause-forms : goal.opened_form-requires-clause-forms
opened_form-requires-clause-forms c =
    subst (λ t. AreImages (IsFormImage c.loop-task.self t) (get by_spot c.loop-task.forms))
    (sym (term_tree-extends c.loop-task.invariant.keeps c.args.value.0 c.requires.value)) c.loop-task.invariant.forms

pub push_form-requires-clause-inside : goal.push_form-requires-clause-inside
push_form-requires-clause-inside c =
    (form_good_now c.args.self.now c.loop-task.self c.loop-task.invariant.keeps ((term_tree c.args.self.now c.args.value.0), c.args.form.0)
    (c.in-Some.task.place, c.in-Some.task.level) (opening_good (form_parts_at c.args.self.now)
    (IsFormGood c.args.self.now ((term_tree c.args.self.now c.args.value.0), c.args.form.0)) (c.args.form.0, 0) (IsKnown (get by_spot c.loop-task.forms))
    c.loop-task.tasks.items c.pop.new.self.items c.in-Some.task c.in-Some.ensures.items c.loop-task.invariant.opening)).inside

pub opened_form-requires-clause-level : goal.opened_form-requires-clause-level
opened_form-requires-clause-level c =
    let l = (opening_good (form_parts_at c.args.self.now) (IsFormGood c.args.self.now ((term_tree c.args.self.now c.args.value.0), c.args.form.0))
    (c.args.form.0, 0) (IsKnown (get by_spot c.loop-task.forms)) c.loop-task.tasks.items c.pop.new.self.items c.in-Some.task c.in-Some.ensures.items
    c.loop-task.invariant.opening).level in let r = c.root_task.ensures.fits in omega arith

pub push_form-requires-clause-level : goal.push_form-requires-clause-level
push_form-requires-clause-level c =
    let l = (opening_good (form_parts_at c.args.self.now) (IsFormGood c.args.self.now ((term_tree c.args.self.now c.args.value.0), c.args.form.0))
    (c.args.form.0, 0) (IsKnown (get by_spot c.loop-task.forms)) c.loop-task.tasks.items c.pop.new.self.items c.in-Some.task c.in-Some.ensures.items
    c.loop-task.invariant.opening).level in let r = c.root_task.ensures.fits in omega arith

pub opened_form-requires-clause-parts : goal.opened_form-requires-clause-parts
opened_form-requires-clause-parts c =
    λ k i. opening_ready (form_parts_at c.args.self.now) (IsFormGood c.args.self.now ((term_tree c.args.self.now c.args.value.0), c.args.form.0))
    (c.args.form.0, 0) (IsKnown (get by_spot c.loop-task.forms)) c.loop-task.tasks.items c.pop.new.self.items c.in-Some.task c.in-Some.ensures.items
    c.loop-task.invariant.opening c.if-task.true k (subst (IsIn k)
    (form_parts_same c.args.self.now c.loop-task.self c.loop-task.invariant.keeps (c.in-Some.task.place, c.in-Some.task.level)
    (opening_good (form_parts_at c.args.self.now) (IsFormGood c.args.self.now ((term_tree c.args.self.now c.args.value.0), c.args.form.0)) (
      c.args.form.0,
      0,
    ) (IsKnown (get by_spot c.loop-task.forms)) c.loop-task.tasks.items c.pop.new.self.items c.in-Some.task c.in-Some.ensures.items
    c.loop-task.invariant.opening).inside) i)

pub loop-task-preserved-in_ok-insert : goal.loop-task-preserved-in_ok-insert
loop-task-preserved-in_ok-insert c =
    record {
      keeps = Extends-trans c.loop-task.invariant.keeps c.in_ok-image.ensures.keeps;
      terms =
          subst (λ t. AreImages (IsTermImage c.opened_form.new.bank t) (get by_spot c.opened_form.new.terms))
          (term_tree-extends c.loop-task.invariant.keeps c.args.value.0 c.requires.value) c.in_ok-image.ensures.terms;
      forms =
          images_put (get by_spot c.loop-task.forms) (get by_spot c.insert.new.self) (c.in-Some.task.place, c.in-Some.task.level) c.in_ok-image.image
          c.in_ok-insert.ensures.updates.0 (IsFormImage c.opened_form.new.bank (term_tree c.args.self.now c.args.value.0))
          (form_images_now c.loop-task.self c.opened_form.new.bank c.in_ok-image.ensures.keeps (term_tree c.args.self.now c.args.value.0)
          (get by_spot c.loop-task.forms) c.loop-task.invariant.forms)
          (form_image_now c.loop-task.self c.opened_form.new.bank c.in_ok-image.ensures.keeps (term_tree c.args.self.now c.args.value.0) (
            c.in-Some.task.place,
            c.in-Some.task.level,
          ) c.in_ok-image.image (HasForm-extends c.loop-task.invariant.keeps c.in-Some.task.place
          (opening_good (form_parts_at c.args.self.now) (IsFormGood c.args.self.now ((term_tree c.args.self.now c.args.value.0), c.args.form.0)) (
            c.args.form.0,
            0,
          ) (IsKnown (get by_spot c.loop-task.forms)) c.loop-task.tasks.items c.pop.new.self.items c.in-Some.task c.in-Some.ensures.items
          c.loop-task.invariant.opening).inside) (subst (λ t. ShowsFormImage c.loop-task.self c.opened_form.new.bank t (
            c.in-Some.task.place,
            c.in-Some.task.level,
          ) c.in_ok-image.image) (term_tree-extends c.loop-task.invariant.keeps c.args.value.0 c.requires.value)
          c.in_ok-image.ensures.shows));
      opening = opening_pops (form_parts_at c.args.self.now)
          (IsFormGood c.args.self.now ((term_tree c.args.self.now c.args.value.0), c.args.form.0)) (c.args.form.0, 0) (IsKnown (get by_spot c.loop-task.forms))
          (IsKnown (get by_spot c.insert.new.self)) (known_still (get by_spot c.loop-task.forms) (get by_spot c.insert.new.self) (
            c.in-Some.task.place,
            c.in-Some.task.level,
          ) c.in_ok-image.image c.in_ok-insert.ensures.updates.0) c.loop-task.tasks.items c.pop.new.self.items c.in-Some.task
          c.in-Some.ensures.items (known_here (get by_spot c.loop-task.forms) (get by_spot c.insert.new.self) (c.in-Some.task.place, c.in-Some.task.level)
          c.in_ok-image.image c.in_ok-insert.ensures.updates.0) c.loop-task.invariant.opening;
    }

pub loop-task-smaller-in-Continue-branch-4 : goal.loop-task-smaller-in-Continue-branch-4
loop-task-smaller-in-Continue-branch-4 c =
    work_expands (form_size_at c.args.self.now) c.loop-task.tasks.items c.pop.new.self.items c.push_form.new.tasks.items c.in-Some.task
    (record { place = c.in-Some.task.place; level = c.in-Some.task.level; ready = true })
    (form_parts_at c.args.self.now (c.in-Some.task.place, c.in-Some.task.level)) c.in-Some.ensures.items
    (c.in_ok-push_form.ensures.pushed ∙ ap (λ ps. c.pop.new.self.items
    ++ (record { place = c.in-Some.task.place; level = c.in-Some.task.level; ready = true }) ∷ map visit ps)
    (form_parts_same c.args.self.now c.loop-task.self c.loop-task.invariant.keeps (c.in-Some.task.place, c.in-Some.task.level)
    (opening_good (form_parts_at c.args.self.now) (IsFormGood c.args.self.now ((term_tree c.args.self.now c.args.value.0), c.args.form.0)) (
      c.args.form.0,
      0,
    ) (IsKnown (get by_spot c.loop-task.forms)) c.loop-task.tasks.items c.pop.new.self.items c.in-Some.task c.in-Some.ensures.items
    c.loop-task.invariant.opening).inside)) c.if-task.false refl
    (form_parts_first c.args.self.now c.loop-task.self c.loop-task.invariant.keeps (c.in-Some.task.place, c.in-Some.task.level)
    (opening_good (form_parts_at c.args.self.now) (IsFormGood c.args.self.now ((term_tree c.args.self.now c.args.value.0), c.args.form.0)) (
      c.args.form.0,
      0,
    ) (IsKnown (get by_spot c.loop-task.forms)) c.loop-task.tasks.items c.pop.new.self.items c.in-Some.task c.in-Some.ensures.items
    c.loop-task.invariant.opening).inside c.in_ok-push_form.ensures.parts).smaller

pub loop-task-preserved-in-Continue-branch-4 : goal.loop-task-preserved-in-Continue-branch-4
loop-task-preserved-in-Continue-branch-4 c =
    record {
      keeps = c.loop-task.invariant.keeps;
      terms = c.loop-task.invariant.terms;
      forms = c.loop-task.invariant.forms;
      opening =
          opening_expands (form_parts_at c.args.self.now) (IsFormGood c.args.self.now ((term_tree c.args.self.now c.args.value.0), c.args.form.0)) (
            c.args.form.0,
            0,
          ) (IsKnown (get by_spot c.loop-task.forms)) c.loop-task.tasks.items c.pop.new.self.items c.push_form.new.tasks.items c.in-Some.task
          (record { place = c.in-Some.task.place; level = c.in-Some.task.level; ready = true }) c.in-Some.ensures.items
          (c.in_ok-push_form.ensures.pushed ∙ ap (λ ps. c.pop.new.self.items
          ++ (record { place = c.in-Some.task.place; level = c.in-Some.task.level; ready = true }) ∷ map visit ps)
          (form_parts_same c.args.self.now c.loop-task.self c.loop-task.invariant.keeps (c.in-Some.task.place, c.in-Some.task.level)
          (opening_good (form_parts_at c.args.self.now) (IsFormGood c.args.self.now ((term_tree c.args.self.now c.args.value.0), c.args.form.0)) (
            c.args.form.0,
            0,
          ) (IsKnown (get by_spot c.loop-task.forms)) c.loop-task.tasks.items c.pop.new.self.items c.in-Some.task c.in-Some.ensures.items
          c.loop-task.invariant.opening).inside)) refl ((form_parts_first c.args.self.now c.loop-task.self c.loop-task.invariant.keeps (
            c.in-Some.task.place,
            c.in-Some.task.level,
          ) (opening_good (form_parts_at c.args.self.now)
          (IsFormGood c.args.self.now ((term_tree c.args.self.now c.args.value.0), c.args.form.0)) (c.args.form.0, 0) (IsKnown (get by_spot c.loop-task.forms))
          c.loop-task.tasks.items c.pop.new.self.items c.in-Some.task c.in-Some.ensures.items c.loop-task.invariant.opening).inside
          c.in_ok-push_form.ensures.parts).still_good ((term_tree c.args.self.now c.args.value.0), c.args.form.0)) c.loop-task.invariant.opening;
    }

pub loop-task-smaller : goal.loop-task-smaller
loop-task-smaller c =
    work_pops (form_size_at c.args.self.now) c.loop-task.tasks.items c.pop.new.self.items c.in-Some.task c.in-Some.ensures.items
    (form_size-some (form_tree c.args.self.now c.in-Some.task.place))

pub loop-task-preserved : goal.loop-task-preserved
loop-task-preserved c =
    record {
      keeps = c.loop-task.invariant.keeps;
      terms = c.loop-task.invariant.terms;
      forms = c.loop-task.invariant.forms;
      opening =
          opening_pops (form_parts_at c.args.self.now) (IsFormGood c.args.self.now ((term_tree c.args.self.now c.args.value.0), c.args.form.0)) (
            c.args.form.0,
            0,
          )
          (IsKnown (get by_spot c.loop-task.forms)) (IsKnown (get by_spot c.loop-task.forms)) (λ k h. h) c.loop-task.tasks.items c.pop.new.self.items
          c.in-Some.task c.in-Some.ensures.items (sym c.contains_key.ensures ∙ c.if-not-contains_key.false) c.loop-task.invariant.opening;
    }

pub returns-clause-shows : goal.returns-clause-shows
returns-clause-shows c =
    form_image_first c.args.self.now c.loop-task.self c.loop-task.invariant.keeps (term_tree c.args.self.now c.args.value.0) (c.args.form.0, 0)
    c.form_image.result c.requires.body (c.loop-task.invariant.forms (c.args.form.0, 0) c.form_image.result c.form_image.ensures)

pub returns-in_err-push-clause-shows : goal.returns-in_err-push-clause-shows
returns-in_err-push-clause-shows c =
    IfOk-from_err c.from_residual.result _ c.from_residual.ensures.0

pub returns-in_err-image-clause-shows : goal.returns-in_err-image-clause-shows
returns-in_err-image-clause-shows c =
    IfOk-from_err c.from_residual-in_err-image.result _ c.from_residual-in_err-image.ensures.0

pub returns-in_err-insert-clause-shows : goal.returns-in_err-insert-clause-shows
returns-in_err-insert-clause-shows c =
    IfOk-from_err c.from_residual-in_err-insert.result _ c.from_residual-in_err-insert.ensures.0

pub returns-in_err-push_form-clause-shows : goal.returns-in_err-push_form-clause-shows
returns-in_err-push_form-clause-shows c =
    IfOk-from_err c.from_residual-in_err-push_form.result _ c.from_residual-in_err-push_form.ensures.0

pub returns-in_err-image-clause-keeps : goal.returns-in_err-image-clause-keeps
returns-in_err-image-clause-keeps c =
    Extends-trans c.loop-task.invariant.keeps c.opened_form.ensures.keeps

pub returns-in_err-insert-clause-keeps : goal.returns-in_err-insert-clause-keeps
returns-in_err-insert-clause-keeps c =
    Extends-trans c.loop-task.invariant.keeps c.opened_form.ensures.keeps

pub returns-in_err-push_form-clause-keeps : goal.returns-in_err-push_form-clause-keeps
returns-in_err-push_form-clause-keeps c =
    c.loop-task.invariant.keeps

pub loop-task-smaller-in_ok-insert : goal.loop-task-smaller-in_ok-insert
loop-task-smaller-in_ok-insert c =
    work_pops (form_size_at c.args.self.now) c.loop-task.tasks.items c.pop.new.self.items c.in-Some.task c.in-Some.ensures.items
    (form_size-some (form_tree c.args.self.now c.in-Some.task.place))

pub returns-clause-keeps : goal.returns-clause-keeps
returns-clause-keeps c =
    c.loop-task.invariant.keeps
