use Rattle.std.proofs.lemmas.Result.{IfOk-from_err}
use Rattle.std.proofs.Common.{◌≡◌, ℕ, List, length, ap, sym, subst, ◌∙◌, refl, map, All, true, inl, Bor}
use Rattle.std.specs.Prelude.{IfOk}
use Rattle.std.specs.List.{list_all}
use Rattle.std.specs.BTreeMap.{get}
use Rattle.std.proofs.lemmas.Bool.{and_parts}
use Rattle.std.proofs.lemmas.Result.{IfOk-weaker}
use Rattle.ll_bank.specs.declared.At.{At}
use Rattle.ll_bank.specs.declared.FormAt.{FormAt}
use Rattle.ll_bank.specs.declared.FormNode.{FormNode}
use Rattle.ll_bank.specs.declared.FormNode.TheVariants.{Top as TopView, One as OneView, Atom as AtomView, With as WithView, Tensor as TensorView}
use Rattle.ll_bank.specs.declared.FormNode.TheVariants.{Plus as PlusView, Bang as BangView, Lolli as LolliView, Imp as ImpView, Forall as ForallView}
use Rattle.ll_bank.specs.declared.FormNode.TheVariants.{Exists as ExistsView, Use as UseView, Is as IsView, Less as LessView, Most as MostView}
use Rattle.ll_bank.specs.Term.{close, applies_heads}
use Rattle.ll_bank.specs.Form.{Atom, Use, Num, Is, Less, Most, close_form, form_applies_heads}
use Rattle.ll_bank.specs.Nodes.{term_tree, term_trees, form_tree, ShowsForm, AllInTerms, HasPartsBelow}
use Rattle.ll_bank.specs.Instantiated.{by_spot, opened, IsTermImage}
use Rattle.ll_bank.specs.Opened.{AreImages}
use Rattle.ll_bank.proofs.Trees.{Extends-refl, Extends-trans, HasForm-extends, form_tree-extends}
use Rattle.ll_bank.proofs.PartLemmas.{load_heads, no_load_node}
use Rattle.ll_bank.proofs.OpenLemmas.{term_images_now, form_part_known}
use Rattle.ll_bank.proofs.open.opened_form.Goals as goal

-- a node that is none of those with terms has its parts where there are no terms
plain : (view : FormNode) (terms at : ℕ) → HasPartsBelow terms at view → ((a : At) → view ≡ AtomView a → ⊥)
    → ((m : ℕ) (args : Bor (List At)) (f : FormAt) → view ≡ UseView m args f → ⊥) → ((a b : At) → view ≡ IsView a b → ⊥)
    → ((a b : At) → view ≡ LessView a b → ⊥) → ((a b : At) → view ≡ MostView a b → ⊥) → HasPartsBelow 0 at view
plain TopView terms at h _ _ _ _ _ = h
plain OneView terms at h _ _ _ _ _ = h
plain (WithView f g) terms at h _ _ _ _ _ = h
plain (TensorView f g) terms at h _ _ _ _ _ = h
plain (PlusView f g) terms at h _ _ _ _ _ = h
plain (BangView f) terms at h _ _ _ _ _ = h
plain (LolliView f g) terms at h _ _ _ _ _ = h
plain (ImpView f g) terms at h _ _ _ _ _ = h
plain (ForallView f) terms at h _ _ _ _ _ = h
plain (ExistsView f) terms at h _ _ _ _ _ = h
plain (AtomView a) terms at h n _ _ _ _ = absurd (n a refl)
plain (UseView m args f) terms at h _ n _ _ _ = absurd (n m args f refl)
plain (IsView a b) terms at h _ _ n _ _ = absurd (n a b refl)
plain (LessView a b) terms at h _ _ _ n _ = absurd (n a b refl)
plain (MostView a b) terms at h _ _ _ _ n = absurd (n a b refl)

pub open_term-requires-clause-heads : goal.open_term-requires-clause-heads
open_term-requires-clause-heads c =
    sym (ap (λ x. form_applies_heads (close_form (opened (term_tree c.args.bank.now c.args.value.0) c.args.task.level) x)) c.in-Atom.ensures.shown.tree)
    ∙ c.requires.heads

pub share_form-requires-clause-inside : goal.share_form-requires-clause-inside
share_form-requires-clause-inside c = HasForm-extends c.open_term.ensures.keeps c.args.task.place c.requires.inside

pub share_form-requires-clause-parts : goal.share_form-requires-clause-parts
share_form-requires-clause-parts c = c.in_ok-atom-in-Atom.ensures.shows.inside

pub returns-in_ok-atom-in-Atom-clause-shows : goal.returns-in_ok-atom-in-Atom-clause-shows
returns-in_ok-atom-in-Atom-clause-shows c =
    subst (λ u. IfOk c.share_form.result (λ image. ShowsForm c.share_form.new.bank image.0 u))
    (ap Atom c.in_ok-atom-in-Atom.ensures.shows.tree
    ∙ sym (ap (close_form (opened (term_tree c.args.bank.now c.args.value.0) c.args.task.level)) c.in-Atom.ensures.shown.tree)) c.share_form.ensures.shows

pub returns-in_ok-atom-in-Atom-clause-terms : goal.returns-in_ok-atom-in-Atom-clause-terms
returns-in_ok-atom-in-Atom-clause-terms c =
    IfOk-weaker c.share_form.result (λ image. ShowsForm c.share_form.new.bank image.0 _)
    (λ _. AreImages (IsTermImage c.share_form.new.bank (term_tree c.args.bank.now c.args.value.0)) (get by_spot c.open_term.new.images))
    (λ x s. term_images_now c.open_term.new.bank c.share_form.new.bank c.share_form.ensures.keeps (term_tree c.args.bank.now c.args.value.0)
    (get by_spot c.open_term.new.images) c.in_ok-atom-in-Atom.ensures.images) c.share_form.ensures.shows

pub returns-in_ok-atom-in-Atom-clause-keeps : goal.returns-in_ok-atom-in-Atom-clause-keeps
returns-in_ok-atom-in-Atom-clause-keeps c = Extends-trans c.open_term.ensures.keeps c.share_form.ensures.keeps

pub form_image-f-requires : goal.form_image-f-requires
form_image-f-requires c =
    form_part_known c.args.bank.now c.args.task.place c.args.task.level (UseView c.in-Use.module c.in-Use.args c.in-Use.f) (get by_spot c.args.forms.now)
    c.in-Use.ensures.node c.requires.parts (c.in-Use.f.0, c.args.task.level) (inl refl)

pub returns-in_err-args-in-Use-clause-keeps : goal.returns-in_err-args-in-Use-clause-keeps
returns-in_err-args-in-Use-clause-keeps c =
    Extends-refl c.args.bank.now

pub open_terms-requires-clause-heads : goal.open_terms-requires-clause-heads
open_terms-requires-clause-heads c =
    subst (All (λ (a : At). applies_heads (close (opened (term_tree c.args.bank.now c.args.value.0) c.args.task.level) (term_tree c.args.bank.now a.0)) ≡ true))
    (sym (c.deref.ensures.value ∙ c.in_ok-args-in-Use.ensures.items))
    (load_heads (opened (term_tree c.args.bank.now c.args.value.0) c.args.task.level) c.args.bank.now c.in-Use.args.now
    (and_parts (list_all applies_heads (map (close (opened (term_tree c.args.bank.now c.args.value.0) c.args.task.level))
    (term_trees c.args.bank.now c.in-Use.args.now))) (form_applies_heads
    (close_form (opened (term_tree c.args.bank.now c.args.value.0) c.args.task.level) (form_tree c.args.bank.now c.in-Use.f.0)))
    (sym (ap (λ x. form_applies_heads (close_form (opened (term_tree c.args.bank.now c.args.value.0) c.args.task.level) x)) c.in-Use.ensures.shown.tree)
    ∙ c.requires.heads)).0)

pub share_form-requires-in-Use-clause-parts : goal.share_form-requires-in-Use-clause-parts
share_form-requires-in-Use-clause-parts c = (
  subst (AllInTerms c.open_terms.new.bank) (sym c.deref-in-Use.ensures.value) c.in_ok-args-in-Use-2.ensures.places,
  HasForm-extends c.open_terms.ensures.keeps c.form_image-f.result.0
      (c.requires.forms (c.in-Use.f.0, c.args.task.level) c.form_image-f.result c.form_image-f.ensures).1.inside,
)

pub returns-in_ok-args-in-Use-2-clause-shows : goal.returns-in_ok-args-in-Use-2-clause-shows
returns-in_ok-args-in-Use-2-clause-shows c =
    subst (λ u. IfOk c.share_form-in-Use.result (λ image. ShowsForm c.share_form-in-Use.new.bank image.0 u))
    ((λ i. Use c.in-Use.module ((ap (term_trees c.open_terms.new.bank) c.deref-in-Use.ensures.value
    ∙ (c.in_ok-args-in-Use-2.ensures.shows ∙ ap (λ xs. map (close (opened (term_tree c.args.bank.now c.args.value.0) c.args.task.level))
    (term_trees c.args.bank.now xs)) (c.deref.ensures.value ∙ c.in_ok-args-in-Use.ensures.items))) i)
    ((form_tree-extends c.open_terms.ensures.keeps c.form_image-f.result.0
    (c.requires.forms (c.in-Use.f.0, c.args.task.level) c.form_image-f.result c.form_image-f.ensures).1.inside
    ∙ (c.requires.forms (c.in-Use.f.0, c.args.task.level) c.form_image-f.result c.form_image-f.ensures).1.tree) i))
    ∙ sym (ap (close_form (opened (term_tree c.args.bank.now c.args.value.0) c.args.task.level)) c.in-Use.ensures.shown.tree))
    c.share_form-in-Use.ensures.shows

pub returns-in_ok-args-in-Use-2-clause-terms : goal.returns-in_ok-args-in-Use-2-clause-terms
returns-in_ok-args-in-Use-2-clause-terms c =
    IfOk-weaker c.share_form-in-Use.result (λ image. ShowsForm c.share_form-in-Use.new.bank image.0 _)
    (λ _. AreImages (IsTermImage c.share_form-in-Use.new.bank (term_tree c.args.bank.now c.args.value.0)) (get by_spot c.open_terms.new.images))
    (λ x s. term_images_now c.open_terms.new.bank c.share_form-in-Use.new.bank c.share_form-in-Use.ensures.keeps (term_tree c.args.bank.now c.args.value.0)
    (get by_spot c.open_terms.new.images) c.in_ok-args-in-Use-2.ensures.images) c.share_form-in-Use.ensures.shows

pub open_terms-requires-clause-inside : goal.open_terms-requires-clause-inside
open_terms-requires-clause-inside c =
    subst (AllInTerms c.args.bank.now) (sym (c.deref.ensures.value ∙ c.in_ok-args-in-Use.ensures.items)) c.in-Use.ensures.shown.parts.0

pub share_form-requires-in-Use-clause-inside : goal.share_form-requires-in-Use-clause-inside
share_form-requires-in-Use-clause-inside c = HasForm-extends c.open_terms.ensures.keeps c.args.task.place c.requires.inside

pub returns-in_ok-args-in-Use-2-clause-keeps : goal.returns-in_ok-args-in-Use-2-clause-keeps
returns-in_ok-args-in-Use-2-clause-keeps c = Extends-trans c.open_terms.ensures.keeps c.share_form-in-Use.ensures.keeps

pub open_two-requires-clause-left_heads : goal.open_two-requires-clause-left_heads
open_two-requires-clause-left_heads c =
    (and_parts (applies_heads (close (opened (term_tree c.args.bank.now c.args.value.0) c.args.task.level) (term_tree c.args.bank.now c.in-Is.left.0)))
    (applies_heads (close (opened (term_tree c.args.bank.now c.args.value.0) c.args.task.level) (term_tree c.args.bank.now c.in-Is.right.0)))
    (sym (ap (λ x. form_applies_heads (close_form (opened (term_tree c.args.bank.now c.args.value.0) c.args.task.level) x)) c.in-Is.ensures.shown.tree)
    ∙ c.requires.heads)).0

pub open_two-requires-clause-right_heads : goal.open_two-requires-clause-right_heads
open_two-requires-clause-right_heads c =
    (and_parts (applies_heads (close (opened (term_tree c.args.bank.now c.args.value.0) c.args.task.level) (term_tree c.args.bank.now c.in-Is.left.0)))
    (applies_heads (close (opened (term_tree c.args.bank.now c.args.value.0) c.args.task.level) (term_tree c.args.bank.now c.in-Is.right.0)))
    (sym (ap (λ x. form_applies_heads (close_form (opened (term_tree c.args.bank.now c.args.value.0) c.args.task.level) x)) c.in-Is.ensures.shown.tree)
    ∙ c.requires.heads)).1

pub share_form-requires-in-Is-clause-inside : goal.share_form-requires-in-Is-clause-inside
share_form-requires-in-Is-clause-inside c = HasForm-extends c.open_two.ensures.keeps c.args.task.place c.requires.inside

pub share_form-requires-in-Is-clause-parts : goal.share_form-requires-in-Is-clause-parts
share_form-requires-in-Is-clause-parts c = (c.in_ok-left-in-Is.ensures.left.inside, c.in_ok-left-in-Is.ensures.right.inside)

pub returns-in_ok-left-in-Is-clause-shows : goal.returns-in_ok-left-in-Is-clause-shows
returns-in_ok-left-in-Is-clause-shows c =
    subst (λ u. IfOk c.share_form-in-Is.result (λ image. ShowsForm c.share_form-in-Is.new.bank image.0 u))
    ((λ i. Num Is (c.in_ok-left-in-Is.ensures.left.tree i) (c.in_ok-left-in-Is.ensures.right.tree i))
    ∙ sym (ap (close_form (opened (term_tree c.args.bank.now c.args.value.0) c.args.task.level)) c.in-Is.ensures.shown.tree))
    c.share_form-in-Is.ensures.shows

pub returns-in_ok-left-in-Is-clause-terms : goal.returns-in_ok-left-in-Is-clause-terms
returns-in_ok-left-in-Is-clause-terms c =
    IfOk-weaker c.share_form-in-Is.result (λ image. ShowsForm c.share_form-in-Is.new.bank image.0 _)
    (λ _. AreImages (IsTermImage c.share_form-in-Is.new.bank (term_tree c.args.bank.now c.args.value.0)) (get by_spot c.open_two.new.images))
    (λ x s. term_images_now c.open_two.new.bank c.share_form-in-Is.new.bank c.share_form-in-Is.ensures.keeps (term_tree c.args.bank.now c.args.value.0)
    (get by_spot c.open_two.new.images) c.in_ok-left-in-Is.ensures.images) c.share_form-in-Is.ensures.shows

pub returns-in_ok-left-in-Is-clause-keeps : goal.returns-in_ok-left-in-Is-clause-keeps
returns-in_ok-left-in-Is-clause-keeps c = Extends-trans c.open_two.ensures.keeps c.share_form-in-Is.ensures.keeps

pub open_two-requires-in-Less-clause-left_heads : goal.open_two-requires-in-Less-clause-left_heads
open_two-requires-in-Less-clause-left_heads c =
    (and_parts (applies_heads (close (opened (term_tree c.args.bank.now c.args.value.0) c.args.task.level) (term_tree c.args.bank.now c.in-Less.left.0)))
    (applies_heads (close (opened (term_tree c.args.bank.now c.args.value.0) c.args.task.level) (term_tree c.args.bank.now c.in-Less.right.0)))
    (sym (ap (λ x. form_applies_heads (close_form (opened (term_tree c.args.bank.now c.args.value.0) c.args.task.level) x)) c.in-Less.ensures.shown.tree)
    ∙ c.requires.heads)).0

pub open_two-requires-in-Less-clause-right_heads : goal.open_two-requires-in-Less-clause-right_heads
open_two-requires-in-Less-clause-right_heads c =
    (and_parts (applies_heads (close (opened (term_tree c.args.bank.now c.args.value.0) c.args.task.level) (term_tree c.args.bank.now c.in-Less.left.0)))
    (applies_heads (close (opened (term_tree c.args.bank.now c.args.value.0) c.args.task.level) (term_tree c.args.bank.now c.in-Less.right.0)))
    (sym (ap (λ x. form_applies_heads (close_form (opened (term_tree c.args.bank.now c.args.value.0) c.args.task.level) x)) c.in-Less.ensures.shown.tree)
    ∙ c.requires.heads)).1

pub share_form-requires-in-Less-clause-inside : goal.share_form-requires-in-Less-clause-inside
share_form-requires-in-Less-clause-inside c = HasForm-extends c.open_two-in-Less.ensures.keeps c.args.task.place c.requires.inside

pub share_form-requires-in-Less-clause-parts : goal.share_form-requires-in-Less-clause-parts
share_form-requires-in-Less-clause-parts c = (c.in_ok-left-in-Less.ensures.left.inside, c.in_ok-left-in-Less.ensures.right.inside)

pub returns-in_ok-left-in-Less-clause-shows : goal.returns-in_ok-left-in-Less-clause-shows
returns-in_ok-left-in-Less-clause-shows c =
    subst (λ u. IfOk c.share_form-in-Less.result (λ image. ShowsForm c.share_form-in-Less.new.bank image.0 u))
    ((λ i. Num Less (c.in_ok-left-in-Less.ensures.left.tree i) (c.in_ok-left-in-Less.ensures.right.tree i))
    ∙ sym (ap (close_form (opened (term_tree c.args.bank.now c.args.value.0) c.args.task.level)) c.in-Less.ensures.shown.tree))
    c.share_form-in-Less.ensures.shows

pub returns-in_ok-left-in-Less-clause-terms : goal.returns-in_ok-left-in-Less-clause-terms
returns-in_ok-left-in-Less-clause-terms c =
    IfOk-weaker c.share_form-in-Less.result (λ image. ShowsForm c.share_form-in-Less.new.bank image.0 _)
    (λ _. AreImages (IsTermImage c.share_form-in-Less.new.bank (term_tree c.args.bank.now c.args.value.0)) (get by_spot c.open_two-in-Less.new.images))
    (λ x s. term_images_now c.open_two-in-Less.new.bank c.share_form-in-Less.new.bank c.share_form-in-Less.ensures.keeps
    (term_tree c.args.bank.now c.args.value.0) (get by_spot c.open_two-in-Less.new.images) c.in_ok-left-in-Less.ensures.images)
    c.share_form-in-Less.ensures.shows

pub returns-in_ok-left-in-Less-clause-keeps : goal.returns-in_ok-left-in-Less-clause-keeps
returns-in_ok-left-in-Less-clause-keeps c = Extends-trans c.open_two-in-Less.ensures.keeps c.share_form-in-Less.ensures.keeps

pub open_two-requires-in-Most-clause-left_heads : goal.open_two-requires-in-Most-clause-left_heads
open_two-requires-in-Most-clause-left_heads c =
    (and_parts (applies_heads (close (opened (term_tree c.args.bank.now c.args.value.0) c.args.task.level) (term_tree c.args.bank.now c.in-Most.left.0)))
    (applies_heads (close (opened (term_tree c.args.bank.now c.args.value.0) c.args.task.level) (term_tree c.args.bank.now c.in-Most.right.0)))
    (sym (ap (λ x. form_applies_heads (close_form (opened (term_tree c.args.bank.now c.args.value.0) c.args.task.level) x)) c.in-Most.ensures.shown.tree)
    ∙ c.requires.heads)).0

pub open_two-requires-in-Most-clause-right_heads : goal.open_two-requires-in-Most-clause-right_heads
open_two-requires-in-Most-clause-right_heads c =
    (and_parts (applies_heads (close (opened (term_tree c.args.bank.now c.args.value.0) c.args.task.level) (term_tree c.args.bank.now c.in-Most.left.0)))
    (applies_heads (close (opened (term_tree c.args.bank.now c.args.value.0) c.args.task.level) (term_tree c.args.bank.now c.in-Most.right.0)))
    (sym (ap (λ x. form_applies_heads (close_form (opened (term_tree c.args.bank.now c.args.value.0) c.args.task.level) x)) c.in-Most.ensures.shown.tree)
    ∙ c.requires.heads)).1

pub share_form-requires-in-Most-clause-inside : goal.share_form-requires-in-Most-clause-inside
share_form-requires-in-Most-clause-inside c = HasForm-extends c.open_two-in-Most.ensures.keeps c.args.task.place c.requires.inside

pub share_form-requires-in-Most-clause-parts : goal.share_form-requires-in-Most-clause-parts
share_form-requires-in-Most-clause-parts c = (c.in_ok-left-in-Most.ensures.left.inside, c.in_ok-left-in-Most.ensures.right.inside)

pub returns-in_ok-left-in-Most-clause-shows : goal.returns-in_ok-left-in-Most-clause-shows
returns-in_ok-left-in-Most-clause-shows c =
    subst (λ u. IfOk c.share_form-in-Most.result (λ image. ShowsForm c.share_form-in-Most.new.bank image.0 u))
    ((λ i. Num Most (c.in_ok-left-in-Most.ensures.left.tree i) (c.in_ok-left-in-Most.ensures.right.tree i))
    ∙ sym (ap (close_form (opened (term_tree c.args.bank.now c.args.value.0) c.args.task.level)) c.in-Most.ensures.shown.tree))
    c.share_form-in-Most.ensures.shows

pub returns-in_ok-left-in-Most-clause-terms : goal.returns-in_ok-left-in-Most-clause-terms
returns-in_ok-left-in-Most-clause-terms c =
    IfOk-weaker c.share_form-in-Most.result (λ image. ShowsForm c.share_form-in-Most.new.bank image.0 _)
    (λ _. AreImages (IsTermImage c.share_form-in-Most.new.bank (term_tree c.args.bank.now c.args.value.0)) (get by_spot c.open_two-in-Most.new.images))
    (λ x s. term_images_now c.open_two-in-Most.new.bank c.share_form-in-Most.new.bank c.share_form-in-Most.ensures.keeps
    (term_tree c.args.bank.now c.args.value.0) (get by_spot c.open_two-in-Most.new.images) c.in_ok-left-in-Most.ensures.images)
    c.share_form-in-Most.ensures.shows

pub returns-in_ok-left-in-Most-clause-keeps : goal.returns-in_ok-left-in-Most-clause-keeps
returns-in_ok-left-in-Most-clause-keeps c = Extends-trans c.open_two-in-Most.ensures.keeps c.share_form-in-Most.ensures.keeps

pub over_images-image-requires : goal.over_images-image-requires
over_images-image-requires c = record {
  plain = plain c.form_at.result (length c.args.bank.now.terms) c.args.task.place c.form_at.ensures.shown.parts c.in_default.not-Atom c.in_default.not-Use
      c.in_default.not-Is c.in_default.not-Less c.in_default.not-Most;
  no_load = no_load_node c.form_at.result c.in_default.not-Use;
  level = c.requires.level;
  parts = form_part_known c.args.bank.now c.args.task.place c.args.task.level c.form_at.result (get by_spot c.args.forms.now) c.form_at.ensures.node
      c.requires.parts;
}

pub share_form-requires-in_default : goal.share_form-requires-in_default
share_form-requires-in_default c = record {
  inside = c.requires.inside;
  parts = (c.over_images-image.ensures c.args.bank.now (term_tree c.args.bank.now c.args.value.0) c.requires.forms).0;
}

pub returns-in_default : goal.returns-in_default
returns-in_default c = record {
  shows = subst (λ u. IfOk c.share_form-in_default.result (λ image. ShowsForm c.share_form-in_default.new.bank image.0 u))
      ((c.over_images-image.ensures c.args.bank.now (term_tree c.args.bank.now c.args.value.0) c.requires.forms).1
      ∙ sym (ap (close_form (opened (term_tree c.args.bank.now c.args.value.0) c.args.task.level)) c.form_at.ensures.shown.tree))
      c.share_form-in_default.ensures.shows;
  terms = IfOk-weaker c.share_form-in_default.result (λ image. ShowsForm c.share_form-in_default.new.bank image.0 _)
      (λ _. AreImages (IsTermImage c.share_form-in_default.new.bank (term_tree c.args.bank.now c.args.value.0)) (get by_spot c.args.terms.now))
      (λ x s. term_images_now c.args.bank.now c.share_form-in_default.new.bank c.share_form-in_default.ensures.keeps
      (term_tree c.args.bank.now c.args.value.0) (get by_spot c.args.terms.now) c.requires.terms) c.share_form-in_default.ensures.shows;
  keeps = c.share_form-in_default.ensures.keeps;
}

pub returns-in_err-atom-in-Atom-clause-shows : goal.returns-in_err-atom-in-Atom-clause-shows
returns-in_err-atom-in-Atom-clause-shows c = IfOk-from_err c.from_residual.result _ c.from_residual.ensures.0

pub returns-in_err-atom-in-Atom-clause-terms : goal.returns-in_err-atom-in-Atom-clause-terms
returns-in_err-atom-in-Atom-clause-terms c = IfOk-from_err c.from_residual.result _ c.from_residual.ensures.0

pub returns-in_err-args-in-Use-clause-shows : goal.returns-in_err-args-in-Use-clause-shows
returns-in_err-args-in-Use-clause-shows c = IfOk-from_err c.from_residual-in_err-args-in-Use.result _ c.from_residual-in_err-args-in-Use.ensures.0

pub returns-in_err-args-in-Use-clause-terms : goal.returns-in_err-args-in-Use-clause-terms
returns-in_err-args-in-Use-clause-terms c = IfOk-from_err c.from_residual-in_err-args-in-Use.result _ c.from_residual-in_err-args-in-Use.ensures.0

pub returns-in_err-args-in-Use-2-clause-shows : goal.returns-in_err-args-in-Use-2-clause-shows
returns-in_err-args-in-Use-2-clause-shows c = IfOk-from_err c.from_residual-in_err-args-in-Use-2.result _ c.from_residual-in_err-args-in-Use-2.ensures.0

pub returns-in_err-args-in-Use-2-clause-terms : goal.returns-in_err-args-in-Use-2-clause-terms
returns-in_err-args-in-Use-2-clause-terms c = IfOk-from_err c.from_residual-in_err-args-in-Use-2.result _ c.from_residual-in_err-args-in-Use-2.ensures.0

pub returns-in_err-left-in-Is-clause-shows : goal.returns-in_err-left-in-Is-clause-shows
returns-in_err-left-in-Is-clause-shows c = IfOk-from_err c.from_residual-in_err-left-in-Is.result _ c.from_residual-in_err-left-in-Is.ensures.0

pub returns-in_err-left-in-Is-clause-terms : goal.returns-in_err-left-in-Is-clause-terms
returns-in_err-left-in-Is-clause-terms c = IfOk-from_err c.from_residual-in_err-left-in-Is.result _ c.from_residual-in_err-left-in-Is.ensures.0

pub returns-in_err-left-in-Less-clause-shows : goal.returns-in_err-left-in-Less-clause-shows
returns-in_err-left-in-Less-clause-shows c = IfOk-from_err c.from_residual-in_err-left-in-Less.result _ c.from_residual-in_err-left-in-Less.ensures.0

pub returns-in_err-left-in-Less-clause-terms : goal.returns-in_err-left-in-Less-clause-terms
returns-in_err-left-in-Less-clause-terms c = IfOk-from_err c.from_residual-in_err-left-in-Less.result _ c.from_residual-in_err-left-in-Less.ensures.0

pub returns-in_err-left-in-Most-clause-shows : goal.returns-in_err-left-in-Most-clause-shows
returns-in_err-left-in-Most-clause-shows c = IfOk-from_err c.from_residual-in_err-left-in-Most.result _ c.from_residual-in_err-left-in-Most.ensures.0

pub returns-in_err-left-in-Most-clause-terms : goal.returns-in_err-left-in-Most-clause-terms
returns-in_err-left-in-Most-clause-terms c = IfOk-from_err c.from_residual-in_err-left-in-Most.result _ c.from_residual-in_err-left-in-Most.ensures.0

pub open_term-requires-clause-inside : goal.open_term-requires-clause-inside
open_term-requires-clause-inside c = c.in-Atom.ensures.shown.parts

pub open_term-requires-clause-value : goal.open_term-requires-clause-value
open_term-requires-clause-value c = c.requires.value

pub open_term-requires-clause-images : goal.open_term-requires-clause-images
open_term-requires-clause-images c = c.requires.terms

pub returns-in_err-atom-in-Atom-clause-keeps : goal.returns-in_err-atom-in-Atom-clause-keeps
returns-in_err-atom-in-Atom-clause-keeps c = c.open_term.ensures.keeps

pub open_terms-requires-clause-value : goal.open_terms-requires-clause-value
open_terms-requires-clause-value c = c.requires.value

pub open_terms-requires-clause-images : goal.open_terms-requires-clause-images
open_terms-requires-clause-images c = c.requires.terms

pub returns-in_err-args-in-Use-2-clause-keeps : goal.returns-in_err-args-in-Use-2-clause-keeps
returns-in_err-args-in-Use-2-clause-keeps c = c.open_terms.ensures.keeps

pub open_two-requires-clause-left : goal.open_two-requires-clause-left
open_two-requires-clause-left c = c.in-Is.ensures.shown.parts.0

pub open_two-requires-clause-right : goal.open_two-requires-clause-right
open_two-requires-clause-right c = c.in-Is.ensures.shown.parts.1

pub open_two-requires-clause-value : goal.open_two-requires-clause-value
open_two-requires-clause-value c = c.requires.value

pub open_two-requires-clause-images : goal.open_two-requires-clause-images
open_two-requires-clause-images c = c.requires.terms

pub returns-in_err-left-in-Is-clause-keeps : goal.returns-in_err-left-in-Is-clause-keeps
returns-in_err-left-in-Is-clause-keeps c = c.open_two.ensures.keeps

pub open_two-requires-in-Less-clause-left : goal.open_two-requires-in-Less-clause-left
open_two-requires-in-Less-clause-left c = c.in-Less.ensures.shown.parts.0

pub open_two-requires-in-Less-clause-right : goal.open_two-requires-in-Less-clause-right
open_two-requires-in-Less-clause-right c = c.in-Less.ensures.shown.parts.1

pub open_two-requires-in-Less-clause-value : goal.open_two-requires-in-Less-clause-value
open_two-requires-in-Less-clause-value c = c.requires.value

pub open_two-requires-in-Less-clause-images : goal.open_two-requires-in-Less-clause-images
open_two-requires-in-Less-clause-images c = c.requires.terms

pub returns-in_err-left-in-Less-clause-keeps : goal.returns-in_err-left-in-Less-clause-keeps
returns-in_err-left-in-Less-clause-keeps c = c.open_two-in-Less.ensures.keeps

pub open_two-requires-in-Most-clause-left : goal.open_two-requires-in-Most-clause-left
open_two-requires-in-Most-clause-left c = c.in-Most.ensures.shown.parts.0

pub open_two-requires-in-Most-clause-right : goal.open_two-requires-in-Most-clause-right
open_two-requires-in-Most-clause-right c = c.in-Most.ensures.shown.parts.1

pub open_two-requires-in-Most-clause-value : goal.open_two-requires-in-Most-clause-value
open_two-requires-in-Most-clause-value c = c.requires.value

pub open_two-requires-in-Most-clause-images : goal.open_two-requires-in-Most-clause-images
open_two-requires-in-Most-clause-images c = c.requires.terms

pub returns-in_err-left-in-Most-clause-keeps : goal.returns-in_err-left-in-Most-clause-keeps
returns-in_err-left-in-Most-clause-keeps c = c.open_two-in-Most.ensures.keeps
