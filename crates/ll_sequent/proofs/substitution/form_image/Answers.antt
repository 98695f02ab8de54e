use Rattle.std.proofs.Common.{◌≡◌, ℕ, ◌≤◌, List, Bor, ap, sym, refl, ◌∙◌, length}
use Rattle.std.proofs.Math.Nat.{lt_of_lt_of_le}
use Rattle.std.proofs.lemmas.Result.{IfOk-from_err}
use Rattle.ll_bank.specs.declared.At.{At}
use Rattle.ll_bank.specs.declared.FormAt.{FormAt}
use Rattle.ll_bank.specs.declared.FormNode.{FormNode}
use Rattle.ll_bank.specs.declared.FormNode.TheVariants.{Top as TopView, One as OneView, Atom as AtomView, With as WithView, Tensor as TensorView}
use Rattle.ll_bank.specs.declared.FormNode.TheVariants.{Plus as PlusView, Bang as BangView, Lolli as LolliView, Imp as ImpView, Forall as ForallView}
use Rattle.ll_bank.specs.declared.FormNode.TheVariants.{Exists as ExistsView, Use as UseView, Is as IsView, Less as LessView, Most as MostView}
use Rattle.ll_bank.specs.Form.{Atom, Num, Is, Less, Most, sub_form}
use Rattle.ll_bank.specs.Nodes.{term_trees, HasPartsBelow}
use Rattle.ll_bank.proofs.CallerLemmas.{Extends-refl, Extends-trans, no_load_node}
use Rattle.ll_sequent.specs.Starting.{values}
use Rattle.ll_sequent.proofs.Substitutions.{on_ok, shown_as, terms_extend, part}
use Rattle.ll_sequent.proofs.substitution.form_image.Goals as goal

-- a node that is none of those with terms has its parts where there are no terms, and below any number past its place
plain : (view : FormNode) (terms at n : ℕ) → at ≤ n → HasPartsBelow terms at view → ((a : At) → view ≡ AtomView a → ⊥)
    → ((m : ℕ) (args : Bor (List At)) (f : FormAt) → view ≡ UseView m args f → ⊥) → ((a b : At) → view ≡ IsView a b → ⊥)
    → ((a b : At) → view ≡ LessView a b → ⊥) → ((a b : At) → view ≡ MostView a b → ⊥) → HasPartsBelow 0 n view
plain TopView terms at n l h _ _ _ _ _ = h
plain OneView terms at n l h _ _ _ _ _ = h
plain (WithView f g) terms at n l h _ _ _ _ _ = (lt_of_lt_of_le h.0 l, lt_of_lt_of_le h.1 l)
plain (TensorView f g) terms at n l h _ _ _ _ _ = (lt_of_lt_of_le h.0 l, lt_of_lt_of_le h.1 l)
plain (PlusView f g) terms at n l h _ _ _ _ _ = (lt_of_lt_of_le h.0 l, lt_of_lt_of_le h.1 l)
plain (BangView f) terms at n l h _ _ _ _ _ = lt_of_lt_of_le h l
plain (LolliView f g) terms at n l h _ _ _ _ _ = (lt_of_lt_of_le h.0 l, lt_of_lt_of_le h.1 l)
plain (ImpView f g) terms at n l h _ _ _ _ _ = (lt_of_lt_of_le h.0 l, lt_of_lt_of_le h.1 l)
plain (ForallView f) terms at n l h _ _ _ _ _ = lt_of_lt_of_le h l
plain (ExistsView f) terms at n l h _ _ _ _ _ = lt_of_lt_of_le h l
plain (AtomView a) terms at n l h none _ _ _ _ = absurd (none a refl)
plain (UseView m args f) terms at n l h _ none _ _ _ = absurd (none m args f refl)
plain (IsView a b) terms at n l h _ _ none _ _ = absurd (none a b refl)
plain (LessView a b) terms at n l h _ _ _ none _ = absurd (none a b refl)
plain (MostView a b) terms at n l h _ _ _ _ none = absurd (none a b refl)

pub over_images-image-requires : goal.over_images-image-requires
over_images-image-requires c = record {
  plain = plain c.form_at.result (length c.args.bank.now.terms) c.args.form.0 (length c.args.forms.now) c.requires.below c.form_at.ensures.shown.parts
      c.in_default.not-Atom c.in_default.not-Use c.in_default.not-Is c.in_default.not-Less c.in_default.not-Most;
  no_load = no_load_node c.form_at.result c.in_default.not-Use;
}

pub form-requires-in_default : goal.form-requires-in_default
form-requires-in_default c = (c.over_images-image.ensures c.args.bank.now (term_trees c.args.bank.now c.args.values.now) c.requires.forms).0

pub returns-in_default : goal.returns-in_default
returns-in_default c = record {
  shows = shown_as c.form-in_default.new.self c.form-in_default.result _ _
      ((c.over_images-image.ensures c.args.bank.now (term_trees c.args.bank.now c.args.values.now) c.requires.forms).1
      ∙ ap (sub_form (values (term_trees c.args.bank.now c.args.values.now))) (sym c.form_at.ensures.shown.tree)) c.form-in_default.ensures.shows;
  terms = on_ok c.form-in_default.result
      (terms_extend c.form-in_default.ensures.keeps (term_trees c.args.bank.now c.args.values.now) c.args.terms.now.items c.requires.terms);
  keeps = c.form-in_default.ensures.keeps;
}

pub form-requires-in-Is : goal.form-requires-in-Is
form-requires-in-Is c = (c.in_ok-left-in-Is.ensures.left.inside, c.in_ok-left-in-Is.ensures.right.inside)

pub returns-in_err-left-in-Is-clause-keeps : goal.returns-in_err-left-in-Is-clause-keeps
returns-in_err-left-in-Is-clause-keeps c = c.two_images.ensures.keeps

pub returns-in_ok-left-in-Is-clause-shows : goal.returns-in_ok-left-in-Is-clause-shows
returns-in_ok-left-in-Is-clause-shows c = shown_as c.form-in-Is.new.self c.form-in-Is.result _ _
    ((λ i. Num Is (c.in_ok-left-in-Is.ensures.left.tree i) (c.in_ok-left-in-Is.ensures.right.tree i))
    ∙ ap (sub_form (values (term_trees c.args.bank.now c.args.values.now))) (sym c.in-Is.ensures.shown.tree)) c.form-in-Is.ensures.shows

pub returns-in_ok-left-in-Is-clause-terms : goal.returns-in_ok-left-in-Is-clause-terms
returns-in_ok-left-in-Is-clause-terms c = on_ok c.form-in-Is.result
    (terms_extend c.form-in-Is.ensures.keeps (term_trees c.args.bank.now c.args.values.now) c.two_images.new.terms.items c.in_ok-left-in-Is.ensures.terms)

pub returns-in_ok-left-in-Is-clause-keeps : goal.returns-in_ok-left-in-Is-clause-keeps
returns-in_ok-left-in-Is-clause-keeps c = Extends-trans c.two_images.ensures.keeps c.form-in-Is.ensures.keeps

pub form-requires-in-Less : goal.form-requires-in-Less
form-requires-in-Less c = (c.in_ok-left-in-Less.ensures.left.inside, c.in_ok-left-in-Less.ensures.right.inside)

pub returns-in_err-left-in-Less-clause-keeps : goal.returns-in_err-left-in-Less-clause-keeps
returns-in_err-left-in-Less-clause-keeps c = c.two_images-in-Less.ensures.keeps

pub returns-in_ok-left-in-Less-clause-shows : goal.returns-in_ok-left-in-Less-clause-shows
returns-in_ok-left-in-Less-clause-shows c = shown_as c.form-in-Less.new.self c.form-in-Less.result _ _
    ((λ i. Num Less (c.in_ok-left-in-Less.ensures.left.tree i) (c.in_ok-left-in-Less.ensures.right.tree i))
    ∙ ap (sub_form (values (term_trees c.args.bank.now c.args.values.now))) (sym c.in-Less.ensures.shown.tree)) c.form-in-Less.ensures.shows

pub returns-in_ok-left-in-Less-clause-terms : goal.returns-in_ok-left-in-Less-clause-terms
returns-in_ok-left-in-Less-clause-terms c = on_ok c.form-in-Less.result
    (terms_extend c.form-in-Less.ensures.keeps (term_trees c.args.bank.now c.args.values.now) c.two_images-in-Less.new.terms.items
    c.in_ok-left-in-Less.ensures.terms)

pub returns-in_ok-left-in-Less-clause-keeps : goal.returns-in_ok-left-in-Less-clause-keeps
returns-in_ok-left-in-Less-clause-keeps c = Extends-trans c.two_images-in-Less.ensures.keeps c.form-in-Less.ensures.keeps

pub form-requires-in-Most : goal.form-requires-in-Most
form-requires-in-Most c = (c.in_ok-left-in-Most.ensures.left.inside, c.in_ok-left-in-Most.ensures.right.inside)

pub returns-in_err-left-in-Most-clause-keeps : goal.returns-in_err-left-in-Most-clause-keeps
returns-in_err-left-in-Most-clause-keeps c = c.two_images-in-Most.ensures.keeps

pub returns-in_ok-left-in-Most-clause-shows : goal.returns-in_ok-left-in-Most-clause-shows
returns-in_ok-left-in-Most-clause-shows c = shown_as c.form-in-Most.new.self c.form-in-Most.result _ _
    ((λ i. Num Most (c.in_ok-left-in-Most.ensures.left.tree i) (c.in_ok-left-in-Most.ensures.right.tree i))
    ∙ ap (sub_form (values (term_trees c.args.bank.now c.args.values.now))) (sym c.in-Most.ensures.shown.tree)) c.form-in-Most.ensures.shows

pub returns-in_ok-left-in-Most-clause-terms : goal.returns-in_ok-left-in-Most-clause-terms
returns-in_ok-left-in-Most-clause-terms c = on_ok c.form-in-Most.result
    (terms_extend c.form-in-Most.ensures.keeps (term_trees c.args.bank.now c.args.values.now) c.two_images-in-Most.new.terms.items
    c.in_ok-left-in-Most.ensures.terms)

pub returns-in_ok-left-in-Most-clause-keeps : goal.returns-in_ok-left-in-Most-clause-keeps
returns-in_ok-left-in-Most-clause-keeps c = Extends-trans c.two_images-in-Most.ensures.keeps c.form-in-Most.ensures.keeps

pub form-requires : goal.form-requires
form-requires c = c.in_ok-image-in-Atom.ensures.shows.inside

pub returns-in_err-image-in-Atom-clause-keeps : goal.returns-in_err-image-in-Atom-clause-keeps
returns-in_err-image-in-Atom-clause-keeps c = c.term_image.ensures.keeps

pub returns-in_ok-image-in-Atom-clause-shows : goal.returns-in_ok-image-in-Atom-clause-shows
returns-in_ok-image-in-Atom-clause-shows c = shown_as c.form.new.self c.form.result _ _
    (ap Atom c.in_ok-image-in-Atom.ensures.shows.tree ∙ ap (sub_form (values (term_trees c.args.bank.now c.args.values.now)))
    (sym c.in-Atom.ensures.shown.tree)) c.form.ensures.shows

pub returns-in_ok-image-in-Atom-clause-terms : goal.returns-in_ok-image-in-Atom-clause-terms
returns-in_ok-image-in-Atom-clause-terms c = on_ok c.form.result
    (terms_extend c.form.ensures.keeps (term_trees c.args.bank.now c.args.values.now) c.term_image.new.terms.items c.in_ok-image-in-Atom.ensures.terms)

pub returns-in_ok-image-in-Atom-clause-keeps : goal.returns-in_ok-image-in-Atom-clause-keeps
returns-in_ok-image-in-Atom-clause-keeps c = Extends-trans c.term_image.ensures.keeps c.form.ensures.keeps

pub returns-in_err-args-in-Use-clause-keeps : goal.returns-in_err-args-in-Use-clause-keeps
returns-in_err-args-in-Use-clause-keeps c = Extends-refl c.args.bank.now

pub form_at-requires : goal.form_at-requires
form_at-requires c = c.requires.form

pub term_image-requires-clause-term : goal.term_image-requires-clause-term
term_image-requires-clause-term c = c.in-Atom.ensures.shown.parts

pub term_image-requires-clause-values : goal.term_image-requires-clause-values
term_image-requires-clause-values c = c.requires.values

pub term_image-requires-clause-terms : goal.term_image-requires-clause-terms
term_image-requires-clause-terms c = c.requires.terms

pub bounds-forms-f : goal.bounds-forms-f
bounds-forms-f c = lt_of_lt_of_le c.in-Use.ensures.shown.parts.1 c.requires.below

pub two_images-requires-clause-left : goal.two_images-requires-clause-left
two_images-requires-clause-left c = c.in-Is.ensures.shown.parts.0

pub two_images-requires-clause-right : goal.two_images-requires-clause-right
two_images-requires-clause-right c = c.in-Is.ensures.shown.parts.1

pub two_images-requires-clause-values : goal.two_images-requires-clause-values
two_images-requires-clause-values c = c.requires.values

pub two_images-requires-clause-terms : goal.two_images-requires-clause-terms
two_images-requires-clause-terms c = c.requires.terms

pub two_images-requires-in-Less-clause-left : goal.two_images-requires-in-Less-clause-left
two_images-requires-in-Less-clause-left c = c.in-Less.ensures.shown.parts.0

pub two_images-requires-in-Less-clause-right : goal.two_images-requires-in-Less-clause-right
two_images-requires-in-Less-clause-right c = c.in-Less.ensures.shown.parts.1

pub two_images-requires-in-Less-clause-values : goal.two_images-requires-in-Less-clause-values
two_images-requires-in-Less-clause-values c = c.requires.values

pub two_images-requires-in-Less-clause-terms : goal.two_images-requires-in-Less-clause-terms
two_images-requires-in-Less-clause-terms c = c.requires.terms

pub two_images-requires-in-Most-clause-left : goal.two_images-requires-in-Most-clause-left
two_images-requires-in-Most-clause-left c = c.in-Most.ensures.shown.parts.0

pub two_images-requires-in-Most-clause-right : goal.two_images-requires-in-Most-clause-right
two_images-requires-in-Most-clause-right c = c.in-Most.ensures.shown.parts.1

pub two_images-requires-in-Most-clause-values : goal.two_images-requires-in-Most-clause-values
two_images-requires-in-Most-clause-values c = c.requires.values

pub two_images-requires-in-Most-clause-terms : goal.two_images-requires-in-Most-clause-terms
two_images-requires-in-Most-clause-terms c = c.requires.terms

pub load_image-requires-clause-values : goal.load_image-requires-clause-values
load_image-requires-clause-values c = c.requires.values

pub load_image-requires-clause-terms : goal.load_image-requires-clause-terms
load_image-requires-clause-terms c = c.requires.terms

pub load_image-requires-clause-body : goal.load_image-requires-clause-body
load_image-requires-clause-body c = (part c.args.bank.now (term_trees c.args.bank.now c.args.values.now) c.args.forms.now c.requires.forms c.args.form
    c.requires.below c.in-Use.f c.in-Use.ensures.shown.parts.1).inside

pub returns-in_err-image-in-Atom-clause-shows : goal.returns-in_err-image-in-Atom-clause-shows
returns-in_err-image-in-Atom-clause-shows c = IfOk-from_err c.from_residual.result _ c.from_residual.ensures.0

pub returns-in_err-image-in-Atom-clause-terms : goal.returns-in_err-image-in-Atom-clause-terms
returns-in_err-image-in-Atom-clause-terms c = IfOk-from_err c.from_residual.result _ c.from_residual.ensures.0

pub returns-in_err-args-in-Use-clause-shows : goal.returns-in_err-args-in-Use-clause-shows
returns-in_err-args-in-Use-clause-shows c = IfOk-from_err c.from_residual-in_err-args-in-Use.result _ c.from_residual-in_err-args-in-Use.ensures.0

pub returns-in_err-args-in-Use-clause-terms : goal.returns-in_err-args-in-Use-clause-terms
returns-in_err-args-in-Use-clause-terms c = IfOk-from_err c.from_residual-in_err-args-in-Use.result _ c.from_residual-in_err-args-in-Use.ensures.0

pub returns-in_err-left-in-Is-clause-shows : goal.returns-in_err-left-in-Is-clause-shows
returns-in_err-left-in-Is-clause-shows c = IfOk-from_err c.from_residual-in_err-left-in-Is.result _ c.from_residual-in_err-left-in-Is.ensures.0

pub returns-in_err-left-in-Is-clause-terms : goal.returns-in_err-left-in-Is-clause-terms
returns-in_err-left-in-Is-clause-terms c = IfOk-from_err c.from_residual-in_err-left-in-Is.result _ c.from_residual-in_err-left-in-Is.ensures.0

pub returns-in_err-left-in-Less-clause-shows : goal.returns-in_err-left-in-Less-clause-shows
returns-in_err-left-in-Less-clause-shows c = IfOk-from_err c.from_residual-in_err-left-in-Less.result _ c.from_residual-in_err-left-in-Less.ensures.0

pub returns-in_err-left-in-Less-clause-terms : goal.returns-in_err-left-in-Less-clause-terms
returns-in_err-left-in-Less-clause-terms c = IfOk-from_err c.from_residual-in_err-left-in-Less.result _ c.from_residual-in_err-left-in-Less.ensures.0

pub returns-in_err-left-in-Most-clause-shows : goal.returns-in_err-left-in-Most-clause-shows
returns-in_err-left-in-Most-clause-shows c = IfOk-from_err c.from_residual-in_err-left-in-Most.result _ c.from_residual-in_err-left-in-Most.ensures.0

pub returns-in_err-left-in-Most-clause-terms : goal.returns-in_err-left-in-Most-clause-terms
returns-in_err-left-in-Most-clause-terms c = IfOk-from_err c.from_residual-in_err-left-in-Most.result _ c.from_residual-in_err-left-in-Most.ensures.0

pub returns-in_ok-args-in-Use-clause-terms : goal.returns-in_ok-args-in-Use-clause-terms
returns-in_ok-args-in-Use-clause-terms c = c.load_image.ensures.terms

pub returns-in_ok-args-in-Use-clause-keeps : goal.returns-in_ok-args-in-Use-clause-keeps
returns-in_ok-args-in-Use-clause-keeps c = c.load_image.ensures.keeps
