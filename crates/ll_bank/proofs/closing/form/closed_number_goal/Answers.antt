use Rattle.std.proofs.lemmas.Result.{IfOk-from_err}
use Rattle.std.proofs.Common.{◌≡◌, ap, sym, subst, ◌∙◌, refl}
use Rattle.std.specs.Prelude.{IfOk}
use Rattle.std.specs.HashMap.{get}
use Rattle.std.proofs.lemmas.Bool.{and_parts}
use Rattle.ll_bank.specs.declared.At.{At}
use Rattle.ll_bank.specs.declared.FormNode.{FormNode}
use Rattle.ll_bank.specs.declared.FormNode.TheVariants.{Top as TopView, One as OneView, Atom as AtomView, Is as IsView, Less as LessView, Most as MostView}
use Rattle.ll_bank.specs.declared.FormNode.TheVariants.{With as WithView, Tensor as TensorView, Plus as PlusView, Bang as BangView, Lolli as LolliView}
use Rattle.ll_bank.specs.declared.FormNode.TheVariants.{Imp as ImpView, Forall as ForallView, Exists as ExistsView, Use as UseView}
use Rattle.ll_bank.specs.Term.{close, applies_heads}
use Rattle.ll_bank.specs.Form.{Num, Is, Less, Most, close_form, form_applies_heads}
use Rattle.ll_bank.specs.Nodes.{Nodes, term_tree, form_of, ShowsForm}
use Rattle.ll_bank.proofs.Trees.{Extends-trans, HasForm-extends}
use Rattle.ll_bank.specs.Closing.{env_in, under, same_spot, IsNum}
use Rattle.ll_bank.proofs.closes.Known.{on_ok, term_images_extend}
use Rattle.ll_bank.proofs.closing.form.closed_number_goal.Goals as goal

not_other : (bank : Nodes) (v : FormNode) → ((t u : At) → v ≡ IsView t u → ⊥) → ((t u : At) → v ≡ LessView t u → ⊥) → ((t u : At) → v ≡ MostView t u → ⊥)
    → IsNum (form_of bank v) → ⊥
not_other bank TopView a b c h = h
not_other bank OneView a b c h = h
not_other bank (AtomView x) a b c h = h
not_other bank (WithView f g) a b c h = h
not_other bank (TensorView f g) a b c h = h
not_other bank (PlusView f g) a b c h = h
not_other bank (BangView f) a b c h = h
not_other bank (LolliView f g) a b c h = h
not_other bank (ImpView f g) a b c h = h
not_other bank (ForallView f) a b c h = h
not_other bank (ExistsView f) a b c h = h
not_other bank (UseView m xs f) a b c h = h
not_other bank (IsView t u) a b c h = a t u refl
not_other bank (LessView t u) a b c h = b t u refl
not_other bank (MostView t u) a b c h = c t u refl

pub form_at-requires : goal.form_at-requires
form_at-requires c =
    c.requires.inside

pub unreachable-requires : goal.unreachable-requires
unreachable-requires c = not_other c.args.bank.now c.form_at.result c.in_default.not-Is c.in_default.not-Less c.in_default.not-Most
    (subst IsNum c.form_at.ensures.shown.tree c.requires.number)

pub closed_two-requires-clause-left : goal.closed_two-requires-clause-left
closed_two-requires-clause-left c =
    c.in-Is.ensures.shown.parts.0

pub closed_two-requires-clause-right : goal.closed_two-requires-clause-right
closed_two-requires-clause-right c =
    c.in-Is.ensures.shown.parts.1

pub closed_two-requires-clause-values : goal.closed_two-requires-clause-values
closed_two-requires-clause-values c =
    c.requires.values

pub closed_two-requires-clause-left_heads : goal.closed_two-requires-clause-left_heads
closed_two-requires-clause-left_heads c =
    let bank = c.args.bank.now in
    let e = under (env_in bank c.args.values) c.args.task.level in
    (and_parts (applies_heads (close e (term_tree bank c.in-Is.left.0)))
    (applies_heads (close e (term_tree bank c.in-Is.right.0)))
    (sym (ap (λ x. form_applies_heads (close_form e x)) c.in-Is.ensures.shown.tree) ∙ c.requires.heads)).0

pub closed_two-requires-clause-right_heads : goal.closed_two-requires-clause-right_heads
closed_two-requires-clause-right_heads c =
    let bank = c.args.bank.now in
    let e = under (env_in bank c.args.values) c.args.task.level in
    (and_parts (applies_heads (close e (term_tree bank c.in-Is.left.0)))
    (applies_heads (close e (term_tree bank c.in-Is.right.0)))
    (sym (ap (λ x. form_applies_heads (close_form e x)) c.in-Is.ensures.shown.tree) ∙ c.requires.heads)).1

pub closed_two-requires-clause-terms : goal.closed_two-requires-clause-terms
closed_two-requires-clause-terms c =
    c.requires.terms

pub returns-in_err-left-in-Is-clause-keeps : goal.returns-in_err-left-in-Is-clause-keeps
returns-in_err-left-in-Is-clause-keeps c =
    c.closed_two.ensures.keeps

pub share_form-requires-clause-inside : goal.share_form-requires-clause-inside
share_form-requires-clause-inside c =
    HasForm-extends c.closed_two.ensures.keeps c.args.task.place c.requires.inside

pub share_form-requires-clause-parts : goal.share_form-requires-clause-parts
share_form-requires-clause-parts c =
    (c.in_ok-left-in-Is.ensures.left.inside, c.in_ok-left-in-Is.ensures.right.inside)

pub returns-in_ok-left-in-Is-clause-shows : goal.returns-in_ok-left-in-Is-clause-shows
returns-in_ok-left-in-Is-clause-shows c =
    let e = under (env_in c.args.bank.now c.args.values) c.args.task.level in
    subst (λ u. IfOk c.share_form.result (λ image. ShowsForm c.share_form.new.bank image.0 u))
    ((λ i. Num Is (c.in_ok-left-in-Is.ensures.left.tree i) (c.in_ok-left-in-Is.ensures.right.tree i))
    ∙ sym (ap (close_form e) c.in-Is.ensures.shown.tree))
    c.share_form.ensures.shows

pub returns-in_ok-left-in-Is-clause-terms : goal.returns-in_ok-left-in-Is-clause-terms
returns-in_ok-left-in-Is-clause-terms c =
    let env = env_in c.args.bank.now c.args.values in
    on_ok c.share_form.result
    (term_images_extend c.closed_two.new.bank c.share_form.new.bank c.share_form.ensures.keeps env
    (get same_spot c.closed_two.new.terms.places) c.in_ok-left-in-Is.ensures.terms)

pub returns-in_ok-left-in-Is-clause-keeps : goal.returns-in_ok-left-in-Is-clause-keeps
returns-in_ok-left-in-Is-clause-keeps c =
    Extends-trans c.closed_two.ensures.keeps c.share_form.ensures.keeps

pub closed_two-requires-in-Less-clause-left : goal.closed_two-requires-in-Less-clause-left
closed_two-requires-in-Less-clause-left c =
    c.in-Less.ensures.shown.parts.0

pub closed_two-requires-in-Less-clause-right : goal.closed_two-requires-in-Less-clause-right
closed_two-requires-in-Less-clause-right c =
    c.in-Less.ensures.shown.parts.1

pub closed_two-requires-in-Less-clause-values : goal.closed_two-requires-in-Less-clause-values
closed_two-requires-in-Less-clause-values c =
    c.requires.values

pub closed_two-requires-in-Less-clause-left_heads : goal.closed_two-requires-in-Less-clause-left_heads
closed_two-requires-in-Less-clause-left_heads c =
    let bank = c.args.bank.now in
    let e = under (env_in bank c.args.values) c.args.task.level in
    (and_parts (applies_heads (close e (term_tree bank c.in-Less.left.0)))
    (applies_heads (close e (term_tree bank c.in-Less.right.0)))
    (sym (ap (λ x. form_applies_heads (close_form e x)) c.in-Less.ensures.shown.tree) ∙ c.requires.heads)).0

pub closed_two-requires-in-Less-clause-right_heads : goal.closed_two-requires-in-Less-clause-right_heads
closed_two-requires-in-Less-clause-right_heads c =
    let bank = c.args.bank.now in
    let e = under (env_in bank c.args.values) c.args.task.level in
    (and_parts (applies_heads (close e (term_tree bank c.in-Less.left.0)))
    (applies_heads (close e (term_tree bank c.in-Less.right.0)))
    (sym (ap (λ x. form_applies_heads (close_form e x)) c.in-Less.ensures.shown.tree) ∙ c.requires.heads)).1

pub closed_two-requires-in-Less-clause-terms : goal.closed_two-requires-in-Less-clause-terms
closed_two-requires-in-Less-clause-terms c =
    c.requires.terms

pub returns-in_err-left-in-Less-clause-keeps : goal.returns-in_err-left-in-Less-clause-keeps
returns-in_err-left-in-Less-clause-keeps c =
    c.closed_two-in-Less.ensures.keeps

pub share_form-requires-in-Less-clause-inside : goal.share_form-requires-in-Less-clause-inside
share_form-requires-in-Less-clause-inside c =
    HasForm-extends c.closed_two-in-Less.ensures.keeps c.args.task.place c.requires.inside

pub share_form-requires-in-Less-clause-parts : goal.share_form-requires-in-Less-clause-parts
share_form-requires-in-Less-clause-parts c =
    (c.in_ok-left-in-Less.ensures.left.inside, c.in_ok-left-in-Less.ensures.right.inside)

pub returns-in_ok-left-in-Less-clause-shows : goal.returns-in_ok-left-in-Less-clause-shows
returns-in_ok-left-in-Less-clause-shows c =
    let e = under (env_in c.args.bank.now c.args.values) c.args.task.level in
    subst (λ u. IfOk c.share_form-in-Less.result (λ image. ShowsForm c.share_form-in-Less.new.bank image.0 u))
    ((λ i. Num Less (c.in_ok-left-in-Less.ensures.left.tree i) (c.in_ok-left-in-Less.ensures.right.tree i))
    ∙ sym (ap (close_form e) c.in-Less.ensures.shown.tree))
    c.share_form-in-Less.ensures.shows

pub returns-in_ok-left-in-Less-clause-terms : goal.returns-in_ok-left-in-Less-clause-terms
returns-in_ok-left-in-Less-clause-terms c =
    let env = env_in c.args.bank.now c.args.values in
    on_ok c.share_form-in-Less.result
    (term_images_extend c.closed_two-in-Less.new.bank c.share_form-in-Less.new.bank c.share_form-in-Less.ensures.keeps env
    (get same_spot c.closed_two-in-Less.new.terms.places) c.in_ok-left-in-Less.ensures.terms)

pub returns-in_ok-left-in-Less-clause-keeps : goal.returns-in_ok-left-in-Less-clause-keeps
returns-in_ok-left-in-Less-clause-keeps c =
    Extends-trans c.closed_two-in-Less.ensures.keeps c.share_form-in-Less.ensures.keeps

pub closed_two-requires-in-Most-clause-left : goal.closed_two-requires-in-Most-clause-left
closed_two-requires-in-Most-clause-left c =
    c.in-Most.ensures.shown.parts.0

pub closed_two-requires-in-Most-clause-right : goal.closed_two-requires-in-Most-clause-right
closed_two-requires-in-Most-clause-right c =
    c.in-Most.ensures.shown.parts.1

pub closed_two-requires-in-Most-clause-values : goal.closed_two-requires-in-Most-clause-values
closed_two-requires-in-Most-clause-values c =
    c.requires.values

pub closed_two-requires-in-Most-clause-left_heads : goal.closed_two-requires-in-Most-clause-left_heads
closed_two-requires-in-Most-clause-left_heads c =
    let bank = c.args.bank.now in
    let e = under (env_in bank c.args.values) c.args.task.level in
    (and_parts (applies_heads (close e (term_tree bank c.in-Most.left.0)))
    (applies_heads (close e (term_tree bank c.in-Most.right.0)))
    (sym (ap (λ x. form_applies_heads (close_form e x)) c.in-Most.ensures.shown.tree) ∙ c.requires.heads)).0

pub closed_two-requires-in-Most-clause-right_heads : goal.closed_two-requires-in-Most-clause-right_heads
closed_two-requires-in-Most-clause-right_heads c =
    let bank = c.args.bank.now in
    let e = under (env_in bank c.args.values) c.args.task.level in
    (and_parts (applies_heads (close e (term_tree bank c.in-Most.left.0)))
    (applies_heads (close e (term_tree bank c.in-Most.right.0)))
    (sym (ap (λ x. form_applies_heads (close_form e x)) c.in-Most.ensures.shown.tree) ∙ c.requires.heads)).1

pub closed_two-requires-in-Most-clause-terms : goal.closed_two-requires-in-Most-clause-terms
closed_two-requires-in-Most-clause-terms c =
    c.requires.terms

pub returns-in_err-left-in-Most-clause-keeps : goal.returns-in_err-left-in-Most-clause-keeps
returns-in_err-left-in-Most-clause-keeps c =
    c.closed_two-in-Most.ensures.keeps

pub share_form-requires-in-Most-clause-inside : goal.share_form-requires-in-Most-clause-inside
share_form-requires-in-Most-clause-inside c =
    HasForm-extends c.closed_two-in-Most.ensures.keeps c.args.task.place c.requires.inside

pub share_form-requires-in-Most-clause-parts : goal.share_form-requires-in-Most-clause-parts
share_form-requires-in-Most-clause-parts c =
    (c.in_ok-left-in-Most.ensures.left.inside, c.in_ok-left-in-Most.ensures.right.inside)

pub returns-in_ok-left-in-Most-clause-shows : goal.returns-in_ok-left-in-Most-clause-shows
returns-in_ok-left-in-Most-clause-shows c =
    let e = under (env_in c.args.bank.now c.args.values) c.args.task.level in
    subst (λ u. IfOk c.share_form-in-Most.result (λ image. ShowsForm c.share_form-in-Most.new.bank image.0 u))
    ((λ i. Num Most (c.in_ok-left-in-Most.ensures.left.tree i) (c.in_ok-left-in-Most.ensures.right.tree i))
    ∙ sym (ap (close_form e) c.in-Most.ensures.shown.tree))
    c.share_form-in-Most.ensures.shows

pub returns-in_ok-left-in-Most-clause-terms : goal.returns-in_ok-left-in-Most-clause-terms
returns-in_ok-left-in-Most-clause-terms c =
    let env = env_in c.args.bank.now c.args.values in
    on_ok c.share_form-in-Most.result
    (term_images_extend c.closed_two-in-Most.new.bank c.share_form-in-Most.new.bank c.share_form-in-Most.ensures.keeps env
    (get same_spot c.closed_two-in-Most.new.terms.places) c.in_ok-left-in-Most.ensures.terms)

pub returns-in_ok-left-in-Most-clause-keeps : goal.returns-in_ok-left-in-Most-clause-keeps
returns-in_ok-left-in-Most-clause-keeps c =
    Extends-trans c.closed_two-in-Most.ensures.keeps c.share_form-in-Most.ensures.keeps

pub returns-in_err-left-in-Is-clause-shows : goal.returns-in_err-left-in-Is-clause-shows
returns-in_err-left-in-Is-clause-shows c = IfOk-from_err c.from_residual.result _ c.from_residual.ensures.0

pub returns-in_err-left-in-Is-clause-terms : goal.returns-in_err-left-in-Is-clause-terms
returns-in_err-left-in-Is-clause-terms c = IfOk-from_err c.from_residual.result _ c.from_residual.ensures.0

pub returns-in_err-left-in-Less-clause-shows : goal.returns-in_err-left-in-Less-clause-shows
returns-in_err-left-in-Less-clause-shows c = IfOk-from_err c.from_residual-in_err-left-in-Less.result _ c.from_residual-in_err-left-in-Less.ensures.0

pub returns-in_err-left-in-Less-clause-terms : goal.returns-in_err-left-in-Less-clause-terms
returns-in_err-left-in-Less-clause-terms c = IfOk-from_err c.from_residual-in_err-left-in-Less.result _ c.from_residual-in_err-left-in-Less.ensures.0

pub returns-in_err-left-in-Most-clause-shows : goal.returns-in_err-left-in-Most-clause-shows
returns-in_err-left-in-Most-clause-shows c = IfOk-from_err c.from_residual-in_err-left-in-Most.result _ c.from_residual-in_err-left-in-Most.ensures.0

pub returns-in_err-left-in-Most-clause-terms : goal.returns-in_err-left-in-Most-clause-terms
returns-in_err-left-in-Most-clause-terms c = IfOk-from_err c.from_residual-in_err-left-in-Most.result _ c.from_residual-in_err-left-in-Most.ensures.0
