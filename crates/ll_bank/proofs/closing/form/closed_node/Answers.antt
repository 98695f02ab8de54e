use Rattle.std.proofs.Common.{◌≡◌, ap, sym, subst, ◌∙◌, refl, map, All, true, ◌+◌, add-one}
use Rattle.std.specs.Prelude.{IfOk}
use Rattle.std.specs.HashMap.{get}
use Rattle.std.specs.List.{list_all}
use Rattle.std.proofs.lemmas.Bool.{and_parts}
use Rattle.ll_bank.specs.declared.At.{At}
use Rattle.ll_bank.specs.declared.FormNode.TheVariants.{With as WithView, Tensor as TensorView, Plus as PlusView, Bang as BangView, Lolli as LolliView}
use Rattle.ll_bank.specs.declared.FormNode.TheVariants.{Imp as ImpView, Forall as ForallView, Exists as ExistsView, Use as UseView}
use Rattle.ll_bank.specs.Term.{close, applies_heads}
use Rattle.ll_bank.specs.Form.{Atom, With, Tensor, Plus, Bang, Lolli, Imp, Forall, Exists, Use, close_form, form_applies_heads}
use Rattle.ll_bank.specs.Nodes.{term_tree, term_trees, form_tree, node_of, AllInTerms, ShowsForm}
use Rattle.ll_bank.proofs.Trees.{Extends-refl, Extends-trans, HasForm-extends, form_tree-extends}
use Rattle.ll_bank.proofs.PartLemmas.{load_heads}
use Rattle.ll_bank.specs.Closing.{env_in, under, same_spot, IsNum}
use Rattle.ll_bank.proofs.closes.Known.{on_ok, term_images_extend}
use Rattle.ll_bank.proofs.closes.Parts.{one_image, two_inside, first_inside, second_inside, joins_one, joins_two}
use Rattle.std.proofs.lemmas.Result.{IfOk-from_err}
use Rattle.ll_bank.proofs.closing.form.closed_node.Goals as goal

pub form_at-requires : goal.form_at-requires
form_at-requires c =
    c.requires.inside

pub returns-in-Top-clause-shows : goal.returns-in-Top-clause-shows
returns-in-Top-clause-shows c =
    let e = under (env_in c.args.bank.now c.args.values) c.args.task.level in
    record {
      inside = c.requires.inside;
      tree = c.in-Top.ensures.shown.tree ∙ sym (ap (close_form e) c.in-Top.ensures.shown.tree);
    }

pub returns-in-Top-clause-terms : goal.returns-in-Top-clause-terms
returns-in-Top-clause-terms c =
    c.requires.terms

pub returns-in-Top-clause-keeps : goal.returns-in-Top-clause-keeps
returns-in-Top-clause-keeps c =
    Extends-refl c.args.bank.now

pub returns-in-One-clause-shows : goal.returns-in-One-clause-shows
returns-in-One-clause-shows c =
    let e = under (env_in c.args.bank.now c.args.values) c.args.task.level in
    record {
      inside = c.requires.inside;
      tree = c.in-One.ensures.shown.tree ∙ sym (ap (close_form e) c.in-One.ensures.shown.tree);
    }

pub returns-in-One-clause-terms : goal.returns-in-One-clause-terms
returns-in-One-clause-terms c =
    c.requires.terms

pub returns-in-One-clause-keeps : goal.returns-in-One-clause-keeps
returns-in-One-clause-keeps c =
    Extends-refl c.args.bank.now

pub bounds-parts-0 : goal.bounds-parts-0
bounds-parts-0 c =
    let bank = c.args.bank.now in
    let env = env_in bank c.args.values in
    first_inside bank env c.args.task.place c.args.task.level c.args.parts.now c.requires.parts
    (node_of (WithView c.in-With.field-0 c.in-With.field-1)) c.in-With.ensures.node 1 refl

pub bounds-parts-1 : goal.bounds-parts-1
bounds-parts-1 c =
    let bank = c.args.bank.now in
    let env = env_in bank c.args.values in
    second_inside bank env c.args.task.place c.args.task.level c.args.parts.now c.requires.parts
    (node_of (WithView c.in-With.field-0 c.in-With.field-1)) c.in-With.ensures.node 0 refl

pub share_form-requires-in-With-clause-inside : goal.share_form-requires-in-With-clause-inside
share_form-requires-in-With-clause-inside c =
    c.requires.inside

pub share_form-requires-in-With-clause-parts : goal.share_form-requires-in-With-clause-parts
share_form-requires-in-With-clause-parts c =
    let bank = c.args.bank.now in
    let env = env_in bank c.args.values in
    two_inside bank env c.args.task.place c.args.task.level c.args.parts.now c.requires.parts
    (node_of (WithView c.in-With.field-0 c.in-With.field-1)) c.in-With.ensures.node
    c.in-With.field-0.0 c.in-With.field-1.0 c.args.task.level (record { 0 = 0 }) refl

pub returns-in-With-clause-shows : goal.returns-in-With-clause-shows
returns-in-With-clause-shows c =
    let bank = c.args.bank.now in
    let env = env_in bank c.args.values in
    subst (λ u. IfOk c.share_form-in-With.result (λ image. ShowsForm c.share_form-in-With.new.bank image.0 u))
    (joins_two bank env c.args.task.place c.args.task.level c.args.parts.now c.requires.parts
    (node_of (WithView c.in-With.field-0 c.in-With.field-1)) c.in-With.ensures.node With c.in-With.field-0.0 c.in-With.field-1.0 (record { 0 = 0 }) refl
    c.in-With.ensures.shown.tree (λ u v. refl))
    c.share_form-in-With.ensures.shows

pub returns-in-With-clause-terms : goal.returns-in-With-clause-terms
returns-in-With-clause-terms c =
    let bank = c.args.bank.now in
    let env = env_in bank c.args.values in
    on_ok c.share_form-in-With.result
    (term_images_extend bank c.share_form-in-With.new.bank c.share_form-in-With.ensures.keeps env (get same_spot c.args.terms.now.places)
    c.requires.terms)

pub returns-in-With-clause-keeps : goal.returns-in-With-clause-keeps
returns-in-With-clause-keeps c =
    c.share_form-in-With.ensures.keeps

pub bounds-parts-0-in-Tensor : goal.bounds-parts-0-in-Tensor
bounds-parts-0-in-Tensor c =
    let bank = c.args.bank.now in
    let env = env_in bank c.args.values in
    first_inside bank env c.args.task.place c.args.task.level c.args.parts.now c.requires.parts
    (node_of (TensorView c.in-Tensor.field-0 c.in-Tensor.field-1)) c.in-Tensor.ensures.node 1 refl

pub bounds-parts-1-in-Tensor : goal.bounds-parts-1-in-Tensor
bounds-parts-1-in-Tensor c =
    let bank = c.args.bank.now in
    let env = env_in bank c.args.values in
    second_inside bank env c.args.task.place c.args.task.level c.args.parts.now c.requires.parts
    (node_of (TensorView c.in-Tensor.field-0 c.in-Tensor.field-1)) c.in-Tensor.ensures.node 0 refl

pub share_form-requires-in-Tensor-clause-inside : goal.share_form-requires-in-Tensor-clause-inside
share_form-requires-in-Tensor-clause-inside c =
    c.requires.inside

pub share_form-requires-in-Tensor-clause-parts : goal.share_form-requires-in-Tensor-clause-parts
share_form-requires-in-Tensor-clause-parts c =
    let bank = c.args.bank.now in
    let env = env_in bank c.args.values in
    two_inside bank env c.args.task.place c.args.task.level c.args.parts.now c.requires.parts
    (node_of (TensorView c.in-Tensor.field-0 c.in-Tensor.field-1)) c.in-Tensor.ensures.node
    c.in-Tensor.field-0.0 c.in-Tensor.field-1.0 c.args.task.level (record { 0 = 0 }) refl

pub returns-in-Tensor-clause-shows : goal.returns-in-Tensor-clause-shows
returns-in-Tensor-clause-shows c =
    let bank = c.args.bank.now in
    let env = env_in bank c.args.values in
    subst (λ u. IfOk c.share_form-in-Tensor.result (λ image. ShowsForm c.share_form-in-Tensor.new.bank image.0 u))
    (joins_two bank env c.args.task.place c.args.task.level c.args.parts.now c.requires.parts
    (node_of (TensorView c.in-Tensor.field-0 c.in-Tensor.field-1)) c.in-Tensor.ensures.node
    Tensor c.in-Tensor.field-0.0 c.in-Tensor.field-1.0 (record { 0 = 0 }) refl
    c.in-Tensor.ensures.shown.tree (λ u v. refl))
    c.share_form-in-Tensor.ensures.shows

pub returns-in-Tensor-clause-terms : goal.returns-in-Tensor-clause-terms
returns-in-Tensor-clause-terms c =
    let bank = c.args.bank.now in
    let env = env_in bank c.args.values in
    on_ok c.share_form-in-Tensor.result
    (term_images_extend bank c.share_form-in-Tensor.new.bank c.share_form-in-Tensor.ensures.keeps env (get same_spot c.args.terms.now.places)
    c.requires.terms)

pub returns-in-Tensor-clause-keeps : goal.returns-in-Tensor-clause-keeps
returns-in-Tensor-clause-keeps c =
    c.share_form-in-Tensor.ensures.keeps

pub bounds-parts-0-in-Plus : goal.bounds-parts-0-in-Plus
bounds-parts-0-in-Plus c =
    let bank = c.args.bank.now in
    let env = env_in bank c.args.values in
    first_inside bank env c.args.task.place c.args.task.level c.args.parts.now c.requires.parts
    (node_of (PlusView c.in-Plus.field-0 c.in-Plus.field-1)) c.in-Plus.ensures.node 1 refl

pub bounds-parts-1-in-Plus : goal.bounds-parts-1-in-Plus
bounds-parts-1-in-Plus c =
    let bank = c.args.bank.now in
    let env = env_in bank c.args.values in
    second_inside bank env c.args.task.place c.args.task.level c.args.parts.now c.requires.parts
    (node_of (PlusView c.in-Plus.field-0 c.in-Plus.field-1)) c.in-Plus.ensures.node 0 refl

pub share_form-requires-in-Plus-clause-inside : goal.share_form-requires-in-Plus-clause-inside
share_form-requires-in-Plus-clause-inside c =
    c.requires.inside

pub share_form-requires-in-Plus-clause-parts : goal.share_form-requires-in-Plus-clause-parts
share_form-requires-in-Plus-clause-parts c =
    let bank = c.args.bank.now in
    let env = env_in bank c.args.values in
    two_inside bank env c.args.task.place c.args.task.level c.args.parts.now c.requires.parts
    (node_of (PlusView c.in-Plus.field-0 c.in-Plus.field-1)) c.in-Plus.ensures.node
    c.in-Plus.field-0.0 c.in-Plus.field-1.0 c.args.task.level (record { 0 = 0 }) refl

pub returns-in-Plus-clause-shows : goal.returns-in-Plus-clause-shows
returns-in-Plus-clause-shows c =
    let bank = c.args.bank.now in
    let env = env_in bank c.args.values in
    subst (λ u. IfOk c.share_form-in-Plus.result (λ image. ShowsForm c.share_form-in-Plus.new.bank image.0 u))
    (joins_two bank env c.args.task.place c.args.task.level c.args.parts.now c.requires.parts
    (node_of (PlusView c.in-Plus.field-0 c.in-Plus.field-1)) c.in-Plus.ensures.node Plus c.in-Plus.field-0.0 c.in-Plus.field-1.0 (record { 0 = 0 }) refl
    c.in-Plus.ensures.shown.tree (λ u v. refl))
    c.share_form-in-Plus.ensures.shows

pub returns-in-Plus-clause-terms : goal.returns-in-Plus-clause-terms
returns-in-Plus-clause-terms c =
    let bank = c.args.bank.now in
    let env = env_in bank c.args.values in
    on_ok c.share_form-in-Plus.result
    (term_images_extend bank c.share_form-in-Plus.new.bank c.share_form-in-Plus.ensures.keeps env (get same_spot c.args.terms.now.places)
    c.requires.terms)

pub returns-in-Plus-clause-keeps : goal.returns-in-Plus-clause-keeps
returns-in-Plus-clause-keeps c =
    c.share_form-in-Plus.ensures.keeps

pub bounds-parts-0-in-Lolli : goal.bounds-parts-0-in-Lolli
bounds-parts-0-in-Lolli c =
    let bank = c.args.bank.now in
    let env = env_in bank c.args.values in
    first_inside bank env c.args.task.place c.args.task.level c.args.parts.now c.requires.parts
    (node_of (LolliView c.in-Lolli.field-0 c.in-Lolli.field-1)) c.in-Lolli.ensures.node 1 refl

pub bounds-parts-1-in-Lolli : goal.bounds-parts-1-in-Lolli
bounds-parts-1-in-Lolli c =
    let bank = c.args.bank.now in
    let env = env_in bank c.args.values in
    second_inside bank env c.args.task.place c.args.task.level c.args.parts.now c.requires.parts
    (node_of (LolliView c.in-Lolli.field-0 c.in-Lolli.field-1)) c.in-Lolli.ensures.node 0 refl

pub share_form-requires-in-Lolli-clause-inside : goal.share_form-requires-in-Lolli-clause-inside
share_form-requires-in-Lolli-clause-inside c =
    c.requires.inside

pub share_form-requires-in-Lolli-clause-parts : goal.share_form-requires-in-Lolli-clause-parts
share_form-requires-in-Lolli-clause-parts c =
    let bank = c.args.bank.now in
    let env = env_in bank c.args.values in
    two_inside bank env c.args.task.place c.args.task.level c.args.parts.now c.requires.parts
    (node_of (LolliView c.in-Lolli.field-0 c.in-Lolli.field-1)) c.in-Lolli.ensures.node
    c.in-Lolli.field-0.0 c.in-Lolli.field-1.0 c.args.task.level (record { 0 = 0 }) refl

pub returns-in-Lolli-clause-shows : goal.returns-in-Lolli-clause-shows
returns-in-Lolli-clause-shows c =
    let bank = c.args.bank.now in
    let env = env_in bank c.args.values in
    subst (λ u. IfOk c.share_form-in-Lolli.result (λ image. ShowsForm c.share_form-in-Lolli.new.bank image.0 u))
    (joins_two bank env c.args.task.place c.args.task.level c.args.parts.now c.requires.parts
    (node_of (LolliView c.in-Lolli.field-0 c.in-Lolli.field-1)) c.in-Lolli.ensures.node Lolli c.in-Lolli.field-0.0 c.in-Lolli.field-1.0 (record { 0 = 0 }) refl
    c.in-Lolli.ensures.shown.tree (λ u v. refl))
    c.share_form-in-Lolli.ensures.shows

pub returns-in-Lolli-clause-terms : goal.returns-in-Lolli-clause-terms
returns-in-Lolli-clause-terms c =
    let bank = c.args.bank.now in
    let env = env_in bank c.args.values in
    on_ok c.share_form-in-Lolli.result
    (term_images_extend bank c.share_form-in-Lolli.new.bank c.share_form-in-Lolli.ensures.keeps env (get same_spot c.args.terms.now.places)
    c.requires.terms)

pub returns-in-Lolli-clause-keeps : goal.returns-in-Lolli-clause-keeps
returns-in-Lolli-clause-keeps c =
    c.share_form-in-Lolli.ensures.keeps

pub bounds-parts-0-in-Imp : goal.bounds-parts-0-in-Imp
bounds-parts-0-in-Imp c =
    let bank = c.args.bank.now in
    let env = env_in bank c.args.values in
    first_inside bank env c.args.task.place c.args.task.level c.args.parts.now c.requires.parts
    (node_of (ImpView c.in-Imp.field-0 c.in-Imp.field-1)) c.in-Imp.ensures.node 1 refl

pub bounds-parts-1-in-Imp : goal.bounds-parts-1-in-Imp
bounds-parts-1-in-Imp c =
    let bank = c.args.bank.now in
    let env = env_in bank c.args.values in
    second_inside bank env c.args.task.place c.args.task.level c.args.parts.now c.requires.parts
    (node_of (ImpView c.in-Imp.field-0 c.in-Imp.field-1)) c.in-Imp.ensures.node 0 refl

pub share_form-requires-in-Imp-clause-inside : goal.share_form-requires-in-Imp-clause-inside
share_form-requires-in-Imp-clause-inside c =
    c.requires.inside

pub share_form-requires-in-Imp-clause-parts : goal.share_form-requires-in-Imp-clause-parts
share_form-requires-in-Imp-clause-parts c =
    let bank = c.args.bank.now in
    let env = env_in bank c.args.values in
    two_inside bank env c.args.task.place c.args.task.level c.args.parts.now c.requires.parts
    (node_of (ImpView c.in-Imp.field-0 c.in-Imp.field-1)) c.in-Imp.ensures.node c.in-Imp.field-0.0 c.in-Imp.field-1.0 c.args.task.level (record { 0 = 0 }) refl

pub returns-in-Imp-clause-shows : goal.returns-in-Imp-clause-shows
returns-in-Imp-clause-shows c =
    let bank = c.args.bank.now in
    let env = env_in bank c.args.values in
    subst (λ u. IfOk c.share_form-in-Imp.result (λ image. ShowsForm c.share_form-in-Imp.new.bank image.0 u))
    (joins_two bank env c.args.task.place c.args.task.level c.args.parts.now c.requires.parts
    (node_of (ImpView c.in-Imp.field-0 c.in-Imp.field-1)) c.in-Imp.ensures.node Imp c.in-Imp.field-0.0 c.in-Imp.field-1.0 (record { 0 = 0 }) refl
    c.in-Imp.ensures.shown.tree (λ u v. refl))
    c.share_form-in-Imp.ensures.shows

pub returns-in-Imp-clause-terms : goal.returns-in-Imp-clause-terms
returns-in-Imp-clause-terms c =
    let bank = c.args.bank.now in
    let env = env_in bank c.args.values in
    on_ok c.share_form-in-Imp.result
    (term_images_extend bank c.share_form-in-Imp.new.bank c.share_form-in-Imp.ensures.keeps env (get same_spot c.args.terms.now.places)
    c.requires.terms)

pub returns-in-Imp-clause-keeps : goal.returns-in-Imp-clause-keeps
returns-in-Imp-clause-keeps c =
    c.share_form-in-Imp.ensures.keeps

pub bounds-parts-0-in-Bang : goal.bounds-parts-0-in-Bang
bounds-parts-0-in-Bang c =
    let bank = c.args.bank.now in
    let env = env_in bank c.args.values in
    first_inside bank env c.args.task.place c.args.task.level c.args.parts.now c.requires.parts
    (node_of (BangView c.in-Bang.field-0)) c.in-Bang.ensures.node 0 refl

pub share_form-requires-in-Bang-clause-inside : goal.share_form-requires-in-Bang-clause-inside
share_form-requires-in-Bang-clause-inside c =
    c.requires.inside

pub share_form-requires-in-Bang-clause-parts : goal.share_form-requires-in-Bang-clause-parts
share_form-requires-in-Bang-clause-parts c =
    let bank = c.args.bank.now in
    let env = env_in bank c.args.values in
    (one_image bank env c.args.task.place c.args.task.level c.args.parts.now c.requires.parts
    (node_of (BangView c.in-Bang.field-0)) c.in-Bang.ensures.node c.in-Bang.field-0.0 c.args.task.level (record { 0 = 0 }) refl).inside

pub returns-in-Bang-clause-shows : goal.returns-in-Bang-clause-shows
returns-in-Bang-clause-shows c =
    let bank = c.args.bank.now in
    let env = env_in bank c.args.values in
    subst (λ u. IfOk c.share_form-in-Bang.result (λ image. ShowsForm c.share_form-in-Bang.new.bank image.0 u))
    (joins_one bank env c.args.task.place c.args.task.level c.args.parts.now c.requires.parts
    (node_of (BangView c.in-Bang.field-0)) c.in-Bang.ensures.node Bang c.in-Bang.field-0.0 c.args.task.level (record { 0 = 0 }) refl
    c.in-Bang.ensures.shown.tree (λ u. refl))
    c.share_form-in-Bang.ensures.shows

pub returns-in-Bang-clause-terms : goal.returns-in-Bang-clause-terms
returns-in-Bang-clause-terms c =
    let bank = c.args.bank.now in
    let env = env_in bank c.args.values in
    on_ok c.share_form-in-Bang.result
    (term_images_extend bank c.share_form-in-Bang.new.bank c.share_form-in-Bang.ensures.keeps env (get same_spot c.args.terms.now.places)
    c.requires.terms)

pub returns-in-Bang-clause-keeps : goal.returns-in-Bang-clause-keeps
returns-in-Bang-clause-keeps c =
    c.share_form-in-Bang.ensures.keeps

pub bounds-parts-0-in-Forall : goal.bounds-parts-0-in-Forall
bounds-parts-0-in-Forall c =
    let bank = c.args.bank.now in
    let env = env_in bank c.args.values in
    first_inside bank env c.args.task.place c.args.task.level c.args.parts.now c.requires.parts
    (node_of (ForallView c.in-Forall.field-0)) c.in-Forall.ensures.node 0 refl

pub share_form-requires-in-Forall-clause-inside : goal.share_form-requires-in-Forall-clause-inside
share_form-requires-in-Forall-clause-inside c =
    c.requires.inside

pub share_form-requires-in-Forall-clause-parts : goal.share_form-requires-in-Forall-clause-parts
share_form-requires-in-Forall-clause-parts c =
    let bank = c.args.bank.now in
    let env = env_in bank c.args.values in
    (one_image bank env c.args.task.place c.args.task.level c.args.parts.now c.requires.parts
    (node_of (ForallView c.in-Forall.field-0)) c.in-Forall.ensures.node c.in-Forall.field-0.0 (c.args.task.level + 1) (record { 0 = 0 }) refl).inside

pub returns-in-Forall-clause-shows : goal.returns-in-Forall-clause-shows
returns-in-Forall-clause-shows c =
    let bank = c.args.bank.now in
    let env = env_in bank c.args.values in
    subst (λ u. IfOk c.share_form-in-Forall.result (λ image. ShowsForm c.share_form-in-Forall.new.bank image.0 u))
    (joins_one bank env c.args.task.place c.args.task.level c.args.parts.now c.requires.parts
    (node_of (ForallView c.in-Forall.field-0)) c.in-Forall.ensures.node Forall c.in-Forall.field-0.0 (c.args.task.level + 1) (record { 0 = 0 }) refl
    c.in-Forall.ensures.shown.tree (λ u. ap (λ m. Forall (close_form (under env m) u)) (sym (add-one c.args.task.level))))
    c.share_form-in-Forall.ensures.shows

pub returns-in-Forall-clause-terms : goal.returns-in-Forall-clause-terms
returns-in-Forall-clause-terms c =
    let bank = c.args.bank.now in
    let env = env_in bank c.args.values in
    on_ok c.share_form-in-Forall.result
    (term_images_extend bank c.share_form-in-Forall.new.bank c.share_form-in-Forall.ensures.keeps env (get same_spot c.args.terms.now.places)
    c.requires.terms)

pub returns-in-Forall-clause-keeps : goal.returns-in-Forall-clause-keeps
returns-in-Forall-clause-keeps c =
    c.share_form-in-Forall.ensures.keeps

pub bounds-parts-0-in-Exists : goal.bounds-parts-0-in-Exists
bounds-parts-0-in-Exists c =
    let bank = c.args.bank.now in
    let env = env_in bank c.args.values in
    first_inside bank env c.args.task.place c.args.task.level c.args.parts.now c.requires.parts
    (node_of (ExistsView c.in-Exists.field-0)) c.in-Exists.ensures.node 0 refl

pub share_form-requires-in-Exists-clause-inside : goal.share_form-requires-in-Exists-clause-inside
share_form-requires-in-Exists-clause-inside c =
    c.requires.inside

pub share_form-requires-in-Exists-clause-parts : goal.share_form-requires-in-Exists-clause-parts
share_form-requires-in-Exists-clause-parts c =
    let bank = c.args.bank.now in
    let env = env_in bank c.args.values in
    (one_image bank env c.args.task.place c.args.task.level c.args.parts.now c.requires.parts
    (node_of (ExistsView c.in-Exists.field-0)) c.in-Exists.ensures.node c.in-Exists.field-0.0 (c.args.task.level + 1) (record { 0 = 0 }) refl).inside

pub returns-in-Exists-clause-shows : goal.returns-in-Exists-clause-shows
returns-in-Exists-clause-shows c =
    let bank = c.args.bank.now in
    let env = env_in bank c.args.values in
    subst (λ u. IfOk c.share_form-in-Exists.result (λ image. ShowsForm c.share_form-in-Exists.new.bank image.0 u))
    (joins_one bank env c.args.task.place c.args.task.level c.args.parts.now c.requires.parts
    (node_of (ExistsView c.in-Exists.field-0)) c.in-Exists.ensures.node Exists c.in-Exists.field-0.0 (c.args.task.level + 1) (record { 0 = 0 }) refl
    c.in-Exists.ensures.shown.tree (λ u. ap (λ m. Exists (close_form (under env m) u)) (sym (add-one c.args.task.level))))
    c.share_form-in-Exists.ensures.shows

pub returns-in-Exists-clause-terms : goal.returns-in-Exists-clause-terms
returns-in-Exists-clause-terms c =
    let bank = c.args.bank.now in
    let env = env_in bank c.args.values in
    on_ok c.share_form-in-Exists.result
    (term_images_extend bank c.share_form-in-Exists.new.bank c.share_form-in-Exists.ensures.keeps env (get same_spot c.args.terms.now.places)
    c.requires.terms)

pub returns-in-Exists-clause-keeps : goal.returns-in-Exists-clause-keeps
returns-in-Exists-clause-keeps c =
    c.share_form-in-Exists.ensures.keeps

pub closed_term-requires-clause-inside : goal.closed_term-requires-clause-inside
closed_term-requires-clause-inside c =
    c.in-Atom.ensures.shown.parts

pub closed_term-requires-clause-values : goal.closed_term-requires-clause-values
closed_term-requires-clause-values c =
    c.requires.values

pub closed_term-requires-clause-heads : goal.closed_term-requires-clause-heads
closed_term-requires-clause-heads c =
    let e = under (env_in c.args.bank.now c.args.values) c.args.task.level in
    sym (ap (λ x. form_applies_heads (close_form e x)) c.in-Atom.ensures.shown.tree) ∙ c.requires.heads

pub closed_term-requires-clause-images : goal.closed_term-requires-clause-images
closed_term-requires-clause-images c =
    c.requires.terms

pub returns-in_err-atom-in-Atom-clause-keeps : goal.returns-in_err-atom-in-Atom-clause-keeps
returns-in_err-atom-in-Atom-clause-keeps c =
    c.closed_term.ensures.keeps

pub share_form-requires-clause-inside : goal.share_form-requires-clause-inside
share_form-requires-clause-inside c =
    HasForm-extends c.closed_term.ensures.keeps c.args.task.place c.requires.inside

pub share_form-requires-clause-parts : goal.share_form-requires-clause-parts
share_form-requires-clause-parts c =
    c.in_ok-atom-in-Atom.ensures.shows.inside

pub returns-in_ok-atom-in-Atom-clause-shows : goal.returns-in_ok-atom-in-Atom-clause-shows
returns-in_ok-atom-in-Atom-clause-shows c =
    let e = under (env_in c.args.bank.now c.args.values) c.args.task.level in
    subst (λ u. IfOk c.share_form.result (λ image. ShowsForm c.share_form.new.bank image.0 u))
    (ap Atom c.in_ok-atom-in-Atom.ensures.shows.tree ∙ sym (ap (close_form e) c.in-Atom.ensures.shown.tree))
    c.share_form.ensures.shows

pub returns-in_ok-atom-in-Atom-clause-terms : goal.returns-in_ok-atom-in-Atom-clause-terms
returns-in_ok-atom-in-Atom-clause-terms c =
    let env = env_in c.args.bank.now c.args.values in
    on_ok c.share_form.result
    (term_images_extend c.closed_term.new.bank c.share_form.new.bank c.share_form.ensures.keeps env (get same_spot c.closed_term.new.images.places)
    c.in_ok-atom-in-Atom.ensures.images)

pub returns-in_ok-atom-in-Atom-clause-keeps : goal.returns-in_ok-atom-in-Atom-clause-keeps
returns-in_ok-atom-in-Atom-clause-keeps c =
    Extends-trans c.closed_term.ensures.keeps c.share_form.ensures.keeps

pub closed_number_goal-requires-clause-inside : goal.closed_number_goal-requires-clause-inside
closed_number_goal-requires-clause-inside c = c.requires.inside

pub closed_number_goal-requires-clause-values : goal.closed_number_goal-requires-clause-values
closed_number_goal-requires-clause-values c = c.requires.values

pub closed_number_goal-requires-clause-heads : goal.closed_number_goal-requires-clause-heads
closed_number_goal-requires-clause-heads c = c.requires.heads

pub closed_number_goal-requires-clause-terms : goal.closed_number_goal-requires-clause-terms
closed_number_goal-requires-clause-terms c = c.requires.terms

pub closed_number_goal-requires-clause-number : goal.closed_number_goal-requires-clause-number
closed_number_goal-requires-clause-number c = subst IsNum (sym c.in-Is.ensures.shown.tree) tt

pub closed_number_goal-requires-in-Less-clause-inside : goal.closed_number_goal-requires-in-Less-clause-inside
closed_number_goal-requires-in-Less-clause-inside c = c.requires.inside

pub closed_number_goal-requires-in-Less-clause-values : goal.closed_number_goal-requires-in-Less-clause-values
closed_number_goal-requires-in-Less-clause-values c = c.requires.values

pub closed_number_goal-requires-in-Less-clause-heads : goal.closed_number_goal-requires-in-Less-clause-heads
closed_number_goal-requires-in-Less-clause-heads c = c.requires.heads

pub closed_number_goal-requires-in-Less-clause-terms : goal.closed_number_goal-requires-in-Less-clause-terms
closed_number_goal-requires-in-Less-clause-terms c = c.requires.terms

pub closed_number_goal-requires-in-Less-clause-number : goal.closed_number_goal-requires-in-Less-clause-number
closed_number_goal-requires-in-Less-clause-number c = subst IsNum (sym c.in-Less.ensures.shown.tree) tt

pub closed_number_goal-requires-in-Most-clause-inside : goal.closed_number_goal-requires-in-Most-clause-inside
closed_number_goal-requires-in-Most-clause-inside c = c.requires.inside

pub closed_number_goal-requires-in-Most-clause-values : goal.closed_number_goal-requires-in-Most-clause-values
closed_number_goal-requires-in-Most-clause-values c = c.requires.values

pub closed_number_goal-requires-in-Most-clause-heads : goal.closed_number_goal-requires-in-Most-clause-heads
closed_number_goal-requires-in-Most-clause-heads c = c.requires.heads

pub closed_number_goal-requires-in-Most-clause-terms : goal.closed_number_goal-requires-in-Most-clause-terms
closed_number_goal-requires-in-Most-clause-terms c = c.requires.terms

pub closed_number_goal-requires-in-Most-clause-number : goal.closed_number_goal-requires-in-Most-clause-number
closed_number_goal-requires-in-Most-clause-number c = subst IsNum (sym c.in-Most.ensures.shown.tree) tt

pub bounds-parts-0-in-Use : goal.bounds-parts-0-in-Use
bounds-parts-0-in-Use c =
    let bank = c.args.bank.now in
    let env = env_in bank c.args.values in
    first_inside bank env c.args.task.place c.args.task.level c.args.parts.now c.requires.parts
    (node_of (UseView c.in-Use.module c.in-Use.args c.in-Use.field-2)) c.in-Use.ensures.node 0 refl

pub returns-in_err-args-in-Use-clause-keeps : goal.returns-in_err-args-in-Use-clause-keeps
returns-in_err-args-in-Use-clause-keeps c =
    Extends-refl c.args.bank.now

pub closed_terms-requires-clause-inside : goal.closed_terms-requires-clause-inside
closed_terms-requires-clause-inside c =
    subst (AllInTerms c.args.bank.now) (sym (c.deref.ensures.value ∙ c.in_ok-args-in-Use.ensures.items)) c.in-Use.ensures.shown.parts.0

pub closed_terms-requires-clause-values : goal.closed_terms-requires-clause-values
closed_terms-requires-clause-values c =
    c.requires.values

pub closed_terms-requires-clause-terms : goal.closed_terms-requires-clause-terms
closed_terms-requires-clause-terms c =
    c.requires.terms

pub returns-in_err-args-in-Use-2-clause-keeps : goal.returns-in_err-args-in-Use-2-clause-keeps
returns-in_err-args-in-Use-2-clause-keeps c =
    c.closed_terms.ensures.keeps

pub share_form-requires-in-Use-clause-inside : goal.share_form-requires-in-Use-clause-inside
share_form-requires-in-Use-clause-inside c =
    HasForm-extends c.closed_terms.ensures.keeps c.args.task.place c.requires.inside

pub share_form-requires-in-Use-clause-parts : goal.share_form-requires-in-Use-clause-parts
share_form-requires-in-Use-clause-parts c =
    let bank = c.args.bank.now in
    let env = env_in bank c.args.values in (
      subst (AllInTerms c.closed_terms.new.bank) (sym c.deref-in-Use.ensures.value) c.in_ok-args-in-Use-2.ensures.places,
      HasForm-extends c.closed_terms.ensures.keeps _ (one_image bank env c.args.task.place c.args.task.level c.args.parts.now c.requires.parts
          (node_of (UseView c.in-Use.module c.in-Use.args c.in-Use.field-2)) c.in-Use.ensures.node
          c.in-Use.field-2.0 c.args.task.level (record { 0 = 0 }) refl).inside,
    )

pub returns-in_ok-args-in-Use-2-clause-terms : goal.returns-in_ok-args-in-Use-2-clause-terms
returns-in_ok-args-in-Use-2-clause-terms c =
    let env = env_in c.args.bank.now c.args.values in
    on_ok c.share_form-in-Use.result
    (term_images_extend c.closed_terms.new.bank c.share_form-in-Use.new.bank c.share_form-in-Use.ensures.keeps env
    (get same_spot c.closed_terms.new.terms.places) c.in_ok-args-in-Use-2.ensures.terms)

pub returns-in_ok-args-in-Use-2-clause-keeps : goal.returns-in_ok-args-in-Use-2-clause-keeps
returns-in_ok-args-in-Use-2-clause-keeps c =
    Extends-trans c.closed_terms.ensures.keeps c.share_form-in-Use.ensures.keeps

pub closed_terms-requires-clause-heads : goal.closed_terms-requires-clause-heads
closed_terms-requires-clause-heads c =
    let e = (under (env_in c.args.bank.now c.args.values) c.args.task.level) in
    let p = and_parts (list_all applies_heads (map (close e) (term_trees c.args.bank.now c.in-Use.args.now)))
    (form_applies_heads (close_form e (form_tree c.args.bank.now c.in-Use.field-2.0)))
    (sym (ap (λ x. form_applies_heads (close_form e x)) c.in-Use.ensures.shown.tree) ∙ c.requires.heads) in
    subst (All (λ (a : At). applies_heads (close e (term_tree c.args.bank.now a.0)) ≡ true)) (sym (c.deref.ensures.value ∙ c.in_ok-args-in-Use.ensures.items))
    (load_heads e c.args.bank.now c.in-Use.args.now p.0)

pub returns-in_ok-args-in-Use-2-clause-shows : goal.returns-in_ok-args-in-Use-2-clause-shows
returns-in_ok-args-in-Use-2-clause-shows c =
    let e = (under (env_in c.args.bank.now c.args.values) c.args.task.level) in
    let t = one_image c.args.bank.now (env_in c.args.bank.now c.args.values) c.args.task.place c.args.task.level c.args.parts.now c.requires.parts
    (node_of (UseView c.in-Use.module c.in-Use.args c.in-Use.field-2)) c.in-Use.ensures.node c.in-Use.field-2.0 c.args.task.level (record { 0 = 0 }) refl in
    let a = ap (term_trees c.closed_terms.new.bank) c.deref-in-Use.ensures.value
    ∙ (c.in_ok-args-in-Use-2.ensures.shows ∙ ap (λ xs. map (close e) (term_trees c.args.bank.now xs))
    (c.deref.ensures.value ∙ c.in_ok-args-in-Use.ensures.items)) in
    let f = form_tree-extends c.closed_terms.ensures.keeps _ t.inside ∙ t.tree in
    subst (λ u. IfOk c.share_form-in-Use.result (λ image. ShowsForm c.share_form-in-Use.new.bank image.0 u))
    ((λ i. Use c.in-Use.module (a i) (f i)) ∙ sym (ap (close_form e) c.in-Use.ensures.shown.tree)) c.share_form-in-Use.ensures.shows

pub returns-in_err-atom-in-Atom-clause-shows : goal.returns-in_err-atom-in-Atom-clause-shows
returns-in_err-atom-in-Atom-clause-shows c = IfOk-from_err c.from_residual.result _ c.from_residual.ensures.0

pub returns-in_err-atom-in-Atom-clause-terms : goal.returns-in_err-atom-in-Atom-clause-terms
returns-in_err-atom-in-Atom-clause-terms c = IfOk-from_err c.from_residual.result _ c.from_residual.ensures.0

pub returns-in_err-args-in-Use-clause-shows : goal.returns-in_err-args-in-Use-clause-shows
returns-in_err-args-in-Use-clause-shows c = IfOk-from_err c.from_residual-in_err-args-in-Use.result _ c.from_residual-in_err-args-in-Use.ensures.0

pub returns-in_err-args-in-Use-clause-terms : goal.returns-in_err-args-in-Use-clause-terms
returns-in_err-args-in-Use-clause-terms c = IfOk-from_err c.from_residual-in_err-args-in-Use.result _ c.from_residual-in_err-args-in-Use.ensures.0

pub returns-in_err-args-in-Use-2-clause-shows : goal.returns-in_err-args-in-Use-2-clause-shows
returns-in_err-args-in-Use-2-clause-shows c = IfOk-from_err c.from_residual-in_err-args-in-Use-2.result _ c.from_residual-in_err-args-in-Use-2.ensures.0

pub returns-in_err-args-in-Use-2-clause-terms : goal.returns-in_err-args-in-Use-2-clause-terms
returns-in_err-args-in-Use-2-clause-terms c = IfOk-from_err c.from_residual-in_err-args-in-Use-2.result _ c.from_residual-in_err-args-in-Use-2.ensures.0

pub returns-in-Is-clause-shows : goal.returns-in-Is-clause-shows
returns-in-Is-clause-shows c = c.closed_number_goal.ensures.shows

pub returns-in-Is-clause-terms : goal.returns-in-Is-clause-terms
returns-in-Is-clause-terms c = c.closed_number_goal.ensures.terms

pub returns-in-Is-clause-keeps : goal.returns-in-Is-clause-keeps
returns-in-Is-clause-keeps c = c.closed_number_goal.ensures.keeps

pub returns-in-Less-clause-shows : goal.returns-in-Less-clause-shows
returns-in-Less-clause-shows c = c.closed_number_goal-in-Less.ensures.shows

pub returns-in-Less-clause-terms : goal.returns-in-Less-clause-terms
returns-in-Less-clause-terms c = c.closed_number_goal-in-Less.ensures.terms

pub returns-in-Less-clause-keeps : goal.returns-in-Less-clause-keeps
returns-in-Less-clause-keeps c = c.closed_number_goal-in-Less.ensures.keeps

pub returns-in-Most-clause-shows : goal.returns-in-Most-clause-shows
returns-in-Most-clause-shows c = c.closed_number_goal-in-Most.ensures.shows

pub returns-in-Most-clause-terms : goal.returns-in-Most-clause-terms
returns-in-Most-clause-terms c = c.closed_number_goal-in-Most.ensures.terms

pub returns-in-Most-clause-keeps : goal.returns-in-Most-clause-keeps
returns-in-Most-clause-keeps c = c.closed_number_goal-in-Most.ensures.keeps
