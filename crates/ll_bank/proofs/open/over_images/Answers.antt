use Rattle.std.proofs.Common.{◌≡◌, ℕ, ◌+◌, ◌<◌, ap, sym, subst, ◌∙◌, arith, inl, inr, refl, Option}
use Rattle.ll_bank.specs.declared.FormAt.{FormAt}
use Rattle.ll_bank.specs.declared.FormNode.{FormNode}
use Rattle.ll_bank.specs.declared.FormNode.TheVariants.{With as WithView, Tensor as TensorView}
use Rattle.ll_bank.specs.declared.FormNode.TheVariants.{Plus as PlusView, Bang as BangView, Lolli as LolliView, Imp as ImpView, Forall as ForallView}
use Rattle.ll_bank.specs.declared.FormNode.TheVariants.{Exists as ExistsView}
use Rattle.ll_bank.specs.Form.{With, Tensor, Plus, Bang, Lolli, Imp, Forall, Exists, close_form}
use Rattle.std.specs.BTreeMap.{get}
use Rattle.ll_bank.specs.Nodes.{node_of, form_of, HasPartsBelow}
use Rattle.ll_bank.specs.Opened.{Spot, form_parts}
use Rattle.ll_bank.proofs.PartLemmas.{no_other_node}
use Rattle.ll_bank.specs.Instantiated.{by_spot, opened, IsIn, IsKnown}
use Rattle.ll_bank.proofs.OpenLemmas.{shows_inner}
use Rattle.ll_bank.proofs.open.over_images.Goals as goal

-- a part of the node has its image
known : (view v : FormNode) (n : ℕ) (lookup : Spot → Option FormAt) → ((k : Spot) → IsIn k (form_parts (node_of view) n) → IsKnown lookup k) → view ≡ v
    → (k : Spot) → IsIn k (form_parts (node_of v) n) → IsKnown lookup k
known view v n lookup h e k i = h k (subst (λ x. IsIn k (form_parts (node_of x) n)) (sym e) i)

pub unreachable-requires : goal.unreachable-requires
unreachable-requires c = no_other_node c.args.node c.args.task.place c.requires.plain c.requires.no_load c.in_default.not-Top c.in_default.not-One
    c.in_default.not-With c.in_default.not-Tensor c.in_default.not-Plus c.in_default.not-Bang c.in_default.not-Lolli c.in_default.not-Imp
    c.in_default.not-Forall c.in_default.not-Exists

pub returns-in-Top : goal.returns-in-Top
returns-in-Top c = λ bank t images. (tt, sym (ap (λ v. close_form (opened t c.args.task.level) (form_of bank v)) c.in-Top.is))

pub returns-in-One : goal.returns-in-One
returns-in-One c = λ bank t images. (tt, sym (ap (λ v. close_form (opened t c.args.task.level) (form_of bank v)) c.in-One.is))

pub form_image-requires : goal.form_image-requires
form_image-requires c = known c.args.node (WithView c.in-With.f c.in-With.g) c.args.task.level (get by_spot c.args.forms.now)
    c.requires.parts c.in-With.is (c.in-With.f.0, c.args.task.level) (inl refl)

pub form_image-requires-in-With : goal.form_image-requires-in-With
form_image-requires-in-With c = known c.args.node (WithView c.in-With.f c.in-With.g) c.args.task.level (get by_spot c.args.forms.now)
    c.requires.parts c.in-With.is (c.in-With.g.0, c.args.task.level) (inr (inl refl))

pub returns-in-With : goal.returns-in-With
returns-in-With c = λ bank t images.
    let f = (images (c.in-With.f.0, c.args.task.level) c.form_image.result c.form_image.ensures).1 in
    let g = (images (c.in-With.g.0, c.args.task.level) c.form_image-in-With.result c.form_image-in-With.ensures).1 in
    ((f.inside, g.inside), (λ i. With (f.tree i) (g.tree i)) ∙ sym (ap (λ v. close_form (opened t c.args.task.level) (form_of bank v)) c.in-With.is))

pub form_image-requires-in-Tensor : goal.form_image-requires-in-Tensor
form_image-requires-in-Tensor c = known c.args.node (TensorView c.in-Tensor.f c.in-Tensor.g) c.args.task.level (get by_spot c.args.forms.now)
    c.requires.parts c.in-Tensor.is (c.in-Tensor.f.0, c.args.task.level) (inl refl)

pub form_image-requires-in-Tensor-2 : goal.form_image-requires-in-Tensor-2
form_image-requires-in-Tensor-2 c = known c.args.node (TensorView c.in-Tensor.f c.in-Tensor.g) c.args.task.level (get by_spot c.args.forms.now)
    c.requires.parts c.in-Tensor.is (c.in-Tensor.g.0, c.args.task.level) (inr (inl refl))

pub returns-in-Tensor : goal.returns-in-Tensor
returns-in-Tensor c = λ bank t images.
    let f = (images (c.in-Tensor.f.0, c.args.task.level) c.form_image-in-Tensor.result c.form_image-in-Tensor.ensures).1 in
    let g = (images (c.in-Tensor.g.0, c.args.task.level) c.form_image-in-Tensor-2.result c.form_image-in-Tensor-2.ensures).1 in (
      (f.inside, g.inside),
      (λ i. Tensor (f.tree i) (g.tree i))
          ∙ sym (ap (λ v. close_form (opened t c.args.task.level) (form_of bank v)) c.in-Tensor.is),
    )

pub form_image-requires-in-Plus : goal.form_image-requires-in-Plus
form_image-requires-in-Plus c = known c.args.node (PlusView c.in-Plus.f c.in-Plus.g) c.args.task.level (get by_spot c.args.forms.now)
    c.requires.parts c.in-Plus.is (c.in-Plus.f.0, c.args.task.level) (inl refl)

pub form_image-requires-in-Plus-2 : goal.form_image-requires-in-Plus-2
form_image-requires-in-Plus-2 c = known c.args.node (PlusView c.in-Plus.f c.in-Plus.g) c.args.task.level (get by_spot c.args.forms.now)
    c.requires.parts c.in-Plus.is (c.in-Plus.g.0, c.args.task.level) (inr (inl refl))

pub returns-in-Plus : goal.returns-in-Plus
returns-in-Plus c = λ bank t images.
    let f = (images (c.in-Plus.f.0, c.args.task.level) c.form_image-in-Plus.result c.form_image-in-Plus.ensures).1 in
    let g = (images (c.in-Plus.g.0, c.args.task.level) c.form_image-in-Plus-2.result c.form_image-in-Plus-2.ensures).1 in
    ((f.inside, g.inside), (λ i. Plus (f.tree i) (g.tree i)) ∙ sym (ap (λ v. close_form (opened t c.args.task.level) (form_of bank v)) c.in-Plus.is))

pub form_image-requires-in-Lolli : goal.form_image-requires-in-Lolli
form_image-requires-in-Lolli c = known c.args.node (LolliView c.in-Lolli.f c.in-Lolli.g) c.args.task.level (get by_spot c.args.forms.now)
    c.requires.parts c.in-Lolli.is (c.in-Lolli.f.0, c.args.task.level) (inl refl)

pub form_image-requires-in-Lolli-2 : goal.form_image-requires-in-Lolli-2
form_image-requires-in-Lolli-2 c = known c.args.node (LolliView c.in-Lolli.f c.in-Lolli.g) c.args.task.level (get by_spot c.args.forms.now)
    c.requires.parts c.in-Lolli.is (c.in-Lolli.g.0, c.args.task.level) (inr (inl refl))

pub returns-in-Lolli : goal.returns-in-Lolli
returns-in-Lolli c = λ bank t images.
    let f = (images (c.in-Lolli.f.0, c.args.task.level) c.form_image-in-Lolli.result c.form_image-in-Lolli.ensures).1 in
    let g = (images (c.in-Lolli.g.0, c.args.task.level) c.form_image-in-Lolli-2.result c.form_image-in-Lolli-2.ensures).1 in (
      (f.inside, g.inside),
      (λ i. Lolli (f.tree i) (g.tree i))
          ∙ sym (ap (λ v. close_form (opened t c.args.task.level) (form_of bank v)) c.in-Lolli.is),
    )

pub form_image-requires-in-Imp : goal.form_image-requires-in-Imp
form_image-requires-in-Imp c = known c.args.node (ImpView c.in-Imp.f c.in-Imp.g) c.args.task.level (get by_spot c.args.forms.now)
    c.requires.parts c.in-Imp.is (c.in-Imp.f.0, c.args.task.level) (inl refl)

pub form_image-requires-in-Imp-2 : goal.form_image-requires-in-Imp-2
form_image-requires-in-Imp-2 c = known c.args.node (ImpView c.in-Imp.f c.in-Imp.g) c.args.task.level (get by_spot c.args.forms.now)
    c.requires.parts c.in-Imp.is (c.in-Imp.g.0, c.args.task.level) (inr (inl refl))

pub returns-in-Imp : goal.returns-in-Imp
returns-in-Imp c = λ bank t images.
    let f = (images (c.in-Imp.f.0, c.args.task.level) c.form_image-in-Imp.result c.form_image-in-Imp.ensures).1 in
    let g = (images (c.in-Imp.g.0, c.args.task.level) c.form_image-in-Imp-2.result c.form_image-in-Imp-2.ensures).1 in
    ((f.inside, g.inside), (λ i. Imp (f.tree i) (g.tree i)) ∙ sym (ap (λ v. close_form (opened t c.args.task.level) (form_of bank v)) c.in-Imp.is))

pub form_image-requires-in-Bang : goal.form_image-requires-in-Bang
form_image-requires-in-Bang c = known c.args.node (BangView c.in-Bang.f) c.args.task.level (get by_spot c.args.forms.now)
    c.requires.parts c.in-Bang.is (c.in-Bang.f.0, c.args.task.level) (inl refl)

pub returns-in-Bang : goal.returns-in-Bang
returns-in-Bang c = λ bank t images.
    let f = (images (c.in-Bang.f.0, c.args.task.level) c.form_image-in-Bang.result c.form_image-in-Bang.ensures).1 in
    (f.inside, ap Bang f.tree ∙ sym (ap (λ v. close_form (opened t c.args.task.level) (form_of bank v)) c.in-Bang.is))

pub overflow_add-level : goal.overflow_add-level
overflow_add-level c =
    let p : c.in-Forall.f.0 < c.args.task.place = subst (HasPartsBelow 0 c.args.task.place) c.in-Forall.is c.requires.plain in
    let l = c.requires.level in omega arith

pub form_image-requires-in-Forall : goal.form_image-requires-in-Forall
form_image-requires-in-Forall c = known c.args.node (ForallView c.in-Forall.f) c.args.task.level (get by_spot c.args.forms.now)
    c.requires.parts c.in-Forall.is (c.in-Forall.f.0, c.args.task.level + 1) (inl refl)

pub returns-in-Forall : goal.returns-in-Forall
returns-in-Forall c = λ bank t images.
    let f = (images (c.in-Forall.f.0, c.args.task.level + 1) c.form_image-in-Forall.result c.form_image-in-Forall.ensures).1 in (
      f.inside,
      ap Forall (shows_inner bank t c.args.task.level c.in-Forall.f.0 c.form_image-in-Forall.result f).tree
          ∙ sym (ap (λ v. close_form (opened t c.args.task.level) (form_of bank v)) c.in-Forall.is),
    )

pub overflow_add-level-in-Exists : goal.overflow_add-level-in-Exists
overflow_add-level-in-Exists c =
    let p : c.in-Exists.f.0 < c.args.task.place = subst (HasPartsBelow 0 c.args.task.place) c.in-Exists.is c.requires.plain in
    let l = c.requires.level in omega arith

pub form_image-requires-in-Exists : goal.form_image-requires-in-Exists
form_image-requires-in-Exists c = known c.args.node (ExistsView c.in-Exists.f) c.args.task.level (get by_spot c.args.forms.now)
    c.requires.parts c.in-Exists.is (c.in-Exists.f.0, c.args.task.level + 1) (inl refl)

pub returns-in-Exists : goal.returns-in-Exists
returns-in-Exists c = λ bank t images.
    let f = (images (c.in-Exists.f.0, c.args.task.level + 1) c.form_image-in-Exists.result c.form_image-in-Exists.ensures).1 in (
      f.inside,
      ap Exists (shows_inner bank t c.args.task.level c.in-Exists.f.0 c.form_image-in-Exists.result f).tree
          ∙ sym (ap (λ v. close_form (opened t c.args.task.level) (form_of bank v)) c.in-Exists.is),
    )
