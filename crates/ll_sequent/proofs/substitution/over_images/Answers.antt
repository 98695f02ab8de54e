use Rattle.std.proofs.Common.{◌≡◌, ℕ, length, ap, sym, subst, ◌∙◌}
use Rattle.ll_bank.specs.declared.FormNode.{FormNode}
use Rattle.ll_bank.specs.declared.FormNode.TheVariants.{With as WithView, Tensor as TensorView}
use Rattle.ll_bank.specs.declared.FormNode.TheVariants.{Plus as PlusView, Bang as BangView, Lolli as LolliView, Imp as ImpView, Forall as ForallView}
use Rattle.ll_bank.specs.declared.FormNode.TheVariants.{Exists as ExistsView}
use Rattle.ll_bank.specs.Form.{With, Tensor, Plus, Bang, Lolli, Imp, Forall, Exists, sub_form}
use Rattle.ll_bank.specs.Nodes.{form_of, HasPartsBelow}
use Rattle.ll_bank.proofs.CallerLemmas.{no_other_node}
use Rattle.ll_sequent.specs.Starting.{values}
use Rattle.ll_sequent.proofs.substitution.over_images.Goals as goal

below : (view v : FormNode) (n : ℕ) → HasPartsBelow 0 n view → view ≡ v → HasPartsBelow 0 n v
below view v n h e = subst (HasPartsBelow 0 n) e h

pub unreachable-requires : goal.unreachable-requires
unreachable-requires c = no_other_node c.args.node (length c.args.forms.now) c.requires.plain c.requires.no_load c.in_default.not-Top c.in_default.not-One
    c.in_default.not-With c.in_default.not-Tensor c.in_default.not-Plus c.in_default.not-Bang c.in_default.not-Lolli c.in_default.not-Imp
    c.in_default.not-Forall c.in_default.not-Exists

pub returns-in-Top : goal.returns-in-Top
returns-in-Top c = λ bank ts images. (tt, sym (ap (λ v. sub_form (values ts) (form_of bank v)) c.in-Top.is))

pub returns-in-One : goal.returns-in-One
returns-in-One c = λ bank ts images. (tt, sym (ap (λ v. sub_form (values ts) (form_of bank v)) c.in-One.is))

pub bounds-forms-f : goal.bounds-forms-f
bounds-forms-f c = (below c.args.node (WithView c.in-With.f c.in-With.g) (length c.args.forms.now) c.requires.plain c.in-With.is).0

pub bounds-forms-g : goal.bounds-forms-g
bounds-forms-g c = (below c.args.node (WithView c.in-With.f c.in-With.g) (length c.args.forms.now) c.requires.plain c.in-With.is).1

pub returns-in-With : goal.returns-in-With
returns-in-With c = λ bank ts images.
    let low = below c.args.node (WithView c.in-With.f c.in-With.g) (length c.args.forms.now) c.requires.plain c.in-With.is in
    let f = (images c.in-With.f.0 (record { 0 = 0 }) low.0).shows in
    let g = (images c.in-With.g.0 (record { 0 = 0 }) low.1).shows in
    ((f.inside, g.inside), (λ i. With (f.tree i) (g.tree i)) ∙ sym (ap (λ v. sub_form (values ts) (form_of bank v)) c.in-With.is))

pub bounds-forms-f-in-Tensor : goal.bounds-forms-f-in-Tensor
bounds-forms-f-in-Tensor c = (below c.args.node (TensorView c.in-Tensor.f c.in-Tensor.g) (length c.args.forms.now) c.requires.plain c.in-Tensor.is).0

pub bounds-forms-g-in-Tensor : goal.bounds-forms-g-in-Tensor
bounds-forms-g-in-Tensor c = (below c.args.node (TensorView c.in-Tensor.f c.in-Tensor.g) (length c.args.forms.now) c.requires.plain c.in-Tensor.is).1

pub returns-in-Tensor : goal.returns-in-Tensor
returns-in-Tensor c = λ bank ts images.
    let low = below c.args.node (TensorView c.in-Tensor.f c.in-Tensor.g) (length c.args.forms.now) c.requires.plain c.in-Tensor.is in
    let f = (images c.in-Tensor.f.0 (record { 0 = 0 }) low.0).shows in
    let g = (images c.in-Tensor.g.0 (record { 0 = 0 }) low.1).shows in
    ((f.inside, g.inside), (λ i. Tensor (f.tree i) (g.tree i)) ∙ sym (ap (λ v. sub_form (values ts) (form_of bank v)) c.in-Tensor.is))

pub bounds-forms-f-in-Plus : goal.bounds-forms-f-in-Plus
bounds-forms-f-in-Plus c = (below c.args.node (PlusView c.in-Plus.f c.in-Plus.g) (length c.args.forms.now) c.requires.plain c.in-Plus.is).0

pub bounds-forms-g-in-Plus : goal.bounds-forms-g-in-Plus
bounds-forms-g-in-Plus c = (below c.args.node (PlusView c.in-Plus.f c.in-Plus.g) (length c.args.forms.now) c.requires.plain c.in-Plus.is).1

pub returns-in-Plus : goal.returns-in-Plus
returns-in-Plus c = λ bank ts images.
    let low = below c.args.node (PlusView c.in-Plus.f c.in-Plus.g) (length c.args.forms.now) c.requires.plain c.in-Plus.is in
    let f = (images c.in-Plus.f.0 (record { 0 = 0 }) low.0).shows in
    let g = (images c.in-Plus.g.0 (record { 0 = 0 }) low.1).shows in
    ((f.inside, g.inside), (λ i. Plus (f.tree i) (g.tree i)) ∙ sym (ap (λ v. sub_form (values ts) (form_of bank v)) c.in-Plus.is))

pub bounds-forms-f-in-Lolli : goal.bounds-forms-f-in-Lolli
bounds-forms-f-in-Lolli c = (below c.args.node (LolliView c.in-Lolli.f c.in-Lolli.g) (length c.args.forms.now) c.requires.plain c.in-Lolli.is).0

pub bounds-forms-g-in-Lolli : goal.bounds-forms-g-in-Lolli
bounds-forms-g-in-Lolli c = (below c.args.node (LolliView c.in-Lolli.f c.in-Lolli.g) (length c.args.forms.now) c.requires.plain c.in-Lolli.is).1

pub returns-in-Lolli : goal.returns-in-Lolli
returns-in-Lolli c = λ bank ts images.
    let low = below c.args.node (LolliView c.in-Lolli.f c.in-Lolli.g) (length c.args.forms.now) c.requires.plain c.in-Lolli.is in
    let f = (images c.in-Lolli.f.0 (record { 0 = 0 }) low.0).shows in
    let g = (images c.in-Lolli.g.0 (record { 0 = 0 }) low.1).shows in
    ((f.inside, g.inside), (λ i. Lolli (f.tree i) (g.tree i)) ∙ sym (ap (λ v. sub_form (values ts) (form_of bank v)) c.in-Lolli.is))

pub bounds-forms-f-in-Imp : goal.bounds-forms-f-in-Imp
bounds-forms-f-in-Imp c = (below c.args.node (ImpView c.in-Imp.f c.in-Imp.g) (length c.args.forms.now) c.requires.plain c.in-Imp.is).0

pub bounds-forms-g-in-Imp : goal.bounds-forms-g-in-Imp
bounds-forms-g-in-Imp c = (below c.args.node (ImpView c.in-Imp.f c.in-Imp.g) (length c.args.forms.now) c.requires.plain c.in-Imp.is).1

pub returns-in-Imp : goal.returns-in-Imp
returns-in-Imp c = λ bank ts images.
    let low = below c.args.node (ImpView c.in-Imp.f c.in-Imp.g) (length c.args.forms.now) c.requires.plain c.in-Imp.is in
    let f = (images c.in-Imp.f.0 (record { 0 = 0 }) low.0).shows in
    let g = (images c.in-Imp.g.0 (record { 0 = 0 }) low.1).shows in
    ((f.inside, g.inside), (λ i. Imp (f.tree i) (g.tree i)) ∙ sym (ap (λ v. sub_form (values ts) (form_of bank v)) c.in-Imp.is))

pub bounds-forms-f-in-Bang : goal.bounds-forms-f-in-Bang
bounds-forms-f-in-Bang c = below c.args.node (BangView c.in-Bang.f) (length c.args.forms.now) c.requires.plain c.in-Bang.is

pub returns-in-Bang : goal.returns-in-Bang
returns-in-Bang c = λ bank ts images.
    let f = (images c.in-Bang.f.0 (record { 0 = 0 })
    (below c.args.node (BangView c.in-Bang.f) (length c.args.forms.now) c.requires.plain c.in-Bang.is)).shows in
    (f.inside, ap Bang f.tree ∙ sym (ap (λ v. sub_form (values ts) (form_of bank v)) c.in-Bang.is))

pub bounds-forms-f-in-Forall : goal.bounds-forms-f-in-Forall
bounds-forms-f-in-Forall c = below c.args.node (ForallView c.in-Forall.f) (length c.args.forms.now) c.requires.plain c.in-Forall.is

pub returns-in-Forall : goal.returns-in-Forall
returns-in-Forall c = λ bank ts images.
    let f = (images c.in-Forall.f.0 (record { 0 = 0 })
    (below c.args.node (ForallView c.in-Forall.f) (length c.args.forms.now) c.requires.plain c.in-Forall.is)).shows in
    (f.inside, ap Forall f.tree ∙ sym (ap (λ v. sub_form (values ts) (form_of bank v)) c.in-Forall.is))

pub bounds-forms-f-in-Exists : goal.bounds-forms-f-in-Exists
bounds-forms-f-in-Exists c = below c.args.node (ExistsView c.in-Exists.f) (length c.args.forms.now) c.requires.plain c.in-Exists.is

pub returns-in-Exists : goal.returns-in-Exists
returns-in-Exists c = λ bank ts images.
    let f = (images c.in-Exists.f.0 (record { 0 = 0 })
    (below c.args.node (ExistsView c.in-Exists.f) (length c.args.forms.now) c.requires.plain c.in-Exists.is)).shows in
    (f.inside, ap Exists f.tree ∙ sym (ap (λ v. sub_form (values ts) (form_of bank v)) c.in-Exists.is))
