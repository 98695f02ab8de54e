use Rattle.std.proofs.Common.{◌<◌, ap, ◌∙◌, false, [], ◌∷◌, length, arith}
use Rattle.std.proofs.lemmas.Result.{IfOk-from_err}
use Rattle.std.specs.Prelude.{◌||◌}
use Rattle.std.specs.Ordering.{nat_cmp}
use Rattle.std.specs.BTreeSet.{contains}
use Rattle.std.proofs.lemmas.List.Elements.{All-cons, All-nil}
use Rattle.ll_list_laws.proofs.CallerLemmas.{or_false}
use Rattle.ll_bank.specs.declared.At.{At}
use Rattle.ll_bank.specs.Nodes.{term_tree, form_tree}
use Rattle.ll_bank.specs.Term.{has_eigen}
use Rattle.ll_bank.specs.Form.{form_has_eigen}
use Rattle.ll_bank.specs.Opened.{form_size}
use Rattle.ll_sequent.specs.Constants.{is_in}
use Rattle.ll_sequent.proofs.ConstantLemmas.{eigen_trees, gathers_terms, gathers_nothing}
use Rattle.ll_sequent.proofs.FormConstants.{none_inside, one_inside, two_inside, on_ok}
use Rattle.ll_sequent.proofs.constants.look_into.Goals as goal

pub returns-in-Top : goal.returns-in-Top
returns-in-Top c =
    none_inside c.args.bank.now c.args.form.0 c.args.waiting.now.items (contains nat_cmp c.args.terms.now) (contains nat_cmp c.args.terms.now) (λ k. false)
    (gathers_nothing c.args.bank.now (contains nat_cmp c.args.terms.now)) (λ k. ap (form_has_eigen k) c.in-Top.ensures.shown.tree) (let e =
    ap form_size c.in-Top.ensures.shown.tree in omega (arith, e))

pub returns-in-One : goal.returns-in-One
returns-in-One c =
    none_inside c.args.bank.now c.args.form.0 c.args.waiting.now.items (contains nat_cmp c.args.terms.now) (contains nat_cmp c.args.terms.now) (λ k. false)
    (gathers_nothing c.args.bank.now (contains nat_cmp c.args.terms.now)) (λ k. ap (form_has_eigen k) c.in-One.ensures.shown.tree) (let e =
    ap form_size c.in-One.ensures.shown.tree in omega (arith, e))

pub returns-in-With : goal.returns-in-With
returns-in-With c =
    on_ok c.wait_for.result (λ e.
    two_inside c.args.bank.now c.args.form.0 c.args.waiting.now.items c.wait_for.new.waiting.items (contains nat_cmp c.args.terms.now) c.in-With.f c.in-With.g
    c.requires
    c.in-With.ensures.shown.parts.0 c.in-With.ensures.shown.parts.1 (λ k. ap (form_has_eigen k) c.in-With.ensures.shown.tree)
    (ap form_size c.in-With.ensures.shown.tree) e)
    c.wait_for.ensures

pub returns-in-Tensor : goal.returns-in-Tensor
returns-in-Tensor c =
    on_ok c.wait_for-in-Tensor.result (λ e.
    two_inside c.args.bank.now c.args.form.0 c.args.waiting.now.items c.wait_for-in-Tensor.new.waiting.items (contains nat_cmp c.args.terms.now) c.in-Tensor.f
    c.in-Tensor.g c.requires
    c.in-Tensor.ensures.shown.parts.0 c.in-Tensor.ensures.shown.parts.1 (λ k. ap (form_has_eigen k) c.in-Tensor.ensures.shown.tree)
    (ap form_size c.in-Tensor.ensures.shown.tree) e)
    c.wait_for-in-Tensor.ensures

pub returns-in-Plus : goal.returns-in-Plus
returns-in-Plus c =
    on_ok c.wait_for-in-Plus.result (λ e.
    two_inside c.args.bank.now c.args.form.0 c.args.waiting.now.items c.wait_for-in-Plus.new.waiting.items (contains nat_cmp c.args.terms.now) c.in-Plus.f
    c.in-Plus.g c.requires
    c.in-Plus.ensures.shown.parts.0 c.in-Plus.ensures.shown.parts.1 (λ k. ap (form_has_eigen k) c.in-Plus.ensures.shown.tree)
    (ap form_size c.in-Plus.ensures.shown.tree) e)
    c.wait_for-in-Plus.ensures

pub returns-in-Lolli : goal.returns-in-Lolli
returns-in-Lolli c =
    on_ok c.wait_for-in-Lolli.result (λ e.
    two_inside c.args.bank.now c.args.form.0 c.args.waiting.now.items c.wait_for-in-Lolli.new.waiting.items (contains nat_cmp c.args.terms.now) c.in-Lolli.f
    c.in-Lolli.g c.requires
    c.in-Lolli.ensures.shown.parts.0 c.in-Lolli.ensures.shown.parts.1 (λ k. ap (form_has_eigen k) c.in-Lolli.ensures.shown.tree)
    (ap form_size c.in-Lolli.ensures.shown.tree) e)
    c.wait_for-in-Lolli.ensures

pub returns-in-Imp : goal.returns-in-Imp
returns-in-Imp c =
    on_ok c.wait_for-in-Imp.result (λ e.
    two_inside c.args.bank.now c.args.form.0 c.args.waiting.now.items c.wait_for-in-Imp.new.waiting.items (contains nat_cmp c.args.terms.now) c.in-Imp.f
    c.in-Imp.g c.requires
    c.in-Imp.ensures.shown.parts.0 c.in-Imp.ensures.shown.parts.1 (λ k. ap (form_has_eigen k) c.in-Imp.ensures.shown.tree)
    (ap form_size c.in-Imp.ensures.shown.tree) e)
    c.wait_for-in-Imp.ensures

pub returns-in-Bang : goal.returns-in-Bang
returns-in-Bang c =
    on_ok c.wait_for_one.result (λ e.
    one_inside c.args.bank.now c.args.form.0 c.args.waiting.now.items c.wait_for_one.new.waiting.items (contains nat_cmp c.args.terms.now)
    (contains nat_cmp c.args.terms.now) (λ k. false)
    c.in-Bang.f c.requires c.in-Bang.ensures.shown.parts (gathers_nothing c.args.bank.now (contains nat_cmp c.args.terms.now))
    (λ k. ap (form_has_eigen k) c.in-Bang.ensures.shown.tree)
    (ap form_size c.in-Bang.ensures.shown.tree) e)
    c.wait_for_one.ensures

pub returns-in-Forall : goal.returns-in-Forall
returns-in-Forall c =
    on_ok c.wait_for_one-in-Forall.result (λ e.
    one_inside c.args.bank.now c.args.form.0 c.args.waiting.now.items c.wait_for_one-in-Forall.new.waiting.items (contains nat_cmp c.args.terms.now)
    (contains nat_cmp c.args.terms.now) (λ k. false)
    c.in-Forall.f c.requires c.in-Forall.ensures.shown.parts (gathers_nothing c.args.bank.now (contains nat_cmp c.args.terms.now))
    (λ k. ap (form_has_eigen k) c.in-Forall.ensures.shown.tree)
    (ap form_size c.in-Forall.ensures.shown.tree) e)
    c.wait_for_one-in-Forall.ensures

pub returns-in-Exists : goal.returns-in-Exists
returns-in-Exists c =
    on_ok c.wait_for_one-in-Exists.result (λ e.
    one_inside c.args.bank.now c.args.form.0 c.args.waiting.now.items c.wait_for_one-in-Exists.new.waiting.items (contains nat_cmp c.args.terms.now)
    (contains nat_cmp c.args.terms.now) (λ k. false)
    c.in-Exists.f c.requires c.in-Exists.ensures.shown.parts (gathers_nothing c.args.bank.now (contains nat_cmp c.args.terms.now))
    (λ k. ap (form_has_eigen k) c.in-Exists.ensures.shown.tree)
    (ap form_size c.in-Exists.ensures.shown.tree) e)
    c.wait_for_one-in-Exists.ensures

pub returns-in_ok-insert_all-in-Use : goal.returns-in_ok-insert_all-in-Use
returns-in_ok-insert_all-in-Use c =
    on_ok c.wait_for_one-in-Use.result (λ e.
    one_inside c.args.bank.now c.args.form.0 c.args.waiting.now.items c.wait_for_one-in-Use.new.waiting.items (contains nat_cmp c.args.terms.now)
    (contains nat_cmp c.insert_all-in-Use.new.terms)
    (λ k. is_in k c.args.bank.now c.in-Use.args.now) c.in-Use.f c.requires c.in-Use.ensures.shown.parts.1
    (gathers_terms c.args.bank.now (contains nat_cmp c.args.terms.now) (contains nat_cmp c.insert_all-in-Use.new.terms) c.in-Use.args.now
    c.in-Use.ensures.shown.parts.0 c.in_ok-insert_all-in-Use.ensures)
    (λ k. ap (form_has_eigen k) c.in-Use.ensures.shown.tree ∙ ap (λ b. b || form_has_eigen k (form_tree c.args.bank.now c.in-Use.f.0))
    (eigen_trees k c.args.bank.now c.in-Use.args.now))
    (ap form_size c.in-Use.ensures.shown.tree) e)
    c.wait_for_one-in-Use.ensures

pub returns-in-Atom : goal.returns-in-Atom
returns-in-Atom c =
    on_ok c.insert_all.result (λ e.
    let P : At → Type 0 = λ a. a.0 < length c.args.bank.now.terms in
    none_inside c.args.bank.now c.args.form.0 c.args.waiting.now.items (contains nat_cmp c.args.terms.now) (contains nat_cmp c.insert_all.new.terms)
    (λ k. is_in k c.args.bank.now (c.in-Atom.term ∷ []))
    (gathers_terms c.args.bank.now (contains nat_cmp c.args.terms.now) (contains nat_cmp c.insert_all.new.terms) (c.in-Atom.term ∷ [])
    (All-cons P c.in-Atom.term [] c.in-Atom.ensures.shown.parts (All-nil P)) e)
    (λ k. ap (form_has_eigen k) c.in-Atom.ensures.shown.tree ∙ or_false _) (let s = ap form_size c.in-Atom.ensures.shown.tree in omega (arith, s)))
    c.insert_all.ensures

pub returns-in-Is : goal.returns-in-Is
returns-in-Is c =
    on_ok c.insert_all-in-Is.result (λ e.
    let P : At → Type 0 = λ a. a.0 < length c.args.bank.now.terms in
    none_inside c.args.bank.now c.args.form.0 c.args.waiting.now.items (contains nat_cmp c.args.terms.now) (contains nat_cmp c.insert_all-in-Is.new.terms)
    (λ k. is_in k c.args.bank.now (c.in-Is.left ∷ c.in-Is.right ∷ []))
    (gathers_terms c.args.bank.now (contains nat_cmp c.args.terms.now) (contains nat_cmp c.insert_all-in-Is.new.terms) (c.in-Is.left ∷ c.in-Is.right ∷ [])
    (All-cons P c.in-Is.left (c.in-Is.right ∷ []) c.in-Is.ensures.shown.parts.0 (All-cons P c.in-Is.right [] c.in-Is.ensures.shown.parts.1 (All-nil P))) e)
    (λ k. ap (form_has_eigen k) c.in-Is.ensures.shown.tree ∙ ap (λ b. has_eigen k (term_tree c.args.bank.now c.in-Is.left.0) || b) (or_false _)) (let s =
    ap form_size c.in-Is.ensures.shown.tree in omega (arith, s)))
    c.insert_all-in-Is.ensures

pub returns-in-Less : goal.returns-in-Less
returns-in-Less c =
    on_ok c.insert_all-in-Less.result (λ e.
    let P : At → Type 0 = λ a. a.0 < length c.args.bank.now.terms in
    none_inside c.args.bank.now c.args.form.0 c.args.waiting.now.items (contains nat_cmp c.args.terms.now) (contains nat_cmp c.insert_all-in-Less.new.terms)
    (λ k. is_in k c.args.bank.now (c.in-Less.left ∷ c.in-Less.right ∷ []))
    (gathers_terms c.args.bank.now (contains nat_cmp c.args.terms.now) (contains nat_cmp c.insert_all-in-Less.new.terms) (c.in-Less.left ∷ c.in-Less.right ∷ [])
    (All-cons P c.in-Less.left (c.in-Less.right ∷ []) c.in-Less.ensures.shown.parts.0
    (All-cons P c.in-Less.right [] c.in-Less.ensures.shown.parts.1 (All-nil P))) e)
    (λ k. ap (form_has_eigen k) c.in-Less.ensures.shown.tree ∙ ap (λ b. has_eigen k (term_tree c.args.bank.now c.in-Less.left.0) || b) (or_false _)) (let s =
    ap form_size c.in-Less.ensures.shown.tree in omega (arith, s)))
    c.insert_all-in-Less.ensures

pub returns-in-Most : goal.returns-in-Most
returns-in-Most c =
    on_ok c.insert_all-in-Most.result (λ e.
    let P : At → Type 0 = λ a. a.0 < length c.args.bank.now.terms in
    none_inside c.args.bank.now c.args.form.0 c.args.waiting.now.items (contains nat_cmp c.args.terms.now) (contains nat_cmp c.insert_all-in-Most.new.terms)
    (λ k. is_in k c.args.bank.now (c.in-Most.left ∷ c.in-Most.right ∷ []))
    (gathers_terms c.args.bank.now (contains nat_cmp c.args.terms.now) (contains nat_cmp c.insert_all-in-Most.new.terms) (c.in-Most.left ∷ c.in-Most.right ∷ [])
    (All-cons P c.in-Most.left (c.in-Most.right ∷ []) c.in-Most.ensures.shown.parts.0
    (All-cons P c.in-Most.right [] c.in-Most.ensures.shown.parts.1 (All-nil P))) e)
    (λ k. ap (form_has_eigen k) c.in-Most.ensures.shown.tree ∙ ap (λ b. has_eigen k (term_tree c.args.bank.now c.in-Most.left.0) || b) (or_false _)) (let s =
    ap form_size c.in-Most.ensures.shown.tree in omega (arith, s)))
    c.insert_all-in-Most.ensures

pub returns-in_err-insert_all-in-Use : goal.returns-in_err-insert_all-in-Use
returns-in_err-insert_all-in-Use c = IfOk-from_err c.from_residual.result _ c.from_residual.ensures.0
