use Rattle.std.proofs.Common.{◌≡◌, ap, sym, subst, ◌∙◌, arith, length, ◌∷◌, [], ◌++◌, All}
use Rattle.std.specs.Prelude.{Some}
use Rattle.std.proofs.lemmas.List.{append-nil}
use Rattle.std.proofs.lemmas.Result.{IfOk-from_err}
use Rattle.std.proofs.lemmas.List.Elements.{All-nil, All-cons, All-pop}
use Rattle.ll_bank.specs.declared.FormAt.{FormAt}
use Rattle.ll_bank.specs.Form.{Form}
use Rattle.ll_bank.specs.Nodes.{HasForm, form_tree}
use Rattle.ll_laws.specs.Leaf.{ways}
use Rattle.ll_laws.proofs.CallerLemmas.{ways_quantified, waiting_ways, other_ways}
use Rattle.ll_trace.specs.Opening.{way_size}
use Rattle.ll_trace.proofs.LeafLemmas.{count_step, ways-with, size_step, size_rest}
use Rattle.ll_trace.proofs.leaf.count_leaves.Goals as goal

pub loop-form-preserved-in-Continue-branch-3 : goal.loop-form-preserved-in-Continue-branch-3
loop-form-preserved-in-Continue-branch-3 c =
    let forms = c.args.forms.now in
    let P : FormAt → Type 0 = λ g. HasForm forms g.0 in
    let i = c.loop-form.invariant in
    let p = c.in-With.ensures.shown.parts.0 in
    let q = c.in-With.ensures.shown.parts.1 in
    let l = c.in-With.left in
    let r = c.in-With.right in
    let s = count_step forms c.loop-form.waiting.items c.pop.new.self.items (r ∷ l ∷ []) c.extend_from_slice.new.self.items c.in-Some.form c.loop-form.count _
    c.in-Some.ensures.items
    c.in_ok-extend_from_slice-in-With.ensures.items i.inside
    (λ h. All-cons P r (l ∷ []) (omega (arith, h, q)) (All-cons P l [] (omega (arith, h, p)) (All-nil P)))
    (let a = ap (λ (t : Form). length (ways t)) c.in-With.ensures.shown.tree ∙ ways-with (form_tree forms l.0) (form_tree forms r.0) in
    omega (arith, a)) i.so_far in
    record { inside = s.inside; so_far = s.so_far }

pub loop-form-preserved-in-Continue-branch-4 : goal.loop-form-preserved-in-Continue-branch-4
loop-form-preserved-in-Continue-branch-4 c =
    let forms = c.args.forms.now in
    let P : FormAt → Type 0 = λ g. HasForm forms g.0 in
    let i = c.loop-form.invariant in
    let q = c.in-Lolli.ensures.shown.parts.1 in
    let r = c.in-Lolli.rest in
    let s = count_step forms c.loop-form.waiting.items c.pop.new.self.items (r ∷ []) c.push-in-Lolli.new.self.items c.in-Some.form c.loop-form.count _
    c.in-Some.ensures.items
    c.in_ok-push-in-Lolli.ensures.items i.inside (λ h. All-cons P r [] (omega (arith, h, q)) (All-nil P))
    (let a = ap (λ (t : Form). length (ways t)) c.in-Lolli.ensures.shown.tree in omega (arith, a)) i.so_far in
    record { inside = s.inside; so_far = s.so_far }

pub loop-form-preserved-in-Continue-branch-5 : goal.loop-form-preserved-in-Continue-branch-5
loop-form-preserved-in-Continue-branch-5 c =
    let forms = c.args.forms.now in
    let P : FormAt → Type 0 = λ g. HasForm forms g.0 in
    let i = c.loop-form.invariant in
    let q = c.in-Imp.ensures.shown.parts.1 in
    let r = c.in-Imp.rest in
    let s = count_step forms c.loop-form.waiting.items c.pop.new.self.items (r ∷ []) c.push-in-Imp.new.self.items c.in-Some.form c.loop-form.count _
    c.in-Some.ensures.items
    c.in_ok-push-in-Imp.ensures.items i.inside (λ h. All-cons P r [] (omega (arith, h, q)) (All-nil P))
    (let a = ap (λ (t : Form). length (ways t)) c.in-Imp.ensures.shown.tree in omega (arith, a)) i.so_far in
    record { inside = s.inside; so_far = s.so_far }

pub loop-form-preserved-in-Continue-branch-6 : goal.loop-form-preserved-in-Continue-branch-6
loop-form-preserved-in-Continue-branch-6 c =
    let forms = c.args.forms.now in
    let P : FormAt → Type 0 = λ g. HasForm forms g.0 in
    let i = c.loop-form.invariant in
    let q = c.in-Forall.ensures.shown.parts in
    let r = c.in-Forall.rest in
    let s = count_step forms c.loop-form.waiting.items c.pop.new.self.items (r ∷ []) c.push-in-Forall.new.self.items c.in-Some.form c.loop-form.count _
    c.in-Some.ensures.items
    c.in_ok-push-in-Forall.ensures.items i.inside (λ h. All-cons P r [] (omega (arith, h, q)) (All-nil P))
    (let a = ap (λ (t : Form). length (ways t)) c.in-Forall.ensures.shown.tree ∙ ways_quantified (form_tree forms r.0) in omega (arith, a)) i.so_far in
    record { inside = s.inside; so_far = s.so_far }

pub returns-in_err-count-in-Atom : goal.returns-in_err-count-in-Atom
returns-in_err-count-in-Atom c = IfOk-from_err c.from_residual-in_err-count-in-Atom.result _ c.from_residual-in_err-count-in-Atom.ensures.0

pub returns-in_err-extend_from_slice-in-With : goal.returns-in_err-extend_from_slice-in-With
returns-in_err-extend_from_slice-in-With c =
    IfOk-from_err c.from_residual-in_err-extend_from_slice-in-With.result _ c.from_residual-in_err-extend_from_slice-in-With.ensures.0

pub returns-in_err-push : goal.returns-in_err-push
returns-in_err-push c = IfOk-from_err c.from_residual.result _ c.from_residual.ensures.0

pub returns-in_err-push-in-Forall : goal.returns-in_err-push-in-Forall
returns-in_err-push-in-Forall c = IfOk-from_err c.from_residual-in_err-push-in-Forall.result _ c.from_residual-in_err-push-in-Forall.ensures.0

pub returns-in_err-push-in-Imp : goal.returns-in_err-push-in-Imp
returns-in_err-push-in-Imp c = IfOk-from_err c.from_residual-in_err-push-in-Imp.result _ c.from_residual-in_err-push-in-Imp.ensures.0

pub returns-in_err-push-in-Lolli : goal.returns-in_err-push-in-Lolli
returns-in_err-push-in-Lolli c = IfOk-from_err c.from_residual-in_err-push-in-Lolli.result _ c.from_residual-in_err-push-in-Lolli.ensures.0

pub loop-form-smaller-in-Continue-branch-3 : goal.loop-form-smaller-in-Continue-branch-3
loop-form-smaller-in-Continue-branch-3 c =
    size_step c.args.forms.now c.loop-form.waiting.items c.pop.new.self.items (c.in-With.right ∷ c.in-With.left ∷ [])
    c.extend_from_slice.new.self.items c.in-Some.form c.in-Some.ensures.items c.in_ok-extend_from_slice-in-With.ensures.items
    (let a = ap way_size c.in-With.ensures.shown.tree in omega (arith, a))

pub loop-form-smaller-in-Continue-branch-4 : goal.loop-form-smaller-in-Continue-branch-4
loop-form-smaller-in-Continue-branch-4 c =
    size_step c.args.forms.now c.loop-form.waiting.items c.pop.new.self.items (c.in-Lolli.rest ∷ []) c.push-in-Lolli.new.self.items c.in-Some.form
    c.in-Some.ensures.items c.in_ok-push-in-Lolli.ensures.items (let a = ap way_size c.in-Lolli.ensures.shown.tree in omega (arith, a))

pub loop-form-smaller-in-Continue-branch-5 : goal.loop-form-smaller-in-Continue-branch-5
loop-form-smaller-in-Continue-branch-5 c =
    size_step c.args.forms.now c.loop-form.waiting.items c.pop.new.self.items (c.in-Imp.rest ∷ []) c.push-in-Imp.new.self.items c.in-Some.form
    c.in-Some.ensures.items c.in_ok-push-in-Imp.ensures.items (let a = ap way_size c.in-Imp.ensures.shown.tree in omega (arith, a))

pub loop-form-smaller-in-Continue-branch-6 : goal.loop-form-smaller-in-Continue-branch-6
loop-form-smaller-in-Continue-branch-6 c =
    size_step c.args.forms.now c.loop-form.waiting.items c.pop.new.self.items (c.in-Forall.rest ∷ []) c.push-in-Forall.new.self.items c.in-Some.form
    c.in-Some.ensures.items c.in_ok-push-in-Forall.ensures.items (let a = ap way_size c.in-Forall.ensures.shown.tree in omega (arith, a))

pub loop-form-smaller-in-Atom : goal.loop-form-smaller-in-Atom
loop-form-smaller-in-Atom c = size_rest c.args.forms.now c.loop-form.waiting.items c.pop.new.self.items c.in-Some.form c.in-Some.ensures.items

pub loop-form-smaller : goal.loop-form-smaller
loop-form-smaller c = size_rest c.args.forms.now c.loop-form.waiting.items c.pop.new.self.items c.in-Some.form c.in-Some.ensures.items

pub loop-form-preserved : goal.loop-form-preserved
loop-form-preserved c =
    let forms = c.args.forms.now in
    let P : FormAt → Type 0 = λ g. HasForm forms g.0 in
    let s = count_step forms c.loop-form.waiting.items c.pop.new.self.items [] c.pop.new.self.items c.in-Some.form c.loop-form.count _ c.in-Some.ensures.items
    (sym (append-nil c.pop.new.self.items)) c.loop-form.invariant.inside (λ h. All-nil P)
    (ap (λ (t : Form). length (ways t)) c.form_at.ensures.shown.tree
    ∙ other_ways forms c.form_at.result c.in_default-form_at.not-Atom c.in_default-form_at.not-With c.in_default-form_at.not-Lolli c.in_default-form_at.not-Imp
    c.in_default-form_at.not-Forall) c.loop-form.invariant.so_far in
    record { inside = s.inside; so_far = s.so_far }

pub loop-form-init : goal.loop-form-init
loop-form-init c =
    let forms = c.args.forms.now in
    let P : FormAt → Type 0 = λ g. HasForm forms g.0 in
    let e : c.push.new.self.items ≡ c.args.clause ∷ [] = c.in_ok-push.ensures.items ∙ ap (λ fs. fs ++ c.args.clause ∷ []) c.new-waiting.ensures.items in
    record {
      inside = subst (All P) (sym e) (All-cons P c.args.clause [] c.requires (All-nil P));
      so_far = let a = ap (waiting_ways forms) e in omega (arith, a);
    }

pub form_at-requires : goal.form_at-requires
form_at-requires c =
    let P : FormAt → Type 0 = λ g. HasForm c.args.forms.now g.0 in
    (All-pop P c.loop-form.waiting.items c.pop.new.self.items (Some c.in-Some.form) c.in-Some.ensures.items c.loop-form.invariant.inside).1
