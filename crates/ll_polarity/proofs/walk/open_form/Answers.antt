use Rattle.std.proofs.Common.{ℕ, suc, ◌+◌, ◌*◌, ◌<◌, ◌≤◌, List, [], ◌∷◌, ◌++◌, map, length, append_assoc, sym, subst, ap, ◌∙◌, arith, slice_index_or, rules}
use Rattle.std.proofs.lemmas.Result.{IfOk-from_err}
use Rattle.std.specs.Prelude.{option_to_list, OnOk}
use Rattle.ll_lexer.specs.declared.Fault.{Fault}
use Rattle.ll_parser.specs.Nodes.{raw_at}
use Rattle.ll_parser.specs.Raw.{raw_place}
use Rattle.ll_polarity.specs.declared.pending.Part.TheVariants.{Form, Term, Found, Close}
use Rattle.ll_polarity.specs.Scope.{Scope, meaning, binds}
use Rattle.ll_polarity.specs.Faults.{Heading, may_be_head, may_join, on_goal_side, left_side, right_side, unless, form_faults}
use Rattle.ll_polarity.specs.Named.{IsNamed}
use Rattle.ll_polarity.specs.Pending.{side_of, size, IsReady, IsOpened}
use Rattle.ll_polarity.proofs.putting.Opening.{opened-head, opened-load, opened-faults, opened-last, opened-body, fault-before, opened-as}
use Rattle.ll_polarity.proofs.putting.Opening.{form-before, opened-result, opened-quantifier, unless-few, ok-each, ok-always, ok-texts}
use Rattle.ll_polarity.proofs.naming.Named.{number-within}
use Rattle.ll_polarity.proofs.walk.open_form.Goals as goal

-- what is put next of one part, and of two
one_part : (n : ℕ) → 1 + (3 * n + 1) ≤ 3 * suc n
one_part n = omega arith

body_part : (n : ℕ) → 3 * n + 2 ≤ 3 * suc n
body_part n = omega arith

marked_body : (n : ℕ) → 1 + (3 * n + 2) ≤ 3 * suc n
marked_body n = omega arith

two_parts : (m n : ℕ) → 3 * m + (1 + (3 * n + 1)) ≤ 3 * suc (m + n)
two_parts m n = omega arith

below : (at part n : ℕ) → part < at → at < n → part < n
below at part n h k = omega arith

pub returns-in-True-clause-opened : goal.returns-in-True-clause-opened
returns-in-True-clause-opened c =
    let texts = c.args.source.now.names.now in let nodes = c.args.source.now.forms.now in let params = c.args.source.now.headings.now.params in
    let side = c.args.side in let scope = c.args.binders.now.scope in let old = c.args.parts.now in let at = c.args.at in
    let here = raw_place (raw_at texts nodes at.0) in let own = unless (on_goal_side (side_of side)) 7 here in
    let few = unless-few (on_goal_side (side_of side)) 7 here in
    opened-result texts nodes params c.push_fault.result side scope scope at old c.push_fault.new.self (λ (fs : List Fault). map Found fs ++ old)
    (option_to_list c.goal_fault.result) own 2 (c.in-True.ensures.tree texts) c.push_fault.ensures
    (c.goal_fault.ensures ∙ ap (unless (on_goal_side (side_of side)) 7) (c.place-place.ensures texts)) (opened-faults texts nodes params scope old own few)
    (omega arith)

pub returns-in-True-clause-texts : goal.returns-in-True-clause-texts
returns-in-True-clause-texts c = ok-always c.push_fault.result _ c.requires.texts

pub returns-in-Braces-clause-opened : goal.returns-in-Braces-clause-opened
returns-in-Braces-clause-opened c =
    let texts = c.args.source.now.names.now in let nodes = c.args.source.now.forms.now in let params = c.args.source.now.headings.now.params in
    let side = c.args.side in let scope = c.args.binders.now.scope in let old = c.args.parts.now in let at = c.args.at in
    let here = raw_place (raw_at texts nodes at.0) in let own = unless (on_goal_side (side_of side)) 7 here in
    let few = unless-few (on_goal_side (side_of side)) 7 here in
    let named = subst IsNamed (c.in-Braces.ensures.tree texts) c.requires.ready.1 in
    let last = opened-last texts nodes params scope old side c.in-Braces.goal (
      below at.0 c.in-Braces.goal.0 (length nodes) c.in-Braces.ensures.parts
          c.requires.ready.0,
      named,
    ) in
    opened-result texts nodes params c.open_part.result side scope scope at old c.open_part.new.parts
    (λ (fs : List Fault). map Found fs ++ Form side c.in-Braces.goal ∷ old) (option_to_list c.goal_fault-in-Braces.result) own _ (c.in-Braces.ensures.tree
    texts)
    c.open_part.ensures (c.goal_fault-in-Braces.ensures ∙ ap (unless (on_goal_side (side_of side)) 7) (c.place-place.ensures texts))
    (fault-before texts nodes params scope old scope _ _ _ last own few) (one_part (size (raw_at texts nodes c.in-Braces.goal.0)))

pub returns-in-Braces-clause-texts : goal.returns-in-Braces-clause-texts
returns-in-Braces-clause-texts c = ok-always c.open_part.result _ c.requires.texts

pub returns-in-Forall-clause-opened : goal.returns-in-Forall-clause-opened
returns-in-Forall-clause-opened c =
    let texts = c.args.source.now.names.now in let nodes = c.args.source.now.forms.now in let params = c.args.source.now.headings.now.params in
    let side = c.args.side in let scope = c.args.binders.now.scope in let old = c.args.parts.now in let at = c.args.at in
    let named = subst IsNamed (c.in-Forall.ensures.tree texts) c.requires.ready.1 in
    let b = binds (slice_index_or texts c.in-Forall.name.name []) in
    opened-quantifier texts nodes params c.open_body.result side c.args.binders.now c.open_body.new.binders at old c.open_body.new.parts
    (Form side c.in-Forall.body ∷ (Close ∷ old)) b _ (c.in-Forall.ensures.tree texts) c.open_body.ensures.parts
    (ok-each c.open_body.result _ _ (λ e. e ∙ ap (λ ts. record c.args.binders.now { scope = binds (slice_index_or ts c.in-Forall.name.name []) ∷ scope })
    c.requires.texts) c.open_body.ensures.binders)
    (opened-body texts nodes params scope old side c.in-Forall.body b (
      below at.0 c.in-Forall.body.0 (length nodes) c.in-Forall.ensures.parts
          c.requires.ready.0,
      named.1,
    ))
    (body_part (size (raw_at texts nodes c.in-Forall.body.0)))

pub returns-in-Forall-clause-texts : goal.returns-in-Forall-clause-texts
returns-in-Forall-clause-texts c =
    ok-texts c.open_body.result c.args.binders.now c.open_body.new.binders (binds (slice_index_or c.args.binders.now.texts c.in-Forall.name.name []))
    c.args.source.now.names.now c.open_body.ensures.binders c.requires.texts

pub returns-in_ok-open_body-in-Exists-clause-opened : goal.returns-in_ok-open_body-in-Exists-clause-opened
returns-in_ok-open_body-in-Exists-clause-opened c =
    let texts = c.args.source.now.names.now in let nodes = c.args.source.now.forms.now in let params = c.args.source.now.headings.now.params in
    let side = c.args.side in let scope = c.args.binders.now.scope in let old = c.args.parts.now in let at = c.args.at in
    let here = raw_place (raw_at texts nodes at.0) in let own = unless (on_goal_side (side_of side)) 7 here in
    let few = unless-few (on_goal_side (side_of side)) 7 here in
    let named = subst IsNamed (c.in-Exists.ensures.tree texts) c.requires.ready.1 in
    let b = binds (slice_index_or texts c.in-Exists.name.name []) in
    let entered = c.in_ok-open_body-in-Exists.ensures.binders
    ∙ ap (λ ts. record c.args.binders.now { scope = binds (slice_index_or ts c.in-Exists.name.name []) ∷ scope }) c.requires.texts in
    let body = opened-body texts nodes params scope old side c.in-Exists.body b (
      below at.0 c.in-Exists.body.0 (length nodes) c.in-Exists.ensures.parts
          c.requires.ready.0,
      named.1,
    ) in
    let here' = subst (λ (s : Scope). OnOk c.push_fault-in-Exists.result (IsOpened texts nodes params (λ ms. form_faults ms (side_of side) scope
    (raw_at texts nodes at.0)) (3 * size (raw_at texts nodes at.0)) scope old s c.push_fault-in-Exists.new.self)) (sym (ap (λ y. y.scope) entered)) in
    here' (opened-result texts nodes params c.push_fault-in-Exists.result side scope (b ∷ scope) at old c.push_fault-in-Exists.new.self
    (λ (fs : List Fault). map Found fs ++ Form side c.in-Exists.body ∷ (Close ∷ old)) (option_to_list c.goal_fault-in-Exists.result) own _
    (c.in-Exists.ensures.tree texts)
    (ok-each c.push_fault-in-Exists.result _ _ (λ e. e ∙ ap (λ ps. map Found (option_to_list c.goal_fault-in-Exists.result) ++ ps)
    c.in_ok-open_body-in-Exists.ensures.parts) c.push_fault-in-Exists.ensures)
    (c.goal_fault-in-Exists.ensures ∙ ap (unless (on_goal_side (side_of side)) 7) (c.place-place.ensures texts))
    (fault-before texts nodes params scope old (b ∷ scope) _ _ _ body own few) (marked_body (size (raw_at texts nodes c.in-Exists.body.0))))

pub returns-in_ok-open_body-in-Exists-clause-texts : goal.returns-in_ok-open_body-in-Exists-clause-texts
returns-in_ok-open_body-in-Exists-clause-texts c =
    ok-always c.push_fault-in-Exists.result _ (ap (λ y. y.texts) c.in_ok-open_body-in-Exists.ensures.binders ∙ c.requires.texts)

pub returns-in-Load-clause-opened : goal.returns-in-Load-clause-opened
returns-in-Load-clause-opened c =
    ok-each c.open_load.result _ _ (λ e. opened-load c.args.source.now.names.now c.args.source.now.forms.now c.args.source.now.headings.now.params c.args.side
    c.args.binders.now.scope c.args.at c.in-Load.name c.in-Load.args c.in-Load.goal c.load_fault-fault.result c.text-text.result.now
    c.place-place.result c.args.parts.now c.open_load.new.parts c.requires.ready c.in-Load.ensures c.text-text.ensures
    (c.place-place.ensures c.args.source.now.names.now) c.load_fault-fault.ensures
    (e ∙ ap (λ (own : List Fault). map Found (option_to_list c.load_fault-fault.result) ++ (map Term c.in-Load.args.now
    ++ (map Found own ++ Form c.args.side c.in-Load.goal ∷ c.args.parts.now))) c.misplaced_load-own.ensures)) c.open_load.ensures

pub returns-in-Load-clause-texts : goal.returns-in-Load-clause-texts
returns-in-Load-clause-texts c = ok-always c.open_load.result _ c.requires.texts

pub returns-in-Binary-clause-opened : goal.returns-in-Binary-clause-opened
returns-in-Binary-clause-opened c =
    let texts = c.args.source.now.names.now in let nodes = c.args.source.now.forms.now in let params = c.args.source.now.headings.now.params in
    let side = c.args.side in let scope = c.args.binders.now.scope in let old = c.args.parts.now in let at = c.args.at in
    let here = raw_place (raw_at texts nodes at.0) in let op = c.in-Binary.op in
    let named = subst IsNamed (c.in-Binary.ensures.tree texts) c.requires.ready.1 in
    let l : IsReady texts nodes c.in-Binary.left = (below at.0 c.in-Binary.left.0 (length nodes) c.in-Binary.ensures.parts.0 c.requires.ready.0, named.0) in
    let r : IsReady texts nodes c.in-Binary.right = (below at.0 c.in-Binary.right.0 (length nodes) c.in-Binary.ensures.parts.1 c.requires.ready.0, named.1) in
    let f = raw_at texts nodes c.in-Binary.left.0 in let g = raw_at texts nodes c.in-Binary.right.0 in
    let joins = may_join op (side_of side) in let own = unless joins 7 here in
    let last = opened-last texts nodes params scope old c.right_side.result c.in-Binary.right r in
    let marked = fault-before texts nodes params scope old scope _ _ _ last own (unless-few joins 7 here) in
    let both = form-before texts nodes params scope old scope _ _ _ marked c.left_side.result c.in-Binary.left l in
    opened-result texts nodes params c.open_operands.result side scope scope at old c.open_operands.new.parts
    (λ (fs : List Fault). Form c.left_side.result c.in-Binary.left ∷ (map Found fs ++ Form c.right_side.result c.in-Binary.right ∷ old))
    (option_to_list c.unless.result) own _ (c.in-Binary.ensures.tree texts) c.open_operands.ensures
    (c.unless.ensures ∙ (ap (λ b. unless b 7 c.place-place.result) c.may_join.ensures ∙ ap (unless joins 7) (c.place-place.ensures texts)))
    (opened-as texts nodes params scope scope old _ _ _ (λ (ms : List Heading). form_faults ms (left_side op (side_of side)) scope f ++ own
    ++ form_faults ms (right_side op (side_of side)) scope g) both
    (λ ms. sym (append_assoc (form_faults ms (side_of c.left_side.result) scope f) own (form_faults ms (side_of c.right_side.result) scope g))
    ∙ (ap (λ s. form_faults ms s scope f ++ own ++ form_faults ms (side_of c.right_side.result) scope g) c.left_side.ensures
    ∙ ap (λ s. form_faults ms (left_side op (side_of side)) scope f ++ own ++ form_faults ms s scope g) c.right_side.ensures))) (two_parts (size f) (size g))

pub returns-in-Binary-clause-texts : goal.returns-in-Binary-clause-texts
returns-in-Binary-clause-texts c = ok-always c.open_operands.result _ c.requires.texts

pub returns-in-Head-clause-opened : goal.returns-in-Head-clause-opened
returns-in-Head-clause-opened c =
    let texts = c.args.source.now.names.now in let nodes = c.args.source.now.forms.now in let params = c.args.source.now.headings.now.params in
    let side = c.args.side in let scope = c.args.binders.now.scope in let old = c.args.parts.now in let at = c.args.at in
    let n = c.in-Head.name in
    let fits = c.may_be_head-fits.ensures ∙ (ap may_be_head c.meaning.ensures ∙ ap (λ ts. may_be_head (meaning scope (slice_index_or ts n.name [])))
    c.requires.texts) in
    ok-each c.open_atom.result _ _ (λ e.
    opened-head texts nodes params side scope at n c.in-Head.args old c.open_atom.new.parts c.requires.ready c.in-Head.ensures
    (e ∙ ap (λ fs. map Found fs ++ (map Term c.in-Head.args.now ++ old)) (c.unless-in-Head.ensures ∙ ap (λ b. unless b 9 n.at) fits)))
    c.open_atom.ensures

pub returns-in-Head-clause-texts : goal.returns-in-Head-clause-texts
returns-in-Head-clause-texts c = ok-always c.open_atom.result _ c.requires.texts

pub returns-in_err-open_body-in-Exists-clause-opened : goal.returns-in_err-open_body-in-Exists-clause-opened
returns-in_err-open_body-in-Exists-clause-opened c = IfOk-from_err c.from_residual.result _ c.from_residual.ensures.0

pub returns-in_err-open_body-in-Exists-clause-texts : goal.returns-in_err-open_body-in-Exists-clause-texts
returns-in_err-open_body-in-Exists-clause-texts c = IfOk-from_err c.from_residual.result _ c.from_residual.ensures.0

pub returns-in_err-open_number-in-Is-clause-opened : goal.returns-in_err-open_number-in-Is-clause-opened
returns-in_err-open_number-in-Is-clause-opened c =
    IfOk-from_err c.from_residual-in_err-open_number-in-Is.result _ c.from_residual-in_err-open_number-in-Is.ensures.0

pub returns-in_err-open_number-in-Is-clause-texts : goal.returns-in_err-open_number-in-Is-clause-texts
returns-in_err-open_number-in-Is-clause-texts c =
    IfOk-from_err c.from_residual-in_err-open_number-in-Is.result _ c.from_residual-in_err-open_number-in-Is.ensures.0

pub place-place-requires : goal.place-place-requires
place-place-requires c = c.requires.ready.0

pub node-requires : goal.node-requires
node-requires c = c.requires.ready.0

pub open_body-requires : goal.open_body-requires
open_body-requires c =
    let texts = c.args.source.now.names.now in
    subst (λ (ts : List (List ℕ)). c.in-Forall.name.name < length ts) (sym c.requires.texts)
    (number-within texts c.in-Forall.name (subst IsNamed (c.in-Forall.ensures.tree texts) c.requires.ready.1).0)

pub open_body-requires-in-Exists : goal.open_body-requires-in-Exists
open_body-requires-in-Exists c =
    let texts = c.args.source.now.names.now in
    subst (λ (ts : List (List ℕ)). c.in-Exists.name.name < length ts) (sym c.requires.texts)
    (number-within texts c.in-Exists.name (subst IsNamed (c.in-Exists.ensures.tree texts) c.requires.ready.1).0)

pub text-text-requires : goal.text-text-requires
text-text-requires c =
    let texts = c.args.source.now.names.now in
    number-within texts c.in-Load.name (subst IsNamed (c.in-Load.ensures.tree texts) c.requires.ready.1).0

pub meaning-requires : goal.meaning-requires
meaning-requires c =
    let texts = c.args.source.now.names.now in
    subst (λ (ts : List (List ℕ)). c.in-Head.name.name < length ts) (sym c.requires.texts)
    (number-within texts c.in-Head.name (subst IsNamed (c.in-Head.ensures.tree texts) c.requires.ready.1).0)

pub returns-in-Erase-clause-opened : goal.returns-in-Erase-clause-opened
returns-in-Erase-clause-opened c = search rules

pub returns-in-Erase-clause-texts : goal.returns-in-Erase-clause-texts
returns-in-Erase-clause-texts c = c.requires.texts

pub returns-in_ok-open_number-in-Is-clause-texts : goal.returns-in_ok-open_number-in-Is-clause-texts
returns-in_ok-open_number-in-Is-clause-texts c = c.requires.texts
