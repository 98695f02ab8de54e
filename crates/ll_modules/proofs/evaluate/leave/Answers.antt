use Rattle.std.proofs.lemmas.Result.{IfOk-from_err}
use Rattle.std.specs.Prelude.{FitsSigned}
use Rattle.std.specs.Int.{w64}
use Rattle.std.specs.Ordering.{nat_cmp}
use Rattle.std.specs.BTreeMap.{get}
use Rattle.std.proofs.Common.{◌≡◌, [], ◌∷◌, ◌++◌, cond, Some, subst, rules, ℤ}
use Rattle.std.specs.BTreeMap.{is_at}
use Rattle.std.proofs.lemmas.Int.{to_z-of_z}
use Rattle.ll_modules.proofs.Evaluating.{leaves_nothing, leaves_left, leaves_right, leaves_note, note_is, known_more}
use Rattle.ll_modules.specs.declared.evaluate.Todo.TheVariants.{Leave}
use Rattle.ll_modules.specs.Values.{IsStep}
use Rattle.ll_modules.proofs.evaluate.leave.Goals as goal

pub returns-in_default-clause-step : goal.returns-in_default-clause-step
returns-in_default-clause-step c = λ ops bank h. leaves_nothing ops bank c.args.frames.now.items c.args.frame c.args.value c.in_default.is h

pub returns-in_ok-push-in-Left-clause-step : goal.returns-in_ok-push-in-Left-clause-step
returns-in_ok-push-in-Left-clause-step c =
    let f : FitsSigned w64 c.in-Some.number = search rules in
    let e = rw (to_z-of_z w64 c.in-Some.number f) at c.in_ok-push-in-Left.ensures.items in
    λ ops bank h. leaves_left ops bank c.args.frames.now.items c.push.new.self.items c.args.frame c.args.value c.in-Left.operator c.in-Left.right
    c.in-Some.number c.in-Left.is c.in-Some.is e h

pub returns-in-Right-clause-step : goal.returns-in-Right-clause-step
returns-in-Right-clause-step c =
    let f : FitsSigned w64 c.in-Some.number = search rules in
    let g : FitsSigned w64 c.in-Right.left = search rules in
    let e = rw (to_z-of_z w64 c.in-Some.number f, to_z-of_z w64 c.in-Right.left g) at c.operate.ensures in
    λ ops bank h. leaves_right ops bank c.args.frames.now.items c.args.frame c.args.value c.operate.result c.in-Right.operator c.in-Right.left c.in-Some.number
    c.in-Right.is c.in-Some.is e h

pub returns-in_ok-insert-in-Note-clause-step : goal.returns-in_ok-insert-in-Note-clause-step
returns-in_ok-insert-in-Note-clause-step c = λ ops bank h.
    subst (λ v. IsStep ops bank (c.args.frames.now.items ++ c.args.frame ∷ []) c.args.value 0 c.args.frames.now.items (Leave v)) c.in-Some.is
    (leaves_note ops bank c.args.frames.now.items c.args.frame c.args.value c.in-Note.at c.in-Note.is h)

pub returns-in_ok-insert-in-Note-clause-known : goal.returns-in_ok-insert-in-Note-clause-known
returns-in_ok-insert-in-Note-clause-known c =
    let f : FitsSigned w64 c.in-Some.number = search rules in
    λ ops bank n k.
    known_more ops bank (get nat_cmp c.args.known.now) (get nat_cmp c.insert.new.self) c.in-Note.at.0 c.in-Some.number k
    (note_is ops bank c.args.frames.now.items c.args.frame c.args.value c.in-Note.at c.in-Some.number c.in-Note.is c.in-Some.is n)
    (λ q. subst (λ (w : ℤ). get nat_cmp c.insert.new.self q ≡ cond (is_at (nat_cmp c.in-Note.at.0) q) (Some w) (get nat_cmp c.args.known.now q))
    (to_z-of_z w64 c.in-Some.number f)
    (c.in_ok-insert-in-Note.ensures.updates.0 q))

pub returns-in_err-push-in-Left-clause-known : goal.returns-in_err-push-in-Left-clause-known
returns-in_err-push-in-Left-clause-known c = IfOk-from_err c.from_residual.result _ c.from_residual.ensures.0

pub returns-in_err-push-in-Left-clause-step : goal.returns-in_err-push-in-Left-clause-step
returns-in_err-push-in-Left-clause-step c = IfOk-from_err c.from_residual.result _ c.from_residual.ensures.0

pub returns-in_err-insert-in-Note-clause-known : goal.returns-in_err-insert-in-Note-clause-known
returns-in_err-insert-in-Note-clause-known c = IfOk-from_err c.from_residual-in_err-insert-in-Note.result _ c.from_residual-in_err-insert-in-Note.ensures.0

pub returns-in_err-insert-in-Note-clause-step : goal.returns-in_err-insert-in-Note-clause-step
returns-in_err-insert-in-Note-clause-step c = IfOk-from_err c.from_residual-in_err-insert-in-Note.result _ c.from_residual-in_err-insert-in-Note.ensures.0
