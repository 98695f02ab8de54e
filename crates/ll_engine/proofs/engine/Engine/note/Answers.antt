use Rattle.std.proofs.Common.{false, sym, refl, ap, subst, ◌∙◌, arith, [], ◌∷◌, ◌++◌, map}
use Rattle.std.proofs.lemmas.List.{map-append}
use Rattle.std.proofs.lemmas.Bool.{false≢true}
use Rattle.std.proofs.lemmas.Result.{IfOk-from_err}
use Rattle.ll_list_laws.proofs.CallerLemmas.{OnErr-always}
use Rattle.ll_engine.specs.declared.engine.Step2.TheVariants.{Moved, Event, Done}
use Rattle.ll_engine.specs.Moves.{end_event, running_of}
use Rattle.ll_engine.specs.Owed.{owing}
use Rattle.ll_engine.specs.Pointed.{choices_of, IsSound}
use Rattle.ll_engine.specs.Seen.{Owing, Choices}
use Rattle.ll_engine.specs.Healthy.{Healthy}
use Rattle.ll_engine.specs.Steps.{Steps}
use Rattle.ll_engine.specs.declared.engine.Move.{Move}
use Rattle.ll_engine.proofs.turns.Stepping.{seen, quiet, inferred, ends, done, healthy_turn}
use Rattle.ll_engine.proofs.engine.Engine.note.Goals as goal
use Rattle.ll_engine.proofs.engine.Engine.note.Goals.{else-not-self-via-then-not-self+else-is_over, else-not-self-via-else-not-self}

pub same-self : goal.same-self
same-self g c = refl

pub same-self-then-is_over : goal.same-self-then-is_over
same-self-then-is_over g c = refl

pub returns-then-self-clause-spent : goal.returns-then-self-clause-spent
returns-then-self-clause-spent g c = λ e. refl

pub returns-then-self-clause-refused : goal.returns-then-self-clause-refused
returns-then-self-clause-refused g c = sym (ap (λ v. v.spent) c.self.view_is) ∙ c.if-self.true

pub returns-then-is_over-clause-spent : goal.returns-then-is_over-clause-spent
returns-then-is_over-clause-spent g c = λ e. sym c.if-self.false ∙ (ap (λ v. v.spent) c.self.view_is ∙ e)

pub returns-then-is_over-clause-step : goal.returns-then-is_over-clause-step
returns-then-is_over-clause-step g c =
    let i = c.self.inside in (
      subst (λ (x : Owing). Steps x Done x) (seen (choices_of i.choices) i.running i.made i.splits i.spent c.args.self.now c.self.view_is c.if-self.false)
          (done (choices_of i.choices) i.running i.made i.splits c.if-not-self.true (sym c.is_over.ensures ∙ c.if-is_over.true) (omega arith)),
      refl,
    )

pub invariant_of-self : goal.invariant_of-self
invariant_of-self g c = λ e. absurd (false≢true (sym e))

pub returns-in_err-went-clause-spent : goal.returns-in_err-went-clause-spent
returns-in_err-went-clause-spent g c = λ e. absurd (false≢true (sym c.if-self.false ∙ (ap (λ v. v.spent) c.self.view_is ∙ e)))

pub returns-in_err-went-clause-refused : goal.returns-in_err-went-clause-refused
returns-in_err-went-clause-refused g c = OnErr-always c.from_residual.result refl

pub returns-in_err-went-clause-step : goal.returns-in_err-went-clause-step
returns-in_err-went-clause-step g c = IfOk-from_err c.from_residual.result _ c.from_residual.ensures.0

pub invariant_of-self-in-Quiet : goal.invariant_of-self-in-Quiet
invariant_of-self-in-Quiet g c =
    let i = c.self.inside in
    λ _. let both = c.self.invariant c.if-self.false in (
      subst (λ (w : Move). IsSound (running_of w) c.turn.new.choices) c.in-Quiet.is c.in_ok-went.ensures.sound,
      healthy_turn (choices_of i.choices) (choices_of c.turn.new.choices) i.running c.in-Quiet.running i.splits c.in_ok-went.went (ap running_of c.in-Quiet.is)
          c.in_ok-went.ensures.turned both.1,
    )

pub invariant_of-self-in-Ends : goal.invariant_of-self-in-Ends
invariant_of-self-in-Ends g c =
    let i = c.self.inside in
    λ _. let both = c.self.invariant c.if-self.false in (
      c.in_ok-notice-in-Ends.ensures.sound,
      subst (λ (z : Choices). Healthy i.splits false z) (sym c.in_ok-notice-in-Ends.ensures.same)
          (healthy_turn (choices_of i.choices) (choices_of c.turn.new.choices) i.running _ i.splits c.in_ok-went.went (ap running_of c.in-Ends.is)
          c.in_ok-went.ensures.turned both.1),
    )

pub returns-in-Quiet-clause-spent : goal.returns-in-Quiet-clause-spent
returns-in-Quiet-clause-spent g c = λ e. sym c.if-self.false ∙ (ap (λ v. v.spent) c.self.view_is ∙ e)

pub returns-in_ok-push-in-Ends-clause-spent : goal.returns-in_ok-push-in-Ends-clause-spent
returns-in_ok-push-in-Ends-clause-spent g c = λ e. sym c.if-self.false ∙ (ap (λ v. v.spent) c.self.view_is ∙ e)

pub returns-in-Quiet-clause-step : goal.returns-in-Quiet-clause-step
returns-in-Quiet-clause-step g c =
    let i = c.self.inside in let z = choices_of c.turn.new.choices in (
      subst (λ (x : Owing). Steps x Moved (owing z c.in-Quiet.running i.made i.splits false))
          (seen (choices_of i.choices) i.running i.made i.splits i.spent c.args.self.now c.self.view_is c.if-self.false)
          (quiet (choices_of i.choices) z i.running
          c.in-Quiet.running i.made i.splits c.in_ok-went.went c.in-Quiet.is c.in_ok-went.ensures.turned (omega arith)),
      refl,
    )

pub returns-in-Inferred-clause-step : goal.returns-in-Inferred-clause-step
returns-in-Inferred-clause-step g c =
    let i = c.self.inside in let z = choices_of c.turn.new.choices in let more = c.saturating_add-self-inside.result in (
      subst (λ (x : Owing). Steps x Moved (owing z c.in-Inferred.running more i.splits false))
          (seen (choices_of i.choices) i.running i.made i.splits i.spent c.args.self.now c.self.view_is c.if-self.false)
          (inferred (choices_of i.choices) z i.running c.in-Inferred.running i.made more i.splits c.in_ok-went.went c.in-Inferred.is c.in_ok-went.ensures.turned
          c.saturating_add-self-inside.ensures),
      refl,
    )

pub returns-in_ok-push-in-Ends-clause-step : goal.returns-in_ok-push-in-Ends-clause-step
returns-in_ok-push-in-Ends-clause-step g c =
    let i = c.self.inside in let z = choices_of c.turn.new.choices in let both = c.self.invariant c.if-self.false in
    let answers = c.in-Ends.answers in
    let went : Steps (owing (choices_of i.choices) i.running i.made i.splits false) (Event (end_event answers z.now)) (owing z false i.made i.splits false) =
    ends (choices_of i.choices) z i.running i.made i.splits c.in_ok-went.went answers c.in-Ends.is c.in_ok-went.ensures.turned both.1 (omega arith) in (
      end_event answers z.now,
      subst (λ (x : Owing). Steps x (Event (end_event answers z.now)) (owing (choices_of c.notice.new.self) false i.made i.splits false))
          (seen (choices_of i.choices) i.running i.made i.splits i.spent c.args.self.now c.self.view_is c.if-self.false)
          (subst (λ (y : Choices). Steps (owing (choices_of i.choices) i.running i.made i.splits false) (Event (end_event answers z.now))
          (owing y false i.made i.splits false)) (sym c.in_ok-notice-in-Ends.ensures.same) went),
      ap (map g.E.Notice.stands_for) c.in_ok-push-in-Ends.ensures.items
          ∙ (map-append g.E.Notice.stands_for c.args.events.now.items (c.in_ok-notice-in-Ends.notice ∷ [])
          ∙ ap (λ e. map g.E.Notice.stands_for c.args.events.now.items ++ e ∷ []) c.in_ok-notice-in-Ends.ensures.notice),
    )

pub turn-requires-clause-sound : goal.turn-requires-clause-sound
turn-requires-clause-sound g c = (c.self.invariant c.if-self.false).0

pub turn-requires-clause-points : goal.turn-requires-clause-points
turn-requires-clause-points g c = λ e.
    elim c.else-not-self.branch [
      | else-not-self-via-then-not-self+else-is_over w ↦ sym w.is_over.ensures ∙ w.if-is_over.false
      | else-not-self-via-else-not-self w ↦ absurd (false≢true (sym e ∙ w.if-not-self.false))
    ]
