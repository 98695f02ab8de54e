-- A deepening comes to what a run with the bound that decides does.
use Rattle.std.proofs.Common.{◌≡◌, ◌⊎◌, ◌≤◌, ◌<◌, ◌+◌, ℕ, suc, refl, ap, sym, subst, Bool, true, false, ◌||◌, List, ◌++◌, inl, inr, arith}
use Rattle.std.specs.Prelude.{Some, not}
use Rattle.std.specs.List.{list_any}
use Rattle.ll_edge.specs.Texts.{Texts}
use Rattle.ll_deepen.specs.Deciding.{IsDeciding, decides, events_within, is_decisive}
use Rattle.ll_laws.specs.declared.Event.{Event}
use Rattle.ll_laws.specs.Problem.{ProblemTree, problem_events}
use Rattle.ll_laws.specs.Search.{is_answer, any_reached}
use Rattle.ll_laws.specs.Output.{run_status, output_status, status_by}
use Rattle.ll_top.specs.forms.Words.{DeepenWords}
use Rattle.ll_top.specs.declared.texts.judge.Role.TheVariants.{Program, Query, Proof}
use Rattle.ll_top.specs.texts.Faults.{Cause, fault_text, cause_status}
use Rattle.ll_top.specs.texts.Outcome.{AnyName, NoName, RunFails, not_read, faulty, RunAsks}
use Rattle.ll_top.specs.Outcome.{whole_text, ran, failed}
use Rattle.ll_top.specs.Deepening.{run_within, bound_line, DeepenComesTo, deepened, deepen_failed}
use Rattle.ll_top.specs.DeepenEnds.{with_bound}
use Rattle.ll_top.specs.Calls.{runs}
use Rattle.ll_top.specs.Agreeing.{run_at, RunsTo, bound_at, DeepensAsRuns, as_run, as_fault, DeepeningIsRun}
use Rattle.ll_top.proofs.calls.DeepenLemmas.{asks-within}
use Rattle.ll_top.proofs.outcomes.CallLemmas.{run-small}
use Rattle.ll_top.proofs.AgreeingRuns.{comes-deepen, cause-past}

-- ---- statuses

-- events that do not decide have no answer, and reached the bound
undecided-by : (b c : Bool) → b || not c ≡ false → status_by b c ≡ 2
undecided-by true c h = absurd (let e : true ≡ false = h in cc)
undecided-by false true h = refl
undecided-by false false h = absurd (let e : true ≡ false = h in cc)

undecided : (es : List Event) → is_decisive es ≡ false → output_status es ≡ 2
undecided es h = undecided-by (list_any is_answer es) (any_reached es) h

decided-by : (b c : Bool) → b || not c ≡ true → status_by b c ≡ 2 → ⊥
decided-by true c h e = absurd (omega (arith, e))
decided-by false true h e = let f : false ≡ true = h in cc
decided-by false false h e = absurd (omega (arith, e))

decided : (es : List Event) → is_decisive es ≡ true → output_status es ≡ 2 → ⊥
decided es h = decided-by (list_any is_answer es) (any_reached es) h

-- ---- the runs of a deepening

module _ (texts : Texts) (deepen : DeepenWords) where
  asks-at : (n workers : ℕ) (p : ProblemTree) → RunAsks (Some texts) (run_within deepen n) p → RunAsks (Some texts) (run_at deepen workers n) p
  asks-at n workers p a = record { program = a.program; query = a.query; program_read = a.program_read; query_read = a.query_read; asks = a.asks }

  runs-to : (n : ℕ) (p : ProblemTree) → RunAsks (Some texts) (run_within deepen n) p → RunsTo texts deepen n (run_status p) (whole_text deepen.proofs p)
  runs-to n p a = λ words workers is. runs (run_at deepen workers n) is (ran p (asks-at n workers p a) refl refl)

  -- the fault of a run is that of each other one
  fails-at : (n m workers : ℕ) (c : Cause) → RunFails (Some texts) AnyName NoName (run_within deepen n) c
      → RunFails (Some texts) AnyName NoName (run_at deepen workers m) c
  fails-at n m workers _ (not_read c r) = not_read c r
  fails-at n m workers _ (faulty p q Program f h k t) = faulty p q Program f h k t
  fails-at n m workers _ (faulty p q Query f h k t) = faulty p q Query f h k t
  fails-at n m workers _ (faulty p q Proof f h k t) = faulty p q Proof f h k t

  fails-to : (n m : ℕ) (c : Cause) → RunFails (Some texts) AnyName NoName (run_within deepen n) c → RunsTo texts deepen m (cause_status c) (fault_text c)
  fails-to n m c f = λ words workers is. runs (run_at deepen workers m) is (failed c (fails-at n m workers c f) refl refl)

  -- the bound that decides
  deepens-at : (n : ℕ) (p : ProblemTree) → RunAsks (Some texts) (run_within deepen n) p → IsDeciding p deepen.series n
      → DeepensAsRuns texts deepen (run_status p) (bound_line n ++ whole_text deepen.proofs p)
  deepens-at n p a d =
      let place = d.first.place in
      let own : p.bound ≡ n = ap (λ (z : ProblemTree). z.bound) a.asks.asks.is in
      let is : n ≡ bound_at deepen place = d.first.is in
      as_run place (whole_text deepen.proofs p) (subst (λ m. m ≤ deepen.series.to) is d.first.within)
      (subst (λ m. RunsTo texts deepen m (run_status p) (whole_text deepen.proofs p)) is (runs-to n p a)) (run-small p)
      (ap (λ m. bound_line m ++ whole_text deepen.proofs p) is)
      (λ i l. earlier i (d.first.earlier i l)) (last own is d.last)
    where
      earlier : (i : ℕ) → decides p (bound_at deepen i) ≡ false → (other : List ℕ) × RunsTo texts deepen (bound_at deepen i) 2 other
      earlier i h =
          let m = bound_at deepen i in (
            whole_text deepen.proofs (with_bound p m),
            subst (λ s. RunsTo texts deepen m s (whole_text deepen.proofs (with_bound p m))) (undecided (events_within p m) h)
                (runs-to m (with_bound p m) (asks-within (Some texts) deepen n m p a)),
          )

      last : p.bound ≡ n → n ≡ bound_at deepen d.first.place → (decides p n ≡ true) ⊎ (deepen.series.to < n + deepen.series.by)
          → (run_status p ≡ 2 → ⊥) ⊎ (deepen.series.to < bound_at deepen (suc d.first.place))
      last own is (inl h) = inl (decided (problem_events p) (subst (λ m. decides p m ≡ true) (sym own) h))
      last own is (inr l) = inr (omega (arith, l, is))

  deepens-as : (status : ℕ) (text : List ℕ) → DeepenComesTo (Some texts) AnyName NoName deepen status text → DeepensAsRuns texts deepen status text
  deepens-as s t (deepened n p a d e f) =
      subst (λ x. DeepensAsRuns texts deepen x t) (sym e) (subst (λ x. DeepensAsRuns texts deepen (run_status p) x) (sym f) (deepens-at n p a d))
  deepens-as s t (deepen_failed c f e g) =
      subst (λ x. DeepensAsRuns texts deepen x t) (sym e) (subst (λ x. DeepensAsRuns texts deepen (cause_status c) x) (sym g)
      (as_fault (cause-past c) (λ m. fails-to deepen.series.from m c f)))

pub deepening-is-run : DeepeningIsRun
deepening-is-run words deepen texts is status text c =
    deepens-as texts deepen status text (comes-deepen words (Some texts) AnyName NoName status text deepen is c)
