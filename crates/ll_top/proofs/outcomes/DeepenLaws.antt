-- Words and texts determine what a deepening writes.
use Rattle.std.proofs.Common.{◌≡◌, ℕ, ap, sym, subst, ◌∙◌, List, ◌++◌}
use Rattle.std.specs.Prelude.{Some}
use Rattle.ll_deepen.specs.Deciding.{IsDeciding}
use Rattle.ll_deepen.proofs.CallerLemmas.{one_bound}
use Rattle.ll_edge.specs.Texts.{Texts}
use Rattle.ll_laws.specs.Problem.{ProblemTree}
use Rattle.ll_laws.specs.Output.{run_status}
use Rattle.ll_top.specs.texts.Faults.{Cause, fault_text, cause_status}
use Rattle.ll_top.specs.forms.Words.{RunWords, DeepenWords}
use Rattle.ll_top.specs.texts.Outcome.{AnyName, NoName, RunAsks, RunFails}
use Rattle.ll_top.specs.Outcome.{whole_text}
use Rattle.ll_top.specs.Deepening.{run_within, bound_line, DeepenComesTo, deepened, deepen_failed}
use Rattle.ll_top.specs.DeepenEnds.{with_bound, first_run}
use Rattle.ll_top.proofs.calls.DeepenLemmas.{asks-within, deciding-within}

-- what is known of runs: they ask one problem, or fail of one cause, and not both
module _ (texts : Texts) (one_problem : (run : RunWords) (p q : ProblemTree) → RunAsks (Some texts) run p → RunAsks (Some texts) run q → p ≡ q)
    (not_both : (run : RunWords) (p : ProblemTree) (c : Cause) → RunAsks (Some texts) run p → RunFails (Some texts) AnyName NoName run c → ⊥)
    (one_cause : (run : RunWords) (c d : Cause) → RunFails (Some texts) AnyName NoName run c → RunFails (Some texts) AnyName NoName run d → c ≡ d) where
  -- one bound decides
  deciding-once : (deepen : DeepenWords) (n m : ℕ) (p q : ProblemTree) → RunAsks (Some texts) (run_within deepen n) p
      → RunAsks (Some texts) (run_within deepen m) q → IsDeciding p deepen.series n → IsDeciding q deepen.series m → n ≡ m
  deciding-once deepen n m p q a b d e =
      let same = one_problem (run_within deepen 0) (with_bound p 0) (with_bound q 0) (asks-within (Some texts) deepen n 0 p a)
      (asks-within (Some texts) deepen m 0 q b) in
      one_bound (with_bound q 0) deepen.series n m (subst (λ x. IsDeciding x deepen.series n) same (deciding-within p deepen.series n 0 d))
      (deciding-within q deepen.series m 0 e)

  asks-or-fails : (deepen : DeepenWords) (n : ℕ) (p : ProblemTree) (c : Cause) → RunAsks (Some texts) (run_within deepen n) p
      → RunFails (Some texts) AnyName NoName (first_run deepen) c → ⊥
  asks-or-fails deepen n p c a f = not_both (first_run deepen) (with_bound p deepen.series.from) c (asks-within (Some texts) deepen n deepen.series.from p a) f

  pub deepens-one : (deepen : DeepenWords) (s t : ℕ) (u v : List ℕ) → DeepenComesTo (Some texts) AnyName NoName deepen s u
      → DeepenComesTo (Some texts) AnyName NoName deepen t v → (s ≡ t) × (u ≡ v)
  deepens-one deepen s t u v (deepened n p a d e f) (deepened m q b c g h) =
      let same = deciding-once deepen n m p q a b d c in
      let o = one_problem (run_within deepen m) p q (subst (λ x. RunAsks (Some texts) (run_within deepen x) p) same a) b in (
        e ∙ (ap run_status o ∙ sym g),
        f ∙ (ap (λ x. bound_line x ++ whole_text deepen.proofs p) same
            ∙ (ap (λ x. bound_line m ++ whole_text deepen.proofs x) o ∙ sym h)),
      )
  deepens-one deepen s t u v (deepened n p a d e f) (deepen_failed c b g h) = absurd (asks-or-fails deepen n p c a b)
  deepens-one deepen s t u v (deepen_failed c b g h) (deepened n p a d e f) = absurd (asks-or-fails deepen n p c a b)
  deepens-one deepen s t u v (deepen_failed c a e f) (deepen_failed d b g h) =
      let o = one_cause (first_run deepen) c d a b in (e ∙ (ap cause_status o ∙ sym g), f ∙ (ap fault_text o ∙ sym h))
