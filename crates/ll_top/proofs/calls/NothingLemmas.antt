-- From a run that ends with status 1 to the derivations that there are not.
use Rattle.std.proofs.Common.{◌≡◌, ℕ, Bool, true, false, List, Option, subst, sym, ◌∙◌, arith}
use Rattle.std.specs.Prelude.{is_some, if◌then◌else◌}
use Rattle.ll_edge.specs.Texts.{Texts}
use Rattle.ll_laws.specs.Problem.{ProblemTree}
use Rattle.ll_laws.specs.Output.{run_status}
use Rattle.ll_laws.specs.Valid.{IsValid}
use Rattle.ll_top.specs.textbook.Follows.{reckons}
use Rattle.ll_top.specs.textbook.Laws.{NothingFollows, NumberlessFollows}
use Rattle.ll_top.specs.forms.Words.{RunWords, IsRun}
use Rattle.ll_top.specs.texts.Outcome.{RunAsks}
use Rattle.ll_top.specs.Outcome.{front_events, status_of_run}
use Rattle.ll_top.specs.Nothing.{NoneFollows, AsksInVain}
use Rattle.ll_top.proofs.outcomes.OneText.{one-run}

-- the status of a run that is 1 is that of its whole search
whole-status : (first : Option ℕ) (p : ProblemTree) → status_of_run first p ≡ 1 → run_status p ≡ 1
whole-status first p e = by_end (is_some (front_events first p)) e
  where
    by_end : (b : Bool) → (if b then 0 else run_status p) ≡ 1 → run_status p ≡ 1
    by_end true h = absurd (omega arith)
    by_end false h = h

-- what is both true and false
pub true-and-false : (b : Bool) → b ≡ true → b ≡ false → ⊥
true-and-false b h k = let e : true ≡ false = sym h ∙ k in cc

-- a run that ended without an answer, and without having reached the bound
pub asks-in-vain : NothingFollows → NumberlessFollows → (told : Option Texts) (run : RunWords) (p : ProblemTree) (status : ℕ) → RunAsks told run p → IsValid p
    → status ≡ status_of_run run.first p → status ≡ 1 → AsksInVain told run
asks-in-vain nothing numberless told run p status asks valid is one =
    let never : NoneFollows p = λ ts m h f. nothing p ts m h valid (whole-status run.first p (sym is ∙ one)) f in record {
      problem = p;
      asks = asks;
      none = never;
      nothing = λ n ts m f h. true-and-false (reckons h) (never ts m h f) (numberless p ts m h n);
    }

-- what the words of a run ask for
pub vain-run : (words : List (List ℕ)) (told : Option Texts) (run other : RunWords) → IsRun words run → IsRun words other
    → AsksInVain told run → AsksInVain told other
vain-run words told run other h k v = subst (AsksInVain told) (one-run words run other h k) v
