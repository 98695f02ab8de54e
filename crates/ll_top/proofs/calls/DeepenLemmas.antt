-- A problem with another bound, and the deepening of one up to the whole call.
use Rattle.std.proofs.Common.{◌≡◌, ◌≤◌, ℕ, refl, ap, Bool, List, ◌++◌}
use Rattle.std.specs.Prelude.{Option, Result, Err, IfOk, IfErr, OnOk, OnErr}
use Rattle.std.specs.Io.KnownBytes.{append_known}
use Rattle.ll_deepen.specs.declared.series.Series.{Series}
use Rattle.ll_deepen.specs.Deciding.{IsDeciding}
use Rattle.ll_edge.specs.Counts.{Rose}
use Rattle.ll_edge.specs.Pieces.{AppendsFront}
use Rattle.ll_edge.specs.Texts.{Texts}
use Rattle.ll_laws.specs.Problem.{ProblemTree}
use Rattle.ll_laws.specs.Output.{run_status}
use Rattle.ll_laws.specs.Valid.{IsValid}
use Rattle.ll_top.specs.declared.texts.refusing.Refusal.{Refusal}
use Rattle.ll_top.specs.declared.texts.refusing.Refusal.TheVariants.{Text, Unwritable, OutOfMemory}
use Rattle.ll_top.specs.declared.run.Found.{Found}
use Rattle.ll_top.specs.forms.Words.{DeepenWords}
use Rattle.ll_top.specs.texts.Judging.{TextsAsk}
use Rattle.ll_top.specs.texts.Outcome.{RunAsks}
use Rattle.ll_top.specs.Outcome.{whole_text}
use Rattle.ll_top.specs.texts.CallEnds.{nothing}
use Rattle.ll_top.specs.Deepening.{run_within, bound_line, DeepenComesTo, deepened}
use Rattle.ll_top.specs.DeepenEnds.{with_bound, first_run, DeepenRefuses, DeepensTo}
use Rattle.ll_top.specs.texts.Endings.{Prepares}
use Rattle.ll_top.specs.Endings.{status_of_found}
use Rattle.ll_top.specs.OwnEnds.{EndsOwn, NoneFails}
use Rattle.ll_top.specs.Running.{IsRunRefusal}
use Rattle.ll_edge.proofs.CallerLemmas.{first-cut}
use Rattle.ll_top.proofs.outcomes.OwnLemmas.{second-done, second-stopped, refused-later, stopped, ended, ends-more}

-- ---- another bound

-- the same texts ask the same problem but for the bound
pub texts-within : (program query : List ℕ) (m n : ℕ) (p : ProblemTree) → TextsAsk program query m p → TextsAsk program query n (with_bound p n)
texts-within program query m n p a = record {
  program_tree = a.program_tree;
  query_tree = a.query_tree;
  is_program = a.is_program;
  is_query = a.is_query;
  asks = record { program_faultless = a.asks.program_faultless; query_faultless = a.asks.query_faultless; is = ap (λ q. with_bound q n) a.asks.is };
}

pub asks-within : (told : Option Texts) (deepen : DeepenWords) (m n : ℕ) (p : ProblemTree) → RunAsks told (run_within deepen m) p
    → RunAsks told (run_within deepen n) (with_bound p n)
asks-within told deepen m n p a =
    record {
      program = a.program;
      query = a.query;
      program_read = a.program_read;
      query_read = a.query_read;
      asks =
          texts-within a.program a.query m n p a.asks;
    }

pub valid-within : (p : ProblemTree) (n : ℕ) → IsValid p → n ≤ 1000000 → IsValid (with_bound p n)
valid-within p n v l =
    record { goal = v.goal; goal_limits = v.goal_limits; clauses = v.clauses; modules = v.modules; asked = v.asked; clause_count = v.clause_count; bound = l }

-- a problem's own bound is not looked at
pub deciding-within : (p : ProblemTree) (series : Series) (n m : ℕ) → IsDeciding p series n → IsDeciding (with_bound p m) series n
deciding-within p series n m d = record {
  first = record { place = d.first.place; is = d.first.is; within = d.first.within; earlier = d.first.earlier };
  last =
      d.last;
}

-- ---- the run with the bound that decides

-- its first line was cut
pub line-cut : (proofs : Bool) (series : Series) (p : ProblemTree) (n faults more : ℕ) (before after : Option (List ℕ)) → IsDeciding p series n
    → Rose faults more → AppendsFront before (bound_line n) after
    → EndsOwn (DeepensTo proofs series p) status_of_found NoneFails (Rose faults more) before after (Err Unwritable)
line-cut proofs series p n faults more before after d r f =
    stopped (DeepensTo proofs series p) status_of_found NoneFails before after faults more (run_status (with_bound p n))
    (bound_line n ++ whole_text proofs (with_bound p n)) Unwritable r
    (record { bound = n; decides = d; status_is = refl; text_is = refl }) (first-cut before after (bound_line n) (whole_text proofs (with_bound p n)) f)

pub run-deepened : (proofs : Bool) (series : Series) (p now : ProblemTree) (n faults middle more : ℕ) (before mid after : Option (List ℕ))
    (r : Result Found Refusal) → IsDeciding p series n → now ≡ with_bound p n
    → faults ≤ middle → mid ≡ append_known before (bound_line n) → IfOk r (λ found. status_of_found found ≡ run_status now)
    → OnOk r (after ≡ append_known mid (whole_text proofs now))
    → IfErr r (IsRunRefusal middle more) → OnErr r (AppendsFront mid (whole_text proofs now) after)
    → EndsOwn (DeepensTo proofs series p) status_of_found NoneFails (Rose faults more) before after r
run-deepened proofs series p now n faults middle more before mid after r d e l m s t f c =
    ended (DeepensTo proofs series p) status_of_found NoneFails before after faults more (run_status now) (bound_line n ++ whole_text proofs now) r
    (record { bound = n; decides = d; status_is = ap run_status e; text_is = ap (λ q. bound_line n ++ whole_text proofs q) e }) s
    (refused-later faults middle more r l f)
    (second-done before mid after (bound_line n) (whole_text proofs now) r m t) (second-stopped before mid after (bound_line n) (whole_text proofs now) r m c)

-- ---- the texts of a deepening

module _ (told : Option Texts) (absence read_failed : List ℕ → Type 0) (deepen : DeepenWords) (w : Type 0) where
  -- they ask no problem
  pub not-deepened : (before : Option (List ℕ)) (e : Refusal) → Prepares told absence read_failed (first_run deepen) (Err e)
      → EndsOwn (DeepenComesTo told absence read_failed deepen) status_of_found (DeepenRefuses told absence read_failed deepen) w before before (Err e)
  not-deepened before (Text role refusal) h = (h, refl)
  not-deepened before Unwritable h = absurd h
  not-deepened before OutOfMemory h = nothing refl

  -- they ask one, which was run
  pub texts-deepened : (p : ProblemTree) (before after : Option (List ℕ)) (r : Result Found Refusal) → RunAsks told (first_run deepen) p
      → EndsOwn (DeepensTo deepen.proofs deepen.series p) status_of_found NoneFails w before after r
      → EndsOwn (DeepenComesTo told absence read_failed deepen) status_of_found (DeepenRefuses told absence read_failed deepen) w before after r
  texts-deepened p before after r a h =
      ends-more (DeepensTo deepen.proofs deepen.series p) (DeepenComesTo told absence read_failed deepen) status_of_found NoneFails
      (DeepenRefuses told absence read_failed deepen) w before after r comes (λ role refusal f. absurd f) h
    where
      comes : (s : ℕ) (t : List ℕ) → DeepensTo deepen.proofs deepen.series p s t → DeepenComesTo told absence read_failed deepen s t
      comes s t c =
          deepened c.bound (with_bound p c.bound) (asks-within told deepen deepen.series.from c.bound p a)
          (deciding-within p deepen.series c.bound c.bound c.decides) c.status_is c.text_is
