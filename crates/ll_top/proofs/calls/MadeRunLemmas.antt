-- From the way a run of a program that is made ends to its status and its text.
use Rattle.std.proofs.Common.{◌≡◌, ℕ, refl, subst, sym, ◌∙◌, List, ap}
use Rattle.std.specs.Prelude.{map, Option, Result, Ok, Err, IfOk, IfErr, OnOk, OnErr, IsErrAnd}
use Rattle.std.specs.Io.KnownBytes.{append_known}
use Rattle.ll_edge.specs.Counts.{Rose}
use Rattle.ll_edge.specs.Pieces.{AppendsFront}
use Rattle.ll_laws.specs.declared.Counts.{Counts}
use Rattle.ll_laws.specs.Problem.{ProblemTree, problem_events, problem_cost}
use Rattle.ll_laws.specs.Output.{run_status, counts_text}
use Rattle.ll_lexer.specs.declared.Fault.{Fault}
use Rattle.ll_top.specs.Faultless.{IsFaultlessProgram, IsFaultlessQuery}
use Rattle.ll_order.specs.Outlets.{CountsOf}
use Rattle.ll_polarity.specs.Faults.{heading}
use Rattle.ll_polarity.specs.Asks.{part_of, problem_with}
use Rattle.ll_make.specs.Kinds.{query_text}
use Rattle.ll_top.specs.declared.texts.judge.Role.{Role}
use Rattle.ll_top.specs.declared.run.Found.{Found}
use Rattle.ll_top.specs.declared.texts.refusing.TextRefusal.TheVariants as text
use Rattle.ll_top.specs.declared.texts.refusing.Refusal.{Refusal}
use Rattle.ll_top.specs.declared.texts.refusing.Refusal.TheVariants.{Text, Unwritable, OutOfMemory}
use Rattle.ll_top.specs.Making.{make_text}
use Rattle.ll_top.specs.forms.Making.{MadeRunWords}
use Rattle.ll_top.specs.MadeRuns.{MadeAsks, last_line, MadeRunComesTo}
use Rattle.ll_top.specs.MadeEnds.{MadeRunEnds}
use Rattle.ll_top.specs.texts.Judging.{IsTextFault, TextsAsk}
use Rattle.ll_top.specs.texts.CallEnds.{nothing, front, Ends, whole}
use Rattle.ll_top.specs.texts.Endings.{Judges}
use Rattle.ll_top.specs.Endings.{status_of_found}
use Rattle.ll_top.specs.Running.{IsRunRefusal}
use Rattle.ll_top.proofs.calls.RunLemmas.{last-line}

-- ---- the problem

pub made-asked : (program query : List ℕ) (bound : ℕ) → IsFaultlessProgram program → IsFaultlessQuery query → (p : ProblemTree) × TextsAsk program query bound p
made-asked program query bound a b = (
  problem_with (part_of a.tree) b.tree bound,
  record {
    program_tree = a.tree;
    query_tree = b.tree;
    is_program = record { lexed = a.lexed; of_text = a.of_text; is_lexed = a.is_lexed; reads = a.reads };
    is_query = record { lexed = b.lexed; of_text = b.of_text; is_lexed = b.is_lexed; reads = b.reads };
    asks = record { program_faultless = a.faultless; query_faultless = b.faultless (map heading a.tree.modules); is = refl };
  },
)

-- ---- before the last line

-- the texts have no fault
abbrev pub HasNone : MadeRunWords → Type 0
HasNone run = (role : Role) (f : Fault) → IsTextFault (make_text run.make) (query_text run.make.kind) role f → ⊥

-- so memory ran out
unjudged-ended : (write_failed : Type 0) (run : MadeRunWords) (before : Option (List ℕ)) (e : Refusal) → HasNone run
    → Judges (make_text run.make) (query_text run.make.kind) run.bound (Err e) → MadeRunEnds write_failed run before before (Err e)
unjudged-ended w run before (Text role (text.Faulty f)) none h = none role f h
unjudged-ended w run before (Text role text.Absent) none h = h
unjudged-ended w run before (Text role text.Unreadable) none h = h
unjudged-ended w run before (Text role text.Oversized) none h = h
unjudged-ended w run before Unwritable none h = absurd h
unjudged-ended w run before OutOfMemory none h = nothing refl

pub unjudged : (write_failed : Type 0) (run : MadeRunWords) (before : Option (List ℕ)) (r : Result Found Refusal) (e : Refusal) (program query : List ℕ)
    → IsErrAnd r (λ x. x ≡ e) → program ≡ make_text run.make
    → query ≡ query_text run.make.kind → HasNone run → Judges program query run.bound (Err e) → MadeRunEnds write_failed run before before r
unjudged w run before (Ok x) e program query p m q none h = absurd p
unjudged w run before (Err x) e program query p m q none h =
    let judged = subst (λ t. Judges (make_text run.make) t run.bound (Err e)) q (subst (λ t. Judges t query run.bound (Err e)) m h) in
    subst (λ y. MadeRunEnds w run before before (Err y)) (sym p) (unjudged-ended w run before e none judged)

-- what the search of a problem comes to
comes : (run : MadeRunWords) (p : ProblemTree) → MadeAsks run p → MadeRunComesTo run (run_status p) (last_line p)
comes run p u = record { problem = p; asks = u; status_is = refl; is = refl }

-- a problem was asked, and its search counted
pub counted-ends : (run : MadeRunWords) (p : ProblemTree) (faults more : ℕ) (before after : Option (List ℕ)) (r : Result Found Refusal) → MadeAsks run p
    → IfOk r (λ found. status_of_found found ≡ run_status p)
    → OnOk r (after ≡ append_known before (last_line p)) → IfErr r (IsRunRefusal faults more) → OnErr r (AppendsFront before (last_line p) after)
    → MadeRunEnds (Rose faults more) run before after r
counted-ends run p n m b a (Ok _) u s t f e = (p, u, s, t)
counted-ends run p n m b a (Err Unwritable) u s t f e = (p, u, f, e)
counted-ends run p n m b a (Err OutOfMemory) u s t f e = front (run_status p) (last_line p) (comes run p u) e
counted-ends run p n m b a (Err (Text role refusal)) u s t f e = absurd f

-- ---- the end

module _ (write_failed : Type 0) (run : MadeRunWords) (before after : Option (List ℕ)) where
  pub made-found-ends : (found : Found) (status : ℕ) → status ≡ status_of_found found → MadeRunEnds write_failed run before after (Ok found)
      → Ends (MadeRunComesTo run) write_failed before after status
  made-found-ends _ status e h = whole (last_line h.0) (record { problem = h.0; asks = h.1; status_is = e ∙ h.2; is = refl }) h.3

-- ---- the last line

pub line-written : (p : ProblemTree) (c : Counts) (before after : Option (List ℕ)) → CountsOf c (problem_events p) (problem_cost p)
    → after ≡ append_known before (counts_text c.answers c.reached c.inferences)
    → after ≡ append_known before (last_line p)
line-written p c before after h w = w ∙ ap (append_known before) (last-line p c h)

pub line-cut : (p : ProblemTree) (c : Counts) (before after : Option (List ℕ)) → CountsOf c (problem_events p) (problem_cost p)
    → AppendsFront before (counts_text c.answers c.reached c.inferences) after
    → AppendsFront before (last_line p) after
line-cut p c before after h f = subst (λ t. AppendsFront before t after) (last-line p c h) f
