-- Alternatives that a worker runs itself, one after the other.
use Rattle.std.proofs.Common.{◌≡◌, ℕ, zero, suc, ◌+◌, ◌<◌, List, [], ◌∷◌, ◌++◌, take, length, refl, sym, ap, ◌∙◌, subst, arith, append_assoc, append-nil}
use Rattle.std.proofs.Common.{Bool, true, false, Option, Some, None, IsSomeAnd, Result, Ok, Err, IfOk, OnOk, OnErr}
use Rattle.std.specs.Prelude.{IsErr, IfSome, slice_get}
use Rattle.std.specs.Arc.{arc_value}
use Rattle.std.specs.declared.sync.Arc.{Arc}
use Rattle.std.specs.declared.alloc.Global.{Global}
use Rattle.std.proofs.lemmas.Result.{IfOk-from_err}
use Rattle.std.proofs.lemmas.List.{take_more}
use Rattle.std.proofs.lemmas.List.Concat.{flat_map-append}
use Rattle.std.proofs.lemmas.List.Sums.{sum_by-append}
use Rattle.std.proofs.lemmas.Option.{get_or_from_slice_get, slice_get_within}
use Rattle.ll_laws.specs.declared.Event.{Event}
use Rattle.ll_laws.specs.Pool.{Owed}
use Rattle.ll_laws.specs.Search.{cut_count}
use Rattle.ll_laws.specs.Sound.{report_of}
use Rattle.ll_core.proofs.CallerLemmas.{cut_sum, cut_twice}
use Rattle.ll_pool.specs.declared.data.OpenPiece.{OpenPiece}
use Rattle.ll_laws.specs.Problem.{ProblemTree}
use Rattle.ll_freeze.specs.Frozen.{FrozenSight, alternatives_in}
use Rattle.ll_engine.specs.Seen.{Owing}
use Rattle.ll_engine.specs.Resumes.{Resumes}
use Rattle.ll_crew.specs.Seats.{Sat}
use Rattle.ll_crew.specs.Alternatives.{events_in, cost_in}
use Rattle.ll_crew.specs.Pieces.{IsKeptOf, Owes, OwesAll, Lacks}
use Rattle.ll_crew.specs.Runs.{RunsAlone, RunsOne, RunsAll, RunsFirst, EndsTo, Reports}
use Rattle.ll_crew.specs.declared.piece.Ending.{Ending}
use Rattle.ll_crew.specs.declared.piece.Ending.TheVariants as ending
use Rattle.ll_crew.proofs.Calms.{same_on}
use Rattle.ll_crew.proofs.Arms.{ended_partly, some_on}

one_more : (os : List (Owed Event)) (k : ℕ) (o : Owed Event) → slice_get os k ≡ Some o → take (k + 1) os ≡ take k os ++ o ∷ []
one_more os k o e = take_more os k o (slice_get_within os k o e) ∙ ap (λ x. take k os ++ x ∷ []) (get_or_from_slice_get os k o o e)

events_more : (os : List (Owed Event)) (k : ℕ) (o : Owed Event) → slice_get os k ≡ Some o → events_in (take (k + 1) os) ≡ events_in (take k os) ++ o.events
events_more os k o e = ap events_in (one_more os k o e) ∙ (flat_map-append (λ (x : Owed Event). x.events) (take k os) (o ∷ [])
    ∙ ap (λ l. events_in (take k os) ++ l) (append-nil o.events))

cost_more : (os : List (Owed Event)) (k : ℕ) (o : Owed Event) → slice_get os k ≡ Some o → cost_in (take (k + 1) os) ≡ cost_in (take k os) + o.cost
cost_more os k o e =
    let s : cost_in (take k os ++ o ∷ []) ≡ cost_in (take k os) + cost_in (o ∷ []) = sum_by-append (λ (x : Owed Event). x.cost) (take k os) (o ∷ []) in
    let one : cost_in (o ∷ []) ≡ o.cost = omega arith in
    ap cost_in (one_more os k o e) ∙ (s ∙ ap (λ n. cost_in (take k os) + n) one)

pub at_place : (os : List (Owed Event)) (k : ℕ) → k < length os → (o : Owed Event) × (slice_get os k ≡ Some o)
at_place [] k low = absurd (omega arith)
at_place (o ∷ os) zero low = (o, refl)
at_place (o ∷ os) (suc k) low = at_place os k (omega arith)

-- the engine of an alternative is one of the problem
pub its_problem : (os : List (Owed Event)) (k : ℕ) (problem : ProblemTree) (engine : Owing) → k < length os
    → ((o : Owed Event) → slice_get os k ≡ Some o → Resumes problem o engine) → engine.problem ≡ problem
its_problem os k problem engine low f = let at = at_place os k low in let r = f at.0 at.1 in r.problem

pub kept_some : (problem : ProblemTree) (kept : Option Owing) (engine : Owing) → kept ≡ Some engine → IsKeptOf problem kept → engine.problem ≡ problem
kept_some problem kept engine e h = subst (IsKeptOf problem) e h

pub its_problems : {E : Type 0} (os : List (Owed Event)) (k : ℕ) (problem : ProblemTree) (result : Result Owing E) → k < length os
    → IfOk result (λ e. (o : Owed Event) → slice_get os k ≡ Some o → Resumes problem o e) → IfOk result (λ (e : Owing). e.problem ≡ problem)
its_problems os k problem (Ok e) low f = its_problem os k problem e low f
its_problems os k problem (Err x) low f = tt

-- it was run to its end
pub one_run : (y : Type 0) (a b : Sat) (o : Owed Event) (problem : ProblemTree) (events events' : List Event) (engine after : Owing) (n : ℕ)
    → Resumes problem o engine → RunsAlone y a b events engine events' after → n ≡ after.made → RunsOne y a b events o events' n
one_run y a b o problem events events' engine after n e run is =
    record {
      goes = run.goes;
      whole = run.whole ∙ ap (λ l. events ++ l) e.events;
      made = ap cut_count is ∙ (run.made ∙ ap cut_count (zero_plus engine.made engine.cost e.made ∙ e.cost));
    }
  where
    zero_plus : (m n : ℕ) → m ≡ 0 → m + n ≡ n
    zero_plus m n e = omega arith

-- one alternative more
pub runs_more : (x y : Type 0) (s a b : Sat) (found : List Event) (first : ℕ) (owed : List (Owed Event)) (k : ℕ) (o : Owed Event) (events events' : List Event)
    (inferences more inferences' : ℕ)
    → slice_get owed k ≡ Some o → RunsFirst x s a found first owed k events inferences → RunsOne y a b events o events' more
    → inferences' ≡ cut_count (inferences + more)
    → RunsFirst y s b found first owed (k + 1) events' inferences'
runs_more x y s a b found first owed k o events events' inferences more inferences' at r run sum =
    let f = r.goes in let g = run.goes in let h = f.same in let i = g.same in
    record {
      goes = record {
        same = record { table = i.table ∙ h.table; problem = i.problem ∙ h.problem; worker = i.worker ∙ h.worker; given = i.given ∙ h.given };
        piece = g.piece ∙ f.piece;
        quit = g.quit ∙ f.quit;
        stands = g.stands;
      };
      whole = run.whole ∙ (ap (λ l. l ++ o.events) r.whole ∙
          (append_assoc found (events_in (take k owed)) o.events ∙ ap (λ l. found ++ l) (sym (events_more owed k o at))));
      counted = sum ∙ (cut_sum inferences more (first + cost_in (take k owed)) o.cost (ap cut_count r.counted ∙ cut_twice (first + cost_in (take k owed)))
          run.made ∙ ap cut_count (together first (cost_in (take k owed)) o.cost (cost_in (take (k + 1) owed)) (cost_more owed k o at)));
    }
  where
    together : (a b c d : ℕ) → d ≡ b + c → (a + b) + c ≡ a + d
    together a b c d e = omega arith

-- ---- pieces

lacks_rest : (x : OpenPiece) (found after : List Event) (old : Owing) (rest : List (Owed Event)) (n : ℕ) → Owes x found old rest → after ≡ found ++ old.events
    → cut_count n ≡ cut_count (old.made + old.cost) → Lacks after n rest x
lacks_rest x found after old rest n h whole made =
    let assoc : (old.made + old.cost) + cost_in rest ≡ old.made + (old.cost + cost_in rest) = omega arith in
    record {
      events = h.events ∙ (sym (append_assoc found old.events (events_in rest)) ∙ ap (λ l. l ++ events_in rest) (sym whole));
      cost = ap cut_count h.cost ∙ sym (cut_sum n (cost_in rest) (old.made + old.cost) (cost_in rest) made refl
          ∙ (ap cut_count assoc ∙ cut_sum old.made (old.cost + cost_in rest) h.done (old.cost + cost_in rest) h.made refl));
    }

-- what a piece lacks once its engine has nothing left, which ran beside these alternatives
pub all_lacks : (piece piece' : Option OpenPiece) (found after : List Event) (old : Owing) (rest : List (Owed Event)) (n : ℕ) → piece' ≡ piece
    → OwesAll piece found old rest → after ≡ found ++ old.events → cut_count n ≡ cut_count (old.made + old.cost)
    → IsSomeAnd piece' (Lacks after n rest)
all_lacks None piece' found after old rest n e h whole made = absurd h
all_lacks (Some x) piece' found after old rest n e h whole made =
    subst (λ p. IsSomeAnd p (Lacks after n rest)) (sym e) (lacks_rest x found after old rest n h whole made)

-- and once these alternatives were run, too
pub lacks_none : (piece piece' : Option OpenPiece) (found after : List Event) (rest : List (Owed Event)) (n m : ℕ) → piece' ≡ piece
    → IsSomeAnd piece (Lacks found n rest) → after ≡ found ++ events_in rest → m ≡ cut_count (n + cost_in rest)
    → IsSomeAnd piece' (λ (x : OpenPiece). record { events = after; cost = m } ≡ report_of x.owes)
lacks_none None piece' found after rest n m e h whole counted = absurd h
lacks_none (Some x) piece' found after rest n m e h whole counted =
    let events = whole ∙ sym h.events in let cost = counted ∙ sym h.cost in
    subst (λ p. IsSomeAnd p (λ (x : OpenPiece). record { events = after; cost = m } ≡ report_of x.owes)) (sym e)
    (λ i. record { events = events i; cost = cost i })

-- a piece that is to be closed once the batch that came back was run, too
pub partly_reports : {E : Type 0} (x y end refused : Type 0) (problem : ProblemTree) (ended : Ending) (n : ℕ) (batch : Arc FrozenSight Global)
    (s a b : Sat) (found events : List Event) (r : Result (Option ℕ) E) → ended ≡ ending.Partly n batch → EndsTo x end refused problem ended s a found
    → IfOk r (λ o. IfSome o (λ m. RunsAll y a b found (events_in (alternatives_in (arc_value batch)))
    (n + cost_in (alternatives_in (arc_value batch))) events m))
    → IfOk r (λ o. IfSome o (λ m. Reports y s b events m))
partly_reports x y end refused problem ended n batch s a b found events r is ends runs =
    let first = ended_partly x end refused problem ended n batch s a found is ends in
    some_on r (λ m. RunsAll y a b found (events_in (alternatives_in (arc_value batch))) (n + cost_in (alternatives_in (arc_value batch))) events m)
    (λ m. Reports y s b events m) runs
    (λ m all.
    let stays = first.0 in let goes = all.goes in
    record {
      stays = record { same = same_on s a b stays.same goes.same; quit = goes.quit ∙ stays.quit; stands = goes.stands };
      whole = lacks_none a.mine.piece b.mine.piece found events (alternatives_in (arc_value batch)) n m goes.piece first.1 all.whole all.counted;
    })

-- ---- of two values one is chosen

pub chosen_holds : {X E : Type 0} (P : X → Type 0) (done : Result Bool E) (r : Result X E) (x z : X) → (done ≡ Ok true → r ≡ Ok x)
    → (done ≡ Ok false → r ≡ Ok z) → (IsErr done → IsErr r) → (done ≡ Ok true → P x) → (done ≡ Ok false → P z) → IfOk r P
chosen_holds {X} {E} P (Ok true) r x z a b f y n = subst (λ (u : Result X E). IfOk u P) (sym (a refl)) (y refl)
chosen_holds {X} {E} P (Ok false) r x z a b f y n = subst (λ (u : Result X E). IfOk u P) (sym (b refl)) (n refl)
chosen_holds P (Err e) r x z a b f y n = IfOk-from_err r P (f refl)

pub chosen_on : {X E : Type 0} (Q : Type 0) (done : Result Bool E) (r : Result X E) → (IsErr done → IsErr r) → OnOk done Q → OnOk r Q
chosen_on Q (Ok d) (Ok x) f q = q
chosen_on Q (Ok d) (Err x) f q = tt
chosen_on Q (Err e) r f q = IfOk-from_err r (λ x. Q) (f refl)

pub chosen_fails : {X E : Type 0} (Q : Type 0) (done : Result Bool E) (r : Result X E) (x z : X) → (done ≡ Ok true → r ≡ Ok x)
    → (done ≡ Ok false → r ≡ Ok z) → OnErr done Q → OnErr r Q
chosen_fails {X} {E} Q (Ok true) r x z a b q = subst (λ (u : Result X E). OnErr u Q) (sym (a refl)) tt
chosen_fails {X} {E} Q (Ok false) r x z a b q = subst (λ (u : Result X E). OnErr u Q) (sym (b refl)) tt
chosen_fails Q (Err e) (Ok u) x z a b q = tt
chosen_fails Q (Err e) (Err u) x z a b q = q

pub done_of : {E : Type 0} (P : Bool → Type 0) (done : Result Bool E) (x : Bool) → done ≡ Ok x → IfOk done P → P x
done_of {E} P done x e h = subst (λ (r : Result Bool E). IfOk r P) e h
