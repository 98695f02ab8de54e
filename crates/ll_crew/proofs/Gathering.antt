-- The seats of a crew, and the numbers that the first seat gave, less those of the seats that come back.
use Rattle.std.proofs.Common.{◌≡◌, ◌⊎◌, ℕ, suc, ◌+◌, List, [], ◌∷◌, ◌++◌, length, length-append, arith}
use Rattle.std.proofs.Common.{map, true, false, inl, inr, ⊎_elim, ap, ◌∙◌, refl, eqb, if◌then◌else◌, eq-eqb}
use Rattle.std.proofs.Common.{sym, subst, Option, Some}
use mathlib.Core.List.{map-append}
use Rattle.ll_turn.specs.Views.{without}
use Rattle.ll_laws.specs.Sound.{Every}
use Rattle.ll_laws.specs.declared.Event.{Event}
use Rattle.ll_laws.specs.Pool.{PoolData}
use Rattle.ll_laws.specs.CoreEvents.{opening as opens}
use Rattle.ll_core.proofs.CallerLemmas.{every_more, every_snoc}
use Rattle.ll_pool.specs.declared.data.PoolProblem.{PoolProblem}
use Rattle.ll_pool.specs.Fits.{parts, problem_of}
use Rattle.ll_pool.specs.Turns.{PoolSight, SeatSight}
use Rattle.ll_laws.specs.Problem.{ProblemTree}
use Rattle.ll_freeze.specs.Frozen.{FrozenSight, alternatives_in, opening}
use Rattle.ll_freeze.specs.Parts.{Base}
use Rattle.ll_crew.specs.Seats.{Sat, asked, of_batch}
use Rattle.ll_crew.specs.Turns.{CanWork}
use Rattle.ll_crew.specs.Crews.{worker_of, number_of, without_all, EachWorked, IsBack, MayBegin, IsCrew}

in_parts : (qs bs xs : List ℕ) → without_all (qs ++ bs) xs ≡ without_all bs (without_all qs xs)
in_parts [] bs xs = refl
in_parts (a ∷ qs) bs xs = in_parts qs bs (without a xs)

one_more : (qs : List ℕ) (n : ℕ) (g : List ℕ) → (without_all qs (n ∷ g) ≡ without_all qs g) ⊎ (without_all qs (n ∷ g) ≡ n ∷ without_all qs g)
one_more [] n g = inr refl
one_more (a ∷ qs) n g = elim (eqb a n) as (λ b. (without_all qs (if b then without a g else n ∷ without a g) ≡ without_all qs (without a g))
    ⊎ (without_all qs (if b then without a g else n ∷ without a g) ≡ n ∷ without_all qs (without a g)))
    [ true ↦ inl refl | false ↦ one_more qs n (without a g) ]

gone : (n : ℕ) → without n (n ∷ []) ≡ []
gone n = ap (λ b. if b then [] else n ∷ []) (eq-eqb n n refl)

pub given_and_back : (qs : List ℕ) (n : ℕ) (g : List ℕ) → without_all qs g ≡ [] → without_all (qs ++ n ∷ []) (n ∷ g) ≡ []
given_and_back qs n g e = in_parts qs (n ∷ []) (n ∷ g) ∙ ⊎_elim
    (λ (t : without_all qs (n ∷ g) ≡ without_all qs g). ap (without n) (t ∙ e))
    (λ (t : without_all qs (n ∷ g) ≡ n ∷ without_all qs g). ap (without n) (t ∙ ap (λ l. n ∷ l) e) ∙ gone n)
    (one_more qs n g)

pub each_append : (xs ys xs' ys' : List Sat) → EachWorked xs xs' → EachWorked ys ys' → EachWorked (xs ++ ys) (xs' ++ ys')
each_append [] ys [] ys' f g = g
each_append [] ys (x' ∷ xs') ys' f g = absurd f
each_append (x ∷ xs) ys [] ys' f g = absurd f
each_append (x ∷ xs) ys (x' ∷ xs') ys' f g = (f.0, each_append xs ys xs' ys' f.1 g)

-- seats that come back with the numbers with which they went, and may be taken back
pub each_back : (pool : PoolSight) (problem : ProblemTree) (xs ys : List Sat) → Every (CanWork pool problem) xs → EachWorked xs ys
    → Every (IsBack pool) ys × (map worker_of ys ≡ map worker_of xs)
each_back pool problem [] [] h f = (tt, refl)
each_back pool problem [] (y ∷ ys) h f = absurd f
each_back pool problem (x ∷ xs) [] h f = absurd f
each_back pool problem (x ∷ xs) (y ∷ ys) h f =
    let rest = each_back pool problem xs ys h.1 f.1 in
    let w = f.0 in let can = h.0 in let seat = can.seat in
    ((record { table = w.table ∙ seat.table; done = w.done }, rest.0), λ i. w.worker i ∷ rest.1 i)

-- ---- a new crew

-- how far the seats of a new pool are made: the first seat has still to give the numbers from `worker` on
pub record Begun {N Of : Type 0} (pool : PoolSight) (problem : Option (PoolProblem Of)) (seen : PoolData N Event) (worker : ℕ) (first : SeatSight N Of)
    (others : List (SeatSight N Of)) : Type 0 where
  pub leads : MayBegin pool problem first
  pub number : first.mine.worker ≡ 0
  pub same_seen : first.mine.seen ≡ seen
  pub from : first.mine.from ≡ worker
  pub end : first.mine.end ≡ pool.workers
  pub follow : Every (MayBegin pool problem) others
  pub numbers : without_all (map number_of others) first.given ≡ []
  pub each : suc (length others) ≡ worker

pub begun_more : {N Of : Type 0} (pool : PoolSight) (problem : Option (PoolProblem Of)) (seen : PoolData N Event) (worker : ℕ)
    (first left new : SeatSight N Of) (others more : List (SeatSight N Of)) → Begun pool problem seen worker first others
    → left ≡ record first { mine = (parts first.mine).0; given = worker ∷ first.given }
    → new ≡ record first { mine = (parts first.mine).1; given = [] } → more ≡ others ++ new ∷ [] → Begun pool problem seen (worker + 1) left more
begun_more {N = N} {Of = Of} pool problem seen worker first left new others more b k n e =
    let may : MayBegin pool problem new = (
      ap (λ (s : SeatSight N Of). s.table) n ∙ b.leads.0,
      ap (λ (s : SeatSight N Of). s.problem) n ∙ b.leads.1,
      ap (λ (s : SeatSight N Of). s.mine.piece) n,
    ) in
    let own : number_of new ≡ worker = ap (λ (s : SeatSight N Of). s.mine.worker) n ∙ b.from in
    record {
      leads = (
        ap (λ (s : SeatSight N Of). s.table) k ∙ b.leads.0,
        ap (λ (s : SeatSight N Of). s.problem) k ∙ b.leads.1,
        ap (λ (s : SeatSight N Of). s.mine.piece) k ∙ b.leads.2,
      );
      number = ap (λ (s : SeatSight N Of). s.mine.worker) k ∙ b.number;
      same_seen = ap (λ (s : SeatSight N Of). s.mine.seen) k ∙ b.same_seen;
      from = ap (λ (s : SeatSight N Of). s.mine.from) k ∙ ap (λ x. x + 1) b.from;
      end = ap (λ (s : SeatSight N Of). s.mine.end) k ∙ b.end;
      follow = subst (Every (MayBegin pool problem)) (sym e) (every_snoc (MayBegin pool problem) others new b.follow may);
      numbers = ap (λ l. without_all (map number_of l) left.given) e
          ∙ (ap (λ l. without_all l left.given) (map-append number_of others (new ∷ []))
          ∙ (ap (λ l. without_all (map number_of others ++ number_of new ∷ []) l) (ap (λ (s : SeatSight N Of). s.given) k)
          ∙ (ap (λ m. without_all (map number_of others ++ m ∷ []) (worker ∷ first.given)) own
          ∙ given_and_back (map number_of others) worker first.given b.numbers)));
      each = let m = ap length e in let n = length-append others (new ∷ []) in let k = b.each in omega arith;
    }

-- the seats of the search of a problem may begin to work
pub crew_works : (problem : ProblemTree) (base : Base) (root : FrozenSight) (workers : ℕ) (pool : PoolSight) (first : Sat) (others : List Sat)
    → root ≡ opening problem base → IsCrew of_batch alternatives_in root workers pool first others
    → CanWork pool problem first × Every (CanWork pool problem) others × (first.mine.seen ≡ opens (opening problem base) workers)
crew_works problem base root workers pool first others is crew =
    let asks : Some (problem_of of_batch alternatives_in root) ≡ Some (asked problem) = ap (λ r. Some (problem_of of_batch alternatives_in r)) is in
    let works : (s : Sat) → MayBegin pool (Some (problem_of of_batch alternatives_in root)) s → CanWork pool problem s =
    λ s may. record { seat = record { table = may.0; problem = may.1 ∙ asks }; rests = may.2 } in (
      works first crew.leads,
      every_more (MayBegin pool (Some (problem_of of_batch alternatives_in root))) (CanWork pool problem) others works crew.follow,
      crew.seen ∙ ap (λ r. opens r workers) is,
    )
