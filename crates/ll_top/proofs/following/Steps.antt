-- The branch of an answer has no more steps than the bound.
use Rattle.std.proofs.Common.{◌≡◌, ◌≤◌, ℕ, zero, suc, ◌+◌, ℤ, refl, ap, sym, subst, ◌∙◌, Bool, true, false, List, [], ◌∷◌, ◌++◌, length, inl, inr, arith}
use Rattle.std.specs.Prelude.{Option, Some, None, option_map, if◌then◌else◌, slice_get, flat_map, ◌||◌, not}
use Rattle.ll_bank.specs.Term.{Term, Int}
use Rattle.ll_bank.specs.Form.{Form, Top, One, Atom, With, Tensor, Plus, Bang, Lolli, Imp, Forall, Exists, Use, Num, Is, Less, Most}
use Rattle.ll_laws.specs.declared.Candidate.{Candidate}
use Rattle.ll_laws.specs.declared.Event.TheVariants.{Reached, Answer}
use Rattle.ll_laws.specs.declared.Step.{Step}
use Rattle.ll_laws.specs.declared.Step.TheVariants.{Plain}
use Rattle.ll_laws.specs.Answered.{Answered}
use Rattle.ll_laws.specs.Module.{Setting, ModuleTree}
use Rattle.ll_laws.specs.Number.{value_of, holds}
use Rattle.ll_laws.specs.Unify.{Solved, mgu}
use Rattle.ll_laws.specs.Settle.{Item, Goal, Front, settle_front, has_live}
use Rattle.ll_laws.specs.State.{State, settle, front_of, with_front}
use Rattle.ll_laws.specs.Attempt.{attempt, attempt_agenda, attempt_goal, stepped, take_side, load_module, take_value, instantiated, successors, tries}
use Rattle.ll_laws.specs.Attempt.{option_to_states}
use Rattle.ll_laws.specs.Search.{events, events_settled, events_of, answer_of}
use Rattle.ll_laws.proofs.CallerLemmas.{Among, from, taken_from, settle_steps}

-- one step more
abbrev OneMore : State → State → Type 0
OneMore s u = length u.steps ≡ suc (length s.steps)

pub one-more : (xs : List Step) (x : Step) → length (xs ++ x ∷ []) ≡ suc (length xs)
one-more [] x = refl
one-more (y ∷ xs) x = ap (λ n. suc n) (one-more xs x)

kept : (s x u : State) → Some x ≡ Some u → OneMore s x → OneMore s u
kept s x u h k = let e : x ≡ u = cc in subst (OneMore s) e k

valued : (s u : State) (t : Term) (rest : List (Item Form)) (o : Option ℤ) → take_value s t rest o ≡ Some u → OneMore s u
valued s u t rest None h = cc
valued s u t rest (Some z) h = step (mgu (t ∷ []) (Int z ∷ []) s.levels) h
  where
    step : (o : Option Solved) → option_map (instantiated (stepped s rest Plain)) o ≡ Some u → OneMore s u
    step None h = cc
    step (Some v) h = kept s _ u h (one-more s.steps Plain)

tested : (s u : State) (rest : List (Item Form)) (b : Bool) → (if b then Some (stepped s rest Plain) else None) ≡ Some u → OneMore s u
tested s u rest true h = kept s _ u h (one-more s.steps Plain)
tested s u rest false h = cc

sided : (s u : State) (k : ℕ) (f g : Form) (rest : List (Item Form)) → Some (take_side k s f g rest) ≡ Some u → OneMore s u
sided s u zero f g rest h = kept s _ u h (one-more s.steps _)
sided s u (suc k) f g rest h = kept s _ u h (one-more s.steps _)

loaded-module : (s u : State) (rest : List (Item Form)) (ts : List Term) (g : Form) (o : Option ModuleTree) → load_module s rest ts g o ≡ Some u → OneMore s u
loaded-module s u rest ts g None h = cc
loaded-module s u rest ts g (Some l) h = kept s _ u h (one-more s.steps Plain)

goal_steps : (m : Setting) (s u : State) (g : Form) (rest : List (Item Form)) (c : Candidate) → attempt_goal m s g rest c ≡ Some u → OneMore s u
goal_steps m s u One rest c h = kept s _ u h (one-more s.steps Plain)
goal_steps m s u Top rest c h = kept s _ u h (one-more s.steps Plain)
goal_steps m s u (Tensor f g) rest c h = kept s _ u h (one-more s.steps Plain)
goal_steps m s u (Plus f g) rest c h = sided s u c.leaf f g rest h
goal_steps m s u (With f g) rest c h = kept s _ u h (one-more s.steps Plain)
goal_steps m s u (Bang f) rest c h = kept s _ u h (one-more s.steps Plain)
goal_steps m s u (Lolli r g) rest c h = kept s _ u h (one-more s.steps Plain)
goal_steps m s u (Imp r g) rest c h = kept s _ u h (one-more s.steps Plain)
goal_steps m s u (Forall f) rest c h = kept s _ u h (one-more s.steps Plain)
goal_steps m s u (Exists f) rest c h = kept s _ u h (one-more s.steps Plain)
goal_steps m s u (Use n ts g) rest c h = loaded-module s u rest ts g (slice_get m.modules n) h
goal_steps m s u (Num Is a b) rest c h = valued s u a rest (value_of m.operators b) h
goal_steps m s u (Num Less a b) rest c h = tested s u rest (holds m.operators Less a b) h
goal_steps m s u (Num Most a b) rest c h = tested s u rest (holds m.operators Most a b) h
goal_steps m s u (Atom a) rest c h = let t = taken_from s a rest c u h in subst (OneMore s) t.is (one-more s.steps _)

agenda_steps : (m : Setting) (s u : State) (a : List (Item Form)) (c : Candidate) → attempt_agenda m s a c ≡ Some u → OneMore s u
agenda_steps m s u (Goal g ∷ rest) c h = goal_steps m s u g rest c h
agenda_steps m s u _ c h = cc

pub attempt_steps : (m : Setting) (s u : State) (c : Candidate) → attempt m s c ≡ Some u → OneMore s u
unfolding attempt
attempt_steps m s u c h = agenda_steps m s u s.agenda c h

pub successor_steps : (m : Setting) (s u : State) → Among u (successors m s) → OneMore s u
unfolding successors
successor_steps m s u h =
    let o = from (λ c. option_to_states (attempt m s c)) (tries s) u h in
    attempt_steps m s u o.x (step (attempt m s o.x) o.gives)
  where
    step : (o : Option State) → Among u (option_to_states o) → o ≡ Some u
    step None h = absurd h
    step (Some t) (inl q) = ap Some q
    step (Some t) (inr h) = absurd h

answer_steps : (t : State) (a : Answered) → Among (Answer a) (answer_of t) → a.steps ≡ t.steps
answer_steps t a h = step (not (has_live t.context) || t.flag) h
  where
    step : (b : Bool) → Among (Answer a) (if b then Answer (record { terms = t.terms; steps = t.steps }) ∷ [] else []) → a.steps ≡ t.steps
    step false h = absurd h
    step true (inr h) = absurd h
    step true (inl q) = let e : record { terms = t.terms; steps = t.steps } ≡ a = cc in ap (λ z. z.steps) (sym e)

pub steps_within : (m : Setting) (n : ℕ) (s : State) (a : Answered) → Among (Answer a) (events m n s) → length a.steps ≤ length s.steps + n
unfolding events
steps_within m zero s a h = step (settle s) refl h
  where
    step : (o : Option State) → settle s ≡ o → Among (Answer a) (events_settled (λ t. Reached ∷ []) o) → length a.steps ≤ length s.steps + 0
    step None q h = absurd h
    step (Some t) q h = front t.agenda h
      where
        front : (g : List (Item Form)) → Among (Answer a) (events_of (λ t. Reached ∷ []) t g) → length a.steps ≤ length s.steps + 0
        front [] h = let e = ap length (answer_steps t a h ∙ settle_steps s t q) in omega (arith, e)
        front (x ∷ g) (inl w) = cc
        front (x ∷ g) (inr w) = absurd w
steps_within m (suc n) s a h = step (steps_within m n) (settle s) refl h
  where
    step : ((u : State) (a : Answered) → Among (Answer a) (events m n u) → length a.steps ≤ length u.steps + n)
        → (o : Option State) → settle s ≡ o → Among (Answer a) (events_settled (λ t. flat_map (events m n) (successors m t)) o)
        → length a.steps ≤ length s.steps + suc n
    step go None q h = absurd h
    step go (Some t) q h = front t.agenda h
      where
        front : (g : List (Item Form)) → Among (Answer a) (events_of (λ t. flat_map (events m n) (successors m t)) t g)
            → length a.steps ≤ length s.steps + suc n
        front [] h = let e = ap length (answer_steps t a h ∙ settle_steps s t q) in omega (arith, e)
        front (x ∷ g) h =
            let o = from (events m n) (successors m t) (Answer a) h in
            let k = go o.x a o.gives in
            let e = successor_steps m t o.x o.among in
            let f = ap length (settle_steps s t q) in omega (arith, k, e, f)
