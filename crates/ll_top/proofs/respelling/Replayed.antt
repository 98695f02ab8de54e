-- The nodes of an answer's branch can be spelled.
use Rattle.std.proofs.Common.{◌≡◌, ◌≤◌, ◌<◌, ℕ, zero, suc, ◌+◌, ◌^◌, refl, subst, List, [], ◌∷◌, ◌++◌, map, length, inl, inr, arith}
use Rattle.std.proofs.lemmas.List.{length-append}
use Rattle.std.proofs.lemmas.List.Elements.{All-nil, All-cons}
use Rattle.std.specs.Prelude.{◌⊎◌, All, take, slice_index, slice_index_or, slice_get, Option, Some, None}
use Rattle.ll_bank.specs.Term.{Term, Var}
use Rattle.ll_bank.specs.Form.{Form, Top, One, Atom, With, Tensor, Plus, Bang, Lolli, Imp, Forall, Exists, Use, Num}
use Rattle.ll_laws.specs.declared.Step.{Step}
use Rattle.ll_laws.specs.declared.Step.TheVariants.{Plain, Left, Right, Clause as ClauseStep}
use Rattle.ll_laws.specs.Leaf.{Premise, Needs, NeedsFree, Leaf, ways, leaf}
use Rattle.ll_laws.specs.Module.{Setting, ModuleTree}
use Rattle.ll_laws.specs.Settle.{Entry, Item, Goal, Front, settle_front}
use Rattle.ll_laws.specs.State.{State, settle, front_of, with_front}
use Rattle.ll_laws.specs.Attempt.{entry_at, load_module}
use Rattle.ll_laws.specs.Line.{Line, UseLine, part_line}
use Rattle.ll_laws.specs.Dealt.{value, values, Replayed, Off, On, replayed, atom_leaf, atom_line, line_of, front_line, settled_line, after_line, replay}
use Rattle.ll_prooftext.specs.Admitted.{IsSpelledTerm, IsSpelledPart, IsSpelledLine}
use Rattle.ll_top.proofs.respelling.States.{StepFits, StepsFit}

values-count : (all : List Term) (n k : ℕ) → (n + length (values all n k) ≤ length all) ⊎ (length (values all n k) ≡ 0)
values-count [] zero zero = inl (omega arith)
values-count [] zero (suc k) = inl (omega arith)
values-count [] (suc n) zero = inr refl
values-count [] (suc n) (suc k) = inr refl
values-count (t ∷ all) zero zero = inl (omega arith)
values-count (t ∷ all) zero (suc k) = step (values-count all zero k)
  where
    step : (0 + length (take k all) ≤ length all) ⊎ (length (take k all) ≡ 0)
        → (0 + suc (length (take k all)) ≤ suc (length all)) ⊎ (suc (length (take k all)) ≡ 0)
    step (inl q) = inl (omega (arith, q))
    step (inr q) = inl (omega (arith, q))
values-count (t ∷ all) (suc n) k = step (values-count all n k)
  where
    step : (n + length (values all n k) ≤ length all) ⊎ (length (values all n k) ≡ 0)
        → (suc n + length (values all n k) ≤ suc (length all)) ⊎ (length (values all n k) ≡ 0)
    step (inl q) = inl (omega (arith, q))
    step (inr q) = inr q

module _ (names : List (List ℕ)) where
  -- the terms can be spelled
  abbrev pub TermsSpelled : List Term → Type 0
  TermsSpelled [] = Unit {0}
  TermsSpelled (t ∷ ts) = IsSpelledTerm names t × TermsSpelled ts

  -- the nodes can be spelled
  abbrev pub LinesSpelled : List Line → Type 0
  LinesSpelled [] = Unit {0}
  LinesSpelled (n ∷ ns) = IsSpelledLine names n × LinesSpelled ns

  pub all-terms : (ts : List Term) → TermsSpelled ts → All (IsSpelledTerm names) ts
  all-terms [] h = All-nil (IsSpelledTerm names)
  all-terms (t ∷ ts) h = All-cons (IsSpelledTerm names) t ts h.0 (all-terms ts h.1)

  all-parts : (ps : List Premise) → All IsSpelledPart (map part_line ps)
  all-parts [] = All-nil IsSpelledPart
  all-parts (Needs g ∷ ps) = All-cons IsSpelledPart (part_line (Needs g)) (map part_line ps) (All-nil _) (all-parts ps)
  all-parts (NeedsFree g ∷ ps) = All-cons IsSpelledPart (part_line (NeedsFree g)) (map part_line ps) tt (all-parts ps)

  value-spelled : (all : List Term) (x y : ℕ) → TermsSpelled all → y < 2 ^ 64 → IsSpelledTerm names (slice_index_or all x (Var y))
  value-spelled [] x y h l = l
  value-spelled (t ∷ all) zero y h l = h.0
  value-spelled (t ∷ all) (suc x) y h l = value-spelled all x y h.1 l

  values-spelled : (all : List Term) (n k : ℕ) → TermsSpelled all → TermsSpelled (values all n k)
  values-spelled [] zero zero h = tt
  values-spelled [] zero (suc k) h = tt
  values-spelled [] (suc n) zero h = tt
  values-spelled [] (suc n) (suc k) h = tt
  values-spelled (t ∷ all) zero zero h = tt
  values-spelled (t ∷ all) zero (suc k) h = (h.0, values-spelled all zero k h.1)
  values-spelled (t ∷ all) (suc n) k h = values-spelled all n k h.1

  module _ (beside : Setting) (all : List Term) (spelled : TermsSpelled all) (budget top most : ℕ) (small : length all + budget < 2 ^ 64) (tops : top ≤ 2 ^ 32)
      (mosts : most ≤ 2 ^ 32) where
    -- the counters of a state from which so many steps are left
    pub record Counted (left : ℕ) (s : State) : Type 0 where
      pub label : s.label + left ≤ 2 ^ 32
      pub eigens : s.eigens + left ≤ 2 ^ 32
      pub terms : length s.terms + left ≤ length all + budget
      pub within : left ≤ budget

    -- a step that was replayed has a node that can be spelled, and a state with small counters
    abbrev NodeSpelled : ℕ → Replayed → Type 0
    NodeSpelled left Off = Unit {0}
    NodeSpelled left (On n u) = IsSpelledLine names n × Counted left u

    same : (left : ℕ) (s u : State) → Counted (suc left) s → u.label ≤ suc s.label → u.eigens ≤ suc s.eigens → length u.terms ≡ length s.terms → Counted left u
    same left s u c a b e = record {
      label = omega (arith, c.label, a);
      eigens = omega (arith, c.eigens, b);
      terms = omega (arith, c.terms, e);
      within = omega (arith, c.within);
    }

    atom-good : (left : ℕ) (s : State) (rest : List (Item Form)) (label k : ℕ) → Counted (suc left) s → StepFits top most (ClauseStep label k)
        → (o : Option (Entry Form)) → NodeSpelled left (atom_line all s rest label k o)
    atom-good left s rest label k c f None = tt
    atom-good left s rest label k c f (Some e) =
        step us (leaf e.clause k us) (values-spelled all (length s.terms) n spelled) (values-count all (length s.terms) n)
      where
        n : ℕ
        n = slice_index (ways e.clause) k

        us : List Term
        us = values all (length s.terms) (slice_index (ways e.clause) k)

        step : (us : List Term) (o : Option Leaf) → TermsSpelled us → (length s.terms + length us ≤ length all) ⊎ (length us ≡ 0)
            → NodeSpelled left (atom_leaf s rest label k us o)
        step us None h w = tt
        step us (Some l) h w = (
          (omega (arith, f.0, tops), (omega (arith, f.1, mosts), (all-terms us h, all-parts l.premises))),
          record { label = omega (arith, c.label); eigens = omega (arith, c.eigens); terms = count w; within = omega (arith, c.within) },
        )
          where
            count : (length s.terms + length us ≤ length all) ⊎ (length us ≡ 0) → length (s.terms ++ us) + left ≤ length all + budget
            count (inl q) = omega (arith, q, length-append s.terms us, c.within)
            count (inr q) = omega (arith, q, length-append s.terms us, c.terms)

    goal-good : (left : ℕ) (s : State) (g : Form) (rest : List (Item Form)) (x : Step) → Counted (suc left) s → StepFits top most x
        → NodeSpelled left (line_of beside all s g rest x)
    goal-good left s One rest x c f = (tt, same left s _ c (omega arith) (omega arith) refl)
    goal-good left s Top rest x c f = (tt, same left s _ c (omega arith) (omega arith) refl)
    goal-good left s (Tensor p q) rest x c f = ((All-nil _, All-nil _), same left s _ c (omega arith) (omega arith) refl)
    goal-good left s (With p q) rest x c f = (tt, same left s _ c (omega arith) (omega arith) refl)
    goal-good left s (Plus p q) rest Right c f = (tt, same left s _ c (omega arith) (omega arith) refl)
    goal-good left s (Plus p q) rest Left c f = (tt, same left s _ c (omega arith) (omega arith) refl)
    goal-good left s (Plus p q) rest Plain c f = (tt, same left s _ c (omega arith) (omega arith) refl)
    goal-good left s (Plus p q) rest (ClauseStep label k) c f = (tt, same left s _ c (omega arith) (omega arith) refl)
    goal-good left s (Bang p) rest x c f = (tt, same left s _ c (omega arith) (omega arith) refl)
    goal-good left s (Lolli r q) rest x c f = (omega (arith, c.label), same left s _ c (omega arith) (omega arith) refl)
    goal-good left s (Imp r q) rest x c f = (omega (arith, c.label), same left s _ c (omega arith) (omega arith) refl)
    goal-good left s (Forall p) rest x c f = (omega (arith, c.eigens), same left s _ c (omega arith) (omega arith) refl)
    goal-good left s (Exists p) rest x c f = (
      value-spelled all (length s.terms) (length s.terms) spelled (omega (arith, c.terms, small)),
      record {
        label = omega (arith, c.label);
        eigens = omega (arith, c.eigens);
        terms = omega (arith, c.terms, length-append s.terms (value all (length s.terms) ∷ []));
        within = omega (arith, c.within);
      },
    )
    goal-good left s (Use m ts q) rest x c f = step (slice_get beside.modules m)
      where
        step : (o : Option ModuleTree) → NodeSpelled left (replayed UseLine (load_module s rest ts q o))
        step None = tt
        step (Some d) = (tt, same left s _ c (omega arith) (omega arith) refl)
    goal-good left s (Num r t u) rest x c f = (tt, same left s _ c (omega arith) (omega arith) refl)
    goal-good left s (Atom a) rest (ClauseStep label k) c f = atom-good left s rest label k c f (entry_at s.context label)
    goal-good left s (Atom a) rest Plain c f = tt
    goal-good left s (Atom a) rest Left c f = tt
    goal-good left s (Atom a) rest Right c f = tt

    front-good : (left : ℕ) (s : State) (a : List (Item Form)) (x : Step) → Counted (suc left) s → StepFits top most x
        → NodeSpelled left (front_line beside all s a x)
    front-good left s (Goal g ∷ rest) x c f = goal-good left s g rest x c f
    front-good left s _ x c f = tt

    settles-counted : (left : ℕ) (s t : State) → Counted left s → settle s ≡ Some t → Counted left t
    unfolding settle
    settles-counted left s t c h = step (settle_front s.agenda s.context s.flag) h
      where
        step : (o : Option (Front Form Form)) → front_of s o ≡ Some t → Counted left t
        step None h = cc
        step (Some x) h = let e : with_front s x ≡ t = cc in
            subst (Counted left) e (record { label = c.label; eigens = c.eigens; terms = c.terms; within = c.within })

    pub replay-spelled : (cs : List Step) (s : State) → StepsFit top most cs → Counted (length cs) s → LinesSpelled (replay beside all cs s)
    replay-spelled [] s f c = tt
    replay-spelled (x ∷ cs) s f c = step (replay-spelled cs) (settle s) (λ t q. settles-counted (suc (length cs)) s t c q)
      where
        next : ((u : State) → StepsFit top most cs → Counted (length cs) u → LinesSpelled (replay beside all cs u)) → (r : Replayed) → NodeSpelled (length cs) r
            → LinesSpelled (after_line r (replay beside all cs))
        next go Off h = tt
        next go (On n u) h = (h.0, go u f.1 h.1)

        step : ((u : State) → StepsFit top most cs → Counted (length cs) u → LinesSpelled (replay beside all cs u)) → (o : Option State)
            → ((t : State) → o ≡ Some t → Counted (suc (length cs)) t) → LinesSpelled (after_line (settled_line beside all o x) (replay beside all cs))
        step go None h = tt
        step go (Some t) h = next go (front_line beside all t t.agenda x) (front-good (length cs) t t.agenda x (h t refl) f.0)
