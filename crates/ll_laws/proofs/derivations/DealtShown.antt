-- The derivation that is dealt out for an answer shows the query.
use Rattle.std.proofs.Common.{◌≡◌, ℕ, zero, suc, ◌+◌, refl, ap, sym, subst, ◌∙◌, true, List, [], ◌∷◌, ◌++◌, map, length, take, arith}
use Rattle.std.specs.Prelude.{not, filter, Some, slice_index_or, Contains}
use Rattle.std.proofs.lemmas.List.{length-map}
use Rattle.std.proofs.Math.Seq.{take-append_seam}
use Rattle.std.specs.List.{list_all}
use Rattle.std.proofs.lemmas.Bool.{and_from as and_intro}
use Rattle.ll_laws.specs.declared.Kind.TheVariants.{Linear}
use Rattle.ll_bank.specs.Term.{Term, Var, sub, is_closed}
use Rattle.ll_bank.specs.Form.{sub_form}
use Rattle.ll_laws.specs.declared.Event.TheVariants.{Answer}
use Rattle.ll_laws.specs.Answered.{Answered}
use Rattle.ll_laws.specs.Module.{ClauseTree, ModuleTree}
use Rattle.ll_laws.specs.State.{sub_entry}
use Rattle.ll_laws.specs.Attempt.{vars_from}
use Rattle.ll_laws.specs.Search.{program_entries}
use Rattle.ll_laws.specs.Problem.{ProblemTree, setting_of, start_of, problem_events}
use Rattle.ll_laws.specs.Valid.{given, GoalSide, ClauseSide, AreClauses, IsValid}
use Rattle.ll_laws.specs.Shows.{Tree, OneNode, EraseNode, TensorNode, WithNode, LeftNode, RightNode, BangNode, LolliNode, ImpNode, ForallNode, ExistsNode}
use Rattle.ll_laws.specs.Shows.{UseNode, ClauseNode, Parts, NoParts, BoundedPart, UnboundedPart, nodes, part_nodes, NumNode}
use Rattle.ll_laws.specs.Line.{IsWhole, DerivationLines, trees_of, lines}
use Rattle.ll_laws.specs.Verdict.{root_bounded, instantiated_goal, DerivationShows}
use Rattle.ll_laws.specs.Run.{Trace, run_start}
use Rattle.ll_laws.specs.Dealing.{deal, deal_parts, goes_to, uses, uses_part, erases, without}
use Rattle.ll_laws.specs.Dealt.{replay, asked_terms, branch_lines, dealt_trees, dealt_lines, dealt}
use Rattle.ll_laws.specs.Laws.{RunsAreShown, AnswersAreShown}
use Rattle.ll_laws.proofs.derivations.Lines.{trees-count}
use Rattle.ll_laws.proofs.derivations.Dealing.{labels}
use Rattle.ll_laws.proofs.unification.SubLaws.{IsClosing}
use Rattle.ll_laws.proofs.derivations.DealtWhole.{AreRising, AreFormed, trace_rises, trace_formed, deal_formed, labels_rising}
use Rattle.ll_laws.proofs.consistency.ConsistentForms.{fits_of_formula}
use Rattle.ll_laws.proofs.consistency.ConsistentStates.{starts_consistent, length-vars}
use Rattle.ll_laws.proofs.completeness.Grounding.{grounded, sub_none_form}
use Rattle.ll_laws.proofs.search.RunsShown.{run_shown, tree_of_lines}
use Rattle.ll_laws.proofs.search.AnswerRuns.{among, Comes}
use Rattle.ll_laws.proofs.derivations.AnswersShown.{state_comes}
use Rattle.ll_laws.proofs.completeness.Chosen.{form-agree, listed}

-- ---- dealing keeps the nodes

mutual
  pub deal_nodes : (d : List ℕ) (x : Tree) → nodes (deal d x) ≡ nodes x
  deal_nodes d OneNode = refl
  deal_nodes d EraseNode = refl
  deal_nodes d NumNode = refl
  deal_nodes d (TensorNode s t x y) =
      let p = deal_nodes (filter (λ n. goes_to (uses n x) (uses n y) (erases x)) d) x in
      let q = deal_nodes (filter (λ n. not (goes_to (uses n x) (uses n y) (erases x))) d) y in omega (arith, p, q)
  deal_nodes d (WithNode x y) = let p = deal_nodes d x in let q = deal_nodes d y in omega (arith, p, q)
  deal_nodes d (LeftNode x) = ap (λ n. suc n) (deal_nodes d x)
  deal_nodes d (RightNode x) = ap (λ n. suc n) (deal_nodes d x)
  deal_nodes d (BangNode x) = ap (λ n. suc n) (deal_nodes [] x)
  deal_nodes d (LolliNode n x) = ap (λ n. suc n) (deal_nodes (d ++ n ∷ []) x)
  deal_nodes d (ImpNode n x) = ap (λ n. suc n) (deal_nodes d x)
  deal_nodes d (ForallNode c x) = ap (λ n. suc n) (deal_nodes d x)
  deal_nodes d (ExistsNode t x) = ap (λ n. suc n) (deal_nodes d x)
  deal_nodes d (UseNode x) = ap (λ n. suc n) (deal_nodes d x)
  deal_nodes d (ClauseNode n k ts ps) = ap (λ n. suc n) (deal_part_nodes (without n d) ps)

  deal_part_nodes : (d : List ℕ) (ps : Parts) → part_nodes (deal_parts d ps) ≡ part_nodes ps
  deal_part_nodes d NoParts = refl
  deal_part_nodes d (BoundedPart s x ps) =
      let p = deal_nodes (filter (λ n. goes_to (uses n x) (uses_part n ps) (erases x)) d) x in
      let q = deal_part_nodes (filter (λ n. not (goes_to (uses n x) (uses_part n ps) (erases x))) d) ps in omega (arith, p, q)
  deal_part_nodes d (UnboundedPart x ps) = let p = deal_nodes [] x in let q = deal_part_nodes d ps in omega (arith, p, q)

-- ---- the start of a run

entries_same : (f : ℕ → Term) (names : ℕ) (ms : List ModuleTree) (n : ℕ) (cs : List ClauseTree) → AreClauses names ms [] cs
    → map (sub_entry f) (program_entries n cs) ≡ program_entries n cs
entries_same f names ms n [] h = refl
entries_same f names ms n (c ∷ cs) h =
    let a = sub_none_form ms f ClauseSide [] c.form (fits_of_formula (given ms 0) ClauseSide [] c.form h.0) in let b = entries_same f names ms (suc n) cs h.2 in
    cc

asked_are : (p : ProblemTree) (a : Answered) (f : ℕ → Term) (later : List Term) → a.terms ≡ map (sub f) (vars_from 0 (length p.asked)) ++ later
    → asked_terms p a ≡ map (sub f) (vars_from 0 (length p.asked))
asked_are p a f later h =
    let n = length p.asked in
    ap (take n) h ∙ (ap (λ m. take m (map (sub f) (vars_from 0 n) ++ later)) (sym (length-map (vars_from 0 n) (sub f) ∙ length-vars 0 n))
    ∙ take-append_seam (map (sub f) (vars_from 0 n)) later)

goal_is : (p : ProblemTree) (f : ℕ → Term) → IsValid p → sub_form f p.goal ≡ instantiated_goal p (map (sub f) (vars_from 0 (length p.asked)))
goal_is p f v =
    form-agree (given p.modules (length p.asked)) f (λ x. slice_index_or (map (sub f) (vars_from 0 (length p.asked))) x (Var x))
    (λ x l. let e : 0 + x ≡ x = omega arith in sym (listed f 0 (length p.asked) x (Var x) l ∙ ap f e)) GoalSide [] p.goal
    (fits_of_formula (given p.modules (length p.asked)) GoalSide [] p.goal v.goal)

pub run_begins : (p : ProblemTree) (f : ℕ → Term) (ts : List Term) → IsValid p → ts ≡ map (sub f) (vars_from 0 (length p.asked))
    → grounded f (start_of p) ≡ run_start p ts
run_begins p f ts v h =
    let g = goal_is p f v ∙ ap (instantiated_goal p) (sym h) in let e = entries_same f (length p.names) p.modules 0 p.clauses v.clauses in let t = sym h in cc

closed_asked : (f : ℕ → Term) → IsClosing f → (m k : ℕ) → list_all is_closed (map (sub f) (vars_from m k)) ≡ true
closed_asked f cl m zero = refl
closed_asked f cl m (suc k) = and_intro _ _ (cl m) (closed_asked f cl (suc m) k)

-- ---- the derivation of an answer

-- the derivation of an answer, which shows the query and has as many nodes as the branch has steps
pub record AnswerShown (p : ProblemTree) (a : Answered) : Type 0 where
  pub derivation : DerivationLines
  pub is_dealt : dealt p a ≡ Some derivation
  pub asked : derivation.asked ≡ asked_terms p a
  pub whole : IsWhole derivation
  pub shows : DerivationShows p derivation
  pub count : length derivation.nodes ≡ length a.steps

shown_comes : (p : ProblemTree) (a : Answered) → IsValid p → Comes (setting_of p) (start_of p) a → AnswerShown p a
unfolding dealt
shown_comes p a v w =
    let ts = asked_terms p a in
    let t = asked_are p a w.values w.later w.terms in
    let b = run_begins p w.values ts v t in
    let ns = replay (setting_of p) a.terms w.more (run_start p ts) in
    let run : Trace (setting_of p) ns (run_start p ts) = subst (λ s. Trace (setting_of p) (replay (setting_of p) a.terms w.more s) s) b w.run in
    let c : length ns ≡ length w.more = subst (λ s. length (replay (setting_of p) a.terms w.more s) ≡ length w.more) b w.count in
    let r = run_shown p ts ns run in
    let d = labels (root_bounded p) in
    let y = deal d r.tree in
    let f : AreFormed (length p.clauses) (lines r.tree) = subst (AreFormed (length p.clauses)) r.is_lines
    (record { formed = trace_formed (setting_of p) ns (run_start p ts) run; rise = trace_rises (setting_of p) ns (run_start p ts) run }) in
    let is : branch_lines p a ≡ ns = ap (λ m. replay (setting_of p) a.terms m (run_start p ts)) w.steps in
    let m = trees-count ns (r.tree ∷ []) r.is_tree in
    let k = trees-count (lines y) (y ∷ []) (tree_of_lines y) in
    let j = deal_nodes d r.tree in
    let z = ap length w.steps in
    record {
      derivation = record { asked = ts; nodes = lines y };
      asked = refl;
      is_dealt = ap (λ o. dealt_lines ts (dealt_trees d o)) (ap trees_of is ∙ r.is_tree);
      whole = record {
        tree = y;
        is_tree = tree_of_lines y;
        asked = ap (list_all is_closed) t ∙ closed_asked w.values w.closing 0 (length p.asked);
        nodes =
            deal_formed (length p.clauses) d r.tree (let e : 0 + length p.clauses ≡ length p.clauses = omega arith in
            subst (λ k. AreRising k d) e (labels_rising Linear 0 p.clauses)) f;
      };
      shows = record {
        tree = y;
        is_tree = tree_of_lines y;
        count =
            ap length t ∙ (length-map (vars_from 0 (length p.asked)) (sub w.values) ∙ length-vars 0 (length p.asked));
        shows = r.shows;
      };
      count = omega (arith, m, k, j, z, c);
    }

pub answer_shown : (p : ProblemTree) (a : Answered) → IsValid p → Contains (problem_events p) (Answer a) → AnswerShown p a
answer_shown p a v h = shown_comes p a v (state_comes (length p.names) (setting_of p) v.modules p.bound (start_of p) a (starts_consistent p v)
    (among (problem_events p) (Answer a) h))

-- ---- the laws

pub runs-shown : RunsAreShown
runs-shown p ts ns run = let r = run_shown p ts ns run in (r.tree, r.is_tree, r.shows)

pub answers-shown : AnswersAreShown
answers-shown p a v h = let r = answer_shown p a v h in (r.derivation, r.is_dealt, r.asked, r.whole, r.shows, r.count)
