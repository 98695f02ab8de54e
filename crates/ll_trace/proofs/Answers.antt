-- The walk along the branch of an answer tells a node for each of its steps, and these are the nodes of its tree.
use Rattle.std.proofs.Common.{◌≡◌, ℕ, suc, refl, ap, sym, subst, ◌∙◌, List, [], ◌∷◌, ◌++◌, map, length, arith, length-append, append_assoc, Option, Some, None}
use Rattle.std.specs.Prelude.{Contains, slice_get, slice_index_or}
use Rattle.ll_bank.specs.Term.{Term, Var}
use Rattle.ll_bank.specs.Form.{Form}
use Rattle.ll_laws.specs.declared.Event.TheVariants.{Answer}
use Rattle.ll_laws.specs.Module.{ClauseTree}
use Rattle.ll_laws.specs.Answered.{Answered}
use Rattle.ll_laws.specs.Problem.{ProblemTree, setting_of, problem_events}
use Rattle.ll_laws.specs.Valid.{IsValid}
use Rattle.ll_laws.specs.Shows.{Tree}
use Rattle.ll_laws.specs.Line.{Line, DerivationLines, trees_of, lines}
use Rattle.ll_laws.specs.Verdict.{root_bounded}
use Rattle.ll_laws.specs.Dealing.{deal}
use Rattle.ll_laws.specs.Search.{program_entries}
use Rattle.ll_laws.specs.Run.{run_start}
use Rattle.ll_laws.specs.Dealt.{asked_terms, branch_lines, dealt_trees, dealt_lines, dealt}
use Rattle.ll_laws.specs.Laws.{AnswersAreShown}
use Rattle.ll_trace.specs.Bare.{bare}
use Rattle.ll_trace.specs.Walk.{told, walk_start}
use Rattle.ll_trace.proofs.BareLemmas.{bare-sub}
use Rattle.ll_trace.proofs.Replays.{Covers, Follows, told-replay}
use Rattle.ll_laws.proofs.CallerLemmas.{trees-count, deal_nodes}
use Rattle.ll_trace.proofs.Counts.{lines_count}

-- the labels of the program's linear clauses
abbrev pub root_labels : ProblemTree → List ℕ
root_labels p = map (λ l. l.label) (root_bounded p)

-- what is known of the branch of an answer
pub record IsWalked (p : ProblemTree) (a : Answered) : Type 0 where
  -- its nodes are one tree, a node for each step, and this is the tree that the walk tells
  pub tree : Tree
  pub is_tree : trees_of (branch_lines p a) ≡ Some (tree ∷ [])
  pub count : length (branch_lines p a) ≡ length a.steps
  pub told : told p.modules a.terms a.steps (walk_start p) ≡ branch_lines p a
  pub is_dealt : dealt p a ≡ Some (record { asked = asked_terms p a; nodes = lines (deal (root_labels p) tree) })
  -- each variable of the query has a term
  pub asked : length (asked_terms p a) ≡ length p.asked

-- ---- the start

get-behind : (before : List Form) (f : Form) (later : List Form) → slice_get (before ++ f ∷ later) (length before) ≡ Some f
get-behind [] f later = refl
get-behind (x ∷ before) f later = get-behind before f later

covers-program : (before : List Form) (cs : List ClauseTree) (n : ℕ) → length before ≡ n → Covers (before ++ map (λ c. bare c.form) cs) (program_entries n cs)
covers-program before [] n h = tt
covers-program before (c ∷ cs) n h = (
  ap (slice_get (before ++ bare c.form ∷ map (λ d. bare d.form) cs)) (sym h) ∙ get-behind before (bare c.form) (map (λ d. bare d.form) cs),
  subst (λ (table : List Form). Covers table (program_entries (suc n) cs)) (append_assoc before (bare c.form ∷ []) (map (λ d. bare d.form) cs))
      (covers-program (before ++ bare c.form ∷ []) cs (suc n) (let e = length-append before (bare c.form ∷ []) in omega (arith, e, h))),
)

length-forms : (cs : List ClauseTree) → length (map (λ c. bare c.form) cs) ≡ length cs
length-forms [] = refl
length-forms (c ∷ cs) = ap suc (length-forms cs)

follows-start : (p : ProblemTree) (ts : List Term) → length ts ≡ length p.asked → Follows (walk_start p) (run_start p ts)
follows-start p ts h =
    record {
      goals = ap (λ g. g ∷ []) (sym (bare-sub (λ x. slice_index_or ts x (Var x)) p.goal));
      covers = covers-program [] p.clauses 0 refl;
      label = length-forms p.clauses;
      eigens = refl;
      used = sym h;
    }

-- ---- the tree

abbrev lines_in : Option DerivationLines → List Line
lines_in None = []
lines_in (Some d) = d.nodes

-- the tree of which a derivation was dealt
record HasTree (labels : List ℕ) (ts : List Term) (o : Option (List Tree)) (d : DerivationLines) : Type 0 where
  tree : Tree
  is_tree : o ≡ Some (tree ∷ [])
  nodes_are : d.nodes ≡ lines (deal labels tree)

dealt-tree : (labels : List ℕ) (ts : List Term) (o : Option (List Tree)) (d : DerivationLines) → dealt_lines ts (dealt_trees labels o) ≡ Some d
    → HasTree labels ts o d
dealt-tree labels ts None d h = absurd (cc (h))
dealt-tree labels ts (Some []) d h = absurd (cc (h))
dealt-tree labels ts (Some (x ∷ [])) d h = record { tree = x; is_tree = refl; nodes_are = ap lines_in (sym h) }
dealt-tree labels ts (Some (x ∷ y ∷ xs)) d h = absurd (cc (h))

pub walked : AnswersAreShown → (p : ProblemTree) (a : Answered) → IsValid p → Contains (problem_events p) (Answer a) → IsWalked p a
unfolding dealt
walked shown p a v h =
    let r = shown p a v h in
    let ts = asked_terms p a in
    let bs = branch_lines p a in
    let t = dealt-tree (root_labels p) ts (trees_of bs) r.0 r.1 in
    let one = trees-count bs (t.tree ∷ []) t.is_tree in
    let two = deal_nodes (root_labels p) t.tree in
    let three = lines_count (deal (root_labels p) t.tree) in
    let four = ap (λ (ns : List Line). length ns) t.nodes_are in
    let asked : length ts ≡ length p.asked = ap (λ (us : List Term). length us) (sym r.2) ∙ r.4.count in
    let count : length bs ≡ length a.steps = let five = r.5 in omega (arith, one, two, three, four, five) in
    record {
      tree = t.tree;
      is_tree = t.is_tree;
      count = count;
      told = told-replay (setting_of p) a.terms a.steps (walk_start p) (run_start p ts) (follows-start p ts asked) count;
      is_dealt = ap (λ o. dealt_lines ts (dealt_trees (root_labels p) o)) t.is_tree;
      asked = asked;
    }
