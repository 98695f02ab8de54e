-- The derivation of each answer can be spelled.
use Rattle.std.proofs.Common.{◌≡◌, ◌≤◌, ℕ, zero, suc, ◌+◌, ◌^◌, refl, sym, subst, Bool, true, false, List, [], ◌∷◌, map, length, arith}
use Rattle.std.proofs.lemmas.Bool.{ltb-true, lt-ltb, and_from as and_intro}
use Rattle.std.proofs.lemmas.List.Elements.{All-nil, All-cons}
use Rattle.std.specs.Prelude.{Option, Some, None, take, All, ◌&&◌, if◌then◌else◌}
use Rattle.std.specs.List.{list_all}
use Rattle.ll_list_laws.proofs.CallerLemmas.{and_true_left as and_left, and_true_right as and_right, length-take_most}
use Rattle.ll_bank.specs.Term.{Term, Var, Int, Con, Ap, is_closed, eigens_below}
use Rattle.ll_laws.specs.declared.Kind.{Kind}
use Rattle.ll_laws.specs.declared.Kind.TheVariants.{Linear}
use Rattle.ll_laws.specs.declared.Event.TheVariants.{Answer}
use Rattle.ll_laws.specs.Module.{ClauseTree}
use Rattle.ll_laws.specs.Shows.{Tree}
use Rattle.ll_laws.specs.Line.{Line, DerivationLines, trees_of, lines, IsWhole as Whole}
use Rattle.ll_laws.specs.Unify.{vars_below}
use Rattle.ll_laws.specs.Consistent.{is_made}
use Rattle.ll_laws.specs.Problem.{setting_of, start_of, problem_events}
use Rattle.ll_laws.specs.Run.{run_start}
use Rattle.ll_laws.specs.Verdict.{labelled, same_kind}
use Rattle.ll_laws.specs.Dealing.{deal}
use Rattle.ll_laws.specs.Dealt.{asked_terms, branch_lines, dealt_trees, dealt_lines, dealt}
use Rattle.ll_laws.proofs.CallerLemmas.{starts_consistent, answers-shown, among, eigens-mono}
use Rattle.ll_polarity.proofs.CallerLemmas.{asked_problem_valid}
use Rattle.ll_prooftext.specs.Admitted.{IsSpelledLine}
use Rattle.ll_top.specs.spelled.Taking.{TermsTake}
use Rattle.ll_top.specs.spelled.Laws.{name_takes, AnswersAreSpelled}
use Rattle.ll_top.proofs.respelling.Problems.{most, enough, problem-takes}
use Rattle.ll_top.proofs.respelling.Answers.{answer-takes}
use Rattle.ll_top.proofs.respelling.Spelling.{spelled-term}
use Rattle.ll_top.proofs.respelling.Replayed.{all-terms, TermsSpelled, LinesSpelled, replay-spelled}
use Rattle.ll_top.proofs.respelling.Dealing.{Small, TreesSpelled, trees-spelled, deal-spelled}

vars-more : (m n : ℕ) (t : Term) → m ≤ n → vars_below m t ≡ true → vars_below n t ≡ true
vars-more m n (Var x) le h = lt-ltb x n (let l = ltb-true x m h in omega (arith, l, le))
vars-more m n (Int z) le h = refl
vars-more m n (Con k) le h = refl
vars-more m n (Ap f a) le h =
    and_intro _ _ (vars-more m n f le (and_left (vars_below m f) (vars_below m a) h)) (vars-more m n a le (and_right (vars_below m f) (vars_below m a) h))

terms-spelled : (names : List (List ℕ)) (v e : ℕ) → v ≤ 2 ^ 64 → e ≤ 2 ^ 32 → (ts : List Term) → TermsTake (name_takes names) [] ts
    → list_all (is_made v e) ts ≡ true
    → TermsSpelled names ts
terms-spelled names v e a b [] h m = tt
terms-spelled names v e a b (t ∷ ts) h m =
    let q = and_left (is_made v e t) (list_all (is_made v e) ts) m in
    let r = and_left (is_closed t && vars_below v t) (eigens_below e t) q in (
      spelled-term names t h.0 (record {
        closed = and_left (is_closed t) (vars_below v t) r;
        variables = vars-more v (2 ^ 64) t a (and_right (is_closed t) (vars_below v t) r);
        eigens = eigens-mono e (2 ^ 32) t b (and_right (is_closed t && vars_below v t) (eigens_below e t) q);
      }),
      terms-spelled names v e a b ts h.1 (and_right (is_made v e t) (list_all (is_made v e) ts) m),
    )

terms-front : (names : List (List ℕ)) (n : ℕ) (ts : List Term) → TermsSpelled names ts → TermsSpelled names (take n ts)
terms-front names zero [] h = tt
terms-front names zero (t ∷ ts) h = tt
terms-front names (suc n) [] h = tt
terms-front names (suc n) (t ∷ ts) h = (h.0, terms-front names n ts h.1)

all-lines : (names : List (List ℕ)) (ns : List Line) → LinesSpelled names ns → All (IsSpelledLine names) ns
all-lines names [] h = All-nil (IsSpelledLine names)
all-lines names (n ∷ ns) h = All-cons (IsSpelledLine names) n ns h.0 (all-lines names ns h.1)

root-small : (k : Kind) (n : ℕ) (cs : List ClauseTree) → n + length cs ≤ 16777216 → Small (map (λ l. l.label) (labelled k n cs))
root-small k n [] le = tt
root-small k n (c ∷ cs) le = step (same_kind k c.kind) (root-small k (suc n) cs (omega arith))
  where
    step : (b : Bool) → Small (map (λ l. l.label) (labelled k (suc n) cs))
        → Small (map (λ l. l.label) (if b then record { label = n; clause = c.form } ∷ labelled k (suc n) cs else labelled k (suc n) cs))
    step true h = (omega arith, h)
    step false h = h

-- the nodes of the tree of an answer, whose branch's nodes can be spelled
nodes-spelled : (names : List (List ℕ)) (labels : List ℕ) (ns : List Line) (ts : List Term) (d : DerivationLines) → Small labels → LinesSpelled names ns
    → dealt_lines ts (dealt_trees labels (trees_of ns)) ≡ Some d → LinesSpelled names d.nodes
nodes-spelled names labels ns ts d s h e = step (trees_of ns) (λ us q. trees-spelled names ns us h q) refl e
  where
    step : (o : Option (List Tree)) → ((us : List Tree) → trees_of ns ≡ Some us → TreesSpelled names us) → trees_of ns ≡ o
        → dealt_lines ts (dealt_trees labels o) ≡ Some d → LinesSpelled names d.nodes
    step None go q e = cc
    step (Some []) go q e = cc
    step (Some (x ∷ [])) go q e =
        let y : DerivationLines = record { asked = ts; nodes = lines (deal labels x) } in
        let w : y ≡ d = cc in
        subst (λ z. LinesSpelled names z.nodes) w (deal-spelled names labels x s (go (x ∷ []) q).0)
    step (Some (x ∷ y ∷ us)) go q e = cc

pub answers-spelled : AnswersAreSpelled
unfolding dealt
answers-spelled program query bound p a d wp wq le asks is_among is =
    let v = asked_problem_valid program query bound p asks wp wq le in
    let k = problem-takes program query bound p wp wq asks in
    let shown = answers-shown p a v is_among in
    let r = answer-takes (name_takes p.names) most (length p.clauses) (length p.asked) enough (length p.names) (setting_of p) v.modules k.modules p.bound
    (start_of p) a (starts_consistent p v) k.start (among (problem_events p) (Answer a) is_among) in
    let terms = terms-spelled p.names (length a.terms) r.eigens (omega (arith, r.count, k.asked, v.bound))
    (omega (arith, r.few, v.bound)) a.terms r.terms r.made in
    let branch = replay-spelled p.names (setting_of p) a.terms terms 1000000 (length p.clauses + (length (start_of p).steps + p.bound)) most
    (omega (arith, r.count, k.asked, v.bound)) (omega (arith, v.bound, v.clause_count)) (omega arith) a.steps (run_start p (asked_terms p a)) r.steps
    (record {
      label = omega (arith, r.short, v.bound, v.clause_count);
      eigens = omega (arith, r.short, v.bound);
      terms = omega (arith, r.short, v.bound, length-take_most (length p.asked) a.terms);
      within = omega (arith, r.short, v.bound);
    }) in
    let same : shown.0 ≡ d = cc (shown.1, is) in
    record {
      whole = subst Whole same shown.3;
      asked = all-terms p.names d.asked
          (subst (TermsSpelled p.names) (sym (subst (λ z. z.asked ≡ asked_terms p a) same shown.2)) (terms-front p.names (length p.asked) a.terms terms));
      nodes = all-lines p.names d.nodes
          (nodes-spelled p.names _ (branch_lines p a) (asked_terms p a) d (root-small Linear 0 p.clauses (omega (arith, v.clause_count))) branch is);
    }
