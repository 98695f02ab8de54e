-- What follows from a problem's program in the sequent calculus, without labels or trees, and of which terms its search has an answer.
use Rattle.std.specs.Prelude.{◌≡◌, ℕ, Bool, true, false, ◌||◌, ◌&&◌, List, [], ◌∷◌, length, if◌then◌else◌, Contains}
use Rattle.std.specs.List.{list_all}
use Rattle.ll_bank.specs.Term.{Term, is_closed}
use Rattle.ll_bank.specs.Form.{Form, With, Tensor, Plus, Bang, Lolli, Imp, Forall, Exists, Use, Num}
use Rattle.ll_laws.specs.declared.Kind.{Kind}
use Rattle.ll_laws.specs.declared.Kind.TheVariants.{Linear, Unbounded}
use Rattle.ll_laws.specs.declared.Event.TheVariants.{Answer}
use Rattle.ll_laws.specs.Answered.{Answered}
use Rattle.ll_laws.specs.Leaf.{Premise}
use Rattle.ll_laws.specs.Module.{Setting, ClauseTree}
use Rattle.ll_laws.specs.Problem.{ProblemTree, setting_of, problem_events}
use Rattle.ll_laws.specs.Verdict.{same_kind, instantiated_goal}
use Rattle.ll_laws.specs.Derive.{Derivable, by_one, by_top, by_tensor, by_with, by_left, by_right, by_bang, by_lolli, by_imp, by_forall, by_exists, by_use}
use Rattle.ll_laws.specs.Derive.{by_num, by_free, by_linear, Premises, no_premise, a_premise, a_free_premise}
use Rattle.ll_laws.specs.Dealt.{asked_terms}
use Rattle.ll_laws.specs.Instance.{IsInstance}

-- the clauses of one kind, in the order of the text
abbrev pub of_kind : Kind → List ClauseTree → List Form
of_kind k [] = []
of_kind k (c ∷ cs) = if same_kind k c.kind then c.form ∷ of_kind k cs else of_kind k cs

-- The query, with these terms for its variables, follows from the program by a derivation with so many nodes: from its unbounded clauses,
-- each of which may be used at will, and its linear ones, each of which is used exactly once.
abbrev pub Follows : ProblemTree → ℕ → List Term → Type 0
Follows p m ts = Derivable (setting_of p) m (of_kind Unbounded p.clauses) (of_kind Linear p.clauses) (instantiated_goal p ts)

-- there is a closed term for each variable of the query
pub record IsFilling (p : ProblemTree) (ts : List Term) : Type 0 where
  pub count : length ts ≡ length p.asked
  pub closed : list_all is_closed ts ≡ true

abbrev mutual
  -- the derivation has a whole-number goal
  pub reckons : {beside : Setting} {m : ℕ} {c d : List Form} {g : Form} → Derivable beside m c d g → Bool
  reckons by_one = false
  reckons by_top = false
  reckons (by_tensor s x y) = reckons x || reckons y
  reckons (by_with x y) = reckons x || reckons y
  reckons (by_left x) = reckons x
  reckons (by_right x) = reckons x
  reckons (by_bang x) = reckons x
  reckons (by_lolli x) = reckons x
  reckons (by_imp x) = reckons x
  reckons (by_forall k n x) = reckons x
  reckons (by_exists t h x) = reckons x
  reckons (by_use l h x) = reckons x
  reckons (by_num h) = true
  reckons (by_free r k ts ps i a l x) = premises_reckon x
  reckons (by_linear r k ts ps i a l x) = premises_reckon x

  -- the derivation of a premise has one
  pub premises_reckon : {beside : Setting} {m : ℕ} {c d : List Form} {ps : List Premise} → Premises beside m c d ps → Bool
  premises_reckon no_premise = false
  premises_reckon (a_premise s x y) = reckons x || premises_reckon y
  premises_reckon (a_free_premise x y) = reckons x || premises_reckon y

-- ---- problems without whole-number goals

-- the formula has no whole-number goal
abbrev pub is_numberless : Form → Bool
is_numberless (With f g) = is_numberless f && is_numberless g
is_numberless (Tensor f g) = is_numberless f && is_numberless g
is_numberless (Plus f g) = is_numberless f && is_numberless g
is_numberless (Bang f) = is_numberless f
is_numberless (Lolli f g) = is_numberless f && is_numberless g
is_numberless (Imp f g) = is_numberless f && is_numberless g
is_numberless (Forall f) = is_numberless f
is_numberless (Exists f) = is_numberless f
is_numberless (Use m ts f) = is_numberless f
is_numberless (Num r t u) = false
is_numberless _ = true

abbrev pub are_numberless : List ClauseTree → Bool
are_numberless cs = list_all (λ c. is_numberless c.form) cs

-- no formula of the problem has one
pub record IsNumberless (p : ProblemTree) : Type 0 where
  pub goal : is_numberless p.goal ≡ true
  pub clauses : are_numberless p.clauses ≡ true
  pub modules : list_all (λ m. are_numberless m.clauses) p.modules ≡ true

-- ---- answers

-- the problem's search has an answer of whose terms these are an instance, and whose branch has so many steps
pub record IsAnswered (p : ProblemTree) (ts : List Term) (m : ℕ) : Type 0 where
  pub answer : Answered
  pub found : Contains (problem_events p) (Answer answer)
  pub instance : IsInstance (asked_terms p answer) ts
  pub steps : length answer.steps ≡ m
