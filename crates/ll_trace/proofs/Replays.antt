-- The walk tells the nodes of the branch: it goes along with the states that the branch's steps make.
use Rattle.std.proofs.Common.{◌≡◌, ℕ, zero, suc, refl, ap, sym, subst, ◌∙◌, arith, Bool, true, false, List, [], ◌∷◌, ◌++◌, map, length, Option, Some, None}
use Rattle.std.proofs.Common.{length-append}
use Rattle.std.specs.Prelude.{◌&&◌, ◌||◌, not, if◌then◌else◌, nat_eq, slice_get, slice_index}
use Rattle.std.proofs.lemmas.Bool.{eqb-true}
use Rattle.ll_bank.specs.declared.Head.TheVariants.{Eigen}
use Rattle.ll_bank.specs.Term.{Term, Con}
use Rattle.ll_bank.specs.Form.{Form, Top, One, Atom, With, Tensor, Plus, Bang, Lolli, Imp, Forall, Exists, Use, Num}
use Rattle.ll_laws.specs.declared.Kind.{Kind}
use Rattle.ll_laws.specs.declared.Kind.TheVariants.{Linear, Unbounded}
use Rattle.ll_laws.specs.declared.Step.{Step}
use Rattle.ll_laws.specs.declared.Step.TheVariants.{Plain, Left, Right, Clause as ClauseStep}
use Rattle.ll_laws.specs.Leaf.{Leaf, Premise, premise_goal, ways, leaf}
use Rattle.ll_laws.specs.Module.{ModuleTree, Setting}
use Rattle.ll_laws.specs.Line.{Line, UseLine, LolliLine, ImpLine, ForallLine, ExistsLine, ClauseLine}
use Rattle.ll_laws.specs.Settle.{Entry, Saved, Item, Goal, LolliEnd, ImpEnd, WithMiddle, WithEnd, BangEnd, Front, marks, remark, unlive, without_newest}
use Rattle.ll_laws.specs.Settle.{at_middle, end_with, join, settle_front}
use Rattle.ll_laws.specs.State.{State, settle, with_front, front_of}
use Rattle.ll_laws.specs.Attempt.{stepped, loaded, picked, entry_at, load_module}
use Rattle.ll_laws.specs.Dealt.{Replayed, Off, On, replayed, value, values, atom_leaf, atom_line, line_of, front_line, settled_line, after_line, replay}
use Rattle.ll_trace.specs.Bare.{bare, premises_at}
use Rattle.ll_trace.specs.Walk.{Walk, Told, Lost, Tells, to_prove, tell_load, tell_leaf, tell_clause, tell_goal, tell_front, tell, after_node, told}
use Rattle.ll_trace.proofs.BareLemmas.{bare-close, ways-bare, bare-unfold_load, HasPremises, leaf-bare, goals-bare, parts-bare}

-- the goals of an agenda, without terms
abbrev pub bare_goals : List (Item Form) → List Form
bare_goals [] = []
bare_goals (Goal g ∷ rest) = bare g ∷ bare_goals rest
bare_goals (_ ∷ rest) = bare_goals rest

-- the clause of each entry stands in the table at the entry's label
abbrev pub Covers : List Form → List (Entry Form) → Type 0
Covers table [] = Unit {0}
Covers table (e ∷ es) = (slice_get table e.label ≡ Some (bare e.clause)) × Covers table es

-- the walk goes along with the state
pub record Follows (w : Walk) (s : State) : Type 0 where
  pub goals : w.goals ≡ bare_goals s.agenda
  pub covers : Covers w.clauses s.context
  pub label : length w.clauses ≡ s.label
  pub eigens : w.eigens ≡ s.eigens
  pub used : w.used ≡ length s.terms

-- ---- contexts

covers-remark : (table : List Form) (es : List (Entry Form)) (bs : List Bool) → Covers table es → Covers table (remark es bs)
covers-remark table [] bs h = tt
covers-remark table (e ∷ es) [] h = h
covers-remark table (e ∷ es) (b ∷ bs) h = (h.0, covers-remark table es bs h.1)

covers-unlive : (table : List Form) (es : List (Entry Form)) → Covers table es → Covers table (map unlive es)
covers-unlive table [] h = tt
covers-unlive table (e ∷ es) h = (h.0, covers-unlive table es h.1)

covers-newest : (table : List Form) (es : List (Entry Form)) → Covers table es → Covers table (without_newest es)
covers-newest table [] h = tt
covers-newest table (e ∷ es) h = h.1

covers-picked : (table : List Form) (label : ℕ) (es : List (Entry Form)) → Covers table es → Covers table (picked label es)
covers-picked table label [] h = tt
covers-picked table label (e ∷ es) h = step (nat_eq e.label label) (covers-picked table label es h.1)
  where
    step : (b : Bool) → Covers table (picked label es) → Covers table (if b then unlive e ∷ es else e ∷ picked label es)
    step true k = h
    step false k = (h.0, k)

get-push : (table : List Form) (r : Form) (k : ℕ) (f : Form) → slice_get table k ≡ Some f → slice_get (table ++ r ∷ []) k ≡ Some f
get-push [] r k f h = absurd (cc (h))
get-push (x ∷ xs) r zero f h = h
get-push (x ∷ xs) r (suc k) f h = get-push xs r k f h

get-last : (table : List Form) (r : Form) (k : ℕ) → length table ≡ k → slice_get (table ++ r ∷ []) k ≡ Some r
get-last [] r zero h = refl
get-last [] r (suc k) h = absurd (omega (arith, h))
get-last (x ∷ xs) r zero h = absurd (omega (arith, h))
get-last (x ∷ xs) r (suc k) h = get-last xs r k (omega (arith, h))

covers-push : (table : List Form) (r : Form) (es : List (Entry Form)) → Covers table es → Covers (table ++ r ∷ []) es
covers-push table r [] h = tt
covers-push table r (e ∷ es) h = (get-push table r e.label (bare e.clause) h.0, covers-push table r es h.1)

covers-entry : (table : List Form) (es : List (Entry Form)) (label : ℕ) (e : Entry Form) → Covers table es → entry_at es label ≡ Some e
    → slice_get table label ≡ Some (bare e.clause)
covers-entry table [] label e h q = absurd (cc (q))
covers-entry table (d ∷ es) label e h q = step (nat_eq d.label label) refl (covers-entry table es label e h.1) q
  where
    step : (b : Bool) → nat_eq d.label label ≡ b → (entry_at es label ≡ Some e → slice_get table label ≡ Some (bare e.clause))
        → (if b then Some d else entry_at es label) ≡ Some e
        → slice_get table label ≡ Some (bare e.clause)
    step true n k p =
        let same : d ≡ e = cc in
        ap (slice_get table) (sym (eqb-true d.label label n)) ∙ (h.0 ∙ ap (λ (x : Entry Form). let o : Option Form = Some (bare x.clause) in o) same)
    step false n k p = k p

-- ---- settling

-- what settling gives, if anything, has the same goals, and its clauses are in the table
abbrev Settles : List Form → List Form → Option (Front Form Form) → Type 0
Settles table gs None = Unit {0}
Settles table gs (Some f) = (gs ≡ bare_goals f.agenda) × Covers table f.context

settles-if : (table gs : List Form) (b : Bool) (o : Option (Front Form Form)) → Settles table gs o → Settles table gs (if b then None else o)
settles-if table gs true o h = tt
settles-if table gs false o h = h

settles-middle : (table : List Form) (saved half : Saved) (rest : List (Item Form)) (es : List (Entry Form)) → Covers table es
    → Settles table (bare_goals rest) (at_middle saved half rest es)
settles-middle table saved half (Goal g ∷ WithEnd kept old ∷ rest) es h = (refl, covers-remark table es saved.live h)
settles-middle table saved half _ es h = tt

settles-with : (table : List Form) (rest : List (Item Form)) (saved : Saved) (es : List (Entry Form)) → Covers table es
    → ((ds : List (Entry Form)) (b : Bool) → Covers table ds → Settles table (bare_goals rest) (settle_front rest ds b)) → (o : Option Saved)
    → Settles table (bare_goals rest) (end_with (settle_front rest) saved es o)
settles-with table rest saved es h k None = tt
settles-with table rest saved es h k (Some s) = k (remark es s.live) (saved.flag || s.flag) (covers-remark table es s.live h)

settles : (table : List Form) (agenda : List (Item Form)) (es : List (Entry Form)) (flag : Bool) → Covers table es
    → Settles table (bare_goals agenda) (settle_front agenda es flag)
settles table [] es flag h = (refl, h)
settles table (Goal g ∷ rest) es flag h = (refl, h)
settles table (LolliEnd saved ∷ rest) [] flag h = tt
settles table (LolliEnd saved ∷ rest) (e ∷ es) flag h =
    settles-if table (bare_goals rest) (e.live && not flag) (settle_front rest es (saved || flag)) (settles table rest es (saved || flag) h.1)
settles table (ImpEnd ∷ rest) es flag h = settles table rest (without_newest es) flag (covers-newest table es h)
settles table (WithMiddle saved ∷ rest) es flag h = settles-middle table saved (record { live = marks es; flag = flag }) rest es h
settles table (WithEnd saved half ∷ rest) es flag h =
    settles-with table rest saved es h (λ ds b g. settles table rest ds b g) (join half (record { live = marks es; flag = flag }))
settles table (BangEnd saved ∷ rest) es flag h = settles table rest (remark es saved.live) saved.flag (covers-remark table es saved.live h)

-- ---- one step

-- where the step fits the state, the walk tells the same node, and goes along with the next state
abbrev Matches : Told → Replayed → Type 0
Matches t Off = Unit {0}
Matches Lost (On n s) = ⊥
Matches (Tells m w) (On n s) = (m ≡ n) × Follows w s

matches-load : (w : Walk) (s : State) (rest : List (Item Form)) (ts : List Term) (g : Form) (o : Option ModuleTree) → Covers w.clauses s.context
    → length w.clauses ≡ s.label → w.eigens ≡ s.eigens
    → w.used ≡ length s.terms → Matches (tell_load w (bare g) (bare_goals rest) o) (replayed UseLine (load_module s rest ts g o))
matches-load w s rest ts g None c l e u = tt
matches-load w s rest ts g (Some m) c l e u = (
  refl,
  record {
    goals = ap (λ f. f ∷ bare_goals rest) (sym (bare-unfold_load m ts g));
    covers = c;
    label = l;
    eigens = e;
    used = u;
  },
)

goals-append : (ps : List Premise) (rest : List (Item Form))
    → map (λ p. bare (premise_goal p)) ps ++ bare_goals rest ≡ bare_goals (map (λ p. Goal (premise_goal p)) ps ++ rest)
goals-append [] rest = refl
goals-append (p ∷ ps) rest = ap (λ gs. bare (premise_goal p) ∷ gs) (goals-append ps rest)

matches-leaf : (w : Walk) (s : State) (rest : List (Item Form)) (label k : ℕ) (us : List Term) (l : Option Leaf) (o : Option (List Premise)) → HasPremises l o
    → Covers w.clauses s.context → length w.clauses ≡ s.label
    → w.eigens ≡ s.eigens → w.used ≡ length s.terms → Matches (tell_leaf w (bare_goals rest) label k us o) (atom_leaf s rest label k us l)
matches-leaf w s rest label k us None o h c q e u = tt
matches-leaf w s rest label k us (Some l) o h c q e u =
    subst (λ (x : Option (List Premise)). Matches (tell_leaf w (bare_goals rest) label k us x) (atom_leaf s rest label k us (Some l))) (sym h) (
      ap (λ ps. ClauseLine label k us ps) (parts-bare l.premises),
      record {
        goals = ap (λ gs. gs ++ bare_goals rest) (goals-bare l.premises) ∙ goals-append l.premises rest;
        covers = covers-picked w.clauses label s.context c;
        label = q;
        eigens = e;
        used = let n = length-append s.terms us in omega (arith, n, u);
      },
    )

matches-atom : (all : List Term) (w : Walk) (s : State) (rest : List (Item Form)) (label k : ℕ) (e : Option (Entry Form)) → e ≡ entry_at s.context label
    → Covers w.clauses s.context → length w.clauses ≡ s.label
    → w.eigens ≡ s.eigens → w.used ≡ length s.terms → Matches (tell_clause all w (bare_goals rest) label k (slice_get w.clauses label))
    (atom_line all s rest label k e)
matches-atom all w s rest label k None f c q g u = tt
matches-atom all w s rest label k (Some e) f c q g u =
    let r = e.clause in
    let us = values all (length s.terms) (slice_index (ways r) k) in
    let ts : values all w.used (slice_index (ways (bare r)) k) ≡ us = λ i. values all (u i) (slice_index (ways-bare r i) k) in
    let X : Option Form → Type 0 = λ o. Matches (tell_clause all w (bare_goals rest) label k o) (atom_leaf s rest label k us (leaf r k us)) in
    subst X (sym (covers-entry w.clauses s.context label e c (sym f)))
    (subst (λ (vs : List Term). Matches (tell_leaf w (bare_goals rest) label k vs (premises_at (bare r) k)) (atom_leaf s rest label k us (leaf r k us)))
    (sym ts)
    (matches-leaf w s rest label k us (leaf r k us) (premises_at (bare r) k) (leaf-bare [] r k us) c q g u))

module _ (beside : Setting) (all : List Term) (w : Walk) (s : State) (c : Covers w.clauses s.context) (l : length w.clauses ≡ s.label) (e : w.eigens ≡ s.eigens)
    (u : w.used ≡ length s.terms) where
  same_front : (n : Line) (gs : List Form) (agenda : List (Item Form)) (x : Step) → gs ≡ bare_goals agenda
      → Matches (Tells n (to_prove w gs)) (On n (stepped s agenda x))
  same_front n gs agenda x g = (refl, record { goals = g; covers = c; label = l; eigens = e; used = u })

  one_clause : (r : Form) → length (w.clauses ++ r ∷ []) ≡ suc s.label
  one_clause r = let n = length-append w.clauses (r ∷ []) in omega (arith, n, l)

  newest : (kind : Kind) (r : Form) → Covers (w.clauses ++ bare r ∷ []) (loaded s kind r)
  newest kind r = (get-last w.clauses (bare r) s.label l, covers-push w.clauses (bare r) s.context c)

  matches : (g : Form) (rest : List (Item Form)) (x : Step) → Matches (tell_goal beside.modules all w (bare g) (bare_goals rest) x)
      (line_of beside all s g rest x)
  matches One rest x = (refl, record { goals = refl; covers = c; label = l; eigens = e; used = u })
  matches Top rest x = (refl, record { goals = refl; covers = c; label = l; eigens = e; used = u })
  matches (Tensor f g) rest x = (refl, record { goals = refl; covers = c; label = l; eigens = e; used = u })
  matches (With f g) rest x = (refl, record { goals = refl; covers = c; label = l; eigens = e; used = u })
  matches (Plus f g) rest Plain = (refl, record { goals = refl; covers = c; label = l; eigens = e; used = u })
  matches (Plus f g) rest Left = (refl, record { goals = refl; covers = c; label = l; eigens = e; used = u })
  matches (Plus f g) rest Right = (refl, record { goals = refl; covers = c; label = l; eigens = e; used = u })
  matches (Plus f g) rest (ClauseStep label k) = (refl, record { goals = refl; covers = c; label = l; eigens = e; used = u })
  matches (Bang f) rest x = (refl, record { goals = refl; covers = covers-unlive w.clauses s.context c; label = l; eigens = e; used = u })
  matches (Lolli r g) rest x = (ap LolliLine l, record { goals = refl; covers = newest Linear r; label = one_clause (bare r); eigens = e; used = u })
  matches (Imp r g) rest x = (ap ImpLine l, record { goals = refl; covers = newest Unbounded r; label = one_clause (bare r); eigens = e; used = u })
  matches (Forall f) rest x = (
    ap ForallLine e,
    record {
      goals = ap (λ h. h ∷ bare_goals rest) (sym (bare-close (Some (Con (Eigen s.eigens)) ∷ []) f));
      covers = c;
      label = l;
      eigens =
          ap suc e;
      used = u;
    },
  )
  matches (Exists f) rest x = (
    ap (λ n. ExistsLine (value all n)) u,
    record {
      goals = ap (λ h. h ∷ bare_goals rest) (sym (bare-close (Some (value all (length s.terms)) ∷ []) f));
      covers = c;
      label = l;
      eigens = e;
      used = let n = length-append s.terms (value all (length s.terms) ∷ []) in omega (arith, n, u);
    },
  )
  matches (Use m ts g) rest x = matches-load w s rest ts g (slice_get beside.modules m) c l e u
  matches (Num r t v) rest x = (refl, record { goals = refl; covers = c; label = l; eigens = e; used = u })
  matches (Atom a) rest Plain = tt
  matches (Atom a) rest Left = tt
  matches (Atom a) rest Right = tt
  matches (Atom a) rest (ClauseStep label k) = matches-atom all w s rest label k (entry_at s.context label) refl c l e u

matches-front : (beside : Setting) (all : List Term) (w : Walk) (s : State) → Covers w.clauses s.context → length w.clauses ≡ s.label → w.eigens ≡ s.eigens
    → w.used ≡ length s.terms → (agenda : List (Item Form)) (x : Step)
    → Matches (tell_front beside.modules all w (bare_goals agenda) x) (front_line beside all s agenda x)
matches-front beside all w s c l e u [] x = tt
matches-front beside all w s c l e u (Goal g ∷ rest) x = matches beside all (to_prove w (bare_goals rest)) s c l e u g rest x
matches-front beside all w s c l e u (LolliEnd b ∷ rest) x = tt
matches-front beside all w s c l e u (ImpEnd ∷ rest) x = tt
matches-front beside all w s c l e u (WithMiddle b ∷ rest) x = tt
matches-front beside all w s c l e u (WithEnd b d ∷ rest) x = tt
matches-front beside all w s c l e u (BangEnd b ∷ rest) x = tt

-- a step of the state's settled form
matches-settled : (beside : Setting) (all : List Term) (w : Walk) (s : State) (x : Step) → Follows w s
    → Matches (tell beside.modules all w x) (settled_line beside all (settle s) x)
unfolding settle
matches-settled beside all w s x h = step (settle_front s.agenda s.context s.flag) (settles w.clauses s.agenda s.context s.flag h.covers)
  where
    step : (o : Option (Front Form Form)) → Settles w.clauses (bare_goals s.agenda) o
        → Matches (tell beside.modules all w x) (settled_line beside all (front_of s o) x)
    step None k = tt
    step (Some f) k =
        subst (λ (gs : List Form). Matches (tell_front beside.modules all w gs x) (front_line beside all (with_front s f) f.agenda x)) (sym (h.goals ∙ k.0))
        (matches-front beside all w (with_front s f) k.1 h.label h.eigens h.used f.agenda x)

-- ---- all steps

-- a list of nodes that is as long as the steps are many has one for each
pub told-replay : (beside : Setting) (all : List Term) (cs : List Step) (w : Walk) (s : State) → Follows w s → length (replay beside all cs s) ≡ length cs
    → told beside.modules all cs w ≡ replay beside all cs s
told-replay beside all [] w s h n = refl
told-replay beside all (x ∷ cs) w s h n =
    step (tell beside.modules all w x) (settled_line beside all (settle s) x) (matches-settled beside all w s x h)
    (λ v u f k. told-replay beside all cs v u f k) n
  where
    step : (t : Told) (r : Replayed) → Matches t r → ((v : Walk) (u : State) → Follows v u → length (replay beside all cs u) ≡ length cs
        → told beside.modules all cs v ≡ replay beside all cs u)
        → length (after_line r (replay beside all cs)) ≡ suc (length cs) → after_node t (told beside.modules all cs) ≡ after_line r (replay beside all cs)
    step t Off m go k = absurd (omega (arith, k))
    step Lost (On a u) m go k = absurd m
    step (Tells b v) (On a u) m go k = λ i. m.0 i ∷ go v u m.1 (omega (arith, k)) i
