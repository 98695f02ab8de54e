-- The sequent of a query.
use Rattle.std.proofs.Common.{◌≡◌, ℕ, suc, ◌+◌, ◌<◌, ◌≤◌, refl, ap, sym, ◌∙◌, subst, Bool, true, false, List, [], ◌∷◌, ◌++◌, map, take, drop, drop-cons}
use Rattle.std.proofs.Common.{append_assoc, reverse, length, get_or, All, arith}
use Rattle.std.specs.Prelude.{if◌then◌else◌}
use Rattle.std.specs.List.{list_all}
use Rattle.std.proofs.lemmas.List.{reverse-reverse, take_all}
use Rattle.std.proofs.lemmas.List.Elements.{All-cons, All-head, All-tail}
use Rattle.ll_list_laws.proofs.CallerLemmas.{All-reverse as all_reversed}
use Rattle.ll_bank.specs.declared.BankSize.{BankSize}
use Rattle.ll_bank.specs.Term.{Term, is_closed}
use Rattle.ll_bank.specs.Form.{Form, sub_form}
use Rattle.ll_bank.specs.Nodes.{Nodes, form_tree, HasForm, ShowsForm, Extends, size_of, IsCutTo}
use Rattle.ll_bank.proofs.CallerLemmas.{HasForm-extends, form_tree-extends, Extends-same, cut_same}
use Rattle.ll_laws.specs.declared.Clause.{Clause}
use Rattle.ll_laws.specs.declared.Kind.{Kind}
use Rattle.ll_laws.specs.declared.Kind.TheVariants.{Linear, Unbounded}
use Rattle.ll_laws.specs.Module.{ModuleTree, ClauseTree}
use Rattle.ll_laws.specs.Shown.{clause_tree, HasClauses}
use Rattle.ll_laws.specs.Valid.{GoalSide, ClauseSide}
use Rattle.ll_laws.specs.Verdict.{same_kind, labelled}
use Rattle.ll_sequent.specs.declared.sequents.Resource.{Resource}
use Rattle.ll_sequent.specs.declared.sequents.Start.{Start}
use Rattle.ll_sequent.specs.Sequents.{bounded_in, free_in, IsSound, IsHeld, AreHeld}
use Rattle.ll_sequent.specs.Starting.{values, of_kind, AreSound, IsRoot}
use Rattle.ll_sequent.proofs.FindingLemmas.{map_reverse}
use Rattle.ll_sequent.proofs.ValueLemmas.{sound-values}

pub image_keeps : (old new : Nodes) (size : BankSize) → size ≡ size_of old → IsCutTo size old new → Extends old new
image_keeps old new size e c = Extends-same old new (cut_same old new size e c)

-- ---- one clause after another

step_of : (k : Kind) (n m : ℕ) (c : Clause) (cs : List Clause) (b : Bool) → m ≡ suc n → same_kind k c.kind ≡ b
    → of_kind k n (c ∷ cs) ≡ (if b then record { label = n; form = c.form } ∷ of_kind k m cs else of_kind k m cs)
step_of k n m c cs b e h = λ i. if h i then record { label = n; form = c.form } ∷ of_kind k (sym e i) cs else of_kind k (sym e i) cs

module _ (k : Kind) (cs : List Clause) (n : ℕ) (d : Clause) (low : n < length cs) (found all : List Resource) (so_far : found ++ of_kind k n (drop n cs) ≡ all)
  where
    next : of_kind k n (drop n cs) ≡ of_kind k n (get_or cs n d ∷ drop (n + 1) cs)
    next = ap (of_kind k n) (drop-cons cs n d low ∙ ap (λ m. get_or cs n d ∷ drop m cs) (let e : suc n ≡ n + 1 = omega arith in e))

    pub kind_in : (after : List Resource) → same_kind k (get_or cs n d).kind ≡ true → after ≡ found ++ record { label = n; form = (get_or cs n d).form } ∷ []
        → after ++ of_kind k (n + 1) (drop (n + 1) cs) ≡ all
    kind_in after h e =
        ap (λ xs. xs ++ of_kind k (n + 1) (drop (n + 1) cs)) e
        ∙ (append_assoc found (record { label = n; form = (get_or cs n d).form } ∷ []) (of_kind k (n + 1) (drop (n + 1) cs))
        ∙ (ap (λ xs. found ++ xs) (sym (next ∙ step_of k n (n + 1) (get_or cs n d) (drop (n + 1) cs) true (omega arith) h)) ∙ so_far))

    pub kind_out : (after : List Resource) → same_kind k (get_or cs n d).kind ≡ false → after ≡ found → after ++ of_kind k (n + 1) (drop (n + 1) cs) ≡ all
    kind_out after h e =
        ap (λ xs. xs ++ of_kind k (n + 1) (drop (n + 1) cs)) e
        ∙ (ap (λ xs. found ++ xs) (sym (next ∙ step_of k n (n + 1) (get_or cs n d) (drop (n + 1) cs) false (omega arith) h)) ∙ so_far)

-- ---- the clauses of a kind, as the bank shows them

module _ {old new : Nodes} (keeps : Extends old new) (k : Kind) where
  pub kind_shown : (n : ℕ) (cs : List Clause) → HasClauses old cs → bounded_in new (of_kind k n cs) ≡ labelled k n (map (clause_tree old) cs)
  kind_shown n [] h = refl
  kind_shown n (c ∷ cs) h = by (same_kind k c.kind) (kind_shown (suc n) cs (All-tail (λ (c : Clause). HasForm old c.form.0) c cs h))
      (form_tree-extends keeps c.form.0 (All-head (λ (c : Clause). HasForm old c.form.0) c cs h))
    where
      by : (b : Bool) → bounded_in new (of_kind k (suc n) cs) ≡ labelled k (suc n) (map (clause_tree old) cs) → form_tree new c.form.0 ≡ form_tree old c.form.0
          → bounded_in new (if b then record { label = n; form = c.form } ∷ of_kind k (suc n) cs else of_kind k (suc n) cs)
          ≡ (if b then record { label = n; clause = form_tree old c.form.0 } ∷ labelled k (suc n) (map (clause_tree old) cs) else
          labelled k (suc n) (map (clause_tree old) cs))
      by true e t = λ i. record { label = n; clause = t i } ∷ e i
      by false e t = e

  pub kind_held : (modules : List ModuleTree) (n : ℕ) (cs : List Clause) → HasClauses old cs
      → All (λ (c : ClauseTree). IsSound modules ClauseSide [] c.form) (map (clause_tree old) cs)
      → AreHeld modules new (of_kind k n cs)
  kind_held modules n [] h s = λ i d l. absurd (omega arith)
  kind_held modules n (c ∷ cs) h s = by (same_kind k c.kind)
      (kind_held modules (suc n) cs (All-tail (λ (c : Clause). HasForm old c.form.0) c cs h)
      (All-tail (λ (c : ClauseTree). IsSound modules ClauseSide [] c.form) (clause_tree old c) (map (clause_tree old) cs) s))
      (record {
        inside = HasForm-extends keeps c.form.0 (All-head (λ (c : Clause). HasForm old c.form.0) c cs h);
        sound = let P : Form → Type 0 = IsSound modules ClauseSide [] in
            subst P (sym (form_tree-extends keeps c.form.0 (All-head (λ (c : Clause). HasForm old c.form.0) c cs h)))
            (All-head (λ (c : ClauseTree). IsSound modules ClauseSide [] c.form) (clause_tree old c) (map (clause_tree old) cs) s);
      })
    where
      by : (b : Bool) → AreHeld modules new (of_kind k (suc n) cs) → IsHeld modules new ClauseSide c.form.0
          → AreHeld modules new (if b then record { label = n; form = c.form } ∷ of_kind k (suc n) cs else of_kind k (suc n) cs)
      by true behind front = All-cons (λ (r : Resource). IsHeld modules new ClauseSide r.form.0) (record { label = n; form = c.form }) (of_kind k (suc n) cs)
          front behind
      by false behind front = behind

-- ---- the root

module _ (old : Nodes) (clauses : List Clause) (goal : ℕ) (ts : List Term) (start : Start) (keeps : Extends old start.bank) (has : HasClauses old clauses)
    (closed : list_all is_closed ts ≡ true) (shows : ShowsForm start.bank start.root.goal.0 (sub_form (values ts) (form_tree old goal)))
    (free : start.free.items ≡ reverse (of_kind Unbounded 0 clauses)) (bounded : start.root.bounded.items ≡ of_kind Linear 0 clauses)
    (count : start.root.free ≡ length start.free.items) where
  free_shown : free_in start.bank (take start.root.free start.free.items) ≡ labelled Unbounded 0 (map (clause_tree old) clauses)
  free_shown =
      let le : length start.free.items ≤ start.root.free = omega arith in
      ap (free_in start.bank) (take_all start.root.free start.free.items le ∙ free)
      ∙ (map_reverse start.bank 0 (reverse (of_kind Unbounded 0 clauses))
      ∙ (ap (bounded_in start.bank) (reverse-reverse (of_kind Unbounded 0 clauses)) ∙ kind_shown keeps Unbounded 0 clauses has))

  pub is_root : (modules : List ModuleTree) → AreSound modules (map (clause_tree old) clauses) (form_tree old goal)
      → IsRoot modules (map (clause_tree old) clauses) (form_tree old goal) ts start
  is_root modules s =
      let P : Form → Type 0 = IsSound modules GoalSide [] in
      let Q : List Resource → Type 0 = AreHeld modules start.bank in
      record {
        shows = λ i. record {
          free = free_shown i;
          bounded = (ap (bounded_in start.bank) bounded ∙ kind_shown keeps Linear 0 clauses has) i;
          goal =
              shows.tree i;
        };
        holds = record {
          sequent = record {
            goal = record { inside = shows.inside; sound = subst P (sym shows.tree) (sound-values ts closed modules GoalSide (form_tree old goal) s.asked) };
            bounded = subst Q (sym bounded) (kind_held keeps Linear modules 0 clauses has s.program);
          };
          unbounded = subst Q (sym free) (all_reversed (λ (r : Resource). IsHeld modules start.bank ClauseSide r.form.0) (of_kind Unbounded 0 clauses)
              (kind_held keeps Unbounded modules 0 clauses has s.program));
          all = count;
        };
      }
