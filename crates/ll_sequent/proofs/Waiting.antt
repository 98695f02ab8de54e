-- The sequents that wait, when the bank grows, when unbounded clauses come or go, and when sequents come or go.
use Rattle.std.proofs.Common.{◌≡◌, ℕ, ◌<◌, ◌≤◌, List, [], ◌∷◌, ◌++◌, length, map, take, reverse, get_or, refl, ap, sym, ◌∙◌, subst, arith}
use Rattle.std.specs.Prelude.{All}
use Rattle.std.proofs.lemmas.List.{map-append, reverse-append, take-append-le, take-take}
use Rattle.std.proofs.lemmas.List.Elements.{All-cons, All-head, All-tail, All-append, All-take, All-push}
use Rattle.ll_bank.specs.Form.{Form}
use Rattle.ll_bank.specs.Nodes.{Nodes, HasForm, Extends}
use Rattle.ll_bank.proofs.CallerLemmas.{HasForm-extends, form_tree-extends}
use Rattle.ll_laws.specs.declared.Module.{Module}
use Rattle.ll_laws.specs.declared.Clause.{Clause}
use Rattle.ll_laws.specs.Module.{ModuleTree}
use Rattle.ll_laws.specs.Shown.{clause_tree, module_tree, HasClauses, HasModules}
use Rattle.ll_laws.specs.Valid.{Side, GoalSide, ClauseSide}
use Rattle.ll_sequent.specs.declared.sequents.Resource.{Resource}
use Rattle.ll_sequent.specs.declared.sequents.Sequent.{Sequent}
use Rattle.ll_sequent.specs.Sequents.{labelled_in, free_in, sequent_in, waiting_in, IsSound, IsHeld, AreHeld, IsSequent, AreNested, AreWaiting, Adds}
use Rattle.ll_sequent.specs.Steps.{AreLeft}

-- ---- the list

-- a sequent that comes is next
pub waiting_more : (bank : Nodes) (free : List Resource) (ss : List Sequent) (s : Sequent)
    → waiting_in bank free (ss ++ s ∷ []) ≡ sequent_in bank free s ∷ waiting_in bank free ss
waiting_more bank free ss s = ap reverse (map-append (sequent_in bank free) ss (s ∷ []))
    ∙ reverse-append (map (sequent_in bank free) ss) (sequent_in bank free s ∷ [])

-- sequents that come in reverse stand in front
pub waiting_front : (bank : Nodes) (free : List Resource) (ss qs : List Sequent)
    → waiting_in bank free (ss ++ reverse qs) ≡ map (sequent_in bank free) qs ++ waiting_in bank free ss
waiting_front bank free ss [] = ap (waiting_in bank free) (same ss)
  where
    same : (xs : List Sequent) → xs ++ [] ≡ xs
    same [] = refl
    same (x ∷ xs) = ap (λ ys. x ∷ ys) (same xs)
waiting_front bank free ss (q ∷ qs) =
    ap (λ xs. waiting_in bank free (ss ++ xs)) (reverse-append (q ∷ []) qs)
    ∙ (ap (waiting_in bank free) (onto ss (reverse qs) (q ∷ []))
    ∙ (waiting_more bank free (ss ++ reverse qs) q
    ∙ ap (λ xs. sequent_in bank free q ∷ xs) (waiting_front bank free ss qs)))
  where
    onto : (xs ys zs : List Sequent) → xs ++ (ys ++ zs) ≡ (xs ++ ys) ++ zs
    onto [] ys zs = refl
    onto (x ∷ xs) ys zs = ap (λ vs. x ∷ vs) (onto xs ys zs)

-- ---- nesting

pub nested-less : (low : ℕ) (ss : List Sequent) (s : Sequent) (high : ℕ) → AreNested low (ss ++ s ∷ []) high → AreNested low ss s.free × (s.free ≤ high)
nested-less low [] s high n = n
nested-less low (x ∷ ss) s high n = let m = nested-less x.free ss s high n.1 in ((n.0, m.0), m.1)

nested-wider : (low : ℕ) (ss : List Sequent) (high more : ℕ) → high ≤ more → AreNested low ss high → AreNested low ss more
nested-wider low [] high more h n = let l : low ≤ more = omega arith in l
nested-wider low (x ∷ ss) high more h n = (n.0, nested-wider x.free ss high more h n.1)

nested-high : (low : ℕ) (ss : List Sequent) (high : ℕ) → AreNested low ss high → low ≤ high
nested-high low [] high n = n
nested-high low (x ∷ ss) high n = let m = nested-high x.free ss high n.1 in let k = n.0 in omega arith

-- sequents that have as many clauses as there are
nested-all : (low : ℕ) (ss qs : List Sequent) (high : ℕ) → AreNested low ss high → All (λ (q : Sequent). q.free ≡ high) qs → AreNested low (ss ++ qs) high
nested-all low [] [] high n h = n
nested-all low [] (q ∷ qs) high n h =
    let e : q.free ≡ high = All-head (λ (q : Sequent). q.free ≡ high) q qs h in
    let l : low ≤ q.free = omega arith in
    let m : q.free ≤ high = omega arith in
    (l, nested-all q.free [] qs high m (All-tail (λ (q : Sequent). q.free ≡ high) q qs h))
nested-all low (x ∷ ss) qs high n h = (n.0, nested-all x.free ss qs high n.1 h)

-- each sequent has at most as many
nested-each : (low : ℕ) (ss : List Sequent) (high : ℕ) → AreNested low ss high → All (λ (s : Sequent). s.free ≤ high) ss
nested-each low [] high n = λ k d l. absurd (let z : k < 0 = l in omega arith)
nested-each low (x ∷ ss) high n = All-cons (λ (s : Sequent). s.free ≤ high) x ss (nested-high x.free ss high n.1) (nested-each x.free ss high n.1)

-- ---- a bank that grows

module _ {old new : Nodes} (keeps : Extends old new) where
  pub held-extends : (modules : List ModuleTree) (side : Side) (at : ℕ) → IsHeld modules old side at → IsHeld modules new side at
  held-extends modules side at h = record {
    inside = HasForm-extends keeps at h.inside;
    sound = let P : Form → Type 0 = IsSound modules side [] in subst P (sym (form_tree-extends keeps at h.inside)) h.sound;
  }

  pub are_held-extends : (modules : List ModuleTree) (rs : List Resource) → AreHeld modules old rs → AreHeld modules new rs
  are_held-extends modules rs h k d l = held-extends modules ClauseSide (get_or rs k d).form.0 (h k d l)

  pub sequent-extends : (modules : List ModuleTree) (s : Sequent) → IsSequent modules old s → IsSequent modules new s
  sequent-extends modules s h = record { goal = held-extends modules GoalSide s.goal.0 h.goal; bounded = are_held-extends modules s.bounded.items h.bounded }

  pub same_labelled : (modules : List ModuleTree) (rs : List Resource) → AreHeld modules old rs → map (labelled_in new) rs ≡ map (labelled_in old) rs
  same_labelled modules [] h = refl
  same_labelled modules (r ∷ rs) h =
      let a = All-head (λ (r : Resource). IsHeld modules old ClauseSide r.form.0) r rs h in
      let t = same_labelled modules rs (All-tail (λ (r : Resource). IsHeld modules old ClauseSide r.form.0) r rs h) in
      λ i. record { label = r.label; clause = form_tree-extends keeps r.form.0 a.inside i } ∷ t i

  -- a sequent shows the same, over unbounded clauses of which its own are the same
  pub same_sequent : (modules : List ModuleTree) (before after : List Resource) (s : Sequent) → IsSequent modules old s → AreHeld modules old before
      → take s.free after ≡ take s.free before
      → sequent_in new after s ≡ sequent_in old before s
  same_sequent modules before after s h held e =
      let f : free_in new (take s.free after) ≡ free_in old (take s.free before) =
      ap (free_in new) e ∙ ap reverse (same_labelled modules (take s.free before)
      (All-take (λ (r : Resource). IsHeld modules old ClauseSide r.form.0) s.free before held)) in
      let b = same_labelled modules s.bounded.items h.bounded in
      let g = form_tree-extends keeps s.goal.0 h.goal.inside in
      λ i. record { free = f i; bounded = b i; goal = g i }

  same_sequents : (modules : List ModuleTree) (before after : List Resource) (ss : List Sequent) → All (IsSequent modules old) ss → AreHeld modules old before
      → All (λ (s : Sequent). take s.free after ≡ take s.free before) ss → map (sequent_in new after) ss ≡ map (sequent_in old before) ss
  same_sequents modules before after [] h held e = refl
  same_sequents modules before after (s ∷ ss) h held e =
      let p = same_sequent modules before after s (All-head (IsSequent modules old) s ss h) held
      (All-head (λ (s : Sequent). take s.free after ≡ take s.free before) s ss e) in
      let q = same_sequents modules before after ss (All-tail (IsSequent modules old) s ss h) held
      (All-tail (λ (s : Sequent). take s.free after ≡ take s.free before) s ss e) in
      λ i. p i ∷ q i

  -- modules show the same
  same_clauses : (cs : List Clause) → HasClauses old cs → map (clause_tree new) cs ≡ map (clause_tree old) cs
  same_clauses [] h = refl
  same_clauses (c ∷ cs) h =
      let p = form_tree-extends keeps c.form.0 (All-head (λ (c : Clause). HasForm old c.form.0) c cs h) in
      let q = same_clauses cs (All-tail (λ (c : Clause). HasForm old c.form.0) c cs h) in
      λ i. record { kind = c.kind; form = p i } ∷ q i

  pub same_modules : (ms : List Module) → HasModules old ms → map (module_tree new) ms ≡ map (module_tree old) ms
  same_modules [] h = refl
  same_modules (m ∷ ms) h =
      let p = same_clauses m.clauses.items (All-head (λ (m : Module). HasClauses old m.clauses.items) m ms h) in
      let q = same_modules ms (All-tail (λ (m : Module). HasClauses old m.clauses.items) m ms h) in
      λ i. record { name = m.name; params = m.params; locals = m.locals; clauses = p i } ∷ q i

  pub has_modules-extends : (ms : List Module) → HasModules old ms → HasModules new ms
  has_modules-extends ms h k d l = λ i e n. HasForm-extends keeps (get_or (get_or ms k d).clauses.items i e).form.0 (h k d l i e n)

-- ---- what waits

-- the unbounded clauses that a sequent does not have are taken away
pub waiting_cut : (modules : List ModuleTree) (bank : Nodes) (free : List Resource) (n : ℕ) (ss : List Sequent) → Extends bank bank
    → AreWaiting modules bank n ss → AreHeld modules bank free
    → waiting_in bank (take n free) ss ≡ waiting_in bank free ss
waiting_cut modules bank free n ss keeps w held =
    ap reverse (same_sequents keeps modules free (take n free) ss w.each held
    (λ k d l. take-take (get_or ss k d).free n free (nested-each 0 ss n w.nested k d l)))

-- the bank grows, and unbounded clauses come
pub waiting_grown : (modules : List ModuleTree) {old new : Nodes} (before after : List Resource) (ss : List Sequent) → Extends old new
    → AreWaiting modules old (length before) ss
    → AreHeld modules old before → Adds before after → waiting_in new after ss ≡ waiting_in old before ss
waiting_grown modules before after ss keeps w held adds =
    ap reverse (same_sequents keeps modules before after ss w.each held
    (λ k d l. ap (take (get_or ss k d).free) adds.is ∙ take-append-le (get_or ss k d).free before adds.more (nested-each 0 ss (length before) w.nested k d l)))

-- the next sequent, and those that wait behind it
pub record Popped (modules : List ModuleTree) (bank : Nodes) (free : List Resource) (ss : List Sequent) (s : Sequent) : Type 0 where
  pub next : IsSequent modules bank s
  pub behind : AreWaiting modules bank s.free ss
  pub within : s.free ≤ length free

pub popped : (modules : List ModuleTree) (bank : Nodes) (free : List Resource) (ss : List Sequent) (s : Sequent)
    → AreWaiting modules bank (length free) (ss ++ s ∷ []) → Popped modules bank free ss s
popped modules bank free ss s w =
    let n = nested-less 0 ss s (length free) w.nested in
    record { next = last ss w.each; behind = record { each = first ss w.each; nested = n.0 }; within = n.1 }
  where
    last : (xs : List Sequent) → All (IsSequent modules bank) (xs ++ s ∷ []) → IsSequent modules bank s
    last [] h = All-head (IsSequent modules bank) s [] h
    last (x ∷ xs) h = last xs (All-tail (IsSequent modules bank) x (xs ++ s ∷ []) h)

    first : (xs : List Sequent) → All (IsSequent modules bank) (xs ++ s ∷ []) → All (IsSequent modules bank) xs
    first [] h = λ k d l. absurd (let z : k < 0 = l in omega arith)
    first (x ∷ xs) h = All-cons (IsSequent modules bank) x xs (All-head (IsSequent modules bank) x (xs ++ s ∷ []) h)
        (first xs (All-tail (IsSequent modules bank) x (xs ++ s ∷ []) h))

-- what waits after a step
pub waiting_after : (modules : List ModuleTree) {old new : Nodes} (before after : List Resource) (ss qs : List Sequent) → Extends old new
    → AreWaiting modules old (length before) ss
    → length before ≤ length after → AreLeft modules new (length after) qs → AreWaiting modules new (length after) (ss ++ reverse qs)
waiting_after modules {old} {new} before after ss qs keeps w more left = record {
  each =
      All-append (IsSequent modules new) ss (reverse qs) (λ k d l. sequent-extends keeps modules (get_or ss k d) (w.each k d l))
      (turned (IsSequent modules new) qs left.each);
  nested =
      nested-all 0 ss (reverse qs) (length after) (nested-wider 0 ss (length before) (length after) more w.nested)
      (turned (λ (q : Sequent). q.free ≡ length after) qs left.whole);
}
  where
    turned : (P : Sequent → Type 0) (xs : List Sequent) → All P xs → All P (reverse xs)
    turned P [] h = h
    turned P (x ∷ xs) h =
        let Q : List Sequent → Type 0 = All P in
        subst Q (sym (reverse-append (x ∷ []) xs)) (All-push P (reverse xs) x (turned P xs (All-tail P x xs h)) (All-head P x xs h))
