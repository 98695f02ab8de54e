-- Marks over the changes of a store.
use Rattle.std.proofs.Common.{◌≡◌, ℕ, zero, suc, ◌≤◌, List, [], ◌∷◌, ◌++◌, length, take, drop, refl, ap, sym, subst, ◌∙◌, arith, length-append}
use Rattle.std.specs.Prelude.{Result, Ok, Err, OnOk, OnErr, min}
use Rattle.std.proofs.lemmas.List.{drop-append-le, take-append-le, take-append-drop, take-take, take_all, length-take, length-take-le}
use Rattle.std.proofs.lemmas.List.Sums.{sum_by-take-le}
use Rattle.ll_bank.specs.Nodes.{Nodes, front, HasSize, IsCutTo, IsNotPast, Extends, size_of, argument_count, load_argument_count}
use Rattle.ll_bank.specs.declared.BankSize.{BankSize}
use Rattle.ll_store.specs.declared.cells.Cell.{Cell}
use Rattle.ll_store.specs.declared.cells.Change.{Change}
use Rattle.ll_store.specs.declared.store.Mark.{Mark}
use Rattle.ll_store.specs.Cells.{before}
use Rattle.ll_store.specs.Stored.{State, Stored, state_at, AreWithin, IsGood, StandsFor, KeepsMarks, IsBefore, KeepsMarksTo}
use Rattle.ll_store.specs.Tables.{before-append}
use Rattle.ll_store.proofs.CellLemmas.{before-length, before-take}

-- a state with these parts
pub same_state : (n n2 : Nodes) (cs cs2 : List Cell) → n2 ≡ n → cs2 ≡ cs → let s : State = record { nodes = n2; cells = cs2 } in
    let t : State = record { nodes = n; cells = cs } in s ≡ t
same_state n n2 cs cs2 e f = cc

-- a good mark of one store is one of another in which it stands for the same state
pub stands : (old new : Stored) (m : Mark) → m.cells ≤ length new.cells → m.trail ≤ length new.changes → HasSize new.nodes m.bank
    → state_at m new ≡ state_at m old → IsGood m old → StandsFor m (state_at m old) new
stands old new m c t b e g = record {
  good = record { cells = c; trail = t; bank = b; within = subst (λ s. AreWithin s) (sym e) g.within };
  state = e;
}

-- more changes, which taken back give the earlier cells, keep each good mark: so does a unifier that only adds to the trail
pub marks-grow : (old new : Stored) (more : List Change) → new.nodes ≡ old.nodes → new.changes ≡ old.changes ++ more → before more new.cells ≡ old.cells
    → KeepsMarks old new
marks-grow old new more n e b m g =
    stands old new m (let k = g.cells in let l = sym (before-length more new.cells) ∙ ap length b in omega (arith, k, l)) (let k = g.trail in
    let q = ap length e ∙ length-append old.changes more in omega (arith, k, q))
    (subst (λ ns. HasSize ns m.bank) (sym n) g.bank)
    (same_state _ _ _ _ (ap (λ ns. front ns m.bank) n) (ap (take m.cells) past)) g
  where
    past : before (drop m.trail new.changes) new.cells ≡ before (drop m.trail old.changes) old.cells
    past =
        ap (λ cs. before (drop m.trail cs) new.cells) e
        ∙ (ap (λ cs. before cs new.cells) (drop-append-le m.trail old.changes more g.trail)
        ∙ (before-append (drop m.trail old.changes) more new.cells ∙ ap (before (drop m.trail old.changes)) b))

-- one more cell
pub marks-cell : (old new : Stored) (d : Cell) → new.nodes ≡ old.nodes → new.changes ≡ old.changes → new.cells ≡ old.cells ++ d ∷ [] → KeepsMarks old new
marks-cell old new d n e b m g =
    stands old new m (let k = g.cells in let q = ap length b ∙ length-append old.cells (d ∷ []) in omega (arith, k, q)) (let k = g.trail in
    let q = ap length e in omega (arith, k, q))
    (subst (λ ns. HasSize ns m.bank) (sym n) g.bank)
    (same_state _ _ _ _ (ap (λ ns. front ns m.bank) n) past) g
  where
    past : take m.cells (before (drop m.trail new.changes) new.cells) ≡ take m.cells (before (drop m.trail old.changes) old.cells)
    past =
        ap (λ cs. take m.cells (before (drop m.trail cs) new.cells)) e
        ∙ (before-take m.cells (drop m.trail old.changes) new.cells
        ∙ (ap (λ xs. before (drop m.trail old.changes) (take m.cells xs)) b
        ∙ (ap (before (drop m.trail old.changes)) (take-append-le m.cells old.cells (d ∷ []) g.cells)
        ∙ sym (before-take m.cells (drop m.trail old.changes) old.cells))))

-- nothing changed
pub marks-same : (s : Stored) → KeepsMarks s s
marks-same s m g = record { good = g; state = refl }

-- the first nodes of a bank that has been cut
pub front-cut : (size : BankSize) (old new : Nodes) → IsCutTo size old new → new ≡ front old size
front-cut size old new h =
    nodes (first new.terms h.trees.more_terms old.terms h.trees.terms size.terms (ap (λ (z : BankSize). z.terms) h.places))
    (first new.forms h.trees.more_forms old.forms h.trees.forms size.forms (ap (λ (z : BankSize). z.forms) h.places))
  where
    first : {A : Type 0} (xs ys zs : List A) → zs ≡ xs ++ ys → (n : ℕ) → length xs ≡ n → xs ≡ take n zs
    first xs ys zs e n l = sym (ap (take n) e ∙ (take-append-le n xs ys (omega (arith, l)) ∙ take_all n xs (omega (arith, l))))

    nodes : new.terms ≡ take size.terms old.terms → new.forms ≡ take size.forms old.forms → new ≡ front old size
    nodes e f = λ i. let n : Nodes = record { terms = e i; forms = f i } in n

-- an earlier mark after the last changes were taken back
pub marks-undone : (old new : Stored) (last : Mark) → IsGood last old → new.changes ≡ take last.trail old.changes
    → new.cells ≡ take last.cells (before (drop last.trail old.changes) old.cells)
    → IsCutTo last.bank old.nodes new.nodes → KeepsMarksTo last old new
marks-undone old new last h e f q m b g =
    stands old new m
    (let k = ap length f ∙ length-take-le last.cells (before (drop last.trail old.changes) old.cells) (let j =
    before-length (drop last.trail old.changes) old.cells in let i = h.cells in omega (arith, j, i)) in let l = b.cells in omega (arith, k, l))
    (let k = ap length e ∙ length-take-le last.trail old.changes h.trail in let l = b.trail in omega (arith, k, l))
    (q.sizes m.bank g.bank b.bank)
    (same_state _ _ _ _ (ap (λ ns. front ns m.bank) (front-cut last.bank old.nodes new.nodes q) ∙ nodes) cells) g
  where
    nodes : front (front old.nodes last.bank) m.bank ≡ front old.nodes m.bank
    nodes =
        let p = take-take m.bank.terms last.bank.terms old.nodes.terms b.bank.terms in
        let r = take-take m.bank.forms last.bank.forms old.nodes.forms b.bank.forms in
        cc

    past : List Change
    past = drop last.trail old.changes

    changes : drop m.trail (take last.trail old.changes) ++ past ≡ drop m.trail old.changes
    changes =
        sym (drop-append-le m.trail (take last.trail old.changes) past (let k = length-take-le last.trail old.changes h.trail in let l = b.trail in
        omega (arith, k, l)))
        ∙ ap (drop m.trail) (take-append-drop last.trail old.changes)

    cells : take m.cells (before (drop m.trail new.changes) new.cells) ≡ take m.cells (before (drop m.trail old.changes) old.cells)
    cells =
        (λ i. take m.cells (before (drop m.trail (e i)) (f i)))
        ∙ (before-take m.cells (drop m.trail (take last.trail old.changes)) (take last.cells (before past old.cells))
        ∙ (ap (before (drop m.trail (take last.trail old.changes))) (take-take m.cells last.cells (before past old.cells) b.cells)
        ∙ (sym (before-take m.cells (drop m.trail (take last.trail old.changes)) (before past old.cells))
        ∙ ap (take m.cells) (sym (before-append (drop m.trail (take last.trail old.changes)) past old.cells) ∙ ap (λ cs. before cs old.cells) changes))))

-- a bank to which places were only added
pub marks-extend : (s : Stored) (nodes : Nodes) → Extends s.nodes nodes → KeepsMarks s (let t : Stored = record s { nodes = nodes } in t)
marks-extend s nodes e m g =
    stands s (record s { nodes = nodes }) m g.cells g.trail (e.sizes m.bank g.bank)
    (same_state (front s.nodes m.bank) (front nodes m.bank) _ _
    (fronts (first s.nodes.terms e.more_terms nodes.terms e.terms m.bank.terms (ap (λ (z : BankSize). z.terms) g.bank.counts))
    (first s.nodes.forms e.more_forms nodes.forms e.forms m.bank.forms (ap (λ (z : BankSize). z.forms) g.bank.counts))) refl) g
  where
    short : {A : Type 0} (n : ℕ) (xs : List A) → length (take n xs) ≡ n → n ≤ length xs
    short zero xs h = omega arith
    short (suc n) [] h = absurd (omega arith)
    short (suc n) (x ∷ xs) h = let k = short n xs (omega arith) in omega arith

    first : {A : Type 0} (xs more ys : List A) → ys ≡ xs ++ more → (n : ℕ) → length (take n xs) ≡ n → take n ys ≡ take n xs
    first xs more ys q n h = ap (take n) q ∙ take-append-le n xs more (short n xs h)

    fronts : take m.bank.terms nodes.terms ≡ take m.bank.terms s.nodes.terms → take m.bank.forms nodes.forms ≡ take m.bank.forms s.nodes.forms
        → front nodes m.bank ≡ front s.nodes m.bank
    fronts p q = λ i. let n : Nodes = record { terms = p i; forms = q i } in n

-- no good mark is past the numbers of the store
pub before-last : (s : Stored) (m last : Mark) → IsGood m s → last.cells ≡ length s.cells → last.trail ≡ length s.changes → last.bank ≡ size_of s.nodes
    → IsBefore m last
before-last s m last g c t b =
    let k = g.cells in let l = g.trail in let z = g.bank.counts in
    record {
      cells = omega (arith, k, c);
      trail = omega (arith, l, t);
      bank =
          subst (λ (other : BankSize). IsNotPast m.bank other) (sym b)
          (subst (λ (own : BankSize). IsNotPast own (size_of s.nodes)) z
          (record {
            terms = subst (λ n. n ≤ length s.nodes.terms) (sym (length-take m.bank.terms s.nodes.terms)) (min-right m.bank.terms (length s.nodes.terms));
            forms = subst (λ n. n ≤ length s.nodes.forms) (sym (length-take m.bank.forms s.nodes.forms)) (min-right m.bank.forms (length s.nodes.forms));
            arguments = sum_by-take-le argument_count s.nodes.terms m.bank.terms;
            load_arguments = sum_by-take-le load_argument_count s.nodes.forms m.bank.forms;
          }));
    }
  where
    min-right : (a b : ℕ) → min a b ≤ b
    min-right zero b = omega arith
    min-right (suc a) zero = omega arith
    min-right (suc a) (suc b) = let h = min-right a b in omega (arith, h)

-- what follows from either answer
pub either-way : {A E : Type 0} {P Q R : Type 0} → (r : Result A E) → (P → R) → (Q → R) → OnOk r P → OnErr r Q → R
either-way (Ok a) f g p q = f p
either-way (Err e) f g p q = g q
