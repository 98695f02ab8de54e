-- The walk through a program's clauses.
use Rattle.std.specs.Prelude.{◌≡◌, ◌<◌, ℕ, suc, ◌+◌, List, [], ◌∷◌, ◌++◌, All, map, sum_by}
use Rattle.ll_bank.specs.declared.FormAt.{FormAt}
use Rattle.ll_bank.specs.Form.{Form, With, Lolli, Imp, Forall}
use Rattle.ll_bank.specs.Nodes.{Nodes, form_tree, HasForm}
use Rattle.ll_agenda.specs.Frames.{Frames, items_at, HasTop, ShowsItems, Extends}
use Rattle.ll_index.specs.declared.leaves.Leaf.{Leaf}
use Rattle.ll_index.specs.declared.leaves.Premise.{Premise}
use Rattle.ll_index.specs.declared.leaves.Waiting.{Waiting}
use Rattle.ll_index.specs.declared.leaves.Walk.{Walk}
use Rattle.ll_index.specs.Standing.{StandingLeaf, leaves_under}
use Rattle.ll_index.specs.Listed.{Listed, numbered, listed, shown_premises, IsStored}

-- a part of a clause, and what stands round it, are in the bank and in the lists of premises
pub record IsPart (nodes : Nodes) (frames : Frames Premise) (w : Waiting) : Type 0 where
  pub form : HasForm nodes w.form.0
  pub top : HasTop frames w.premises
  pub premises : All (λ p. HasForm nodes p.goal.0) (items_at frames w.premises)

-- the leaves of a part of a clause
abbrev pub part_leaves : Nodes → Frames Premise → Waiting → List StandingLeaf
part_leaves nodes frames w = leaves_under w.quantifiers (shown_premises nodes (items_at frames w.premises)) (form_tree nodes w.form.0)

-- the leaves of parts that wait, the last one first
abbrev pub waiting_leaves : Nodes → Frames Premise → List Waiting → List StandingLeaf
waiting_leaves nodes frames [] = []
waiting_leaves nodes frames (w ∷ ws) = waiting_leaves nodes frames ws ++ part_leaves nodes frames w

-- how much of a clause there is to walk through
abbrev pub walk_size : Form → ℕ
walk_size (With r s) = suc (walk_size r + walk_size s)
walk_size (Lolli g r) = suc (walk_size r)
walk_size (Imp g r) = suc (walk_size r)
walk_size (Forall r) = suc (walk_size r)
walk_size _ = 1

-- and of parts that wait
abbrev pub waiting_size : Nodes → List Waiting → ℕ
waiting_size nodes ws = sum_by (λ w. walk_size (form_tree nodes w.form.0)) ws

-- a walk has gone on through these leaves
pub record AddsLeaves (nodes : Nodes) (old new : Walk) (leaves : List Listed) : Type 0 where
  pub frames : Extends old.premises new.premises
  pub more : List Leaf
  pub added : new.leaves.items ≡ old.leaves.items ++ more
  pub stored : All (IsStored nodes new.premises) more
  pub is : map (listed nodes new.premises) more ≡ leaves

-- a walk has taken a part apart, which is before the parts that waited; the number of the next leaf went from `leaf` to `next`
pub record TakesPart (nodes : Nodes) (label leaf : ℕ) (part : Waiting) (old new : Walk) (next : ℕ) : Type 0 where
  pub frames : Extends old.premises new.premises
  pub more : List Leaf
  pub added : new.leaves.items ≡ old.leaves.items ++ more
  pub stored : All (IsStored nodes new.premises) more
  pub waiting : All (IsPart nodes new.premises) new.waiting.items
  pub rest : map (listed nodes new.premises) more ++ numbered label next (waiting_leaves nodes new.premises new.waiting.items)
      ≡ numbered label leaf (part_leaves nodes old.premises part ++ waiting_leaves nodes old.premises old.waiting.items)
  pub smaller : waiting_size nodes new.waiting.items < walk_size (form_tree nodes part.form.0) + waiting_size nodes old.waiting.items

-- what is left of a part behind a premise waits
pub record PutsUnder (part : Waiting) (premise : Premise) (rest : FormAt) (old new : Walk) : Type 0 where
  pub frames : Extends old.premises new.premises
  pub leaves : new.leaves.items ≡ old.leaves.items
  pub inner : Waiting
  pub waiting : new.waiting.items ≡ old.waiting.items ++ inner ∷ []
  pub form : inner.form ≡ rest
  pub quantifiers : inner.quantifiers ≡ part.quantifiers
  pub premises : ShowsItems new.premises inner.premises (premise ∷ items_at old.premises part.premises)
