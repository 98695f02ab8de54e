-- What a machine's parts do to the marks of the machine.
use Rattle.std.proofs.Common.{◌≡◌, List, [], ◌∷◌, ◌++◌, refl, ap, sym, ◌∙◌}
use Rattle.std.proofs.lemmas.List.{append-nil}
use Rattle.ll_bank.specs.declared.At.{At}
use Rattle.ll_bank.specs.declared.FormAt.{FormAt}
use Rattle.ll_laws.specs.declared.Step.{Step}
use Rattle.ll_bank.specs.Nodes.{Extends}
use Rattle.ll_store.specs.declared.store.Store.{Store}
use Rattle.ll_store.specs.Stored.{Stored, stored, KeepsMarks as KeepsStoreMarks}
use Rattle.ll_store.proofs.CallerLemmas.{marks-extend}
use Rattle.ll_resources.specs.History.{History, KeepsMarks as KeepsContextMarks}
use Rattle.ll_agenda.specs.Frames.{Frames}
use Rattle.ll_freeze.specs.declared.machine.Machine.{Machine}
use Rattle.ll_freeze.specs.declared.machine.Item.{Item}
use Rattle.ll_freeze.specs.Parts.{Later}
use Rattle.ll_freeze.proofs.CallerLemmas.{store_same, context_same}

-- one element more, behind a list that room was made for
pub pushed : {A : Type 0} (xs ys zs : List A) (x : A) → zs ≡ ys ++ x ∷ [] → ys ≡ xs → zs ≡ xs ++ x ∷ []
pushed xs ys zs x e h = e ∙ ap (λ us. us ++ x ∷ []) h

-- marks of a store
pub store_extends : (s t : Store) → Extends s.bank t.bank → t.cells ≡ s.cells → KeepsStoreMarks (stored s) (stored t)
store_extends s t e c =
    let make : _ → Stored = λ cells. record { nodes = t.bank; cells = cells.cells; changes = cells.changes } in
    Rattle.std.proofs.Common.subst (λ (u : Stored). KeepsStoreMarks (stored s) u) (λ i. make (sym c i)) (marks-extend (stored s) t.bank e)

-- a machine with more: another store and context that keep their marks, more frames, terms and steps
pub later_of : (m n : Machine) → n.problem.now ≡ m.problem.now → n.modules.now ≡ m.modules.now → KeepsStoreMarks (stored m.store) (stored n.store)
    → KeepsContextMarks m.context n.context
    → (frames : Frames Item) → n.agenda ≡ m.agenda ++ frames → (terms : List At) → n.terms.items ≡ m.terms.items ++ terms
    → (steps : List Step) → n.steps.items ≡ m.steps.items ++ steps → Later m n
later_of m n p ms s c frames a terms t steps st =
    record { problem = p; modules = ms; store = s; context = c; frames = frames; agenda = a; more_terms = terms; terms = t; more_steps = steps; steps = st }

-- more terms
pub later_terms : (m n : Machine) → n.problem.now ≡ m.problem.now → n.modules.now ≡ m.modules.now → KeepsStoreMarks (stored m.store) (stored n.store)
    → KeepsContextMarks m.context n.context
    → n.agenda ≡ m.agenda → (terms : List At) → n.terms.items ≡ m.terms.items ++ terms → n.steps.items ≡ m.steps.items → Later m n
later_terms m n p ms s c a terms t st =
    later_of m n p ms s c [] (a ∙ sym (append-nil m.agenda)) terms t [] (st ∙ sym (append-nil m.steps.items))

-- another store alone, and another context alone
pub later_store : (m n : Machine) → n.problem.now ≡ m.problem.now → n.modules.now ≡ m.modules.now → KeepsStoreMarks (stored m.store) (stored n.store)
    → n.context ≡ m.context
    → n.agenda ≡ m.agenda → n.terms.items ≡ m.terms.items → n.steps.items ≡ m.steps.items → Later m n
later_store m n p ms s c a t st =
    later_terms m n p ms s (Rattle.std.proofs.Common.subst (λ (h : History FormAt). KeepsContextMarks m.context h) (sym c) (context_same m.context)) a []
    (t ∙ sym (append-nil m.terms.items)) st

pub later_context : (m : Machine) (c : History FormAt) → KeepsContextMarks m.context c → Later m (record m { context = c })
later_context m c h =
    later_of m (record m { context = c }) refl refl (store_same (stored m.store)) h [] (sym (append-nil m.agenda)) [] (sym (append-nil m.terms.items)) []
    (sym (append-nil m.steps.items))

-- more frames, and a context, at another top
pub later_frames : (m n : Machine) → n.problem.now ≡ m.problem.now → n.modules.now ≡ m.modules.now → n.store ≡ m.store → KeepsContextMarks m.context n.context
    → (more : Frames Item) → n.agenda ≡ m.agenda ++ more → n.terms.items ≡ m.terms.items → n.steps.items ≡ m.steps.items → Later m n
later_frames m n p ms s c more a t st =
    later_of m n p ms (Rattle.std.proofs.Common.subst (λ (u : Store). KeepsStoreMarks (stored m.store) (stored u)) (sym s) (store_same (stored m.store))) c more
    a
    [] (t ∙ sym (append-nil m.terms.items)) [] (st ∙ sym (append-nil m.steps.items))

-- another context and another top
pub later_top : (m n : Machine) → n.problem.now ≡ m.problem.now → n.modules.now ≡ m.modules.now → n.store ≡ m.store → KeepsContextMarks m.context n.context
    → n.agenda ≡ m.agenda → n.terms.items ≡ m.terms.items → n.steps.items ≡ m.steps.items → Later m n
later_top m n p ms s c a t st = later_frames m n p ms s c [] (a ∙ sym (append-nil m.agenda)) t st
