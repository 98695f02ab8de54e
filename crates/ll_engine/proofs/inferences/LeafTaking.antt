-- A leaf as it is opened, given new cells and unified with the atom in front, by what the machine and the store hold.
use Rattle.std.proofs.Common.{◌≡◌, ℕ, List, ◌∷◌, [], ◌++◌, length, replicate, ap, Some, None, Bool, true, false}
use Rattle.ll_bank.specs.declared.At.{At}
use Rattle.ll_bank.specs.declared.FormAt.{FormAt}
use Rattle.ll_bank.specs.declared.Head.{Head}
use Rattle.ll_bank.specs.declared.environment.Environment.{Environment}
use Rattle.ll_bank.specs.Environments.{values_in}
use Rattle.ll_bank.specs.Term.{app, close, sub}
use Rattle.ll_bank.specs.Nodes.{Nodes, Extends, term_tree, term_trees}
use Rattle.ll_laws.specs.Settle.{Entry}
use Rattle.ll_laws.specs.Unify.{mgu}
use Rattle.ll_laws.specs.Attempt.{entry_at, attempt}
use Rattle.ll_agenda.specs.declared.agenda.Top.{Top}
use Rattle.ll_agenda.specs.Frames.{Frames, items_at}
use Rattle.ll_unify.specs.Bindings.{Table}
use Rattle.ll_store.specs.declared.store.Store.{Store}
use Rattle.ll_store.specs.Tables.{table_of}
use Rattle.ll_freeze.specs.declared.machine.Machine.{Machine}
use Rattle.ll_freeze.specs.declared.machine.Item.{Item}
use Rattle.ll_freeze.specs.Parts.{Parts, parts_of}
use Rattle.ll_freeze.specs.Reading.{reading}
use Rattle.ll_freeze.specs.Shown.{state_of}
use Rattle.ll_freeze.specs.Fits.{Fits, setting}
use Rattle.ll_engine.specs.Attempts.{Infers}
use Rattle.ll_engine.specs.declared.attempt.Position.{Position}
use Rattle.ll_engine.specs.Front.{IsAsked}
use Rattle.ll_engine.specs.Opening.{Opens}
use Rattle.ll_engine.specs.Taking.{Unifies}
use Rattle.ll_engine.proofs.machine.ReadLemmas.{cells_bound, cells_levels}
use Rattle.ll_engine.proofs.inferences.TakingLemmas.{IsReady, ready_in, finds_in, IsMoved, none_taken, some_taken}

module _ (m : Machine) (f : Fits (parts_of m)) (label : ℕ) (e : Entry FormAt) (found : entry_at m.context.present.entries label ≡ Some e) (p : Position) (k : ℕ)
    (mid : Nodes) (now : Frames Item) (terms : List At) (head : At) (own : Environment) (top : Top) (keeps : Extends m.store.bank mid)
    (o : Opens m.store.bank (items_at m.agenda p.rest) (length m.terms.items) e.clause.0 k mid now terms head own top)
    (sign : Head) (args : List At) (h : IsAsked (parts_of m) sign args p) (store : Store) (same : store.bank ≡ mid)
    (cells : store.cells.cells ≡ m.store.cells.cells ++ replicate own.count (record { to = None; level = m.eigens })) where
  pub bound_is : (table_of store.cells.cells).bound ≡ (table_of m.store.cells.cells).bound ++ replicate o.count None
  bound_is = cells_bound m.store.cells.cells store.cells.cells own.count o.count m.eigens cells (ap (λ (e : Environment). e.count) o.own_is)

  pub levels_are : (table_of store.cells.cells).levels ≡ (table_of m.store.cells.cells).levels ++ replicate o.count m.eigens
  levels_are = cells_levels m.store.cells.cells store.cells.cells own.count o.count m.eigens cells (ap (λ (e : Environment). e.count) o.own_is)

  -- what unification tells
  abbrev pub Told : Nodes → Table → Bool → Type 0
  Told last after ok = Unifies store.bank last (table_of store.cells.cells) after
      (mgu (sub (reading store.bank (table_of store.cells.cells).bound) (app sign (term_trees store.bank args)) ∷ [])
      (sub (reading store.bank (table_of store.cells.cells).bound) (close (values_in own) (term_tree store.bank head.0)) ∷ [])
      (table_of store.cells.cells).levels) ok

  -- unification may be asked for, and makes the inference or none
  pub record LeafFacts : Type 0 where
    pub ready : IsReady (parts_of m) f label e found p k mid now terms head own top keeps o sign args h (table_of store.cells.cells) bound_is levels_are
        store.bank
    pub none : (last : Nodes) (after : Table) (ok : Bool) → ok ≡ false → Told last after ok
        → attempt (setting (parts_of m)) (state_of (parts_of m)) (record { label = label; leaf = k }) ≡ None
    pub some : (last : Nodes) (after : Table) (new : Parts) (ok : Bool) → ok ≡ true → Told last after ok
        → IsMoved (parts_of m) f label e found p k mid now terms head own top keeps o sign args h (table_of store.cells.cells) bound_is levels_are last
        after new
        → Infers (parts_of m) (record { label = label; leaf = k }) new

  pub leaf_facts : LeafFacts
  leaf_facts =
      let q = parts_of m in
      let start = table_of store.cells.cells in
      record {
        ready = ready_in q f label e found p k mid now terms head own top keeps o sign args h start bound_is levels_are store.bank same;
        none = λ last after ok r u. none_taken q f label e found p k mid now terms head own top keeps o sign args h start bound_is levels_are last after
            (finds_in q f label e found p k mid now terms head own top keeps o sign args h start bound_is levels_are store.bank last after ok false same r u);
        some = λ last after new ok r u t. some_taken q f label e found p k mid now terms head own top keeps o sign args h start bound_is levels_are last after
            new t (finds_in q f label e found p k mid now terms head own top keeps o sign args h start bound_is levels_are store.bank last after ok true
            same r u);
      }
