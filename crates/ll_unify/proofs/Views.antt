-- What stands at a place that is read under bindings.
use Rattle.std.proofs.Common.{ℕ, sym, ap, ◌∙◌, get_or}
use Rattle.std.proofs.lemmas.List.{get_or_default}
use Rattle.ll_bank.specs.declared.TermView.{TermView}
use Rattle.ll_bank.specs.declared.TermView.TheVariants.{Var as VarView, Int as IntView, App as AppView}
use Rattle.ll_bank.specs.Term.{sub, app}
use Rattle.ll_bank.specs.Nodes.{Nodes, term_tree, term_trees, IsTermView}
use Rattle.ll_bank.proofs.CallerLemmas.{sub-app, sub-term_trees}
use Rattle.ll_laws.specs.Views.{IsViewOf}
use Rattle.ll_unify.specs.Bindings.{Table, found, IsTable, IsEnd, AreSame, IsReadable}
use Rattle.ll_unify.proofs.Readings.{Obeys-found}
use Rattle.ll_unify.proofs.Spines.{seen_argument}
use Rattle.ll_unify.proofs.Tables.{step-inside, end-var}

-- the view of the end shows what the place is read as
pub view-end : (nodes : Nodes) (t : Table) (at end : ℕ) (v : TermView) → IsTable nodes t → IsEnd nodes t end
    → AreSame nodes t (term_tree nodes end) (term_tree nodes at) → IsTermView nodes end v
    → IsViewOf (IsReadable nodes t) (λ at. sub (found nodes t) (term_tree nodes at)) at v
view-end nodes t at end (VarView x) h e s v =
    sym (s (found nodes t) (Obeys-found nodes t h.ordered)) ∙ (ap (sub (found nodes t)) v ∙ end-var nodes t end x h e v)
view-end nodes t at end (IntView z) h e s v = sym (s (found nodes t) (Obeys-found nodes t h.ordered)) ∙ ap (sub (found nodes t)) v
view-end nodes t at end (AppView head args) h e s v = (
  sym (s (found nodes t) (Obeys-found nodes t h.ordered))
      ∙ (ap (sub (found nodes t)) v.0
      ∙ (sub-app (found nodes t) head (term_trees nodes args.now) ∙ ap (app head) (sub-term_trees (found nodes t) nodes args.now))),
  λ k d l. record {
    table = h;
    place = step-inside nodes t end k (get_or args.now k d).0 e.place
        (seen_argument nodes end head args.now k (get_or args.now k d) v.0 v.1 l (get_or_default args.now k (record { 0 = 0 }) d l));
  },
)
