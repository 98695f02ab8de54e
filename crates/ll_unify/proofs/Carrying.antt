-- How terms are carried into another bank with all bindings applied.
use Rattle.std.proofs.Common.{◌≡◌, ℕ, ◌-◌, ◌≤◌, List, [], ◌∷◌, ◌++◌, length, drop, ap, sym, ◌∙◌}
use Rattle.std.specs.Prelude.{Some}
use Rattle.ll_bank.specs.declared.Head.{Head}
use Rattle.ll_bank.specs.declared.At.{At}
use Rattle.ll_bank.specs.Term.{Term, Var, Con, app, sub, head_of}
use Rattle.ll_bank.specs.Nodes.{Nodes, term_tree, term_trees, ShowsTerm}
use Rattle.ll_bank.proofs.CallerLemmas.{sub-apply}
use Rattle.ll_unify.specs.declared.frame.Frame.{Frame}
use Rattle.ll_unify.specs.Spines.{args_in, ShowsArgument}
use Rattle.ll_unify.specs.Bindings.{Table, found, IsPlaceOf, IsTable, IsEnd, AreSame}
use Rattle.ll_unify.specs.Frames.{frame_tree}
use Rattle.ll_unify.specs.Copied.{IsCopied}
use Rattle.ll_unify.specs.Carried.{IsCarried}
use Rattle.ll_unify.proofs.Readings.{Obeys-found}
use Rattle.ll_unify.proofs.Tables.{end-var, step-inside}
use Rattle.ll_unify.proofs.Copies.{spine-is, copy-top, copy-own, IsReached}

-- a variable and a number are their own copies
pub carried-var : (first old new : Nodes) (at x : ℕ) (own : List At) (copy : At) → term_tree first at ≡ Var x → ShowsTerm new copy.0 (Var x)
    → IsCarried first old new at own copy.0
carried-var first old new at x own copy e k s args free = record { inside = k.inside; tree = k.tree ∙ (sym (free x e) ∙ ap (sub s) (sym e)) }

pub carried-int : (first old new : Nodes) (at : ℕ) (u : Term) (own : List At) (copy : At) → term_tree first at ≡ u → ((s : ℕ → Term) → sub s u ≡ u)
    → ShowsTerm new copy.0 u → IsCarried first old new at own copy.0
carried-int first old new at u own copy e c k s args free = record { inside = k.inside; tree = k.tree ∙ (sym (c s) ∙ ap (sub s) (sym e)) }

-- an application is its head over the copies
pub carried-app : (first old new : Nodes) (at : ℕ) (own : List At) (copy : At) (h : Head) → head_of (term_tree first at) ≡ Some h
    → ShowsTerm new copy.0 (app h (term_trees old own)) → IsCarried first old new at own copy.0
carried-app first old new at own copy h e k s args free = record {
  inside = k.inside;
  tree = k.tree ∙ (ap (app h) args ∙ (sym (sub-apply s (Con h) (args_in (term_tree first at))) ∙ ap (sub s) (sym (spine-is (term_tree first at) h e))));
}

module _ (first : Nodes) (t : Table) (whole : Term) (tb : IsTable first t) where
  -- the next argument of the frame on top
  pub carry-argument : (nodes : Nodes) (made : List At) (last : At) (items fs : List Frame) (f : Frame) (arg : At)
      → IsCopied first nodes t whole made last items → items ≡ fs ++ f ∷ [] → ShowsArgument first f.at.0 f.next arg.0
      → IsPlaceOf first t arg.0
  carry-argument nodes made last items fs f arg h i a = step-inside first t f.at.0 f.next arg.0
      (copy-top first t whole tb nodes made last items fs f h i).end.place a

  -- what is reached from it
  pub carry-reached : (f : Frame) (arg end : At) → ShowsArgument first f.at.0 f.next arg.0 → IsEnd first t end.0
      → AreSame first t (term_tree first end.0) (term_tree first arg.0) → IsReached first t f arg end
  carry-reached f arg end a e m = record { argument = a; end = e; same = m (found first t) (Obeys-found first t tb.ordered) }

  -- what was built is a copy of the frame on top
  pub carried-copy : (old new : Nodes) (made : List At) (last copy : At) (items fs : List Frame) (f : Frame) → IsCopied first old t whole made last items
      → items ≡ fs ++ f ∷ []
      → length (args_in (frame_tree first f)) ≤ f.next → IsCarried first old new f.at.0 (drop (length made - f.next) made) copy.0
      → ShowsTerm new copy.0 (sub (found first t) (frame_tree first f))
  carried-copy old new made last copy items fs f h i l b =
      let p = copy-top first t whole tb old made last items fs f h i in
      let o = copy-own first t whole tb old made last items fs f h i l in
      b (found first t) o.2 (λ x v. end-var first t f.at.0 x tb p.end v)
