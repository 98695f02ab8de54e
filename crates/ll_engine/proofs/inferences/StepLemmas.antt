-- An inference on an atom, in the parts of which it is made.
use Rattle.std.proofs.Common.{◌≡◌, ℕ, zero, suc, ◌≤◌, List, [], ◌∷◌, ◌++◌, length, map, refl, ap, sym, ◌∙◌, Some, arith}
use Rattle.std.specs.Prelude.{slice_get, option_map, option_and_then, replicate}
use Rattle.ll_bank.specs.Term.{Term, Var, sub}
use Rattle.ll_bank.specs.Form.{Form, Atom, sub_form}
use Rattle.ll_laws.specs.Leaf.{Leaf, ways, leaf}
use Rattle.ll_laws.specs.Module.{Setting}
use Rattle.ll_laws.specs.Settle.{Entry, Item, Goal}
use Rattle.ll_laws.specs.State.{State}
use Rattle.ll_laws.specs.Unify.{mgu}
use Rattle.ll_laws.specs.Attempt.{vars_from, entry_at, instantiated, with_leaf, take_leaf, take_way, take_entry, attempt_agenda, attempt}
use Rattle.ll_laws.proofs.CallerLemmas.{IsClosing, leaf-sub, sub_leaf, ways-sub}

-- the leaf with this candidate's number of its entry, opened with the next variables, is taken if head and atom unify
pub atom_step : (m : Setting) (s : State) (a : Term) (rest : List (Item Form)) (label k count : ℕ) (e : Entry Form) (l : Leaf) → s.agenda ≡ Goal (Atom a) ∷ rest
    → entry_at s.context label ≡ Some e
    → slice_get (ways e.clause) k ≡ Some count → leaf e.clause k (vars_from (length s.levels) count) ≡ Some l
    → attempt m s (record { label = label; leaf = k }) ≡ option_map (instantiated (with_leaf s rest label k count l))
    (mgu (a ∷ []) (l.head ∷ []) (s.levels ++ replicate count s.eigens))
unfolding attempt
atom_step m s a rest label k count e l agenda entry way is =
    ap (λ items. attempt_agenda m s items (record { label = label; leaf = k })) agenda
    ∙ (ap (option_and_then (take_entry s a rest label k)) entry
    ∙ (ap (option_and_then (take_way s a rest label k e)) way ∙ ap (option_and_then (take_leaf s a rest label k count)) is))

-- new variables stand for themselves
pub vars_fixed : (s : ℕ → Term) (n count : ℕ) → ((x : ℕ) → n ≤ x → s x ≡ Var x) → map (sub s) (vars_from n count) ≡ vars_from n count
vars_fixed s n zero h = refl
vars_fixed s n (suc count) h = λ i. h n (omega arith) i ∷ vars_fixed s (suc n) count (λ x l. h x (omega arith)) i

-- a leaf of a clause that is read, opened with new variables, is the leaf of the clause as it stands, read
pub leaf_read : (s : ℕ → Term) → IsClosing s → (r : Form) (k n count : ℕ) (l : Leaf) → ((x : ℕ) → n ≤ x → s x ≡ Var x) → leaf r k (vars_from n count) ≡ Some l
    → leaf (sub_form s r) k (vars_from n count) ≡ Some (sub_leaf s l)
leaf_read s c r k n count l h e = ap (leaf (sub_form s r) k) (sym (vars_fixed s n count h))
    ∙ (leaf-sub s c [] r k (vars_from n count) ∙ ap (option_map (sub_leaf s)) e)

-- and it has as many quantifiers on its way
pub way_read : (s : ℕ → Term) (r : Form) (k count : ℕ) → slice_get (ways r) k ≡ Some count → slice_get (ways (sub_form s r)) k ≡ Some count
way_read s r k count e = ap (λ (ws : List ℕ). slice_get ws k) (ways-sub s r) ∙ e
