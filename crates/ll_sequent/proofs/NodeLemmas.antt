-- What the calls of a clause node say, in the words of its judging.
use Rattle.std.proofs.Common.{◌≡◌, ℕ, suc, ◌<◌, refl, ap, sym, subst, ◌∙◌, Bool, true, false, List, [], ◌∷◌, map, length, Option, Some, None}
use Rattle.std.specs.Prelude.{◌↔◌, IsTrue, is_some}
use Rattle.std.proofs.lemmas.Bool.{false_from_ne_true as false_of}
use Rattle.std.proofs.lemmas.List.{length-map}
use Rattle.ll_bank.specs.declared.At.{At}
use Rattle.ll_bank.specs.declared.FormAt.{FormAt}
use Rattle.ll_bank.specs.Term.{Term}
use Rattle.ll_bank.specs.Nodes.{Nodes, form_tree, term_tree, HasForm, IsFormView, Extends}
use Rattle.ll_bank.specs.declared.FormNode.TheVariants.{Atom as AtomView}
use Rattle.ll_bank.proofs.CallerLemmas.{form_tree-extends, term_tree-extends}
use Rattle.ll_laws.proofs.CallerLemmas.{term_eq-true, term_eq-refl}
use Rattle.ll_laws.specs.Fault.{term_eq, parts_fit}
use Rattle.ll_laws.specs.Leaf.{Premise, Needs, NeedsFree, premise_goal, Leaf, leaf}
use Rattle.ll_laws.specs.Line.{PartLine, Labels, Free}
use Rattle.ll_laws.specs.ShownLines.{part_line}
use Rattle.ll_laws.specs.declared.Part.{Part}
use Rattle.ll_sequent.specs.Opened.{form_trees, IsPast, IsOpened, ShowsLeaf}
use Rattle.ll_sequent.specs.declared.leaves.Opened.{Opened}
use Rattle.ll_sequent.specs.Steps.{blank}

-- ---- equal terms

pub equal_is : (b : Bool) (t u v : Term) → IsTrue b ↔ (t ≡ u) → u ≡ v → b ≡ true → term_eq t v ≡ true
equal_is b t u v d e h = let P : Term → Type 0 = λ w. term_eq t w ≡ true in subst P (d.0 h ∙ e) (term_eq-refl t)

pub equal_not : (b : Bool) (t u v : Term) → IsTrue b ↔ (t ≡ u) → u ≡ v → b ≡ false → term_eq t v ≡ false
equal_not b t u v d e h = false_of (term_eq t v) (λ x. let y = d.1 (term_eq-true t v x ∙ sym e) in let z : ⊥ = cc in z)

-- ---- a leaf that there is

pub among : (count k : ℕ) (o : Option ℕ) → is_some o ≡ false → IsPast count k o → k < count
among count k None e p = p
among count k (Some x) e p = cc

-- ---- as many parts as goals

fit_length : (lines : List PartLine) (gs : List Premise) → parts_fit (blank lines) gs ≡ true → length lines ≡ length gs
fit_length [] [] e = refl
fit_length [] (g ∷ gs) e = cc
fit_length (Labels s ∷ lines) [] e = cc
fit_length (Free ∷ lines) [] e = cc
fit_length (Labels s ∷ lines) (Needs g ∷ gs) e = ap (λ m. suc m) (fit_length lines gs e)
fit_length (Labels s ∷ lines) (NeedsFree g ∷ gs) e = cc
fit_length (Free ∷ lines) (Needs g ∷ gs) e = cc
fit_length (Free ∷ lines) (NeedsFree g ∷ gs) e = ap (λ m. suc m) (fit_length lines gs e)

pub as_many : (parts : List Part) (bank : Nodes) (goals : List FormAt) (gs : List Premise) → parts_fit (blank (map part_line parts)) gs ≡ true
    → form_trees bank goals ≡ map premise_goal gs → length parts ≡ length goals
as_many parts bank goals gs f e =
    sym (length-map parts part_line)
    ∙ (fit_length (map part_line parts) gs f ∙ (sym (length-map gs premise_goal)
    ∙ (ap (λ xs. length xs) (sym e) ∙ length-map goals (λ (f : FormAt). form_tree bank f.0))))

-- ---- the leaf in later banks

pub leaf_same : (old new : Nodes) (keeps : Extends old new) (f : FormAt) (k : ℕ) (ts us : List Term) → HasForm old f.0 → us ≡ ts
    → leaf (form_tree old f.0) k ts ≡ leaf (form_tree new f.0) k us
leaf_same old new keeps f k ts us h e = λ i. leaf (sym (form_tree-extends keeps f.0 h) i) k (sym e i)

pub shows_of : (bank : Nodes) (l : Option Leaf) (o : Option Opened) (x : Opened) → o ≡ Some x → IsOpened bank l o → ShowsLeaf bank l x
shows_of bank l o x e h = let P : Option Opened → Type 0 = IsOpened bank l in subst P e h

pub none_of : (bank : Nodes) (l : Option Leaf) (o : Option Opened) → ((x : Opened) → o ≡ Some x → ⊥) → IsOpened bank l o → l ≡ None
none_of bank l None n h = h
none_of bank l (Some x) n h = absurd (n x refl)

pub atom_same : (old new : Nodes) (keeps : Extends old new) (at : ℕ) (a : At) → IsFormView old at (AtomView a) → term_tree new a.0 ≡ term_tree old a.0
atom_same old new keeps at a seen = term_tree-extends keeps a.0 seen.parts
