-- Marks of a machine, and what keeps them.
use Rattle.std.proofs.Common.{◌≡◌, ℕ, ◌+◌, ◌≤◌, List, [], ◌++◌, length, take, refl, ap, sym, subst, ◌∙◌, arith, length-append}
use Rattle.std.proofs.lemmas.List.{take-append-le, take-take, length-take-le, append-nil, take_all}
use Rattle.std.proofs.Common.{append_assoc}
use Rattle.ll_bank.specs.Nodes.{Nodes}
use Rattle.ll_bank.specs.declared.FormAt.{FormAt}
use Rattle.std.proofs.lemmas.List.Elements.{All-nil, All-cons, All-head, All-tail}
use Rattle.std.specs.Prelude.{All, IfSome, Option, Some, None, map}
use Rattle.std.proofs.Common.{◌∷◌}
use Rattle.ll_bank.specs.declared.At.{At}
use Rattle.ll_bank.specs.Nodes.{HasTerm}
use Rattle.ll_agenda.specs.declared.agenda.Top.{Top}
use Rattle.ll_agenda.specs.Frames.{HasTop, items_at}
use Rattle.ll_agenda.proofs.CallerLemmas.{Extends-cut}
use Rattle.ll_store.specs.declared.cells.Cell.{Cell}
use Rattle.ll_freeze.specs.Reading.{HasValue}
use Rattle.ll_store.specs.Stored.{State, Stored, stored, state_of, IsBefore as IsStoreBefore, state_at, IsGood as IsGoodMark, KeepsMarks as KeepsStoreMarks}
use Rattle.ll_store.specs.Stored.{StandsFor as StoreStandsFor}
use Rattle.ll_store.specs.Tables.{table_of}
use Rattle.ll_store.specs.declared.store.Mark.{Mark}
use Rattle.ll_resources.specs.Resources.{Resources}
use Rattle.ll_resources.specs.History.{History, KeepsMarks as KeepsContextMarks, StandsFor as ContextStandsFor, IsLastMark, state_at as context_at}
use Rattle.ll_freeze.specs.declared.machine.Machine.{Machine}
use Rattle.ll_freeze.specs.declared.mark.ChoiceMark.{ChoiceMark}
use Rattle.ll_freeze.specs.Parts.{Parts, parts_of, parts_at, IsGood, IsBefore, StandsFor, KeepsMarks, Later}

-- the parts at a mark, by what each part was
abbrev pub parts_by : ChoiceMark → Machine → State → Resources FormAt → Machine → Parts
parts_by k m s r n =
    record {
      problem = m.problem.now;
      modules = m.modules.now;
      bank = s.nodes;
      bound = (table_of s.cells).bound;
      levels = (table_of s.cells).levels;
      resources = r;
      agenda = take k.agenda n.agenda;
      top = k.top;
      left = k.left;
      eigens = k.eigens;
      terms = take k.terms n.terms.items;
      steps = take k.steps n.steps.items;
    }

first : {A : Type 0} (n : ℕ) (xs ys zs : List A) → zs ≡ xs ++ ys → n ≤ length xs → take n zs ≡ take n xs
first n xs ys zs e l = ap (take n) e ∙ take-append-le n xs ys l

longer : {A : Type 0} (n : ℕ) (xs ys zs : List A) → zs ≡ xs ++ ys → n ≤ length xs → n ≤ length zs
longer n xs ys zs e l = let k : length zs ≡ length xs + length ys = ap (λ us. length us) e ∙ length-append xs ys in omega (arith, k, l)

-- what only has more keeps each good mark
pub keeps : (old new : Machine) → Later old new → KeepsMarks old new
keeps old new h k g =
    let s : StoreStandsFor k.store (state_at k.store (stored old.store)) (stored new.store) = h.store k.store g.store in
    let r : ContextStandsFor k.context (context_at k.context old.context) new.context = h.context k.context g.context in
    record {
      good = record {
        store = s.good;
        context = r.good;
        agenda = longer k.agenda old.agenda h.frames new.agenda h.agenda g.agenda;
        top = g.top;
        terms = longer k.terms old.terms.items h.more_terms new.terms.items h.terms g.terms;
        steps = longer k.steps old.steps.items h.more_steps new.steps.items h.steps g.steps;
      };
      parts = λ i. record {
        problem = h.problem i;
        modules = h.modules i;
        bank = (s.state i).nodes;
        bound = (table_of (s.state i).cells).bound;
        levels = (table_of (s.state i).cells).levels;
        resources = r.state i;
        agenda = first k.agenda old.agenda h.frames new.agenda h.agenda g.agenda i;
        top = k.top;
        left = k.left;
        eigens = k.eigens;
        terms = first k.terms old.terms.items h.more_terms new.terms.items h.terms g.terms i;
        steps = first k.steps old.steps.items h.more_steps new.steps.items h.steps g.steps i;
      };
    }

pub store_same : (s : Stored) → KeepsStoreMarks s s
store_same s m g = record { good = g; state = refl }

pub store_then : (s t u : Stored) → KeepsStoreMarks s t → KeepsStoreMarks t u → KeepsStoreMarks s u
store_then s t u h k m g = let a = h m g in let b = k m a.good in record { good = b.good; state = b.state ∙ a.state }

pub context_same : (r : History FormAt) → KeepsContextMarks r r
context_same r m g = record { good = g; state = refl }

pub context_then : (r s t : History FormAt) → KeepsContextMarks r s → KeepsContextMarks s t → KeepsContextMarks r t
context_then r s t h k m g = let a = h m g in let b = k m a.good in record { good = b.good; state = b.state ∙ a.state }

-- a machine is later than itself
pub later_same : (m : Machine) → Later m m
later_same m =
    record {
      problem = refl;
      modules = refl;
      store = store_same (stored m.store);
      context = context_same m.context;
      frames = [];
      agenda = sym (append-nil m.agenda);
      more_terms = [];
      terms = sym (append-nil m.terms.items);
      more_steps = [];
      steps = sym (append-nil m.steps.items);
    }

more_then : {A : Type 0} (xs ys zs more most : List A) → ys ≡ xs ++ more → zs ≡ ys ++ most → zs ≡ xs ++ (more ++ most)
more_then xs ys zs more most e f = f ∙ (ap (λ us. us ++ most) e ∙ append_assoc xs more most)

-- and what is later than a later one
pub later_then : (m n o : Machine) → Later m n → Later n o → Later m o
later_then m n o h k =
    record {
      problem = k.problem ∙ h.problem;
      modules = k.modules ∙ h.modules;
      store = store_then (stored m.store) (stored n.store) (stored o.store) h.store k.store;
      context = context_then m.context n.context o.context h.context k.context;
      frames = h.frames ++ k.frames;
      agenda = more_then m.agenda n.agenda o.agenda h.frames k.frames h.agenda k.agenda;
      more_terms = h.more_terms ++ k.more_terms;
      terms = more_then m.terms.items n.terms.items o.terms.items h.more_terms k.more_terms h.terms k.terms;
      more_steps = h.more_steps ++ k.more_steps;
      steps = more_then m.steps.items n.steps.items o.steps.items h.more_steps k.more_steps h.steps k.steps;
    }

-- what a cut leaves
pub cut_front : {A : Type 0} (n : ℕ) (old new more : List A) → old ≡ new ++ more → length new ≡ n → new ≡ take n old
cut_front n old new more e l = sym (ap (take n) e ∙ (take-append-le n new more (omega (arith, l)) ∙ take_all n new (omega (arith, l))))

fewer : {A : Type 0} (k n : ℕ) (xs ys : List A) → ys ≡ take n xs → k ≤ n → n ≤ length xs → k ≤ length ys
fewer k n xs ys e l m = let j : length ys ≡ n = ap (λ us. length us) e ∙ length-take-le n xs m in omega (arith, j, l)

same_first : {A : Type 0} (k n : ℕ) (xs ys : List A) → ys ≡ take n xs → k ≤ n → take k ys ≡ take k xs
same_first k n xs ys e l = ap (take k) e ∙ take-take k n xs l

-- an earlier mark after the way back to a later one
pub undone : (old new : Machine) (last k : ChoiceMark) → IsGood last old → IsBefore k last → IsGood k old → new.problem.now ≡ old.problem.now
    → new.modules.now ≡ old.modules.now
    → StoreStandsFor k.store (state_at k.store (stored old.store)) (stored new.store)
    → ContextStandsFor k.context (context_at k.context old.context) new.context
    → new.agenda ≡ take last.agenda old.agenda → new.terms.items ≡ take last.terms old.terms.items → new.steps.items ≡ take last.steps old.steps.items
    → StandsFor k (parts_at k old) new
undone old new last k l b g p ms s r a t st =
    record {
      good = record {
        store = s.good;
        context = r.good;
        agenda = fewer k.agenda last.agenda old.agenda new.agenda a b.agenda l.agenda;
        top = g.top;
        terms = fewer k.terms last.terms old.terms.items new.terms.items t b.terms l.terms;
        steps = fewer k.steps last.steps old.steps.items new.steps.items st b.steps l.steps;
      };
      parts = λ i. record {
        problem = p i;
        modules = ms i;
        bank = (s.state i).nodes;
        bound = (table_of (s.state i).cells).bound;
        levels = (table_of (s.state i).cells).levels;
        resources = r.state i;
        agenda = same_first k.agenda last.agenda old.agenda new.agenda a b.agenda i;
        top = k.top;
        left = k.left;
        eigens = k.eigens;
        terms = same_first k.terms last.terms old.terms.items new.terms.items t b.terms i;
        steps = same_first k.steps last.steps old.steps.items new.steps.items st b.steps i;
      };
    }

-- the parts after the way back to a mark
pub back_to : (old new : Machine) (k : ChoiceMark) → new.problem.now ≡ old.problem.now → new.modules.now ≡ old.modules.now
    → state_of (stored new.store) ≡ state_at k.store (stored old.store)
    → new.context.present ≡ context_at k.context old.context → new.agenda ≡ take k.agenda old.agenda → new.top ≡ k.top → new.left ≡ k.left
    → new.eigens ≡ k.eigens
    → new.terms.items ≡ take k.terms old.terms.items → new.steps.items ≡ take k.steps old.steps.items → parts_of new ≡ parts_at k old
back_to old new k p ms s r a t l e ts st =
    λ i. record {
      problem = p i;
      modules = ms i;
      bank = (s i).nodes;
      bound = (table_of (s i).cells).bound;
      levels = (table_of (s i).cells).levels;
      resources = r i;
      agenda = a i;
      top = t i;
      left = l i;
      eigens = e i;
      terms = ts i;
      steps = st i;
    }

-- a mark of a machine as it stands
pub record IsNow (k : ChoiceMark) (m : Machine) : Type 0 where
  pub store : StoreStandsFor k.store (state_of (stored m.store)) (stored m.store)
  pub store_last : (other : Mark) → IsGoodMark other (stored m.store) → IsStoreBefore other k.store
  pub context : ContextStandsFor k.context m.context.present m.context
  pub context_last : IsLastMark k.context m.context
  pub agenda : k.agenda ≡ length m.agenda
  pub top : k.top ≡ m.top
  pub inside : HasTop m.agenda m.top
  pub left : k.left ≡ m.left
  pub eigens : k.eigens ≡ m.eigens
  pub terms : k.terms ≡ length m.terms.items
  pub steps : k.steps ≡ length m.steps.items

pub now_good : (k : ChoiceMark) (m : Machine) → IsNow k m → IsGood k m
now_good k m h =
    let a = h.agenda in let b = h.terms in let c = h.steps in let t = h.inside in
    record {
      store = h.store.good;
      context = h.context.good;
      agenda = omega (arith, a);
      top = subst (λ (top : Top). top.place ≤ k.agenda) (sym h.top) (omega (arith, a, t));
      terms = omega (arith, b);
      steps = omega (arith, c);
    }

whole : {A : Type 0} (n : ℕ) (xs : List A) → n ≡ length xs → take n xs ≡ xs
whole n xs e = take_all n xs (omega (arith, e))

pub now_parts : (k : ChoiceMark) (m : Machine) → IsNow k m → parts_at k m ≡ parts_of m
now_parts k m h =
    λ i. record {
      problem = m.problem.now;
      modules = m.modules.now;
      bank = (h.store.state i).nodes;
      bound = (table_of (h.store.state i).cells).bound;
      levels = (table_of (h.store.state i).cells).levels;
      resources = h.context.state i;
      agenda = whole k.agenda m.agenda h.agenda i;
      top = h.top i;
      left = h.left i;
      eigens = h.eigens i;
      terms = whole k.terms m.terms.items h.terms i;
      steps = whole k.steps m.steps.items h.steps i;
    }

pub now_last : (k : ChoiceMark) (m : Machine) → IsNow k m → (other : ChoiceMark) → IsGood other m → IsBefore other k
now_last k m h other g =
    let a = h.agenda in let b = h.terms in let c = h.steps in let x = g.agenda in let y = g.terms in let z = g.steps in
    record {
      store = h.store_last other.store g.store;
      context = h.context_last other.context g.context;
      agenda = omega (arith, a, x);
      terms = omega (arith, b, y);
      steps = omega (arith, c, z);
    }

-- the cells of a machine name places of its bank
pub cells_within : (nodes : Nodes) (cells : List Cell) → All (HasValue nodes) (map (λ (c : Cell). c.to) cells)
    → All (λ (c : Cell). IfSome c.to (λ at. HasTerm nodes at.0)) cells
cells_within nodes [] h = All-nil (λ (c : Cell). IfSome c.to (λ at. HasTerm nodes at.0))
cells_within nodes (c ∷ cells) h =
    All-cons (λ (d : Cell). IfSome d.to (λ at. HasTerm nodes at.0)) c cells (one c.to (All-head (HasValue nodes) c.to (map (λ (d : Cell). d.to) cells) h))
    (cells_within nodes cells (All-tail (HasValue nodes) c.to (map (λ (d : Cell). d.to) cells) h))
  where
    one : (o : Option At) → HasValue nodes o → IfSome o (λ at. HasTerm nodes at.0)
    one None v = tt
    one (Some at) v = v

-- the frames past a mark change nothing in the list at its top
pub same_items : (k : ChoiceMark) (m : Machine) → IsGood k m → items_at (take k.agenda m.agenda) k.top ≡ items_at m.agenda k.top
same_items k m g =
    let cut = take k.agenda m.agenda in
    let e = Extends-cut k.agenda m.agenda cut m.agenda refl refl in
    let n = length-take-le k.agenda m.agenda g.agenda in
    sym (e.same_items k.top (let t = g.top in omega (arith, t, n)))
