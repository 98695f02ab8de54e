-- A table of shared terms, step by step.
use Rattle.std.proofs.Common.{◌≡◌, ℕ, ◌+◌, ◌*◌, ◌<◌, ◌≤◌, Bool, true, false, ◌||◌, if◌then◌else◌, List, [], ◌∷◌, ◌++◌, length, get_or, set, replicate, All}
use Rattle.std.proofs.Common.{refl, ap, sym, subst, ◌∙◌, inl, inr, arith, append_assoc, Option, Some, None}
use Rattle.std.specs.Prelude.{is_some}
use Rattle.std.specs.List.{flat_map}
use Rattle.std.proofs.lemmas.Bool.{cases_eq, true≢false}
use Rattle.std.proofs.lemmas.List.{append-nil, get_or-replicate, length-replicate, length-map, map-append, length-set, get_or-set_same, get_or-set_other}
use Rattle.std.proofs.lemmas.List.Elements.{All-head, All-tail, All-cons, All-append, All-push, All-nil, All-weaker, All-pop}
use Rattle.ll_bank.specs.declared.At.{At}
use Rattle.ll_bank.specs.Term.{Term, Ap, Con, apply, app}
use Rattle.ll_bank.specs.Nodes.{Nodes, term_tree, term_trees}
use Rattle.ll_laws.specs.Fault.{term_eq}
use Rattle.ll_printer.specs.Stack.{term_size}
use Rattle.ll_laws.proofs.CallerLemmas.{term_eq-true, term_eq-refl}
use Rattle.ll_prooftext.specs.declared.table.Table.{Table}
use Rattle.ll_prooftext.specs.declared.table.Task.{Task}
use Rattle.ll_prooftext.specs.declared.table.Task.TheVariants as task
use Rattle.ll_prooftext.specs.declared.classes.Classes.{Classes}
use Rattle.ll_prooftext.specs.Classes.{AreClasses}
use Rattle.ll_prooftext.specs.Table.{completed, completed_arguments, is_among, rows_in, row_of}
use Rattle.ll_prooftext.specs.Tables.{HasNumberAt, row_at, IsRowOf, IsTableOf, task_at, task_terms, todo, task_weight, tasks_weight, entries, Entered, bare}
use Rattle.ll_prooftext.specs.Tables.{known, inside, Left, left_known, added, Taken, IsBuilding}
use Rattle.ll_prooftext.proofs.tabling.Classing.{equal_number, equal_term, number_below}
use Rattle.ll_prooftext.proofs.tabling.TableTerms.{among-append, rows_in-among, rows_stay, rows_in-append, AreAmong, completed_is, completed_bare}
use Rattle.ll_prooftext.proofs.tabling.TableTerms.{arguments_app, known_done, row_kept, row_new}

-- ---- tasks

module _ (bank : Nodes) where
  todo-append : (xs ys : List Task) → todo bank (xs ++ ys) ≡ todo bank ys ++ todo bank xs
  todo-append [] ys = sym (append-nil (todo bank ys))
  todo-append (x ∷ xs) ys = ap (λ ts. ts ++ task_terms bank x) (todo-append xs ys) ∙ append_assoc (todo bank ys) (todo bank xs) (task_terms bank x)

  todo-entries : (args : List At) → todo bank (entries args) ≡ flat_map completed (term_trees bank args)
  todo-entries [] = refl
  todo-entries (a ∷ args) = todo-append (entries args) (task.Enter a ∷ []) ∙ ap (λ ts. completed (term_tree bank a.0) ++ ts) (todo-entries args)

  weight-append : (xs ys : List Task) → tasks_weight bank (xs ++ ys) ≡ tasks_weight bank xs + tasks_weight bank ys
  weight-append [] ys = omega arith
  weight-append (x ∷ xs) ys = let e = weight-append xs ys in omega arith

  -- arguments are less work than the term
  weight-entries : (f : Term) (args : List At) → 2 * term_size f + tasks_weight bank (entries args) ≤ 2 * term_size (apply f (term_trees bank args))
  weight-entries f [] = omega arith
  weight-entries f (a ∷ args) =
      let e = weight-append (entries args) (task.Enter a ∷ []) in let h = weight-entries (Ap f (term_tree bank a.0)) args in
      let s : term_size (Ap f (term_tree bank a.0)) ≡ term_size f + term_size (term_tree bank a.0) + 1 = refl in
      let w : tasks_weight bank (task.Enter a ∷ []) ≡ 2 * term_size (term_tree bank a.0) + 0 = refl in omega arith

term_size-positive : (t : Term) → 0 < term_size t
term_size-positive t = by t
  where
    by : (t : Term) → 0 < term_size t
    by (Ap f a) = omega arith
    by _ = omega arith

-- ---- places with numbers

-- the argument of a term with a number has one
pub argument_numbered : (bank : Nodes) (t : Table) (rows : List Term) → IsTableOf bank t rows → (at : ℕ) → at < length t.classes.numbers.items
    → HasNumberAt t at
argument_numbered bank t rows h at l = record {
  inside = l;
  below = let b = number_below h.classes.signs (get_or t.classes.numbers.items at 0) (term_tree bank at) (h.classes.numbers.each at l) in
      let c = h.classes.count in let e = h.enough in omega arith;
}

entries_numbered : (t : Table) (args : List At) → All (λ (a : At). HasNumberAt t a.0) args → All (λ x. HasNumberAt t (task_at x)) (entries args)
entries_numbered t [] h = All-nil (λ x. HasNumberAt t (task_at x))
entries_numbered t (a ∷ args) h =
    All-push (λ x. HasNumberAt t (task_at x)) (entries args) (task.Enter a) (entries_numbered t args (All-tail (λ (b : At). HasNumberAt t b.0) a args h))
    (All-head (λ (b : At). HasNumberAt t b.0) a args h)

-- ---- the beginning

pub table_starts : (bank : Nodes) (t : Table) → AreClasses bank t.classes → t.numbered.items ≡ replicate t.classes.count None → t.rows.items ≡ []
    → IsTableOf bank t []
table_starts bank t c n r = record {
  classes = c;
  enough = ap length n ∙ length-replicate t.classes.count None;
  inside = subst (λ ps. All (λ (a : At). a.0 < length t.classes.numbers.items) ps) (sym r) (All-nil (λ (a : At). a.0 < length t.classes.numbers.items));
  terms = ap (term_trees bank) r;
  numbered = λ at l.
      let b = number_below c.signs (get_or t.classes.numbers.items at 0) (term_tree bank at) (c.numbers.each at l) in
      subst (IsRowOf [] (term_tree bank at)) (sym (ap (λ ns. get_or ns (get_or t.classes.numbers.items at 0) None) n
      ∙ get_or-replicate t.classes.count (get_or t.classes.numbers.items at 0) None None (let e = c.count in omega arith)))
      refl;
}

pub building_starts : (bank : Nodes) (fields : List At) (t : Table) → IsTableOf bank t [] → All (λ (a : At). a.0 < length t.classes.numbers.items) fields
    → IsBuilding bank (flat_map completed (term_trees bank fields)) t (entries fields)
building_starts bank fields t h r = record {
  done = [];
  is = todo-entries bank fields;
  table = h;
  inside = entries_numbered t fields (All-weaker (λ (a : At). a.0 < length t.classes.numbers.items) (λ (a : At). HasNumberAt t a.0)
      (λ a l. argument_numbered bank t [] h a.0 l) fields r);
}

-- ---- a row more

module _ (bank : Nodes) (old now : Table) (rows : List Term) (h : IsTableOf bank old rows) (at : At) (l : at.0 < length old.classes.numbers.items)
    (none : row_at old at.0 ≡ None) (same : now.classes ≡ old.classes)
    (more : now.rows.items ≡ old.rows.items ++ at ∷ []) (wrote : now.numbered.items
    ≡ set old.numbered.items (get_or old.classes.numbers.items at.0 0) (Some (length old.rows.items))) where
  abbrev pub t : Term
  t = term_tree bank at.0

  abbrev m : ℕ
  m = get_or old.classes.numbers.items at.0 0

  new_row : is_among rows t ≡ false
  new_row = subst (IsRowOf rows t) none (h.numbered at.0 l)

  numbered_now : (i : ℕ) → i < length old.classes.numbers.items
      → IsRowOf (rows ++ t ∷ []) (term_tree bank i) (get_or (set old.numbered.items m (Some (length old.rows.items))) (get_or old.classes.numbers.items i 0)
      None)
  numbered_now i li = elim (cases_eq (get_or old.classes.numbers.items i 0) m) [
    | inl e ↦
        let tree : t ≡ term_tree bank i = sym (equal_term bank h.classes.signs old.classes.numbers.items h.classes.numbers i at.0 li l e) in
        subst (IsRowOf (rows ++ t ∷ []) (term_tree bank i))
        (sym (ap (λ k. get_or (set old.numbered.items m (Some (length old.rows.items))) k None) e
        ∙ get_or-set_same old.numbered.items m (Some (length old.rows.items)) None (argument_numbered bank old rows h at.0 l).below)) (
          subst (λ u. is_among (rows ++ t ∷ []) u ≡ true) tree
              (among-append rows (t ∷ []) t ∙ (ap (λ b. b || (term_eq t t || false)) new_row ∙ ap (λ b. b || false) (term_eq-refl t))),
          subst (λ u. row_of (rows ++ t ∷ []) u ≡ length old.rows.items) tree
              (row_new rows t new_row ∙ (ap length (sym h.terms) ∙ length-map old.rows.items (λ (a : At). term_tree bank a.0))),
        )
    | inr ne ↦
        subst (IsRowOf (rows ++ t ∷ []) (term_tree bank i)) (sym
        (get_or-set_other old.numbered.items m (get_or old.classes.numbers.items i 0) (Some (length old.rows.items)) None ne))
        (by i (λ e. ne (equal_number bank h.classes.signs old.classes.numbers.items h.classes.numbers i at.0 li l e)) (row_at old i) (h.numbered i li))
  ]
    where
      other : (u : Term) → (u ≡ t → ⊥) → (b : Bool) → term_eq u t ≡ b → (b || false) ≡ false
      other u ne true e = absurd (ne (term_eq-true u t e))
      other u ne false e = refl

      by : (i : ℕ) → (term_tree bank i ≡ t → ⊥) → (o : Option ℕ) → IsRowOf rows (term_tree bank i) o → IsRowOf (rows ++ t ∷ []) (term_tree bank i) o
      by i ne None f = among-append rows (t ∷ []) (term_tree bank i)
          ∙ (ap (λ b. b || (term_eq (term_tree bank i) t || false)) f ∙ other (term_tree bank i) ne (term_eq (term_tree bank i) t) refl)
      by i ne (Some k) f = (
        among-append rows (t ∷ []) (term_tree bank i) ∙ ap (λ b. b || (term_eq (term_tree bank i) t || false)) f.0,
        row_kept rows t (term_tree bank i) f.0 ∙ f.1,
      )

  pub row_added : IsTableOf bank now (rows ++ t ∷ [])
  row_added = record {
    classes = subst (AreClasses bank) (sym same) h.classes;
    enough = ap length wrote ∙ (length-set old.numbered.items m (Some (length old.rows.items)) ∙ (h.enough ∙ ap (λ (c : Classes). c.count) (sym same)));
    inside = subst (λ ps. All (λ (a : At). a.0 < length now.classes.numbers.items) ps) (sym more)
        (subst (λ (c : Classes). All (λ (a : At). a.0 < length c.numbers.items) (old.rows.items ++ at ∷ [])) (sym same)
        (All-push (λ (a : At). a.0 < length old.classes.numbers.items) old.rows.items at h.inside l));
    terms = ap (term_trees bank) more ∙ (map-append (λ (a : At). term_tree bank a.0) old.rows.items (at ∷ []) ∙ ap (λ ts. ts ++ t ∷ []) h.terms);
    numbered = λ i li.
        let k : i < length old.classes.numbers.items = subst (λ (c : Classes). i < length c.numbers.items) same li in
        subst (λ (c : Classes). IsRowOf (rows ++ t ∷ []) (term_tree bank i) (get_or now.numbered.items (get_or c.numbers.items i 0) None)) (sym same)
        (subst (λ ns. IsRowOf (rows ++ t ∷ []) (term_tree bank i) (get_or ns (get_or old.classes.numbers.items i 0) None)) (sym wrote) (numbered_now i k));
  }

-- the places with numbers are the same
numbered_kept : (old now : Table) → now.classes ≡ old.classes → length now.numbered.items ≡ length old.numbered.items → (at : ℕ) → HasNumberAt old at
    → HasNumberAt now at
numbered_kept old now same more at h = record {
  inside = subst (λ (c : Classes). at < length c.numbers.items) (sym same) h.inside;
  below = subst (λ (c : Classes). get_or c.numbers.items at 0 < length now.numbered.items) (sym same) (let b = h.below in omega arith);
}

-- ---- a task more

module _ (bank : Nodes) (fields : List Term) (old : Table) (tasks : List Task) (x : Task)
    (b : IsBuilding bank (flat_map completed fields) old (tasks ++ x ∷ [])) where
  abbrev pub whole : List Term
  whole = flat_map completed fields

  kept : All (λ y. HasNumberAt old (task_at y)) tasks
  kept = (All-pop (λ y. HasNumberAt old (task_at y)) (tasks ++ x ∷ []) tasks (Some x) refl b.inside).0

  pub last_numbered : HasNumberAt old (task_at x)
  last_numbered = (All-pop (λ y. HasNumberAt old (task_at y)) (tasks ++ x ∷ []) tasks (Some x) refl b.inside).1

  pub last_inside : task_at x < length bank.terms
  last_inside = let a = last_numbered.inside in let w = b.table.classes.numbers.inside in omega arith

  left_is : b.done ++ (task_terms bank x ++ todo bank tasks) ≡ whole
  left_is = ap (λ ts. b.done ++ ts) (sym (todo-append bank tasks (x ∷ []))) ∙ b.is

  -- terms that are there are done
  skipped : AreAmong b.done (task_terms bank x) → IsBuilding bank whole old tasks
  skipped h = record {
    done = b.done ++ task_terms bank x;
    is = append_assoc b.done (task_terms bank x) (todo bank tasks) ∙ left_is;
    table = subst (IsTableOf bank old)
        (sym (rows_in-append b.done (task_terms bank x) ∙ rows_stay (rows_in b.done) (task_terms bank x)
        (All-weaker (λ u. is_among b.done u ≡ true) (λ u. is_among (rows_in b.done) u ≡ true) (λ u k. rows_in-among b.done u ∙ k) (task_terms bank x) h)))
        b.table;
    inside = kept;
  }

  -- a term whose row is there
  row_known : (at : ℕ) (k : ℕ) → at < length old.classes.numbers.items → row_at old at ≡ Some k → is_among b.done (term_tree bank at) ≡ true
  row_known at k l e = sym (rows_in-among b.done (term_tree bank at)) ∙ (subst (IsRowOf (rows_in b.done) (term_tree bank at)) e (b.table.numbered at l)).0

  weighs : tasks_weight bank (tasks ++ x ∷ []) ≡ tasks_weight bank tasks + (task_weight bank x + 0)
  weighs = weight-append bank tasks (x ∷ [])

-- a task was done
pub record GoesOn (bank : Nodes) (fields : List Term) (old : Table) (tasks : List Task) (now : Table) (rest : List Task) : Type 0 where
  pub building : IsBuilding bank (flat_map completed fields) now rest
  pub lighter : tasks_weight bank rest < tasks_weight bank tasks
  pub same : now.classes ≡ old.classes

pub taken_on : (bank : Nodes) (fields : List Term) (old : Table) (tasks : List Task) (x : Task) (now : Table) (rest : List Task)
    → IsBuilding bank (flat_map completed fields) old (tasks ++ x ∷ [])
    → Taken bank old tasks x now rest → GoesOn bank fields old (tasks ++ x ∷ []) now rest
taken_on bank fields old tasks (task.Enter at) now rest b h = by h.0
  where
    t : Term
    t = term_tree bank at.0

    x : Task
    x = task.Enter at

    lighter : rest ≡ tasks → tasks_weight bank rest < tasks_weight bank (tasks ++ x ∷ [])
    lighter e = let w = weighs bank fields old tasks x b in let p = term_size-positive t in let s = ap (tasks_weight bank) e in
        let v : task_weight bank x ≡ 2 * term_size t = refl in omega arith

    skip : AreAmong b.done (completed t) → rest ≡ tasks → GoesOn bank fields old (tasks ++ x ∷ []) now rest
    skip a e = record {
      building = subst (λ n. IsBuilding bank (flat_map completed fields) n rest) (sym h.1)
          (subst (IsBuilding bank (flat_map completed fields) old) (sym e) (skipped bank fields old tasks x b a));
      lighter = lighter e;
      same = ap (λ (n : Table). n.classes) h.1;
    }

    by : Entered bank old tasks at rest → GoesOn bank fields old (tasks ++ x ∷ []) now rest
    by (bare n e) = skip (subst (AreAmong b.done) (sym (completed_bare t n)) (All-nil (λ u. is_among b.done u ≡ true))) e
    by (known k r e) =
        skip (known_done fields b.done (todo bank (tasks ++ x ∷ [])) t b.is
        (row_known bank fields old tasks x b at.0 k (last_numbered bank fields old tasks x b).inside r)) e
    by (inside k args tree has lower e) = record {
      building = subst (λ n. IsBuilding bank (flat_map completed fields) n rest) (sym h.1)
          (subst (IsBuilding bank (flat_map completed fields) old) (sym e) (record {
            done = b.done;
            is = ap (λ ts. b.done ++ ts)
                (todo-append bank (tasks ++ task.Leave at ∷ []) (entries args)
                ∙ (ap (λ ts. ts ++ todo bank (tasks ++ task.Leave at ∷ [])) (todo-entries bank args)
                ∙ (ap (λ ts. flat_map completed (term_trees bank args) ++ ts) (todo-append bank tasks (task.Leave at ∷ []))
                ∙ (sym (append_assoc (flat_map completed (term_trees bank args)) (t ∷ []) (todo bank tasks))
                ∙ ap (λ ts. ts ++ todo bank tasks) (ap (λ us. us ++ t ∷ []) (sym (ap completed_arguments tree ∙ arguments_app k (term_trees bank args)))
                ∙ sym (completed_is t has))))))
                ∙ left_is bank fields old tasks x b;
            table = b.table;
            inside = All-append (λ y. HasNumberAt old (task_at y)) (tasks ++ task.Leave at ∷ []) (entries args)
                (All-push (λ y. HasNumberAt old (task_at y)) tasks (task.Leave at) (kept bank fields old tasks x b) (last_numbered bank fields old tasks x b))
                (entries_numbered old args (All-weaker (λ (a : At). a.0 < at.0) (λ (a : At). HasNumberAt old a.0)
                (λ a l. argument_numbered bank old (rows_in b.done) b.table a.0 (let p = (last_numbered bank fields old tasks x b).inside in omega arith)) args
                lower));
          }));
      lighter = let w = weighs bank fields old tasks x b in let s = ap (tasks_weight bank) e in
          let u = weight-append bank (tasks ++ task.Leave at ∷ []) (entries args) in
          let y = weight-append bank tasks (task.Leave at ∷ []) in let z = weight-entries bank (Con k) args in let q : 2 * term_size (Con k) ≡ 2 = refl in
          let v : task_weight bank x ≡ 2 * term_size (app k (term_trees bank args)) = ap (λ r. 2 * term_size r) tree in
          let o : tasks_weight bank (task.Leave at ∷ []) ≡ 1 = refl in omega arith;
      same = ap (λ (n : Table). n.classes) h.1;
    }
taken_on bank fields old tasks (task.Leave at) now rest b h = by h.0
  where
    t : Term
    t = term_tree bank at.0

    x : Task
    x = task.Leave at

    lighter : tasks_weight bank rest < tasks_weight bank (tasks ++ x ∷ [])
    lighter = let w = weighs bank fields old tasks x b in let s = ap (tasks_weight bank) h.1 in let v : task_weight bank x ≡ 1 = refl in omega arith

    by : Left old at now → GoesOn bank fields old (tasks ++ x ∷ []) now rest
    by (left_known k r e) = record {
      building = subst (λ n. IsBuilding bank (flat_map completed fields) n rest) (sym e) (subst (IsBuilding bank (flat_map completed fields) old) (sym h.1)
          (skipped bank fields old tasks x b
          (All-cons (λ u. is_among b.done u ≡ true) t [] (row_known bank fields old tasks x b at.0 k (last_numbered bank fields old tasks x b).inside r)
          (All-nil (λ u. is_among b.done u ≡ true)))));
      lighter = lighter;
      same = ap (λ (n : Table). n.classes) e;
    }
    by (added r same more wrote) = record {
      building = subst (IsBuilding bank (flat_map completed fields) now) (sym h.1) (record {
        done = b.done ++ t ∷ [];
        is = append_assoc b.done (t ∷ []) (todo bank tasks) ∙ left_is bank fields old tasks x b;
        table = subst (IsTableOf bank now)
            (sym (rows_in-append b.done (t ∷ [])
            ∙ ap (λ v. if v then rows_in b.done else rows_in b.done ++ t ∷ [])
            (subst (IsRowOf (rows_in b.done) t) r (b.table.numbered at.0 (last_numbered bank fields old tasks x b).inside))))
            (row_added bank old now (rows_in b.done) b.table at (last_numbered bank fields old tasks x b).inside r same more wrote);
        inside = All-weaker (λ y. HasNumberAt old (task_at y)) (λ y. HasNumberAt now (task_at y))
            (λ y n. numbered_kept old now same (ap length wrote
            ∙ length-set old.numbered.items (get_or old.classes.numbers.items at.0 0) (Some (length old.rows.items))) (task_at y) n) tasks
            (kept bank fields old tasks x b);
      });
      lighter = lighter;
      same = same;
    }

-- all tasks are done
pub table_done : (bank : Nodes) (fields : List Term) (t : Table) (tasks : List Task) → IsBuilding bank (flat_map completed fields) t tasks → tasks ≡ []
    → IsTableOf bank t (rows_in (flat_map completed fields))
table_done bank fields t tasks b e =
    subst (λ ts. IsTableOf bank t (rows_in ts)) (sym (append-nil b.done) ∙ (ap (λ xs. b.done ++ todo bank xs) (sym e) ∙ b.is)) b.table

-- an option that is there, or not
pub is_there : (o r : Option ℕ) (b : Bool) → r ≡ o → b ≡ is_some r → b ≡ true → (k : ℕ) × (o ≡ Some k)
is_there None r b e f g = absurd (true≢false (sym g ∙ (f ∙ ap is_some e)))
is_there (Some k) r b e f g = (k, refl)

pub is_absent : (o r : Option ℕ) (b : Bool) → r ≡ o → b ≡ is_some r → b ≡ false → o ≡ None
is_absent None r b e f g = refl
is_absent (Some k) r b e f g = absurd (true≢false (sym (f ∙ ap is_some e) ∙ g))
