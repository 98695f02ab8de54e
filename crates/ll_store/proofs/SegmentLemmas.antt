-- What leads from one state of a store to a later one.
use Rattle.std.proofs.Common.{◌≡◌, ℕ, zero, suc, ◌≤◌, ◌<◌, ◌+◌, List, [], ◌∷◌, ◌++◌, length, take, drop, map, refl, ap, sym, subst, ◌∙◌, arith, Bool, true}
use Rattle.std.proofs.Common.{false, append_assoc, length-append}
use Rattle.std.specs.Prelude.{nat_lt, None, slice_index_or}
use Rattle.std.proofs.lemmas.Bool.{ltb-true, ltb-false, lt-ltb, le-ltb}
use Rattle.std.proofs.lemmas.List.{length-map, map-append, take-map, drop-map, take_more, drop-append-le, take-append-le, take-append-drop, take-take}
use Rattle.std.proofs.lemmas.List.{length-take, length-take-le, take_all, drop_all}
use Rattle.ll_bank.specs.declared.BankSize.{BankSize}
use Rattle.ll_bank.specs.Nodes.{Nodes, front, HasSize, IsNotPast, Extends}
use Rattle.ll_bank.specs.Tail.{Tail, IsTailOf, with_nodes}
use Rattle.ll_store.specs.declared.cells.Cell.{Cell}
use Rattle.ll_store.specs.declared.cells.Change.{Change}
use Rattle.ll_store.specs.declared.cells.Change.TheVariants.{Bound, Lowered}
use Rattle.ll_store.specs.declared.store.Mark.{Mark}
use Rattle.ll_store.specs.declared.packed.Slot.{Slot}
use Rattle.ll_store.specs.declared.packed.Entry.{Entry}
use Rattle.ll_store.specs.declared.segment.Renewal.{Renewal}
use Rattle.ll_store.specs.Packed.{cell_of, change_of}
use Rattle.ll_store.specs.Cells.{update, with_to, with_level, taken_back, before}
use Rattle.ll_store.specs.Tables.{before-append}
use Rattle.ll_store.specs.Trails.{Trailed}
use Rattle.ll_store.specs.Stored.{Stored, state_of, state_at, IsGood, IsBefore, KeepsMarks}
use Rattle.ll_store.specs.Segments.{Renewed, renewed_of, changed_in, renewal, kept_if, renewals, renew, CellSight, cells_after, changes_in, BeginsCells}
use Rattle.ll_store.specs.Segments.{LeadsCells, Continues, SegmentSight, Begins, Leads}
use Rattle.ll_store.proofs.CellLemmas.{update-past, update-length, before-length, before-take}
use Rattle.ll_store.proofs.MarkLemmas.{stands, same_state, marks-extend}

-- ---- one more change, and one more renewal

drop_take_more : {A : Type 0} (xs : List A) (from i : ℕ) (d : A) → from ≤ i → i < length xs
    → drop from (take (i + 1) xs) ≡ drop from (take i xs) ++ slice_index_or xs i d ∷ []
drop_take_more xs from i d f l =
    ap (drop from) (take_more xs i d l) ∙ drop-append-le from (take i xs) (slice_index_or xs i d ∷ []) (let k =
    length-take-le i xs (let h : i ≤ length xs = omega arith in h) in omega arith)

kept_if-append : {A : Type 0} (b : Bool) (x : A) (xs ys : List A) → kept_if b x xs ++ ys ≡ kept_if b x (xs ++ ys)
kept_if-append true x xs ys = refl
kept_if-append false x xs ys = refl

pub renewals-more : (n : ℕ) (cells : List Cell) (cs : List Change) (c : Change)
    → renewals n cells (cs ++ c ∷ []) ≡ renewals n cells cs ++ kept_if (nat_lt (changed_in c) n) (renewal cells c) []
renewals-more n cells [] c = refl
renewals-more n cells (d ∷ cs) c =
    ap (kept_if (nat_lt (changed_in d) n) (renewal cells d)) (renewals-more n cells cs c)
    ∙ sym (kept_if-append (nat_lt (changed_in d) n) (renewal cells d) (renewals n cells cs) (kept_if (nat_lt (changed_in c) n) (renewal cells c) []))

pub renew-more : (rs : List Renewed) (r : Renewed) (cells : List Cell)
    → renew (rs ++ r ∷ []) cells ≡ update (changed_in r.change) (λ c. r.cell) (renew rs cells)
renew-more [] r cells = refl
renew-more (s ∷ rs) r cells = renew-more rs r (update (changed_in s.change) (λ c. s.cell) cells)

-- a loop's next change, of a range of them
pub renewals-step : (entries : List Entry) (from i : ℕ) (d : Entry) (n : ℕ) (now : List Cell) (made next : List Renewed) → from ≤ i → i < length entries
    → made ≡ renewals n now (map change_of (drop from (take i entries)))
    → next ≡ made ++ kept_if (nat_lt (changed_in (change_of (slice_index_or entries i d))) n) (renewal now (change_of (slice_index_or entries i d))) []
    → next ≡ renewals n now (map change_of (drop from (take (i + 1) entries)))
renewals-step entries from i d n now made next f l h e =
    let x = slice_index_or entries i d in
    e ∙ (ap (λ rs. rs ++ kept_if (nat_lt (changed_in (change_of x)) n) (renewal now (change_of x)) []) h
    ∙ (sym (renewals-more n now (map change_of (drop from (take i entries))) (change_of x))
    ∙ (ap (renewals n now) (sym (map-append change_of (drop from (take i entries)) (x ∷ [])))
    ∙ ap (λ es. renewals n now (map change_of es)) (sym (drop_take_more entries from i d f l)))))

-- and of renewals
pub renew-step : (rs : List Renewal) (i : ℕ) (d : Renewal) (cells now next : List Cell) (var : ℕ) → i < length rs
    → now ≡ renew (map renewed_of (take i rs)) cells
    → var ≡ changed_in (change_of (slice_index_or rs i d).entry) → next ≡ update var (λ c. cell_of (slice_index_or rs i d).slot) now
    → next ≡ renew (map renewed_of (take (i + 1) rs)) cells
renew-step rs i d cells now next var l h v e =
    let r = slice_index_or rs i d in
    e ∙ ((λ j. update (v j) (λ c. cell_of r.slot) (h j))
    ∙ (sym (renew-more (map renewed_of (take i rs)) (renewed_of r) cells)
    ∙ (ap (λ xs. renew xs cells) (sym (map-append renewed_of (take i rs) (r ∷ [])))
    ∙ ap (λ xs. renew (map renewed_of xs) cells) (sym (take_more rs i d l)))))

pub trail-step : (rs : List Renewal) (i : ℕ) (d : Renewal) (old : List Change) (now next : List Entry) → i < length rs
    → map change_of now ≡ old ++ map (λ (r : Renewed). r.change) (map renewed_of (take i rs))
    → next ≡ now ++ (slice_index_or rs i d).entry ∷ [] → map change_of next ≡ old ++ map (λ (r : Renewed). r.change) (map renewed_of (take (i + 1) rs))
trail-step rs i d old now next l h e =
    let x = slice_index_or rs i d in let f = λ (r : Renewed). r.change in
    ap (map change_of) e
    ∙ (map-append change_of now (x.entry ∷ [])
    ∙ (ap (λ cs. cs ++ change_of x.entry ∷ []) h
    ∙ (append_assoc old (map f (map renewed_of (take i rs))) (change_of x.entry ∷ [])
    ∙ ap (λ cs. old ++ cs) (sym (map-append f (map renewed_of (take i rs)) (renewed_of x ∷ []))
    ∙ (ap (map f) (sym (map-append renewed_of (take i rs) (x ∷ []))) ∙ ap (λ xs. map f (map renewed_of xs)) (sym (take_more rs i d l)))))))

-- a change that is noted, and one that is not
pub noted-in : (n : ℕ) (cells : List Slot) (e : Entry) (d : Slot) (var : ℕ) → var ≡ changed_in (change_of e) → var < n → n ≤ length cells
    → record { change = change_of e; cell = cell_of (slice_index_or cells var d) } ∷ []
    ≡ kept_if (nat_lt (changed_in (change_of e)) n) (renewal (map cell_of cells) (change_of e)) []
noted-in n cells e d var v l m =
    ap (λ c. let r : Renewed = record { change = change_of e; cell = c } in
    r ∷ []) (got cells var d _ (omega (arith, l, m)) ∙ ap (λ k. slice_index_or (map cell_of cells) k (record { to = None; level = 0 })) v)
    ∙ ap (λ b. kept_if b (renewal (map cell_of cells) (change_of e)) []) (sym (ap (λ k. nat_lt k n) (sym v) ∙ lt-ltb var n l))
  where
    got : (xs : List Slot) (k : ℕ) (d : Slot) (o : Cell) → k < length xs → cell_of (slice_index_or xs k d) ≡ slice_index_or (map cell_of xs) k o
    got [] k d o l = absurd (omega arith)
    got (x ∷ xs) zero d o l = refl
    got (x ∷ xs) (suc k) d o l = got xs k d o (omega arith)

pub noted-out : (n : ℕ) (r : Renewed) (k var : ℕ) → var ≡ k → n ≤ var → kept_if (nat_lt k n) r [] ≡ []
noted-out n r k var v l = ap (λ b. kept_if b r []) (ap (λ j. nat_lt j n) (sym v) ∙ le-ltb var n l)

-- ---- cells that are set

module _ {A : Type 0} where
  -- one is set twice
  update-again : (n : ℕ) (f : A → A) (x : A) (xs : List A) → update n (λ y. x) (update n f xs) ≡ update n (λ y. x) xs
  update-again n f x [] = refl
  update-again zero f x (y ∷ ys) = refl
  update-again (suc n) f x (y ∷ ys) = ap (λ zs. y ∷ zs) (update-again n f x ys)

  -- two are set in either order
  update-swap : (n m : ℕ) (x y : A) (xs : List A) → (n ≡ m → x ≡ y) → update n (λ z. x) (update m (λ z. y) xs) ≡ update m (λ z. y) (update n (λ z. x) xs)
  update-swap n m x y [] h = refl
  update-swap zero zero x y (z ∷ zs) h = ap (λ w. w ∷ zs) (h refl)
  update-swap zero (suc m) x y (z ∷ zs) h = refl
  update-swap (suc n) zero x y (z ∷ zs) h = refl
  update-swap (suc n) (suc m) x y (z ∷ zs) h = ap (λ ws. z ∷ ws) (update-swap n m x y zs (λ e. h (ap suc e)))

  -- one is set to what it is
  update-own : (n k : ℕ) (d : A) (xs : List A) → n < k → update n (λ z. slice_index_or xs n d) (take k xs) ≡ take k xs
  update-own n zero d xs l = absurd (omega arith)
  update-own n (suc k) d [] l = refl
  update-own zero (suc k) d (x ∷ xs) l = refl
  update-own (suc n) (suc k) d (x ∷ xs) l = ap (λ ys. x ∷ ys) (update-own n k d xs (omega arith))

  -- the first are set alike
  update-first : (k n : ℕ) (f : A → A) (xs : List A) → take k (update n f xs) ≡ update n f (take k xs)
  update-first zero n f [] = refl
  update-first zero zero f (x ∷ xs) = refl
  update-first zero (suc n) f (x ∷ xs) = refl
  update-first (suc k) n f [] = refl
  update-first (suc k) zero f (x ∷ xs) = refl
  update-first (suc k) (suc n) f (x ∷ xs) = ap (λ ys. x ∷ ys) (update-first k n f xs)

-- what a change takes back is one cell
as-update : (c : Change) → (f : Cell → Cell) × ((cells : List Cell) → taken_back c cells ≡ update (changed_in c) f cells)
as-update (Bound x) = (with_to None, λ cells. refl)
as-update (Lowered x l) = (with_level l, λ cells. refl)

back-past : (c : Change) (cells : List Cell) → length cells ≤ changed_in c → taken_back c cells ≡ cells
back-past c cells l = let u = as-update c in u.1 cells ∙ update-past cells (changed_in c) u.0 l

not_below : (n k : ℕ) → nat_lt n k ≡ false → k ≤ n
not_below n k e = ltb-false n k e

below : (n k : ℕ) → nat_lt n k ≡ true → n < k
below n k e = ltb-true n k e

-- ---- changes of cells that are not there

pruned-by : (b : Bool) (k : ℕ) (c : Change) (own : Renewed) (rest : List Renewed) (ys zs : List Cell) → nat_lt (changed_in c) k ≡ b → own.change ≡ c
    → length ys ≤ k → length zs ≤ k
    → before (map (λ (r : Renewed). r.change) rest) ys ≡ zs → before (map (λ (r : Renewed). r.change) (kept_if b own rest)) ys ≡ taken_back c zs
pruned-by true k c own rest ys zs e o l m h = ap (λ (d : Change). taken_back d (before (map (λ (r : Renewed). r.change) rest) ys)) o ∙ ap (taken_back c) h
pruned-by false k c own rest ys zs e o l m h = h ∙ sym (back-past c zs (let q = not_below (changed_in c) k e in omega (arith, q, m)))

pruned : (k : ℕ) (now : List Cell) (cs : List Change) (ys : List Cell) → length ys ≤ k
    → before (map (λ (r : Renewed). r.change) (renewals k now cs)) ys ≡ before cs ys
pruned k now [] ys l = refl
pruned k now (c ∷ cs) ys l =
    pruned-by (nat_lt (changed_in c) k) k c (renewal now c) (renewals k now cs) ys (before cs ys) refl refl l (let e = before-length cs ys in
    omega (arith, e, l)) (pruned k now cs ys l)

-- ---- renewing leads to what the cells are in the end

swap-by : (b : Bool) (now : List Cell) (c : Change) (rest : List Renewed) (x : ℕ) (ys : List Cell)
    → ((zs : List Cell) → renew rest (update x (λ d. (renewal now (Bound x)).cell) zs) ≡ update x (λ d. (renewal now (Bound x)).cell) (renew rest zs))
    → renew (kept_if b (renewal now c) rest) (update x (λ d. (renewal now (Bound x)).cell) ys)
    ≡ update x (λ d. (renewal now (Bound x)).cell) (renew (kept_if b (renewal now c) rest) ys)
swap-by true now c rest x ys h =
    ap (renew rest) (sym (update-swap x (changed_in c) (renewal now (Bound x)).cell (renewal now c).cell ys (λ e. ap (λ n. (renewal now (Bound n)).cell) e)))
    ∙ h (update (changed_in c) (λ d. (renewal now c).cell) ys)
swap-by false now c rest x ys h = h ys

renew-swap : (k : ℕ) (now : List Cell) (cs : List Change) (x : ℕ) (ys : List Cell)
    → renew (renewals k now cs) (update x (λ d. (renewal now (Bound x)).cell) ys) ≡ update x (λ d. (renewal now (Bound x)).cell) (renew (renewals k now cs) ys)
renew-swap k now [] x ys = refl
renew-swap k now (c ∷ cs) x ys = swap-by (nat_lt (changed_in c) k) now c (renewals k now cs) x ys (λ zs. renew-swap k now cs x zs)

renew-by : (b : Bool) (k : ℕ) (now : List Cell) (c : Change) (cs : List Change) (zs : List Cell) → nat_lt (changed_in c) k ≡ b → length zs ≤ k
    → renew (renewals k now cs) zs ≡ take k now
    → renew (kept_if b (renewal now c) (renewals k now cs)) (taken_back c zs) ≡ take k now
renew-by true k now c cs zs e l h =
    let u = as-update c in let x = changed_in c in let t = (renewal now c).cell in
    ap (λ ys. renew (renewals k now cs) (update x (λ d. t) ys)) (u.1 zs)
    ∙ (ap (renew (renewals k now cs)) (update-again x u.0 t zs)
    ∙ (renew-swap k now cs x zs
    ∙ (ap (update x (λ d. t)) h ∙ update-own x k (record { to = None; level = 0 }) now (below x k e))))
renew-by false k now c cs zs e l h = ap (renew (renewals k now cs)) (back-past c zs (let q = not_below (changed_in c) k e in omega (arith, q, l))) ∙ h

short : {A : Type 0} (k : ℕ) (xs : List A) → length (take k xs) ≤ k
short zero xs = omega arith
short (suc k) [] = omega arith
short (suc k) (x ∷ xs) = let h = short k xs in omega (arith, h)

renew-back : (k : ℕ) (now : List Cell) (cs : List Change) → renew (renewals k now cs) (before cs (take k now)) ≡ take k now
renew-back k now [] = refl
renew-back k now (c ∷ cs) =
    renew-by (nat_lt (changed_in c) k) k now c cs (before cs (take k now)) refl (let e = before-length cs (take k now) in let l = short k now in
    omega (arith, e, l)) (renew-back k now cs)

-- ---- between two cuts of cells

-- what the renewals between two cuts, and the cells past the first, lead from and to
pub leads-cells : (k : ℕ) (now first : List Cell) (cs : List Change) (s : CellSight) → k ≤ length now → first ≡ take k (before cs now) → s.count ≡ k
    → s.renewed ≡ renewals k now cs → s.more ≡ drop k now
    → LeadsCells s first now
leads-cells k now first cs s l f e r m = record {
  begins = record {
    count = ap length f ∙ (length-take-le k (before cs now) (let q = before-length cs now in omega (arith, q, l)) ∙ sym e);
    back = (λ i. take (e i) (before (changes_in s) (ends i)))
        ∙ ((λ i. take k (before (map (λ (q : Renewed). q.change) (r i)) now))
        ∙ (before-take k (map (λ (q : Renewed). q.change) (renewals k now cs)) now
        ∙ (pruned k now cs (take k now) (short k now)
        ∙ (sym (before-take k cs now) ∙ sym f))));
  };
  ends = ends;
}
  where
    begin : first ≡ before cs (take k now)
    begin = f ∙ before-take k cs now

    ends : cells_after s first ≡ now
    ends =
        (λ i. renew (r i) (begin i) ++ m i)
        ∙ (ap (λ ys. ys ++ drop k now) (renew-back k now cs) ∙ take-append-drop k now)

-- the cells after a cut, by those after a later one
pub cut-cells : (from to few many : ℕ) (cells : List Cell) (changes : List Change) → few ≤ many → from ≤ to → to ≤ length changes
    → take few (before (drop from changes) cells) ≡ take few (before (drop from (take to changes)) (take many (before (drop to changes) cells)))
cut-cells from to few many cells changes l h b =
    ap (λ cs. take few (before cs cells)) split
    ∙ (ap (take few) (before-append E (drop to changes) cells)
    ∙ (before-take few E Y
    ∙ (ap (before E) (sym (take-take few many Y l)) ∙ sym (before-take few E (take many Y)))))
  where
    E : List Change
    E = drop from (take to changes)

    Y : List Cell
    Y = before (drop to changes) cells

    split : drop from changes ≡ E ++ drop to changes
    split = ap (drop from) (sym (take-append-drop to changes))
        ∙ drop-append-le from (take to changes) (drop to changes) (let k = length-take-le to changes b in omega (arith, k, h))

-- ---- stores

nodes-between : (n : Nodes) (tail : Tail) (from to : BankSize) → tail.from ≡ from → tail.to ≡ to → IsNotPast from to → IsTailOf n tail
    → with_nodes (front n from) tail.nodes ≡ front n to
nodes-between n tail from to e f p h =
    λ i. let m : Nodes = record {
      terms = between n.terms tail.nodes.terms from.terms to.terms p.terms
          (h.terms ∙ (λ j. drop (e j).terms (take (f j).terms n.terms))) i;
      forms =
          between n.forms tail.nodes.forms from.forms to.forms p.forms (h.forms ∙ (λ j. drop (e j).forms (take (f j).forms n.forms))) i;
    } in m
  where
    between : {A : Type 0} (xs more : List A) (a b : ℕ) → a ≤ b → more ≡ drop a (take b xs) → take a xs ++ more ≡ take b xs
    between xs more a b l q = ap (λ ys. ys ++ more) (sym (take-take a b xs l)) ∙ (ap (λ ys. take a (take b xs) ++ ys) q ∙ take-append-drop a (take b xs))

pub leads-states : (s : SegmentSight) (old : Stored) (from to : Mark) → IsGood from old → IsBefore from to
    → LeadsCells s.cells (state_at from old).cells (state_at to old).cells → IsTailOf old.nodes s.tail
    → s.tail.from ≡ from.bank → s.tail.to ≡ to.bank → Leads s (state_at from old) (state_at to old)
leads-states s old from to g b l t e f = record {
  begins = record { size = g.bank.counts ∙ sym e; cells = l.begins };
  ends = same_state _ _ _ _ (nodes-between old.nodes s.tail from.bank to.bank e f b.bank t) l.ends;
}

-- changes that lead back to the earlier cells, with cells behind them, keep each good mark
marks-back : (old new : Stored) (more : List Change) → new.nodes ≡ old.nodes → new.changes ≡ old.changes ++ more
    → take (length old.cells) (before more new.cells) ≡ old.cells → KeepsMarks old new
marks-back old new more n e b m g =
    stands old new m (let k = g.cells in omega (arith, k, longer)) (let k = g.trail in let q = ap length e ∙ length-append old.changes more in
    omega (arith, k, q))
    (subst (λ ns. HasSize ns m.bank) (sym n) g.bank)
    (same_state _ _ _ _ (ap (λ ns. front ns m.bank) n) past) g
  where
    longer : length old.cells ≤ length new.cells
    longer = let c = before-length more new.cells in let h = length-take (length old.cells) (before more new.cells) in let q = ap length b in
        omega (arith, c, h, q)

    E : List Change
    E = drop m.trail old.changes

    past : take m.cells (before (drop m.trail new.changes) new.cells) ≡ take m.cells (before E old.cells)
    past =
        ap (λ cs. take m.cells (before (drop m.trail cs) new.cells)) e
        ∙ (ap (λ cs. take m.cells (before cs new.cells)) (drop-append-le m.trail old.changes more g.trail)
        ∙ (ap (take m.cells) (before-append E more new.cells)
        ∙ (before-take m.cells E (before more new.cells)
        ∙ (ap (before E) (sym (take-take m.cells (length old.cells) (before more new.cells) g.cells) ∙ ap (take m.cells) b)
        ∙ sym (before-take m.cells E old.cells)))))

-- each good mark stays good where a store goes on by a segment
pub marks-segment : (s : SegmentSight) (old new : Stored) → Begins s (state_of old) → Extends old.nodes new.nodes
    → Continues s.cells (record { cells = old.cells; changes = old.changes }) (record { cells = new.cells; changes = new.changes }) → KeepsMarks old new
marks-segment s old new b x c m g =
    let mid : Stored = record old { nodes = new.nodes } in
    let first = marks-extend old new.nodes x m g in
    let last = marks-back mid new (changes_in s.cells) refl c.changes
    ((λ i. take (b.cells.count i) (before (changes_in s.cells) (c.cells i))) ∙ b.cells.back) m first.good in
    record { good = last.good; state = last.state ∙ first.state }

-- what the cells are after a cut, by those that are kept, whatever they are kept as
pub now_cells : (slots kept now : List Slot) (entries taken : List Entry) (trailed : Trailed) (few some : ℕ) → kept ≡ take few slots → taken ≡ entries
    → map cell_of now ≡ before (drop some (map change_of taken)) (map cell_of kept)
    → record { cells = map cell_of slots; changes = map change_of entries } ≡ trailed
    → map cell_of now ≡ take few (before (drop some trailed.changes) trailed.cells)
now_cells slots kept now entries taken trailed few some k t b v =
    b
    ∙ ((λ i. before (drop some (map change_of (t i))) (map cell_of (k i)))
    ∙ (ap (before (drop some (map change_of entries))) (sym (take-map cell_of few slots))
    ∙ (sym (before-take few (drop some (map change_of entries)) (map cell_of slots))
    ∙ ap (λ (s : Trailed). take few (before (drop some s.changes) s.cells)) v)))

-- what leads from the cells after a cut to those after a later one
pub leads-cut : (trailed : Trailed) (slots now : List Slot) (entries : List Entry) (from to : ℕ × ℕ) (s : CellSight) → from.0 ≤ to.0
    → to.0 ≤ length trailed.cells → from.1 ≤ to.1 → to.1 ≤ length trailed.changes
    → map cell_of now ≡ take to.0 (before (drop to.1 trailed.changes) trailed.cells)
    → record { cells = map cell_of slots; changes = map change_of entries } ≡ trailed
    → s.count ≡ from.0 → s.renewed ≡ renewals from.0 (map cell_of now) (map change_of (drop from.1 (take to.1 entries)))
    → s.more ≡ drop from.0 (map cell_of now)
    → LeadsCells s (take from.0 (before (drop from.1 trailed.changes) trailed.cells)) (take to.0 (before (drop to.1 trailed.changes) trailed.cells))
leads-cut trailed slots now entries from to s l b f h n v c r m =
    subst (LeadsCells s (take from.0 (before (drop from.1 trailed.changes) trailed.cells))) n
    (leads-cells from.0 (map cell_of now) (take from.0 (before (drop from.1 trailed.changes) trailed.cells)) (drop from.1 (take to.1 trailed.changes)) s
    (let a = ap length n in let q = length-take-le to.0 (before (drop to.1 trailed.changes) trailed.cells) (let p =
    before-length (drop to.1 trailed.changes) trailed.cells in omega (arith, p, b)) in omega (arith, a, q, l))
    (cut-cells from.1 to.1 from.0 to.0 trailed.cells trailed.changes l f h
    ∙ ap (λ (cs : List Cell). take from.0 (before (drop from.1 (take to.1 trailed.changes)) cs)) (sym n)) c
    (r ∙ ap (renewals from.0 (map cell_of now)) (sym (drop-map change_of from.1 (take to.1 entries))
    ∙ ap (drop from.1) (sym (take-map change_of to.1 entries) ∙ ap (λ (t : Trailed). take to.1 t.changes) v))) m)

-- the cells that are behind a cut are not fewer than those behind an earlier one
pub many : (cells : List Cell) (changes : List Change) (from to : ℕ) (now xs : List Slot) → from ≤ to → to ≤ length cells
    → map cell_of now ≡ take to (before changes cells) → xs ≡ now → from ≤ length xs
many cells changes from to now xs l b e s =
    let a = ap length e in let m = length-map now cell_of in let p = before-length changes cells in
    let q = length-take-le to (before changes cells) (omega (arith, p, b)) in let r = ap length s in omega (arith, a, m, q, r, l)

-- cells that were renewed, with more cells behind them
pub continues : (slots mid last more ys : List Slot) (entries noted : List Entry) (rs xs : List Renewal) (count : ℕ) (s : CellSight) (t : Trailed) → xs ≡ rs
    → ys ≡ more
    → map cell_of mid ≡ renew (map renewed_of xs) (map cell_of slots) → last ≡ mid ++ ys
    → map change_of noted ≡ map change_of entries ++ map (λ (r : Renewed). r.change) (map renewed_of xs)
    → record { count = count; renewed = map renewed_of rs; more = map cell_of more } ≡ s
    → record { cells = map cell_of slots; changes = map change_of entries } ≡ t
    → Continues s t (record { cells = map cell_of last; changes = map change_of noted })
continues slots mid last more ys entries noted rs xs count s t x y m l n v w = record {
  cells = ap (map cell_of) l
      ∙ (map-append cell_of mid ys
      ∙ ((λ i. (m ∙ ap (λ zs. renew (map renewed_of zs) (map cell_of slots)) x) i ++ map cell_of (y i)) ∙ (λ i. cells_after (v i) (w i).cells)));
  changes = n ∙ (ap (λ zs. map change_of entries ++ map (λ (r : Renewed). r.change) (map renewed_of zs)) x ∙ (λ i. (w i).changes ++ changes_in (v i)));
}

renew-length : (rs : List Renewed) (cells : List Cell) → length (renew rs cells) ≡ length cells
renew-length [] cells = refl
renew-length (r ∷ rs) cells =
    renew-length rs (update (changed_in r.change) (λ c. r.cell) cells) ∙ update-length cells (changed_in r.change) (λ c. r.cell)

-- where the cells behind are not added, taking the noted changes back gives the cells and changes from before
pub given-back : (s : CellSight) (old now new : Trailed) (count changes : ℕ) → BeginsCells s old.cells → count ≡ s.count → changes ≡ length old.changes
    → now.cells ≡ renew s.renewed old.cells → now.changes ≡ old.changes ++ changes_in s
    → new.cells ≡ take count (before (drop changes now.changes) now.cells) → new.changes ≡ take changes now.changes → new ≡ old
given-back s old now new count changes b k n c d e f =
    let cs = changes_in s in let fits : length old.changes ≤ length old.changes = omega arith in
    let behind : drop changes now.changes ≡ cs =
    (λ i. drop (n i) (d i)) ∙ (drop-append-le (length old.changes) old.changes cs fits
    ∙ ap (λ xs. xs ++ cs) (drop_all (length old.changes) old.changes fits)) in
    let front : take changes now.changes ≡ old.changes =
    (λ i. take (n i) (d i)) ∙ (take-append-le (length old.changes) old.changes cs fits ∙ take_all (length old.changes) old.changes fits) in
    let renewed = renew s.renewed old.cells in
    let few : s.count ≤ length renewed = let l = renew-length s.renewed old.cells in let m = b.count in omega (arith, l, m) in
    let cells : take count (before (drop changes now.changes) now.cells) ≡ old.cells =
    (λ i. take (k i) (before (behind i) (c i)))
    ∙ (before-take s.count cs renewed
    ∙ (ap (before cs) (sym (take-append-le s.count renewed s.more few))
    ∙ (sym (before-take s.count cs (renewed ++ s.more)) ∙ b.back))) in
    let x = e ∙ cells in let y = f ∙ front in
    λ i. record { cells = x i; changes = y i }
