-- Settling a machine, one end after the other.
use Rattle.std.proofs.Common.{drop, ◌-◌}
use Rattle.std.proofs.Common.{◌≡◌, ℕ, suc, ◌<◌, refl, ap, sym, ◌∙◌, subst, Bool, true, false, ◌&&◌, List, [], ◌∷◌, map, length, arith, All}
use Rattle.std.proofs.lemmas.List.Elements.{All-cons, All-head, All-tail, All-weaker}
use Rattle.std.proofs.lemmas.List.{length-map}
use Rattle.ll_laws.proofs.CallerLemmas.{front-map, settles_consistent, alike-remark, alike-ends}
use Rattle.std.specs.Prelude.{Option, Some, None, option_map, not, ◌||◌, if◌then◌else◌}
use Rattle.ll_list_laws.proofs.CallerLemmas.{false_from_not as not_true, and_true_left as and_left, and_true_right as and_right}
use Rattle.ll_bank.specs.declared.At.{At}
use Rattle.ll_bank.specs.declared.FormAt.{FormAt}
use Rattle.ll_bank.specs.declared.environment.Environment.{Environment}
use Rattle.ll_bank.specs.Nodes.{Nodes, HasForm, form_tree}
use Rattle.ll_bank.specs.Form.{Form}
use Rattle.ll_laws.specs.Settle.{Saved, Entry, Item as ItemOf, Goal as GoalOf, LolliEnd as EndOfLolli, ImpEnd as EndOfImp, WithMiddle as Middle}
use Rattle.ll_laws.specs.Settle.{WithEnd as EndOfWith, BangEnd as EndOfBang, Front, settle_front, map_item, map_entry, map_front, remark, join, marks, end_with}
use Rattle.ll_laws.specs.State.{State, settle, front_of, with_front}
use Rattle.ll_laws.specs.Attempt.{is_linear}
use Rattle.ll_laws.specs.Valid.{IsFormula, ClauseSide}
use Rattle.ll_laws.specs.Consistent.{ends_fit, marks_fit, may_live, is_of_kind, newest_is, begins_second_side}
use Rattle.ll_freeze.specs.Keyed.{AreKeyed}
use Rattle.ll_freeze.proofs.CallerLemmas.{clauses_of, keyed-alike, keyed-tail, keyed-stay, clauses-remark}
use Rattle.ll_freeze.proofs.CallerLemmas.{settle_rests, state_by, state_is, fits_kept, same_allowed, clauses_moved, goals_moved, one_more, more_kept}
use Rattle.ll_resources.specs.History.{History, Settles}
use Rattle.ll_resources.specs.Resources.{Resources, saved_at, saved_as, saved_now, End, settled, load_end, with_end, bang_end, after_with_mid, SettlesMiddle}
use Rattle.ll_resources.specs.Resources.{KeepsSaved, SavedFits, with_front as front_put}
use Rattle.ll_resources.specs.declared.context.Saved.{Saved as Handle}
use Rattle.ll_resources.specs.Ends.{is_end, as_end, settled_after}
use Rattle.ll_resources.proofs.CallerLemmas.{ends_settle, middles_settle}
use Rattle.ll_agenda.specs.Frames.{Frames, HasTop, items_at}
use Rattle.ll_agenda.specs.declared.agenda.Top.{Top}
use Rattle.ll_freeze.specs.Parts.{Parts}
use Rattle.ll_freeze.specs.declared.machine.Item.{Item}
use Rattle.ll_freeze.specs.declared.machine.Item.TheVariants.{Goal, LolliEnd, ImpEnd, Mid, WithEnd, BangEnd}
use Rattle.ll_freeze.specs.Reading.{read_form, read_goal, read_term}
use Rattle.ll_freeze.specs.Shown.{shown_item, shown_entry, items_of, state_of}
use Rattle.ll_freeze.specs.Fits.{Fits, HasItem, IsGoalIn, allowed, setting}
use Rattle.ll_engine.specs.Calls.{IsSettled, SameSearch}
use Rattle.ll_engine.specs.declared.settle.Worked.{Worked}
use Rattle.ll_engine.specs.declared.settle.Worked.TheVariants.{Settled, Failed}
use Rattle.ll_engine.specs.Going.{raw_item, front_raw, EndsFit, Reaches, Going, IsDone, Works}

-- a goal's place and environment, read under bindings
abbrev read_placed : Nodes → List (Option At) → FormAt × Environment → Form
read_placed bank bound g = read_goal bank bound g.1 g.0

shown_raw : (bank : Nodes) (bound : List (Option At)) (kept : List Saved) (i : Item)
    → shown_item bank bound kept i ≡ map_item (read_placed bank bound) (raw_item kept i)
shown_raw bank bound kept (Goal g e) = refl
shown_raw bank bound kept (LolliEnd b) = refl
shown_raw bank bound kept ImpEnd = refl
shown_raw bank bound kept (Mid s) = refl
shown_raw bank bound kept (WithEnd s h) = refl
shown_raw bank bound kept (BangEnd s) = refl

shown_raws : (bank : Nodes) (bound : List (Option At)) (kept : List Saved) (xs : List Item)
    → map (shown_item bank bound kept) xs ≡ map (map_item (read_placed bank bound)) (map (raw_item kept) xs)
shown_raws bank bound kept [] = refl
shown_raws bank bound kept (x ∷ xs) =
    ap (λ y. y ∷ map (shown_item bank bound kept) xs) (shown_raw bank bound kept x)
    ∙ ap (λ ys. map_item (read_placed bank bound) (raw_item kept x) ∷ ys) (shown_raws bank bound kept xs)

-- the state that a machine shows, with the front of another
abbrev over : Parts → Option (Front (FormAt × Environment) FormAt) → Option State
over m o = front_of (state_of m) (option_map (map_front (read_placed m.bank m.bound) (read_form m.bank m.bound)) o)

settle_is : (m : Parts) → settle (state_of m) ≡ over m (front_raw m.resources (items_of m))
unfolding settle state_of
settle_is m =
    let r = m.resources in let f = read_form m.bank m.bound in let g = read_placed m.bank m.bound in
    ap (λ o. front_of (state_of m) o)
    (ap (λ xs. settle_front xs (map (map_entry f) r.entries) r.flag) (shown_raws m.bank m.bound r.kept (items_of m))
    ∙ front-map g f (map (raw_item r.kept) (items_of m)) r.entries r.flag)

pub begins : (o : Parts) → Fits o → Going o o
unfolding state_of
begins o f =
    record {
      reached = record {
        same = record { problem = refl; modules = refl; bank = refl; bound = refl; levels = refl; terms = refl };
        eigens = refl;
        left = refl;
        steps = refl;
        next = refl;
        raw = refl;
        top = f.top;
        items = f.items;
        clauses = f.clauses;
        sorted_clauses = f.sorted_clauses;
        sorted_goals = f.sorted_goals;
        keyed = f.keyed;
      };
      ends = f.consistent.ends;
    }

pub fails : (o m : Parts) → Reaches o m → front_raw m.resources (items_of m) ≡ None → settle (state_of o) ≡ None
fails o m g e = settle_is o ∙ ap (λ x. over o x) (sym g.raw ∙ e)

pub done : (o m : Parts) → Reaches o m → Fits o
    → front_raw m.resources (items_of m) ≡ Some (record {
      agenda = map (raw_item m.resources.kept) (items_of m);
      context = m.resources.entries;
      flag =
          m.resources.flag;
    })
    → IsSettled o m
done o m g f e =
    let s = g.same in let r = m.resources in
    let t : state_of m ≡ state_by o.bank o.bound m.resources (items_of m) o.levels o.eigens o.terms o.steps =
    state_is m ∙ rw (s.bank, s.bound, s.levels, g.eigens, s.terms, g.steps) refl in
    let make : List (ItemOf Form) → ℕ → State = λ xs n. record {
      agenda = xs;
      context = map (shown_entry o.bank o.bound) r.entries;
      flag = r.flag;
      levels = o.levels;
      eigens = o.eigens;
      terms = map (read_term o.bank o.bound) o.terms;
      label = n;
      steps = o.steps;
    } in
    let u : over o (front_raw m.resources (items_of m)) ≡ Some (state_of m) =
    ap (λ x. over o x) e
    ∙
    (ap
    (λ (s : State).
    Some (with_front s (map_front (read_placed o.bank o.bound) (read_form o.bank o.bound)
    (record { agenda = map (raw_item r.kept) (items_of m); context = r.entries; flag = r.flag })))) (state_is o)
    ∙ (ap (λ xs. Some (make xs o.resources.next)) (sym (shown_raws o.bank o.bound r.kept (items_of m)))
    ∙ (ap (λ n. Some (make (map (shown_item o.bank o.bound r.kept) (items_of m)) n)) (sym g.next) ∙ ap (λ (s : State). Some s) (sym t)))) in
    let a : settle (state_of o) ≡ Some (state_of m) = settle_is o ∙ (ap (λ x. over o x) (sym g.raw) ∙ u) in
    let n = g.next in let l = g.left in let x = g.eigens in
    record {
      settles = a;
      fits = fits_kept o m s f (settles_consistent (setting o) (state_of o) (state_of m) f.consistent a)
          (settle_rests o.problem.clauses (state_of o) (state_of m) a f.rests) g.eigens g.clauses g.sorted_clauses g.top g.items g.sorted_goals
          (let b = f.labels in omega (arith, b, l, n)) (let b = f.eigens in omega (arith, b, l, x)) g.keyed;
    }

-- settling keeps what was kept, and the next label
pub settled_keeps : (i : End) (r h : Resources FormAt) → settled i r ≡ Some h → (h.kept ≡ r.kept) × (h.next ≡ r.next)
settled_keeps i r h e = go (settle_front (i ∷ []) r.entries r.flag) e
  where
    go : (o : Option (Front (Unit {0}) FormAt)) → option_map (front_put r) o ≡ Some h → (h.kept ≡ r.kept) × (h.next ≡ r.next)
    go None e = cc
    go (Some f) e = let x : front_put r f ≡ h = cc in (ap (λ z. z.kept) (sym x), ap (λ z. z.next) (sym x))

-- the entries that are left keep their keys
settled_keys : (i : End) (r h : Resources FormAt) → settled i r ≡ Some h → h.keys ≡ drop (length r.entries - length h.entries) r.keys
settled_keys i r h e = go (settle_front (i ∷ []) r.entries r.flag) e
  where
    go : (o : Option (Front (Unit {0}) FormAt)) → option_map (front_put r) o ≡ Some h → h.keys ≡ drop (length r.entries - length h.entries) r.keys
    go None e = cc
    go (Some f) e = let x : front_put r f ≡ h = cc in subst (λ z. z.keys ≡ drop (length r.entries - length z.entries) r.keys) x refl

-- one end worked off
pub off : (o m : Parts) (h : Resources FormAt) (i : Item) (rest : List Item) (top : _) → Going o m → items_of m ≡ i ∷ rest
    → is_end (raw_item m.resources.kept i) ≡ true
    → settled (as_end (raw_item m.resources.kept i)) m.resources ≡ Some h
    → items_of (record m { resources = h; top = top }) ≡ rest → HasTop m.agenda top
    → ((P : FormAt → Type 0) → All (λ (e : Entry FormAt). P e.clause) m.resources.entries → All (λ (e : Entry FormAt). P e.clause) h.entries)
    → ((bank : Nodes) (n : ℕ) → AreKeyed bank n m.resources → AreKeyed bank n h)
    → ends_fit (map (shown_item o.bank o.bound m.resources.kept) rest) (map (shown_entry o.bank o.bound) h.entries) ≡ true
    → Going o (record m { resources = h; top = top })
off o m h i rest top g e1 e2 e3 e4 t c q w =
    let r = m.resources in let y = g.reached in
    let k = settled_keeps (as_end (raw_item r.kept i)) r h e3 in
    let a : front_raw r (items_of m) ≡ front_raw h rest =
    ap (λ xs. front_raw r xs) e1
    ∙ (ends_settle (raw_item r.kept i) (map (raw_item r.kept) rest) r e2
    ∙ (ap (λ x. settled_after (map (raw_item r.kept) rest) x) e3 ∙ ap (λ ks. settle_front (map (raw_item ks) rest) h.entries h.flag) (sym k.0))) in
    let d : All (HasItem o.bank (length r.kept)) (i ∷ rest) = subst (λ (xs : List Item). All (HasItem o.bank (length r.kept)) xs) e1 y.items in
    let v : All (IsGoalIn (allowed o) o.bank) (i ∷ rest) = subst (λ (xs : List Item). All (IsGoalIn (allowed o) o.bank) xs) e1 y.sorted_goals in
    record {
      reached = record {
        same = record {
          problem = y.same.problem;
          modules = y.same.modules;
          bank = y.same.bank;
          bound = y.same.bound;
          levels = y.same.levels;
          terms =
              y.same.terms;
        };
        eigens = y.eigens;
        left = y.left;
        steps = y.steps;
        next = k.1 ∙ y.next;
        raw = ap (λ xs. front_raw h xs) e4 ∙ (sym a ∙ y.raw);
        top = t;
        items = rw (e4, k.0) (All-tail (HasItem o.bank (length r.kept)) i rest d);
        clauses = c (λ f. HasForm o.bank f.0) y.clauses;
        sorted_clauses = c (λ f. IsFormula (allowed o) ClauseSide [] (form_tree o.bank f.0)) y.sorted_clauses;
        sorted_goals = rw e4 (All-tail (IsGoalIn (allowed o) o.bank) i rest v);
        keyed = q o.bank (length o.problem.clauses) y.keyed;
      };
      ends = rw (e4, k.0) w;
    }

pub here : (o m : Parts) → Going o m → Going m m
here o m g =
    let y = g.reached in let a : allowed o ≡ allowed m = sym (same_allowed o m y.same y.eigens) in
    record {
      reached = record {
        same = record { problem = refl; modules = refl; bank = refl; bound = refl; levels = refl; terms = refl };
        eigens = refl;
        left = refl;
        steps = refl;
        next = refl;
        raw = refl;
        top = y.top;
        items = rw y.same.bank y.items;
        clauses = rw y.same.bank y.clauses;
        sorted_clauses = clauses_moved (allowed o) (allowed m) o.bank m.bank m.resources.entries a (sym y.same.bank) y.sorted_clauses;
        sorted_goals = goals_moved (allowed o) (allowed m) o.bank m.bank (items_of m) a (sym y.same.bank) y.sorted_goals;
        keyed = rw (y.same.bank, y.same.problem) y.keyed;
      };
      ends = rw (y.same.bank, y.same.bound) g.ends;
    }

pub reach_further : (o m n : Parts) → Reaches o m → Reaches m n → Reaches o n
reach_further o m n g h =
    let a : allowed m ≡ allowed o = same_allowed o m g.same g.eigens in
    record {
      same = record {
        problem = h.same.problem ∙ g.same.problem;
        modules = h.same.modules ∙ g.same.modules;
        bank = h.same.bank ∙ g.same.bank;
        bound = h.same.bound ∙ g.same.bound;
        levels = h.same.levels ∙ g.same.levels;
        terms = h.same.terms ∙ g.same.terms;
      };
      eigens = h.eigens ∙ g.eigens;
      left = h.left ∙ g.left;
      steps = h.steps ∙ g.steps;
      next = h.next ∙ g.next;
      raw = h.raw ∙ g.raw;
      top = h.top;
      items = rw (sym g.same.bank) h.items;
      clauses = rw (sym g.same.bank) h.clauses;
      sorted_clauses = clauses_moved (allowed m) (allowed o) m.bank o.bank n.resources.entries a g.same.bank h.sorted_clauses;
      sorted_goals = goals_moved (allowed m) (allowed o) m.bank o.bank (items_of n) a g.same.bank h.sorted_goals;
      keyed = rw (sym g.same.bank, sym g.same.problem) h.keyed;
    }

pub further : (o m n : Parts) → Going o m → Going m n → Going o n
further o m n g h =
    let s = g.reached.same in record { reached = reach_further o m n g.reached h.reached; ends = rw (sym s.bank, sym s.bound) h.ends }

-- what the kinds of ends make of the entries

record Newest (linear : Bool) (bank : Nodes) (bound : List (Option At)) (es : List (Entry FormAt)) (xs : List (ItemOf Form)) : Type 0 where
  front : Entry FormAt
  rest : List (Entry FormAt)
  is : es ≡ front ∷ rest
  kind : is_of_kind linear front.kind ≡ true
  ends : ends_fit xs (map (shown_entry bank bound) rest) ≡ true

newest_of : (linear : Bool) (bank : Nodes) (bound : List (Option At)) (es : List (Entry FormAt)) (xs : List (ItemOf Form))
    → newest_is linear (ends_fit xs) (map (shown_entry bank bound) es) ≡ true → Newest linear bank bound es xs
newest_of linear bank bound [] xs h = cc
newest_of linear bank bound (e ∷ es) xs h =
    record {
      front = e;
      rest = es;
      is = refl;
      kind = and_left (is_of_kind linear e.kind) (ends_fit xs (map (shown_entry bank bound) es)) h;
      ends = and_right (is_of_kind linear e.kind) (ends_fit xs (map (shown_entry bank bound) es)) h;
    }

ends_at : (o m : Parts) (i : Item) (rest : List Item) → Going o m → items_of m ≡ i ∷ rest → EndsFit o.bank o.bound m.resources (i ∷ rest)
ends_at o m i rest g e = subst (λ (xs : List Item). EndsFit o.bank o.bound m.resources xs) e g.ends

lolli_entries : (saved : Bool) (r h : Resources FormAt) (e : Entry FormAt) (es : List (Entry FormAt)) → r.entries ≡ e ∷ es
    → settled (EndOfLolli saved) r ≡ Some h → h.entries ≡ es
lolli_entries saved r h e es k q = step (e.live && not r.flag)
    (ap (λ ys. option_map (front_put r) (settle_front (EndOfLolli saved ∷ []) ys r.flag)) (sym k) ∙ q)
  where
    step : (b : Bool) → option_map (front_put r) (if b then None else Some (record { agenda = []; context = es; flag = saved || r.flag })) ≡ Some h
        → h.entries ≡ es
    step true x = cc
    step false x = let y : front_put r (record { agenda = []; context = es; flag = saved || r.flag }) ≡ h = cc in sym (ap (λ z. z.entries) y)

imp_entries : (r h : Resources FormAt) (e : Entry FormAt) (es : List (Entry FormAt)) → r.entries ≡ e ∷ es → settled EndOfImp r ≡ Some h → h.entries ≡ es
imp_entries r h e es k q =
    let x : option_map (front_put r) (settle_front (EndOfImp ∷ []) (e ∷ es) r.flag) ≡ Some h =
    ap (λ ys. option_map (front_put r) (settle_front (EndOfImp ∷ []) ys r.flag)) (sym k) ∙ q in
    let y : front_put r (record { agenda = []; context = es; flag = r.flag }) ≡ h = cc in sym (ap (λ z. z.entries) y)

load_is : (saved : Bool) (e : Entry FormAt) (es : List (Entry FormAt)) → is_of_kind true e.kind ≡ true → load_end saved (e ∷ es) ≡ EndOfLolli saved
load_is saved e es h = rw h refl

free_is : (saved : Bool) (e : Entry FormAt) (es : List (Entry FormAt)) → is_of_kind false e.kind ≡ true → load_end saved (e ∷ es) ≡ EndOfImp
free_is saved e es h = rw (not_true (is_linear e.kind) h) refl

shorter : (m : Parts) (i : Item) (rest : List Item) (n : Parts) → items_of m ≡ i ∷ rest → items_of n ≡ rest → length (items_of n) < length (items_of m)
shorter m i rest n e f = let a = ap (λ (xs : List Item). length xs) e in let b = ap (λ (xs : List Item). length xs) f in omega (arith, a, b)

tail_keeps : (es : List (Entry FormAt)) (e : Entry FormAt) (rest hs : List (Entry FormAt)) → es ≡ e ∷ rest → hs ≡ rest
    → (P : FormAt → Type 0) → All (λ (e : Entry FormAt). P e.clause) es → All (λ (e : Entry FormAt). P e.clause) hs
tail_keeps es e rest hs k q P c =
    let Q : Entry FormAt → Type 0 = λ e. P e.clause in
    subst (λ (xs : List (Entry FormAt)). All Q xs) (sym q) (All-tail Q e rest (subst (λ (xs : List (Entry FormAt)). All Q xs) k c))

pub off_lolli : (m : Parts) (h : Resources FormAt) (saved : Bool) (rest : List Item) (top : _) → Going m m → items_of m ≡ LolliEnd saved ∷ rest
    → settled (load_end saved m.resources.entries) m.resources ≡ Some h → items_of (record m { resources = h; top = top }) ≡ rest → HasTop m.agenda top
    → Going m (record m { resources = h; top = top }) × (length (items_of (record m { resources = h; top = top })) < length (items_of m))
off_lolli m h saved rest top g e1 e3 e4 t =
    let w = newest_of true m.bank m.bound m.resources.entries (map (shown_item m.bank m.bound m.resources.kept) rest) (ends_at m m (LolliEnd saved) rest g e1)
    in
    let q : settled (EndOfLolli saved) m.resources ≡ Some h =
    ap (λ i. settled i m.resources) (sym (ap (λ es. load_end saved es) w.is ∙ load_is saved w.front w.rest w.kind)) ∙ e3 in
    let k = lolli_entries saved m.resources h w.front w.rest w.is q in (
      off m m h (LolliEnd saved) rest top g e1 refl q e4 t (tail_keeps m.resources.entries w.front w.rest h.entries w.is k)
          (λ bank n. keyed-tail bank n m.resources h w.front w.rest w.is k (settled_keys (EndOfLolli saved) m.resources h q)) (rw k w.ends),
      shorter m (LolliEnd saved) rest (record m { resources = h; top = top }) e1 e4,
    )

pub off_imp : (m : Parts) (h : Resources FormAt) (rest : List Item) (top : _) → Going m m → items_of m ≡ ImpEnd ∷ rest
    → settled (load_end false m.resources.entries) m.resources ≡ Some h → items_of (record m { resources = h; top = top }) ≡ rest → HasTop m.agenda top
    → Going m (record m { resources = h; top = top }) × (length (items_of (record m { resources = h; top = top })) < length (items_of m))
off_imp m h rest top g e1 e3 e4 t =
    let w = newest_of false m.bank m.bound m.resources.entries (map (shown_item m.bank m.bound m.resources.kept) rest) (ends_at m m ImpEnd rest g e1) in
    let q : settled EndOfImp m.resources ≡ Some h =
    ap (λ i. settled i m.resources) (sym (ap (λ es. load_end false es) w.is ∙ free_is false w.front w.rest w.kind)) ∙ e3 in
    let k = imp_entries m.resources h w.front w.rest w.is q in (
      off m m h ImpEnd rest top g e1 refl q e4 t (tail_keeps m.resources.entries w.front w.rest h.entries w.is k)
          (λ bank n. keyed-tail bank n m.resources h w.front w.rest w.is k (settled_keys EndOfImp m.resources h q)) (rw k w.ends),
      shorter m ImpEnd rest (record m { resources = h; top = top }) e1 e4,
    )

-- marks that an end gives back

marks_length : (bs : List Bool) (es : List (Entry Form)) → marks_fit bs es ≡ true → length bs ≡ length es
marks_length [] [] h = refl
marks_length [] (e ∷ es) h = cc
marks_length (b ∷ bs) [] h = cc
marks_length (b ∷ bs) (e ∷ es) h = ap (λ n. suc n) (marks_length bs es (and_right (may_live e.kind b) (marks_fit bs es) h))

saved_fits : (bank : Nodes) (bound : List (Option At)) (r : Resources FormAt) (s : Handle) → s.number < length r.kept
    → marks_fit (saved_at r.kept s).live (map (shown_entry bank bound) r.entries) ≡ true
    → SavedFits s r
saved_fits bank bound r s n h =
    (n, marks_length (saved_at r.kept s).live (map (shown_entry bank bound) r.entries) h ∙ length-map r.entries (shown_entry bank bound))

item_at : (m : Parts) (i : Item) (rest : List Item) → Going m m → items_of m ≡ i ∷ rest → All (HasItem m.bank (length m.resources.kept)) (i ∷ rest)
item_at m i rest g e = subst (λ (xs : List Item). All (HasItem m.bank (length m.resources.kept)) xs) e g.reached.items

front_item : (m : Parts) (i : Item) (rest : List Item) → Going m m → items_of m ≡ i ∷ rest → HasItem m.bank (length m.resources.kept) i
front_item m i rest g e = All-head (HasItem m.bank (length m.resources.kept)) i rest (item_at m i rest g e)

-- the tests that the end of `&` passes
with_parts : (m : Parts) (s h : Handle) (rest : List Item) → Going m m → items_of m ≡ WithEnd s h ∷ rest
    → (marks_fit (saved_at m.resources.kept s).live (map (shown_entry m.bank m.bound) m.resources.entries) ≡ true)
    × (marks_fit (saved_at m.resources.kept h).live (map (shown_entry m.bank m.bound) m.resources.entries) ≡ true)
    × EndsFit m.bank m.bound m.resources rest
with_parts m s h rest g e =
    let r = m.resources in let es = map (shown_entry m.bank m.bound) r.entries in
    let a : Bool = marks_fit (saved_at r.kept s).live es in let b : Bool = marks_fit (saved_at r.kept h).live es in
    let c : Bool = ends_fit (map (shown_item m.bank m.bound r.kept) rest) es in
    let w : a && b && c ≡ true = ends_at m m (WithEnd s h) rest g e in
    let x = and_left (a && b) c w in (and_left a b x, and_right a b x, and_right (a && b) c w)

pub with_fits : (m : Parts) (s h : Handle) (rest : List Item) → Going m m → items_of m ≡ WithEnd s h ∷ rest → SavedFits s m.resources × SavedFits h m.resources
with_fits m s h rest g e =
    let p = with_parts m s h rest g e in let n = front_item m (WithEnd s h) rest g e in
    (saved_fits m.bank m.bound m.resources s n.0 p.0, saved_fits m.bank m.bound m.resources h n.1 p.1)

bang_parts : (m : Parts) (s : Handle) (rest : List Item) → Going m m → items_of m ≡ BangEnd s ∷ rest
    → (marks_fit (saved_at m.resources.kept s).live (map (shown_entry m.bank m.bound) m.resources.entries) ≡ true) × EndsFit m.bank m.bound m.resources rest
bang_parts m s rest g e =
    let r = m.resources in let es = map (shown_entry m.bank m.bound) r.entries in
    let a : Bool = marks_fit (saved_at r.kept s).live es in let c : Bool = ends_fit (map (shown_item m.bank m.bound r.kept) rest) es in
    let w : a && c ≡ true = ends_at m m (BangEnd s) rest g e in (and_left a c w, and_right a c w)

pub bang_fits : (m : Parts) (s : Handle) (rest : List Item) → Going m m → items_of m ≡ BangEnd s ∷ rest → SavedFits s m.resources
bang_fits m s rest g e =
    saved_fits m.bank m.bound m.resources s (front_item m (BangEnd s) rest g e) (bang_parts m s rest g e).0

middle_parts : (m : Parts) (s : Handle) (rest : List Item) → Going m m → items_of m ≡ Mid s ∷ rest
    → (begins_second_side (map (shown_item m.bank m.bound m.resources.kept) rest) ≡ true)
    × (marks_fit (saved_at m.resources.kept s).live (map (shown_entry m.bank m.bound) m.resources.entries) ≡ true)
middle_parts m s rest g e =
    let r = m.resources in let es = map (shown_entry m.bank m.bound) r.entries in let xs = map (shown_item m.bank m.bound r.kept) rest in
    let a : Bool = begins_second_side xs in let b : Bool = marks_fit (saved_at r.kept s).live es in let c : Bool = ends_fit xs es in
    let w : a && b && c ≡ true = ends_at m m (Mid s) rest g e in
    let x = and_left (a && b) c w in (and_left a b x, and_right a b x)

pub middle_fits : (m : Parts) (s : Handle) (rest : List Item) → Going m m → items_of m ≡ Mid s ∷ rest → SavedFits s m.resources
middle_fits m s rest g e =
    saved_fits m.bank m.bound m.resources s (front_item m (Mid s) rest g e) (middle_parts m s rest g e).1

-- other marks

remark_keeps : (es : List (Entry FormAt)) (bs : List Bool) (P : FormAt → Type 0) → All (λ (e : Entry FormAt). P e.clause) es
    → All (λ (e : Entry FormAt). P e.clause) (remark es bs)
remark_keeps [] bs P c = c
remark_keeps (e ∷ es) [] P c = c
remark_keeps (e ∷ es) (b ∷ bs) P c =
    let Q : Entry FormAt → Type 0 = λ e. P e.clause in
    All-cons Q (record e { live = b }) (remark es bs) (All-head Q e es c) (remark_keeps es bs P (All-tail Q e es c))

marked_keeps : (es hs : List (Entry FormAt)) (bs : List Bool) → hs ≡ remark es bs → (P : FormAt → Type 0) → All (λ (e : Entry FormAt). P e.clause) es
    → All (λ (e : Entry FormAt). P e.clause) hs
marked_keeps es hs bs q P c = let Q : Entry FormAt → Type 0 = λ e. P e.clause in subst (λ (xs : List (Entry FormAt)). All Q xs) (sym q) (remark_keeps es bs P c)

remark_shown : (bank : Nodes) (bound : List (Option At)) (es : List (Entry FormAt)) (bs : List Bool)
    → map (shown_entry bank bound) (remark es bs) ≡ remark (map (shown_entry bank bound) es) bs
remark_shown bank bound [] bs = refl
remark_shown bank bound (e ∷ es) [] = refl
remark_shown bank bound (e ∷ es) (b ∷ bs) = ap (λ xs. shown_entry bank bound (record e { live = b }) ∷ xs) (remark_shown bank bound es bs)

marked_ends : (bank : Nodes) (bound : List (Option At)) (xs : List (ItemOf Form)) (es hs : List (Entry FormAt)) (bs : List Bool) → hs ≡ remark es bs
    → ends_fit xs (map (shown_entry bank bound) es) ≡ true → ends_fit xs (map (shown_entry bank bound) hs) ≡ true
marked_ends bank bound xs es hs bs q h =
    let f : Entry FormAt → Entry Form = shown_entry bank bound in
    subst (λ (ys : List (Entry FormAt)). ends_fit xs (map f ys) ≡ true) (sym q)
    (subst (λ (ys : List (Entry Form)). ends_fit xs ys ≡ true) (sym (remark_shown bank bound es bs))
    (alike-ends xs (map f es) (remark (map f es) bs) (alike-remark (map f es) bs) h))

off_marks : (m : Parts) (h : Resources FormAt) (i : Item) (rest : List Item) (top : _) (bs : List Bool) → Going m m → items_of m ≡ i ∷ rest
    → is_end (raw_item m.resources.kept i) ≡ true
    → settled (as_end (raw_item m.resources.kept i)) m.resources ≡ Some h → h.entries ≡ remark m.resources.entries bs
    → EndsFit m.bank m.bound m.resources rest → items_of (record m { resources = h; top = top }) ≡ rest → HasTop m.agenda top
    → Going m (record m { resources = h; top = top }) × (length (items_of (record m { resources = h; top = top })) < length (items_of m))
off_marks m h i rest top bs g e1 e2 e3 q w e4 t = (
  off m m h i rest top g e1 e2 e3 e4 t (marked_keeps m.resources.entries h.entries bs q)
      (λ bank n. keyed-stay bank n m.resources h (ap (λ es. clauses_of es) q ∙ clauses-remark m.resources.entries bs) (settled_keys _ m.resources h e3))
      (marked_ends m.bank m.bound (map (shown_item m.bank m.bound m.resources.kept) rest) m.resources.entries h.entries bs q w),
  shorter m i rest (record m { resources = h; top = top }) e1 e4,
)

with_entries : (sv hf : Saved) (r h : Resources FormAt) → settled (EndOfWith sv hf) r ≡ Some h → (bs : List Bool) × (h.entries ≡ remark r.entries bs)
with_entries sv hf r h e = go (join hf (record { live = marks r.entries; flag = r.flag })) e
  where
    go : (o : Option Saved) → option_map (front_put r) (end_with (settle_front []) sv r.entries o) ≡ Some h
        → (bs : List Bool) × (h.entries ≡ remark r.entries bs)
    go None e = cc
    go (Some s) e =
        let x : front_put r (record { agenda = []; context = remark r.entries s.live; flag = sv.flag || s.flag }) ≡ h = cc in
        (s.live, sym (ap (λ z. z.entries) x))

bang_entries : (sv : Saved) (r h : Resources FormAt) → settled (EndOfBang sv) r ≡ Some h → h.entries ≡ remark r.entries sv.live
bang_entries sv r h e =
    let x : front_put r (record { agenda = []; context = remark r.entries sv.live; flag = sv.flag }) ≡ h = cc in sym (ap (λ z. z.entries) x)

pub off_with : (m : Parts) (h : Resources FormAt) (s f : Handle) (rest : List Item) (top : _) → Going m m → items_of m ≡ WithEnd s f ∷ rest
    → settled (with_end m.resources.kept s f) m.resources ≡ Some h → items_of (record m { resources = h; top = top }) ≡ rest → HasTop m.agenda top
    → Going m (record m { resources = h; top = top }) × (length (items_of (record m { resources = h; top = top })) < length (items_of m))
off_with m h s f rest top g e1 e3 e4 t =
    let k = m.resources.kept in
    let q = with_entries (saved_at k s) (saved_at k f) m.resources h e3 in
    off_marks m h (WithEnd s f) rest top q.0 g e1 refl e3 q.1 (with_parts m s f rest g e1).2 e4 t

pub off_bang : (m : Parts) (h : Resources FormAt) (s : Handle) (rest : List Item) (top : _) → Going m m → items_of m ≡ BangEnd s ∷ rest
    → settled (bang_end m.resources.kept s) m.resources ≡ Some h → items_of (record m { resources = h; top = top }) ≡ rest → HasTop m.agenda top
    → Going m (record m { resources = h; top = top }) × (length (items_of (record m { resources = h; top = top })) < length (items_of m))
off_bang m h s rest top g e1 e3 e4 t =
    let sv = saved_at m.resources.kept s in
    off_marks m h (BangEnd s) rest top sv.live g e1 refl e3 (bang_entries sv m.resources h e3) (bang_parts m s rest g e1).1 e4 t

-- a goal is in front
pub goal_done : (n : Parts) (g : FormAt) (v : Environment) (rest : List Item) → items_of n ≡ Goal g v ∷ rest → IsDone n
goal_done n g v rest e =
    let r = n.resources in
    subst (λ (xs : List Item). front_raw r xs ≡ Some (record { agenda = map (raw_item r.kept) xs; context = r.entries; flag = r.flag })) (sym e) refl

-- the middle of `&`

pub record IsSecond (xs : List Item) : Type 0 where
  pub goal : FormAt
  pub values : Environment
  pub before : Handle
  pub old : Handle
  pub behind : List Item
  pub is : xs ≡ Goal goal values ∷ WithEnd before old ∷ behind

raw_same : (bank : Nodes) (n : ℕ) (r s : Resources FormAt) (i : Item) → KeepsSaved n r s → HasItem bank n i → raw_item s.kept i ≡ raw_item r.kept i
raw_same bank n r s (Goal g e) k h = refl
raw_same bank n r s (LolliEnd b) k h = refl
raw_same bank n r s ImpEnd k h = refl
raw_same bank n r s (Mid a) k h = ap (λ x. Middle x) (k a h)
raw_same bank n r s (WithEnd a b) k h = ap (λ x. EndOfWith x (saved_at s.kept b)) (k a h.0) ∙ ap (λ x. EndOfWith (saved_at r.kept a) x) (k b h.1)
raw_same bank n r s (BangEnd a) k h = ap (λ x. EndOfBang x) (k a h)

raws_same : (bank : Nodes) (n : ℕ) (r s : Resources FormAt) (xs : List Item) → KeepsSaved n r s → All (HasItem bank n) xs
    → map (raw_item s.kept) xs ≡ map (raw_item r.kept) xs
raws_same bank n r s [] k h = refl
raws_same bank n r s (x ∷ xs) k h =
    let a = raw_same bank n r s x k (All-head (HasItem bank n) x xs h) in let b = raws_same bank n r s xs k (All-tail (HasItem bank n) x xs h) in
    ap (λ y. y ∷ map (raw_item s.kept) xs) a ∙ ap (λ ys. raw_item r.kept x ∷ ys) b

-- the machine at the second side of `&`
abbrev pub at_second : Parts → Resources FormAt → Frames Item → Top → Parts
at_second m h agenda top = record m { resources = h; agenda = agenda; top = top }

pub middle : (m : Parts) (h : Resources FormAt) (agenda : Frames Item) (top : Top) (s before old half : Handle) (g : FormAt) (v : Environment)
    (rest : List Item) → Going m m → items_of m ≡ Mid s ∷ Goal g v ∷ WithEnd before old ∷ rest → half ≡ saved_as (length m.resources.kept)
    → SettlesMiddle (saved_at m.resources.kept s) (saved_at h.kept half) m.resources h
    → KeepsSaved (length m.resources.kept) m.resources h → h ≡ after_with_mid s m.resources
    → items_at agenda top ≡ Goal g v ∷ WithEnd before half ∷ rest → HasTop agenda top → Reaches m (at_second m h agenda top) × IsDone (at_second m h agenda top)
middle m h agenda top s before old half g v rest go e1 n sm k e e4 t =
    let r = m.resources in let y = go.reached in let z = h in
    let P : Item → Type 0 = HasItem m.bank (length r.kept) in let Q : Item → Type 0 = HasItem m.bank (length z.kept) in let R : Item
    → Type 0 = IsGoalIn (allowed m) m.bank in
    let d = item_at m (Mid s) (Goal g v ∷ WithEnd before old ∷ rest) go e1 in
    let d1 = All-tail P (Mid s) (Goal g v ∷ WithEnd before old ∷ rest) d in
    let d2 = All-tail P (Goal g v) (WithEnd before old ∷ rest) d1 in
    let dr = All-tail P (WithEnd before old) rest d2 in
    let db = (All-head P (WithEnd before old) rest d2).0 in
    let q : All R (Mid s ∷ Goal g v ∷ WithEnd before old ∷ rest) = subst (λ (xs : List Item). All R xs) e1 y.sorted_goals in
    let q1 = All-tail R (Mid s) (Goal g v ∷ WithEnd before old ∷ rest) q in
    let qr = All-tail R (WithEnd before old) rest (All-tail R (Goal g v) (WithEnd before old ∷ rest) q1) in
    let make : Saved → List (ItemOf (FormAt × Environment)) → Option (Front (FormAt × Environment) FormAt) =
    λ b xs. Some (record { agenda = GoalOf (g, v) ∷ EndOfWith b (saved_at z.kept half) ∷ xs; context = z.entries; flag = z.flag }) in
    let lk : length z.kept ≡ suc (length r.kept) = ap (λ (x : Resources FormAt). length x.kept) e ∙ one_more r.kept (saved_now r) in
    let hn : half.number ≡ length r.kept = ap (λ (x : Handle). x.number) n in (
      record {
        same = record { problem = refl; modules = refl; bank = refl; bound = refl; levels = refl; terms = refl };
        eigens = refl;
        left = refl;
        steps = refl;
        next = ap (λ (x : Resources FormAt). x.next) e;
        raw =
            ap (λ xs. front_raw z xs) e4
            ∙ (ap (λ b. make b (map (raw_item z.kept) rest)) (k before db)
            ∙ (ap (λ xs. make (saved_at r.kept before) xs) (raws_same m.bank (length r.kept) r z rest k dr)
            ∙ (sym (middles_settle (saved_at r.kept s) (saved_at z.kept half) (saved_at r.kept before) (saved_at r.kept old) (g, v)
            (map (raw_item r.kept) rest) r z sm)
            ∙ ap (λ xs. front_raw r xs) (sym e1))));
        top = t;
        items =
            rw e4
            (All-cons Q (Goal g v) (WithEnd before half ∷ rest) (All-head P (Goal g v) (WithEnd before old ∷ rest) d1)
            (All-cons Q (WithEnd before half) rest (omega (arith, db, lk), omega (arith, hn, lk))
            (All-weaker P Q (λ x w. more_kept m.bank (length r.kept) (length z.kept) x (omega (arith, lk)) w) rest dr)));
        clauses = marked_keeps r.entries z.entries (saved_at r.kept s).live (ap (λ (x : Resources FormAt). x.entries) e) (λ f. HasForm m.bank f.0) y.clauses;
        sorted_clauses =
            marked_keeps r.entries z.entries (saved_at r.kept s).live (ap (λ (x : Resources FormAt). x.entries) e)
            (λ f. IsFormula (allowed m) ClauseSide [] (form_tree m.bank f.0)) y.sorted_clauses;
        sorted_goals =
            rw e4 (All-cons R (Goal g v) (WithEnd before half ∷ rest) (All-head R (Goal g v) (WithEnd before old ∷ rest) q1)
            (All-cons R (WithEnd before half) rest tt qr));
        keyed =
            keyed-alike m.bank (length m.problem.clauses) r z
            (ap (λ (x : Resources FormAt). clauses_of x.entries) e ∙ clauses-remark r.entries (saved_at r.kept s).live)
            (ap (λ (x : Resources FormAt). x.keys) e) y.keyed;
      },
      goal_done (at_second m h agenda top) g v (WithEnd before half ∷ rest) e4,
    )

-- what settling a machine comes to, by what working off the item in front came to
pub settled_done : (o m n : Parts) (w : Worked) → Fits o → Going o m → w ≡ Settled → Works m w n → IsSettled o n
settled_done o m n w f g e h = let x = subst (λ (w : Worked). Works m w n) e h in done o n (reach_further o m n g.reached x.0) f x.1

pub settled_fails : (o m n : Parts) (w : Worked) → Going o m → w ≡ Failed → Works m w n → settle (state_of o) ≡ None
settled_fails o m n w g e h = let x = subst (λ (w : Worked). Works m w n) e h in fails o m g.reached x.0

pub failed_same : (o m n : Parts) (w : Worked) → Going o m → w ≡ Failed → Works m w n → SameSearch o n
failed_same o m n w g e h =
    let x = subst (λ (w : Worked). Works m w n) e h in record { problem = x.1.problem ∙ g.reached.same.problem; left = x.1.left ∙ g.reached.left }

pub settled_empty : (o m : Parts) → Fits o → Going o m → items_of m ≡ [] → IsSettled o m
settled_empty o m f g e =
    done o m g.reached f
    (ap (λ xs. front_raw m.resources xs) e
    ∙ ap (λ xs. Some (record { agenda = map (raw_item m.resources.kept) xs; context = m.resources.entries; flag = m.resources.flag })) (sym e))

pub worked : (end : End) (old new : History FormAt) (b : Bool) → b ≡ true → Settles end old new b → settled end old.present ≡ Some new.present
worked end old new b e h = subst (λ (b : Bool). Settles end old new b) e h
