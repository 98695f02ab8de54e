-- Events whose lines wait for those behind them.
use Rattle.std.proofs.Common.{◌≡◌, ◌≤◌, ◌<◌, ◌⊎◌, ℕ, suc, ◌+◌, ◌-◌, refl, subst, ap, sym, ◌∙◌}
use Rattle.std.proofs.Common.{List, [], ◌∷◌, ◌++◌, length, take, drop, get_or, arith, inl, inr, append_assoc, length-append}
use Rattle.std.specs.Prelude.{Option, Result, Ok, Err, IfErr, OnOk, OnErr, Bool, false, map}
use Rattle.std.specs.Bool.{◌==◌}
use Rattle.std.specs.Io.KnownBytes.{append_known}
use Rattle.std.proofs.lemmas.Bool.{cases_lt}
use Rattle.std.proofs.lemmas.List.{append-nil, take-append-le, drop_more, drop_all, map-append}
use Rattle.std.proofs.Math.Seq.{take-append-add, take-suc}
use Rattle.ll_edge.specs.Pieces.{AppendsFront}
use Rattle.ll_edge.proofs.CallerLemmas.{append_known-nil, append_known-append, front_in}
use Rattle.ll_laws.specs.declared.Event.{Event}
use Rattle.ll_order.specs.Outlets.{Gives, Refuses}
use Rattle.ll_order.specs.declared.outlet.OutFault.{OutFault}
use Rattle.ll_order.specs.declared.outlet.OutFault.TheVariants.{OutOfMemory, Write}
use Rattle.ll_laws.specs.Problem.{ProblemTree}
use Rattle.ll_laws.specs.Sound.{Every}
use Rattle.ll_order.proofs.CallerLemmas.{gives_more}
use Rattle.ll_top.specs.lines.Running.{all_lines, event_lines, AnswersAll, IsWelcome, IsReady, OutletState, SameOutlet, Writes, BreaksOff, Holding, told, Waits}
use Rattle.ll_top.specs.lines.Running.{CutsOff, Taking}
use Rattle.ll_top.proofs.writing.RunLemmas.{event_then, no-lines, lines-then, same-on, events-same, events-quiet}

-- first bytes of two pieces are first bytes of the first, or all of it and first bytes of the second
front_splits : (before mid after : Option (List ℕ)) (one two : List ℕ) → mid ≡ append_known before one → AppendsFront before (one ++ two) after
    → AppendsFront before one after ⊎ AppendsFront mid two after
front_splits before mid after one two w f = by (cases_lt (length one) f.taken)
  where
    by : (length one < f.taken) ⊎ (f.taken ≤ length one) → AppendsFront before one after ⊎ AppendsFront mid two after
    by (inr h) = inl (record { taken = f.taken; within = h; appended = f.appended ∙ ap (append_known before) (take-append-le f.taken one two h) })
    by (inl h) =
        let n = f.taken - length one in
        let e : f.taken ≡ length one + n = omega arith in
        inr (record {
          taken = n;
          within = let g = f.within in omega (arith, length-append one two);
          appended =
              f.appended
              ∙ (ap (append_known before) (ap (λ k. take k (one ++ two)) e ∙ take-append-add one two n)
              ∙ (sym (append_known-append before one (take n two)) ∙ ap (λ o. append_known o (take n two)) (sym w)));
        })

module _ {W : Type 0} (takes breaks : W → Event → W → Type 0) (state : W → OutletState) (writes : (x : W) (e : Event) (y : W) → takes x e y
    → Writes (state x) e (state y))
    (breaks_off : (x : W) (e : Event) (y : W) → breaks x e y → BreaksOff (state x) e (state y))
    (broken : (x : W) (e : Event) (y : W) → BreaksOff (state x) e (state y) → breaks x e y) where
  abbrev lines_of : W → Event → List ℕ
  lines_of x e = event_lines (state x).proofs (state x).problem (state x).answers e

  abbrev lines_from : W → List Event → List ℕ
  lines_from x es = all_lines (state x).proofs (state x).problem (state x).answers es

  -- the lines of one event
  one-event : (x : W) (e : Event) → lines_from x (e ∷ []) ≡ lines_of x e
  one-event x e =
      let s = state x in
      sym (event_then s.proofs s.problem s.answers e []) ∙ (ap (λ l. lines_of x e ++ l) (no-lines s.proofs s.problem _) ∙ append-nil (lines_of x e))

  -- an outlet that stands at the first event, and only first bytes of its lines came
  stopped_first : (x z : W) (e : Event) (more : List Event) → SameOutlet (state x) (state z) → AppendsFront (state x).written (lines_of x e) (state z).written
      → Refuses takes breaks x (e ∷ more) z
  stopped_first x z e more s f = record {
    front = [];
    refused = e;
    back = more;
    between = x;
    order = refl;
    given = refl;
    broke = broken x e z (record { same = s; written = f });
  }

  -- one event was taken, and only first bytes of the lines from it on came in the end
  stopped_on : (x b y z : W) (e : Event) (es more : List Event) → takes x e b → SameOutlet (state b) (state z)
      → AppendsFront (state x).written (lines_from x (e ∷ es)) (state z).written
      → (AppendsFront (state b).written (lines_from b es) (state z).written → Refuses takes breaks b (es ++ more) z)
      → Refuses takes breaks x (e ∷ (es ++ more)) z
  stopped_on x b y z e es more t s f ih =
      by (front_splits (state x).written (state b).written (state z).written (lines_of x e) (lines_from b es) (writes x e b t).written
      (subst (λ l. AppendsFront (state x).written l (state z).written) (sym (lines-then takes breaks state writes breaks_off x e b es t)) f))
    where
      by : AppendsFront (state x).written (lines_of x e) (state z).written ⊎ AppendsFront (state b).written (lines_from b es) (state z).written
          → Refuses takes breaks x (e ∷ (es ++ more)) z
      by (inl h) = stopped_first x z e (es ++ more) (same-on takes breaks state writes breaks_off _ _ _ (writes x e b t).same s) h
      by (inr h) =
          let r = ih h in
          record {
            front = e ∷ r.front;
            refused = r.refused;
            back = r.back;
            between = r.between;
            order = ap (λ l. e ∷ l) r.order;
            given = (b, t, r.given);
            broke = r.broke;
          }

  after_given : (x y z : W) (es : List Event) → Gives takes x es y → SameOutlet (state y) (state z) → SameOutlet (state x) (state z)
  after_given x y z es g s = same-on takes breaks state writes breaks_off _ _ _ (events-same takes breaks state writes breaks_off x y es g) s

  -- Events were taken, and perhaps one more came. Of their lines only first bytes came in the end: one of them was refused.
  pub refused_in : (x y z : W) (done rest more : List Event) → Gives takes x done y → length rest ≤ 1 → 0 < length (done ++ rest)
      → SameOutlet (state y) (state z) → AppendsFront (state x).written (lines_from x (done ++ rest)) (state z).written
      → Refuses takes breaks x ((done ++ rest) ++ more) z
  refused_in x y z [] [] more g r h s f = absurd (omega arith)
  refused_in x y z [] (e ∷ []) more g r h s f =
      stopped_first x z e more (subst (λ w. SameOutlet (state w) (state z)) g s)
      (subst (λ l. AppendsFront (state x).written l (state z).written) (one-event x e) f)
  refused_in x y z [] (e ∷ d ∷ rest) more g r h s f = absurd (omega arith)
  refused_in x y z (e ∷ []) [] more g r h s f =
      stopped_first x z e more (after_given x y z (e ∷ []) g s)
      (subst (λ l. AppendsFront (state x).written l (state z).written) (one-event x e) f)
  refused_in x y z (e ∷ []) (d ∷ rest) more (b, t, g) r h s f =
      stopped_on x b y z e (d ∷ rest) more t (after_given b y z [] g s) f
      (refused_in b y z [] (d ∷ rest) more g r (omega arith) s)
  refused_in x y z (e ∷ d ∷ done) rest more (b, t, g) r h s f =
      stopped_on x b y z e (d ∷ (done ++ rest)) more t (after_given b y z (d ∷ done) g s) f
      (refused_in b y z (d ∷ done) rest more g r (omega arith) s)

  -- the lines of events that were taken, and of one more
  lines-snoc : (x y : W) (done : List Event) (e : Event) → Gives takes x done y → lines_from x done ++ lines_of y e ≡ lines_from x (done ++ e ∷ [])
  lines-snoc x y [] e g =
      let s = state x in
      ap (λ l. l ++ lines_of y e) (no-lines s.proofs s.problem s.answers) ∙ (ap (λ w. lines_of w e) g ∙ sym (one-event x e))
  lines-snoc x y (d ∷ done) e (b, t, g) =
      ap (λ l. l ++ lines_of y e) (sym (lines-then takes breaks state writes breaks_off x d b done t))
      ∙ (append_assoc (lines_of x d) (lines_from b done) (lines_of y e)
      ∙ (ap (λ l. lines_of x d ++ l) (lines-snoc b y done e g) ∙ lines-then takes breaks state writes breaks_off x d b (done ++ e ∷ []) t))

  -- what was given up to one state was given up to another one that each call that left the first might have left
  gives_end : (x y z : W) (e : Event) (es : List Event) → Gives takes x (e ∷ es) y → ((b : W) (d : Event) → takes b d y → takes b d z)
      → Gives takes x (e ∷ es) z
  gives_end x y z e [] (b, t, g) h = (z, h x e (subst (λ w. takes x e w) (sym g) t), refl)
  gives_end x y z e (d ∷ es) (b, t, g) h = (b, t, gives_end b y z d es g h)

-- what holds on a refusal
pub err_on : {T E A : Type 0} (r : Result T E) (e : E) → r ≡ Err e → OnErr r A → A
err_on {A = A} r e h k = subst (λ q. OnErr q A) h k

pub err_cause : {T E : Type 0} (P : E → Type 0) (r : Result T E) (e : E) → r ≡ Err e → IfErr r P → P e
err_cause P r e h k = subst (λ q. IfErr q P) h k

-- why a refusal is one
abbrev pub fault_of : {T E : Type 0} → E → Result T E → E
fault_of e (Ok a) = e
fault_of e (Err d) = d

pub fault_is : {T E : Type 0} (r : Result T E) (e : E) → r ≡ Err e → fault_of e r ≡ e
fault_is r e h = ap (fault_of e) h

pub out_of_memory_apart : {A : Type 0} → OutOfMemory ≡ Write → A
out_of_memory_apart e = cc

-- a fault that is no failed write is out of memory
pub memory_else : {T : Type 0} (fault : OutFault) → ¬ (◌≡◌ {A = Result T OutFault} (Err fault) (Err Write)) → fault ≡ OutOfMemory
memory_else Write other = absurd (other refl)
memory_else OutOfMemory other = refl

-- what holds where all was written holds where no write failed
pub quiet_unless : {T A : Type 0} (r : Result T OutFault) → OnOk r A → IfErr r (λ fault. fault ≡ Write) → ¬ (r ≡ Err Write) → A
quiet_unless (Ok x) a cause other = a
quiet_unless (Err fault) a cause other = absurd (other (ap Err cause))

-- there are events
pub some_events : (es : List Event) {b : Bool} → b ≡ (length es == 0) → b ≡ false → 0 < length es
some_events [] h f = absurd cc
some_events (e ∷ es) h f = omega arith

-- the next event of a list, of which so many were taken
pub next_event : {X : Type 0} (told : X → Event) (xs ys : List X) (i : ℕ) (x : X) → ys ≡ xs → i < length ys → x ≡ get_or ys i x
    → map told (drop i xs) ≡ told x ∷ map told (drop (i + 1) xs)
next_event told xs ys i x s l h =
    ap (map told) (drop_more xs i x (subst (λ zs. i < length zs) s l)
    ∙ ap (λ k. k ∷ drop (i + 1) xs) (sym (subst (λ zs. x ≡ get_or zs i x) s h)))

pub next_taken : {X : Type 0} (told : X → Event) (xs ys : List X) (i : ℕ) (x : X) → ys ≡ xs → i < length ys → x ≡ get_or ys i x
    → map told (take i xs) ++ told x ∷ [] ≡ map told (take (i + 1) xs)
next_taken told xs ys i x s l h =
    let next : suc i ≡ i + 1 = omega arith in
    sym (map-append told (take i xs) (x ∷ []))
    ∙ ap (map told) (ap (λ k. take i xs ++ k ∷ []) (subst (λ zs. x ≡ get_or zs i x) s h)
    ∙ (sym (take-suc xs i x (subst (λ zs. i < length zs) s l)) ∙ ap (λ n. take n xs) next))

pub none_left : {X : Type 0} (told : X → Event) (xs ys : List X) (i : ℕ) → ys ≡ xs → length ys ≤ i → map told (drop i xs) ≡ []
none_left told xs ys i s l = ap (map told) (drop_all i xs (subst (λ zs. length zs ≤ i) s l))

-- what holds of a list that is not empty, beside what holds of each of it
pub each_ready : {N : Type 0} (A : Event → Type 0) (es : List Event) → 0 < length es → Every (λ e. A e × N) es → N
each_ready A [] h w = absurd (omega arith)
each_ready A (e ∷ es) h w = w.0.1

pub each_wanted : (N : Type 0) (A : Event → Type 0) (es : List Event) → Every (λ e. A e × N) es → Every A es
each_wanted N A [] w = tt
each_wanted N A (e ∷ es) w = (w.0.0, each_wanted N A es w.1)

-- an outlet that is as ready as one with the same problem was
pub ready_still : {makes : Bool → ProblemTree → ℕ → Event → List ℕ} {b c : Bool} {p q : ProblemTree} {before after : List ℕ} → IsReady makes b p before
    → q ≡ p → c ≡ b → after ≡ [] → IsReady makes c q after
ready_still {makes} {b} {c} {p} {q} r same proofs none = record {
  none = none;
  lines =
      subst (λ d. (k : ℕ) (e : Event) → AnswersAll q e → makes d q k e ≡ event_lines d q k e) (sym proofs)
      (subst (λ o. (k : ℕ) (e : Event) → AnswersAll o e → makes b o k e ≡ event_lines b o k e) (sym same) r.lines);
}

-- an outlet whose lines wait
module _ {W : Type 0} (hold : W → Holding) where
  abbrev takes : W → Event → W → Type 0
  takes x e y = Writes (told (hold x)) e (told (hold y))

  abbrev breaks : W → Event → W → Type 0
  breaks x e y = BreaksOff (told (hold x)) e (told (hold y))

  abbrev outlet : W → OutletState
  outlet w = (hold w).outlet

  abbrev waiting : W → List ℕ
  waiting w = (hold w).waiting

  abbrev state : W → OutletState
  state w = told (hold w)

  abbrev next_lines : W → Event → List ℕ
  next_lines x e = event_lines (outlet x).proofs (outlet x).problem (outlet x).answers e

  abbrev all_from : W → List Event → List ℕ
  all_from x es = all_lines (outlet x).proofs (outlet x).problem (outlet x).answers es

  -- what it shows is what its sink tells where none wait
  none_wait : (w : W) → waiting w ≡ [] → (state w).written ≡ (outlet w).written
  none_wait w h = ap (append_known (outlet w).written) h ∙ append_known-nil (outlet w).written

  told_same : (y z : W) → SameOutlet (outlet y) (outlet z) → SameOutlet (state y) (state z)
  told_same y z s = record { problem = s.problem; proofs = s.proofs; lent = s.lent; faults = s.faults; tells = s.tells }

  pub taking_starts : (x : W) (events : List Event) → 0 < length events → waiting x ≡ [] → Every (IsWelcome (outlet x).problem) events
      → Taking hold x events [] events x
  taking_starts x events some h w = record {
    some = some;
    none = h;
    order = refl;
    given = refl;
    wanted = w;
    flushed = [];
    written = sym (append_known-nil (outlet x).written);
    lines = h ∙ sym (no-lines (outlet x).proofs (outlet x).problem (outlet x).answers);
  }

  module _ {x y : W} {events done rest : List Event} (t : Taking hold x events done rest y) where
    -- its problem, its sink and its count of faults up to here
    pub taking_same : SameOutlet (outlet x) (outlet y)
    taking_same = let s = events-same takes breaks state (λ a e b k. k) (λ a e b k. k) x y done t.given in
        record { problem = s.problem; proofs = s.proofs; lent = s.lent; faults = s.faults; tells = s.tells }

    -- no write failed up to here
    pub taking_quiet : (outlet y).faults ≡ (outlet x).faults
    taking_quiet = events-quiet takes breaks state (λ a e b k. k) (λ a e b k. k) x y done t.given

    taking_same_on : (z : W) → SameOutlet (outlet y) (outlet z) → SameOutlet (outlet x) (outlet z)
    taking_same_on z s = same-on takes breaks state (λ a e b k. k) (λ a e b k. k) (outlet x) (outlet y) (outlet z) taking_same s

    -- it is as ready as it was where no lines wait again, and the same is welcome to it
    pub welcome_still : {makes : Bool → ProblemTree → ℕ → Event → List ℕ} {b : Bool} {p : ProblemTree} {lines : List ℕ}
        → IsReady makes (outlet x).proofs (outlet x).problem (waiting x) → p ≡ (outlet y).problem → b ≡ (outlet y).proofs → lines ≡ [] → (e : Event)
        → ((IsWelcome (outlet x).problem e × IsReady makes (outlet x).proofs (outlet x).problem (waiting x)) → (IsWelcome p e × IsReady makes b p lines))
        × ((IsWelcome p e × IsReady makes b p lines) → (IsWelcome (outlet x).problem e × IsReady makes (outlet x).proofs (outlet x).problem (waiting x)))
    welcome_still {p = p} r same proofs none e =
        let q : p ≡ (outlet x).problem = same ∙ taking_same.problem in (
          λ h. (subst (λ o. IsWelcome o e) (sym q) h.0, ready_still r q (proofs ∙ taking_same.proofs) none),
          λ h. (subst (λ o. IsWelcome o e) q h.0, r),
        )

    -- what it makes of an event are the event's lines
    pub taking_makes : {makes : Bool → ProblemTree → ℕ → Event → List ℕ} → IsReady makes (outlet x).proofs (outlet x).problem (waiting x)
        → (k : ℕ) (e : Event) → AnswersAll (outlet y).problem e → makes (outlet y).proofs (outlet y).problem k e ≡ event_lines (outlet y).proofs
        (outlet y).problem k e
    taking_makes r = (ready_still {after = []} r taking_same.problem taking_same.proofs refl).lines

    -- the lines that wait are those of events that were taken
    some_done : 0 < length (waiting y) → 0 < length done
    some_done h = by done t.lines
      where
        by : (es : List Event) → t.flushed ++ waiting y ≡ all_from x es → 0 < length es
        by [] e = absurd (let l = ap length (e ∙ no-lines (outlet x).proofs (outlet x).problem (outlet x).answers) in
            omega (arith, length-append t.flushed (waiting y)))
        by (d ∷ es) e = omega arith

  module _ {x y : W} {events done left : List Event} {e : Event} {rest : List Event} (now : Taking hold x events done left y) (next : left ≡ e ∷ rest) where
    stands : Taking hold x events done (e ∷ rest) y
    stands = subst (λ es. Taking hold x events done es y) next now

    -- the next event is welcome to it
    pub taking_wants : IsWelcome (outlet y).problem e
    taking_wants = subst (λ p. IsWelcome p e) (sym (taking_same stands).problem) stands.wanted.0

    -- where it is taken, all goes on
    pub taking_goes_on : (z : W) (more : List Event) → done ++ e ∷ [] ≡ more → Waits (hold y) e (hold z) → Taking hold x events more rest z
    taking_goes_on z more d w =
        let sunk = (outlet y).written in
        let step : Writes (state y) e (state z) = record {
          same = told_same y z w.same;
          quiet = w.quiet;
          answers = w.answers;
          written =
              ap (λ o. append_known o (waiting z)) w.written
              ∙ (append_known-append sunk w.flushed (waiting z)
              ∙ (ap (append_known sunk) w.order ∙ sym (append_known-append sunk (waiting y) (next_lines y e))));
        } in
        subst (λ es. Taking hold x events es rest z) d (record {
          some = stands.some;
          none = stands.none;
          order = stands.order ∙ sym (append_assoc done (e ∷ []) rest);
          given = gives_more takes breaks x y z done (e ∷ []) stands.given (z, step, refl);
          wanted = stands.wanted.1;
          flushed = stands.flushed ++ w.flushed;
          written =
              w.written ∙ (ap (λ o. append_known o w.flushed) stands.written ∙ append_known-append (outlet x).written stands.flushed w.flushed);
          lines =
              append_assoc stands.flushed w.flushed (waiting z)
              ∙ (ap (λ l. stands.flushed ++ l) w.order
              ∙ (sym (append_assoc stands.flushed (waiting y) (next_lines y e))
              ∙ (ap (λ l. l ++ next_lines y e) stands.lines ∙ lines-snoc takes breaks state (λ a e b k. k) (λ a e b k. k) (λ a e b k. k) x y done e
              stands.given)));
        })

    -- where it is refused, so are all of them
    pub taking_breaks : (z : W) → CutsOff (hold y) (waiting y ++ next_lines y e) (hold z) → Refuses takes breaks x events z
    taking_breaks z c =
        let piece = waiting y ++ next_lines y e in
        let text = all_from x (done ++ e ∷ []) in
        let lines : stands.flushed ++ (piece ++ []) ≡ text =
        ap (λ l. stands.flushed ++ l) (append-nil piece)
        ∙ (sym (append_assoc stands.flushed (waiting y) (next_lines y e))
        ∙ (ap (λ l. l ++ next_lines y e) stands.lines ∙ lines-snoc takes breaks state (λ a e b k. k) (λ a e b k. k) (λ a e b k. k) x y done e stands.given)) in
        let front = front_in (outlet x).written (outlet y).written (outlet z).written stands.flushed piece [] text stands.written lines c.written in
        let shown : AppendsFront (state x).written text (state z).written =
        subst (λ o. AppendsFront o text (state z).written) (sym (none_wait x stands.none))
        (subst (λ o. AppendsFront (outlet x).written text o) (sym (none_wait z c.none)) front) in
        let order : events ≡ (done ++ e ∷ []) ++ rest = stands.order ∙ sym (append_assoc done (e ∷ []) rest) in
        subst (λ es. Refuses takes breaks x es z) (sym order)
        (refused_in takes breaks state (λ a e b k. k) (λ a e b k. k) (λ a e b k. k) x y z done (e ∷ []) rest stands.given (omega arith)
        (omega (arith, length-append done (e ∷ []))) (told_same y z c.same) shown)

  module _ {x y : W} {events done left : List Event} (now : Taking hold x events done left y) (last : left ≡ []) where
    ended : Taking hold x events done [] y
    ended = subst (λ es. Taking hold x events done es y) last now

    all_done : events ≡ done
    all_done = ended.order ∙ append-nil done

    -- all were taken, and the lines that waited are written
    pub taking_ends : (z : W) → SameOutlet (outlet y) (outlet z) → (outlet z).faults ≡ (outlet y).faults → (outlet z).answers ≡ (outlet y).answers
        → waiting z ≡ [] → (outlet z).written ≡ append_known (outlet y).written (waiting y) → Gives takes x events z
    taking_ends z s q a none w = by events all_done ended.some
      where
        same_written : (state z).written ≡ (state y).written
        same_written = none_wait z none ∙ w

        after : (b : W) (d : Event) → takes b d y → takes b d z
        after b d k =
            record {
              same = same-on takes breaks state (λ a e b k. k) (λ a e b k. k) (state b) (state y) (state z) k.same (told_same y z s);
              quiet = q ∙ k.quiet;
              answers = a ∙ k.answers;
              written = same_written ∙ k.written;
            }

        by : (es : List Event) → es ≡ done → 0 < length es → Gives takes x es z
        by [] e k = absurd (omega arith)
        by (d ∷ es) e k =
            gives_end takes breaks state (λ a e b k. k) (λ a e b k. k) (λ a e b k. k) x y z d es (subst (λ l. Gives takes x l y) (sym e) ended.given) after

    -- or only a prefix of them
    pub taking_cut : (z : W) → 0 < length (waiting y) → SameOutlet (outlet y) (outlet z) → waiting z ≡ []
        → AppendsFront (outlet y).written (waiting y) (outlet z).written → Refuses takes breaks x events z
    taking_cut z some s none w =
        let text = all_from x (done ++ []) in
        let lines : ended.flushed ++ (waiting y ++ []) ≡ text =
        ap (λ l. ended.flushed ++ l) (append-nil (waiting y)) ∙ (ended.lines ∙ ap (all_from x) (sym (append-nil done))) in
        let front = front_in (outlet x).written (outlet y).written (outlet z).written ended.flushed (waiting y) [] text ended.written lines w in
        let shown : AppendsFront (state x).written text (state z).written =
        subst (λ o. AppendsFront o text (state z).written) (sym (none_wait x ended.none))
        (subst (λ o. AppendsFront (outlet x).written text o) (sym (none_wait z none)) front) in
        let more = some_done ended some in
        let order : events ≡ (done ++ []) ++ [] = ended.order ∙ sym (append-nil (done ++ [])) in
        subst (λ es. Refuses takes breaks x es z) (sym order)
        (refused_in takes breaks state (λ a e b k. k) (λ a e b k. k) (λ a e b k. k) x y z done [] [] ended.given (omega arith)
        (omega (arith, length-append done [])) (told_same y z s) shown)
