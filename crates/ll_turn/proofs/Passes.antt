-- What a contract sees of a pass, and what the fields are.
use Rattle.std.proofs.Common.{◌≡◌, ℕ, ◌+◌, ◌≤◌, List, [], ◌∷◌, Option, Some, None, true, true≢false, sym, refl, ap, ◌∙◌, subst, arith, IsSomeAnd}
use Rattle.atomic_table.specs.Table.{Me}
use Rattle.atomic_table.specs.Seated.{TableId}
use Rattle.ll_turn.specs.Numbers.{Numbers, HasToGive, IsFirst}
use Rattle.ll_turn.specs.declared.view.Stage.{Stage}
use Rattle.ll_turn.specs.declared.view.Stage.TheVariants.{Rests, Holds, Notes}
use Rattle.ll_turn.specs.declared.view.Known.{Known}
use Rattle.ll_turn.specs.declared.view.View.{View}
use Rattle.ll_turn.specs.declared.view.View.TheVariants.{Spent, Live}
use Rattle.ll_turn.specs.Kept.{KeepsNumbers, PartsNumbers}
use Rattle.ll_turn.specs.Views.{before_of, live, is_live, known, without}
use Rattle.ll_turn.specs.Steps.{Hand, Carries, Runs, IsResting, TakesOut, MayGive, PutsBack, left_part, right_part, taken_back}
use Rattle.ll_turn.specs.Sight.{Sight, sight}
use Rattle.ll_turn.proofs.Moves.{live_injective}

module _ {S : Type 0} where
  pub resting_stage : (st : Stage S) (cs : List (ℕ × Option S)) → Carries st cs → before_of st ≡ None → (st ≡ Rests) × (cs ≡ [])
  resting_stage Rests cs c b = (refl, c)
  resting_stage (Holds y) cs c b = absurd (cc)
  resting_stage (Notes y) cs c b = absurd c

  pub holding_stage : (st : Stage S) (cs : List (ℕ × Option S)) (F : S → Type 0) → Carries st cs → IsSomeAnd (before_of st) F
      → (b : S) × (st ≡ Holds b) × (cs ≡ (0, None) ∷ []) × F b
  holding_stage Rests cs F c b = absurd b
  holding_stage (Holds y) cs F c b = (y, refl, c, b)
  holding_stage (Notes y) cs F c b = absurd c

module _ {S P M : Type 0} where
  known_is : (v : View S P M) (e : is_live v ≡ true) (k : Known S P M) → v ≡ Live k → known v e ≡ k
  known_is Spent e k is = absurd (true≢false (sym e))
  known_is (Live l) e k is = live_injective l k is

  abbrev pub seen : TableId → Known S P M → Sight S P M
  seen z k = record { table = z; problem = k.problem; mine = k.mine; before = before_of k.stage; given = k.given }

  pub sight_is : (z : TableId) (v : View S P M) (e : is_live v ≡ true) (k : Known S P M) → v ≡ Live k → sight z v e ≡ seen z k
  sight_is z v e k is = ap (seen z) (known_is v e k is)

  pub lives_at : (v : View S P M) (k : Known S P M) → v ≡ Live k → is_live v ≡ true
  lives_at v k is = ap is_live is

  -- a pass with these fields is seen so
  pub record IsSeen (numbers : M → Numbers) (m : Hand S P M) (number least : ℕ) (z : TableId) (s : Sight S P M) : Type 0 where
    pub runs : Runs numbers m number least
    pub is : seen z runs.pass ≡ s

  abbrev pub is_seen : {numbers : M → Numbers} {m : Hand S P M} {number least : ℕ} {s : Sight S P M} (z : TableId) (runs : Runs numbers m number least)
      (e : is_live m.0 ≡ true) → sight z m.0 e ≡ s
      → IsSeen numbers m number least z s
  is_seen {m = m} z runs e is = record { runs = runs; is = sym (sight_is z m.0 e runs.pass runs.lives) ∙ is }

  module _ {numbers : M → Numbers} {m : Hand S P M} {number least : ℕ} {z : TableId} {s : Sight S P M} (pass : IsSeen numbers m number least z s) where
    abbrev pub rests : s.before ≡ None → IsResting numbers m number
    rests b = let r = resting_stage pass.runs.pass.stage m.1 pass.runs.carries (ap (λ (x : Sight S P M). x.before) pass.is ∙ b) in
        (pass.runs.pass, (λ i. (pass.runs.lives i, r.1 i)), r.0, pass.runs.number_is)

    abbrev pub may_give : (lawful : P → S → M → S → Type 0) (y : S) → IsSomeAnd s.before (λ b. lawful s.problem b s.mine y) → MayGive numbers lawful m number y
    may_give lawful y may =
        let r = holding_stage pass.runs.pass.stage m.1 (λ b. lawful pass.runs.pass.problem b pass.runs.pass.mine y) pass.runs.carries
        (subst (λ (x : Sight S P M). IsSomeAnd x.before (λ b. lawful x.problem b x.mine y)) (sym pass.is) may) in
        (pass.runs.pass, r.0, (λ i. (pass.runs.lives i, r.2 i)), r.1, pass.runs.number_is, r.3)

    module _ (fit : S → P → M → Type 0) (m' : Hand S P M) (y : S) where
      pub took_runs : s.before ≡ None → TakesOut fit m y m' → Runs numbers m' number least
      took_runs b t = let r = rests b in let k = pass.runs.pass in let n = t k r.1 in record {
        pass = record { problem = k.problem; mine = k.mine; stage = Holds y; given = k.given };
        lives = ap (λ (x : Hand S P M). x.0) n.0;
        carries = ap (λ (x : Hand S P M). x.1) n.0;
        number_is = pass.runs.number_is;
        least_is = pass.runs.least_is;
        small = pass.runs.small;
        low = pass.runs.low;
      }

      pub took_sight : (b : s.before ≡ None) → TakesOut fit m y m' → (z' : TableId) → z' ≡ z → (e' : is_live m'.0 ≡ true)
          → sight z' m'.0 e' ≡ record s { before = Some y }
      took_sight b t z' table e' = let r = rests b in let k = pass.runs.pass in let n = t k r.1 in
          ap (λ x. sight x m'.0 e') table
          ∙ (sight_is z m'.0 e' (record { problem = k.problem; mine = k.mine; stage = Holds y; given = k.given }) (ap (λ (x : Hand S P M). x.0) n.0)
          ∙ ap (λ (x : Sight S P M). record x { before = Some y }) pass.is)

  -- a pass that was seen so gave the turn back with the value y
  pub record HasGiven (numbers : M → Numbers) (fit : S → P → M → Type 0) (next : P → S → M → S → M) (lawful : P → S → M → S → Type 0)
      (m : Hand S P M) (number least : ℕ) (z : TableId) (s : Sight S P M) (y : S) (m' : Hand S P M) : Type 0 where
    pub pass : IsSeen numbers m number least z s
    pub keeps_numbers : KeepsNumbers numbers next
    pub may : IsSomeAnd s.before (λ b. lawful s.problem b s.mine y)
    pub gave : PutsBack fit next m y m'

  pub has_given : {numbers : M → Numbers} (fit : S → P → M → Type 0) (next : P → S → M → S → M) (lawful : P → S → M → S → Type 0) {m : Hand S P M}
      {number least : ℕ} {z : TableId} {s : Sight S P M} {x y : S} (m' : Hand S P M) → IsSeen numbers m number least z s → KeepsNumbers numbers next
      → IsSomeAnd s.before (λ b. lawful s.problem b s.mine y) → x ≡ y → PutsBack fit next m x m' → HasGiven numbers fit next lawful m number least z s y m'
  has_given fit next lawful {m = m} m' pass keeps_numbers may is gave = record {
    pass = pass;
    keeps_numbers = keeps_numbers;
    may = may;
    gave = subst (λ value. PutsBack fit next m value m') is gave;
  }

  module _ {numbers : M → Numbers} {fit : S → P → M → Type 0} {next : P → S → M → S → M} {lawful : P → S → M → S → Type 0} {m : Hand S P M}
      {number least : ℕ} {z : TableId} {s : Sight S P M} {y : S} {m' : Hand S P M} (h : HasGiven numbers fit next lawful m number least z s y m') where
    abbrev pub after : Known S P M
    after = let r = may_give h.pass lawful y h.may in let k = h.pass.runs.pass in
        record { problem = k.problem; mine = next k.problem r.1 k.mine y; stage = Rests; given = k.given }

    pub gave_lives : m'.0 ≡ Live after
    gave_lives = let r = may_give h.pass lawful y h.may in ap (λ (x : Hand S P M). x.0) (h.gave h.pass.runs.pass r.1 r.2 r.3).0

    pub gave_runs : Runs numbers m' number least
    gave_runs =
        let r = may_give h.pass lawful y h.may in let k = h.pass.runs.pass in let n = h.gave k r.1 r.2 r.3 in
        let same = h.keeps_numbers k.problem r.1 k.mine y in
        record {
          pass = after;
          lives = gave_lives;
          carries = ap (λ (x : Hand S P M). x.1) n.0;
          number_is = ap (λ (x : Numbers). x.own) same ∙ h.pass.runs.number_is;
          least_is = subst (λ (x : Numbers). HasToGive x → x.from ≡ least) (sym same) h.pass.runs.least_is;
          small = h.pass.runs.small;
          low = subst (λ (x : Numbers). HasToGive x → x.end ≤ 4294967296) (sym same) h.pass.runs.low;
        }

    pub gave_fits : (e' : is_live m'.0 ≡ true) → fit y (known m'.0 e').problem (known m'.0 e').mine
    gave_fits e' = let r = may_give h.pass lawful y h.may in let n = h.gave h.pass.runs.pass r.1 r.2 r.3 in
        subst (λ (x : Known S P M). fit y x.problem x.mine) (sym (known_is m'.0 e' after gave_lives)) n.1

module _ {S P M : Type 0} {numbers : M → Numbers} {m : Hand S P M} {number least : ℕ} {z : TableId} {s : Sight S P M} (pass : IsSeen numbers m number least z s)
    (b : s.before ≡ None) where
  abbrev pub at_rest : IsResting numbers m number
  at_rest = rests pass b

  abbrev pub same_data : pass.runs.pass.mine ≡ s.mine
  same_data = ap (λ (x : Sight S P M). x.mine) pass.is

  pub same_given : pass.runs.pass.given ≡ s.given
  same_given = ap (λ (x : Sight S P M). x.given) pass.is

  -- a pass that joined another runs on with its own numbers
  pub runs_joined : {number' least' : ℕ} {o : Hand S P M} (other : Runs numbers o number' least') (m' : Hand S P M) → m' ≡ (taken_back numbers m.0 o.0, m.1)
      → Runs numbers m' number least
  runs_joined other m' is =
      let k = pass.runs.pass in record {
        pass = record { problem = k.problem; mine = k.mine; stage = k.stage; given = without (numbers other.pass.mine).own k.given };
        lives = ap (λ (x : Hand S P M). x.0) is ∙ (λ i. taken_back numbers (pass.runs.lives i) (other.lives i));
        carries = subst (Carries k.stage) (sym (ap (λ (x : Hand S P M). x.1) is)) pass.runs.carries;
        number_is = pass.runs.number_is;
        least_is = pass.runs.least_is;
        small = pass.runs.small;
        low = pass.runs.low;
      }

  module _ (parted : M → M × M) (some_left : HasToGive (numbers s.mine))
      (parts_numbers : PartsNumbers numbers parted) where
    abbrev pub more : HasToGive (numbers pass.runs.pass.mine)
    more = subst (λ x. HasToGive (numbers x)) (sym same_data) some_left

    pub runs_left : (m' : Hand S P M) → m' ≡ (left_part numbers parted m.0, m.1) → (least + 1 ≤ 4294967296) × Runs numbers m' number (least + 1)
    runs_left m' is' =
        let k = pass.runs.pass in
        let kl : Known S P M = record { problem = k.problem; mine = (parted k.mine).0; stage = k.stage; given = (numbers k.mine).from ∷ k.given } in
        let q = parts_numbers k.mine more in
        let q0 = q.0 in let q1 = q.1 in let q2 = q.2 in
        let l = pass.runs.least_is more in let h = pass.runs.low more in let m0 = more in (
          omega arith,
          record {
            pass = kl;
            lives = ap (λ (x : Hand S P M). x.0) is' ∙ ap (left_part numbers parted) pass.runs.lives;
            carries = subst (Carries k.stage) (sym (ap (λ (x : Hand S P M). x.1) is')) pass.runs.carries;
            number_is = q0 ∙ pass.runs.number_is;
            least_is = λ _. omega arith;
            small = pass.runs.small;
            low = λ _. omega arith;
          },
        )

    pub runs_right : (m' : Hand S P M) → m' ≡ (right_part parted m.0, []) → Runs numbers m' least 0
    runs_right m' is' =
        let k = pass.runs.pass in
        let kr : Known S P M = record { problem = k.problem; mine = (parted k.mine).1; stage = Rests; given = [] } in
        let q = parts_numbers k.mine more in
        let q3 = q.3 in let q4 = q.4 in
        let l = pass.runs.least_is more in let h = pass.runs.low more in let m0 = more in
        record {
          pass = kr;
          lives = ap (λ (x : Hand S P M). x.0) is' ∙ ap (right_part parted) pass.runs.lives;
          carries = ap (λ (x : Hand S P M). x.1) is';
          number_is = q3 ∙ l;
          least_is = λ t. absurd (omega arith);
          small = omega arith;
          low = λ t. absurd (omega arith);
        }

module _ {S P M : Type 0} (numbers : M → Numbers) (p : P) (mine : M) (me : Hand S P M) where
  -- the first pass keeps 0 as its own number, and 1 as the least that it has to give
  pub runs_first : IsFirst (numbers mine) → me ≡ (live p mine Rests [], []) → Runs numbers me 0 1
  runs_first first is = record {
    pass = record { problem = p; mine = mine; stage = Rests; given = [] };
    lives = ap (λ (x : Me _ _). x.0) is;
    carries = ap (λ (x : Me _ _). x.1) is;
    number_is = first.0;
    least_is = λ t. (first.1 t).0;
    small = omega arith;
    low = λ t. (first.1 t).1;
  }

  pub first_numbers : (e : is_live me.0 ≡ true) → IsFirst (numbers mine) → me ≡ (live p mine Rests [], []) → IsFirst (numbers (known me.0 e).mine)
  first_numbers e first is = subst (λ (k : Known S P M). IsFirst (numbers k.mine))
      (sym (known_is me.0 e (record { problem = p; mine = mine; stage = Rests; given = [] }) (ap (λ (x : Hand S P M). x.0) is))) first
