-- The way through the nodes: its beginning, the sequent that is next, and what waits after its node.
use Rattle.std.proofs.Common.{◌≡◌, ℕ, zero, suc, ◌<◌, ◌≤◌, true, List, [], ◌∷◌, ◌++◌, length, map, take, drop, reverse, get_or, refl, ap, sym, ◌∙◌, subst}
use Rattle.std.proofs.Common.{arith, Some}
use Rattle.std.specs.List.{list_all}
use Rattle.std.proofs.lemmas.Bool.{and_parts}
use Rattle.std.proofs.lemmas.List.{take-take, length-take-le, length-append}
use Rattle.std.proofs.lemmas.List.Elements.{All-nil, All-cons, All-take}
use Rattle.ll_bank.specs.Nodes.{Nodes, Extends}
use Rattle.ll_bank.proofs.CallerLemmas.{Extends-refl}
use Rattle.ll_laws.specs.Number.{Operators}
use Rattle.ll_laws.specs.declared.Rule.{Rule}
use Rattle.ll_laws.specs.Module.{Setting, ModuleTree}
use Rattle.ll_laws.specs.Shows.{Tree}
use Rattle.ll_laws.specs.Line.{Line, is_line, trees_of}
use Rattle.ll_laws.specs.Fault.{Checked, Fault}
use Rattle.ll_laws.specs.Valid.{ClauseSide}
use Rattle.ll_sequent.specs.declared.sequents.Resource.{Resource}
use Rattle.ll_sequent.specs.declared.sequents.Sequent.{Sequent}
use Rattle.ll_sequent.specs.declared.sequents.Step.{Step}
use Rattle.ll_sequent.specs.declared.sequents.Step.TheVariants.{Refused, Leaves}
use Rattle.ll_sequent.specs.Sequents.{SequentTree, sequent_in, waiting_in, IsHeld, AreHeld, IsSequent, AreWaiting}
use Rattle.ll_sequent.specs.Steps.{Asks, made_in, Owes, AreLeft, IsLeft}
use Rattle.ll_sequent.specs.Judging.{beside, fault_at, Holds, IsStep}
use Rattle.ll_sequent.specs.Named.{IsLeaving}
use Rattle.ll_sequent.proofs.Stepping.{fits, refused, whole_owes}
use Rattle.ll_sequent.proofs.Waiting.{waiting_more, waiting_front, same_sequent, waiting_cut, waiting_grown, waiting_after, popped}

-- ---- the beginning

pub root_waits : (modules : List ModuleTree) (bank : Nodes) (free : List Resource) (root : Sequent) (items : List Sequent) → items ≡ root ∷ []
    → Holds modules bank free root
    → AreWaiting modules bank (length free) items
root_waits modules bank free root items e h =
    let P : List Sequent → Type 0 = AreWaiting modules bank (length free) in
    let low : 0 ≤ root.free = omega arith in
    let high : root.free ≤ length free = let a = h.all in omega arith in
    subst P (sym e) (record { each = All-cons (IsSequent modules bank) root [] h.sequent (All-nil (IsSequent modules bank)); nested = (low, high) })

pub root_owes : (ops : Operators) (modules : List ModuleTree) (bank : Nodes) (free : List Resource) (root : Sequent) (items : List Sequent) → items ≡ root ∷ []
    → Holds modules bank free root → (lines : List Line) (x : Tree)
    → trees_of lines ≡ Some (x ∷ []) → Owes (beside ops modules) (fault_at ops modules x (sequent_in bank free root)) 1 lines (waiting_in bank free items)
root_owes ops modules bank free root items e h lines x is =
    let P : List Sequent → Type 0 = λ ss. Owes (beside ops modules) (fault_at ops modules x (sequent_in bank free root)) 1 lines (waiting_in bank free ss) in
    subst P (sym e) (whole_owes (beside ops modules) lines x (sequent_in bank free root) is)

-- ---- the nodes

pub line_at : (line : Rule → Line) (rules : List Rule) (k : ℕ) (d : Rule) → k < length rules → list_all is_line (map line rules) ≡ true
    → is_line (line (get_or rules k d)) ≡ true
line_at line [] k d l h = absurd (omega arith)
line_at line (r ∷ rules) zero d l h = (and_parts (is_line (line r)) (list_all is_line (map line rules)) h).0
line_at line (r ∷ rules) (suc k) d l h = line_at line rules k d (omega arith) (and_parts (is_line (line r)) (list_all is_line (map line rules)) h).1

pub lines_from : (line : Rule → Line) (rules : List Rule) (k : ℕ) (d : Rule) → k < length rules
    → drop k (map line rules) ≡ line (get_or rules k d) ∷ drop (suc k) (map line rules)
lines_from line [] k d l = absurd (omega arith)
lines_from line (r ∷ rules) zero d l = refl
lines_from line (r ∷ rules) (suc k) d l = lines_from line rules k d (omega arith)

pub lines_end : (line : Rule → Line) (rules : List Rule) (k : ℕ) → length rules ≤ k → drop k (map line rules) ≡ []
lines_end line [] zero l = refl
lines_end line [] (suc k) l = refl
lines_end line (r ∷ rules) zero l = absurd (omega arith)
lines_end line (r ∷ rules) (suc k) l = lines_end line rules k (omega arith)

-- ---- the next sequent

-- the next sequent with its unbounded clauses, and those that wait behind it
pub record Taken (modules : List ModuleTree) (bank : Nodes) (free : List Resource) (s : Sequent) (ss : List Sequent) : Type 0 where
  pub holds : Holds modules bank free s
  pub behind : AreWaiting modules bank (length free) ss

module _ (modules : List ModuleTree) (bank : Nodes) (before free : List Resource) (all ss : List Sequent) (s : Sequent) (e : all ≡ ss ++ s ∷ [])
    (cut : free ≡ take s.free before)
    (waits : AreWaiting modules bank (length before) all) (held : AreHeld modules bank before) where
  split : AreWaiting modules bank (length before) (ss ++ s ∷ [])
  split = let P : List Sequent → Type 0 = AreWaiting modules bank (length before) in subst P e waits

  count : s.free ≡ length free
  count =
      let p = (popped modules bank before ss s split).within in
      let q : length (take s.free before) ≡ s.free = length-take-le s.free before p in
      sym (ap length cut ∙ q)

  pub taken : Taken modules bank free s ss
  taken =
      let p = popped modules bank before ss s split in
      let P : List Resource → Type 0 = AreHeld modules bank in
      let Q : ℕ → Type 0 = λ n. AreWaiting modules bank n ss in
      record {
        holds = record {
          sequent = p.next;
          unbounded = subst P (sym cut)
              (All-take (λ (r : Resource). IsHeld modules bank ClauseSide r.form.0) s.free before held);
          all = count;
        };
        behind = subst Q count p.behind;
      }

  waiting_taken : waiting_in bank before all ≡ sequent_in bank free s ∷ waiting_in bank free ss
  waiting_taken =
      let p = popped modules bank before ss s split in
      let le : s.free ≤ s.free = omega arith in
      let t : take s.free free ≡ take s.free before = ap (take s.free) cut ∙ take-take s.free s.free before le in
      let a : sequent_in bank free s ≡ sequent_in bank before s = same_sequent (Extends-refl bank) modules before free s p.next held t in
      let b : waiting_in bank free ss ≡ waiting_in bank before ss =
      ap (λ f. waiting_in bank f ss) cut ∙ waiting_cut modules bank before s.free ss (Extends-refl bank) p.behind held in
      ap (waiting_in bank before) e ∙ (waiting_more bank before ss s ∙ (λ i. sym a i ∷ sym b i))

  pub taken_owes : (b : Setting) (whole : Checked) (k : ℕ) (lines : List Line) → Owes b whole k lines (waiting_in bank before all)
      → Owes b whole k lines (sequent_in bank free s ∷ waiting_in bank free ss)
  taken_owes b whole k lines o = let P : List SequentTree → Type 0 = Owes b whole k lines in subst P waiting_taken o

-- ---- a node

asks_of : (bank : Nodes) (free : List Resource) (qs : List Sequent) (step : Step) → IsLeaving qs step
    → made_in bank free step ≡ Asks (map (sequent_in bank free) qs)
asks_of bank free qs (Refused r) l = absurd l
asks_of bank free qs (Leaves v) l = ap (λ xs. Asks (map (sequent_in bank free) xs)) l

left_of : (modules : List ModuleTree) (bank : Nodes) (n : ℕ) (qs : List Sequent) (step : Step) → IsLeaving qs step → IsLeft modules bank n step
    → AreLeft modules bank n qs
left_of modules bank n qs (Refused r) l h = absurd l
left_of modules bank n qs (Leaves v) l h = let P : List Sequent → Type 0 = AreLeft modules bank n in subst P l h

module _ (ops : Operators) (modules : List ModuleTree) {old new : Nodes} (before after : List Resource) (s : Sequent) (ss : List Sequent) (line : Line)
    (step : Step) (keeps : Extends old new)
    (t : Taken modules old before s ss) (is : IsStep ops modules line (sequent_in old before s) new before after step) where
  pub step_refused : (whole : Checked) (k r : ℕ) (rest : List Line) → step ≡ Refused r
      → Owes (beside ops modules) whole k (line ∷ rest) (sequent_in old before s ∷ waiting_in old before ss) → whole ≡ Fault k r
  step_refused whole k r rest e o = refused o (ap (made_in new after) (sym e) ∙ is.made)

  module _ (qs items : List Sequent) (leaving : IsLeaving qs step) (e : items ≡ ss ++ reverse qs) where
    pub step_waits : AreWaiting modules new (length after) items
    step_waits =
        let P : List Sequent → Type 0 = AreWaiting modules new (length after) in
        let n : length before ≤ length after = let a = ap length is.adds.is in let b = length-append before is.adds.more in omega arith in
        subst P (sym e) (waiting_after modules before after ss qs keeps t.behind n (left_of modules new (length after) qs step leaving is.left))

    pub step_owes : (whole : Checked) (k : ℕ) (rest : List Line)
        → Owes (beside ops modules) whole k (line ∷ rest) (sequent_in old before s ∷ waiting_in old before ss)
        → Owes (beside ops modules) whole (suc k) rest (waiting_in new after items)
    step_owes whole k rest o =
        let P : List SequentTree → Type 0 = Owes (beside ops modules) whole (suc k) rest in
        let w : waiting_in new after items ≡ map (sequent_in new after) qs ++ waiting_in old before ss =
        ap (waiting_in new after) e
        ∙ (waiting_front new after ss qs ∙ ap (λ xs. map (sequent_in new after) qs ++ xs)
        (waiting_grown modules before after ss keeps t.behind t.holds.unbounded is.adds)) in
        subst P (sym w) (fits o (sym (asks_of new after qs step leaving) ∙ is.made))
