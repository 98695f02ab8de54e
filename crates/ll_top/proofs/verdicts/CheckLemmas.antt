-- From the reading and judging of three texts to what a check comes to.
use Rattle.std.proofs.Common.{◌≡◌, ◌+◌, ◌≤◌, ℕ, List, length, Option, None, Some, refl, ap, sym, subst, ◌∙◌, arith, length-append}
use Rattle.std.specs.List.{position_from}
use Rattle.std.specs.Prelude.{Bool, true, IfSome, Result, Ok, Err, nat_eq, if◌then◌else◌, is_some, unwrap_or, slice_get}
use Rattle.ll_bank.specs.Names.{with_names}
use Rattle.ll_edge.specs.Texts.{Texts}
use Rattle.ll_laws.specs.Module.{Setting}
use Rattle.ll_laws.specs.Number.{operators_of}
use Rattle.ll_cover.specs.Covering.{NamesFirst}
use Rattle.ll_laws.specs.Completeness.{ShowsClosed, answers_in}
use Rattle.ll_laws.specs.Search.{events}
use Rattle.ll_laws.specs.Problem.{ProblemTree, setting_of, start_of, problem_events}
use Rattle.ll_laws.specs.Shows.{Tree, Shows as TreeShown}
use Rattle.ll_laws.specs.Fault.{Checked, fault, Fault as FaultAt}
use Rattle.ll_laws.specs.Line.{DerivationLines, IsWhole, counts_numbers}
use Rattle.ll_laws.specs.Valid.{IsValid}
use Rattle.ll_laws.specs.Verdict.{DerivationShows, root_free, root_bounded, instantiated_goal, first_fault}
use Rattle.ll_prooftext.specs.Mentions.{text_names}
use Rattle.ll_prooftext.specs.Terms.{Grows}
use Rattle.ll_prooftext.specs.Versions.{IsProofText}
use Rattle.ll_sequent.specs.Told.{IsVerdict}
use Rattle.ll_sequent.specs.declared.Verdict.TheVariants.{No}
use Rattle.ll_top.specs.declared.texts.judge.Role.{Role}
use Rattle.ll_top.specs.declared.checks.finding.Finding.{Finding}
use Rattle.ll_top.specs.declared.checks.finding.Finding.TheVariants.{Shows, Fails, Covered, TooLong, CountsNumbers}
use Rattle.ll_top.specs.declared.texts.refusing.TextRefusal.{TextRefusal}
use Rattle.ll_top.specs.declared.texts.refusing.TextRefusal.TheVariants as text
use Rattle.ll_top.specs.declared.texts.refusing.Refusal.{Refusal}
use Rattle.ll_top.specs.declared.texts.refusing.Refusal.TheVariants.{Text, Unwritable, OutOfMemory}
use Rattle.ll_top.specs.forms.Words.{CheckWords}
use Rattle.ll_top.specs.texts.Judging.{TextsAsk, IsCheckFault, of_run_texts, of_proof}
use Rattle.ll_top.specs.texts.Outcome.{IsRead, Reaches}
use Rattle.ll_top.specs.checks.Outcome.{check_texts, name_in_check, CheckFails, texts_not_read, faulty_text, CheckGives, IsRefuted, shown, refuted}
use Rattle.ll_top.specs.checks.Outcome.{covered, too_long, counting}
use Rattle.ll_top.specs.checks.Verdicts.{yes_text, too_long_text}
use Rattle.ll_top.specs.texts.Endings.{cause_of, IsNotRead, IsFaultOf, Judges, IsNoDerivation}
use Rattle.ll_top.specs.checks.Endings.{IsCheckFaultOf, IsFinding, Finds, ComesToFinding, CheckFinds}
use Rattle.ll_top.proofs.verdicts.CountingLemmas.{counts-none}
use Rattle.ll_top.proofs.judging.PrepareLemmas.{not-read}
use Rattle.ll_top.proofs.verdicts.MoreNames.{valid-with}
use Rattle.ll_top.proofs.verdicts.AddedNames.{same-operators}

-- ---- texts that are read

module _ (told : Option Texts) (absence read_failed : List ℕ → Type 0) (check : CheckWords) where
  -- the text whose turn it is was not read
  pub text-refused : (role : Role) (e : Refusal) → Reaches told (check_texts check) (name_in_check check role)
      → IsNotRead told absence read_failed (name_in_check check role) role e → CheckFinds told absence read_failed check (Err e)
  text-refused role (Text other refusal) r h =
      subst (λ x. CheckFails told absence read_failed check (cause_of (name_in_check check x) refusal)) (sym h.0)
      (texts_not_read (cause_of (name_in_check check role) refusal)
      (not-read told absence read_failed (check_texts check) (name_in_check check role) refusal r h.1))
  text-refused role Unwritable r h = absurd h
  text-refused role OutOfMemory r h = tt

  finding-comes : (p : ProblemTree) (d : DerivationLines) (finding : Finding) → CheckGives told check p d → IsFinding (is_some check.bound) p d finding
      → ComesToFinding told absence read_failed check finding
  finding-comes p d (Shows nodes) g h = shown p d h.0 g h.1 refl (ap yes_text h.2)
  finding-comes p d (Fails node reason) g h = refuted p d node reason g h refl refl
  finding-comes p d (Covered answer) g h = covered p d answer h.0 g h.1 refl refl
  finding-comes p d (TooLong nodes bound) g h = too_long p d h.0 g h.1 refl (ap (λ n. too_long_text n bound) h.2 ∙ ap (too_long_text (length d.nodes)) h.3)
  finding-comes p d (CountsNumbers node) g h = counting p d node h.0 g h.1 refl refl

  -- all three were read
  pub texts-judged : (program query proof : List ℕ) → IsRead told check.program program → IsRead told check.query query → IsRead told check.proof proof
      → (r : Result Finding Refusal) → Finds program query proof check.bound r
      → CheckFinds told absence read_failed check r
  texts-judged program query proof p q s (Ok finding) h = finding-comes h.0 h.1 finding
      (record { program = program; query = query; proof = proof; program_read = p; query_read = q; proof_read = s; give = h.2 }) h.3
  texts-judged program query proof p q s (Err (Text role refusal)) h = by role refusal h
    where
      by : (role : Role) (refusal : TextRefusal) → IsCheckFaultOf program query proof role refusal
          → CheckFails told absence read_failed check (cause_of (name_in_check check role) refusal)
      by role (text.Faulty f) g = faulty_text program query proof role f p q s g
      by role text.Absent g = absurd g
      by role text.Unreadable g = absurd g
      by role text.Oversized g = absurd g
  texts-judged program query proof p q s (Err Unwritable) h = absurd h
  texts-judged program query proof p q s (Err OutOfMemory) h = tt

-- ---- more names

-- the tree shows the query in this setting
abbrev ShownIn : ProblemTree → DerivationLines → Tree → Setting → Type 0
ShownIn p d x m = TreeShown m x (root_free p) (root_bounded p) (instantiated_goal p d.asked)

-- what is said of it there
abbrev said_in : ProblemTree → DerivationLines → Tree → Setting → Checked
said_in p d x m =
    if nat_eq (length d.asked) (length p.asked) then fault m 1 x (root_free p) (root_bounded p) (instantiated_goal p d.asked) else FaultAt 0 11

-- of the names a derivation looks at the operators alone
module _ (p : ProblemTree) (names : List (List ℕ)) (same : operators_of names ≡ operators_of p.names) where
  same-setting : setting_of (record p { names = names }) ≡ setting_of p
  same-setting = ap (λ operators. let m : Setting = record { modules = p.modules; operators = operators } in m) same

  shown-without : (d : DerivationLines) → DerivationShows (record p { names = names }) d → DerivationShows p d
  shown-without d s = record { tree = s.tree; is_tree = s.is_tree; count = s.count; shows = subst (ShownIn p d s.tree) same-setting s.shows }

  shown-with : (d : DerivationLines) → DerivationShows p d → DerivationShows (record p { names = names }) d
  shown-with d s = record { tree = s.tree; is_tree = s.is_tree; count = s.count; shows = subst (ShownIn p d s.tree) (sym same-setting) s.shows }

  same-fault : (d : DerivationLines) (x : Tree) → first_fault p d x ≡ first_fault (record p { names = names }) d x
  same-fault d x = ap (said_in p d x) (sym same-setting)

  same-events : problem_events (record p { names = names }) ≡ problem_events p
  same-events = ap (λ m. events m p.bound (start_of p)) same-setting

  first-without : (d : DerivationLines) (number : ℕ) → NamesFirst (record p { names = names }) d number → NamesFirst p d number
  first-without d number f = record {
    place = f.place;
    counted = f.counted;
    answer = f.answer;
    is = ap (λ es. slice_get (answers_in es) f.place) (sym same-events) ∙ f.is;
    covers = record { instance = f.covers.instance; steps = f.covers.steps };
    before = λ k a l e c. f.before k a l (ap (λ es. slice_get (answers_in es) k) same-events ∙ e) (record { instance = c.instance; steps = c.steps });
  }

  finding-without : (covers : Bool) (d : DerivationLines) (finding : Finding) → IsFinding covers (record p { names = names }) d finding
      → IsFinding covers p d finding
  finding-without covers d (Shows nodes) h = (h.0, shown-without d h.1, h.2)
  finding-without covers d (Covered answer) h = let c = h.1 in (
    h.0,
    record {
      shows = record { shows = shown-without d c.shows.shows; closed = c.shows.closed; numberless = c.shows.numberless };
      within = c.within;
      first = first-without d answer c.first;
    },
  )
  finding-without covers d (TooLong nodes bound) h = (h.0, record { shows = shown-without d h.1.shows; beyond = h.1.beyond }, h.2, h.3)
  finding-without covers d (CountsNumbers node) h = (h.0, record { shows = shown-without d h.1.shows; within = h.1.within; first = h.1.first })
  finding-without covers d (Fails node reason) h =
      record { not_shown = λ s. h.not_shown (shown-with d s); tree = h.tree; is_tree = h.is_tree; fault = same-fault d h.tree ∙ h.fault }

-- a problem with more names is valid too
pub valid-grown : (p : ProblemTree) (names : List (List ℕ)) → Grows p.names names → IsValid p → IsValid (record p { names = names })
valid-grown p names g v = valid-with p names (let e : length names ≡ length p.names + length g.more = ap length g.is ∙ length-append p.names g.more in
    omega arith) v

-- ---- judging

-- what the checker says
pub told-no : (p : ProblemTree) (d : DerivationLines) (node reason : ℕ) → IsWhole d → IsVerdict p d (No node reason) → IsRefuted p d node reason
told-no p d node reason w v = record { not_shown = v.0; tree = w.tree; is_tree = w.is_tree; fault = v.1 w.tree w.is_tree }

module _ (program query proof : List ℕ) (bound : Option ℕ) where
  -- the program or the query has a fault
  pub run-texts-refused : (e : Refusal) → Judges program query (unwrap_or bound 0) (Err e) → Finds program query proof bound (Err e)
  run-texts-refused (Text role refusal) h = by refusal h
    where
      by : (refusal : TextRefusal) → IsFaultOf program query role refusal → IsCheckFaultOf program query proof role refusal
      by (text.Faulty f) g = of_run_texts g
      by text.Absent g = g
      by text.Unreadable g = g
      by text.Oversized g = g
  run-texts-refused Unwritable h = h
  run-texts-refused OutOfMemory h = tt

  module _ (p : ProblemTree) (asks : TextsAsk program query (unwrap_or bound 0) p) where
    -- the derivation's text has one
    pub proof-refused : (e : Refusal) → IsNoDerivation proof e → Finds program query proof bound (Err e)
    proof-refused (Text role (text.Faulty f)) h = subst (λ r. IsCheckFault program query proof r f) (sym h.0) (of_proof (unwrap_or bound 0) p asks h.1)
    proof-refused (Text role text.Absent) h = absurd h
    proof-refused (Text role text.Unreadable) h = absurd h
    proof-refused (Text role text.Oversized) h = absurd h
    proof-refused Unwritable h = absurd h
    proof-refused OutOfMemory h = tt

    -- it was judged over the problem, with the names that came to its own
    pub found-of : (names : List (List ℕ)) → names ≡ with_names p.names (text_names proof) → (d : DerivationLines) → IsProofText names proof d
        → (finding : Finding) → IsFinding (is_some bound) (record p { names = names }) d finding
        → Finds program query proof bound (Ok finding)
    found-of names e d is_text finding h =
        let same = ap operators_of e ∙ same-operators p.names proof in
        (p, d, record { asks = asks; is_text = subst (λ ns. IsProofText ns proof d) e is_text }, finding-without p names same (is_some bound) d finding h)

-- ---- covers

-- the bound of a cover, or that of a check
pub small-bound : (o : Option ℕ) → IfSome o (λ b. b ≤ 1000000) → unwrap_or o 0 ≤ 1000000
small-bound None h = omega arith
small-bound (Some b) h = h

-- a whole derivation that shows the query, without a node of a whole-number goal
pub shows-closed : (p : ProblemTree) (d : DerivationLines) → IsWhole d → DerivationShows p d → position_from counts_numbers 1 d.nodes ≡ None → ShowsClosed p d
shows-closed p d w s n = record { shows = s; closed = w.asked; numberless = counts-none 1 d.nodes n }

pub is-covered : (p : ProblemTree) (d : DerivationLines) (number : ℕ) → ShowsClosed p d → length d.nodes ≤ p.bound → NamesFirst p d number
    → IsFinding true p d (Covered number)
is-covered p d number s w f = (refl, record { shows = s; within = w; first = f })

pub is-counting : (p : ProblemTree) (d : DerivationLines) (node : ℕ) → DerivationShows p d → length d.nodes ≤ p.bound
    → position_from counts_numbers 1 d.nodes ≡ Some node → IsFinding true p d (CountsNumbers node)
is-counting p d node s w f = (refl, record { shows = s; within = w; first = f })
