-- The names of a problem that texts ask all differ, and so do they with others behind them.
use Rattle.std.proofs.Common.{◌≡◌, ℕ, Bool, true, false, ◌||◌, List, [], ◌∷◌, ◌++◌, Option, Some, None, if◌then◌else◌, refl, sym, true≢false}
use Rattle.std.specs.List.{list_any, IsDistinct, AllByRecursion}
use Rattle.std.specs.Str.{bytes_eq}
use Rattle.std.proofs.lemmas.Bool.{false_from_ne_true}
use Rattle.std.proofs.lemmas.Slice.Eq.{bytes_eq-Decides}
use Rattle.ll_bank.specs.Form.{Relation, Is, Less, Most}
use Rattle.ll_bank.specs.Names.{with_name, with_names}
use Rattle.ll_bank.proofs.CallerLemmas.{differ_flipped}
use Rattle.ll_parser.specs.Raw.{Raw, truth, erasure, braces, universal, existential, load, binary, is_goal, less_goal, most_goal, head, anything, int, RawList}
use Rattle.ll_parser.specs.Raw.{none, more, ProgramTree}
use Rattle.ll_parser.specs.Raw as raw
use Rattle.ll_polarity.specs.Scope.{Scope, binds, Meaning, Bound, Local, Free, Constant, meaning, module_scope}
use Rattle.ll_polarity.specs.Reading.{Met, read_name, read_term, read_terms, read_number, read_form}
use Rattle.ll_polarity.specs.Asks.{read_clause, read_clauses, read_module, read_modules, part_of, read_asked, problem_with, modules_of, module_names}

-- all texts differ
abbrev pub Differ : List (List ℕ) → Type 0
Differ names = IsDistinct bytes_eq names

-- ---- names

any-head : (w t : List ℕ) (ts : List (List ℕ)) → list_any (bytes_eq w) (t ∷ ts) ≡ false → (bytes_eq w t ≡ false) × (list_any (bytes_eq w) ts ≡ false)
any-head w t ts h = by (bytes_eq w t) h
  where
    by : (b : Bool) → b || list_any (bytes_eq w) ts ≡ false → (b ≡ false) × (list_any (bytes_eq w) ts ≡ false)
    by true e = absurd (true≢false e)
    by false e = (refl, e)

all-push : (t w : List ℕ) (ts : List (List ℕ)) → bytes_eq t w ≡ false → AllByRecursion (λ y. bytes_eq t y ≡ false) ts
    → AllByRecursion (λ y. bytes_eq t y ≡ false) (ts ++ w ∷ [])
all-push t w [] h a = (h, tt)
all-push t w (x ∷ xs) h a = (a.0, all-push t w xs h a.1)

differ-push : (w : List ℕ) (names : List (List ℕ)) → list_any (bytes_eq w) names ≡ false → Differ names → Differ (names ++ w ∷ [])
unfolding IsDistinct
differ-push w [] h d = (tt, tt)
differ-push w (t ∷ ts) h d =
    let n = any-head w t ts h in (all-push t w ts (differ_flipped w t n.0) d.0, differ-push w ts n.1 d.1)

differ-name : (names : List (List ℕ)) (w : List ℕ) → Differ names → Differ (with_name names w)
differ-name names w d = by (list_any (bytes_eq w) names) refl
  where
    by : (b : Bool) → list_any (bytes_eq w) names ≡ b → Differ (if b then names else names ++ w ∷ [])
    by true e = d
    by false e = differ-push w names e d

pub differ-names : (names more : List (List ℕ)) → Differ names → Differ (with_names names more)
differ-names names [] d = d
differ-names names (w ∷ ws) d = differ-names (with_name names w) ws (differ-name names w d)

-- ---- formulas

differ-met : (m : Meaning) (met : Met) (w : List ℕ) → Differ met.names → Differ (read_name m met w).met.names
differ-met (Bound k) met w d = d
differ-met (Local k) met w d = d
differ-met Free met w d = d
differ-met Constant met w d = differ-name met.names w d

mutual
  differ-term : (scope : Scope) (met : Met) (r : Raw) → Differ met.names → Differ (read_term scope met r).met.names
  differ-term scope met (head n args) d = let m = meaning scope n.text in differ-terms scope (read_name m met n.text).met args (differ-met m met n.text d)
  differ-term scope met (anything at) d = d
  differ-term scope met _ d = d

  differ-terms : (scope : Scope) (met : Met) (rs : RawList) → Differ met.names → Differ (read_terms scope met rs).met.names
  differ-terms scope met none d = d
  differ-terms scope met (more r rs) d = differ-terms scope (read_term scope met r).met rs (differ-term scope met r d)

differ-number : (q : Relation) (scope : Scope) (met : Met) (l r : Raw) → Differ met.names → Differ (read_number q scope met l r).met.names
differ-number q scope met l r d = differ-term scope (read_term scope met l).met r (differ-term scope met l d)

module _ (ms : List (List ℕ)) where
  differ-form : (scope : Scope) (met : Met) (r : Raw) → Differ met.names → Differ (read_form ms scope met r).met.names
  differ-form scope met (truth at) d = d
  differ-form scope met (erasure at) d = d
  differ-form scope met (braces at r) d = differ-form scope met r d
  differ-form scope met (universal at n r) d = differ-form (binds n.text ∷ scope) met r d
  differ-form scope met (existential at n r) d = differ-form (binds n.text ∷ scope) met r d
  differ-form scope met (load at m args r) d = differ-form scope (read_terms scope met args).met r (differ-terms scope met args d)
  differ-form scope met (binary o at l r) d = differ-form scope (read_form ms scope met l).met r (differ-form scope met l d)
  differ-form scope met (is_goal at l r) d = differ-number Is scope met l r d
  differ-form scope met (less_goal at l r) d = differ-number Less scope met l r d
  differ-form scope met (most_goal at l r) d = differ-number Most scope met l r d
  differ-form scope met (head n args) d = differ-term scope met (head n args) d
  differ-form scope met (anything at) d = d
  differ-form scope met (int at z) d = d

  -- ---- programs

  differ-clauses : (scope : Scope) (names : List (List ℕ)) (cs : List raw.ClauseTree) → Differ names → Differ (read_clauses ms scope names cs).names
  differ-clauses scope names [] d = d
  differ-clauses scope names (c ∷ cs) d = differ-clauses scope (read_clause ms scope names c).names cs
      (differ-form scope (record { names = names; variables = [] }) c.form d)

  differ-modules : (names : List (List ℕ)) (mods : List raw.ModuleTree) → Differ names → Differ (read_modules ms names mods).names
  differ-modules names [] d = d
  differ-modules names (m ∷ rest) d =
      differ-modules (read_module ms names m).names rest (differ-clauses (module_scope m) (with_name names m.name.text) m.clauses
      (differ-name names m.name.text d))

pub none-differ : Differ []
unfolding IsDistinct
none-differ = tt

differ-part : (program : ProgramTree) → Differ (part_of program).names
differ-part program =
    let ms = module_names program in
    differ-modules ms (read_clauses ms [] [] program.clauses).names program.modules (differ-clauses ms [] [] program.clauses none-differ)

-- ---- problems

differ-asked : (names : List (List ℕ)) (vs : List (Option (List ℕ))) → Differ names → Differ (read_asked names vs).names
differ-asked names [] d = d
differ-asked names (None ∷ vs) d = differ-asked names vs d
differ-asked names (Some w ∷ vs) d = differ-asked (with_name names w) vs (differ-name names w d)

pub differ-problem : (program : ProgramTree) (query : Raw) (bound : ℕ) → Differ (problem_with (part_of program) query bound).names
differ-problem program query bound =
    let part = part_of program in
    let start : Met = record { names = part.names; variables = [] } in
    let met = (read_form (modules_of part) [] start query).met in
    differ-asked met.names met.variables (differ-form (modules_of part) [] start query (differ-part program))
