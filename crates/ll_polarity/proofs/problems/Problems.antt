-- The problem that a whole program and a whole query without a fault ask is valid.
use Rattle.std.proofs.Common.{◌≡◌, ℕ, suc, ◌+◌, ◌≤◌, Bool, true, false, not, cond, List, [], ◌∷◌, map, length, slice_get, Option, Some, None, refl, sym, subst}
use Rattle.std.proofs.Common.{ap, ◌∙◌, arith}
use Rattle.std.specs.Prelude.{find, unwrap_or, slice_index_or, ◌||◌}
use Rattle.std.specs.List.{list_any, list_all, position_or_len}
use Rattle.std.specs.Str.{bytes_eq}
use Rattle.std.proofs.lemmas.Bool.{lt-ltb, and_from as and_intro}
use Rattle.std.proofs.lemmas.Option.{get_or_from_slice_get}
use Rattle.ll_bank.specs.Names.{with_name}
use Rattle.ll_laws.specs.Module.{ModuleTree}
use Rattle.ll_laws.specs.Problem.{ProblemTree}
use Rattle.ll_laws.specs.Valid.{GoalSide, AreClauses, AreModules, IsValid, is_asked, given, largest_count}
use Rattle.ll_laws.proofs.CallerLemmas.{formula_of_fits}
use Rattle.ll_parser.specs.Raw.{Raw, ProgramTree}
use Rattle.ll_parser.specs.Raw as raw
use Rattle.ll_parser.specs.Text.{programs, queries}
use Rattle.ll_parser.specs.Reads.{IsWhole}
use Rattle.ll_parser.proofs.CallerLemmas.{few-clauses, small_program, small_query}
use Rattle.ll_polarity.specs.Scope.{Scope, module_scope}
use Rattle.ll_polarity.specs.Reading.{Met, number_in, read_form}
use Rattle.ll_polarity.specs.Faults.{Heading, is_named, heading, clauses_faults, modules_faults, program_faults, query_faults}
use Rattle.ll_polarity.specs.Asks.{module_names, read_clause, read_clauses, read_module, read_modules, part_of, read_asked, modules_of, headings_of}
use Rattle.ll_polarity.specs.Asks.{problem_with, Asks}
use Rattle.ll_polarity.proofs.reading.Grows.{More, more_refl, more_trans, more_named, numbered, number_below, longer_form, place_is}
use Rattle.ll_polarity.proofs.reading.Terms.{none_left, none_right, Room}
use Rattle.ll_polarity.proofs.reading.Forms.{IsGood, Finds, read_is_good}
use Rattle.ll_polarity.proofs.problems.Parts.{more_clauses, more_modules, clauses_valid, modules_valid}

-- ---- the modules that loads find

-- a module that is found by its name has the name
find_any : (w : List ℕ) (rest : List raw.ModuleTree) (h : Heading) → find (is_named w) (map heading rest) ≡ Some h
    → list_any (bytes_eq w) (map (λ m. m.name.text) rest) ≡ true
find_any w [] h e = cc
find_any w (m ∷ rest) h e = by (bytes_eq w m.name.text) e (find_any w rest h)
  where
    any : Bool
    any = list_any (bytes_eq w) (map (λ m. m.name.text) rest)

    by : (b : Bool) → cond b (Some (heading m)) (find (is_named w) (map heading rest)) ≡ Some h → (find (is_named w) (map heading rest) ≡ Some h → any ≡ true)
        → b || any ≡ true
    by true e i = refl
    by false e i = i e

-- it stands at the first place of the name
module _ (ms : List (List ℕ)) (w : List ℕ) where
  find_place : (before : List (List ℕ)) (rest : List raw.ModuleTree) (h : Heading) → find (is_named w) (map heading rest) ≡ Some h
      → (m : ModuleTree) × (slice_get (read_modules ms before rest).it (position_or_len (bytes_eq w) (map (λ m. m.name.text) rest)) ≡ Some m)
      × (m.params ≡ h.params)
  find_place before [] h e = absurd (cc)
  find_place before (m ∷ rest) h e = by (bytes_eq w m.name.text) e (find_place (read_module ms before m).names rest h)
    where
      this : ModuleTree
      this = (read_module ms before m).it

      others : List ModuleTree
      others = (read_modules ms (read_module ms before m).names rest).it

      place : ℕ
      place = position_or_len (bytes_eq w) (map (λ m. m.name.text) rest)

      by : (b : Bool) → cond b (Some (heading m)) (find (is_named w) (map heading rest)) ≡ Some h
          → (find (is_named w) (map heading rest) ≡ Some h → (x : ModuleTree) × (slice_get others place ≡ Some x) × (x.params ≡ h.params))
          → (x : ModuleTree) × (slice_get (this ∷ others) (cond (not b) (1 + place) 0) ≡ Some x) × (x.params ≡ h.params)
      by true e i = let s : heading m ≡ h = cc in (this, refl, ap (λ z. z.params) s)
      by false e i = let r = i e in (r.0, rw (let o : 1 + place ≡ suc place = omega arith in o) r.1, r.2)

pub finds_program : (p : ProgramTree) → Finds (part_of p).modules (module_names p) (map heading p.modules)
finds_program p w h e =
    let before = (read_clauses (module_names p) [] [] p.clauses).names in
    let f = find_place (module_names p) w before p.modules h e in (
      f.0,
      subst (λ o. slice_get (part_of p).modules (unwrap_or o 0) ≡ Some f.0) (sym (place_is (bytes_eq w) (module_names p) (find_any w p.modules h e))) f.1,
      f.2,
    )

-- ---- a part keeps the names of its modules, and with each its number of parameters

name_kept : (ms : List (List ℕ)) (before : List (List ℕ)) (m : raw.ModuleTree) (names : List (List ℕ)) → More (read_module ms before m).names names
    → slice_index_or names (read_module ms before m).it.name [] ≡ m.name.text
name_kept ms before m names more =
    let named = with_name before m.name.text in
    get_or_from_slice_get names (number_in named m.name.text) m.name.text []
    (more.kept (number_in named m.name.text) m.name.text ((more_clauses ms (module_scope m) named m.clauses).kept (number_in named m.name.text) m.name.text
    (numbered before m.name.text)))

headings_kept : (ms : List (List ℕ)) (before : List (List ℕ)) (rest : List raw.ModuleTree) (names : List (List ℕ))
    → More (read_modules ms before rest).names names
    → map (λ m. let h : Heading = record { name = slice_index_or names m.name []; params = m.params } in h) (read_modules ms before rest).it ≡ map heading rest
headings_kept ms before [] names more = refl
headings_kept ms before (m ∷ rest) names more =
    let after = (read_module ms before m).names in
    let e = name_kept ms before m names (more_trans (more_modules ms after rest) more) in
    let i = headings_kept ms after rest names more in
    (ap (λ z. let h : Heading = record { name = z; params = length m.params } in
    h ∷ map (λ m. let h : Heading = record { name = slice_index_or names m.name []; params = m.params } in h) (read_modules ms after rest).it) e
    ∙ ap (λ z. heading m ∷ z) i)

texts_kept : (ms : List (List ℕ)) (before : List (List ℕ)) (rest : List raw.ModuleTree) (names : List (List ℕ)) → More (read_modules ms before rest).names names
    → map (λ m. slice_index_or names m.name []) (read_modules ms before rest).it ≡ map (λ m. m.name.text) rest
texts_kept ms before [] names more = refl
texts_kept ms before (m ∷ rest) names more =
    let after = (read_module ms before m).names in
    let e = name_kept ms before m names (more_trans (more_modules ms after rest) more) in
    let i = texts_kept ms after rest names more in
    (ap (λ z. z ∷ map (λ m. slice_index_or names m.name []) (read_modules ms after rest).it) e ∙ ap (λ z. m.name.text ∷ z) i)

pub headings_of_part : (p : ProgramTree) → headings_of (part_of p) ≡ map heading p.modules
headings_of_part p = let before = (read_clauses (module_names p) [] [] p.clauses).names in
    headings_kept (module_names p) before p.modules (part_of p).names (more_refl (part_of p).names)

pub modules_of_part : (p : ProgramTree) → modules_of (part_of p) ≡ module_names p
modules_of_part p = let before = (read_clauses (module_names p) [] [] p.clauses).names in
    texts_kept (module_names p) before p.modules (part_of p).names (more_refl (part_of p).names)

-- ---- the part of a whole program without a fault

pub part_valid : (p : ProgramTree) (names : ℕ) → program_faults p ≡ [] → IsWhole programs p → length (part_of p).names ≤ names
    → AreClauses names (part_of p).modules [] (part_of p).clauses × AreModules names (part_of p).modules (part_of p).modules
part_valid p names h whole le =
    let ms = module_names p in let heads = map heading p.modules in
    let before = (read_clauses ms [] [] p.clauses).names in
    let small = small_program p whole in
    let a = clauses_faults heads [] p.clauses in let b = modules_faults heads [] p.modules in (
      clauses_valid (part_of p).modules ms heads (finds_program p) names [] [] p.clauses small.clauses (none_left a b h)
          (omega (arith, (more_modules ms before p.modules).longer)),
      modules_valid (part_of p).modules ms heads (finds_program p) names before [] p.modules small.modules (none_right a b h) le,
    )

length_clauses : (ms : List (List ℕ)) (scope : Scope) (names : List (List ℕ)) (cs : List raw.ClauseTree)
    → length (read_clauses ms scope names cs).it ≡ length cs
length_clauses ms scope names [] = refl
length_clauses ms scope names (c ∷ cs) = ap (λ z. suc z) (length_clauses ms scope (read_clause ms scope names c).names cs)

-- ---- the variables of a query

pub more_asked : (names : List (List ℕ)) (vs : List (Option (List ℕ))) → More names (read_asked names vs).names
more_asked names [] = more_refl names
more_asked names (None ∷ vs) = more_asked names vs
more_asked names (Some w ∷ vs) = more_trans (more_named names w) (more_asked (with_name names w) vs)

pub length_asked : (names : List (List ℕ)) (vs : List (Option (List ℕ))) → length (read_asked names vs).it ≡ length vs
length_asked names [] = refl
length_asked names (None ∷ vs) = ap (λ z. suc z) (length_asked names vs)
length_asked names (Some w ∷ vs) = ap (λ z. suc z) (length_asked (with_name names w) vs)

asked_valid : (names : List (List ℕ)) (vs : List (Option (List ℕ))) (n : ℕ) → length (read_asked names vs).names ≤ n
    → list_all (is_asked n) (read_asked names vs).it ≡ true
asked_valid names [] n le = refl
asked_valid names (None ∷ vs) n le = asked_valid names vs n le
asked_valid names (Some w ∷ vs) n le =
    let named = with_name names w in
    and_intro _ _ (lt-ltb (number_in named w) n (omega (arith, number_below names w, (more_asked named vs).longer))) (asked_valid named vs n le)

-- ---- the problem

-- the problem that a query asks of a program's part
pub problem_valid : (p : ProgramTree) (query : Raw) (bound : ℕ) → program_faults p ≡ [] → query_faults (map heading p.modules) query ≡ [] → IsWhole programs p
    → IsWhole queries query
    → bound ≤ 1000000 → IsValid (problem_with (part_of p) query bound)
problem_valid p query bound faultless sorted whole_program whole_query le =
    let part = part_of p in let heads = map heading p.modules in
    let start : Met = record { names = part.names; variables = [] } in
    let r = read_form (modules_of part) [] start query in
    let asked = read_asked r.met.names r.met.variables in
    let names : ℕ = length asked.names in
    let room : Room = record { modules = part.modules; variables = length asked.it; names = names; most = largest_count } in
    let finds = subst (λ ms. Finds part.modules ms heads) (sym (modules_of_part p)) (finds_program p) in
    let small = small_query query whole_query in
    let few = more_asked r.met.names r.met.variables in
    let g : IsGood room GoalSide [] r.it =
    read_is_good room (modules_of part) heads finds GoalSide [] start query small.form sorted
    (record { names = few.longer; variables = omega (arith, length_asked r.met.names r.met.variables) }) small.light in
    let v = part_valid p names faultless whole_program (omega (arith, (longer_form (modules_of part) [] start query).names.longer, few.longer)) in
    record {
      goal = formula_of_fits (given part.modules (length asked.it)) GoalSide [] r.it g.fits;
      goal_limits = record { named = g.named 0; leaves = g.leaves; arguments = g.arguments 0 };
      clauses = v.0;
      modules = v.1;
      asked = asked_valid r.met.names r.met.variables names (omega arith);
      clause_count = omega (arith, length_clauses (module_names p) [] [] p.clauses, few-clauses p whole_program);
      bound = le;
    }

pub asked_problem_valid : (p : ProgramTree) (query : Raw) (bound : ℕ) (problem : ProblemTree) → Asks p query bound problem → IsWhole programs p
    → IsWhole queries query
    → bound ≤ 1000000 → IsValid problem
asked_problem_valid p query bound problem asks whole_program whole_query le =
    subst IsValid (sym asks.is) (problem_valid p query bound asks.program_faultless asks.query_faultless whole_program whole_query le)
