-- The part of a problem that a whole program without a fault fixes: its clauses and modules are valid.
use Rattle.std.proofs.Common.{◌≡◌, ℕ, ◌≤◌, true, false, List, [], ◌∷◌, ◌++◌, map, reverse, length, if◌then◌else◌, refl, subst, ap, ◌∙◌, arith}
use Rattle.std.specs.Prelude.{replicate}
use Rattle.std.specs.List.{list_any}
use Rattle.std.specs.Str.{bytes_eq}
use Rattle.std.proofs.lemmas.List.{map-append, length-reverse}
use Rattle.ll_bank.specs.Names.{with_name}
use Rattle.ll_lexer.specs.declared.Fault.{Fault}
use Rattle.ll_laws.specs.Module.{ModuleTree}
use Rattle.ll_laws.specs.Valid.{ClauseSide, IsFormula, IsWithinLimits, AreClauses, AreModules, given, largest_count}
use Rattle.ll_laws.proofs.CallerLemmas.{formula_of_fits}
use Rattle.ll_parser.specs.Tokens.{Identifier}
use Rattle.ll_parser.specs.Raw.{ProgramTree}
use Rattle.ll_parser.specs.Raw as raw
use Rattle.ll_parser.proofs.CallerLemmas.{IsSmall, AreSmall, HaveSmall}
use Rattle.ll_polarity.specs.Scope.{Scope, binds, declares, module_scope}
use Rattle.ll_polarity.specs.Reading.{read_form, quantified}
use Rattle.ll_polarity.specs.Faults.{Heading, form_faults, clauses_faults, repeated, modules_faults}
use Rattle.ll_polarity.specs.Asks.{read_clause, read_clauses, read_module, read_modules}
use Rattle.ll_polarity.proofs.reading.Grows.{More, more_refl, more_trans, more_named, number_below, longer_form}
use Rattle.ll_polarity.proofs.naming.Meanings.{places}
use Rattle.ll_polarity.proofs.reading.Terms.{none_left, none_right, Room}
use Rattle.ll_polarity.proofs.reading.Forms.{IsGood, Finds, read_is_good}
use Rattle.ll_polarity.proofs.putting.Quantified.{quantified_good}

-- ---- names only get more

module _ (ms : List (List ℕ)) where
  pub more_clause : (scope : Scope) (names : List (List ℕ)) (c : raw.ClauseTree) → More names (read_clause ms scope names c).names
  more_clause scope names c = (longer_form ms scope (record { names = names; variables = [] }) c.form).names

  pub more_clauses : (scope : Scope) (names : List (List ℕ)) (cs : List raw.ClauseTree) → More names (read_clauses ms scope names cs).names
  more_clauses scope names [] = more_refl names
  more_clauses scope names (c ∷ cs) = more_trans (more_clause scope names c) (more_clauses scope (read_clause ms scope names c).names cs)

  pub more_module : (names : List (List ℕ)) (m : raw.ModuleTree) → More names (read_module ms names m).names
  more_module names m = more_trans (more_named names m.name.text) (more_clauses (module_scope m) (with_name names m.name.text) m.clauses)

  pub more_modules : (names : List (List ℕ)) (rest : List raw.ModuleTree) → More names (read_modules ms names rest).names
  more_modules names [] = more_refl names
  more_modules names (m ∷ rest) = more_trans (more_module names m) (more_modules (read_module ms names m).names rest)

-- ---- the scope of a module's clauses

places_bound : (ns : List Identifier) → places (map (λ n. binds n.text) ns) ≡ replicate (length ns) false
places_bound [] = refl
places_bound (n ∷ ns) = ap (λ z. false ∷ z) (places_bound ns)

places_declared : (ns : List Identifier) → places (map (λ n. declares n.text) ns) ≡ replicate (length ns) true
places_declared [] = refl
places_declared (n ∷ ns) = ap (λ z. true ∷ z) (places_declared ns)

pub places_module : (m : raw.ModuleTree) → places (module_scope m) ≡ replicate (length m.params) false ++ replicate (length m.locals) true
places_module m =
    let a = map-append (λ b. b.local) (map (λ n. binds n.text) (reverse m.params)) (map (λ n. declares n.text) (reverse m.locals)) in
    let p = places_bound (reverse m.params) ∙ ap (λ k. replicate k false) (length-reverse m.params) in
    let l = places_declared (reverse m.locals) ∙ ap (λ k. replicate k true) (length-reverse m.locals) in
    a ∙ (ap (λ z. z ++ places (map (λ n. declares n.text) (reverse m.locals))) p ∙ ap (λ z. replicate (length m.params) false ++ z) l)

-- ---- clauses and modules

module _ (modules : List ModuleTree) (ms : List (List ℕ)) (heads : List Heading) (finds : Finds modules ms heads) (names : ℕ) where
  clause_valid : (scope : Scope) (before : List (List ℕ)) (c : raw.ClauseTree) → IsSmall largest_count c.form → form_faults heads ClauseSide scope c.form ≡ []
      → length (read_clause ms scope before c).names ≤ names
      → IsFormula (given modules 0) ClauseSide (places scope) (read_clause ms scope before c).it.form
      × IsWithinLimits names ClauseSide (read_clause ms scope before c).it.form
  clause_valid scope before c small h le =
      let r = read_form ms scope (record { names = before; variables = [] }) c.form in
      let room : Room = record { modules = modules; variables = length r.met.variables; names = names; most = largest_count } in
      let g : IsGood room ClauseSide (places scope) r.it = read_is_good room ms heads finds ClauseSide scope (record { names = before; variables = [] }) c.form
      small.form h (record { names = le; variables = omega arith }) small.light in
      let q = quantified_good room ClauseSide (places scope) r.it g in (
        formula_of_fits (given modules 0) ClauseSide (places scope) (quantified (length r.met.variables) r.it) q.fits,
        record { named = q.named 0; leaves = q.leaves; arguments = q.arguments 0 },
      )

  pub clauses_valid : (scope : Scope) (before : List (List ℕ)) (cs : List raw.ClauseTree) → AreSmall largest_count cs → clauses_faults heads scope cs ≡ []
      → length (read_clauses ms scope before cs).names ≤ names → AreClauses names modules (places scope) (read_clauses ms scope before cs).it
  clauses_valid scope before [] small h le = tt
  clauses_valid scope before (c ∷ cs) small h le =
      let f = form_faults heads ClauseSide scope c.form in let after = (read_clause ms scope before c).names in
      let v = clause_valid scope before c small.0 (none_left f (clauses_faults heads scope cs) h) (omega (arith, (more_clauses ms scope after cs).longer)) in
      (v.0, v.1, clauses_valid scope after cs small.1 (none_right f (clauses_faults heads scope cs) h) le)

  pub modules_valid : (before : List (List ℕ)) (earlier : List (List ℕ)) (rest : List raw.ModuleTree) → HaveSmall largest_count rest
      → modules_faults heads earlier rest ≡ []
      → length (read_modules ms before rest).names ≤ names → AreModules names modules (read_modules ms before rest).it
  modules_valid before earlier [] small h le = tt
  modules_valid before earlier (m ∷ rest) small h le =
      let a : List Fault = if list_any (bytes_eq m.name.text) earlier then record { at = m.name.at; kind = 12 } ∷ [] else [] in
      let b = repeated [] (m.params ++ m.locals) in let c = clauses_faults heads (module_scope m) m.clauses in
      let d = modules_faults heads (m.name.text ∷ earlier) rest in
      let named = with_name before m.name.text in let after = (read_module ms before m).names in
      let few : length after ≤ names = omega (arith, (more_modules ms after rest).longer) in (
        subst (λ s. AreClauses names modules s (read_module ms before m).it.clauses) (places_module m)
            (clauses_valid (module_scope m) named m.clauses small.0 (none_right (a ++ b) c (none_left (a ++ b ++ c) d h)) few),
        omega (arith, number_below before m.name.text, (more_clauses ms (module_scope m) named m.clauses).longer),
        modules_valid after (m.name.text ∷ earlier) rest small.1 (none_right (a ++ b ++ c) d h) le,
      )
