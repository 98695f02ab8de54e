-- The faults of whole programs and queries stand in the order of their tokens.
use Rattle.std.proofs.Common.{ℕ, Bool, true, false, List, [], ◌∷◌, ◌++◌, map, reverse, if◌then◌else◌, inl, inr, refl, sym, subst, append_assoc}
use Rattle.std.specs.List.{list_any, All}
use Rattle.std.specs.Str.{bytes_eq}
use Rattle.std.proofs.lemmas.Grind.{reverse_onto}
use Rattle.std.proofs.lemmas.List.Elements.{recursion_from_All}
use Rattle.std.proofs.lemmas.List.{map-append}
use Rattle.ll_lexer.specs.declared.Fault.{Fault}
use Rattle.ll_laws.specs.Valid.{GoalSide, ClauseSide}
use Rattle.ll_parser.specs.Tokens.{Identifier, Tok, name, module_word, linear_word, dot, IsSpelled}
use Rattle.ll_parser.specs.Raw.{Raw, ProgramTree}
use Rattle.ll_parser.specs.Grammar.{formula_tokens, formula_raw}
use Rattle.ll_parser.specs.Text.{Clause, plain, linear, Local, Module, Query, bare, dotted, clause_tokens, names, variables, local_tokens, heading_tokens}
use Rattle.ll_parser.specs.Text.{clauses_tokens, locals_tokens, module_tokens, modules_tokens, program_tokens, query_tokens, clause_tree, locals_of}
use Rattle.ll_parser.specs.Text.{module_tree, program_tree, query_tree, programs, queries}
use Rattle.ll_parser.specs.Reads.{Reads}
use Rattle.ll_parser.proofs.CallerLemmas.{Spelled, spelled-split}
use Rattle.ll_polarity.specs.Scope.{Scope, binds, declares, module_scope}
use Rattle.ll_polarity.specs.Faults.{form_faults, clauses_faults, repeated, modules_faults, Heading, heading, program_faults, query_faults, AreInOrder}
use Rattle.ll_polarity.proofs.reading.Signs.{IsNoSign, word_no_sign}
use Rattle.ll_polarity.proofs.faults.Order.{later, both, before, AtMostOne, here, NoSign, order_formula}

-- ---- clauses

module _ (heads : List Heading) where
  order_clause : (scope : Scope) → NoSign scope → (c : Clause) → Spelled (clause_tokens c)
      → AreInOrder (form_faults heads ClauseSide scope (clause_tree c).form) (clause_tokens c)
  order_clause scope n (plain f end) h =
      before (form_faults heads ClauseSide scope (formula_raw f)) (formula_tokens f) (dot end ∷ [])
      (order_formula heads ClauseSide scope n f (spelled-split (formula_tokens f) (dot end ∷ []) h).0)
  order_clause scope n (linear at f end) h =
      let v = form_faults heads ClauseSide scope (formula_raw f) in
      later v (linear_word at) (formula_tokens f ++ dot end ∷ [])
      (before v (formula_tokens f) (dot end ∷ []) (order_formula heads ClauseSide scope n f (spelled-split (formula_tokens f) (dot end ∷ []) h.1).0))

  order_clauses : (scope : Scope) → NoSign scope → (cs : List Clause) → Spelled (clauses_tokens cs)
      → AreInOrder (clauses_faults heads scope (map clause_tree cs)) (clauses_tokens cs)
  order_clauses scope n [] h = tt
  order_clauses scope n (c ∷ cs) h =
      let k = spelled-split (clause_tokens c) (clauses_tokens cs) h in
      both (form_faults heads ClauseSide scope (clause_tree c).form) (clauses_faults heads scope (map clause_tree cs)) (clause_tokens c) (clauses_tokens cs)
      (order_clause scope n c k.0) (order_clauses scope n cs k.1)

-- ---- the names of a module

-- a fault at each of the names
abbrev at_names : List Identifier → List Fault
at_names ns = map (λ n. let f : Fault = record { at = n.at; kind = 12 } in f) ns

one_repeated : (b : Bool) (n : Identifier) → AtMostOne n.at (if b then record { at = n.at; kind = 12 } ∷ [] else [])
one_repeated true n = refl
one_repeated false n = tt

order_repeated : (earlier : List (List ℕ)) (ns : List Identifier) (ts : List Tok) → AreInOrder (at_names ns) ts → AreInOrder (repeated earlier ns) ts
order_repeated earlier [] ts h = tt
order_repeated earlier (n ∷ ns) [] h = absurd h
order_repeated earlier (n ∷ ns) (t ∷ ts) h =
    elim h [
      | inl p ↦ here (if list_any (bytes_eq n.text) earlier then record { at = n.at; kind = 12 } ∷ [] else []) (repeated (n.text ∷ earlier) ns) t ts n.at
          (one_repeated (list_any (bytes_eq n.text) earlier) n) (sym p.0)
          (order_repeated (n.text ∷ earlier) ns ts p.1)
      | inr q ↦ later (repeated earlier (n ∷ ns)) t ts (order_repeated earlier (n ∷ ns) ts q)
    ]

order_variables : (ns : List Identifier) → AreInOrder (at_names ns) (variables ns)
order_variables [] = tt
order_variables (n ∷ ns) = inl (refl, order_variables ns)

order_names : (ns : List Identifier) → AreInOrder (at_names ns) (names ns)
order_names [] = tt
order_names (n ∷ ns) = inl (refl, order_names ns)

both_names : (ms ns : List Identifier) (ts us : List Tok) → AreInOrder (at_names ms) ts → AreInOrder (at_names ns) us
    → AreInOrder (at_names (ms ++ ns)) (ts ++ us)
both_names ms ns ts us h k =
    subst (λ z. AreInOrder z (ts ++ us)) (sym (map-append (λ n. let f : Fault = record { at = n.at; kind = 12 } in f) ms ns))
    (both (at_names ms) (at_names ns) ts us h k)

order_locals : (ls : List Local) → AreInOrder (at_names (locals_of ls)) (locals_tokens ls)
order_locals [] = tt
order_locals (l ∷ ls) =
    inr (inl (
      refl,
      both_names l.others (locals_of ls) (names l.others ++ dot l.end ∷ []) (locals_tokens ls)
          (before (at_names l.others) (names l.others) (dot l.end ∷ []) (order_names l.others)) (order_locals ls),
    ))

-- ---- nothing of a module binds a sign

abbrev NoSigns : List Identifier → Type 0
NoSigns [] = Unit {0}
NoSigns (n ∷ ns) = IsNoSign n.text × NoSigns ns

signs_both : (ms ns : List Identifier) → NoSigns ms → NoSigns ns → NoSigns (ms ++ ns)
signs_both [] ns h k = k
signs_both (m ∷ ms) ns h k = (h.0, signs_both ms ns h.1 k)

signs_reverse : (ns : List Identifier) → NoSigns ns → NoSigns (reverse ns)
signs_reverse [] h = tt
signs_reverse (n ∷ ns) h = subst NoSigns (sym (reverse_onto ns n [])) (signs_both (reverse ns) (n ∷ []) (signs_reverse ns h.1) (h.0, tt))

signs_variables : (ns : List Identifier) (ts : List Tok) → Spelled (variables ns ++ ts) → NoSigns ns
signs_variables [] ts h = tt
signs_variables (n ∷ ns) ts h = (word_no_sign n (inr h.0), signs_variables ns ts h.1)

signs_names : (ns : List Identifier) (ts : List Tok) → Spelled (names ns ++ ts) → NoSigns ns
signs_names [] ts h = tt
signs_names (n ∷ ns) ts h = (word_no_sign n (inl h.0), signs_names ns ts h.1)

signs_locals : (ls : List Local) → Spelled (locals_tokens ls) → NoSigns (locals_of ls)
signs_locals [] h = tt
signs_locals (l ∷ ls) h =
    let k = spelled-split (local_tokens l) (locals_tokens ls) h in
    (word_no_sign l.first (inl k.0.1.0), signs_both l.others (locals_of ls) (signs_names l.others (dot l.end ∷ []) k.0.1.1) (signs_locals ls k.1))

no_sign_declared : (ns : List Identifier) → NoSigns ns → NoSign (map (λ n. declares n.text) ns)
no_sign_declared [] h = tt
no_sign_declared (n ∷ ns) h = (h.0, no_sign_declared ns h.1)

no_sign_bound : (ns : List Identifier) (scope : Scope) → NoSigns ns → NoSign scope → NoSign (map (λ n. binds n.text) ns ++ scope)
no_sign_bound [] scope h k = k
no_sign_bound (n ∷ ns) scope h k = (h.0, no_sign_bound ns scope h.1 k)

-- ---- modules, programs and queries

module _ (heads : List Heading) where
  no_sign_module : (m : Module) → Spelled (module_tokens m) → NoSign (module_scope (module_tree m))
  no_sign_module m h =
      let k = spelled-split (heading_tokens m.heading) (locals_tokens m.locals ++ clauses_tokens m.clauses) h in
      let l = spelled-split (locals_tokens m.locals) (clauses_tokens m.clauses) k.1 in
      no_sign_bound (reverse m.heading.params) (map (λ n. declares n.text) (reverse (locals_of m.locals)))
      (signs_reverse m.heading.params (signs_variables m.heading.params (dot m.heading.end ∷ []) k.0.1.1))
      (no_sign_declared (reverse (locals_of m.locals)) (signs_reverse (locals_of m.locals) (signs_locals m.locals l.0)))

  order_modules : (earlier : List (List ℕ)) (ms : List Module) → Spelled (modules_tokens ms)
      → AreInOrder (modules_faults heads earlier (map module_tree ms)) (modules_tokens ms)
  order_modules earlier [] h = tt
  order_modules earlier (m ∷ ms) h =
      let k = spelled-split (module_tokens m) (modules_tokens ms) h in
      let l = spelled-split (heading_tokens m.heading) (locals_tokens m.locals ++ clauses_tokens m.clauses) k.0 in
      let n = m.heading.name in let params = m.heading.params in let locals = locals_of m.locals in
      let a : List Fault = if list_any (bytes_eq n.text) earlier then record { at = n.at; kind = 12 } ∷ [] else [] in
      let b = repeated [] (params ++ locals) in let c = clauses_faults heads (module_scope (module_tree m)) (map clause_tree m.clauses) in
      let line = variables params ++ dot m.heading.end ∷ [] in
      let ls = locals_tokens m.locals in let cs = clauses_tokens m.clauses in
      let in_names : AreInOrder b (line ++ ls) =
      order_repeated [] (params ++ locals) (line ++ ls) (both_names params locals line ls
      (before (at_names params) (variables params) (dot m.heading.end ∷ []) (order_variables params)) (order_locals m.locals)) in
      let in_clauses : AreInOrder c cs = order_clauses heads (module_scope (module_tree m)) (no_sign_module m k.0) m.clauses (spelled-split ls cs l.1).1 in
      let inside : AreInOrder (b ++ c) (line ++ (ls ++ cs)) =
      subst (AreInOrder (b ++ c)) (append_assoc line ls cs) (both b c (line ++ ls) cs in_names in_clauses) in
      let whole : AreInOrder (a ++ (b ++ c)) (module_tokens m) =
      later (a ++ (b ++ c)) (module_word m.heading.word) (name n ∷ (line ++ (ls ++ cs)))
      (here a (b ++ c) (name n) (line ++ (ls ++ cs)) n.at (one_repeated (list_any (bytes_eq n.text) earlier) n) refl inside) in
      both (a ++ b ++ c) (modules_faults heads (n.text ∷ earlier) (map module_tree ms)) (module_tokens m) (modules_tokens ms)
      (subst (λ z. AreInOrder z (module_tokens m)) (sym (append_assoc a b c)) whole) (order_modules (n.text ∷ earlier) ms k.1)

pub order_program : (limit : ℕ) (ts : List Tok) (program : ProgramTree) → All IsSpelled ts → Reads programs limit ts program
    → AreInOrder (program_faults program) ts
order_program limit ts program spelled ((p, e, f), within) =
    subst (λ z. AreInOrder (program_faults z) ts) f (subst (AreInOrder (program_faults (program_tree p))) e whole)
  where
    heads : List Heading
    heads = map heading (map module_tree p.modules)

    parts : Spelled (clauses_tokens p.clauses) × Spelled (modules_tokens p.modules)
    parts = spelled-split (clauses_tokens p.clauses) (modules_tokens p.modules) (subst Spelled (sym e) (recursion_from_All IsSpelled ts spelled))

    whole : AreInOrder (program_faults (program_tree p)) (program_tokens p)
    whole =
        both (clauses_faults heads [] (map clause_tree p.clauses)) (modules_faults heads [] (map module_tree p.modules)) (clauses_tokens p.clauses)
        (modules_tokens p.modules)
        (order_clauses heads [] tt p.clauses parts.0) (order_modules heads [] p.modules parts.1)

pub order_query : (limit : ℕ) (ts : List Tok) (query : Raw) (modules : List Heading) → All IsSpelled ts → Reads queries limit ts query
    → AreInOrder (query_faults modules query) ts
order_query limit ts query modules spelled ((q, e, f), within) =
    subst (λ z. AreInOrder (query_faults modules z) ts) f (subst (AreInOrder (query_faults modules (query_tree q))) e
    (by q (subst Spelled (sym e) (recursion_from_All IsSpelled ts spelled))))
  where
    by : (q : Query) → Spelled (query_tokens q) → AreInOrder (query_faults modules (query_tree q)) (query_tokens q)
    by (bare g) h = order_formula modules GoalSide [] tt g h
    by (dotted g end) h =
        before (query_faults modules (formula_raw g)) (formula_tokens g) (dot end ∷ [])
        (order_formula modules GoalSide [] tt g (spelled-split (formula_tokens g) (dot end ∷ []) h).0)
