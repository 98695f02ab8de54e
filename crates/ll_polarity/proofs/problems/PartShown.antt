-- A module and a program's part, as the trees that are read.
use Rattle.std.proofs.Common.{◌≡◌, ℕ, List, [], length, map, Some, sym, subst, ap, ◌∙◌}
use Rattle.std.specs.Prelude.{unwrap_or}
use Rattle.std.proofs.lemmas.List.{length-map}
use Rattle.ll_bank.specs.Names.{with_name, number_of}
use Rattle.ll_bank.specs.Nodes.{Nodes, Extends}
use Rattle.ll_laws.specs.declared.Clause.{Clause}
use Rattle.ll_laws.specs.declared.Module.{Module}
use Rattle.ll_laws.specs.Shown.{clause_tree, module_tree, HasClauses}
use Rattle.ll_parser.specs.declared.RawClause.{RawClause}
use Rattle.ll_parser.specs.declared.RawModule.{RawModule}
use Rattle.ll_parser.specs.Nodes.{Node, identifier, shown_clause, shown_module, shown_program}
use Rattle.ll_polarity.specs.Asks.{ProgramPart, module_names, part_of, read_clauses, read_module, read_modules}
use Rattle.ll_polarity.specs.Faults.{Heading, heading, clauses_faults, modules_faults, program_faults}
use Rattle.ll_polarity.specs.Numbered.{text_of}
use Rattle.ll_polarity.specs.Places.{PlaceMap, FindsFirst}
use Rattle.ll_polarity.specs.Reading.{module_in, number_in}
use Rattle.ll_polarity.specs.Scope.{Scope, module_scope}
use Rattle.ll_polarity.proofs.putting.Clauses.{same_clauses}
use Rattle.ll_polarity.proofs.putting.ModuleRows.{places_shown}
use Rattle.ll_polarity.proofs.reading.Terms.{none_left, none_right}

module _ (texts : List (List ℕ)) (forms : List Node) where
  module _ (m : RawModule) (names met : List (List ℕ)) (w : List ℕ) (scope : Scope) (raws : List RawClause) (text : (identifier texts m.name).text ≡ w)
      (named : met ≡ with_name names w)
      (inside : scope ≡ module_scope (shown_module texts forms m)) (own : raws ≡ m.clauses.items) where
    all_named : met ≡ with_name names (identifier texts m.name).text
    all_named = named ∙ ap (with_name names) (sym text)

    -- the clauses of a module have no fault in the scope that the code opens
    pub clauses_faultless : (heads : List Heading) → (let s = shown_module texts forms m in clauses_faults heads (module_scope s) s.clauses ≡ [])
        → clauses_faults heads scope (map (shown_clause texts forms) raws) ≡ []
    clauses_faultless heads h = (λ i. clauses_faults heads (inside i) (map (shown_clause texts forms) (own i))) ∙ h

    -- a module that is put together is the one that is read
    pub module_shown : (ms : List (List ℕ)) (bank : Nodes) (x : Module) → number_of met w ≡ Some x.name → x.params ≡ length m.params.items
        → x.locals ≡ length m.locals.items
        → map (clause_tree bank) x.clauses.items ≡ (read_clauses ms scope met (map (shown_clause texts forms) raws)).it
        → module_tree bank x ≡ (read_module ms names (shown_module texts forms m)).it
    module_shown ms bank x numbered params locals shows =
        let number : x.name ≡ number_in (with_name names (identifier texts m.name).text) (identifier texts m.name).text =
        sym (ap (λ o. unwrap_or o 0) numbered) ∙ (λ i. number_in (all_named i) (sym text i)) in
        let p = params ∙ sym (length-map m.params.items (identifier texts)) in
        let l = locals ∙ sym (length-map m.locals.items (identifier texts)) in
        let cs = shows ∙ (λ i. (read_clauses ms (inside i) (all_named i) (map (shown_clause texts forms) (own i))).it) in
        λ i. record { name = number i; params = p i; locals = l i; clauses = cs i }

    -- and so are the names
    pub module_names_met : (ms : List (List ℕ)) (later : List (List ℕ)) → later ≡ (read_clauses ms scope met (map (shown_clause texts forms) raws)).names
        → later ≡ (read_module ms names (shown_module texts forms m)).names
    module_names_met ms later is = is ∙ (λ i. (read_clauses ms (inside i) (all_named i) (map (shown_clause texts forms) (own i))).names)

  -- the places of a program's modules
  pub places_found : (places : PlaceMap) (cs : List RawClause) (modules bodies : List RawModule) → bodies ≡ modules
      → FindsFirst places (map (λ m. text_of texts m.name.name) bodies)
      → FindsFirst places (module_names (shown_program texts forms cs modules))
  places_found places cs modules bodies e found = subst (FindsFirst places) (ap (map (λ m. text_of texts m.name.name)) e ∙ places_shown texts forms modules)
      found

  -- the part of a program without a fault
  pub part_shown : (places : List ℕ → ℕ) (cs raws : List RawClause) (modules bodies : List RawModule) (scope : Scope) (start met last : List (List ℕ))
      (old bank : Nodes) (put : List Clause) (made : List Module)
      → raws ≡ cs → bodies ≡ modules → scope ≡ [] → start ≡ [] → ((w : List ℕ) → places w ≡ module_in (module_names (shown_program texts forms cs modules)) w)
      → ((ms : List (List ℕ)) (heads : List Heading) → ((w : List ℕ) → places w ≡ module_in ms w)
      → clauses_faults heads scope (map (shown_clause texts forms) raws) ≡ []
      → map (clause_tree old) put ≡ (read_clauses ms scope start (map (shown_clause texts forms) raws)).it)
      → ((ms : List (List ℕ)) → met ≡ (read_clauses ms scope start (map (shown_clause texts forms) raws)).names)
      → ((ms : List (List ℕ)) (heads : List Heading) → ((w : List ℕ) → places w ≡ module_in ms w) → (earlier : List (List ℕ))
      → modules_faults heads earlier (map (shown_module texts forms) bodies) ≡ []
      → map (module_tree bank) made ≡ (read_modules ms met (map (shown_module texts forms) bodies)).it)
      → ((ms : List (List ℕ)) → last ≡ (read_modules ms met (map (shown_module texts forms) bodies)).names)
      → HasClauses old put → Extends old bank → program_faults (shown_program texts forms cs modules) ≡ []
      → (let x : ProgramPart = record { names = last; modules = map (module_tree bank) made; clauses = map (clause_tree bank) put } in x)
      ≡ part_of (shown_program texts forms cs modules)
  part_shown places cs raws modules bodies scope start met last old bank put made er eb es et first clauses_shown clauses_names modules_shown modules_names
      inside keeps h =
      let p = shown_program texts forms cs modules in
      let ms = module_names p in
      let heads = map heading p.modules in
      let a = none_left (clauses_faults heads [] p.clauses) (modules_faults heads [] p.modules) h in
      let b = none_right (clauses_faults heads [] p.clauses) (modules_faults heads [] p.modules) h in
      let shown = shown_clause texts forms in
      let n : met ≡ (read_clauses ms [] [] p.clauses).names = clauses_names ms ∙ (λ i. (read_clauses ms (es i) (et i) (map shown (er i))).names) in
      let c = same_clauses keeps put inside
      ∙ (clauses_shown ms heads first ((λ i. clauses_faults heads (es i) (map shown (er i))) ∙ a)
      ∙ (λ i. (read_clauses ms (es i) (et i) (map shown (er i))).it)) in
      let x = modules_shown ms heads first [] (ap (λ bs. modules_faults heads [] (map (shown_module texts forms) bs)) eb ∙ b)
      ∙ (λ i. (read_modules ms (n i) (map (shown_module texts forms) (eb i))).it) in
      let l = modules_names ms ∙ (λ i. (read_modules ms (n i) (map (shown_module texts forms) (eb i))).names) in
      λ i. record { names = l i; modules = x i; clauses = c i }
