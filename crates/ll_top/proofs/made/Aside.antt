-- What is visible in a module, and whether a program has a fault, does not hang on the places of tokens.
use Rattle.std.proofs.Common.{◌≡◌, ℕ, suc, Bool, true, false, List, [], ◌∷◌, ◌++◌, map, reverse, length, Option, Some, None, refl, ap}
use Rattle.std.proofs.Common.{◌∙◌, sym, length-append, arith}
use Rattle.std.specs.Prelude.{nat_eq, find, if◌then◌else◌}
use Rattle.std.specs.List.{list_any}
use Rattle.std.specs.Str.{bytes_eq}
use Rattle.std.proofs.lemmas.List.{map-append, length-map, reverse-append}
use Rattle.ll_lexer.specs.declared.Place.{Place}
use Rattle.ll_lexer.specs.declared.Fault.{Fault}
use Rattle.ll_laws.specs.Valid.{Side, ClauseSide}
use Rattle.ll_parser.specs.Tokens.{Identifier}
use Rattle.ll_parser.specs.Raw.{Raw, truth, erasure, braces, universal, existential, load, binary, is_goal, less_goal, most_goal, head, anything, int, RawList}
use Rattle.ll_parser.specs.Raw.{none, more, ClauseTree, ModuleTree, ProgramTree}
use Rattle.ll_parser.specs.Bare.{nowhere, bare_identifier, bare_raw, bare_raws, bare_clause, bare_module, bare_program}
use Rattle.ll_polarity.specs.Scope.{Scope, binds, declares, module_scope, meaning}
use Rattle.ll_polarity.specs.Faults.{unless, may_be_head, count, is_named, number_faults, applied_fault, term_faults, terms_faults, on_goal_side, left_side}
use Rattle.ll_polarity.specs.Faults.{right_side, may_join, Heading, load_fault, form_faults, clauses_faults, repeated, modules_faults, heading, program_faults}

-- ---- names, and what is made of them

turned-map : {A B : Type 0} (f : A → B) (xs : List A) → reverse (map f xs) ≡ map f (reverse xs)
turned-map f [] = refl
turned-map f (x ∷ xs) =
    reverse-append (f x ∷ []) (map f xs) ∙ (ap (λ z. z ++ f x ∷ []) (turned-map f xs) ∙ (sym (map-append f (reverse xs) (x ∷ []))
    ∙ ap (map f) (sym (reverse-append (x ∷ []) xs))))

-- what is made of texts alone is made of the bare names too
of-names : {B : Type 0} (f : Identifier → B) → ((n : Identifier) → f (bare_identifier n) ≡ f n) → (ns : List Identifier)
    → map f (reverse (map bare_identifier ns)) ≡ map f (reverse ns)
of-names f e ns = ap (map f) (turned-map bare_identifier ns) ∙ each (reverse ns)
  where
    each : (ns : List Identifier) → map f (map bare_identifier ns) ≡ map f ns
    each [] = refl
    each (n ∷ ns) = ap (λ z. z ∷ map f (map bare_identifier ns)) (e n) ∙ ap (λ z. f n ∷ z) (each ns)

-- what is visible in a module
pub scope-bare : (m : ModuleTree) → module_scope (bare_module m) ≡ module_scope m
scope-bare m =
    let p = of-names (λ n. binds n.text) (λ n. refl) m.params in
    let l = of-names (λ n. declares n.text) (λ n. refl) m.locals in
    ap (λ z. z ++ map (λ n. declares n.text) (reverse (map bare_identifier m.locals))) p
    ∙ ap (λ z. map (λ n. binds n.text) (reverse m.params) ++ z) l

-- and the headings of modules
pub headings-bare : (ms : List ModuleTree) → map heading (map bare_module ms) ≡ map heading ms
headings-bare [] = refl
headings-bare (m ∷ ms) =
    ap (λ n. let h : Heading = record { name = m.name.text; params = n } in h ∷ map heading (map bare_module ms)) (length-map m.params bare_identifier)
    ∙ ap (λ z. heading m ∷ z) (headings-bare ms)

-- ---- faults

-- as many faults
abbrev Same : List Fault → List Fault → Type 0
Same fs gs = length fs ≡ length gs

joined : (a b c d : List Fault) → Same a b → Same c d → Same (a ++ c) (b ++ d)
joined a b c d e f = omega (arith, length-append a c, length-append b d)

unless-same : (test : Bool) (kind : ℕ) (at there : Place) → Same (unless test kind at) (unless test kind there)
unless-same true kind at there = refl
unless-same false kind at there = refl

count-same : (rs : RawList) → count (bare_raws rs) ≡ count rs
count-same none = refl
count-same (more r rs) = ap suc (count-same rs)

applied-same : (scope : Scope) (n : Identifier) (args : RawList) → Same (applied_fault scope (bare_identifier n) (bare_raws args)) (applied_fault scope n args)
applied-same scope n none = refl
applied-same scope n (more r rs) = unless-same (may_be_head (meaning scope n.text)) 9 nowhere n.at

load-same : (h : Option Heading) (m : Identifier) (n : ℕ) → Same (load_fault h (bare_identifier m) n) (load_fault h m n)
load-same None m n = refl
load-same (Some h) m n = unless-same (nat_eq n h.params) 11 nowhere m.at

mutual
  term-same : (scope : Scope) (r : Raw) → Same (term_faults scope (bare_raw r)) (term_faults scope r)
  term-same scope (head n args) =
      joined (applied_fault scope (bare_identifier n) (bare_raws args)) (applied_fault scope n args) (terms_faults scope (bare_raws args))
      (terms_faults scope args)
      (applied-same scope n args) (terms-same scope args)
  term-same scope (anything at) = refl
  term-same scope (int at z) = refl
  term-same scope (truth at) = refl
  term-same scope (erasure at) = refl
  term-same scope (braces at r) = refl
  term-same scope (universal at n r) = refl
  term-same scope (existential at n r) = refl
  term-same scope (load at m args r) = refl
  term-same scope (binary o at l r) = refl
  term-same scope (is_goal at l r) = refl
  term-same scope (less_goal at l r) = refl
  term-same scope (most_goal at l r) = refl

  terms-same : (scope : Scope) (rs : RawList) → Same (terms_faults scope (bare_raws rs)) (terms_faults scope rs)
  terms-same scope none = refl
  terms-same scope (more r rs) =
      joined (term_faults scope (bare_raw r)) (term_faults scope r) (terms_faults scope (bare_raws rs)) (terms_faults scope rs) (term-same scope r)
      (terms-same scope rs)

-- three lists of faults in a row
joined-three : (a b c d e f : List Fault) → Same a b → Same c d → Same e f → Same ((a ++ c) ++ e) ((b ++ d) ++ f)
joined-three a b c d e f g h i = joined (a ++ c) (b ++ d) e f (joined a b c d g h) i

number-same : (side : Side) (scope : Scope) (at : Place) (l r : Raw)
    → Same (number_faults side scope nowhere (bare_raw l) (bare_raw r)) (number_faults side scope at l r)
number-same side scope at l r =
    joined-three (term_faults scope (bare_raw l)) (term_faults scope l) (unless (on_goal_side side) 7 nowhere) (unless (on_goal_side side) 7 at)
    (term_faults scope (bare_raw r)) (term_faults scope r)
    (term-same scope l) (unless-same (on_goal_side side) 7 nowhere at) (term-same scope r)

module _ (ms : List Heading) where
  form-same : (side : Side) (scope : Scope) (r : Raw) → Same (form_faults ms side scope (bare_raw r)) (form_faults ms side scope r)
  form-same side scope (truth at) = unless-same (on_goal_side side) 7 nowhere at
  form-same side scope (erasure at) = refl
  form-same side scope (braces at r) =
      joined (unless (on_goal_side side) 7 nowhere) (unless (on_goal_side side) 7 at) (form_faults ms side scope (bare_raw r)) (form_faults ms side scope r)
      (unless-same (on_goal_side side) 7 nowhere at) (form-same side scope r)
  form-same side scope (universal at n r) = form-same side (binds n.text ∷ scope) r
  form-same side scope (existential at n r) =
      let inner = binds n.text ∷ scope in
      joined (unless (on_goal_side side) 7 nowhere) (unless (on_goal_side side) 7 at) (form_faults ms side inner (bare_raw r)) (form_faults ms side inner r)
      (unless-same (on_goal_side side) 7 nowhere at) (form-same side inner r)
  form-same side scope (load at m args r) =
      let known = find (is_named m.text) ms in
      joined-three (load_fault known (bare_identifier m) (count (bare_raws args)) ++ terms_faults scope (bare_raws args))
      (load_fault known m (count args) ++ terms_faults scope args)
      (unless (on_goal_side side) 8 nowhere) (unless (on_goal_side side) 8 at) (form_faults ms side scope (bare_raw r)) (form_faults ms side scope r)
      (joined (load_fault known (bare_identifier m) (count (bare_raws args))) (load_fault known m (count args)) (terms_faults scope (bare_raws args))
      (terms_faults scope args)
      (ap (λ n. length (load_fault known (bare_identifier m) n)) (count-same args) ∙ load-same known m (count args)) (terms-same scope args))
      (unless-same (on_goal_side side) 8 nowhere at) (form-same side scope r)
  form-same side scope (binary o at l r) =
      joined-three (form_faults ms (left_side o side) scope (bare_raw l)) (form_faults ms (left_side o side) scope l) (unless (may_join o side) 7 nowhere)
      (unless (may_join o side) 7 at)
      (form_faults ms (right_side o side) scope (bare_raw r)) (form_faults ms (right_side o side) scope r)
      (form-same (left_side o side) scope l) (unless-same (may_join o side) 7 nowhere at) (form-same (right_side o side) scope r)
  form-same side scope (is_goal at l r) = number-same side scope at l r
  form-same side scope (less_goal at l r) = number-same side scope at l r
  form-same side scope (most_goal at l r) = number-same side scope at l r
  form-same side scope (head n args) =
      joined (unless (may_be_head (meaning scope n.text)) 9 nowhere) (unless (may_be_head (meaning scope n.text)) 9 n.at) (terms_faults scope (bare_raws args))
      (terms_faults scope args)
      (unless-same (may_be_head (meaning scope n.text)) 9 nowhere n.at) (terms-same scope args)
  form-same side scope (anything at) = refl
  form-same side scope (int at z) = refl

  clauses-same : (scope : Scope) (cs : List ClauseTree) → Same (clauses_faults ms scope (map bare_clause cs)) (clauses_faults ms scope cs)
  clauses-same scope [] = refl
  clauses-same scope (c ∷ cs) =
      joined (form_faults ms ClauseSide scope (bare_raw c.form)) (form_faults ms ClauseSide scope c.form) (clauses_faults ms scope (map bare_clause cs))
      (clauses_faults ms scope cs)
      (form-same ClauseSide scope c.form) (clauses-same scope cs)

  twice-same : (b : Bool) (at place : Place)
      → Same (if b then record { at = at; kind = 12 } ∷ [] else []) (if b then record { at = place; kind = 12 } ∷ [] else [])
  twice-same true at place = refl
  twice-same false at place = refl

  repeated-same : (earlier : List (List ℕ)) (ns : List Identifier) → Same (repeated earlier (map bare_identifier ns)) (repeated earlier ns)
  repeated-same earlier [] = refl
  repeated-same earlier (n ∷ ns) =
      let b = list_any (bytes_eq n.text) earlier in
      joined (if b then record { at = nowhere; kind = 12 } ∷ [] else []) (if b then record { at = n.at; kind = 12 } ∷ [] else [])
      (repeated (n.text ∷ earlier) (map bare_identifier ns)) (repeated (n.text ∷ earlier) ns) (twice-same b nowhere n.at)
      (repeated-same (n.text ∷ earlier) ns)

  modules-same : (earlier : List (List ℕ)) (rest : List ModuleTree) → Same (modules_faults ms earlier (map bare_module rest)) (modules_faults ms earlier rest)
  modules-same earlier [] = refl
  modules-same earlier (m ∷ rest) =
      let b = list_any (bytes_eq m.name.text) earlier in
      let params = map bare_identifier m.params in
      let locals = map bare_identifier m.locals in
      let own = clauses_faults ms (module_scope (bare_module m)) (map bare_clause m.clauses) in
      let others = modules_faults ms (m.name.text ∷ earlier) (map bare_module rest) in
      let ns : Same (repeated [] (params ++ locals)) (repeated [] (m.params ++ m.locals)) =
      ap (λ z. length (repeated [] z)) (sym (map-append bare_identifier m.params m.locals)) ∙ repeated-same [] (m.params ++ m.locals) in
      let cs : Same own (clauses_faults ms (module_scope m) m.clauses) =
      ap (λ z. length (clauses_faults ms z (map bare_clause m.clauses))) (scope-bare m) ∙ clauses-same (module_scope m) m.clauses in
      let names = repeated [] (params ++ locals) in
      let twice = if b then record { at = nowhere; kind = 12 } ∷ [] else [] in
      let old = if b then record { at = m.name.at; kind = 12 } ∷ [] else [] in
      let old_names = repeated [] (m.params ++ m.locals) in
      let old_own = clauses_faults ms (module_scope m) m.clauses in
      joined (twice ++ names ++ own) (old ++ old_names ++ old_own) others (modules_faults ms (m.name.text ∷ earlier) rest)
      (joined-three twice old names old_names own old_own (twice-same b nowhere m.name.at) ns cs)
      (modules-same (m.name.text ∷ earlier) rest)

-- a program has as many faults without its places
program-same : (p : ProgramTree) → Same (program_faults (bare_program p)) (program_faults p)
program-same p =
    let ms = map heading p.modules in
    let all : List Heading → List Fault = λ z. clauses_faults z [] (map bare_clause p.clauses) ++ modules_faults z [] (map bare_module p.modules) in
    ap (λ z. length (all z)) (headings-bare p.modules)
    ∙ joined (clauses_faults ms [] (map bare_clause p.clauses)) (clauses_faults ms [] p.clauses) (modules_faults ms [] (map bare_module p.modules))
    (modules_faults ms [] p.modules) (clauses-same ms [] p.clauses) (modules-same ms [] p.modules)

-- so one that is the same, places aside, as one without a fault has none
pub faultless-aside : (p q : ProgramTree) → bare_program q ≡ bare_program p → program_faults p ≡ [] → program_faults q ≡ []
faultless-aside p q e clean =
    none (program_faults q) (sym (program-same q) ∙ (ap (λ b. length (program_faults b)) e ∙ (program-same p ∙ ap length clean)))
  where
    none : (fs : List Fault) → length fs ≡ 0 → fs ≡ []
    none [] n = refl
    none (f ∷ fs) n = absurd (omega (arith, n))
