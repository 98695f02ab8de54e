-- Worked examples: what texts ask and which faults they have, computed on raw trees.
use Rattle.std.proofs.Common.{◌≡◌, ℕ, refl, List, [], ◌∷◌}
use Rattle.std.specs.Prelude.{false, pos, Some, codes}
use Rattle.ll_lexer.specs.declared.Place.{Place}
use Rattle.ll_laws.specs.declared.Kind.TheVariants.{Unbounded}
use Rattle.ll_bank.specs.declared.Head.TheVariants.{Name, Bound}
use Rattle.ll_bank.specs.Term.{Term, Var, Int, Con, Ap, app}
use Rattle.ll_bank.specs.Form.{Form, Atom, Tensor, Lolli, Forall, Use}
use Rattle.ll_parser.specs.declared.Op.TheVariants as op
use Rattle.ll_parser.specs.Tokens.{Identifier}
use Rattle.ll_parser.specs.Raw.{Raw, truth, universal, existential, load, binary, head, anything, int, none, more, ClauseTree, ProgramTree}
use Rattle.ll_polarity.specs.Faults.{heading, program_faults, query_faults}
use Rattle.ll_polarity.specs.Asks.{part_of, problem_with}

abbrev at : ℕ → ℕ → Place
at l c = record { line = l; column = c }

abbrev named : List ℕ → ℕ → ℕ → Identifier
named w l c = record { text = w; at = at l c }

-- a name without arguments
abbrev word : List ℕ → ℕ → ℕ → Raw
word w l c = head (named w l c) none

-- a name with one argument
abbrev with_one : List ℕ → ℕ → ℕ → Raw → Raw
with_one w l c r = head (named w l c) (more r none)

abbrev plain : Raw → ClauseTree
plain r = record { linear = false; form = r }

abbrev clauses : List ClauseTree → ProgramTree
clauses cs = record { clauses = cs; modules = [] }

abbrev atom : ℕ → List Term → Form
atom n ts = Atom (app (Name n) ts)

abbrev place : ℕ → Term
place k = Con (Bound k)

-- `p X :- forall x\ q X x _ Y , r Y _.`: X, the first `_`, Y and the second `_` are quantified over the clause, X outermost
variables_in_order : part_of (clauses (plain (binary op.ColonDash (at 1 5) (with_one (codes "p") 1 1 (word (codes "X") 1 3))
    (universal (at 1 8) (named (codes "x") 1 15)
    (binary op.Tensor (at 1 26) (head (named (codes "q") 1 18)
    (more (word (codes "X") 1 20) (more (word (codes "x") 1 22) (more (anything (at 1 24)) (more (word (codes "Y") 1 26) none)))))
    (head (named (codes "r") 1 28) (more (word (codes "Y") 1 30) (more (anything (at 1 32)) none)))))) ∷ []))
    ≡ record {
      names = codes "p" ∷ codes "q" ∷ codes "r" ∷ [];
      modules = [];
      clauses =
          record {
            kind = Unbounded;
            form = Forall (Forall (Forall (Forall (Lolli
                (Forall (Tensor (atom 1 (place 4 ∷ place 0 ∷ place 3 ∷ place 2 ∷ [])) (atom 2 (place 2 ∷ place 1 ∷ []))))
                (atom 0 (place 3 ∷ []))))));
          }
          ∷ [];
    }
variables_in_order = refl

-- `MODULE m X. LOCAL k. k X. get Y :- k Y.`
abbrev getter : ProgramTree
getter = record {
  clauses = [];
  modules =
      record {
        name = named (codes "m") 1 8;
        params = named (codes "X") 1 10 ∷ [];
        locals = named (codes "k") 2 7 ∷ [];
        clauses =
            plain (with_one (codes "k") 3 1 (word (codes "X") 3 3))
            ∷ plain (binary op.ColonDash (at 4 7) (with_one (codes "get") 4 1 (word (codes "Y") 4 5)) (with_one (codes "k") 4 10 (word (codes "Y") 4 12)))
            ∷ [];
      }
      ∷ [];
}

locals_and_parameters : part_of getter
    ≡ record {
      names = codes "m" ∷ codes "get" ∷ [];
      modules =
          record {
            name = 0;
            params = 1;
            locals = 1;
            clauses =
                record { kind = Unbounded; form = Atom (Ap (place 1) (place 0)) }
                ∷ record { kind = Unbounded; form = Forall (Lolli (Atom (Ap (place 2) (place 0))) (atom 1 (place 0 ∷ []))) }
                ∷ [];
          }
          ∷ [];
      clauses = [];
    }
locals_and_parameters = refl

-- `m 1 --> get Z` over it
load_in_a_query : problem_with (part_of getter) (load (at 1 5) (named (codes "m") 1 1) (more (int (at 1 3) (pos 1)) none)
    (with_one (codes "get") 1 9 (word (codes "Z") 1 13))) 5
    ≡ record {
      names = codes "m" ∷ codes "get" ∷ codes "Z" ∷ [];
      modules = (part_of getter).modules;
      clauses = [];
      goal = Use 0 (Int (pos 1) ∷ []) (atom 1 (Var 0 ∷ []));
      asked = Some 2 ∷ [];
      bound = 5;
    }
load_in_a_query = refl

-- `m --> true` over it
wrong_number_of_arguments : query_faults (heading (record { name = named (codes "m") 1 8; params = named (codes "X") 1 10 ∷ []; locals = []; clauses = [] })
    ∷ []) (load (at 1 3) (named (codes "m") 1 1) none (truth (at 1 7)))
    ≡ record { at = at 1 1; kind = 11 } ∷ []
wrong_number_of_arguments = refl

unknown_module : query_faults [] (load (at 1 3) (named (codes "n") 1 1) none (truth (at 1 7))) ≡ record { at = at 1 1; kind = 10 } ∷ []
unknown_module = refl

-- `p :- X.`
variable_as_predicate : program_faults (clauses (plain (binary op.ColonDash (at 1 3) (word (codes "p") 1 1) (word (codes "X") 1 6)) ∷ []))
    ≡ record { at = at 1 6; kind = 9 } ∷ []
variable_as_predicate = refl

-- `p , q.`
tensor_where_a_clause_is_needed : program_faults (clauses (plain (binary op.Tensor (at 1 3) (word (codes "p") 1 1) (word (codes "q") 1 5)) ∷ []))
    ≡ record { at = at 1 3; kind = 7 } ∷ []
tensor_where_a_clause_is_needed = refl

-- `true , q.`: the first place in the text
first_in_the_text : program_faults (clauses (plain (binary op.Tensor (at 1 6) (truth (at 1 1)) (word (codes "q") 1 8)) ∷ [])) ≡ record { at = at 1 1; kind = 7 }
    ∷ record { at = at 1 6; kind = 7 } ∷ []
first_in_the_text = refl

-- `MODULE m.` and `m --> a.`
load_in_a_clause : program_faults (record {
  clauses = [];
  modules =
      record {
        name = named (codes "m") 1 8;
        params = [];
        locals = [];
        clauses =
            plain (load (at 2 3) (named (codes "m") 2 1) none (word (codes "a") 2 7)) ∷ [];
      }
      ∷ [];
})
    ≡ record { at = at 2 3; kind = 8 } ∷ []
load_in_a_clause = refl

-- `MODULE m. LOCAL k k.`
declared_twice : program_faults (record {
  clauses = [];
  modules =
      record { name = named (codes "m") 1 8; params = []; locals = named (codes "k") 2 7 ∷ named (codes "k") 2 9 ∷ []; clauses = [] } ∷ [];
})
    ≡ record { at = at 2 9; kind = 12 } ∷ []
declared_twice = refl

-- `p :- (exists x\ q x) -o r.`: the left part of `-o` in a goal is a clause
goal_as_a_clause : program_faults (clauses (plain (binary op.ColonDash (at 1 3) (word (codes "p") 1 1)
    (binary op.Lolli (at 1 22) (existential (at 1 7) (named (codes "x") 1 14) (with_one (codes "q") 1 17 (word (codes "x") 1 19))) (word (codes "r") 1 25)))
    ∷ []))
    ≡ record { at = at 1 7; kind = 7 } ∷ []
goal_as_a_clause = refl

-- `forall x\ (p x , forall x\ q x)` in a query: the inner x is the inner quantifier's
innermost_binder : (problem_with (part_of (clauses [])) (universal (at 1 1) (named (codes "x") 1 8)
    (binary op.Tensor (at 1 16) (with_one (codes "p") 1 12 (word (codes "x") 1 14))
    (universal (at 1 18) (named (codes "x") 1 25) (with_one (codes "q") 1 28 (word (codes "x") 1 30))))) 1).goal
    ≡ Forall (Tensor (atom 0 (place 0 ∷ [])) (Forall (atom 1 (place 0 ∷ []))))
innermost_binder = refl

-- `((b ; c) -o a) -o d` in a query has no fault, and `(a -o (b ; c)) -o d` has one: sides change at the left of each implication
goal_under_two_implications : query_faults []
    (binary op.Lolli (at 1 17) (binary op.Lolli (at 1 10) (binary op.Plus (at 1 5) (word (codes "b") 1 3) (word (codes "c") 1 7)) (word (codes "a") 1 13))
    (word (codes "d") 1 20))
    ≡ []
goal_under_two_implications = refl

clause_under_an_implication : query_faults []
    (binary op.Lolli (at 1 17) (binary op.Lolli (at 1 4) (word (codes "a") 1 2) (binary op.Plus (at 1 10) (word (codes "b") 1 8) (word (codes "c") 1 12)))
    (word (codes "d") 1 20))
    ≡ record { at = at 1 10; kind = 7 } ∷ []
clause_under_an_implication = refl

-- `n --> a.` in a clause, where no module is called `n`
unknown_module_in_a_clause : program_faults (clauses (plain (load (at 1 3) (named (codes "n") 1 1) none (word (codes "a") 1 7)) ∷ []))
    ≡ record { at = at 1 1; kind = 10 } ∷ record { at = at 1 3; kind = 8 } ∷ []
unknown_module_in_a_clause = refl

-- `p (X a).`
variable_with_arguments : program_faults (clauses (plain (with_one (codes "p") 1 1 (with_one (codes "X") 1 4 (word (codes "a") 1 6))) ∷ []))
    ≡ record { at = at 1 4; kind = 9 } ∷ []
variable_with_arguments = refl

-- `MODULE m X. X.`
parameter_as_predicate : program_faults (record {
  clauses = [];
  modules = record { name = named (codes "m") 1 8; params = named (codes "X") 1 10 ∷ []; locals = []; clauses = plain (word (codes "X") 1 13) ∷ [] } ∷ [];
})
    ≡ record { at = at 1 13; kind = 9 } ∷ []
parameter_as_predicate = refl

-- `MODULE m. MODULE m.`
module_twice : program_faults (record {
  clauses = [];
  modules =
      record { name = named (codes "m") 1 8; params = []; locals = []; clauses = [] }
      ∷ record { name = named (codes "m") 2 8; params = []; locals = []; clauses = [] }
      ∷ [];
})
    ≡ record { at = at 2 8; kind = 12 } ∷ []
module_twice = refl

-- `MODULE m. p :- m --> p.`: a module may load itself
abbrev loads_itself : ProgramTree
loads_itself = record {
  clauses = [];
  modules =
      record {
        name = named (codes "m") 1 8;
        params = [];
        locals = [];
        clauses = plain (binary op.ColonDash (at 2 3) (word (codes "p") 2 1) (load (at 2 8) (named (codes "m") 2 6) none (word (codes "p") 2 12))) ∷ [];
      }
      ∷ [];
}

loads_itself_without_a_fault : program_faults loads_itself ≡ []
loads_itself_without_a_fault = refl

loads_itself_as_a_part : (part_of loads_itself).modules
    ≡ record { name = 0; params = 0; locals = 0; clauses = record { kind = Unbounded; form = Lolli (Use 0 [] (atom 1 [])) (atom 1 []) } ∷ [] } ∷ []
loads_itself_as_a_part = refl

-- `MODULE m X Y. LOCAL a b. p a b X Y. p :- forall X\ q X.`: places count from the inside, first Y, then X, b and a
places_of_a_module : (part_of (record {
  clauses = [];
  modules =
      record {
        name = named (codes "m") 1 8;
        params = named (codes "X") 1 10 ∷ named (codes "Y") 1 12 ∷ [];
        locals = named (codes "a") 2 7 ∷ named (codes "b") 2 9 ∷ [];
        clauses =
            plain (head (named (codes "p") 3 1) (more (word (codes "a") 3 3)
            (more (word (codes "b") 3 5) (more (word (codes "X") 3 7) (more (word (codes "Y") 3 9) none)))))
            ∷ plain (binary op.ColonDash (at 4 3) (word (codes "p") 4 1)
            (universal (at 4 6) (named (codes "X") 4 13) (with_one (codes "q") 4 16 (word (codes "X") 4 18))))
            ∷ [];
      }
      ∷ [];
})).modules
    ≡ record {
      name = 0;
      params = 2;
      locals = 2;
      clauses =
          record { kind = Unbounded; form = atom 1 (place 3 ∷ place 2 ∷ place 1 ∷ place 0 ∷ []) }
          ∷ record { kind = Unbounded; form = Lolli (Forall (atom 2 (place 0 ∷ []))) (atom 1 []) }
          ∷ [];
    }
    ∷ []
places_of_a_module = refl

-- `p p (p 1).`: one name as a predicate, a constant and a function
one_name_of_three_uses : part_of
    (clauses (plain (head (named (codes "p") 1 1) (more (word (codes "p") 1 3) (more (with_one (codes "p") 1 6 (int (at 1 8) (pos 1))) none))) ∷ []))
    ≡ record {
      names = codes "p" ∷ [];
      modules = [];
      clauses = record { kind = Unbounded; form = atom 0 (Con (Name 0) ∷ Ap (Con (Name 0)) (Int (pos 1)) ∷ []) } ∷ [];
    }
one_name_of_three_uses = refl
