-- Raw trees and programs as trees of numbers, by which a proof tells them apart.
use Rattle.std.specs.Prelude.{◌≡◌, ℕ, Bool, List, refl}
use Rattle.std.specs.Coded.{Coded, code_by, coded×, coded_list, coded_ℕ, coded_ℤ, coded_bool}
use Rattle.std.proofs.Common.{ap}
use base.Stored.{Gv, gnil, gnum, gcons}
use Rattle.ll_bank.specs.Codes.{tags}
use Rattle.ll_lexer.specs.contracts.Place as place
use Rattle.ll_lexer.specs.declared.Place.{Place}
use Rattle.ll_parser.specs.contracts.Op as op
use Rattle.ll_parser.specs.Tokens.{Identifier}
use Rattle.ll_parser.specs.Raw.{Raw, truth, erasure, braces, universal, existential, load, binary, is_goal, less_goal, most_goal, head, anything, int, RawList}
use Rattle.ll_parser.specs.Raw.{none, more, ClauseTree, ModuleTree, ProgramTree}

-- a place, told apart
abbrev place_code : Coded Place
place_code = place.the_row.coded

-- a name or a variable, told apart
abbrev identifier_code : Coded Identifier
identifier_code = code_by (List ℕ × Place) (coded× (coded_list coded_ℕ) place_code) (λ n. (n.text, n.at)) (λ p. record { text = p.0; at = p.1 }) (λ _. refl)

-- the code of a raw tree: a number for its constructor, and behind it the codes of its parts
abbrev mutual
  pub code_raw : Raw → Gv
  code_raw (truth at) = gcons (gnum 0) (place_code.code at)
  code_raw (erasure at) = gcons (gnum 1) (place_code.code at)
  code_raw (anything at) = gcons (gnum 2) (place_code.code at)
  code_raw (int at z) = gcons (gnum 3) (gcons (place_code.code at) (coded_ℤ.code z))
  code_raw (head n rs) = gcons (gnum 4) (gcons (identifier_code.code n) (code_raws rs))
  code_raw (braces at r) = gcons (gnum 5) (gcons (place_code.code at) (code_raw r))
  code_raw (is_goal at l r) = gcons (gnum 6) (gcons (place_code.code at) (gcons (code_raw l) (code_raw r)))
  code_raw (less_goal at l r) = gcons (gnum 7) (gcons (place_code.code at) (gcons (code_raw l) (code_raw r)))
  code_raw (most_goal at l r) = gcons (gnum 8) (gcons (place_code.code at) (gcons (code_raw l) (code_raw r)))
  code_raw (universal at n r) = gcons (gnum 9) (gcons (place_code.code at) (gcons (identifier_code.code n) (code_raw r)))
  code_raw (existential at n r) = gcons (gnum 10) (gcons (place_code.code at) (gcons (identifier_code.code n) (code_raw r)))
  code_raw (load at n rs r) = gcons (gnum 11) (gcons (place_code.code at) (gcons (identifier_code.code n) (gcons (code_raws rs) (code_raw r))))
  code_raw (binary o at l r) = gcons (gnum 12) (gcons (op.the_row.coded.code o) (gcons (place_code.code at) (gcons (code_raw l) (code_raw r))))

  pub code_raws : RawList → Gv
  code_raws none = gcons (gnum 0) gnil
  code_raws (more r rs) = gcons (gnum 1) (gcons (code_raw r) (code_raws rs))

-- the first part of a pair
abbrev first : Gv → Gv
first (gcons a b) = a
first g = gnil

-- the second part of a pair
abbrev rest : Gv → Gv
rest (gcons a b) = b
rest g = gnil

-- the first part behind the number of a code
abbrev one : Gv → Gv
one g = first (rest g)

-- what is behind the first part
abbrev behind_one : Gv → Gv
behind_one g = rest (rest g)

-- the second part behind the number of a code
abbrev two : Gv → Gv
two g = first (behind_one g)

-- what is behind the second part
abbrev behind_two : Gv → Gv
behind_two g = rest (behind_one g)

-- the third part behind the number of a code
abbrev three : Gv → Gv
three g = first (behind_two g)

-- what is behind the third part
abbrev behind_three : Gv → Gv
behind_three g = rest (behind_two g)

-- raw trees with one code are one
mutual
  pub raw-inj : (x y : Raw) → code_raw x ≡ code_raw y → x ≡ y
  raw-inj (truth a) (truth b) p = ap truth (place_code.inj a b (ap rest p))
  raw-inj (erasure a) (erasure b) p = ap erasure (place_code.inj a b (ap rest p))
  raw-inj (anything a) (anything b) p = ap anything (place_code.inj a b (ap rest p))
  raw-inj (int a y) (int b z) p = λ i. int (place_code.inj a b (ap one p) i) (coded_ℤ.inj y z (ap behind_one p) i)
  raw-inj (head m rs) (head n ss) p = λ i. head (identifier_code.inj m n (ap one p) i) (raws-inj rs ss (ap behind_one p) i)
  raw-inj (braces a r) (braces b s) p = λ i. braces (place_code.inj a b (ap one p) i) (raw-inj r s (ap behind_one p) i)
  raw-inj (is_goal a l r) (is_goal b k s) p = λ i. is_goal (place_code.inj a b (ap one p) i) (raw-inj l k (ap two p) i) (raw-inj r s (ap behind_two p) i)
  raw-inj (less_goal a l r) (less_goal b k s) p = λ i. less_goal (place_code.inj a b (ap one p) i) (raw-inj l k (ap two p) i) (raw-inj r s (ap behind_two p) i)
  raw-inj (most_goal a l r) (most_goal b k s) p = λ i. most_goal (place_code.inj a b (ap one p) i) (raw-inj l k (ap two p) i) (raw-inj r s (ap behind_two p) i)
  raw-inj (universal a m r) (universal b n s) p = λ i. universal (place_code.inj a b (ap one p) i) (identifier_code.inj m n (ap two p) i)
      (raw-inj r s (ap behind_two p) i)
  raw-inj (existential a m r) (existential b n s) p = λ i. existential (place_code.inj a b (ap one p) i) (identifier_code.inj m n (ap two p) i)
      (raw-inj r s (ap behind_two p) i)
  raw-inj (load a m rs r) (load b n ss s) p =
      λ i. load (place_code.inj a b (ap one p) i) (identifier_code.inj m n (ap two p) i) (raws-inj rs ss (ap three p) i) (raw-inj r s (ap behind_three p) i)
  raw-inj (binary o a l r) (binary q b k s) p =
      λ i. binary (op.the_row.coded.inj o q (ap one p) i) (place_code.inj a b (ap two p) i) (raw-inj l k (ap three p) i) (raw-inj r s (ap behind_three p) i)
  raw-inj x y p = absurd (tags _ _ p)

  pub raws-inj : (xs ys : RawList) → code_raws xs ≡ code_raws ys → xs ≡ ys
  raws-inj none none p = refl
  raws-inj (more r rs) (more s ss) p = λ i. more (raw-inj r s (ap one p) i) (raws-inj rs ss (ap behind_one p) i)
  raws-inj xs ys p = absurd (tags _ _ p)

-- raw trees have a code
abbrev pub raw_code : Coded Raw
raw_code = record { code = code_raw; inj = raw-inj }

-- a clause, told apart
abbrev clause_code : Coded ClauseTree
clause_code = code_by (Bool × Raw) (coded× coded_bool raw_code) (λ c. (c.linear, c.form)) (λ p. record { linear = p.0; form = p.1 }) (λ _. refl)

-- a module, told apart
abbrev module_code : Coded ModuleTree
module_code =
    code_by (Identifier × (List Identifier × (List Identifier × List ClauseTree)))
    (coded× identifier_code (coded× (coded_list identifier_code) (coded× (coded_list identifier_code) (coded_list clause_code))))
    (λ m. (m.name, (m.params, (m.locals, m.clauses))))
    (λ p. record { name = p.0; params = p.1.0; locals = p.1.1.0; clauses = p.1.1.1 }) (λ _. refl)

-- programs have a code
abbrev pub program_code : Coded ProgramTree
program_code =
    code_by (List ClauseTree × List ModuleTree) (coded× (coded_list clause_code) (coded_list module_code)) (λ p. (p.clauses, p.modules))
    (λ q. record { clauses = q.0; modules = q.1 }) (λ _. refl)
