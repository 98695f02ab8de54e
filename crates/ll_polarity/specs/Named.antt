-- Raw trees in which each name has a text.
use Rattle.std.specs.Prelude.{◌<◌, length, All}
use Rattle.ll_parser.specs.Tokens.{Identifier}
use Rattle.ll_parser.specs.Raw.{Raw, truth, erasure, braces, universal, existential, load, binary, is_goal, less_goal, most_goal, head, anything, int, RawList}
use Rattle.ll_parser.specs.Raw.{none, more, ModuleTree, ProgramTree}

-- the text of a name has a byte at least
abbrev pub HasText : Identifier → Type 0
HasText n = 0 < length n.text

abbrev mutual
  -- each name in a formula or a term has a text
  pub IsNamed : Raw → Type 0
  IsNamed (truth at) = Unit {0}
  IsNamed (erasure at) = Unit {0}
  IsNamed (braces at r) = IsNamed r
  IsNamed (universal at n r) = HasText n × IsNamed r
  IsNamed (existential at n r) = HasText n × IsNamed r
  IsNamed (load at m args r) = HasText m × AreNamed args × IsNamed r
  IsNamed (binary o at l r) = IsNamed l × IsNamed r
  IsNamed (is_goal at l r) = IsNamed l × IsNamed r
  IsNamed (less_goal at l r) = IsNamed l × IsNamed r
  IsNamed (most_goal at l r) = IsNamed l × IsNamed r
  IsNamed (head n args) = HasText n × AreNamed args
  IsNamed (anything at) = Unit {0}
  IsNamed (int at z) = Unit {0}

  pub AreNamed : RawList → Type 0
  AreNamed none = Unit {0}
  AreNamed (more r rs) = IsNamed r × AreNamed rs

-- each name of a module has a text
pub record IsModuleNamed (m : ModuleTree) : Type 0 where
  pub name : HasText m.name
  pub params : All HasText m.params
  pub locals : All HasText m.locals
  pub clauses : All (λ c. IsNamed c.form) m.clauses

-- each name of a program has a text
pub record IsProgramNamed (p : ProgramTree) : Type 0 where
  pub clauses : All (λ c. IsNamed c.form) p.clauses
  pub modules : All IsModuleNamed p.modules
