-- The fields of a line: what is read of one, and what is wrong behind the good ones.
use Rattle.std.specs.Prelude.{◌≡◌, ℕ, ◌<◌, ◌^◌, true, false, List, [], ◌∷◌, ◌++◌, length, map, All, decimal, IsTrue, ◌⊎◌}
use Rattle.std.specs.List.{flat_map, list_all}
use Rattle.ll_bank.specs.declared.At.{At}
use Rattle.ll_bank.specs.Nodes.{Nodes}
use Rattle.ll_laws.specs.Line.{rises, part_rises}
use Rattle.ll_laws.specs.ProofText.{field, set_text, part_field}
use Rattle.ll_laws.specs.ShownLines.{part_line}
use Rattle.ll_laws.specs.declared.Part.{Part}
use Rattle.ll_laws.specs.declared.Rule.{Rule}
use Rattle.ll_laws.specs.declared.Rule.TheVariants.{One, Erase, Tensor, With, Left, Right, Bang, Lolli, Imp, Forall, Exists, Use, Num, Clause}
use Rattle.ll_prooftext.specs.declared.rows.Refusal.{Refusal}
use Rattle.ll_prooftext.specs.declared.rows.Refusal.TheVariants as refusal
use Rattle.ll_prooftext.specs.Admitted.{AreLabels, IsSpelledPart}
use Rattle.ll_prooftext.specs.Reading.{Kind, Set, Mark, Want, Arguments, Fields, HasNoField, IsAtEnd, may_end}
use Rattle.ll_prooftext.specs.Words.{HasNone}
use Rattle.ll_prooftext.specs.Terms.{Moves, IsSpelledAt, argument_at}
use Rattle.ll_prooftext.specs.Brackets.{args_text}

-- ---- refusals

-- why a line was refused: a field is wrong or lacks where so many bytes are left, or that memory ran out
abbrev pub Refuses : (ℕ → Type 0) → Refusal → Type 0
Refuses P refusal.Word = ⊥
Refuses P (refusal.Field left) = P left
Refuses P refusal.OutOfMemory = Unit {0}

-- no field of this kind stands behind a space
pub data IsMissing (k : Kind) (bytes : List ℕ) : Type 0 where
  ended : bytes ≡ [] → IsMissing k bytes
  other : (rest : List ℕ) → bytes ≡ 32 ∷ rest → HasNone k rest → IsMissing k bytes

pub record LacksField (k : Kind) (bytes : List ℕ) (left : ℕ) : Type 0 where
  pub left_is : left ≡ length bytes
  pub missing : IsMissing k bytes

-- no premise stands behind a space
pub record LacksPart (bytes : List ℕ) (left : ℕ) : Type 0 where
  pub left_is : left ≡ length bytes
  pub set : IsMissing Set bytes
  pub mark : IsMissing Mark bytes

-- what should follow is wrong or lacks
pub data IsBad (v : Want) (bytes : List ℕ) : Type 0 where
  lacking : bytes ≡ [] → may_end v ≡ false → IsBad v bytes
  wrong : (rest : List ℕ) → bytes ≡ 32 ∷ rest → HasNoField v rest → IsBad v bytes

-- behind good fields one is wrong or lacks, where so many bytes are left
pub record StopsAt (v : Want) (bytes : List ℕ) (left : ℕ) : Type 0 where
  pub good : List ℕ
  pub rest : List ℕ
  pub next : Want
  pub is : bytes ≡ good ++ rest
  pub fields : Fields v good next
  pub left_is : left ≡ length rest
  pub bad : IsBad next rest

-- ---- fields

pub record IsNumberField (bytes : List ℕ) (n : ℕ) (rest : List ℕ) : Type 0 where
  pub small : n < 2 ^ 32
  pub is : bytes ≡ field (decimal n) ++ rest
  pub end : IsAtEnd rest

pub record IsSetField (bytes labels rest : List ℕ) : Type 0 where
  pub small : AreLabels labels
  pub rising : IsTrue (rises labels)
  pub is : bytes ≡ field (set_text labels) ++ rest
  pub end : IsAtEnd rest

pub record IsPartField (bytes : List ℕ) (part : Part) (rest : List ℕ) : Type 0 where
  pub spelled : IsSpelledPart (part_line part)
  pub rising : IsTrue (part_rises (part_line part))
  pub is : bytes ≡ part_field (part_line part) ++ rest
  pub end : IsAtEnd rest

pub record IsTermField (names : List (List ℕ)) (bank : Nodes) (bytes : List ℕ) (new : List (List ℕ)) (over : Nodes) (at : ℕ) (rest : List ℕ) : Type 0 where
  pub good : IsSpelledAt new over at
  pub is : bytes ≡ field (argument_at new over at) ++ rest
  pub end : IsAtEnd rest
  pub moves : Moves names bank bytes new over rest

-- two sets, and nothing behind them
pub record AreSets (bytes s t : List ℕ) : Type 0 where
  pub small : AreLabels s × AreLabels t
  pub rising : IsTrue (rises s) × IsTrue (rises t)
  pub is : bytes ≡ field (set_text s) ++ field (set_text t)

abbrev pub IsTensor : List ℕ → Rule → Type 0
IsTensor bytes (Tensor s t) = AreSets bytes s.items t.items
IsTensor bytes One = ⊥
IsTensor bytes Erase = ⊥
IsTensor bytes With = ⊥
IsTensor bytes Left = ⊥
IsTensor bytes Right = ⊥
IsTensor bytes Bang = ⊥
IsTensor bytes (Lolli n) = ⊥
IsTensor bytes (Imp n) = ⊥
IsTensor bytes (Forall c) = ⊥
IsTensor bytes (Exists t) = ⊥
IsTensor bytes Use = ⊥
IsTensor bytes Num = ⊥
IsTensor bytes (Clause n k ts ps) = ⊥

-- ---- terms and premises of a clause step

-- a premise begins behind a space
pub data BeginsPart (bytes : List ℕ) : Type 0 where
  brace : (rest : List ℕ) → bytes ≡ 32 ∷ 123 ∷ rest → BeginsPart bytes
  mark : (rest : List ℕ) → bytes ≡ 32 ∷ 33 ∷ rest → BeginsPart bytes

-- no term stands here: the line ends, or a premise begins
abbrev pub HasNoTerm : List ℕ → Type 0
HasNoTerm bytes = (bytes ≡ []) ⊎ BeginsPart bytes

-- terms were read up to here
pub record AreTermFields (names : List (List ℕ)) (bank : Nodes) (bytes : List ℕ) (new : List (List ℕ)) (over : Nodes) (terms : List At) (rest : List ℕ) : Type 0
  where
    pub good : All (λ a. IsSpelledAt new over a.0) terms
    pub is : bytes ≡ args_text new over terms ++ rest
    pub fields : Fields Arguments (args_text new over terms) Arguments
    pub end : IsAtEnd rest
    pub moves : Moves names bank bytes new over rest

-- the premises, up to the end of the line
pub record ArePartFields (bytes : List ℕ) (parts : List Part) : Type 0 where
  pub spelled : All IsSpelledPart (map part_line parts)
  pub rising : list_all part_rises (map part_line parts) ≡ true
  pub is : bytes ≡ flat_map part_field (map part_line parts)

-- what a clause step says
pub record AreClauseFields (names : List (List ℕ)) (bank : Nodes) (bytes : List ℕ) (new : List (List ℕ)) (over : Nodes) (label leaf : ℕ) (terms : List At)
    (parts : List Part) : Type 0 where
  pub small : (label < 2 ^ 32) × (leaf < 2 ^ 32)
  pub good : All (λ a. IsSpelledAt new over a.0) terms
  pub spelled : All IsSpelledPart (map part_line parts)
  pub rising : list_all part_rises (map part_line parts) ≡ true
  pub is : bytes ≡ field (decimal label) ++ (field (decimal leaf) ++ (args_text new over terms ++ flat_map part_field (map part_line parts)))
  pub moves : Moves names bank bytes new over []

abbrev pub IsClause : List (List ℕ) → Nodes → List ℕ → List (List ℕ) → Nodes → Rule → Type 0
IsClause names bank bytes new over (Clause n k ts ps) = AreClauseFields names bank bytes new over n k ts.items ps.items
IsClause names bank bytes new over One = ⊥
IsClause names bank bytes new over Erase = ⊥
IsClause names bank bytes new over (Tensor s t) = ⊥
IsClause names bank bytes new over With = ⊥
IsClause names bank bytes new over Left = ⊥
IsClause names bank bytes new over Right = ⊥
IsClause names bank bytes new over Bang = ⊥
IsClause names bank bytes new over (Lolli n) = ⊥
IsClause names bank bytes new over (Imp n) = ⊥
IsClause names bank bytes new over (Forall c) = ⊥
IsClause names bank bytes new over (Exists t) = ⊥
IsClause names bank bytes new over Use = ⊥
IsClause names bank bytes new over Num = ⊥
