-- Open brackets, as they are kept while a term is read.
use Rattle.std.specs.Prelude.{◌≡◌, ℕ, ◌<◌, length, Bool, true, false, not, List, [], ◌∷◌, ◌++◌, map, All, reverse, IsTrue, Option, Some, None, codes}
use Rattle.std.specs.List.{flat_map}
use Rattle.ll_bank.specs.declared.At.{At}
use Rattle.ll_bank.specs.declared.Head.TheVariants.{Name}
use Rattle.ll_bank.specs.Names.{with_name}
use Rattle.ll_bank.specs.Term.{Term, Con, Ap, app}
use Rattle.ll_bank.specs.Nodes.{Nodes, term_tree, term_trees, ShowsTerm}
use Rattle.ll_laws.specs.Output.{head_text, is_cons_head, is_cons, bracket_if, has_arguments}
use Rattle.ll_laws.specs.ProofText.{field}
use Rattle.ll_prooftext.specs.declared.words.Word.{Word}
use Rattle.ll_prooftext.specs.declared.words.Word.TheVariants.{Head as HeadWord, Term as LeafWord}
use Rattle.ll_prooftext.specs.declared.terms.Item.{Item}
use Rattle.ll_prooftext.specs.declared.terms.Bracket.{Bracket}
use Rattle.ll_prooftext.specs.declared.terms.Open.{Open}
use Rattle.ll_prooftext.specs.declared.terms.Step.{Step}
use Rattle.ll_prooftext.specs.declared.terms.Step.TheVariants.{Stuck, More, Whole}
use Rattle.ll_prooftext.specs.Admitted.{IsPlainHead}
use Rattle.ll_prooftext.specs.Reading.{is_none, IsAtEnd}
use Rattle.ll_prooftext.specs.Terms.{Shape, Wanted, Bare, Applied, Closed, Frame, frame, Accepts, Grows, Moves, IsSpelledAt, text_at, argument_at}

-- ---- what may follow

abbrev pub shape_of : Option Word → List At → Shape
shape_of None args = Wanted
shape_of (Some (HeadWord h)) [] = Bare
shape_of (Some (HeadWord h)) (a ∷ args) = Applied
shape_of (Some (LeafWord at)) args = Closed

abbrev pub frame_of : Bracket → Frame
frame_of b = frame (not (is_none b.items.items)) (shape_of b.part b.args.items)

-- the innermost one first
abbrev pub frames : Open → List Frame
frames o = frame_of o.top ∷ reverse (map frame_of o.outer.items)

-- ---- their texts

-- a term in front of a `::`, with the sign
abbrev pub item_text : List (List ℕ) → Nodes → Item → List ℕ
item_text names bank i = bracket_if (is_cons names (term_tree bank i.at.0)) (text_at names bank i.at.0) ++ codes "::"

abbrev pub part_text : List (List ℕ) → Nodes → Option Word → List ℕ
part_text names bank None = []
part_text names bank (Some (HeadWord h)) = head_text names h
part_text names bank (Some (LeafWord at)) = text_at names bank at.0

abbrev pub args_text : List (List ℕ) → Nodes → List At → List ℕ
args_text names bank args = flat_map (λ a. field (argument_at names bank a.0)) args

-- what was read of a bracket
abbrev pub bracket_text : List (List ℕ) → Nodes → Bracket → List ℕ
bracket_text names bank b = codes "(" ++ (flat_map (item_text names bank) b.items.items ++ (part_text names bank b.part ++ args_text names bank b.args.items))

-- a space in front of an argument in brackets
abbrev pub gap : Option Word → List ℕ
gap (Some (HeadWord h)) = codes " "
gap _ = []

-- what was read of a bracket in which another one stands
abbrev pub outer_text : List (List ℕ) → Nodes → Bracket → List ℕ
outer_text names bank b = bracket_text names bank b ++ gap b.part

-- all that was read
abbrev pub open_text : List (List ℕ) → Nodes → Open → List ℕ
open_text names bank o = flat_map (outer_text names bank) o.outer.items ++ bracket_text names bank o.top

-- ---- what they hold

pub record IsGoodItem (names : List (List ℕ)) (bank : Nodes) (i : Item) : Type 0 where
  pub good : IsSpelledAt names bank i.at.0
  pub sign : IsTrue (is_cons_head names (Name i.sign))

-- arguments stand behind a head alone
abbrev pub IsGoodPart : List (List ℕ) → Nodes → Option Word → List At → Type 0
IsGoodPart names bank None args = args ≡ []
IsGoodPart names bank (Some (HeadWord h)) args = IsPlainHead names h
IsGoodPart names bank (Some (LeafWord at)) args = (args ≡ []) × (IsSpelledAt names bank at.0 × (has_arguments (term_tree bank at.0) ≡ false))

pub record IsGoodBracket (names : List (List ℕ)) (bank : Nodes) (b : Bracket) : Type 0 where
  pub items : All (IsGoodItem names bank) b.items.items
  pub part : IsGoodPart names bank b.part b.args.items
  pub args : All (λ a. IsSpelledAt names bank a.0) b.args.items

pub record IsGood (names : List (List ℕ)) (bank : Nodes) (o : Open) : Type 0 where
  pub outer : All (IsGoodBracket names bank) o.outer.items
  pub top : IsGoodBracket names bank o.top

-- ---- one step

-- the brackets after a step hold what was read, and what may follow goes on
pub record Turns (names : List (List ℕ)) (bank : Nodes) (o : Open) (bytes : List ℕ) (new : List (List ℕ)) (over : Nodes) (p : Open) (left : List ℕ) : Type 0
  where
    pub good : IsGood new over p
    pub text : open_text new over p ++ left ≡ open_text names bank o ++ bytes
    pub moves : Moves names bank bytes new over left
    pub shorter : length left < length bytes
    pub goes : (end : List ℕ) → Accepts end (frames o) bytes → Accepts end (frames p) left

-- the outermost bracket was closed round this term
pub record Ends (names : List (List ℕ)) (bank : Nodes) (o : Open) (bytes : List ℕ) (new : List (List ℕ)) (over : Nodes) (at : ℕ) (left : List ℕ) : Type 0 where
  pub good : IsSpelledAt new over at
  pub text : argument_at new over at ++ left ≡ open_text names bank o ++ bytes
  pub moves : Moves names bank bytes new over left
  pub ends : (end : List ℕ) → Accepts end (frames o) bytes → left ≡ end

-- what a step came to
abbrev pub IsStep : List (List ℕ) → Nodes → Open → List ℕ → List (List ℕ) → Nodes → Open → Step → Type 0
IsStep names bank o bytes new over p Stuck = (end : List ℕ) → Accepts end (frames o) bytes → ⊥
IsStep names bank o bytes new over p (More left) = Turns names bank o bytes new over p left.now
IsStep names bank o bytes new over p (Whole at left) = Ends names bank o bytes new over at.0 left.now

-- ---- parts of steps

-- the term of a word with arguments
abbrev pub IsTermFrom : Nodes → Nodes → Word → List At → ℕ → Type 0
IsTermFrom bank over (HeadWord h) args at = ShowsTerm over at (app h (term_trees bank args))
IsTermFrom bank over (LeafWord a) args at = at ≡ a.0

-- terms with `::` behind them, and a last one
abbrev pub chain_term : Nodes → List Item → Term → Term
chain_term bank [] t = t
chain_term bank (i ∷ is) t = Ap (Ap (Con (Name i.sign)) (term_tree bank i.at.0)) (chain_term bank is t)

-- a bracket was opened
pub record IsOpened (o p : Open) : Type 0 where
  pub outer : p.outer.items ≡ o.outer.items ++ o.top ∷ []
  pub items : p.top.items.items ≡ []
  pub part : p.top.part ≡ None
  pub args : p.top.args.items ≡ []

-- a term with a `::` behind it was put into a bracket
pub record HasItem (b d : Bracket) (i : Item) : Type 0 where
  pub items : d.items.items ≡ b.items.items ++ i ∷ []
  pub part : d.part ≡ None
  pub args : d.args.items ≡ []

-- the number of the sign `::`, of which names may be one more now
pub record IsSign (names new : List (List ℕ)) (n : ℕ) : Type 0 where
  pub grows : Grows names new
  pub added : new ≡ with_name names (codes "::")
  pub sign : IsTrue (is_cons_head new (Name n))

-- the place was put in front of a `::` in the bracket, or no sign follows
abbrev pub IsItemStep : Bool → At → Open → List ℕ → List (List ℕ) → List (List ℕ) → Open → Step → Type 0
IsItemStep chain at o bytes names new p Stuck = chain ≡ true → (rest : List ℕ) → bytes ≡ 58 ∷ 58 ∷ rest → ⊥
IsItemStep chain at o bytes names new p (More left) = (chain ≡ true)
    × ((bytes ≡ 58 ∷ 58 ∷ left.now) × ((n : ℕ) × (IsSign names new n × (HasItem o.top p.top (record { at = at; sign = n }) × (p.outer.items ≡ o.outer.items)))))
IsItemStep chain at o bytes names new p (Whole a left) = ⊥

-- a term in the form of an argument at the front of the bytes, and what stands behind it
pub record IsArgumentAt (names : List (List ℕ)) (bank : Nodes) (bytes : List ℕ) (new : List (List ℕ)) (over : Nodes) (at : ℕ) (rest : List ℕ) : Type 0 where
  pub good : IsSpelledAt new over at
  pub is : bytes ≡ argument_at new over at ++ rest
  pub end : IsAtEnd rest
  pub moves : Moves names bank bytes new over rest
