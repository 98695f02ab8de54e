-- What calls ask, and that what they read takes some bytes.
use Rattle.std.proofs.Common.{ℕ, ◌+◌, ◌<◌, List, [], ◌∷◌, length, ap, arith, length-append}
use Rattle.std.proofs.lemmas.List.Elements.{All-nil, All-cons}
use Rattle.ll_bank.specs.declared.At.{At}
use Rattle.ll_bank.specs.Term.{Term}
use Rattle.ll_bank.specs.Nodes.{Nodes, HasTerm, AllInTerms}
use Rattle.ll_laws.specs.ProofText.{set_text}
use Rattle.ll_laws.specs.declared.Part.{Part}
use Rattle.ll_laws.specs.declared.Part.TheVariants.{Bounded, Unbounded}
use Rattle.ll_prooftext.specs.Terms.{argument_at}
use Rattle.ll_prooftext.specs.Fields.{IsPartField, IsTermField}
use Rattle.ll_prooftext.specs.Cells.{IsCellField}
use Rattle.ll_prooftext.proofs.spelling.Extended.{at_kept}

-- fewer than there is room for
pub fewer : (a b n : ℕ) → a + b < n → a < n
fewer a b n h = omega arith

-- ---- a field takes some bytes

pub cell_shorter : {rows : List Term} {names : List (List ℕ)} {bank : Nodes} {bytes : List ℕ} {new : List (List ℕ)} {over : Nodes} {at : ℕ} {rest : List ℕ}
    → IsCellField rows names bank bytes new over at rest → length rest < length bytes
cell_shorter {rest} f = let e = ap length f.is in let a = length-append f.text rest in omega arith

pub term_shorter : {names : List (List ℕ)} {bank : Nodes} {bytes : List ℕ} {new : List (List ℕ)} {over : Nodes} {at : ℕ} {rest : List ℕ}
    → IsTermField names bank bytes new over at rest → length rest < length bytes
term_shorter {new} {over} {at} {rest} f = let e = ap length f.is in let a = length-append (argument_at new over at) rest in omega arith

pub part_shorter : (bytes : List ℕ) (part : Part) (rest : List ℕ) → IsPartField bytes part rest → length rest < length bytes
part_shorter bytes (Bounded s) rest f = let e = ap length f.is in let a = length-append (set_text s.items) rest in omega arith
part_shorter bytes Unbounded rest f = let e = ap length f.is in omega arith

-- ---- arguments

-- both arguments of a pair are there
pub pair_inside : {rows later : List Term} {names mid new : List (List ℕ)} {bank part two : Nodes} {bytes behind end : List ℕ} (first second : At)
    → IsCellField rows names bank bytes mid part first.0 behind → IsCellField later mid part behind new two second.0 end
    → AllInTerms two (first ∷ second ∷ [])
pair_inside {mid} {new} {part} {two} first second f t =
    let kept = at_kept mid part new two first.0 t.moves.grows t.moves.keeps f.cell.good in
    All-cons (λ (b : At). HasTerm two b.0) first (second ∷ []) kept.good.inside
    (All-cons (λ (b : At). HasTerm two b.0) second [] t.cell.good.inside (All-nil (λ (b : At). HasTerm two b.0)))
