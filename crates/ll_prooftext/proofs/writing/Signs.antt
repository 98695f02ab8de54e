-- Rules by the signs that count, where only some do.
use Rattle.std.proofs.Common.{◌≡◌, ℕ, false, List, [], refl, Vec, Global}
use Rattle.ll_bank.specs.declared.At.{At}
use Rattle.ll_bank.specs.Nodes.{Nodes}
use Rattle.ll_laws.specs.declared.Part.{Part}
use Rattle.ll_laws.specs.declared.Rule.{Rule}
use Rattle.ll_laws.specs.declared.Rule.TheVariants.{One, Erase, Tensor, With, Left, Right, Bang, Lolli, Imp, Forall, Exists, Use, Num, Clause}
use Rattle.ll_laws.specs.ShownLines.{line_of}
use Rattle.ll_prooftext.specs.Rows.{fields_text}
use Rattle.ll_prooftext.specs.Short.{has_terms, rule_places}

-- a rule has terms where it is one of two
pub termless : (r : Rule) → ((t : At) → r ≡ Exists t → ⊥)
    → ((n k : ℕ) (ts : Vec At Global) (ps : Vec Part Global) → r ≡ Clause n k ts ps → ⊥) → has_terms r ≡ false
termless One f g = refl
termless Erase f g = refl
termless (Tensor s t) f g = refl
termless With f g = refl
termless Left f g = refl
termless Right f g = refl
termless Bang f g = refl
termless (Lolli n) f g = refl
termless (Imp n) f g = refl
termless (Forall n) f g = refl
termless (Exists t) f g = absurd (f t refl)
termless Use f g = refl
termless Num f g = refl
termless (Clause n k ts ps) f g = absurd (g n k ts ps refl)

pub placeless : (r : Rule) → ((t : At) → r ≡ Exists t → ⊥)
    → ((n k : ℕ) (ts : Vec At Global) (ps : Vec Part Global) → r ≡ Clause n k ts ps → ⊥) → rule_places r ≡ []
placeless One f g = refl
placeless Erase f g = refl
placeless (Tensor s t) f g = refl
placeless With f g = refl
placeless Left f g = refl
placeless Right f g = refl
placeless Bang f g = refl
placeless (Lolli n) f g = refl
placeless (Imp n) f g = refl
placeless (Forall n) f g = refl
placeless (Exists t) f g = absurd (f t refl)
placeless Use f g = refl
placeless Num f g = refl
placeless (Clause n k ts ps) f g = absurd (g n k ts ps refl)

-- and it has fields where it is one of six
pub fieldless : (names : List (List ℕ)) (bank : Nodes) (r : Rule) → ((s t : Vec ℕ Global) → r ≡ Tensor s t → ⊥) → ((n : ℕ) → r ≡ Lolli n → ⊥)
    → ((n : ℕ) → r ≡ Imp n → ⊥) → ((n : ℕ) → r ≡ Forall n → ⊥) → ((t : At) → r ≡ Exists t → ⊥)
    → ((n k : ℕ) (ts : Vec At Global) (ps : Vec Part Global) → r ≡ Clause n k ts ps → ⊥) → fields_text names (line_of bank r) ≡ []
fieldless names bank One a b c d e f = refl
fieldless names bank Erase a b c d e f = refl
fieldless names bank (Tensor s t) a b c d e f = absurd (a s t refl)
fieldless names bank With a b c d e f = refl
fieldless names bank Left a b c d e f = refl
fieldless names bank Right a b c d e f = refl
fieldless names bank Bang a b c d e f = refl
fieldless names bank (Lolli n) a b c d e f = absurd (b n refl)
fieldless names bank (Imp n) a b c d e f = absurd (c n refl)
fieldless names bank (Forall n) a b c d e f = absurd (d n refl)
fieldless names bank (Exists t) a b c d e f = absurd (e t refl)
fieldless names bank Use a b c d e f = refl
fieldless names bank Num a b c d e f = refl
fieldless names bank (Clause n k ts ps) a b c d e f = absurd (f n k ts ps refl)
