-- Worked examples: how some formulas and a program are printed, each evaluated by the checker.
use Rattle.std.proofs.Common.{◌≡◌, ℕ, true, false, List, [], ◌∷◌, ◌++◌, codes, refl, pos, negsuc}
use Rattle.std.specs.Fmt.{digits}
use Rattle.ll_lexer.specs.declared.Place.{Place}
use Rattle.ll_parser.specs.declared.Op.TheVariants as op
use Rattle.ll_parser.specs.Tokens.{Identifier}
use Rattle.ll_parser.specs.Printed.{clauses, formula_text, program_text}
use Rattle.ll_parser.specs.Raw.{Raw, braces, universal, load, binary, head, anything, int, none, more, cons_raw, is_goal, less_goal, most_goal, sign_raw}

-- the text of a formula
abbrev somewhere : Place
somewhere = record { line = 1; column = 1 }

abbrev text : Raw → List ℕ
text r = formula_text clauses false r

abbrev id : List ℕ → Identifier
id w = record { text = w; at = somewhere }

abbrev a : Raw
a = head (id (codes "a")) none

abbrev b : Raw
b = head (id (codes "b")) none

abbrev c : Raw
c = head (id (codes "c")) none

abbrev tensor : Raw → Raw → Raw
tensor x y = binary op.Tensor somewhere x y

abbrev both : Raw → Raw → Raw
both x y = binary op.With somewhere x y

abbrev plus : Raw → Raw → Raw
plus x y = binary op.Plus somewhere x y

abbrev to : Raw → Raw → Raw
to x y = binary op.Lolli somewhere x y

abbrev freely : Raw → Raw → Raw
freely x y = binary op.RightArrow somewhere x y

abbrev when : Raw → Raw → Raw
when x y = binary op.ColonDash somewhere x y

abbrev left : Raw → Raw → Raw
left x y = binary op.LeftArrow somewhere x y

abbrev all : Raw → Raw
all g = universal somewhere (id (codes "x")) g

abbrev loads : Raw → Raw
loads g = load somewhere (id (codes "m")) (more (head (id (codes "X")) none) none) g

-- ---- operators

left-of-tensor : text (tensor (tensor a b) c) ≡ codes "(a , b) , c"
left-of-tensor = refl

right-of-tensor : text (tensor a (tensor b c)) ≡ codes "a , b , c"
right-of-tensor = refl

tighter : text (plus (both a b) (tensor b c)) ≡ codes "a & b ; b , c"
tighter = refl

looser : text (both (plus a b) (plus b c)) ≡ codes "(a ; b) & (b ; c)"
looser = refl

left-of-lolli : text (to (to a b) (freely b c)) ≡ codes "(a -o b) -o b => c"
left-of-lolli = refl

right-of-when : text (when (left a b) (when b c)) ≡ codes "a <= b :- (b :- c)"
right-of-when = refl

in-lolli : text (to a (when b c)) ≡ codes "a -o (b :- c)"
in-lolli = refl

load-right : text (loads (freely a b)) ≡ codes "m X --> a => b"
load-right = refl

load-left : text (to (loads a) b) ≡ codes "(m X --> a) -o b"
load-left = refl

load-in-plus : text (plus a (loads b)) ≡ codes "a ; (m X --> b)"
load-in-plus = refl

in-braces : text (tensor (braces somewhere (when a b)) c) ≡ codes "{a :- b} , c"
in-braces = refl

-- ---- quantifiers

last-quantifier : text (tensor a (all (plus b c))) ≡ codes "a , forall x" ++ 92 ∷ (codes " b ; c")
last-quantifier = refl

followed-quantifier : text (tensor (all a) b) ≡ codes "(forall x" ++ 92 ∷ (codes " a) , b")
followed-quantifier = refl

-- a bracket that stands for the levels closes the scope
closed-quantifier : text (tensor (tensor a (all b)) c) ≡ codes "(a , forall x" ++ 92 ∷ (codes " b) , c")
closed-quantifier = refl

-- where no bracket stands for the levels, the quantifier has its own
inner-quantifier : text (when (tensor a (all b)) c) ≡ codes "a , (forall x" ++ 92 ∷ (codes " b) :- c")
inner-quantifier = refl

quantifier-in-clause : text (all (when a (all b))) ≡ codes "forall x" ++ 92 ∷ (codes " a :- forall x" ++ 92 ∷ (codes " b"))
quantifier-in-clause = refl

quantifier-in-load : text (plus (loads (all a)) b) ≡ codes "(m X --> forall x" ++ 92 ∷ (codes " a) ; b")
quantifier-in-load = refl

-- ---- terms

lists : text (head (id (codes "p")) (more (cons_raw somewhere (cons_raw somewhere a b) (cons_raw somewhere c a)) none)) ≡ codes "p ((a::b)::c::a)"
lists = refl

arguments : text (head (id (codes "p")) (more (head (id (codes "f")) (more a none)) (more (anything somewhere) (more (int somewhere (negsuc 6)) none))))
    ≡ codes "p (f a) _ -7"
unfolding digits
arguments = refl

application-beside-cons : text (head (id (codes "p")) (more (cons_raw somewhere (head (id (codes "f")) (more a none)) b) none)) ≡ codes "p (f a::b)"
application-beside-cons = refl

-- ---- whole-number goals

abbrev signed : List ℕ → Raw → Raw → Raw
signed w x y = sign_raw w somewhere x y

abbrev number : ℕ → Raw
number n = int somewhere (pos n)

sum-left-of-star : text (is_goal somewhere a (signed (codes "*") (signed (codes "+") (number 1) (number 2)) (number 3))) ≡ codes "a is (1 + 2) * 3"
unfolding digits
sum-left-of-star = refl

product-beside-star : text (is_goal somewhere a (signed (codes "*") (signed (codes "*") b (number 2)) (signed (codes "*") c (number 3))))
    ≡ codes "a is b * 2 * (c * 3)"
unfolding digits
product-beside-star = refl

sums-lean-left : text (less_goal somewhere (signed (codes "-") (signed (codes "-") a b) c) (signed (codes "-") a (signed (codes "+") b c)))
    ≡ codes "a - b - c < a - (b + c)"
sums-lean-left = refl

products-in-sums : text (less_goal somewhere (signed (codes "+") (signed (codes "*") a b) c) (signed (codes "-") a (signed (codes "*") b c)))
    ≡ codes "a * b + c < a - b * c"
products-in-sums = refl

number-behind-minus : text (most_goal somewhere (signed (codes "-") a (int somewhere (negsuc 0))) (number 2)) ≡ codes "a - -1 =< 2"
unfolding digits
number-behind-minus = refl

goals-have-no-brackets : text (to (tensor (is_goal somewhere a b) (less_goal somewhere a b)) (most_goal somewhere a b)) ≡ codes "a is b , a < b -o a =< b"
goals-have-no-brackets = refl

-- ---- programs

whole-program : program_text (record {
  clauses = record { linear = true; form = when a b } ∷ [];
  modules = record {
    name = id (codes "m");
    params = id (codes "X") ∷ [];
    locals = id (codes "c") ∷ id (codes "d") ∷ [];
    clauses =
        record { linear = false; form = braces somewhere a } ∷ [];
  } ∷ record { name = id (codes "n"); params = []; locals = []; clauses = [] } ∷ [];
}) ≡ codes "LINEAR a :- b." ++ 10 ∷ (codes "MODULE m X." ++ 10 ∷ (codes "LOCAL c d." ++ 10 ∷ (codes "{a}." ++ 10 ∷ (codes "MODULE n." ++ 10 ∷ []))))
whole-program = refl
