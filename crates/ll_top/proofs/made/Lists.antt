-- The programs about lists, one for each number, have no fault.
use Rattle.std.proofs.Common.{◌≡◌, ◌≤◌, ℕ, zero, suc, pos, negsuc, Bool, true, false, ◌&&◌, List, [], ◌∷◌, length, map, Option, Some, refl, arith}
use Rattle.std.specs.Fmt.{digits}
use Rattle.std.proofs.lemmas.Int.{ints}
use Rattle.std.specs.Prelude.{nat_le}
use Rattle.std.specs.List.{list_all, AllByRecursion}
use Rattle.std.specs.Str.{bytes_eq}
use Rattle.std.proofs.lemmas.Bool.{and_parts as both}
use Rattle.std.proofs.lemmas.Bool.Decides.{nat_tests}
use Rattle.std.proofs.lemmas.Slice.Eq.{bytes_eq-Decides}
use Rattle.ll_lexer.specs.declared.Fault.{Fault}
use Rattle.ll_lexer.specs.declared.TokenKind.{TokenKind}
use Rattle.ll_lexer.specs.declared.TokenKind.TheVariants as kind
use Rattle.ll_lexer.specs.Spelling.{kind_of, fixed_spellings, is_lower, is_upper, is_digit, is_word_byte}
use Rattle.ll_parser.specs.Tokens.{Tok, name, variable, number, IsSpelled}
use Rattle.ll_parser.specs.Text.{Clause, Program, program_tokens, program_tree, clause_tree}
use Rattle.ll_parser.specs.Printed.{program_text as printed_text}
use Rattle.ll_polarity.specs.Faults.{clauses_faults}
use Rattle.ll_make.specs.declared.kind.MakeKind.TheVariants.{Perm, Choice}
use Rattle.ll_make.specs.Programs.{program_text}
use Rattle.ll_top.proofs.made.Opened.{opened}
use Rattle.ll_top.proofs.made.Shapes.{perm_clauses, choice_clauses}
use Rattle.ll_top.proofs.made.Whole.{AreClausesOf}

-- ---- tests of what a clause needs

is_name : Option TokenKind → Bool
is_name (Some kind.Name) = true
is_name _ = false

is_variable : Option TokenKind → Bool
is_variable (Some kind.Variable) = true
is_variable _ = false

name-kind : (k : Option TokenKind) → is_name k ≡ true → k ≡ Some kind.Name
unfolding is_name
name-kind (Some kind.Name) h = refl
name-kind _ h = absurd cc

variable-kind : (k : Option TokenKind) → is_variable k ≡ true → k ≡ Some kind.Variable
unfolding is_variable
variable-kind (Some kind.Variable) h = refl
variable-kind _ h = absurd cc

may_stand : Tok → Bool
may_stand (name n) = is_name (kind_of n.text) && nat_le (length n.text) 255
may_stand (variable n) = is_variable (kind_of n.text) && nat_le (length n.text) 255
may_stand (number (pos z) at) = nat_le z 1000
may_stand (number (negsuc z) at) = false
may_stand t = true

small : (n m : ℕ) → nat_le n m ≡ true → n ≤ m
small n m h = grind (arith, nat_tests)

stands : (t : Tok) → may_stand t ≡ true → IsSpelled t
unfolding may_stand
stands (name n) h = let g = both (is_name (kind_of n.text)) (nat_le (length n.text) 255) h in (name-kind (kind_of n.text) g.0, small (length n.text) 255 g.1)
stands (variable n) h = let g = both (is_variable (kind_of n.text)) (nat_le (length n.text) 255) h in
    (variable-kind (kind_of n.text) g.0, small (length n.text) 255 g.1)
stands (number (pos z) at) h = let k = small z 1000 h in omega (arith, ints)
stands (number (negsuc z) at) h = absurd cc
stands t h = tt

all-stand : (ts : List Tok) → list_all may_stand ts ≡ true → AllByRecursion IsSpelled ts
all-stand [] h = tt
all-stand (t ∷ ts) h = let g = both (may_stand t) (list_all may_stand ts) h in (stands t g.0, all-stand ts g.1)

no_fault : List Fault → Bool
no_fault [] = true
no_fault (f ∷ fs) = false

none-left : (fs : List Fault) → no_fault fs ≡ true → fs ≡ []
unfolding no_fault
none-left [] h = refl
none-left (f ∷ fs) h = absurd cc

-- all that a text of clauses needs
is_fine : List Clause → List ℕ → Bool
is_fine clauses text =
    let p : Program = record { clauses = clauses; modules = [] } in
    bytes_eq (printed_text (program_tree p)) text && (list_all may_stand (program_tokens p)
    && (nat_le (length (program_tokens p)) 16777216 && (nat_le (opened (program_tokens p)) 1000
    && no_fault (clauses_faults [] [] (map clause_tree clauses)))))

fine-clauses : (clauses : List Clause) (text : List ℕ) → is_fine clauses text ≡ true → AreClausesOf clauses text
unfolding is_fine
fine-clauses clauses text h =
    let p : Program = record { clauses = clauses; modules = [] } in
    let few = nat_le (length (program_tokens p)) 16777216 in
    let brackets = nat_le (opened (program_tokens p)) 1000 in
    let none = no_fault (clauses_faults [] [] (map clause_tree clauses)) in
    let a = both (bytes_eq (printed_text (program_tree p)) text) (list_all may_stand (program_tokens p) && (few && (brackets && none))) h in
    let b = both (list_all may_stand (program_tokens p)) (few && (brackets && none)) a.1 in
    let c = both few (brackets && none) b.1 in
    let d = both brackets none c.1 in
    record {
      printed = (bytes_eq-Decides (printed_text (program_tree p)) text).0 a.0;
      spelled = all-stand (program_tokens p) b.0;
      few = small (length (program_tokens p)) 16777216 c.0;
      brackets = small (opened (program_tokens p)) 1000 d.0;
      faultless = none-left (clauses_faults [] [] (map clause_tree clauses)) d.1;
    }

-- ---- the programs

perm-fine : (n : ℕ) → n ≤ 8 → is_fine (perm_clauses n) (program_text Perm n) ≡ true
unfolding is_fine may_stand no_fault is_name is_variable kind_of fixed_spellings is_lower is_upper is_digit is_word_byte digits
perm-fine zero h = refl
perm-fine (suc zero) h = refl
perm-fine (suc (suc zero)) h = refl
perm-fine (suc (suc (suc zero))) h = refl
perm-fine (suc (suc (suc (suc zero)))) h = refl
perm-fine (suc (suc (suc (suc (suc zero))))) h = refl
perm-fine (suc (suc (suc (suc (suc (suc zero)))))) h = refl
perm-fine (suc (suc (suc (suc (suc (suc (suc zero))))))) h = refl
perm-fine (suc (suc (suc (suc (suc (suc (suc (suc zero)))))))) h = refl
perm-fine (suc (suc (suc (suc (suc (suc (suc (suc (suc n))))))))) h = absurd (omega arith)

pub perm-clauses : (n : ℕ) → n ≤ 8 → AreClausesOf (perm_clauses n) (program_text Perm n)
perm-clauses n h = fine-clauses (perm_clauses n) (program_text Perm n) (perm-fine n h)

choice-fine : (n : ℕ) → n ≤ 15 → is_fine (choice_clauses n) (program_text Choice (suc n)) ≡ true
unfolding is_fine may_stand no_fault is_name is_variable kind_of fixed_spellings is_lower is_upper is_digit is_word_byte digits
choice-fine zero h = refl
choice-fine (suc zero) h = refl
choice-fine (suc (suc zero)) h = refl
choice-fine (suc (suc (suc zero))) h = refl
choice-fine (suc (suc (suc (suc zero)))) h = refl
choice-fine (suc (suc (suc (suc (suc zero))))) h = refl
choice-fine (suc (suc (suc (suc (suc (suc zero)))))) h = refl
choice-fine (suc (suc (suc (suc (suc (suc (suc zero))))))) h = refl
choice-fine (suc (suc (suc (suc (suc (suc (suc (suc zero)))))))) h = refl
choice-fine (suc (suc (suc (suc (suc (suc (suc (suc (suc zero))))))))) h = refl
choice-fine (suc (suc (suc (suc (suc (suc (suc (suc (suc (suc zero)))))))))) h = refl
choice-fine (suc (suc (suc (suc (suc (suc (suc (suc (suc (suc (suc zero))))))))))) h = refl
choice-fine (suc (suc (suc (suc (suc (suc (suc (suc (suc (suc (suc (suc zero)))))))))))) h = refl
choice-fine (suc (suc (suc (suc (suc (suc (suc (suc (suc (suc (suc (suc (suc zero))))))))))))) h = refl
choice-fine (suc (suc (suc (suc (suc (suc (suc (suc (suc (suc (suc (suc (suc (suc zero)))))))))))))) h = refl
choice-fine (suc (suc (suc (suc (suc (suc (suc (suc (suc (suc (suc (suc (suc (suc (suc zero))))))))))))))) h = refl
choice-fine (suc (suc (suc (suc (suc (suc (suc (suc (suc (suc (suc (suc (suc (suc (suc (suc n)))))))))))))))) h = absurd (omega arith)

pub choice-clauses : (n : ℕ) → n ≤ 15 → AreClausesOf (choice_clauses n) (program_text Choice (suc n))
choice-clauses n h = fine-clauses (choice_clauses n) (program_text Choice (suc n)) (choice-fine n h)
