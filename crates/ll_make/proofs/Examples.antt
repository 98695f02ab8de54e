-- The programs that are made, computed on examples.
use Rattle.std.proofs.Common.{◌≡◌, refl}
use Rattle.std.specs.Prelude.{codes}
use Rattle.std.specs.Fmt.{digits}
use Rattle.ll_make.specs.declared.kind.MakeKind.TheVariants.{Perm, Choice, Chain}
use Rattle.ll_make.specs.Programs.{program_text}

no_numbers : program_text Perm 0
    ≡ codes "go K :- load nil K.\nload nil K :- unload K.\nload (X::L) K :- item X -o load L K.\nunload nil.\nunload (X::L) :- item X , unload L.\n"
unfolding digits
no_numbers = refl

two_numbers : program_text Perm 2
    ≡ codes "go K :- load (1::2::nil) K.\nload nil K :- unload K.\nload (X::L) K :- item X -o load L K.\nunload nil.\nunload (X::L) :- item X , unload L.\n"
unfolding digits
two_numbers = refl

one_bit : program_text Choice 1 ≡ codes "bit 0.\nbit 1.\ngo (X1::nil) :- bit X1.\n"
unfolding digits
one_bit = refl

two_bits : program_text Choice 2 ≡ codes "bit 0.\nbit 1.\ngo (X1::X2::nil) :- bit X1 , bit X2.\n"
unfolding digits
two_bits = refl

one_place : program_text Chain 1 ≡ codes "go :- p1.\np1.\n"
unfolding digits
one_place = refl

three_places : program_text Chain 3 ≡ codes "go :- p3.\np3 :- p2.\np2 :- p1.\np1.\n"
unfolding digits
three_places = refl

twelve_places : program_text Chain 12
    ≡ codes "go :- p12.\np12 :- p11.\np11 :- p10.\np10 :- p9.\np9 :- p8.\np8 :- p7.\np7 :- p6.\np6 :- p5.\np5 :- p4.\np4 :- p3.\np3 :- p2.\np2 :- p1.\np1.\n"
unfolding digits
twelve_places = refl
