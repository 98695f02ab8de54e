-- The definitions of words, computed on examples.
use Rattle.std.proofs.Common.{◌≡◌, refl, true, false, [], ◌∷◌}
use Rattle.std.specs.Prelude.{None, codes}
use Rattle.ll_top.specs.forms.Words.{is_part, NumberFrom, greatest_bound, here, behind, part, option, done, IsRun, IsPrint}

-- `run prog ques --workers 1 --bound 03`
options_in_any_order : IsRun (codes "run" ∷ codes "prog" ∷ codes "ques" ∷ codes "--workers" ∷ codes "1" ∷ codes "--bound" ∷ codes "03" ∷ [])
    (record { program = codes "prog"; query = codes "ques"; bound = 3; workers = 1; proofs = false; first = None })
options_in_any_order = record {
  form = part refl (part refl (part refl (option (behind (here refl)) refl (part refl (option (here refl) refl (part refl (done refl)))))));
  program = refl;
  query = refl;
  bound = refl;
  workers = refl;
  proofs = refl;
  first = refl;
}

-- `run prog ques --workers 1 --proofs --bound 03`
proofs_between_the_others : IsRun (codes "run" ∷ codes "prog" ∷ codes "ques" ∷ codes "--workers" ∷ codes "1" ∷ codes "--proofs" ∷ codes "--bound" ∷ codes "03"
    ∷ [])
    (record { program = codes "prog"; query = codes "ques"; bound = 3; workers = 1; proofs = true; first = None })
proofs_between_the_others = record {
  form =
      part refl
      (part refl (part refl (option (behind (here refl)) refl
      (part refl (option (behind (here refl)) refl (option (here refl) refl (part refl (done refl))))))));
  program = refl;
  query = refl;
  bound = refl;
  workers = refl;
  proofs = refl;
  first = refl;
}

-- `print prog`
a_print : IsPrint (codes "print" ∷ codes "prog" ∷ []) (codes "prog")
a_print = record { form = part refl (part refl (done refl)); program = refl }

bound_past_the_greatest : is_part (NumberFrom 0 greatest_bound) (codes "1000001") ≡ false
bound_past_the_greatest = refl
