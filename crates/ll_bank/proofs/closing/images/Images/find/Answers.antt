use Rattle.ll_bank.proofs.closing.images.Images.find.Goals as goal

pub returns-then-self-lt-MANY : goal.returns-then-self-lt-MANY
returns-then-self-lt-MANY c = _
