use Rattle.std.proofs.Common.{◌∙◌}
use Rattle.std.specs.String.{string_bytes}
use Rattle.ll_bank.proofs.NameLaws.{same_texts}
use Rattle.ll_bank.proofs.texts.Texts.copy.Goals as goal

pub invariant_of-result : goal.invariant_of-result
invariant_of-result c = rw (same_texts string_bytes c.self.inside.texts.keys c.in_ok-clone.field-0.keys c.in_ok-clone.ensures.cases) c.self.invariant

pub returns : goal.returns
returns c = same_texts string_bytes c.self.inside.texts.keys c.in_ok-clone.field-0.keys c.in_ok-clone.ensures.cases ∙ c.self.view_is
