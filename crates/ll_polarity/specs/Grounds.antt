-- The text that formulas are read from, as their trees see it.
use Rattle.ll_polarity.specs.declared.text.Text.{Text}
use Rattle.ll_polarity.specs.Places.{place_in}
use Rattle.ll_polarity.specs.Frames.{Ground}

abbrev pub ground : Text → Ground
ground text = record { texts = text.names.now; forms = text.forms.now; modules = place_in text.modules.now.places }
