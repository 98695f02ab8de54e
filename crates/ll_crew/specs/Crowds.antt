-- Workers that tell nothing.
use Rattle.ll_laws.specs.Sound.{Every}
use Rattle.ll_crew.specs.Turns.{CanWork}
use Rattle.ll_crew.specs.declared.crowd.Crowd.{Crowd}

module _ {R G F : Type 0} where
  -- the seats of all of them may begin to work
  abbrev pub AllCanWork : Crowd R G F → Type 0
  AllCanWork crowd = Every (CanWork crowd.tools.now.pool.now crowd.tools.now.problem.now) crowd.seats.items
