-- What the crates above may cite of the pool and its events, beside the public contracts.

-- ---- what each event keeps

-- a lawful event keeps a pool sound
pub use Rattle.ll_core.proofs.events.LawfulEvents.{keeps_sound}
-- a new pool is sound
pub use Rattle.ll_core.proofs.events.Openings.{opening_sound}
-- an event changes no number of workers
pub use Rattle.ll_core.proofs.events.LawfulEvents.{workers_kept}
-- an event that takes none leaves taken what was taken, and nothing else
pub use Rattle.ll_core.proofs.events.LawfulEvents.{leaves_taken}
-- an event that sets no mark leaves the marks of the pool
pub use Rattle.ll_core.proofs.events.LawfulEvents.{leaves_marks}
-- worker 0 alone takes pieces
pub use Rattle.ll_core.proofs.events.LawfulEvents.{takes_alone}
-- who has no open piece has none after an event of another worker, or a quiet one
pub use Rattle.ll_core.proofs.events.LawfulEvents.{none_kept}
-- who holds a piece holds it after an event of another worker, or a quiet one
pub use Rattle.ll_core.proofs.events.LawfulEvents.{holds_kept}
-- a worker has one open piece at most
pub use Rattle.ll_core.proofs.events.LawfulEvents.{same_held}
-- ---- what each event does

-- a claim gives the claiming worker the piece, and the piece owes what its alternative does
pub use Rattle.ll_core.proofs.events.LawfulEvents.{claim_gives}
-- publishing splits what the piece owes
pub use Rattle.ll_core.proofs.events.LawfulEvents.{publish_splits}
-- who reports has no open piece any more
pub use Rattle.ll_core.proofs.events.LawfulEvents.{report_closes}
-- a piece that is there before an event has the same share after it
pub use Rattle.ll_core.proofs.events.LawfulEvents.{share_later}
-- ---- pools that are further on

-- a pool is as far on as itself
pub use Rattle.ll_core.proofs.runs.LaterPools.{later_itself}
-- what is further on than a pool further on is further on than the first
pub use Rattle.ll_core.proofs.runs.LaterPools.{later_on}
-- an event brings a pool further on
pub use Rattle.ll_core.proofs.runs.LaterPools.{later_event}
-- ---- pieces

-- where no two pieces stand at one alternative, the piece of an alternative is the one that names it
pub use Rattle.ll_core.proofs.events.Pieces.{found}
-- the piece of an alternative is one of the pieces, and names it
pub use Rattle.ll_core.proofs.events.Pieces.{lookup}
-- a piece that names an alternative is of it
pub use Rattle.ll_core.proofs.events.Pieces.{is_of_from}
-- where the piece of an alternative counts as taken, there is one, and it is taken
pub use Rattle.ll_core.proofs.runs.Given.{taken_piece}
-- where nobody is busy, no piece is open
pub use Rattle.ll_core.proofs.runs.AllClaimed.{closed_all}
-- where nothing is untried, each alternative is claimed
pub use Rattle.ll_core.proofs.runs.AllClaimed.{all_claimed}
-- a changed piece stands where it stood
pub use Rattle.ll_core.proofs.events.Pieces.{change_at}
-- what a change of a piece leaves, it leaves for each alternative
pub use Rattle.ll_core.proofs.events.Statuses.{read_same}
-- the piece of the changed piece's alternative is the changed one
pub use Rattle.ll_core.proofs.events.Statuses.{piece_here}
-- every other alternative has its old piece
pub use Rattle.ll_core.proofs.events.Statuses.{piece_elsewhere}
-- the element of a mapped list at a place
pub use Rattle.ll_core.proofs.sound.Facts.{get_map_at}
-- ---- the walk over alternatives

-- the walk is the same where lists and lengths agree
pub use Rattle.ll_core.proofs.walks.Walks.{walk_same}
-- each alternative of the walk is one of its batch
pub use Rattle.ll_core.proofs.runs.Given.{walk_inside}
-- 1 where it holds, else 0
pub use Rattle.ll_core.proofs.walks.Once.{one_if}
-- 1 where the two alternatives are the same, else 0
pub use Rattle.ll_core.proofs.walks.Once.{is_at}
-- the sum over two lists is that of their sums
pub use Rattle.ll_core.proofs.walks.Once.{total-append}
-- each claimed alternative stands in the walk of a sound pool once
pub use Rattle.ll_core.proofs.walks.Unique.{unique}
-- where the walk leads through a claimed alternative, this does not stand behind itself
pub use Rattle.ll_core.proofs.walks.Unique.{unique_behind}
-- ---- the reports of a run

-- of a new pool nothing was given
pub use Rattle.ll_core.proofs.runs.Owing.{opening_given}
-- a lawful event gives the report that it takes, if it takes one
pub use Rattle.ll_core.proofs.runs.Owing.{step_given}
-- what was given of a pool was given of each later one in which nothing more is taken
pub use Rattle.ll_core.proofs.walks.FrontStays.{given_later}
-- what was given is what the taken front of the walk owes
pub use Rattle.ll_core.proofs.runs.Owing.{given_in_front}
-- once all is tried and nobody is busy, no batch and no piece comes any more
pub use Rattle.ll_core.proofs.runs.Owing.{nothing_comes}
-- then all reports together have the events that the root owes
pub use Rattle.ll_core.proofs.runs.Owing.{all_events}
-- and their costs are together what the root's is
pub use Rattle.ll_core.proofs.runs.Owing.{all_costs}
-- a sum is cut alike where its parts are
pub use Rattle.ll_core.proofs.events.Cuts.{cut_sum}
-- cutting twice is cutting once
pub use Rattle.ll_core.proofs.events.Cuts.{cut_twice}
-- ---- lists

-- what holds of everything holds of each of a list
pub use Rattle.ll_core.proofs.ready.Cursors.{every_all}
-- what follows from what holds of each holds of each
pub use Rattle.ll_core.proofs.walks.Walks.{every_more}
-- what holds of each and of one more holds of each with it
pub use Rattle.ll_core.proofs.walks.Walks.{every_snoc}
-- what holds of each of a list holds of each of its back
pub use Rattle.ll_core.proofs.runs.Given.{every_back}
-- what holds of each of a list holds of each of its front
pub use Rattle.ll_core.proofs.ready.Pointing.{every_front}
