-- What the crates above may cite of bindings, equations and copies, beside the public contracts.

-- ---- bindings

-- for an unbound variable the variable itself is found
pub use Rattle.ll_unify.proofs.Readings.{found-free}
-- an unbound variable stands for itself, however often bindings are followed
pub use Rattle.ll_unify.proofs.Readings.{followed-free}
-- what is found goes along with the bindings
pub use Rattle.ll_unify.proofs.Readings.{Obeys-found}
-- nothing else goes along with the bindings and leaves unbound variables alone
pub use Rattle.ll_unify.proofs.Readings.{found-only}
-- ---- variables and arguments at places

-- a variable at a place has a cell
pub use Rattle.ll_unify.proofs.Tables.{var-below}
-- an unbound variable at a place stands for itself
pub use Rattle.ll_unify.proofs.Tables.{end-var}
-- an argument of a place is a place
pub use Rattle.ll_unify.proofs.Tables.{step-inside}
-- ---- heads and arguments

-- the arguments of a head with arguments
pub use Rattle.ll_unify.proofs.Spines.{args_in-app}
-- a head with arguments begins with a head
pub use Rattle.ll_unify.proofs.Spines.{is_spine-app}
-- a head with arguments is no variable
pub use Rattle.ll_unify.proofs.Spines.{app-var}
-- a term is built up from its head and arguments
pub use Rattle.ll_unify.proofs.Spines.{build_up}
-- what holds of a term and goes down to its parts holds of its arguments
pub use Rattle.ll_unify.proofs.Spines.{take_down}
-- what is below one more is below, or it is the number itself
pub use Rattle.ll_unify.proofs.Spines.{below-suc}
-- a term weighs two or more
pub use Rattle.ll_unify.proofs.Spines.{weight-two}
-- the arguments from one on weigh as much as that one and those behind it
pub use Rattle.ll_unify.proofs.Spines.{rest_weight-more}
-- a term at a place weighs more than its arguments
pub use Rattle.ll_unify.proofs.Spines.{weight-place}
-- ---- stacks of things that wait for one another

-- what holds with a last element
pub use Rattle.ll_unify.proofs.Stacks.{opened}
-- what holds on the empty stack
pub use Rattle.ll_unify.proofs.Stacks.{closed}
-- one more on top leaves the lowest one, or is it
pub use Rattle.ll_unify.proofs.Stacks.{lowest-push}
-- one more waits
pub use Rattle.ll_unify.proofs.Stacks.{Waits-push}
-- the last one waits, and those below for it
pub use Rattle.ll_unify.proofs.Stacks.{Waits-last}
-- those that wait in one way wait in each that follows from it
pub use Rattle.ll_unify.proofs.Stacks.{Waits-map}
-- a list is empty or has a last element
pub use Rattle.ll_unify.proofs.Stacks.{split_last}
-- of these two, that it is empty
pub use Rattle.ll_unify.proofs.Stacks.{no_item}
-- and that it has a last element
pub use Rattle.ll_unify.proofs.Stacks.{an_item}
-- ---- the weight of what is left of terms that are gone through

-- one term less weighs less
pub use Rattle.ll_unify.proofs.Frames.{weight-pops}
-- so does a term with an argument more that is done
pub use Rattle.ll_unify.proofs.Frames.{weight-known}
-- and with that argument's own arguments to be done
pub use Rattle.ll_unify.proofs.Frames.{weight-opens}
-- ---- cells

-- a cell that is bound lies among the cells
pub use Rattle.ll_unify.proofs.Readings.{bound-inside}
-- ---- what is found for a variable

-- for a bound one what is found for the term that it is bound to
pub use Rattle.ll_unify.proofs.BindingLaws.{found-bound}
-- ---- other nodes

-- the places that cells name show the same in both
pub use Rattle.ll_unify.proofs.BindingLaws.{SameBound}
-- a table depends on the nodes by the places that cells name alone
pub use Rattle.ll_unify.proofs.BindingLaws.{table-replaced}
-- and so does what is found
pub use Rattle.ll_unify.proofs.BindingLaws.{found-replaced}
-- a bank that grew
pub use Rattle.ll_unify.proofs.BindingLaws.{SameBound-extends}
-- its table stays one
pub use Rattle.ll_unify.proofs.BindingLaws.{table-extends}
-- and what is found stays
pub use Rattle.ll_unify.proofs.BindingLaws.{found-extends}
-- what a place shows with all bindings applied stays the same
pub use Rattle.ll_unify.proofs.BindingLaws.{sub-extends}
-- and what was reached before is reached
pub use Rattle.ll_unify.proofs.BindingLaws.{reaches-after}
-- a place stays one
pub use Rattle.ll_unify.proofs.BindingLaws.{place-extends}
-- ---- new cells

-- each cell is as it was
pub use Rattle.ll_unify.proofs.BindingLaws.{cell-fresh}
-- with a new cell a table stays one
pub use Rattle.ll_unify.proofs.BindingLaws.{table-fresh}
-- and so does what is found
pub use Rattle.ll_unify.proofs.BindingLaws.{found-fresh}
-- cells that are all unbound
pub use Rattle.ll_unify.proofs.BindingLaws.{table-unbound}
-- ---- places

-- a term that, with all bindings applied, has only variables with cells has only such
pub use Rattle.ll_unify.proofs.BindingLaws.{cells-below}
-- a place whose term, with all bindings applied, has only variables with cells is one of the table
pub use Rattle.ll_unify.proofs.BindingLaws.{place-below}
-- what is found holds unbound variables alone
pub use Rattle.ll_unify.proofs.BindingLaws.{found-unbound}
-- ---- equations

-- a term without the variable, and with eigenvariables below the level alone, is clear of it
pub use Rattle.ll_unify.proofs.FreshLemmas.{clear-of}
-- another variable is clear
pub use Rattle.ll_unify.proofs.FreshLemmas.{clear-var}
-- terms that are clear, and more of them, are clear together
pub use Rattle.ll_unify.proofs.FreshLemmas.{clear-join}
-- of terms that are clear, those in front are
pub use Rattle.ll_unify.proofs.FreshLemmas.{clear-before}
-- of terms that are clear, those behind are
pub use Rattle.ll_unify.proofs.FreshLemmas.{clear-behind}
-- the arguments of a clear term are clear
pub use Rattle.ll_unify.proofs.FreshLemmas.{clear-args}
-- a term that comes to the same under a substitution is as clear
pub use Rattle.ll_unify.proofs.FreshLemmas.{clear-same}
-- of marks that all hold none fails
pub use Rattle.ll_unify.proofs.FreshLemmas.{none-false}
-- terms in which no more stands leave new variables new
pub use Rattle.ll_unify.proofs.FreshLemmas.{fresh-keeps}
-- variables that are new to terms are new to the first
pub use Rattle.ll_unify.proofs.FreshLemmas.{fresh-first}
-- ---- heads and arguments

-- a place that shows a head with arguments begins with a head
pub use Rattle.ll_unify.proofs.Pairs.{spine-place}
-- two applications have one shape where their heads are equal and their arguments as many
pub use Rattle.ll_unify.proofs.Pairs.{shape-app}
-- terms of one shape have as many arguments
pub use Rattle.ll_unify.proofs.Alike.{shape-length}
-- terms of one head and as many arguments differ where their arguments do
pub use Rattle.ll_unify.proofs.Alike.{diff-spine}
-- lists differ where their fronts do, and then where their backs do
pub use Rattle.ll_unify.proofs.Alike.{diff-append}
-- terms of different heads, or with more arguments, clash
pub use Rattle.ll_unify.proofs.Alike.{diff-clash}
-- a number clashes with an application
pub use Rattle.ll_unify.proofs.Pairs.{clash-int-app}
-- an application clashes with a number
pub use Rattle.ll_unify.proofs.Pairs.{clash-app-int}
-- ---- unification, step by step

-- at first all of both lists is left to unify
pub use Rattle.ll_unify.proofs.Solving.{solves-start}
-- the same lists in another form
pub use Rattle.ll_unify.proofs.Solving.{solves-alike}
-- nothing is left to unify, and the unifier is what the table says
pub use Rattle.ll_unify.proofs.Solving.{solves-none}
-- what is left clashes, and there is no unifier
pub use Rattle.ll_unify.proofs.Solving.{solves-clash}
-- a table keeps its own cells
pub use Rattle.ll_unify.proofs.Settling.{keeps-same}
-- cells that are kept twice are kept
pub use Rattle.ll_unify.proofs.Settling.{keeps-then}
-- ---- what unification asks for

-- where nothing is bound, what unifies the lists as they stand
pub use Rattle.ll_unify.proofs.EquationLaws.{wanted-start}
