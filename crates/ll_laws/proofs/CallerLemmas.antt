-- What the crates above may cite of the laws of the language and its search, beside the public contracts.

-- ---- substitutions

-- putting each variable for itself changes nothing
pub use Rattle.ll_laws.proofs.unification.SubLaws.{sub_id}
-- putting each variable for itself changes no term of a list
pub use Rattle.ll_laws.proofs.unification.SubLaws.{subs_id}
-- substitutions that agree on each variable agree on a term
pub use Rattle.ll_laws.proofs.unification.SubLaws.{sub_same}
-- one substitution after another, in a term
pub use Rattle.ll_laws.proofs.unification.SubLaws.{sub_comp}
-- one substitution after another, in a formula
pub use Rattle.ll_laws.proofs.unification.SubLaws.{sub_form_comp}
-- a substitution by closed terms
pub use Rattle.ll_laws.proofs.unification.SubLaws.{IsClosing}
-- a closed term has no place to fill
pub use Rattle.ll_laws.proofs.unification.SubLaws.{close_closed}
-- a substitution by closed terms goes through the opening of a quantifier
pub use Rattle.ll_laws.proofs.unification.SubLaws.{sub_instantiate}
-- a substitution changes no way to a leaf
pub use Rattle.ll_laws.proofs.unification.SubLaws.{ways-sub}
-- a leaf has as many terms as quantifiers stand on its way
pub use Rattle.ll_laws.proofs.search.LeafWays.{leaf_ways}
-- below a premise that was added there is a leaf
pub use Rattle.ll_laws.proofs.search.LeafWays.{Under}
-- a leaf with a premise added has one below it
pub use Rattle.ll_laws.proofs.search.LeafWays.{under}
-- the leaves of all clauses that wait
pub use Rattle.ll_laws.proofs.search.LeafWays.{waiting_ways}
-- one more clause that waits
pub use Rattle.ll_laws.proofs.search.LeafWays.{ways-push}
-- what is no clause has no leaves
pub use Rattle.ll_laws.proofs.search.LeafWays.{other_ways}
-- the count stays where a clause takes the place of one with as many leaves
pub use Rattle.ll_laws.proofs.search.LeafWays.{count_in}
-- the count stays where two clauses take the place of one with the leaves of both
pub use Rattle.ll_laws.proofs.search.LeafWays.{count_both}
-- a quantifier changes no number of leaves
pub use Rattle.ll_laws.proofs.search.LeafWays.{ways_quantified}
-- a premise under a substitution
pub use Rattle.ll_laws.proofs.unification.SubLaws.{sub_premise}
-- a leaf under a substitution
pub use Rattle.ll_laws.proofs.unification.SubLaws.{sub_leaf}
-- a leaf of a clause under a substitution by closed terms is that leaf under it
pub use Rattle.ll_laws.proofs.unification.SubLaws.{leaf-sub}
-- ---- unification

-- a head is equal to itself
pub use Rattle.ll_laws.proofs.unification.UnifyLaws.{head_eq-refl}
-- heads that compare as equal are the same
pub use Rattle.ll_laws.proofs.unification.UnifyLaws.{head_eq-true}
-- terms that compare as equal are the same
pub use Rattle.ll_laws.proofs.derivations.FaultLaw.{term_eq-true}
-- a term compares as equal to itself
pub use Rattle.ll_laws.proofs.derivations.FaultLaw.{term_eq-refl}
-- a test of equality finds no variable to bind
pub use Rattle.ll_laws.proofs.unification.UnifyLaws.{when-meet}
-- terms between which no difference is found are the same
pub use Rattle.ll_laws.proofs.unification.UnifyLaws.{diff-same}
-- no level rises where a term is bound
pub use Rattle.ll_laws.proofs.unification.UnifyLaws.{lower-le}
-- where a term is bound at a level, the levels of its variables fall to it, and no others change
pub use Rattle.ll_laws.proofs.unification.UnifyLaws.{level-lower}
-- there are as many levels where a term is bound as before
pub use Rattle.ll_laws.proofs.unification.UnifyOver.{length-lower}
-- what stands for a variable of a term has variables below a number where the whole has
pub use Rattle.ll_laws.proofs.unification.UnifyLaws.{vars_below-part}
-- a variable's level is at most the bound of all levels
pub use Rattle.ll_laws.proofs.search.AnswerSteps.{level_up_to}
-- a variable behind those that are there has the level of the new ones
pub use Rattle.ll_laws.proofs.search.AnswerSteps.{new_level}
-- levels that are all the same are in bounds where this one is
pub use Rattle.ll_laws.proofs.consistency.ConsistentStates.{levels-replicate}
-- a variable that occurs in a term is one of those that the term may mention
pub use Rattle.ll_laws.proofs.search.AnswerSteps.{occurs_below}
-- eigenvariables below a level are below a higher one
pub use Rattle.ll_laws.proofs.unification.UnifyLaws.{eigens-mono}
-- what unification answers is a unifier
pub use Rattle.ll_laws.proofs.unification.UnifyBest.{found-unifier}
-- unification raises no level
pub use Rattle.ll_laws.proofs.unification.UnifyBest.{found-falls}
-- what unification answers is most general
pub use Rattle.ll_laws.proofs.unification.UnifyBest.{found-best}
-- where unification answers nothing, there is no unifier
pub use Rattle.ll_laws.proofs.unification.UnifyBest.{none-unifier}
-- ---- what terms of a consistent state may mention

-- of two allowances, the second allows at least what the first does
pub use Rattle.ll_laws.proofs.consistency.ConsistentTerms.{Grows}
-- each allowance allows what itself does
pub use Rattle.ll_laws.proofs.consistency.ConsistentTerms.{grows-refl}
-- a state may mention what a problem may with k variables, if it has as many
pub use Rattle.ll_laws.proofs.consistency.ConsistentStates.{grows_given}
-- the scope has the places of the other and perhaps more, and each that may be a predicate still may
pub use Rattle.ll_laws.proofs.consistency.ConsistentTerms.{Widens}
-- a scope widens itself
pub use Rattle.ll_laws.proofs.consistency.ConsistentTerms.{widens-refl}
-- the term has a head, and one that may be a predicate or have arguments
pub use Rattle.ll_laws.proofs.consistency.ConsistentTerms.{IsHead}
-- the term mentions what it may, and what stands in front of arguments is a head
pub use Rattle.ll_laws.proofs.consistency.ConsistentTerms.{Fit}
-- each term of a list fits
pub use Rattle.ll_laws.proofs.consistency.ConsistentTerms.{AllFit}
-- a term without bound places, whose variables and eigenvariables are there, fits
pub use Rattle.ll_laws.proofs.consistency.ConsistentTerms.{fit_of_made}
-- a term that fits has no variable beyond those that are there
pub use Rattle.ll_laws.proofs.consistency.ConsistentTerms.{fit-vars}
-- a term that fits has no eigenvariable beyond those that are there
pub use Rattle.ll_laws.proofs.consistency.ConsistentTerms.{fit-eigens}
-- a term that fits has no bound place beyond those of its scope
pub use Rattle.ll_laws.proofs.consistency.ConsistentTerms.{fit-places}
-- the head of a closed term may stand in front of arguments
pub use Rattle.ll_laws.proofs.consistency.ConsistentTerms.{head_of_closed}
-- where what stands in front of arguments is a head that may have them, it is a head
pub use Rattle.ll_laws.proofs.consistency.ConsistentTerms.{headed_applies}
-- the same of each term of a list
pub use Rattle.ll_laws.proofs.consistency.ConsistentTerms.{all_headed}
-- a term that fits still fits where more is allowed and the scope is wider
pub use Rattle.ll_laws.proofs.consistency.ConsistentTerms.{fit-more}
-- each variable that there is goes to a closed term
pub use Rattle.ll_laws.proofs.consistency.ConsistentTerms.{GoesToFitting}
-- a term that fits still fits under a substitution by terms that fit
pub use Rattle.ll_laws.proofs.consistency.ConsistentTerms.{fit-sub}
-- an environment takes terms of the inner scope to the outer one, and what it puts for places are closed terms that fit them
pub use Rattle.ll_laws.proofs.consistency.ConsistentTerms.{Closes}
-- ---- formulas of consistent states

-- the formula may stand on this side, and its terms fit
pub use Rattle.ll_laws.proofs.consistency.ConsistentForms.{FormFits}
-- a formula that fits is one in the words of the definitions
pub use Rattle.ll_laws.proofs.consistency.ConsistentForms.{formula_of_fits}
-- a formula in the words of the definitions fits
pub use Rattle.ll_laws.proofs.consistency.ConsistentForms.{fits_of_formula}
-- a formula that fits still fits where more is allowed and the scope is wider
pub use Rattle.ll_laws.proofs.consistency.ConsistentForms.{fits-more}
-- a closed formula stays one where more is allowed
pub use Rattle.ll_laws.proofs.consistency.ConsistentContexts.{formula-more}
-- a formula that fits, closed by an environment, fits the outer scope
pub use Rattle.ll_laws.proofs.consistency.ConsistentForms.{fits-close}
-- the other side
pub use Rattle.ll_laws.proofs.consistency.ConsistentForms.{other}
-- whether the bound place of a `forall` on this side may be a predicate
pub use Rattle.ll_laws.proofs.consistency.ConsistentForms.{opens_on}
-- only the number of arguments decides whether they fit a module
pub use Rattle.ll_laws.proofs.consistency.ConsistentForms.{fits_module-length}
-- a substitution leaves a formula without variables as it is
pub use Rattle.ll_laws.proofs.completeness.Grounding.{sub_none_form}
-- ---- clauses, leaves and modules that fit

-- the goal of each premise fits
pub use Rattle.ll_laws.proofs.consistency.ConsistentLeaves.{PremisesFit}
-- the atom and the premises of a leaf fit
pub use Rattle.ll_laws.proofs.consistency.ConsistentLeaves.{LeafFits}
-- a leaf of a clause that fits, at terms that fit, fits
pub use Rattle.ll_laws.proofs.consistency.ConsistentLeaves.{leaf-fits}
-- the clauses of a module of the problem fit wherever as much is allowed
pub use Rattle.ll_laws.proofs.consistency.ConsistentSteps.{module-fits}
-- the goal that a load of a fitting module stands for fits
pub use Rattle.ll_laws.proofs.consistency.ConsistentLeaves.{unfold_load-fits}
-- a substitution by closed terms goes through the goal that a load stands for
pub use Rattle.ll_laws.proofs.completeness.Grounding.{unfold_sub}
-- ---- states and their inferences

-- as many new variables are made as are asked for
pub use Rattle.ll_laws.proofs.consistency.ConsistentStates.{length-vars}
-- a search starts in a consistent state
pub use Rattle.ll_laws.proofs.consistency.ConsistentStates.{starts_consistent}
-- settling a consistent state gives a consistent one
pub use Rattle.ll_laws.proofs.consistency.ConsistentStates.{settles_consistent}
-- an inference of a consistent state gives a consistent one
pub use Rattle.ll_laws.proofs.consistency.ConsistentSteps.{steps_consistent}
-- other live marks leave labels and kinds as they are
pub use Rattle.ll_laws.proofs.consistency.ConsistentContexts.{alike-remark}
-- ends look at labels and kinds alone
pub use Rattle.ll_laws.proofs.consistency.ConsistentContexts.{alike-ends}
-- settling looks at no goal and no clause
pub use Rattle.ll_laws.proofs.search.SettleLaws.{front-map}
-- settling takes no step
pub use Rattle.ll_laws.proofs.search.SettleLaws.{settle_steps}
-- ---- the search and its cost, inference by inference

-- where settling fails, a search has no event
pub use Rattle.ll_laws.proofs.search.SearchLaws.{events_none}
-- where nothing is left to do, a search has an answer where the context allows one, and else no event
pub use Rattle.ll_laws.proofs.search.SearchLaws.{events_answer}
-- where something is left to do and no inference is, a search has reached its bound
pub use Rattle.ll_laws.proofs.search.SearchLaws.{events_reached}
-- else the events are those of the candidates, one after the other
pub use Rattle.ll_laws.proofs.search.SearchLaws.{events_step}
-- where settling fails, a search costs nothing
pub use Rattle.ll_laws.proofs.search.SearchLaws.{cost_none}
-- where nothing is left to do, a search costs nothing more
pub use Rattle.ll_laws.proofs.search.SearchLaws.{cost_answer}
-- a search without inferences costs nothing
pub use Rattle.ll_laws.proofs.search.SearchLaws.{cost_zero}
-- else the cost is that of the candidates
pub use Rattle.ll_laws.proofs.search.SearchLaws.{cost_step}
-- a count that is cut before it goes one higher is cut to the same
pub use Rattle.ll_laws.proofs.search.SearchLaws.{cut_count-suc}
-- ---- derivations

-- the nodes of all trees
pub use Rattle.ll_laws.proofs.derivations.Lines.{total}
-- a derivation has as many nodes as its trees
pub use Rattle.ll_laws.proofs.derivations.Lines.{trees-count}
-- dealing out the labels keeps the nodes of a tree
pub use Rattle.ll_laws.proofs.derivations.DealtShown.{deal_nodes}
-- lines of one tree without a fault show the problem
pub use Rattle.ll_laws.proofs.derivations.Lines.{no-fault-shows}
-- lines that show the problem have no fault, and as many nodes as their tree
pub use Rattle.ll_laws.proofs.derivations.Lines.{shown-no-fault}
-- what unification finds begins with one binding
pub use Rattle.ll_laws.proofs.unification.UnifyLaws.{begins}
-- terms with one variable bound
pub use Rattle.ll_laws.proofs.unification.UnifyLaws.{bound_list}
-- unification keeps the number of variables, and raises no level
pub use Rattle.ll_laws.proofs.unification.UnifyOver.{solve-falls}
-- a leaf that was taken: from an entry, with so many new variables, and what unification found
pub use Rattle.ll_laws.proofs.search.AnswerRuns.{Taken}
-- an atom that was taken was so by a leaf of an entry
pub use Rattle.ll_laws.proofs.search.AnswerRuns.{taken_from}
-- one element more behind equal ones may as well stand in front of them
pub use Rattle.ll_laws.proofs.consistency.ConsistentLeaves.{replicate-front}
-- the derivation of an answer of a valid problem shows its query
pub use Rattle.ll_laws.proofs.derivations.DealtShown.{answers-shown}
-- an element that a list contains is one of it
pub use Rattle.ll_laws.proofs.search.AnswerRuns.{among}
-- an element is one of a list, by recursion on the list
pub use Rattle.ll_laws.proofs.search.AnswerRuns.{Among}
-- what one of the lists has that stand behind each other comes from one element
pub use Rattle.ll_laws.proofs.search.AnswerRuns.{from}
-- an element of a list has a place in it
pub use Rattle.ll_laws.proofs.search.RunsFound.{index_of}
-- what an operator made of its two sides
pub use Rattle.ll_laws.proofs.search.Numbers.{Combined}
-- an operator that makes a value has one on each side
pub use Rattle.ll_laws.proofs.search.Numbers.{combined_of}
-- a list turned round in front of another is changed element by element
pub use Rattle.ll_laws.proofs.completeness.Grounding.{map_onto}
-- a closed term stays closed where closed terms are put for its variables
pub use Rattle.ll_laws.proofs.completeness.Grounding.{closed_sub}
-- the nodes of a tree make this tree
pub use Rattle.ll_laws.proofs.search.RunsShown.{tree_of_lines}
-- some node of a tree is that of a whole-number goal
pub use Rattle.ll_laws.proofs.derivations.Numberless.{numbers}
-- some node of a clause's parts is
pub use Rattle.ll_laws.proofs.derivations.Numberless.{numbers_part}
-- a tree has whole-number goals where the nodes that make it have
pub use Rattle.ll_laws.proofs.derivations.Numberless.{tree-numbers}
-- the nodes of a tree have whole-number goals where the tree has
pub use Rattle.ll_laws.proofs.derivations.Numberless.{lines-numbers}
-- two sets that have each label of a list once deal its clauses out
pub use Rattle.ll_laws.proofs.derivations.DeriveLaw.{deal_two}
-- a part of a list and the rest deal its clauses out
pub use Rattle.ll_laws.proofs.derivations.DeriveLaw.{deal_rest}
-- all may go to one side
pub use Rattle.ll_laws.proofs.derivations.DeriveLaw.{deal_none}
-- a clause that was taken by its label is one of the list
pub use Rattle.ll_laws.proofs.derivations.DeriveLaw.{in_taken}
-- a clause that was taken by its label and what it leaves deal the list out
pub use Rattle.ll_laws.proofs.derivations.DeriveLaw.{deal_taken}
-- the labels of a list are those that it has
pub use Rattle.ll_laws.proofs.derivations.Dealing.{has_labels}
-- a label that a list lacks takes nothing from it
pub use Rattle.ll_laws.proofs.derivations.Leftovers.{take_missing}
