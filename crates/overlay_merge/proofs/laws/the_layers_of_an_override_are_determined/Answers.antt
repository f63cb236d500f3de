use Rattle.overlay_merge.proofs.StepLemmas.{layers_have_steps, layers_are_alone, below_found, below_only}
use Rattle.overlay_merge.proofs.laws.the_layers_of_an_override_are_determined.Goals as goal

pub returns-clause-steps : goal.returns-clause-steps
returns-clause-steps c = layers_have_steps

pub returns-clause-alone : goal.returns-clause-alone
returns-clause-alone c = layers_are_alone

pub returns-clause-found : goal.returns-clause-found
returns-clause-found c = below_found

pub returns-clause-only : goal.returns-clause-only
returns-clause-only c = below_only
