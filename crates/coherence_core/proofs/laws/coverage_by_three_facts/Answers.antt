use Rattle.coherence_core.proofs.CoverageLemmas.{facts_of}
use Rattle.coherence_core.proofs.laws.coverage_by_three_facts.Goals as goal

pub returns : goal.returns
returns c = λ farm. facts_of farm c.a_touch_outdates_the_pages_of_its_folders.ensures.folders c.the_key_of_a_path_is_a_page_key.ensures.folder c.folders_are_mangled.ensures.stat c.folders_of_stamps_are_paths.ensures.stat c.folders_of_stamps_are_paths.ensures.stat_bytes
