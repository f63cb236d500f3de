use Rattle.run_laws.proofs.NamedLemmas.{notes_named}
use Rattle.run_laws.proofs.laws.notes_name_pages.Goals as goal

pub returns : goal.returns
returns c = notes_named c.a_path_and_its_text.ensures.valid c.a_page_has_one_key.ensures.unmangled
