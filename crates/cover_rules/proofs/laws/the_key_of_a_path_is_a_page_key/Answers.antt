use Rattle.cover_rules.proofs.PageLemmas.{folder_of_page, key_of_path}
use Rattle.cover_rules.proofs.laws.the_key_of_a_path_is_a_page_key.Goals as goal

pub returns-clause-key : goal.returns-clause-key
returns-clause-key c = λ path key valid bytes h.
    key_of_path path key (c.mangling_and_unmangling.ensures.path path valid) (c.mangling_and_unmangling.ensures.bytes path bytes) (c.a_page_has_one_key.ensures.own path key valid h) h

pub returns-clause-folder : goal.returns-clause-folder
returns-clause-folder c = λ key is. folder_of_page key is.own
