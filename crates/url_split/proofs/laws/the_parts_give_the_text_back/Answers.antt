use Rattle.url_split.proofs.SpellingLemmas.{parts_spell, selectors_are, extension_is, suffix_is}
use Rattle.url_split.proofs.laws.the_parts_give_the_text_back.Goals as goal

pub returns-clause-text : goal.returns-clause-text
returns-clause-text c = parts_spell c.a_path_and_its_text.ensures.spelled

pub returns-clause-selectors : goal.returns-clause-selectors
returns-clause-selectors c = selectors_are

pub returns-clause-extension : goal.returns-clause-extension
returns-clause-extension c = extension_is

pub returns-clause-suffix : goal.returns-clause-suffix
returns-clause-suffix c = suffix_is
