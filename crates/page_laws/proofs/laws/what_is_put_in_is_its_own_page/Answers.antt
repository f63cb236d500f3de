use Rattle.page_laws.proofs.InclusionLemmas.{Known, scripts_stand, resources_stand, no_script_stands, no_resource_stands, include_page, resource_page, no_include_page, no_resource_page}
use Rattle.page_laws.proofs.laws.what_is_put_in_is_its_own_page.Goals as goal

pub returns : goal.returns
returns c =
    let known : Known = record {
      spelled = c.the_blocks_are_the_text.ensures.found;
      spelled_only = c.the_blocks_are_the_text.ensures.only;
      first = c.search_finds_the_first.ensures.first;
      none = c.search_finds_the_first.ensures.none;
      one = c.one_script_is_first.ensures;
    } in
    record {
      script = scripts_stand known;
      resource = resources_stand known;
      no_script = no_script_stands known;
      no_resource = no_resource_stands known;
      include_page = include_page known;
      resource_page = resource_page known;
      no_include_page = no_include_page known;
      no_resource_page = no_resource_page known;
    }
