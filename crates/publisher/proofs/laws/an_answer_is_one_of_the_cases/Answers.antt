use Rattle.sp_base.specs.Limits.{most_rendered_bytes}
use Rattle.sp_base.specs.Paths.{text_of}
use Rattle.sp_base.specs.declared.answer.Ask.{Ask}
use Rattle.resource_tree.specs.Content.{Content, IsGood}
use Rattle.overlay_merge.specs.Merged.{has_resource}
use Rattle.type_chain.specs.Chain.{chain_of}
use Rattle.publisher.specs.Rendering.{seen_resources}
use Rattle.publisher.proofs.CaseLemmas.{Searches, answer_case, case_is}
use Rattle.publisher.proofs.laws.an_answer_is_one_of_the_cases.Goals as goal

pub returns : goal.returns
returns c =
    let searches : (tree : Content) (ask : Ask) → IsGood tree → Searches tree ask = λ tree ask good. record {
      mapped = c.the_answer_is_mapped.ensures.is tree ask.host ask.port (text_of ask.path) good;
      mapped_only = λ answer is. c.the_answer_is_mapped.ensures.only tree ask.host ask.port (text_of ask.path) answer good is;
      split = λ text. c.the_split_is_the_longest.ensures.some (has_resource tree) text;
      not_split = λ text. c.the_split_is_the_longest.ensures.none (has_resource tree) text;
      split_only = λ text parts is. c.the_split_is_the_longest.ensures.only (has_resource tree) text parts is;
      first = λ res parts. c.search_finds_the_first.ensures.first tree (chain_of tree res.props) parts;
      none = λ res parts. c.search_finds_the_first.ensures.none tree (chain_of tree res.props) parts;
      one = λ res parts. c.one_script_is_first.ensures tree (chain_of tree res.props) parts;
      spelled = c.the_blocks_are_the_text.ensures.found;
      spelled_only = c.the_blocks_are_the_text.ensures.only;
      over = λ res depth most. c.over_is_the_greatest_depth.ensures (seen_resources tree) res depth most_rendered_bytes most;
    } in
    record {
      is = λ tree ask good. answer_case tree ask (searches tree ask good);
      only = λ tree ask answer good is. case_is tree ask (searches tree ask good) answer is;
    }
