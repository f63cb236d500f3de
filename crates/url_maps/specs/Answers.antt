-- What a tree maps a text to, as one answer. It is the answer of the relation in Turns.antt: a law of the crate says so.
use Rattle.std.specs.Prelude.{◌+◌, ◌-◌, ℕ, zero, suc, Bool, not, is_none, if◌then◌else◌, List, [], ◌∷◌, Option, Some, None, Result, Ok, Err, drop, filter, find, length, option_and_then, option_map, take, ◌≡◌}
use Rattle.std.specs.List.{list_all, range_with_len}
use Rattle.std.specs.Map.{keys_of}
use Rattle.std.specs.Option.{option_or}
use Rattle.std.specs.Ordering.{is_lt}
use Rattle.sp_base.specs.Texts.{Segments, Text}
use Rattle.sp_base.specs.Paths.{parent_of, path_of, text_of}
use Rattle.sp_base.specs.declared.path.PathFault.{PathFault}
use Rattle.regex_rules.specs.Fronts.{may_cut}
use Rattle.resource_tree.specs.Content.{Content, kid, name_of, node_at}
use Rattle.resource_tree.specs.Changes.{kids_at}
use Rattle.url_maps.specs.declared.answer.MapAnswer.{MapAnswer}
use Rattle.url_maps.specs.declared.answer.MapAnswer.TheVariants.{Inside, Away}
use Rattle.url_maps.specs.declared.pairs.Pair.{Pair}
use Rattle.url_maps.specs.declared.pairs.PairKind.{PairKind}
use Rattle.url_maps.specs.declared.pairs.PairKind.TheVariants.{Mapping, Alias, VanityPath}
use Rattle.url_maps.specs.Aliases.{has_alias}
use Rattle.url_maps.specs.Mappings.{has_match, mapping_of}
use Rattle.url_maps.specs.Patterns.{Asked, asked_for, node_of_host}
use Rattle.url_maps.specs.PatternAnswers.{pattern_with}
use Rattle.url_maps.specs.Pairs.{goes_on_after_prefix}
use Rattle.url_maps.specs.Search.{mapped_path}
use Rattle.url_maps.specs.Turns.{most_turns, text_after, IsMapped}
use Rattle.url_maps.specs.VanityPaths.{has_vanity_path, vanity_page, vanity_cmp}

-- ---- the pair of each kind with a prefix

-- whether no node from the host node down to the path has a pattern
abbrev pub is_without_pattern : Content → Segments → Segments → Bool
is_without_pattern tree host_node path = list_all (λ depth. not (has_match tree (take depth path))) (range_with_len (length host_node) (length path + 1 - length host_node))

-- the pair of a mapping
abbrev pub pair_to : List ℕ × Option ℕ → Pair
pair_to leads = record { kind = Mapping; target = leads.0; away = leads.1 }

-- the pair of the mapping at a path, where no node from the host node down to it has a pattern
abbrev pub mapping_at : Content → Segments → Segments → Option Pair
mapping_at tree host_node path = if is_without_pattern tree host_node path then option_map pair_to (option_and_then mapping_of (node_at tree path)) else None

-- the mapping with a prefix
abbrev pub mapping_with : Content → Option Segments → List ℕ → Option Pair
mapping_with tree None prefix = None
mapping_with tree (Some host_node) prefix = option_and_then (mapping_at tree host_node) (mapped_path host_node prefix)

-- the pair to a node
abbrev pub pair_inside : PairKind → Segments → Pair
pair_inside kind path = record { kind = kind; target = text_of path; away = None }

-- the first of a path's siblings that has its name as an alias
abbrev pub sibling_with_alias : Content → Segments → Option Segments
sibling_with_alias tree path = option_map (kid (parent_of path)) (find (λ sibling. has_alias tree (kid (parent_of path) sibling) (name_of path)) (kids_at tree (parent_of path)))

-- the alias that a path is, where no node is there
abbrev pub alias_at : Content → Result Segments PathFault → Option Pair
alias_at tree (Ok path) = if is_none (node_at tree path) then option_map (pair_inside Alias) (sibling_with_alias tree path) else None
alias_at tree (Err e) = None

-- the alias with a prefix
abbrev pub alias_with : Content → List ℕ → Option Pair
alias_with tree prefix = alias_at tree (path_of prefix)

-- the nodes with a vanity path
abbrev pub vanity_nodes : Content → List ℕ → List Segments
vanity_nodes tree text = filter (λ path. has_vanity_path tree path text) (keys_of tree)

-- the one of two nodes that is before the other
abbrev pub earlier : Content → Segments → Option Segments → Segments
earlier tree path None = path
earlier tree path (Some other) = if is_lt (vanity_cmp tree path other) then path else other

-- the one of some nodes that is before all others
abbrev pub earliest : Content → List Segments → Option Segments
earliest tree [] = None
earliest tree (path ∷ paths) = Some (earlier tree path (earliest tree paths))

-- the vanity path that a text is, where it spells a path at which no node is
abbrev pub vanity_at : Content → List ℕ → Result Segments PathFault → Option Pair
vanity_at tree text (Ok at) = if is_none (node_at tree at) then option_map (λ path. pair_inside VanityPath (vanity_page path)) (earliest tree (vanity_nodes tree text)) else None
vanity_at tree text (Err e) = None

-- the vanity path with a prefix
abbrev pub vanity_with : Content → List ℕ → Option Pair
vanity_with tree prefix = vanity_at tree prefix (path_of prefix)

-- ---- the pair that decides

-- among those with a prefix, before the rest of a text
abbrev pub pair_with : Content → Option Asked → List ℕ → List ℕ → Option Pair
pair_with tree asked prefix rest = option_or (mapping_with tree (node_of_host asked) prefix) (option_or (pattern_with tree asked prefix) (option_or (alias_with tree prefix) (if goes_on_after_prefix VanityPath rest then vanity_with tree prefix else None)))

-- among those whose prefix ends at a place of a text
abbrev pub pair_at : Content → Option Asked → List ℕ → ℕ → Option Pair
pair_at tree asked text at = if may_cut (drop at text) then pair_with tree asked (take at text) (drop at text) else None

-- among those whose prefix ends before a place: the one at the last place, and that place
abbrev pub deciding_pair : Content → Option Asked → List ℕ → ℕ → Option (ℕ × Pair)
deciding_pair tree asked text zero = None
deciding_pair tree asked text (suc at) = option_or (option_map (λ pair. (at, pair)) (pair_at tree asked text at)) (deciding_pair tree asked text at)

-- ---- the turns

-- a text that leads away is answered with its status, and any other is looked at further
abbrev pub outcome : Option ℕ → List ℕ → (List ℕ → MapAnswer) → MapAnswer
outcome (Some status) text further = Away status text
outcome None text further = further text

-- a turn: what the pair that decides makes of a text; without one the text is the answer
abbrev pub turn : List ℕ → (List ℕ → MapAnswer) → Option (ℕ × Pair) → MapAnswer
turn text further None = Inside text
turn text further (Some (at, pair)) = outcome pair.away (text_after pair at text) further

-- the answer of n turns
abbrev pub answer_of : Content → ℕ → Option Asked → List ℕ → MapAnswer
answer_of tree zero asked text = Inside text
answer_of tree (suc n) asked text = turn text (answer_of tree n None) (deciding_pair tree asked text (suc (length text)))

-- what the tree maps the text to, for a host and a port
unfoldable pub map_answer : Content → List ℕ → ℕ → List ℕ → MapAnswer
map_answer tree host port text = answer_of tree most_turns (Some (asked_for host port text)) text

-- the answer to which a text is mapped is this
abbrev pub IsTheAnswerIfMapped : Content → Text → ℕ → Text → MapAnswer → Type 0
IsTheAnswerIfMapped tree host port text answer = IsMapped tree host port text answer → answer ≡ map_answer tree host port text

-- a text leads away, by this status to this target
abbrev pub IsAway : Content → Text → ℕ → Text → ℕ → Text → Type 0
IsAway tree host port text status target = map_answer tree host port text ≡ Away status target
