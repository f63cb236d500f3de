-- The pair that patterns give with a prefix, as one answer. It is the one of the relation in Patterns.antt.
use Rattle.std.specs.Prelude.{◌&&◌, ◌++◌, ℕ, zero, suc, Bool, false, nat_eq, is_some, if◌then◌else◌, List, [], ◌∷◌, Option, Some, None, drop, filter, length, option_and_then, option_map, take}
use Rattle.std.specs.Cmp.Lexicographic.{pointwise}
use Rattle.std.specs.Option.{option_map_or}
use Rattle.std.specs.Ordering.{is_lt}
use Rattle.std.specs.Str.{chars}
use Rattle.sp_base.specs.Texts.{Text}
use Rattle.sp_base.specs.Names.{by_name}
use Rattle.regex_rules.specs.Trees.{PatternTree}
use Rattle.regex_rules.specs.Deciding.{pattern_tree}
use Rattle.regex_rules.specs.Languages.{in_language}
use Rattle.regex_rules.specs.Fronts.{may_cut}
use Rattle.resource_tree.specs.declared.nodes.Node.{Node}
use Rattle.resource_tree.specs.Content.{Content, kid, name_of, node_at}
use Rattle.resource_tree.specs.Changes.{kids_at}
use Rattle.url_maps.specs.declared.pairs.Pair.{Pair}
use Rattle.url_maps.specs.declared.pairs.PairKind.TheVariants.{Pattern}
use Rattle.url_maps.specs.Mappings.{mapping_of}
use Rattle.url_maps.specs.Patterns.{Asked, mappings_path, match_text}

-- ---- the longest front

-- whether the text after HOST.PORT is in the language up to a place at which it may be cut
abbrev pub is_front : PatternTree → Asked → ℕ → Bool
is_front pattern asked at = may_cut (drop at asked.text) && in_language pattern (chars (name_of asked.host_node ++ take at asked.text))

-- the last such place before another
abbrev pub last_front : PatternTree → Asked → ℕ → Option ℕ
last_front pattern asked zero = None
last_front pattern asked (suc at) = if is_front pattern asked at then Some at else last_front pattern asked at

-- the last in the text
abbrev pub longest_front : Asked → PatternTree → Option ℕ
longest_front asked pattern = last_front pattern asked (suc (length asked.text))

-- ---- the pair of a node

-- the pattern that a node has
abbrev pub node_pattern : Node → Option PatternTree
node_pattern node = option_and_then (λ text. pattern_tree (chars text)) (match_text node)

-- whether a prefix is the longest front of a node's pattern
abbrev pub has_front : Asked → List ℕ → Node → Bool
has_front asked prefix node = option_map_or (λ at. pointwise nat_eq prefix (take at asked.text)) (option_and_then (longest_front asked) (node_pattern node)) false

-- where a node leads, if the prefix is that front
abbrev pub given_by : Asked → List ℕ → Node → Option (List ℕ × Option ℕ)
given_by asked prefix node = if has_front asked prefix node then mapping_of node else None

-- the same of the node of a name directly below `/etc/map/http`
abbrev pub given_at : Content → Asked → List ℕ → List ℕ → Option (List ℕ × Option ℕ)
given_at tree asked prefix name = option_and_then (given_by asked prefix) (node_at tree (kid mappings_path name))

-- ---- the node with the least name

abbrev pub lesser : List ℕ → Option (List ℕ) → List ℕ
lesser name None = name
lesser name (Some other) = if is_lt (by_name name other) then name else other

-- the least of some names
abbrev pub least : List Text → Option (List ℕ)
least [] = None
least (name ∷ names) = Some (lesser name (least names))

-- the names of the nodes that give a pair with a prefix
abbrev pub givers : Content → Asked → List ℕ → List Text
givers tree asked prefix = filter (λ name. is_some (given_at tree asked prefix name)) (kids_at tree mappings_path)

abbrev pub pattern_pair : List ℕ × Option ℕ → Pair
pattern_pair to = record { kind = Pattern; target = to.0; away = to.1 }

-- the pair that patterns give with a prefix for what is asked, if anything is
abbrev pub pattern_with : Content → Option Asked → List ℕ → Option Pair
pattern_with tree None prefix = None
pattern_with tree (Some asked) prefix = option_map pattern_pair (option_and_then (given_at tree asked prefix) (least (givers tree asked prefix)))
