-- What content parameters ask of the nodes and properties that they name (Apache Sling, "SlingPostServlet").
-- `is_spot_named`, `set_here` and `sets_from` are needed by private functions and proofs alone.
use Rattle.std.specs.Prelude.{◌==◌, ◌&&◌, ℕ, Bool, true, false, not, if◌then◌else◌, List, [], ◌∷◌, ◌++◌, Option, Some, None, option_and_then, codes, length, map, filter}
use Rattle.std.specs.List.{cons_option, filter_map, list_any}
use Rattle.std.specs.Str.{bytes_eq}
use Rattle.std.specs.Cmp.Lexicographic.{pointwise}
use Rattle.sp_base.specs.Texts.{Segments, Text, Pairs}
use Rattle.sp_base.specs.Bytes.{first_text}
use Rattle.sp_base.specs.declared.hint.Hint.{Hint}
use Rattle.post_plan.specs.declared.suffix.Suffix.{Suffix}
use Rattle.post_plan.specs.declared.suffix.Suffix.TheVariants.{Plain, TypeHint, DefaultValue, Delete, MoveFrom, CopyFrom, ValueFrom, IgnoreBlanks}
use Rattle.post_plan.specs.declared.spot.Spot.{Spot}
use Rattle.post_plan.specs.declared.spot.Carry.{Carry}
use Rattle.post_plan.specs.declared.operation.PropSet.{PropSet}
use Rattle.post_plan.specs.Parameters.{path_text, parameter_suffix, words_of, any_marked, content_where}
use Rattle.post_plan.specs.Hints.{hint_of}
use Rattle.post_plan.specs.Spots.{spot_of}

-- a content parameter: the spot and the suffix of its name, and its word
pub record Entry : Type 0 where
  pub spot : Spot
  pub suffix : Suffix
  pub word : List ℕ

-- a parameter's entry, where its name has a spot and a known suffix
abbrev pub entry_by : Option Spot → Option Suffix → List ℕ → Option Entry
entry_by None suffix word = None
entry_by (Some spot) None word = None
entry_by (Some spot) (Some suffix) word = Some (record { spot = spot; suffix = suffix; word = word })

-- the entry of a parameter, seen from a node
abbrev pub parameter_entry : Segments → List ℕ × List ℕ → Option Entry
parameter_entry node p = entry_by (spot_of node (path_text p.0)) (parameter_suffix p.0) p.1

-- the entries of the content parameters, where `marked` says whether any name is marked
abbrev pub entries_where : Segments → Bool → Pairs → List Entry
entries_where node marked pairs = filter_map (parameter_entry node) (content_where marked pairs)

-- the content parameters of a form, seen from a node
abbrev pub entries : Segments → Pairs → List Entry
entries node pairs = entries_where node (any_marked pairs) pairs

-- whether two suffixes are the same
abbrev pub same_suffix : Suffix → Suffix → Bool
same_suffix Plain Plain = true
same_suffix TypeHint TypeHint = true
same_suffix DefaultValue DefaultValue = true
same_suffix Delete Delete = true
same_suffix MoveFrom MoveFrom = true
same_suffix CopyFrom CopyFrom = true
same_suffix ValueFrom ValueFrom = true
same_suffix IgnoreBlanks IgnoreBlanks = true
same_suffix s t = false

-- the entries of one suffix
abbrev pub with_suffix : Suffix → List Entry → List Entry
with_suffix suffix es = filter (λ e. same_suffix suffix e.suffix) es

-- each `@Delete`, in the order of the form
abbrev pub deleted_spots : List Entry → List Spot
deleted_spots es = map (λ e. e.spot) (with_suffix Delete es)

-- what is copied or moved, where its source has a spot
abbrev pub carry_by : Option Spot → Spot → Option Carry
carry_by None to = None
carry_by (Some from) to = Some (record { from = from; to = to })

-- the move or the copy that a parameter asks for
abbrev pub carry_of : Segments → Entry → Option Carry
carry_of node e = carry_by (spot_of node e.word) e.spot

-- each `@MoveFrom`, or each `@CopyFrom`, in the order of the form
abbrev pub carries : Segments → Suffix → List Entry → List Carry
carries node suffix es = filter_map (carry_of node) (with_suffix suffix es)

-- whether two truths are the same
abbrev pub same_bool : Bool → Bool → Bool
same_bool true b = b
same_bool false b = not b

-- whether two spots are the same
abbrev pub same_spot : Spot → Spot → Bool
same_spot s t = same_bool s.at_target t.at_target && pointwise bytes_eq s.path t.path

-- the first of each that are alike
unfoldable pub distinct : List Spot → List Spot
distinct [] = []
distinct (s ∷ more) = s ∷ filter (λ t. not (same_spot s t)) (distinct more)

-- a parameter of a spot with a suffix
abbrev pub is_of_spot : Spot → Suffix → Entry → Bool
is_of_spot spot suffix e = same_suffix suffix e.suffix && same_spot spot e.spot

-- the words of a spot's parameters with a suffix
abbrev pub words_at : Spot → Suffix → List Entry → List Text
words_at spot suffix es = map (λ e. e.word) (filter (is_of_spot spot suffix) es)

-- its own words, or those of the parameter that `@ValueFrom` names
abbrev pub words_or_source : Option (List ℕ) → Pairs → List Text → List Text
words_or_source None pairs own = own
words_or_source (Some name) pairs own = words_of name pairs

-- whether a word is there and is `true`
abbrev pub is_word_true : Option (List ℕ) → Bool
is_word_true None = false
is_word_true (Some word) = bytes_eq word (codes "true")

-- the words, without the empty ones where those are ignored
abbrev pub without_blanks : Bool → List Text → List Text
without_blanks ignores words = if ignores then filter (λ word. not (length word == 0)) words else words

-- the word of a property that is given one alone
abbrev pub lone_word : List Text → Option (List ℕ)
lone_word [] = None
lone_word (word ∷ []) = Some word
lone_word (word ∷ next ∷ more) = None

-- whether there is one word alone, which is empty
abbrev pub is_one_blank : List Text → Bool
is_one_blank [] = false
is_one_blank (word ∷ []) = length word == 0
is_one_blank (word ∷ next ∷ more) = false

-- one empty word that is left gives way to defaults
abbrev pub words_or_defaults : List Text → List Text → List Text
words_or_defaults [] words = words
words_or_defaults (default ∷ more) words = if is_one_blank words then default ∷ more else words

-- the words that a spot is given: its own, or those of the parameter that `@ValueFrom` names
abbrev pub given_words : Pairs → List Entry → Spot → List Text
given_words pairs es spot = words_or_source (first_text (words_at spot ValueFrom es)) pairs (words_at spot Plain es)

-- the words that a spot is set to
abbrev pub set_words : Pairs → List Entry → Spot → List Text
set_words pairs es spot = words_or_defaults (words_at spot DefaultValue es)
    (without_blanks (is_word_true (first_text (words_at spot IgnoreBlanks es)))
    (given_words pairs es spot))

-- what sets a spot to words, where there is one at least
abbrev pub set_by : Spot → Option Hint → List Text → Option PropSet
set_by spot hint [] = None
set_by spot hint (word ∷ more) = Some (record { spot = spot; hint = hint; words = word ∷ more })

-- the type that a spot's parameters ask for
abbrev pub hint_at : List Entry → Spot → Option Hint
hint_at es spot = option_and_then hint_of (first_text (words_at spot TypeHint es))

-- what sets a spot, by all parameters and entries
abbrev pub set_of : Pairs → List Entry → Spot → Option PropSet
set_of pairs es spot = set_by spot (hint_at es spot) (set_words pairs es spot)

-- the properties that are set, each at the index of the first parameter that names it
abbrev pub sets : Pairs → List Entry → List PropSet
sets pairs es = filter_map (set_of pairs es) (distinct (map (λ e. e.spot) es))

-- whether any of these names a spot
abbrev pub is_spot_named : Spot → List Entry → Bool
is_spot_named spot es = list_any (λ e. same_spot e.spot spot) es

-- what a parameter sets, where those before it don't name its spot
abbrev pub set_here : Pairs → List Entry → List Entry → Entry → Option PropSet
set_here pairs es before e = if is_spot_named e.spot before then None else set_of pairs es e.spot

-- the properties that later parameters set, where these stand before them
unfoldable pub sets_from : Pairs → List Entry → List Entry → List Entry → List PropSet
sets_from pairs es before [] = []
sets_from pairs es before (e ∷ later) = cons_option (set_here pairs es before e) (sets_from pairs es (before ++ e ∷ []) later)
