-- The farm of a file (Adobe Dispatcher manual, "Defining Farms").
use Rattle.std.specs.Prelude.{◌≡◌, ℕ, ◌+◌, ◌*◌, ◌-◌, Bool, true, false, not, ◌||◌, ◌&&◌, if◌then◌else◌, ◌==◌, nat_eq, nat_le, List, [], ◌∷◌, ◌++◌, length, Option, Some, None, unwrap_or, Result, Ok, Err, codes}
use Rattle.std.specs.List.{list_all}
use Rattle.std.specs.Cmp.Lexicographic.{pointwise}
use Rattle.sp_base.specs.Outcomes.{◌>>=◌}
use Rattle.sp_base.specs.Bytes.{is_digit}
use Rattle.sp_base.specs.Limits.{greatest_port, http_port}
use Rattle.glob_rules.specs.declared.piece.GlobPiece.{GlobPiece}
use Rattle.glob_rules.specs.declared.rule.Rule.{Rule}
use Rattle.glob_rules.specs.declared.fault.GlobFault.{GlobFault}
use Rattle.glob_rules.specs.Reading.{glob_of}
use Rattle.regex_rules.specs.declared.place.PatternPlace.{PatternPlace}
use Rattle.regex_rules.specs.declared.fault.PatternFault.{PatternFault}
use Rattle.regex_rules.specs.Reading.{pattern_of}
use Rattle.any_config.specs.declared.farm.Test.{Test}
use Rattle.any_config.specs.declared.farm.Test.TheVariants as test
use Rattle.any_config.specs.declared.farm.Farm.{Farm}
use Rattle.any_config.specs.declared.farm.VirtualHost.{VirtualHost}
use Rattle.any_config.specs.declared.farm.Filter.{Filter}
use Rattle.any_config.specs.declared.farm_fault.FarmFault.{FarmFault}
use Rattle.any_config.specs.declared.farm_fault.FarmFault.TheVariants.{Missing, BadKind, NotSupported, NoMemory}
use Rattle.any_config.specs.declared.node.AnyNode.{AnyNode, out-AnyNode}
use Rattle.any_config.specs.declared.node.AnyNode.TheOpen.{AnyNode-F}
use Rattle.any_config.specs.Read.{Members}
use Rattle.any_config.specs.Tokens.{is_letter_or_digit}

-- what was read, or the first fault
abbrev pub FarmOutcome : Type 0 → Type 0
FarmOutcome A = Result A FarmFault

-- the fault is that of the reading, unless memory ran out
abbrev pub FarmFails : {A : Type 0} → FarmFault → FarmOutcome A → Type 0
FarmFails NoMemory read = Unit {0}
FarmFails (Missing name) read = read ≡ Err (Missing name)
FarmFails (BadKind name) read = read ≡ Err (BadKind name)
FarmFails (NotSupported name) read = read ≡ Err (NotSupported name)

-- what a function returned is what reading gives, unless memory ran out
abbrev pub FarmGives : {X A : Type 0} → (X → A) → Result X FarmFault → FarmOutcome A → Type 0
FarmGives view (Ok x) read = read ≡ Ok (view x)
FarmGives view (Err e) read = FarmFails e read

-- ---- members and values

-- the text is this name
abbrev pub is_member_name : List ℕ → List ℕ → Bool
is_member_name name text = pointwise nat_eq text name

-- a name that stands twice counts by its first
abbrev pub member_value : List ℕ → Members → Option AnyNode
member_value name [] = None
member_value name (m ∷ ms) = if is_member_name name m.0 then Some m.1 else member_value name ms

-- a member without a name is told by its group
abbrev pub name_or : List ℕ → List ℕ → List ℕ
name_or name group = if length name == 0 then group else name

-- the members of a group; a text in single quotes is not supported, and a word is of the wrong kind
abbrev pub group_in : List ℕ → AnyNode-F AnyNode → FarmOutcome Members
group_in name (AnyNode-F.Word text) = Err (BadKind name)
group_in name (AnyNode-F.Pattern text) = Err (NotSupported name)
group_in name (AnyNode-F.Group ms) = Ok ms

-- a value that has to be a group
abbrev pub group_of : List ℕ → AnyNode → FarmOutcome Members
group_of name value = group_in name (out-AnyNode value)

-- the text of a word; one in single quotes is not supported, and a group is of the wrong kind
abbrev pub member_word_in : List ℕ → AnyNode-F AnyNode → FarmOutcome (List ℕ)
member_word_in name (AnyNode-F.Word text) = Ok text
member_word_in name (AnyNode-F.Pattern text) = Err (NotSupported name)
member_word_in name (AnyNode-F.Group ms) = Err (BadKind name)

-- a value that has to be a word
abbrev pub member_word : List ℕ → AnyNode → FarmOutcome (List ℕ)
member_word name value = member_word_in name (out-AnyNode value)

-- the value, or the fault that it is missing
abbrev pub or_missing : List ℕ → Option AnyNode → FarmOutcome AnyNode
or_missing name None = Err (Missing name)
or_missing name (Some value) = Ok value

-- a group that has to be there
unfoldable pub needed_group : List ℕ → Members → FarmOutcome Members
needed_group name ms = or_missing name (member_value name ms) >>= λ value. group_of name value

-- the members of the group, none where there is no value
abbrev pub group_or_none : List ℕ → Option AnyNode → FarmOutcome Members
group_or_none name None = Ok []
group_or_none name (Some value) = group_of name value

-- a group without members where there is none
unfoldable pub optional_group : List ℕ → Members → FarmOutcome Members
optional_group name ms = group_or_none name (member_value name ms)

-- what each item gives, or the first fault
abbrev pub each_after : {A B : Type 0} → (A → FarmOutcome B) → List B → List A → FarmOutcome (List B)
each_after read found [] = Ok found
each_after read found (x ∷ xs) = read x >>= λ y. each_after read (found ++ y ∷ []) xs

-- the same from the first item on
abbrev pub each : {A B : Type 0} → (A → FarmOutcome B) → List A → FarmOutcome (List B)
each read xs = each_after read [] xs

-- ---- numbers

-- the number with these digits more, where it is at most this
abbrev pub digits_after : ℕ → ℕ → List ℕ → Option ℕ
digits_after most n [] = Some n
digits_after most n (c ∷ t) = if is_digit c && nat_le (n * 10 + (c - 48)) most then digits_after most (n * 10 + (c - 48)) t else None

-- decimal digits without a leading zero
unfoldable pub decimal : ℕ → List ℕ → Option ℕ
decimal most [] = None
decimal most (c ∷ t) = if c == 48 && not (length t == 0) then None else digits_after most 0 (c ∷ t)

-- what is there, or the fault that the member is of the wrong kind
abbrev pub or_bad : {A : Type 0} → List ℕ → Option A → FarmOutcome A
or_bad name None = Err (BadKind name)
or_bad name (Some x) = Ok x

-- the number that a value writes, 0 without a value
abbrev pub number_or_zero : List ℕ → ℕ → Option AnyNode → FarmOutcome ℕ
number_or_zero name most None = Ok 0
number_or_zero name most (Some value) = member_word name value >>= λ text. or_bad name (decimal most text)

-- a number up to this, 0 where there is none
unfoldable pub member_number : List ℕ → ℕ → Members → FarmOutcome ℕ
member_number name most ms = number_or_zero name most (member_value name ms)

-- ---- entries

-- a glob that could be read, or the fault that the member is of the wrong kind
abbrev pub glob_or_bad : List ℕ → Result (List GlobPiece) GlobFault → FarmOutcome (List GlobPiece)
glob_or_bad name (Ok glob) = Ok glob
glob_or_bad name (Err fault) = Err (BadKind name)

-- the glob that a word spells
unfoldable pub glob : List ℕ → List ℕ → FarmOutcome (List GlobPiece)
glob name text = glob_or_bad name (glob_of text)

-- the glob that a value writes, none without a value
abbrev pub glob_or_none : List ℕ → Option AnyNode → FarmOutcome (Option (List GlobPiece))
glob_or_none name None = Ok None
glob_or_none name (Some value) = member_word name value >>= λ text. glob name text >>= λ g. Ok (Some g)

-- the glob of this name, where there is one
unfoldable pub glob_at : List ℕ → Members → FarmOutcome (Option (List GlobPiece))
glob_at name ms = glob_or_none name (member_value name ms)

-- a pattern that could be read, or the fault that the member is of the wrong kind
abbrev pub pattern_or_bad : List ℕ → Result (List PatternPlace) PatternFault → FarmOutcome (List PatternPlace)
pattern_or_bad name (Ok pattern) = Ok pattern
pattern_or_bad name (Err fault) = Err (BadKind name)

-- the pattern that a text spells (law `the_group_reading_is_the_grammar` of regex_rules: the places of its tree)
unfoldable pub pattern : List ℕ → List ℕ → FarmOutcome (List PatternPlace)
pattern name text = pattern_or_bad name (pattern_of text)

-- what a member of a filter's entry stands for: a word for a glob, a text in single quotes for a pattern; a group is of the wrong kind
abbrev pub test_in : List ℕ → AnyNode-F AnyNode → FarmOutcome Test
test_in name (AnyNode-F.Word text) = glob name text >>= λ g. Ok (test.Glob g)
test_in name (AnyNode-F.Pattern text) = pattern name text >>= λ p. Ok (test.Pattern p)
test_in name (AnyNode-F.Group ms) = Err (BadKind name)

-- a value that has to be a test
unfoldable pub test_of : List ℕ → AnyNode → FarmOutcome Test
test_of name value = test_in name (out-AnyNode value)

-- the test that a value writes, none without a value
abbrev pub test_or_none : List ℕ → Option AnyNode → FarmOutcome (Option Test)
test_or_none name None = Ok None
test_or_none name (Some value) = test_of name value >>= λ t. Ok (Some t)

-- the test of this name, where there is one
unfoldable pub test_at : List ℕ → Members → FarmOutcome (Option Test)
test_at name ms = test_or_none name (member_value name ms)

-- `allow` or `deny`
abbrev pub rule_type : List ℕ → FarmOutcome Bool
rule_type text = if is_member_name (codes "allow") text then Ok true else (if is_member_name (codes "deny") text then Ok false else Err (BadKind (codes "type")))

-- whether an entry allows or denies
unfoldable pub allow : Members → FarmOutcome Bool
allow ms = or_bad (codes "type") (member_value (codes "type") ms) >>= λ value. member_word (codes "type") value >>= rule_type

-- an entry of rules
unfoldable pub rule : Members → FarmOutcome Rule
rule ms = do
  a ← allow ms
  o ← glob_at (codes "glob") ms
  g ← or_bad (codes "glob") o
  Ok (record { allow = a; glob = g })

-- an entry of the filter
unfoldable pub filter : Members → FarmOutcome Filter
filter ms = do
  a ← allow ms
  request_line ← test_at (codes "glob") ms
  method ← test_at (codes "method") ms
  url ← test_at (codes "url") ms
  path ← test_at (codes "path") ms
  selectors ← test_at (codes "selectors") ms
  extension ← test_at (codes "extension") ms
  suffix ← test_at (codes "suffix") ms
  query ← test_at (codes "query") ms
  Ok (record { allow = a; request_line = request_line; method = method; url = url; path = path; selectors = selectors; extension = extension; suffix = suffix; query = query })

-- an entry of the group of this name
abbrev pub entry : {B : Type 0} → List ℕ → (Members → FarmOutcome B) → List ℕ × AnyNode → FarmOutcome B
entry group read m = group_of (name_or m.0 group) m.1 >>= read

-- ---- hosts

-- the text before its last colon, and the text after it
abbrev pub cut_again : ℕ → List ℕ → Option (List ℕ × List ℕ) → Option (List ℕ × List ℕ)
cut_again c t (Some cut) = Some (c ∷ cut.0, cut.1)
cut_again c t None = if c == 58 then Some ([], t) else None

-- the two parts of a text, none where it has no colon
abbrev pub at_last_colon : List ℕ → Option (List ℕ × List ℕ)
at_last_colon [] = None
at_last_colon (c ∷ t) = cut_again c t (at_last_colon t)

-- the glob of the whole text, or where it has a colon that of the part before its last one and the port
abbrev pub host_cut : List ℕ → List ℕ → Option (List ℕ × List ℕ) → FarmOutcome VirtualHost
host_cut name text None = glob name text >>= λ g. Ok (record { name = g; port = None })
host_cut name text (Some cut) = do
  g ← glob name cut.0
  port ← or_bad name (decimal greatest_port cut.1)
  Ok (record { name = g; port = Some port })

-- a glob, and a port after the last colon
unfoldable pub host : List ℕ → List ℕ → FarmOutcome VirtualHost
host name text = host_cut name text (at_last_colon text)

-- a served host has no name
unfoldable pub served_host : List ℕ × AnyNode → FarmOutcome VirtualHost
served_host m = if length m.0 == 0 then (member_word (codes "virtualhosts") m.1 >>= λ text. host (codes "virtualhosts") text) else Err (BadKind m.0)

-- letters, digits, `-`, `_` and `.`
abbrev pub is_host_byte : ℕ → Bool
is_host_byte c = is_letter_or_digit c || (c == 45 || (c == 95 || c == 46))

-- one byte at least
abbrev pub is_host_name : List ℕ → Bool
is_host_name text = not (length text == 0) && list_all is_host_byte text

-- the text where it is a name, else `localhost`
abbrev pub name_or_localhost : List ℕ → List ℕ
name_or_localhost text = if is_host_name text then text else codes "localhost"

-- the host and the port that are asked for a text, cut at its last colon
abbrev pub asked_cut : List ℕ → Option (List ℕ × List ℕ) → List ℕ × ℕ
asked_cut text None = (name_or_localhost text, http_port)
asked_cut text (Some cut) = (name_or_localhost cut.0, unwrap_or (decimal greatest_port cut.1) http_port)

-- those of a value: `localhost` and the port of HTTP where it is no word
abbrev pub asked_in : AnyNode-F AnyNode → List ℕ × ℕ
asked_in (AnyNode-F.Word text) = asked_cut text (at_last_colon text)
asked_in (AnyNode-F.Pattern text) = (codes "localhost", http_port)
asked_in (AnyNode-F.Group ms) = (codes "localhost", http_port)

-- the host and the port at which the publisher is asked: the first of the served ones where that is a name, else `localhost`, and
-- its port, else that of HTTP
unfoldable pub publisher_address : Members → List ℕ × ℕ
publisher_address [] = (codes "localhost", http_port)
publisher_address (m ∷ ms) = asked_in (out-AnyNode m.1)

-- ---- the farm

-- the members of the only farm; several are not supported
abbrev pub only_in : Members → FarmOutcome Members
only_in [] = Err (BadKind (codes "farms"))
only_in (m ∷ []) = group_of (name_or m.0 (codes "farms")) m.1
only_in (m ∷ n ∷ ms) = Err (NotSupported (codes "farms"))

-- the members of a group, none of another value
abbrev pub members_in : AnyNode-F AnyNode → Members
members_in (AnyNode-F.Word text) = []
members_in (AnyNode-F.Pattern text) = []
members_in (AnyNode-F.Group ms) = ms

-- the one farm of a file
unfoldable pub only_farm : AnyNode → FarmOutcome Members
only_farm top = needed_group (codes "farms") (members_in (out-AnyNode top)) >>= only_in

-- the rules of the group of this name, which has to be there
unfoldable pub needed_rules : List ℕ → Members → FarmOutcome (List Rule)
needed_rules name ms = needed_group name ms >>= λ group. each (entry name rule) group

-- the rules of the group of this name, none where it is missing
unfoldable pub optional_rules : List ℕ → Members → FarmOutcome (List Rule)
optional_rules name ms = optional_group name ms >>= λ group. each (entry name rule) group

-- the entries of the filter, which has to be there
unfoldable pub filters : Members → FarmOutcome (List Filter)
filters ms = needed_group (codes "filter") ms >>= λ group. each (entry (codes "filter") filter) group

-- the greatest level at which .stat files may lie
abbrev pub deepest_level : ℕ
deepest_level = 32

-- what a farm keeps, and who may invalidate it
unfoldable pub with_cache : List VirtualHost → List ℕ × ℕ → List Filter → Members → FarmOutcome Farm
with_cache hosts ask filter cache = do
  rules ← needed_rules (codes "rules") cache
  level ← member_number (codes "statfileslevel") deepest_level cache
  authorized ← member_number (codes "allowAuthorized") 1 cache
  auto ← optional_rules (codes "invalidate") cache
  clients ← optional_rules (codes "allowedClients") cache
  ignored ← optional_rules (codes "ignoreUrlParams") cache
  Ok (record { hosts = hosts; ask_host = ask.0; ask_port = ask.1; filter = filter; level = level; authorized = authorized == 1; rules = rules; auto = auto; clients = clients; ignored = ignored })

-- The members are looked at in this order, and other names are passed over.
unfoldable pub farm_of : AnyNode → FarmOutcome Farm
farm_of top = do
  farm ← only_farm top
  served ← needed_group (codes "virtualhosts") farm
  hosts ← each served_host served
  entries ← filters farm
  cache ← needed_group (codes "cache") farm
  with_cache hosts (publisher_address served) entries cache
