-- The farm of a file as the table of its members (Adobe Dispatcher manual, "Configuring Dispatcher"): a relation with a field for each row.
use Rattle.std.specs.Prelude.{◌≡◌, ◌≢◌, ◌⊎◌, ◌==◌, ℕ, Bool, if◌then◌else◌, List, [], ◌∷◌, ◌++◌, Option, Some, None, Ok, codes}
use Rattle.std.specs.List.{AllByRecursion, AllZip}
use Rattle.sp_base.specs.Limits.{greatest_port, http_port}
use Rattle.glob_rules.specs.Reading.{glob_of}
use Rattle.glob_rules.specs.declared.piece.GlobPiece.{GlobPiece}
use Rattle.glob_rules.specs.declared.rule.Rule.{Rule}
use Rattle.regex_rules.specs.Reading.{pattern_of}
use Rattle.regex_rules.specs.declared.place.PatternPlace.{PatternPlace}
use Rattle.any_config.specs.Farms.{decimal, deepest_level, name_or_localhost}
use Rattle.any_config.specs.Read.{Members}
use Rattle.any_config.specs.declared.farm.Farm.{Farm}
use Rattle.any_config.specs.declared.farm.Filter.{Filter}
use Rattle.any_config.specs.declared.farm.Test.{Test}
use Rattle.any_config.specs.declared.farm.Test.TheVariants as test
use Rattle.any_config.specs.declared.farm.VirtualHost.{VirtualHost}
use Rattle.any_config.specs.declared.node.AnyNode.{AnyNode, out-AnyNode}
use Rattle.any_config.specs.declared.node.AnyNode.TheOpen.{AnyNode-F}

-- ---- members and values

-- no member has this name
abbrev pub LacksMember : Members → List ℕ → Type 0
LacksMember ms name = AllByRecursion (λ (m : List ℕ × AnyNode). m.0 ≢ name) ms

-- the first member of this name has this value
pub record HasMember (ms : Members) (name : List ℕ) (value : AnyNode) : Type 0 where
  pub before : Members
  pub after : Members
  pub is : ms ≡ before ++ (name, value) ∷ after
  pub first : LacksMember before name

-- the value is a group of these members
abbrev pub IsGroup : AnyNode → Members → Type 0
IsGroup value ms = out-AnyNode value ≡ AnyNode-F.Group ms

-- the value is this text in double quotes, or this word
abbrev pub IsWord : AnyNode → List ℕ → Type 0
IsWord value text = out-AnyNode value ≡ AnyNode-F.Word text

-- the value is this text in single quotes
abbrev pub IsQuoted : AnyNode → List ℕ → Type 0
IsQuoted value text = out-AnyNode value ≡ AnyNode-F.Pattern text

-- the member of this name is a group of these members
pub record HasGroup (ms : Members) (name : List ℕ) (group : Members) : Type 0 where
  pub value : AnyNode
  pub there : HasMember ms name value
  pub is : IsGroup value group

-- the member of this name is this word
pub record HasWord (ms : Members) (name : List ℕ) (text : List ℕ) : Type 0 where
  pub value : AnyNode
  pub there : HasMember ms name value
  pub is : IsWord value text

-- the member of this name is this text in single quotes
pub record HasQuoted (ms : Members) (name : List ℕ) (text : List ℕ) : Type 0 where
  pub value : AnyNode
  pub there : HasMember ms name value
  pub is : IsQuoted value text

-- the member of this name writes this number, which is at most that; 0 where there is no such member
abbrev pub HasNumber : Members → List ℕ → ℕ → ℕ → Type 0
HasNumber ms name most n = ((text : List ℕ) × HasWord ms name text × (decimal most text ≡ Some n)) ⊎ (LacksMember ms name × (n ≡ 0))

-- ---- entries

-- `/type` is `allow` or `deny`
abbrev pub SaysAllow : Members → Bool → Type 0
SaysAllow ms allow = HasWord ms (codes "type") (if allow then codes "allow" else codes "deny")

-- the member of this name is a word that this glob reads
pub record HasGlob (ms : Members) (name : List ℕ) (glob : List GlobPiece) : Type 0 where
  pub text : List ℕ
  pub word : HasWord ms name text
  pub reads : glob_of text ≡ Ok glob

-- the member of this name is a text in single quotes that this pattern reads
pub record HasPatternMember (ms : Members) (name : List ℕ) (pattern : List PatternPlace) : Type 0 where
  pub text : List ℕ
  pub quoted : HasQuoted ms name text
  pub reads : pattern_of text ≡ Ok pattern

-- the member of this name is this test; there is none where there is no such member
pub data HasTest (ms : Members) (name : List ℕ) : Option Test → Type 0 where
  Lacks : LacksMember ms name → HasTest ms name None
  ByGlob : {glob : List GlobPiece} → HasGlob ms name glob → HasTest ms name (Some (test.Glob glob))
  ByPattern : {pattern : List PatternPlace} → HasPatternMember ms name pattern → HasTest ms name (Some (test.Pattern pattern))

-- an entry of a list of rules: a group with `/type` and `/glob`
pub record IsRuleEntry (m : List ℕ × AnyNode) (rule : Rule) : Type 0 where
  pub members : Members
  pub group : IsGroup m.1 members
  pub allow : SaysAllow members rule.allow
  pub glob : HasGlob members (codes "glob") rule.glob

-- an entry of the filter: a group with `/type` and any of the tests
pub record IsFilterEntry (m : List ℕ × AnyNode) (filter : Filter) : Type 0 where
  pub members : Members
  pub group : IsGroup m.1 members
  pub allow : SaysAllow members filter.allow
  pub request_line : HasTest members (codes "glob") filter.request_line
  pub method : HasTest members (codes "method") filter.method
  pub url : HasTest members (codes "url") filter.url
  pub path : HasTest members (codes "path") filter.path
  pub selectors : HasTest members (codes "selectors") filter.selectors
  pub extension : HasTest members (codes "extension") filter.extension
  pub suffix : HasTest members (codes "suffix") filter.suffix
  pub query : HasTest members (codes "query") filter.query

-- the member of this name is a group, of which each member in turn is one of these entries
pub record HasEntries {B : Type 0} (R : List ℕ × AnyNode → B → Type 0) (ms : Members) (name : List ℕ) (entries : List B) : Type 0 where
  pub group : Members
  pub there : HasGroup ms name group
  pub each : AllZip R group entries

-- the rules of the group of this name
abbrev pub HasRules : Members → List ℕ → List Rule → Type 0
HasRules ms name rules = HasEntries IsRuleEntry ms name rules

-- so, or there is no such member and no rule
abbrev pub HasRulesOrNone : Members → List ℕ → List Rule → Type 0
HasRulesOrNone ms name rules = HasRules ms name rules ⊎ (LacksMember ms name × (rules ≡ []))

-- ---- hosts

-- no colon stands in the text
abbrev pub HasNoColon : List ℕ → Type 0
HasNoColon text = AllByRecursion (λ b. b ≢ 58) text

-- the text is a host and a port, with a colon between them
pub record IsCutAtColon (text host port : List ℕ) : Type 0 where
  pub spells : text ≡ host ++ 58 ∷ port
  pub last : HasNoColon port

-- a text without a colon is a host at any port, and one with a colon a host at the port after the last
pub data IsHostText (text : List ℕ) : List ℕ → Option ℕ → Type 0 where
  Bare : HasNoColon text → IsHostText text text None
  AtPort : {host port : List ℕ} {n : ℕ} → IsCutAtColon text host port → decimal greatest_port port ≡ Some n → IsHostText text host (Some n)

-- a served host: a word without a name, a glob and perhaps a port
pub record IsServedHost (m : List ℕ × AnyNode) (host : VirtualHost) : Type 0 where
  pub text : List ℕ
  pub name : List ℕ
  pub unnamed : m.0 ≡ []
  pub word : IsWord m.1 text
  pub cut : IsHostText text name host.port
  pub reads : glob_of name ≡ Ok host.name

-- the port of a host, that of HTTP where it has none
abbrev pub port_or_http : Option ℕ → ℕ
port_or_http None = http_port
port_or_http (Some port) = port

-- the host and the port at which the publisher is asked: those of the first of the hosts, `localhost` where that is no name, and at the port
-- of HTTP where it has none or there is no host
pub data IsAsked : Members → List ℕ → ℕ → Type 0 where
  NoHost : IsAsked [] (codes "localhost") http_port
  First : {m : List ℕ × AnyNode} {more : Members} {text name : List ℕ} {port : Option ℕ} → IsWord m.1 text → IsHostText text name port
      → IsAsked (m ∷ more) (name_or_localhost name) (port_or_http port)

-- ---- the table

-- the rows of the group `/cache`
pub record IsCacheOf (cache : Members) (farm : Farm) : Type 0 where
  pub rules : HasRules cache (codes "rules") farm.rules
  pub level : HasNumber cache (codes "statfileslevel") deepest_level farm.level
  pub authorized : (n : ℕ) × HasNumber cache (codes "allowAuthorized") 1 n × (farm.authorized ≡ (n == 1))
  pub auto : HasRulesOrNone cache (codes "invalidate") farm.auto
  pub clients : HasRulesOrNone cache (codes "allowedClients") farm.clients
  pub ignored : HasRulesOrNone cache (codes "ignoreUrlParams") farm.ignored

-- the rows of the one farm
pub record IsFarmGroup (members : Members) (farm : Farm) : Type 0 where
  pub served : Members
  pub cache : Members
  pub virtualhosts : HasGroup members (codes "virtualhosts") served
  pub hosts : AllZip IsServedHost served farm.hosts
  pub asked : IsAsked served farm.ask_host farm.ask_port
  pub filter : HasEntries IsFilterEntry members (codes "filter") farm.filter
  pub there : HasGroup members (codes "cache") cache
  pub kept : IsCacheOf cache farm

-- the farm of a file: its group `/farms` has one member, which is a group
pub record IsFarmOf (top : AnyNode) (farm : Farm) : Type 0 where
  pub file : Members
  pub only : List ℕ × AnyNode
  pub members : Members
  pub is_file : IsGroup top file
  pub farms : HasGroup file (codes "farms") (only ∷ [])
  pub is_group : IsGroup only.1 members
  pub rows : IsFarmGroup members farm
