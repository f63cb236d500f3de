-- Why a file has no farm (Adobe Dispatcher manual, "Configuring Dispatcher"): the first fault of the rows of the table, in their order. A fault names its member.
use Rattle.std.specs.Prelude.{◌≡◌, ◌≢◌, ◌⊎◌, ℕ, Bool, List, [], ◌∷◌, Option, None, Err, codes}
use Rattle.sp_base.specs.Limits.{greatest_port}
use Rattle.sp_base.specs.Texts.{Text}
use Rattle.glob_rules.specs.Reading.{glob_of}
use Rattle.glob_rules.specs.declared.fault.GlobFault.{GlobFault}
use Rattle.glob_rules.specs.declared.rule.Rule.{Rule}
use Rattle.regex_rules.specs.Reading.{pattern_of}
use Rattle.regex_rules.specs.declared.fault.PatternFault.{PatternFault}
use Rattle.any_config.specs.Farms.{decimal, deepest_level, name_or}
use Rattle.any_config.specs.Read.{Members}
use Rattle.any_config.specs.declared.farm.Filter.{Filter}
use Rattle.any_config.specs.declared.farm.Test.{Test}
use Rattle.any_config.specs.declared.farm.VirtualHost.{VirtualHost}
use Rattle.any_config.specs.declared.farm_fault.FarmFault.{FarmFault}
use Rattle.any_config.specs.declared.farm_fault.FarmFault.TheVariants.{BadKind, Missing, NotSupported}
use Rattle.any_config.specs.declared.node.AnyNode.{AnyNode}
use Rattle.rule_laws.specs.Alike.{test_names}
use Rattle.rule_laws.specs.FarmTable.{HasEntries, HasGroup, HasMember, HasNoColon, HasNumber, HasQuoted, HasRules, HasRulesOrNone, HasTest, HasWord, IsCutAtColon, IsFilterEntry, IsGroup, IsQuoted, IsRuleEntry, IsServedHost, IsWord, LacksMember, SaysAllow}

-- a row is at fault, or it is right and a later one is at fault
abbrev pub InTurn : Type 0 → Type 0 → Type 0 → Type 0
InTurn here right later = here ⊎ (right × later)

-- ---- values

-- a value that should be a group
pub data IsNoGroup (name : List ℕ) (value : AnyNode) : FarmFault → Type 0 where
  Word : {text : List ℕ} → IsWord value text → IsNoGroup name value (BadKind name)
  Quoted : {text : List ℕ} → IsQuoted value text → IsNoGroup name value (NotSupported name)

-- a value that should be a word
pub data IsNoWord (name : List ℕ) (value : AnyNode) : FarmFault → Type 0 where
  Group : {ms : Members} → IsGroup value ms → IsNoWord name value (BadKind name)
  Quoted : {text : List ℕ} → IsQuoted value text → IsNoWord name value (NotSupported name)

-- the member of this name is no group
abbrev pub HasNoGroup : Members → List ℕ → FarmFault → Type 0
HasNoGroup ms name fault = (value : AnyNode) × HasMember ms name value × IsNoGroup name value fault

-- the member of this name is no word
abbrev pub HasNoWord : Members → List ℕ → FarmFault → Type 0
HasNoWord ms name fault = (value : AnyNode) × HasMember ms name value × IsNoWord name value fault

-- so, or there is no such member
abbrev pub LacksGroup : Members → List ℕ → FarmFault → Type 0
LacksGroup ms name fault = (LacksMember ms name × (fault ≡ Missing name)) ⊎ HasNoGroup ms name fault

-- no glob reads the word of this name
abbrev pub HasUnreadGlob : Members → List ℕ → Type 0
HasUnreadGlob ms name = (text : List ℕ) × HasWord ms name text × ((fault : GlobFault) × (glob_of text ≡ Err fault))

-- no pattern reads the text in single quotes of this name
abbrev pub HasUnreadPattern : Members → List ℕ → Type 0
HasUnreadPattern ms name = (text : List ℕ) × HasQuoted ms name text × ((fault : PatternFault) × (pattern_of text ≡ Err fault))

-- the word of this name is no number up to this
abbrev pub HasNoNumber : Members → List ℕ → ℕ → Type 0
HasNoNumber ms name most = (text : List ℕ) × HasWord ms name text × (decimal most text ≡ None)

-- a number
abbrev pub IsBadNumber : Members → List ℕ → ℕ → FarmFault → Type 0
IsBadNumber ms name most fault = HasNoWord ms name fault ⊎ (HasNoNumber ms name most × (fault ≡ BadKind name))

-- ---- entries

-- the word of `/type` is neither
abbrev pub HasOtherType : Members → Type 0
HasOtherType ms = (text : List ℕ) × HasWord ms (codes "type") text × (text ≢ codes "allow") × (text ≢ codes "deny")

-- `/type`
abbrev pub IsBadType : Members → FarmFault → Type 0
IsBadType ms fault = HasNoWord ms (codes "type") fault ⊎ ((LacksMember ms (codes "type") ⊎ HasOtherType ms) × (fault ≡ BadKind (codes "type")))

-- `/glob` of an entry of rules
abbrev pub IsBadGlob : Members → FarmFault → Type 0
IsBadGlob ms fault = HasNoWord ms (codes "glob") fault ⊎ ((LacksMember ms (codes "glob") ⊎ HasUnreadGlob ms (codes "glob")) × (fault ≡ BadKind (codes "glob")))

-- a test of this name
abbrev pub IsBadTest : Members → List ℕ → FarmFault → Type 0
IsBadTest ms name fault = (((group : Members) × HasGroup ms name group) ⊎ (HasUnreadGlob ms name ⊎ HasUnreadPattern ms name)) × (fault ≡ BadKind name)

-- the first of the tests of these names
abbrev pub IsFirstBadTest : Members → FarmFault → List Text → Type 0
IsFirstBadTest ms fault [] = ⊥
IsFirstBadTest ms fault (name ∷ names) = InTurn (IsBadTest ms name fault) ((t : Option Test) × HasTest ms name t) (IsFirstBadTest ms fault names)

-- the members of an entry of rules
abbrev pub IsBadRule : Members → FarmFault → Type 0
IsBadRule ms fault = InTurn (IsBadType ms fault) ((allow : Bool) × SaysAllow ms allow) (IsBadGlob ms fault)

-- the members of an entry of the filter
abbrev pub IsBadFilter : Members → FarmFault → Type 0
IsBadFilter ms fault = InTurn (IsBadType ms fault) ((allow : Bool) × SaysAllow ms allow) (IsFirstBadTest ms fault test_names)

-- an entry of the group of this name: it is no group, or its members are at fault
abbrev pub IsBadEntry : (Members → FarmFault → Type 0) → List ℕ → List ℕ × AnyNode → FarmFault → Type 0
IsBadEntry Bad group m fault = IsNoGroup (name_or m.0 group) m.1 fault ⊎ ((members : Members) × IsGroup m.1 members × Bad members fault)

-- the first member of a group that is at fault
abbrev pub IsFirstBad : {B : Type 0} → (List ℕ × AnyNode → B → Type 0) → (List ℕ × AnyNode → FarmFault → Type 0) → FarmFault → Members → Type 0
IsFirstBad R Bad fault [] = ⊥
IsFirstBad {B} R Bad fault (m ∷ ms) = InTurn (Bad m fault) ((b : B) × R m b) (IsFirstBad R Bad fault ms)

-- the same of the group of this name
abbrev pub HasFirstBad : {B : Type 0} → (List ℕ × AnyNode → B → Type 0) → (List ℕ × AnyNode → FarmFault → Type 0) → Members → List ℕ → FarmFault → Type 0
HasFirstBad R Bad ms name fault = (group : Members) × HasGroup ms name group × IsFirstBad R Bad fault group

-- rules that have to be there
abbrev pub AreBadRules : Members → List ℕ → FarmFault → Type 0
AreBadRules ms name fault = LacksGroup ms name fault ⊎ HasFirstBad IsRuleEntry (IsBadEntry IsBadRule name) ms name fault

-- rules that don't have to
abbrev pub AreBadRulesIfThere : Members → List ℕ → FarmFault → Type 0
AreBadRulesIfThere ms name fault = HasNoGroup ms name fault ⊎ HasFirstBad IsRuleEntry (IsBadEntry IsBadRule name) ms name fault

-- ---- hosts

-- no glob reads the host, or the port after the last colon is none
pub data IsBadHostText (text : List ℕ) : Type 0 where
  Whole : {fault : GlobFault} → HasNoColon text → glob_of text ≡ Err fault → IsBadHostText text
  Host : {host port : List ℕ} {fault : GlobFault} → IsCutAtColon text host port → glob_of host ≡ Err fault → IsBadHostText text
  Port : {host port : List ℕ} → IsCutAtColon text host port → decimal greatest_port port ≡ None → IsBadHostText text

-- a served host
pub data IsBadHost (m : List ℕ × AnyNode) : FarmFault → Type 0 where
  Named : m.0 ≢ [] → IsBadHost m (BadKind m.0)
  NoWord : {fault : FarmFault} → m.0 ≡ [] → IsNoWord (codes "virtualhosts") m.1 fault → IsBadHost m fault
  Unread : {text : List ℕ} → m.0 ≡ [] → IsWord m.1 text → IsBadHostText text → IsBadHost m (BadKind (codes "virtualhosts"))

-- ---- the table

-- the rows of the group `/cache`
abbrev pub IsCacheFault : Members → FarmFault → Type 0
IsCacheFault cache fault = InTurn (AreBadRules cache (codes "rules") fault) ((rules : List Rule) × HasRules cache (codes "rules") rules)
    (InTurn (IsBadNumber cache (codes "statfileslevel") deepest_level fault) ((n : ℕ) × HasNumber cache (codes "statfileslevel") deepest_level n)
    (InTurn (IsBadNumber cache (codes "allowAuthorized") 1 fault) ((n : ℕ) × HasNumber cache (codes "allowAuthorized") 1 n)
    (InTurn (AreBadRulesIfThere cache (codes "invalidate") fault) ((rules : List Rule) × HasRulesOrNone cache (codes "invalidate") rules)
    (InTurn (AreBadRulesIfThere cache (codes "allowedClients") fault) ((rules : List Rule) × HasRulesOrNone cache (codes "allowedClients") rules)
    (AreBadRulesIfThere cache (codes "ignoreUrlParams") fault)))))

-- the rows of the one farm
abbrev pub IsRowFault : Members → FarmFault → Type 0
IsRowFault farm fault = InTurn (LacksGroup farm (codes "virtualhosts") fault ⊎ HasFirstBad IsServedHost IsBadHost farm (codes "virtualhosts") fault)
    ((hosts : List VirtualHost) × HasEntries IsServedHost farm (codes "virtualhosts") hosts)
    (InTurn (LacksGroup farm (codes "filter") fault ⊎ HasFirstBad IsFilterEntry (IsBadEntry IsBadFilter (codes "filter")) farm (codes "filter") fault)
    ((entries : List Filter) × HasEntries IsFilterEntry farm (codes "filter") entries)
    (LacksGroup farm (codes "cache") fault ⊎ ((cache : Members) × HasGroup farm (codes "cache") cache × IsCacheFault cache fault)))

-- the farms of a file: there is none, or several, or the one is no group, or its rows are at fault
abbrev pub IsFarmsFault : Members → FarmFault → Type 0
IsFarmsFault [] fault = fault ≡ BadKind (codes "farms")
IsFarmsFault (m ∷ []) fault = IsBadEntry IsRowFault (codes "farms") m fault
IsFarmsFault (m ∷ n ∷ more) fault = fault ≡ NotSupported (codes "farms")

-- the members of a file; one that is no group has none
abbrev pub HasMembers : AnyNode → Members → Type 0
HasMembers top file = IsGroup top file ⊎ ((((text : List ℕ) × IsWord top text) ⊎ ((text : List ℕ) × IsQuoted top text)) × (file ≡ []))

-- the fault of a file
pub record IsFarmFault (top : AnyNode) (fault : FarmFault) : Type 0 where
  pub file : Members
  pub holds : HasMembers top file
  pub is : LacksGroup file (codes "farms") fault ⊎ ((farms : Members) × HasGroup file (codes "farms") farms × IsFarmsFault farms fault)
