-- Files that give one farm, or one fault: of the members that are looked for they have the same, level by level. What else stands in them changes nothing.
use Rattle.std.specs.Prelude.{◌≡◌, ◌⊎◌, ◌<◌, ℕ, List, [], ◌∷◌, codes, length}
use Rattle.std.specs.List.{AllByRecursion, AllZip}
use Rattle.sp_base.specs.Texts.{Text}
use Rattle.any_config.specs.Farms.{name_or}
use Rattle.any_config.specs.Read.{Members}
use Rattle.any_config.specs.declared.node.AnyNode.{AnyNode}
use Rattle.rule_laws.specs.FarmTable.{HasMember, IsGroup, LacksMember}

-- ---- members and values

-- the first members of this name have values that are alike, or neither group has a member of the name
pub data HaveAlike (Alike : AnyNode → AnyNode → Type 0) (ms others : Members) (name : List ℕ) : Type 0 where
  Neither : LacksMember ms name → LacksMember others name → HaveAlike Alike ms others name
  Both : (a b : AnyNode) → HasMember ms name a → HasMember others name b → Alike a b → HaveAlike Alike ms others name

-- both values are groups, whose members are alike
pub record AreGroupsOf (Alike : Members → Members → Type 0) (a b : AnyNode) : Type 0 where
  pub ms : Members
  pub others : Members
  pub first : IsGroup a ms
  pub second : IsGroup b others
  pub alike : Alike ms others

-- where a group is looked for: one value, or groups whose members are alike
abbrev pub AreGroupsAlike : (Members → Members → Type 0) → AnyNode → AnyNode → Type 0
AreGroupsAlike Alike a b = (a ≡ b) ⊎ AreGroupsOf Alike a b

-- any two lists of members
abbrev pub AreAny : Members → Members → Type 0
AreAny ms others = Unit {0}

-- where a word is looked for, or a text in single quotes: one value, or two groups, of which nothing is read
abbrev pub AreWordsAlike : AnyNode → AnyNode → Type 0
AreWordsAlike a b = AreGroupsAlike AreAny a b

-- the words of all these names are alike
abbrev pub HaveWordsAlike : List Text → Members → Members → Type 0
HaveWordsAlike names ms others = AllByRecursion (HaveAlike AreWordsAlike ms others) names

-- ---- entries

-- the names of tests, in their order
abbrev pub test_names : List Text
test_names = codes "glob" ∷ codes "method" ∷ codes "url" ∷ codes "path" ∷ codes "selectors" ∷ codes "extension" ∷ codes "suffix" ∷ codes "query" ∷ []

-- the names that are looked for in an entry of rules, and in one of the filter
abbrev pub rule_names : List Text
rule_names = codes "type" ∷ codes "glob" ∷ []

abbrev pub filter_names : List Text
filter_names = codes "type" ∷ test_names

-- one value, told by one name
abbrev pub AreToldAlike : List ℕ → List ℕ × AnyNode → List ℕ × AnyNode → Type 0
AreToldAlike group m n = (name_or m.0 group ≡ name_or n.0 group) × (m.1 ≡ n.1)

-- entries of the group of this name: groups whose members are alike, whatever the names of the entries, or one value that is told by one name
abbrev pub AreEntriesAlike : (Members → Members → Type 0) → List ℕ → List ℕ × AnyNode → List ℕ × AnyNode → Type 0
AreEntriesAlike Alike group m n = AreToldAlike group m n ⊎ AreGroupsOf Alike m.1 n.1

-- the groups of this name have as many entries, which are alike in turn
abbrev pub HaveEntriesAlike : List Text → List ℕ → Members → Members → Type 0
HaveEntriesAlike names group ms others = HaveAlike (AreGroupsAlike (AllZip (AreEntriesAlike (HaveWordsAlike names) group))) ms others group

-- ---- the table

-- served hosts
abbrev pub AreHostsAlike : List ℕ × AnyNode → List ℕ × AnyNode → Type 0
AreHostsAlike m n = (m.0 ≡ n.0) × AreWordsAlike m.1 n.1

-- the rows of the group `/cache`
pub record AreCachesAlike (ms others : Members) : Type 0 where
  pub rules : HaveEntriesAlike rule_names (codes "rules") ms others
  pub level : HaveAlike AreWordsAlike ms others (codes "statfileslevel")
  pub authorized : HaveAlike AreWordsAlike ms others (codes "allowAuthorized")
  pub auto : HaveEntriesAlike rule_names (codes "invalidate") ms others
  pub clients : HaveEntriesAlike rule_names (codes "allowedClients") ms others
  pub ignored : HaveEntriesAlike rule_names (codes "ignoreUrlParams") ms others

-- the rows of the one farm
pub record AreFarmsAlike (ms others : Members) : Type 0 where
  pub hosts : HaveAlike (AreGroupsAlike (AllZip AreHostsAlike)) ms others (codes "virtualhosts")
  pub filter : HaveEntriesAlike filter_names (codes "filter") ms others
  pub cache : HaveAlike (AreGroupsAlike AreCachesAlike) ms others (codes "cache")

-- the farms of a file, which are alike in turn; or several in both
abbrev pub AreFarmListsAlike : Members → Members → Type 0
AreFarmListsAlike ms others = AllZip (AreEntriesAlike AreFarmsAlike (codes "farms")) ms others ⊎ ((1 < length ms) × (1 < length others))

-- files
pub record AreFilesAlike (top other : AnyNode) : Type 0 where
  pub ms : Members
  pub others : Members
  pub first : IsGroup top ms
  pub second : IsGroup other others
  pub farms : HaveAlike (AreGroupsAlike AreFarmListsAlike) ms others (codes "farms")
