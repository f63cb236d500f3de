-- The fault of a file is the first of the table's rows.
use Rattle.std.proofs.Common.{◌≡◌, ◌⊎◌, inl, inr, ℕ, List, [], ◌∷◌, Err, codes, refl, ap, sym, ◌∙◌}
use Rattle.std.specs.Prelude.{◌==◌}
use Rattle.std.specs.List.{AllZip}
use Rattle.sp_base.specs.Outcomes.{◌>>=◌}
use Rattle.glob_rules.specs.declared.rule.Rule.{Rule}
use Rattle.any_config.specs.Farms.{FarmOutcome, entry, rule, filter, each, needed_group, name_or, served_host, publisher_address, only_in, members_in, only_farm, needed_rules, optional_rules, filters, member_number, deepest_level, with_cache, farm_of}
use Rattle.any_config.specs.Read.{Members}
use Rattle.any_config.specs.declared.farm.Farm.{Farm}
use Rattle.any_config.specs.declared.farm.Filter.{Filter}
use Rattle.any_config.specs.declared.farm.VirtualHost.{VirtualHost}
use Rattle.any_config.specs.declared.farm_fault.FarmFault.{FarmFault}
use Rattle.any_config.specs.declared.farm_fault.FarmFault.TheVariants.{BadKind, NotSupported}
use Rattle.any_config.specs.declared.node.AnyNode.{AnyNode, out-AnyNode}
use Rattle.any_config.specs.declared.node.AnyNode.TheOpen.{AnyNode-F}
use Rattle.rule_laws.specs.FarmFaults.{InTurn, LacksGroup, IsFirstBad, HasFirstBad, IsBadEntry, IsBadRule, IsBadFilter, IsBadNumber, AreBadRules, AreBadRulesIfThere, IsBadHost, IsCacheFault, IsRowFault, IsFarmsFault, HasMembers, IsFarmFault}
use Rattle.rule_laws.specs.FarmTable.{HasEntries, HasGroup, HasNumber, HasRules, HasRulesOrNone, IsFilterEntry, IsRuleEntry, IsServedHost}
use Rattle.rule_laws.proofs.MemberLemmas.{each_found, each_only}
use Rattle.rule_laws.proofs.HostLemmas.{served_found, served_only}
use Rattle.rule_laws.proofs.FarmLemmas.{rules_found, rules_only, optional_rules_found, optional_rules_only, filters_found, filters_only}
use Rattle.rule_laws.proofs.FaultLemmas.{Fails, Row, as_said, each_fails, fault_is, group_then, last, needed_then, never, number_row, optional_then, turn}
use Rattle.rule_laws.proofs.EntryFaults.{rule_row, filter_row}
use Rattle.rule_laws.proofs.HostFaults.{host_row}
use Rattle.rule_laws.proofs.AlikeLemmas.{after_hosts, after_served, farm_rows, next_next}

-- ---- lists of entries

rules_row : (ms : Members) (name : List ℕ) (fault : FarmFault) → Row (needed_rules name ms) ((rules : List Rule) × HasRules ms name rules) fault (AreBadRules ms name fault)
unfolding needed_rules
rules_row ms name fault = record {
  fails = needed_then (λ group. each (entry name rule) group) fault (λ group. IsFirstBad IsRuleEntry (IsBadEntry IsBadRule name) fault group) (each_fails (entry name rule) IsRuleEntry (IsBadEntry IsBadRule name) fault (rule_row name fault)) ms name;
  right = λ rules e. (rules, rules_found name ms rules e);
  reads = λ some. (some.0, rules_only name ms some.0 some.1);
}

optional_row : (ms : Members) (name : List ℕ) (fault : FarmFault) → Row (optional_rules name ms) ((rules : List Rule) × HasRulesOrNone ms name rules) fault (AreBadRulesIfThere ms name fault)
unfolding optional_rules
optional_row ms name fault = record {
  fails = optional_then (λ group. each (entry name rule) group) fault (λ group. IsFirstBad IsRuleEntry (IsBadEntry IsBadRule name) fault group) (each_fails (entry name rule) IsRuleEntry (IsBadEntry IsBadRule name) fault (rule_row name fault)) ms name (never [] fault);
  right = λ rules e. (rules, optional_rules_found name ms rules e);
  reads = λ some. (some.0, optional_rules_only name ms some.0 some.1);
}

filters_row : (ms : Members) (fault : FarmFault) → Row (filters ms) ((entries : List Filter) × HasEntries IsFilterEntry ms (codes "filter") entries) fault (LacksGroup ms (codes "filter") fault ⊎ HasFirstBad IsFilterEntry (IsBadEntry IsBadFilter (codes "filter")) ms (codes "filter") fault)
unfolding filters
filters_row ms fault = record {
  fails = needed_then (λ group. each (entry (codes "filter") filter) group) fault (λ group. IsFirstBad IsFilterEntry (IsBadEntry IsBadFilter (codes "filter")) fault group) (each_fails (entry (codes "filter") filter) IsFilterEntry (IsBadEntry IsBadFilter (codes "filter")) fault (filter_row (codes "filter") fault)) ms (codes "filter");
  right = λ entries e. (entries, filters_found ms entries e);
  reads = λ some. (some.0, filters_only ms some.0 some.1);
}

-- ---- the cache

rules_turn : {B : Type 0} (Later : Type 0) (ms : Members) (name : List ℕ) (fault : FarmFault) (f : List Rule → FarmOutcome B) → ((rules : List Rule) → Fails (f rules) fault Later)
    → Fails (optional_rules name ms >>= f) fault (InTurn (AreBadRulesIfThere ms name fault) ((rules : List Rule) × HasRulesOrNone ms name rules) Later)
rules_turn Later ms name fault f later = turn (optional_rules name ms) f fault ((rules : List Rule) × HasRulesOrNone ms name rules) (AreBadRulesIfThere ms name fault) Later (optional_row ms name fault) later

number_turn : {B : Type 0} (Later : Type 0) (ms : Members) (name : List ℕ) (most : ℕ) (fault : FarmFault) (f : ℕ → FarmOutcome B) → ((n : ℕ) → Fails (f n) fault Later)
    → Fails (member_number name most ms >>= f) fault (InTurn (IsBadNumber ms name most fault) ((n : ℕ) × HasNumber ms name most n) Later)
number_turn Later ms name most fault f later = turn (member_number name most ms) f fault ((n : ℕ) × HasNumber ms name most n) (IsBadNumber ms name most fault) Later (number_row ms name most fault) later

-- the faults of the rows from each on
abbrev IgnoredFault : Members → FarmFault → Type 0
IgnoredFault cache fault = AreBadRulesIfThere cache (codes "ignoreUrlParams") fault

abbrev ClientsFault : Members → FarmFault → Type 0
ClientsFault cache fault = InTurn (AreBadRulesIfThere cache (codes "allowedClients") fault) ((rules : List Rule) × HasRulesOrNone cache (codes "allowedClients") rules) (IgnoredFault cache fault)

abbrev AutoFault : Members → FarmFault → Type 0
AutoFault cache fault = InTurn (AreBadRulesIfThere cache (codes "invalidate") fault) ((rules : List Rule) × HasRulesOrNone cache (codes "invalidate") rules) (ClientsFault cache fault)

abbrev AuthorizedFault : Members → FarmFault → Type 0
AuthorizedFault cache fault = InTurn (IsBadNumber cache (codes "allowAuthorized") 1 fault) ((n : ℕ) × HasNumber cache (codes "allowAuthorized") 1 n) (AutoFault cache fault)

abbrev LevelFault : Members → FarmFault → Type 0
LevelFault cache fault = InTurn (IsBadNumber cache (codes "statfileslevel") deepest_level fault) ((n : ℕ) × HasNumber cache (codes "statfileslevel") deepest_level n) (AuthorizedFault cache fault)

cache_fails : (hosts : List VirtualHost) (ask : List ℕ × ℕ) (entries : List Filter) (fault : FarmFault) (cache : Members) → Fails (with_cache hosts ask entries cache) fault (IsCacheFault cache fault)
unfolding with_cache
cache_fails hosts ask entries fault cache =
    turn (needed_rules (codes "rules") cache) _ fault ((rules : List Rule) × HasRules cache (codes "rules") rules) (AreBadRules cache (codes "rules") fault) (LevelFault cache fault) (rules_row cache (codes "rules") fault) (λ rules.
    number_turn (AuthorizedFault cache fault) cache (codes "statfileslevel") deepest_level fault _ (λ level.
    number_turn (AutoFault cache fault) cache (codes "allowAuthorized") 1 fault _ (λ authorized.
    rules_turn (ClientsFault cache fault) cache (codes "invalidate") fault _ (λ auto.
    rules_turn (IgnoredFault cache fault) cache (codes "allowedClients") fault _ (λ clients.
    last (optional_rules (codes "ignoreUrlParams") cache) _ fault ((rules : List Rule) × HasRulesOrNone cache (codes "ignoreUrlParams") rules) (IgnoredFault cache fault) (optional_row cache (codes "ignoreUrlParams") fault) (λ ignored.
    never (record { hosts = hosts; ask_host = ask.0; ask_port = ask.1; filter = entries; level = level; authorized = authorized == 1; rules = rules; auto = auto; clients = clients; ignored = ignored }) fault))))))

-- ---- the farm

abbrev CacheRow : Members → FarmFault → Type 0
CacheRow farm fault = LacksGroup farm (codes "cache") fault ⊎ ((cache : Members) × HasGroup farm (codes "cache") cache × IsCacheFault cache fault)

abbrev FilterRow : Members → FarmFault → Type 0
FilterRow farm fault = InTurn (LacksGroup farm (codes "filter") fault ⊎ HasFirstBad IsFilterEntry (IsBadEntry IsBadFilter (codes "filter")) farm (codes "filter") fault)
    ((entries : List Filter) × HasEntries IsFilterEntry farm (codes "filter") entries) (CacheRow farm fault)

hosts_after : (hosts : List VirtualHost) (ask : List ℕ × ℕ) (farm : Members) (fault : FarmFault) → Fails (after_hosts hosts ask farm) fault (FilterRow farm fault)
hosts_after hosts ask farm fault =
    turn (filters farm) _ fault ((entries : List Filter) × HasEntries IsFilterEntry farm (codes "filter") entries)
    (LacksGroup farm (codes "filter") fault ⊎ HasFirstBad IsFilterEntry (IsBadEntry IsBadFilter (codes "filter")) farm (codes "filter") fault) (CacheRow farm fault) (filters_row farm fault)
    (λ entries. needed_then (λ cache. with_cache hosts ask entries cache) fault (λ cache. IsCacheFault cache fault) (cache_fails hosts ask entries fault) farm (codes "cache"))

abbrev ServedFault : Members → FarmFault → Members → Type 0
ServedFault farm fault served = InTurn (IsFirstBad IsServedHost IsBadHost fault served) ((hosts : List VirtualHost) × AllZip IsServedHost served hosts) (FilterRow farm fault)

served_fails : (farm : Members) (fault : FarmFault) (served : Members) → Fails (after_served farm served) fault (ServedFault farm fault served)
served_fails farm fault served =
    turn (each served_host served) _ fault ((hosts : List VirtualHost) × AllZip IsServedHost served hosts) (IsFirstBad IsServedHost IsBadHost fault served) (FilterRow farm fault)
    (record {
      fails = each_fails served_host IsServedHost IsBadHost fault (host_row fault) served;
      right = λ hosts e. (hosts, each_found served_host IsServedHost served_found served hosts e);
      reads = λ some. (some.0, each_only served_host IsServedHost served_only served some.0 some.1);
    })
    (λ hosts. hosts_after hosts (publisher_address served) farm fault)

rows_fail : (fault : FarmFault) (farm : Members) → Fails (farm_rows farm) fault (IsRowFault farm fault)
rows_fail fault farm = as_said (farm_rows farm) fault (LacksGroup farm (codes "virtualhosts") fault ⊎ ((served : Members) × HasGroup farm (codes "virtualhosts") served × ServedFault farm fault served)) (IsRowFault farm fault) to from
    (needed_then (after_served farm) fault (ServedFault farm fault) (served_fails farm fault) farm (codes "virtualhosts"))
  where
    to : LacksGroup farm (codes "virtualhosts") fault ⊎ ((served : Members) × HasGroup farm (codes "virtualhosts") served × ServedFault farm fault served) → IsRowFault farm fault
    to (inl lacks) = inl (inl lacks)
    to (inr (served, there, inl bad)) = inl (inr (served, there, bad))
    to (inr (served, there, inr later)) = inr ((later.0.0, record { group = served; there = there; each = later.0.1 }), later.1)

    from : IsRowFault farm fault → LacksGroup farm (codes "virtualhosts") fault ⊎ ((served : Members) × HasGroup farm (codes "virtualhosts") served × ServedFault farm fault served)
    from (inl (inl lacks)) = inl lacks
    from (inl (inr bad)) = inr (bad.0, bad.1, inl bad.2)
    from (inr (some, later)) = inr (some.1.group, some.1.there, inr ((some.0, some.1.each), later))

only_fails : (fault : FarmFault) (farms : Members) → Fails (only_in farms >>= farm_rows) fault (IsFarmsFault farms fault)
only_fails fault [] = record { found = λ e. sym (fault_is (BadKind (codes "farms")) fault e); only = λ is. ap Err (sym is) }
only_fails fault (m ∷ []) = group_then farm_rows fault (λ farm. IsRowFault farm fault) (rows_fail fault) (name_or m.0 (codes "farms")) m.1
only_fails fault (m ∷ n ∷ more) = record { found = λ e. sym (fault_is (NotSupported (codes "farms")) fault e); only = λ is. ap Err (sym is) }

-- ---- the file

abbrev file_rows : Members → FarmOutcome Farm
file_rows file = needed_group (codes "farms") file >>= λ farms. only_in farms >>= farm_rows

file_fails : (fault : FarmFault) (file : Members) → Fails (file_rows file) fault (LacksGroup file (codes "farms") fault ⊎ ((farms : Members) × HasGroup file (codes "farms") farms × IsFarmsFault farms fault))
file_fails fault file = needed_then (λ farms. only_in farms >>= farm_rows) fault (λ farms. IsFarmsFault farms fault) (only_fails fault) file (codes "farms")

held : (top : AnyNode) (n : AnyNode-F AnyNode) → out-AnyNode top ≡ n → HasMembers top (members_in n)
held top (AnyNode-F.Word text) is = inr (inl (text, is), refl)
held top (AnyNode-F.Pattern text) is = inr (inr (text, is), refl)
held top (AnyNode-F.Group ms) is = inl is

holds_is : (top : AnyNode) (file : Members) → HasMembers top file → members_in (out-AnyNode top) ≡ file
holds_is top file (inl group) = ap members_in group
holds_is top file (inr (inl word, none)) = ap members_in word.1 ∙ sym none
holds_is top file (inr (inr quoted, none)) = ap members_in quoted.1 ∙ sym none

farm_is : (top : AnyNode) → farm_of top ≡ file_rows (members_in (out-AnyNode top))
unfolding farm_of only_farm
farm_is top = next_next (needed_group (codes "farms") (members_in (out-AnyNode top))) only_in farm_rows

pub fault_found : (top : AnyNode) (fault : FarmFault) → farm_of top ≡ Err fault → IsFarmFault top fault
fault_found top fault e = record { file = members_in (out-AnyNode top); holds = held top (out-AnyNode top) refl; is = (file_fails fault (members_in (out-AnyNode top))).found (sym (farm_is top) ∙ e) }

pub fault_only : (top : AnyNode) (fault : FarmFault) → IsFarmFault top fault → farm_of top ≡ Err fault
fault_only top fault f = farm_is top ∙ ap file_rows (holds_is top f.file f.holds) ∙ (file_fails fault f.file).only f.is
