-- The farm of a file is its table.
use Rattle.std.proofs.Common.{◌≡◌, ◌⊎◌, ◌==◌, inl, inr, ℕ, Bool, List, [], ◌∷◌, Ok, codes, refl, ap, sym, ◌∙◌, subst}
use Rattle.std.specs.List.{AllZip}
use Rattle.sp_base.specs.Outcomes.{◌>>=◌}
use Rattle.glob_rules.specs.declared.rule.Rule.{Rule}
use Rattle.any_config.specs.Farms.{FarmOutcome, entry, rule, filter, each, needed_group, optional_group, name_or, served_host, publisher_address, only_in, members_in, only_farm, needed_rules, optional_rules, filters, member_number, deepest_level, with_cache, farm_of}
use Rattle.any_config.specs.Read.{Members}
use Rattle.any_config.specs.declared.farm.Farm.{Farm}
use Rattle.any_config.specs.declared.farm.Filter.{Filter}
use Rattle.any_config.specs.declared.farm.VirtualHost.{VirtualHost}
use Rattle.any_config.specs.declared.node.AnyNode.{AnyNode, out-AnyNode}
use Rattle.any_config.specs.declared.node.AnyNode.TheOpen.{AnyNode-F}
use Rattle.rule_laws.specs.FarmTable.{IsGroup, HasGroup, LacksMember, IsRuleEntry, IsFilterEntry, HasEntries, HasRules, HasRulesOrNone, IsServedHost, IsAsked, IsCacheOf, IsFarmOf}
use Rattle.rule_laws.proofs.MemberLemmas.{bind_found, bind_only, ok_is, group_found, group_only, needed_found, needed_only, optional_found, optional_only, number_found, number_only, each_found, each_only}
use Rattle.rule_laws.proofs.EntryLemmas.{rule_found, rule_only, filter_found, filter_only}
use Rattle.rule_laws.proofs.HostLemmas.{served_found, served_only, asked_found, asked_only}

-- ---- lists of entries

pub rules_found : (name : List ℕ) (ms : Members) (rules : List Rule) → needed_rules name ms ≡ Ok rules → HasRules ms name rules
unfolding needed_rules
rules_found name ms rules e =
    let g = bind_found (needed_group name ms) (λ group. each (entry name rule) group) rules e in
    record { group = g.0; there = needed_found name ms g.0 g.1; each = each_found (entry name rule) IsRuleEntry (rule_found name) g.0 rules g.2 }

pub rules_only : (name : List ℕ) (ms : Members) (rules : List Rule) → HasRules ms name rules → needed_rules name ms ≡ Ok rules
unfolding needed_rules
rules_only name ms rules h = bind_only (needed_group name ms) (λ group. each (entry name rule) group) h.group rules (needed_only name ms h.group h.there) (each_only (entry name rule) IsRuleEntry (rule_only name) h.group rules h.each)

pub optional_rules_found : (name : List ℕ) (ms : Members) (rules : List Rule) → optional_rules name ms ≡ Ok rules → HasRulesOrNone ms name rules
unfolding optional_rules
optional_rules_found name ms rules e =
    let g = bind_found (optional_group name ms) (λ group. each (entry name rule) group) rules e in
    go g.0 (optional_found name ms g.0 g.1) (each_found (entry name rule) IsRuleEntry (rule_found name) g.0 rules g.2)
  where
    none_of : (rules : List Rule) → AllZip IsRuleEntry [] rules → rules ≡ []
    none_of [] all = refl
    none_of (r ∷ rules) all = absurd all

    go : (group : Members) → HasGroup ms name group ⊎ (LacksMember ms name × (group ≡ [])) → AllZip IsRuleEntry group rules → HasRulesOrNone ms name rules
    go group (inl there) all = inl (record { group = group; there = there; each = all })
    go group (inr none) all = inr (none.0, none_of rules (subst (λ (ms : Members). AllZip IsRuleEntry ms rules) none.1 all))

pub optional_rules_only : (name : List ℕ) (ms : Members) (rules : List Rule) → HasRulesOrNone ms name rules → optional_rules name ms ≡ Ok rules
unfolding optional_rules
optional_rules_only name ms rules (inl h) = bind_only (optional_group name ms) (λ group. each (entry name rule) group) h.group rules (optional_only name ms h.group (inl h.there)) (each_only (entry name rule) IsRuleEntry (rule_only name) h.group rules h.each)
optional_rules_only name ms rules (inr none) = bind_only (optional_group name ms) (λ group. each (entry name rule) group) [] rules (optional_only name ms [] (inr (none.0, refl))) (ap Ok (sym none.1))

pub filters_found : (ms : Members) (entries : List Filter) → filters ms ≡ Ok entries → HasEntries IsFilterEntry ms (codes "filter") entries
unfolding filters
filters_found ms entries e =
    let g = bind_found (needed_group (codes "filter") ms) (λ group. each (entry (codes "filter") filter) group) entries e in
    record { group = g.0; there = needed_found (codes "filter") ms g.0 g.1; each = each_found (entry (codes "filter") filter) IsFilterEntry (filter_found (codes "filter")) g.0 entries g.2 }

pub filters_only : (ms : Members) (entries : List Filter) → HasEntries IsFilterEntry ms (codes "filter") entries → filters ms ≡ Ok entries
unfolding filters
filters_only ms entries h = bind_only (needed_group (codes "filter") ms) (λ group. each (entry (codes "filter") filter) group) h.group entries (needed_only (codes "filter") ms h.group h.there) (each_only (entry (codes "filter") filter) IsFilterEntry (filter_only (codes "filter")) h.group entries h.each)

-- ---- the cache

pub record CacheRead (hosts : List VirtualHost) (ask : List ℕ × ℕ) (filter : List Filter) (cache : Members) (farm : Farm) : Type 0 where
  pub is : IsCacheOf cache farm
  pub hosts_are : farm.hosts ≡ hosts
  pub ask_is : (let p : List ℕ × ℕ = (farm.ask_host, farm.ask_port) in p) ≡ ask
  pub filter_is : farm.filter ≡ filter

cache_found : (hosts : List VirtualHost) (ask : List ℕ × ℕ) (filter : List Filter) (cache : Members) (farm : Farm) → with_cache hosts ask filter cache ≡ Ok farm → CacheRead hosts ask filter cache farm
unfolding with_cache
cache_found hosts ask filter cache farm e =
    let rules = bind_found (needed_rules (codes "rules") cache) _ farm e in
    let level = bind_found (member_number (codes "statfileslevel") deepest_level cache) _ farm rules.2 in
    let authorized = bind_found (member_number (codes "allowAuthorized") 1 cache) _ farm level.2 in
    let auto = bind_found (optional_rules (codes "invalidate") cache) _ farm authorized.2 in
    let clients = bind_found (optional_rules (codes "allowedClients") cache) _ farm auto.2 in
    let ignored = bind_found (optional_rules (codes "ignoreUrlParams") cache) _ farm clients.2 in
    let made : Farm = record { hosts = hosts; ask_host = ask.0; ask_port = ask.1; filter = filter; level = level.0; authorized = authorized.0 == 1; rules = rules.0; auto = auto.0; clients = clients.0; ignored = ignored.0 } in
    let same : made ≡ farm = ok_is made farm ignored.2 in
    subst (λ (f : Farm). CacheRead hosts ask filter cache f) same
    (record {
      is = record {
        rules = rules_found (codes "rules") cache rules.0 rules.1;
        level = number_found (codes "statfileslevel") deepest_level cache level.0 level.1;
        authorized = (authorized.0, number_found (codes "allowAuthorized") 1 cache authorized.0 authorized.1, refl);
        auto = optional_rules_found (codes "invalidate") cache auto.0 auto.1;
        clients = optional_rules_found (codes "allowedClients") cache clients.0 clients.1;
        ignored = optional_rules_found (codes "ignoreUrlParams") cache ignored.0 ignored.1;
      };
      hosts_are = refl;
      ask_is = refl;
      filter_is = refl;
    })

cache_only : (cache : Members) (farm : Farm) → IsCacheOf cache farm → with_cache farm.hosts (farm.ask_host, farm.ask_port) farm.filter cache ≡ Ok farm
unfolding with_cache
cache_only cache farm h =
    bind_only (needed_rules (codes "rules") cache) _ farm.rules farm (rules_only (codes "rules") cache farm.rules h.rules)
    (bind_only (member_number (codes "statfileslevel") deepest_level cache) _ farm.level farm (number_only (codes "statfileslevel") deepest_level cache farm.level h.level)
    (bind_only (member_number (codes "allowAuthorized") 1 cache) _ h.authorized.0 farm (number_only (codes "allowAuthorized") 1 cache h.authorized.0 h.authorized.1)
    (bind_only (optional_rules (codes "invalidate") cache) _ farm.auto farm (optional_rules_only (codes "invalidate") cache farm.auto h.auto)
    (bind_only (optional_rules (codes "allowedClients") cache) _ farm.clients farm (optional_rules_only (codes "allowedClients") cache farm.clients h.clients)
    (bind_only (optional_rules (codes "ignoreUrlParams") cache) _ farm.ignored farm (optional_rules_only (codes "ignoreUrlParams") cache farm.ignored h.ignored)
    (ap (λ (b : Bool). ok_farm (record farm { authorized = b })) (sym h.authorized.2)))))))
  where
    ok_farm : Farm → FarmOutcome Farm
    ok_farm f = Ok f

-- ---- the one farm

-- the group `/farms` has one member, a group
pub record OnlyFarm (top : AnyNode) (members : Members) : Type 0 where
  pub file : Members
  pub only : List ℕ × AnyNode
  pub is_file : IsGroup top file
  pub farms : HasGroup file (codes "farms") (only ∷ [])
  pub is_group : IsGroup only.1 members

only_found : (top : AnyNode) (members : Members) → only_farm top ≡ Ok members → OnlyFarm top members
unfolding only_farm needed_group
only_found top members e = go (out-AnyNode top) refl e
  where
    one : (file : Members) → IsGroup top file → (farms : Members) → needed_group (codes "farms") file ≡ Ok farms → only_in farms ≡ Ok members → OnlyFarm top members
    one file is [] there f = absurd cc
    one file is (m ∷ []) there f = record { file = file; only = m; is_file = is; farms = needed_found (codes "farms") file (m ∷ []) there; is_group = group_found (name_or m.0 (codes "farms")) m.1 members f }
    one file is (m ∷ n ∷ ms) there f = absurd cc

    go : (n : AnyNode-F AnyNode) → out-AnyNode top ≡ n → (needed_group (codes "farms") (members_in n) >>= only_in) ≡ Ok members → OnlyFarm top members
    go (AnyNode-F.Word text) is f = absurd cc
    go (AnyNode-F.Pattern text) is f = absurd cc
    go (AnyNode-F.Group file) is f = let g = bind_found (needed_group (codes "farms") file) only_in members f in one file is g.0 g.1 g.2

only_only : (top : AnyNode) (members : Members) → OnlyFarm top members → only_farm top ≡ Ok members
unfolding only_farm
only_only top members o =
    ap (λ (n : AnyNode-F AnyNode). needed_group (codes "farms") (members_in n) >>= only_in) o.is_file
    ∙ bind_only (needed_group (codes "farms") o.file) only_in (o.only ∷ []) members (needed_only (codes "farms") o.file (o.only ∷ []) o.farms) (group_only (name_or o.only.0 (codes "farms")) o.only.1 members o.is_group)

pub farm_found : (top : AnyNode) (farm : Farm) → farm_of top ≡ Ok farm → IsFarmOf top farm
unfolding farm_of
farm_found top farm e =
    let members = bind_found (only_farm top) _ farm e in
    let served = bind_found (needed_group (codes "virtualhosts") members.0) _ farm members.2 in
    let hosts = bind_found (each served_host served.0) _ farm served.2 in
    let entries = bind_found (filters members.0) _ farm hosts.2 in
    let cache = bind_found (needed_group (codes "cache") members.0) _ farm entries.2 in
    let o = only_found top members.0 members.1 in
    let kept = cache_found hosts.0 (publisher_address served.0) entries.0 cache.0 farm cache.2 in
    let all = each_found served_host IsServedHost served_found served.0 hosts.0 hosts.1 in
    record {
      file = o.file;
      only = o.only;
      members = members.0;
      is_file = o.is_file;
      farms = o.farms;
      is_group = o.is_group;
      rows = record {
        served = served.0;
        cache = cache.0;
        virtualhosts = needed_found (codes "virtualhosts") members.0 served.0 served.1;
        hosts = subst (λ (hs : List VirtualHost). AllZip IsServedHost served.0 hs) (sym kept.hosts_are) all;
        asked = subst (λ (p : List ℕ × ℕ). IsAsked served.0 p.0 p.1) (sym kept.ask_is) (asked_found served.0 hosts.0 all);
        filter = subst (λ (fs : List Filter). HasEntries IsFilterEntry members.0 (codes "filter") fs) (sym kept.filter_is) (filters_found members.0 entries.0 entries.1);
        there = needed_found (codes "cache") members.0 cache.0 cache.1;
        kept = kept.is;
      };
    }

pub farm_only : (top : AnyNode) (farm : Farm) → IsFarmOf top farm → farm_of top ≡ Ok farm
unfolding farm_of
farm_only top farm h =
    let r = h.rows in
    bind_only (only_farm top) _ h.members farm (only_only top h.members (record { file = h.file; only = h.only; is_file = h.is_file; farms = h.farms; is_group = h.is_group }))
    (bind_only (needed_group (codes "virtualhosts") h.members) _ r.served farm (needed_only (codes "virtualhosts") h.members r.served r.virtualhosts)
    (bind_only (each served_host r.served) _ farm.hosts farm (each_only served_host IsServedHost served_only r.served farm.hosts r.hosts)
    (bind_only (filters h.members) _ farm.filter farm (filters_only h.members farm.filter r.filter)
    (bind_only (needed_group (codes "cache") h.members) _ r.cache farm (needed_only (codes "cache") h.members r.cache r.there)
    (ap (λ (p : List ℕ × ℕ). with_cache farm.hosts p farm.filter r.cache) (asked_only r.served farm.ask_host farm.ask_port r.asked) ∙ cache_only r.cache farm r.kept)))))
