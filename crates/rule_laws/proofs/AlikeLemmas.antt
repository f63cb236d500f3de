-- Files that are read alike give one farm, or one fault.
use Rattle.std.proofs.Common.{◌≡◌, inl, inr, ℕ, cond, List, [], ◌∷◌, ◌++◌, length, Option, Some, Ok, Err, codes, refl, ap, sym, ◌∙◌, arith}
use Rattle.std.specs.Prelude.{◌==◌}
use Rattle.std.specs.List.{AllZip}
use Rattle.sp_base.specs.Outcomes.{◌>>=◌}
use Rattle.any_config.specs.Farms.{FarmOutcome, member_value, name_or, group_in, group_of, member_word_in, member_word, or_missing, needed_group, group_or_none, optional_group, number_or_zero, decimal, member_number, or_bad, glob, glob_or_none, glob_at, test_in, test_of, test_or_none, test_at, rule_type, allow, rule, filter, each_after, each, entry, host, served_host, asked_in, publisher_address, only_in, only_farm, members_in, needed_rules, optional_rules, filters, deepest_level, with_cache, farm_of}
use Rattle.any_config.specs.Read.{Members}
use Rattle.any_config.specs.declared.farm.Farm.{Farm}
use Rattle.any_config.specs.declared.farm.Filter.{Filter}
use Rattle.any_config.specs.declared.farm.VirtualHost.{VirtualHost}
use Rattle.any_config.specs.declared.farm_fault.FarmFault.TheVariants.{BadKind}
use Rattle.any_config.specs.declared.node.AnyNode.{AnyNode, out-AnyNode}
use Rattle.rule_laws.specs.Alike.{HaveAlike, AreGroupsOf, AreGroupsAlike, AreWordsAlike, HaveWordsAlike, rule_names, filter_names, AreEntriesAlike, HaveEntriesAlike, AreHostsAlike, AreCachesAlike, AreFarmsAlike, AreFarmListsAlike, AreFilesAlike}
use Rattle.rule_laws.proofs.MemberLemmas.{lacks_only, member_only}

-- ---- steps

same_next : {A B : Type 0} (m : FarmOutcome A) (f g : A → FarmOutcome B) → ((x : A) → f x ≡ g x) → (m >>= f) ≡ (m >>= g)
same_next (Ok x) f g each = each x
same_next (Err fault) f g each = refl

pub next_next : {A B C : Type 0} (m : FarmOutcome A) (f : A → FarmOutcome B) (g : B → FarmOutcome C) → ((m >>= f) >>= g) ≡ (m >>= λ x. f x >>= g)
next_next (Ok x) f g = refl
next_next (Err fault) f g = refl

-- ---- members and values

there_alike : {X : Type 0} (Alike : AnyNode → AnyNode → Type 0) (f : Option AnyNode → X) → ((a b : AnyNode) → Alike a b → f (Some a) ≡ f (Some b))
    → (ms others : Members) (name : List ℕ) → HaveAlike Alike ms others name → f (member_value name ms) ≡ f (member_value name others)
there_alike Alike f same ms others name (HaveAlike.Neither none neither) = ap f (lacks_only name ms none) ∙ sym (ap f (lacks_only name others neither))
there_alike Alike f same ms others name (HaveAlike.Both a b one other alike) = ap f (member_only name ms a one) ∙ same a b alike ∙ sym (ap f (member_only name others b other))

word_alike : (name : List ℕ) (a b : AnyNode) → AreWordsAlike a b → member_word name a ≡ member_word name b
word_alike name a b (inl same) = ap (member_word name) same
word_alike name a b (inr g) = ap (member_word_in name) g.first ∙ sym (ap (member_word_in name) g.second)

test_alike : (name : List ℕ) (a b : AnyNode) → AreWordsAlike a b → test_of name a ≡ test_of name b
unfolding test_of
test_alike name a b (inl same) = ap (λ (v : AnyNode). test_in name (out-AnyNode v)) same
test_alike name a b (inr g) = ap (test_in name) g.first ∙ sym (ap (test_in name) g.second)

-- what follows a group is one where what follows its members is
group_alike : {B : Type 0} (Alike : Members → Members → Type 0) (f : Members → FarmOutcome B) → ((ms others : Members) → Alike ms others → f ms ≡ f others)
    → (name told : List ℕ) (a b : AnyNode) → AreGroupsOf Alike a b → (group_of name a >>= f) ≡ (group_of told b >>= f)
group_alike Alike f same name told a b g = ap (λ v. group_in name v >>= f) g.first ∙ same g.ms g.others g.alike ∙ sym (ap (λ v. group_in told v >>= f) g.second)

groups_alike : {B : Type 0} (Alike : Members → Members → Type 0) (f : Members → FarmOutcome B) → ((ms others : Members) → Alike ms others → f ms ≡ f others)
    → (name : List ℕ) (a b : AnyNode) → AreGroupsAlike Alike a b → (group_of name a >>= f) ≡ (group_of name b >>= f)
groups_alike Alike f same name a b (inl one) = ap (λ (v : AnyNode). group_of name v >>= f) one
groups_alike Alike f same name a b (inr g) = group_alike Alike f same name name a b g

needed_alike : {B : Type 0} (Alike : Members → Members → Type 0) (f : Members → FarmOutcome B) → ((ms others : Members) → Alike ms others → f ms ≡ f others)
    → (ms others : Members) (name : List ℕ) → HaveAlike (AreGroupsAlike Alike) ms others name → (needed_group name ms >>= f) ≡ (needed_group name others >>= f)
unfolding needed_group
needed_alike Alike f same ms others name alike =
    there_alike (AreGroupsAlike Alike) (λ o. (or_missing name o >>= λ value. group_of name value) >>= f) (λ a b v. groups_alike Alike f same name a b v) ms others name alike

optional_alike : {B : Type 0} (Alike : Members → Members → Type 0) (f : Members → FarmOutcome B) → ((ms others : Members) → Alike ms others → f ms ≡ f others)
    → (ms others : Members) (name : List ℕ) → HaveAlike (AreGroupsAlike Alike) ms others name → (optional_group name ms >>= f) ≡ (optional_group name others >>= f)
unfolding optional_group
optional_alike Alike f same ms others name alike = there_alike (AreGroupsAlike Alike) (λ o. group_or_none name o >>= f) (λ a b v. groups_alike Alike f same name a b v) ms others name alike

number_alike : (name : List ℕ) (most : ℕ) (ms others : Members) → HaveAlike AreWordsAlike ms others name → member_number name most ms ≡ member_number name most others
unfolding member_number
number_alike name most ms others alike = there_alike AreWordsAlike (number_or_zero name most) (λ a b v. ap (λ w. w >>= λ text. or_bad name (decimal most text)) (word_alike name a b v)) ms others name alike

glob_at_alike : (name : List ℕ) (ms others : Members) → HaveAlike AreWordsAlike ms others name → glob_at name ms ≡ glob_at name others
unfolding glob_at
glob_at_alike name ms others alike = there_alike AreWordsAlike (glob_or_none name) (λ a b v. ap (λ w. w >>= λ text. glob name text >>= λ g. Ok (Some g)) (word_alike name a b v)) ms others name alike

test_at_alike : (name : List ℕ) (ms others : Members) → HaveAlike AreWordsAlike ms others name → test_at name ms ≡ test_at name others
unfolding test_at
test_at_alike name ms others alike = there_alike AreWordsAlike (test_or_none name) (λ a b v. ap (λ w. w >>= λ t. Ok (Some t)) (test_alike name a b v)) ms others name alike

allow_alike : (ms others : Members) → HaveAlike AreWordsAlike ms others (codes "type") → allow ms ≡ allow others
unfolding allow
allow_alike ms others alike =
    there_alike AreWordsAlike (λ o. or_bad (codes "type") o >>= λ value. member_word (codes "type") value >>= rule_type) (λ a b v. ap (λ w. w >>= rule_type) (word_alike (codes "type") a b v)) ms others (codes "type") alike

-- ---- entries

rule_alike : (ms others : Members) → HaveWordsAlike rule_names ms others → rule ms ≡ rule others
unfolding rule
rule_alike ms others h =
    let type = allow_alike ms others h.0 in
    let glob = glob_at_alike (codes "glob") ms others h.1.0 in
    rw (type, glob) refl

filter_alike : (ms others : Members) → HaveWordsAlike filter_names ms others → filter ms ≡ filter others
unfolding filter
filter_alike ms others h =
    let type = allow_alike ms others h.0 in
    let request_line = test_at_alike (codes "glob") ms others h.1.0 in
    let method = test_at_alike (codes "method") ms others h.1.1.0 in
    let url = test_at_alike (codes "url") ms others h.1.1.1.0 in
    let path = test_at_alike (codes "path") ms others h.1.1.1.1.0 in
    let selectors = test_at_alike (codes "selectors") ms others h.1.1.1.1.1.0 in
    let extension = test_at_alike (codes "extension") ms others h.1.1.1.1.1.1.0 in
    let suffix = test_at_alike (codes "suffix") ms others h.1.1.1.1.1.1.1.0 in
    let query = test_at_alike (codes "query") ms others h.1.1.1.1.1.1.1.1.0 in
    rw (type, request_line, method, url, path, selectors, extension, suffix, query) refl

entry_alike : {B : Type 0} (Alike : Members → Members → Type 0) (read : Members → FarmOutcome B) → ((ms others : Members) → Alike ms others → read ms ≡ read others)
    → (group : List ℕ) (m n : List ℕ × AnyNode) → AreEntriesAlike Alike group m n → entry group read m ≡ entry group read n
entry_alike Alike read same group m n (inl told) = ap (λ (name : List ℕ). group_of name m.1 >>= read) told.0 ∙ ap (λ (v : AnyNode). group_of (name_or n.0 group) v >>= read) told.1
entry_alike Alike read same group m n (inr g) = group_alike Alike read same (name_or m.0 group) (name_or n.0 group) m.1 n.1 g

module _ {A B : Type 0} (read : A → FarmOutcome B) (R : A → A → Type 0) (same : (x y : A) → R x y → read x ≡ read y) where
  after_alike : (found : List B) (xs ys : List A) → AllZip R xs ys → each_after read found xs ≡ each_after read found ys
  after_alike found [] [] all = refl
  after_alike found [] (y ∷ ys) all = absurd all
  after_alike found (x ∷ xs) [] all = absurd all
  after_alike found (x ∷ xs) (y ∷ ys) all =
      ap (λ r. r >>= λ z. each_after read (found ++ z ∷ []) xs) (same x y all.0)
      ∙ same_next (read y) (λ z. each_after read (found ++ z ∷ []) xs) (λ z. each_after read (found ++ z ∷ []) ys) (λ z. after_alike (found ++ z ∷ []) xs ys all.1)

  each_alike : (xs ys : List A) → AllZip R xs ys → each read xs ≡ each read ys
  each_alike xs ys all = after_alike [] xs ys all

needed_rules_alike : (name : List ℕ) (ms others : Members) → HaveEntriesAlike rule_names name ms others → needed_rules name ms ≡ needed_rules name others
unfolding needed_rules
needed_rules_alike name ms others alike =
    needed_alike (AllZip (AreEntriesAlike (HaveWordsAlike rule_names) name)) (λ group. each (entry name rule) group)
    (λ one two zip. each_alike (entry name rule) (AreEntriesAlike (HaveWordsAlike rule_names) name) (entry_alike (HaveWordsAlike rule_names) rule rule_alike name) one two zip) ms others name alike

optional_rules_alike : (name : List ℕ) (ms others : Members) → HaveEntriesAlike rule_names name ms others → optional_rules name ms ≡ optional_rules name others
unfolding optional_rules
optional_rules_alike name ms others alike =
    optional_alike (AllZip (AreEntriesAlike (HaveWordsAlike rule_names) name)) (λ group. each (entry name rule) group)
    (λ one two zip. each_alike (entry name rule) (AreEntriesAlike (HaveWordsAlike rule_names) name) (entry_alike (HaveWordsAlike rule_names) rule rule_alike name) one two zip) ms others name alike

filters_alike : (ms others : Members) → HaveEntriesAlike filter_names (codes "filter") ms others → filters ms ≡ filters others
unfolding filters
filters_alike ms others alike =
    needed_alike (AllZip (AreEntriesAlike (HaveWordsAlike filter_names) (codes "filter"))) (λ group. each (entry (codes "filter") filter) group)
    (λ one two zip. each_alike (entry (codes "filter") filter) (AreEntriesAlike (HaveWordsAlike filter_names) (codes "filter")) (entry_alike (HaveWordsAlike filter_names) filter filter_alike (codes "filter")) one two zip) ms others (codes "filter") alike

-- ---- the table

host_alike : (m n : List ℕ × AnyNode) → AreHostsAlike m n → served_host m ≡ served_host n
unfolding served_host
host_alike m n alike =
    ap (λ (name : List ℕ). cond (length name == 0) (member_word (codes "virtualhosts") m.1 >>= λ text. host (codes "virtualhosts") text) (Err (BadKind name))) alike.0
    ∙ ap (λ w. cond (length n.0 == 0) (w >>= λ text. host (codes "virtualhosts") text) (Err (BadKind n.0))) (word_alike (codes "virtualhosts") m.1 n.1 alike.1)

asked_alike : (ms others : Members) → AllZip AreHostsAlike ms others → publisher_address ms ≡ publisher_address others
unfolding publisher_address
asked_alike [] [] all = refl
asked_alike [] (n ∷ others) all = absurd all
asked_alike (m ∷ ms) [] all = absurd all
asked_alike (m ∷ ms) (n ∷ others) all = go all.0.1
  where
    go : AreWordsAlike m.1 n.1 → asked_in (out-AnyNode m.1) ≡ asked_in (out-AnyNode n.1)
    go (inl same) = ap (λ (v : AnyNode). asked_in (out-AnyNode v)) same
    go (inr g) = ap asked_in g.first ∙ sym (ap asked_in g.second)

cache_alike : (hosts : List VirtualHost) (ask : List ℕ × ℕ) (entries : List Filter) (ms others : Members) → AreCachesAlike ms others → with_cache hosts ask entries ms ≡ with_cache hosts ask entries others
unfolding with_cache
cache_alike hosts ask entries ms others alike =
    let rules = needed_rules_alike (codes "rules") ms others alike.rules in
    let level = number_alike (codes "statfileslevel") deepest_level ms others alike.level in
    let authorized = number_alike (codes "allowAuthorized") 1 ms others alike.authorized in
    let auto = optional_rules_alike (codes "invalidate") ms others alike.auto in
    let clients = optional_rules_alike (codes "allowedClients") ms others alike.clients in
    let ignored = optional_rules_alike (codes "ignoreUrlParams") ms others alike.ignored in
    rw (rules, level, authorized, auto, clients, ignored) refl

-- what is read of a farm after its hosts
abbrev pub after_hosts : List VirtualHost → List ℕ × ℕ → Members → FarmOutcome Farm
after_hosts hosts ask farm = filters farm >>= λ entries. needed_group (codes "cache") farm >>= λ cache. with_cache hosts ask entries cache

abbrev pub after_served : Members → Members → FarmOutcome Farm
after_served farm served = each served_host served >>= λ hosts. after_hosts hosts (publisher_address served) farm

-- what is read of the one farm
abbrev pub farm_rows : Members → FarmOutcome Farm
farm_rows farm = needed_group (codes "virtualhosts") farm >>= after_served farm

after_hosts_alike : (hosts : List VirtualHost) (ask : List ℕ × ℕ) (ms others : Members) → AreFarmsAlike ms others → after_hosts hosts ask ms ≡ after_hosts hosts ask others
after_hosts_alike hosts ask ms others alike =
    ap (λ f. f >>= λ entries. needed_group (codes "cache") ms >>= λ cache. with_cache hosts ask entries cache) (filters_alike ms others alike.filter)
    ∙ same_next (filters others) (λ entries. needed_group (codes "cache") ms >>= λ cache. with_cache hosts ask entries cache) (λ entries. needed_group (codes "cache") others >>= λ cache. with_cache hosts ask entries cache)
    (λ entries. needed_alike AreCachesAlike (λ cache. with_cache hosts ask entries cache) (cache_alike hosts ask entries) ms others (codes "cache") alike.cache)

served_alike : (farm : Members) (ms others : Members) → AllZip AreHostsAlike ms others → after_served farm ms ≡ after_served farm others
served_alike farm ms others all =
    ap (λ r. r >>= λ hosts. after_hosts hosts (publisher_address ms) farm) (each_alike served_host AreHostsAlike host_alike ms others all)
    ∙ ap (λ (ask : List ℕ × ℕ). each served_host others >>= λ hosts. after_hosts hosts ask farm) (asked_alike ms others all)

rows_alike : (ms others : Members) → AreFarmsAlike ms others → farm_rows ms ≡ farm_rows others
rows_alike ms others alike =
    needed_alike (AllZip AreHostsAlike) (after_served ms) (served_alike ms) ms others (codes "virtualhosts") alike.hosts
    ∙ same_next (needed_group (codes "virtualhosts") others) (after_served ms) (after_served others)
    (λ served. same_next (each served_host served) (λ hosts. after_hosts hosts (publisher_address served) ms) (λ hosts. after_hosts hosts (publisher_address served) others) (λ hosts. after_hosts_alike hosts (publisher_address served) ms others alike))

only_alike : (ms others : Members) → AreFarmListsAlike ms others → (only_in ms >>= farm_rows) ≡ (only_in others >>= farm_rows)
only_alike [] [] alike = refl
only_alike [] (n ∷ others) (inl all) = absurd all
only_alike [] (n ∷ others) (inr several) = let none = several.0 in absurd (omega (arith, none))
only_alike (m ∷ ms) [] (inl all) = absurd all
only_alike (m ∷ ms) [] (inr several) = let none = several.1 in absurd (omega (arith, none))
only_alike (m ∷ []) (n ∷ []) (inl all) = entry_alike AreFarmsAlike farm_rows rows_alike (codes "farms") m n all.0
only_alike (m ∷ []) (n ∷ others) (inr several) = let one = several.0 in absurd (omega (arith, one))
only_alike (m ∷ []) (n ∷ k ∷ others) (inl all) = absurd all.1
only_alike (m ∷ k ∷ ms) (n ∷ []) (inl all) = absurd all.1
only_alike (m ∷ k ∷ ms) (n ∷ []) (inr several) = let one = several.1 in absurd (omega (arith, one))
only_alike (m ∷ k ∷ ms) (n ∷ l ∷ others) alike = refl

pub read_alike : (top other : AnyNode) → AreFilesAlike top other → farm_of top ≡ farm_of other
unfolding farm_of only_farm
read_alike top other alike =
    next_next (needed_group (codes "farms") (members_in (out-AnyNode top))) only_in farm_rows
    ∙ ap (λ v. needed_group (codes "farms") (members_in v) >>= λ farms. only_in farms >>= farm_rows) alike.first
    ∙ needed_alike AreFarmListsAlike (λ farms. only_in farms >>= farm_rows) only_alike alike.ms alike.others (codes "farms") alike.farms
    ∙ sym (ap (λ v. needed_group (codes "farms") (members_in v) >>= λ farms. only_in farms >>= farm_rows) alike.second)
    ∙ sym (next_next (needed_group (codes "farms") (members_in (out-AnyNode other))) only_in farm_rows)
