use Rattle.std.proofs.Common.{◌≡◌, List, ℕ, [], None, Some, inl, inr, sym, subst, take, refl}
use Rattle.std.specs.Prelude.{Contains, IfSome, IsUtf8, is_ok}
use Rattle.sp_outside.specs.Calls.{Names}
use Rattle.sp_outside.specs.Files.{IsListing, names_after}
use Rattle.docroot_changes.specs.Changes.{Told}
use Rattle.docroot_changes.proofs.MadeCalls.{makes_more}
use Rattle.front.specs.Clearings.{ClearsFiles, HasNoneAmong, HasNoneBetween, is_of_cache}
use Rattle.front.proofs.ClearingLemmas.{Relation, cleared-between, listed, nearer, not-full, told-both, told-known}
use Rattle.front.proofs.UseLemmas.{calls-one}
use Rattle.front.proofs.clearing.clear_next.Goals as goal

pub returns-in_err-names-clause-calls : goal.returns-in_err-names-clause-calls
returns-in_err-names-clause-calls g c = calls-one _ _ (Names [] c.text.result.now 256 (is_ok c.list.result)) (inl refl) c.list.ensures.made

pub returns-in_err-clear_names-clause-calls : goal.returns-in_err-clear_names-clause-calls
returns-in_err-clear_names-clause-calls g c = makes_more _ _ _ (calls-one _ _ (Names [] c.text.result.now 256 (is_ok c.list.result)) (inl refl) c.list.ensures.made) c.clear_names.ensures.calls

pub returns-in_err-duplicate-in-Some-clause-calls : goal.returns-in_err-duplicate-in-Some-clause-calls
returns-in_err-duplicate-in-Some-clause-calls g c = makes_more _ _ _ (calls-one _ _ (Names [] c.text.result.now 256 (is_ok c.list.result)) (inl refl) c.list.ensures.made) c.clear_names.ensures.calls

pub returns-in-Some-clause-calls : goal.returns-in-Some-clause-calls
returns-in-Some-clause-calls g c = makes_more _ _ _ (calls-one _ _ (Names [] c.text.result.now 256 (is_ok c.list.result)) (inl refl) c.list.ensures.made) c.clear_names.ensures.calls

pub returns-clause-calls : goal.returns-clause-calls
returns-clause-calls g c = makes_more _ _ _ (calls-one _ _ (Names [] c.text.result.now 256 (is_ok c.list.result)) (inl refl) c.list.ensures.made) c.clear_names.ensures.calls

pub returns-in-Some-clause-none : goal.returns-in-Some-clause-none
returns-in-Some-clause-none g c =
    let cache_file = c.args.cache_file in
    let last = c.args.last.now in
    let names = c.in_ok-names.names in
    let next = c.in_ok-duplicate-in-Some.field-0 in
    let before = g.D.Disk.files c.args.disk.now in
    let after = g.D.Disk.files c.clear_names.new.disk in
    let both : Relation = λ a b. ClearsFiles (is_of_cache cache_file) a b × HasNoneAmong cache_file names b in
    let left = told-both (ClearsFiles (is_of_cache cache_file)) (λ a b. HasNoneAmong cache_file c.as_slice.result.now b) (λ a b. ClearsFiles (is_of_cache cache_file) a b × HasNoneAmong cache_file c.as_slice.result.now b) _ _ (λ a b p q. (p, q)) c.in_ok-clear_names.ensures.left c.in_ok-clear_names.ensures.none in
    let took : Told both before after = subst (λ (ns : List (List ℕ)). Told (λ a b. ClearsFiles (is_of_cache cache_file) a b × HasNoneAmong cache_file ns b) before after) c.as_slice.ensures
    (subst (λ t. Told (λ a b. ClearsFiles (is_of_cache cache_file) a b × HasNoneAmong cache_file c.as_slice.result.now b) t after) c.in_ok-names.ensures.same left) in
    let value = subst (λ l. IfSome before (λ held. names ≡ take 256 (names_after held [] l))) c.text.ensures c.in_ok-names.ensures.value in
    let has : Contains names next = subst (Contains names) (sym c.in_ok-duplicate-in-Some.ensures) (listed names 255 c.in-Some.next.now (sym c.in-Some.ensures)) in
    told-known (λ held. names ≡ take 256 (names_after held [] last)) both (λ a b. HasNoneBetween cache_file last (Some next) b) before after
    (λ a b is w. cleared-between cache_file last (Some next) 256 names a b (λ name there reached. c.nothing_is_passed_over.ensures a [] last name 256 names is there reached) (λ name here. inl (next, has, here)) w) value took

pub returns-clause-none : goal.returns-clause-none
returns-clause-none g c =
    let cache_file = c.args.cache_file in
    let last = c.args.last.now in
    let names = c.in_ok-names.names in
    let before = g.D.Disk.files c.args.disk.now in
    let after = g.D.Disk.files c.clear_names.new.disk in
    let both : Relation = λ a b. ClearsFiles (is_of_cache cache_file) a b × HasNoneAmong cache_file names b in
    let left = told-both (ClearsFiles (is_of_cache cache_file)) (λ a b. HasNoneAmong cache_file c.as_slice.result.now b) (λ a b. ClearsFiles (is_of_cache cache_file) a b × HasNoneAmong cache_file c.as_slice.result.now b) _ _ (λ a b p q. (p, q)) c.in_ok-clear_names.ensures.left c.in_ok-clear_names.ensures.none in
    let took : Told both before after = subst (λ (ns : List (List ℕ)). Told (λ a b. ClearsFiles (is_of_cache cache_file) a b × HasNoneAmong cache_file ns b) before after) c.as_slice.ensures
    (subst (λ t. Told (λ a b. ClearsFiles (is_of_cache cache_file) a b × HasNoneAmong cache_file c.as_slice.result.now b) t after) c.in_ok-names.ensures.same left) in
    let value = subst (λ l. IfSome before (λ held. names ≡ take 256 (names_after held [] l))) c.text.ensures c.in_ok-names.ensures.value in
    told-known (λ held. names ≡ take 256 (names_after held [] last)) both (λ a b. HasNoneBetween cache_file last None b) before after
    (λ a b is w. cleared-between cache_file last None 256 names a b (λ name there reached. c.nothing_is_passed_over.ensures a [] last name 256 names is there reached) (λ name here. inr (not-full names 255 (sym c.in-None.ensures))) w) value took

pub returns-in-Some-clause-nearer : goal.returns-in-Some-clause-nearer
returns-in-Some-clause-nearer g c =
    let names = c.in_ok-names.names in
    let next = c.in_ok-duplicate-in-Some.field-0 in
    let listing = subst (λ l. IsListing [] l 256 names) c.text.ensures c.in_ok-names.ensures.names in
    let has : Contains names next = subst (Contains names) (sym c.in_ok-duplicate-in-Some.ensures) (listed names 255 c.in-Some.next.now (sym c.in-Some.ensures)) in
    nearer c.args.last.now next [] 256 names listing has (c.fewer_names_follow.ensures [] c.args.last.now next 256 names (subst IsUtf8 c.text.ensures c.text.utf8) c.requires listing has)
