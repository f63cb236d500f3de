use Rattle.std.proofs.Common.{◌≡◌, [], ◌∷◌, Bool, Option, Some, List, ℕ, sym, ◌∙◌, ap, arith, length, subst, take}
use Rattle.std.specs.Prelude.{Contains, IfSome, ◌<◌, is_ok, slice_get}
use Rattle.std.proofs.lemmas.Option.{get_or_from_slice_get}
use Rattle.sp_base.specs.Texts.{Text}
use Rattle.sp_outside.specs.Calls.{Call, Names, told_call}
use Rattle.sp_outside.specs.Files.{IsListing, names_after}
use Rattle.docroot_changes.specs.Changes.{Told}
use Rattle.docroot_changes.specs.DocrootCalls.{IsListedPrefix, MakesDocrootCalls}
use Rattle.invalidation.specs.Slices.{IsListedPage}
use Rattle.invalidation.specs.Walks.{AreGone, IsPageAmong, TakesFiles, Walked}
use Rattle.invalidation.proofs.Chains.{Relation, told_as, told_both, told_known}
use Rattle.invalidation.proofs.Passing.{listed_pages, walk_list}
use Rattle.invalidation.proofs.walk.look_at.Goals as goal

pub after-requires-clause-prefix : goal.after-requires-clause-prefix
after-requires-clause-prefix g c = omega (arith, c.requires.place, c.len-count.ensures)

pub returns-in_err-take_pages-clause-takes : goal.returns-in_err-take_pages-clause-takes
returns-in_err-take_pages-clause-takes g c =
    let prefixes = c.args.prefixes.now in
    let names = c.in_ok-names.names in
    let disk = c.take_pages.new.disk in
    let takes = subst (λ (ns : List (List ℕ)). Told (TakesFiles (IsPageAmong ns) (length ns)) (g.D.Disk.files c.args.disk.now) (g.D.Disk.files disk)) c.as_slice.ensures
    (subst (λ t. Told (TakesFiles (IsPageAmong c.as_slice.result.now) (length c.as_slice.result.now)) t (g.D.Disk.files disk)) c.in_ok-names.ensures.same c.take_pages.ensures.takes) in
    told_as (TakesFiles (IsPageAmong names) (length names)) (TakesFiles (IsListedPage prefixes) c.args.most) _ _
    (listed_pages prefixes c.args.place.now.prefix c.text.result.now c.text-2.result.now c.args.most c.args.most names c.requires.place (sym c.in-Some.ensures ∙ ap Some (sym c.text.ensures)) c.in_ok-names.ensures.names c.in_ok-names.ensures.names.few) takes

pub returns-clause-takes : goal.returns-clause-takes
returns-clause-takes g c =
    let prefixes = c.args.prefixes.now in
    let names = c.in_ok-names.names in
    let disk = c.take_pages.new.disk in
    let takes = subst (λ (ns : List (List ℕ)). Told (TakesFiles (IsPageAmong ns) (length ns)) (g.D.Disk.files c.args.disk.now) (g.D.Disk.files disk)) c.as_slice.ensures
    (subst (λ t. Told (TakesFiles (IsPageAmong c.as_slice.result.now) (length c.as_slice.result.now)) t (g.D.Disk.files disk)) c.in_ok-names.ensures.same c.take_pages.ensures.takes) in
    told_as (TakesFiles (IsPageAmong names) (length names)) (TakesFiles (IsListedPage prefixes) c.args.most) _ _
    (listed_pages prefixes c.args.place.now.prefix c.text.result.now c.text-2.result.now c.args.most c.args.most names c.requires.place (sym c.in-Some.ensures ∙ ap Some (sym c.text.ensures)) c.in_ok-names.ensures.names c.in_ok-names.ensures.names.few) takes

pub returns-clause-walked : goal.returns-clause-walked
returns-clause-walked g c =
    let prefixes = c.args.prefixes.now in
    let names = c.in_ok-names.names in
    let most = c.args.most in
    let prefix = c.text.result.now in
    let start = c.args.place.now in
    let before = g.D.Disk.files c.args.disk.now in
    let after = g.D.Disk.files c.take_pages.new.disk in
    let both : Relation = λ a b. TakesFiles (IsPageAmong names) (length names) a b × AreGone names b in
    let took = told_both (TakesFiles (IsPageAmong c.as_slice.result.now) (length c.as_slice.result.now)) (λ a b. AreGone c.as_slice.result.now b) (λ a b. TakesFiles (IsPageAmong c.as_slice.result.now) (length c.as_slice.result.now) a b × AreGone c.as_slice.result.now b) _ _ (λ a b p q. (p, q))
    c.in_ok-take_pages.ensures.takes c.in_ok-take_pages.ensures.gone in
    let takes : Told both before after = subst (λ (ns : List (List ℕ)). Told (λ a b. TakesFiles (IsPageAmong ns) (length ns) a b × AreGone ns b) before after) c.as_slice.ensures
    (subst (λ t. Told (λ a b. TakesFiles (IsPageAmong c.as_slice.result.now) (length c.as_slice.result.now) a b × AreGone c.as_slice.result.now b) t after) c.in_ok-names.ensures.same took) in
    let listing = subst (λ l. IsListing prefix l most names) c.text-2.ensures c.in_ok-names.ensures.names in
    let value = subst (λ l. IfSome before (λ held. names ≡ take most (names_after held prefix l))) c.text-2.ensures c.in_ok-names.ensures.value in
    let walked = told_known (λ held. names ≡ take most (names_after held prefix start.last)) both (Walked prefixes start c.in_ok-next.next (length names)) before after
    (λ a b is w. walk_list prefixes prefix start c.in_ok-next.next most names c.nothing_is_passed_over.ensures c.requires.apart c.requires.place (sym c.in-Some.ensures ∙ ap Some (sym c.text.ensures))
    listing c.requires.most c.in_ok-next.ensures a b is w.0 w.1) value takes in
    subst (λ n. Told (Walked prefixes start c.in_ok-next.next n) before after) (sym c.len.ensures) walked

-- one list of names that begin with one of the prefixes
listed_call : (prefixes : List Text) (n : ℕ) (prefix after : Text) (most : ℕ) (answered : Bool) (asked made : Option (List Call)) → ((p : Text) → Contains prefixes p → IsListedPrefix p) → n < length prefixes → slice_get prefixes n ≡ Some prefix
    → made ≡ told_call asked (Names prefix after most answered) → MakesDocrootCalls asked made
listed_call prefixes n prefix after most answered asked made all lt at e =
    (Names prefix after most answered ∷ [], ((all prefix (n, lt, get_or_from_slice_get prefixes n prefix prefix at), tt), e))

pub returns-in_err-names-clause-calls : goal.returns-in_err-names-clause-calls
returns-in_err-names-clause-calls g c =
    listed_call c.args.prefixes.now c.args.place.now.prefix c.text.result.now c.text-2.result.now c.args.most (is_ok c.list.result) (g.D.Disk.calls c.args.disk.now) (g.D.Disk.calls c.list.new.self) c.requires.listed c.requires.place
    (sym c.in-Some.ensures ∙ ap Some (sym c.text.ensures)) c.list.ensures.made

pub returns-in_err-next-clause-calls : goal.returns-in_err-next-clause-calls
returns-in_err-next-clause-calls g c =
    listed_call c.args.prefixes.now c.args.place.now.prefix c.text.result.now c.text-2.result.now c.args.most (is_ok c.list.result) (g.D.Disk.calls c.args.disk.now) (g.D.Disk.calls c.list.new.self) c.requires.listed c.requires.place
    (sym c.in-Some.ensures ∙ ap Some (sym c.text.ensures)) c.list.ensures.made

pub returns-in_err-take_pages-clause-calls : goal.returns-in_err-take_pages-clause-calls
returns-in_err-take_pages-clause-calls g c =
    c.docroot_calls_add_up.ensures.more (g.D.Disk.calls c.args.disk.now) (g.D.Disk.calls c.list.new.self) (g.D.Disk.calls c.take_pages.new.disk)
    (listed_call c.args.prefixes.now c.args.place.now.prefix c.text.result.now c.text-2.result.now c.args.most (is_ok c.list.result) (g.D.Disk.calls c.args.disk.now) (g.D.Disk.calls c.list.new.self) c.requires.listed c.requires.place
    (sym c.in-Some.ensures ∙ ap Some (sym c.text.ensures)) c.list.ensures.made) c.take_pages.ensures.calls

pub returns-clause-calls : goal.returns-clause-calls
returns-clause-calls g c =
    c.docroot_calls_add_up.ensures.more (g.D.Disk.calls c.args.disk.now) (g.D.Disk.calls c.list.new.self) (g.D.Disk.calls c.take_pages.new.disk)
    (listed_call c.args.prefixes.now c.args.place.now.prefix c.text.result.now c.text-2.result.now c.args.most (is_ok c.list.result) (g.D.Disk.calls c.args.disk.now) (g.D.Disk.calls c.list.new.self) c.requires.listed c.requires.place
    (sym c.in-Some.ensures ∙ ap Some (sym c.text.ensures)) c.list.ensures.made) c.take_pages.ensures.calls
